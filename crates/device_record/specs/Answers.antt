-- What the device answers to a cause, by what it keeps: P0, the row, then the credits for what is sent.
use Rattle.std.specs.Prelude.{Bool, List, None, Option, Some, false, if◌then◌else◌, is_none, is_some, nat_le, nat_lt, not, option_and_then, true, ℕ, ◌&&◌, ◌+◌, ◌==◌, ◌||◌}
use Rattle.std.specs.List.{list_all, list_any}
use Rattle.std.specs.Option.{option_map_or, option_or}
use Rattle.cxl_message.specs.declared.channels.Channel.{Channel}
use Rattle.cxl_message.specs.declared.events.Act.{Act}
use Rattle.cxl_message.specs.declared.events.Cause.{Cause}
use Rattle.cxl_message.specs.declared.events.Out.{Out}
use Rattle.cxl_message.specs.declared.events.Sends.{Sends}
use Rattle.cxl_message.specs.declared.messages.Message.{Message}
use Rattle.cxl_message.specs.declared.opcodes.NdrOp.{NdrOp}
use Rattle.cxl_message.specs.declared.opcodes.RspOp.{RspOp}
use Rattle.cxl_message.specs.declared.states.RuleNo.{RuleNo}
use Rattle.cxl_message.specs.Channels.{has_credits}
use Rattle.cxl_message.specs.Lists.{below, is_in}
use Rattle.cxl_message.specs.Messages.{channel_of}
use Rattle.cxl_message.specs.Setup.{Configuration}
use Rattle.coherence_model.specs.Buffers.{message_with}
use Rattle.coherence_model.specs.Copies.{asks_for_grant}
use Rattle.coherence_model.specs.Credits.{credits_needed}
use Rattle.coherence_model.specs.DeviceActs.{Request, device_returns, finish_emission, request_in, snoop_op, v3_serve}
use Rattle.coherence_model.specs.DeviceRows.{device_rule}
use Rattle.coherence_model.specs.Emission.{Emission, nothing, one_send}
use Rattle.coherence_model.specs.Refusals.{Answer, cause_passes, unless_lacking}
use Rattle.coherence_model.specs.Room.{Room, is_no_eviction}
use Rattle.coherence_model.specs.Snoops.{invalidates_block}
use Rattle.coherence_model.specs.Tasks.{Purpose}
use Rattle.coherence_model.specs.Traces.{device}
use Rattle.coherence_model.specs.Words.{when}
use Rattle.block_snoop.specs.declared.purposes.Purpose.{Purpose as Asking}
use Rattle.block_snoop.specs.Answering.{are_all_left, some_left}
use Rattle.block_snoop.specs.Asking.{is_asked_for}
use Rattle.snoop_filter.specs.Filters.{free_in}
use Rattle.snoop_filter.specs.Rows.{FilterRow, has_row, held_in, is_some_listing, listed_in}
use Rattle.snoop_filter.specs.Victims.{block_from, victim_in}
use Rattle.device_record.specs.Record.{CreditRecord, DeviceRecord, TaskRecord, WaitingRequest, bytes_in, credits_at, held_on, left_at, left_on, owed_on, request_with, requests_at, task_at, writes_at}

-- ---- takes

-- V1: whether there is room for one more message of a channel (own rule)
abbrev pub has_room_for : ℕ → ℕ → Channel → DeviceRecord → Bool
has_room_for credits h c k = not (has_credits c) || nat_lt (held_on c (credits_at h k.credits)) credits

-- V1: a Credit is taken where one is missing; only those of NDR, DRS and BISnp come to the device (own rule)
abbrev pub credit_taken : ℕ → Channel → CreditRecord → Option Emission
credit_taken credits Channel.Req c = None
credit_taken credits Channel.Rwd c = None
credit_taken credits Channel.BiRsp c = None
credit_taken credits Channel.Ndr c = when (nat_lt c.ndr_left credits) nothing
credit_taken credits Channel.Drs c = when (nat_lt c.drs_left credits) nothing
credit_taken credits Channel.BiSnp c = when (nat_lt c.snp_left credits) nothing
credit_taken credits Channel.CreditUp c = None
credit_taken credits Channel.CreditDown c = None

-- whether a task is for a shared read (own rule)
abbrev pub reads_shared : Purpose → Bool
reads_shared Purpose.SharedRead = true
reads_shared Purpose.OwningRead = false
reads_shared Purpose.Invalidation = false
reads_shared Purpose.Eviction = false

-- V2: whether an answer for line a answers a task's snoop to host h (own rule)
abbrev pub is_answer_to : RspOp → ℕ → ℕ → TaskRecord → Bool
is_answer_to RspOp.I h a t = is_in a (left_at h t)
is_answer_to RspOp.S h a t = is_in a (left_at h t) && reads_shared t.purpose
is_answer_to RspOp.E h a t = false
is_answer_to RspOp.IBlk h a t = invalidates_block (snoop_op t.purpose t.span) && are_all_left t.span (left_at h t)
is_answer_to RspOp.SBlk h a t = false
is_answer_to RspOp.EBlk h a t = false

-- V1 and V2 (own rule)
abbrev pub take_row : Configuration → ℕ → Message → DeviceRecord → Option Emission
take_row setup h (Message.Req _ _ _ tag _) k = when (is_none (request_with tag.0 (requests_at h k.requests))) nothing
take_row setup h (Message.MemWr _ _ tag _ _) k = when (is_none (message_with tag.0 (writes_at h k.writes))) nothing
take_row setup h (Message.BiConflict tag) k = when (is_none (message_with tag.0 (writes_at h k.writes))) nothing
take_row setup h (Message.BiRsp op bitag low) k = when (option_map_or (is_answer_to op h (bitag.0 + low)) (task_at bitag.0 k.tasks) false) nothing
take_row setup h (Message.Ndr _ _) k = None
take_row setup h (Message.MemData _ _) k = None
take_row setup h (Message.BiSnp _ _ _ _) k = None
take_row setup h (Message.Credit c) k = credit_taken setup.credits c (credits_at h k.credits)

-- ---- acts

-- a buffered request as the rows see it (own rule)
abbrev pub request_of : WaitingRequest → Option Request
request_of r = request_in r.message

-- V4: a buffered MemClnEvct whose line isn't held (own rule)
abbrev pub clean_of : ℕ → List FilterRow → Request → Option Emission
clean_of h rows r = when (not (asks_for_grant r.op) && not (held_in r.line rows)) (one_send h (Message.Ndr NdrOp.Cmp r.tag))

-- the same of a buffered request (own rule)
abbrev pub clean_row : ℕ → List FilterRow → WaitingRequest → Option Emission
clean_row h rows w = option_and_then (clean_of h rows) (request_of w)

-- V5: whether a request for line a has room (own rule)
abbrev pub has_room_in : Room → ℕ → DeviceRecord → Bool
has_room_in Room.NoEviction a k = has_row a k.filter.rows || nat_le 1 (free_in k.filter)
has_room_in Room.EvictionInProgress a k = false
has_room_in Room.Reservation a k = true

-- V5: a buffered MemRd or MemInv whose line isn't held, with room (own rule)
abbrev pub start_of : DeviceRecord → Room → Request → Option Emission
start_of k room r = when (asks_for_grant r.op && not (held_in r.line k.filter.rows) && has_room_in room r.line k) nothing

-- the same of a buffered request (own rule)
abbrev pub start_row : DeviceRecord → WaitingRequest → Option Emission
start_row k w = option_and_then (start_of k w.room) (request_of w)

-- V6: whether a request for line a wants an eviction: its line has no row, it has no eviction and no reservation, and no entry is free (own rule)
abbrev pub wants_eviction_in : Room → ℕ → DeviceRecord → Bool
wants_eviction_in room a k = not (has_row a k.filter.rows) && is_no_eviction room && (free_in k.filter == 0)

-- V6: a buffered MemRd or MemInv whose line isn't held and that wants an eviction, where there is a victim (own rule)
abbrev pub evict_of : DeviceRecord → Room → Request → Option Emission
evict_of k room r = when (asks_for_grant r.op && not (held_in r.line k.filter.rows) && wants_eviction_in room r.line k && is_some (victim_in k.filter.rows)) nothing

-- the same of a buffered request (own rule)
abbrev pub evict_row : DeviceRecord → WaitingRequest → Option Emission
evict_row k w = option_and_then (evict_of k w.room) (request_of w)

-- whether a host is Asked by a task (own rule)
abbrev pub is_asked_by : ℕ → TaskRecord → Bool
is_asked_by h t = some_left (left_at h t)

-- what hosts are asked for by a task of a purpose, for host h (own rule)
abbrev pub asking_for : Purpose → ℕ → Asking
asking_for Purpose.SharedRead h = Asking.SharedFor h
asking_for Purpose.OwningRead h = Asking.OwnedFor h
asking_for Purpose.Invalidation h = Asking.OwnedFor h
asking_for Purpose.Eviction h = Asking.Evicting

-- whether host g is to be asked by a task (own rule)
abbrev pub is_wanted : List FilterRow → TaskRecord → ℕ → Bool
is_wanted rows t g = is_asked_for (asking_for t.purpose t.host) (block_from t.first t.span) rows g

-- the snoop of a task (own rule)
abbrev pub snoop_of_task : TaskRecord → Message
snoop_of_task t = Message.BiSnp (snoop_op t.purpose t.span) (record { 0 = t.first }) (record { 0 = t.first }) t.span

-- V7: a host that is to be asked and isn't Asked (own rule)
abbrev pub snoop_row : ℕ → List FilterRow → TaskRecord → Option Emission
snoop_row h rows t = when (is_wanted rows t h && not (is_asked_by h t)) (one_send h (snoop_of_task t))

-- whether no host is Asked by a task or to be asked (own rule)
abbrev pub is_finished : ℕ → List FilterRow → TaskRecord → Bool
is_finished hosts rows t = list_all (λ g. not (is_asked_by g t) && not (is_wanted rows t g)) (below hosts)

-- the grant of a shared read: Cmp-S where another host is listed (own rule)
abbrev pub grant_in : ℕ → List FilterRow → TaskRecord → NdrOp
grant_in hosts rows t = if list_any (λ g. not (t.host == g) && is_some_listing (listed_in t.first g rows)) (below hosts) then NdrOp.CmpS else NdrOp.CmpE

-- V8: a task by which no host is Asked or to be asked (own rule)
abbrev pub finish_row : Configuration → DeviceRecord → TaskRecord → Option Emission
finish_row setup k t =
    when (is_finished setup.hosts k.filter.rows t) (finish_emission t.purpose (grant_in setup.hosts k.filter.rows t) t.host t.tag (bytes_in k.memory t.first))

-- V9: a Credit that is owed (own rule)
abbrev pub return_row : ℕ → Channel → DeviceRecord → Option Emission
return_row h c k = when (device_returns c && nat_le 1 (owed_on h c k)) (one_send h (Message.Credit c))

-- V3 to V9 (own rule)
abbrev pub act_row : Configuration → Act → DeviceRecord → Option Emission
act_row setup (Act.Conflict _) k = None
act_row setup (Act.WriteBack _) k = None
act_row setup (Act.Answer _) k = None
act_row setup (Act.AnswerBlock _) k = None
act_row setup (Act.HostReturn _) k = None
act_row setup (Act.Serve h tag) k = v3_serve h (message_with tag.0 (writes_at h k.writes))
act_row setup (Act.Clean h tag) k = option_and_then (clean_row h k.filter.rows) (request_with tag.0 (requests_at h k.requests))
act_row setup (Act.Start h tag) k = option_and_then (start_row k) (request_with tag.0 (requests_at h k.requests))
act_row setup (Act.Evict h tag) k = option_and_then (evict_row k) (request_with tag.0 (requests_at h k.requests))
act_row setup (Act.Snoop h line) k = option_and_then (snoop_row h k.filter.rows) (task_at line.0 k.tasks)
act_row setup (Act.Finish line) k = option_and_then (finish_row setup k) (task_at line.0 k.tasks)
act_row setup (Act.DeviceReturn h c) k = return_row h c k

-- what a cause sends, the credits for it aside (own rule)
abbrev pub row_in : Configuration → Cause → DeviceRecord → Option Emission
row_in setup (Cause.Op _ _ _) k = None
row_in setup (Cause.Take h m) k = if has_room_for setup.credits h (channel_of m) k then take_row setup h m k else None
row_in setup (Cause.Act act) k = act_row setup act k

-- ---- credits

-- the channel of a message that is sent, where fewer than n of its credits are left; a Credit needs none (own rule)
abbrev pub short_in : ℕ → Out → List CreditRecord → Option Channel
short_in n o credits =
    if has_credits (channel_of o.message) && nat_lt (left_on (channel_of o.message) (credits_at o.host credits)) n then Some (channel_of o.message) else None

-- the first channel whose credits don't reach (own rule)
abbrev pub lacking_in : Sends → List CreditRecord → Option Channel
lacking_in Sends.Nothing credits = None
lacking_in (Sends.One o) credits = short_in 1 o credits
lacking_in (Sends.Two o p) credits = option_or (short_in (credits_needed o p) o credits) (short_in 1 p credits)

-- what a cause sends, the credits included (own rule)
abbrev pub emission_in : Configuration → Cause → DeviceRecord → Option Emission
emission_in setup cause k = option_and_then (λ w. when (is_none (lacking_in w.sends k.credits)) w) (row_in setup cause k)

-- the answer by what the row emits (own rule)
abbrev pub answer_by : RuleNo → List CreditRecord → Option Emission → Answer
answer_by rule credits None = Answer.Broken rule
answer_by rule credits (Some w) = unless_lacking (lacking_in w.sends credits) (Answer.Emits w)

-- the device's answer: P0, the row, NoCredit (own rule)
abbrev pub answer_in : Configuration → Cause → DeviceRecord → Answer
answer_in setup cause k =
    if cause_passes setup device cause then answer_by (device_rule cause) k.credits (row_in setup cause k) else Answer.Broken RuleNo.P0
