-- The rows H1 to H10 of a host over a view: the model's rows with each look-back read from the view. They send and commit, credits aside. None where a row's condition fails. What isn't a message of the standard is an own rule.
use Rattle.std.specs.Prelude.{Bool, List, None, Option, Some, [], false, filter, find, if◌then◌else◌, is_some, nat_le, nat_lt, not, option_and_then, ℕ, ◌&&◌, ◌-◌, ◌==◌, ◌||◌, ◌∷◌}
use Rattle.std.specs.List.{list_all}
use Rattle.std.specs.Option.{option_map_or}
use Rattle.cxl_message.specs.declared.channels.Channel.{Channel}
use Rattle.cxl_message.specs.declared.events.Act.{Act}
use Rattle.cxl_message.specs.declared.events.Cause.{Cause}
use Rattle.cxl_message.specs.declared.events.Op.{Op}
use Rattle.cxl_message.specs.declared.messages.Message.{Message}
use Rattle.cxl_message.specs.declared.opcodes.Meta.{Meta}
use Rattle.cxl_message.specs.declared.opcodes.NdrOp.{NdrOp}
use Rattle.cxl_message.specs.declared.opcodes.ReqOp.{ReqOp}
use Rattle.cxl_message.specs.declared.opcodes.RspOp.{RspOp}
use Rattle.cxl_message.specs.declared.opcodes.SnpOp.{SnpOp}
use Rattle.cxl_message.specs.declared.opcodes.SnpType.{SnpType}
use Rattle.cxl_message.specs.declared.opcodes.Span.{Span}
use Rattle.cxl_message.specs.Channels.{has_credits}
use Rattle.cxl_message.specs.Codes.{copy_code, span_len}
use Rattle.cxl_message.specs.Events.{is_load, line_of}
use Rattle.cxl_message.specs.Lists.{below, is_in}
use Rattle.cxl_message.specs.Messages.{channel_of}
use Rattle.cxl_message.specs.Setup.{Configuration}
use Rattle.cxl_message.specs.Spans.{lines_of}
use Rattle.coherence_model.specs.Cache.{is_valid, lacks_way}
use Rattle.coherence_model.specs.Copies.{Copy}
use Rattle.coherence_model.specs.Emission.{Emission, nothing, one_commit, one_send, two_sends}
use Rattle.cxl_message.specs.Stores.{line_after}
use Rattle.coherence_model.specs.HostActs.{host_returns, is_data_snoop, may_conflict, write_back_meta}
use Rattle.coherence_model.specs.HostOperations.{request_alone, request_message}
use Rattle.coherence_model.specs.HostTakes.{h3_completion, h3_data, h3_grant}
use Rattle.coherence_model.specs.Snoops.{Snoop, is_whole_block}
use Rattle.coherence_model.specs.Stages.{is_early, is_early_or_written, is_new, is_new_or_late}
use Rattle.coherence_model.specs.Transactions.{Transaction}
use Rattle.coherence_model.specs.Words.{when}
use Rattle.host_record.specs.View.{View, held_of, left_of, owed_of}

-- whether line a is Open
abbrev pub opens_line : View → ℕ → Bool
opens_line v a = is_some (v.open_at a)

-- the buffered snoop that has line a without an answer
abbrev pub snoop_of_line : List Snoop → ℕ → Option Snoop
snoop_of_line ss a = find (λ s. is_in a s.unanswered) ss

-- whether a copy is E or M
abbrev pub may_write : Copy → Bool
may_write c = nat_le 2 (copy_code c.state)

-- whether a copy is M
abbrev pub is_dirty : Copy → Bool
is_dirty c = copy_code c.state == 3

-- whether an operation hits a copy
abbrev pub hits_copy : Op → Copy → Bool
hits_copy op c = if is_load op then is_valid c else may_write c

-- whether a tag is in use
abbrev pub uses_tag : View → ℕ → Bool
uses_tag v t = is_some (v.open_with t) || v.conflict t

-- the tags that aren't in use, ascending
abbrev pub spare_tags : Configuration → View → List ℕ
spare_tags setup v = filter (λ t. not (uses_tag v t)) (below setup.tags)

-- whether a line has no way and there is none free
abbrev pub lacks_room : Configuration → View → ℕ → Bool
lacks_room setup v a = lacks_way setup a v.ways

-- the first idle way
abbrev pub victim : View → Option ℕ
victim v = find (λ a. v.quiet a) v.ways

-- H1: an operation that hits commits, where its line is neither Open nor Snooped
abbrev pub hit_by : ℕ → ℕ → Op → View → Option Emission
hit_by s i op v = when (v.quiet (line_of op)) (one_commit s i op (line_after op (v.copy (line_of op)).bytes))

-- the eviction of a writable copy
abbrev pub eviction_of : View → ℕ → ℕ → Message
eviction_of v a tag =
    if is_dirty (v.copy a)
    then Message.MemWr Meta.Invalid SnpType.NoOp (record { 0 = tag }) (record { 0 = a }) (v.copy a).bytes
    else Message.Req ReqOp.MemClnEvct Meta.Invalid SnpType.NoOp (record { 0 = tag }) (record { 0 = a })

-- an eviction and a request take the two lowest free tags
abbrev pub two_requests : ℕ → Op → ℕ → View → List ℕ → Option Emission
two_requests h op a v [] = None
two_requests h op a v (t ∷ []) = None
two_requests h op a v (t ∷ u ∷ ts) = Some (two_sends h (eviction_of v a t) (request_message op u))

-- a request that takes a victim's way
abbrev pub request_taking : Configuration → ℕ → Op → View → ℕ → Option Emission
request_taking setup h op v a = if may_write (v.copy a) then two_requests h op a v (spare_tags setup v) else request_alone h op (spare_tags setup v)

-- the messages of an operation that doesn't hit
abbrev pub request_by : Configuration → ℕ → Op → View → Option Emission
request_by setup h op v =
    if lacks_room setup v (line_of op)
    then option_and_then (request_taking setup h op v) (victim v)
    else request_alone h op (spare_tags setup v)

-- H2: any other operation, where its line is neither Open nor Snooped
abbrev pub miss_by : Configuration → ℕ → Op → View → Option Emission
miss_by setup h op v = if v.quiet (line_of op) then request_by setup h op v else None

-- what an operation brings: H1 where it hits, else H2
abbrev pub operates_by : Configuration → ℕ → ℕ → ℕ → Op → View → Option Emission
operates_by setup h s i op v = if hits_copy op (v.copy (line_of op)) then hit_by s i op v else miss_by setup h op v

-- H4: the take of a snoop, none of whose lines is Snooped
abbrev pub snoop_by : ℕ → Span → View → Option Emission
snoop_by first span v = when (list_all (λ a. not (is_some (snoop_of_line v.snoops a))) (lines_of first span)) nothing

-- H6: the take of a Credit, where one is lacking
abbrev pub credit_by : Configuration → Channel → View → Option Emission
credit_by setup c v = when (nat_lt (left_of v c) setup.credits) nothing

-- H3 and H5: the take of an NDR message, by what is open with its tag
abbrev pub ndr_by : Configuration → NdrOp → ℕ → View → Option Emission
ndr_by setup NdrOp.Cmp tag v = h3_completion ((tag == setup.tags) && v.writing) (v.open_with tag)
ndr_by setup NdrOp.CmpS tag v = h3_grant NdrOp.CmpS (v.open_with tag)
ndr_by setup NdrOp.CmpE tag v = h3_grant NdrOp.CmpE (v.open_with tag)
ndr_by setup NdrOp.ConflictAck tag v = when (v.conflict tag) nothing

-- H3 to H6: the take of a message
abbrev pub takes_by : Configuration → Message → View → Option Emission
takes_by setup (Message.Req _ _ _ _ _) v = None
takes_by setup (Message.MemWr _ _ _ _ _) v = None
takes_by setup (Message.BiConflict _) v = None
takes_by setup (Message.BiRsp _ _ _) v = None
takes_by setup (Message.Ndr op tag) v = ndr_by setup op tag.0 v
takes_by setup (Message.MemData tag bytes) v = h3_data bytes (v.open_with tag.0)
takes_by setup (Message.BiSnp _ _ line span) v = snoop_by line.0 span v
takes_by setup (Message.Credit c) v = credit_by setup c v

-- H7: the conflict of a snooped line, by what is open for it
abbrev pub conflict_by : ℕ → ℕ → View → Option Transaction → Option Emission
conflict_by h a v None = None
conflict_by h a v (Some o) =
    when (is_some (snoop_of_line v.snoops a) && is_new (v.stage a) && may_conflict o.kind) (one_send h (Message.BiConflict (record { 0 = o.tag })))

-- H8: the write-back of a snooped line, by its snoop
abbrev pub write_back_by : Configuration → ℕ → ℕ → View → Option Snoop → Option Emission
write_back_by setup h a v None = None
write_back_by setup h a v (Some s) =
    when (is_new_or_late (v.stage a) && not (opens_line v a) && is_dirty (v.copy a) && not v.writing)
    (one_send h (Message.MemWr (write_back_meta s.op) SnpType.NoOp (record { 0 = setup.tags }) (record { 0 = a }) (v.copy a).bytes))

-- whether a snooped line needs nothing more before its answer
abbrev pub is_ready_by : View → ℕ → Bool
is_ready_by v a = is_early_or_written (v.stage a) || (is_new_or_late (v.stage a) && not (opens_line v a) && not (is_dirty (v.copy a)))

-- whether a line of a whole block may be answered with the others
abbrev pub in_block_by : View → ℕ → Bool
in_block_by v a = is_new (v.stage a) && not (opens_line v a) && not (is_dirty (v.copy a))

-- the buffered BISnpInvBlk with this first line, none of whose lines was answered
abbrev pub block_at : List Snoop → ℕ → Option Snoop
block_at ss first = find (is_whole_block first) ss

-- whether a block with this first line may be answered at once
abbrev pub block_by : View → ℕ → Bool
block_by v first = option_map_or (λ s. list_all (in_block_by v) s.unanswered) (block_at v.snoops first) false

-- the answer for one line
abbrev pub response_by : SnpOp → ℕ → View → RspOp
response_by op a v = if is_data_snoop op && not (is_early (v.stage a)) && is_valid (v.copy a) then RspOp.S else RspOp.I

-- H9: the answer for a snooped line, by its snoop
abbrev pub answer_by : ℕ → ℕ → View → Option Snoop → Option Emission
answer_by h a v None = None
answer_by h a v (Some s) =
    when (is_ready_by v a && ((span_len s.span == 1) || not (block_by v s.first)))
    (one_send h (Message.BiRsp (response_by s.op a v) (record { 0 = s.first }) (a - s.first)))

-- H9: the answer for a whole block
abbrev pub answer_block_by : ℕ → ℕ → View → Option Emission
answer_block_by h a v = when (block_by v a) (one_send h (Message.BiRsp RspOp.IBlk (record { 0 = a }) 0))

-- H10: a Credit is given back
abbrev pub return_by : ℕ → Channel → View → Option Emission
return_by h c v = when (host_returns c && nat_le 1 (owed_of v c)) (one_send h (Message.Credit c))

-- H7 to H10: an act; the acts of the device are none of a host's
abbrev pub acts_by : Configuration → ℕ → Act → View → Option Emission
acts_by setup h (Act.Conflict line) v = conflict_by h line.0 v (v.open_at line.0)
acts_by setup h (Act.WriteBack line) v = write_back_by setup h line.0 v (snoop_of_line v.snoops line.0)
acts_by setup h (Act.Answer line) v = answer_by h line.0 v (snoop_of_line v.snoops line.0)
acts_by setup h (Act.AnswerBlock line) v = answer_block_by h line.0 v
acts_by setup h (Act.HostReturn c) v = return_by h c v
acts_by setup h (Act.Serve _ _) v = None
acts_by setup h (Act.Clean _ _) v = None
acts_by setup h (Act.Start _ _) v = None
acts_by setup h (Act.Evict _ _) v = None
acts_by setup h (Act.Snoop _ _) v = None
acts_by setup h (Act.Finish _) v = None
acts_by setup h (Act.DeviceReturn _ _) v = None

-- whether there is room for a message
abbrev pub has_room_by : Configuration → Message → View → Bool
has_room_by setup m v = not (has_credits (channel_of m)) || nat_lt (held_of v (channel_of m)) setup.credits

-- the rows together, credits for what is sent aside
abbrev pub emission_by : Configuration → ℕ → Cause → View → Option Emission
emission_by setup h (Cause.Op s i op) v = operates_by setup h s i op v
emission_by setup h (Cause.Take _ m) v = if has_room_by setup m v then takes_by setup m v else None
emission_by setup h (Cause.Act act) v = acts_by setup h act v
