-- The takes of the device: what a row says by what is kept is what it says of the events.
use Rattle.std.proofs.Common.{◌≡◌, ℕ, ◌+◌, ◌<◌, Bool, true, false, List, [], ◌∷◌, Option, Some, None, cond, length, map, refl, ap, sym, ◌∙◌}
use Rattle.std.specs.Prelude.{is_none, is_some, nat_lt, not, option_and_then, option_map, unwrap_or, ◌&&◌, ◌==◌, ◌||◌}
use Rattle.std.specs.List.{list_any}
use Rattle.std.specs.Option.{option_map_or}
use Rattle.std.proofs.lemmas.Bool.{and_parts, false≢true}
use Rattle.std.proofs.lemmas.Option.{none-some}
use Rattle.cxl_message.specs.declared.channels.Channel.{Channel}
use Rattle.cxl_message.specs.declared.events.Act.{Act}
use Rattle.cxl_message.specs.declared.events.Cause.{Cause}
use Rattle.cxl_message.specs.declared.events.Event.{Event}
use Rattle.cxl_message.specs.declared.events.Sends.{Sends}
use Rattle.cxl_message.specs.declared.identifiers.Bytes64.{Bytes64}
use Rattle.cxl_message.specs.declared.identifiers.Line.{Line}
use Rattle.cxl_message.specs.declared.messages.Message.{Message}
use Rattle.cxl_message.specs.declared.opcodes.RspOp.{RspOp}
use Rattle.cxl_message.specs.declared.opcodes.Span.{Span}
use Rattle.cxl_message.specs.Channels.{credit_channel, has_credits}
use Rattle.cxl_message.specs.Codes.{span_len}
use Rattle.cxl_message.specs.Lists.{below, is_in}
use Rattle.cxl_message.specs.Setup.{Configuration}
use Rattle.cxl_message.specs.Spans.{lines_of}
use Rattle.coherence_model.specs.Buffers.{buffered_requests, message_with}
use Rattle.coherence_model.specs.Credits.{held_count}
use Rattle.coherence_model.specs.DeviceActs.{snoop_op}
use Rattle.coherence_model.specs.DeviceRows.{device_emission}
use Rattle.coherence_model.specs.DeviceTakes.{is_answered_by, v1_credit, v2_response}
use Rattle.coherence_model.specs.DirectoryChanges.{directory}
use Rattle.coherence_model.specs.Emission.{Emission, nothing}
use Rattle.coherence_model.specs.Fitting.{take_fits}
use Rattle.coherence_model.specs.HostActs.{is_data_snoop}
use Rattle.coherence_model.specs.SentSnoops.{SentSnoop, is_asked, sent_snoop_after, sent_snoop_after_take, sent_snoop_at, snoop_after_response, snoop_by_sends, still_asking}
use Rattle.coherence_model.specs.Snoops.{invalidates_block, snoop_of}
use Rattle.coherence_model.specs.Tasks.{Purpose, Task}
use Rattle.coherence_model.specs.Traces.{device}
use Rattle.coherence_model.specs.Words.{when}
use Rattle.entry_laws.proofs.DirectorySteps.{DirectoryKept}
use Rattle.device_record.specs.Answers.{credit_taken, is_answer_to, reads_shared, row_in}
use Rattle.device_record.specs.Kept.{kept_credits, kept_device, kept_request, kept_task, kept_tasks, lines_left}
use Rattle.device_record.specs.Record.{CreditRecord, TaskRecord, credits_at, held_on, left_at, no_credits, task_at}
use Rattle.device_laws.proofs.Buffers.{take_host}
use Rattle.device_laws.proofs.Lookups.{request_is, task_is, writes_are}
use Rattle.device_laws.proofs.Tables.{get_table}
use Rattle.device_laws.proofs.DeviceRuns.{DeviceRun, directory_is_kept}

-- the credits of a host
pub credits_are : (setup : Configuration) (mine : List Event) (h : ℕ) → h < setup.hosts → credits_at h (map (kept_credits setup mine) (below setup.hosts)) ≡ kept_credits setup mine h
credits_are setup mine h low = ap (λ o. unwrap_or o no_credits) (get_table (kept_credits setup mine) setup.hosts h low)

-- ---- V1

pub none_mapped : {X Y : Type 0} (f : X → Y) (o : Option X) → is_none (option_map f o) ≡ is_none o
none_mapped f None = refl
none_mapped f (Some x) = refl

-- ---- V2

-- the snoop of a shared read is a BISnpData, and no other is
data_snoop_is : (p : Purpose) (span : Span) → is_data_snoop (snoop_op p span) ≡ reads_shared p
data_snoop_is Purpose.SharedRead span = refl
data_snoop_is Purpose.OwningRead Span.One = refl
data_snoop_is Purpose.OwningRead Span.Two = refl
data_snoop_is Purpose.OwningRead Span.Four = refl
data_snoop_is Purpose.Invalidation Span.One = refl
data_snoop_is Purpose.Invalidation Span.Two = refl
data_snoop_is Purpose.Invalidation Span.Four = refl
data_snoop_is Purpose.Eviction Span.One = refl
data_snoop_is Purpose.Eviction Span.Two = refl
data_snoop_is Purpose.Eviction Span.Four = refl

none_of : (b : Bool) (span : Span) → (b && (0 == span_len span)) ≡ false
none_of true Span.One = refl
none_of true Span.Two = refl
none_of true Span.Four = refl
none_of false span = refl

-- an answer to a task by which the host isn't Asked is none
no_answer : (op : RspOp) (h a : ℕ) (t : TaskRecord) → left_at h t ≡ [] → is_answer_to op h a t ≡ false
no_answer RspOp.I h a t none = ap (is_in a) none
no_answer RspOp.S h a t none = ap (λ left. is_in a left && reads_shared t.purpose) none
no_answer RspOp.E h a t none = refl
no_answer RspOp.IBlk h a t none = ap (λ left. invalidates_block (snoop_op t.purpose t.span) && (length left == span_len t.span)) none ∙ none_of (invalidates_block (snoop_op t.purpose t.span)) t.span
no_answer RspOp.SBlk h a t none = refl
no_answer RspOp.EBlk h a t none = refl

-- an answer to a snoop is one to its task
same_answer : (op : RspOp) (h a : ℕ) (t : TaskRecord) (q : SentSnoop) → left_at h t ≡ q.unanswered → q.op ≡ snoop_op t.purpose t.span → q.span ≡ t.span → is_answer_to op h a t ≡ is_answered_by op a q
same_answer RspOp.I h a t q left same span = ap (is_in a) left
same_answer RspOp.S h a t q left same span = λ i. is_in a (left i) && (sym (data_snoop_is t.purpose t.span) ∙ ap is_data_snoop (sym same)) i
same_answer RspOp.E h a t q left same span = refl
same_answer RspOp.IBlk h a t q left same span = λ i. invalidates_block (sym same i) && (length (left i) == span_len (sym span i))
same_answer RspOp.SBlk h a t q left same span = refl
same_answer RspOp.EBlk h a t q left same span = refl

-- the lines left of a host's snoop, in the task
pub left_is : (setup : Configuration) (past : List Event) (a h : ℕ) (t : Task) → h < setup.hosts → left_at h (kept_task setup.hosts (lines_left past a) a t) ≡ lines_left past a h
left_is setup past a h t low = ap (λ o. unwrap_or o []) (get_table (lines_left past a) setup.hosts h low)

response_by : (setup : Configuration) (mine : List Event) (op : RspOp) (h first a : ℕ) → h < setup.hosts → DirectoryKept setup (directory setup mine) (λ g b. sent_snoop_at g b mine)
    → (found : Option Task) → (directory setup mine).task first ≡ found → (asked : Option SentSnoop) → sent_snoop_at h first mine ≡ asked
    → when (option_map_or (is_answer_to op h a) (option_map (kept_task setup.hosts (lines_left mine first) first) found) false) nothing ≡ v2_response op a asked
response_by setup mine op h first a low kept None free None is = refl
response_by setup mine op h first a low kept None free (Some q) is = absurd (none-some _ (sym free ∙ (kept.snoops h first q is).is))
response_by setup mine op h first a low kept (Some t) stands None is =
    ap (λ b. when b nothing) (no_answer op h a (kept_task setup.hosts (lines_left mine first) first t)
    (left_is setup mine first h t low ∙ ap (λ o. option_map_or (λ (q : SentSnoop). q.unanswered) o []) is))
response_by setup mine op h first a low kept (Some t) stands (Some q) is =
    let snoop = kept.snoops h first q is in
    let same : t ≡ snoop.t = cc in
    ap (λ b. when b nothing) (same_answer op h a (kept_task setup.hosts (lines_left mine first) first t) q
    (left_is setup mine first h t low ∙ ap (λ o. option_map_or (λ (q : SentSnoop). q.unanswered) o []) is)
    (snoop.op ∙ sym (ap (λ (u : Task). snoop_op u.purpose u.span) same)) (snoop.span ∙ sym (ap (λ (u : Task). u.span) same)))

response_is : (setup : Configuration) (mine : List Event) → DeviceRun setup mine → (op : RspOp) (h first a : ℕ) → h < setup.hosts
    → when (option_map_or (is_answer_to op h a) (task_at first (kept_tasks setup mine)) false) nothing ≡ v2_response op a (sent_snoop_at h first mine)
response_is setup mine run op h first a low =
    ap (λ o. when (option_map_or (is_answer_to op h a) o false) nothing) (task_is setup.hosts setup.lines (directory setup mine).task (lines_left mine) (directory_is_kept setup mine run).tasks first)
    ∙ response_by setup mine op h first a low (directory_is_kept setup mine run) ((directory setup mine).task first) refl (sent_snoop_at h first mine) refl

-- ---- Credits

-- a Credit that goes to the device is one of NDR, DRS or BISnp
credit_is : (setup : Configuration) (mine : List Event) (h : ℕ) (c : Channel) → take_fits setup device h (Message.Credit c) ≡ true → credit_taken setup.credits c (kept_credits setup mine h) ≡ v1_credit setup h c mine
credit_is setup mine h Channel.Req fits = absurd (false≢true (and_parts _ _ (and_parts _ _ (and_parts _ _ fits).0).0).1)
credit_is setup mine h Channel.Rwd fits = absurd (false≢true (and_parts _ _ (and_parts _ _ (and_parts _ _ fits).0).0).1)
credit_is setup mine h Channel.BiRsp fits = absurd (false≢true (and_parts _ _ (and_parts _ _ (and_parts _ _ fits).0).0).1)
credit_is setup mine h Channel.Ndr fits = refl
credit_is setup mine h Channel.Drs fits = refl
credit_is setup mine h Channel.BiSnp fits = refl
credit_is setup mine h Channel.CreditUp fits = absurd (false≢true (and_parts _ _ (and_parts _ _ fits).0).1)
credit_is setup mine h Channel.CreditDown fits = absurd (false≢true (and_parts _ _ (and_parts _ _ fits).0).1)

none_either : (o : Option Emission) (b c : Bool) → cond b o o ≡ cond c o o
none_either o true true = refl
none_either o true false = refl
none_either o false true = refl
none_either o false false = refl

pub no_limit : (c : Channel) → has_credits (credit_channel c) ≡ false
no_limit Channel.Req = refl
no_limit Channel.Rwd = refl
no_limit Channel.BiRsp = refl
no_limit Channel.Ndr = refl
no_limit Channel.Drs = refl
no_limit Channel.BiSnp = refl
no_limit Channel.CreditUp = refl
no_limit Channel.CreditDown = refl

-- ---- each message

-- there is room for it as there is by counting
held_is : (setup : Configuration) (mine : List Event) (h : ℕ) → h < setup.hosts → (held : CreditRecord → ℕ) → nat_lt (held (credits_at h (map (kept_credits setup mine) (below setup.hosts)))) setup.credits ≡ nat_lt (held (kept_credits setup mine h)) setup.credits
held_is setup mine h low held = ap (λ (c : CreditRecord). nat_lt (held c) setup.credits) (credits_are setup mine h low)

pub take_row_is : (setup : Configuration) (opening : List (Line × Bytes64)) (mine : List Event) → DeviceRun setup mine → (h : ℕ) (m : Message) → take_fits setup device h m ≡ true
    → row_in setup (Cause.Take h m) (kept_device setup opening mine) ≡ device_emission setup opening (Cause.Take h m) mine
take_row_is setup opening mine run h (Message.Req op meta snp tag line) fits =
    let low = take_host setup h (Message.Req op meta snp tag line) fits in
    λ i. cond (held_is setup mine h low (λ c. c.req_held) i) (when ((ap is_none (request_is setup mine h tag.0 low) ∙ none_mapped (kept_request setup h mine) (message_with tag.0 (buffered_requests h mine))) i) nothing) None
take_row_is setup opening mine run h (Message.MemWr meta snp tag line bytes) fits =
    let low = take_host setup h (Message.MemWr meta snp tag line bytes) fits in
    λ i. cond (held_is setup mine h low (λ c. c.rwd_held) i) (when (is_none (message_with tag.0 (writes_are setup.hosts mine h low i))) nothing) None
take_row_is setup opening mine run h (Message.BiConflict tag) fits =
    let low = take_host setup h (Message.BiConflict tag) fits in
    λ i. cond (held_is setup mine h low (λ c. c.rwd_held) i) (when (is_none (message_with tag.0 (writes_are setup.hosts mine h low i))) nothing) None
take_row_is setup opening mine run h (Message.BiRsp op bitag at) fits =
    let low = take_host setup h (Message.BiRsp op bitag at) fits in
    λ i. cond (held_is setup mine h low (λ c. c.rsp_held) i) (response_is setup mine run op h bitag.0 (bitag.0 + at) low i) None
take_row_is setup opening mine run h (Message.Ndr op tag) fits = none_either None _ _
take_row_is setup opening mine run h (Message.MemData tag bytes) fits = none_either None _ _
take_row_is setup opening mine run h (Message.BiSnp op bitag line span) fits = none_either None _ _
take_row_is setup opening mine run h (Message.Credit c) fits =
    let low = take_host setup h (Message.Credit c) fits in
    ap (λ b. cond (not b || nat_lt (held_on (credit_channel c) (credits_at h (map (kept_credits setup mine) (below setup.hosts)))) setup.credits)
    (credit_taken setup.credits c (credits_at h (map (kept_credits setup mine) (below setup.hosts)))) None) (no_limit c)
    ∙ ap (credit_taken setup.credits c) (credits_are setup mine h low) ∙ credit_is setup mine h c fits
    ∙ sym (ap (λ b. cond (not b || nat_lt (held_count h (credit_channel c) mine) setup.credits) (v1_credit setup h c mine) None) (no_limit c))

-- ---- whether a host is Asked

-- some line of a snoop has no answer
abbrev pub some_of : List ℕ → Bool
some_of left = list_any (λ b. true) left

some_lines_of : (first : ℕ) (span : Span) → some_of (lines_of first span) ≡ true
some_lines_of first Span.One = refl
some_lines_of first Span.Two = refl
some_lines_of first Span.Four = refl

sent_some : (m : Message) (q : SentSnoop) → option_map (λ s. record { op = s.op; span = s.span; unanswered = s.unanswered }) (snoop_of m) ≡ Some q → some_of q.unanswered ≡ true
sent_some (Message.Req op meta snp tag line) q is = absurd (none-some q is)
sent_some (Message.MemWr meta snp tag line bytes) q is = absurd (none-some q is)
sent_some (Message.BiConflict tag) q is = absurd (none-some q is)
sent_some (Message.BiRsp op bitag low) q is = absurd (none-some q is)
sent_some (Message.Ndr op tag) q is = absurd (none-some q is)
sent_some (Message.MemData tag bytes) q is = absurd (none-some q is)
sent_some (Message.BiSnp op bitag line span) q is =
    let same : record { op = op; span = span; unanswered = lines_of line.0 span } ≡ q = cc in ap (λ (s : SentSnoop). some_of s.unanswered) (sym same) ∙ some_lines_of line.0 span
sent_some (Message.Credit c) q is = absurd (none-some q is)

by_sends : (sends : Sends) (q : SentSnoop) → snoop_by_sends sends ≡ Some q → some_of q.unanswered ≡ true
by_sends Sends.Nothing q is = absurd (none-some q is)
by_sends (Sends.One o) q is = sent_some o.message q is
by_sends (Sends.Two o p) q is = absurd (none-some q is)

still_some : (old : SentSnoop) (left : List ℕ) (q : SentSnoop) → still_asking old left ≡ Some q → some_of q.unanswered ≡ true
still_some old [] q is = absurd (none-some q is)
still_some old (b ∷ bs) q is = let same : record old { unanswered = b ∷ bs } ≡ q = cc in ap (λ (s : SentSnoop). some_of s.unanswered) (sym same)

after_some : (op : RspOp) (a : ℕ) (old : SentSnoop) (q : SentSnoop) → snoop_after_response op a old ≡ Some q → some_of q.unanswered ≡ true
after_some RspOp.I a old q is = still_some old _ q is
after_some RspOp.S a old q is = still_some old _ q is
after_some RspOp.E a old q is = still_some old _ q is
after_some RspOp.IBlk a old q is = absurd (none-some q is)
after_some RspOp.SBlk a old q is = absurd (none-some q is)
after_some RspOp.EBlk a old q is = absurd (none-some q is)

abbrev AllSome : Option SentSnoop → Type 0
AllSome o = (q : SentSnoop) → o ≡ Some q → some_of q.unanswered ≡ true

chosen_some : (b : Bool) (o p : Option SentSnoop) → AllSome o → AllSome p → AllSome (cond b o p)
chosen_some true o p first second = first
chosen_some false o p first second = second

chained_some : (op : RspOp) (a : ℕ) (o : Option SentSnoop) → AllSome (option_and_then (snoop_after_response op a) o)
chained_some op a None q is = absurd (none-some q is)
chained_some op a (Some old) q is = after_some op a old q is

take_some : (a : ℕ) (m : Message) (old : Option SentSnoop) → AllSome old → AllSome (sent_snoop_after_take a m old)
take_some a (Message.Req op meta snp tag line) old some = some
take_some a (Message.MemWr meta snp tag line bytes) old some = some
take_some a (Message.BiConflict tag) old some = some
take_some a (Message.BiRsp op bitag low) old some = chosen_some (bitag.0 == a) _ old (chained_some op (a + low) old) some
take_some a (Message.Ndr op tag) old some = some
take_some a (Message.MemData tag bytes) old some = some
take_some a (Message.BiSnp op bitag line span) old some = some
take_some a (Message.Credit c) old some = some

event_some : (h a : ℕ) (cause : Cause) (sends : Sends) (old : Option SentSnoop) → AllSome old → AllSome (sent_snoop_after h a cause sends old)
event_some h a (Cause.Op s i op) sends old some = some
event_some h a (Cause.Take k m) sends old some = chosen_some (k == h) _ old (take_some a m old some) some
event_some h a (Cause.Act (Act.Conflict line)) sends old some = some
event_some h a (Cause.Act (Act.WriteBack line)) sends old some = some
event_some h a (Cause.Act (Act.Answer line)) sends old some = some
event_some h a (Cause.Act (Act.AnswerBlock line)) sends old some = some
event_some h a (Cause.Act (Act.HostReturn c)) sends old some = some
event_some h a (Cause.Act (Act.Serve k tag)) sends old some = some
event_some h a (Cause.Act (Act.Clean k tag)) sends old some = some
event_some h a (Cause.Act (Act.Start k tag)) sends old some = some
event_some h a (Cause.Act (Act.Evict k tag)) sends old some = some
event_some h a (Cause.Act (Act.Snoop k line)) sends old some = chosen_some ((k == h) && (line.0 == a)) _ old (by_sends sends) some
event_some h a (Cause.Act (Act.Finish line)) sends old some = some
event_some h a (Cause.Act (Act.DeviceReturn k c)) sends old some = some

-- where a host is Asked some line is left
asked_some : (h a : ℕ) (mine : List Event) → AllSome (sent_snoop_at h a mine)
asked_some h a [] = λ q is. absurd (none-some q is)
asked_some h a (e ∷ past) = event_some h a e.cause e.sends (sent_snoop_at h a past) (asked_some h a past)

asked_by : (o : Option SentSnoop) → AllSome o → some_of (option_map_or (λ (q : SentSnoop). q.unanswered) o []) ≡ is_some o
asked_by None some = refl
asked_by (Some q) some = some q refl

-- a host is Asked exactly where some line of its snoop is left
pub asked_is : (h a : ℕ) (mine : List Event) → some_of (lines_left mine a h) ≡ is_asked h a mine
asked_is h a mine = asked_by (sent_snoop_at h a mine) (asked_some h a mine)
