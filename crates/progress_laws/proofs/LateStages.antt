-- A snooped line at stage Late has no request that wasn't granted: by recursion over a host's own events.
use Rattle.std.proofs.Common.{◌≡◌, ℕ, ◌≤◌, Bool, true, false, List, [], ◌∷◌, ◌++◌, Option, Some, None, cond, refl, sym, ◌∙◌, ap, subst, arith}
use Rattle.std.specs.Prelude.{is_none, is_some, not, option_and_then, ◌&&◌, ◌==◌}
use Rattle.std.specs.Option.{option_or}
use Rattle.std.proofs.lemmas.Bool.{false≢true, le-leb, ne_eqb}
use Rattle.cxl_message.specs.declared.events.Act.{Act}
use Rattle.cxl_message.specs.declared.events.Cause.{Cause}
use Rattle.cxl_message.specs.declared.events.Event.{Event}
use Rattle.cxl_message.specs.declared.events.Op.{Op}
use Rattle.cxl_message.specs.declared.events.Sends.{Sends}
use Rattle.cxl_message.specs.declared.identifiers.Bytes64.{Bytes64}
use Rattle.cxl_message.specs.declared.identifiers.Line.{Line}
use Rattle.cxl_message.specs.declared.messages.Message.{Message}
use Rattle.cxl_message.specs.declared.opcodes.NdrOp.{NdrOp}
use Rattle.cxl_message.specs.declared.opcodes.Span.{Span}
use Rattle.cxl_message.specs.declared.opcodes.SnpOp.{SnpOp}
use Rattle.cxl_message.specs.Events.{line_of}
use Rattle.cxl_message.specs.Setup.{Configuration}
use Rattle.cxl_message.specs.Spans.{covers, lines_of}
use Rattle.coherence_model.specs.Cache.{is_modified}
use Rattle.coherence_model.specs.Emission.{Emission}
use Rattle.coherence_model.specs.Fitting.{is_device}
use Rattle.coherence_model.specs.HostOperations.{eviction_message, request_message}
use Rattle.coherence_model.specs.HostRows.{host_emission}
use Rattle.coherence_model.specs.Snoops.{Snoop, buffered_snoops, is_quiet, is_snooped, is_whole_block, snoops_after}
use Rattle.coherence_model.specs.Stages.{Stage, conflict_end, stage, stage_after, stage_after_ack, stage_after_completion, was_completed}
use Rattle.coherence_model.specs.Transactions.{Transaction, is_read, is_request, open_after, open_after_completion, open_after_data, open_after_take, open_at, opened}
use Rattle.request_laws.proofs.BufferedSnoops.{total, total-answer, total-append, total-cons, total-filter}
use Rattle.request_laws.proofs.Counts.{covers-lines, times}
use Rattle.request_laws.proofs.HostOperations.{Evicts, Hits, Operated, Requests, eviction_kind, kind_of, operated, request_opens}
use Rattle.request_laws.proofs.OpenLines.{one_opens, opening_line, quiet_parts, two_open, victim_opens}
use Rattle.request_laws.proofs.OwnRuns.{host_goes_on}
use Rattle.request_laws.proofs.SnoopsKept.{counts_snooped, snooped_counts}
use Rattle.coherence_model.specs.OwnRuns.{is_own_run}

-- a snooped line at stage Late was completed
abbrev pub LateIsCompleted : Configuration → List Event → Type 0
LateIsCompleted setup mine = (a : ℕ) → 1 ≤ total a (buffered_snoops mine) → stage setup a mine ≡ Stage.Late → was_completed (open_at a mine) ≡ true

-- the same after a cause
abbrev pub LateAfter : Configuration → Cause → Sends → List Event → Type 0
LateAfter setup cause sends past =
    (a : ℕ) → 1 ≤ total a (snoops_after cause (buffered_snoops past)) → stage_after setup a cause past (stage setup a past) ≡ Stage.Late → was_completed (open_after a cause sends (open_at a past)) ≡ true

-- ---- operations

-- another line than the one that is opened
other_open : (f : ℕ → Option Transaction) (l a : ℕ) (x : Transaction) → (l == a) ≡ false → opening_line l x f a ≡ f a
other_open f l a x other = ap (λ b. option_or (cond b (Some x) None) (f a)) other

-- a snooped line isn't quiet
not_quiet : (l a : ℕ) (past : List Event) → is_quiet l past ≡ true → 1 ≤ total a (buffered_snoops past) → (l == a) ≡ false
not_quiet l a past quiet some = ne_eqb l a (λ same. false≢true (sym (quiet_parts l past quiet).1 ∙ ap (λ x. is_snooped x past) same ∙ counts_snooped a past some))

operation_late : (setup : Configuration) (h s i : ℕ) (op : Op) (past : List Event) (sends : Sends) → Operated setup h op past sends → LateIsCompleted setup past → LateAfter setup (Cause.Op s i op) sends past
operation_late setup h s i op past sends (Hits none) inv a some late =
    ap (λ x. was_completed (open_after a (Cause.Op s i op) x (open_at a past))) none ∙ inv a some late
operation_late setup h s i op past sends (Requests one) inv a some late =
    ap (λ x. was_completed (open_after a (Cause.Op s i op) x (open_at a past))) one.sent
    ∙ ap was_completed (one_opens a s i h op (request_message op one.t) (line_of op) one.t (kind_of op) past (request_opens op one.t))
    ∙ ap was_completed (other_open (λ b. open_at b past) (line_of op) a (opened s i op (kind_of op) one.t) (not_quiet (line_of op) a past one.quiet some)) ∙ inv a some late
operation_late setup h s i op past sends (Evicts two) inv a some late =
    let k = eviction_kind (is_modified setup two.v past) in
    ap (λ x. was_completed (open_after a (Cause.Op s i op) x (open_at a past))) two.sent
    ∙ ap was_completed (two_open a s i h op (eviction_message setup two.v past two.t) (request_message op two.u) two.v two.t k (line_of op) two.u (kind_of op) past (victim_opens setup two.v past two.t) (request_opens op two.u))
    ∙ ap was_completed (other_open (opening_line (line_of op) (opened s i op (kind_of op) two.u) (λ b. open_at b past)) two.v a (opened s i op k two.t) (not_quiet two.v a past two.idle some))
    ∙ ap was_completed (other_open (λ b. open_at b past) (line_of op) a (opened s i op (kind_of op) two.u) (not_quiet (line_of op) a past two.quiet some)) ∙ inv a some late

-- ---- takes

-- what was completed stays so
completed_if : (b : Bool) (x : Transaction) → is_some x.grant ≡ true → was_completed (cond b (Some x) None) ≡ true
completed_if true x h = h
completed_if false x h = refl

completed_granted : (c : NdrOp) (o : Transaction) → is_some o.grant ≡ true → was_completed (open_after_completion c o) ≡ true
completed_granted NdrOp.Cmp o h = completed_if (is_request o.kind) o h
completed_granted NdrOp.CmpS o h = completed_if (is_read o.kind && is_none o.bytes) (record o { grant = Some NdrOp.CmpS }) refl
completed_granted NdrOp.CmpE o h = completed_if (is_read o.kind && is_none o.bytes) (record o { grant = Some NdrOp.CmpE }) refl
completed_granted NdrOp.ConflictAck o h = h

completed_data : (bytes : Bytes64) (o : Transaction) → is_some o.grant ≡ true → was_completed (open_after_data bytes o) ≡ true
completed_data bytes o h = completed_if (is_none o.grant) (record o { bytes = Some bytes }) h

completed_named : (b : Bool) (o : Transaction) (x : Option Transaction) → is_some o.grant ≡ true → was_completed x ≡ true → was_completed (cond b x (Some o)) ≡ true
completed_named true o x h k = k
completed_named false o x h k = h

completed_kept : (m : Message) (o : Option Transaction) → was_completed o ≡ true → was_completed (option_and_then (open_after_take m) o) ≡ true
completed_kept m None h = refl
completed_kept (Message.Req _ _ _ _ _) (Some o) h = h
completed_kept (Message.MemWr _ _ _ _ _) (Some o) h = h
completed_kept (Message.BiConflict _) (Some o) h = h
completed_kept (Message.BiRsp _ _ _) (Some o) h = h
completed_kept (Message.Ndr c tag) (Some o) h = completed_named (tag.0 == o.tag) o (open_after_completion c o) h (completed_granted c o h)
completed_kept (Message.MemData tag bytes) (Some o) h = completed_named (tag.0 == o.tag) o (open_after_data bytes o) h (completed_data bytes o h)
completed_kept (Message.BiSnp _ _ _ _) (Some o) h = h
completed_kept (Message.Credit _) (Some o) h = h

-- a stage that is Late after a completion was so before
late_before : (setup : Configuration) (tag : ℕ) (st : Stage) → stage_after_completion setup tag st ≡ Stage.Late → st ≡ Stage.Late
late_before setup tag Stage.New e = e
late_before setup tag (Stage.Asked t) e = e
late_before setup tag Stage.Early e = e
late_before setup tag Stage.Late e = e
late_before setup tag Stage.Writing e = absurd (not_late (tag == setup.tags) e)
  where
    not_late : (b : Bool) → cond b Stage.Written Stage.Writing ≡ Stage.Late → ⊥
    not_late true e = cc
    not_late false e = cc
late_before setup tag Stage.Written e = e

-- a conflict that ends late was completed
ended : (o : Option Transaction) (b : Bool) → was_completed o ≡ b → cond b Stage.Late Stage.Early ≡ Stage.Late → was_completed o ≡ true
ended o true is e = is
ended o false is e = cc

ended_or : (o : Option Transaction) (t : ℕ) (b : Bool) → cond b (conflict_end o) (Stage.Asked t) ≡ Stage.Late → was_completed o ≡ true
ended_or o t true e = ended o (was_completed o) refl e
ended_or o t false e = cc

acked : (tag a : ℕ) (past : List Event) (st : Stage) → (st ≡ Stage.Late → was_completed (open_at a past) ≡ true) → stage_after_ack tag a past st ≡ Stage.Late → was_completed (open_at a past) ≡ true
acked tag a past Stage.New inv e = cc
acked tag a past (Stage.Asked t) inv e = ended_or (open_at a past) t (t == tag) e
acked tag a past Stage.Early inv e = cc
acked tag a past Stage.Late inv e = inv refl
acked tag a past Stage.Writing inv e = cc
acked tag a past Stage.Written inv e = cc

-- a line that no taken snoop covers was snooped before
snooped_before : (ss : List Snoop) (op : SnpOp) (first : ℕ) (span : Span) (a : ℕ) → covers first span a ≡ false
    → 1 ≤ total a (ss ++ record { op = op; first = first; span = span; unanswered = lines_of first span } ∷ []) → 1 ≤ total a ss
snooped_before ss op first span a outside some =
    let s : Snoop = record { op = op; first = first; span = span; unanswered = lines_of first span } in
    let whole = total-append a ss (s ∷ []) in
    let last = total-cons a s [] in
    let none : (1 ≤ times a (lines_of first span) → ⊥) = λ more. false≢true (sym outside ∙ covers-lines first a span ∙ le-leb 1 (times a (lines_of first span)) more) in
    grind (arith, none, whole, last, some)

new_or_late : (b : Bool) (st : Stage) → cond b Stage.New st ≡ Stage.Late → (b ≡ false) × (st ≡ Stage.Late)
new_or_late true st e = cc
new_or_late false st e = (refl, e)

take_late : (setup : Configuration) (host : ℕ) (m : Message) (past : List Event) (sends : Sends) → LateIsCompleted setup past → LateAfter setup (Cause.Take host m) sends past
take_late setup host (Message.Req op meta snp tag line) past sends inv a some late = completed_kept (Message.Req op meta snp tag line) (open_at a past) (inv a some late)
take_late setup host (Message.MemWr meta snp tag line bytes) past sends inv a some late = completed_kept (Message.MemWr meta snp tag line bytes) (open_at a past) (inv a some late)
take_late setup host (Message.BiConflict tag) past sends inv a some late = completed_kept (Message.BiConflict tag) (open_at a past) (inv a some late)
take_late setup host (Message.BiRsp op bitag low) past sends inv a some late = completed_kept (Message.BiRsp op bitag low) (open_at a past) (inv a some late)
take_late setup host (Message.Ndr NdrOp.Cmp tag) past sends inv a some late =
    completed_kept (Message.Ndr NdrOp.Cmp tag) (open_at a past) (inv a some (late_before setup tag.0 (stage setup a past) late))
take_late setup host (Message.Ndr NdrOp.CmpS tag) past sends inv a some late = completed_kept (Message.Ndr NdrOp.CmpS tag) (open_at a past) (inv a some late)
take_late setup host (Message.Ndr NdrOp.CmpE tag) past sends inv a some late = completed_kept (Message.Ndr NdrOp.CmpE tag) (open_at a past) (inv a some late)
take_late setup host (Message.Ndr NdrOp.ConflictAck tag) past sends inv a some late =
    completed_kept (Message.Ndr NdrOp.ConflictAck tag) (open_at a past) (acked tag.0 a past (stage setup a past) (inv a some) late)
take_late setup host (Message.MemData tag bytes) past sends inv a some late = completed_kept (Message.MemData tag bytes) (open_at a past) (inv a some late)
take_late setup host (Message.BiSnp op bitag line span) past sends inv a some late =
    let parts = new_or_late (covers line.0 span a) (stage setup a past) late in
    completed_kept (Message.BiSnp op bitag line span) (open_at a past) (inv a (snooped_before (buffered_snoops past) op line.0 span a parts.0 some) parts.1)
take_late setup host (Message.Credit c) past sends inv a some late = completed_kept (Message.Credit c) (open_at a past) (inv a some late)

-- ---- acts

asked_or_late : (b : Bool) (n : ℕ) (st : Stage) → cond b (Stage.Asked n) st ≡ Stage.Late → st ≡ Stage.Late
asked_or_late true n st e = cc
asked_or_late false n st e = e

writing_or_late : (b : Bool) (st : Stage) → cond b Stage.Writing st ≡ Stage.Late → st ≡ Stage.Late
writing_or_late true st e = cc
writing_or_late false st e = e

act_late : (setup : Configuration) (act : Act) (past : List Event) (sends : Sends) → LateIsCompleted setup past → LateAfter setup (Cause.Act act) sends past
act_late setup (Act.Conflict line) past sends inv a some late = inv a some (asked_or_late (line.0 == a) _ (stage setup a past) late)
act_late setup (Act.WriteBack line) past sends inv a some late = inv a some (writing_or_late (line.0 == a) (stage setup a past) late)
act_late setup (Act.Answer line) past sends inv a some late = let fewer = total-answer a line.0 (buffered_snoops past) in inv a (omega arith) late
act_late setup (Act.AnswerBlock line) past sends inv a some late =
    let fewer = total-filter a (λ s. not (is_whole_block line.0 s)) (buffered_snoops past) in inv a (omega arith) late
act_late setup (Act.HostReturn _) past sends inv a some late = inv a some late
act_late setup (Act.Serve _ _) past sends inv a some late = inv a some late
act_late setup (Act.Clean _ _) past sends inv a some late = inv a some late
act_late setup (Act.Start _ _) past sends inv a some late = inv a some late
act_late setup (Act.Evict _ _) past sends inv a some late = inv a some late
act_late setup (Act.Snoop _ _) past sends inv a some late = inv a some late
act_late setup (Act.Finish _) past sends inv a some late = inv a some late
act_late setup (Act.DeviceReturn _ _) past sends inv a some late = inv a some late

cause_late :
    (setup : Configuration) (h : ℕ) (cause : Cause) (past : List Event) (w : Emission) (sends : Sends) → host_emission setup h cause past ≡ Some w → sends ≡ w.sends
    → LateIsCompleted setup past → LateAfter setup cause sends past
cause_late setup h (Cause.Op s i op) past w sends row sent inv = operation_late setup h s i op past sends (subst (Operated setup h op past) (sym sent) (operated setup h s i op past w row)) inv
cause_late setup h (Cause.Take host m) past w sends row sent inv = take_late setup host m past sends inv
cause_late setup h (Cause.Act act) past w sends row sent inv = act_late setup act past sends inv

late_kept : (setup : Configuration) (opening : List (Line × Bytes64)) (h : ℕ) → is_device h ≡ false → (mine : List Event) → is_own_run setup opening h mine ≡ true → LateIsCompleted setup mine
late_kept setup opening h host [] run = λ a some late. refl
late_kept setup opening h host (e ∷ past) run =
    let on = host_goes_on setup opening h host e past run in
    cause_late setup h e.cause past on.step.w e.sends on.step.row on.step.sends (late_kept setup opening h host past on.before)

-- a snooped line at stage Late was completed
pub late_is_completed :
    (setup : Configuration) (opening : List (Line × Bytes64)) (h : ℕ) → is_device h ≡ false → (mine : List Event) → is_own_run setup opening h mine ≡ true
    → (a : ℕ) → is_snooped a mine ≡ true → stage setup a mine ≡ Stage.Late → was_completed (open_at a mine) ≡ true
late_is_completed setup opening h host mine run a snooped late = late_kept setup opening h host mine run a (snooped_counts a mine snooped) late
