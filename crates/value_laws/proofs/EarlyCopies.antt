-- A snooped line whose conflict ended early has no writable copy: what is open at the end of the conflict isn't granted before the answer. By recursion over the run.
use Rattle.std.proofs.Common.{◌≡◌, ℕ, ◌≤◌, Bool, true, false, IsTrue, List, [], ◌∷◌, ◌++◌, Option, Some, None, cond, filter, find, refl, sym, ◌∙◌, ap, arith, ◌⊎◌, inl, inr}
use Rattle.std.specs.Prelude.{is_some, not, ◌==◌}
use Rattle.std.proofs.lemmas.Bool.{cond-false, cond-true, eqb-true, false≢true, leb-false}
use Rattle.std.proofs.lemmas.Option.{same_Some}
use Rattle.cxl_message.specs.declared.channels.Channel.{Channel}
use Rattle.cxl_message.specs.declared.events.Act.{Act}
use Rattle.cxl_message.specs.declared.events.Cause.{Cause}
use Rattle.cxl_message.specs.declared.events.Commit.{Commit}
use Rattle.cxl_message.specs.declared.events.Event.{Event}
use Rattle.cxl_message.specs.declared.events.Op.{Op}
use Rattle.cxl_message.specs.declared.events.Sends.{Sends}
use Rattle.cxl_message.specs.declared.identifiers.Bytes64.{Bytes64}
use Rattle.cxl_message.specs.declared.identifiers.Line.{Line}
use Rattle.cxl_message.specs.declared.identifiers.Tag.{Tag}
use Rattle.cxl_message.specs.declared.messages.Message.{Message}
use Rattle.cxl_message.specs.declared.opcodes.NdrOp.{NdrOp}
use Rattle.cxl_message.specs.declared.opcodes.SnpOp.{SnpOp}
use Rattle.cxl_message.specs.declared.opcodes.Span.{Span}
use Rattle.cxl_message.specs.Codes.{channel_eq}
use Rattle.cxl_message.specs.Events.{line_of}
use Rattle.cxl_message.specs.Lists.{is_in}
use Rattle.cxl_message.specs.Messages.{channel_of}
use Rattle.cxl_message.specs.Setup.{Configuration, IsWithinLimits}
use Rattle.cxl_message.specs.Spans.{covers, lines_of}
use Rattle.coherence_lemmas.proofs.Rows.{host_take-inv}
use Rattle.coherence_model.specs.Cache.{copy}
use Rattle.coherence_model.specs.Copies.{Copy, copy_after_response, filling_grant, is_in_whole_block, no_copy}
use Rattle.coherence_model.specs.Emission.{Emission}
use Rattle.coherence_model.specs.Fitting.{cause_fits, is_host}
use Rattle.coherence_model.specs.Flight.{in_flight, takes_on}
use Rattle.coherence_model.specs.HostRows.{host_emission}
use Rattle.coherence_model.specs.HostTakes.{may_grant}
use Rattle.coherence_model.specs.ListingFacts.{grants_ownership}
use Rattle.coherence_model.specs.Runs.{IsRun}
use Rattle.coherence_model.specs.Snoops.{Snoop, buffered_snoops, is_snooped, is_whole_block, snoops_after, snoops_after_answer}
use Rattle.coherence_model.specs.Stages.{Stage, conflict_end, stage, stage_after, stage_after_ack, stage_after_completion, stage_after_take, was_completed}
use Rattle.coherence_model.specs.Traces.{events_of}
use Rattle.coherence_model.specs.Transactions.{Transaction, is_open, open_at}
use Rattle.request_laws.proofs.AllPlaces.{there}
use Rattle.request_laws.proofs.BufferedSnoops.{total, total-answer, total-append, total-cons, total-filter}
use Rattle.request_laws.proofs.Counts.{covers-lines, times}
use Rattle.request_laws.proofs.DeviceCauses.{WasThere}
use Rattle.request_laws.proofs.HostPlaces.{takes_here}
use Rattle.request_laws.proofs.OpenLines.{quiet_parts}
use Rattle.snoop_laws.proofs.Counts.{Among, found_among}
use Rattle.listing_laws.proofs.Copies.{alone_copy, copy_next, evicting_copy, hit_copy, response_unwritable, writable_count}
use Rattle.listing_laws.proofs.Early.{EarlyKept, early_seen, granted, own_take, snooped_before}
use Rattle.listing_laws.proofs.HostLines.{act_uncommitted, flag_up, lost_writable}
use Rattle.listing_laws.proofs.Induction.{DeviceEvent, HostEvent, Seen, after_device, after_host, always, seen_at}
use Rattle.listing_laws.proofs.Operations.{OperationRow, RowAlone, RowEvicts, RowHits, operation_row}
use Rattle.listing_laws.proofs.Owners.{granted_so}
use Rattle.listing_laws.proofs.Takes.{Fill, FilledBy, Owned, Shared, fill_copy, filled_copy, filled_is, take_commits}
use Rattle.listing_laws.proofs.TakenGrants.{fill_granted}
use Rattle.value_laws.proofs.Has.{open_low}
use Rattle.value_laws.proofs.HostFacts.{EarlyUnwritable, agent, fit, line_kept}

-- whether a line is in one of these snoops
abbrev snooped_so : ℕ → List Snoop → Bool
snooped_so a ss = is_some (find (λ (s : Snoop). is_in a s.unanswered) ss)

-- ---- where stage Early comes from

-- a Cmp brings no line to stage Early
completed_from : (setup : Configuration) (tag : ℕ) (st : Stage) → stage_after_completion setup tag st ≡ Stage.Early → st ≡ Stage.Early
completed_from setup tag Stage.New h = h
completed_from setup tag (Stage.Asked u) h = h
completed_from setup tag Stage.Early h = h
completed_from setup tag Stage.Late h = h
completed_from setup tag Stage.Writing h = by (tag == setup.tags) h
  where
    by : (b : Bool) → cond b Stage.Written Stage.Writing ≡ Stage.Early → Stage.Writing ≡ Stage.Early
    by true e = cc
    by false e = e
completed_from setup tag Stage.Written h = h

-- what was not completed is open
uncompleted_open : (o : Option Transaction) → cond (was_completed o) Stage.Late Stage.Early ≡ Stage.Early → is_some o ≡ true
uncompleted_open None h = cc
uncompleted_open (Some x) h = refl

-- a BI-ConflictAck brings a line to stage Early while it is open
acked_from : (tag a : ℕ) (own : List Event) (st : Stage) → stage_after_ack tag a own st ≡ Stage.Early → (st ≡ Stage.Early) ⊎ (is_open a own ≡ true)
acked_from tag a own Stage.New h = cc
acked_from tag a own (Stage.Asked u) h = by (u == tag) h
  where
    by : (b : Bool) → cond b (conflict_end (open_at a own)) (Stage.Asked u) ≡ Stage.Early → (Stage.Asked u ≡ Stage.Early) ⊎ (is_open a own ≡ true)
    by true e = inr (uncompleted_open (open_at a own) e)
    by false e = inl e
acked_from tag a own Stage.Early h = inl refl
acked_from tag a own Stage.Late h = inl h
acked_from tag a own Stage.Writing h = inl h
acked_from tag a own Stage.Written h = inl h

-- a line at stage Early was so and snooped before, or its conflict ends now while it is open
data EarlyFrom (setup : Configuration) (a : ℕ) (own : List Event) (m : Message) : Type 0 where
  Already : is_snooped a own ≡ true → stage setup a own ≡ Stage.Early → EarlyFrom setup a own m
  Ends : (tag : Tag) → m ≡ Message.Ndr NdrOp.ConflictAck tag → is_open a own ≡ true → EarlyFrom setup a own m

-- a snoop of other lines leaves a line no more snooped
uncovered_less : (a : ℕ) (own : List Event) (op : SnpOp) (first : ℕ) (span : Span) → covers first span a ≡ false
    → total a (buffered_snoops own ++ record { op = op; first = first; span = span; unanswered = lines_of first span } ∷ []) ≤ total a (buffered_snoops own)
uncovered_less a own op first span is =
    let few = leb-false 1 (times a (lines_of first span)) (sym (covers-lines first a span) ∙ is) in
    let sum = total-append a (buffered_snoops own) (record { op = op; first = first; span = span; unanswered = lines_of first span } ∷ []) in
    let one = total-cons a (record { op = op; first = first; span = span; unanswered = lines_of first span }) [] in
    omega arith

module _ (setup : Configuration) (a : ℕ) (own : List Event) where
  -- where stage Early comes from at a take
  take_from : (k : ℕ) (m : Message) → snooped_so a (snoops_after (Cause.Take k m) (buffered_snoops own)) ≡ true → stage_after_take setup a m own (stage setup a own) ≡ Stage.Early → EarlyFrom setup a own m
  take_from k (Message.Req _ _ _ _ _) snooped st = Already snooped st
  take_from k (Message.MemWr _ _ _ _ _) snooped st = Already snooped st
  take_from k (Message.BiConflict _) snooped st = Already snooped st
  take_from k (Message.BiRsp _ _ _) snooped st = Already snooped st
  take_from k (Message.Ndr NdrOp.Cmp tag) snooped st = Already snooped (completed_from setup tag.0 (stage setup a own) st)
  take_from k (Message.Ndr NdrOp.CmpS tag) snooped st = Already snooped st
  take_from k (Message.Ndr NdrOp.CmpE tag) snooped st = Already snooped st
  take_from k (Message.Ndr NdrOp.ConflictAck tag) snooped st = elim (acked_from tag.0 a own (stage setup a own) st) [
    | inl early ↦ Already snooped early
    | inr open_now ↦ Ends tag refl open_now
  ]
  take_from k (Message.MemData _ _) snooped st = Already snooped st
  take_from k (Message.BiSnp op bitag line span) snooped st = by (covers line.0 span a) refl st
    where
      by : (b : Bool) → covers line.0 span a ≡ b → cond b Stage.New (stage setup a own) ≡ Stage.Early → EarlyFrom setup a own (Message.BiSnp op bitag line span)
      by true is e = cc
      by false is e = Already (snooped_before a own (buffered_snoops own ++ record { op = op; first = line.0; span = span; unanswered = lines_of line.0 span } ∷ []) (uncovered_less a own op line.0 span is) snooped) e
  take_from k (Message.Credit _) snooped st = Already snooped st

  -- a conflict that is declared brings no line to stage Early
  asked_from : (b : Bool) (t : ℕ) (st : Stage) → cond b (Stage.Asked t) st ≡ Stage.Early → st ≡ Stage.Early
  asked_from true t st e = cc
  asked_from false t st e = e

  -- nor does a write-back
  writing_from : (b : Bool) (st : Stage) → cond b Stage.Writing st ≡ Stage.Early → st ≡ Stage.Early
  writing_from true st e = cc
  writing_from false st e = e

  -- at an act a line at stage Early was so before
  act_from : (act : Act) → snooped_so a (snoops_after (Cause.Act act) (buffered_snoops own)) ≡ true → stage_after setup a (Cause.Act act) own (stage setup a own) ≡ Stage.Early → (is_snooped a own ≡ true) × (stage setup a own ≡ Stage.Early)
  act_from (Act.Conflict line) snooped st = (snooped, asked_from (line.0 == a) _ (stage setup a own) st)
  act_from (Act.WriteBack line) snooped st = (snooped, writing_from (line.0 == a) (stage setup a own) st)
  act_from (Act.Answer line) snooped st = (snooped_before a own (snoops_after_answer line.0 (buffered_snoops own)) (total-answer a line.0 (buffered_snoops own)) snooped, st)
  act_from (Act.AnswerBlock line) snooped st =
      (snooped_before a own (filter (λ s. not (is_whole_block line.0 s)) (buffered_snoops own)) (total-filter a (λ s. not (is_whole_block line.0 s)) (buffered_snoops own)) snooped, st)
  act_from (Act.HostReturn c) snooped st = (snooped, st)
  act_from (Act.Serve k tag) snooped st = (snooped, st)
  act_from (Act.Clean k tag) snooped st = (snooped, st)
  act_from (Act.Start k tag) snooped st = (snooped, st)
  act_from (Act.Evict k tag) snooped st = (snooped, st)
  act_from (Act.Snoop k line) snooped st = (snooped, st)
  act_from (Act.Finish line) snooped st = (snooped, st)
  act_from (Act.DeviceReturn k c) snooped st = (snooped, st)

  -- ---- copies that an act leaves

  -- a write-back or an answer leaves no writable copy
  response_low : (sends : Sends) (c : Copy) → writable_count c ≡ 0 → writable_count (copy_after_response sends c) ≡ 0
  response_low Sends.Nothing c low = low
  response_low (Sends.One o) c low = response_unwritable o.message c
  response_low (Sends.Two o p) c low = low

  -- one of two copies that are not writable
  either_low : (b : Bool) (c d : Copy) → writable_count c ≡ 0 → writable_count d ≡ 0 → writable_count (cond b c d) ≡ 0
  either_low true c d first second = first
  either_low false c d first second = second

  -- an act makes no copy writable
  act_low : (act : Act) (sends : Sends) → writable_count (copy setup a own) ≡ 0 → writable_count (copy_next setup (Cause.Act act) sends None own a) ≡ 0
  act_low (Act.Conflict line) sends low = low
  act_low (Act.WriteBack line) sends low = either_low (line.0 == a) _ (copy setup a own) (response_low sends (copy setup a own) low) low
  act_low (Act.Answer line) sends low = either_low (line.0 == a) _ (copy setup a own) (response_low sends (copy setup a own) low) low
  act_low (Act.AnswerBlock line) sends low = either_low (is_in_whole_block line.0 a own) no_copy (copy setup a own) refl low
  act_low (Act.HostReturn c) sends low = low
  act_low (Act.Serve k tag) sends low = low
  act_low (Act.Clean k tag) sends low = low
  act_low (Act.Start k tag) sends low = low
  act_low (Act.Evict k tag) sends low = low
  act_low (Act.Snoop k line) sends low = low
  act_low (Act.Finish line) sends low = low
  act_low (Act.DeviceReturn k c) sends low = low

-- a number below zero is zero
less_low : (n m : ℕ) → n ≤ m → m ≡ 0 → n ≡ 0
less_low n m h e = omega arith

module _ (setup : Configuration) (opening : List (Line × Bytes64)) (limits : IsWithinLimits setup) (h : ℕ) (host : IsTrue (is_host setup h)) (a : ℕ) where
  module _ (t : List Event) (run : IsRun setup opening t) (old : EarlyUnwritable setup a (events_of h t)) where
    -- the host's own events
    abbrev own : List Event
    own = events_of h t

    -- no operation stores to a snooped line
    operation_low : (s i : ℕ) (op : Op) (w : Emission) (sends : Sends) (commit : Option Commit) → OperationRow setup h s i op own w sends commit → sends ≡ w.sends → commit ≡ w.commit → is_snooped a own ≡ true
        → writable_count (copy setup a own) ≡ 0 → writable_count (copy_next setup (Cause.Op s i op) sends commit own a) ≡ 0
    operation_low s i op w sends commit (RowHits hit) sent committed snooped low = elim (hit_copy setup s i op own w sends commit a hit sent committed) [
      | inl same ↦ ap writable_count same ∙ low
      | inr here ↦ absurd (false≢true (sym (quiet_parts (line_of op) own hit.quiet).1 ∙ ap (λ l. is_snooped l own) here.0 ∙ snooped))
    ]
    operation_low s i op w sends commit (RowAlone row) sent committed snooped low =
        ap writable_count (alone_copy setup s i h op row.t own w sends commit row.d a row.sent row.uncommitted row.drops) ∙ less_low _ (writable_count (copy setup a own)) (lost_writable row.d a (copy setup a own)) low
    operation_low s i op w sends commit (RowEvicts row) sent committed snooped low =
        ap writable_count (evicting_copy setup s i h op row.v row.t row.u own sends commit a row.sent row.uncommitted) ∙ either_low setup a own (row.v == a) no_copy (copy setup a own) refl low

    -- a line that isn't filled
    unfilled_low : (k : ℕ) (m : Message) (later : Copy) → later ≡ copy setup a own → EarlyFrom setup a own m → writable_count later ≡ 0
    unfilled_low k m later same (Already snooped early) = ap writable_count same ∙ old snooped early
    unfilled_low k m later same (Ends tag is open_now) = ap writable_count same ∙ open_low _ _ _ _ (line_kept setup opening limits h host t run a) (flag_up (is_open a own) open_now)

    -- no fill ends a conflict, and none is granted at stage Early
    filled_low : (k : ℕ) (m : Message) (commit : Option Commit) (f : Fill own m commit) (later : Copy) → (f.l == a) ≡ true → ((op : NdrOp) (tag : ℕ) → m ≡ Message.Ndr op (record { 0 = tag }) → Among m (in_flight h Channel.Ndr t))
        → EarlyFrom setup a own m → FilledBy f.grant later → writable_count later ≡ 0
    filled_low k m commit f later here arrives from (Shared is one two) = two
    filled_low k m commit f later here arrives (Already snooped early) (Owned is one two) =
        let kept : EarlyKept (in_flight h Channel.Ndr t) (open_at a own) = early_seen setup opening limits h host a t run snooped early in
        let none = kept.none in
        let some = fill_granted grants_ownership own m commit (in_flight h Channel.Ndr t) f (ap grants_ownership is) arrives in
        let same = ap (λ b. open_at b own) (sym (eqb-true f.l a here)) ∙ f.there in
        absurd (granted_some (open_at a own) (Some f.o) same none some)
      where
        granted_some : (o p : Option Transaction) → o ≡ p → granted (in_flight h Channel.Ndr t) o ≡ 0 → 1 ≤ granted_so grants_ownership (in_flight h Channel.Ndr t) p → ⊥
        granted_some o p same none some = let e = ap (granted (in_flight h Channel.Ndr t)) same in omega arith
    filled_low k m commit f later here arrives (Ends tag is open_now) (Owned same one two) =
        let grant = same_Some NdrOp.ConflictAck f.grant (ap (λ x. filling_grant x (Some f.o)) (sym is) ∙ f.source) in
        absurd (false≢true (ap (λ g. may_grant g f.o.kind) grant ∙ f.may))

    -- a take, by whether it fills the line
    take_low_by : (k : ℕ) (m : Message) (sends : Sends) (commit : Option Commit) (f : Fill own m commit) → ((op : NdrOp) (tag : ℕ) → m ≡ Message.Ndr op (record { 0 = tag }) → Among m (in_flight h Channel.Ndr t)) → EarlyFrom setup a own m
        → (b : Bool) → (f.l == a) ≡ b → writable_count (copy_next setup (Cause.Take k m) sends commit own a) ≡ 0
    take_low_by k m sends commit f arrives from true here =
        let fits = fit setup opening limits h host t run in
        ap writable_count (fill_copy setup k m own sends commit f fits a ∙ cond-true (f.l == a) (filled_copy f.o f.grant f.bytes) (copy setup a own) here)
        ∙ filled_low k m commit f (filled_copy f.o f.grant f.bytes) here arrives from (filled_is f.grant f.o f.bytes f.may ((fits f.l f.o f.there).asked f.request).0)
    take_low_by k m sends commit f arrives from false here =
        unfilled_low k m _ (fill_copy setup k m own sends commit f (fit setup opening limits h host t run) a ∙ cond-false (f.l == a) (filled_copy f.o f.grant f.bytes) (copy setup a own) here) from

    -- what each cause leaves
    cause_low : (cause : Cause) (w : Emission) (sends : Sends) (commit : Option Commit) → host_emission setup h cause own ≡ Some w → sends ≡ w.sends → commit ≡ w.commit → cause_fits setup h cause ≡ true
        → WasThere (takes_on h Channel.Ndr cause) (in_flight h Channel.Ndr t) → snooped_so a (snoops_after cause (buffered_snoops own)) ≡ true → stage_after setup a cause own (stage setup a own) ≡ Stage.Early
        → writable_count (copy_next setup cause sends commit own a) ≡ 0
    cause_low (Cause.Op s i op) w sends commit row sent committed fits arrives snooped st =
        operation_low s i op w sends commit (operation_row setup h s i op own w sends commit row sent committed) sent committed snooped (old snooped st)
    cause_low (Cause.Take k m) w sends commit row sent committed fits arrives snooped st =
        let from = take_from setup a own k m snooped st in
        elim (take_commits setup h m own w commit (host_take-inv setup h k m own w row).same committed (fit setup opening limits h host t run)) [
          | inl uncommitted ↦ unfilled_low k m _ (ap (λ x. copy_next setup (Cause.Take k m) sends x own a) uncommitted) from
          | inr f ↦ take_low_by k m sends commit f
              (λ op tag is.
              found_among m (in_flight h Channel.Ndr t)
              (arrives m (takes_here h k Channel.Ndr m (own_take setup h k m (agent setup opening limits h host t run) fits) (ap (λ x. channel_eq (channel_of x) Channel.Ndr) is)))) from (f.l == a) refl
        ]
    cause_low (Cause.Act act) w sends commit row sent committed fits arrives snooped st =
        let before = act_from setup a own act snooped st in
        ap (λ x. writable_count (copy_next setup (Cause.Act act) sends x own a)) (committed ∙ act_uncommitted setup h act own w row) ∙ act_low setup a own act sends (old before.0 before.1)

  -- the fact as one host sees it
  abbrev Unwritable : Seen
  Unwritable own dev fr fw ndr rs = EarlyUnwritable setup a own

  -- an event of the host keeps it
  unwritable_by_host : (e : Event) (past : List Event) → HostEvent setup opening h e past → seen_at Unwritable h past → after_host Unwritable h e past
  unwritable_by_host e past on old snooped st =
      cause_low past on.run old e.cause on.parts.row.w e.sends e.commit on.row on.parts.row.sends on.parts.row.commit on.fits (there setup opening h e past on.parts Channel.Ndr) snooped st

  -- an event of the device keeps it
  unwritable_by_device : (e : Event) (past : List Event) → DeviceEvent setup opening e past → seen_at Unwritable h past → after_device Unwritable h e past
  unwritable_by_device e past on old = old

  -- after every run a snooped line at stage Early has no writable copy
  pub early_unwritable : (t : List Event) → IsRun setup opening t → EarlyUnwritable setup a (events_of h t)
  early_unwritable t run = always setup opening h (agent setup opening limits h host [] refl) Unwritable unwritable_by_host unwritable_by_device (λ snooped st. refl) t run
