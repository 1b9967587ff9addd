-- Where no step is next, no line is Snooped: at each stage its host could go on.
use Rattle.std.proofs.Common.{◌≡◌, ℕ, ◌+◌, ◌-◌, ◌≤◌, ◌<◌, Bool, true, false, IsTrue, List, [], ◌∷◌, ◌++◌, Option, Some, None, cond, flat_map, refl, sym, ◌∙◌, ap, subst, arith, inl, inr}
use Rattle.std.specs.Prelude.{count_by, is_some, not, ◌&&◌, ◌==◌, ◌||◌}
use Rattle.std.specs.List.{list_all}
use Rattle.std.specs.Option.{option_map_or}
use Rattle.std.proofs.lemmas.Bool.{and_from, and_parts, cases_Bool, cond-true, eqb-true, false≢true, false_from_ne_true, lt-ltb, not_from_false, or_left, or_parts, or_right}
use Rattle.cxl_message.specs.declared.channels.Channel.{Channel}
use Rattle.cxl_message.specs.declared.events.Act.{Act}
use Rattle.cxl_message.specs.declared.events.Event.{Event}
use Rattle.cxl_message.specs.declared.identifiers.Bytes64.{Bytes64}
use Rattle.cxl_message.specs.declared.identifiers.Line.{Line}
use Rattle.cxl_message.specs.declared.messages.Message.{Message}
use Rattle.cxl_message.specs.declared.opcodes.NdrOp.{NdrOp}
use Rattle.cxl_message.specs.declared.opcodes.RspOp.{RspOp}
use Rattle.cxl_message.specs.Codes.{span_len}
use Rattle.cxl_message.specs.Lists.{is_in}
use Rattle.cxl_message.specs.Messages.{acknowledges, has_tag}
use Rattle.cxl_message.specs.Setup.{Configuration, IsWithinLimits}
use Rattle.coherence_model.specs.Buffers.{buffered_writes}
use Rattle.coherence_model.specs.Cache.{is_modified}
use Rattle.coherence_model.specs.Credits.{credits_left}
use Rattle.coherence_model.specs.Emission.{one_send}
use Rattle.coherence_model.specs.Fitting.{is_device, is_host}
use Rattle.coherence_model.specs.Flight.{in_flight}
use Rattle.coherence_model.specs.HostActs.{h7_conflict, h8_write_back, h9_answer, is_answered_alone, is_ready, may_answer_block, may_answer_in_block, may_conflict, response_for, write_back_message}
use Rattle.coherence_model.specs.Next.{act_step, block_acts, host_return_channels, line_acts, next_steps, or_else, snoop_acts}
use Rattle.coherence_model.specs.RequestFacts.{data_count, grant_count, grants, is_ndr_with, is_request_with, is_write_with, kind_is_placed, ndr_count, request_is_placed, requests_under_way, task_count, writes_under_way}
use Rattle.coherence_model.specs.Runs.{IsRun}
use Rattle.coherence_model.specs.Snoops.{Snoop, buffered_snoops, is_snooped, is_whole_block, snoop_at, whole_block_at}
use Rattle.coherence_model.specs.Stages.{Stage, is_early_or_written, is_new, is_new_or_late, stage, was_completed}
use Rattle.coherence_model.specs.Tags.{is_conflict_open, is_conflict_with}
use Rattle.coherence_model.specs.Traces.{device, events_of}
use Rattle.coherence_model.specs.Transactions.{Kind, Transaction, is_open, is_read, open_at}
use Rattle.coherence_model.specs.Words.{one_if}
use Rattle.coherence_model.specs.WriteBacks.{completes, is_write_back_open}
use Rattle.request_laws.proofs.AllConflicts.{conflicts_are_placed}
use Rattle.request_laws.proofs.Conflicts.{conflicts_kept}
use Rattle.request_laws.proofs.OpenPlaced.{open_lines_are_placed}
use Rattle.request_laws.proofs.Owners.{write_backs_are_placed}
use Rattle.coherence_model.proofs.OwnRuns.{events_of_run}
use Rattle.request_laws.proofs.OwnRuns.{host_is_no_device}
use Rattle.request_laws.proofs.WriteBacks.{writes_kept}
use Rattle.coherence_model.specs.OwnRuns.{is_own_run}
use Rattle.request_laws.specs.Writes.{is_write_of}
use Rattle.step_laws.proofs.Counts.{Each, each_find}
use Rattle.progress_laws.proofs.LateStages.{late_is_completed}
use Rattle.progress_laws.proofs.Nothing.{each_empty, else_empty, first_empty, host_act_not, one_paid}
use Rattle.progress_laws.proofs.OpenWaits.{open_waits}
use Rattle.progress_laws.proofs.Stuck.{SnoopsKnown, answers_left, host_empty, no_flight, no_writes, when_is, writes_full}

-- what holds of each number of a list holds of one that is in it
each_at : (P : ℕ → Type 0) (a y : ℕ) (ys : List ℕ) (here : Bool) → (a == y) ≡ here → (here || is_in a ys) ≡ true → P y → (is_in a ys ≡ true → P a) → P a
each_at P a y ys true is there head later = subst P (sym (eqb-true a y is)) head
each_at P a y ys false is there head later = later there

pub each_in : (P : ℕ → Type 0) (a : ℕ) (ys : List ℕ) → Each P ys → is_in a ys ≡ true → P a
each_in P a [] each there = absurd (false≢true there)
each_in P a (y ∷ ys) each there = each_at P a y ys (a == y) refl there each.0 (each_in P a ys each.1)

-- the places of a read are those of a request
read_places : (k : Kind) (setup : Configuration) (h a : ℕ) (t : List Event) (o : Transaction) → is_read k ≡ true → kind_is_placed k setup h a t o ≡ true → request_is_placed setup h a t o ≡ true
read_places Kind.ReadShared setup h a t o read placed = placed
read_places Kind.ReadAny setup h a t o read placed = placed
read_places Kind.Invalidate setup h a t o read placed = absurd (false≢true read)
read_places Kind.CleanEviction setup h a t o read placed = absurd (false≢true read)
read_places Kind.DirtyEviction setup h a t o read placed = absurd (false≢true read)

some_is_one : {A : Type 0} (o : Option A) → is_some o ≡ true → one_if (is_some o) ≡ 1
some_is_one None is = absurd (false≢true is)
some_is_one (Some x) is = refl

module _ (setup : Configuration) (opening : List (Line × Bytes64)) (limits : IsWithinLimits setup) (t : List Event) (run : IsRun setup opening t) (stuck : next_steps setup opening t ≡ []) (known : SnoopsKnown setup opening t)
    (h : ℕ) (less : h < setup.hosts) where
  abbrev dev : List Event
  dev = events_of device t

  abbrev mine : List Event
  mine = events_of h t

  host : IsTrue (is_host setup h)
  host = lt-ltb h setup.hosts less

  no_device : is_device h ≡ false
  no_device = host_is_no_device setup limits h host

  own : is_own_run setup opening h mine ≡ true
  own = events_of_run setup opening h t run

  -- ---- nothing waits for a message

  pub nothing_written : writes_under_way h t ≡ []
  nothing_written = ap (λ ms. ms ++ buffered_writes h dev) (no_flight setup opening limits t run stuck known h Channel.Rwd less) ∙ no_writes setup opening limits t run stuck known h less

  pub nothing_completed : (p : NdrOp → Bool) (tag : ℕ) → ndr_count p h tag t ≡ 0
  nothing_completed p tag = ap (count_by (is_ndr_with p tag)) (no_flight setup opening limits t run stuck known h Channel.Ndr less)

  conflict_closed : (tag : ℕ) → is_conflict_open tag mine ≡ true → ⊥
  conflict_closed tag is =
      let one = eqb-true _ 1 (conflicts_are_placed setup opening limits h host t run tag is) in
      let writes : count_by (is_conflict_with tag) (writes_under_way h t) ≡ 0 = ap (count_by (is_conflict_with tag)) nothing_written in
      let acks = nothing_completed acknowledges tag in
      omega arith

  pub conflicts_closed : (tag : ℕ) → is_conflict_open tag mine ≡ false
  conflicts_closed tag = false_from_ne_true (is_conflict_open tag mine) (conflict_closed tag)

  pub write_back_closed : is_write_back_open setup mine ≡ false
  write_back_closed =
      false_from_ne_true (is_write_back_open setup mine) (λ is.
      let one = write_backs_are_placed setup opening limits h host t run is in
      let writes : count_by (is_write_of setup.tags) (writes_under_way h t) ≡ 0 = ap (count_by (is_write_of setup.tags)) nothing_written in
      let done = nothing_completed completes setup.tags in
      omega arith)

  pub placed_open : (a : ℕ) (o : Transaction) → open_at a mine ≡ Some o → kind_is_placed o.kind setup h a t o ≡ true
  placed_open a o is = sym (ap (λ x. option_map_or (λ (y : Transaction). kind_is_placed y.kind setup h a t y) x true) is) ∙ open_lines_are_placed setup opening limits h host t run a

  -- what is open wasn't granted
  granted_by : (a : ℕ) (o : Transaction) → open_at a mine ≡ Some o → is_some o.grant ≡ true → is_read o.kind ≡ true → o.bytes ≡ None → ⊥
  granted_by a o is granted read none =
      let placed = read_places o.kind setup h a t o read (placed_open a o is) in
      let parts = and_parts (count_by (is_request_with o.kind a o.tag) (requests_under_way h t) + task_count setup h a o.tag t + grant_count h t o == 1) (data_count h t o == cond (is_read o.kind) (grant_count h t o) 0) placed in
      let two : data_count h t o ≡ grant_count h t o = eqb-true (data_count h t o) (cond (is_read o.kind) (grant_count h t o) 0) parts.1 ∙ cond-true (is_read o.kind) (grant_count h t o) 0 read in
      let first = some_is_one o.grant granted in
      let bytes : one_if (is_some o.bytes) ≡ 0 = ap (λ x. one_if (is_some x)) none in
      let sent : count_by (has_tag o.tag) (in_flight h Channel.Drs t) ≡ 0 = ap (count_by (has_tag o.tag)) (no_flight setup opening limits t run stuck known h Channel.Drs less) in
      let grants_sent = nothing_completed grants o.tag in
      omega arith

  pub not_granted : (a : ℕ) (o : Transaction) → open_at a mine ≡ Some o → is_some o.grant ≡ true → ⊥
  not_granted a o is granted =
      elim (open_waits a mine o is) [
        | inl none ↦ false≢true (sym (ap is_some none) ∙ granted)
        | inr waits ↦ granted_by a o is granted waits.0 waits.1
      ]

  no_dirty_eviction : (a : ℕ) (o : Transaction) (k : Kind) → open_at a mine ≡ Some o → k ≡ Kind.DirtyEviction → kind_is_placed k setup h a t o ≡ true → ⊥
  no_dirty_eviction a o k is dirty placed =
      let one = eqb-true _ 1 (subst (λ x. kind_is_placed x setup h a t o ≡ true) dirty placed) in
      let writes : count_by (is_write_with a o.tag) (writes_under_way h t) ≡ 0 = ap (count_by (is_write_with a o.tag)) nothing_written in
      let done = nothing_completed completes o.tag in
      omega arith

  -- each kind but a MemWr may declare a conflict
  may_declare : (a : ℕ) (o : Transaction) → open_at a mine ≡ Some o → (k : Kind) → k ≡ o.kind → may_conflict k ≡ true
  may_declare a o is Kind.ReadShared kind = refl
  may_declare a o is Kind.ReadAny kind = refl
  may_declare a o is Kind.Invalidate kind = refl
  may_declare a o is Kind.CleanEviction kind = refl
  may_declare a o is Kind.DirtyEviction kind = absurd (no_dirty_eviction a o o.kind is (sym kind) (placed_open a o is))

  -- ---- the acts for a snoop

  acts_of : Each (λ s. snoop_acts setup opening t h s ≡ []) (buffered_snoops mine)
  acts_of =
      each_empty (snoop_acts setup opening t h) (buffered_snoops mine)
      (first_empty (flat_map (snoop_acts setup opening t h) (buffered_snoops mine)) (flat_map (λ c. act_step setup opening t h (Act.HostReturn c)) host_return_channels)
      (host_empty setup opening limits t run stuck known h less))

  some_credits : 1 ≤ setup.credits
  some_credits = let two = limits.credits.0 in omega arith

  write_credit : 1 ≤ credits_left setup h Channel.Rwd mine
  write_credit = let full = writes_full setup opening limits t run stuck known h less in let some = some_credits in omega arith

  answer_credit : 1 ≤ credits_left setup h Channel.BiRsp mine
  answer_credit = let full = answers_left setup opening limits t run stuck known h less in let some = some_credits in omega arith

  -- no whole block may be answered
  block_found : (first : ℕ) (found : Option Snoop) → whole_block_at first mine ≡ found → option_map_or (λ (s : Snoop). list_all (may_answer_in_block setup mine) s.unanswered) found false ≡ true → may_answer_block setup first mine ≡ true → ⊥
  block_found first None is all may = false≢true all
  block_found first (Some s) is all may =
      let found = each_find (λ r. snoop_acts setup opening t h r ≡ []) (is_whole_block first) (buffered_snoops mine) acts_of s is in
      let same = eqb-true s.first first (and_parts _ _ (and_parts _ _ found.1).0).1 in
      let whole = subst (λ f. is_whole_block f s ≡ true) (sym same) found.1 in
      let empty = (else_empty (block_acts setup opening t h s) (flat_map (line_acts setup opening t h) s.unanswered) found.0).0 in
      let act = sym (cond-true (is_whole_block s.first s) (act_step setup opening t h (Act.AnswerBlock (record { 0 = s.first }))) [] whole) ∙ empty in
      host_act_not setup opening t h (Act.AnswerBlock (record { 0 = s.first })) (one_send h (Message.BiRsp RspOp.IBlk (record { 0 = s.first }) 0)) no_device act
      (when_is (may_answer_block setup s.first mine) _ (subst (λ f. may_answer_block setup f mine ≡ true) (sym same) may))
      (one_paid setup h (Message.BiRsp RspOp.IBlk (record { 0 = s.first }) 0) mine _ refl (λ credited. answer_credit))

  no_block : (first : ℕ) → may_answer_block setup first mine ≡ true → ⊥
  no_block first may = block_found first (whole_block_at first mine) refl may may

  module _ (a : ℕ) (s : Snoop) (is : snoop_at a mine ≡ Some s) (no_conflict : act_step setup opening t h (Act.Conflict (record { 0 = a })) ≡ [])
      (no_write_back : act_step setup opening t h (Act.WriteBack (record { 0 = a })) ≡ []) (no_answer : act_step setup opening t h (Act.Answer (record { 0 = a })) ≡ []) where
    snooped : is_snooped a mine ≡ true
    snooped = ap is_some is

    not_ready : is_ready setup a mine ≡ true → ⊥
    not_ready ready =
        elim (cases_Bool (is_answered_alone setup s mine)) [
          | inl alone ↦
              host_act_not setup opening t h (Act.Answer (record { 0 = a })) (one_send h (Message.BiRsp (response_for setup s.op a mine) (record { 0 = s.first }) (a - s.first))) no_device no_answer
              (ap (h9_answer setup h a mine) is ∙ when_is (is_ready setup a mine && is_answered_alone setup s mine) _ (and_from _ _ ready alone))
              (one_paid setup h (Message.BiRsp (response_for setup s.op a mine) (record { 0 = s.first }) (a - s.first)) mine _ refl (λ credited. answer_credit))
          | inr block ↦ no_block s.first (not_false (may_answer_block setup s.first mine) (or_parts (span_len s.span == 1) (not (may_answer_block setup s.first mine)) block).1)
        ]
      where
        not_false : (b : Bool) → not b ≡ false → b ≡ true
        not_false true e = refl
        not_false false e = absurd (false≢true (sym e))

    -- a line that isn't Open, New or Late
    closed_stuck : is_open a mine ≡ false → is_new_or_late (stage setup a mine) ≡ true → ⊥
    closed_stuck closed st =
        elim (cases_Bool (is_modified setup a mine)) [
          | inl modified ↦
              host_act_not setup opening t h (Act.WriteBack (record { 0 = a })) (one_send h (write_back_message setup s.op a mine)) no_device no_write_back
              (ap (h8_write_back setup h a mine) is
              ∙ when_is (is_new_or_late (stage setup a mine) && not (is_open a mine) && is_modified setup a mine && not (is_write_back_open setup mine)) _
              (and_from _ _ (and_from _ _ (and_from _ _ st (not_from_false _ closed)) modified) (not_from_false _ write_back_closed)))
              (one_paid setup h (write_back_message setup s.op a mine) mine _ refl (λ credited. write_credit))
          | inr clean ↦ not_ready (or_right (is_early_or_written (stage setup a mine)) _ (and_from _ _ (and_from _ _ st (not_from_false _ closed)) (not_from_false _ clean)))
        ]

    -- a line at stage New
    new_stuck : stage setup a mine ≡ Stage.New → (found : Option Transaction) → open_at a mine ≡ found → ⊥
    new_stuck st None there = closed_stuck (ap is_some there) (ap is_new_or_late st)
    new_stuck st (Some o) there =
        host_act_not setup opening t h (Act.Conflict (record { 0 = a })) (one_send h (Message.BiConflict (record { 0 = o.tag }))) no_device no_conflict
        (ap (h7_conflict setup h a mine) there
        ∙ when_is (is_snooped a mine && is_new (stage setup a mine) && may_conflict o.kind) _ (and_from _ _ (and_from _ _ snooped (ap is_new st)) (may_declare a o there o.kind refl)))
        (one_paid setup h (Message.BiConflict (record { 0 = o.tag })) mine _ refl (λ credited. write_credit))

    late_stuck : stage setup a mine ≡ Stage.Late → (found : Option Transaction) → open_at a mine ≡ found → ⊥
    late_stuck st None there = closed_stuck (ap is_some there) (ap is_new_or_late st)
    late_stuck st (Some o) there = not_granted a o there (sym (ap was_completed there) ∙ late_is_completed setup opening h no_device mine own a snooped st)

    by_stage : (st : Stage) → stage setup a mine ≡ st → ⊥
    by_stage Stage.New st = new_stuck st (open_at a mine) refl
    by_stage (Stage.Asked u) st = conflict_closed u ((conflicts_kept setup opening h no_device mine own).asked a u st).still
    by_stage Stage.Early st = not_ready (or_left _ _ (ap is_early_or_written st))
    by_stage Stage.Late st = late_stuck st (open_at a mine) refl
    by_stage Stage.Writing st = false≢true (sym write_back_closed ∙ ((writes_kept setup opening h no_device mine own).written a st).still)
    by_stage Stage.Written st = not_ready (or_left _ _ (ap is_early_or_written st))

  line_stuck : (a : ℕ) (s : Snoop) → snoop_at a mine ≡ Some s → ⊥
  line_stuck a s is =
      let found = each_find (λ r. snoop_acts setup opening t h r ≡ []) (λ r. is_in a r.unanswered) (buffered_snoops mine) acts_of s is in
      let lines = (else_empty (block_acts setup opening t h s) (flat_map (line_acts setup opening t h) s.unanswered) found.0).1 in
      let line = each_in (λ b. line_acts setup opening t h b ≡ []) a s.unanswered (each_empty (line_acts setup opening t h) s.unanswered lines) found.1 in
      let three = else_empty (act_step setup opening t h (Act.Conflict (record { 0 = a }))) (or_else (act_step setup opening t h (Act.WriteBack (record { 0 = a }))) (act_step setup opening t h (Act.Answer (record { 0 = a })))) line in
      let two = else_empty (act_step setup opening t h (Act.WriteBack (record { 0 = a }))) (act_step setup opening t h (Act.Answer (record { 0 = a }))) three.1 in
      by_stage a s is three.0 two.0 two.1 (stage setup a mine) refl

  snooped_by : (a : ℕ) (found : Option Snoop) → snoop_at a mine ≡ found → is_some found ≡ false
  snooped_by a None is = refl
  snooped_by a (Some s) is = absurd (line_stuck a s is)

  -- no line is Snooped
  pub unsnooped : (a : ℕ) → is_snooped a mine ≡ false
  unsnooped a = snooped_by a (snoop_at a mine) refl
