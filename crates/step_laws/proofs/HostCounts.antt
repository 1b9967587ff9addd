-- How often an act of a host stands among the acts of the hosts: once where its row holds.
use Rattle.std.proofs.Common.{◌≡◌, ℕ, ◌≤◌, Bool, true, false, List, [], Option, Some, cond, refl, sym, ◌∙◌, ap, subst, arith, inl, inr}
use Rattle.std.specs.Prelude.{◌==◌, ◌&&◌, not, is_some, flat_map}
use Rattle.std.proofs.lemmas.Bool.{and_parts, eqb-true, not-true, or_cases, leb-true, le-leb}
use Rattle.cxl_message.specs.declared.channels.Channel.{Channel}
use Rattle.cxl_message.specs.declared.events.Act.{Act}
use Rattle.cxl_message.specs.declared.events.Cause.{Cause}
use Rattle.cxl_message.specs.declared.events.Commit.{Commit}
use Rattle.cxl_message.specs.declared.events.Event.{Event}
use Rattle.cxl_message.specs.declared.events.Sends.{Sends}
use Rattle.cxl_message.specs.declared.identifiers.Bytes64.{Bytes64}
use Rattle.cxl_message.specs.declared.identifiers.Line.{Line}
use Rattle.cxl_message.specs.Codes.{span_len}
use Rattle.cxl_message.specs.Lists.{is_in}
use Rattle.cxl_message.specs.Setup.{Configuration}
use Rattle.coherence_model.specs.Cache.{is_modified}
use Rattle.coherence_model.specs.Fitting.{is_device}
use Rattle.coherence_model.specs.HostActs.{is_answered_alone, is_ready, may_answer_block}
use Rattle.coherence_model.specs.Next.{act_step, block_acts, host_return_channels, line_acts, snoop_acts}
use Rattle.coherence_model.specs.Rows.{row_holds}
use Rattle.coherence_model.specs.Snoops.{Snoop, buffered_snoops, is_snooped, is_whole_block, snoop_at}
use Rattle.coherence_model.specs.Stages.{is_new, stage}
use Rattle.coherence_model.specs.Traces.{events_of}
use Rattle.coherence_model.specs.Transactions.{is_open}
use Rattle.step_laws.specs.Events.{act_eq, event_eq}
use Rattle.step_laws.proofs.Counts.{each_both, each_weaker, counted, count_by-flat_map, find-is_some, list_any-count, sum_by-zeros}
use Rattle.step_laws.proofs.Events.{is_step}
use Rattle.step_laws.proofs.HeldSnoops.{SnoopFits, held_snoops_fit}
use Rattle.step_laws.proofs.HostRows.{WriteBackHolds, answer-holds, block-line, both_ways, conflict-open, ready_no_conflict, ready_no_write_back, whole_long, write_back-holds}
use Rattle.step_laws.proofs.LineActs.{empty-block, line-act-once}
use Rattle.step_laws.proofs.LoneSnoops.{has-less, held_count, held_once, line_count, snoop_at-alone, whole_block-alone}
use Rattle.coherence_model.specs.OwnRuns.{IsOwnRun}
use Rattle.step_laws.proofs.OwnRuns.{host-some}
use Rattle.std.proofs.lemmas.Option.{same_Some}
use Rattle.step_laws.proofs.Steps.{act_event, counted-one, three-first, three-none, three-second, three-third, no-host-act, or-none, times-act-none, times-own}
use Rattle.step_laws.proofs.Takes.{times}

-- an event that is none of the acts of host k for its snoops
pub record NoSnoopAct (e : Event) (k : ℕ) : Type 0 where
  pub conflict : (a : Line) → is_step e k (Cause.Act (Act.Conflict a)) ≡ false
  pub write_back : (a : Line) → is_step e k (Cause.Act (Act.WriteBack a)) ≡ false
  pub answer : (a : Line) → is_step e k (Cause.Act (Act.Answer a)) ≡ false
  pub block : (a : Line) → is_step e k (Cause.Act (Act.AnswerBlock a)) ≡ false

cond-none : (e : Event) (b : Bool) (xs : List Event) → times e xs ≡ 0 → times e (cond b xs []) ≡ 0
cond-none e true xs h = h
cond-none e false xs h = refl

pub block-none :
    (setup : Configuration) (opening : List (Line × Bytes64)) (t : List Event) (k : ℕ) (e : Event)
    → ((a : Line) → is_step e k (Cause.Act (Act.AnswerBlock a)) ≡ false) → (s : Snoop) → times e (block_acts setup opening t k s) ≡ 0
block-none setup opening t k e other s = cond-none e (is_whole_block s.first s) _
    (times-act-none setup opening t e k (Act.AnswerBlock (record { 0 = s.first })) (other (record { 0 = s.first })))

-- the list of an act for line a
abbrev pub on_line : Configuration → List (Line × Bytes64) → List Event → ℕ → (Line → Act) → ℕ → List Event
on_line setup opening t k act a = act_step setup opening t k (act (record { 0 = a }))

pub line-none :
    (setup : Configuration) (opening : List (Line × Bytes64)) (t : List Event) (k : ℕ) (e : Event) → NoSnoopAct e k → (a : ℕ)
    → times e (line_acts setup opening t k a) ≡ 0
line-none setup opening t k e other a =
    let line : Line = record { 0 = a } in
    three-none e (on_line setup opening t k Act.Conflict a) (on_line setup opening t k Act.WriteBack a) (on_line setup opening t k Act.Answer a)
    (times-act-none setup opening t e k (Act.Conflict line) (other.conflict line))
    (times-act-none setup opening t e k (Act.WriteBack line) (other.write_back line)) (times-act-none setup opening t e k (Act.Answer line) (other.answer line))

pub snoop_acts-none :
    (setup : Configuration) (opening : List (Line × Bytes64)) (t : List Event) (k : ℕ) (e : Event) → NoSnoopAct e k → (ss : List Snoop)
    → times e (flat_map (snoop_acts setup opening t k) ss) ≡ 0
snoop_acts-none setup opening t k e other ss =
    count_by-flat_map (event_eq e) (snoop_acts setup opening t k) ss
    ∙ sum_by-zeros _
    (λ s. or-none e (block_acts setup opening t k s) _ (block-none setup opening t k e other.block s)
    (count_by-flat_map (event_eq e) (line_acts setup opening t k) s.unanswered ∙ sum_by-zeros _ (line-none setup opening t k e other) s.unanswered)) ss

pub returns-none :
    (setup : Configuration) (opening : List (Line × Bytes64)) (t : List Event) (k : ℕ) (e : Event)
    → ((c : Channel) → is_step e k (Cause.Act (Act.HostReturn c)) ≡ false)
    → times e (flat_map (λ c. act_step setup opening t k (Act.HostReturn c)) host_return_channels) ≡ 0
returns-none setup opening t k e other =
    count_by-flat_map (event_eq e) (λ c. act_step setup opening t k (Act.HostReturn c)) host_return_channels
    ∙ sum_by-zeros _ (λ c. times-act-none setup opening t e k (Act.HostReturn c) (other c)) host_return_channels

-- what is known of a host of a run
pub record AtHost (setup : Configuration) (opening : List (Line × Bytes64)) (t : List Event) (g : ℕ) : Type 0 where
  pub host : is_device g ≡ false
  pub run : IsOwnRun setup opening g (events_of g t)

snooped-held : (a : ℕ) (mine : List Event) → is_snooped a mine ≡ true → 1 ≤ held_count a (buffered_snoops mine)
snooped-held a mine is =
    let some = leb-true 1 _ (sym (find-is_some (λ (s : Snoop). is_in a s.unanswered) (buffered_snoops mine)) ∙ is) in
    let less = has-less a (buffered_snoops mine) in
    omega arith

-- whether a line is left in a snoop
left-in : (a : ℕ) (s : Snoop) → 1 ≤ line_count a s → is_in a s.unanswered ≡ true
left-in a s one = list_any-count (λ b. a == b) s.unanswered ∙ le-leb 1 _ one

-- Conflict stands once where its row holds
pub conflict-counted :
    (setup : Configuration) (opening : List (Line × Bytes64)) (t : List Event) (g : ℕ) → AtHost setup opening t g
    → (line : Line) (sends : Sends) (commit : Option Commit)
    → times (act_event g (Act.Conflict line) sends commit) (flat_map (snoop_acts setup opening t g) (buffered_snoops (events_of g t))) ≡ counted
    (row_holds setup opening (act_event g (Act.Conflict line) sends commit) (events_of g t))
conflict-counted setup opening t g at line sends commit =
    let mine : List Event = events_of g t in
    let e : Event = act_event g (Act.Conflict line) sends commit in
    let row : Bool = row_holds setup opening e mine in
    let stands : (other : Act) → times e (act_step setup opening t g other) ≡ counted (act_eq (Act.Conflict line) other && row) = times-own setup opening t g (Act.Conflict line) sends commit in
    let says : row ≡ true → (is_snooped line.0 mine ≡ true) × (is_new (stage setup line.0 mine) ≡ true) × (is_open line.0 mine ≡ true) = λ is. conflict-open setup g line.0 mine (host-some setup opening e mine at.host is) in
    line-act-once setup opening t g line.0 e row (buffered_snoops mine)
    (λ b. three-first e (on_line setup opening t g Act.Conflict b) (on_line setup opening t g Act.WriteBack b) (on_line setup opening t g Act.Answer b)
    (stands (Act.WriteBack (record { 0 = b }))) (stands (Act.Answer (record { 0 = b }))) ∙ stands (Act.Conflict (record { 0 = b })))
    (block-none setup opening t g e (λ a. refl))
    (each_weaker _ _ (λ s found is one. empty-block setup opening t g s at.host
    (λ whole may. both_ways (is_open line.0 mine) (says is).2 (block-line setup line.0 mine s (found s.first whole) may one).0))
    (buffered_snoops mine) (whole_block-alone setup opening g mine at.host at.run))
    (held_once setup opening g mine at.host at.run line.0) (λ is. snooped-held line.0 mine (says is).0)

-- WriteBack stands once where its row holds
pub write_back-counted :
    (setup : Configuration) (opening : List (Line × Bytes64)) (t : List Event) (g : ℕ) → AtHost setup opening t g
    → (line : Line) (sends : Sends) (commit : Option Commit)
    → times (act_event g (Act.WriteBack line) sends commit) (flat_map (snoop_acts setup opening t g) (buffered_snoops (events_of g t))) ≡ counted
    (row_holds setup opening (act_event g (Act.WriteBack line) sends commit) (events_of g t))
write_back-counted setup opening t g at line sends commit =
    let mine : List Event = events_of g t in
    let e : Event = act_event g (Act.WriteBack line) sends commit in
    let row : Bool = row_holds setup opening e mine in
    let stands : (other : Act) → times e (act_step setup opening t g other) ≡ counted (act_eq (Act.WriteBack line) other && row) = times-own setup opening t g (Act.WriteBack line) sends commit in
    let says : row ≡ true → (s : Snoop) × (snoop_at line.0 mine ≡ Some s) × WriteBackHolds setup line.0 mine = λ is. write_back-holds setup g line.0 mine (snoop_at line.0 mine) (host-some setup opening e mine at.host is) in
    let alone : (b : ℕ) → 1 ≤ times e (on_line setup opening t g Act.WriteBack b) → on_line setup opening t g Act.Conflict b ≡ [] =
    λ b one.
    let parts = counted-one (line.0 == b) row (subst (λ n. 1 ≤ n) (stands (Act.WriteBack (record { 0 = b }))) one) in
    no-host-act setup opening t g (Act.Conflict (record { 0 = b })) at.host
    (λ some. both_ways (is_open b mine) (conflict-open setup g b mine some).2
    (subst (λ a. is_open a mine ≡ false) (eqb-true line.0 b parts.0) (says parts.1).2.closed)) in
    line-act-once setup opening t g line.0 e row (buffered_snoops mine)
    (λ b. three-second e (on_line setup opening t g Act.Conflict b) (on_line setup opening t g Act.WriteBack b) (on_line setup opening t g Act.Answer b)
    (stands (Act.Conflict (record { 0 = b }))) (stands (Act.Answer (record { 0 = b }))) (alone b) ∙ stands (Act.WriteBack (record { 0 = b })))
    (block-none setup opening t g e (λ a. refl))
    (each_weaker _ _ (λ s found is one. empty-block setup opening t g s at.host
    (λ whole may. both_ways (is_modified setup line.0 mine) (says is).2.modified (block-line setup line.0 mine s (found s.first whole) may one).1))
    (buffered_snoops mine) (whole_block-alone setup opening g mine at.host at.run))
    (held_once setup opening g mine at.host at.run line.0) (λ is. snooped-held line.0 mine (ap is_some (says is).1))

-- a line that is answered by itself is in no block that is answered at once
pub alone-no-block :
    (setup : Configuration) (s : Snoop) (mine : List Event) → SnoopFits setup s → is_answered_alone setup s mine ≡ true → is_whole_block s.first s ≡ true
    → may_answer_block setup s.first mine ≡ true → ⊥
alone-no-block setup s mine fits alone whole may =
    elim (or_cases (span_len s.span == 1) (not (may_answer_block setup s.first mine)) alone) [
      | inl short ↦ both_ways (span_len s.span == 1) short (whole_long s.op s.span fits.kind (and_parts _ _ (and_parts _ _ whole).0).0)
      | inr waits ↦ both_ways (may_answer_block setup s.first mine) may (not-true _ waits)
    ]

-- Answer stands once where its row holds
pub answer-counted :
    (setup : Configuration) (opening : List (Line × Bytes64)) (t : List Event) (g : ℕ) → AtHost setup opening t g
    → (line : Line) (sends : Sends) (commit : Option Commit)
    → times (act_event g (Act.Answer line) sends commit) (flat_map (snoop_acts setup opening t g) (buffered_snoops (events_of g t))) ≡ counted
    (row_holds setup opening (act_event g (Act.Answer line) sends commit) (events_of g t))
answer-counted setup opening t g at line sends commit =
    let mine : List Event = events_of g t in
    let e : Event = act_event g (Act.Answer line) sends commit in
    let row : Bool = row_holds setup opening e mine in
    let stands : (other : Act) → times e (act_step setup opening t g other) ≡ counted (act_eq (Act.Answer line) other && row) = times-own setup opening t g (Act.Answer line) sends commit in
    let says : row ≡ true → (s : Snoop) × (snoop_at line.0 mine ≡ Some s) × (is_ready setup line.0 mine ≡ true) × (is_answered_alone setup s mine ≡ true) = λ is. answer-holds setup g line.0 mine (snoop_at line.0 mine) (host-some setup opening e mine at.host is) in
    let here : (b : ℕ) → 1 ≤ times e (on_line setup opening t g Act.Answer b) → is_ready setup b mine ≡ true =
    λ b one.
    let parts = counted-one (line.0 == b) row (subst (λ n. 1 ≤ n) (stands (Act.Answer (record { 0 = b }))) one) in
    subst (λ a. is_ready setup a mine ≡ true) (eqb-true line.0 b parts.0) (says parts.1).2 in
    line-act-once setup opening t g line.0 e row (buffered_snoops mine)
    (λ b. three-third e (on_line setup opening t g Act.Conflict b) (on_line setup opening t g Act.WriteBack b) (on_line setup opening t g Act.Answer b)
    (stands (Act.Conflict (record { 0 = b }))) (stands (Act.WriteBack (record { 0 = b })))
    (λ one. no-host-act setup opening t g (Act.Conflict (record { 0 = b })) at.host
    (λ some. let c = conflict-open setup g b mine some in ready_no_conflict setup b mine (here b one) c.1 c.2))
    (λ one. no-host-act setup opening t g (Act.WriteBack (record { 0 = b })) at.host
    (λ some. ready_no_write_back setup b mine (here b one) (write_back-holds setup g b mine (snoop_at b mine) some).2))
    ∙ stands (Act.Answer (record { 0 = b })))
    (block-none setup opening t g e (λ a. refl))
    (each_both (λ (s : Snoop). (a : ℕ) → is_in a s.unanswered ≡ true → snoop_at a mine ≡ Some s) (SnoopFits setup) _
    (λ s found fits is one. empty-block setup opening t g s at.host
    (λ whole may. let same : (says is).0 ≡ s = same_Some _ _ (sym (says is).1 ∙ found line.0 (left-in line.0 s one)) in alone-no-block setup s mine fits (subst (λ r. is_answered_alone setup r mine ≡ true) same (says is).3) whole may))
    (buffered_snoops mine) (snoop_at-alone setup opening g mine at.host at.run) (held_snoops_fit setup opening g mine at.run))
    (held_once setup opening g mine at.host at.run line.0) (λ is. snooped-held line.0 mine (ap is_some (says is).1))
