-- What the row of an act says at a host, and which acts exclude one another.
use Rattle.std.proofs.Common.{◌≡◌, ℕ, ◌≤◌, Bool, true, false, List, Option, Some, refl, sym, ◌∙◌, ap, inl, inr}
use Rattle.std.specs.Prelude.{◌==◌, ◌&&◌, not, is_some}
use Rattle.std.specs.List.{list_all}
use Rattle.std.specs.Option.{option_map_or}
use Rattle.std.proofs.lemmas.Bool.{and_parts, or_cases, not-true, false≢true}
use Rattle.cxl_message.specs.declared.channels.Channel.{Channel}
use Rattle.cxl_message.specs.declared.events.Event.{Event}
use Rattle.cxl_message.specs.declared.opcodes.SnpOp.{SnpOp}
use Rattle.cxl_message.specs.declared.opcodes.Span.{Span}
use Rattle.cxl_message.specs.Codes.{span_len}
use Rattle.cxl_message.specs.Profile.{snoop_in_profile}
use Rattle.cxl_message.specs.Setup.{Configuration}
use Rattle.coherence_model.specs.Cache.{is_modified}
use Rattle.coherence_model.specs.HostActs.{h10_return, h7_conflict, h8_write_back, h9_answer, h9_answer_block, host_returns, is_answered_alone, is_ready, may_answer_block, may_answer_in_block}
use Rattle.coherence_model.specs.Snoops.{Snoop, invalidates_block, is_snooped, whole_block_at}
use Rattle.coherence_model.specs.Stages.{Stage, is_early_or_written, is_new, is_new_or_late, stage}
use Rattle.coherence_model.specs.Transactions.{is_open, open_at}
use Rattle.step_laws.proofs.Counts.{each_from_all}
use Rattle.step_laws.proofs.LoneSnoops.{each_at, line_count}
use Rattle.coherence_lemmas.proofs.HostActs.{h10_return-inv, h7_conflict-inv, h8_write_back-inv, h9_answer-inv, h9_answer_block-inv}
use Rattle.coherence_lemmas.proofs.Options.{some_is}

-- H7: the line is Snooped at stage New, and Open
pub conflict-open :
    (setup : Configuration) (h a : ℕ) (mine : List Event) → is_some (h7_conflict setup h a mine (open_at a mine)) ≡ true
    → (is_snooped a mine ≡ true) × (is_new (stage setup a mine) ≡ true) × (is_open a mine ≡ true)
conflict-open setup h a mine some =
    let found = some_is (h7_conflict setup h a mine (open_at a mine)) some in
    let inv = h7_conflict-inv setup h a mine (open_at a mine) found.x found.found in
    (inv.snooped, inv.new, ap is_some inv.opened)

-- H8: a line at stage New or Late that isn't Open, with a modified copy
pub record WriteBackHolds (setup : Configuration) (a : ℕ) (mine : List Event) : Type 0 where
  pub stage : is_new_or_late (stage setup a mine) ≡ true
  pub closed : is_open a mine ≡ false
  pub modified : is_modified setup a mine ≡ true

pub write_back-holds :
    (setup : Configuration) (h a : ℕ) (mine : List Event) (snoop : Option Snoop) → is_some (h8_write_back setup h a mine snoop) ≡ true
    → (s : Snoop) × (snoop ≡ Some s) × WriteBackHolds setup a mine
write_back-holds setup h a mine snoop some =
    let found = some_is (h8_write_back setup h a mine snoop) some in
    let inv = h8_write_back-inv setup h a mine snoop found.x found.found in
    (inv.s, inv.snooped, record { stage = inv.new_or_late; closed = inv.closed; modified = inv.modified })

-- H9, Answer: the line is ready, and is answered by itself
pub answer-holds :
    (setup : Configuration) (h a : ℕ) (mine : List Event) (snoop : Option Snoop) → is_some (h9_answer setup h a mine snoop) ≡ true
    → (s : Snoop) × (snoop ≡ Some s) × (is_ready setup a mine ≡ true) × (is_answered_alone setup s mine ≡ true)
answer-holds setup h a mine snoop some =
    let found = some_is (h9_answer setup h a mine snoop) some in
    let inv = h9_answer-inv setup h a mine snoop found.x found.found in
    (inv.s, inv.snooped, inv.ready, inv.alone)

-- H9, AnswerBlock: the block may be answered at once
pub answer_block-holds :
    (setup : Configuration) (h a : ℕ) (mine : List Event) → is_some (h9_answer_block setup h a mine) ≡ true → may_answer_block setup a mine ≡ true
answer_block-holds setup h a mine some = let found = some_is (h9_answer_block setup h a mine) some in (h9_answer_block-inv setup h a mine found.x found.found).may

-- H10: the channel is one whose credits a host gives back
pub return-holds : (h : ℕ) (c : Channel) (mine : List Event) → is_some (h10_return h c mine) ≡ true → host_returns c ≡ true
return-holds h c mine some = let found = some_is (h10_return h c mine) some in (h10_return-inv h c mine found.x found.found).returns

-- a line of a whole block that may be answered at once is New, not Open, and its copy isn't M
pub block-line :
    (setup : Configuration) (a : ℕ) (mine : List Event) (s : Snoop) → whole_block_at s.first mine ≡ Some s → may_answer_block setup s.first mine ≡ true
    → 1 ≤ line_count a s → (is_open a mine ≡ false) × (is_modified setup a mine ≡ false)
block-line setup a mine s found may one =
    let all : list_all (may_answer_in_block setup mine) s.unanswered ≡ true = sym (ap (λ o. option_map_or (λ r. list_all (may_answer_in_block setup mine) r.unanswered) o false) found) ∙ may in
    let here = each_at (λ b. may_answer_in_block setup mine b ≡ true) a s.unanswered (each_from_all (may_answer_in_block setup mine) s.unanswered all) one in
    let p = and_parts _ _ here in
    (not-true _ (and_parts _ _ p.0).1, not-true _ p.1)

-- what a test can't say
pub both_ways : (b : Bool) → b ≡ true → b ≡ false → ⊥
both_ways b holds fails = false≢true (sym fails ∙ holds)

-- a whole block has more than one line
pub whole_long : (op : SnpOp) (span : Span) → snoop_in_profile op span ≡ true → invalidates_block op ≡ true → (span_len span == 1) ≡ false
whole_long SnpOp.Cur span kind whole = absurd (false≢true whole)
whole_long SnpOp.Dat span kind whole = absurd (false≢true whole)
whole_long SnpOp.Inv span kind whole = absurd (false≢true whole)
whole_long SnpOp.CurBlk span kind whole = absurd (false≢true whole)
whole_long SnpOp.DatBlk span kind whole = absurd (false≢true whole)
whole_long SnpOp.InvBlk Span.One kind whole = absurd (false≢true kind)
whole_long SnpOp.InvBlk Span.Two kind whole = refl
whole_long SnpOp.InvBlk Span.Four kind whole = refl

-- a line at stage New, New or Late, or Early or Written
new_or_early : (st : Stage) → is_new st ≡ true → is_early_or_written st ≡ true → ⊥
new_or_early Stage.New new early = false≢true early
new_or_early (Stage.Asked tag) new early = false≢true new
new_or_early Stage.Early new early = false≢true new
new_or_early Stage.Late new early = false≢true new
new_or_early Stage.Writing new early = false≢true new
new_or_early Stage.Written new early = false≢true new

late_or_early : (st : Stage) → is_new_or_late st ≡ true → is_early_or_written st ≡ true → ⊥
late_or_early Stage.New late early = false≢true early
late_or_early (Stage.Asked tag) late early = false≢true late
late_or_early Stage.Early late early = false≢true late
late_or_early Stage.Late late early = false≢true early
late_or_early Stage.Writing late early = false≢true late
late_or_early Stage.Written late early = false≢true late

-- a line that is ready isn't one for which a conflict may be declared, nor one to be written back
pub ready_no_conflict :
    (setup : Configuration) (a : ℕ) (mine : List Event) → is_ready setup a mine ≡ true → is_new (stage setup a mine) ≡ true → is_open a mine ≡ true → ⊥
ready_no_conflict setup a mine ready new opened =
    elim (or_cases (is_early_or_written (stage setup a mine))
    ((is_new_or_late (stage setup a mine) && not (is_open a mine)) && not (is_modified setup a mine)) ready) [
      | inl early ↦ new_or_early (stage setup a mine) new early
      | inr late ↦ both_ways (is_open a mine) opened (not-true _
          (and_parts _ _ (and_parts (is_new_or_late (stage setup a mine) && not (is_open a mine)) _ late).0).1)
    ]

pub ready_no_write_back : (setup : Configuration) (a : ℕ) (mine : List Event) → is_ready setup a mine ≡ true → WriteBackHolds setup a mine → ⊥
ready_no_write_back setup a mine ready written =
    elim (or_cases (is_early_or_written (stage setup a mine))
    ((is_new_or_late (stage setup a mine) && not (is_open a mine)) && not (is_modified setup a mine)) ready) [
      | inl early ↦ late_or_early (stage setup a mine) written.stage early
      | inr late ↦ both_ways (is_modified setup a mine) written.modified
          (not-true _ (and_parts (is_new_or_late (stage setup a mine) && not (is_open a mine)) _ late).1)
    ]
