-- How often Conflict, WriteBack and Answer for a line, and AnswerBlock for a block, stand among the acts of a host for its snoops.
use Rattle.std.proofs.Common.{◌≡◌, ℕ, ◌≤◌, Bool, true, false, List, [], cond, refl, ◌∙◌, subst, arith}
use Rattle.std.specs.Prelude.{◌==◌, ◌&&◌, sum_by, flat_map}
use Rattle.cxl_message.specs.declared.events.Act.{Act}
use Rattle.cxl_message.specs.declared.events.Event.{Event}
use Rattle.cxl_message.specs.declared.identifiers.Bytes64.{Bytes64}
use Rattle.cxl_message.specs.declared.identifiers.Line.{Line}
use Rattle.cxl_message.specs.Setup.{Configuration}
use Rattle.coherence_model.specs.Fitting.{is_device}
use Rattle.coherence_model.specs.HostActs.{may_answer_block}
use Rattle.coherence_model.specs.Next.{block_acts, line_acts, snoop_acts}
use Rattle.coherence_model.specs.Snoops.{Snoop, is_whole_block}
use Rattle.coherence_model.specs.Traces.{events_of}
use Rattle.step_laws.specs.Events.{event_eq}
use Rattle.step_laws.proofs.Counts.{Each, each_holds, each_weaker, counted, count_by-flat_map, sum_by-same, sum_by-zeros}
use Rattle.step_laws.proofs.HostRows.{answer_block-holds}
use Rattle.step_laws.proofs.LoneSnoops.{held_count, line_count}
use Rattle.step_laws.proofs.Steps.{no-host-act, or-right}
use Rattle.step_laws.proofs.Takes.{times}

-- a block that may not be answered at once brings no act
block-step : (b : Bool) (xs : List Event) → (b ≡ true → xs ≡ []) → cond b xs [] ≡ []
block-step true xs h = h refl
block-step false xs h = refl

pub empty-block :
    (setup : Configuration) (opening : List (Line × Bytes64)) (t : List Event) (g : ℕ) (s : Snoop) → is_device g ≡ false
    → (is_whole_block s.first s ≡ true → may_answer_block setup s.first (events_of g t) ≡ true → ⊥) → block_acts setup opening t g s ≡ []
empty-block setup opening t g s host never =
    block-step (is_whole_block s.first s) _ (λ whole. no-host-act setup opening t g (Act.AnswerBlock (record { 0 = s.first })) host
    (λ some. never whole (answer_block-holds setup g s.first (events_of g t) some)))

-- a sum of what is counted only under a condition
pub sum-under : {X : Type 0} (b : Bool) (f : X → ℕ) (xs : List X) → sum_by (λ x. cond b (f x) 0) xs ≡ cond b (sum_by f xs) 0
sum-under true f xs = refl
sum-under false f xs = sum_by-zeros _ (λ x. refl) xs

pub under-counted : (b row : Bool) → counted (b && row) ≡ cond row (counted b) 0
under-counted true true = refl
under-counted true false = refl
under-counted false true = refl
under-counted false false = refl

under-one : (row : Bool) (n : ℕ) → 1 ≤ cond row n 0 → (row ≡ true) × (1 ≤ n)
under-one true n h = (refl, h)
under-one false n h = absurd (omega arith)

pub once-under : (row : Bool) (n : ℕ) → n ≤ 1 → (row ≡ true → 1 ≤ n) → cond row n 0 ≡ counted row
once-under true n few one = let o = one refl in omega arith
once-under false n few one = refl

-- an act for line a that stands where its row holds, at each line that is a, and at no block, stands once where its row holds
pub line-act-once : (setup : Configuration) (opening : List (Line × Bytes64)) (t : List Event) (g a : ℕ) (e : Event) (row : Bool) (ss : List Snoop)
    → ((b : ℕ) → times e (line_acts setup opening t g b) ≡ counted ((a == b) && row)) → ((s : Snoop) → times e (block_acts setup opening t g s) ≡ 0)
    → Each (λ s. row ≡ true → 1 ≤ line_count a s → block_acts setup opening t g s ≡ []) ss
    → held_count a ss ≤ 1 → (row ≡ true → 1 ≤ held_count a ss) → times e (flat_map (snoop_acts setup opening t g) ss) ≡ counted row
line-act-once setup opening t g a e row ss lines block empty few one =
    let of_lines : (s : Snoop) → times e (flat_map (line_acts setup opening t g) s.unanswered) ≡ cond row (line_count a s) 0 =
    λ s. count_by-flat_map (event_eq e) (line_acts setup opening t g) s.unanswered
    ∙ (sum_by-same _ (λ b. cond row (counted (a == b)) 0) s.unanswered (each_holds _ (λ b. lines b ∙ under-counted (a == b) row) s.unanswered)
    ∙ sum-under row (λ b. counted (a == b)) s.unanswered) in
    count_by-flat_map (event_eq e) (snoop_acts setup opening t g) ss
    ∙ (sum_by-same _ (λ s. cond row (line_count a s) 0) ss
    (each_weaker _ _ (λ s none. or-right e (block_acts setup opening t g s) (flat_map (line_acts setup opening t g) s.unanswered) (block s)
    (λ some. let parts = under-one row (line_count a s) (subst (λ n. 1 ≤ n) (of_lines s) some) in none parts.0 parts.1) ∙ of_lines s) ss empty)
    ∙ (sum-under row (line_count a) ss ∙ once-under row (held_count a ss) few one))
