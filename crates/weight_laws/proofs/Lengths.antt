-- A run has no more events than its operations allow: the weight and the length together grow by operations alone.
use Rattle.std.proofs.Common.{◌≡◌, ℕ, suc, ◌+◌, ◌-◌, ◌*◌, ◌≤◌, Bool, true, false, List, [], ◌∷◌, cond, count_by, length, sum_by, refl, sym, subst, arith}
use Rattle.std.specs.Prelude.{if◌then◌else◌, nat_le, nat_lt}
use Rattle.std.proofs.lemmas.Bool.{and_parts, leb-true, ltb-true}
use Rattle.cxl_message.specs.declared.events.Event.{Event}
use Rattle.cxl_message.specs.declared.identifiers.Bytes64.{Bytes64}
use Rattle.cxl_message.specs.declared.identifiers.Line.{Line}
use Rattle.cxl_message.specs.Lists.{below}
use Rattle.cxl_message.specs.Setup.{Configuration, IsWithinLimits}
use Rattle.coherence_model.specs.DirectoryChanges.{directory}
use Rattle.coherence_model.specs.Next.{channels}
use Rattle.coherence_model.specs.Runs.{IsRun, is_allowed, is_run}
use Rattle.coherence_model.specs.Traces.{events_of}
use Rattle.coherence_model.specs.Weight.{buffers_weight, channel_weight, host_weight, is_operation, task_weight, weight}
use Rattle.step_laws.proofs.Counts.{count_by-cons, sum_by-zeros}
use Rattle.weight_laws.proofs.Weights.{weights_are_bounded}
use Rattle.weight_laws.specs.Laws.{RunsAreShort}

-- nothing weighs anything at first
first_weight : (setup : Configuration) → weight setup [] ≡ 0
first_weight setup =
    let flight = sum_by-zeros (λ h. sum_by (channel_weight setup [] h) channels) (λ h. refl) (below setup.hosts) in
    let hosts = sum_by-zeros (λ h. host_weight setup h (events_of h [])) (λ h. refl) (below setup.hosts) in
    let buffers = sum_by-zeros (buffers_weight setup []) (λ h. refl) (below setup.hosts) in
    let tasks = sum_by-zeros (task_weight setup (directory setup []) []) (λ a. refl) (below setup.lines) in
    sums _ _ _ _ flight hosts buffers tasks
  where
    sums : (f h b t : ℕ) → f ≡ 0 → h ≡ 0 → b ≡ 0 → t ≡ 0 → f + h + (b + t) ≡ 0
    sums f h b t ef eh eb et = omega arith

-- one more operation, and one more of another kind
more : (k w w' n ops : ℕ) → w' ≤ w + (k - 1) → 1 ≤ k → w + n ≤ k * ops → w' + suc n ≤ k * (1 + ops)
more k w w' n ops raised some old = omega (arith, raised, some, old)

fewer : (k w w' n ops : ℕ) → suc w' ≤ w → w + n ≤ k * ops → w' + suc n ≤ k * (0 + ops)
fewer k w w' n ops lowered old = omega (arith, lowered, old)

-- the weight and the number of events together
pub weight_and_length : (setup : Configuration) (opening : List (Line × Bytes64)) → IsWithinLimits setup → (t : List Event) → IsRun setup opening t → weight setup t + length t ≤ (108 * setup.hosts - 3) * count_by (λ (e : Event). is_operation e.cause) t
weight_and_length setup opening limits [] run = let none = first_weight setup in omega arith
weight_and_length setup opening limits (e ∷ past) run =
    let runs = and_parts (is_run setup opening past) (is_allowed setup opening past e) run in
    subst (λ ops. weight setup (e ∷ past) + suc (length past) ≤ (108 * setup.hosts - 3) * ops) (sym (count_by-cons (λ (x : Event). is_operation x.cause) e past))
    (grown setup limits.hosts.0 e past (is_operation e.cause) (weights_are_bounded setup opening limits past e run) (weight_and_length setup opening limits past runs.0))
  where
    grown : (setup : Configuration) → 1 ≤ setup.hosts → (e : Event) (past : List Event) (operation : Bool)
        → (if operation then nat_le (weight setup (e ∷ past)) (weight setup past + (108 * setup.hosts - 4)) else nat_lt (weight setup (e ∷ past)) (weight setup past)) ≡ true
        → weight setup past + length past ≤ (108 * setup.hosts - 3) * count_by (λ (x : Event). is_operation x.cause) past
        → weight setup (e ∷ past) + suc (length past) ≤ (108 * setup.hosts - 3) * (cond operation 1 0 + count_by (λ (x : Event). is_operation x.cause) past)
    grown setup some e past true bounded old =
        let raised = leb-true (weight setup (e ∷ past)) (weight setup past + (108 * setup.hosts - 4)) bounded in
        more (108 * setup.hosts - 3) (weight setup past) (weight setup (e ∷ past)) (length past) (count_by (λ (x : Event). is_operation x.cause) past) (omega arith) (omega arith) old
    grown setup some e past false bounded old =
        let lowered = ltb-true (weight setup (e ∷ past)) (weight setup past) bounded in
        fewer (108 * setup.hosts - 3) (weight setup past) (weight setup (e ∷ past)) (length past) (count_by (λ (x : Event). is_operation x.cause) past) (omega arith) old

pub runs_are_short : RunsAreShort
runs_are_short setup opening limits t run = let both = weight_and_length setup opening limits t run in below_sum (weight setup t) (length t) _ both
  where
    below_sum : (w n k : ℕ) → w + n ≤ k → n ≤ k
    below_sum w n k h = omega arith
