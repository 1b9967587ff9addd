-- How long a run of seated agents can be.
use Rattle.std.proofs.Common.{◌≡◌, ◌≤◌, ◌<◌, ◌+◌, ◌*◌, ℕ, zero, suc, true, IsTrue, List, [], ◌∷◌, length, refl, ◌∙◌, ap, ⊎_elim, arith}
use Rattle.std.specs.Prelude.{nat_lt, ◌==◌}
use Rattle.std.specs.List.{list_all}
use Rattle.std.proofs.lemmas.Bool.{and_parts, cases_eq, eqb-true, ltb-true, or_cases}
use Rattle.cxl_message.specs.declared.events.Event.{Event}
use Rattle.coherence_model.specs.Traces.{events_of}
use Rattle.coherence_lemmas.proofs.OwnEvents.{events_of-foreign, events_of-own}
use Rattle.run_laws.proofs.OwnEvents.{is_other}
use Rattle.fabric_rule.specs.Board.{is_seated}

-- how many events the agents below n have
abbrev pub events_below : ℕ → List Event → ℕ
events_below zero t = 0
events_below (suc n) t = length (events_of n t) + events_below n t

below_past : (n : ℕ) (e : Event) (t : List Event) → n ≤ e.agent → events_below n (e ∷ t) ≡ events_below n t
below_past zero e t le = refl
below_past (suc n) e t le =
    let other = ap length (events_of-foreign n e t (is_other n e (λ h. omega arith))) in
    let rest = below_past n e t (omega arith) in
    omega (arith, other, rest)

below_in : (n : ℕ) (e : Event) (t : List Event) → e.agent < n → events_below n (e ∷ t) ≡ suc (events_below n t)
below_in zero e t lt = absurd (omega arith)
below_in (suc n) e t lt =
    ⊎_elim
    (λ (same : e.agent ≡ n).
    let own = ap length (events_of-own n e t same) in
    let rest = below_past n e t (omega (arith, same)) in
    omega (arith, own, rest))
    (λ (ne : e.agent ≡ n → ⊥).
    let other = ap length (events_of-foreign n e t (is_other n e ne)) in
    let rest = below_in n e t (omega (arith, ne)) in
    omega (arith, other, rest))
    (cases_eq e.agent n)

pub seated_below : (hosts g : ℕ) → hosts ≤ 16 → IsTrue (is_seated hosts g) → g < 17
seated_below hosts g le h =
    ⊎_elim
    (λ (is : (g == 16) ≡ true). let same = eqb-true g 16 is in omega (arith, same))
    (λ (is : nat_lt g hosts ≡ true). let lt = ltb-true g hosts is in omega (arith, lt))
    (or_cases (g == 16) (nat_lt g hosts) h)

counted : (hosts : ℕ) (t : List Event) → hosts ≤ 16 → IsTrue (list_all (λ e. is_seated hosts e.agent) t) → events_below 17 t ≡ length t
counted hosts [] le h = refl
counted hosts (e ∷ t) le h =
    let parts = and_parts (is_seated hosts e.agent) (list_all (λ f. is_seated hosts f.agent) t) h in
    below_in 17 e t (seated_below hosts e.agent le parts.0) ∙ ap suc (counted hosts t le parts.1)

most : (n room : ℕ) (t : List Event) → ((g : ℕ) → length (events_of g t) ≤ room) → events_below n t ≤ n * room
most zero room t h = omega arith
most (suc n) room t h =
    let rest = most n room t h in
    let here = h n in
    omega (arith, rest, here)

-- so the word never wraps
pub run_is_short : (hosts room : ℕ) (t : List Event) → hosts ≤ 16 → room ≤ 200000 → IsTrue (list_all (λ e. is_seated hosts e.agent) t) → ((g : ℕ) → length (events_of g t) ≤ room) → length t ≤ 3400000
run_is_short hosts room t few short seated rooms =
    let all = counted hosts t few seated in
    let up = most 17 room t rooms in
    omega (arith, all, up)
