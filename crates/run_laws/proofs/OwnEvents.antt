-- An agent's events, its numbered events and the commits where a trace goes on, and the agents of a run.
use Rattle.std.proofs.Common.{◌≡◌, ◌≤◌, ℕ, Bool, true, false, IsTrue, List, [], ◌∷◌, ◌++◌, cond, length, map, refl, sym, ◌∙◌, ap, ⊎_elim, append_assoc, arith}
use Rattle.std.specs.Prelude.{option_to_list, ◌==◌, ◌||◌}
use Rattle.std.specs.List.{list_all}
use Rattle.std.proofs.lemmas.Bool.{and_from, and_parts, cases_eq, cond-false, ne_eqb, not-true, not_from_false}
use Rattle.cxl_message.specs.declared.events.Event.{Event}
use Rattle.coherence_model.specs.Fitting.{is_device, is_host}
use Rattle.coherence_model.specs.Runs.{is_allowed, is_run}
use Rattle.coherence_model.specs.Traces.{events_of, history}
use Rattle.coherence_lemmas.proofs.Allowed.{allowed_parts}
use Rattle.coherence_lemmas.proofs.OwnEvents.{events_of-foreign, events_of-own, is_foreign}
use Rattle.run_laws.specs.OwnEvents.{EventsOfAppend, HistoryOfAppend, OthersLeaveNumbers, RunHasAgents, SameNumbersMeanOthers, SameOwnMeansOthers}
use Rattle.run_laws.proofs.Numbers.{numbered_are_own}

-- one more event in front, or none
append_step : (own : Bool) (e : Event) (xs ys zs : List Event) → xs ≡ ys ++ zs → cond own (e ∷ xs) xs ≡ cond own (e ∷ ys) ys ++ zs
append_step true e xs ys zs h = ap (λ es. e ∷ es) h
append_step false e xs ys zs h = h

pub events_of_append : EventsOfAppend
events_of_append g [] past = refl
events_of_append g (e ∷ later) past =
    append_step (e.agent == g) e (events_of g (later ++ past)) (events_of g later) (events_of g past) (events_of_append g later past)

pub history_of_append : HistoryOfAppend
history_of_append [] past = refl
history_of_append (e ∷ later) past =
    ap (λ cs. option_to_list e.commit ++ cs) (history_of_append later past) ∙ sym (append_assoc (option_to_list e.commit) (history later) (history past))

pub others_leave_numbers : OthersLeaveNumbers
others_leave_numbers g [] past h = refl
others_leave_numbers g (f ∷ later) past h =
    let parts = and_parts (is_foreign g f) (list_all (is_foreign g) later) h in
    cond-false (f.agent == g) _ _ (not-true _ parts.0) ∙ others_leave_numbers g later past parts.1

-- an event of another agent
pub is_other : (g : ℕ) (e : Event) → (e.agent ≡ g → ⊥) → IsTrue (is_foreign g e)
is_other g e ne = not_from_false (e.agent == g) (ne_eqb e.agent g ne)

-- an agent never has fewer events
no_fewer : (g : ℕ) (later past : List Event) → length (events_of g past) ≤ length (events_of g (later ++ past))
no_fewer g [] past = omega arith
no_fewer g (f ∷ later) past =
    let old = no_fewer g later past in
    ⊎_elim
    (λ (same : f.agent ≡ g). let own = ap length (events_of-own g f (later ++ past) same) in omega (arith, own, old))
    (λ (ne : f.agent ≡ g → ⊥). let other = ap length (events_of-foreign g f (later ++ past) (is_other g f ne)) in omega (arith, other, old))
    (cases_eq f.agent g)

pub same_own_means_others : SameOwnMeansOthers
same_own_means_others g [] past h = refl
same_own_means_others g (f ∷ later) past h =
    let old = no_fewer g later past in
    let count : length (events_of g ((f ∷ later) ++ past)) ≡ length (events_of g past) = ap length h in
    ⊎_elim
    (λ (same : f.agent ≡ g). let own = ap length (events_of-own g f (later ++ past) same) in absurd (omega (arith, own, old, count)))
    (λ (ne : f.agent ≡ g → ⊥).
    let other = is_other g f ne in
    and_from _ _ other (same_own_means_others g later past (sym (events_of-foreign g f (later ++ past) other) ∙ h)))
    (cases_eq f.agent g)

pub same_numbers_mean_others : SameNumbersMeanOthers
same_numbers_mean_others g later past h =
    same_own_means_others g later past (sym (numbered_are_own g (later ++ past)) ∙ ap (map (λ (p : ℕ × Event). p.1)) h ∙ numbered_are_own g past)

pub run_has_agents : RunHasAgents
run_has_agents setup opening [] run = refl
run_has_agents setup opening (e ∷ past) run =
    let runs = and_parts (is_run setup opening past) (is_allowed setup opening past e) run in
    and_from (is_device e.agent || is_host setup e.agent) (list_all (λ f. is_device f.agent || is_host setup f.agent) past)
    (allowed_parts setup opening past e runs.1).profile.agent (run_has_agents setup opening past runs.0)
