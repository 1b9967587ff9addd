-- Driving event by event stays on the way to the driven trace.
use Rattle.std.proofs.Common.{◌≡◌, ℕ, zero, suc, ◌+◌, ◌-◌, ◌≤◌, true, List, [], ◌∷◌, length, Option, refl, ap, sym, ◌∙◌, arith}
use Rattle.cxl_message.specs.declared.events.Event.{Event}
use Rattle.cxl_message.specs.Script.{ScriptValue}
use Rattle.coherence_model.specs.Choices.{is_done}
use Rattle.coherence_model.specs.Driven.{driven_on, event_bound, go_on, pick_now, picks_left}
use Rattle.driven_laws.specs.Laws.{WayBegins, WayEnds, WayGoesOn}
use Rattle.driven_laws.specs.Reached.{IsReached}
use Rattle.driven_laws.proofs.Ending.{reached_is_short}
use Rattle.driven_laws.proofs.Reached.{driving_goes_on, driving_stops}

-- the empty trace is on the way
pub way_begins : WayBegins
way_begins script =
    let whole : event_bound script - 0 ≡ event_bound script = omega arith in
    record { reached = tt; comes = ap (λ (n : ℕ). driven_on n script script.picks []) whole }

-- one event less is left
left_with : (bound n : ℕ) → n + 1 ≤ bound → bound - n ≡ suc (bound - (n + 1))
left_with bound n le = omega arith

-- one more, written either way
one_longer : (bound n : ℕ) → suc n ≤ bound → n + 1 ≤ bound
one_longer bound n le = omega arith

-- what is left after one more, written either way
same_left : (bound n : ℕ) → bound - (n + 1) ≡ bound - suc n
same_left bound n = omega arith

-- one more picked event stays on the way
pub way_goes_on : WayGoesOn
way_goes_on script can picks t e way more picked =
    let reached : IsReached script (e ∷ t) = (way.reached, (pick_now picks, picked)) in
    let few = one_longer (event_bound script) (length t) (reached_is_short script can (e ∷ t) reached) in
    let left = event_bound script - (length t + 1) in
    record {
      reached = reached;
      comes = ap (λ (n : ℕ). driven_on n script (picks_left picks) (e ∷ t)) (sym (same_left (event_bound script) (length t)))
          ∙ sym (driving_goes_on script left picks t more ∙ ap (λ (o : Option Event). go_on o t (driven_on left script (picks_left picks))) picked)
          ∙ ap (λ (n : ℕ). driven_on n script picks t) (sym (left_with (event_bound script) (length t) few))
          ∙ way.comes;
    }

-- driving on from what is done changes nothing
stays_done : (script : ScriptValue) (n : ℕ) (picks : List ℕ) (t : List Event) → is_done script t ≡ true → driven_on n script picks t ≡ t
stays_done script zero picks t done = refl
stays_done script (suc n) picks t done = driving_stops script n picks t done

-- what is on the way and done is the driven trace
pub way_ends : WayEnds
way_ends script picks t way done = sym (stays_done script (event_bound script - length t) picks t done) ∙ way.comes
