-- The traces that driving a script comes to, whichever choices are picked.
use Rattle.std.specs.Prelude.{List, Some, [], length, ℕ, ◌-◌, ◌∷◌, ◌≡◌}
use Rattle.cxl_message.specs.declared.events.Event.{Event}
use Rattle.cxl_message.specs.Script.{ScriptValue}
use Rattle.coherence_model.specs.Choices.{choices}
use Rattle.coherence_model.specs.Driven.{driven_on, driven_trace, event_bound, pick_from}

-- some pick takes the event from the choices after a trace
abbrev pub IsPicked : ScriptValue → List Event → Event → Type 0
IsPicked script t e = (p : ℕ) × (pick_from p (choices script t) ≡ Some e)

-- a trace each event of which was picked from the choices after those before it
abbrev pub IsReached : ScriptValue → List Event → Type 0
IsReached script [] = Unit {0}
IsReached script (e ∷ past) = IsReached script past × IsPicked script past e

-- a reached trace from which driving on with the picks that are left comes to the driven trace
pub record IsOnTheWay (script : ScriptValue) (picks : List ℕ) (t : List Event) : Type 0 where
  pub reached : IsReached script t
  pub comes : driven_on (event_bound script - length t) script picks t ≡ driven_trace script
