-- Laws of the choices of a script, and of driving by number.
use Rattle.std.specs.Prelude.{List, Some, false, flat_map, if◌then◌else◌, length, nat_lt, slice_get, ℕ, ◌%◌, ◌+◌, ◌++◌, ◌-◌, ◌∷◌, ◌≡◌, ◌≤◌}
use Rattle.cxl_message.specs.declared.events.Event.{Event}
use Rattle.cxl_message.specs.declared.limits.TheConstants.{MAX_STREAMS}
use Rattle.cxl_message.specs.Script.{ScriptValue}
use Rattle.coherence_model.specs.Choices.{choices, is_done, stream_step, streams_of}
use Rattle.coherence_model.specs.Next.{next_steps}
use Rattle.coherence_model.specs.Runs.{IsRun}
use Rattle.bound_laws.specs.Laws.{most_next_steps}
use Rattle.driven_laws.specs.Reached.{IsOnTheWay, IsReached}
use Rattle.driven_laws.specs.Scripts.{IsDrivable}
use Rattle.choice_laws.specs.Answered.{GoesByNumber, next_answer}

-- the choices are the next steps, and then what each stream's host answers
abbrev pub ChoicesAreAnswered : Type 0
ChoicesAreAnswered =
    (script : ScriptValue) → IsDrivable script → (t : List Event)
    → choices script t ≡ next_steps script.setup script.opening t ++ flat_map (next_answer script t) (streams_of script)

-- after a run there are no more choices than next steps may be, and one of each stream
abbrev pub ChoicesAreFew : Type 0
ChoicesAreFew = (script : ScriptValue) → IsDrivable script → (t : List Event) → IsRun script.setup script.opening t → length (choices script t) ≤ most_next_steps + MAX_STREAMS

-- on the way and not done, the next pick's number goes on
abbrev pub WayGoesByNumber : Type 0
WayGoesByNumber = (script : ScriptValue) → IsDrivable script → (picks : List ℕ) (t : List Event) → IsOnTheWay script picks t → is_done script t ≡ false → GoesByNumber script picks t

-- the choice of any number modulo the count comes to a reached trace
abbrev pub AnyPickReaches : Type 0
AnyPickReaches =
    (script : ScriptValue) (p : ℕ) (t : List Event) (e : Event) → IsReached script t → slice_get (choices script t) (p % length (choices script t)) ≡ Some e → IsReached script (e ∷ t)

-- the choice at a place is the next step there, or past the next steps the stream's
abbrev pub ChoiceIsAtItsPlace : Type 0
ChoiceIsAtItsPlace =
    (script : ScriptValue) (t : List Event) (k : ℕ)
    → slice_get (choices script t) k
    ≡ (if nat_lt k (length (next_steps script.setup script.opening t)) then slice_get (next_steps script.setup script.opening t) k
    else slice_get (flat_map (stream_step script t) (streams_of script)) (k - length (next_steps script.setup script.opening t)))
