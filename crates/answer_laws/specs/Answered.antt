-- What the agents' answers emit, for their own events.
use Rattle.std.specs.Prelude.{Bool, List, None, Option, Some, false, if◌then◌else◌, option_map, option_to_list, ℕ}
use Rattle.std.specs.Option.{option_map_or}
use Rattle.cxl_message.specs.declared.events.Cause.{Cause}
use Rattle.cxl_message.specs.declared.events.Event.{Event}
use Rattle.cxl_message.specs.declared.identifiers.Bytes64.{Bytes64}
use Rattle.cxl_message.specs.declared.identifiers.Line.{Line}
use Rattle.cxl_message.specs.Setup.{Configuration}
use Rattle.coherence_model.specs.Emission.{Emission}
use Rattle.coherence_model.specs.Fitting.{is_device}
use Rattle.coherence_model.specs.Next.{event_with}
use Rattle.coherence_model.specs.Refusals.{Answer, device_answer, host_answer}
use Rattle.coherence_model.specs.Rows.{is_emitted}

-- what an answer emits, or None where it is a refusal (own rule)
abbrev pub emitted_of : Answer → Option Emission
emitted_of (Answer.Emits w) = Some w
emitted_of Answer.NoSuchLine = None
emitted_of Answer.Again = None
emitted_of Answer.NoTag = None
emitted_of Answer.NoWay = None
emitted_of (Answer.NoCredit c) = None
emitted_of (Answer.Broken rule) = None

-- the step that an answer gives: its event, or none where it is a refusal (own rule)
abbrev pub answered_steps : ℕ → Cause → Answer → List Event
answered_steps g cause answer = option_to_list (option_map (event_with g cause) (emitted_of answer))

-- what an agent answers to a cause after its own events (own rule)
abbrev pub agent_answer : Configuration → List (Line × Bytes64) → ℕ → Cause → List Event → Answer
agent_answer setup opening g cause mine = if is_device g then device_answer setup opening cause mine else host_answer setup g cause mine

-- what an event sends and commits (own rule)
abbrev pub emission_of : Event → Emission
emission_of e = record { sends = e.sends; commit = e.commit }

-- whether an event sends and commits just what an answer emits (own rule)
abbrev pub is_by_answer : Event → Answer → Bool
is_by_answer e answer = option_map_or (is_emitted e) (emitted_of answer) false

-- whether an event is what its agent answers to its cause after its own events (own rule)
abbrev pub is_answered : Configuration → List (Line × Bytes64) → Event → List Event → Bool
is_answered setup opening e mine = is_by_answer e (agent_answer setup opening e.agent e.cause mine)
