-- Laws of the agents' answers: what they say of the rows, and of the events of a whole trace.
use Rattle.std.specs.Prelude.{IsTrue, List, None, if◌then◌else◌, ℕ, ◌&&◌, ◌≡◌}
use Rattle.cxl_message.specs.declared.events.Cause.{Cause}
use Rattle.cxl_message.specs.declared.events.Event.{Event}
use Rattle.cxl_message.specs.declared.identifiers.Bytes64.{Bytes64}
use Rattle.cxl_message.specs.declared.identifiers.Line.{Line}
use Rattle.cxl_message.specs.Setup.{Configuration}
use Rattle.coherence_model.specs.Refusals.{Answer, cause_passes}
use Rattle.coherence_model.specs.Rows.{emission, rule_of}
use Rattle.coherence_model.specs.Rules.{k0_takeable, p0_profile, s0_stream_order}
use Rattle.coherence_model.specs.Runs.{first_broken, first_failure, is_allowed, own_half}
use Rattle.coherence_model.specs.Traces.{events_of}
use Rattle.answer_laws.specs.Answered.{agent_answer, emission_of, emitted_of, is_answered}

-- an agent emits what its row emits and its credits reach for, where the cause passes and comes in its stream's order, and refuses all else
abbrev pub AnswerIsRow : Type 0
AnswerIsRow =
    (setup : Configuration) (opening : List (Line × Bytes64)) (g : ℕ) (cause : Cause) (mine : List Event)
    → emitted_of (agent_answer setup opening g cause mine) ≡ (if cause_passes setup g cause && s0_stream_order cause mine then emission setup opening g cause mine else None)

-- the own half of an event holds exactly where the event keeps P0 and is what its agent answers
abbrev pub OwnHalfIsAnswered : Type 0
OwnHalfIsAnswered =
    (setup : Configuration) (opening : List (Line × Bytes64)) (e : Event) (mine : List Event)
    → own_half setup opening e mine ≡ p0_profile setup e && is_answered setup opening e mine

-- an event is allowed after a trace exactly where it keeps P0, what it takes may be taken, and it is what its agent answers after its own events there
abbrev pub AllowedIsAnswered : Type 0
AllowedIsAnswered =
    (setup : Configuration) (opening : List (Line × Bytes64)) (t : List Event) (e : Event)
    → is_allowed setup opening t e ≡ p0_profile setup e && k0_takeable e.cause t && is_answered setup opening e (events_of e.agent t)

-- then the answer is what the event sends and commits
abbrev pub AllowedIsEmitted : Type 0
AllowedIsEmitted =
    (setup : Configuration) (opening : List (Line × Bytes64)) (t : List Event) (e : Event)
    → IsTrue (is_allowed setup opening t e) → agent_answer setup opening e.agent e.cause (events_of e.agent t) ≡ Answer.Emits (emission_of e)

-- the first rule that an event breaks is P0, K0 or S0, tried in this order, or else the row of its cause where it isn't what its agent answers
abbrev pub FirstBrokenIsAnswered : Type 0
FirstBrokenIsAnswered =
    (setup : Configuration) (opening : List (Line × Bytes64)) (t : List Event) (e : Event)
    → first_broken setup opening t e
    ≡ first_failure (p0_profile setup e) (k0_takeable e.cause t) (s0_stream_order e.cause (events_of e.agent t)) (is_answered setup opening e (events_of e.agent t))
    (rule_of setup e.agent e.cause (events_of e.agent t))
