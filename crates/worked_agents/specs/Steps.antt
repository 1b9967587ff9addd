-- The steps of one agent under any peer: causes, and the answers that it gives to them.
use Rattle.std.specs.Prelude.{List, None, [], ℕ, ◌∷◌}
use Rattle.cxl_message.specs.declared.events.Cause.{Cause}
use Rattle.cxl_message.specs.declared.events.Event.{Event}
use Rattle.cxl_message.specs.declared.events.Op.{Op}
use Rattle.cxl_message.specs.declared.events.Sends.{Sends}
use Rattle.cxl_message.specs.declared.identifiers.Bytes64.{Bytes64}
use Rattle.cxl_message.specs.declared.messages.Message.{Message}
use Rattle.coherence_model.specs.Emission.{nothing, one_commit, one_send}
use Rattle.coherence_model.specs.Refusals.{Answer}
use Rattle.worked_runs.specs.Vocabulary.{out}

-- a cause and the answer to it
pub record Step : Type 0 where
  pub cause : Cause
  pub answer : Answer

-- a cause with its answer
abbrev pub step : Cause → Answer → Step
step cause answer = record { cause = cause; answer = answer }

-- the answer that sends nothing and commits nothing
abbrev pub quiet : Answer
quiet = Answer.Emits nothing

-- the answer that sends one message, to or from host h
abbrev pub sends : ℕ → Message → Answer
sends h m = Answer.Emits (one_send h m)

-- the answer that sends two messages, to or from host h
abbrev pub sends_two : ℕ → Message → Message → Answer
sends_two h m n = Answer.Emits (record { sends = Sends.Two (out h m) (out h n); commit = None })

-- the answer that commits operation i of stream s, with the line's bytes after it
abbrev pub commits : ℕ → ℕ → Op → Bytes64 → Answer
commits s i op value = Answer.Emits (one_commit s i op value)

-- the agent's own events after an answer, newest first: an emission is one more event, a refusal none
abbrev pub after_answer : ℕ → Cause → Answer → List Event → List Event
after_answer g cause (Answer.Emits w) mine = record { agent = g; cause = cause; sends = w.sends; commit = w.commit } ∷ mine
after_answer g cause Answer.NoSuchLine mine = mine
after_answer g cause Answer.Again mine = mine
after_answer g cause Answer.NoTag mine = mine
after_answer g cause Answer.NoWay mine = mine
after_answer g cause (Answer.NoCredit _) mine = mine
after_answer g cause (Answer.Broken _) mine = mine

-- the agent's own events after these steps, newest first
abbrev pub events_after : ℕ → List Event → List Step → List Event
events_after g mine [] = mine
events_after g mine (s ∷ steps) = events_after g (after_answer g s.cause s.answer mine) steps

-- the same causes with the answers that the agent gives, its own events being these at first
abbrev pub answered : ℕ → (Cause → List Event → Answer) → List Event → List Step → List Step
answered g agent mine [] = []
answered g agent mine (s ∷ steps) = let a = agent s.cause mine in step s.cause a ∷ answered g agent (after_answer g s.cause a mine) steps
