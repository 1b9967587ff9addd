-- The next steps are told, and each is what its agent answers.
use Rattle.next_laws.proofs.Steps.{next_steps_are_answered, next_steps_are_told}
use Rattle.next_laws.proofs.next_steps_are_told.Goals as goal

pub returns-clause-told : goal.returns-clause-told
returns-clause-told c = next_steps_are_told

pub returns-clause-answered : goal.returns-clause-answered
returns-clause-answered c = next_steps_are_answered
