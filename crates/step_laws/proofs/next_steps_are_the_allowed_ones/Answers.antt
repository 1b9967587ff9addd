-- Each clause is a law.
use Rattle.step_laws.proofs.Laws.{allowed_steps_are_next, next_steps_are_allowed, next_steps_are_counted}
use Rattle.step_laws.proofs.next_steps_are_the_allowed_ones.Goals as goal

pub returns-clause-counted : goal.returns-clause-counted
returns-clause-counted c = next_steps_are_counted

pub returns-clause-sound : goal.returns-clause-sound
returns-clause-sound c = next_steps_are_allowed

pub returns-clause-complete : goal.returns-clause-complete
returns-clause-complete c = allowed_steps_are_next
