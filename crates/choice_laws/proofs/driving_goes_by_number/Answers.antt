-- A pick takes the choice of its number.
use Rattle.choice_laws.proofs.Choices.{any_pick_reaches, choice_is_at_its_place, way_goes_by_number}
use Rattle.choice_laws.proofs.driving_goes_by_number.Goals as goal

pub returns-clause-goes : goal.returns-clause-goes
returns-clause-goes c = way_goes_by_number

pub returns-clause-any : goal.returns-clause-any
returns-clause-any c = any_pick_reaches

pub returns-clause-place : goal.returns-clause-place
returns-clause-place c = choice_is_at_its_place
