-- By the answer to each stream.
use Rattle.choice_laws.proofs.Choices.{choices_are_answered, choices_are_few}
use Rattle.choice_laws.proofs.choices_are_answered.Goals as goal

pub returns-clause-answered : goal.returns-clause-answered
returns-clause-answered c = choices_are_answered

pub returns-clause-few : goal.returns-clause-few
returns-clause-few c = choices_are_few
