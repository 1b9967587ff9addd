-- By the balance of the totals.
use Rattle.credit_laws.proofs.Laws.{returned_are_earned_or_in_flight, sent_are_taken_or_in_flight}
use Rattle.credit_laws.proofs.nothing_is_lost.Goals as goal

pub returns-clause-messages : goal.returns-clause-messages
returns-clause-messages c = sent_are_taken_or_in_flight

pub returns-clause-credits : goal.returns-clause-credits
returns-clause-credits c = returned_are_earned_or_in_flight
