-- By the balance of the totals.
use Rattle.credit_laws.proofs.Laws.{buffered_and_owed_are_held, held_within_credits, returned_were_taken, sent_within_credits}
use Rattle.credit_laws.proofs.credits_bound_messages.Goals as goal

pub returns-clause-sent : goal.returns-clause-sent
returns-clause-sent c = sent_within_credits

pub returns-clause-returned : goal.returns-clause-returned
returns-clause-returned c = returned_were_taken

pub returns-clause-held : goal.returns-clause-held
returns-clause-held c = held_within_credits

pub returns-clause-owed : goal.returns-clause-owed
returns-clause-owed c = buffered_and_owed_are_held
