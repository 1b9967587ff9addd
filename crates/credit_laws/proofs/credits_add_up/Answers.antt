-- By the balance of the totals.
use Rattle.credit_laws.proofs.Laws.{credits_add_up, credits_of_channels_add_up}
use Rattle.credit_laws.proofs.credits_add_up.Goals as goal

pub returns-clause-channels : goal.returns-clause-channels
returns-clause-channels c = credits_of_channels_add_up

pub returns-clause-setup : goal.returns-clause-setup
returns-clause-setup c = credits_add_up
