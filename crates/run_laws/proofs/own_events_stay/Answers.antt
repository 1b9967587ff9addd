-- By counting the agent's events.
use Rattle.run_laws.proofs.OwnEvents.{others_leave_numbers, same_numbers_mean_others, same_own_means_others}
use Rattle.run_laws.proofs.own_events_stay.Goals as goal

pub returns-clause-numbers : goal.returns-clause-numbers
returns-clause-numbers c = others_leave_numbers

pub returns-clause-same_events : goal.returns-clause-same_events
returns-clause-same_events c = same_own_means_others

pub returns-clause-same_numbers : goal.returns-clause-same_numbers
returns-clause-same_numbers c = same_numbers_mean_others
