-- Renumbered lines are the same where the lines are.
use Rattle.history_laws.proofs.Renumbered.{renumbered_flat_line, renumbered_is_legal}
use Rattle.history_laws.proofs.histories_are_renumbered.Goals as goal

pub returns-clause-flat : goal.returns-clause-flat
returns-clause-flat c = renumbered_flat_line

pub returns-clause-legal : goal.returns-clause-legal
returns-clause-legal c = renumbered_is_legal
