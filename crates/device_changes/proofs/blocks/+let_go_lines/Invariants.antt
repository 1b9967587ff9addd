-- There are fewer lines each time.
use Rattle.device_changes.proofs.blocks.+let_go_lines.Given as goal

abbrev pub decreases-let_go_lines : goal.decreases-let_go_lines
decreases-let_go_lines l = l.count
