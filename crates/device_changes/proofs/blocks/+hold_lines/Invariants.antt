-- There are fewer lines each time.
use Rattle.device_changes.proofs.blocks.+hold_lines.Given as goal

abbrev pub decreases-hold_lines : goal.decreases-hold_lines
decreases-hold_lines l = l.count
