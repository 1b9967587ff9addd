-- There are fewer lines each time.
use Rattle.device_changes.proofs.blocks.+unlist_lines.Given as goal

abbrev pub decreases-unlist_lines : goal.decreases-unlist_lines
decreases-unlist_lines l = l.count
