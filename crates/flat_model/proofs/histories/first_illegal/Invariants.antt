-- The flat memory is that of a legal history, and the rest of the commits is judged from there.
use Rattle.std.proofs.Common.{List, drop, ◌≡◌, []}
use Rattle.cxl_message.specs.declared.events.Commit.{Commit}
use Rattle.flat_model.specs.Histories.{first_illegal_from, flat_lines}
use Rattle.flat_model.proofs.histories.first_illegal.Given as goal

abbrev pub invariant-loop-place : goal.invariant-loop-place
invariant-loop-place l =
    (older : List Commit) × (l.flat ≡ flat_lines l.setup.lines l.opening older)
    × (first_illegal_from l.setup.lines l.opening [] 0 l.commits ≡ first_illegal_from l.setup.lines l.opening older l.place (drop l.place l.commits))
