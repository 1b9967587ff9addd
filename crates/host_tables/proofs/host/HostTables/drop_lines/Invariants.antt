-- The lines so far are dropped, the rest is to be.
use Rattle.std.proofs.Common.{drop, ◌≡◌}
use Rattle.host_tables.specs.Kept.{lines_dropped}
use Rattle.host_tables.proofs.host.HostTables.drop_lines.Given as goal

abbrev pub invariant-loop-line : goal.invariant-loop-line
invariant-loop-line l = record l.self { kept = lines_dropped (drop l.line-index l.lines) l.self.kept } ≡ record l.initial.self { kept = lines_dropped l.lines l.initial.self.kept }
