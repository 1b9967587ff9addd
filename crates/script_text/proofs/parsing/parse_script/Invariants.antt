use Rattle.std.proofs.Common.{◌≡◌, ◌+◌, ◌≤◌, length}
use Rattle.script_text.specs.Drafts.{script_of, IsCounted}
use Rattle.script_text.specs.Spelling.{body_lines}
use Rattle.script_text.proofs.Readings.{Reads}
use Rattle.script_text.proofs.parsing.parse_script.Given as goal

abbrev pub invariant-loop-rest : goal.invariant-loop-rest
invariant-loop-rest l = record { reads : Reads l.fn.bytes (script_of l.draft) l.rest; counted : IsCounted l.draft; place : l.number ≡ 8 + length (body_lines (script_of l.draft)); room : l.number + length l.rest ≤ 8 + length l.fn.bytes }

abbrev pub decreases-loop-rest : goal.decreases-loop-rest
decreases-loop-rest l = length l.rest
