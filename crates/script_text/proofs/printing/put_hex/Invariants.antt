use Rattle.std.proofs.Common.{◌≡◌, ◌++◌, drop}
use Rattle.script_text.specs.Spelling.{hex}
use Rattle.script_text.proofs.printing.put_hex.Given as goal

abbrev pub invariant-loop-byte : goal.invariant-loop-byte
invariant-loop-byte l = l.out.items ++ hex (drop l.byte-index l.bytes) ≡ l.fn.out.items ++ hex l.bytes
