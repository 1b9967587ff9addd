use Rattle.std.proofs.Common.{◌≡◌, ◌*◌, length, take, drop}
use Rattle.script_text.specs.Words.{bytes_in}
use Rattle.script_text.proofs.Digits.{after_bytes}
use Rattle.script_text.proofs.words.bytes_of.Given as goal

abbrev pub invariant-loop-i : goal.invariant-loop-i
invariant-loop-i g l = record { whole : length l.bytes ≡ l.i-end; so_far : bytes_in l.word ≡ after_bytes (take l.i l.bytes) (bytes_in (drop (2 * l.i) l.word)) }
