-- What an operation makes of the 64 bytes of its line.
use Rattle.std.specs.Prelude.{drop, take, ℕ, ◌*◌, ◌++◌, ◌+◌}
use Rattle.std.specs.Int.{to_be_bytes, w64}
use Rattle.cxl_message.specs.declared.events.Op.{Op}
use Rattle.cxl_message.specs.declared.identifiers.Bytes64.{Bytes64}

-- the bytes with the 8 from `8 * place` replaced, the highest byte of the value first (own rule)
abbrev pub with_word : Bytes64 → ℕ → ℕ → Bytes64
with_word bytes place value = record { 0 = take (8 * place) bytes.0 ++ to_be_bytes w64 value ++ drop (8 * place + 8) bytes.0 }

-- the line after an operation on it: a Load leaves it, a Word replaces 8 bytes, a Whole replaces all (own rule)
abbrev pub line_after : Op → Bytes64 → Bytes64
line_after (Op.Load _) bytes = bytes
line_after (Op.Word _ place value) bytes = with_word bytes place value
line_after (Op.Whole _ whole) bytes = whole
