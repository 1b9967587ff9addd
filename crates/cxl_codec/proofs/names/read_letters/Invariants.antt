use Rattle.std.proofs.Common.{◌≡◌, ◌≤◌, ◌-◌, length, take, drop}
use Rattle.cxl_codec.specs.declared.fields.FieldName.{FieldName}
use Rattle.cxl_codec.specs.Reading.{bytes_at, letter}
use Rattle.cxl_codec.proofs.Runs.{with_front}
use Rattle.cxl_codec.proofs.names.read_letters.Given as goal

abbrev pub invariant-loop-i : goal.invariant-loop-i
invariant-loop-i l = (l.i ≤ length l.bytes) × (with_front (take l.i l.bytes) (bytes_at FieldName.NameByte letter (l.count - l.i) (drop l.i l.bytes)) ≡ bytes_at FieldName.NameByte letter l.count l.bytes)
