use Rattle.std.proofs.Common.{◌≡◌, arith, get_or, sym, ◌∙◌}
use Rattle.cxl_codec.specs.declared.fields.FieldName.{FieldName}
use Rattle.cxl_codec.specs.Reading.{letter}
use Rattle.cxl_codec.proofs.Runs.{goes_on, ends_short, ends_wrong, is_done, done_at, letter_taken, letter_refused}
use Rattle.cxl_codec.proofs.names.read_letters.Goals as goal

pub returns-then-bytes-i : goal.returns-then-bytes-i
returns-then-bytes-i c =
    ends_short FieldName.NameByte letter c.args.count c.loop-i.i c.args.bytes.now _ (omega arith) (omega arith) c.loop-i.invariant.1

pub returns-then-not-is_name_byte : goal.returns-then-not-is_name_byte
returns-then-not-is_name_byte c =
    ends_wrong FieldName.NameByte letter c.args.count c.loop-i.i c.args.bytes.now _ (omega arith) (omega arith) (letter_refused (get_or c.args.bytes.now c.loop-i.i 0) (sym c.is_name_byte.ensures ∙ c.if-not-is_name_byte.true)) c.loop-i.invariant.1

pub loop-i-preserved : goal.loop-i-preserved
loop-i-preserved c =
    (omega arith, goes_on FieldName.NameByte letter c.args.count c.loop-i.i c.args.bytes.now _ (omega arith) (omega arith) (letter_taken (get_or c.args.bytes.now c.loop-i.i 0) (sym c.is_name_byte.ensures ∙ c.if-not-is_name_byte.false)) c.loop-i.invariant.1)

pub returns : goal.returns
returns c =
    let i-is : c.loop-i.i ≡ c.args.count = omega arith in
    done_at _ _ _ c.args.bytes.now _ _ i-is c.split_at.ensures.front c.split_at.ensures.back
    (is_done FieldName.NameByte letter c.args.count c.loop-i.i c.args.bytes.now _ (omega arith) c.loop-i.invariant.1)
