-- The bytes of a name are its own.
use Rattle.std.proofs.Common.{arith, sym}
use Rattle.std.proofs.lemmas.Grind.{common_steps}
use Rattle.cxl_codec.specs.declared.fields.FieldName.{FieldName}
use Rattle.cxl_codec.proofs.CellBytes.{bytes_of_field, put_both}
use Rattle.cxl_codec.proofs.names.encode_name.Goals as goal

pub returns-clause-ok : goal.returns-clause-ok
returns-clause-ok c =
    let both = put_both _ _ _ _ _ _ _ c.in_ok-reserve.ensures.items c.put.ensures.items c.put-2.ensures.items (sym (bytes_of_field FieldName.NameByte c.args.name.now)) in
    grind (arith, common_steps, both)
