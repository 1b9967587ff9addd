-- What is read is what the grammar says.
use Rattle.std.proofs.Common.{arith}
use Rattle.cxl_codec.specs.NameRecord.{NameFits, name_cells}
use Rattle.cxl_codec.specs.ReadingFiles.{name_at}
use Rattle.cxl_codec.proofs.Meanings.{bytes_from, found, refused, rest_shorter}
use Rattle.cxl_codec.proofs.NameReads.{name_meets, name_short}
use Rattle.cxl_codec.proofs.names.decode_name.Goals as goal

pub held-requires : goal.held-requires
held-requires c =
    name_short _ (found NameFits name_cells name_at name_meets c.args.bytes.now (bytes_from c.args.bytes.now (λ i. omega (arith, c.type_inv.bytes i))) _ _ c.in-Ok.ensures).fits

pub overflow_sub-result : goal.overflow_sub-result
overflow_sub-result c =
    rest_shorter NameFits name_cells name_at name_meets c.args.bytes.now (bytes_from c.args.bytes.now (λ i. omega (arith, c.type_inv.bytes i))) _ _ c.in-Ok.ensures

pub refusal-requires : goal.refusal-requires
refusal-requires c =
    (refused NameFits name_cells name_at name_meets c.args.bytes.now (bytes_from c.args.bytes.now (λ i. omega (arith, c.type_inv.bytes i))) c.in-Err.fault c.in-Err.ensures).1

pub returns-in-Ok-clause-found : goal.returns-in-Ok-clause-found
returns-in-Ok-clause-found c =
    rw c.held.ensures (found NameFits name_cells name_at name_meets c.args.bytes.now (bytes_from c.args.bytes.now (λ i. omega (arith, c.type_inv.bytes i))) _ _ c.in-Ok.ensures)

pub returns-in-Err-clause-refused : goal.returns-in-Err-clause-refused
returns-in-Err-clause-refused c =
    rw c.refusal.ensures (refused NameFits name_cells name_at name_meets c.args.bytes.now (bytes_from c.args.bytes.now (λ i. omega (arith, c.type_inv.bytes i))) c.in-Err.fault c.in-Err.ensures).0
