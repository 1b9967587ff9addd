-- What is read is what the grammar says.
use Rattle.std.proofs.Common.{arith}
use Rattle.cxl_codec.specs.Header.{VersionedFits, versioned_cells}
use Rattle.cxl_codec.specs.ReadingFiles.{versioned_at}
use Rattle.cxl_codec.proofs.Meanings.{bytes_from, found, refused, rest_shorter}
use Rattle.cxl_codec.proofs.HeaderReads.{versioned_meets}
use Rattle.cxl_codec.proofs.headers.decode_header_in.Goals as goal

pub overflow_sub-result : goal.overflow_sub-result
overflow_sub-result c =
    rest_shorter VersionedFits versioned_cells versioned_at versioned_meets c.args.bytes.now (bytes_from c.args.bytes.now (λ i. omega (arith, c.type_inv.bytes i))) _ _ c.in-Ok.ensures

pub refusal-requires : goal.refusal-requires
refusal-requires c =
    (refused VersionedFits versioned_cells versioned_at versioned_meets c.args.bytes.now (bytes_from c.args.bytes.now (λ i. omega (arith, c.type_inv.bytes i))) c.in-Err.fault c.in-Err.ensures).1

pub returns-in-Ok-clause-found : goal.returns-in-Ok-clause-found
returns-in-Ok-clause-found c =
    found VersionedFits versioned_cells versioned_at versioned_meets c.args.bytes.now (bytes_from c.args.bytes.now (λ i. omega (arith, c.type_inv.bytes i))) _ _ c.in-Ok.ensures

pub returns-in-Err-clause-refused : goal.returns-in-Err-clause-refused
returns-in-Err-clause-refused c =
    rw c.refusal.ensures (refused VersionedFits versioned_cells versioned_at versioned_meets c.args.bytes.now (bytes_from c.args.bytes.now (λ i. omega (arith, c.type_inv.bytes i))) c.in-Err.fault c.in-Err.ensures).0
