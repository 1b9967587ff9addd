-- The bytes of a payload are bytes of the vector that has them now.
use Rattle.std.proofs.Common.{arith, subst}
use Rattle.cxl_codec.proofs.Outcomes.{IsBytes, IsBytes-rest}
use Rattle.cxl_codec.proofs.writing.put_payload.Goals as goal

pub returns-clause-range : goal.returns-clause-range
returns-clause-range c = record {
  count = omega arith;
  each = IsBytes-rest c.args.out.now.items c.args.bytes.now (subst IsBytes c.put.ensures.items c.type_inv.out);
}
