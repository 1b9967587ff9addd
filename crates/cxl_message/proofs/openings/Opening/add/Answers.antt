-- A line that comes after the last, with bytes that aren't all zero, keeps the lines in order.
use Rattle.std.proofs.Common.{◌≡◌, true, false, rules, is_ok}
use Rattle.cxl_message.specs.Codes.{bytes_eq}
use Rattle.cxl_message.specs.Opening.{is_after_last, zero_bytes}
use Rattle.cxl_message.proofs.Ascending.{opening_pushed}
use Rattle.cxl_message.proofs.openings.Opening.add.Goals as goal

pub invariant_of-self : goal.invariant_of-self
invariant_of-self c =
    let after : is_after_last c.self.inside.pairs.items c.args.line.0 ≡ true = search rules in
    let other : bytes_eq c.args.bytes.now zero_bytes ≡ false = search rules in
    opening_pushed (is_ok c.push.result) _ _ c.args.line c.args.bytes.now c.self.invariant after other c.push.ensures.items
