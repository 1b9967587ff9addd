use Rattle.std.proofs.Common.{◌≡◌, ◌≤◌, length, vec_capacity, ap, arith, sym}
use Rattle.std.specs.List.{range_with_len}
use Rattle.std.proofs.lemmas.List.FromFn.{length-range_with_len}
use Rattle.line_pool.proofs.Regions.{IsSound-opened}
use Rattle.line_pool.proofs.Seen.{seen-opened}
use Rattle.line_pool.proofs.pools.LinePool.open.Goals as goal

pub invariant_of-result : goal.invariant_of-result
invariant_of-result c =
    let numbers : c.in_ok-free.free.items ≡ range_with_len 0 c.args.slots = c.in_ok-free.ensures in
    let count : length c.in_ok-lines.lines.items ≡ c.args.slots = omega (arith, c.in_ok-lines.ensures.len, c.in_ok-lines.lines.ok.0) in
    let room : c.args.slots ≤ vec_capacity c.in_ok-free.free =
    omega (arith, ap length numbers, length-range_with_len 0 c.args.slots, c.in_ok-free.free.ok.0, c.in_ok-free.free.ok.1) in
    IsSound-opened c.args.slots _ _ _ _ numbers count (sym c.in_ok-lines.lines.ok.0) c.requires room

pub returns : goal.returns
returns c =
    let numbers : c.in_ok-free.free.items ≡ range_with_len 0 c.args.slots = c.in_ok-free.ensures in
    let count : length c.in_ok-lines.lines.items ≡ c.args.slots = omega (arith, c.in_ok-lines.ensures.len, c.in_ok-lines.lines.ok.0) in
    record { opened = seen-opened c.args.slots _ _ _ _ numbers count (sym c.in_ok-lines.lines.ok.0) c.requires (omega (arith, ap length numbers, length-range_with_len 0 c.args.slots, c.in_ok-free.free.ok.0)) }
