use Rattle.std.proofs.Common.{◌≡◌, ◌-◌, ◌<◌, length, take, drop, arith, take_all, length-drop, ap, ◌∙◌}
use Rattle.outside_io.proofs.Bytes.{Appends-take}
use Rattle.outside_io.proofs.whole.write_all.Goals as goal

pub loop-gone-preserved : goal.loop-gone-preserved
loop-gone-preserved g c =
    let before = c.loop-gone.invariant in
    let write = c.in-Ok.ensures in
    let bytes = c.args.bytes.now in
    let gone = c.loop-gone.gone in
    let behind : length (drop gone bytes) ≡ length bytes - gone = length-drop gone bytes in
    let rest : take (length bytes - gone) (drop gone bytes) ≡ drop gone bytes = take_all _ _ (omega arith) in
    let size : length (take (length bytes - gone) (drop gone bytes)) ≡ length bytes - gone = ap length rest ∙ behind in
    let some : 0 < c.in-Ok.count = write.progress (omega arith) in
    record {
      in_range = omega (arith, before.in_range, write.within);
      went = Appends-take _ _ _ bytes _ gone c.in-Ok.count before.went write.bytes rest;
      faults = write.cause.kept ∙ before.faults;
      counts = record {
        later = omega (arith, before.counts.later, write.counts.later);
        bound = omega (arith, before.counts.bound, write.counts.bound);
      };
    }
