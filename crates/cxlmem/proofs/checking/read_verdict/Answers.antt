-- The checker was fed what was read.
use Rattle.std.proofs.Common.{arith, length, length-append, take, ◌++◌, ◌+◌, ◌≡◌, ◌∙◌}
use Rattle.std.proofs.KnownBytes.{Consumes-trans}
use Rattle.std.proofs.lemmas.List.{length-take-le}
use Rattle.cxlmem.specs.Checks.{trace_limit}
use Rattle.cxlmem.proofs.Inputs.{over_limit}
use Rattle.cxlmem.proofs.checking.read_verdict.Goals as goal

pub returns-then-count-room-clause-too_long : goal.returns-then-count-room-clause-too_long
returns-then-count-room-clause-too_long g c _ =
    let before = c.loop-count.invariant in
    let read = c.in-Ok-read.ensures in
    over_limit trace_limit c.in-Ok-read.count _ _ _ before.bytes _ before.came read.bytes.0 read.within.0 (omega (arith, before.number))

pub loop-count-preserved : goal.loop-count-preserved
loop-count-preserved g c =
    let before = c.loop-count.invariant in
    let read = c.in-Ok-read.ensures in
    let count = c.in-Ok-read.count in
    let piece = c.read.new.into in
    let fed = c.in-Ok-feed.ensures in
    let size : length (take count piece) ≡ count = length-take-le count piece read.within.0 in
    let longer = length-append before.bytes (take count piece) in
    let rises = c.read.ensures.counts in
    record {
      bytes = before.bytes ++ take count piece;
      came = Consumes-trans _ _ _ _ _ before.came read.bytes.0;
      checked = fed.checked before.bytes before.checked;
      number = omega (arith, before.number, longer, size);
      fed = omega (arith, before.fed, fed.fed, size);
      faults = read.cause.kept ∙ before.faults;
      counts = record { later = omega (arith, before.counts.later, rises.later); bound = omega (arith, before.counts.bound, rises.bound, longer, size) };
    }
