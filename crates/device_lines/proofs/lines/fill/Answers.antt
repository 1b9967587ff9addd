-- One more line has its slot.
use Rattle.std.proofs.Common.{◌≡◌, ◌+◌, ◌<◌, ap, arith, subst, sym, List, ℕ}
use Rattle.line_pool.specs.Pools.{Pool}
use Rattle.device_lines.specs.Filled.{IsFilled}
use Rattle.device_lines.proofs.Opened.{one_more_filled}
use Rattle.device_lines.proofs.lines.fill.Goals as goal

pub loop-line-preserved : goal.loop-line-preserved
loop-line-preserved c =
    let some : 0 < c.loop-line.pool.spare = omega (arith, c.loop-line.invariant.1, c.requires.spare, c.loop-line-test.true) in
    let less : c.store-slot.new.pool.spare + 1 ≡ c.loop-line.pool.spare = omega (arith, some, ap (λ (p : Pool). p.spare) c.store-slot.ensures.stored) in (
      subst (λ (l : List ℕ). IsFilled c.store-slot.new.pool l c.args.opening.now (c.loop-line.line + 1)) (sym c.in_ok-push.ensures.items)
          (one_more_filled c.loop-line.pool c.store-slot.new.pool c.loop-line.lines.items c.args.opening.now c.loop-line.line c.loop-line.invariant.0 c.store-slot.result c.bytes_at.result
          c.store-slot.ensures.stored c.store-slot.ensures.not_in_use.0 c.store-slot.ensures.not_in_use.1 c.bytes_at.ensures),
      omega (arith, less, c.loop-line.invariant.1),
    )
