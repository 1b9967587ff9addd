use Rattle.std.proofs.Common.{ap, arith, length, sym, ◌∙◌}
use Rattle.host_cache.proofs.Dropped.{few_marked}
use Rattle.host_cache.proofs.busy.BusyLines.mark.Goals as goal

pub recounted-self-inside-requires-clause-more : goal.recounted-self-inside-requires-clause-more
recounted-self-inside-requires-clause-more c off =
    omega (
      arith,
      few_marked c.self.inside.marks.items c.args.line.0 c.index.result.now (omega (arith, ap length c.self.view_is, c.requires)) (sym c.index.ensures ∙ off),
      c.self.invariant.counted,
      c.self.invariant.few,
    )
