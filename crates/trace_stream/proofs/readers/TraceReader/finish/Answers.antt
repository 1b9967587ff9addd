-- A trace that was read to its end.
use Rattle.std.proofs.Common.{sym, ap, ◌∙◌}
use Rattle.trace_stream.specs.Readings.{Reading}
use Rattle.trace_stream.proofs.WholeTraces.{finished}
use Rattle.trace_stream.proofs.readers.TraceReader.finish.Goals as goal

pub returns-in-Ended-clause-whole : goal.returns-in-Ended-clause-whole
returns-in-Ended-clause-whole c bytes items has =
    finished bytes items c.args.self c.in-Ended.count has c.requires (ap (λ (r : Reading). r.fault) (sym c.self.view_is) ∙ c.in_default.is) (ap (λ (r : Reading). r.stage) (sym c.self.view_is) ∙ c.in-Ended.is)
