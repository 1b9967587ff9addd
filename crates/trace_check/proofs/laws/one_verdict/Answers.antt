-- From one trace, one fault, and that a trace has none.
use Rattle.trace_check.proofs.Told.{one_verdict}
use Rattle.trace_check.proofs.laws.one_verdict.Goals as goal

pub returns : goal.returns
returns c = one_verdict c.one_trace.ensures c.one_reading.ensures.fault c.traces_are_read.ensures.fault
