-- From one trace, one list of items, one fault, and that a trace has none.
use Rattle.trace_viewer.proofs.Views.{one_view}
use Rattle.trace_viewer.proofs.laws.one_view.Goals as goal

pub returns : goal.returns
returns c = one_view c.one_trace.ensures c.one_reading.ensures.items c.one_reading.ensures.fault c.traces_are_read.ensures.fault
