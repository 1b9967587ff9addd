-- From the items of a trace.
use Rattle.trace_stream.proofs.OneReadings.{each, says_once}
use Rattle.trace_stream.proofs.OneLists.{ended_no_fault}
use Rattle.trace_stream.proofs.TraceItems.{traces_are_read}
use Rattle.trace_stream.specs.Runs.{trace_items_in}
use Rattle.trace_stream.proofs.laws.traces_are_read.Goals as goal

pub returns-clause-items : goal.returns-clause-items
returns-clause-items c = traces_are_read

pub returns-clause-fault : goal.returns-clause-fault
returns-clause-fault c bytes version setup names opening events fault trace has =
    let read = traces_are_read bytes version setup names opening events trace in
    ended_no_fault (says_once (each c.one_answer.ensures.headers_in c.one_answer.ensures.names c.one_answer.ensures.openings c.one_answer.ensures.events_in c.one_answer.ensures.ends)) bytes (trace_items_in version setup names opening events) _ fault read.read read.ended has
