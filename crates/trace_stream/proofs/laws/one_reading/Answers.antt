-- From one answer on each kind of record.
use Rattle.trace_stream.proofs.OneReadings.{each, says_once}
use Rattle.trace_stream.proofs.OneLists.{one_list, one_fault}
use Rattle.trace_stream.proofs.laws.one_reading.Goals as goal

pub returns-clause-says : goal.returns-clause-says
returns-clause-says c = says_once (each c.one_answer.ensures.headers_in c.one_answer.ensures.names c.one_answer.ensures.openings c.one_answer.ensures.events_in c.one_answer.ensures.ends)

pub returns-clause-items : goal.returns-clause-items
returns-clause-items c = one_list (says_once (each c.one_answer.ensures.headers_in c.one_answer.ensures.names c.one_answer.ensures.openings c.one_answer.ensures.events_in c.one_answer.ensures.ends))

pub returns-clause-fault : goal.returns-clause-fault
returns-clause-fault c = one_fault (says_once (each c.one_answer.ensures.headers_in c.one_answer.ensures.names c.one_answer.ensures.openings c.one_answer.ensures.events_in c.one_answer.ensures.ends))
