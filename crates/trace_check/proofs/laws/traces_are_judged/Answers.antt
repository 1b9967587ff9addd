-- From one trace, and that it has no fault.
use Rattle.trace_check.proofs.Told.{broken_says_so, good_bytes, run_says_so, traces_judged}
use Rattle.trace_check.proofs.laws.traces_are_judged.Goals as goal

pub returns-clause-judged : goal.returns-clause-judged
returns-clause-judged c = traces_judged

pub returns-clause-good_bytes : goal.returns-clause-good_bytes
returns-clause-good_bytes c = good_bytes c.traces_are_read.ensures.fault

pub returns-clause-run : goal.returns-clause-run
returns-clause-run c = run_says_so c.one_trace.ensures

pub returns-clause-broken : goal.returns-clause-broken
returns-clause-broken c = broken_says_so c.one_trace.ensures
