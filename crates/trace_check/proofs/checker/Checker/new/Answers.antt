-- Nothing was fed.
use Rattle.std.proofs.Common.{[]}
use Rattle.trace_check.proofs.Starts.{starts}
use Rattle.trace_check.proofs.checker.Checker.new.Goals as goal

pub invariant_of-result : goal.invariant_of-result
invariant_of-result c = ([], starts c.in_ok-reader.reader c.in_ok-reader.ensures.new c.in_ok-reader.ensures.nothing)

pub returns-clause-checked : goal.returns-clause-checked
returns-clause-checked c = starts c.in_ok-reader.reader c.in_ok-reader.ensures.new c.in_ok-reader.ensures.nothing
