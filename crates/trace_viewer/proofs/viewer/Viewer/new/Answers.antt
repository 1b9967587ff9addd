-- Nothing was fed.
use Rattle.std.proofs.Common.{[]}
use Rattle.trace_viewer.proofs.Starts.{starts}
use Rattle.trace_viewer.proofs.viewer.Viewer.new.Goals as goal

pub returns-clause-shown : goal.returns-clause-shown
returns-clause-shown c = starts c.in_ok-reader.reader c.new-3.result c.in_ok-reader.ensures.new c.in_ok-reader.ensures.nothing c.new-3.ensures

pub returns-clause-viewing : goal.returns-clause-viewing
returns-clause-viewing c = ([], [], starts c.in_ok-reader.reader c.new-3.result c.in_ok-reader.ensures.new c.in_ok-reader.ensures.nothing c.new-3.ensures)
