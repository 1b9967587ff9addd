-- The loop is at a trace that driving comes to, and its events are put.
use Rattle.std.proofs.Common.{◌+◌, ◌*◌, ◌≡◌, ◌≤◌}
use Rattle.trace_stream.specs.Buffers.{reach}
use Rattle.trace_stream.specs.declared.progress.Progress.{Progress}
use Rattle.step_driver.specs.Outputs.{version_of}
use Rattle.step_driver.proofs.Loops.{LoopAt}
use Rattle.step_driver.proofs.putting.put_events.Given as goal

abbrev pub invariant-loop : goal.invariant-loop
invariant-loop g l = record {
  at : LoopAt l.schedule l.script l.machine l.table l.journals.0 l.picks l.summary l.counter l.fn.writer l.writer;
  begun : l.writer.progress ≡ Progress.Begun;
  version : l.writer.version ≡ version_of l.script;
  count : l.writer.count ≡ l.counter;
  counts : reach l.writer.out ≤ reach l.fn.writer.out + 800 * l.counter;
  faults : l.writer.out.faults ≡ l.fn.writer.out.faults;
  same_sink : l.writer.out.sink ≡ l.fn.writer.out.sink;
}
