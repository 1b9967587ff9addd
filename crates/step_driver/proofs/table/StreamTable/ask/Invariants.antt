-- The streams so far are told, and what was kept is.
use Rattle.std.proofs.Common.{List, ◌<◌}
use Rattle.cxl_message.specs.declared.events.Event.{Event as AnEvent}
use Rattle.coherence_model.specs.Choices.{Stream}
use Rattle.step_driver.specs.Driver.{IsKept, IsStreamOf, IsTold}
use Rattle.step_driver.proofs.table.StreamTable.ask.Given as goal

abbrev pub invariant-loop-stream : goal.invariant-loop-stream
invariant-loop-stream l = record {
  kept : (t : List AnEvent) → IsKept l.script l.machine l.fn.self t → IsKept l.script l.machine l.self t;
  told : (t : List AnEvent) → IsKept l.script l.machine l.fn.self t → (y : Stream) → IsStreamOf l.script y → y.number < l.stream → IsTold l.script l.self.offered t y;
}
