-- So many of the streams so far are offered an operation.
use Rattle.std.proofs.Common.{◌≤◌, List}
use Rattle.cxl_message.specs.declared.events.Event.{Event as AnEvent}
use Rattle.step_driver.specs.Driver.{IsAsked}
use Rattle.step_driver.proofs.Scans.{CountedTo}
use Rattle.step_driver.proofs.table.StreamTable.offer_count.Given as goal

abbrev pub invariant-loop-stream : goal.invariant-loop-stream
invariant-loop-stream l = record {
  few : l.count ≤ l.stream;
  counted : (t : List AnEvent) → IsAsked l.script l.self.offered t → CountedTo l.script t l.stream l.count;
}
