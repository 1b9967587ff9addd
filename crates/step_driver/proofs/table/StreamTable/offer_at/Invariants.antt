-- What is looked for stands behind the streams so far.
use Rattle.std.proofs.Common.{List}
use Rattle.cxl_message.specs.declared.events.Event.{Event as AnEvent}
use Rattle.step_driver.specs.Driver.{IsAsked}
use Rattle.step_driver.proofs.Scans.{SoughtFrom}
use Rattle.step_driver.proofs.table.StreamTable.offer_at.Given as goal

abbrev pub invariant-loop-stream : goal.invariant-loop-stream
invariant-loop-stream l = (t : List AnEvent) → IsAsked l.script l.self.offered t → SoughtFrom l.script t l.k l.stream l.left
