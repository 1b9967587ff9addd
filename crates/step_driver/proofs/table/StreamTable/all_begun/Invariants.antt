use Rattle.std.proofs.Common.{◌≡◌, drop, List}
use Rattle.std.specs.List.{list_all}
use Rattle.cxl_message.specs.declared.events.Event.{Event as AnEvent}
use Rattle.coherence_model.specs.Choices.{is_all_begun, streams_of}
use Rattle.step_driver.specs.Driver.{IsCounted}
use Rattle.step_driver.proofs.table.StreamTable.all_begun.Given as goal

abbrev pub invariant-loop-stream : goal.invariant-loop-stream
invariant-loop-stream l =
    (t : List AnEvent) → IsCounted l.script l.self.begun t → list_all (is_all_begun t) (drop l.stream (streams_of l.script)) ≡ list_all (is_all_begun t) (streams_of l.script)
