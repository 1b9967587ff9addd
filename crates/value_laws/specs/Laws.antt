-- Laws of what lines hold, after every run of a setup.
use Rattle.std.specs.Prelude.{IsTrue, List}
use Rattle.cxl_message.specs.declared.events.Event.{Event}
use Rattle.cxl_message.specs.declared.identifiers.Bytes64.{Bytes64}
use Rattle.cxl_message.specs.declared.identifiers.Line.{Line}
use Rattle.cxl_message.specs.Setup.{Configuration, IsWithinLimits}
use Rattle.coherence_model.specs.Coherence.{IsLegal}
use Rattle.coherence_model.specs.Runs.{IsRun}
use Rattle.coherence_model.specs.ValueFacts.{values_are_kept}

-- after every run the flat memory's line stands in the writable copy, else in a MemWr that wasn't served, else in memory; each copy and each MemData has it
abbrev pub ValuesAreKept : Type 0
ValuesAreKept =
    (setup : Configuration) (opening : List (Line × Bytes64)) → IsWithinLimits setup → (t : List Event) → IsRun setup opening t → IsTrue (values_are_kept setup opening t)

-- after every run the commits form a legal history
abbrev pub RunsAreLegal : Type 0
RunsAreLegal = (setup : Configuration) (opening : List (Line × Bytes64)) → IsWithinLimits setup → (t : List Event) → IsRun setup opening t → IsLegal setup opening t
