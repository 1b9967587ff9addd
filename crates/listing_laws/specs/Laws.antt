-- Laws of what the device knows of its hosts' copies, after every run of a setup.
use Rattle.std.specs.Prelude.{IsTrue, List}
use Rattle.cxl_message.specs.declared.events.Event.{Event}
use Rattle.cxl_message.specs.declared.identifiers.Bytes64.{Bytes64}
use Rattle.cxl_message.specs.declared.identifiers.Line.{Line}
use Rattle.cxl_message.specs.Setup.{Configuration, IsWithinLimits}
use Rattle.coherence_model.specs.Coherence.{Alone}
use Rattle.coherence_model.specs.ListingFacts.{listings_are_kept}
use Rattle.coherence_model.specs.Runs.{IsRun}

-- after every run copies are listed, and who is listed A is listed alone and has the line, gets it or gives it up
abbrev pub ListingsAreKept : Type 0
ListingsAreKept =
    (setup : Configuration) (opening : List (Line × Bytes64)) → IsWithinLimits setup → (t : List Event) → IsRun setup opening t → IsTrue (listings_are_kept setup t)

-- after every run each writable copy is the only copy of its line
abbrev pub WritableCopiesAreAlone : Type 0
WritableCopiesAreAlone =
    (setup : Configuration) (opening : List (Line × Bytes64)) → IsWithinLimits setup → (t : List Event) → IsRun setup opening t → Alone setup t
