-- The law of every run on the places and the owners of all that is open or under way.
use Rattle.std.specs.Prelude.{IsTrue, List}
use Rattle.cxl_message.specs.declared.events.Event.{Event}
use Rattle.cxl_message.specs.declared.identifiers.Bytes64.{Bytes64}
use Rattle.cxl_message.specs.declared.identifiers.Line.{Line}
use Rattle.cxl_message.specs.Setup.{Configuration, IsWithinLimits}
use Rattle.coherence_model.specs.OwnerFacts.{requests_are_placed}
use Rattle.coherence_model.specs.Runs.{IsRun}

-- after every run each open request, eviction, write-back and conflict is in exactly one place, and each message and each request task has its owner
abbrev pub RequestsArePlaced : Type 0
RequestsArePlaced =
    (setup : Configuration) (opening : List (Line × Bytes64)) → IsWithinLimits setup → (t : List Event) → IsRun setup opening t
    → IsTrue (requests_are_placed setup t)
