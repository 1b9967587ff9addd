-- When a device stands for a list of its own events.
use Rattle.std.specs.Prelude.{List, ◌≡◌}
use Rattle.cxl_message.specs.declared.events.Event.{Event}
use Rattle.cxl_message.specs.declared.identifiers.Bytes64.{Bytes64}
use Rattle.cxl_message.specs.declared.identifiers.Line.{Line}
use Rattle.cxl_message.specs.Setup.{Configuration, IsWithinLimits}
use Rattle.coherence_model.specs.OwnRuns.{IsOwnRun}
use Rattle.coherence_model.specs.Traces.{device}
use Rattle.device_record.specs.Kept.{kept_device}
use Rattle.device_record.specs.Record.{DeviceRecord}

-- what is kept stands for a list of the device's own events: the setup is within its limits, its rules allow each event after those before it, whatever the hosts did, and it is kept what looking back over them gives (own rule)
pub record StandsForList (kept : DeviceRecord) (setup : Configuration) (opening : List (Line × Bytes64)) (mine : List Event) : Type 0 where
  pub within : IsWithinLimits setup
  pub list : IsOwnRun setup opening device mine
  pub same : kept ≡ kept_device setup opening mine
