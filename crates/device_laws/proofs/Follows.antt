-- What is kept of the device follows each of its events that its rules allow.
use Rattle.std.proofs.Common.{◌≡◌, List, ◌∷◌}
use Rattle.cxl_message.specs.declared.events.Event.{Event}
use Rattle.cxl_message.specs.declared.identifiers.Bytes64.{Bytes64}
use Rattle.cxl_message.specs.declared.identifiers.Line.{Line}
use Rattle.cxl_message.specs.Setup.{Configuration}
use Rattle.coherence_model.specs.Traces.{device}
use Rattle.entry_laws.proofs.DeviceRows.{device_row}
use Rattle.device_record.specs.Changes.{device_after}
use Rattle.device_record.specs.Kept.{kept_device}
use Rattle.coherence_model.specs.OwnRuns.{IsOwnRun}
use Rattle.device_laws.proofs.Buffers.{memory_follows, writes_follow}
use Rattle.device_laws.proofs.Credits.{credits_follow}
use Rattle.device_laws.proofs.OwnFacts.{device_list, fits_device, row_of_step, step_of_list}
use Rattle.device_laws.proofs.Requests.{requests_follow}
use Rattle.device_laws.proofs.Reserved.{reserved_follow}
use Rattle.device_laws.proofs.Rows.{rows_follow_events}
use Rattle.device_laws.proofs.Tasks.{tasks_follow}

-- what is kept after one more event is what the event makes of it
pub device_follows : (setup : Configuration) (opening : List (Line × Bytes64)) (e : Event) (past : List Event) → IsOwnRun setup opening device (e ∷ past)
    → kept_device setup opening (e ∷ past) ≡ device_after setup e.cause e.sends (kept_device setup opening past)
device_follows setup opening e past list =
    let parts = step_of_list setup opening e past list in
    let run = device_list setup opening past parts.0 in
    let fits = fits_device setup opening e past parts.1 in
    let row = device_row setup opening e.cause e.sends past parts.1.row.w fits (row_of_step setup opening e past parts.1) parts.1.row.sends in
    λ i. record {
      memory = memory_follows setup opening e past fits i;
      filter = record {
        rows = rows_follow_events setup opening e past (device_list setup opening (e ∷ past) list) run fits row i;
        reserved = reserved_follow setup opening e past run fits row i;
        entries = setup.entries;
        hosts = setup.hosts;
        lines = setup.lines;
      };
      tasks = tasks_follow setup opening e past run fits row i;
      requests = requests_follow setup opening e past run fits row i;
      writes = writes_follow setup e past fits i;
      credits = credits_follow setup opening e past list i;
    }
