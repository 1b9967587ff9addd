-- What an event of the device does to the number of reservations, by its cause.
use Rattle.std.specs.Prelude.{None, Option, Some, ℕ, ◌+◌, ◌-◌}
use Rattle.cxl_message.specs.declared.events.Act.{Act}
use Rattle.cxl_message.specs.declared.events.Cause.{Cause}
use Rattle.coherence_model.specs.Room.{is_reservation}
use Rattle.coherence_model.specs.Tasks.{is_eviction}
use Rattle.coherence_model.specs.Words.{one_if}
use Rattle.device_record.specs.Record.{DeviceRecord, TaskRecord, WaitingRequest, request_with, requests_at, task_at}

-- a request that starts gives its reservation up (own rule)
abbrev pub reserved_started : Option WaitingRequest → ℕ → ℕ
reserved_started None n = n
reserved_started (Some r) n = n - one_if (is_reservation r.room)

-- the end of an eviction leaves one (own rule)
abbrev pub reserved_finished : Option TaskRecord → ℕ → ℕ
reserved_finished None n = n
reserved_finished (Some t) n = n + one_if (is_eviction t.purpose)

-- how many reservations there are after an act (own rule)
abbrev pub reserved_after_act : Act → DeviceRecord → ℕ
reserved_after_act (Act.Conflict _) k = k.filter.reserved
reserved_after_act (Act.WriteBack _) k = k.filter.reserved
reserved_after_act (Act.Answer _) k = k.filter.reserved
reserved_after_act (Act.AnswerBlock _) k = k.filter.reserved
reserved_after_act (Act.HostReturn _) k = k.filter.reserved
reserved_after_act (Act.Serve _ _) k = k.filter.reserved
reserved_after_act (Act.Clean _ _) k = k.filter.reserved
reserved_after_act (Act.Start h tag) k = reserved_started (request_with tag.0 (requests_at h k.requests)) k.filter.reserved
reserved_after_act (Act.Evict _ _) k = k.filter.reserved
reserved_after_act (Act.Snoop _ _) k = k.filter.reserved
reserved_after_act (Act.Finish line) k = reserved_finished (task_at line.0 k.tasks) k.filter.reserved
reserved_after_act (Act.DeviceReturn _ _) k = k.filter.reserved

-- how many there are after a cause (own rule)
abbrev pub reserved_in : Cause → DeviceRecord → ℕ
reserved_in (Cause.Op _ _ _) k = k.filter.reserved
reserved_in (Cause.Take _ _) k = k.filter.reserved
reserved_in (Cause.Act act) k = reserved_after_act act k
