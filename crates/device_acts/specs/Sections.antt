-- The allowed acts of the device by section: those of one host's writes, of one host's requests, of one task, of one host's returns.
use Rattle.std.specs.Prelude.{Bool, List, Option, Some, [], flat_map, is_none, is_some, option_and_then, slice_get, ℕ, ◌&&◌, ◌==◌, ◌≡◌}
use Rattle.std.specs.Option.{option_map_or}
use Rattle.cxl_message.specs.declared.channels.Channel.{Channel}
use Rattle.cxl_message.specs.declared.events.Act.{Act}
use Rattle.cxl_message.specs.declared.identifiers.Line.{Line}
use Rattle.coherence_model.specs.Emission.{Emission}
use Rattle.coherence_model.specs.Words.{when}
use Rattle.device_record.specs.Acts.{act_if, serve_acts, waiting_acts}
use Rattle.device_record.specs.Answers.{lacking_in}
use Rattle.device_record.specs.Record.{CreditRecord, DeviceRecord, TaskRecord, requests_at, task_at, writes_at}
use Rattle.device_state.specs.Agent.{AgentRecord}
use Rattle.snoop_filter.specs.Filters.{FilterRecord, free_in}
use Rattle.snoop_filter.specs.Victims.{victim_in}

-- what a row sends, where the credits reach (own rule)
abbrev pub paid : List CreditRecord → Option Emission → Option Emission
paid credits row = option_and_then (λ w. when (is_none (lacking_in w.sends credits)) w) row

-- the serve of a host's buffered RwD message of a number, if there is one (own rule)
abbrev pub serve_at : AgentRecord → ℕ → ℕ → List Act
serve_at d h n = option_map_or (serve_acts d.setup d.kept h) (slice_get (writes_at h d.kept.writes) n) []

-- the serves of a host's buffered RwD messages (own rule)
abbrev pub serves_at : AgentRecord → ℕ → List Act
serves_at d h = flat_map (serve_acts d.setup d.kept h) (writes_at h d.kept.writes)

-- what is allowed of Clean, Start and Evict for a host's buffered requests (own rule)
abbrev pub starts_at : AgentRecord → ℕ → List Act
starts_at d h = flat_map (waiting_acts d.setup d.kept h) (requests_at h d.kept.requests)

-- a task stands in the list: it is the one that is found by its first line (own rule)
abbrev pub Stands : DeviceRecord → TaskRecord → Type 0
Stands k t = task_at t.first k.tasks ≡ Some t

-- the first line of a task (own rule)
abbrev pub first_of : TaskRecord → Line
first_of t = record { 0 = t.first }

-- the snoop of a task to a host, if it is allowed (own rule)
abbrev pub snoop_for : AgentRecord → TaskRecord → ℕ → List Act
snoop_for d t h = act_if d.setup d.kept (Act.Snoop h (first_of t))

-- the return of a Credit for a channel to a host (own rule)
abbrev pub return_act : AgentRecord → ℕ → Channel → List Act
return_act d h c = act_if d.setup d.kept (Act.DeviceReturn h c)

-- an eviction can begin at all: no entry is free, and there is a victim (own rule)
abbrev pub is_evictable : FilterRecord → Bool
is_evictable filter = (free_in filter == 0) && is_some (victim_in filter.rows)
