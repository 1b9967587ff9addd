-- What the device adds to the weight, and whether something is pending there, by what it keeps.
use Rattle.std.specs.Prelude.{Bool, List, count_by, length, nat_le, not, sum_by, ℕ, ◌&&◌, ◌*◌, ◌+◌, ◌||◌}
use Rattle.std.specs.List.{list_any}
use Rattle.std.specs.Option.{option_map_or}
use Rattle.cxl_message.specs.Codes.{span_len}
use Rattle.cxl_message.specs.Lists.{below}
use Rattle.cxl_message.specs.Setup.{Configuration}
use Rattle.coherence_model.specs.Next.{device_return_channels}
use Rattle.coherence_model.specs.Weight.{purpose_weight, request_weight}
use Rattle.device_record.specs.Answers.{is_asked_by, is_wanted, request_of}
use Rattle.snoop_filter.specs.Rows.{FilterRow}
use Rattle.device_record.specs.Record.{DeviceRecord, TaskRecord, WaitingRequest, owed_on, requests_at, writes_at}

-- a buffered request (own rule)
abbrev pub waiting_weight : ℕ → WaitingRequest → ℕ
waiting_weight hosts w = option_map_or (λ r. request_weight hosts w.room r.op) (request_of w) 0

-- a task (own rule)
abbrev pub weight_of_task : ℕ → List FilterRow → TaskRecord → ℕ
weight_of_task hosts rows t = purpose_weight t.purpose (span_len t.span) (count_by (λ g. is_wanted rows t g && not (is_asked_by g t)) (below hosts))

-- the owed credits and the buffered messages of a host (own rule)
abbrev pub weight_of_host : ℕ → DeviceRecord → ℕ → ℕ
weight_of_host hosts k h =
    2 * sum_by (λ c. owed_on h c k) device_return_channels + 6 * length (writes_at h k.writes) + sum_by (waiting_weight hosts) (requests_at h k.requests)

-- the device (own rule)
abbrev pub weight_in : Configuration → DeviceRecord → ℕ
weight_in setup k = sum_by (weight_of_host setup.hosts k) (below setup.hosts) + sum_by (weight_of_task setup.hosts k.filter.rows) k.tasks

-- whether a host has a message buffered (own rule)
abbrev pub has_buffered : DeviceRecord → ℕ → Bool
has_buffered k h = nat_le 1 (length (requests_at h k.requests)) || nat_le 1 (length (writes_at h k.writes))

-- whether a task stands or a message is buffered (own rule)
abbrev pub pending_in : Configuration → DeviceRecord → Bool
pending_in setup k = nat_le 1 (length k.tasks) || list_any (has_buffered k) (below setup.hosts)
