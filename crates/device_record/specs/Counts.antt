-- How many acts are allowed, by what each buffered message, task and host waits for: the sums that a fast body may keep.
use Rattle.std.specs.Prelude.{Bool, count_by, false, if◌then◌else◌, is_some, length, nat_le, not, sum_by, true, ℕ, ◌&&◌, ◌+◌, ◌||◌}
use Rattle.std.specs.Option.{option_map_or}
use Rattle.cxl_message.specs.Lists.{below}
use Rattle.cxl_message.specs.Setup.{Configuration}
use Rattle.coherence_model.specs.Copies.{asks_for_grant}
use Rattle.coherence_model.specs.DeviceActs.{Request}
use Rattle.coherence_model.specs.Next.{device_return_channels}
use Rattle.coherence_model.specs.Room.{Room}
use Rattle.coherence_model.specs.Tasks.{Purpose}
use Rattle.coherence_model.specs.Words.{one_if}
use Rattle.device_record.specs.Answers.{is_asked_by, is_finished, is_wanted, request_of}
use Rattle.snoop_filter.specs.Filters.{free_in}
use Rattle.snoop_filter.specs.Rows.{has_row, held_in}
use Rattle.snoop_filter.specs.Victims.{victim_in}
use Rattle.device_record.specs.Record.{CreditRecord, DeviceRecord, TaskRecord, WaitingRequest, credits_at, owed_on, requests_at, writes_at}

-- whether a request has a place in the filter, or may make one (own rule)
abbrev pub has_place : DeviceRecord → Room → ℕ → Bool
has_place k Room.NoEviction a = has_row a k.filter.rows || nat_le 1 (free_in k.filter) || is_some (victim_in k.filter.rows)
has_place k Room.EvictionInProgress a = false
has_place k Room.Reservation a = true

-- whether a buffered request may go on: a MemClnEvct needs a credit, another one a place; neither while its line is held (own rule)
abbrev pub is_ready_by : DeviceRecord → ℕ → Room → Request → Bool
is_ready_by k h room r = not (held_in r.line k.filter.rows) && (if asks_for_grant r.op then has_place k room r.line else nat_le 1 (credits_at h k.credits).ndr_left)

abbrev pub is_ready : DeviceRecord → ℕ → WaitingRequest → Bool
is_ready k h w = option_map_or (is_ready_by k h w.room) (request_of w) false

-- whether the end of a task has its credits (own rule)
abbrev pub has_credit_for : Purpose → CreditRecord → Bool
has_credit_for Purpose.SharedRead c = nat_le 1 c.ndr_left && nat_le 1 c.drs_left
has_credit_for Purpose.OwningRead c = nat_le 1 c.ndr_left && nat_le 1 c.drs_left
has_credit_for Purpose.Invalidation c = nat_le 1 c.ndr_left
has_credit_for Purpose.Eviction c = true

-- the serves of a host (own rule)
abbrev pub serves_of : DeviceRecord → ℕ → ℕ
serves_of k h = if nat_le 1 (credits_at h k.credits).ndr_left then length (writes_at h k.writes) else 0

-- the requests of a host that may go on (own rule)
abbrev pub ready_of : DeviceRecord → ℕ → ℕ
ready_of k h = count_by (is_ready k h) (requests_at h k.requests)

-- the acts for a task (own rule)
abbrev pub acts_for : Configuration → DeviceRecord → TaskRecord → ℕ
acts_for setup k t =
    count_by (λ h. is_wanted k.filter.rows t h && not (is_asked_by h t) && nat_le 1 (credits_at h k.credits).snp_left) (below setup.hosts)
    + one_if (is_finished setup.hosts k.filter.rows t && has_credit_for t.purpose (credits_at t.host k.credits))

-- the returns for a host (own rule)
abbrev pub returns_of : DeviceRecord → ℕ → ℕ
returns_of k h = count_by (λ c. nat_le 1 (owed_on h c k)) device_return_channels

-- how many acts are allowed (own rule)
abbrev pub act_total : Configuration → DeviceRecord → ℕ
act_total setup k =
    sum_by (serves_of k) (below setup.hosts) + sum_by (ready_of k) (below setup.hosts) + sum_by (acts_for setup k) k.tasks + sum_by (returns_of k) (below setup.hosts)
