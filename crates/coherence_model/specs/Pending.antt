-- Whether something is pending, so that the machine isn't at rest.
use Rattle.std.specs.Prelude.{Bool, IsTrue, List, length, nat_le, ℕ, ◌||◌}
use Rattle.std.specs.List.{list_any}
use Rattle.cxl_message.specs.declared.events.Event.{Event}
use Rattle.cxl_message.specs.Lists.{below}
use Rattle.cxl_message.specs.Setup.{Configuration}
use Rattle.coherence_model.specs.Buffers.{buffered_requests, buffered_writes}
use Rattle.coherence_model.specs.Directory.{is_busy}
use Rattle.coherence_model.specs.DirectoryChanges.{directory}
use Rattle.coherence_model.specs.Snoops.{is_snooped}
use Rattle.coherence_model.specs.Traces.{device, events_of}
use Rattle.coherence_model.specs.Transactions.{is_open}

-- whether a host has a line that is Open or Snooped (own rule)
abbrev pub host_pending : Configuration → List Event → Bool
host_pending setup mine = list_any (λ a. is_open a mine || is_snooped a mine) (below setup.lines)

-- whether the device holds a Req or RwD message of host h buffered (own rule)
abbrev pub holds_message_of : List Event → ℕ → Bool
holds_message_of mine h = nat_le 1 (length (buffered_requests h mine)) || nat_le 1 (length (buffered_writes h mine))

-- whether the device has a line that is Busy, or holds a Req or RwD message (own rule)
abbrev pub device_pending : Configuration → List Event → Bool
device_pending setup mine = list_any (is_busy (directory setup mine)) (below setup.lines) || list_any (holds_message_of mine) (below setup.hosts)

-- whether something is pending: some line is Open, Snooped or Busy, or a Req or RwD message is buffered (own rule)
abbrev pub is_pending : Configuration → List Event → Bool
is_pending setup t = list_any (λ h. host_pending setup (events_of h t)) (below setup.hosts) || device_pending setup (events_of device t)

-- something is pending, as a fact (own rule)
abbrev pub IsPending : Configuration → List Event → Type 0
IsPending setup t = IsTrue (is_pending setup t)
