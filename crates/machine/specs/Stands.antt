-- What the machine is in contracts: its agents and its queues, and the run that they stand for. All of it is an own rule.
use Rattle.std.specs.Prelude.{Bool, Err, List, None, Ok, Option, Result, Some, length, slice_get, ℕ, ◌≡◌}
use Rattle.std.specs.List.{list_any}
use Rattle.cxl_message.specs.declared.events.Event.{Event}
use Rattle.cxl_message.specs.declared.identifiers.Bytes64.{Bytes64}
use Rattle.cxl_message.specs.declared.identifiers.Line.{Line}
use Rattle.cxl_message.specs.declared.states.RuleNo.{RuleNo}
use Rattle.cxl_message.specs.Lists.{below}
use Rattle.cxl_message.specs.Setup.{Configuration, IsWithinLimits}
use Rattle.coherence_model.specs.Pending.{host_pending}
use Rattle.coherence_model.specs.Runs.{IsRun}
use Rattle.coherence_model.specs.Traces.{device, events_of}
use Rattle.device_engine.specs.Contract.{StandsFor as DeviceStandsFor}
use Rattle.device_state.specs.Agent.{AgentRecord as DeviceRecord}
use Rattle.host_home.specs.Contract.{StandsFor as HostStandsFor}
use Rattle.host_tables.specs.Agent.{AgentRecord as HostRecord}
use Rattle.link_queues.specs.Links.{HoldsFlight, LinkRecord}

-- the parts of the machine
pub record MachineRecord : Type 0 where
  pub setup : Configuration
  pub hosts : List HostRecord
  pub device : DeviceRecord
  pub links : LinkRecord

-- each host's agent stands for its own events in a trace
abbrev pub HostsStandFor : List HostRecord → Configuration → List Event → Type 0
HostsStandFor hosts setup t = (h : ℕ) (agent : HostRecord) → slice_get hosts h ≡ Some agent → HostStandsFor agent setup h (events_of h t)

-- the machine stands for a run of a setup and an opening: each host's agent stands for its own events in it and the device's for its
-- own, and the queues hold the messages in flight
pub record StandsFor (machine : MachineRecord) (setup : Configuration) (opening : List (Line × Bytes64)) (t : List Event) : Type 0 where
  pub within : IsWithinLimits setup
  pub run : IsRun setup opening t
  pub setup_is : machine.setup ≡ setup
  pub host_count : length machine.hosts ≡ setup.hosts
  pub hosts : HostsStandFor machine.hosts setup t
  pub device : DeviceStandsFor machine.device setup opening (events_of device t)
  pub links : HoldsFlight machine.links setup t

-- a fact holds for each setup, opening and run that the machine stands for
abbrev pub WhereStands : MachineRecord → (Configuration → List (Line × Bytes64) → List Event → Type 0) → Type 0
WhereStands machine Says = (setup : Configuration) (opening : List (Line × Bytes64)) (t : List Event) → StandsFor machine setup opening t → Says setup opening t

-- the machine stands for some run of its setup
pub record StandsForSome (machine : MachineRecord) : Type 0 where
  pub opening : List (Line × Bytes64)
  pub t : List Event
  pub stands : StandsFor machine machine.setup opening t

-- a verdict as a result: nothing is broken, or the first rule that is
abbrev pub verdict : Option RuleNo → Result (Unit {0}) RuleNo
verdict None = Ok tt
verdict (Some rule) = Err rule

-- whether some line is Open or Snooped at one of the first n hosts
abbrev pub hosts_pending : Configuration → List Event → ℕ → Bool
hosts_pending setup t n = list_any (λ h. host_pending setup (events_of h t)) (below n)
