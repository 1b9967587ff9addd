-- What a home agent is in contracts: the setup, its host and what it keeps. All of it is an own rule.
use Rattle.std.specs.Prelude.{ℕ}
use Rattle.cxl_message.specs.declared.events.Cause.{Cause}
use Rattle.cxl_message.specs.declared.events.Event.{Event}
use Rattle.cxl_message.specs.Setup.{Configuration}
use Rattle.coherence_model.specs.Emission.{Emission}
use Rattle.host_record.specs.HostChanges.{host_after}
use Rattle.host_record.specs.HostRecord.{HostRecord}
use Rattle.host_record.specs.Stands.{opened_host}

-- an agent: its setup, its number and what it keeps
pub record AgentRecord : Type 0 where
  pub setup : Configuration
  pub host : ℕ
  pub kept : HostRecord

-- an agent before its first event
abbrev pub opened_agent : Configuration → ℕ → AgentRecord
opened_agent setup h = record { setup = setup; host = h; kept = opened_host setup }

-- the event of a cause that emits so
abbrev pub event_of : ℕ → Cause → Emission → Event
event_of h cause w = record { agent = h; cause = cause; sends = w.sends; commit = w.commit }

-- the agent after a cause that emitted w
abbrev pub agent_after : Cause → Emission → AgentRecord → AgentRecord
agent_after cause w agent = record agent { kept = host_after agent.setup (event_of agent.host cause w) agent.kept }
