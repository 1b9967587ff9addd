-- What a host agent is in its contract: it stands for a list of its own events, newest first, that its rules allow. All of it is an own rule.
use Rattle.std.specs.Prelude.{IsTrue, List, Result, [], ℕ, ◌≡◌}
use Rattle.cxl_message.specs.declared.events.Cause.{Cause}
use Rattle.cxl_message.specs.declared.events.Event.{Event}
use Rattle.cxl_message.specs.Setup.{Configuration, IsWithinLimits}
use Rattle.coherence_model.specs.Emission.{Emission}
use Rattle.coherence_model.specs.Fitting.{is_host}
use Rattle.coherence_model.specs.OwnRuns.{IsOwnRun}
use Rattle.host_record.specs.Stands.{answer_in, kept_host}
use Rattle.host_rows.specs.declared.answers.HostRefusal.{HostRefusal}
use Rattle.host_rows.specs.Answers.{as_result}
use Rattle.host_tables.specs.Agent.{AgentRecord}

-- the agent stands for a list of own events of host h of a setup: its rules allow the list, whatever its peers did, and it keeps
-- what the model's definitions give for it. A host's rules don't look at the opening, so any will do
pub record StandsFor (agent : AgentRecord) (setup : Configuration) (h : ℕ) (mine : List Event) : Type 0 where
  pub within : IsWithinLimits setup
  pub host : IsTrue (is_host setup h)
  pub run : IsOwnRun setup [] h mine
  pub kept : agent ≡ record { setup = setup; host = h; kept = kept_host setup h mine }

-- what holds of an agent for each list that it stands for
abbrev pub WhereStands : AgentRecord → (Configuration → ℕ → List Event → Type 0) → Type 0
WhereStands agent Says = (setup : Configuration) (h : ℕ) (mine : List Event) → StandsFor agent setup h mine → Says setup h mine

-- what an agent answers to a cause, by what it keeps
abbrev pub answered_by : AgentRecord → Cause → Result Emission HostRefusal
answered_by agent cause = as_result (answer_in agent.setup agent.host cause agent.kept)
