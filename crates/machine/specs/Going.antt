-- What an event keeps before its row is asked. All of it is an own rule.
use Rattle.std.specs.Prelude.{IsTrue, true, ◌≡◌}
use Rattle.cxl_message.specs.declared.events.Event.{Event}
use Rattle.coherence_model.specs.Rules.{k0_takeable, p0_profile, s0_stream_order}
use Rattle.coherence_model.specs.Traces.{events_of}
use Rattle.machine.specs.Stands.{MachineRecord, WhereStands}

-- an event keeps P0, K0 and S0, after each run that the machine stands for
pub record KeepsFirstRules (m : MachineRecord) (e : Event) : Type 0 where
  pub profile : IsTrue (p0_profile m.setup e)
  pub takeable : WhereStands m (λ setup opening t. true ≡ k0_takeable e.cause t)
  pub order : WhereStands m (λ setup opening t. true ≡ s0_stream_order e.cause (events_of e.agent t))
