-- Something is pending where the model says so.
use Rattle.std.proofs.Common.{◌≡◌, subst}
use Rattle.coherence_model.specs.Pending.{device_pending}
use Rattle.device_state.specs.Agent.{AgentRecord}
use Rattle.device_engine.specs.Contract.{WhereStands}
use Rattle.device_engine.proofs.Glue.{pending_shown, some_steady}
use Rattle.device_engine.proofs.agents.DeviceAgent.pending.Goals as goal

pub pending-requires : goal.pending-requires
pending-requires c = (some_steady c.self.inside.tables c.self.invariant).tables.writes

pub returns : goal.returns
returns c =
    record {
      pending = subst (λ (d : AgentRecord). WhereStands d (λ setup opening mine. c.pending.result ≡ device_pending setup mine)) c.self.view_is (pending_shown c.self.inside.tables c.pending.result c.pending.ensures);
    }
