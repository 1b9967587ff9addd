-- The weight is the model's.
use Rattle.std.proofs.Common.{◌≡◌, subst}
use Rattle.coherence_model.specs.Weight.{device_weight}
use Rattle.device_state.specs.Agent.{AgentRecord}
use Rattle.device_engine.specs.Contract.{WhereStands}
use Rattle.device_engine.proofs.Glue.{some_steady, weight_added}
use Rattle.device_engine.proofs.agents.DeviceAgent.weight.Goals as goal

pub weight-requires : goal.weight-requires
weight-requires c = some_steady c.self.inside.tables c.self.invariant

pub returns : goal.returns
returns c =
    record {
      weight = subst (λ (d : AgentRecord). WhereStands d (λ setup opening mine. c.weight.result ≡ device_weight setup mine)) c.self.view_is (weight_added c.self.inside.tables c.weight.result c.weight.ensures);
    }
