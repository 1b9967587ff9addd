-- As many acts are allowed as the model says.
use Rattle.std.proofs.Common.{◌≡◌, length, subst}
use Rattle.device_state.specs.Agent.{AgentRecord}
use Rattle.device_engine.specs.Contract.{WhereStands, acts_after}
use Rattle.device_engine.proofs.Glue.{count_is, some_steady}
use Rattle.device_engine.proofs.agents.DeviceAgent.act_count.Goals as goal

pub act_count-requires : goal.act_count-requires
act_count-requires c = some_steady c.self.inside.tables c.self.invariant

pub returns : goal.returns
returns c =
    record {
      count = subst (λ (d : AgentRecord). WhereStands d (λ setup opening mine. c.act_count.result ≡ length (acts_after setup opening mine))) c.self.view_is (count_is c.self.inside.tables c.act_count.result c.act_count.ensures);
    }
