-- The act of the number is the model's.
use Rattle.std.proofs.Common.{◌≡◌, subst}
use Rattle.std.specs.Prelude.{slice_get}
use Rattle.device_state.specs.Agent.{AgentRecord}
use Rattle.device_engine.specs.Contract.{WhereStands, acts_after}
use Rattle.device_engine.proofs.Glue.{act_is, some_steady}
use Rattle.device_engine.proofs.agents.DeviceAgent.act_at.Goals as goal

pub act_at-requires : goal.act_at-requires
act_at-requires c = some_steady c.self.inside.tables c.self.invariant

pub returns : goal.returns
returns c =
    record {
      act = subst (λ (d : AgentRecord). WhereStands d (λ setup opening mine. c.act_at.result ≡ slice_get (acts_after setup opening mine) c.args.k)) c.self.view_is (act_is c.self.inside.tables c.args.k c.act_at.result c.act_at.ensures);
    }
