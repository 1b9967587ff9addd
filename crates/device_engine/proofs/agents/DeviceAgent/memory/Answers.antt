-- The line is read as the model has it.
use Rattle.std.proofs.Common.{◌≡◌, ◌<◌, sym, subst, ap, arith}
use Rattle.device_state.specs.Agent.{AgentRecord}
use Rattle.device_engine.specs.Contract.{WhereStands}
use Rattle.coherence_model.specs.Memory.{memory}
use Rattle.device_engine.proofs.Glue.{bytes_read, some_steady}
use Rattle.device_engine.proofs.agents.DeviceAgent.memory.Goals as goal

pub bytes-requires : goal.bytes-requires
bytes-requires c =
    let low : c.args.line.0 < c.self.inside.tables.setup.lines = subst (λ (d : AgentRecord). c.args.line.0 < d.setup.lines) (sym c.self.view_is) c.requires.line in
    let same = (some_steady c.self.inside.tables c.self.invariant).tables.memory in
    omega (arith, low, same)

pub returns : goal.returns
returns c =
    let low : c.args.line.0 < c.self.inside.tables.setup.lines = subst (λ (d : AgentRecord). c.args.line.0 < d.setup.lines) (sym c.self.view_is) c.requires.line in
    record {
      bytes = subst (λ (d : AgentRecord). WhereStands d (λ setup opening mine. c.bytes.result ≡ memory opening c.args.line.0 mine)) c.self.view_is (bytes_read c.self.inside.tables c.args.line.0 c.bytes.result low c.bytes.ensures);
    }
