-- The line is Busy where the model says so.
use Rattle.std.proofs.Common.{◌≡◌, ◌<◌, sym, subst, ap, arith}
use Rattle.device_state.specs.Agent.{AgentRecord}
use Rattle.device_engine.specs.Contract.{WhereStands}
use Rattle.coherence_model.specs.Directory.{is_busy}
use Rattle.coherence_model.specs.DirectoryChanges.{directory}
use Rattle.device_engine.proofs.Glue.{busy_shown, some_steady}
use Rattle.device_engine.proofs.agents.DeviceAgent.is_busy.Goals as goal

pub is_held-requires : goal.is_held-requires
is_held-requires c =
    let low : c.args.line.0 < c.self.inside.tables.setup.lines = subst (λ (d : AgentRecord). c.args.line.0 < d.setup.lines) (sym c.self.view_is) c.requires.line in
    let same = (some_steady c.self.inside.tables c.self.invariant).tables.filter_lines in
    omega (arith, low, same)

pub returns : goal.returns
returns c =
    let low : c.args.line.0 < c.self.inside.tables.setup.lines = subst (λ (d : AgentRecord). c.args.line.0 < d.setup.lines) (sym c.self.view_is) c.requires.line in
    record {
      busy = subst (λ (d : AgentRecord). WhereStands d (λ setup opening mine. c.is_held.result ≡ is_busy (directory setup mine) c.args.line.0)) c.self.view_is
          (busy_shown c.self.inside.tables c.args.line.0 c.is_held.result low c.is_held.ensures);
    }
