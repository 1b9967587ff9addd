-- The host is listed as the model has it.
use Rattle.std.proofs.Common.{◌≡◌, ◌<◌, sym, subst, ap, arith}
use Rattle.device_state.specs.Agent.{AgentRecord}
use Rattle.device_engine.specs.Contract.{WhereStands}
use Rattle.coherence_model.specs.Directory.{is_busy}
use Rattle.coherence_model.specs.DirectoryChanges.{directory}
use Rattle.device_engine.proofs.Glue.{listing_read, some_steady}
use Rattle.device_engine.proofs.agents.DeviceAgent.listed.Goals as goal

pub listing-requires-clause-line : goal.listing-requires-clause-line
listing-requires-clause-line c =
    let low : c.args.line.0 < c.self.inside.tables.setup.lines = subst (λ (d : AgentRecord). c.args.line.0 < d.setup.lines) (sym c.self.view_is) c.requires.line in
    let same = (some_steady c.self.inside.tables c.self.invariant).tables.filter_lines in
    omega (arith, low, same)

pub listing-requires-clause-host : goal.listing-requires-clause-host
listing-requires-clause-host c =
    let low : c.args.host < c.self.inside.tables.setup.hosts = subst (λ (d : AgentRecord). c.args.host < d.setup.hosts) (sym c.self.view_is) c.requires.host in
    let same = (some_steady c.self.inside.tables c.self.invariant).tables.filter_hosts in
    omega (arith, low, same)

pub returns : goal.returns
returns c =
    let low : c.args.line.0 < c.self.inside.tables.setup.lines = subst (λ (d : AgentRecord). c.args.line.0 < d.setup.lines) (sym c.self.view_is) c.requires.line in
    let host : c.args.host < c.self.inside.tables.setup.hosts = subst (λ (d : AgentRecord). c.args.host < d.setup.hosts) (sym c.self.view_is) c.requires.host in
    record {
      listing = subst (λ (d : AgentRecord). WhereStands d (λ setup opening mine. c.listing.result ≡ (directory setup mine).listed c.args.line.0 c.args.host)) c.self.view_is
          (listing_read c.self.inside.tables c.args.line.0 c.args.host c.listing.result low host c.listing.ensures);
    }
