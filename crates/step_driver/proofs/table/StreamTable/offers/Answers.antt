use Rattle.std.proofs.Common.{ap, arith, sym, ◌∙◌}
use Rattle.cxl_message.specs.Setup.{stream_host}
use Rattle.step_driver.proofs.Asked.{stream_host_below}
use Rattle.step_driver.proofs.table.StreamTable.offers.Goals as goal

pub bounds-self-host : goal.bounds-self-host
bounds-self-host c =
    let at = c.in-Some.ensures ∙ ap (λ s. stream_host s c.args.stream) c.setup.ensures.setup in
    let limits = c.requires.drivable.limits in
    let low = stream_host_below c.args.script.now.setup limits c.args.stream c.in-Some.host (sym at) in
    let few = limits.hosts.1 in
    omega (arith, low, few)
