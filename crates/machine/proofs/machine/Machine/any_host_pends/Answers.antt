-- One host after another is asked.
use Rattle.std.proofs.Common.{arith, sym, ◌∙◌}
use Rattle.machine.proofs.Told.{all_rest, one_more_rests, one_pends}
use Rattle.machine.proofs.machine.Machine.any_host_pends.Goals as goal

pub returns-then-host_pends : goal.returns-then-host_pends
returns-then-host_pends c = record { pending = one_pends c.args.self.now c.loop-host.host (omega arith) (λ setup opening t stands. sym c.if-host_pends.true ∙ c.host_pends.ensures.pending setup opening t stands) }

pub loop-host-preserved : goal.loop-host-preserved
loop-host-preserved c = one_more_rests c.args.self.now c.loop-host.host c.loop-host.invariant (λ setup opening t stands. sym c.if-host_pends.false ∙ c.host_pends.ensures.pending setup opening t stands)

pub returns : goal.returns
returns c = record { pending = all_rest c.args.self.now c.loop-host.host (omega arith) c.loop-host.invariant }
