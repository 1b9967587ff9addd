-- Something is pending at a host, or at the device.
use Rattle.std.proofs.Common.{sym, ◌∙◌}
use Rattle.machine.proofs.Told.{pends_by_device, pends_by_host}
use Rattle.machine.proofs.machine.Machine.pending.Goals as goal

pub returns-then-any_host_pends : goal.returns-then-any_host_pends
returns-then-any_host_pends c = record { pending = pends_by_host c.args.self.now (λ setup opening t stands. sym c.if-any_host_pends.true ∙ c.any_host_pends.ensures.pending setup opening t stands) }

pub returns : goal.returns
returns c = record {
  pending = pends_by_device c.args.self.now c.device.result.now c.pending.result (λ setup opening t stands. sym c.if-any_host_pends.false ∙ c.any_host_pends.ensures.pending setup opening t stands)
      c.device.ensures.stands c.pending.ensures.pending;
}
