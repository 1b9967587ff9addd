-- The host of the stream answers.
use Rattle.std.proofs.Common.{ap, sym, ◌∙◌}
use Rattle.cxl_message.specs.Setup.{Configuration, stream_host}
use Rattle.machine.proofs.Told.{offered_is, stream_host_is_there}
use Rattle.machine.proofs.machine.Machine.offer.Goals as goal

pub offer_of-requires : goal.offer_of-requires
offer_of-requires c = stream_host_is_there c.args.self.now c.args.stream c.in-Some.host c.setup.ensures.some (sym c.in-Some.is ∙ c.stream_host.ensures ∙ ap (λ (s : Configuration). stream_host s c.args.stream) c.setup.ensures.kept)

pub returns : goal.returns
returns c = record {
  offered = offered_is c.args.self.now c.args.stream c.in-Some.host c.args.op.now c.offer_of.result
      (sym c.in-Some.is ∙ c.stream_host.ensures ∙ ap (λ (s : Configuration). stream_host s c.args.stream) c.setup.ensures.kept) c.offer_of.ensures.offered;
}
