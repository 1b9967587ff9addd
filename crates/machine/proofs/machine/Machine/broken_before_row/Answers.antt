-- P0 is tried first.
use Rattle.std.proofs.Common.{ap, sym, ◌∙◌}
use Rattle.coherence_model.specs.Rules.{p0_profile}
use Rattle.cxl_message.specs.Setup.{Configuration}
use Rattle.machine.proofs.Judged.{breaks_profile}
use Rattle.machine.proofs.machine.Machine.broken_before_row.Goals as goal

pub returns-then-not-keeps_profile-clause-broken : goal.returns-then-not-keeps_profile-clause-broken
returns-then-not-keeps_profile-clause-broken c =
    breaks_profile c.args.self.now c.args.event.now (ap (λ (s : Configuration). p0_profile s c.args.event.now) (sym c.setup.ensures.kept) ∙ sym c.keeps_profile.ensures ∙ c.if-not-keeps_profile.true)
