-- Verdicts by computation: the rules that come before the rows.
use Rattle.std.specs.Prelude.{refl}
use Rattle.coherence_model.specs.Runs.{first_broken}
use Rattle.broken_runs.specs.FirstRules.{BreaksP0, BreaksK0, BreaksS0}

-- breaks p0
pub p0 : BreaksP0
unfolding first_broken
p0 = refl

-- breaks k0
pub k0 : BreaksK0
unfolding first_broken
k0 = refl

-- breaks s0
pub s0 : BreaksS0
unfolding first_broken
s0 = refl
