-- Verdicts by computation: the rows of a host.
use Rattle.std.specs.Prelude.{refl}
use Rattle.coherence_model.specs.Runs.{first_broken}
use Rattle.broken_runs.specs.HostRules.{BreaksH1, BreaksH2, BreaksH3, BreaksH4, BreaksH5, BreaksH6, BreaksH7, BreaksH8, BreaksH9, BreaksH10}

-- breaks h1
pub h1 : BreaksH1
unfolding first_broken
h1 = refl

-- breaks h2
pub h2 : BreaksH2
unfolding first_broken
h2 = refl

-- breaks h3
pub h3 : BreaksH3
unfolding first_broken
h3 = refl

-- breaks h4
pub h4 : BreaksH4
unfolding first_broken
h4 = refl

-- breaks h5
pub h5 : BreaksH5
unfolding first_broken
h5 = refl

-- breaks h6
pub h6 : BreaksH6
unfolding first_broken
h6 = refl

-- breaks h7
pub h7 : BreaksH7
unfolding first_broken
h7 = refl

-- breaks h8
pub h8 : BreaksH8
unfolding first_broken
h8 = refl

-- breaks h9
pub h9 : BreaksH9
unfolding first_broken
h9 = refl

-- breaks h10
pub h10 : BreaksH10
unfolding first_broken
h10 = refl
