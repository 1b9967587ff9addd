-- Verdicts by computation: the rows of the device.
use Rattle.std.specs.Prelude.{refl}
use Rattle.coherence_model.specs.Runs.{first_broken}
use Rattle.broken_runs.specs.DeviceRules.{BreaksV1, BreaksV2, BreaksV3, BreaksV4, BreaksV5, BreaksV6, BreaksV7, BreaksV8, BreaksV9}

-- breaks v1
pub v1 : BreaksV1
unfolding first_broken
v1 = refl

-- breaks v2
pub v2 : BreaksV2
unfolding first_broken
v2 = refl

-- breaks v3
pub v3 : BreaksV3
unfolding first_broken
v3 = refl

-- breaks v4
pub v4 : BreaksV4
unfolding first_broken
v4 = refl

-- breaks v5
pub v5 : BreaksV5
unfolding first_broken
v5 = refl

-- breaks v6
pub v6 : BreaksV6
unfolding first_broken
v6 = refl

-- breaks v7
pub v7 : BreaksV7
unfolding first_broken
v7 = refl

-- breaks v8
pub v8 : BreaksV8
unfolding first_broken
v8 = refl

-- breaks v9
pub v9 : BreaksV9
unfolding first_broken
v9 = refl
