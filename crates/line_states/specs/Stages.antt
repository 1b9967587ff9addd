-- A stage as it is kept, and the model's. All of it is an own rule.
use Rattle.std.specs.Prelude.{◌≡◌}
use Rattle.std.proofs.Common.{refl}
use Rattle.coherence_model.specs.Stages.{Stage}
use Rattle.line_states.specs.declared.stages.LineStage.TheInside.{Inside}
use Rattle.line_states.specs.declared.stages.StageKind.{StageKind}

-- the model's stage of a kind
abbrev pub stage_of : StageKind → Stage
stage_of StageKind.New = Stage.New
stage_of (StageKind.Asked tag) = Stage.Asked tag.0
stage_of StageKind.Early = Stage.Early
stage_of StageKind.Late = Stage.Late
stage_of StageKind.Writing = Stage.Writing
stage_of StageKind.Written = Stage.Written

-- and back
abbrev pub kind_of : Stage → StageKind
kind_of Stage.New = StageKind.New
kind_of (Stage.Asked tag) = StageKind.Asked (record { 0 = tag })
kind_of Stage.Early = StageKind.Early
kind_of Stage.Late = StageKind.Late
kind_of Stage.Writing = StageKind.Writing
kind_of Stage.Written = StageKind.Written

abbrev pub inside_of : Stage → Inside
inside_of st = record { kind = kind_of st }

kind_back : (k : StageKind) → kind_of (stage_of k) ≡ k
kind_back StageKind.New = refl
kind_back (StageKind.Asked tag) = refl
kind_back StageKind.Early = refl
kind_back StageKind.Late = refl
kind_back StageKind.Writing = refl
kind_back StageKind.Written = refl

pub restored : (a : Inside) → Unit {0} → inside_of (stage_of a.kind) ≡ a
restored a h = λ i. record { kind = kind_back a.kind i }
