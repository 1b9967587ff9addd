-- What the laws of every run say after an event that was applied.
use Rattle.std.proofs.Common.{◌∷◌, IsTrue}
use Rattle.std.specs.Prelude.{Err, Ok, OnOk, Result}
use Rattle.cxl_message.specs.declared.events.Event.{Event}
use Rattle.cxl_message.specs.declared.states.RuleNo.{RuleNo}
use Rattle.coherence_model.specs.Weight.{weight_is_bounded}
use Rattle.coherent_runs.specs.Coherent.{IsCoherent}
use Rattle.coherent_runs.proofs.Runs.{runs_coherent}
use Rattle.machine.specs.Stands.{MachineRecord, StandsFor, WhereStands}
use Rattle.weight_laws.proofs.Weights.{weights_are_bounded}

-- the run is coherent
pub coherent_after :
    (old new : MachineRecord) (e : Event) (r : Result (Unit {0}) RuleNo) → WhereStands old (λ setup opening t. OnOk r (StandsFor new setup opening (e ∷ t)))
    → WhereStands old (λ setup opening t. OnOk r (IsCoherent setup opening (e ∷ t)))
coherent_after old new e (Ok u) on setup opening t stands = let next = on setup opening t stands in runs_coherent setup opening next.within (e ∷ t) next.run
coherent_after old new e (Err rule) on setup opening t stands = tt

-- and the event has lowered the weight, or is an operation
pub weight_after :
    (old new : MachineRecord) (e : Event) (r : Result (Unit {0}) RuleNo) → WhereStands old (λ setup opening t. OnOk r (StandsFor new setup opening (e ∷ t)))
    → WhereStands old (λ setup opening t. OnOk r (IsTrue (weight_is_bounded setup t e)))
weight_after old new e (Ok u) on setup opening t stands = let next = on setup opening t stands in weights_are_bounded setup opening next.within t e next.run
weight_after old new e (Err rule) on setup opening t stands = tt
