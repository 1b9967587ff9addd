-- What holds of the parts of a machine holds of the machine.
use Rattle.std.proofs.Common.{◌≡◌, List, sym, subst}
use Rattle.cxl_message.specs.declared.events.Event.{Event}
use Rattle.cxl_message.specs.declared.identifiers.Bytes64.{Bytes64}
use Rattle.cxl_message.specs.declared.identifiers.Line.{Line}
use Rattle.cxl_message.specs.Setup.{Configuration}
use Rattle.machine.specs.Going.{KeepsFirstRules}
use Rattle.machine.specs.Stands.{MachineRecord, StandsFor, WhereStands}

-- what holds for each run that a machine stands for holds where another is the same
pub seen_as : (v m : MachineRecord) (Says : Configuration → List (Line × Bytes64) → List Event → Type 0) → v ≡ m → WhereStands v Says → WhereStands m Says
seen_as v m Says is holds setup opening t stands = holds setup opening t (subst (λ (x : MachineRecord). StandsFor x setup opening t) (sym is) stands)

-- an event keeps the first rules of a machine that is the same
pub keeps_as : (v m : MachineRecord) (e : Event) → v ≡ m → KeepsFirstRules v e → KeepsFirstRules m e
keeps_as v m e is keeps = subst (λ (x : MachineRecord). KeepsFirstRules x e) is keeps
