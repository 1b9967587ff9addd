-- No byte was seen.
use Rattle.std.proofs.Common.{◌≡◌, List, [], refl, ap, ◌∷◌}
use Rattle.std.specs.Prelude.{reverse}
use Rattle.event_scan.specs.declared.scans.Part.{Part}
use Rattle.event_scan.proofs.ScanBehind.{starts_behind}
use Rattle.event_scan.proofs.scans.EventScan.new.Goals as goal

pub returns : goal.returns
returns c =
    let behind : c.push-3.new.self.items ≡ Part.Commit ∷ Part.Sends ∷ Part.Cause ∷ [] = rw (c.push-3.ensures.items, c.push-2.ensures.items, c.push.ensures.items, c.new-behind.ensures) refl in
    starts_behind _ (ap (λ (ps : List Part). Part.Within 0 16 ∷ reverse ps) behind)
