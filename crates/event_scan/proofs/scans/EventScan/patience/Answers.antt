-- Fewer bytes than are free leave the record cut short, and so do as many, where another part is to come.
use Rattle.std.proofs.Common.{◌≡◌, ℕ, arith, ap, sym, ◌∙◌, length}
use Rattle.std.specs.Prelude.{max}
use Rattle.std.proofs.lemmas.Bool.{eqb-false}
use Rattle.std.proofs.lemmas.List.{length-reverse}
use Rattle.event_scan.specs.Scanning.{ToCome}
use Rattle.event_scan.proofs.ScanBehind.{cut_by_patience, cut_within}
use Rattle.event_scan.proofs.scans.EventScan.patience.Goals as goal

pub returns-then-is_empty-clause-cut : goal.returns-then-is_empty-clause-cut
returns-then-is_empty-clause-cut c front more behind each fewer =
    let most : c.max-free.result ≡ max c.in-Free.count 1 = c.max-free.ensures ∙ ap (λ (k : ℕ). max k 1) c.from.ensures in
    cut_by_patience c.args.self.now c.in-Free.count front more behind (ap (λ (t : ToCome). t.next) (sym c.self.view_is) ∙ c.in-Free.is) each (omega (arith, most, fewer))

pub returns-else-is_empty-clause-cut : goal.returns-else-is_empty-clause-cut
returns-else-is_empty-clause-cut c front more behind each fewer =
    let most : c.max-free.result ≡ max c.in-Free.count 1 = c.max-free.ensures ∙ ap (λ (k : ℕ). max k 1) c.from.ensures in
    let others : length c.args.self.now.others ≡ length c.self.inside.behind.items = ap (λ (t : ToCome). length t.others) (sym c.self.view_is) ∙ length-reverse c.self.inside.behind.items in
    let some : (length c.self.inside.behind.items ≡ 0) → ⊥ = eqb-false (length c.self.inside.behind.items) 0 (sym c.is_empty.ensures ∙ c.if-is_empty.false) in
    cut_within c.args.self.now c.in-Free.count front more behind (ap (λ (t : ToCome). t.next) (sym c.self.view_is) ∙ c.in-Free.is) each (omega (arith, others, some)) (omega (arith, most, fewer))
