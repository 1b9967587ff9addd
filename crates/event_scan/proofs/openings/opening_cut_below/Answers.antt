-- An opening record that is begun waits for its last byte.
use Rattle.std.proofs.Common.{arith, sym, length, ◌≡◌}
use Rattle.std.proofs.lemmas.Bool.{eqb-false}
use Rattle.cxl_codec.proofs.Meanings.{bytes_from}
use Rattle.event_scan.proofs.ScanReads.{opening_waits}
use Rattle.event_scan.proofs.openings.opening_cut_below.Goals as goal

pub returns-clause-cut : goal.returns-clause-cut
returns-clause-cut c more each fewer =
    let some : (length c.args.bytes.now ≡ 0) → ⊥ = eqb-false (length c.args.bytes.now) 0 (sym c.if-is_empty.ensures) in
    opening_waits c.args.bytes.now more (omega (arith, some)) c.if-bytes.false (bytes_from c.args.bytes.now (λ i. omega (arith, c.type_inv.bytes i))) each fewer
