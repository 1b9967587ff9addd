-- The bytes are scanned one after the other.
use Rattle.std.proofs.Common.{arith, refl, sym, []}
use Rattle.std.proofs.lemmas.Bool.{eqb-true}
use Rattle.cxl_codec.proofs.Meanings.{bytes_from}
use Rattle.event_scan.proofs.Scanning.{scan_nil}
use Rattle.event_scan.proofs.ScanBehind.{ends_behind, over_further}
use Rattle.event_scan.proofs.ScanRoom.{settles}
use Rattle.event_scan.proofs.scans.EventScan.goes_on.Goals as goal

pub loop-rest-init : goal.loop-rest-init
loop-rest-init c = ([], refl, scan_nil _)

pub loop-rest-smaller : goal.loop-rest-smaller
loop-rest-smaller c = c.in-Some.ensures.over.fewer

pub loop-rest-preserved : goal.loop-rest-preserved
loop-rest-preserved c = over_further c.args.self.now c.loop-rest.self c.step.new.self c.args.bytes.now c.loop-rest.rest.now c.in-Some.left.now c.loop-rest.invariant.0 c.loop-rest.invariant.1 c.loop-rest.invariant.2 c.in-Some.ensures.over

pub returns-in-None-clause-settled : goal.returns-in-None-clause-settled
returns-in-None-clause-settled c ends front behind cut =
    let seen = c.loop-rest.invariant in
    settles front c.args.bytes.now seen.0 c.loop-rest.rest.now c.args.self.now c.loop-rest.self behind seen.1 seen.2 c.in-None.ensures.settled cut

pub returns-clause-behind : goal.returns-clause-behind
returns-clause-behind c so front behind =
    let seen = c.loop-rest.invariant in
    ends_behind front c.args.bytes.now seen.0 c.loop-rest.rest.now c.args.self.now c.loop-rest.self behind (bytes_from c.args.bytes.now (λ i. omega (arith, c.type_inv.bytes i))) seen.1 (eqb-true _ _ (sym c.loop-rest-test.ensures)) seen.2
