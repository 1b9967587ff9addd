-- The next bytes may have any value.
use Rattle.std.proofs.Common.{◌-◌, arith, ap, ◌∙◌, length}
use Rattle.std.specs.Prelude.{max}
use Rattle.event_scan.specs.declared.scans.Part.{Part}
use Rattle.event_scan.specs.Scanning.{ToCome}
use Rattle.event_scan.proofs.ScanBehind.{goes_over_some, goes_over_all}
use Rattle.event_scan.proofs.ScanRoom.{few_behind, over_free}
use Rattle.event_scan.proofs.scans.EventScan.pass.Goals as goal

pub returns-then-bytes-most-clause-over : goal.returns-then-bytes-most-clause-over
returns-then-bytes-most-clause-over c =
    goes_over_some c.args.self.now _ c.args.count c.args.bytes.now c.requires.free
    (ap (λ (t : ToCome). record { next = Part.Free (c.args.count - length c.args.bytes.now); others = t.others }) c.self.view_is) c.requires.some (omega (arith, c.if-bytes-most.true, c.from-most.ensures))

pub returns-then-turn-clause-over : goal.returns-then-turn-clause-over
returns-then-turn-clause-over c =
    goes_over_all c.args.self.now c.turn.new.self c.args.count c.max.result c.args.bytes.now c.requires.free (c.turn.ensures.taken c.if-turn.true)
    (c.max.ensures ∙ ap (λ k. max k 1) c.from-most.ensures) c.requires.some (omega (arith, c.if-bytes-most.false, c.from-most.ensures))

pub returns-else-turn-clause-settled : goal.returns-else-turn-clause-settled
returns-else-turn-clause-settled c room =
    over_free c.args.self.now c.args.count c.args.bytes.now c.requires.free (c.turn.ensures.settled (omega (arith, few_behind c.args.self.now room)) c.if-turn.false) c.requires.some (omega (arith, c.if-bytes-most.false, c.from-most.ensures))
