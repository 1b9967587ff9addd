-- Where a byte is refused, or was the last of the last part, nothing more comes.
use Rattle.std.proofs.Common.{◌≡◌, arith, ap, sym, ◌∙◌}
use Rattle.event_scan.specs.declared.scans.Part.{Part}
use Rattle.event_scan.specs.Scanning.{ToCome}
use Rattle.event_scan.proofs.ScanRoom.{few_behind, over_part, over_span, over_within, over_zero, room_behind}
use Rattle.event_scan.proofs.scans.EventScan.takes.Goals as goal

pub returns-then-byte-most-clause-settled : goal.returns-then-byte-most-clause-settled
returns-then-byte-most-clause-settled c room ends =
    over_within c.args.self.now c.in-Within.least c.in-Within.most c.args.byte (ap (λ (t : ToCome). t.next) (sym c.self.view_is) ∙ c.in-Within.is) (c.turn.ensures.settled (omega (arith, few_behind c.args.self.now room)) ends)

pub returns-then-byte-eq4-clause-settled : goal.returns-then-byte-eq4-clause-settled
returns-then-byte-eq4-clause-settled c room ends =
    over_span c.args.self.now c.args.byte (ap (λ (t : ToCome). t.next) (sym c.self.view_is) ∙ c.in-BlockSpan.is) (c.turn-then-byte-eq4.ensures.settled (omega (arith, few_behind c.args.self.now room)) ends)

pub returns-then-count-le1-clause-settled : goal.returns-then-count-le1-clause-settled
returns-then-count-le1-clause-settled c room ends =
    over_zero c.args.self.now c.in-Zeros.count c.args.byte (ap (λ (t : ToCome). t.next) (sym c.self.view_is) ∙ c.in-Zeros.is) (omega (arith, c.if-count-le1.true)) (c.turn-then-count-le1.ensures.settled (omega (arith, few_behind c.args.self.now room)) ends)

pub returns-in-Cause-clause-settled : goal.returns-in-Cause-clause-settled
returns-in-Cause-clause-settled c room ends =
    let is : c.args.self.now.next ≡ Part.Cause = ap (λ (t : ToCome). t.next) (sym c.self.view_is) ∙ c.in-Cause.is in
    over_part c.args.self.now Part.Cause c.args.byte is (c.takes_cause.ensures.settled (omega (arith, room_behind c.args.self.now Part.Cause room is)) ends)

pub returns-in-Op-clause-settled : goal.returns-in-Op-clause-settled
returns-in-Op-clause-settled c room ends =
    let is : c.args.self.now.next ≡ Part.Op = ap (λ (t : ToCome). t.next) (sym c.self.view_is) ∙ c.in-Op.is in
    over_part c.args.self.now Part.Op c.args.byte is (c.takes_op.ensures.settled (omega (arith, room_behind c.args.self.now Part.Op room is)) ends)

pub returns-in-Act-clause-settled : goal.returns-in-Act-clause-settled
returns-in-Act-clause-settled c room ends =
    let is : c.args.self.now.next ≡ Part.Act = ap (λ (t : ToCome). t.next) (sym c.self.view_is) ∙ c.in-Act.is in
    over_part c.args.self.now Part.Act c.args.byte is (c.takes_act.ensures.settled (omega (arith, room_behind c.args.self.now Part.Act room is)) ends)

pub returns-in-Message-clause-settled : goal.returns-in-Message-clause-settled
returns-in-Message-clause-settled c room ends =
    let is : c.args.self.now.next ≡ Part.Message = ap (λ (t : ToCome). t.next) (sym c.self.view_is) ∙ c.in-Message.is in
    over_part c.args.self.now Part.Message c.args.byte is (c.takes_message.ensures.settled (omega (arith, room_behind c.args.self.now Part.Message room is)) ends)

pub returns-in-Sends-clause-settled : goal.returns-in-Sends-clause-settled
returns-in-Sends-clause-settled c room ends =
    let is : c.args.self.now.next ≡ Part.Sends = ap (λ (t : ToCome). t.next) (sym c.self.view_is) ∙ c.in-Sends.is in
    over_part c.args.self.now Part.Sends c.args.byte is (c.takes_sends.ensures.settled (omega (arith, room_behind c.args.self.now Part.Sends room is)) ends)

pub returns-in-Commit-clause-settled : goal.returns-in-Commit-clause-settled
returns-in-Commit-clause-settled c room ends =
    let is : c.args.self.now.next ≡ Part.Commit = ap (λ (t : ToCome). t.next) (sym c.self.view_is) ∙ c.in-Commit.is in
    over_part c.args.self.now Part.Commit c.args.byte is (c.takes_commit.ensures.settled (omega (arith, room_behind c.args.self.now Part.Commit room is)) ends)
