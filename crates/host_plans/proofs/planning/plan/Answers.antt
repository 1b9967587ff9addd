use Rattle.std.proofs.Common.{ap, arith, length, subst, sym, true, ◌<◌, ◌∙◌, ◌≡◌, ◌≤◌}
use Rattle.std.specs.Prelude.{IfOk}
use Rattle.cxl_message.specs.Events.{line_of}
use Rattle.host_plans.proofs.Holding.{drops_hold, found_line, replaces_hold}
use Rattle.host_plans.specs.Plans.{PlanHolds, lacks_room_in}
use Rattle.host_plans.proofs.planning.plan.Goals as goal

pub returns-then-may_write-clause-holds : goal.returns-then-may_write-clause-holds
returns-then-may_write-clause-holds c =
    let ways = c.args.cache.now.ways in
    let low : line_of c.args.op.now < c.args.setup.now.lines = omega (arith, c.if-line-lines.false, c.lines.ensures.lines, c.line-line.ensures) in
    let most : length ways ≤ c.args.setup.now.ways = omega (arith, c.lacks_room.ensures.most, c.requires) in
    let lacks : lacks_room_in c.args.setup.now.ways ways (line_of c.args.op.now) ≡ true =
    ap (λ n. lacks_room_in n ways (line_of c.args.op.now)) (sym c.requires) ∙ ap (lacks_room_in c.args.cache.now.room ways) (sym c.line-line.ensures) ∙ sym c.lacks_room.ensures.value ∙ c.if-lacks_room.true in
    subst (λ r. IfOk r (λ plan. PlanHolds c.args.setup.now.ways c.args.setup.now.lines ways c.args.busy.now c.args.op.now plan)) (sym c.replaces.ensures)
    (replaces_hold _ _ ways c.args.busy.now c.args.op.now c.in-Some.victim c.first_tag-first.result c.second_tag-second.result low most lacks (found_line _ c.in-Some.victim c.in-Some.ensures.value))

pub returns-then-lacks_room-clause-holds : goal.returns-then-lacks_room-clause-holds
returns-then-lacks_room-clause-holds c =
    let ways = c.args.cache.now.ways in
    let low : line_of c.args.op.now < c.args.setup.now.lines = omega (arith, c.if-line-lines.false, c.lines.ensures.lines, c.line-line.ensures) in
    let most : length ways ≤ c.args.setup.now.ways = omega (arith, c.lacks_room.ensures.most, c.requires) in
    let lacks : lacks_room_in c.args.setup.now.ways ways (line_of c.args.op.now) ≡ true =
    ap (λ n. lacks_room_in n ways (line_of c.args.op.now)) (sym c.requires) ∙ ap (lacks_room_in c.args.cache.now.room ways) (sym c.line-line.ensures) ∙ sym c.lacks_room.ensures.value ∙ c.if-lacks_room.true in
    subst (λ r. IfOk r (λ plan. PlanHolds c.args.setup.now.ways c.args.setup.now.lines ways c.args.busy.now c.args.op.now plan)) (sym c.drops.ensures)
    (drops_hold _ _ ways c.args.busy.now c.args.op.now c.in-Some.victim c.first_tag-first.result low most lacks (found_line _ c.in-Some.victim c.in-Some.ensures.value))
