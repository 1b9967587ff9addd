-- One more request is passed.
use Rattle.std.proofs.Common.{◌∙◌, ◌<◌, List, length, ap, arith}
use Rattle.cxl_message.specs.declared.events.Act.{Act}
use Rattle.device_record.specs.Acts.{waiting_acts}
use Rattle.device_acts.specs.Searching.{searched}
use Rattle.device_acts.proofs.Passing.{searched_more}
use Rattle.device_acts.proofs.sections.pass_waiting.Goals as goal

pub loop-request-preserved : goal.loop-request-preserved
loop-request-preserved c =
    let within : c.loop-request.request-index < length c.args.waiting.now = omega arith in
    let acts = waiting_acts c.args.tables.now.setup c.args.tables.now.kept c.args.host in
    searched_more acts c.args.waiting.now c.loop-request.request-index _ c.args.search.now c.loop-request.search c.pass_some.new.search within c.loop-request.invariant
    (c.pass_some.ensures ∙ ap (λ (l : List Act). searched l c.loop-request.search) (c.waiting_act.ensures ∙ ap acts (c.request.view_is ∙ c.request-item.is)))
