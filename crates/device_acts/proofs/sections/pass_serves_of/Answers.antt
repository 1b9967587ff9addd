-- One more message is passed.
use Rattle.std.proofs.Common.{◌∙◌, ◌<◌, [], Option, length, ap, arith}
use Rattle.std.specs.Option.{option_map_or}
use Rattle.std.proofs.lemmas.Option.{slice_get-get_or}
use Rattle.cxl_message.specs.declared.channels.Channel.{Channel}
use Rattle.cxl_message.specs.declared.messages.Message.{Message}
use Rattle.device_record.specs.Acts.{serve_acts}
use Rattle.device_record.specs.Record.{writes_at}
use Rattle.device_state.specs.Agent.{AgentRecord}
use Rattle.device_acts.specs.Searching.{searched}
use Rattle.device_acts.proofs.Passing.{searched_more}
use Rattle.device_acts.proofs.sections.pass_serves_of.Goals as goal

pub loop-number-preserved : goal.loop-number-preserved
loop-number-preserved c =
    let k = c.args.tables.now.kept in
    let acts = serve_acts c.args.tables.now.setup k c.args.host in
    let writes = writes_at c.args.host k.writes in
    let within : c.loop-number.number < length writes = omega (arith, c.loop-number-test.true, c.count-number-end.ensures.counted, ap (λ (d : AgentRecord). length (writes_at c.args.host d.kept.writes)) c.tables.view_is) in
    let none : Message = Message.Credit Channel.Req in
    searched_more acts writes c.loop-number.number none c.args.search.now c.loop-number.search c.pass_serve.new.search within c.loop-number.invariant
    (c.pass_serve.ensures ∙ ap (λ (o : Option Message). searched (option_map_or acts o []) c.loop-number.search) (slice_get-get_or writes c.loop-number.number none within))
