use Rattle.std.proofs.Common.{Some, ap, length, subst, sym, ◌<◌, ◌≡◌, ◌∙◌}
use Rattle.std.specs.Prelude.{slice_get}
use Rattle.std.proofs.lemmas.Bool.{ltb-true}
use Rattle.std.proofs.lemmas.Option.{slice_get-get_or}
use Rattle.cxl_message.specs.declared.events.Cause.{Cause}
use Rattle.cxl_message.specs.Setup.{stream_host}
use Rattle.coherence_model.specs.Refusals.{host_answer}
use Rattle.coherence_model.specs.Traces.{events_of}
use Rattle.step_driver.specs.Driver.{one_if}
use Rattle.step_driver.proofs.Asked.{answer_tells, next_is, stream_host_below}
use Rattle.step_driver.proofs.asking.is_offered.Goals as goal

pub host-requires : goal.host-requires
host-requires c =
    let at = c.in-Some-stream_host.ensures ∙ ap (λ s. stream_host s c.args.stream) c.setup.ensures.setup in
    subst (λ s. c.in-Some-stream_host.host < s.hosts) (sym c.requires.setup) (stream_host_below c.args.script.now.setup c.ops.ensures.script.setup c.args.stream c.in-Some-stream_host.host (sym at))

pub returns : goal.returns
returns c t stands y next =
    let script = c.args.script.now in
    let ops = c.ops.result.now in
    let op = c.in-Some.op.now in
    let host = c.in-Some-stream_host.host in
    let cause = Cause.Op c.args.stream c.args.begun op in
    let at = c.in-Some-stream_host.ensures ∙ ap (λ s. stream_host s c.args.stream) c.setup.ensures.setup in
    let found = c.in-Some.ensures.lookup in
    let there : slice_get ops c.args.begun ≡ Some op = slice_get-get_or ops c.args.begun op (ltb-true c.args.begun (length ops) (sym found.0)) ∙ ap Some (sym found.1) in
    let answer = c.would_into.ensures.answer script.setup host (events_of host t) (c.host.ensures.stands script.setup script.opening t stands) in
    ap length (next_is script t y c.args.stream c.args.begun host ops op next at c.ops.ensures.ops there)
    ∙ answer_tells host cause (host_answer script.setup host cause (events_of host t)) c.would_into.result c.would_into.new.room answer
    ∙ ap one_if (sym c.is_ok.ensures.value)
