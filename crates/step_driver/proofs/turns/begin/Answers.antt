-- What the host of an offered stream answers is made, and breaks no rule.
use Rattle.std.proofs.Common.{ap, arith, get_or, subst, sym, ◌<◌, ◌∙◌, ◌∷◌}
use Rattle.cxl_message.specs.declared.events.Cause.{Cause}
use Rattle.cxl_message.specs.declared.events.Op.{Op}
use Rattle.cxl_message.specs.Setup.{stream_host}
use Rattle.choice_laws.proofs.Choices.{any_pick_reaches}
use Rattle.coherence_model.specs.Refusals.{host_answer}
use Rattle.coherence_model.specs.Runs.{first_broken}
use Rattle.coherence_model.specs.Traces.{events_of}
use Rattle.driven_laws.proofs.Reached.{reached_is_run}
use Rattle.step_driver.specs.Driver.{one_if}
use Rattle.step_driver.proofs.Asked.{answer_tells, stream_host_below}
use Rattle.step_driver.proofs.Began.{accepted, made_is, ready}
use Rattle.step_driver.proofs.Turned.{nothing_broken, refusal_is_none}
use Rattle.step_driver.proofs.turns.begin.Goals as goal

pub bounds-ops-index : goal.bounds-ops-index
bounds-ops-index c =
    let script = c.args.script.now in
    let host = c.in-Some.host in
    let stream = c.args.stream in
    let ops = c.ops.result.now in
    let at = c.in-Some.ensures ∙ ap (λ s. stream_host s stream) c.setup.ensures.setup in
    let o = c.requires.offered in
    let t = o.0 in
    let begun = get_or c.args.table.now.begun stream 0 in
    let no_op = Op.Load (record { 0 = 0 }) in
    let r = ready script c.requires.drivable c.args.machine.now c.args.table.now t o.2 stream host ops no_op o.1 o.3 at c.ops.ensures.ops in
    r.low

pub host-requires : goal.host-requires
host-requires c =
    let script = c.args.script.now in
    let host = c.in-Some.host in
    let stream = c.args.stream in
    let ops = c.ops.result.now in
    let at = c.in-Some.ensures ∙ ap (λ s. stream_host s stream) c.setup.ensures.setup in
    let same = c.requires.offered.1.stands.setup_is in
    subst (λ s. host < s.hosts) (sym same) (stream_host_below script.setup c.requires.drivable.limits stream host (sym at))

pub unreachable-requires-then-is_err : goal.unreachable-requires-then-is_err
unreachable-requires-then-is_err c =
    let script = c.args.script.now in
    let host = c.in-Some.host in
    let stream = c.args.stream in
    let ops = c.ops.result.now in
    let at = c.in-Some.ensures ∙ ap (λ s. stream_host s stream) c.setup.ensures.setup in
    let o = c.requires.offered in
    let t = o.0 in
    let begun = get_or c.args.table.now.begun stream 0 in
    let no_op = Op.Load (record { 0 = 0 }) in
    let r = ready script c.requires.drivable c.args.machine.now c.args.table.now t o.2 stream host ops no_op o.1 o.3 at c.ops.ensures.ops in
    let cause = Cause.Op stream begun (get_or ops begun no_op) in
    let mine = events_of host t in
    let answer = c.would_into.ensures.answer script.setup host mine (c.host.ensures.stands script.setup script.opening t o.1.stands) in
    let told = answer_tells host cause (host_answer script.setup host cause mine) c.would_into.result c.would_into.new.room answer in
    let one = r.one in
    let none = ap one_if c.if-is_err.ensures.negation in
    omega (arith, one, told, none)

pub unreachable-requires-then-is_err-2 : goal.unreachable-requires-then-is_err-2
unreachable-requires-then-is_err-2 c =
    let script = c.args.script.now in
    let host = c.in-Some.host in
    let stream = c.args.stream in
    let ops = c.ops.result.now in
    let at = c.in-Some.ensures ∙ ap (λ s. stream_host s stream) c.setup.ensures.setup in
    let o = c.requires.offered in
    let t = o.0 in
    let begun = get_or c.args.table.now.begun stream 0 in
    let no_op = Op.Load (record { 0 = 0 }) in
    let r = ready script c.requires.drivable c.args.machine.now c.args.table.now t o.2 stream host ops no_op o.1 o.3 at c.ops.ensures.ops in
    let cause = Cause.Op stream begun (get_or ops begun no_op) in
    let mine = events_of host t in
    let e = c.would_into.new.room in
    let agent = c.host.ensures.stands script.setup script.opening t o.1.stands in
    let answer = c.would_into.ensures.answer script.setup host mine agent in
    let made = made_is c.host.result.now.host host cause (host_answer script.setup host cause mine) c.would_into.result e answer c.if-is_err.ensures.negation c.would_into.ensures.agent (ap (λ a. a.host) agent.kept) c.would_into.ensures.cause in
    let run = reached_is_run script c.requires.drivable (e ∷ t) (any_pick_reaches script o.2 t e o.1.reached (r.is ∙ sym made)) in
    refusal_is_none c.judge.result (first_broken script.setup script.opening t e) c.if-is_err-2.ensures.negation (c.judge.ensures.answer script.setup script.opening t o.1.stands) (nothing_broken script.setup script.opening t e run)

pub returns : goal.returns
returns c =
    record {
      begun = λ t kept pick offered.
          let script = c.args.script.now in
          let host = c.in-Some.host in
          let stream = c.args.stream in
          let ops = c.ops.result.now in
          let at = c.in-Some.ensures ∙ ap (λ s. stream_host s stream) c.setup.ensures.setup in
          let begun = get_or c.args.table.now.begun stream 0 in
          let no_op = Op.Load (record { 0 = 0 }) in
          let r = ready script c.requires.drivable c.args.machine.now c.args.table.now t pick stream host ops no_op kept offered at c.ops.ensures.ops in
          let cause = Cause.Op stream begun (get_or ops begun no_op) in
          let mine = events_of host t in
          let e = c.would_into.new.room in
          let agent = c.host.ensures.stands script.setup script.opening t kept.stands in
          let answer = c.would_into.ensures.answer script.setup host mine agent in
          let made = made_is c.host.result.now.host host cause (host_answer script.setup host cause mine) c.would_into.result e answer c.if-is_err.ensures.negation c.would_into.ensures.agent (ap (λ a. a.host) agent.kept) c.would_into.ensures.cause in
          record { is = r.is ∙ sym made; stands = accepted c.judge.result c.if-is_err-2.ensures.negation (c.judge.ensures.goes_on script.setup script.opening t kept.stands) };
    }
