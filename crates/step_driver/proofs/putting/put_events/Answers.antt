-- The loop goes on by each turn, and ends at the trace that is put.
use Rattle.std.proofs.Common.{IsTrue, ap, arith, refl, subst, sym, ◌+◌, ◌∙◌}
use Rattle.cxl_codec.specs.Versions.{event_fits}
use Rattle.coherence_model.specs.Driven.{picks_left}
use Rattle.trace_stream.proofs.Costs.{no_fault}
use Rattle.step_driver.specs.Driver.{empty_table}
use Rattle.step_driver.specs.Schedules.{no_events, picks_of}
use Rattle.step_driver.specs.Summaries.{summary_of}
use Rattle.step_driver.proofs.Loops.{LoopAt, loop_cut, loop_done, loop_goes_on, loop_is_short, loop_starts, loop_sum_is_small, on_refusal}
use Rattle.step_driver.proofs.Ways.{formed, has_room}
use Rattle.step_driver.proofs.putting.put_events.Goals as goal

pub loop-init : goal.loop-init
loop-init g c =
    let script = c.args.script.now in
    let schedule = c.args.schedule in
    let machine = c.args.machine.now in
    let old = c.args.writer.now in
    let starts = loop_starts schedule script machine old c.requires.opened in
    record {
      at =
          subst (λ table. LoopAt schedule script machine table c.new-journals.result.0 c.picks-picks.result.now c.new-summary.result 0 old old) (sym c.new-table.ensures)
          (subst (λ journals. LoopAt schedule script machine empty_table journals c.picks-picks.result.now c.new-summary.result 0 old old) (sym c.new-journals.ensures)
          (subst (λ picks. LoopAt schedule script machine empty_table no_events picks c.new-summary.result 0 old old) (sym c.picks-picks.ensures)
          (subst (λ sum. LoopAt schedule script machine empty_table no_events (picks_of schedule script) sum 0 old old) (sym c.new-summary.ensures) starts)));
      begun = c.requires.begun;
      version = c.requires.version;
      count = c.requires.none;
      counts = omega arith;
      faults = refl;
      same_sink = refl;
    }

pub go_on-requires-clause-at : goal.go_on-requires-clause-at
go_on-requires-clause-at g c = (c.loop.invariant.at.t, c.loop.invariant.at.at)

pub returns-then-not-go_on-clause-summary : goal.returns-then-not-go_on-clause-summary
returns-then-not-go_on-clause-summary g c =
    let l = c.loop.invariant.at in
    l.summed ∙ ap summary_of (c.if-not-go_on.ensures.ends l.t l.at refl)

pub returns-then-not-go_on-clause-put : goal.returns-then-not-go_on-clause-put
returns-then-not-go_on-clause-put g c start begun =
    let l = c.loop.invariant.at in
    loop_done c.args.schedule c.args.script.now c.loop.machine c.loop.table c.loop.journals.0 c.loop.picks.now c.loop.summary c.loop.counter c.args.writer.now c.loop.writer l
    (c.if-not-go_on.ensures.ends l.t l.at refl) start begun

pub count-requires : goal.count-requires
count-requires g c =
    let l = c.loop.invariant.at in
    let small = loop_sum_is_small c.args.schedule c.args.script.now c.requires.drivable c.loop.machine c.loop.table c.loop.journals.0 c.loop.picks.now c.loop.summary c.loop.counter c.args.writer.now c.loop.writer l in
    omega (arith, small)

pub put_room-requires-clause-formed : goal.put_room-requires-clause-formed
put_room-requires-clause-formed g c =
    let l = c.loop.invariant.at in
    formed c.args.script.now c.go_on.new.machine c.go_on.new.table l.t c.go_on.new.made (c.if-not-go_on.ensures.goes l.t l.at refl).kept

pub put_room-requires-clause-version : goal.put_room-requires-clause-version
put_room-requires-clause-version g c =
    let l = c.loop.invariant.at in
    subst (λ version. IsTrue (event_fits version c.go_on.new.made)) (sym c.loop.invariant.version)
    (has_room c.args.script.now c.go_on.new.machine c.go_on.new.table l.t c.go_on.new.made (c.if-not-go_on.ensures.goes l.t l.at refl).kept)

pub returns-in_err-put_room-clause-cut_short : goal.returns-in_err-put_room-clause-cut_short
returns-in_err-put_room-clause-cut_short g c start begun =
    let l = c.loop.invariant.at in
    on_refusal c.from_residual.result
    (loop_cut c.args.schedule c.args.script.now c.loop.machine c.go_on.new.machine c.loop.table c.go_on.new.table c.loop.journals.0 c.go_on.new.journals.0 c.loop.picks.now (picks_left c.loop.picks.now) c.loop.summary c.loop.counter c.args.writer.now
    c.loop.writer c.put_room.new.self c.go_on.new.made l (c.if-not-go_on.ensures.goes l.t l.at refl) c.in_err-put_room.ensures.front start begun)

pub loop-preserved : goal.loop-preserved
loop-preserved g c =
    let script = c.args.script.now in
    let schedule = c.args.schedule in
    let i = c.loop.invariant in
    let l = i.at in
    let e = c.in_ok-put_room.ensures in
    let rises = e.kept.reached in
    let old = c.args.writer.now in
    let goes =
    loop_goes_on schedule script c.loop.machine c.go_on.new.machine c.loop.table c.go_on.new.table c.loop.journals.0 c.go_on.new.journals.0 c.loop.picks.now (picks_left c.loop.picks.now) c.loop.summary c.loop.counter old c.loop.writer c.put_room.new.self
    c.go_on.new.made l (c.if-not-go_on.ensures.goes l.t l.at refl) e.goes_on in
    record {
      at =
          subst (λ picks. LoopAt schedule script c.go_on.new.machine c.go_on.new.table c.go_on.new.journals.0 picks c.count.new.self (c.loop.counter + 1) old c.put_room.new.self) (sym c.left_of-picks.ensures)
          (subst (λ sum. LoopAt schedule script c.go_on.new.machine c.go_on.new.table c.go_on.new.journals.0 (picks_left c.loop.picks.now) sum (c.loop.counter + 1) old c.put_room.new.self) (sym c.count.ensures) goes);
      begun = e.progress;
      version = c.put_room.ensures.same_version ∙ i.version;
      count = omega (arith, i.count, e.count);
      counts = omega (arith, i.counts, rises);
      faults = no_fault _ _ _ _ e.kept ∙ i.faults;
      same_sink = e.kept.same_sink ∙ i.same_sink;
    }

pub unreachable-requires : goal.unreachable-requires
unreachable-requires g c =
    let few = loop_is_short c.args.schedule c.args.script.now c.requires.drivable c.loop.machine c.loop.table c.loop.journals.0 c.loop.picks.now c.loop.summary c.loop.counter c.args.writer.now c.loop.writer c.loop.invariant.at in
    omega (arith, few, c.loop-test.false)
