-- One event more is judged by the machine, unless one was broken before.
use Rattle.std.proofs.Common.{List, refl, subst, sym, ◌++◌, ◌∷◌, [], ◌≡◌}
use Rattle.cxl_message.specs.declared.events.Event.{Event}
use Rattle.trace_stream.specs.declared.items.Item.{Item}
use Rattle.trace_check.specs.declared.judging.Judging.{Judging}
use Rattle.trace_check.specs.declared.runs.Run.{Run}
use Rattle.trace_check.specs.Judged.{IsBegun, IsBroken, IsJudged}
use Rattle.trace_check.proofs.Events.{broken_stays, numbers_are_few, run_breaks, run_goes_on}
use Rattle.trace_check.proofs.judging.Judging.judge_next.Goals as goal

stays_broken : (items : List Item) (e : Event) (j : Judging) → ((run : Run) → j ≡ Judging.Running run → ⊥) → IsBegun items j → IsJudged (items ++ Item.Event e ∷ []) j
stays_broken items e Judging.Start none begun = absurd begun
stays_broken items e (Judging.Opened setup opening) none begun = absurd begun
stays_broken items e (Judging.Running run) none begun = absurd (none run refl)
stays_broken items e (Judging.Broken event rule) none begun = broken_stays items event rule e begun
stays_broken items e Judging.NoMemory none begun = absurd begun

pub judge-requires-clause-events : goal.judge-requires-clause-events
judge-requires-clause-events c =
    let begun = subst (IsBegun c.requires.0) c.in-Running.is c.requires.1 in (numbers_are_few c.requires.0 c.in-Running.run' begun c.requires.2).events

pub judge-requires-clause-commits : goal.judge-requires-clause-commits
judge-requires-clause-commits c =
    let begun = subst (IsBegun c.requires.0) c.in-Running.is c.requires.1 in (numbers_are_few c.requires.0 c.in-Running.run' begun c.requires.2).commits

pub returns-in-Err-clause-judged : goal.returns-in-Err-clause-judged
returns-in-Err-clause-judged c items begun =
    let run = c.in-Running.run' in
    let e = c.args.event.now in
    subst (λ (now : Run). IsBroken (items ++ Item.Event e ∷ []) now.events c.in-Err.rule) (sym c.in-Err.ensures.refused)
    (run_breaks items run e c.in-Err.rule (subst (IsBegun items) c.in-Running.is begun) c.in-Err.ensures.answer)

pub returns-in_default-judge-clause-judged : goal.returns-in_default-judge-clause-judged
returns-in_default-judge-clause-judged c items begun =
    let done = c.in_default-judge.ensures in
    run_goes_on items c.in-Running.run' c.judge.new.self c.args.event.now (subst (IsBegun items) c.in-Running.is begun) done.answer done.goes_on done.events done.commits

pub returns-in_default : goal.returns-in_default
returns-in_default c = record { judged = λ items begun. stays_broken items c.args.event.now c.args.self.now c.in_default.not-Running begun; stays = λ settled. settled }
