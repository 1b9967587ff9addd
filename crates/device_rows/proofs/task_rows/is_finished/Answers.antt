-- One host is Asked or to be asked.
use Rattle.std.proofs.Common.{◌∙◌, ap, sym, arith, ℕ}
use Rattle.std.specs.Prelude.{not, ◌&&◌}
use Rattle.device_record.specs.Answers.{is_asked_by, is_wanted}
use Rattle.device_rows.proofs.Hosts.{all_more, fails_below}
use Rattle.device_rows.proofs.task_rows.is_finished.Goals as goal

pub returns-then-concerns : goal.returns-then-concerns
returns-then-concerns c =
    sym (fails_below (λ (g : ℕ). not (is_asked_by g c.args.task.now) && not (is_wanted c.args.filter.now.rows c.args.task.now g)) c.args.filter.now.hosts c.loop-host.host (omega (arith, c.loop-host-test.true, c.hosts-host-end.ensures.hosts))
    (sym c.concerns.ensures ∙ ap not c.if-concerns.true))

pub loop-host-preserved : goal.loop-host-preserved
loop-host-preserved c =
    all_more (λ (g : ℕ). not (is_asked_by g c.args.task.now) && not (is_wanted c.args.filter.now.rows c.args.task.now g)) c.loop-host.host c.loop-host.invariant
    (sym c.concerns.ensures ∙ ap not c.if-concerns.false)
