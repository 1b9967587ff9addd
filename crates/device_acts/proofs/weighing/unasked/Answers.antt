-- One more host is counted or not.
use Rattle.std.proofs.Common.{◌≤◌, ℕ, arith, subst, sym}
use Rattle.std.specs.Prelude.{not, ◌&&◌}
use Rattle.device_record.specs.Answers.{is_asked_by, is_wanted}
use Rattle.device_acts.proofs.Hosts.{at_most_one, count_more}
use Rattle.device_acts.proofs.weighing.unasked.Goals as goal

pub loop-host-preserved : goal.loop-host-preserved
loop-host-preserved c =
    let few : c.from-count.result ≤ 1 = subst (λ (n : ℕ). n ≤ 1) (sym c.from-count.ensures) (at_most_one c.is_unasked.result) in (
      count_more (λ (g : ℕ). is_wanted c.args.filter.now.rows c.args.task.now g && not (is_asked_by g c.args.task.now)) c.loop-host.host c.loop-host.count c.from-count.result c.is_unasked.result
          c.loop-host.invariant.0 c.from-count.ensures c.is_unasked.ensures,
      omega (arith, few, c.loop-host.invariant.1),
    )
