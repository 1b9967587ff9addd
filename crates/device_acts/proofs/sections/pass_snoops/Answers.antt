-- One more host is Asked or to be asked, or not.
use Rattle.std.proofs.Common.{◌∙◌, ◌+◌, Bool, ap, arith, sym, ℕ}
use Rattle.std.specs.Prelude.{not, ◌&&◌}
use Rattle.device_record.specs.Answers.{is_asked_by, is_wanted}
use Rattle.device_rows.proofs.Hosts.{fails_below}
use Rattle.device_acts.specs.Sections.{snoop_for}
use Rattle.device_acts.proofs.Hosts.{all_same}
use Rattle.device_acts.proofs.Passing.{searched_below}
use Rattle.device_acts.proofs.sections.pass_snoops.Goals.{else-pass_snoop, then-pass_snoop}
use Rattle.device_acts.proofs.sections.pass_snoops.Goals as goal

pub loop-host-preserved : goal.loop-host-preserved
loop-host-preserved c =
    let d = c.args.tables.now in
    let t = c.args.task.now in
    let host = c.loop-host.host in
    let test : ℕ → Bool = λ g. not (is_asked_by g t) && not (is_wanted d.kept.filter.rows t g) in
    let passed = searched_below (snoop_for d t) host c.args.search.now c.loop-host.search c.pass_snoop.new.search c.loop-host.invariant.1 c.pass_snoop.ensures.passed in
    elim c.if-pass_snoop.branch [
      | then-pass_snoop w ↦ (
        w.is_finished-is ∙ sym (fails_below test (host + 1) host (omega arith) (sym c.pass_snoop.ensures.concerned ∙ ap not w.if-pass_snoop.true)),
        passed,
      )
      | else-pass_snoop w ↦ (w.is_finished-is ∙ c.loop-host.invariant.0 ∙ all_same test host (sym c.pass_snoop.ensures.concerned ∙ ap not w.if-pass_snoop.false), passed)
    ]
