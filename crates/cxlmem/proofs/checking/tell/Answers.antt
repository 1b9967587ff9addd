-- The numbers of a run are those of a good trace.
use Rattle.std.proofs.Common.{List, subst, ℕ}
use Rattle.trace_check.specs.declared.verdicts.Verdict.{Verdict}
use Rattle.cxlmem.specs.Checks.{IsChecked, IsGoodTrace}
use Rattle.cxlmem.proofs.Checked.{good_trace, some_weaker}
use Rattle.cxlmem.proofs.checking.tell.Goals as goal

pub returns-in-Run-clause-checked : goal.returns-in-Run-clause-checked
returns-in-Run-clause-checked g c input checked done =
    record {
      events = c.in-Run.events;
      commits = c.in-Run.commits;
      text = c.write_run.ensures.written done;
      trace =
          some_weaker input (λ bytes. IsChecked bytes c.args.verdict) (λ bytes. IsGoodTrace bytes c.in-Run.events c.in-Run.commits)
          (λ bytes one. good_trace bytes c.in-Run.events c.in-Run.commits (subst (λ (verdict : Verdict). IsChecked bytes verdict) c.in-Run.is one)) checked;
    }

pub returns-in-Run-clause-cut_short : goal.returns-in-Run-clause-cut_short
returns-in-Run-clause-cut_short g c input checked fault =
    record {
      events = c.in-Run.events;
      commits = c.in-Run.commits;
      text = c.write_run.ensures.cut_short fault;
      trace =
          some_weaker input (λ bytes. IsChecked bytes c.args.verdict) (λ bytes. IsGoodTrace bytes c.in-Run.events c.in-Run.commits)
          (λ bytes one. good_trace bytes c.in-Run.events c.in-Run.commits (subst (λ (verdict : Verdict). IsChecked bytes verdict) c.in-Run.is one)) checked;
    }
