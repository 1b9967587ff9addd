-- What was parsed is the one script that the input is, and its driven trace is written.
use Rattle.std.proofs.Common.{[], inr, sym}
use Rattle.coherent_runs.proofs.Runs.{runs_coherent}
use Rattle.coherence_model.specs.Driven.{driven_trace, event_bound}
use Rattle.driven_laws.proofs.Ending.{driven_is_committed, reached_is_short}
use Rattle.driven_laws.proofs.Reached.{driving_reaches, reached_is_run}
use Rattle.step_driver.proofs.Drivable.{drivable_of}
use Rattle.cxlmem.proofs.Statuses.{fault_is_not_ok, memory_is_not_ok}
use Rattle.cxlmem.proofs.driving.drive_input.Goals as goal

pub returns-in-Ok-clause-driven : goal.returns-in-Ok-clause-driven
returns-in-Ok-clause-driven g c done =
    let script = c.in-Ok.script in
    let drivable = drivable_of script c.in-Ok.ensures.script in
    record {
      script = script;
      spells = record { sound = c.in-Ok.ensures.script; spelled = c.in-Ok.ensures.spelled; within = c.requires.within };
      trace = c.write_trace.ensures.written done;
      commits = driven_is_committed script drivable;
      short = reached_is_short script drivable (driven_trace script) (driving_reaches script (event_bound script) script.picks [] tt);
      coherent =
          runs_coherent script.setup script.opening drivable.limits (driven_trace script)
          (reached_is_run script drivable (driven_trace script) (driving_reaches script (event_bound script) script.picks [] tt));
    }

pub returns-in-Ok-clause-cut_short : goal.returns-in-Ok-clause-cut_short
returns-in-Ok-clause-cut_short g c fault = record {
  script = c.in-Ok.script;
  spells = record { sound = c.in-Ok.ensures.script; spelled = c.in-Ok.ensures.spelled; within = c.requires.within };
  front = c.write_trace.ensures.cut_short (fault_is_not_ok _ fault);
}

pub returns-in-Ok-clause-unfinished : goal.returns-in-Ok-clause-unfinished
returns-in-Ok-clause-unfinished g c none = inr (record {
  script = c.in-Ok.script;
  spells = record { sound = c.in-Ok.ensures.script; spelled = c.in-Ok.ensures.spelled; within = c.requires.within };
  front = c.write_trace.ensures.cut_short (memory_is_not_ok _ none);
})

pub returns-in-Err-Bad-clause-bad_script : goal.returns-in-Err-Bad-clause-bad_script
returns-in-Err-Bad-clause-bad_script g c _ =
    let refused = rw c.in-Err-Bad.field-0-is at c.in-Err-Bad.ensures in
    record {
      line = c.in-Err-Bad.line;
      reason = c.in-Err-Bad.reason;
      text = rw (sym c.in-Err-Bad.line-is, sym c.in-Err-Bad.reason-is) c.bad_script.ensures.text;
      fails = record { within = c.requires.within; fails = refused.fails };
    }
