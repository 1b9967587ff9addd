-- The machine is made, and judges.
use Rattle.trace_check.proofs.judging.Judging.judge.Goals as goal

pub returns-clause-judged : goal.returns-clause-judged
returns-clause-judged c items on = c.judge_next.ensures.judged items (c.in_ok-begin.ensures.begun items c.args.event.now on)
