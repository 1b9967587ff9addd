-- The end record goes behind the events, and what a refusal leaves is a front of the trace.
use Rattle.std.proofs.Common.{reverse}
use Rattle.step_driver.specs.Outputs.{version_of}
use Rattle.step_driver.specs.Schedules.{target}
use Rattle.step_driver.proofs.Loops.{on_refusal}
use Rattle.step_driver.proofs.putting.put_trace.Goals as goal

pub returns-in_err-begin_trace-clause-cut_short : goal.returns-in_err-begin_trace-clause-cut_short
returns-in_err-begin_trace-clause-cut_short g c =
    on_refusal c.from_residual.result (c.in_err-begin_trace.ensures.cut_short (reverse (target c.args.schedule c.args.script.now)))

pub returns-in_err-summary-clause-cut_short : goal.returns-in_err-summary-clause-cut_short
returns-in_err-summary-clause-cut_short g c = on_refusal c.from_residual-in_err-summary.result (c.in_err-summary.ensures.cut_short c.args.writer.now.out.gone c.in_ok-begin_trace.ensures.begun)

pub returns-in_err-end-clause-cut_short : goal.returns-in_err-end-clause-cut_short
returns-in_err-end-clause-cut_short g c =
    let script = c.args.script.now in
    let start = c.args.writer.now.out.gone in
    on_refusal c.from_residual-in_err-end.result
    (c.in_err-end.ensures.front start (version_of script) script.setup script.names script.opening (reverse (target c.args.schedule script)) (c.in_ok-summary.ensures.put start c.in_ok-begin_trace.ensures.begun))

pub returns-clause-written : goal.returns-clause-written
returns-clause-written g c =
    let script = c.args.script.now in
    let start = c.args.writer.now.out.gone in
    c.in_ok-end.ensures.trace start (version_of script) script.setup script.names script.opening (reverse (target c.args.schedule script)) (c.in_ok-summary.ensures.put start c.in_ok-begin_trace.ensures.begun)
