-- The copy at each host goes to its place.
use Rattle.std.proofs.Common.{arith}
use Rattle.coherence_laws.proofs.Copied.{all_copies, one_more}
use Rattle.coherence_laws.proofs.lines.copies.Goals as goal

pub loop-host-preserved : goal.loop-host-preserved
loop-host-preserved c =
    one_more c.args.machine.now c.args.line.0 c.loop-host.host c.loop-host.states c.copy_at.result (omega (arith, c.loop-host-test.true, c.hosts-host-end.ensures.few)) c.loop-host.invariant c.copy_at.ensures

pub returns : goal.returns
returns c = all_copies c.args.machine.now c.args.line.0 c.loop-host.host c.loop-host.states (omega arith) c.loop-host.invariant
