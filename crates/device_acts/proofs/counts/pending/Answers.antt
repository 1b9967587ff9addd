-- One host has a message buffered.
use Rattle.std.proofs.Common.{◌∙◌, ap, sym, arith}
use Rattle.std.specs.Prelude.{length, nat_le}
use Rattle.std.proofs.lemmas.Bool.{or_right}
use Rattle.device_state.specs.Agent.{AgentRecord}
use Rattle.device_record.specs.Weights.{has_buffered}
use Rattle.device_acts.proofs.Hosts.{none_more, passes_below}
use Rattle.device_acts.proofs.counts.pending.Goals as goal

pub returns-then-has_buffered : goal.returns-then-has_buffered
returns-then-has_buffered c =
    sym (or_right (nat_le 1 (length c.args.tables.now.kept.tasks)) _ (passes_below (has_buffered c.args.tables.now.kept) c.args.tables.now.setup.hosts c.loop-host.host (omega (arith, c.loop-host-test.true, c.hosts-host-end.ensures.hosts, ap (λ (d : AgentRecord). d.setup.hosts) c.tables.view_is)) (sym c.has_buffered.ensures ∙ c.if-has_buffered.true)))

pub loop-host-preserved : goal.loop-host-preserved
loop-host-preserved c = none_more (has_buffered c.args.tables.now.kept) c.loop-host.host c.loop-host.invariant (sym c.has_buffered.ensures ∙ c.if-has_buffered.false)
