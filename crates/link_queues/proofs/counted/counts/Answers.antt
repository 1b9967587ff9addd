-- One host more is counted.
use Rattle.std.proofs.Common.{subst, sym, ◌+◌}
use Rattle.link_queues.proofs.Numbers.{IsCountedTo, one_more_counted}
use Rattle.link_queues.proofs.counted.counts.Goals as goal

pub loop-host-preserved : goal.loop-host-preserved
loop-host-preserved c =
    subst (λ xs. IsCountedTo c.args.queues.now xs (c.loop-host.host + 1)) (sym c.in_ok-push.ensures.items)
    (one_more_counted c.args.queues.now c.loop-host.takeable.items c.loop-host.host c.takeable_count.result c.loop-host.invariant c.takeable_count.ensures.waiting c.takeable_count.ensures.most)
