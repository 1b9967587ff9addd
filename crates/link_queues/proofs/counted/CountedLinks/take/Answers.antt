-- The host's messages are counted again.
use Rattle.link_queues.proofs.Numbers.{counted_again}
use Rattle.link_queues.proofs.counted.CountedLinks.take.Goals as goal

pub invariant_of-self : goal.invariant_of-self
invariant_of-self c =
    counted_again c.self.inside.queues c.take.new.self c.self.inside.takeable.items c.args.host _ _ c.takeable_count.result c.self.invariant c.take.ensures c.takeable_count.ensures.waiting c.takeable_count.ensures.most
