-- The number that is kept of the host.
use Rattle.link_queues.proofs.Flights.{count_is}
use Rattle.link_queues.proofs.Numbers.{kept_number}
use Rattle.link_queues.proofs.counted.CountedLinks.takeable_count.Goals as goal

pub returns-clause-count : goal.returns-clause-count
returns-clause-count c =
    count_is c.args.self.now c.args.host c.index.result.now c.requires (kept_number c.self.inside.queues c.args.self.now c.self.inside.takeable.items c.args.host c.index.result.now c.self.view_is c.self.invariant c.requires c.index.ensures).0

pub returns-clause-most : goal.returns-clause-most
returns-clause-most c =
    (kept_number c.self.inside.queues c.args.self.now c.self.inside.takeable.items c.args.host c.index.result.now c.self.view_is c.self.invariant c.requires c.index.ensures).1
