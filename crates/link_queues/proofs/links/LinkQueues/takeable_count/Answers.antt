-- What waits is in flight.
use Rattle.link_queues.proofs.Flights.{count_is}
use Rattle.link_queues.proofs.links.LinkQueues.takeable_count.Goals as goal

pub returns-clause-count : goal.returns-clause-count
returns-clause-count c = count_is c.args.self.now c.args.host c.count_on.result c.requires c.count_on.ensures.count
