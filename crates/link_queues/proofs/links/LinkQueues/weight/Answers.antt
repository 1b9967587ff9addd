-- What waits is in flight.
use Rattle.link_queues.proofs.Flights.{weight_is}
use Rattle.link_queues.proofs.links.LinkQueues.weight.Goals as goal

pub returns-clause-weight : goal.returns-clause-weight
returns-clause-weight c = weight_is c.args.self.now c.weight_of_all.result c.weight_of_all.ensures.weight
