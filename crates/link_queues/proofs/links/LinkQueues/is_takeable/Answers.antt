-- What waits is in flight.
use Rattle.event_room.specs.Parts.{message_of}
use Rattle.link_queues.proofs.Flights.{takeable_is}
use Rattle.link_queues.proofs.links.LinkQueues.is_takeable.Goals as goal

pub returns : goal.returns
returns c = record { takeable = takeable_is c.args.self.now c.args.host (message_of c.args.message) c.may_take.result c.requires c.may_take.ensures }
