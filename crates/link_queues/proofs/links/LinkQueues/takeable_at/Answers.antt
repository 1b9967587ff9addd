-- What waits is in flight.
use Rattle.std.specs.Prelude.{option_map}
use Rattle.event_room.specs.Parts.{message_of}
use Rattle.link_queues.proofs.Flights.{pick_is}
use Rattle.link_queues.proofs.links.LinkQueues.takeable_at.Goals as goal

pub returns : goal.returns
returns c = record { picked = pick_is c.args.self.now c.args.host c.args.k (option_map message_of c.pick_on.result) c.requires c.pick_on.ensures }
