-- The wanted one is of this channel, or stands after those of it.
use Rattle.std.proofs.Common.{ap, length, sym, ◌∙◌, ◌<◌, ◌≤◌, arith, subst}
use Rattle.std.specs.Prelude.{option_map}
use Rattle.cxl_message.specs.declared.channels.Channel.{Channel}
use Rattle.coherence_model.specs.Next.{channels}
use Rattle.event_room.specs.Parts.{message_of}
use Rattle.link_queues.specs.Links.{waiting_on}
use Rattle.link_queues.specs.Queues.{takeable_in}
use Rattle.link_queues.proofs.Parts.{part_passed, part_picked}
use Rattle.link_queues.proofs.links.LinkQueues.pick_on.Goals as goal

pub returns-then-left-count : goal.returns-then-left-count
returns-then-left-count c =
    let within : c.loop-at.at < length channels = omega arith in
    let low : c.loop-at.left < length (takeable_in c.queue-queue.result.now.messages) = omega arith in
    part_picked (λ ch. takeable_in (waiting_on c.args.self.now c.args.host ch)) channels c.loop-at.at Channel.Req c.args.k c.loop-at.left
    (takeable_in c.queue-queue.result.now.messages) (option_map message_of c.takeable_at.result) within c.loop-at.invariant (ap takeable_in c.queue-queue.ensures.waits) low c.takeable_at.ensures

pub loop-at-preserved : goal.loop-at-preserved
loop-at-preserved c =
    let within : c.loop-at.at < length channels = omega arith in
    let low : c.takeable_count-count.result ≤ c.loop-at.left = omega arith in
    part_passed (λ ch. takeable_in (waiting_on c.args.self.now c.args.host ch)) channels c.loop-at.at Channel.Req c.args.k c.loop-at.left c.takeable_count-count.result
    (takeable_in c.queue-queue.result.now.messages) within c.loop-at.invariant (ap takeable_in c.queue-queue.ensures.waits) c.takeable_count-count.ensures.count low
