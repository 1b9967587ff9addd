-- The one that goes after as many as wanted is the wanted one.
use Rattle.std.proofs.Common.{sym, ◌∙◌}
use Rattle.event_room.specs.Parts.{message_of}
use Rattle.link_queues.proofs.Picked.{wanted_is}
use Rattle.link_queues.proofs.queues.MessageQueue.takeable_at.Goals as goal

pub returns-then-is_wanted : goal.returns-then-is_wanted
returns-then-is_wanted c =
    wanted_is c.args.self.now.messages c.loop-at.at c.loop-at.passed c.args.k (message_of c.at.result) c.may_go-goes.result c.at.ensures
    (c.may_go-goes.ensures.picks _ c.at.ensures) c.loop-at.invariant.0 (sym c.if-is_wanted.true ∙ c.is_wanted.ensures)
