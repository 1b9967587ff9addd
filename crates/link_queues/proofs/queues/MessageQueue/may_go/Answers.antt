-- The message at the place is decided by the rest of the test, since it is there.
use Rattle.std.proofs.Common.{ap, cond, sym, ◌+◌, ◌∙◌}
use Rattle.std.proofs.lemmas.Option.{same_Some}
use Rattle.coherence_model.specs.Flight.{is_takeable}
use Rattle.event_room.specs.Parts.{message_of}
use Rattle.link_queues.specs.Queues.{takeable_before}
use Rattle.link_queues.proofs.Picked.{counts_one, rest_decides}
use Rattle.link_queues.proofs.queues.MessageQueue.may_go.Goals as goal

pub returns-clause-counts : goal.returns-clause-counts
returns-clause-counts c =
    let ms = c.args.self.now.messages in
    let m = message_of c.at.result in
    counts_one (λ x. is_takeable x ms) ms c.args.at m c.at.ensures
    ∙ ap (λ b. cond b 1 0 + takeable_before ms c.args.at) (sym (c.passes_none.ensures ∙ rest_decides ms c.args.at m _ c.at.ensures))

pub returns-clause-picks : goal.returns-clause-picks
returns-clause-picks c = λ n there.
    let ms = c.args.self.now.messages in
    let m = message_of c.at.result in
    c.passes_none.ensures ∙ rest_decides ms c.args.at m _ c.at.ensures ∙ ap (λ x. is_takeable x ms) (same_Some m n (sym c.at.ensures ∙ there))
