-- The message at a place is that of its head and its payload.
use Rattle.std.proofs.Common.{ap, Some, sym, ◌∙◌}
use Rattle.std.proofs.lemmas.Bool.{ltb-true}
use Rattle.link_queues.proofs.Joined.{joined_some, joined_none}
use Rattle.link_queues.proofs.matching.message_at.Goals as goal

pub returns-in-Some : goal.returns-in-Some
returns-in-Some c =
    let there = c.in-Some.ensures.lookup in
    joined_some c.args.heads.now c.args.payloads.now c.args.at _ c.in-Some.payload.now c.requires (ltb-true _ _ (sym there.0)) there.1

pub returns-in-None : goal.returns-in-None
returns-in-None c = joined_none c.args.heads.now c.args.payloads.now c.args.at _ c.requires (sym c.in-None.ensures.lookup.0) ∙ ap Some (sym c.plain.ensures.whole)
