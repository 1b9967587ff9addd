-- The same heads without a payload are the same message, and other heads are another message.
use Rattle.std.proofs.Common.{refl, sym, ◌∙◌}
use Rattle.std.proofs.lemmas.Bool.{false≢true}
use Rattle.event_room.proofs.Same.{same_heads, plain_same}
use Rattle.event_room.proofs.matching.same_message.Goals as goal

pub returns-then-not-same_head : goal.returns-then-not-same_head
returns-then-not-same_head c =
    (λ yes. absurd (false≢true yes), λ same. absurd (false≢true (sym c.if-not-same_head.true ∙ c.same_head.ensures.1 (same_heads c.args.first c.args.second same))))

pub returns-then-not-has_payload : goal.returns-then-not-has_payload
returns-then-not-has_payload c =
    (λ yes. plain_same c.args.first c.args.second (c.same_head.ensures.0 c.if-not-same_head.false) (sym c.has_payload.ensures ∙ c.if-not-has_payload.true), λ same. refl)
