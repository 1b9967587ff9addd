-- A message without a payload is its head alone.
use Rattle.std.proofs.Common.{false, refl, sym, ◌≡◌}
use Rattle.std.proofs.lemmas.Bool.{false≢true}
use Rattle.cxl_message.specs.declared.identifiers.Bytes64.{Bytes64}
use Rattle.event_room.specs.declared.messages.MessageHead.{MessageHead}
use Rattle.event_room.specs.Heads.{has_payload, with_payload}

pub plain_same : (head : MessageHead) (p q : Bytes64) → has_payload head ≡ false → with_payload head p ≡ with_payload head q
plain_same (MessageHead.Req op meta snp tag line) p q none = refl
plain_same (MessageHead.MemWr meta snp tag line) p q none = absurd (false≢true (sym none))
plain_same (MessageHead.BiConflict tag) p q none = refl
plain_same (MessageHead.BiRsp op bitag low) p q none = refl
plain_same (MessageHead.Ndr op tag) p q none = refl
plain_same (MessageHead.MemData tag) p q none = absurd (false≢true (sym none))
plain_same (MessageHead.BiSnp op bitag line span) p q none = refl
plain_same (MessageHead.Credit channel) p q none = refl
