-- When two messages in parts are the same.
use Rattle.std.proofs.Common.{◌≡◌, false, refl, sym, ◌∙◌, ap}
use Rattle.std.proofs.lemmas.Bool.{false≢true}
use Rattle.cxl_message.specs.declared.identifiers.Bytes64.{Bytes64}
use Rattle.event_room.specs.declared.messages.MessageHead.{MessageHead}
use Rattle.event_room.specs.declared.messages.MessageRef.{MessageRef}
use Rattle.event_room.specs.Heads.{with_payload, has_payload, head_of}
use Rattle.event_room.specs.Parts.{message_of}

-- a head is found in its message again
head-back : (head : MessageHead) (payload : Bytes64) → head_of (with_payload head payload) ≡ head
head-back (MessageHead.Req op meta snp tag line) payload = refl
head-back (MessageHead.MemWr meta snp tag line) payload = refl
head-back (MessageHead.BiConflict tag) payload = refl
head-back (MessageHead.BiRsp op bitag low) payload = refl
head-back (MessageHead.Ndr op tag) payload = refl
head-back (MessageHead.MemData tag) payload = refl
head-back (MessageHead.BiSnp op bitag line span) payload = refl
head-back (MessageHead.Credit channel) payload = refl

-- without a payload the head is the message
plain : (head : MessageHead) (p q : Bytes64) → has_payload head ≡ false → with_payload head p ≡ with_payload head q
plain (MessageHead.Req op meta snp tag line) p q none = refl
plain (MessageHead.MemWr meta snp tag line) p q none = absurd (false≢true (sym none))
plain (MessageHead.BiConflict tag) p q none = refl
plain (MessageHead.BiRsp op bitag low) p q none = refl
plain (MessageHead.Ndr op tag) p q none = refl
plain (MessageHead.MemData tag) p q none = absurd (false≢true (sym none))
plain (MessageHead.BiSnp op bitag line span) p q none = refl
plain (MessageHead.Credit channel) p q none = refl

-- the same messages have the same heads
pub same_heads : (m n : MessageRef) → message_of m ≡ message_of n → m.head ≡ n.head
same_heads m n same = sym (head-back m.head _) ∙ ap head_of same ∙ head-back n.head _

-- the same heads without a payload are the same messages
pub plain_same : (m n : MessageRef) → m.head ≡ n.head → has_payload m.head ≡ false → message_of m ≡ message_of n
plain_same m n same none = plain m.head _ _ none ∙ ap (λ h. with_payload h (record { 0 = n.payload.now })) same
