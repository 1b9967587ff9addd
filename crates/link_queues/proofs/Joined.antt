-- Messages in parts: how many, and the one at a place.
use Rattle.std.proofs.Common.{◌≡◌, ℕ, zero, suc, false, ◌<◌, ◌≤◌, List, [], ◌∷◌, ◌++◌, length, Some, None, refl, ap, sym, true, ◌∙◌, arith}
use Rattle.std.specs.Prelude.{nat_lt, remove, slice_get, slice_index_or}
use Rattle.std.proofs.lemmas.Bool.{false≢true}
use Rattle.std.proofs.lemmas.Bool.Decides.{nat_tests}
use Rattle.cxl_message.specs.declared.identifiers.Bytes64.{Bytes64}
use Rattle.cxl_message.specs.declared.messages.Message.{Message}
use Rattle.cxl_message.specs.Opening.{zero_bytes}
use Rattle.event_room.specs.declared.messages.MessageHead.{MessageHead}
use Rattle.event_room.specs.Heads.{has_payload, with_payload}
use Rattle.link_queues.specs.Queues.{joined}

pub joined_length : (hs : List MessageHead) (ps : List Bytes64) → length (joined hs ps) ≡ length hs
joined_length [] ps = refl
joined_length (h ∷ hs) [] = ap suc (joined_length hs [])
joined_length (h ∷ hs) (p ∷ ps) = ap suc (joined_length hs ps)

-- the message at a place where there is a payload
pub joined_some : (hs : List MessageHead) (ps : List Bytes64) (k : ℕ) (d : MessageHead) (p : Bytes64) → k < length hs → k < length ps → p ≡ slice_index_or ps k p
    → slice_get (joined hs ps) k ≡ Some (with_payload (slice_index_or hs k d) p)
joined_some [] ps k d p low there at = absurd (omega arith)
joined_some (h ∷ hs) [] k d p low there at = absurd (omega arith)
joined_some (h ∷ hs) (q ∷ ps) zero d p low there at = ap (λ x. Some (with_payload h x)) (sym at)
joined_some (h ∷ hs) (q ∷ ps) (suc k) d p low there at = joined_some hs ps k d p (omega arith) (omega arith) at

not_below : (n : ℕ) → nat_lt 0 (suc n) ≡ false → ⊥
not_below n past = let t : nat_lt 0 (suc n) ≡ true = grind (arith, nat_tests) in false≢true (sym past ∙ t)

none_here : (k : ℕ) → nat_lt k 0 ≡ false
none_here k = grind (arith, nat_tests)

past_end : (k n : ℕ) → nat_lt (suc k) (suc n) ≡ false → nat_lt k n ≡ false
past_end k n past = grind (arith, nat_tests)

-- and where there is none
pub joined_none : (hs : List MessageHead) (ps : List Bytes64) (k : ℕ) (d : MessageHead) → k < length hs → nat_lt k (length ps) ≡ false
    → slice_get (joined hs ps) k ≡ Some (with_payload (slice_index_or hs k d) zero_bytes)
joined_none [] ps k d low past = absurd (omega arith)
joined_none (h ∷ hs) [] zero d low past = refl
joined_none (h ∷ hs) [] (suc k) d low past = joined_none hs [] k d (omega arith) (none_here k)
joined_none (h ∷ hs) (q ∷ ps) zero d low past = absurd (not_below (length ps) past)
joined_none (h ∷ hs) (q ∷ ps) (suc k) d low past = joined_none hs ps k d (omega arith) (past_end k (length ps) past)

-- a message put at the end, with its payload
pub joined_pushed : (hs : List MessageHead) (ps : List Bytes64) (h : MessageHead) (p : Bytes64) → length ps ≡ length hs
    → joined (hs ++ h ∷ []) (ps ++ p ∷ []) ≡ joined hs ps ++ with_payload h p ∷ []
joined_pushed [] [] h p same = refl
joined_pushed [] (q ∷ ps) h p same = absurd (omega arith)
joined_pushed (g ∷ hs) [] h p same = absurd (omega arith)
joined_pushed (g ∷ hs) (q ∷ ps) h p same = ap {B = List Message} (λ l. with_payload g q ∷ l) (joined_pushed hs ps h p (omega arith))

-- what has no payload is the same with any
plain : (h : MessageHead) (p q : Bytes64) → has_payload h ≡ false → with_payload h p ≡ with_payload h q
plain (MessageHead.Req op meta snp tag line) p q none = refl
plain (MessageHead.MemWr meta snp tag line) p q none = absurd (false≢true (sym none))
plain (MessageHead.BiConflict tag) p q none = refl
plain (MessageHead.BiRsp op bitag low) p q none = refl
plain (MessageHead.Ndr op tag) p q none = refl
plain (MessageHead.MemData tag) p q none = absurd (false≢true (sym none))
plain (MessageHead.BiSnp op bitag line span) p q none = refl
plain (MessageHead.Credit channel) p q none = refl

-- a message put at the end where no payloads are kept
pub joined_pushed_plain : (hs : List MessageHead) (ps : List Bytes64) (h : MessageHead) (p : Bytes64) → length ps ≡ 0 → has_payload h ≡ false
    → joined (hs ++ h ∷ []) ps ≡ joined hs ps ++ with_payload h p ∷ []
joined_pushed_plain hs (q ∷ ps) h p same none = absurd (omega arith)
joined_pushed_plain [] [] h p same none = ap {B = List Message} (λ m. m ∷ []) (plain h zero_bytes p none)
joined_pushed_plain (g ∷ hs) [] h p same none = ap {B = List Message} (λ l. with_payload g zero_bytes ∷ l) (joined_pushed_plain hs [] h p refl none)

-- a message taken out, with its payload
pub joined_removed : (hs : List MessageHead) (ps : List Bytes64) (k : ℕ) → length ps ≡ length hs → k < length hs → joined (remove hs k) (remove ps k) ≡ remove (joined hs ps) k
joined_removed [] ps k same low = absurd (omega arith)
joined_removed (g ∷ hs) [] k same low = absurd (omega arith)
joined_removed (g ∷ hs) (q ∷ ps) zero same low = refl
joined_removed (g ∷ hs) (q ∷ ps) (suc k) same low = ap {B = List Message} (λ l. with_payload g q ∷ l) (joined_removed hs ps k (omega arith) (omega arith))

-- a message taken out where no payloads are kept
pub joined_removed_plain : (hs : List MessageHead) (ps : List Bytes64) (k : ℕ) → length ps ≡ 0 → k < length hs → joined (remove hs k) ps ≡ remove (joined hs ps) k
joined_removed_plain hs (q ∷ ps) k same low = absurd (omega arith)
joined_removed_plain [] [] k same low = absurd (omega arith)
joined_removed_plain (g ∷ hs) [] zero same low = refl
joined_removed_plain (g ∷ hs) [] (suc k) same low = ap {B = List Message} (λ l. with_payload g zero_bytes ∷ l) (joined_removed_plain hs [] k refl (omega arith))
