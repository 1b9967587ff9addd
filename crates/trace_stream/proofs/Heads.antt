-- The first byte of a record tells which kind it is of.
use Rattle.std.proofs.Common.{◌≡◌, ℕ, suc, ◌+◌, ◌<◌, ◌≤◌, true, false, List, [], ◌∷◌, length, take, sym, subst, ◌∙◌, arith, add-one}
use Rattle.std.proofs.lemmas.Bool.{and_parts, leb-true, eqb-true, eqb-false}
use Rattle.cxl_message.specs.declared.events.Event.{Event}
use Rattle.cxl_codec.specs.declared.versions.Version.{Version}
use Rattle.cxl_codec.specs.Events.{EventFitsIn}
use Rattle.trace_stream.specs.Items.{begins_with}

-- an event's agent is at most 16
pub agent_small : (version : Version) (e : Event) → EventFitsIn version e → e.agent ≤ 16
agent_small version e fits =
    let last = and_parts _ _ fits.formed in
    let third = and_parts _ _ last.0 in
    let second = and_parts _ _ third.0 in
    leb-true _ _ second.0

-- lists that agree through a place have one first byte
pub one_head : (x : ℕ) (xs : List ℕ) (y : ℕ) (ys : List ℕ) (at : ℕ) → take (at + 1) (x ∷ xs) ≡ take (at + 1) (y ∷ ys) → x ≡ y
one_head x xs y ys at e =
    let same : take (suc at) (x ∷ xs) ≡ take (suc at) (y ∷ ys) = subst (λ (n : ℕ). take n (x ∷ xs) ≡ take n (y ∷ ys)) (add-one at) e in
    cc

-- bytes that don't begin with a byte agree with none that do
pub other_head : (x : ℕ) (xs bytes : List ℕ) (at : ℕ) → at < length bytes → begins_with bytes x ≡ false → take (at + 1) (x ∷ xs) ≡ take (at + 1) bytes → ⊥
other_head x xs [] at within other e = absurd (omega arith)
other_head x xs (y ∷ bytes) at within other e =
    let same : x ≡ y = one_head x xs y bytes at e in
    eqb-false y x other (sym same)

-- bytes that begin with a byte agree only with those that do
pub that_head : (x : ℕ) (xs bytes : List ℕ) (b at : ℕ) → at < length bytes → begins_with bytes b ≡ true → take (at + 1) (x ∷ xs) ≡ take (at + 1) bytes → x ≡ b
that_head x xs [] b at within begins e = absurd (omega arith)
that_head x xs (y ∷ bytes) b at within begins e = one_head x xs y bytes at e ∙ eqb-true y b begins
