-- A list of hosts with one host changed.
use Rattle.std.proofs.Common.{◌≡◌, ℕ, zero, suc, ◌<◌, List, [], ◌∷◌, length, Some, ap, refl, sym, ◌∙◌, subst}
use Rattle.std.specs.Prelude.{slice_get, slice_set}
use Rattle.std.proofs.lemmas.Option.{same_Some}
use Rattle.snoop_filter.proofs.Lists.{get_same}
use Rattle.host_tables.specs.Agent.{AgentRecord as HostRecord}

-- what holds of the host before and after holds of those at its place
pub one_changes : (P : HostRecord → HostRecord → Type 0) (xs : List HostRecord) (k : ℕ) (x y : HostRecord) → k < length xs → slice_get xs k ≡ Some x → P x y → (a b : HostRecord)
    → slice_get xs k ≡ Some a → slice_get (slice_set xs k y) k ≡ Some b → P a b
one_changes P xs k x y low there holds a b old new =
    subst (λ z. P z b) (same_Some x a (sym there ∙ old)) (subst (P x) (same_Some y b (sym (get_same xs k y low) ∙ new)) holds)

same_set : (xs : List HostRecord) (k : ℕ) (x : HostRecord) → slice_get xs k ≡ Some x → slice_set xs k x ≡ xs
same_set [] k x there = refl
same_set (y ∷ xs) zero x there = ap (λ z. z ∷ xs) (sym (same_Some y x there))
same_set (y ∷ xs) (suc k) x there = ap (λ l. y ∷ l) (same_set xs k x there)

-- the list is as it was where the host is
pub nothing_changes : (xs : List HostRecord) (k : ℕ) (x y : HostRecord) → slice_get xs k ≡ Some x → y ≡ x → slice_set xs k y ≡ xs
nothing_changes xs k x y there same = ap (slice_set xs k) same ∙ same_set xs k x there
