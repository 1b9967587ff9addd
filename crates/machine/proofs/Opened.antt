-- The machine before its first event stands for the empty run.
use Rattle.std.proofs.Common.{◌≡◌, ◌⊎◌, ℕ, zero, suc, List, [], ◌∷◌, ◌++◌, length, Some, inl, inr, refl, ap, sym, ◌∙◌, subst}
use Rattle.std.specs.Prelude.{slice_get}
use Rattle.std.proofs.lemmas.Option.{same_Some}
use Rattle.cxl_message.specs.Setup.{Configuration}
use Rattle.host_home.specs.Contract.{StandsFor as HostStandsFor}
use Rattle.host_tables.specs.Agent.{AgentRecord as HostRecord}
use Rattle.machine.specs.Stands.{HostsStandFor}

appended : (xs : List HostRecord) (x y : HostRecord) (k : ℕ) → slice_get (xs ++ x ∷ []) k ≡ Some y → (slice_get xs k ≡ Some y) ⊎ ((k ≡ length xs) × (x ≡ y))
appended [] x y zero at = inr (refl, same_Some x y at)
appended [] x y (suc k) at = absurd cc
appended (z ∷ xs) x y zero at = inl at
appended (z ∷ xs) x y (suc k) at = later (appended xs x y k at)
  where
    later : (slice_get xs k ≡ Some y) ⊎ ((k ≡ length xs) × (x ≡ y)) → (slice_get xs k ≡ Some y) ⊎ ((suc k ≡ suc (length xs)) × (x ≡ y))
    later (inl there) = inl there
    later (inr last) = inr (ap suc last.0, last.1)

-- one host more
pub one_more_stands : (xs : List HostRecord) (x : HostRecord) (setup : Configuration) (n : ℕ) → length xs ≡ n → HostsStandFor xs setup [] → HostStandsFor x setup n []
    → HostsStandFor (xs ++ x ∷ []) setup []
one_more_stands xs x setup n len before last h agent at = which (appended xs x agent h at)
  where
    which : (slice_get xs h ≡ Some agent) ⊎ ((h ≡ length xs) × (x ≡ agent)) → HostStandsFor agent setup h []
    which (inl there) = before h agent there
    which (inr here) = subst (λ k. HostStandsFor agent setup k []) (sym (here.0 ∙ len)) (subst (λ a. HostStandsFor a setup n []) here.1 last)
