-- Options that come from a test, and elements that a find gives.
use Rattle.std.proofs.Common.{◌≡◌, ℕ, Bool, true, false, List, [], ◌∷◌, Option, Some, None, cond, find, refl, sym, subst, ◌⊎◌, inl, inr}
use Rattle.std.specs.Prelude.{◌==◌, option_and_then}
use Rattle.std.specs.Option.{option_or}
use Rattle.std.proofs.lemmas.Bool.{eq-eqb, or_left, or_right}
use Rattle.std.proofs.lemmas.Option.{none-some, same_Some}
use Rattle.cxl_message.specs.Lists.{is_in}
use Rattle.coherence_model.specs.Words.{when}

pub when_some : {A : Type 0} (b : Bool) (x y : A) → when b x ≡ Some y → (b ≡ true) × (x ≡ y)
when_some true x y h = (refl, same_Some x y h)
when_some false x y h = absurd (none-some y h)

pub guarded_some : {A : Type 0} (b : Bool) (o : Option A) (y : A) → cond b o None ≡ Some y → (b ≡ true) × (o ≡ Some y)
guarded_some true o y h = (refl, h)
guarded_some false o y h = absurd (none-some y h)

pub cond_some_cases : {A : Type 0} (b : Bool) (x y : Option A) (w : A) → cond b x y ≡ Some w → ((b ≡ true) × (x ≡ Some w)) ⊎ ((b ≡ false) × (y ≡ Some w))
cond_some_cases true x y w h = inl (refl, h)
cond_some_cases false x y w h = inr (refl, h)

-- the value that a function gave to what is there
pub record Given {A B : Type 0} (f : A → Option B) (o : Option A) (y : B) : Type 0 where
  pub x : A
  pub there : o ≡ Some x
  pub gives : f x ≡ Some y

pub given : {A B : Type 0} (f : A → Option B) (o : Option A) (y : B) → option_and_then f o ≡ Some y → Given f o y
given f None y h = absurd (none-some y h)
given f (Some x) y h = record { x = x; there = refl; gives = h }

pub option_or-assoc : {A : Type 0} (x y z : Option A) → option_or (option_or x y) z ≡ option_or x (option_or y z)
option_or-assoc None y z = refl
option_or-assoc (Some x) y z = refl

-- a number that a find gives is in the list and passes
found_is_in : (p : ℕ → Bool) (x v : ℕ) (rest : List ℕ) (b : Bool) → p x ≡ b → (find p rest ≡ Some v → (is_in v rest ≡ true) × (p v ≡ true)) → cond b (Some x) (find p rest) ≡ Some v → (is_in v (x ∷ rest) ≡ true) × (p v ≡ true)
found_is_in p x v rest true is later h =
    let same = same_Some x v h in
    (or_left (v == x) (is_in v rest) (eq-eqb v x (sym same)), subst (λ y. p y ≡ true) same is)
found_is_in p x v rest false is later h = let tail = later h in (or_right (v == x) (is_in v rest) tail.0, tail.1)

pub find_is_in : (p : ℕ → Bool) (xs : List ℕ) (v : ℕ) → find p xs ≡ Some v → (is_in v xs ≡ true) × (p v ≡ true)
find_is_in p [] v h = absurd (none-some v h)
find_is_in p (x ∷ xs) v h = found_is_in p x v xs (p x) refl (find_is_in p xs v) h
