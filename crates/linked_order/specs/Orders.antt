-- What is seen of an order of places (own rule).
use Rattle.std.specs.Prelude.{◌<◌, ◌≡◌, ◌∷◌, ◌==◌, Bool, List, None, Option, Some, [], false, filter, if◌then◌else◌, not, slice_get, true, ℕ}
use Rattle.std.specs.List.{list_any}

-- an order: how many places the table has, and those in the order, oldest first (own rule)
pub record Order : Type 0 where
  pub places : ℕ
  pub listed : List ℕ

-- whether a place is in the order (own rule)
abbrev pub is_listed : ℕ → List ℕ → Bool
is_listed place listed = list_any (λ p. place == p) listed

-- the order without a place (own rule)
abbrev pub without_place : ℕ → List ℕ → List ℕ
without_place place listed = filter (λ p. not (place == p)) listed

-- no place is there twice (own rule)
abbrev pub IsOnce : List ℕ → Type 0
IsOnce [] = Unit {0}
IsOnce (p ∷ listed) = (is_listed p listed ≡ false) × IsOnce listed

-- each place is one of the table's (own rule)
abbrev pub AreBelow : ℕ → List ℕ → Type 0
AreBelow places [] = Unit {0}
AreBelow places (p ∷ listed) = (p < places) × AreBelow places listed

-- the place after one of the order (own rule)
abbrev pub after : ℕ → List ℕ → Option ℕ
after place [] = None
after place (p ∷ listed) = if place == p then slice_get listed 0 else after place listed

-- the places from one of the order on (own rule)
abbrev pub from_place : ℕ → List ℕ → List ℕ
from_place place [] = []
from_place place (p ∷ listed) = if place == p then p ∷ listed else from_place place listed

-- the places left where this one is next, or none (own rule)
abbrev pub left_from : Option ℕ → List ℕ → List ℕ
left_from None listed = []
left_from (Some place) listed = from_place place listed

-- the next place, if there is one, is in the order (own rule)
abbrev pub IsAt : Option ℕ → List ℕ → Type 0
IsAt None listed = Unit {0}
IsAt (Some place) listed = is_listed place listed ≡ true
