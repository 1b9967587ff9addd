-- What reading and writing a whole input does (own rule).
use Rattle.std.specs.Prelude.{◌≡◌, ℕ, ◌<◌, ◌≤◌, List, [], length, drop, Some, IfSome}
use Rattle.std.specs.declared.option.Option.{Option}

-- where the source tells, these bytes are all that was left, and nothing is left (own rule)
abbrev pub ReadsWhole : Option (List ℕ) → Option (List ℕ) → List ℕ → Type 0
ReadsWhole old new bytes = IfSome old (λ left. (bytes ≡ left) × (new ≡ Some []))

-- where the source tells, the first n bytes of what was left are gone, and no more (own rule)
abbrev pub Loses : Option (List ℕ) → Option (List ℕ) → ℕ → Type 0
Loses old new n = IfSome old (λ left. (n ≤ length left) × (new ≡ Some (drop n left)))

-- more than `limit` bytes came (own rule)
abbrev pub LosesOver : ℕ → Option (List ℕ) → Option (List ℕ) → Type 0
LosesOver limit old new = (n : ℕ) × (limit < n) × Loses old new n

-- at most `limit` bytes came (own rule)
abbrev pub LosesWithin : ℕ → Option (List ℕ) → Option (List ℕ) → Type 0
LosesWithin limit old new = (n : ℕ) × (n ≤ limit) × Loses old new n
