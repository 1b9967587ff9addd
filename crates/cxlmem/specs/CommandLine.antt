-- The forms of a command line. Every rule here is an own rule.
use Rattle.std.specs.Prelude.{List, String, [], codes, decimal, map, string_bytes, ℕ, ◌≡◌, ◌≤◌, ◌⊎◌, ◌∷◌}
use Rattle.std.specs.declared.alloc.Global.{Global}
use Rattle.script_text.specs.declared.limits.TheConstants.{MAX_OPERATIONS}

-- the words are this single word
abbrev pub IsSingle : List (String Global) → List ℕ → Type 0
IsSingle words text = map string_bytes words ≡ text ∷ []

-- the words are the single word `drive`
abbrev pub IsDrive : List (String Global) → Type 0
IsDrive words = IsSingle words (codes "drive")

-- the words are the single word `check`
abbrev pub IsCheck : List (String Global) → Type 0
IsCheck words = IsSingle words (codes "check")

-- the words are a command that reads its input
abbrev pub IsReader : List (String Global) → Type 0
IsReader words = IsDrive words ⊎ IsCheck words

-- the words are `load` and this number in decimal, without leading zeros; it is at most 65,536
pub record IsLoad (words : List (String Global)) (number : ℕ) : Type 0 where
  pub within : number ≤ MAX_OPERATIONS
  pub spelled : map string_bytes words ≡ codes "load" ∷ decimal number ∷ []

-- the words are a form that is built
abbrev pub IsBuilt : List (String Global) → Type 0
IsBuilt words = IsReader words ⊎ ((n : ℕ) × IsLoad words n)

-- the words are a form that isn't built
abbrev pub IsUnbuilt : List (String Global) → Type 0
IsUnbuilt words = IsSingle words (codes "view") ⊎ IsSingle words (codes "run")

-- the words are a form of the command line
abbrev pub IsForm : List (String Global) → Type 0
IsForm words = IsBuilt words ⊎ IsUnbuilt words
