-- What a command does to its sink. Every rule here is an own rule.
use Rattle.std.specs.Prelude.{◌≡◌, ℕ, ◌+◌, ◌≤◌, List, length, take, Option}
use Rattle.std.specs.Io.KnownBytes.{Appends}

-- where the sink tells, the first bytes of these went to it, and nothing else
pub record WritesFront (old new : Option (List ℕ)) (bytes : List ℕ) : Type 0 where
  pub count : ℕ
  pub within : count ≤ length bytes
  pub written : Appends old new (take count bytes)

-- a text is written whole, or its first bytes where a write failed, which is then the one fault that was counted
pub record WritesText (old new : Option (List ℕ)) (before now : ℕ) (text : List ℕ) : Type 0 where
  pub front : WritesFront old new text
  pub whole : before ≡ now → Appends old new text
  pub once : now ≤ before + 1
