-- The commits on some lines, histories whose lines are renumbered, and the two halves of a history.
use Rattle.std.specs.Prelude.{Bool, List, [], filter, not, ℕ, ◌%◌, ◌*◌, ◌+◌, ◌<◌, ◌==◌, ◌∷◌, ◌≡◌}
use Rattle.cxl_message.specs.declared.events.Commit.{Commit}
use Rattle.cxl_message.specs.declared.events.Op.{Op}
use Rattle.cxl_message.specs.declared.identifiers.Bytes64.{Bytes64}
use Rattle.cxl_message.specs.declared.identifiers.Line.{Line}
use Rattle.cxl_message.specs.Events.{line_of}
use Rattle.cxl_message.specs.Opening.{bytes_at}

-- the commits on the lines that pass a test (own rule)
abbrev pub commits_on : (ℕ → Bool) → List Commit → List Commit
commits_on p past = filter (λ c. p (line_of c.op)) past

-- an operation with its line renumbered (own rule)
abbrev pub renumbered : (ℕ → ℕ) → Op → Op
renumbered f (Op.Load line) = Op.Load (record { 0 = f line.0 })
renumbered f (Op.Word line place value) = Op.Word (record { 0 = f line.0 }) place value
renumbered f (Op.Whole line bytes) = Op.Whole (record { 0 = f line.0 }) bytes

-- commit d is commit c with its line renumbered, whatever the streams and the indices of both
pub record IsRenumbered (f : ℕ → ℕ) (c d : Commit) : Type 0 where
  pub op : d.op ≡ renumbered f c.op
  pub value : d.value ≡ c.value

-- so is each of a history
abbrev pub AreRenumbered : (ℕ → ℕ) → List Commit → List Commit → Type 0
AreRenumbered f [] [] = Unit {0}
AreRenumbered f [] (d ∷ ds) = ⊥
AreRenumbered f (c ∷ cs) [] = ⊥
AreRenumbered f (c ∷ cs) (d ∷ ds) = IsRenumbered f c d × AreRenumbered f cs ds

-- no two lines get the same number, and each is opened as it was
pub record Renumbers (f : ℕ → ℕ) (opening other : List (Line × Bytes64)) : Type 0 where
  pub apart : (a b : ℕ) → f a ≡ f b → a ≡ b
  pub opened : (a : ℕ) → bytes_at other (f a) ≡ bytes_at opening a

-- each of so many lines gets a number below another
abbrev pub StaysBelow : (ℕ → ℕ) → ℕ → ℕ → Type 0
StaysBelow f lines more = (a : ℕ) → a < lines → f a < more

-- whether a line is even (own rule)
abbrev pub is_even : ℕ → Bool
is_even a = a % 2 == 0

-- which even line stands for line a of the even half (own rule)
abbrev pub even_line : ℕ → ℕ
even_line a = 2 * a

-- which odd line stands for line a of the odd half (own rule)
abbrev pub odd_line : ℕ → ℕ
odd_line a = 2 * a + 1

-- the commits of a history on even lines are those of one half, and its commits on odd lines those of the other
pub record IsJoined (even odd whole : List Commit) : Type 0 where
  pub evens : AreRenumbered even_line even (commits_on is_even whole)
  pub odds : AreRenumbered odd_line odd (commits_on (λ a. not (is_even a)) whole)
