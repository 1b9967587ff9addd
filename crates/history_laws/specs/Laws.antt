-- Laws of legal histories, newest commit first.
use Rattle.std.specs.Prelude.{Bool, IsTrue, List, [], not, ℕ, ◌*◌, ◌==◌, ◌∷◌, ◌≡◌}
use Rattle.cxl_message.specs.declared.events.Commit.{Commit}
use Rattle.cxl_message.specs.declared.identifiers.Bytes64.{Bytes64}
use Rattle.cxl_message.specs.declared.identifiers.Line.{Line}
use Rattle.cxl_message.specs.Opening.{bytes_at}
use Rattle.coherence_model.specs.FlatMemory.{flat_line, is_legal}
use Rattle.history_laws.specs.Parts.{AreRenumbered, IsJoined, IsRenumbered, Renumbers, StaysBelow, commits_on, even_line, odd_line}

-- a history is legal for so many lines and an opening, as a fact (own rule)
abbrev pub IsLegal : ℕ → List (Line × Bytes64) → List Commit → Type 0
IsLegal lines opening past = IsTrue (is_legal lines opening past)

-- a line of the flat memory depends on its own line's commits alone
abbrev pub FlatLineIsOwn : Type 0
FlatLineIsOwn = (opening : List (Line × Bytes64)) (a : ℕ) (past : List Commit) → flat_line opening a (commits_on (λ b. b == a) past) ≡ flat_line opening a past

-- so it is the same after the commits on any lines that it is one of
abbrev pub FlatLineIsKept : Type 0
FlatLineIsKept = (opening : List (Line × Bytes64)) (p : ℕ → Bool) (a : ℕ) (past : List Commit) → IsTrue (p a) → flat_line opening a (commits_on p past) ≡ flat_line opening a past

-- the commits of a legal history on any lines are a legal history
abbrev pub LegalIsKept : Type 0
LegalIsKept = (lines : ℕ) (opening : List (Line × Bytes64)) (p : ℕ → Bool) (past : List Commit) → IsLegal lines opening past → IsLegal lines opening (commits_on p past)

-- a history is legal where its commits on some lines and its commits on the others are
abbrev pub PartsAreLegal : Type 0
PartsAreLegal =
    (lines : ℕ) (opening : List (Line × Bytes64)) (p : ℕ → Bool) (past : List Commit) → IsLegal lines opening (commits_on p past) → IsLegal lines opening (commits_on (λ a. not (p a)) past)
    → IsLegal lines opening past

-- and where its commits on each line are
abbrev pub LegalByLines : Type 0
LegalByLines = (lines : ℕ) (opening : List (Line × Bytes64)) (past : List Commit) → ((a : ℕ) → IsLegal lines opening (commits_on (λ b. b == a) past)) → IsLegal lines opening past

-- a renumbered line holds what the line held
abbrev pub RenumberedFlatLine : Type 0
RenumberedFlatLine =
    (f : ℕ → ℕ) (opening other : List (Line × Bytes64)) → Renumbers f opening other → (past later : List Commit) → AreRenumbered f past later
    → (a : ℕ) → flat_line other (f a) later ≡ flat_line opening a past

-- a renumbered history is legal where the history was
abbrev pub RenumberedIsLegal : Type 0
RenumberedIsLegal =
    (f : ℕ → ℕ) (lines more : ℕ) (opening other : List (Line × Bytes64)) → Renumbers f opening other → StaysBelow f lines more → (past later : List Commit) → AreRenumbered f past later
    → IsLegal lines opening past → IsLegal more other later

-- two halves begin joined
abbrev pub JoinedBegins : Type 0
JoinedBegins = IsJoined [] [] []

-- with one more commit of the even half, and that commit renumbered, they stay joined
abbrev pub EvenGoesOn : Type 0
EvenGoesOn = (even odd whole : List Commit) (c d : Commit) → IsJoined even odd whole → IsRenumbered even_line c d → IsJoined (c ∷ even) odd (d ∷ whole)

-- and so with one more of the odd half
abbrev pub OddGoesOn : Type 0
OddGoesOn = (even odd whole : List Commit) (c d : Commit) → IsJoined even odd whole → IsRenumbered odd_line c d → IsJoined even (c ∷ odd) (d ∷ whole)

-- the opening of the whole has the bytes of the two openings on their lines
pub record OpensBoth (low high opening : List (Line × Bytes64)) : Type 0 where
  pub evens : (a : ℕ) → bytes_at opening (even_line a) ≡ bytes_at low a
  pub odds : (a : ℕ) → bytes_at opening (odd_line a) ≡ bytes_at high a

-- where both halves are legal so is the whole, with twice as many lines
abbrev pub JoinedIsLegal : Type 0
JoinedIsLegal =
    (lines : ℕ) (low high opening : List (Line × Bytes64)) → OpensBoth low high opening → (even odd whole : List Commit) → IsJoined even odd whole
    → IsLegal lines low even → IsLegal lines high odd → IsLegal (2 * lines) opening whole
