-- The flat memory as a list of its lines, and the first commit of a history that isn't legal. All of it is an own rule.
use Rattle.std.specs.Prelude.{IsTrue, List, None, Option, Some, [], if◌then◌else◌, length, map, ℕ, ◌+◌, ◌↔◌, ◌≡◌, ◌∷◌}
use Rattle.cxl_message.specs.declared.events.Commit.{Commit}
use Rattle.cxl_message.specs.declared.identifiers.Bytes64.{Bytes64}
use Rattle.cxl_message.specs.declared.identifiers.Line.{Line}
use Rattle.cxl_message.specs.Lists.{below}
use Rattle.coherence_model.specs.FlatMemory.{commit_is_legal, flat_line, is_legal}

-- the lines of the flat memory after a history, by number; the history has its newest commit first
abbrev pub flat_lines : ℕ → List (Line × Bytes64) → List Commit → List Bytes64
flat_lines lines opening older = map (λ a. flat_line opening a older) (below lines)

-- a fact holds for each opening and history after which the flat memory is as it is
abbrev pub WhereStands : List Bytes64 → (List (Line × Bytes64) → List Commit → Type 0) → Type 0
WhereStands flat Says = (opening : List (Line × Bytes64)) (older : List Commit) → flat ≡ flat_lines (length flat) opening older → Says opening older

-- the place of the first commit, oldest first, that isn't legal after those before it, where `place` commits came before
abbrev pub first_illegal_from : ℕ → List (Line × Bytes64) → List Commit → ℕ → List Commit → Option ℕ
first_illegal_from lines opening older place [] = None
first_illegal_from lines opening older place (c ∷ cs) =
    if commit_is_legal lines opening c older then first_illegal_from lines opening (c ∷ older) (place + 1) cs else Some place

-- a history with its newest commit first, of one with its oldest first that came after `older`
abbrev pub newest_first : List Commit → List Commit → List Commit
newest_first older [] = older
newest_first older (c ∷ cs) = newest_first (c ∷ older) cs

-- no place is named exactly where the model calls the history legal
abbrev pub NoneIsLegal : Type 0
NoneIsLegal =
    (lines : ℕ) (opening : List (Line × Bytes64)) (commits : List Commit) → (first_illegal_from lines opening [] 0 commits ≡ None) ↔ IsTrue (is_legal lines opening (newest_first [] commits))
