-- No commit is named exactly where the history is legal.
use Rattle.std.proofs.Common.{◌≡◌, ℕ, ◌+◌, Bool, true, false, IsTrue, List, [], ◌∷◌, Option, Some, None, cond, refl, ◌∙◌}
use Rattle.std.specs.Prelude.{◌↔◌}
use Rattle.std.proofs.lemmas.Bool.{and_from, and_parts, cond-true}
use Rattle.cxl_message.specs.declared.events.Commit.{Commit}
use Rattle.cxl_message.specs.declared.identifiers.Bytes64.{Bytes64}
use Rattle.cxl_message.specs.declared.identifiers.Line.{Line}
use Rattle.coherence_model.specs.FlatMemory.{commit_is_legal, is_legal}
use Rattle.flat_model.specs.Histories.{first_illegal_from, newest_first}

-- what came first is legal where all is
front_is_legal : (n : ℕ) (opening : List (Line × Bytes64)) (older cs : List Commit) → IsTrue (is_legal n opening (newest_first older cs)) → IsTrue (is_legal n opening older)
front_is_legal n opening older [] h = h
front_is_legal n opening older (c ∷ cs) h = (and_parts _ _ (front_is_legal n opening (c ∷ older) cs h)).0

named : (legal : Bool) (rest : Option ℕ) (place : ℕ) → cond legal rest (Some place) ≡ None → IsTrue legal × (rest ≡ None)
named true rest place h = (refl, h)
named false rest place h = cc

none_is_legal : (n : ℕ) (opening : List (Line × Bytes64)) (older cs : List Commit) (place : ℕ) → IsTrue (is_legal n opening older) → first_illegal_from n opening older place cs ≡ None → IsTrue (is_legal n opening (newest_first older cs))
none_is_legal n opening older [] place so h = so
none_is_legal n opening older (c ∷ cs) place so h =
    let parts = named (commit_is_legal n opening c older) (first_illegal_from n opening (c ∷ older) (place + 1) cs) place h in
    none_is_legal n opening (c ∷ older) cs (place + 1) (and_from _ _ so parts.0) parts.1

legal_is_none : (n : ℕ) (opening : List (Line × Bytes64)) (older cs : List Commit) (place : ℕ) → IsTrue (is_legal n opening (newest_first older cs)) → first_illegal_from n opening older place cs ≡ None
legal_is_none n opening older [] place h = refl
legal_is_none n opening older (c ∷ cs) place h =
    let here = (and_parts _ _ (front_is_legal n opening (c ∷ older) cs h)).1 in
    cond-true (commit_is_legal n opening c older) _ _ here ∙ legal_is_none n opening (c ∷ older) cs (place + 1) h

pub found_is_legal : (n : ℕ) (opening : List (Line × Bytes64)) (cs : List Commit) → (first_illegal_from n opening [] 0 cs ≡ None) ↔ IsTrue (is_legal n opening (newest_first [] cs))
found_is_legal n opening cs = (none_is_legal n opening [] cs 0 refl, legal_is_none n opening [] cs 0)
