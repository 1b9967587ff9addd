-- A commit on another line changes nothing of a line, and is as legal without the commits on it.
use Rattle.std.proofs.Common.{◌≡◌, ℕ, Bool, true, false, cond, List, [], ◌∷◌, refl, ap, sym, ◌∙◌, inl, inr}
use Rattle.std.specs.Prelude.{nat_lt, not, ◌==◌, ◌&&◌}
use Rattle.std.proofs.lemmas.Bool.{and_from, and_parts, cases_Bool, eq-eqb, eqb-true, false≢true}
use Rattle.cxl_message.specs.declared.events.Commit.{Commit}
use Rattle.cxl_message.specs.declared.identifiers.Bytes64.{Bytes64}
use Rattle.cxl_message.specs.declared.identifiers.Line.{Line}
use Rattle.cxl_message.specs.Codes.{bytes_eq}
use Rattle.cxl_message.specs.Events.{line_of}
use Rattle.cxl_message.specs.Formed.{place_exists}
use Rattle.cxl_message.specs.Stores.{line_after}
use Rattle.coherence_model.specs.FlatMemory.{commit_is_legal, flat_line, is_legal}
use Rattle.history_laws.specs.Laws.{FlatLineIsKept, FlatLineIsOwn, LegalByLines, LegalIsKept, PartsAreLegal}
use Rattle.history_laws.specs.Parts.{commits_on}

-- one more commit, kept or not, on the line or not
flat_by :
    (c : Commit) (own : Bool) (kept : Bool) (rest whole : Bytes64) (shorter : Bytes64) → rest ≡ whole → shorter ≡ rest → (own ≡ true → kept ≡ true)
    → cond kept (cond own (line_after c.op rest) rest) shorter ≡ cond own (line_after c.op whole) whole
flat_by c true true rest whole shorter same less sure = ap (line_after c.op) same
flat_by c true false rest whole shorter same less sure = absurd (false≢true (sure refl))
flat_by c false true rest whole shorter same less sure = same
flat_by c false false rest whole shorter same less sure = less ∙ same

-- the flat line of a commit that is kept or not
flat_cond :
    (opening : List (Line × Bytes64)) (a : ℕ) (c : Commit) (xs : List Commit) (kept : Bool)
    → flat_line opening a (cond kept (c ∷ xs) xs) ≡ cond kept (cond (line_of c.op == a) (line_after c.op (flat_line opening a xs)) (flat_line opening a xs)) (flat_line opening a xs)
flat_cond opening a c xs true = refl
flat_cond opening a c xs false = refl

pub flat_line_is_kept : FlatLineIsKept
flat_line_is_kept opening p a [] own = refl
flat_line_is_kept opening p a (c ∷ past) own =
    let xs = commits_on p past in
    flat_cond opening a c xs (p (line_of c.op))
    ∙ flat_by c (line_of c.op == a) (p (line_of c.op)) (flat_line opening a xs) (flat_line opening a past) (flat_line opening a xs) (flat_line_is_kept opening p a past own) refl
    (λ is. ap p (eqb-true (line_of c.op) a is) ∙ own)

pub flat_line_is_own : FlatLineIsOwn
flat_line_is_own opening a past = flat_line_is_kept opening (λ b. b == a) a past (eq-eqb a a refl)

-- a commit is as legal after one history as after another, where its line is the same
legal_as :
    (lines : ℕ) (opening : List (Line × Bytes64)) (c : Commit) (xs ys : List Commit) → flat_line opening (line_of c.op) xs ≡ flat_line opening (line_of c.op) ys
    → commit_is_legal lines opening c xs ≡ commit_is_legal lines opening c ys
legal_as lines opening c xs ys same = ap (λ (b : Bytes64). nat_lt (line_of c.op) lines && place_exists c.op && bytes_eq c.value (line_after c.op b)) same

-- one more commit, kept or not
legal_by :
    (lines : ℕ) (opening : List (Line × Bytes64)) (c : Commit) (xs : List Commit) (kept : Bool) → is_legal lines opening xs ≡ true → (kept ≡ true → commit_is_legal lines opening c xs ≡ true)
    → is_legal lines opening (cond kept (c ∷ xs) xs) ≡ true
legal_by lines opening c xs true before here = and_from (is_legal lines opening xs) (commit_is_legal lines opening c xs) before (here refl)
legal_by lines opening c xs false before here = before

pub legal_is_kept : LegalIsKept
legal_is_kept lines opening p [] legal = refl
legal_is_kept lines opening p (c ∷ past) legal =
    let parts = and_parts (is_legal lines opening past) (commit_is_legal lines opening c past) legal in
    legal_by lines opening c (commits_on p past) (p (line_of c.op)) (legal_is_kept lines opening p past parts.0)
    (λ kept. legal_as lines opening c (commits_on p past) past (flat_line_is_kept opening p (line_of c.op) past kept) ∙ parts.1)

-- what is kept of more is kept of less
legal_before : (lines : ℕ) (opening : List (Line × Bytes64)) (c : Commit) (xs : List Commit) (kept : Bool) → is_legal lines opening (cond kept (c ∷ xs) xs) ≡ true → is_legal lines opening xs ≡ true
legal_before lines opening c xs true legal = (and_parts (is_legal lines opening xs) (commit_is_legal lines opening c xs) legal).0
legal_before lines opening c xs false legal = legal

-- and a commit that is kept is legal after the others
legal_here :
    (lines : ℕ) (opening : List (Line × Bytes64)) (c : Commit) (xs : List Commit) (kept : Bool) → kept ≡ true → is_legal lines opening (cond kept (c ∷ xs) xs) ≡ true → commit_is_legal lines opening c xs ≡ true
legal_here lines opening c xs true is legal = (and_parts (is_legal lines opening xs) (commit_is_legal lines opening c xs) legal).1
legal_here lines opening c xs false is legal = absurd (false≢true is)

-- so it is after all
legal_whole :
    (lines : ℕ) (opening : List (Line × Bytes64)) (p : ℕ → Bool) (c : Commit) (past : List Commit) → p (line_of c.op) ≡ true → is_legal lines opening (commits_on p (c ∷ past)) ≡ true
    → commit_is_legal lines opening c past ≡ true
legal_whole lines opening p c past kept legal =
    sym (legal_as lines opening c (commits_on p past) past (flat_line_is_kept opening p (line_of c.op) past kept))
    ∙ legal_here lines opening c (commits_on p past) (p (line_of c.op)) kept legal

pub parts_are_legal : PartsAreLegal
parts_are_legal lines opening p [] some others = refl
parts_are_legal lines opening p (c ∷ past) some others =
    and_from (is_legal lines opening past) (commit_is_legal lines opening c past)
    (parts_are_legal lines opening p past (legal_before lines opening c (commits_on p past) (p (line_of c.op)) some)
    (legal_before lines opening c (commits_on (λ a. not (p a)) past) (not (p (line_of c.op))) others))
    (elim (cases_Bool (p (line_of c.op))) [
      | inl is ↦ legal_whole lines opening p c past is some
      | inr other ↦ legal_whole lines opening (λ a. not (p a)) c past (ap not other) others
    ])

pub legal_by_lines : LegalByLines
legal_by_lines lines opening [] each = refl
legal_by_lines lines opening (c ∷ past) each =
    and_from (is_legal lines opening past) (commit_is_legal lines opening c past)
    (legal_by_lines lines opening past (λ a. legal_before lines opening c (commits_on (λ b. b == a) past) (line_of c.op == a) (each a)))
    (legal_whole lines opening (λ b. b == line_of c.op) c past (eq-eqb (line_of c.op) (line_of c.op) refl) (each (line_of c.op)))
