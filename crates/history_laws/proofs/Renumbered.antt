-- A history whose lines are renumbered does to each what it did. By recursion over both histories.
use Rattle.std.proofs.Common.{◌≡◌, ℕ, Bool, true, cond, List, [], ◌∷◌, refl, ap, sym, ◌∙◌, inl, inr}
use Rattle.std.specs.Prelude.{nat_lt, ◌==◌, ◌&&◌}
use Rattle.std.proofs.lemmas.Bool.{and_from, and_parts, cases_Bool, eq-eqb, eqb-true, false≢true, lt-ltb, ltb-true, ne_eqb}
use Rattle.cxl_message.specs.declared.events.Commit.{Commit}
use Rattle.cxl_message.specs.declared.events.Op.{Op}
use Rattle.cxl_message.specs.declared.identifiers.Bytes64.{Bytes64}
use Rattle.cxl_message.specs.declared.identifiers.Line.{Line}
use Rattle.cxl_message.specs.Codes.{bytes_eq}
use Rattle.cxl_message.specs.Events.{line_of}
use Rattle.cxl_message.specs.Formed.{place_exists}
use Rattle.cxl_message.specs.Stores.{line_after}
use Rattle.coherence_model.specs.FlatMemory.{commit_is_legal, flat_line, is_legal}
use Rattle.history_laws.specs.Laws.{RenumberedFlatLine, RenumberedIsLegal}
use Rattle.history_laws.specs.Parts.{StaysBelow, IsRenumbered, renumbered}

-- a renumbered operation is on the renumbered line
pub renumbered_line : (f : ℕ → ℕ) (op : Op) → line_of (renumbered f op) ≡ f (line_of op)
renumbered_line f (Op.Load line) = refl
renumbered_line f (Op.Word line place value) = refl
renumbered_line f (Op.Whole line bytes) = refl

-- it does what it did
renumbered_after : (f : ℕ → ℕ) (op : Op) (bytes : Bytes64) → line_after (renumbered f op) bytes ≡ line_after op bytes
renumbered_after f (Op.Load line) bytes = refl
renumbered_after f (Op.Word line place value) bytes = refl
renumbered_after f (Op.Whole line whole) bytes = refl

-- and has the place that it had
renumbered_place : (f : ℕ → ℕ) (op : Op) → place_exists (renumbered f op) ≡ place_exists op
renumbered_place f (Op.Load line) = refl
renumbered_place f (Op.Word line place value) = refl
renumbered_place f (Op.Whole line bytes) = refl

-- renumbered lines are the same where the lines are
same_test : (f : ℕ → ℕ) → ((a b : ℕ) → f a ≡ f b → a ≡ b) → (a b : ℕ) → (f a == f b) ≡ (a == b)
same_test f apart a b =
    elim (cases_Bool (a == b)) [
      | inl is ↦ eq-eqb (f a) (f b) (ap f (eqb-true a b is)) ∙ sym is
      | inr other ↦ ne_eqb (f a) (f b) (λ same. false≢true (sym other ∙ eq-eqb a b (apart a b same))) ∙ sym other
    ]

pub renumbered_flat_line : RenumberedFlatLine
renumbered_flat_line f opening other is [] [] are a = is.opened a
renumbered_flat_line f opening other is [] (d ∷ ds) are a = absurd are
renumbered_flat_line f opening other is (c ∷ cs) [] are a = absurd are
renumbered_flat_line f opening other is (c ∷ cs) (d ∷ ds) are a =
    ap (λ (op : Op). cond (line_of op == f a) (line_after op (flat_line other (f a) ds)) (flat_line other (f a) ds)) are.0.op
    ∙ ap (λ (n : ℕ). cond (n == f a) (line_after (renumbered f c.op) (flat_line other (f a) ds)) (flat_line other (f a) ds)) (renumbered_line f c.op)
    ∙ ap (λ (b : Bool). cond b (line_after (renumbered f c.op) (flat_line other (f a) ds)) (flat_line other (f a) ds)) (same_test f is.apart (line_of c.op) a)
    ∙ ap (λ (x : Bytes64). cond (line_of c.op == a) (line_after (renumbered f c.op) x) x) (renumbered_flat_line f opening other is cs ds are.1 a)
    ∙ ap (λ (x : Bytes64). cond (line_of c.op == a) x (flat_line opening a cs)) (renumbered_after f c.op (flat_line opening a cs))

-- a renumbered commit is legal where it was
renumbered_commit :
    (f : ℕ → ℕ) (lines more : ℕ) (opening other : List (Line × Bytes64)) → StaysBelow f lines more → (c d : Commit) (cs ds : List Commit) → IsRenumbered f c d
    → ((a : ℕ) → flat_line other (f a) ds ≡ flat_line opening a cs) → commit_is_legal lines opening c cs ≡ true → commit_is_legal more other d ds ≡ true
renumbered_commit f lines more opening other wide c d cs ds is flat legal =
    let two = and_parts (nat_lt (line_of c.op) lines && place_exists c.op) (bytes_eq c.value (line_after c.op (flat_line opening (line_of c.op) cs))) legal in
    let one = and_parts (nat_lt (line_of c.op) lines) (place_exists c.op) two.0 in
    let line = ap line_of is.op ∙ renumbered_line f c.op in
    let after : line_after d.op (flat_line other (line_of d.op) ds) ≡ line_after c.op (flat_line opening (line_of c.op) cs) =
    ap (λ (op : Op). line_after op (flat_line other (line_of d.op) ds)) is.op ∙ ap (λ (n : ℕ). line_after (renumbered f c.op) (flat_line other n ds)) line
    ∙ ap (line_after (renumbered f c.op)) (flat (line_of c.op)) ∙ renumbered_after f c.op (flat_line opening (line_of c.op) cs) in
    and_from (nat_lt (line_of d.op) more && place_exists d.op) (bytes_eq d.value (line_after d.op (flat_line other (line_of d.op) ds)))
    (and_from (nat_lt (line_of d.op) more) (place_exists d.op)
    (ap (λ (n : ℕ). nat_lt n more) line ∙ lt-ltb (f (line_of c.op)) more (wide (line_of c.op) (ltb-true (line_of c.op) lines one.0)))
    (ap place_exists is.op ∙ renumbered_place f c.op ∙ one.1))
    (ap (λ (v : Bytes64). bytes_eq v (line_after d.op (flat_line other (line_of d.op) ds))) is.value ∙ ap (bytes_eq c.value) after ∙ two.1)

pub renumbered_is_legal : RenumberedIsLegal
renumbered_is_legal f lines more opening other is wide [] [] are legal = refl
renumbered_is_legal f lines more opening other is wide [] (d ∷ ds) are legal = absurd are
renumbered_is_legal f lines more opening other is wide (c ∷ cs) [] are legal = absurd are
renumbered_is_legal f lines more opening other is wide (c ∷ cs) (d ∷ ds) are legal =
    let parts = and_parts (is_legal lines opening cs) (commit_is_legal lines opening c cs) legal in
    and_from (is_legal more other ds) (commit_is_legal more other d ds) (renumbered_is_legal f lines more opening other is wide cs ds are.1 parts.0)
    (renumbered_commit f lines more opening other wide c d cs ds are.0 (renumbered_flat_line f opening other is cs ds are.1) parts.1)
