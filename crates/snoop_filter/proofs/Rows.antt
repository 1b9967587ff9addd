-- Rows that are shown by places: which of them is found for a line, and what a change of one of them leaves.
use Rattle.std.proofs.Common.{◌≡◌, ℕ, Bool, true, false, List, [], ◌∷◌, ◌++◌, Some, None, cond, map, refl, ap, sym, ◌∙◌, inl, inr}
use Rattle.std.specs.Prelude.{is_some, not, ◌==◌, ◌||◌}
use Rattle.std.proofs.lemmas.Bool.{eq-eqb, eqb-true, eqb-false, false≢true, ne_eqb, or_cases, cond-true, cond-false}
use Rattle.cxl_message.specs.Lists.{is_in, without}
use Rattle.snoop_filter.specs.Changes.{rows_changed}
use Rattle.snoop_filter.specs.Rows.{FilterRow, has_row, row_at, stands}
use Rattle.snoop_filter.proofs.Lists.{in_first, in_later}

-- ---- finding

first_by : (f : ℕ → FilterRow) (a p x : ℕ) (xs : List ℕ) (b : Bool) → ((f x).line == a) ≡ b → (f p).line ≡ a → ((f x).line ≡ a → x ≡ p) → is_in p (x ∷ xs) ≡ true
    → (is_in p xs ≡ true → row_at a (map f xs) ≡ Some (f p)) → cond b (Some (f x)) (row_at a (map f xs)) ≡ Some (f p)
first_by f a p x xs true is own only there rest = ap (λ q. Some (f q)) (only (eqb-true (f x).line a is))
first_by f a p x xs false is own only there rest =
    elim (or_cases (p == x) (is_in p xs) there) [
      | inl here ↦ absurd (eqb-false (f x).line a is (ap (λ q. (f q).line) (sym (eqb-true p x here)) ∙ own))
      | inr later ↦ rest later
    ]

-- the only row of a line is found
pub find_shown : (f : ℕ → FilterRow) (a p : ℕ) (xs : List ℕ) → (f p).line ≡ a → ((q : ℕ) → is_in q xs ≡ true → (f q).line ≡ a → q ≡ p) → is_in p xs ≡ true → row_at a (map f xs) ≡ Some (f p)
find_shown f a p [] own only there = absurd (false≢true there)
find_shown f a p (x ∷ xs) own only there =
    first_by f a p x xs ((f x).line == a) refl own (only x (in_first x xs)) there (find_shown f a p xs own (λ q inside. only q (in_later q x xs inside)))

-- no row of a line is found where no place has one
pub find_none : (f : ℕ → FilterRow) (a : ℕ) (xs : List ℕ) → ((q : ℕ) → is_in q xs ≡ true → (f q).line ≡ a → ⊥) → row_at a (map f xs) ≡ None
find_none f a [] none = refl
find_none f a (x ∷ xs) none =
    ap (λ b. cond b (Some (f x)) (row_at a (map f xs))) (ne_eqb (f x).line a (none x (in_first x xs))) ∙ find_none f a xs (λ q inside. none q (in_later q x xs inside))

has_by : (a : ℕ) (r : FilterRow) (rows : List FilterRow) (b : Bool) → (r.line == a) ≡ b → has_row a rows ≡ is_some (row_at a rows) → ((a == r.line) || has_row a rows) ≡ is_some (cond b (Some r) (row_at a rows))
has_by a r rows true is rest = ap (λ b. b || has_row a rows) (eq-eqb a r.line (sym (eqb-true r.line a is)))
has_by a r rows false is rest = ap (λ b. b || has_row a rows) (ne_eqb a r.line (λ same. eqb-false r.line a is (sym same))) ∙ rest

-- a line has a row where one is found
pub has_found : (a : ℕ) (rows : List FilterRow) → has_row a rows ≡ is_some (row_at a rows)
has_found a [] = refl
has_found a (r ∷ rows) = has_by a r rows (r.line == a) refl (has_found a rows)

-- ---- changes

mapped_pushed : (f : ℕ → FilterRow) (xs : List ℕ) (p : ℕ) → map f (xs ++ p ∷ []) ≡ map f xs ++ f p ∷ []
mapped_pushed f [] p = refl
mapped_pushed f (x ∷ xs) p = ap (λ l. f x ∷ l) (mapped_pushed f xs p)

pub same_map : (f g : ℕ → FilterRow) (xs : List ℕ) → ((b : ℕ) → is_in b xs ≡ true → f b ≡ g b) → map f xs ≡ map g xs
same_map f g [] same = refl
same_map f g (x ∷ xs) same = λ i. same x (in_first x xs) i ∷ same_map f g xs (λ b there. same b (in_later b x xs there)) i

-- a place is put last
pub shown_pushed : (f later : ℕ → FilterRow) (xs : List ℕ) (p : ℕ) → ((b : ℕ) → is_in b xs ≡ true → later b ≡ f b) → map later (xs ++ p ∷ []) ≡ map f xs ++ later p ∷ []
shown_pushed f later xs p same = mapped_pushed later xs p ∙ ap (λ l. l ++ later p ∷ []) (same_map later f xs same)

-- each place shows a changed row
pub shown_changed : (change : FilterRow → FilterRow) (f later : ℕ → FilterRow) (xs : List ℕ) → ((b : ℕ) → is_in b xs ≡ true → later b ≡ change (f b)) → map later xs ≡ map change (map f xs)
shown_changed change f later [] each = refl
shown_changed change f later (x ∷ xs) each = λ i. each x (in_first x xs) i ∷ shown_changed change f later xs (λ b there. each b (in_later b x xs there)) i

-- each place shows a changed row that stands
pub shown_standing : (change : FilterRow → FilterRow) (f later : ℕ → FilterRow) (xs : List ℕ) → ((b : ℕ) → is_in b xs ≡ true → later b ≡ change (f b)) → ((b : ℕ) → is_in b xs ≡ true → stands (later b) ≡ true)
    → map later xs ≡ rows_changed change (map f xs)
shown_standing change f later [] each stand = refl
shown_standing change f later (x ∷ xs) each stand =
    let here = each x (in_first x xs) in
    (λ i. here i ∷ shown_standing change f later xs (λ b there. each b (in_later b x xs there)) (λ b there. stand b (in_later b x xs there)) i)
    ∙ sym (cond-true (stands (change (f x))) (change (f x) ∷ rows_changed change (map f xs)) (rows_changed change (map f xs)) (sym (ap stands here) ∙ stand x (in_first x xs)))

drop_by : (change : FilterRow → FilterRow) (f : ℕ → FilterRow) (p x : ℕ) (xs : List ℕ) (b : Bool) → (p == x) ≡ b → (stands (change (f p)) ≡ false) → ((x ≡ p → ⊥) → (change (f x) ≡ f x) × (stands (f x) ≡ true))
    → map f (without p xs) ≡ rows_changed change (map f xs) → map f (cond (not b) (x ∷ without p xs) (without p xs)) ≡ cond (stands (change (f x))) (change (f x) ∷ rows_changed change (map f xs)) (rows_changed change (map f xs))
drop_by change f p x xs true is gone others rest =
    rest ∙ sym (cond-false (stands (change (f x))) (change (f x) ∷ rows_changed change (map f xs)) (rows_changed change (map f xs)) (ap (λ q. stands (change (f q))) (sym (eqb-true p x is)) ∙ gone))
drop_by change f p x xs false is gone others rest =
    let here = others (λ same. eqb-false p x is (sym same)) in
    (λ i. sym here.0 i ∷ rest i)
    ∙ sym (cond-true (stands (change (f x))) (change (f x) ∷ rows_changed change (map f xs)) (rows_changed change (map f xs)) (ap stands here.0 ∙ here.1))

-- one place is taken out, whose row doesn't stand after the change; the other rows stay
pub shown_dropped : (change : FilterRow → FilterRow) (f : ℕ → FilterRow) (p : ℕ) (xs : List ℕ) → (stands (change (f p)) ≡ false) → ((q : ℕ) → is_in q xs ≡ true → (q ≡ p → ⊥) → (change (f q) ≡ f q) × (stands (f q) ≡ true))
    → map f (without p xs) ≡ rows_changed change (map f xs)
shown_dropped change f p [] gone others = refl
shown_dropped change f p (x ∷ xs) gone others =
    drop_by change f p x xs (p == x) refl gone (others x (in_first x xs)) (shown_dropped change f p xs gone (λ q there. others q (in_later q x xs there)))

-- no row is of the line that changes
pub shown_untouched : (change : FilterRow → FilterRow) (f : ℕ → FilterRow) (xs : List ℕ) → ((q : ℕ) → is_in q xs ≡ true → (change (f q) ≡ f q) × (stands (f q) ≡ true)) → map f xs ≡ rows_changed change (map f xs)
shown_untouched change f xs each = shown_standing change f f xs (λ b there. sym (each b there).0) (λ b there. (each b there).1)
