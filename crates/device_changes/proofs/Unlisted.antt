-- A host is unlisted for all lines that it has left, one after the other.
use Rattle.std.proofs.Common.{◌≡◌, ℕ, zero, suc, ◌+◌, ◌<◌, ◌≤◌, Bool, true, false, List, [], ◌∷◌, cond, refl, ap, sym, ◌∙◌, arith}
use Rattle.std.specs.Prelude.{not, slice_set, ◌&&◌, ◌==◌, ◌||◌}
use Rattle.std.specs.List.{range_with_len}
use Rattle.std.proofs.lemmas.Bool.{eq-eqb, eqb-true, false≢true, or_left}
use Rattle.cxl_message.specs.declared.opcodes.Span.{Span}
use Rattle.cxl_message.specs.declared.states.Listing.{Listing}
use Rattle.cxl_message.specs.Lists.{is_in, without}
use Rattle.block_snoop.specs.Answering.{are_all_left}
use Rattle.snoop_filter.specs.Changes.{rows_changed, rows_set}
use Rattle.snoop_filter.specs.Rows.{FilterRow}
use Rattle.device_changes.specs.FilterLines.{rows_unlisted}
use Rattle.device_laws.proofs.Loops.{unlist_each}

-- those of some lines that are left, each once
abbrev lines_hit : List ℕ → List ℕ → List ℕ
lines_hit [] left = []
lines_hit (a ∷ lines) left = cond (is_in a left) (a ∷ lines_hit lines (without a left)) (lines_hit lines (without a left))

-- the rows with host h unlisted for some lines, if there are any
abbrev set_some : ℕ → List ℕ → List FilterRow → List FilterRow
set_some h [] rows = rows
set_some h (a ∷ lines) rows = rows_set (a ∷ lines) h Listing.I rows

one_more : (h a : ℕ) (lines : List ℕ) (rows : List FilterRow) → set_some h lines (rows_set (a ∷ []) h Listing.I rows) ≡ rows_set (a ∷ lines) h Listing.I rows
one_more h a [] rows = refl
one_more h a (b ∷ lines) rows = unlist_each a (b ∷ lines) h rows

hit_by : (h a : ℕ) (rows one : List FilterRow) (hit : List ℕ) (b : Bool) → (unlisted : List FilterRow → List FilterRow) → ((rs : List FilterRow) → unlisted rs ≡ set_some h hit rs)
    → one ≡ rows_set (a ∷ []) h Listing.I rows → unlisted (cond b one rows) ≡ set_some h (cond b (a ∷ hit) hit) rows
hit_by h a rows one hit true unlisted more is = more one ∙ ap (set_some h hit) is ∙ one_more h a hit rows
hit_by h a rows one hit false unlisted more is = more rows

hits_are : (h : ℕ) (lines left : List ℕ) (rows : List FilterRow) → rows_unlisted h lines left rows ≡ set_some h (lines_hit lines left) rows
hits_are h [] left rows = refl
hits_are h (a ∷ lines) left rows =
    hit_by h a rows (rows_set (a ∷ []) h Listing.I rows) (lines_hit lines (without a left)) (is_in a left) (rows_unlisted h lines (without a left)) (hits_are h lines (without a left)) refl

-- ---- which lines these are

-- a line that is in without another
other_by : (b x : ℕ) (xs rest : List ℕ) (p : Bool) → is_in b rest ≡ is_in b xs → (p ≡ false → (b == x) ≡ false) → is_in b (cond p (x ∷ rest) rest) ≡ (b == x) || is_in b xs
other_by b x xs rest true more out = ap (λ c. (b == x) || c) more
other_by b x xs rest false more out = more ∙ ap (λ c. c || is_in b xs) (sym (out refl))

not_false : (c : Bool) → not c ≡ false → c ≡ true
not_false true is = refl
not_false false is = cc

in_others : (a b : ℕ) → (b == a) ≡ false → (xs : List ℕ) → is_in b (without a xs) ≡ is_in b xs
in_others a b apart [] = refl
in_others a b apart (x ∷ xs) =
    other_by b x xs (without a xs) (not (a == x)) (in_others a b apart xs)
    (λ out. (let same : a ≡ x = eqb-true a x (not_false (a == x) out) in ap (λ n. b == n) (sym same) ∙ apart))

gone_by : (a x : ℕ) (rest : List ℕ) (c : Bool) → (a == x) ≡ c → is_in a rest ≡ false → is_in a (cond (not c) (x ∷ rest) rest) ≡ false
gone_by a x rest true is gone = gone
gone_by a x rest false is gone = ap (λ c. c || is_in a rest) is ∙ gone

in_none : (a : ℕ) (xs : List ℕ) → is_in a (without a xs) ≡ false
in_none a [] = refl
in_none a (x ∷ xs) = gone_by a x (without a xs) (a == x) refl (in_none a xs)

and_no : (c : Bool) → (c && false) ≡ false
and_no true = refl
and_no false = refl

hit_in : (a b : ℕ) (lines left hit : List ℕ) (p c : Bool) → is_in a left ≡ p → (b == a) ≡ c → is_in b hit ≡ (is_in b lines && is_in b (without a left))
    → is_in b (cond p (a ∷ hit) hit) ≡ ((c || is_in b lines) && is_in b left)
hit_in a b lines left hit true true is at more = ap (λ c. c || is_in b hit) at ∙ sym is ∙ ap (λ n. is_in n left) (sym (eqb-true b a at))
hit_in a b lines left hit false true is at more =
    more ∙ ap (λ n. is_in b lines && is_in n (without a left)) (eqb-true b a at) ∙ ap (λ c. is_in b lines && c) (in_none a left) ∙ and_no (is_in b lines)
    ∙ sym is ∙ ap (λ n. is_in n left) (sym (eqb-true b a at))
hit_in a b lines left hit true false is at more = ap (λ c. c || is_in b hit) at ∙ more ∙ ap (λ c. is_in b lines && c) (in_others a b at left)
hit_in a b lines left hit false false is at more = more ∙ ap (λ c. is_in b lines && c) (in_others a b at left)

in_hit : (lines left : List ℕ) (b : ℕ) → is_in b (lines_hit lines left) ≡ (is_in b lines && is_in b left)
in_hit [] left b = refl
in_hit (a ∷ lines) left b = hit_in a b lines left (lines_hit lines (without a left)) (is_in a left) (b == a) refl refl (in_hit lines (without a left) b)

later : (a k : ℕ) → a ≤ k → (k ≡ a → ⊥) → a + 1 ≤ k
later a k from other = omega (arith, from, other)

in_range_by : (a n k : ℕ) (c : Bool) → (k == a) ≡ c → ((k ≡ a → ⊥) → is_in k (range_with_len (a + 1) n) ≡ true) → c || is_in k (range_with_len (a + 1) n) ≡ true
in_range_by a n k true is more = refl
in_range_by a n k false is more = more (λ same. false≢true (sym is ∙ eq-eqb k a same))

-- a line of those from a on
pub in_range : (a n k : ℕ) → a ≤ k → k < a + n → is_in k (range_with_len a n) ≡ true
in_range a zero k from below = absurd (omega (arith, from, below))
in_range a (suc n) k from below = in_range_by a n k (k == a) refl (λ other. in_range (a + 1) n k (later a k from other) (omega (arith, below)))

hit_is : (b left : Bool) → (left ≡ true → b ≡ true) → (b && left) ≡ left
hit_is b true there = ap (λ c. c && true) (there refl)
hit_is b false there = and_no b

-- ---- all of it

same_set : (xs ys : List ℕ) (h : ℕ) (rows : List FilterRow) → ((b : ℕ) → is_in b xs ≡ is_in b ys) → rows_set xs h Listing.I rows ≡ rows_set ys h Listing.I rows
same_set xs ys h rows same =
    ap (λ (f : FilterRow → FilterRow). rows_changed f rows) (λ i r. cond (same r.line i) (record r { listings = slice_set r.listings h Listing.I }) r)

some_set : (h b : ℕ) (xs : List ℕ) (rows : List FilterRow) → is_in b xs ≡ true → set_some h xs rows ≡ rows_set xs h Listing.I rows
some_set h b [] rows there = cc
some_set h b (x ∷ xs) rows there = refl

-- of a block that is left whole some line is left
pub some_left_by : (left : List ℕ) (span : Span) → are_all_left span left ≡ true → (b : ℕ) × (is_in b left ≡ true)
some_left_by [] Span.One all = cc
some_left_by [] Span.Two all = cc
some_left_by [] Span.Four all = cc
some_left_by (x ∷ xs) span all = (x, or_left (x == x) (is_in x xs) (eq-eqb x x refl))

-- where all lines that are left are of the block, and not none, the host is unlisted for those
pub unlisted_all : (h first n : ℕ) (left : List ℕ) (rows : List FilterRow) → ((b : ℕ) → is_in b left ≡ true → (first ≤ b) × (b < first + n)) → (b : ℕ) → is_in b left ≡ true
    → rows_unlisted h (range_with_len first n) left rows ≡ rows_set left h Listing.I rows
unlisted_all h first n left rows within b there =
    let same = λ (c : ℕ). in_hit (range_with_len first n) left c ∙ hit_is (is_in c (range_with_len first n)) (is_in c left) (λ is. in_range first n c (within c is).0 (within c is).1) in
    hits_are h (range_with_len first n) left rows ∙ some_set h b (lines_hit (range_with_len first n) left) rows (same b ∙ there) ∙ same_set (lines_hit (range_with_len first n) left) left h rows same
