-- The order as a list: what walking gives, and what putting last and taking out do.
use Rattle.std.proofs.Common.{◌≡◌, ℕ, zero, suc, ◌<◌, Bool, true, false, List, [], ◌∷◌, ◌++◌, ◌⊎◌, Some, cond, length, refl, ap, sym, ◌∙◌, subst, arith, inl, inr}
use Rattle.std.specs.Prelude.{not, slice_get, slice_set, ◌==◌, ◌||◌}
use Rattle.std.specs.Option.{option_map_or}
use Rattle.std.proofs.lemmas.Bool.{eq-eqb, eqb-true, eqb-false, false≢true, ne_eqb, or_parts, or_left, or_right, or_cases, cond-true, cond-false}
use Rattle.linked_order.specs.Orders.{IsOnce, is_listed, without_place}
use Rattle.linked_order.specs.declared.links.Link.{Link}
use Rattle.linked_order.specs.Links.{IsChain, newer_at, older_at, put_last, taken_out, walk, with_newer, with_older}

-- ---- one place set

get_same : (links : List Link) (a : ℕ) (l : Link) → a < length links → slice_get (slice_set links a l) a ≡ Some l
get_same [] a l low = absurd (omega arith)
get_same (x ∷ links) zero l low = refl
get_same (x ∷ links) (suc a) l low = get_same links a l (omega arith)

get_other : (links : List Link) (a b : ℕ) (l : Link) → (b ≡ a → ⊥) → slice_get (slice_set links a l) b ≡ slice_get links b
get_other [] a b l other = refl
get_other (x ∷ links) zero zero l other = absurd (other refl)
get_other (x ∷ links) zero (suc b) l other = refl
get_other (x ∷ links) (suc a) zero l other = refl
get_other (x ∷ links) (suc a) (suc b) l other = get_other links a b l (λ same. other (ap suc same))

pub same_length : (links : List Link) (a : ℕ) (l : Link) → length (slice_set links a l) ≡ length links
same_length [] a l = refl
same_length (x ∷ links) zero l = refl
same_length (x ∷ links) (suc a) l = ap suc (same_length links a l)

older_same : (links : List Link) (a : ℕ) (l : Link) → a < length links → older_at (slice_set links a l) a ≡ l.older
older_same links a l low = ap (λ o. option_map_or (λ (k : Link). k.older) o 0) (get_same links a l low)

newer_same : (links : List Link) (a : ℕ) (l : Link) → a < length links → newer_at (slice_set links a l) a ≡ l.newer
newer_same links a l low = ap (λ o. option_map_or (λ (k : Link). k.newer) o 0) (get_same links a l low)

older_other : (links : List Link) (a b : ℕ) (l : Link) → (b ≡ a → ⊥) → older_at (slice_set links a l) b ≡ older_at links b
older_other links a b l other = ap (λ o. option_map_or (λ (k : Link). k.older) o 0) (get_other links a b l other)

newer_other : (links : List Link) (a b : ℕ) (l : Link) → (b ≡ a → ⊥) → newer_at (slice_set links a l) b ≡ newer_at links b
newer_other links a b l other = ap (λ o. option_map_or (λ (k : Link). k.newer) o 0) (get_other links a b l other)

-- ---- walking

-- walking gives the list
pub walk_is : (links : List Link) (prev name : ℕ) (xs : List ℕ) (last : ℕ) → IsChain links prev name xs last → walk (length xs) name links ≡ xs
walk_is links prev name [] last chain = refl
walk_is links prev name (x ∷ xs) last chain =
    ap (λ n. walk (suc (length xs)) n links) chain.0 ∙ ap (λ l. x ∷ l) (walk_is links (suc x) (newer_at links x) xs last chain.3)

-- ---- frames

not_first : (x y : ℕ) (ys : List ℕ) → is_listed x (y ∷ ys) ≡ false → (y ≡ x → ⊥) × (is_listed x ys ≡ false)
not_first x y ys none = let parts = or_parts (x == y) (is_listed x ys) none in (λ same. eqb-false x y parts.0 (sym same), parts.1)

-- a line outside the order may be set
pub chain_frame : (links : List Link) (a : ℕ) (l : Link) (prev name : ℕ) (xs : List ℕ) (last : ℕ) → is_listed a xs ≡ false → IsChain links prev name xs last → IsChain (slice_set links a l) prev name xs last
chain_frame links a l prev name [] last none chain = chain
chain_frame links a l prev name (x ∷ xs) last none chain =
    let parts = not_first a x xs none in (
      chain.0,
      subst (λ n. x < n) (sym (same_length links a l)) chain.1,
      older_other links a x l parts.0 ∙ chain.2,
      subst (λ n. IsChain (slice_set links a l) (suc x) n xs last) (sym (newer_other links a x l parts.0)) (chain_frame links a l (suc x) (newer_at links x) xs last parts.1 chain.3),
    )

-- ---- put last

-- the last name of an order that isn't empty is one of its lines
last_in : (links : List Link) (prev name x : ℕ) (xs : List ℕ) (last : ℕ) → IsChain links prev name (x ∷ xs) last → (y : ℕ) × (last ≡ suc y) × (is_listed y (x ∷ xs) ≡ true)
last_in links prev name x [] last chain = (x, chain.3.1, or_left _ _ (eq-eqb x x refl))
last_in links prev name x (z ∷ xs) last chain = let later = last_in links (suc x) (newer_at links x) z xs last chain.3 in (later.0, later.1, or_right _ _ later.2)

same_pred : (a b : ℕ) → suc a ≡ suc b → a ≡ b
same_pred a b same = omega arith

-- the name with which the longer list begins
abbrev pub lengthened_name : List ℕ → ℕ → ℕ → ℕ
lengthened_name [] name a = suc a
lengthened_name (x ∷ xs) name a = name

-- the chain with the last line's newer name set, and a line after it
lengthened : (links : List Link) (a : ℕ) (prev name : ℕ) (xs : List ℕ) (last : ℕ) → IsOnce xs → is_listed a xs ≡ false → a < length links → IsChain links prev name xs last
    → (later : List Link) → length later ≡ length links → older_at later a ≡ last → newer_at later a ≡ 0
    → ((x : ℕ) → is_listed x xs ≡ true → (older_at later x ≡ older_at links x) × ((last ≡ suc x → ⊥) → newer_at later x ≡ newer_at links x) × (last ≡ suc x → newer_at later x ≡ suc a))
    → IsChain later prev (lengthened_name xs name a) (xs ++ a ∷ []) (suc a)
lengthened links a prev name [] last once none low chain later same own_older own_newer each = (refl, subst (λ n. a < n) (sym same) low, own_older ∙ chain.1, (own_newer, refl))
lengthened links a prev name (x ∷ []) last once none low chain later same own_older own_newer each =
    let here = each x (or_left _ _ (eq-eqb x x refl)) in
    (chain.0, subst (λ n. x < n) (sym same) chain.1, here.0 ∙ chain.2, (here.2 chain.3.1, subst (λ n. a < n) (sym same) low, own_older ∙ chain.3.1, (own_newer, refl)))
lengthened links a prev name (x ∷ z ∷ xs) last once none low chain later same own_older own_newer each =
    let here = each x (or_left _ _ (eq-eqb x x refl)) in
    let inside = last_in links (suc x) (newer_at links x) z xs last chain.3 in
    let other : last ≡ suc x → ⊥ = λ at_x. false≢true (sym once.0 ∙ subst (λ y. is_listed y (z ∷ xs) ≡ true) (same_pred inside.0 x (sym inside.1 ∙ at_x)) inside.2) in (
      chain.0,
      subst (λ n. x < n) (sym same) chain.1,
      here.0 ∙ chain.2,
      subst (λ n. IsChain later (suc x) n (z ∷ xs ++ a ∷ []) (suc a)) (sym (here.1 other))
          (lengthened links a (suc x) (newer_at links x) (z ∷ xs) last once.1 (not_first a x (z ∷ xs) none).1 low chain.3 later same own_older own_newer (λ y there. each y (or_right _ _ there))),
    )

-- ---- put last, in the table

older_by : (links : List Link) (y x k : ℕ) → y < length links → (b : Bool) → (x == y) ≡ b → older_at (slice_set links y (record { older = older_at links y; newer = k })) x ≡ older_at links x
older_by links y x k low true is = let same = eqb-true x y is in ap (older_at (slice_set links y (record { older = older_at links y; newer = k }))) same ∙ older_same links y (record { older = older_at links y; newer = k }) low ∙ ap (older_at links) (sym same)
older_by links y x k low false is = older_other links y x (record { older = older_at links y; newer = k }) (eqb-false x y is)

older_kept : (links : List Link) (y x k : ℕ) → y < length links → older_at (slice_set links y (record { older = older_at links y; newer = k })) x ≡ older_at links x
older_kept links y x k low = older_by links y x k low (x == y) refl

put_by : (links : List Link) (a : ℕ) (last : ℕ) (xs : List ℕ) (prev name : ℕ) → IsOnce xs → is_listed a xs ≡ false → a < length links → IsChain links prev name xs last
    → (last ≡ 0 → xs ≡ []) → (y : ℕ) → last ≡ suc y → y < length links → is_listed y xs ≡ true
    → IsChain (slice_set (slice_set links y (record { older = older_at links y; newer = suc a })) a (record { older = last; newer = 0 })) prev (lengthened_name xs name a) (xs ++ a ∷ []) (suc a)
put_by links a last xs prev name once none low chain empty y is inside there =
    let mid : List Link = slice_set links y (record { older = older_at links y; newer = suc a }) in
    let apart : (x : ℕ) → is_listed x xs ≡ true → x ≡ a → ⊥ = λ x here same. false≢true (sym none ∙ subst (λ z. is_listed z xs ≡ true) same here) in
    let low_mid : a < length mid = subst (λ n. a < n) (sym (same_length links y (record { older = older_at links y; newer = suc a }))) low in
    lengthened links a prev name xs last once none low chain (slice_set mid a (record { older = last; newer = 0 }))
    (same_length mid a (record { older = last; newer = 0 }) ∙ same_length links y (record { older = older_at links y; newer = suc a }))
    (older_same mid a (record { older = last; newer = 0 }) low_mid) (newer_same mid a (record { older = last; newer = 0 }) low_mid)
    (λ x here. (
      older_other mid a x (record { older = last; newer = 0 }) (apart x here) ∙ older_kept links y x (suc a) inside,
      (λ other. newer_other mid a x (record { older = last; newer = 0 }) (apart x here) ∙ newer_other links y x (record { older = older_at links y; newer = suc a }) (λ same. other (is ∙ ap suc (sym same)))),
      (λ at_x. newer_other mid a x (record { older = last; newer = 0 }) (apart x here)
          ∙ ap (newer_at mid) (same_pred x y (sym at_x ∙ is)) ∙ newer_same links y (record { older = older_at links y; newer = suc a }) inside),
    ))

pub chain_low : (links : List Link) (prev name : ℕ) (xs : List ℕ) (last y : ℕ) → IsChain links prev name xs last → is_listed y xs ≡ true → y < length links
chain_low links prev name [] last y chain there = absurd (false≢true there)
chain_low links prev name (x ∷ xs) last y chain there =
    elim (or_cases (y == x) (is_listed y xs) there) [
      | inl here ↦ subst (λ z. z < length links) (sym (eqb-true y x here)) chain.1
      | inr later ↦ chain_low links (suc x) (newer_at links x) xs last y chain.3 later
    ]

no_zero : (y : ℕ) → suc y ≡ 0 → ⊥
no_zero y same = omega arith

-- a line outside an order is put last in it: the chain from the first name has one line more
pub put_last_is : (links : List Link) (a name : ℕ) (xs : List ℕ) (last : ℕ) → IsOnce xs → is_listed a xs ≡ false → a < length links → IsChain links 0 name xs last
    → IsChain (put_last a last links) 0 (lengthened_name xs name a) (xs ++ a ∷ []) (suc a)
put_last_is links a name [] last once none low chain =
    subst (λ n. IsChain (put_last a n links) 0 (suc a) (a ∷ []) (suc a)) (sym chain.1)
    (refl, subst (λ n. a < n) (sym (same_length links a (record { older = 0; newer = 0 }))) low, older_same links a (record { older = 0; newer = 0 }) low, (newer_same links a (record { older = 0; newer = 0 }) low, refl))
put_last_is links a name (x ∷ xs) last once none low chain =
    let inside = last_in links 0 name x xs last chain in
    let below = chain_low links 0 name (x ∷ xs) last inside.0 chain inside.2 in
    let made = put_by links a last (x ∷ xs) 0 name once none low chain (λ zero_last. absurd (no_zero inside.0 (sym inside.1 ∙ zero_last))) inside.0 inside.1 below inside.2 in
    subst (λ n. IsChain (slice_set (with_newer n (suc a) links) a (record { older = last; newer = 0 })) 0 name (x ∷ xs ++ a ∷ []) (suc a)) (sym inside.1) made

-- ---- taken out

-- how the links change where a line is taken out: the line before it and the line after it get each other's name
pub record TakesOut (links later : List Link) (a : ℕ) : Type 0 where
  pub same : length later ≡ length links
  pub newer : (b : ℕ) → newer_at later b ≡ cond (suc b == older_at links a) (newer_at links a) (newer_at links b)
  pub older : (b : ℕ) → older_at later b ≡ cond (suc b == newer_at links a) (older_at links a) (older_at links b)

-- a chain whose links are the same stays
chain_same : (links later : List Link) (prev name : ℕ) (xs : List ℕ) (last : ℕ) → length later ≡ length links → ((z : ℕ) → is_listed z xs ≡ true → (newer_at later z ≡ newer_at links z) × (older_at later z ≡ older_at links z))
    → IsChain links prev name xs last → IsChain later prev name xs last
chain_same links later prev name [] last same each chain = chain
chain_same links later prev name (x ∷ xs) last same each chain =
    let here = each x (or_left _ _ (eq-eqb x x refl)) in (
      chain.0,
      subst (λ n. x < n) (sym same) chain.1,
      here.1 ∙ chain.2,
      subst (λ n. IsChain later (suc x) n xs last) (sym here.0) (chain_same links later (suc x) (newer_at links x) xs last same (λ z there. each z (or_right _ _ there)) chain.3),
    )

-- the newer name of a line of an order is 0 or that of a line after it
newer_in : (links : List Link) (prev name x : ℕ) (xs : List ℕ) (last : ℕ) → IsChain links prev name (x ∷ xs) last → (newer_at links x ≡ 0) × (xs ≡ []) ⊎ ((y : ℕ) × (newer_at links x ≡ suc y) × (is_listed y xs ≡ true))
newer_in links prev name x [] last chain = inl (chain.3.0, refl)
newer_in links prev name x (y ∷ xs) last chain = inr (y, chain.3.0, or_left _ _ (eq-eqb y y refl))

newer_later : (links : List Link) (prev name a : ℕ) (xs : List ℕ) (last w : ℕ) → IsChain links prev name xs last → is_listed a xs ≡ true → newer_at links a ≡ suc w → is_listed w xs ≡ true
newer_later links prev name a [] last w chain there is = absurd (false≢true there)
newer_later links prev name a (x ∷ xs) last w chain there is =
    elim (or_cases (a == x) (is_listed a xs) there) [
      | inl here ↦ (elim (newer_in links prev name x xs last chain) [
        | inl none ↦ absurd (no_zero w (sym is ∙ (ap (newer_at links) (eqb-true a x here) ∙ none.0)))
        | inr some ↦ or_right _ _ (subst (λ z. is_listed z xs ≡ true) (same_pred some.0 w (sym some.1 ∙ (ap (newer_at links) (sym (eqb-true a x here)) ∙ is))) some.2)
      ])
      | inr later ↦ or_right _ _ (newer_later links (suc x) (newer_at links x) a xs last w chain.3 later is)
    ]

-- the older name of a line of an order that isn't its first is that of a line before it
older_in : (links : List Link) (prev name y a : ℕ) (xs : List ℕ) (last : ℕ) → IsChain links prev name (y ∷ xs) last → is_listed a xs ≡ true → (w : ℕ) × (older_at links a ≡ suc w) × (is_listed w (y ∷ xs) ≡ true)
older_in links prev name y a [] last chain there = absurd (false≢true there)
older_in links prev name y a (z ∷ xs) last chain there =
    elim (or_cases (a == z) (is_listed a xs) there) [
      | inl here ↦ (y, ap (older_at links) (eqb-true a z here) ∙ chain.3.2, or_left _ _ (eq-eqb y y refl))
      | inr later ↦ (let found = older_in links (suc y) (newer_at links y) z a xs last chain.3 later in (found.0, found.1, or_right _ _ found.2))
    ]

-- without a line that isn't there
pub without_none : (a : ℕ) (xs : List ℕ) → is_listed a xs ≡ false → without_place a xs ≡ xs
without_none a [] none = refl
without_none a (x ∷ xs) none =
    let parts = or_parts (a == x) (is_listed a xs) none in
    ap (λ b. cond (not b) (x ∷ without_place a xs) (without_place a xs)) parts.0 ∙ ap (λ l. x ∷ l) (without_none a xs parts.1)

pub without_first : (a : ℕ) (xs : List ℕ) → is_listed a xs ≡ false → without_place a (a ∷ xs) ≡ xs
without_first a xs none = ap (λ b. cond (not b) (a ∷ without_place a xs) (without_place a xs)) (eq-eqb a a refl) ∙ without_none a xs none

pub without_other : (a x : ℕ) (xs : List ℕ) → (a == x) ≡ false → without_place a (x ∷ xs) ≡ x ∷ without_place a xs
without_other a x xs other = ap (λ b. cond (not b) (x ∷ without_place a xs) (without_place a xs)) other

unless_same : (m n k l : ℕ) → (m ≡ n → ⊥) → cond (m == n) k l ≡ l
unless_same m n k l other = cond-false (m == n) k l (ne_eqb m n other)

where_same : (m n k l : ℕ) → m ≡ n → cond (m == n) k l ≡ k
where_same m n k l same = cond-true (m == n) k l (eq-eqb m n same)

-- the lines after the one that is taken out
after_first : (links later : List Link) (a prev : ℕ) (ys : List ℕ) (last : ℕ) → TakesOut links later a → older_at links a ≡ prev → IsOnce (a ∷ ys) → ((z : ℕ) → is_listed z ys ≡ true → prev ≡ suc z → ⊥)
    → IsChain links (suc a) (newer_at links a) ys last → IsChain later prev (newer_at links a) ys (cond (last == suc a) (older_at links a) last)
after_first links later a prev [] last takes is once out chain = (chain.0, where_same last (suc a) (older_at links a) last chain.1 ∙ is)
after_first links later a prev (y ∷ zs) last takes is once out chain =
    let apart = not_first a y zs once.0 in
    let inside = last_in links (suc a) (newer_at links a) y zs last chain in
    let last_other : last ≡ suc a → ⊥ = λ same. false≢true (sym once.0 ∙ subst (λ x. is_listed x (y ∷ zs) ≡ true) (same_pred inside.0 a (sym inside.1 ∙ same)) inside.2) in
    let unchanged : (z : ℕ) → is_listed z (y ∷ zs) ≡ true → newer_at later z ≡ newer_at links z = λ z there. takes.newer z ∙ unless_same (suc z) (older_at links a) (newer_at links a) (newer_at links z) (λ same. out z there (sym is ∙ sym same)) in (
      chain.0,
      subst (λ n. y < n) (sym takes.same) chain.1,
      takes.older y ∙ where_same (suc y) (newer_at links a) (older_at links a) (older_at links y) (sym chain.0) ∙ is,
      subst (λ n. IsChain later (suc y) n zs (cond (last == suc a) (older_at links a) last)) (sym (unchanged y (or_left _ _ (eq-eqb y y refl))))
          (subst (λ n. IsChain later (suc y) (newer_at links y) zs n) (sym (unless_same last (suc a) (older_at links a) last last_other))
          (chain_same links later (suc y) (newer_at links y) zs last takes.same
          (λ z there. (
            unchanged z (or_right _ _ there),
            takes.older z ∙ unless_same (suc z) (newer_at links a) (older_at links a) (older_at links z)
                (λ same. false≢true (sym once.1.0 ∙ subst (λ x. is_listed x zs ≡ true) (same_pred z y (same ∙ chain.0)) there)),
          )) chain.3)),
    )

-- a line is taken out of an order
taken_here : (links later : List Link) (a prev name x : ℕ) (xs : List ℕ) (last : ℕ) → TakesOut links later a → IsOnce (x ∷ xs) → ((z : ℕ) → is_listed z (x ∷ xs) ≡ true → prev ≡ suc z → ⊥) → IsChain links prev name (x ∷ xs) last → a ≡ x
    → IsChain later prev (cond (name == suc a) (newer_at links a) name) (without_place a (x ∷ xs)) (cond (last == suc a) (older_at links a) last)
taken_here links later a prev name x xs last takes once out chain same =
    let none : is_listed a xs ≡ false = subst (λ z. is_listed z xs ≡ false) (sym same) once.0 in
    subst (λ n. IsChain later prev n (without_place a (x ∷ xs)) (cond (last == suc a) (older_at links a) last)) (sym (where_same name (suc a) (newer_at links a) name (chain.0 ∙ ap suc (sym same))))
    (subst (λ l. IsChain later prev (newer_at links a) l (cond (last == suc a) (older_at links a) last)) (sym (subst (λ z. without_place a (z ∷ xs) ≡ xs) same (without_first a xs none)))
    (after_first links later a prev xs last takes (ap (older_at links) same ∙ chain.2) (none, once.1) (λ z there. out z (or_right _ _ there))
    (subst (λ z. IsChain links (suc z) (newer_at links z) xs last) (sym same) chain.3)))

or_second : (p q : Bool) → p ≡ false → (p || q) ≡ true → q ≡ true
or_second true q none some = absurd (false≢true (sym none))
or_second false q none some = some

-- the name of the next line, by whether it is the one that is taken out
same_names : (links : List Link) (a x y : ℕ) (xs : List ℕ) (last : ℕ) → IsOnce (x ∷ y ∷ xs) → IsChain links (suc x) (newer_at links x) (y ∷ xs) last → is_listed a (y ∷ xs) ≡ true → (b : Bool) → (a == y) ≡ b
    → cond (suc x == older_at links a) (newer_at links a) (newer_at links x) ≡ cond (newer_at links x == suc a) (newer_at links a) (newer_at links x)
same_names links a x y xs last once chain there true is =
    let same = eqb-true a y is in
    where_same (suc x) (older_at links a) (newer_at links a) (newer_at links x) (sym (ap (older_at links) same ∙ chain.2))
    ∙ sym (where_same (newer_at links x) (suc a) (newer_at links a) (newer_at links x) (chain.0 ∙ ap suc (sym same)))
same_names links a x y xs last once chain there false is =
    let found = older_in links (suc x) (newer_at links x) y a xs last chain (or_second (a == y) (is_listed a xs) is there) in
    unless_same (suc x) (older_at links a) (newer_at links a) (newer_at links x)
    (λ same. false≢true (sym once.0 ∙ subst (λ z. is_listed z (y ∷ xs) ≡ true) (sym (same_pred x found.0 (same ∙ found.1))) found.2))
    ∙ sym (unless_same (newer_at links x) (suc a) (newer_at links a) (newer_at links x) (λ same. eqb-false a y is (same_pred a y (sym same ∙ chain.0))))

-- where the line stands later: the first line stays
taken_later : (links later : List Link) (a prev name x y : ℕ) (xs : List ℕ) (last : ℕ) → TakesOut links later a → IsOnce (x ∷ y ∷ xs) → ((z : ℕ) → is_listed z (x ∷ y ∷ xs) ≡ true → prev ≡ suc z → ⊥) → IsChain links prev name (x ∷ y ∷ xs) last → (a == x) ≡ false → is_listed a (y ∷ xs) ≡ true
    → IsChain later (suc x) (cond (newer_at links x == suc a) (newer_at links a) (newer_at links x)) (without_place a (y ∷ xs)) (cond (last == suc a) (older_at links a) last)
    → IsChain later prev (cond (name == suc a) (newer_at links a) name) (without_place a (x ∷ y ∷ xs)) (cond (last == suc a) (older_at links a) last)
taken_later links later a prev name x y xs last takes once out chain other there rest =
    let apart : a ≡ x → ⊥ = eqb-false a x other in
    let not_newer : suc x ≡ newer_at links a → ⊥ = λ same. false≢true (sym once.0 ∙ newer_later links (suc x) (newer_at links x) a (y ∷ xs) last x chain.3 there (sym same)) in
    subst (λ n. IsChain later prev n (without_place a (x ∷ y ∷ xs)) (cond (last == suc a) (older_at links a) last))
    (sym (unless_same name (suc a) (newer_at links a) name (λ same. apart (sym (same_pred x a (sym chain.0 ∙ same))))))
    (subst (λ l. IsChain later prev name l (cond (last == suc a) (older_at links a) last)) (sym (without_other a x (y ∷ xs) other)) (
      chain.0,
      subst (λ n. x < n) (sym takes.same) chain.1,
      takes.older x ∙ unless_same (suc x) (newer_at links a) (older_at links a) (older_at links x) not_newer ∙ chain.2,
      subst (λ n. IsChain later (suc x) n (without_place a (y ∷ xs)) (cond (last == suc a) (older_at links a) last))
          (sym (takes.newer x ∙ same_names links a x y xs last once chain.3 there (a == y) refl)) rest,
    ))

pick : (links later : List Link) (a prev name x : ℕ) (xs : List ℕ) (last : ℕ) → TakesOut links later a → IsOnce (x ∷ xs) → ((z : ℕ) → is_listed z (x ∷ xs) ≡ true → prev ≡ suc z → ⊥) → is_listed a (x ∷ xs) ≡ true → IsChain links prev name (x ∷ xs) last
    → (is_listed a xs ≡ true → IsChain later (suc x) (cond (newer_at links x == suc a) (newer_at links a) (newer_at links x)) (without_place a xs) (cond (last == suc a) (older_at links a) last))
    → (b : Bool) → (a == x) ≡ b → IsChain later prev (cond (name == suc a) (newer_at links a) name) (without_place a (x ∷ xs)) (cond (last == suc a) (older_at links a) last)
pick links later a prev name x xs last takes once out there chain rest true is = taken_here links later a prev name x xs last takes once out chain (eqb-true a x is)
pick links later a prev name x [] last takes once out there chain rest false is = absurd (false≢true (or_second (a == x) false is there))
pick links later a prev name x (y ∷ xs) last takes once out there chain rest false is =
    let inside = or_second (a == x) (is_listed a (y ∷ xs)) is there in
    taken_later links later a prev name x y xs last takes once out chain is inside (rest inside)

-- a line is taken out of an order
pub taken_is : (links later : List Link) (a prev name : ℕ) (xs : List ℕ) (last : ℕ) → TakesOut links later a → IsOnce xs → ((z : ℕ) → is_listed z xs ≡ true → prev ≡ suc z → ⊥) → is_listed a xs ≡ true → IsChain links prev name xs last
    → IsChain later prev (cond (name == suc a) (newer_at links a) name) (without_place a xs) (cond (last == suc a) (older_at links a) last)
taken_is links later a prev name [] last takes once out there chain = absurd (false≢true there)
taken_is links later a prev name (x ∷ xs) last takes once out there chain =
    pick links later a prev name x xs last takes once out there chain
    (λ inside. taken_is links later a (suc x) (newer_at links x) xs last takes once.1 (λ z zs same. false≢true (sym once.0 ∙ subst (λ w. is_listed w xs ≡ true) (sym (same_pred x z same)) zs)) inside chain.3)
    (a == x) refl

-- ---- the table without a line

newer_by : (links : List Link) (n k b : ℕ) → n < length links → (c : Bool) → (b == n) ≡ c → newer_at (slice_set links n (record { older = k; newer = newer_at links n })) b ≡ newer_at links b
newer_by links n k b low true is = let same = eqb-true b n is in ap (newer_at (slice_set links n (record { older = k; newer = newer_at links n }))) same ∙ newer_same links n (record { older = k; newer = newer_at links n }) low ∙ ap (newer_at links) (sym same)
newer_by links n k b low false is = newer_other links n b (record { older = k; newer = newer_at links n }) (eqb-false b n is)

-- an older name that is set leaves the newer ones
newer_past : (links : List Link) (name k b : ℕ) → ((w : ℕ) → name ≡ suc w → w < length links) → newer_at (with_older name k links) b ≡ newer_at links b
newer_past links zero k b low = refl
newer_past links (suc n) k b low = newer_by links n k b (low n refl) (b == n) refl

older_past : (links : List Link) (name k b : ℕ) → ((w : ℕ) → name ≡ suc w → w < length links) → older_at (with_newer name k links) b ≡ older_at links b
older_past links zero k b low = refl
older_past links (suc n) k b low = older_kept links n b k (low n refl)

set_newer_by : (links : List Link) (n k b : ℕ) → n < length links → (c : Bool) → (suc b == suc n) ≡ c → newer_at (slice_set links n (record { older = older_at links n; newer = k })) b ≡ cond c k (newer_at links b)
set_newer_by links n k b low true is =
    let same = same_pred b n (eqb-true (suc b) (suc n) is) in ap (newer_at (slice_set links n (record { older = older_at links n; newer = k }))) same ∙ newer_same links n (record { older = older_at links n; newer = k }) low
set_newer_by links n k b low false is = newer_other links n b (record { older = older_at links n; newer = k }) (λ same. eqb-false (suc b) (suc n) is (ap suc same))

newer_set : (links : List Link) (name k b : ℕ) → ((w : ℕ) → name ≡ suc w → w < length links) → newer_at (with_newer name k links) b ≡ cond (suc b == name) k (newer_at links b)
newer_set links zero k b low = sym (unless_same (suc b) 0 k (newer_at links b) (λ same. no_zero b same))
newer_set links (suc n) k b low = set_newer_by links n k b (low n refl) (suc b == suc n) refl

set_older_by : (links : List Link) (n k b : ℕ) → n < length links → (c : Bool) → (suc b == suc n) ≡ c → older_at (slice_set links n (record { older = k; newer = newer_at links n })) b ≡ cond c k (older_at links b)
set_older_by links n k b low true is =
    let same = same_pred b n (eqb-true (suc b) (suc n) is) in ap (older_at (slice_set links n (record { older = k; newer = newer_at links n }))) same ∙ older_same links n (record { older = k; newer = newer_at links n }) low
set_older_by links n k b low false is = older_other links n b (record { older = k; newer = newer_at links n }) (λ same. eqb-false (suc b) (suc n) is (ap suc same))

older_set : (links : List Link) (name k b : ℕ) → ((w : ℕ) → name ≡ suc w → w < length links) → older_at (with_older name k links) b ≡ cond (suc b == name) k (older_at links b)
older_set links zero k b low = sym (unless_same (suc b) 0 k (older_at links b) (λ same. no_zero b same))
older_set links (suc n) k b low = set_older_by links n k b (low n refl) (suc b == suc n) refl

pub newer_length : (links : List Link) (name k : ℕ) → length (with_newer name k links) ≡ length links
newer_length links zero k = refl
newer_length links (suc n) k = same_length links n (record { older = older_at links n; newer = k })

pub older_length : (links : List Link) (name k : ℕ) → length (with_older name k links) ≡ length links
older_length links zero k = refl
older_length links (suc n) k = same_length links n (record { older = k; newer = newer_at links n })

-- two writes take a line out
pub taken_out_is : (links : List Link) (a : ℕ) → ((w : ℕ) → older_at links a ≡ suc w → w < length links) → ((w : ℕ) → newer_at links a ≡ suc w → w < length links) → TakesOut links (taken_out a links) a
taken_out_is links a before after =
    let mid : List Link = with_newer (older_at links a) (newer_at links a) links in
    let low : (w : ℕ) → newer_at links a ≡ suc w → w < length mid = λ w is. subst (λ n. w < n) (sym (newer_length links (older_at links a) (newer_at links a))) (after w is) in
    record {
      same = older_length mid (newer_at links a) (older_at links a) ∙ newer_length links (older_at links a) (newer_at links a);
      newer = λ b. newer_past mid (newer_at links a) (older_at links a) b low ∙ newer_set links (older_at links a) (newer_at links a) b before;
      older = λ b. older_set mid (newer_at links a) (older_at links a) b low ∙ ap (cond (suc b == newer_at links a) (older_at links a)) (older_past links (older_at links a) (newer_at links a) b before);
    }
