-- Counts over lists: of joined lists, of filtered ones, and of the lines of a block.
use Rattle.std.proofs.Common.{◌≡◌, ℕ, suc, ◌+◌, ◌≤◌, Bool, true, false, List, [], ◌∷◌, ◌++◌, cond, count_by, length, refl, sym, ◌∙◌, ap, subst, arith}
use Rattle.std.specs.Prelude.{nat_le, not, ◌==◌, ◌||◌}
use Rattle.std.specs.List.{list_all, list_any}
use Rattle.std.proofs.lemmas.Bool.{and_parts, eqb-true, leb-true}
use Rattle.std.proofs.lemmas.Bool.Decides.{nat_tests}
use Rattle.std.proofs.lemmas.List.Sums.{sum_by-append, sum_by-cons}
use Rattle.cxl_message.specs.declared.opcodes.Span.{Span}
use Rattle.cxl_message.specs.Lists.{without}
use Rattle.cxl_message.specs.Spans.{covers, lines_of}

pub count_by-cons : {X : Type 0} (p : X → Bool) (x : X) (xs : List X) → count_by p (x ∷ xs) ≡ cond (p x) 1 0 + count_by p xs
count_by-cons p x xs = sum_by-cons (λ y. cond (p y) 1 0) x xs

pub count_by-append : {X : Type 0} (p : X → Bool) (xs ys : List X) → count_by p (xs ++ ys) ≡ count_by p xs + count_by p ys
count_by-append p xs ys = sum_by-append (λ y. cond (p y) 1 0) xs ys

pub count_by-one : {X : Type 0} (p : X → Bool) (x : X) → count_by p (x ∷ []) ≡ cond (p x) 1 0
count_by-one p x = rw count_by-cons (omega arith)

-- a test that some element passes, by how many do
any-step : (b c : Bool) (n : ℕ) → c ≡ nat_le 1 n → (b || c) ≡ nat_le 1 (cond b 1 0 + n)
any-step true c n h = grind (arith, nat_tests)
any-step false c n h = rw h (grind (arith, nat_tests))

pub list_any-count : {X : Type 0} (p : X → Bool) (xs : List X) → list_any p xs ≡ nat_le 1 (count_by p xs)
list_any-count p [] = refl
list_any-count p (x ∷ xs) = any-step (p x) (list_any p xs) (count_by p xs) (list_any-count p xs) ∙ ap (nat_le 1) (sym (count_by-cons p x xs))

pub any_counts : {X : Type 0} (p : X → Bool) (xs : List X) → list_any p xs ≡ true → 1 ≤ count_by p xs
any_counts p xs h = leb-true 1 (count_by p xs) (sym (list_any-count p xs) ∙ h)

-- how often a number is in a list
abbrev pub times : ℕ → List ℕ → ℕ
times a ys = count_by (λ y. a == y) ys

kept-cons : (k : Bool) (a y : ℕ) (ys : List ℕ) → times a (cond k (y ∷ ys) ys) ≡ cond k (cond (a == y) 1 0) 0 + times a ys
kept-cons true a y ys = count_by-cons (λ z. a == z) y ys
kept-cons false a y ys = omega arith

without-sum : (a b y n : ℕ) → cond (not (b == y)) (cond (a == y) 1 0) 0 + cond (a == b) 0 n ≡ cond (a == b) 0 (cond (a == y) 1 0 + n)
without-sum a b y n = grind (arith, nat_tests)

pub times-without : (a b : ℕ) (ys : List ℕ) → times a (without b ys) ≡ cond (a == b) 0 (times a ys)
times-without a b [] = grind (arith, nat_tests)
times-without a b (y ∷ ys) =
    kept-cons (not (b == y)) a y (without b ys) ∙ ap (λ n. cond (not (b == y)) (cond (a == y) 1 0) 0 + n) (times-without a b ys)
    ∙ without-sum a b y (times a ys) ∙ ap (λ n. cond (a == b) 0 n) (sym (count_by-cons (λ z. a == z) y ys))

-- a block has each line once
pub times-lines : (first a : ℕ) (span : Span) → times a (lines_of first span) ≤ 1
times-lines first a Span.One = grind (arith, nat_tests)
times-lines first a Span.Two = grind (arith, nat_tests)
times-lines first a Span.Four = grind (arith, nat_tests)

-- it has those that it covers
pub covers-lines : (first a : ℕ) (span : Span) → covers first span a ≡ nat_le 1 (times a (lines_of first span))
covers-lines first a Span.One = grind (arith, nat_tests)
covers-lines first a Span.Two = grind (arith, nat_tests)
covers-lines first a Span.Four = grind (arith, nat_tests)

-- what holds of all numbers of a list holds of one that is in it
all_at : (p : ℕ → Bool) (a y : ℕ) (here : Bool) → (a == y) ≡ here → (n : ℕ) → 1 ≤ cond here 1 0 + n → p y ≡ true → (1 ≤ n → p a ≡ true) → p a ≡ true
all_at p a y true is n h head tail = subst (λ x. p x ≡ true) (sym (eqb-true a y is)) head
all_at p a y false is n h head tail = tail (omega arith)

pub all_holds : (p : ℕ → Bool) (a : ℕ) (ys : List ℕ) → list_all p ys ≡ true → 1 ≤ times a ys → p a ≡ true
all_holds p a [] h n = absurd (omega arith)
all_holds p a (y ∷ ys) h n =
    let parts = and_parts (p y) (list_all p ys) h in
    all_at p a y (a == y) refl (times a ys) (subst (λ m. 1 ≤ m) (count_by-cons (λ z. a == z) y ys) n) parts.0 (all_holds p a ys parts.1)

-- without one number, as many fewer are left as there were of it
pub length-without : (b : ℕ) (ys : List ℕ) → length (without b ys) + times b ys ≡ length ys
length-without b [] = refl
length-without b (y ∷ ys) = rw (count_by-cons (λ z. b == z) y ys) (length-step (b == y) y (without b ys) ys (times b ys) (length-without b ys))
  where
    length-step : (k : Bool) (y : ℕ) (ws ys : List ℕ) (n : ℕ) → length ws + n ≡ length ys → length (cond (not k) (y ∷ ws) ws) + (cond k 1 0 + n) ≡ suc (length ys)
    length-step true y ws ys n h = omega arith
    length-step false y ws ys n h = omega arith
