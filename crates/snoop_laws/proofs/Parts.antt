-- Lists that are part of the lines of a block: some of its lines, each once, in their order.
use Rattle.std.proofs.Common.{◌≡◌, ℕ, suc, ◌+◌, ◌≤◌, Bool, true, false, List, [], ◌∷◌, cond, filter, length, refl, sym, ◌∙◌, ap, subst, arith, inl, inr}
use Rattle.std.specs.Prelude.{not, ◌&&◌, ◌==◌}
use Rattle.std.proofs.lemmas.Bool.{eq-eqb, false≢true}
use Rattle.std.proofs.lemmas.Bool.Decides.{nat_tests}
use Rattle.cxl_message.specs.declared.opcodes.Span.{Span}
use Rattle.cxl_message.specs.Lists.{without}
use Rattle.cxl_message.specs.Spans.{covers, lines_of}
use Rattle.snoop_laws.proofs.Counts.{Among, among_counts, count-cons, times, times-lines}

-- a list is part of another: a test keeps its elements
pub record Part (xs ys : List ℕ) : Type 0 where
  pub keep : ℕ → Bool
  pub same : xs ≡ filter keep ys

all_kept : (ys : List ℕ) → ys ≡ filter (λ y. true) ys
all_kept [] = refl
all_kept (y ∷ ys) = ap {B = List ℕ} (λ zs. y ∷ zs) (all_kept ys)

pub whole : (ys : List ℕ) → Part ys ys
whole ys = record { keep = λ y. true; same = all_kept ys }

both_by : (p q : Bool) (y : ℕ) (zs : List ℕ) (f : ℕ → Bool) → f y ≡ q → filter f (cond p (y ∷ zs) zs) ≡ cond (p && q) (y ∷ filter f zs) (filter f zs)
both_by true q y zs f is = ap (λ b. cond b (y ∷ filter f zs) (filter f zs)) is
both_by false q y zs f is = refl

both_kept : (p q : ℕ → Bool) (ys : List ℕ) → filter q (filter p ys) ≡ filter (λ y. p y && q y) ys
both_kept p q [] = refl
both_kept p q (y ∷ ys) =
    both_by (p y) (q y) y (filter p ys) q refl ∙ ap (λ zs. cond (p y && q y) (y ∷ zs) zs) (both_kept p q ys)

-- without one number it is part still
pub part_without : (b : ℕ) (xs ys : List ℕ) → Part xs ys → Part (without b xs) ys
part_without b xs ys part =
    record { keep = λ y. part.keep y && not (b == y); same = ap (without b) part.same ∙ both_kept part.keep (λ y. not (b == y)) ys }

-- ---- how often a number is in a part

times_by : (a y : ℕ) (keep kept : Bool) (n : ℕ) (zs : List ℕ) → (a ≡ y → keep ≡ kept) → times a zs ≡ cond kept n 0 → times a (cond keep (y ∷ zs) zs) ≡ cond kept (cond (a == y) 1 0 + n) 0
times_by a y true true n zs same later = count-cons (λ z. a == z) y zs ∙ ap (λ k. cond (a == y) 1 0 + k) later
times_by a y true false n zs same later = count-cons (λ z. a == z) y zs ∙ ap (λ k. cond (a == y) 1 0 + k) later ∙ other (a == y) (λ is. same (is_same is))
  where
    is_same : (a == y) ≡ true → a ≡ y
    is_same h = grind (arith, nat_tests)

    other : (b : Bool) → (b ≡ true → true ≡ false) → cond b 1 0 + 0 ≡ 0
    other true h = absurd (false≢true (sym (h refl)))
    other false h = refl
times_by a y false true n zs same later = later ∙ other (a == y) (λ is. same (is_same is))
  where
    is_same : (a == y) ≡ true → a ≡ y
    is_same h = grind (arith, nat_tests)

    other : (b : Bool) → (b ≡ true → false ≡ true) → n ≡ cond b 1 0 + n
    other true h = absurd (false≢true (h refl))
    other false h = omega arith
times_by a y false false n zs same later = later

pub times-filter : (a : ℕ) (keep : ℕ → Bool) (ys : List ℕ) → times a (filter keep ys) ≡ cond (keep a) (times a ys) 0
times-filter a keep [] = none (keep a)
  where
    none : (b : Bool) → times a [] ≡ cond b (times a []) 0
    none true = refl
    none false = refl
times-filter a keep (y ∷ ys) =
    times_by a y (keep y) (keep a) (times a ys) (filter keep ys) (λ same. ap keep (sym same)) (times-filter a keep ys)
    ∙ ap (λ n. cond (keep a) n 0) (sym (count-cons (λ z. a == z) y ys))

fewer : (b : Bool) (n : ℕ) → cond b n 0 ≤ n
fewer true n = omega arith
fewer false n = omega arith

pub part_times : (a : ℕ) (xs ys : List ℕ) → Part xs ys → times a xs ≤ times a ys
part_times a xs ys part = let is = ap (times a) part.same ∙ times-filter a part.keep ys in let few = fewer (part.keep a) (times a ys) in omega arith

one_at_most : (b : Bool) → cond b 1 0 ≤ 1
one_at_most true = omega arith
one_at_most false = omega arith

-- each line of a block is in a part once at most
pub part_once : (a first : ℕ) (span : Span) (xs : List ℕ) → Part xs (lines_of first span) → times a xs ≤ 1
part_once a first span xs part =
    let few = part_times a xs (lines_of first span) part in let lines = times-lines first a span in let one = one_at_most (covers first span a) in omega arith

covered_by : (b : Bool) → 1 ≤ cond b 1 0 → b ≡ true
covered_by true h = refl
covered_by false h = absurd (omega arith)

-- the block covers each line of a part
pub part_covered : (a first : ℕ) (span : Span) (xs : List ℕ) → Part xs (lines_of first span) → 1 ≤ times a xs → covers first span a ≡ true
part_covered a first span xs part some =
    let few = part_times a xs (lines_of first span) part in let lines = times-lines first a span in covered_by (covers first span a) (omega arith)

-- ---- a part that is whole

kept_true : (b : Bool) (n : ℕ) → 1 ≤ cond b n 0 → b ≡ true
kept_true true n h = refl
kept_true false n h = absurd (omega arith)

all_pass : (keep : ℕ → Bool) (ys : List ℕ) → ((y : ℕ) → Among y ys → keep y ≡ true) → filter keep ys ≡ ys
all_pass keep [] each = refl
all_pass keep (y ∷ ys) each =
    ap (λ b. cond b (y ∷ filter keep ys) (filter keep ys)) (each y (inl refl)) ∙ ap {B = List ℕ} (λ zs. y ∷ zs) (all_pass keep ys (λ z there. each z (inr there)))

-- a part that has each element is the whole list
pub part_full : (xs ys : List ℕ) → Part xs ys → ((a : ℕ) → 1 ≤ times a ys → 1 ≤ times a xs) → xs ≡ ys
part_full xs ys part each =
    part.same ∙ all_pass part.keep ys (λ a there. kept_true (part.keep a) (times a ys)
    (subst (λ n. 1 ≤ n) (ap (times a) part.same ∙ times-filter a part.keep ys) (each a (among_counts (λ y. a == y) a ys (eq-eqb a a refl) there))))

shorter : (keep : ℕ → Bool) (ys : List ℕ) → length (filter keep ys) ≤ length ys
shorter keep [] = omega arith
shorter keep (y ∷ ys) = by (keep y) (filter keep ys) (shorter keep ys)
  where
    by : (b : Bool) (zs : List ℕ) → length zs ≤ length ys → length (cond b (y ∷ zs) zs) ≤ suc (length ys)
    by true zs h = omega arith
    by false zs h = omega arith

long_is_whole : (keep : ℕ → Bool) (ys : List ℕ) → length (filter keep ys) ≡ length ys → filter keep ys ≡ ys
long_is_whole keep [] h = refl
long_is_whole keep (y ∷ ys) h = by (keep y) (filter keep ys) (shorter keep ys) h (long_is_whole keep ys)
  where
    by : (b : Bool) (zs : List ℕ) → length zs ≤ length ys → length (cond b (y ∷ zs) zs) ≡ suc (length ys) → (length zs ≡ length ys → zs ≡ ys) → cond b (y ∷ zs) zs ≡ y ∷ ys
    by true zs few h rest = ap {B = List ℕ} (λ ws. y ∷ ws) (rest (omega arith))
    by false zs few h rest = absurd (omega arith)

-- so is one that is as long
pub part_long : (xs ys : List ℕ) → Part xs ys → length xs ≡ length ys → xs ≡ ys
part_long xs ys part long = part.same ∙ long_is_whole part.keep ys (ap length (sym part.same) ∙ long)
