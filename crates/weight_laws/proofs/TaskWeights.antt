-- What a task weighs: no more where no more hosts are to be asked by it.
use Rattle.std.proofs.Common.{◌≡◌, ℕ, zero, suc, ◌+◌, ◌*◌, ◌≤◌, ◌<◌, Bool, true, false, List, [], ◌∷◌, Option, Some, None, cond, count_by, refl, ap, arith, inl, inr, mul-le-mul_left}
use Rattle.std.specs.Prelude.{not, ◌&&◌, ◌==◌}
use Rattle.std.specs.List.{list_any, range_with_len}
use Rattle.std.specs.Option.{option_map_or}
use Rattle.std.proofs.lemmas.Bool.{and_from, and_parts, eq-eqb, or_cases, or_left, or_right}
use Rattle.std.proofs.lemmas.List.Sums.{sum_by-cons}
use Rattle.cxl_message.specs.Codes.{span_len}
use Rattle.cxl_message.specs.Lists.{below, is_in}
use Rattle.cxl_message.specs.Setup.{Configuration}
use Rattle.cxl_message.specs.Spans.{covers, lines_of}
use Rattle.coherence_model.specs.Directory.{Directory, is_listed, is_listed_any, is_to_ask}
use Rattle.coherence_model.specs.Tasks.{Purpose, Task}
use Rattle.coherence_model.specs.Weight.{purpose_weight}
use Rattle.entry_laws.proofs.Blocks.{covers_first, covers_listed}
use Rattle.weight_laws.proofs.Sums.{below_le, below_one}

-- how many hosts a task is to ask, and what the task at a line weighs, by any directory and any hosts that are Asked
abbrev pub to_ask_count : Configuration → Directory → (ℕ → ℕ → Bool) → ℕ → Task → ℕ
to_ask_count setup D asked a t = count_by (λ g. is_to_ask t.purpose D a t g && not (asked g a)) (below setup.hosts)

abbrev pub weight_of : Configuration → Directory → (ℕ → ℕ → Bool) → ℕ → Option Task → ℕ
weight_of setup D asked a found = option_map_or (λ (t : Task). purpose_weight t.purpose (span_len t.span) (to_ask_count setup D asked a t)) found 0

-- ---- counts of hosts

counted_less : (b c : Bool) → (b ≡ true → c ≡ true) → cond b 1 0 ≤ cond c 1 0
counted_less true c h = let one : ◌≡◌ {A = ℕ} (cond c 1 0) 1 = ap (λ x. cond x 1 0) (h refl) in omega arith
counted_less false c h = omega arith

pub count_less : (p q : ℕ → Bool) (n : ℕ) → ((g : ℕ) → g < n → p g ≡ true → q g ≡ true) → count_by p (below n) ≤ count_by q (below n)
count_less p q n h = below_le (λ g. cond (p g) 1 0) (λ g. cond (q g) 1 0) n (λ g less. counted_less (p g) (q g) (h g less))

-- one host less
pub count_one_less : (p q : ℕ → Bool) (n x : ℕ) → x < n → ((g : ℕ) → g < n → p g ≡ true → q g ≡ true) → p x ≡ false → q x ≡ true → count_by p (below n) + 1 ≤ count_by q (below n)
count_one_less p q n x less h out there =
    let none : ◌≡◌ {A = ℕ} (cond (p x) 1 0) 0 = ap (λ b. cond b 1 0) out in
    let one : ◌≡◌ {A = ℕ} (cond (q x) 1 0) 1 = ap (λ b. cond b 1 0) there in
    let sum = below_one (λ g. cond (p g) 1 0) (λ g. cond (q g) 1 0) n x 1 0 less (λ g below other. counted_less (p g) (q g) (h g below)) (omega arith) in
    omega arith

range_ones : (a n : ℕ) → count_by (λ g. true) (range_with_len a n) ≡ n
range_ones a zero = refl
range_ones a (suc n) = let step = sum_by-cons (λ (g : ℕ). cond true 1 0) a (range_with_len (a + 1) n) in let rest = range_ones (a + 1) n in omega arith

-- at most all hosts, and all but one where one doesn't count
pub count_at_most : (p : ℕ → Bool) (n : ℕ) → count_by p (below n) ≤ n
count_at_most p n = let ones = range_ones 0 n in let less = count_less p (λ g. true) n (λ g below is. refl) in omega arith

pub count_but_one : (p : ℕ → Bool) (n x : ℕ) → x < n → p x ≡ false → count_by p (below n) + 1 ≤ n
count_but_one p n x less out = let ones = range_ones 0 n in let fewer = count_one_less p (λ g. true) n x less (λ g below is. refl) out refl in omega arith

-- ---- what a purpose weighs

pub purpose_less : (p : Purpose) (lines u v : ℕ) → u ≤ v → purpose_weight p lines u ≤ purpose_weight p lines v
purpose_less Purpose.SharedRead lines u v h = omega arith
purpose_less Purpose.OwningRead lines u v h = omega arith
purpose_less Purpose.Invalidation lines u v h = omega arith
purpose_less Purpose.Eviction lines u v h = omega (arith, mul-le-mul_left (4 + 20 * lines) h)

-- a task whose hosts to be asked were to be asked before
pub weight_less :
    (setup : Configuration) (D D' : Directory) (asked asked' : ℕ → ℕ → Bool) (a : ℕ) (found : Option Task) → D.task a ≡ found
    → ((t : Task) → D.task a ≡ Some t → (g : ℕ) → g < setup.hosts → (is_to_ask t.purpose D' a t g && not (asked' g a)) ≡ true → (is_to_ask t.purpose D a t g && not (asked g a)) ≡ true)
    → weight_of setup D' asked' a found ≤ weight_of setup D asked a found
weight_less setup D D' asked asked' a None is h = omega arith
weight_less setup D D' asked asked' a (Some t) is h =
    purpose_less t.purpose (span_len t.span) (to_ask_count setup D' asked' a t) (to_ask_count setup D asked a t)
    (count_less (λ g. is_to_ask t.purpose D' a t g && not (asked' g a)) (λ g. is_to_ask t.purpose D a t g && not (asked g a)) setup.hosts (h t is))

-- ---- who is to be asked

any_less : (p q : ℕ → Bool) (xs : List ℕ) → ((x : ℕ) → is_in x xs ≡ true → p x ≡ true → q x ≡ true) → list_any p xs ≡ true → list_any q xs ≡ true
any_less p q [] h some = some
any_less p q (x ∷ xs) h some =
    elim (or_cases (p x) (list_any p xs) some) [
      | inl first ↦ or_left (q x) (list_any q xs) (h x (or_left (x == x) (is_in x xs) (eq-eqb x x refl)) first)
      | inr later ↦ or_right (q x) (list_any q xs) (any_less p q xs (λ y there. h y (or_right (y == x) (is_in y xs) there)) later)
    ]

-- what is to be asked by the new listings was to be asked by the old ones
pub to_ask_less :
    (p : Purpose) (D D' : Directory) (a : ℕ) (t : Task) (g : ℕ) → (is_listed_any D' a g ≡ true → is_listed_any D a g ≡ true)
    → ((p ≡ Purpose.SharedRead → ⊥) → (b : ℕ) → covers a t.span b ≡ true → is_listed D' b g ≡ true → is_listed D b g ≡ true)
    → is_to_ask p D' a t g ≡ true → is_to_ask p D a t g ≡ true
to_ask_less Purpose.SharedRead D D' a t g any each ask = let parts = and_parts (not (t.host == g)) (is_listed_any D' a g) ask in and_from (not (t.host == g)) (is_listed_any D a g) parts.0 (any parts.1)
to_ask_less Purpose.OwningRead D D' a t g any each ask =
    let parts = and_parts (not (t.host == g)) (is_listed D' a g) ask in and_from (not (t.host == g)) (is_listed D a g) parts.0 (each (λ e. cc) a (covers_first a t.span) parts.1)
to_ask_less Purpose.Invalidation D D' a t g any each ask =
    let parts = and_parts (not (t.host == g)) (is_listed D' a g) ask in and_from (not (t.host == g)) (is_listed D a g) parts.0 (each (λ e. cc) a (covers_first a t.span) parts.1)
to_ask_less Purpose.Eviction D D' a t g any each ask =
    any_less (λ b. is_listed D' b g) (λ b. is_listed D b g) (lines_of a t.span) (λ b there. each (λ e. cc) b (covers_listed a t.span b there)) ask
