-- Counts over lists, and what it says that something is among the elements of a list.
use Rattle.std.proofs.Common.{◌≡◌, ℕ, ◌+◌, ◌≤◌, Bool, true, false, List, [], ◌∷◌, ◌++◌, Some, cond, count_by, filter, sum_by, refl, sym, ◌∙◌, ap, subst, arith, ◌⊎◌, inl, inr}
use Rattle.std.specs.Prelude.{not, ◌==◌, ◌||◌}
use Rattle.std.specs.List.{list_any}
use Rattle.std.proofs.lemmas.Bool.{false≢true}
use Rattle.std.proofs.lemmas.Bool.Decides.{nat_tests}
use Rattle.std.proofs.lemmas.List.Sums.{sum_by-append, sum_by-cons}
use Rattle.std.proofs.lemmas.Option.{same_Some}
use Rattle.cxl_message.specs.declared.messages.Message.{Message}
use Rattle.cxl_message.specs.declared.opcodes.Span.{Span}
use Rattle.cxl_message.specs.Lists.{without}
use Rattle.cxl_message.specs.Messages.{message_eq}
use Rattle.cxl_message.specs.Spans.{covers, lines_of}
use Rattle.coherence_model.specs.Flight.{without_first}
use Rattle.cxl_message.proofs.SameMessages.{message_eq-same}
use Rattle.coherence_lemmas.proofs.Queues.{count-without_taken, counts}

pub count-cons : {X : Type 0} (p : X → Bool) (x : X) (xs : List X) → count_by p (x ∷ xs) ≡ cond (p x) 1 0 + count_by p xs
count-cons p x xs = sum_by-cons (λ y. cond (p y) 1 0) x xs

pub count-append : {X : Type 0} (p : X → Bool) (xs ys : List X) → count_by p (xs ++ ys) ≡ count_by p xs + count_by p ys
count-append p xs ys = sum_by-append (λ y. cond (p y) 1 0) xs ys

pub sum-one : {X : Type 0} (f : X → ℕ) (x : X) → sum_by f (x ∷ []) ≡ f x
sum-one f x = let cons = sum_by-cons f x [] in omega arith

-- ---- what is among the elements of a list

abbrev pub Among : {X : Type 0} → X → List X → Type 0
Among y [] = ⊥
Among y (x ∷ xs) = (y ≡ x) ⊎ Among y xs

pub among_either : {X : Type 0} (y : X) (xs ys : List X) → Among y (xs ++ ys) → Among y xs ⊎ Among y ys
among_either y [] ys h = inr h
among_either y (x ∷ xs) ys h = elim h [
  | inl here ↦ inl (inl here)
  | inr later ↦ (elim (among_either y xs ys later) [ inl left ↦ inl (inr left) | inr right ↦ inr right ])
]

among_kept : {X : Type 0} (y x : X) (xs kept : List X) (keep : Bool) → (Among y kept → Among y xs) → Among y (cond keep (x ∷ kept) kept) → Among y (x ∷ xs)
among_kept y x xs kept true later h = elim h [ inl here ↦ inl here | inr rest ↦ inr (later rest) ]
among_kept y x xs kept false later h = inr (later h)

pub among_filter : {X : Type 0} (p : X → Bool) (y : X) (xs : List X) → Among y (filter p xs) → Among y xs
among_filter p y [] h = h
among_filter p y (x ∷ xs) h = among_kept y x xs (filter p xs) (p x) (among_filter p y xs) h

among_left : (m n : Message) (ns left : List Message) (same : Bool) → (Among m left → Among m ns) → Among m (cond same ns (n ∷ left)) → Among m (n ∷ ns)
among_left m n ns left true later h = inr h
among_left m n ns left false later h = elim h [ inl here ↦ inl here | inr rest ↦ inr (later rest) ]

pub among_rest : (m k : Message) (ns : List Message) → Among m (without_first k ns) → Among m ns
among_rest m k [] h = h
among_rest m k (n ∷ ns) h = among_left m n ns (without_first k ns) (message_eq k n) (among_rest m k ns) h

any_among : (m n : Message) (ns : List Message) (same : Bool) → message_eq m n ≡ same → (same || list_any (message_eq m) ns) ≡ true → (list_any (message_eq m) ns ≡ true → Among m ns) → Among m (n ∷ ns)
any_among m n ns true is h later = inl (message_eq-same m n is)
any_among m n ns false is h later = inr (later h)

-- a message that is found by its equality is among the messages
pub found_among : (m : Message) (ns : List Message) → list_any (message_eq m) ns ≡ true → Among m ns
found_among m [] h = absurd (false≢true h)
found_among m (n ∷ ns) h = any_among m n ns (message_eq m n) refl h (found_among m ns)

-- an element adds what it counts
pub among_sums : {X : Type 0} (f : X → ℕ) (y : X) (xs : List X) → Among y xs → f y ≤ sum_by f xs
among_sums f y [] h = absurd h
among_sums f y (x ∷ xs) h =
    let cons = sum_by-cons f x xs in
    elim h [
      | inl here ↦ (let same : f y ≡ f x = ap f here in omega arith)
      | inr later ↦ (let more = among_sums f y xs later in omega arith)
    ]

one_counts : (b : Bool) → b ≡ true → 1 ≤ cond b 1 0
one_counts true h = omega arith
one_counts false h = absurd (false≢true h)

pub among_counts : {X : Type 0} (p : X → Bool) (y : X) (xs : List X) → p y ≡ true → Among y xs → 1 ≤ count_by p xs
among_counts p y xs passes h = let some = one_counts (p y) passes in let more = among_sums (λ x. cond (p x) 1 0) y xs h in omega arith

-- tests that agree on each element count the same
pub counts_alike : {X : Type 0} (p q : X → Bool) (xs : List X) → ((x : X) → Among x xs → p x ≡ q x) → count_by p xs ≡ count_by q xs
counts_alike p q [] same = refl
counts_alike p q (x ∷ xs) same =
    count-cons p x xs ∙ ap (λ b. cond b 1 0 + count_by p xs) (same x (inl refl))
    ∙ ap (λ n. cond (q x) 1 0 + n) (counts_alike p q xs (λ y there. same y (inr there))) ∙ sym (count-cons q x xs)

pub none_counted : {X : Type 0} (p : X → Bool) (xs : List X) → ((x : X) → Among x xs → p x ≡ false) → count_by p xs ≡ 0
none_counted p [] none = refl
none_counted p (x ∷ xs) none =
    let here = count-cons p x xs ∙ ap (λ b. cond b 1 0 + count_by p xs) (none x (inl refl)) in
    let rest = none_counted p xs (λ y there. none y (inr there)) in
    omega arith

-- what is left where a message was taken
pub count-rest : (p : Message → Bool) (m : Message) (ns : List Message) → list_any (message_eq m) ns ≡ true → count_by p ns ≡ counts p m + count_by p (without_first m ns)
count-rest p m ns there = count-without_taken p (Some m) ns (λ n is. subst (λ k. list_any (message_eq k) ns ≡ true) (same_Some m n is) there)

-- what is in flight where one more was sent
pub count-sent : (p : Message → Bool) (ms : List Message) (m : Message) → count_by p (ms ++ m ∷ []) ≡ count_by p ms + counts p m
count-sent p ms m = count-append p ms (m ∷ []) ∙ ap (λ n. count_by p ms + n) (sum-one (counts p) m)

-- ---- how often a number is in a list

abbrev pub times : ℕ → List ℕ → ℕ
times a ys = count_by (λ y. a == y) ys

any-count : (b c : Bool) (n : ℕ) → (c ≡ true → 1 ≤ n) → (b || c) ≡ true → 1 ≤ cond b 1 0 + n
any-count true c n later h = omega arith
any-count false c n later h = let more = later h in omega arith

pub any_counts : {X : Type 0} (p : X → Bool) (xs : List X) → list_any p xs ≡ true → 1 ≤ count_by p xs
any_counts p [] h = absurd (false≢true h)
any_counts p (x ∷ xs) h = subst (λ n. 1 ≤ n) (sym (count-cons p x xs)) (any-count (p x) (list_any p xs) (count_by p xs) (any_counts p xs) h)

count-any : (b c : Bool) (n : ℕ) → (1 ≤ n → c ≡ true) → 1 ≤ cond b 1 0 + n → (b || c) ≡ true
count-any true c n later h = refl
count-any false c n later h = later (omega arith)

pub counts_any : {X : Type 0} (p : X → Bool) (xs : List X) → 1 ≤ count_by p xs → list_any p xs ≡ true
counts_any p [] h = absurd (omega arith)
counts_any p (x ∷ xs) h = count-any (p x) (list_any p xs) (count_by p xs) (counts_any p xs) (subst (λ n. 1 ≤ n) (count-cons p x xs) h)

kept-cons : (k : Bool) (a y : ℕ) (ys : List ℕ) → times a (cond k (y ∷ ys) ys) ≡ cond k (cond (a == y) 1 0) 0 + times a ys
kept-cons true a y ys = count-cons (λ z. a == z) y ys
kept-cons false a y ys = omega arith

without-sum : (a b y n : ℕ) → cond (not (b == y)) (cond (a == y) 1 0) 0 + cond (a == b) 0 n ≡ cond (a == b) 0 (cond (a == y) 1 0 + n)
without-sum a b y n = grind (arith, nat_tests)

pub times-without : (a b : ℕ) (ys : List ℕ) → times a (without b ys) ≡ cond (a == b) 0 (times a ys)
times-without a b [] = grind (arith, nat_tests)
times-without a b (y ∷ ys) =
    kept-cons (not (b == y)) a y (without b ys) ∙ ap (λ n. cond (not (b == y)) (cond (a == y) 1 0) 0 + n) (times-without a b ys)
    ∙ without-sum a b y (times a ys) ∙ ap (λ n. cond (a == b) 0 n) (sym (count-cons (λ z. a == z) y ys))

-- a block has each line that it covers once
pub times-lines : (first a : ℕ) (span : Span) → times a (lines_of first span) ≡ cond (covers first span a) 1 0
times-lines first a Span.One = grind (arith, nat_tests)
times-lines first a Span.Two = grind (arith, nat_tests)
times-lines first a Span.Four = grind (arith, nat_tests)
