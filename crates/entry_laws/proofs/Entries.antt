-- The list of entries: it has no line twice, and exactly the lines with an entry.
use Rattle.std.proofs.Common.{◌≡◌, ℕ, ◌+◌, ◌-◌, ◌%◌, ◌<◌, ◌≤◌, Bool, true, false, List, [], ◌∷◌, Option, Some, None, cond, find, refl, sym, ◌∙◌, subst, arith, inl, inr}
use Rattle.std.specs.Prelude.{count_by, filter, nat_le, not, option_map, ◌&&◌, ◌==◌, ◌||◌, ◌⊎◌}
use Rattle.std.specs.List.{list_any}
use Rattle.std.proofs.lemmas.Bool.{and_from, and_parts, eq-eqb, false≢true, not-true, or_cases, or_left, or_right}
use Rattle.std.proofs.lemmas.Option.{none-some}
use Rattle.std.proofs.lemmas.List.Sums.{sum_by-cons}
use Rattle.cxl_message.specs.declared.opcodes.Span.{Span}
use Rattle.cxl_message.specs.declared.states.Listing.{Listing}
use Rattle.cxl_message.specs.Codes.{listing_code, span_len}
use Rattle.cxl_message.specs.Lists.{below, is_in}
use Rattle.cxl_message.specs.Setup.{Configuration}
use Rattle.cxl_message.specs.Spans.{aligned, covers}
use Rattle.coherence_model.specs.Directory.{Directory, block_around, has_entry, is_busy, is_listed, may_evict, may_evict_block, victim_block}
use Rattle.coherence_model.specs.DirectoryChanges.{with_entries_kept, with_listing}
use Rattle.entry_laws.proofs.Blocks.{aligned_four, aligned_one, aligned_two, all_lines, any_or, covers_from, covers_one, in_filter, some_lines}
use Rattle.entry_laws.proofs.Tasks.{IsFree, TasksKept, busy_from}

-- the entries have no line twice; each is a line that exists and has an entry; and each such line is among them
pub record EntriesKept (setup : Configuration) (D : Directory) : Type 0 where
  pub once : (a : ℕ) → count_by (λ b. a == b) D.entries ≤ 1
  pub there : (a : ℕ) → is_in a D.entries ≡ true → (a < setup.lines) × (has_entry setup D a ≡ true)
  pub all : (a : ℕ) → a < setup.lines → has_entry setup D a ≡ true → is_in a D.entries ≡ true

-- ---- counts

fewer_kept : (k c : Bool) (n m : ℕ) → n ≤ m → cond k (cond c 1 0 + n) n ≤ cond c 1 0 + m
fewer_kept true c n m h = omega arith
fewer_kept false true n m h = omega arith
fewer_kept false false n m h = omega arith

count_kept :
    {X : Type 0} (q : X → Bool) (k : Bool) (x : X) (xs : List X) → count_by q (cond k (x ∷ xs) xs) ≡ cond k (cond (q x) 1 0 + count_by q xs) (count_by q xs)
count_kept q true x xs = sum_by-cons (λ y. cond (q y) 1 0) x xs
count_kept q false x xs = refl

-- of what a filter keeps no more passes
pub count_filter : {X : Type 0} (q p : X → Bool) (xs : List X) → count_by q (filter p xs) ≤ count_by q xs
count_filter q p [] = omega arith
count_filter q p (x ∷ xs) =
    rw (count_kept q (p x) x (filter p xs), sum_by-cons (λ y. cond (q y) 1 0) x xs)
    (fewer_kept (p x) (q x) (count_by q (filter p xs)) (count_by q xs) (count_filter q p xs))

absent_step : (b : Bool) (n : ℕ) (c : Bool) → (b || c) ≡ false → (c ≡ false → n ≡ 0) → cond b 1 0 + n ≡ 0
absent_step true n c h later = absurd (false≢true (sym h))
absent_step false n c h later = let zero = later h in omega arith

-- where no element passes the count is zero
pub count_absent : {X : Type 0} (p : X → Bool) (xs : List X) → list_any p xs ≡ false → count_by p xs ≡ 0
count_absent p [] h = refl
count_absent p (x ∷ xs) h = sum_by-cons (λ y. cond (p y) 1 0) x xs ∙ absent_step (p x) (count_by p xs) (list_any p xs) h (count_absent p xs)

-- ---- a filter by what has an entry

-- a line with an entry after a change that sets or ends no task had one before, or was listed by the change
pub keep_entries :
    (setup : Configuration) (D E : Directory) → EntriesKept setup D → E.entries ≡ D.entries
    → ((a : ℕ) → a < setup.lines → has_entry setup E a ≡ true → has_entry setup D a ≡ true) → EntriesKept setup (with_entries_kept setup E)
keep_entries setup D E kept same fewer = record {
  once = λ a. (
      let less = count_filter (λ b. a == b) (has_entry setup E) E.entries in
      let few = subst (λ xs. count_by (λ b. a == b) xs ≤ 1) (sym same) (kept.once a) in
      omega arith
      );
  there = λ a is. (
      let parts = and_parts (is_in a E.entries) (has_entry setup E a) (sym (in_filter a (has_entry setup E) E.entries) ∙ is) in
      ((kept.there a (subst (λ xs. is_in a xs ≡ true) same parts.0)).0, parts.1)
      );
  all = λ a within has.
      in_filter a (has_entry setup E) E.entries
      ∙ and_from _ _ (subst (λ xs. is_in a xs ≡ true) (sym same) (kept.all a within (fewer a within has))) has;
}

-- ---- listings

listed_cases :
    (own : Bool) (l old : Listing) → nat_le 1 (listing_code (cond own l old)) ≡ true
    → (nat_le 1 (listing_code old) ≡ true) ⊎ ((own ≡ true) × (nat_le 1 (listing_code l) ≡ true))
listed_cases true l old h = inr (refl, h)
listed_cases false l old h = inl h

listed_before :
    (D E : Directory) (lines : List ℕ) (h : ℕ) (l : Listing) → E.listed ≡ with_listing lines h l D.listed
    → (a g : ℕ) → is_listed E a g ≡ true → (is_listed D a g ≡ true) ⊎ ((is_in a lines ≡ true) × (nat_le 1 (listing_code l) ≡ true))
listed_before D E lines h l same a g is =
    elim (listed_cases ((g == h) && is_in a lines) l (D.listed a g) (subst (λ (f : ℕ → ℕ → Listing). nat_le 1 (listing_code (f a g)) ≡ true) same is)) [
      | inl old ↦ inl old
      | inr new ↦ inr ((and_parts _ _ new.0).1, new.1)
    ]

-- a line with an entry after some lines were listed so had one before, or is one of these lines, which are listed
pub entry_before :
    (setup : Configuration) (D E : Directory) (lines : List ℕ) (h : ℕ) (l : Listing) → E.listed ≡ with_listing lines h l D.listed
    → (a : ℕ) → (is_busy E a ≡ true → is_busy D a ≡ true) → has_entry setup E a ≡ true
    → (has_entry setup D a ≡ true) ⊎ ((is_in a lines ≡ true) × (nat_le 1 (listing_code l) ≡ true))
entry_before setup D E lines h l same a busy has =
    elim (or_cases (list_any (is_listed E a) (below setup.hosts)) (is_busy E a) has) [
      | inl listed ↦ (elim (any_or ((is_in a lines ≡ true) × (nat_le 1 (listing_code l) ≡ true)) (is_listed E a) (is_listed D a)
          (listed_before D E lines h l same a) (below setup.hosts) listed) [
            | inl old ↦ inl (or_left _ _ old)
            | inr new ↦ inr new
          ])
      | inr is ↦ inl (or_right _ _ (busy is))
    ]

-- ---- the victim block

find_listed :
    (p : ℕ → Bool) (x a : ℕ) (xs : List ℕ) (b : Bool) → p x ≡ b → cond b (Some x) (find p xs) ≡ Some a
    → (find p xs ≡ Some a → (is_in a xs ≡ true) × (p a ≡ true)) → (is_in a (x ∷ xs) ≡ true) × (p a ≡ true)
find_listed p x a xs true is h later = let same : x ≡ a = cc in (or_left _ _ (eq-eqb a x (sym same)), subst (λ y. p y ≡ true) same is)
find_listed p x a xs false is h later = let parts = later h in (or_right _ _ parts.0, parts.1)

-- what is found is one of the list, and passes
pub found_in : (p : ℕ → Bool) (xs : List ℕ) (a : ℕ) → find p xs ≡ Some a → (is_in a xs ≡ true) × (p a ≡ true)
found_in p [] a h = absurd (none-some a h)
found_in p (x ∷ xs) a h = find_listed p x a xs (p x) refl h (found_in p xs a)

-- a block that may be evicted: it is aligned, and each of its lines may be evicted
pub record Evictable (D : Directory) (block : ℕ × Span) : Type 0 where
  pub start : block.0 % span_len block.1 ≡ 0
  pub lines : (a : ℕ) → covers block.0 block.1 a ≡ true → may_evict D a ≡ true

block_cases :
    (D : Directory) (a : ℕ) (four two : Bool) → may_evict_block D (aligned 4 a) Span.Four ≡ four → may_evict_block D (aligned 2 a) Span.Two ≡ two → may_evict D
    a ≡ true
    → Evictable D (cond four (aligned 4 a, Span.Four) (cond two (aligned 2 a, Span.Two) (a, Span.One)))
block_cases D a true two is_four is_two one = record { start = aligned_four a; lines = all_lines (may_evict D) (aligned 4 a) Span.Four is_four }
block_cases D a false true is_four is_two one = record { start = aligned_two a; lines = all_lines (may_evict D) (aligned 2 a) Span.Two is_two }
block_cases D a false false is_four is_two one =
    record { start = aligned_one a; lines = λ b covered. subst (λ x. may_evict D x ≡ true) (covers_one a b covered) one }

victim_of :
    (D : Directory) (found : Option ℕ) → find (λ a. not (is_busy D a)) D.entries ≡ found → (block : ℕ × Span) → option_map (block_around D) found ≡ Some block
    → Evictable D block
victim_of D None is block h = absurd (none-some block h)
victim_of D (Some a) is block h =
    let same : block_around D a ≡ block = cc in
    let parts = found_in (λ a. not (is_busy D a)) D.entries a is in
    subst (Evictable D) same
    (block_cases D a (may_evict_block D (aligned 4 a) Span.Four) (may_evict_block D (aligned 2 a) Span.Two) refl refl (and_from _ _ parts.0 parts.1))

-- the victim block may be evicted
pub victim_evictable : (D : Directory) (block : ℕ × Span) → victim_block D ≡ Some block → Evictable D block
victim_evictable D block h = victim_of D (find (λ a. not (is_busy D a)) D.entries) refl block h

last_line : (first n bound : ℕ) → 1 ≤ n → first + (n - 1) < bound → first + n ≤ bound
last_line first n bound some h = omega arith

-- its lines exist
pub victim_within :
    (setup : Configuration) (D : Directory) → EntriesKept setup D → (block : ℕ × Span) → Evictable D block → block.0 + span_len block.1 ≤ setup.lines
victim_within setup D kept block may =
    let some = some_lines block.1 in
    let last = covers_from block.0 block.1 (block.0 + (span_len block.1 - 1)) (omega arith) (omega arith) in
    let parts = and_parts _ _ (may.lines (block.0 + (span_len block.1 - 1)) last) in
    last_line block.0 (span_len block.1) setup.lines some (kept.there _ parts.0).0

-- no task covers any of them
pub victim_free : (lines : ℕ) (D : Directory) → TasksKept lines D.task → (block : ℕ × Span) → Evictable D block → IsFree D.task block.0 block.1
victim_free lines D kept block may a b s is covered inside =
    let parts = and_parts _ _ (may.lines a inside) in
    false≢true (sym (not-true _ parts.1) ∙ busy_from lines D kept a b s is covered)
