-- The table, the region and the order of a cache: what they show, and how they stay together.
use Rattle.std.proofs.Common.{◌+◌, ◌++◌, ◌<◌, ◌∙◌, ◌∷◌, ◌≡◌, ◌≤◌, ℕ, Bool, List, None, Option, Some, IsSome, [], ap, arith, cond, false, get_or, length, length-append, map, refl, subst, suc, sym, true, zero}
use Rattle.std.specs.Prelude.{count_by, nat_lt, find, if◌then◌else◌, is_some, not, option_map, replicate, slice_get, slice_set, ◌==◌, ◌||◌}
use Rattle.std.specs.Option.{option_map_or}
use Rattle.std.specs.List.{list_any}
use Rattle.std.proofs.lemmas.List.Sums.{count_by-le-length, sum_by-cons}
use Rattle.std.proofs.lemmas.Bool.{lt-ltb, eq-eqb, eqb-false, eqb-true, false≢true, ne_eqb, or_left, or_parts, or_right}
use Rattle.cxl_message.specs.declared.states.CopyState.{CopyState}
use Rattle.coherence_model.specs.Copies.{no_copy}
use Rattle.host_record.specs.Tables.{lookup, place_or}
use Rattle.host_record.specs.Ways.{Way, copy_in, drop_way, give_up, has_way, put_way}
use Rattle.line_pool.specs.Pools.{IsInUse, Pool, line_of}
use Rattle.linked_order.specs.Orders.{IsOnce, Order, is_listed, without_place}
use Rattle.host_cache.specs.declared.held.Held.{Held}
use Rattle.host_cache.specs.Caches.{Cache, IsKept, bytes_in, cache_of, copy_held, copy_with, first_idle, line_named, slot_at, way_of}

-- ---- tables by line

pub lookup_same : (table : List (Option Held)) (a : ℕ) (x : Option Held) → a < length table → lookup (slice_set table a x) a ≡ x
lookup_same [] a x low = absurd (omega arith)
lookup_same (y ∷ table) zero x low = refl
lookup_same (y ∷ table) (suc a) x low = lookup_same table a x (omega arith)

pub lookup_other : (table : List (Option Held)) (a b : ℕ) (x : Option Held) → (b ≡ a → ⊥) → lookup (slice_set table a x) b ≡ lookup table b
lookup_other [] a b x other = refl
lookup_other (y ∷ table) zero zero x other = absurd (other refl)
lookup_other (y ∷ table) zero (suc b) x other = refl
lookup_other (y ∷ table) (suc a) zero x other = refl
lookup_other (y ∷ table) (suc a) (suc b) x other = lookup_other table a b x (λ same. other (ap suc same))

pub lookup_within : (table : List (Option Held)) (a : ℕ) (held : Held) → lookup table a ≡ Some held → a < length table
lookup_within [] a held is = absurd (cc)
lookup_within (x ∷ table) zero held is = omega arith
lookup_within (x ∷ table) (suc a) held is = omega (arith, lookup_within table a held is)

pub length_set : (table : List (Option Held)) (a : ℕ) (x : Option Held) → length (slice_set table a x) ≡ length table
length_set [] a x = refl
length_set (y ∷ table) zero x = refl
length_set (y ∷ table) (suc a) x = ap suc (length_set table a x)

-- ---- what is seen

lines_of_ways : (f : ℕ → Way) → ((a : ℕ) → (f a).line ≡ a) → (xs : List ℕ) → map (λ w. w.line) (map f xs) ≡ xs
lines_of_ways f own [] = refl
lines_of_ways f own (x ∷ xs) = λ i. own x i ∷ lines_of_ways f own xs i

pub lines_shown : (table : List (Option Held)) (pool : Pool) (order : Order) → map (λ w. w.line) (cache_of table pool order).ways ≡ order.listed
lines_shown table pool order = lines_of_ways (way_of table pool) (λ a. refl) order.listed

pub length_shown : (f : ℕ → Way) (xs : List ℕ) → length (map f xs) ≡ length xs
length_shown f [] = refl
length_shown f (x ∷ xs) = ap suc (length_shown f xs)

ways_have : (f : ℕ → Way) → ((a : ℕ) → (f a).line ≡ a) → (a : ℕ) (xs : List ℕ) → has_way a (map f xs) ≡ is_listed a xs
ways_have f own a [] = refl
ways_have f own a (x ∷ xs) = λ i. (a == own x i) || ways_have f own a xs i

pub has_listed : (table : List (Option Held)) (pool : Pool) (order : Order) (a : ℕ) → has_way a (cache_of table pool order).ways ≡ is_listed a order.listed
has_listed table pool order a = ways_have (way_of table pool) (λ b. refl) a order.listed

pub has_shown : (table : List (Option Held)) (pool : Pool) (order : Order) (a : ℕ) → IsKept table pool order → has_way a (cache_of table pool order).ways ≡ is_some (lookup table a)
has_shown table pool order a kept = has_listed table pool order a ∙ sym (kept.held a)

copy_by : (table : List (Option Held)) (pool : Pool) (a x : ℕ) (xs : List ℕ) (b : Bool) → (a == x) ≡ b → copy_in (map (way_of table pool) xs) a ≡ cond (is_listed a xs) (copy_held pool (lookup table a)) no_copy
    → option_map_or (λ (w : Way). w.copy) (cond b (Some (way_of table pool x)) (find (λ (w : Way). a == w.line) (map (way_of table pool) xs))) no_copy ≡ cond (b || is_listed a xs) (copy_held pool (lookup table a)) no_copy
copy_by table pool a x xs true is rest = ap (λ c. copy_held pool (lookup table c)) (sym (eqb-true a x is))
copy_by table pool a x xs false is rest = rest

copy_listed : (table : List (Option Held)) (pool : Pool) (a : ℕ) (xs : List ℕ) → copy_in (map (way_of table pool) xs) a ≡ cond (is_listed a xs) (copy_held pool (lookup table a)) no_copy
copy_listed table pool a [] = refl
copy_listed table pool a (x ∷ xs) = copy_by table pool a x xs (a == x) refl (copy_listed table pool a xs)

unless_held : (pool : Pool) (o : Option Held) → cond (is_some o) (copy_held pool o) no_copy ≡ copy_held pool o
unless_held pool None = refl
unless_held pool (Some held) = refl

pub copy_shown : (table : List (Option Held)) (pool : Pool) (order : Order) (a : ℕ) → IsKept table pool order → copy_in (cache_of table pool order).ways a ≡ copy_held pool (lookup table a)
copy_shown table pool order a kept =
    copy_listed table pool a order.listed
    ∙ ap (λ b. cond b (copy_held pool (lookup table a)) no_copy) (sym (kept.held a))
    ∙ unless_held pool (lookup table a)

-- what is read of a line, where its place in the table is o
pub copy_of : (table seen : List (Option Held)) (pool : Pool) (order : Order) (cache : Cache) (a : ℕ) (o : Option Held) → IsKept table pool order → cache_of table pool order ≡ cache → seen ≡ table → o ≡ lookup seen a → copy_in cache.ways a ≡ copy_held pool o
copy_of table seen pool order cache a o kept view same is =
    ap (λ (k : Cache). copy_in k.ways a) (sym view) ∙ copy_shown table pool order a kept ∙ ap (λ t. copy_held pool (lookup t a)) (sym same) ∙ ap (copy_held pool) (sym is)

pub has_of : (table seen : List (Option Held)) (pool : Pool) (order : Order) (cache : Cache) (a : ℕ) (o : Option Held) → IsKept table pool order → cache_of table pool order ≡ cache → seen ≡ table → o ≡ lookup seen a → has_way a cache.ways ≡ is_some o
has_of table seen pool order cache a o kept view same is =
    ap (λ (k : Cache). has_way a k.ways) (sym view) ∙ has_shown table pool order a kept ∙ ap (λ t. is_some (lookup t a)) (sym same) ∙ ap is_some (sym is)

-- a line with a way has a place in the table
pub held_of : (table seen : List (Option Held)) (a : ℕ) (held : Held) → seen ≡ table → Some held ≡ lookup seen a → lookup table a ≡ Some held
held_of table seen a held same is = ap (λ t. lookup t a) (sym same) ∙ sym is

-- ---- slots

slot_of_held : (o : Option Held) (held : Held) (slot : ℕ) → o ≡ Some held → option_map (λ (h : Held). h.slot) o ≡ Some slot → slot ≡ held.slot
slot_of_held o held slot is at = cc

pub held_in_use : (table : List (Option Held)) (pool : Pool) (order : Order) (a : ℕ) (held : Held) → IsKept table pool order → lookup table a ≡ Some held → IsInUse pool held.slot
held_in_use table pool order a held kept is = kept.in_use a held.slot (ap (λ o. option_map (λ (h : Held). h.slot) o) is)

copy_same : (pool later : Pool) (o : Option Held) → ((slot : ℕ) → option_map (λ (h : Held). h.slot) o ≡ Some slot → line_of later slot ≡ line_of pool slot) → copy_held later o ≡ copy_held pool o
copy_same pool later None same = refl
copy_same pool later (Some held) same = ap (λ o. copy_with held.state (option_map_or (λ bytes. record { 0 = bytes }) o (record { 0 = replicate 64 0 }))) (same held.slot refl)

-- a way whose place and slot stay is the same
pub way_same : (table after : List (Option Held)) (pool later : Pool) (b : ℕ) → lookup after b ≡ lookup table b → ((slot : ℕ) → slot_at table b ≡ Some slot → line_of later slot ≡ line_of pool slot)
    → way_of after later b ≡ way_of table pool b
way_same table after pool later b place same = ap (λ c. record { line = b; copy = c }) (ap (copy_held later) place ∙ copy_same pool later (lookup table b) same)

same_ways : (f g : ℕ → Way) (xs : List ℕ) → ((b : ℕ) → is_listed b xs ≡ true → f b ≡ g b) → map f xs ≡ map g xs
same_ways f g [] same = refl
same_ways f g (x ∷ xs) same = λ i. same x (or_left _ _ (eq-eqb x x refl)) i ∷ same_ways f g xs (λ b there. same b (or_right _ _ there)) i

-- ---- slots of a region

get_same : (xs : List (Option (List ℕ))) (k : ℕ) (x : Option (List ℕ)) → k < length xs → get_or (slice_set xs k x) k None ≡ x
get_same [] k x low = absurd (omega arith)
get_same (y ∷ xs) zero x low = refl
get_same (y ∷ xs) (suc k) x low = get_same xs k x (omega arith)

get_other : (xs : List (Option (List ℕ))) (k j : ℕ) (x : Option (List ℕ)) → (j ≡ k → ⊥) → get_or (slice_set xs k x) j None ≡ get_or xs j None
get_other [] k j x other = refl
get_other (y ∷ xs) zero zero x other = absurd (other refl)
get_other (y ∷ xs) zero (suc j) x other = refl
get_other (y ∷ xs) (suc k) zero x other = refl
get_other (y ∷ xs) (suc k) (suc j) x other = get_other xs k j x (λ same. other (ap suc same))

in_use_within : (xs : List (Option (List ℕ))) (k : ℕ) → IsSome (get_or xs k None) → k < length xs
in_use_within [] k is = absurd (false≢true is)
in_use_within (x ∷ xs) zero is = omega arith
in_use_within (x ∷ xs) (suc k) is = omega (arith, in_use_within xs k is)

-- what the other slots of a region hold after one was set
pub line_other : (pool : Pool) (slot other spare : ℕ) (x : Option (List ℕ)) → (other ≡ slot → ⊥) → line_of (record { slots = slice_set pool.slots slot x; spare = spare }) other ≡ line_of pool other
line_other pool slot other spare x apart = get_other pool.slots slot other x apart

-- what a slot of a region holds after it was set
pub line_same : (pool : Pool) (slot spare : ℕ) (x : Option (List ℕ)) → slot < length pool.slots → line_of (record { slots = slice_set pool.slots slot x; spare = spare }) slot ≡ x
line_same pool slot spare x low = get_same pool.slots slot x low

pub slot_within : (pool : Pool) (slot : ℕ) → IsInUse pool slot → slot < length pool.slots
slot_within pool slot is = in_use_within pool.slots slot is

use_by : (pool : Pool) (slot other spare : ℕ) (line : List ℕ) → slot < length pool.slots → IsInUse pool other → (b : Bool) → (other == slot) ≡ b → IsInUse (record { slots = slice_set pool.slots slot (Some line); spare = spare }) other
use_by pool slot other spare line low uses true is =
    subst IsSome (sym (ap (λ n. line_of (record { slots = slice_set pool.slots slot (Some line); spare = spare }) n) (eqb-true other slot is) ∙ line_same pool slot spare (Some line) low)) refl
use_by pool slot other spare line low uses false is = subst IsSome (sym (line_other pool slot other spare (Some line) (eqb-false other slot is))) uses

-- the slots in use stay so where one is written
pub use_kept : (pool : Pool) (slot other spare : ℕ) (line : List ℕ) → slot < length pool.slots → IsInUse pool other → IsInUse (record { slots = slice_set pool.slots slot (Some line); spare = spare }) other
use_kept pool slot other spare line low uses = use_by pool slot other spare line low uses (other == slot) refl

-- the bytes in a slot that was written
pub bytes_written : (later : Pool) (slot : ℕ) (bytes : List ℕ) → line_of later slot ≡ Some bytes → bytes_in later slot ≡ record { 0 = bytes }
bytes_written later slot bytes is = ap (λ o. option_map_or (λ (b : List ℕ). record { 0 = b }) o (record { 0 = replicate 64 0 })) is

-- ---- a way is changed in its place

some_slot : (o : Option Held) → is_some (option_map (λ (h : Held). h.slot) o) ≡ is_some o
some_slot None = refl
some_slot (Some held) = refl

pub slot_same : (table : List (Option Held)) (a slot : ℕ) (x : Option Held) → a < length table → slot_at (slice_set table a x) a ≡ option_map (λ (h : Held). h.slot) x
slot_same table a slot x low = ap (option_map (λ (h : Held). h.slot)) (lookup_same table a x low)

pub slot_other : (table : List (Option Held)) (a b : ℕ) (x : Option Held) → (b ≡ a → ⊥) → slot_at (slice_set table a x) b ≡ slot_at table b
slot_other table a b x other = ap (option_map (λ (h : Held). h.slot)) (lookup_other table a b x other)

slots_by : (table : List (Option Held)) (a b : ℕ) (held : Held) (state : CopyState) → lookup table a ≡ Some held → (c : Bool) → (b == a) ≡ c → slot_at (slice_set table a (Some (record { state = state; slot = held.slot }))) b ≡ slot_at table b
slots_by table a b held state is true same =
    let at = eqb-true b a same in
    ap (slot_at (slice_set table a (Some (record { state = state; slot = held.slot })))) at
    ∙ slot_same table a held.slot (Some (record { state = state; slot = held.slot })) (lookup_within table a held is)
    ∙ sym (ap (slot_at table) at ∙ ap (option_map (λ (h : Held). h.slot)) is)
slots_by table a b held state is false same = slot_other table a b (Some (record { state = state; slot = held.slot })) (eqb-false b a same)

kept_same : (table after : List (Option Held)) (pool later : Pool) (order : Order) → IsKept table pool order → length after ≡ length table → ((b : ℕ) → slot_at after b ≡ slot_at table b) → ((slot : ℕ) → IsInUse pool slot → IsInUse later slot)
    → IsKept after later order
kept_same table after pool later order kept size slots uses =
    record {
      sizes = size ∙ kept.sizes;
      held = λ b. sym (some_slot (lookup after b)) ∙ ap is_some (slots b) ∙ some_slot (lookup table b) ∙ kept.held b;
      in_use = λ b slot at. uses slot (kept.in_use b slot (sym (slots b) ∙ at));
      apart = λ b c slot at_b at_c. kept.apart b c slot (sym (slots b) ∙ at_b) (sym (slots c) ∙ at_c);
    }

-- a cache stays together where a way's state and bytes change
pub kept_changed : (table : List (Option Held)) (pool later : Pool) (order : Order) (a : ℕ) (held : Held) (state : CopyState) → IsKept table pool order → lookup table a ≡ Some held → ((slot : ℕ) → IsInUse pool slot → IsInUse later slot)
    → IsKept (slice_set table a (Some (record { state = state; slot = held.slot }))) later order
kept_changed table pool later order a held state kept is uses =
    kept_same table (slice_set table a (Some (record { state = state; slot = held.slot }))) pool later order kept (length_set table a _) (λ b. slots_by table a b held state is (b == a) refl) uses

way_put : (table : List (Option Held)) (pool later : Pool) (order : Order) (a b : ℕ) (held : Held) (state : CopyState) → IsKept table pool order → lookup table a ≡ Some held → ((slot : ℕ) → (slot ≡ held.slot → ⊥) → line_of later slot ≡ line_of pool slot)
    → (c : Bool) → (a == b) ≡ c → way_of (slice_set table a (Some (record { state = state; slot = held.slot }))) later b ≡ cond c (record { line = b; copy = copy_with state (bytes_in later held.slot) }) (way_of table pool b)
way_put table pool later order a b held state kept is others true same =
    let at = eqb-true a b same in
    ap (λ o. record { line = b; copy = copy_held later o })
    (ap (lookup (slice_set table a (Some (record { state = state; slot = held.slot })))) (sym at) ∙ lookup_same table a (Some (record { state = state; slot = held.slot })) (lookup_within table a held is))
way_put table pool later order a b held state kept is others false same =
    let other : b ≡ a → ⊥ = λ at. eqb-false a b same (sym at) in
    way_same table (slice_set table a (Some (record { state = state; slot = held.slot }))) pool later b (lookup_other table a b _ other)
    (λ slot at. others slot (λ at_a. other (kept.apart b a slot at (ap (option_map (λ (h : Held). h.slot)) is ∙ ap Some (sym at_a)))))

ways_put : (table : List (Option Held)) (pool later : Pool) (order : Order) (a : ℕ) (held : Held) (state : CopyState) (xs : List ℕ) → IsKept table pool order → lookup table a ≡ Some held → ((slot : ℕ) → (slot ≡ held.slot → ⊥) → line_of later slot ≡ line_of pool slot)
    → map (way_of (slice_set table a (Some (record { state = state; slot = held.slot }))) later) xs ≡ put_way a (copy_with state (bytes_in later held.slot)) (map (way_of table pool) xs)
ways_put table pool later order a held state [] kept is others = refl
ways_put table pool later order a held state (x ∷ xs) kept is others = λ i. way_put table pool later order a x held state kept is others (a == x) refl i ∷ ways_put table pool later order a held state xs kept is others i

-- what is seen where a way's state and bytes change
pub cache_changed : (table : List (Option Held)) (pool later : Pool) (order : Order) (a : ℕ) (held : Held) (state : CopyState) → IsKept table pool order → lookup table a ≡ Some held → ((slot : ℕ) → (slot ≡ held.slot → ⊥) → line_of later slot ≡ line_of pool slot) → later.spare ≡ pool.spare
    → cache_of (slice_set table a (Some (record { state = state; slot = held.slot }))) later order
    ≡ record { ways = put_way a (copy_with state (bytes_in later held.slot)) (cache_of table pool order).ways; room = (cache_of table pool order).room; lines = order.places }
cache_changed table pool later order a held state kept is others spare =
    λ i. record { ways = ways_put table pool later order a held state order.listed kept is others i; room = length order.listed + spare i; lines = order.places }

-- ---- a way more

or_none : (p : Bool) → (p || false) ≡ (false || p)
or_none true = refl
or_none false = refl

or_none_right : (p : Bool) → (p || false) ≡ p
or_none_right true = refl
or_none_right false = refl

or_all : (p : Bool) → (p || true) ≡ true
or_all true = refl
or_all false = refl

or_moved : (p q r : Bool) → (p || (q || r)) ≡ ((p || q) || r)
or_moved true q r = refl
or_moved false q r = refl

same_some : (m n : ℕ) → Some m ≡ Some n → m ≡ n
same_some m n same = cc

pub none_is_some : (n : ℕ) → None ≡ Some n → ⊥
none_is_some n same = cc

listed_end : (a b : ℕ) (xs : List ℕ) → is_listed b (xs ++ a ∷ []) ≡ (is_listed b xs || (b == a))
listed_end a b [] = or_none (b == a)
listed_end a b (x ∷ xs) = ap (λ c. (b == x) || c) (listed_end a b xs) ∙ or_moved (b == x) (is_listed b xs) (b == a)

-- the table with a way more
abbrev pub with_way : List (Option Held) → ℕ → ℕ → List (Option Held)
with_way table a slot = slice_set table a (Some (record { state = CopyState.I; slot = slot }))

held_more : (table : List (Option Held)) (order : Order) (pool : Pool) (a b slot : ℕ) → IsKept table pool order → a < length table → (c : Bool) → (b == a) ≡ c → is_some (lookup (with_way table a slot) b) ≡ (is_listed b order.listed || c)
held_more table order pool a b slot kept low true same =
    ap (λ n. is_some (lookup (with_way table a slot) n)) (eqb-true b a same) ∙ ap is_some (lookup_same table a _ low) ∙ sym (or_all (is_listed b order.listed))
held_more table order pool a b slot kept low false same = ap is_some (lookup_other table a b _ (eqb-false b a same)) ∙ kept.held b ∙ sym (or_none_right (is_listed b order.listed))

use_more : (table : List (Option Held)) (pool later : Pool) (order : Order) (a slot b at : ℕ) → IsKept table pool order → a < length table → ((s : ℕ) → IsInUse pool s → IsInUse later s) → IsInUse later slot
    → slot_at (with_way table a slot) b ≡ Some at → (c : Bool) → (b == a) ≡ c → IsInUse later at
use_more table pool later order a slot b at kept low uses new is true same =
    let here : slot ≡ at = same_some slot at (sym (slot_same table a slot _ low) ∙ ap (slot_at (with_way table a slot)) (sym (eqb-true b a same)) ∙ is) in subst (IsInUse later) here new
use_more table pool later order a slot b at kept low uses new is false same = uses at (kept.in_use b at (sym (slot_other table a b _ (eqb-false b a same)) ∙ is))

not_new : (table : List (Option Held)) (pool : Pool) (order : Order) (a slot b c at : ℕ) → IsKept table pool order → a < length table → line_of pool slot ≡ None
    → slot_at (with_way table a slot) b ≡ Some at → slot_at (with_way table a slot) c ≡ Some at → (b ≡ a → ⊥) → c ≡ a → ⊥
not_new table pool order a slot b c at kept low none at_b at_c other same =
    let here : slot ≡ at = same_some slot at (sym (slot_same table a slot _ low) ∙ ap (slot_at (with_way table a slot)) (sym same) ∙ at_c) in
    let uses = kept.in_use b at (sym (slot_other table a b _ other) ∙ at_b) in
    false≢true (subst IsSome (ap (line_of pool) (sym here) ∙ none) uses)

apart_more : (table : List (Option Held)) (pool : Pool) (order : Order) (a slot b c at : ℕ) → IsKept table pool order → a < length table → line_of pool slot ≡ None
    → slot_at (with_way table a slot) b ≡ Some at → slot_at (with_way table a slot) c ≡ Some at → (p q : Bool) → (b == a) ≡ p → (c == a) ≡ q → b ≡ c
apart_more table pool order a slot b c at kept low none at_b at_c true true is_b is_c = eqb-true b a is_b ∙ sym (eqb-true c a is_c)
apart_more table pool order a slot b c at kept low none at_b at_c false false is_b is_c =
    kept.apart b c at (sym (slot_other table a b _ (eqb-false b a is_b)) ∙ at_b) (sym (slot_other table a c _ (eqb-false c a is_c)) ∙ at_c)
apart_more table pool order a slot b c at kept low none at_b at_c true false is_b is_c =
    absurd (not_new table pool order a slot c b at kept low none at_c at_b (eqb-false c a is_c) (eqb-true b a is_b))
apart_more table pool order a slot b c at kept low none at_b at_c false true is_b is_c =
    absurd (not_new table pool order a slot b c at kept low none at_b at_c (eqb-false b a is_b) (eqb-true c a is_c))

-- a cache stays together where a line gets a way
pub kept_added : (table : List (Option Held)) (pool later : Pool) (order : Order) (a slot : ℕ) → IsKept table pool order → a < length table → line_of pool slot ≡ None → ((s : ℕ) → IsInUse pool s → IsInUse later s) → IsInUse later slot
    → IsKept (with_way table a slot) later (record { places = order.places; listed = order.listed ++ a ∷ [] })
kept_added table pool later order a slot kept low none uses new =
    record {
      sizes = length_set table a _ ∙ kept.sizes;
      held = λ b. held_more table order pool a b slot kept low (b == a) refl ∙ sym (listed_end a b order.listed);
      in_use = λ b at is. use_more table pool later order a slot b at kept low uses new is (b == a) refl;
      apart = λ b c at at_b at_c. apart_more table pool order a slot b c at kept low none at_b at_c (b == a) (c == a) refl refl;
    }

unlisted : (a b : ℕ) (xs : List ℕ) → is_listed a xs ≡ false → is_listed b xs ≡ true → b ≡ a → ⊥
unlisted a b xs none there same = false≢true (sym none ∙ subst (λ n. is_listed n xs ≡ true) same there)

map_end : (f : ℕ → Way) (xs : List ℕ) (a : ℕ) → map f (xs ++ a ∷ []) ≡ map f xs ++ f a ∷ []
map_end f [] a = refl
map_end f (x ∷ xs) a = ap (λ l. f x ∷ l) (map_end f xs a)

not_used : (pool : Pool) (slot at : ℕ) → line_of pool slot ≡ None → IsInUse pool at → at ≡ slot → ⊥
not_used pool slot at none uses same = false≢true (subst IsSome (ap (line_of pool) same ∙ none) uses)

-- what is seen where a line gets a way
pub cache_added : (table : List (Option Held)) (pool later : Pool) (order : Order) (a slot : ℕ) → IsKept table pool order → a < length table → is_listed a order.listed ≡ false → line_of pool slot ≡ None
    → ((s : ℕ) → (s ≡ slot → ⊥) → line_of later s ≡ line_of pool s) → later.spare + 1 ≡ pool.spare
    → cache_of (with_way table a slot) later (record { places = order.places; listed = order.listed ++ a ∷ [] })
    ≡ record { ways = (cache_of table pool order).ways ++ record { line = a; copy = no_copy } ∷ []; room = (cache_of table pool order).room; lines = order.places }
cache_added table pool later order a slot kept low new none others spare =
    let after = with_way table a slot in
    let old = same_ways (way_of after later) (way_of table pool) order.listed
    (λ b there. way_same table after pool later b (lookup_other table a b _ (unlisted a b order.listed new there)) (λ s at. others s (not_used pool slot s none (kept.in_use b s at)))) in
    let last : way_of after later a ≡ record { line = a; copy = no_copy } = ap (λ o. record { line = a; copy = copy_held later o }) (lookup_same table a _ low) in
    let ways = map_end (way_of after later) order.listed a ∙ (λ i. old i ++ last i ∷ []) in
    let room : length (order.listed ++ a ∷ []) + later.spare ≡ length order.listed + pool.spare = omega (arith, length-append order.listed (a ∷ []), spare) in
    λ i. record { ways = ways i; room = room i; lines = order.places }

-- ---- a way less
