-- The cache is kept where a way is dropped, where none was ever added, and the first idle way is found.
use Rattle.std.proofs.Common.{◌+◌, ◌++◌, ◌<◌, ◌∙◌, ◌∷◌, ◌≡◌, ◌≤◌, ℕ, Bool, List, None, Option, Some, IsSome, [], ap, arith, cond, false, get_or, length, length-append, map, refl, subst, suc, sym, true, zero}
use Rattle.std.specs.Prelude.{count_by, nat_lt, find, if◌then◌else◌, is_some, not, option_map, replicate, slice_get, slice_set, ◌==◌, ◌||◌}
use Rattle.std.specs.Option.{option_map_or}
use Rattle.std.specs.List.{list_any}
use Rattle.std.proofs.lemmas.List.Sums.{count_by-le-length, sum_by-cons}
use Rattle.std.proofs.lemmas.Bool.{lt-ltb, eq-eqb, eqb-false, eqb-true, false≢true, ne_eqb, or_left, or_parts, or_right}
use Rattle.cxl_message.specs.declared.states.CopyState.{CopyState}
use Rattle.coherence_model.specs.Copies.{no_copy}
use Rattle.host_record.specs.Tables.{lookup, place_or}
use Rattle.host_record.specs.Ways.{Way, copy_in, drop_way, give_up, has_way, put_way}
use Rattle.line_pool.specs.Pools.{IsInUse, Pool, line_of}
use Rattle.linked_order.specs.Orders.{IsOnce, Order, is_listed, without_place}
use Rattle.host_cache.specs.declared.held.Held.{Held}
use Rattle.host_cache.specs.Caches.{Cache, IsKept, bytes_in, cache_of, copy_held, copy_with, first_idle, line_named, slot_at, way_of}
use Rattle.host_cache.proofs.Kept.{lookup_same, lookup_other, lookup_within, length_set, lines_shown, way_same, slot_same, slot_other, none_is_some}

less_same : (a b x : ℕ) (rest : List ℕ) → b ≡ a → is_listed b rest ≡ false → (c : Bool) → (a == x) ≡ c → is_listed b (cond (not c) (x ∷ rest) rest) ≡ false
less_same a b x rest same none true is = none
less_same a b x rest same none false is = λ i. ((ap (λ n. n == x) same ∙ is) i) || none i

less_other : (a b x : ℕ) (xs : List ℕ) → (b ≡ a → ⊥) → is_listed b (without_place a xs) ≡ is_listed b xs → (c : Bool) → (a == x) ≡ c → is_listed b (cond (not c) (x ∷ without_place a xs) (without_place a xs)) ≡ ((b == x) || is_listed b xs)
less_other a b x xs other rest true is = rest ∙ sym (ap (λ p. p || is_listed b xs) (ne_eqb b x (λ same. other (same ∙ sym (eqb-true a x is)))))
less_other a b x xs other rest false is = ap (λ p. (b == x) || p) rest

listed_less : (a b : ℕ) (xs : List ℕ) → (c : Bool) → (b == a) ≡ c → is_listed b (without_place a xs) ≡ cond c false (is_listed b xs)
listed_less a b [] true same = refl
listed_less a b [] false same = refl
listed_less a b (x ∷ xs) true same = less_same a b x (without_place a xs) (eqb-true b a same) (listed_less a b xs true same) (a == x) refl
listed_less a b (x ∷ xs) false same = less_other a b x xs (eqb-false b a same) (listed_less a b xs false same) (a == x) refl

held_less : (table : List (Option Held)) (order : Order) (pool : Pool) (a b : ℕ) → IsKept table pool order → a < length table → (c : Bool) → (b == a) ≡ c → is_some (lookup (slice_set table a None) b) ≡ cond c false (is_listed b order.listed)
held_less table order pool a b kept low true same = ap (λ n. is_some (lookup (slice_set table a None) n)) (eqb-true b a same) ∙ ap is_some (lookup_same table a None low)
held_less table order pool a b kept low false same = ap is_some (lookup_other table a b None (eqb-false b a same)) ∙ kept.held b

slot_less : (table : List (Option Held)) (a b at : ℕ) → a < length table → slot_at (slice_set table a None) b ≡ Some at → (c : Bool) → (b == a) ≡ c → (b ≡ a → ⊥) × (slot_at table b ≡ Some at)
slot_less table a b at low is true same = absurd (none_is_some at (sym (slot_same table a at None low) ∙ ap (slot_at (slice_set table a None)) (sym (eqb-true b a same)) ∙ is))
slot_less table a b at low is false same = (eqb-false b a same, sym (slot_other table a b None (eqb-false b a same)) ∙ is)

-- a cache stays together where a way goes
pub kept_dropped : (table : List (Option Held)) (pool later : Pool) (order : Order) (a : ℕ) (held : Held) → IsKept table pool order → lookup table a ≡ Some held
    → ((slot : ℕ) → (slot ≡ held.slot → ⊥) → line_of later slot ≡ line_of pool slot) → IsKept (slice_set table a None) later (record { places = order.places; listed = without_place a order.listed })
kept_dropped table pool later order a held kept is others =
    let low = lookup_within table a held is in
    record {
      sizes = length_set table a None ∙ kept.sizes;
      held = λ b. held_less table order pool a b kept low (b == a) refl ∙ sym (listed_less a b order.listed (b == a) refl);
      in_use = λ b slot at.
          let old = slot_less table a b slot low at (b == a) refl in
          let apart : slot ≡ held.slot → ⊥ = λ same. old.0 (kept.apart b a slot old.1 (ap (option_map (λ (h : Held). h.slot)) is ∙ ap Some (sym same))) in
          subst IsSome (sym (others slot apart)) (kept.in_use b slot old.1);
      apart = λ b c slot at_b at_c. kept.apart b c slot (slot_less table a b slot low at_b (b == a) refl).1 (slot_less table a c slot low at_c (c == a) refl).1;
    }

way_dropped : (f g : ℕ → Way) (a x : ℕ) (xs : List ℕ) → ((b : ℕ) → (b ≡ a → ⊥) → f b ≡ g b) → map f (without_place a xs) ≡ drop_way a (map g xs) → (c : Bool) → (a == x) ≡ c
    → map f (cond (not c) (x ∷ without_place a xs) (without_place a xs)) ≡ cond (not c) (g x ∷ drop_way a (map g xs)) (drop_way a (map g xs))
way_dropped f g a x xs same rest true is = rest
way_dropped f g a x xs same rest false is = λ i. same x (λ at. eqb-false a x is (sym at)) i ∷ rest i

ways_dropped : (f g : ℕ → Way) (a : ℕ) (xs : List ℕ) → ((b : ℕ) → (g b).line ≡ b) → ((b : ℕ) → (b ≡ a → ⊥) → f b ≡ g b) → map f (without_place a xs) ≡ drop_way a (map g xs)
ways_dropped f g a [] own same = refl
ways_dropped f g a (x ∷ xs) own same =
    way_dropped f g a x xs same (ways_dropped f g a xs own same) (a == x) refl
    ∙ ap (λ n. cond (not (a == n)) (g x ∷ drop_way a (map g xs)) (drop_way a (map g xs))) (sym (own x))

-- what is seen where a way goes
pub cache_dropped : (table : List (Option Held)) (pool later : Pool) (order : Order) (a : ℕ) (held : Held) → IsKept table pool order → lookup table a ≡ Some held
    → ((slot : ℕ) → (slot ≡ held.slot → ⊥) → line_of later slot ≡ line_of pool slot) → length (without_place a order.listed) + later.spare ≡ length order.listed + pool.spare
    → cache_of (slice_set table a None) later (record { places = order.places; listed = without_place a order.listed })
    ≡ record { ways = drop_way a (cache_of table pool order).ways; room = (cache_of table pool order).room; lines = order.places }
cache_dropped table pool later order a held kept is others room =
    let ways = ways_dropped (way_of (slice_set table a None) later) (way_of table pool) a order.listed (λ b. refl)
    (λ b other. way_same table (slice_set table a None) pool later b (lookup_other table a b None other) (λ slot at. others slot (λ same. other (kept.apart b a slot at (ap (option_map (λ (h : Held). h.slot)) is ∙ ap Some (sym same)))))) in
    λ i. record { ways = ways i; room = room i; lines = order.places }

-- the ways where a copy is given up
pub give_up_keeps : (a : ℕ) (keep : Bool) (k : Cache) → keep ≡ true → give_up a keep k.ways ≡ put_way a no_copy k.ways
give_up_keeps a keep k is = ap (λ b. give_up a b k.ways) is

pub give_up_drops : (a : ℕ) (keep : Bool) (k : Cache) → keep ≡ false → give_up a keep k.ways ≡ drop_way a k.ways
give_up_drops a keep k is = ap (λ b. give_up a b k.ways) is

without_unlisted : (a : ℕ) (xs : List ℕ) → is_listed a xs ≡ false → without_place a xs ≡ xs
without_unlisted a [] none = refl
without_unlisted a (x ∷ xs) none =
    let parts = or_parts (a == x) (is_listed a xs) none in
    ap (λ b. cond (not b) (x ∷ without_place a xs) (without_place a xs)) parts.0 ∙ ap (λ l. x ∷ l) (without_unlisted a xs parts.1)

size_by : (a x : ℕ) (xs : List ℕ) → IsOnce (x ∷ xs) → is_listed a (x ∷ xs) ≡ true → (b : Bool) → (a == x) ≡ b → (b ≡ false → length (without_place a xs) + 1 ≡ length xs)
    → length (cond (not b) (x ∷ without_place a xs) (without_place a xs)) + 1 ≡ length (x ∷ xs)
size_by a x xs once there true is rest = omega (arith, ap length (without_unlisted a xs (subst (λ z. is_listed z xs ≡ false) (sym (eqb-true a x is)) once.0)))
size_by a x xs once there false is rest = omega (arith, rest refl)

second : (p q : Bool) → p ≡ false → (p || q) ≡ true → q ≡ true
second true q none some = absurd (false≢true (sym none))
second false q none some = some

-- an order is one shorter without one of its places
pub size_without : (a : ℕ) (xs : List ℕ) → IsOnce xs → is_listed a xs ≡ true → length (without_place a xs) + 1 ≡ length xs
size_without a [] once there = absurd (false≢true there)
size_without a (x ∷ xs) once there = size_by a x xs once there (a == x) refl (λ other. size_without a xs once.1 (second (a == x) (is_listed a xs) other there))

pub listed_held : (table : List (Option Held)) (pool : Pool) (order : Order) (a : ℕ) (held : Held) → IsKept table pool order → lookup table a ≡ Some held → is_listed a order.listed ≡ true
listed_held table pool order a held kept is = sym (kept.held a) ∙ ap is_some is

-- ---- at first

no_places : (n a : ℕ) → lookup (replicate {A = Option Held} n None) a ≡ None
no_places zero a = refl
no_places (suc n) zero = refl
no_places (suc n) (suc a) = no_places n a

no_slot : (table : List (Option Held)) (a slot : ℕ) → lookup table a ≡ None → slot_at table a ≡ Some slot → ⊥
no_slot table a slot none at = none_is_some slot (sym (ap (option_map (λ (h : Held). h.slot)) none) ∙ at)

-- a cache is together before its first way
pub kept_opened : (n : ℕ) (table : List (Option Held)) (pool : Pool) (order : Order) → table ≡ replicate n None → length table ≡ n → order ≡ record { places = n; listed = [] } → IsKept table pool order
kept_opened n table pool order is size opened =
    let none : (a : ℕ) → lookup table a ≡ None = λ a. ap (λ t. lookup t a) is ∙ no_places n a in
    record {
      sizes = size ∙ sym (ap (λ (o : Order). o.places) opened);
      held = λ a. ap is_some (none a) ∙ sym (ap (λ (o : Order). is_listed a o.listed) opened);
      in_use = λ a slot at. absurd (no_slot table a slot (none a) at);
      apart = λ a b slot at_a at_b. absurd (no_slot table a slot (none a) at_a);
    }

-- ---- marks

pub few_marked : (marks : List Bool) (k : ℕ) (d : Bool) → k < length marks → get_or marks k d ≡ false → count_by (λ on. on) marks + 1 ≤ length marks
few_marked [] k d low is = absurd (omega arith)
few_marked (true ∷ marks) zero d low is = absurd (false≢true (sym is))
few_marked (false ∷ marks) zero d low is = omega (arith, count_by-le-length (λ on. on) marks, sum_by-cons (λ (on : Bool). if on then 1 else 0) false marks)
few_marked (true ∷ marks) (suc k) d low is = omega (arith, few_marked marks k d (omega arith) is, sum_by-cons (λ (on : Bool). if on then 1 else 0) true marks)
few_marked (false ∷ marks) (suc k) d low is = omega (arith, few_marked marks k d (omega arith) is, sum_by-cons (λ (on : Bool). if on then 1 else 0) false marks)

pub some_marked : (marks : List Bool) → nat_lt 0 (count_by (λ on. on) marks) ≡ list_any (λ on. on) marks
some_marked [] = refl
some_marked (true ∷ marks) = lt-ltb 0 (count_by (λ on. on) (true ∷ marks)) (omega (arith, sum_by-cons (λ (on : Bool). if on then 1 else 0) true marks))
some_marked (false ∷ marks) = ap (nat_lt 0) (sum_by-cons (λ (on : Bool). if on then 1 else 0) false marks ∙ omega arith) ∙ some_marked marks

-- ---- lines that are looked for

pub map_same : {X : Type 0} (o : Option X) → option_map (λ x. x) o ≡ o
map_same None = refl
map_same (Some x) = refl

-- the first idle line, where a search over the order found it
pub idle_found : (table : List (Option Held)) (pool : Pool) (order : Order) (cache : Cache) (busy : List Bool) (o : Option ℕ) → cache_of table pool order ≡ cache → option_map (λ (n : ℕ). n) o ≡ find (λ a. not (place_or false busy a)) order.listed → option_map line_named o ≡ option_map line_named (first_idle busy cache.ways)
idle_found table pool order cache busy o view is =
    ap (option_map line_named)
    (sym (map_same o) ∙ is ∙ ap (find (λ a. not (place_or false busy a))) (sym (lines_shown table pool order)) ∙ ap (λ (k : Cache). first_idle busy k.ways) view)

pub way_found : (table : List (Option Held)) (pool : Pool) (order : Order) (cache : Cache) (k : ℕ) (o : Option ℕ) → cache_of table pool order ≡ cache → option_map (λ (n : ℕ). n) o ≡ slice_get order.listed k → option_map line_named o ≡ option_map line_named (slice_get (map (λ w. w.line) cache.ways) k)
way_found table pool order cache k o view is =
    ap (option_map line_named) (sym (map_same o) ∙ is ∙ ap (λ l. slice_get l k) (sym (lines_shown table pool order)) ∙ ap (λ (c : Cache). slice_get (map (λ (w : Way). w.line) c.ways) k) view)
