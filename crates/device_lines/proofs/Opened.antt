-- The slots of memory before the first event.
use Rattle.std.proofs.Common.{◌≡◌, ℕ, zero, suc, ◌+◌, ◌-◌, ◌*◌, ◌<◌, ◌≤◌, ◌⊎◌, inl, inr, List, [], ◌∷◌, ◌++◌, Option, Some, None, length, map, get_or, replicate, sum_by, refl, ap, sym, ◌∙◌, subst, arith}
use Rattle.std.specs.Prelude.{slice_get, slice_set, unwrap_or}
use Rattle.std.specs.List.{range_with_len}
use Rattle.std.proofs.lemmas.Bool.{cases_eq}
use Rattle.std.proofs.lemmas.List.{length-replicate}
use Rattle.std.proofs.lemmas.List.Sums.{sum_by-cons, sum_by_push}
use Rattle.cxl_message.specs.declared.identifiers.Bytes64.{Bytes64}
use Rattle.cxl_message.specs.declared.identifiers.Line.{Line}
use Rattle.cxl_message.specs.Lists.{below}
use Rattle.cxl_message.specs.Opening.{bytes_at}
use Rattle.line_pool.specs.Pools.{Pool, line_of}
use Rattle.device_lines.specs.declared.buffers.Write.{Write}
use Rattle.device_lines.specs.Buffered.{bytes_of, messages_of}
use Rattle.device_lines.specs.Region.{IsShared, buffer_slots, buffer_times, is_slot, one_in_use, times_named}
use Rattle.device_lines.specs.Filled.{IsFilled}
use Rattle.device_lines.proofs.Regions.{at_set, past_set, pool_set, same_memory, slot_other, slot_same}

range_more : (a n : ℕ) → range_with_len a (suc n) ≡ range_with_len a n ++ (a + n) ∷ []
range_more a zero = let e : a ≡ a + 0 = omega arith in ap (λ k. k ∷ []) e
range_more a (suc n) =
    let e : (a + 1) + n ≡ a + suc n = omega arith in
    ap (λ l. a ∷ l) (range_more (a + 1) n ∙ ap (λ k. range_with_len (a + 1) n ++ k ∷ []) e)

below_more : (n : ℕ) → below (n + 1) ≡ below n ++ n ∷ []
below_more n =
    let e : n + 1 ≡ suc n = omega arith in
    let z : 0 + n ≡ n = omega arith in
    ap below e ∙ range_more 0 n ∙ ap (λ k. below n ++ k ∷ []) z

map_pushed : {X Y : Type 0} (f : X → Y) (xs : List X) (x : X) → map f (xs ++ x ∷ []) ≡ map f xs ++ f x ∷ []
map_pushed f [] x = refl
map_pushed f (y ∷ xs) x = ap (λ l. f y ∷ l) (map_pushed f xs x)

none_used : (n s : ℕ) → one_in_use (get_or (replicate {A = Option (List ℕ)} n None) s None) ≡ 0
none_used zero s = refl
none_used (suc n) zero = refl
none_used (suc n) (suc s) = none_used n s

-- no line has a slot at first
pub none_filled : (slots spare : ℕ) (opening : List (Line × Bytes64)) → IsFilled (record { slots = replicate slots None; spare = spare }) [] opening 0
none_filled slots spare opening = record { named = λ s. sym (none_used slots s); bytes = refl }

named_more : (pool : Pool) (lines : List ℕ) (opening : List (Line × Bytes64)) (n : ℕ) → IsFilled pool lines opening n → (t s : ℕ) (bytes : List ℕ) → t < length pool.slots → line_of pool t ≡ None → (s ≡ t) ⊎ (s ≡ t → ⊥)
    → sum_by (is_slot s) (lines ++ t ∷ []) ≡ one_in_use (line_of (pool_set pool t (Some bytes) (pool.spare - 1)) s)
named_more pool lines opening n filled t s bytes low none (inl same) =
    let after : one_in_use (line_of (pool_set pool t (Some bytes) (pool.spare - 1)) s) ≡ 1 = ap (λ k. one_in_use (line_of (pool_set pool t (Some bytes) (pool.spare - 1)) k)) same ∙ ap one_in_use (at_set pool t (Some bytes) (pool.spare - 1) low) in
    let before : one_in_use (line_of pool s) ≡ 0 = ap (λ k. one_in_use (line_of pool k)) same ∙ ap one_in_use none in
    let here : is_slot s t ≡ 1 = ap (λ k. is_slot k t) same ∙ slot_same t in
    omega (arith, after, before, here, filled.named s, sum_by_push (is_slot s) lines t)
named_more pool lines opening n filled t s bytes low none (inr other) =
    let after : one_in_use (line_of (pool_set pool t (Some bytes) (pool.spare - 1)) s) ≡ one_in_use (line_of pool s) = ap one_in_use (past_set pool t s (Some bytes) (pool.spare - 1) other) in
    omega (arith, after, filled.named s, slot_other s t (λ same. other (sym same)), sum_by_push (is_slot s) lines t)

unfilled : (pool : Pool) (lines : List ℕ) (opening : List (Line × Bytes64)) (n : ℕ) → IsFilled pool lines opening n → (t s : ℕ) → line_of pool t ≡ None → 1 ≤ sum_by (is_slot s) lines → s ≡ t → ⊥
unfilled pool lines opening n filled t s none some same =
    let gone : one_in_use (line_of pool s) ≡ 0 = ap (λ k. one_in_use (line_of pool k)) same ∙ ap one_in_use none in
    omega (arith, gone, some, filled.named s)

own_bytes : (pool : Pool) (t : ℕ) (b : Bytes64) → t < length pool.slots → bytes_of (pool_set pool t (Some b.0) (pool.spare - 1)) t ≡ b
own_bytes pool t b low = ap (λ (o : Option (List ℕ)). record { 0 = unwrap_or o (replicate 64 0) }) (at_set pool t (Some b.0) (pool.spare - 1) low)

-- one more line has a slot
pub one_more_filled : (pool later : Pool) (lines : List ℕ) (opening : List (Line × Bytes64)) (n : ℕ) → IsFilled pool lines opening n → (t : ℕ) (b : Bytes64) → later ≡ pool_set pool t (Some b.0) (pool.spare - 1) → t < length pool.slots → line_of pool t ≡ None → b ≡ bytes_at opening n → IsFilled later (lines ++ t ∷ []) opening (n + 1)
one_more_filled pool later lines opening n filled t b same low none is =
    let set : Pool = pool_set pool t (Some b.0) (pool.spare - 1) in
    subst (λ (p : Pool). IsFilled p (lines ++ t ∷ []) opening (n + 1)) (sym same)
    (record {
      named = λ s. named_more pool lines opening n filled t s b.0 low none (cases_eq s t);
      bytes = map_pushed (bytes_of set) lines t
          ∙ (λ i. same_memory pool set lines (λ s some. past_set pool t s (Some b.0) (pool.spare - 1) (unfilled pool lines opening n filled t s none some)) i ++ own_bytes pool t b low i ∷ [])
          ∙ (λ i. filled.bytes i ++ is i ∷ []) ∙ sym (ap (map (bytes_at opening)) (below_more n) ∙ map_pushed (bytes_at opening) (below n) n);
    })

nothing_named : (s : ℕ) → buffer_times s [] ≡ 0
nothing_named s = refl

nothing_buffered : buffer_slots [] ≡ 0
nothing_buffered = refl

no_times : (s hosts : ℕ) → sum_by (buffer_times s) (replicate hosts []) ≡ 0
no_times s zero = refl
no_times s (suc hosts) = omega (arith, no_times s hosts, sum_by-cons (buffer_times s) [] (replicate hosts []), nothing_named s)

no_slots : (hosts : ℕ) → sum_by buffer_slots (replicate hosts []) ≡ 0
no_slots zero = refl
no_slots (suc hosts) = omega (arith, no_slots hosts, sum_by-cons buffer_slots [] (replicate hosts []), nothing_buffered)

empty_at : (hosts k : ℕ) → length (unwrap_or (slice_get (replicate {A = List Write} hosts []) k) []) ≡ 0
empty_at zero k = refl
empty_at (suc hosts) zero = refl
empty_at (suc hosts) (suc k) = empty_at hosts k

-- the slots belong together where each line has one and no message is buffered
pub opened_shared : (pool : Pool) (lines : List ℕ) (buffers : List (List Write)) (opening : List (Line × Bytes64)) (n hosts room : ℕ) → IsFilled pool lines opening n → buffers ≡ replicate hosts [] → pool.spare ≡ hosts * room → room ≤ 64 → IsShared pool lines buffers room
opened_shared pool lines buffers opening n hosts room filled none spare few =
    subst (λ (b : List (List Write)). IsShared pool lines b room) (sym none)
    (record {
      named = λ s. omega (arith, filled.named s, no_times s hosts);
      spare = omega (arith, no_slots hosts, spare, ap (λ k. k * room) (length-replicate {A = List Write} hosts []));
      fits = λ k. omega (arith, empty_at hosts k);
      most = few;
    })

no_messages : (pool : Pool) (hosts : ℕ) → map (messages_of pool) (replicate hosts []) ≡ replicate hosts []
no_messages pool zero = refl
no_messages pool (suc hosts) = ap (λ l. [] ∷ l) (no_messages pool hosts)

pub no_messages_seen : (pool : Pool) (buffers : List (List Write)) (hosts : ℕ) → buffers ≡ replicate hosts [] → map (messages_of pool) buffers ≡ replicate hosts []
no_messages_seen pool buffers hosts none = ap (map (messages_of pool)) none ∙ no_messages pool hosts

replicate_last : {X : Type 0} (n : ℕ) (x : X) → replicate (suc n) x ≡ replicate n x ++ x ∷ []
replicate_last zero x = refl
replicate_last (suc n) x = ap (λ l. x ∷ l) (replicate_last n x)

-- one more of the same
pub replicate_more : {X : Type 0} (n : ℕ) (x : X) → replicate (n + 1) x ≡ replicate n x ++ x ∷ []
replicate_more n x = let e : n + 1 ≡ suc n = omega arith in ap (λ k. replicate k x) e ∙ replicate_last n x
