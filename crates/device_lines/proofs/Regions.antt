-- How the device's slots stay together, and what is seen of them.
use Rattle.std.proofs.Common.{◌≡◌, ℕ, zero, suc, ◌+◌, ◌-◌, ◌*◌, ◌<◌, ◌≤◌, ◌⊎◌, inl, inr, Bool, true, false, List, [], ◌∷◌, ◌++◌, Option, Some, None, IsSome, cond, length, map, get_or, replicate, sum_by, refl, ap, sym, ◌∙◌, subst, arith, length-append}
use Rattle.std.specs.Prelude.{find, is_some, option_and_then, option_map, slice_get, slice_set, unwrap_or, ◌==◌}
use Rattle.std.proofs.lemmas.Bool.{cases_eq, eq-eqb, eqb-true, false≢true, ne_eqb}
use Rattle.std.proofs.lemmas.List.{get_or-set_other, get_or-set_same, length-map, length-set, map-set}
use Rattle.std.proofs.lemmas.List.Sums.{sum_by-cons, sum_by-set, sum_by_push}
use Rattle.std.proofs.lemmas.Option.{get_or_from_slice_get, none-some, slice_get_read, slice_get_within}
use Rattle.cxl_message.specs.declared.identifiers.Bytes64.{Bytes64}
use Rattle.cxl_message.specs.declared.identifiers.Line.{Line}
use Rattle.cxl_message.specs.declared.identifiers.Tag.{Tag}
use Rattle.cxl_message.specs.declared.messages.Message.{Message}
use Rattle.cxl_message.specs.declared.opcodes.Meta.{Meta}
use Rattle.cxl_message.specs.declared.opcodes.NdrOp.{NdrOp}
use Rattle.cxl_message.specs.declared.opcodes.SnpType.{SnpType}
use Rattle.cxl_message.specs.Messages.{has_tag}
use Rattle.coherence_model.specs.Buffers.{message_with, without_tag}
use Rattle.coherence_model.specs.DeviceActs.{served_by}
use Rattle.device_record.specs.Changes.{memory_written}
use Rattle.device_record.specs.Record.{writes_at}
use Rattle.device_record.specs.Tables.{changed_at}
use Rattle.line_pool.specs.Pools.{Pool, line_of}
use Rattle.device_lines.specs.declared.buffers.Write.{Write}
use Rattle.device_lines.specs.Buffered.{bytes_of, completion_of, has_write_tag, message_of, messages_of, served_as, tag_of_write, without_write}
use Rattle.device_lines.specs.Lines.{LinesRecord, ndr_with, served_message, write_of}
use Rattle.device_lines.specs.Region.{IsShared, buffer_slots, buffer_times, is_slot, lines_seen, one_in_use, slot_times, slots_of, times_named}
use Rattle.device_lines.proofs.Sums.{all_stays, changed_is, get_other, get_same, mapped_get, set_again, shorter, sum_bounded, sum_set, sum_without, without_by}

inner : (x y : Write) → Some x ≡ Some y → x ≡ y
inner x y same = cc

-- ---- slots

pub slot_same : (s : ℕ) → is_slot s s ≡ 1
slot_same s = ap (λ b. cond b 1 0) (eq-eqb s s refl)

pub slot_other : (s t : ℕ) → (t ≡ s → ⊥) → is_slot s t ≡ 0
slot_other s t other = ap (λ b. cond b 1 0) (ne_eqb t s other)

-- the later of two values that are set stands
pub set_twice : {X : Type 0} (xs : List X) (k : ℕ) (x y : X) → slice_set (slice_set xs k x) k y ≡ slice_set xs k y
set_twice [] k x y = refl
set_twice (z ∷ xs) zero x y = refl
set_twice (z ∷ xs) (suc k) x y = ap (λ l. z ∷ l) (set_twice xs k x y)

-- the pool with a slot set
abbrev pub pool_set : Pool → ℕ → Option (List ℕ) → ℕ → Pool
pool_set pool t o spare = record { slots = slice_set pool.slots t o; spare = spare }

pub at_set : (pool : Pool) (t : ℕ) (o : Option (List ℕ)) (spare : ℕ) → t < length pool.slots → line_of (pool_set pool t o spare) t ≡ o
at_set pool t o spare low = get_or-set_same pool.slots t o None low

pub past_set : (pool : Pool) (t s : ℕ) (o : Option (List ℕ)) (spare : ℕ) → (s ≡ t → ⊥) → line_of (pool_set pool t o spare) s ≡ line_of pool s
past_set pool t s o spare other = get_or-set_other pool.slots t s o None other

some_by : (o : Option (List ℕ)) → 1 ≤ one_in_use o → IsSome o
some_by None some = absurd (omega (arith, some))
some_by (Some x) some = search arith

-- a slot that is named is in use
pub named_in_use : (pool : Pool) (lines : List ℕ) (buffers : List (List Write)) (room : ℕ) → IsShared pool lines buffers room → (s : ℕ) → 1 ≤ times_named s lines buffers → IsSome (line_of pool s)
named_in_use pool lines buffers room shared s some = some_by (line_of pool s) (omega (arith, some, shared.named s))

none_is : (o : Option (List ℕ)) → o ≡ None → IsSome o → ⊥
none_is None is some = false≢true some
none_is (Some x) is some = none-some x (sym is)

pub within_by : (slots : List (Option (List ℕ))) (s : ℕ) → IsSome (get_or slots s None) → s < length slots
within_by [] s some = absurd (none_is None refl some)
within_by (o ∷ slots) zero some = omega arith
within_by (o ∷ slots) (suc s) some = omega (arith, within_by slots s some)

-- the slot of a line is in use, and is named once
pub line_named : (lines : List ℕ) (buffers : List (List Write)) (a s : ℕ) → slice_get lines a ≡ Some s → 1 ≤ times_named s lines buffers
line_named lines buffers a s is =
    let low = slice_get_within lines a s is in
    let own : is_slot s (get_or lines a s) ≡ 1 = ap (is_slot s) (get_or_from_slice_get lines a s s is) ∙ slot_same s in
    omega (arith, own, sum_by-set (is_slot s) lines a (suc s) s low, slot_other s (suc s) (λ same. omega (arith, same)))

-- ---- frames

same_bytes : (pool later : Pool) (s : ℕ) → line_of later s ≡ line_of pool s → bytes_of later s ≡ bytes_of pool s
same_bytes pool later s same = ap (λ (o : Option (List ℕ)). record { 0 = unwrap_or o (replicate 64 0) }) same

same_message : (pool later : Pool) (w : Write) → ((s : ℕ) → 1 ≤ slot_times s w → line_of later s ≡ line_of pool s) → message_of later w ≡ message_of pool w
same_message pool later (Write.Line meta snp tag line slot) each = ap (Message.MemWr meta snp tag line) (same_bytes pool later slot (each slot (omega (arith, slot_same slot))))
same_message pool later (Write.Conflict tag) each = refl

-- the messages of a host are the same where their slots are
pub same_messages : (pool later : Pool) (ws : List Write) → ((s : ℕ) → 1 ≤ buffer_times s ws → line_of later s ≡ line_of pool s) → messages_of later ws ≡ messages_of pool ws
same_messages pool later [] each = refl
same_messages pool later (w ∷ ws) each =
    λ i. same_message pool later w (λ s some. each s (omega (arith, some, sum_by-cons (slot_times s) w ws))) i
    ∷ same_messages pool later ws (λ s some. each s (omega (arith, some, sum_by-cons (slot_times s) w ws))) i

pub same_buffers : (pool later : Pool) (buffers : List (List Write)) → ((s : ℕ) → 1 ≤ sum_by (buffer_times s) buffers → line_of later s ≡ line_of pool s) → map (messages_of later) buffers ≡ map (messages_of pool) buffers
same_buffers pool later [] each = refl
same_buffers pool later (ws ∷ buffers) each =
    λ i. same_messages pool later ws (λ s some. each s (omega (arith, some, sum_by-cons (buffer_times s) ws buffers))) i
    ∷ same_buffers pool later buffers (λ s some. each s (omega (arith, some, sum_by-cons (buffer_times s) ws buffers))) i

pub same_memory : (pool later : Pool) (lines : List ℕ) → ((s : ℕ) → 1 ≤ sum_by (is_slot s) lines → line_of later s ≡ line_of pool s) → map (bytes_of later) lines ≡ map (bytes_of pool) lines
same_memory pool later [] each = refl
same_memory pool later (t ∷ lines) each =
    λ i. same_bytes pool later t (each t (omega (arith, slot_same t, sum_by-cons (is_slot t) t lines))) i
    ∷ same_memory pool later lines (λ s some. each s (omega (arith, some, sum_by-cons (is_slot s) t lines))) i

-- ---- a host's messages

pub host_messages : (pool : Pool) (buffers : List (List Write)) (h : ℕ) (ws : List Write) → slice_get buffers h ≡ Some ws → writes_at h (map (messages_of pool) buffers) ≡ messages_of pool ws
host_messages pool buffers h ws is = ap (λ o. unwrap_or o []) (mapped_get (messages_of pool) buffers h ∙ ap (option_map (messages_of pool)) is)

tagged_same : (pool : Pool) (tag : ℕ) (w : Write) → has_tag tag (message_of pool w) ≡ has_write_tag tag w
tagged_same pool tag (Write.Line meta snp t line slot) = refl
tagged_same pool tag (Write.Conflict t) = refl

found_by : (pool : Pool) (w : Write) (ws : List Write) (b : Bool) (o : Option Message) (p : Option Write) → o ≡ option_map (message_of pool) p → cond b (Some (message_of pool w)) o ≡ option_map (message_of pool) (cond b (Some w) p)
found_by pool w ws true o p rest = refl
found_by pool w ws false o p rest = rest

-- the message with a tag is that of the buffered one
pub found_same : (pool : Pool) (tag : ℕ) (ws : List Write) → message_with tag (messages_of pool ws) ≡ option_map (message_of pool) (find (has_write_tag tag) ws)
found_same pool tag [] = refl
found_same pool tag (w ∷ ws) =
    ap (λ b. cond b (Some (message_of pool w)) (message_with tag (messages_of pool ws))) (tagged_same pool tag w)
    ∙ found_by pool w ws (has_write_tag tag w) (message_with tag (messages_of pool ws)) (find (has_write_tag tag) ws) (found_same pool tag ws)

gone_by : (pool : Pool) (w : Write) (ws : List Write) (b : Bool) (l : List Message) (k : List Write) → l ≡ messages_of pool k → cond b (messages_of pool ws) (message_of pool w ∷ l) ≡ messages_of pool (cond b ws (w ∷ k))
gone_by pool w ws true l k rest = refl
gone_by pool w ws false l k rest = ap (λ r. message_of pool w ∷ r) rest

pub gone_same : (pool : Pool) (tag : ℕ) (ws : List Write) → without_tag tag (messages_of pool ws) ≡ messages_of pool (without_write tag ws)
gone_same pool tag [] = refl
gone_same pool tag (w ∷ ws) =
    ap (λ b. cond b (messages_of pool ws) (message_of pool w ∷ without_tag tag (messages_of pool ws))) (tagged_same pool tag w)
    ∙ gone_by pool w ws (has_write_tag tag w) (without_tag tag (messages_of pool ws)) (without_write tag ws) (gone_same pool tag ws)

pub without_same : (tag : ℕ) (ws : List Write) → without_write tag ws ≡ without_by (has_write_tag tag) ws
without_same tag [] = refl
without_same tag (w ∷ ws) = ap (λ l. cond (has_write_tag tag w) ws (w ∷ l)) (without_same tag ws)

pushed_messages : (pool : Pool) (ws : List Write) (w : Write) → messages_of pool (ws ++ w ∷ []) ≡ messages_of pool ws ++ message_of pool w ∷ []
pushed_messages pool [] w = refl
pushed_messages pool (x ∷ ws) w = ap (λ l. message_of pool x ∷ l) (pushed_messages pool ws w)

-- the messages of all hosts where those of one are others
pub buffers_set : (pool : Pool) (buffers : List (List Write)) (h : ℕ) (ws later : List Write) (change : List Message → List Message) → slice_get buffers h ≡ Some ws → messages_of pool later ≡ change (messages_of pool ws)
    → map (messages_of pool) (slice_set buffers h later) ≡ changed_at h change (map (messages_of pool) buffers)
buffers_set pool buffers h ws later change is same =
    map-set (messages_of pool) buffers h later ∙ ap (slice_set (map (messages_of pool) buffers) h) same
    ∙ sym (changed_is h change (map (messages_of pool) buffers) (messages_of pool ws) (mapped_get (messages_of pool) buffers h ∙ ap (option_map (messages_of pool)) is))

-- ---- room

slots_few : (ws : List Write) → buffer_slots ws ≤ length ws
slots_few [] = omega arith
slots_few (Write.Line meta snp tag line slot ∷ ws) = omega (arith, slots_few ws, sum_by-cons slots_of (Write.Line meta snp tag line slot) ws)
slots_few (Write.Conflict tag ∷ ws) = omega (arith, slots_few ws, sum_by-cons slots_of (Write.Conflict tag) ws)

pub fits_by : (buffers : List (List Write)) (h k room : ℕ) (ws later : List Write) → slice_get buffers h ≡ Some ws → length later ≤ room → length (unwrap_or (slice_get buffers k) []) ≤ room → (k ≡ h) ⊎ (k ≡ h → ⊥) → length (unwrap_or (slice_get (slice_set buffers h later) k) []) ≤ room
fits_by buffers h k room ws later is few old (inl same) =
    subst (λ (o : Option (List Write)). length (unwrap_or o []) ≤ room) (sym (ap (slice_get (slice_set buffers h later)) same ∙ get_same buffers h later (slice_get_within buffers h ws is))) few
fits_by buffers h k room ws later is few old (inr other) = subst (λ (o : Option (List Write)). length (unwrap_or o []) ≤ room) (sym (get_other buffers h k later other)) old

few_slots : (buffers : List (List Write)) (h k room : ℕ) (ws later : List Write) → slice_get buffers h ≡ Some ws → length later ≤ room → length (unwrap_or (slice_get buffers k) []) ≤ room → buffer_slots (unwrap_or (slice_get (slice_set buffers h later) k) []) ≤ room
few_slots buffers h k room ws later is few old =
    omega (arith, slots_few (unwrap_or (slice_get (slice_set buffers h later) k) []), fits_by buffers h k room ws later is few old (cases_eq k h))

-- a slot is spare where a host may have one more message
pub slot_left : (pool : Pool) (lines : List ℕ) (buffers : List (List Write)) (room h : ℕ) (ws : List Write) → IsShared pool lines buffers room → slice_get buffers h ≡ Some ws → length ws < room → 0 < pool.spare
slot_left pool lines buffers room h ws shared is fewer =
    let w : Write = Write.Line Meta.Any SnpType.NoOp (record { 0 = 0 }) (record { 0 = 0 }) 0 in
    let later : List Write = ws ++ w ∷ [] in
    let longer : length later ≤ room = omega (arith, length-append ws (w ∷ []), fewer) in
    let bound = sum_bounded buffer_slots room [] (slice_set buffers h later) (λ k. few_slots buffers h k room ws later is longer (shared.fits k)) in
    let more : buffer_slots later ≡ buffer_slots ws + 1 = sum_by_push slots_of ws w in
    omega (arith, bound, more, sum_set buffer_slots buffers h ws later is, shared.spare, ap (λ n. n * room) (length-set buffers h later))

-- ---- a message is pushed

-- a slot that is named is another than one that isn't in use
unnamed : (pool : Pool) (lines : List ℕ) (buffers : List (List Write)) (room : ℕ) → IsShared pool lines buffers room → (t s : ℕ) → line_of pool t ≡ None → 1 ≤ times_named s lines buffers → s ≡ t → ⊥
unnamed pool lines buffers room shared t s none some same =
    let gone : one_in_use (line_of pool s) ≡ 0 = ap (λ k. one_in_use (line_of pool k)) same ∙ ap one_in_use none in
    omega (arith, gone, some, shared.named s)

pushed_counts : (s : ℕ) (lines : List ℕ) (buffers : List (List Write)) (h : ℕ) (ws : List Write) (w : Write) → slice_get buffers h ≡ Some ws → times_named s lines (slice_set buffers h (ws ++ w ∷ [])) ≡ times_named s lines buffers + slot_times s w
pushed_counts s lines buffers h ws w is = omega (arith, sum_set (buffer_times s) buffers h ws (ws ++ w ∷ []) is, sum_by_push (slot_times s) ws w)

named_by : (pool : Pool) (lines : List ℕ) (buffers : List (List Write)) (room : ℕ) → IsShared pool lines buffers room → (h t s : ℕ) (ws : List Write) (meta : Meta) (snp : SnpType) (tag : Tag) (line : Line) (bytes : List ℕ) → slice_get buffers h ≡ Some ws → t < length pool.slots → line_of pool t ≡ None → (s ≡ t) ⊎ (s ≡ t → ⊥)
    → times_named s lines (slice_set buffers h (ws ++ Write.Line meta snp tag line t ∷ [])) ≡ one_in_use (line_of (pool_set pool t (Some bytes) (pool.spare - 1)) s)
named_by pool lines buffers room shared h t s ws meta snp tag line bytes is low none (inl same) =
    subst (λ k. times_named k lines (slice_set buffers h (ws ++ Write.Line meta snp tag line t ∷ [])) ≡ one_in_use (line_of (pool_set pool t (Some bytes) (pool.spare - 1)) k)) (sym same)
    (let before : times_named t lines buffers ≡ 0 = shared.named t ∙ ap one_in_use none in
    let after : one_in_use (line_of (pool_set pool t (Some bytes) (pool.spare - 1)) t) ≡ 1 = ap one_in_use (at_set pool t (Some bytes) (pool.spare - 1) low) in
    omega (arith, before, after, slot_same t, pushed_counts t lines buffers h ws (Write.Line meta snp tag line t) is))
named_by pool lines buffers room shared h t s ws meta snp tag line bytes is low none (inr other) =
    let after : one_in_use (line_of (pool_set pool t (Some bytes) (pool.spare - 1)) s) ≡ one_in_use (line_of pool s) = ap one_in_use (past_set pool t s (Some bytes) (pool.spare - 1) other) in
    omega (arith, after, shared.named s, slot_other s t (λ same. other (sym same)), pushed_counts s lines buffers h ws (Write.Line meta snp tag line t) is)

-- the slots belong together where bytes were put into a slot that was spare, and a message with it is buffered
pub write_shared : (pool : Pool) (lines : List ℕ) (buffers : List (List Write)) (room : ℕ) → IsShared pool lines buffers room → (h t : ℕ) (ws : List Write) (meta : Meta) (snp : SnpType) (tag : Tag) (line : Line) (bytes : List ℕ) → slice_get buffers h ≡ Some ws → t < length pool.slots → line_of pool t ≡ None
    → 0 < pool.spare → length ws < room → IsShared (pool_set pool t (Some bytes) (pool.spare - 1)) lines (slice_set buffers h (ws ++ Write.Line meta snp tag line t ∷ [])) room
write_shared pool lines buffers room shared h t ws meta snp tag line bytes is low none some fewer =
    let w : Write = Write.Line meta snp tag line t in
    let later : List Write = ws ++ w ∷ [] in
    let more : buffer_slots later ≡ buffer_slots ws + 1 = sum_by_push slots_of ws w in
    record {
      named = λ s. named_by pool lines buffers room shared h t s ws meta snp tag line bytes is low none (cases_eq s t);
      spare = omega (arith, more, sum_set buffer_slots buffers h ws later is, shared.spare, some, ap (λ n. n * room) (length-set buffers h later));
      fits = λ k. fits_by buffers h k room ws later is (omega (arith, length-append ws (w ∷ []), fewer)) (shared.fits k) (cases_eq k h);
      most = shared.most;
    }

-- what is seen then
pub write_seen : (pool : Pool) (lines : List ℕ) (buffers : List (List Write)) (room : ℕ) → IsShared pool lines buffers room → (h t : ℕ) (ws : List Write) (meta : Meta) (snp : SnpType) (tag : Tag) (line : Line) (bytes : Bytes64) → slice_get buffers h ≡ Some ws → t < length pool.slots → line_of pool t ≡ None
    → lines_seen (pool_set pool t (Some bytes.0) (pool.spare - 1)) lines (slice_set buffers h (ws ++ Write.Line meta snp tag line t ∷ [])) room
    ≡ record (lines_seen pool lines buffers room) { writes = changed_at h (λ ms. ms ++ Message.MemWr meta snp tag line bytes ∷ []) (map (messages_of pool) buffers) }
write_seen pool lines buffers room shared h t ws meta snp tag line bytes is low none =
    let later : Pool = pool_set pool t (Some bytes.0) (pool.spare - 1) in
    let w : Write = Write.Line meta snp tag line t in
    let apart : (s : ℕ) → 1 ≤ times_named s lines buffers → line_of later s ≡ line_of pool s = λ s some. past_set pool t s (Some bytes.0) (pool.spare - 1) (unnamed pool lines buffers room shared t s none some) in
    let memory : map (bytes_of later) lines ≡ map (bytes_of pool) lines = same_memory pool later lines (λ s some. apart s (omega (arith, some))) in
    let own : messages_of later (ws ++ w ∷ []) ≡ messages_of later ws ++ Message.MemWr meta snp tag line bytes ∷ [] =
    pushed_messages later ws w ∙ ap (λ (b : Bytes64). messages_of later ws ++ Message.MemWr meta snp tag line b ∷ []) (ap (λ (o : Option (List ℕ)). record { 0 = unwrap_or o (replicate 64 0) }) (at_set pool t (Some bytes.0) (pool.spare - 1) low)) in
    let writes = buffers_set later buffers h ws (ws ++ w ∷ []) (λ (ms : List Message). ms ++ Message.MemWr meta snp tag line bytes ∷ []) is own
    ∙ ap (changed_at h (λ (ms : List Message). ms ++ Message.MemWr meta snp tag line bytes ∷ [])) (same_buffers pool later buffers (λ s some. apart s (omega (arith, some)))) in
    λ i. record { memory = memory i; writes = writes i; room = room }

-- the same for a message without a slot
pub conflict_shared : (pool : Pool) (lines : List ℕ) (buffers : List (List Write)) (room : ℕ) → IsShared pool lines buffers room → (h : ℕ) (ws : List Write) (tag : Tag) → slice_get buffers h ≡ Some ws → length ws < room → IsShared pool lines (slice_set buffers h (ws ++ Write.Conflict tag ∷ [])) room
conflict_shared pool lines buffers room shared h ws tag is fewer =
    let w : Write = Write.Conflict tag in
    let later : List Write = ws ++ w ∷ [] in
    let more : buffer_slots later ≡ buffer_slots ws + 0 = sum_by_push slots_of ws w in
    record {
      named = λ s. omega (arith, shared.named s, pushed_counts s lines buffers h ws w is);
      spare = omega (arith, more, sum_set buffer_slots buffers h ws later is, shared.spare, ap (λ n. n * room) (length-set buffers h later));
      fits = λ k. fits_by buffers h k room ws later is (omega (arith, length-append ws (w ∷ []), fewer)) (shared.fits k) (cases_eq k h);
      most = shared.most;
    }

pub conflict_seen : (pool : Pool) (lines : List ℕ) (buffers : List (List Write)) (room h : ℕ) (ws : List Write) (tag : Tag) → slice_get buffers h ≡ Some ws
    → lines_seen pool lines (slice_set buffers h (ws ++ Write.Conflict tag ∷ [])) room ≡ record (lines_seen pool lines buffers room) { writes = changed_at h (λ ms. ms ++ Message.BiConflict tag ∷ []) (map (messages_of pool) buffers) }
conflict_seen pool lines buffers room h ws tag is =
    let writes = buffers_set pool buffers h ws (ws ++ Write.Conflict tag ∷ []) (λ (ms : List Message). ms ++ Message.BiConflict tag ∷ []) is (pushed_messages pool ws (Write.Conflict tag)) in
    λ i. record { memory = map (bytes_of pool) lines; writes = writes i; room = room }

-- ---- what is read of a host

-- a host's messages are there
pub host_there : (buffers : List (List Write)) (h : ℕ) → h < length buffers → slice_get buffers h ≡ Some (unwrap_or (slice_get buffers h) [])
host_there [] h low = absurd (omega arith)
host_there (ws ∷ buffers) zero low = refl
host_there (ws ∷ buffers) (suc h) low = host_there buffers h (omega arith)

pub host_fits : (pool : Pool) (lines : List ℕ) (buffers : List (List Write)) (room : ℕ) (v : LinesRecord) (h : ℕ) → lines_seen pool lines buffers room ≡ v → h < length v.writes → h < length buffers
host_fits pool lines buffers room v h is low = omega (arith, low, ap (λ (w : LinesRecord). length w.writes) is, length-map buffers (messages_of pool))

-- a host has room for one more
pub host_room : (pool : Pool) (lines : List ℕ) (buffers : List (List Write)) (room : ℕ) (v : LinesRecord) (h : ℕ) (ws : List Write) → lines_seen pool lines buffers room ≡ v → slice_get buffers h ≡ Some ws → length (writes_at h v.writes) < v.room → length ws < room
host_room pool lines buffers room v h ws is there fewer =
    omega (
      arith,
      fewer,
      ap (λ (w : LinesRecord). w.room) is,
      ap (λ (w : LinesRecord). length (writes_at h w.writes)) is,
      ap length (host_messages pool buffers h ws there),
      length-map ws (message_of pool),
    )

served_same : (pool : Pool) (o : Option Write) → option_map served_as o ≡ option_map served_message (option_map (message_of pool) o)
served_same pool None = refl
served_same pool (Some (Write.Line meta snp tag line slot)) = refl
served_same pool (Some (Write.Conflict tag)) = refl

-- what the message with a tag is
pub served_is : (pool : Pool) (lines : List ℕ) (buffers : List (List Write)) (room : ℕ) (v : LinesRecord) (h tag : ℕ) (ws : List Write) (o : Option Write) → lines_seen pool lines buffers room ≡ v → slice_get buffers h ≡ Some ws → o ≡ find (has_write_tag tag) ws
    → option_map served_as o ≡ option_map served_message (message_with tag (writes_at h v.writes))
served_is pool lines buffers room v h tag ws o is there found =
    served_same pool o
    ∙ ap (λ (p : Option Write). option_map served_message (option_map (message_of pool) p)) found
    ∙ ap (option_map served_message) (sym (found_same pool tag ws))
    ∙ ap (λ (ms : List Message). option_map served_message (message_with tag ms)) (sym (host_messages pool buffers h ws there))
    ∙ ap (λ (w : LinesRecord). option_map served_message (message_with tag (writes_at h w.writes))) is

-- a host's messages that are read
pub host_read : (buffers : List (List Write)) (h : ℕ) (ws : List Write) → h < length buffers → ws ≡ get_or buffers h ws → slice_get buffers h ≡ Some ws
host_read buffers h ws low read = slice_get_read buffers (length buffers) h ws refl low read

find_by : (p : Write → Bool) (w x : Write) (xs : List Write) (b : Bool) → p x ≡ b → cond b (Some x) (find p xs) ≡ Some w → (find p xs ≡ Some w → p w ≡ true) → p w ≡ true
find_by p w x xs true is found rest = subst (λ y. p y ≡ true) (inner x w found) is
find_by p w x xs false is found rest = rest found

find_passes : (p : Write → Bool) (w : Write) (xs : List Write) → find p xs ≡ Some w → p w ≡ true
find_passes p w [] found = absurd (none-some w found)
find_passes p w (x ∷ xs) found = find_by p w x xs (p x) refl found (find_passes p w xs)

completed_some : (pool : Pool) (tag : Tag) (w : Write) → has_write_tag tag.0 w ≡ true → option_map (ndr_with tag) (Some (completion_of w)) ≡ option_and_then served_by (Some (message_of pool w))
completed_some pool tag (Write.Line meta snp t line slot) has = ap (λ (n : ℕ). Some (Message.Ndr NdrOp.Cmp (record { 0 = n }))) (sym (eqb-true t.0 tag.0 has))
completed_some pool tag (Write.Conflict t) has = ap (λ (n : ℕ). Some (Message.Ndr NdrOp.ConflictAck (record { 0 = n }))) (sym (eqb-true t.0 tag.0 has))

completed_by : (pool : Pool) (tag : Tag) (ws : List Write) (o : Option Write) → find (has_write_tag tag.0) ws ≡ o → option_map (ndr_with tag) (option_map completion_of o) ≡ option_and_then served_by (option_map (message_of pool) o)
completed_by pool tag ws None found = refl
completed_by pool tag ws (Some w) found = completed_some pool tag w (find_passes (has_write_tag tag.0) w ws found)

-- the message that answers the one with a tag
pub completion_is : (pool : Pool) (lines : List ℕ) (buffers : List (List Write)) (room : ℕ) (v : LinesRecord) (h : ℕ) (tag : Tag) (ws : List Write) (o : Option Write) → lines_seen pool lines buffers room ≡ v → slice_get buffers h ≡ Some ws → o ≡ find (has_write_tag tag.0) ws
    → option_map (ndr_with tag) (option_map completion_of o) ≡ option_and_then served_by (message_with tag.0 (writes_at h v.writes))
completion_is pool lines buffers room v h tag ws o is there found =
    completed_by pool tag ws o (sym found)
    ∙ ap (λ (p : Option Write). option_and_then served_by (option_map (message_of pool) p)) found
    ∙ ap (option_and_then served_by) (sym (found_same pool tag.0 ws))
    ∙ ap (λ (ms : List Message). option_and_then served_by (message_with tag.0 ms)) (sym (host_messages pool buffers h ws there))
    ∙ ap (λ (w : LinesRecord). option_and_then served_by (message_with tag.0 (writes_at h w.writes))) is

pub some_mapped : {X Y : Type 0} (f : X → Y) (o : Option X) → is_some (option_map f o) ≡ is_some o
some_mapped f None = refl
some_mapped f (Some x) = refl
