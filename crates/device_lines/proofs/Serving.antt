-- A buffered message is served: its line names its slot, and the line's old slot is given back.
use Rattle.std.proofs.Common.{◌≡◌, ℕ, zero, suc, ◌+◌, ◌-◌, ◌*◌, ◌<◌, ◌≤◌, ◌⊎◌, inl, inr, Bool, true, false, List, [], ◌∷◌, ◌++◌, Option, Some, None, cond, length, map, get_or, replicate, sum_by, refl, ap, sym, ◌∙◌, subst, arith}
use Rattle.std.specs.Prelude.{IfSome, find, option_and_then, option_map, slice_get, slice_set, unwrap_or, ◌==◌}
use Rattle.std.proofs.lemmas.Bool.{cases_eq}
use Rattle.std.proofs.lemmas.List.{length-map, length-set, map-set}
use Rattle.std.proofs.lemmas.Option.{none-some, slice_get_within}
use Rattle.cxl_message.specs.declared.identifiers.Bytes64.{Bytes64}
use Rattle.cxl_message.specs.declared.identifiers.Line.{Line}
use Rattle.cxl_message.specs.declared.identifiers.Tag.{Tag}
use Rattle.cxl_message.specs.declared.messages.Message.{Message}
use Rattle.cxl_message.specs.declared.opcodes.Meta.{Meta}
use Rattle.cxl_message.specs.declared.opcodes.SnpType.{SnpType}
use Rattle.coherence_model.specs.Buffers.{message_with, without_tag}
use Rattle.coherence_model.specs.Memory.{write_in}
use Rattle.device_record.specs.Changes.{memory_written}
use Rattle.device_record.specs.Record.{writes_at}
use Rattle.device_record.specs.Tables.{changed_at}
use Rattle.line_pool.specs.Pools.{Pool, line_of}
use Rattle.device_lines.specs.declared.buffers.Target.{Target}
use Rattle.device_lines.specs.declared.buffers.Write.{Write}
use Rattle.device_lines.specs.Buffered.{bytes_of, has_write_tag, message_of, messages_of, target_of, without_write}
use Rattle.device_lines.specs.Lines.{LinesRecord, served_record, write_of}
use Rattle.device_lines.specs.Region.{IsShared, buffer_slots, buffer_times, is_slot, lines_seen, one_in_use, slot_times, slots_of, times_named}
use Rattle.device_lines.proofs.Sums.{all_stays, changed_is, mapped_get, set_again, shorter, sum_set, sum_without, without_by}
use Rattle.device_lines.proofs.Regions.{at_set, buffers_set, fits_by, found_same, gone_same, host_messages, line_named, named_in_use, past_set, pool_set, same_buffers, same_memory, slot_other, slot_same, within_by, without_same}

-- a host's messages without the one that was found
sum_gone : (f : Write → ℕ) (tag : ℕ) (ws : List Write) (w : Write) → find (has_write_tag tag) ws ≡ Some w → sum_by f (without_write tag ws) + f w ≡ sum_by f ws
sum_gone f tag ws w found = ap (λ l. sum_by f l + f w) (without_same tag ws) ∙ sum_without f (has_write_tag tag) w ws found

fewer : (tag : ℕ) (ws : List Write) → length (without_write tag ws) ≤ length ws
fewer tag ws = subst (λ (l : List Write). length l ≤ length ws) (sym (without_same tag ws)) (shorter (has_write_tag tag) ws)

-- what a host's message that was found would write
pub write_found : (pool : Pool) (buffers : List (List Write)) (h tag : ℕ) (ws : List Write) (o : Option Write) → slice_get buffers h ≡ Some ws → find (has_write_tag tag) ws ≡ o → write_of h tag (map (messages_of pool) buffers) ≡ option_and_then write_in (option_map (message_of pool) o)
write_found pool buffers h tag ws o is found =
    ap (λ (ms : List Message). option_and_then write_in (message_with tag ms)) (host_messages pool buffers h ws is)
    ∙ ap (option_and_then write_in) (found_same pool tag ws ∙ ap (option_map (message_of pool)) found)

-- how often a slot is named then
served_counts : (s : ℕ) (lines : List ℕ) (buffers : List (List Write)) (a old t h tag : ℕ) (ws : List Write) (w : Write) → slice_get lines a ≡ Some old → slice_get buffers h ≡ Some ws → find (has_write_tag tag) ws ≡ Some w → slot_times s w ≡ is_slot s t
    → times_named s (slice_set lines a t) (slice_set buffers h (without_write tag ws)) + is_slot s old ≡ times_named s lines buffers
served_counts s lines buffers a old t h tag ws w line is found own =
    omega (arith, own, sum_set (is_slot s) lines a old t line, sum_set (buffer_times s) buffers h ws (without_write tag ws) is, sum_gone (slot_times s) tag ws w found)

at_most : (o : Option (List ℕ)) (n : ℕ) → n ≡ one_in_use o → n ≤ 1
at_most None n is = omega (arith, is)
at_most (Some x) n is = omega (arith, is)

-- a line's slot isn't named twice
named_once : (pool : Pool) (lines : List ℕ) (buffers : List (List Write)) (room : ℕ) → IsShared pool lines buffers room → (s : ℕ) → times_named s lines buffers ≤ 1
named_once pool lines buffers room shared s = at_most (line_of pool s) (times_named s lines buffers) (shared.named s)

served_named : (pool : Pool) (lines : List ℕ) (buffers : List (List Write)) (room : ℕ) → IsShared pool lines buffers room → (s a old t h tag : ℕ) (ws : List Write) (w : Write) → slice_get lines a ≡ Some old → slice_get buffers h ≡ Some ws → find (has_write_tag tag) ws ≡ Some w → slot_times s w ≡ is_slot s t
    → old < length pool.slots → (s ≡ old) ⊎ (s ≡ old → ⊥) → times_named s (slice_set lines a t) (slice_set buffers h (without_write tag ws)) ≡ one_in_use (line_of (pool_set pool old None (pool.spare + 1)) s)
served_named pool lines buffers room shared s a old t h tag ws w line is found own low (inl same) =
    let after : one_in_use (line_of (pool_set pool old None (pool.spare + 1)) s) ≡ 0 = ap (λ k. one_in_use (line_of (pool_set pool old None (pool.spare + 1)) k)) same ∙ ap one_in_use (at_set pool old None (pool.spare + 1) low) in
    let here : is_slot s old ≡ 1 = ap (λ k. is_slot k old) same ∙ slot_same old in
    omega (arith, after, here, named_once pool lines buffers room shared s, served_counts s lines buffers a old t h tag ws w line is found own)
served_named pool lines buffers room shared s a old t h tag ws w line is found own low (inr other) =
    let after : one_in_use (line_of (pool_set pool old None (pool.spare + 1)) s) ≡ one_in_use (line_of pool s) = ap one_in_use (past_set pool old s None (pool.spare + 1) other) in
    omega (arith, after, shared.named s, slot_other s old (λ same. other (sym same)), served_counts s lines buffers a old t h tag ws w line is found own)

own_fits : (buffers : List (List Write)) (h room : ℕ) (ws : List Write) → slice_get buffers h ≡ Some ws → length (unwrap_or (slice_get buffers h) []) ≤ room → (n : ℕ) → n ≤ length ws → n ≤ room
own_fits buffers h room ws is fits n less = let own : length ws ≤ room = subst (λ (o : Option (List Write)). length (unwrap_or o []) ≤ room) is fits in omega (arith, own, less)

-- a slot that is still named isn't the one that was given back
still_named : (pool : Pool) (now : List ℕ) (left : List (List Write)) (room old : ℕ) → IsShared (pool_set pool old None (pool.spare + 1)) now left room → (s : ℕ) → old < length pool.slots → 1 ≤ times_named s now left → s ≡ old → ⊥
still_named pool now left room old shared s low some same =
    let gone : one_in_use (line_of (pool_set pool old None (pool.spare + 1)) s) ≡ 0 = ap (λ k. one_in_use (line_of (pool_set pool old None (pool.spare + 1)) k)) same ∙ ap one_in_use (at_set pool old None (pool.spare + 1) low) in
    omega (arith, gone, some, shared.named s)

-- the slots belong together then
pub served_shared : (pool : Pool) (lines : List ℕ) (buffers : List (List Write)) (room : ℕ) → IsShared pool lines buffers room → (a old t h tag : ℕ) (ws : List Write) (meta : Meta) (snp : SnpType) (tg : Tag) (line : Line) → slice_get lines a ≡ Some old → slice_get buffers h ≡ Some ws → find (has_write_tag tag) ws ≡ Some (Write.Line meta snp tg line t)
    → old < length pool.slots → IsShared (pool_set pool old None (pool.spare + 1)) (slice_set lines a t) (slice_set buffers h (without_write tag ws)) room
served_shared pool lines buffers room shared a old t h tag ws meta snp tg line at is found low =
    let w : Write = Write.Line meta snp tg line t in
    record {
      named = λ s. served_named pool lines buffers room shared s a old t h tag ws w at is found refl low (cases_eq s old);
      spare = omega (arith, sum_set buffer_slots buffers h ws (without_write tag ws) is, sum_gone slots_of tag ws w found, shared.spare, ap (λ n. n * room) (length-set buffers h (without_write tag ws)));
      fits = λ k. fits_by buffers h k room ws (without_write tag ws) is (own_fits buffers h room ws is (shared.fits h) (length (without_write tag ws)) (fewer tag ws)) (shared.fits k) (cases_eq k h);
      most = shared.most;
    }

-- what is seen then
pub served_seen : (pool : Pool) (lines : List ℕ) (buffers : List (List Write)) (room : ℕ) → IsShared pool lines buffers room → (a old t h tag : ℕ) (ws : List Write) (meta : Meta) (snp : SnpType) (tg : Tag) (line : Line) → line.0 ≡ a → slice_get lines a ≡ Some old → slice_get buffers h ≡ Some ws → find (has_write_tag tag) ws ≡ Some (Write.Line meta snp tg line t)
    → old < length pool.slots
    → lines_seen (pool_set pool old None (pool.spare + 1)) (slice_set lines a t) (slice_set buffers h (without_write tag ws)) room
    ≡ record { memory = memory_written (write_of h tag (map (messages_of pool) buffers)) (map (bytes_of pool) lines); writes = changed_at h (without_tag tag) (map (messages_of pool) buffers); room = room }
served_seen pool lines buffers room shared a old t h tag ws meta snp tg line at_line at is found low =
    let w : Write = Write.Line meta snp tg line t in
    let later : Pool = pool_set pool old None (pool.spare + 1) in
    let shared_later = served_shared pool lines buffers room shared a old t h tag ws meta snp tg line at is found low in
    let apart : (s : ℕ) → 1 ≤ times_named s (slice_set lines a t) (slice_set buffers h (without_write tag ws)) → line_of later s ≡ line_of pool s = λ s some. past_set pool old s None (pool.spare + 1) (still_named pool (slice_set lines a t) (slice_set buffers h (without_write tag ws)) room old shared_later s low some) in
    let memory : map (bytes_of later) (slice_set lines a t) ≡ memory_written (write_of h tag (map (messages_of pool) buffers)) (map (bytes_of pool) lines) =
    same_memory pool later (slice_set lines a t) (λ s some. apart s (omega (arith, some)))
    ∙ map-set (bytes_of pool) lines a t ∙ ap (λ k. slice_set (map (bytes_of pool) lines) k (bytes_of pool t)) (sym at_line)
    ∙ sym (ap (λ o. memory_written o (map (bytes_of pool) lines)) (write_found pool buffers h tag ws (Some w) is found)) in
    let writes : map (messages_of later) (slice_set buffers h (without_write tag ws)) ≡ changed_at h (without_tag tag) (map (messages_of pool) buffers) =
    same_buffers pool later (slice_set buffers h (without_write tag ws)) (λ s some. apart s (omega (arith, some)))
    ∙ buffers_set pool buffers h ws (without_write tag ws) (without_tag tag) is (sym (gone_same pool tag ws)) in
    λ i. record { memory = memory i; writes = writes i; room = room }

-- ---- a message without a slot

pub acknowledged_shared : (pool : Pool) (lines : List ℕ) (buffers : List (List Write)) (room : ℕ) → IsShared pool lines buffers room → (h tag : ℕ) (ws : List Write) (tg : Tag) → slice_get buffers h ≡ Some ws → find (has_write_tag tag) ws ≡ Some (Write.Conflict tg)
    → IsShared pool lines (slice_set buffers h (without_write tag ws)) room
acknowledged_shared pool lines buffers room shared h tag ws tg is found =
    let w : Write = Write.Conflict tg in
    record {
      named = λ s. omega (arith, shared.named s, sum_set (buffer_times s) buffers h ws (without_write tag ws) is, sum_gone (slot_times s) tag ws w found);
      spare = omega (arith, sum_set buffer_slots buffers h ws (without_write tag ws) is, sum_gone slots_of tag ws w found, shared.spare, ap (λ n. n * room) (length-set buffers h (without_write tag ws)));
      fits = λ k. fits_by buffers h k room ws (without_write tag ws) is (own_fits buffers h room ws is (shared.fits h) (length (without_write tag ws)) (fewer tag ws)) (shared.fits k) (cases_eq k h);
      most = shared.most;
    }

pub acknowledged_seen : (pool : Pool) (lines : List ℕ) (buffers : List (List Write)) (room h tag : ℕ) (ws : List Write) (tg : Tag) → slice_get buffers h ≡ Some ws → find (has_write_tag tag) ws ≡ Some (Write.Conflict tg)
    → lines_seen pool lines (slice_set buffers h (without_write tag ws)) room
    ≡ record { memory = memory_written (write_of h tag (map (messages_of pool) buffers)) (map (bytes_of pool) lines); writes = changed_at h (without_tag tag) (map (messages_of pool) buffers); room = room }
acknowledged_seen pool lines buffers room h tag ws tg is found =
    let memory = sym (ap (λ o. memory_written o (map (bytes_of pool) lines)) (write_found pool buffers h tag ws (Some (Write.Conflict tg)) is found)) in
    let writes = buffers_set pool buffers h ws (without_write tag ws) (without_tag tag) is (sym (gone_same pool tag ws)) in
    λ i. record { memory = memory i; writes = writes i; room = room }

-- ---- no message

pub none_seen : (pool : Pool) (lines : List ℕ) (buffers : List (List Write)) (room h tag : ℕ) (ws : List Write) → slice_get buffers h ≡ Some ws → find (has_write_tag tag) ws ≡ None
    → lines_seen pool lines buffers room ≡ record { memory = memory_written (write_of h tag (map (messages_of pool) buffers)) (map (bytes_of pool) lines); writes = changed_at h (without_tag tag) (map (messages_of pool) buffers); room = room }
none_seen pool lines buffers room h tag ws is found =
    let memory = sym (ap (λ o. memory_written o (map (bytes_of pool) lines)) (write_found pool buffers h tag ws None is found)) in
    let gone : without_write tag ws ≡ ws = without_same tag ws ∙ all_stays (has_write_tag tag) ws found in
    let writes = ap (map (messages_of pool)) (sym (ap (slice_set buffers h) gone ∙ set_again buffers h ws is)) ∙ buffers_set pool buffers h ws (without_write tag ws) (without_tag tag) is (sym (gone_same pool tag ws)) in
    λ i. record { memory = memory i; writes = writes i; room = room }

-- ---- by what the message writes

inner : (x y : Target) → Some x ≡ Some y → x ≡ y
inner x y same = cc

-- the line that is written exists
pub target_low : (pool : Pool) (w : Write) (t : Target) (n : ℕ) → target_of w ≡ Some t → IfSome (option_and_then write_in (Some (message_of pool w))) (λ x. x.0 < n) → t.line.0 < n
target_low pool (Write.Line meta snp tag line slot) t n is low = subst (λ (x : Target). x.line.0 < n) (inner (record { line = line; slot = slot }) t is) low
target_low pool (Write.Conflict tag) t n is low = absurd (none-some t is)

pub target_shared : (pool : Pool) (lines : List ℕ) (buffers : List (List Write)) (room : ℕ) → IsShared pool lines buffers room → (old h tag : ℕ) (ws : List Write) (w : Write) (t : Target) → target_of w ≡ Some t → slice_get lines t.line.0 ≡ Some old → slice_get buffers h ≡ Some ws → find (has_write_tag tag) ws ≡ Some w
    → old < length pool.slots → IsShared (pool_set pool old None (pool.spare + 1)) (slice_set lines t.line.0 t.slot) (slice_set buffers h (without_write tag ws)) room
target_shared pool lines buffers room shared old h tag ws (Write.Line meta snp tg line slot) t is at there found low =
    subst (λ (x : Target). slice_get lines x.line.0 ≡ Some old → IsShared (pool_set pool old None (pool.spare + 1)) (slice_set lines x.line.0 x.slot) (slice_set buffers h (without_write tag ws)) room) (inner (record { line = line; slot = slot }) t is)
    (λ here. served_shared pool lines buffers room shared line.0 old slot h tag ws meta snp tg line here there found low) at
target_shared pool lines buffers room shared old h tag ws (Write.Conflict tg) t is at there found low = absurd (none-some t is)

pub target_seen : (pool : Pool) (lines : List ℕ) (buffers : List (List Write)) (room : ℕ) → IsShared pool lines buffers room → (old h tag : ℕ) (ws : List Write) (w : Write) (t : Target) → target_of w ≡ Some t → slice_get lines t.line.0 ≡ Some old → slice_get buffers h ≡ Some ws → find (has_write_tag tag) ws ≡ Some w
    → old < length pool.slots → lines_seen (pool_set pool old None (pool.spare + 1)) (slice_set lines t.line.0 t.slot) (slice_set buffers h (without_write tag ws)) room ≡ served_record h tag (lines_seen pool lines buffers room)
target_seen pool lines buffers room shared old h tag ws (Write.Line meta snp tg line slot) t is at there found low =
    subst (λ (x : Target). slice_get lines x.line.0 ≡ Some old → lines_seen (pool_set pool old None (pool.spare + 1)) (slice_set lines x.line.0 x.slot) (slice_set buffers h (without_write tag ws)) room ≡ served_record h tag (lines_seen pool lines buffers room)) (inner (record { line = line; slot = slot }) t is)
    (λ here. served_seen pool lines buffers room shared line.0 old slot h tag ws meta snp tg line refl here there found low) at
target_seen pool lines buffers room shared old h tag ws (Write.Conflict tg) t is at there found low = absurd (none-some t is)

pub untargeted_shared : (pool : Pool) (lines : List ℕ) (buffers : List (List Write)) (room : ℕ) → IsShared pool lines buffers room → (h tag : ℕ) (ws : List Write) (w : Write) → target_of w ≡ None → slice_get buffers h ≡ Some ws → find (has_write_tag tag) ws ≡ Some w → IsShared pool lines (slice_set buffers h (without_write tag ws)) room
untargeted_shared pool lines buffers room shared h tag ws (Write.Line meta snp tg line slot) is there found = absurd (none-some (record { line = line; slot = slot }) (sym is))
untargeted_shared pool lines buffers room shared h tag ws (Write.Conflict tg) is there found = acknowledged_shared pool lines buffers room shared h tag ws tg there found

pub untargeted_seen : (pool : Pool) (lines : List ℕ) (buffers : List (List Write)) (room h tag : ℕ) (ws : List Write) (w : Write) → target_of w ≡ None → slice_get buffers h ≡ Some ws → find (has_write_tag tag) ws ≡ Some w → lines_seen pool lines (slice_set buffers h (without_write tag ws)) room ≡ served_record h tag (lines_seen pool lines buffers room)
untargeted_seen pool lines buffers room h tag ws (Write.Line meta snp tg line slot) is there found = absurd (none-some (record { line = line; slot = slot }) (sym is))
untargeted_seen pool lines buffers room h tag ws (Write.Conflict tg) is there found = acknowledged_seen pool lines buffers room h tag ws tg there found

-- the line that a message writes exists
pub serve_low : (pool : Pool) (lines : List ℕ) (buffers : List (List Write)) (room : ℕ) (v : LinesRecord) (h tag : ℕ) (ws : List Write) (w : Write) (t : Target) → lines_seen pool lines buffers room ≡ v → slice_get buffers h ≡ Some ws → find (has_write_tag tag) ws ≡ Some w → target_of w ≡ Some t
    → IfSome (write_of h tag v.writes) (λ x. x.0 < length v.memory) → t.line.0 < length lines
serve_low pool lines buffers room v h tag ws w t is there found targets low =
    let here : IfSome (write_of h tag (map (messages_of pool) buffers)) (λ x. x.0 < length (map (bytes_of pool) lines)) = subst (λ (u : LinesRecord). IfSome (write_of h tag u.writes) (λ x. x.0 < length u.memory)) (sym is) low in
    let message = subst (λ (o : Option (ℕ × Bytes64)). IfSome o (λ x. x.0 < length (map (bytes_of pool) lines))) (write_found pool buffers h tag ws (Some w) there found) here in
    omega (arith, target_low pool w t (length (map (bytes_of pool) lines)) targets message, length-map lines (bytes_of pool))

-- the slots belong together where they are the same
pub shared_same : (pool pool2 : Pool) (lines lines2 : List ℕ) (buffers buffers2 : List (List Write)) (room : ℕ) → pool2 ≡ pool → lines2 ≡ lines → buffers2 ≡ buffers → IsShared pool lines buffers room → IsShared pool2 lines2 buffers2 room
shared_same pool pool2 lines lines2 buffers buffers2 room p l b shared =
    subst (λ (x : List (List Write)). IsShared pool2 lines2 x room) (sym b) (subst (λ (x : List ℕ). IsShared pool2 x buffers room) (sym l) (subst (λ (x : Pool). IsShared x lines buffers room) (sym p) shared))

-- a slot that a line names exists
pub old_low : (pool : Pool) (lines : List ℕ) (buffers : List (List Write)) (room a old : ℕ) → IsShared pool lines buffers room → slice_get lines a ≡ Some old → old < length pool.slots
old_low pool lines buffers room a old shared at = within_by pool.slots old (named_in_use pool lines buffers room shared old (line_named lines buffers a old at))
