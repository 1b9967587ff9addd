-- The number of allowed acts, by what each waits for.
use Rattle.std.proofs.Common.{◌≡◌, ℕ, zero, suc, ◌+◌, Bool, true, false, List, [], ◌∷◌, Some, None, cond, length, refl, ap, sym, ◌∙◌, arith}
use Rattle.std.specs.Prelude.{flat_map, is_none, is_some, nat_le, nat_lt, not, option_and_then, sum_by, ◌&&◌, ◌==◌, ◌||◌}
use Rattle.std.specs.Option.{option_map_or}
use Rattle.std.proofs.lemmas.Bool.{le-leb, le-ltb, ne_eqb}
use Rattle.std.proofs.lemmas.List.{length-append}
use Rattle.std.proofs.lemmas.List.Sums.{sum_by-cons}
use Rattle.cxl_message.specs.declared.channels.Channel.{Channel}
use Rattle.cxl_message.specs.declared.events.Act.{Act}
use Rattle.cxl_message.specs.declared.events.Cause.{Cause}
use Rattle.cxl_message.specs.declared.identifiers.Tag.{Tag}
use Rattle.cxl_message.specs.declared.messages.Message.{Message}
use Rattle.cxl_message.specs.declared.opcodes.NdrOp.{NdrOp}
use Rattle.cxl_message.specs.Setup.{Configuration}
use Rattle.coherence_model.specs.Copies.{asks_for_grant}
use Rattle.coherence_model.specs.DeviceActs.{Request}
use Rattle.coherence_model.specs.Emission.{Emission, nothing, one_send}
use Rattle.coherence_model.specs.Room.{Room}
use Rattle.coherence_model.specs.Words.{one_if, when}
use Rattle.device_record.specs.Acts.{act_if, acts_or, tag_named, waiting_acts}
use Rattle.device_record.specs.Answers.{clean_of, clean_row, emission_in, evict_of, has_room_in, lacking_in, request_of, start_of, wants_eviction_in}
use Rattle.device_record.specs.Counts.{has_place, is_ready, is_ready_by}
use Rattle.snoop_filter.specs.Filters.{free_in}
use Rattle.snoop_filter.specs.Rows.{has_row, held_in}
use Rattle.snoop_filter.specs.Victims.{victim_in}
use Rattle.device_record.specs.Record.{DeviceRecord, WaitingRequest, credits_at, request_with, requests_at}

-- ---- lists joined

pub length_flat : {X Y : Type 0} (f : X → List Y) (xs : List X) → length (flat_map f xs) ≡ sum_by (λ x. length (f x)) xs
length_flat f [] = refl
length_flat f (x ∷ xs) = length-append (f x) (flat_map f xs) ∙ ap (λ n. length (f x) + n) (length_flat f xs) ∙ sym (sum_by-cons (λ y. length (f y)) x xs)

pub one_act : (b : Bool) (act : Act) → length (cond b (act ∷ []) []) ≡ one_if b
one_act true act = refl
one_act false act = refl

or_act : (p q : Bool) (a : Act) (rest : List Act) → length rest ≡ one_if q → length (acts_or (cond p (a ∷ []) []) rest) ≡ one_if (p || q)
or_act true q a rest is = refl
or_act false q a rest is = is

-- ---- one request

some_when : (b : Bool) (w : Emission) → is_some (when b w) ≡ b
some_when true w = refl
some_when false w = refl

less_one : (n : ℕ) → is_none (cond (true && nat_lt n 1) (Some Channel.Ndr) None) ≡ nat_le 1 n
less_one zero = refl
less_one (suc n) = ap (λ b. is_none (cond b (Some Channel.Ndr) None)) (le-ltb (suc n) 1 (omega arith)) ∙ sym (le-leb 1 (suc n) (omega arith))

clean_by : (k : DeviceRecord) (h : ℕ) (b : Bool) (tag : Tag) → is_some (option_and_then (λ (x : Emission). when (is_none (lacking_in x.sends k.credits)) x) (when b (one_send h (Message.Ndr NdrOp.Cmp tag)))) ≡ (b && nat_le 1 (credits_at h k.credits).ndr_left)
clean_by k h true tag = some_when (is_none (cond (true && nat_lt (credits_at h k.credits).ndr_left 1) (Some Channel.Ndr) None)) (one_send h (Message.Ndr NdrOp.Cmp tag)) ∙ less_one (credits_at h k.credits).ndr_left
clean_by k h false tag = refl

quiet_by : (k : DeviceRecord) (b : Bool) → is_some (option_and_then (λ (x : Emission). when (is_none (lacking_in x.sends k.credits)) x) (when b nothing)) ≡ b
quiet_by k true = refl
quiet_by k false = refl

-- the three tests of a request as one
joined_by : (asks held row free victim left : Bool) (none : Bool) → none ≡ true
    → (((not asks && not held) && left) || (((asks && not held) && (row || free)) || (((asks && not held) && ((not row && none) && not free)) && victim))) ≡ (not held && cond asks ((row || free) || victim) left)
joined_by true true row free victim left none is = refl
joined_by false true row free victim left none is = refl
joined_by false false row free victim true none is = refl
joined_by false false row free victim false none is = refl
joined_by true false true free victim left none is = refl
joined_by true false false true victim left none is = refl
joined_by true false false false victim left none is = ap (λ b. (b && true) && victim) is

free_is : (n : ℕ) → (n == 0) ≡ not (nat_le 1 n)
free_is zero = refl
free_is (suc n) = ne_eqb (suc n) 0 (λ same. omega arith) ∙ sym (ap not (le-leb 1 (suc n) (omega arith)))

none_wanted : (row free victim : Bool) → (((not row && false) && free) && victim) ≡ false
none_wanted true free victim = refl
none_wanted false free victim = refl

place_by : (k : DeviceRecord) (room : Room) (a : ℕ) (asks held left : Bool)
    → (((not asks && not held) && left) || (((asks && not held) && has_room_in room a k) || (((asks && not held) && wants_eviction_in room a k) && is_some (victim_in k.filter.rows)))) ≡ (not held && cond asks (has_place k room a) left)
place_by k Room.NoEviction a asks held left =
    ap (λ b. (((not asks && not held) && left) || (((asks && not held) && (has_row a k.filter.rows || nat_le 1 (free_in k.filter))) || (((asks && not held) && ((not (has_row a k.filter.rows) && true) && b)) && is_some (victim_in k.filter.rows)))))
    (free_is (free_in k.filter))
    ∙ joined_by asks held (has_row a k.filter.rows) (nat_le 1 (free_in k.filter)) (is_some (victim_in k.filter.rows)) left true refl
place_by k Room.EvictionInProgress a true true left = refl
place_by k Room.EvictionInProgress a true false left = none_wanted (has_row a k.filter.rows) (free_in k.filter == 0) (is_some (victim_in k.filter.rows))
place_by k Room.EvictionInProgress a false true left = refl
place_by k Room.EvictionInProgress a false false true = refl
place_by k Room.EvictionInProgress a false false false = refl
place_by k Room.Reservation a true true left = refl
place_by k Room.Reservation a true false left = refl
place_by k Room.Reservation a false true left = refl
place_by k Room.Reservation a false false true = refl
place_by k Room.Reservation a false false false = refl

-- a buffered request that is the first with its tag: one act where it is ready, and else none
pub request_counts : (setup : Configuration) (k : DeviceRecord) (h : ℕ) (w : WaitingRequest) (r : Request) → request_of w ≡ Some r → request_with (tag_named w.message).0 (requests_at h k.requests) ≡ Some w
    → length (waiting_acts setup k h w) ≡ one_if (is_ready k h w)
request_counts setup k h w r is first =
    let tag : Tag = tag_named w.message in
    let clean = ap (λ o. is_some (option_and_then (λ (x : Emission). when (is_none (lacking_in x.sends k.credits)) x) (option_and_then (clean_row h k.filter.rows) o))) first
    ∙ ap (λ o. is_some (option_and_then (λ (x : Emission). when (is_none (lacking_in x.sends k.credits)) x) (option_and_then (clean_of h k.filter.rows) o))) is
    ∙ clean_by k h (not (asks_for_grant r.op) && not (held_in r.line k.filter.rows)) r.tag in
    let start = ap (λ o. is_some (option_and_then (λ (x : Emission). when (is_none (lacking_in x.sends k.credits)) x) (option_and_then (λ (v : WaitingRequest). option_and_then (start_of k v.room) (request_of v)) o))) first
    ∙ ap (λ o. is_some (option_and_then (λ (x : Emission). when (is_none (lacking_in x.sends k.credits)) x) (option_and_then (start_of k w.room) o))) is
    ∙ quiet_by k (asks_for_grant r.op && not (held_in r.line k.filter.rows) && has_room_in w.room r.line k) in
    let evict = ap (λ o. is_some (option_and_then (λ (x : Emission). when (is_none (lacking_in x.sends k.credits)) x) (option_and_then (λ (v : WaitingRequest). option_and_then (evict_of k v.room) (request_of v)) o))) first
    ∙ ap (λ o. is_some (option_and_then (λ (x : Emission). when (is_none (lacking_in x.sends k.credits)) x) (option_and_then (evict_of k w.room) o))) is
    ∙ quiet_by k (asks_for_grant r.op && not (held_in r.line k.filter.rows) && wants_eviction_in w.room r.line k && is_some (victim_in k.filter.rows)) in
    or_act (is_some (emission_in setup (Cause.Act (Act.Clean h tag)) k)) (is_some (emission_in setup (Cause.Act (Act.Start h tag)) k) || is_some (emission_in setup (Cause.Act (Act.Evict h tag)) k)) (Act.Clean h tag)
    (acts_or (act_if setup k (Act.Start h tag)) (act_if setup k (Act.Evict h tag)))
    (or_act (is_some (emission_in setup (Cause.Act (Act.Start h tag)) k)) (is_some (emission_in setup (Cause.Act (Act.Evict h tag)) k)) (Act.Start h tag) (act_if setup k (Act.Evict h tag))
    (one_act (is_some (emission_in setup (Cause.Act (Act.Evict h tag)) k)) (Act.Evict h tag)))
    ∙ (λ i. one_if (clean i || (start i || evict i)))
    ∙ ap one_if (place_by k w.room r.line (asks_for_grant r.op) (held_in r.line k.filter.rows) (nat_le 1 (credits_at h k.credits).ndr_left))
    ∙ sym (ap (λ o. one_if (option_map_or (is_ready_by k h w.room) o false)) is)
