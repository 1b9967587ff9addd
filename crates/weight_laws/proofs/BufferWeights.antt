-- What a cause at the device does to the buffered messages of one host, and to what they weigh.
use Rattle.std.proofs.Common.{◌≡◌, ℕ, suc, ◌+◌, ◌-◌, ◌*◌, ◌≤◌, Bool, true, false, List, [], ◌∷◌, Option, Some, cond, count_by, find, length, sum_by, refl, sym, ◌∙◌, ap, subst, arith}
use Rattle.std.specs.Option.{option_map_or}
use Rattle.std.proofs.lemmas.Bool.{eq-eqb, false≢true}
use Rattle.std.proofs.lemmas.List.Sums.{sum_by-cons}
use Rattle.std.proofs.lemmas.Option.{none-some, same_Some}
use Rattle.cxl_message.specs.declared.events.Cause.{Cause}
use Rattle.cxl_message.specs.declared.events.Event.{Event}
use Rattle.cxl_message.specs.declared.events.Sends.{Sends}
use Rattle.cxl_message.specs.declared.messages.Message.{Message}
use Rattle.cxl_message.specs.declared.opcodes.ReqOp.{ReqOp}
use Rattle.cxl_message.specs.Messages.{has_tag}
use Rattle.cxl_message.specs.Setup.{Configuration}
use Rattle.coherence_model.specs.Buffers.{buffered_requests, buffered_writes, message_with, requests_after, without_tag, writes_after}
use Rattle.coherence_model.specs.Copies.{asks_for_grant}
use Rattle.coherence_model.specs.DeviceActs.{request_in}
use Rattle.coherence_model.specs.Room.{Room, is_no_eviction, request_room, room_after}
use Rattle.coherence_model.specs.Weight.{request_weight, room_weight}
use Rattle.request_laws.proofs.Counts.{count_by-cons}
use Rattle.weight_laws.proofs.Held.{device_returns_now, device_takes_now}

-- what a buffered Req message weighs, by the room of each tag
abbrev pub weigh : ℕ → (ℕ → Room) → Message → ℕ
weigh hosts room m = option_map_or (λ r. request_weight hosts (room r.tag.0) r.op) (request_in m) 0

-- the rooms of host h's tags before and after a cause
abbrev pub rooms : Configuration → ℕ → List Event → ℕ → Room
rooms setup h mine tag = request_room setup h tag mine

abbrev pub rooms_after : Configuration → ℕ → Cause → List Event → ℕ → Room
rooms_after setup h cause mine tag = room_after setup h tag cause mine (request_room setup h tag mine)

-- what the buffered Req messages of host h weigh before and after
abbrev pub requests_weight : Configuration → ℕ → List Event → ℕ
requests_weight setup h mine = sum_by (weigh setup.hosts (rooms setup h mine)) (buffered_requests h mine)

abbrev pub requests_weight_after : Configuration → ℕ → Cause → List Event → ℕ
requests_weight_after setup h cause mine = sum_by (weigh setup.hosts (rooms_after setup h cause mine)) (requests_after h cause (buffered_requests h mine))

-- how a host's buffers change, x at least and y at most, against its credits
abbrev pub HostPart : Configuration → ℕ → Cause → Sends → List Event → ℕ → ℕ → Type 0
HostPart setup h cause sends mine x y =
    4 * length (writes_after h cause (buffered_writes h mine)) + requests_weight_after setup h cause mine + 2 * length (buffered_requests h mine) + 2 * device_takes_now h cause + x
    ≤ 4 * length (buffered_writes h mine) + requests_weight setup h mine + 2 * length (requests_after h cause (buffered_requests h mine)) + 2 * device_returns_now h sends + y

-- ---- sums of messages

-- each message weighs no more
pub messages_le : (f g : Message → ℕ) (ms : List Message) → ((m : Message) → f m ≤ g m) → sum_by f ms ≤ sum_by g ms
messages_le f g [] h = omega arith
messages_le f g (m ∷ ms) h =
    let first = sum_by-cons f m ms in
    let second = sum_by-cons g m ms in
    let here = h m in
    let rest = messages_le f g ms h in
    omega arith

less_by : (f g : Message → ℕ) (tag d : ℕ) (m n : Message) (ns : List Message) (here : Bool) → f n ≤ g n → sum_by f ns ≤ sum_by g ns → f m + d ≤ g m → (find (has_tag tag) ns ≡ Some m → sum_by f ns + d ≤ sum_by g ns)
    → cond here (Some n) (find (has_tag tag) ns) ≡ Some m → sum_by f (n ∷ ns) + d ≤ sum_by g (n ∷ ns)
less_by f g tag d m n ns true head tail at later found =
    let first = sum_by-cons f n ns in
    let second = sum_by-cons g n ns in
    let here : f n + d ≤ g n = subst (λ x. f x + d ≤ g x) (sym (same_Some n m found)) at in
    omega arith
less_by f g tag d m n ns false head tail at later found =
    let first = sum_by-cons f n ns in
    let second = sum_by-cons g n ns in
    let rest = later found in
    omega arith

-- and the one that was found so much less
pub messages_less : (f g : Message → ℕ) (tag d : ℕ) (m : Message) (ms : List Message) → ((n : Message) → f n ≤ g n) → f m + d ≤ g m → message_with tag ms ≡ Some m → sum_by f ms + d ≤ sum_by g ms
messages_less f g tag d m [] h at found = absurd (none-some m found)
messages_less f g tag d m (n ∷ ns) h at found = less_by f g tag d m n ns (has_tag tag n) (h n) (messages_le f g ns h) at (messages_less f g tag d m ns h at) found

none_tagged : (f g : Message → ℕ) (tag : ℕ) (ns : List Message) → ((n : Message) → has_tag tag n ≡ false → f n ≤ g n) → count_by (has_tag tag) ns ≡ 0 → sum_by f ns ≤ sum_by g ns
none_tagged f g tag [] h none = omega arith
none_tagged f g tag (n ∷ ns) h none =
    let first = sum_by-cons f n ns in
    let second = sum_by-cons g n ns in
    let parts = none_head (has_tag tag n) (count_by (has_tag tag) ns) (sym (count_by-cons (has_tag tag) n ns) ∙ none) in
    let here = h n parts.0 in
    let rest = none_tagged f g tag ns h parts.1 in
    omega arith
  where
    none_head : (b : Bool) (k : ℕ) → cond b 1 0 + k ≡ 0 → (b ≡ false) × (k ≡ 0)
    none_head true k e = absurd (omega arith)
    none_head false k e = (refl, omega arith)

taken_by : (f g : Message → ℕ) (tag : ℕ) (m n : Message) (ns : List Message) (here : Bool) → has_tag tag n ≡ here → ((k : Message) → has_tag tag k ≡ false → f k ≤ g k) → cond here 1 0 + count_by (has_tag tag) ns ≤ 1
    → (count_by (has_tag tag) ns ≤ 1 → find (has_tag tag) ns ≡ Some m → sum_by f (without_tag tag ns) + g m ≤ sum_by g ns) → cond here (Some n) (find (has_tag tag) ns) ≡ Some m
    → sum_by f (cond here ns (n ∷ without_tag tag ns)) + g m ≤ sum_by g (n ∷ ns)
taken_by f g tag m n ns true is h few later found =
    let second = sum_by-cons g n ns in
    let same : g m ≡ g n = ap g (sym (same_Some n m found)) in
    let rest = none_tagged f g tag ns h (omega arith) in
    omega arith
taken_by f g tag m n ns false is h few later found =
    let first = sum_by-cons f n (without_tag tag ns) in
    let second = sum_by-cons g n ns in
    let here = h n is in
    let rest = later (omega arith) found in
    omega arith

-- the one that was found is taken out
pub messages_taken : (f g : Message → ℕ) (tag : ℕ) (m : Message) (ms : List Message) → ((n : Message) → has_tag tag n ≡ false → f n ≤ g n) → count_by (has_tag tag) ms ≤ 1 → message_with tag ms ≡ Some m
    → sum_by f (without_tag tag ms) + g m ≤ sum_by g ms
messages_taken f g tag m [] h few found = absurd (none-some m found)
messages_taken f g tag m (n ∷ ns) h few found =
    taken_by f g tag m n ns (has_tag tag n) refl h (subst (λ k. k ≤ 1) (count_by-cons (has_tag tag) n ns) few) (λ fewer there. messages_taken f g tag m ns h fewer there) found

length_by : (n m : Message) (ns rest : List Message) (here : Bool) (found : Option Message) → (found ≡ Some m → suc (length rest) ≡ length ns) → cond here (Some n) found ≡ Some m → suc (length (cond here ns (n ∷ rest))) ≡ suc (length ns)
length_by n m ns rest true found later is = refl
length_by n m ns rest false found later is = ap suc (later is)

pub length_taken : (tag : ℕ) (m : Message) (ms : List Message) → message_with tag ms ≡ Some m → suc (length (without_tag tag ms)) ≡ length ms
length_taken tag m [] found = absurd (none-some m found)
length_taken tag m (n ∷ ns) found = length_by n m ns (without_tag tag ns) (has_tag tag n) (find (has_tag tag) ns) (length_taken tag m ns) found

-- ---- rooms

-- a message weighs no more in a room that weighs no more
pub weigh_less : (hosts : ℕ) (room room' : ℕ → Room) (m : Message) → ((tag : ℕ) → has_tag tag m ≡ true → room_weight hosts (room tag) ≤ room_weight hosts (room' tag)) → weigh hosts room m ≤ weigh hosts room' m
weigh_less hosts room room' (Message.Req ReqOp.MemRd meta snp tag line) h = h tag.0 (eq-eqb tag.0 tag.0 refl)
weigh_less hosts room room' (Message.Req ReqOp.MemInv meta snp tag line) h = h tag.0 (eq-eqb tag.0 tag.0 refl)
weigh_less hosts room room' (Message.Req ReqOp.MemClnEvct meta snp tag line) h = omega arith
weigh_less hosts room room' (Message.MemWr _ _ _ _ _) h = omega arith
weigh_less hosts room room' (Message.BiConflict _) h = omega arith
weigh_less hosts room room' (Message.BiRsp _ _ _) h = omega arith
weigh_less hosts room room' (Message.Ndr _ _) h = omega arith
weigh_less hosts room room' (Message.MemData _ _) h = omega arith
weigh_less hosts room room' (Message.BiSnp _ _ _ _) h = omega arith
weigh_less hosts room room' (Message.Credit _) h = omega arith

-- the weights of a request
pub asking_weight : (hosts : ℕ) (room : Room) (op : ReqOp) → asks_for_grant op ≡ true → request_weight hosts room op ≡ room_weight hosts room
asking_weight hosts room ReqOp.MemRd h = refl
asking_weight hosts room ReqOp.MemInv h = refl
asking_weight hosts room ReqOp.MemClnEvct h = absurd (false≢true h)

pub clean_weight : (hosts : ℕ) (room : Room) (op : ReqOp) → asks_for_grant op ≡ false → request_weight hosts room op ≡ 6
clean_weight hosts room ReqOp.MemRd h = absurd (false≢true (sym h))
clean_weight hosts room ReqOp.MemInv h = absurd (false≢true (sym h))
clean_weight hosts room ReqOp.MemClnEvct h = refl

pub room_least : (hosts : ℕ) (room : Room) → 24 * hosts - 14 ≤ room_weight hosts room
room_least hosts Room.NoEviction = omega arith
room_least hosts Room.EvictionInProgress = omega arith
room_least hosts Room.Reservation = omega arith

pub room_most : (hosts : ℕ) (room : Room) → room_weight hosts room ≤ 108 * hosts - 12
room_most hosts Room.NoEviction = omega arith
room_most hosts Room.EvictionInProgress = omega arith
room_most hosts Room.Reservation = omega arith

pub room_full : (hosts : ℕ) (room : Room) → is_no_eviction room ≡ true → room_weight hosts room ≡ 108 * hosts - 12
room_full hosts Room.NoEviction h = refl
room_full hosts Room.EvictionInProgress h = absurd (false≢true h)
room_full hosts Room.Reservation h = absurd (false≢true h)

-- ---- the parts

-- where neither buffer changes, and no room weighs more
pub quiet_part :
    (setup : Configuration) (h : ℕ) (cause : Cause) (sends : Sends) (mine : List Event) → requests_after h cause (buffered_requests h mine) ≡ buffered_requests h mine → writes_after h cause (buffered_writes h mine) ≡ buffered_writes h mine
    → device_takes_now h cause ≡ 0 → ((tag : ℕ) → room_weight setup.hosts (rooms_after setup h cause mine tag) ≤ room_weight setup.hosts (rooms setup h mine tag)) → HostPart setup h cause sends mine 0 0
quiet_part setup h cause sends mine same_requests same_writes none fewer =
    let requests : length (requests_after h cause (buffered_requests h mine)) ≡ length (buffered_requests h mine) = ap length same_requests in
    let writes : length (writes_after h cause (buffered_writes h mine)) ≡ length (buffered_writes h mine) = ap length same_writes in
    let new : requests_weight_after setup h cause mine ≡ sum_by (weigh setup.hosts (rooms_after setup h cause mine)) (buffered_requests h mine) = ap (sum_by (weigh setup.hosts (rooms_after setup h cause mine))) same_requests in
    let less = messages_le (weigh setup.hosts (rooms_after setup h cause mine)) (weigh setup.hosts (rooms setup h mine)) (buffered_requests h mine) (λ m. weigh_less setup.hosts (rooms_after setup h cause mine) (rooms setup h mine) m (λ tag is. fewer tag)) in
    sums _ _ _ _ _ _ _ _ _ requests writes new less none
  where
    sums : (lw lw' len len' r r' r'' t c : ℕ) → len' ≡ len → lw' ≡ lw → r' ≡ r'' → r'' ≤ r → t ≡ 0 → 4 * lw' + r' + 2 * len + 2 * t + 0 ≤ 4 * lw + r + 2 * len' + 2 * c + 0
    sums lw lw' len len' r r' r'' t c a b d e f = omega arith
