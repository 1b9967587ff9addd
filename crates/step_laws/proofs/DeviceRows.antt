-- What the row of an act says at the device, and which acts exclude one another.
use Rattle.std.proofs.Common.{◌≡◌, ℕ, Bool, true, false, List, Option, Some, None, refl, sym, ◌∙◌, subst, arith}
use Rattle.std.specs.Prelude.{◌==◌, ◌&&◌, ◌||◌, not, is_some, nat_le, option_and_then}
use Rattle.std.proofs.lemmas.Bool.{and_parts, false≢true, leb-true, eqb-true}
use Rattle.cxl_message.specs.declared.channels.Channel.{Channel}
use Rattle.cxl_message.specs.declared.events.Event.{Event}
use Rattle.cxl_message.specs.declared.identifiers.Bytes64.{Bytes64}
use Rattle.cxl_message.specs.declared.identifiers.Line.{Line}
use Rattle.cxl_message.specs.declared.messages.Message.{Message}
use Rattle.cxl_message.specs.Setup.{Configuration}
use Rattle.coherence_model.specs.Copies.{asks_for_grant}
use Rattle.coherence_model.specs.DeviceActs.{Request, device_returns, has_entry_room, request_in, v3_serve, v4_clean, v5_start, v6_evict, v7_snoop, v8_finish, v9_return, wants_eviction}
use Rattle.coherence_model.specs.Directory.{Directory, has_entry}
use Rattle.coherence_model.specs.Room.{Room, free_entries, request_room}
use Rattle.coherence_model.specs.Tasks.{Task}
use Rattle.std.proofs.lemmas.Option.{same_Some}
use Rattle.coherence_lemmas.proofs.DeviceActs.{v3_serve-inv, v4_clean-inv, v5_start-inv, v6_evict-inv, v9_return-inv}
use Rattle.coherence_lemmas.proofs.Options.{some_is}
use Rattle.step_laws.proofs.HostRows.{both_ways}

-- V3: there is a message to serve
pub serve-holds : (h : ℕ) (m : Option Message) → is_some (v3_serve h m) ≡ true → (n : Message) × (m ≡ Some n)
serve-holds h m some =
    let found = some_is (v3_serve h m) some in
    let inv = v3_serve-inv h m found.x found.found in
    (inv.m, inv.found)

-- a buffered request is a buffered message
pub request-found : (o : Option Message) (r : Request) → option_and_then request_in o ≡ Some r → (m : Message) × (o ≡ Some m) × (request_in m ≡ Some r)
request-found None r is = absurd (cc)
request-found (Some m) r is = (m, refl, is)

-- V4: a MemClnEvct whose line isn't Busy
pub clean-holds : (h : ℕ) (r : Option Request) (D : Directory) → is_some (v4_clean h r D) ≡ true → (x : Request) × (r ≡ Some x) × (asks_for_grant x.op ≡ false)
clean-holds h r D some =
    let found = some_is (v4_clean h r D) some in
    let inv = v4_clean-inv h r D found.x found.found in
    (inv.r, inv.found, inv.eviction)

-- V5: a request that asks for a grant and has room
pub start-holds :
    (setup : Configuration) (h : ℕ) (r : Option Request) (D : Directory) (mine : List Event) → is_some (v5_start setup h r D mine) ≡ true
    → (x : Request) × (r ≡ Some x) × (asks_for_grant x.op ≡ true) × (has_entry_room setup (request_room setup h x.tag.0 mine) x.line D mine ≡ true)
start-holds setup h r D mine some =
    let found = some_is (v5_start setup h r D mine) some in
    let inv = v5_start-inv setup h r D mine found.x found.found in
    (inv.r, inv.found, inv.grant, inv.room)

-- V6: a request that asks for a grant and wants an eviction
pub evict-holds :
    (setup : Configuration) (h : ℕ) (r : Option Request) (D : Directory) (mine : List Event) → is_some (v6_evict setup h r D mine) ≡ true
    → (x : Request) × (r ≡ Some x) × (asks_for_grant x.op ≡ true) × (wants_eviction setup (request_room setup h x.tag.0 mine) x.line D mine ≡ true)
evict-holds setup h r D mine some =
    let found = some_is (v6_evict setup h r D mine) some in
    let inv = v6_evict-inv setup h r D mine found.x found.found in
    (inv.r, inv.found, inv.grant, inv.wants)

-- what has room wants no eviction
room-step : (entry : Bool) (free : ℕ) → (entry || nat_le 1 free) ≡ true → ((not entry && true) && (free == 0)) ≡ true → ⊥
room-step true free has wants = false≢true wants
room-step false free has wants = let some = leb-true 1 free has in let none = eqb-true free 0 wants in omega arith

pub room_or_eviction :
    (setup : Configuration) (room : Room) (a : ℕ) (D : Directory) (mine : List Event) → has_entry_room setup room a D mine ≡ true
    → wants_eviction setup room a D mine ≡ true → ⊥
room_or_eviction setup Room.NoEviction a D mine has wants = room-step (has_entry setup D a) (free_entries setup mine) has wants
room_or_eviction setup Room.EvictionInProgress a D mine has wants = false≢true has
room_or_eviction setup Room.Reservation a D mine has wants = false≢true
    (and_parts _ _ (and_parts (not (has_entry setup D a) && false) (free_entries setup mine == 0) wants).0).1

-- V7 and V8: there is a task
pub snoop-holds : (h a : ℕ) (t : Option Task) (D : Directory) (mine : List Event) → is_some (v7_snoop h a t D mine) ≡ true → is_some t ≡ true
snoop-holds h a None D mine some = some
snoop-holds h a (Some t) D mine some = refl

pub finish-holds :
    (setup : Configuration) (opening : List (Line × Bytes64)) (a : ℕ) (t : Option Task) (D : Directory) (mine : List Event)
    → is_some (v8_finish setup opening a t D mine) ≡ true → is_some t ≡ true
finish-holds setup opening a None D mine some = some
finish-holds setup opening a (Some t) D mine some = refl

-- V9: the channel is one whose credits the device gives back
pub device_return-holds : (h : ℕ) (c : Channel) (mine : List Event) → is_some (v9_return h c mine) ≡ true → device_returns c ≡ true
device_return-holds h c mine some = let found = some_is (v9_return h c mine) some in (v9_return-inv h c mine found.x found.found).returns

-- what a request with one tag says contradicts the other acts
pub clean_or_start :
    (setup : Configuration) (h : ℕ) (r : Option Request) (D : Directory) (mine : List Event) → is_some (v4_clean h r D) ≡ true
    → is_some (v5_start setup h r D mine) ≡ true → ⊥
clean_or_start setup h r D mine clean start =
    let c = clean-holds h r D clean in
    let s = start-holds setup h r D mine start in
    let same : s.0 ≡ c.0 = same_Some _ _ (sym s.1 ∙ c.1) in
    both_ways (asks_for_grant c.0.op) (subst (λ (x : Request). asks_for_grant x.op ≡ true) same s.2) c.2

pub clean_or_evict :
    (setup : Configuration) (h : ℕ) (r : Option Request) (D : Directory) (mine : List Event) → is_some (v4_clean h r D) ≡ true
    → is_some (v6_evict setup h r D mine) ≡ true → ⊥
clean_or_evict setup h r D mine clean evict =
    let c = clean-holds h r D clean in
    let e = evict-holds setup h r D mine evict in
    let same : e.0 ≡ c.0 = same_Some _ _ (sym e.1 ∙ c.1) in
    both_ways (asks_for_grant c.0.op) (subst (λ (x : Request). asks_for_grant x.op ≡ true) same e.2) c.2

pub start_or_evict :
    (setup : Configuration) (h : ℕ) (r : Option Request) (D : Directory) (mine : List Event) → is_some (v5_start setup h r D mine) ≡ true
    → is_some (v6_evict setup h r D mine) ≡ true → ⊥
start_or_evict setup h r D mine start evict =
    let s = start-holds setup h r D mine start in
    let e = evict-holds setup h r D mine evict in
    let same : s.0 ≡ e.0 = same_Some _ _ (sym s.1 ∙ e.1) in
    room_or_eviction setup (request_room setup h e.0.tag.0 mine) e.0.line D mine
    (subst (λ (x : Request). has_entry_room setup (request_room setup h x.tag.0 mine) x.line D mine ≡ true) same s.3) e.3
