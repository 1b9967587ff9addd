-- What the rows V3 to V9 say where they emit something.
use Rattle.std.proofs.Common.{◌≡◌, ◌≤◌, ℕ, true, false, List, Option, Some, None, refl}
use Rattle.std.specs.Prelude.{is_some, nat_le, not, option_and_then, ◌&&◌}
use Rattle.std.proofs.lemmas.Bool.{and_parts, leb-true, not-true}
use Rattle.cxl_message.specs.declared.channels.Channel.{Channel}
use Rattle.cxl_message.specs.declared.events.Event.{Event}
use Rattle.cxl_message.specs.declared.identifiers.Bytes64.{Bytes64}
use Rattle.cxl_message.specs.declared.identifiers.Line.{Line}
use Rattle.cxl_message.specs.declared.messages.Message.{Message}
use Rattle.cxl_message.specs.declared.opcodes.NdrOp.{NdrOp}
use Rattle.cxl_message.specs.Setup.{Configuration}
use Rattle.coherence_model.specs.Buffers.{device_owed}
use Rattle.coherence_model.specs.Copies.{asks_for_grant}
use Rattle.coherence_model.specs.DeviceActs.{Request, device_returns, finish_emission, has_entry_room, is_settled, served_by, shared_grant, snoop_message, v3_serve, v4_clean, v5_start, v6_evict, v7_snoop, v8_finish, v9_return, wants_eviction}
use Rattle.coherence_model.specs.Directory.{Directory, is_busy, is_to_ask, victim_block}
use Rattle.coherence_model.specs.Emission.{Emission, nothing, one_send}
use Rattle.coherence_model.specs.Memory.{memory}
use Rattle.coherence_model.specs.Room.{request_room}
use Rattle.coherence_model.specs.SentSnoops.{is_asked}
use Rattle.coherence_model.specs.Tasks.{Task}
use Rattle.coherence_lemmas.proofs.Options.{Found, and_then_some, map_some, some_is, when_some}

-- V3: a buffered RwD message is answered
pub record Served (h : ℕ) (buffered : Option Message) (w : Emission) : Type 0 where
  pub m : Message
  pub answer : Message
  pub found : buffered ≡ Some m
  pub answers : served_by m ≡ Some answer
  pub emits : w ≡ one_send h answer

pub v3_serve-inv : (h : ℕ) (buffered : Option Message) (w : Emission) → v3_serve h buffered ≡ Some w → Served h buffered w
v3_serve-inv h buffered w e =
    let mapped = map_some (one_send h) (option_and_then served_by buffered) w e in
    let chain = and_then_some served_by buffered mapped.x mapped.found in
    record { m = chain.x; answer = mapped.x; found = chain.found; answers = chain.same; emits = mapped.same }

-- V4: a buffered MemClnEvct, whose line isn't Busy
pub record Cleaned (h : ℕ) (buffered : Option Request) (D : Directory) (w : Emission) : Type 0 where
  pub r : Request
  pub found : buffered ≡ Some r
  pub eviction : asks_for_grant r.op ≡ false
  pub not_busy : is_busy D r.line ≡ false
  pub emits : w ≡ one_send h (Message.Ndr NdrOp.Cmp r.tag)

pub v4_clean-inv : (h : ℕ) (buffered : Option Request) (D : Directory) (w : Emission) → v4_clean h buffered D ≡ Some w → Cleaned h buffered D w
v4_clean-inv h None D w e = cc
v4_clean-inv h (Some r) D w e =
    let given = when_some (not (asks_for_grant r.op) && not (is_busy D r.line)) _ w e in
    let parts = and_parts _ _ given.holds in
    record { r = r; found = refl; eviction = not-true _ parts.0; not_busy = not-true _ parts.1; emits = given.same }

-- V5: a buffered MemRd or MemInv, whose line isn't Busy and for which there is room
pub record Started (setup : Configuration) (h : ℕ) (buffered : Option Request) (D : Directory) (mine : List Event) (w : Emission) : Type 0 where
  pub r : Request
  pub found : buffered ≡ Some r
  pub grant : asks_for_grant r.op ≡ true
  pub not_busy : is_busy D r.line ≡ false
  pub room : has_entry_room setup (request_room setup h r.tag.0 mine) r.line D mine ≡ true
  pub emits : w ≡ nothing

pub v5_start-inv :
    (setup : Configuration) (h : ℕ) (buffered : Option Request) (D : Directory) (mine : List Event) (w : Emission)
    → v5_start setup h buffered D mine ≡ Some w → Started setup h buffered D mine w
v5_start-inv setup h None D mine w e = cc
v5_start-inv setup h (Some r) D mine w e =
    let given = when_some (asks_for_grant r.op && not (is_busy D r.line) && has_entry_room setup (request_room setup h r.tag.0 mine) r.line D mine) nothing w e in
    let three = and_parts _ _ given.holds in
    let two = and_parts _ _ three.0 in
    record { r = r; found = refl; grant = two.0; not_busy = not-true _ two.1; room = three.1; emits = given.same }

-- V6: a buffered MemRd or MemInv, whose line isn't Busy and that wants an eviction, and there is a victim block
pub record Evicted (setup : Configuration) (h : ℕ) (buffered : Option Request) (D : Directory) (mine : List Event) (w : Emission) : Type 0 where
  pub r : Request
  pub found : buffered ≡ Some r
  pub grant : asks_for_grant r.op ≡ true
  pub not_busy : is_busy D r.line ≡ false
  pub wants : wants_eviction setup (request_room setup h r.tag.0 mine) r.line D mine ≡ true
  pub victim : Found (victim_block D)
  pub emits : w ≡ nothing

pub v6_evict-inv :
    (setup : Configuration) (h : ℕ) (buffered : Option Request) (D : Directory) (mine : List Event) (w : Emission)
    → v6_evict setup h buffered D mine ≡ Some w → Evicted setup h buffered D mine w
v6_evict-inv setup h None D mine w e = cc
v6_evict-inv setup h (Some r) D mine w e =
    let given = when_some (asks_for_grant r.op && not (is_busy D r.line) && wants_eviction setup (request_room setup h r.tag.0 mine) r.line D mine && is_some (victim_block D)) nothing w e in
    let four = and_parts _ _ given.holds in
    let three = and_parts _ _ four.0 in
    let two = and_parts _ _ three.0 in
    record { r = r; found = refl; grant = two.0; not_busy = not-true _ two.1; wants = three.1; victim = some_is (victim_block D) four.1; emits = given.same }

-- V7: the host is to be asked by the task, and isn't Asked
pub record Snooped (h a : ℕ) (task : Option Task) (D : Directory) (mine : List Event) (w : Emission) : Type 0 where
  pub t : Task
  pub found : task ≡ Some t
  pub to_ask : is_to_ask t.purpose D a t h ≡ true
  pub unasked : is_asked h a mine ≡ false
  pub emits : w ≡ one_send h (snoop_message a t)

pub v7_snoop-inv :
    (h a : ℕ) (task : Option Task) (D : Directory) (mine : List Event) (w : Emission) → v7_snoop h a task D mine ≡ Some w → Snooped h a task D mine w
v7_snoop-inv h a None D mine w e = cc
v7_snoop-inv h a (Some t) D mine w e =
    let given = when_some (is_to_ask t.purpose D a t h && not (is_asked h a mine)) _ w e in
    let parts = and_parts _ _ given.holds in
    record { t = t; found = refl; to_ask = parts.0; unasked = not-true _ parts.1; emits = given.same }

-- V8: no host is Asked by the task or to be asked
pub record Finished (setup : Configuration) (opening : List (Line × Bytes64)) (a : ℕ) (task : Option Task) (D : Directory) (mine : List Event) (w : Emission) : Type 0 where
  pub t : Task
  pub found : task ≡ Some t
  pub settled : is_settled setup a t D mine ≡ true
  pub emits : w ≡ finish_emission t.purpose (shared_grant setup a t D) t.host t.tag (memory opening a mine)

pub v8_finish-inv :
    (setup : Configuration) (opening : List (Line × Bytes64)) (a : ℕ) (task : Option Task) (D : Directory) (mine : List Event) (w : Emission)
    → v8_finish setup opening a task D mine ≡ Some w → Finished setup opening a task D mine w
v8_finish-inv setup opening a None D mine w e = cc
v8_finish-inv setup opening a (Some t) D mine w e =
    let given = when_some (is_settled setup a t D mine) _ w e in record { t = t; found = refl; settled = given.holds; emits = given.same }

-- V9: a used message of a channel of the device's gives its credit back
pub record CreditGivenBack (h : ℕ) (c : Channel) (mine : List Event) (w : Emission) : Type 0 where
  pub returns : device_returns c ≡ true
  pub owed : 1 ≤ device_owed h c mine
  pub emits : w ≡ one_send h (Message.Credit c)

pub v9_return-inv : (h : ℕ) (c : Channel) (mine : List Event) (w : Emission) → v9_return h c mine ≡ Some w → CreditGivenBack h c mine w
v9_return-inv h c mine w e =
    let given = when_some (device_returns c && nat_le 1 (device_owed h c mine)) _ w e in
    let parts = and_parts _ _ given.holds in
    record { returns = parts.0; owed = leb-true 1 (device_owed h c mine) parts.1; emits = given.same }
