-- Where no eviction can begin at all, none begins for any request.
use Rattle.std.proofs.Common.{◌≡◌, ℕ, Bool, true, false, Option, Some, None, refl, ap, sym}
use Rattle.std.specs.Prelude.{is_none, is_some, not, option_and_then, ◌&&◌, ◌==◌}
use Rattle.cxl_message.specs.declared.events.Act.{Act}
use Rattle.cxl_message.specs.declared.events.Cause.{Cause}
use Rattle.cxl_message.specs.declared.identifiers.Tag.{Tag}
use Rattle.cxl_message.specs.Setup.{Configuration}
use Rattle.coherence_model.specs.Copies.{asks_for_grant}
use Rattle.coherence_model.specs.Emission.{Emission, nothing}
use Rattle.coherence_model.specs.DeviceActs.{Request}
use Rattle.coherence_model.specs.Room.{Room, is_no_eviction}
use Rattle.coherence_model.specs.Words.{when}
use Rattle.device_record.specs.Answers.{emission_in, evict_of, evict_row, lacking_in, request_of}
use Rattle.device_record.specs.Record.{DeviceRecord, WaitingRequest, request_with, requests_at}
use Rattle.snoop_filter.specs.Filters.{free_in}
use Rattle.snoop_filter.specs.Rows.{has_row, held_in}
use Rattle.snoop_filter.specs.Victims.{victim_in}
use Rattle.device_acts.specs.Sections.{is_evictable}

fails : (a b c d f v : Bool) → f && v ≡ false → a && b && (c && d && f) && v ≡ false
fails false b c d f v no_room = refl
fails true false c d f v no_room = refl
fails true true false d f v no_room = refl
fails true true true false f v no_room = refl
fails true true true true f v no_room = no_room

none_of : {X Y : Type 0} (f : X → Option Y) (o : Option X) → ((x : X) → f x ≡ None) → option_and_then f o ≡ None
none_of f None none = refl
none_of f (Some x) none = none x

none_for : (k : DeviceRecord) → is_evictable k.filter ≡ false → (room : Room) (r : Request) → evict_of k room r ≡ None
none_for k none room r =
    ap (λ b. when b nothing)
    (fails (asks_for_grant r.op) (not (held_in r.line k.filter.rows)) (not (has_row r.line k.filter.rows)) (is_no_eviction room) (free_in k.filter == 0) (is_some (victim_in k.filter.rows)) none)

none_for_waiting : (k : DeviceRecord) → is_evictable k.filter ≡ false → (w : WaitingRequest) → evict_row k w ≡ None
none_for_waiting k none w = none_of (evict_of k w.room) (request_of w) (none_for k none w.room)

-- no eviction begins
pub no_eviction : (setup : Configuration) (k : DeviceRecord) (h : ℕ) (tag : Tag) → is_evictable k.filter ≡ false → false ≡ is_some (emission_in setup (Cause.Act (Act.Evict h tag)) k)
no_eviction setup k h tag none =
    sym (ap (λ (o : Option Emission). is_some (option_and_then (λ w. when (is_none (lacking_in w.sends k.credits)) w) o))
    (none_of (evict_row k) (request_with tag.0 (requests_at h k.requests)) (none_for_waiting k none)))
