-- The room of requests is kept by every event of the device.
use Rattle.std.proofs.Common.{◌≡◌, ℕ, true, List, [], ◌∷◌, Option, Some, None, cond, refl, sym, ap, subst}
use Rattle.std.specs.Prelude.{is_some, option_and_then, ◌&&◌, ◌==◌}
use Rattle.std.proofs.lemmas.Bool.{and_parts, false≢true, not-true}
use Rattle.std.proofs.lemmas.Option.{none-some}
use Rattle.cxl_message.specs.declared.channels.Channel.{Channel}
use Rattle.cxl_message.specs.declared.events.Act.{Act}
use Rattle.cxl_message.specs.declared.events.Cause.{Cause}
use Rattle.cxl_message.specs.declared.events.Event.{Event}
use Rattle.cxl_message.specs.declared.events.Sends.{Sends}
use Rattle.cxl_message.specs.declared.identifiers.Tag.{Tag}
use Rattle.cxl_message.specs.declared.messages.Message.{Message}
use Rattle.cxl_message.specs.declared.opcodes.Span.{Span}
use Rattle.cxl_message.specs.Messages.{line_in}
use Rattle.cxl_message.specs.Setup.{Configuration}
use Rattle.coherence_model.specs.Buffers.{buffered_requests, buffered_writes, message_with, requests_after, without_used}
use Rattle.coherence_model.specs.DeviceActs.{has_entry_room}
use Rattle.coherence_model.specs.Directory.{Directory, victim_block}
use Rattle.coherence_model.specs.DirectoryChanges.{directory, directory_after, directory_after_clean, directory_after_evict, directory_after_serve, directory_after_start, directory_after_take, with_task}
use Rattle.coherence_model.specs.Flight.{takes_on}
use Rattle.coherence_model.specs.Room.{Room, is_no_eviction, request_room, room_after, room_after_finish}
use Rattle.coherence_model.specs.Tasks.{Task, request_task}
use Rattle.coherence_model.specs.Words.{with_last}
use Rattle.coherence_model.specs.OwnRuns.{IsOwnRun}
use Rattle.cxl_message.specs.declared.identifiers.Bytes64.{Bytes64}
use Rattle.cxl_message.specs.declared.identifiers.Line.{Line}
use Rattle.coherence_model.specs.Traces.{device}
use Rattle.entry_laws.proofs.Blocks.{covers_first}
use Rattle.entry_laws.proofs.DeviceRows.{DeviceRow, EvictRow, FinishRow, StartRow}
use Rattle.entry_laws.proofs.Entries.{victim_evictable}
use Rattle.entry_laws.proofs.OwnRuns.{device_event}
use Rattle.entry_laws.proofs.Rooms.{RoomsKept, Waiting, clean_rooms, evict_rooms, finish_rooms, is_no_purpose, start_rooms, waits_on}
use Rattle.entry_laws.proofs.Tasks.{idle_has_no_task}

-- ---- tasks that an event leaves

pub take_leaves_tasks :
    (setup : Configuration) (h : ℕ) (m : Message) (mine : List Event) (D : Directory) → (directory_after_take setup h m mine D).task ≡ D.task
take_leaves_tasks setup h (Message.Req op meta snp tag line) mine D = refl
take_leaves_tasks setup h (Message.MemWr meta snp tag line bytes) mine D = refl
take_leaves_tasks setup h (Message.BiConflict tag) mine D = refl
take_leaves_tasks setup h (Message.BiRsp op bitag low) mine D = refl
take_leaves_tasks setup h (Message.Ndr op tag) mine D = refl
take_leaves_tasks setup h (Message.MemData tag bytes) mine D = refl
take_leaves_tasks setup h (Message.BiSnp op bitag line span) mine D = refl
take_leaves_tasks setup h (Message.Credit c) mine D = refl

pub serve_leaves_tasks : (setup : Configuration) (h : ℕ) (found : Option Message) (D : Directory) → (directory_after_serve setup h found D).task ≡ D.task
serve_leaves_tasks setup h None D = refl
serve_leaves_tasks setup h (Some (Message.Req op meta snp tag line)) D = refl
serve_leaves_tasks setup h (Some (Message.MemWr meta snp tag line bytes)) D = refl
serve_leaves_tasks setup h (Some (Message.BiConflict tag)) D = refl
serve_leaves_tasks setup h (Some (Message.BiRsp op bitag low)) D = refl
serve_leaves_tasks setup h (Some (Message.Ndr op tag)) D = refl
serve_leaves_tasks setup h (Some (Message.MemData tag bytes)) D = refl
serve_leaves_tasks setup h (Some (Message.BiSnp op bitag line span)) D = refl
serve_leaves_tasks setup h (Some (Message.Credit c)) D = refl

pub clean_leaves_tasks : (setup : Configuration) (h : ℕ) (found : Option ℕ) (D : Directory) → (directory_after_clean setup h found D).task ≡ D.task
clean_leaves_tasks setup h None D = refl
clean_leaves_tasks setup h (Some a) D = refl

-- ---- by cause

-- what is kept of the tasks, the rooms and the buffers after the device's own events
abbrev RoomsAre : Configuration → List Event → Type 0
RoomsAre setup mine = RoomsKept (directory setup mine).task (λ h tag. request_room setup h tag mine) (λ h. buffered_requests h mine)

-- a taken message changes no room
rooms_after_take :
    (task : ℕ → Option Task) (room : ℕ → ℕ → Room) (buffer : ℕ → List Message) (cause : Cause) → RoomsKept task room buffer
    → (taken : ℕ → Option Message) → RoomsKept task room (λ h. with_last (taken h) (buffer h))
rooms_after_take task room buffer cause kept taken = record {
  progress = kept.progress;
  alone = kept.alone;
  stands = kept.stands;
  buffered = λ h tag is. waits_on (taken h) tag (buffer h) (kept.buffered h tag is);
}

no_room_in_progress :
    (setup : Configuration) (room : Room) (a : ℕ) (D : Directory) (mine : List Event) → has_entry_room setup room a D mine ≡ true
    → room ≡ Room.EvictionInProgress → ⊥
no_room_in_progress setup Room.NoEviction a D mine has same = false≢true (ap is_no_eviction (sym same))
no_room_in_progress setup Room.EvictionInProgress a D mine has same = false≢true has
no_room_in_progress setup Room.Reservation a D mine has same = cc

start_room_step :
    (setup : Configuration) (host k : ℕ) (mine : List Event) (row : StartRow setup host k mine) → RoomsAre setup mine
    → RoomsKept (directory_after_start host (message_with k (buffered_requests host mine)) (directory setup mine)).task
    (λ h tag. cond ((host == h) && (k == tag)) Room.NoEviction (request_room setup h tag mine))
    (λ h. without_used (cond (host == h) (Some k) None) (buffered_requests h mine))
start_room_step setup host k mine row kept =
    subst (λ found. RoomsKept (directory_after_start host found (directory setup mine)).task
    (λ h tag. cond ((host == h) && (k == tag)) Room.NoEviction (request_room setup h tag mine))
    (λ h. without_used (cond (host == h) (Some k) None) (buffered_requests h mine))) (sym row.r.found)
    (start_rooms (directory setup mine).task (λ h tag. request_room setup h tag mine) (λ h. buffered_requests h mine) host k row.r.line.0
    (request_task host row.r.own_tag row.r.op row.r.meta) (is_no_purpose row.r.op row.r.meta) (idle_has_no_task (directory setup mine) row.r.line.0 row.idle)
    (no_room_in_progress setup (request_room setup host k mine) row.r.line.0 (directory setup mine) mine row.room) kept)

evict_room_found :
    (setup : Configuration) (host : ℕ) (k : Tag) (mine : List Event) (found : Option (ℕ × Span)) → victim_block (directory setup mine) ≡ found → is_some found ≡
    true
    → is_no_eviction (request_room setup host k.0 mine) ≡ true → Waiting k.0 (buffered_requests host mine) → RoomsAre setup mine
    → RoomsKept (directory_after_evict host k found (directory setup mine)).task
    (λ h tag. cond ((host == h) && (k.0 == tag)) Room.EvictionInProgress (request_room setup h tag mine)) (λ h. buffered_requests h mine)
evict_room_found setup host k mine None is some idle waiting kept = absurd (false≢true some)
evict_room_found setup host k mine (Some block) is some idle waiting kept =
    let may = victim_evictable (directory setup mine) block is in
    let first = and_parts _ _ (may.lines block.0 (covers_first block.0 block.1)) in
    evict_rooms (directory setup mine).task (λ h tag. request_room setup h tag mine) (λ h. buffered_requests h mine) host k block.0 block.1
    (idle_has_no_task (directory setup mine) block.0 (not-true _ first.1)) idle waiting kept

evict_room_step :
    (setup : Configuration) (host : ℕ) (k : Tag) (mine : List Event) → EvictRow setup host k.0 mine → RoomsAre setup mine
    → RoomsKept (directory_after_evict host k (victim_block (directory setup mine)) (directory setup mine)).task
    (λ h tag. cond ((host == h) && (k.0 == tag)) Room.EvictionInProgress (request_room setup h tag mine)) (λ h. buffered_requests h mine)
evict_room_step setup host k mine row kept =
    let wants = and_parts _ _ (and_parts _ _ row.wants).0 in
    evict_room_found setup host k mine (victim_block (directory setup mine)) refl row.victim wants.1 (record { r = row.r; asks = row.asks }) kept

finish_room_step :
    (setup : Configuration) (a : ℕ) (sends : Sends) (mine : List Event) → FinishRow setup a sends mine → RoomsAre setup mine
    → RoomsKept (with_task a None (directory setup mine).task)
    (λ h tag. room_after_finish h tag ((directory setup mine).task a) (request_room setup h tag mine)) (λ h. buffered_requests h mine)
finish_room_step setup a sends mine row kept =
    subst
    (λ found. RoomsKept (with_task a None (directory setup mine).task) (λ h tag. room_after_finish h tag found (request_room setup h tag mine))
    (λ h. buffered_requests h mine))
    (sym row.task)
    (finish_rooms (directory setup mine).task (λ h tag. request_room setup h tag mine) (λ h. buffered_requests h mine) a row.t row.task kept)

rooms_step :
    (setup : Configuration) (cause : Cause) (sends : Sends) (mine : List Event) → RoomsAre setup mine → DeviceRow setup cause sends mine
    → RoomsKept (directory_after setup cause sends mine (directory setup mine)).task
    (λ h tag. room_after setup h tag cause mine (request_room setup h tag mine))
    (λ h. requests_after h cause (buffered_requests h mine))
rooms_step setup (Cause.Op s i op) sends mine kept row = kept
rooms_step setup (Cause.Take host m) sends mine kept row =
    subst (λ task. RoomsKept task (λ h tag. request_room setup h tag mine) (λ h. with_last (takes_on h Channel.Req (Cause.Take host m)) (buffered_requests h mine)))
    (sym (take_leaves_tasks setup host m mine (directory setup mine)))
    (rooms_after_take (directory setup mine).task (λ h tag. request_room setup h tag mine) (λ h. buffered_requests h mine) (Cause.Take host m) kept
    (λ h. takes_on h Channel.Req (Cause.Take host m)))
rooms_step setup (Cause.Act (Act.Conflict line)) sends mine kept row = kept
rooms_step setup (Cause.Act (Act.WriteBack line)) sends mine kept row = kept
rooms_step setup (Cause.Act (Act.Answer line)) sends mine kept row = kept
rooms_step setup (Cause.Act (Act.AnswerBlock line)) sends mine kept row = kept
rooms_step setup (Cause.Act (Act.HostReturn c)) sends mine kept row = kept
rooms_step setup (Cause.Act (Act.Serve host tag)) sends mine kept row =
    subst (λ task. RoomsKept task (λ h tag. request_room setup h tag mine) (λ h. buffered_requests h mine))
    (sym (serve_leaves_tasks setup host (message_with tag.0 (buffered_writes host mine)) (directory setup mine))) kept
rooms_step setup (Cause.Act (Act.Clean host k)) sends mine kept row =
    subst (λ task. RoomsKept task (λ h tag. request_room setup h tag mine) (λ h. without_used (cond (host == h) (Some k.0) None) (buffered_requests h mine)))
    (sym (clean_leaves_tasks setup host (option_and_then line_in (message_with k.0 (buffered_requests host mine))) (directory setup mine)))
    (clean_rooms (directory setup mine).task (λ h tag. request_room setup h tag mine) (λ h. buffered_requests h mine) host k.0 row.r row.asks_nothing kept)
rooms_step setup (Cause.Act (Act.Start host k)) sends mine kept row = start_room_step setup host k.0 mine row kept
rooms_step setup (Cause.Act (Act.Evict host k)) sends mine kept row = evict_room_step setup host k mine row kept
rooms_step setup (Cause.Act (Act.Snoop host line)) sends mine kept row = kept
rooms_step setup (Cause.Act (Act.Finish line)) sends mine kept row = finish_room_step setup line.0 sends mine row kept
rooms_step setup (Cause.Act (Act.DeviceReturn host c)) sends mine kept row = kept

no_rooms : RoomsKept (λ a. None) (λ h tag. Room.NoEviction) (λ h. [])
no_rooms = record {
  progress = λ a t is eviction. absurd (none-some t is);
  alone = λ a b s t is_s is_t evicts_s evicts_t same_host same_tag. absurd (none-some s is_s);
  stands = λ h tag is. absurd (false≢true (ap is_no_eviction (sym is)));
  buffered = λ h tag is. absurd (false≢true (sym is));
}

-- the rooms are kept by every list of the device's own events
pub rooms_are_kept :
    (setup : Configuration) (opening : List (Line × Bytes64)) (mine : List Event) → IsOwnRun setup opening device mine
    → RoomsKept (directory setup mine).task (λ h tag. request_room setup h tag mine) (λ h. buffered_requests h mine)
rooms_are_kept setup opening [] run = no_rooms
rooms_are_kept setup opening (e ∷ past) run =
    let own = device_event setup opening e past run in
    rooms_step setup e.cause e.sends past (rooms_are_kept setup opening past own.0) own.1
