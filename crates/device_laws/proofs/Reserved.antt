-- The number of reservations that is kept follows each event.
use Rattle.std.proofs.Common.{◌≡◌, ℕ, ◌+◌, ◌-◌, Bool, true, false, List, ◌∷◌, Option, Some, None, cond, refl, ap, sym, ◌∙◌, subst, arith}
use Rattle.std.specs.Prelude.{nat_lt, option_map, ◌&&◌, ◌==◌}
use Rattle.std.proofs.lemmas.Bool.{and_parts, eqb-true, false≢true}
use Rattle.cxl_message.specs.declared.events.Act.{Act}
use Rattle.cxl_message.specs.declared.events.Cause.{Cause}
use Rattle.cxl_message.specs.declared.events.Event.{Event}
use Rattle.cxl_message.specs.declared.events.Sends.{Sends}
use Rattle.cxl_message.specs.declared.identifiers.Bytes64.{Bytes64}
use Rattle.cxl_message.specs.declared.identifiers.Line.{Line}
use Rattle.cxl_message.specs.declared.messages.Message.{Message}
use Rattle.cxl_message.specs.Setup.{Configuration}
use Rattle.coherence_model.specs.Buffers.{buffered_requests, message_with}
use Rattle.coherence_model.specs.DirectoryChanges.{directory}
use Rattle.coherence_model.specs.Fitting.{cause_fits}
use Rattle.coherence_model.specs.Room.{Room, is_no_eviction, is_reservation, request_room, reservation_count, room_after, room_after_finish}
use Rattle.coherence_model.specs.Tasks.{Task, is_eviction}
use Rattle.coherence_model.specs.Traces.{device}
use Rattle.coherence_model.specs.Words.{one_if}
use Rattle.entry_laws.proofs.Counts.{is_pair, no_pairs, pair_count, pair_exists, pairs_at_least, pairs_at_most}
use Rattle.entry_laws.proofs.DeviceRows.{DeviceRow, StartRow}
use Rattle.device_record.specs.ReservationChanges.{reserved_finished, reserved_in, reserved_started}
use Rattle.device_record.specs.Kept.{kept_device, kept_request, lines_left, task_of}
use Rattle.device_laws.proofs.Buffers.{act_host}
use Rattle.device_laws.proofs.Lookups.{request_is, task_is}
use Rattle.device_laws.proofs.DeviceRuns.{DeviceRun, directory_is_kept, rooms_are_kept, tasks_are_shaped}

-- the pairs with a reservation
abbrev pub reserved : (ℕ → ℕ → Room) → ℕ → ℕ → Bool
reserved room h tag = is_reservation (room h tag)

-- the rooms with one pair's set
abbrev pub with_room_of : ℕ → ℕ → Room → (ℕ → ℕ → Room) → ℕ → ℕ → Room
with_room_of k tag new room h t = cond (is_pair k tag h t) new (room h t)

set_there : (own : Bool) (new old : Room) → own ≡ true → is_reservation (cond own new old) ≡ is_reservation new
set_there true new old is = refl
set_there false new old is = absurd (false≢true is)

set_elsewhere : (own : Bool) (new old : Room) → own ≡ false → is_reservation (cond own new old) ≡ is_reservation old
set_elsewhere true new old is = absurd (false≢true (sym is))
set_elsewhere false new old is = refl

at_pair : (room : ℕ → ℕ → Room) (k tag h t : ℕ) (b : Bool) → is_pair k tag h t ≡ true → is_reservation (room k tag) ≡ b → is_reservation (room h t) ≡ b
at_pair room k tag h t b own is =
    let parts = and_parts (k == h) (tag == t) own in
    subst (λ x. is_reservation (room h x) ≡ b) (eqb-true tag t parts.1) (subst (λ x. is_reservation (room x tag) ≡ b) (eqb-true k h parts.0) is)

-- fewer: a pair that counts after a change counted before, or is the changed one
from_before : (own : Bool) (new old : Room) → is_reservation (cond own new old) ≡ true → is_reservation old ≡ false → own ≡ true
from_before true new old is none = refl
from_before false new old is none = absurd (false≢true (sym none ∙ is))

to_after : (own : Bool) (new old : Room) → is_reservation old ≡ true → is_reservation (cond own new old) ≡ false → own ≡ true
to_after true new old is none = refl
to_after false new old is none = absurd (false≢true (sym none ∙ is))

keeps : (own : Bool) (new old : Room) → (own ≡ true → is_reservation old ≡ true → is_reservation new ≡ true) → is_reservation old ≡ true → is_reservation (cond own new old) ≡ true
keeps true new old same is = same refl is
keeps false new old same is = is

unless : (own : Bool) (new old : Room) → is_reservation new ≡ false → is_reservation (cond own new old) ≡ true → is_reservation old ≡ true
unless true new old none is = absurd (false≢true (sym none ∙ is))
unless false new old none is = is

-- one more, where a pair without a reservation gets one
one_reserved : (hosts tags k tag : ℕ) (new : Room) (room : ℕ → ℕ → Room) → nat_lt k hosts ≡ true → nat_lt tag tags ≡ true → is_reservation (room k tag) ≡ false → is_reservation new ≡ true
    → pair_count (reserved (with_room_of k tag new room)) hosts tags ≡ pair_count (reserved room) hosts tags + 1
one_reserved hosts tags k tag new room host named none some =
    let one = pair_exists k tag hosts tags host named in
    let most = pairs_at_most (reserved (with_room_of k tag new room)) (reserved room) (is_pair k tag) hosts tags (λ h t is old. from_before (is_pair k tag h t) new (room h t) is old) in
    let least = pairs_at_least (reserved (with_room_of k tag new room)) (reserved room) (is_pair k tag) hosts tags
    (λ h t is. keeps (is_pair k tag h t) new (room h t) (λ own old. some) is)
    (λ h t own. (set_there (is_pair k tag h t) new (room h t) own ∙ some, at_pair room k tag h t false own none)) in
    omega arith

-- one less, where a pair with one loses it
one_given_up : (hosts tags k tag : ℕ) (new : Room) (room : ℕ → ℕ → Room) → nat_lt k hosts ≡ true → nat_lt tag tags ≡ true → is_reservation (room k tag) ≡ true → is_reservation new ≡ false
    → pair_count (reserved room) hosts tags ≡ pair_count (reserved (with_room_of k tag new room)) hosts tags + 1
one_given_up hosts tags k tag new room host named some none =
    let one = pair_exists k tag hosts tags host named in
    let most = pairs_at_most (reserved room) (reserved (with_room_of k tag new room)) (is_pair k tag) hosts tags (λ h t is later. to_after (is_pair k tag h t) new (room h t) is later) in
    let least = pairs_at_least (reserved room) (reserved (with_room_of k tag new room)) (is_pair k tag) hosts tags
    (λ h t is. unless (is_pair k tag h t) new (room h t) none is)
    (λ h t own. (at_pair room k tag h t true own some, set_there (is_pair k tag h t) new (room h t) own ∙ none)) in
    omega arith

-- as many, where a pair without one gets none
none_reserved : (hosts tags k tag : ℕ) (new : Room) (room : ℕ → ℕ → Room) → is_reservation (room k tag) ≡ false → is_reservation new ≡ false
    → pair_count (reserved (with_room_of k tag new room)) hosts tags ≡ pair_count (reserved room) hosts tags
none_reserved hosts tags k tag new room none none_new =
    let zero = no_pairs hosts tags in
    let most = pairs_at_most (reserved (with_room_of k tag new room)) (reserved room) (λ h t. false) hosts tags
    (λ h t is old. absurd (false≢true (sym old ∙ unless (is_pair k tag h t) new (room h t) none_new is))) in
    let least = pairs_at_most (reserved room) (reserved (with_room_of k tag new room)) (λ h t. false) hosts tags
    (λ h t is later. absurd (false≢true (sym (at_pair room k tag h t false (to_after (is_pair k tag h t) new (room h t) is later) none) ∙ is))) in
    omega arith

-- ---- Start

started_by : (hosts tags k tag : ℕ) (room : ℕ → ℕ → Room) → nat_lt k hosts ≡ true → nat_lt tag tags ≡ true → (b : Bool) → is_reservation (room k tag) ≡ b
    → pair_count (reserved (with_room_of k tag Room.NoEviction room)) hosts tags ≡ pair_count (reserved room) hosts tags - one_if b
started_by hosts tags k tag room host named true is = let less = one_given_up hosts tags k tag Room.NoEviction room host named is refl in omega arith
started_by hosts tags k tag room host named false is = let same = none_reserved hosts tags k tag Room.NoEviction room is refl in omega arith

-- ---- Finish

not_in_progress : (r : Room) → r ≡ Room.EvictionInProgress → is_reservation r ≡ false
not_in_progress r is = ap is_reservation is

purposed_by : (purposed : Bool) (k tag h t : ℕ) (old : Room) (b : Bool) → purposed ≡ b
    → cond ((purposed && (k == h)) && (tag == t)) Room.Reservation old ≡ cond b (cond (is_pair k tag h t) Room.Reservation old) old
purposed_by true k tag h t old true is = refl
purposed_by true k tag h t old false is = absurd (false≢true (sym is))
purposed_by false k tag h t old true is = absurd (false≢true is)
purposed_by false k tag h t old false is = refl

finished_by : (setup : Configuration) (t : Task) (room : ℕ → ℕ → Room) (b : Bool) → is_eviction t.purpose ≡ b → nat_lt t.host setup.hosts ≡ true → nat_lt t.tag setup.tags ≡ true
    → (is_eviction t.purpose ≡ true → room t.host t.tag ≡ Room.EvictionInProgress)
    → pair_count (reserved (λ h tag. cond b (cond (is_pair t.host t.tag h tag) Room.Reservation (room h tag)) (room h tag))) setup.hosts setup.tags ≡ pair_count (reserved room) setup.hosts setup.tags + one_if b
finished_by setup t room true is host named progress = one_reserved setup.hosts setup.tags t.host t.tag Room.Reservation room host named (not_in_progress (room t.host t.tag) (progress is)) refl
finished_by setup t room false is host named progress = omega arith

finish_found : (setup : Configuration) (past : List Event) → DeviceRun setup past → (a : ℕ) (found : Option Task) → (directory setup past).task a ≡ found
    → pair_count (reserved (λ h tag. room_after_finish h tag found (request_room setup h tag past))) setup.hosts setup.tags
    ≡ reserved_finished (task_of setup.hosts (λ b. found) (lines_left past) a) (pair_count (reserved (λ h tag. request_room setup h tag past)) setup.hosts setup.tags)
finish_found setup past run a None is = refl
finish_found setup past run a (Some t) is =
    let shape = tasks_are_shaped setup past run a t is in
    ap (λ (room : ℕ → ℕ → Room). pair_count (reserved room) setup.hosts setup.tags)
    (λ i h tag. purposed_by (is_eviction t.purpose) t.host t.tag h tag (request_room setup h tag past) (is_eviction t.purpose) refl i)
    ∙ finished_by setup t (λ h tag. request_room setup h tag past) (is_eviction t.purpose) refl shape.host shape.tag ((rooms_are_kept setup past run).progress a t is)

-- ---- each cause

no_room : (r : Room) → is_no_eviction r ≡ true → is_reservation r ≡ false
no_room Room.NoEviction is = refl
no_room Room.EvictionInProgress is = absurd (false≢true is)
no_room Room.Reservation is = absurd (false≢true is)

started_found : (setup : Configuration) (past : List Event) (k tag : ℕ) (row : StartRow setup k tag past) (n : ℕ) (found : Option Message) → message_with tag (buffered_requests k past) ≡ found
    → reserved_started (option_map (kept_request setup k past) found) n ≡ n - one_if (is_reservation (request_room setup k tag past))
started_found setup past k tag row n found is =
    let m : Message = Message.Req row.r.op row.r.meta row.r.snp row.r.own_tag row.r.line in
    let same : Some m ≡ found = sym row.r.found ∙ is in
    subst (λ o. reserved_started (option_map (kept_request setup k past) o) n ≡ n - one_if (is_reservation (request_room setup k tag past))) same
    (ap (λ x. n - one_if (is_reservation (request_room setup k x past))) row.r.same)

reserved_by : (setup : Configuration) (opening : List (Line × Bytes64)) (past : List Event) → DeviceRun setup past → (cause : Cause) (sends : Sends) → cause_fits setup device cause ≡ true
    → DeviceRow setup cause sends past
    → pair_count (reserved (λ h tag. room_after setup h tag cause past (request_room setup h tag past))) setup.hosts setup.tags ≡ reserved_in cause (kept_device setup opening past)
reserved_by setup opening past run (Cause.Op s i op) sends fits row = refl
reserved_by setup opening past run (Cause.Take k m) sends fits row = refl
reserved_by setup opening past run (Cause.Act (Act.Conflict line)) sends fits row = refl
reserved_by setup opening past run (Cause.Act (Act.WriteBack line)) sends fits row = refl
reserved_by setup opening past run (Cause.Act (Act.Answer line)) sends fits row = refl
reserved_by setup opening past run (Cause.Act (Act.AnswerBlock line)) sends fits row = refl
reserved_by setup opening past run (Cause.Act (Act.HostReturn c)) sends fits row = refl
reserved_by setup opening past run (Cause.Act (Act.Serve k tag)) sends fits row = refl
reserved_by setup opening past run (Cause.Act (Act.Clean k tag)) sends fits row = refl
reserved_by setup opening past run (Cause.Act (Act.Start k tag)) sends fits row =
    started_by setup.hosts setup.tags k tag.0 (λ h t. request_room setup h t past) row.host row.named (is_reservation (request_room setup k tag.0 past)) refl
    ∙ sym (started_found setup past k tag.0 row (reservation_count setup past) (message_with tag.0 (buffered_requests k past)) refl)
    ∙ sym (ap (λ o. reserved_started o (reservation_count setup past)) (request_is setup past k tag.0 (act_host setup k _ fits)))
reserved_by setup opening past run (Cause.Act (Act.Evict k tag)) sends fits row =
    let wants = and_parts _ _ (and_parts _ _ row.wants).0 in
    none_reserved setup.hosts setup.tags k tag.0 Room.EvictionInProgress (λ h t. request_room setup h t past) (no_room (request_room setup k tag.0 past) wants.1) refl
reserved_by setup opening past run (Cause.Act (Act.Snoop k line)) sends fits row = refl
reserved_by setup opening past run (Cause.Act (Act.Finish line)) sends fits row =
    finish_found setup past run line.0 ((directory setup past).task line.0) refl
    ∙ ap (λ o. reserved_finished o (reservation_count setup past))
    (sym (task_is setup.hosts setup.lines (directory setup past).task (lines_left past) (directory_is_kept setup past run).tasks line.0))
reserved_by setup opening past run (Cause.Act (Act.DeviceReturn k c)) sends fits row = refl

-- the number of reservations follows
pub reserved_follow : (setup : Configuration) (opening : List (Line × Bytes64)) (e : Event) (past : List Event) → DeviceRun setup past → cause_fits setup device e.cause ≡ true → DeviceRow setup e.cause e.sends past
    → reservation_count setup (e ∷ past) ≡ reserved_in e.cause (kept_device setup opening past)
reserved_follow setup opening e past run fits row = reserved_by setup opening past run e.cause e.sends fits row
