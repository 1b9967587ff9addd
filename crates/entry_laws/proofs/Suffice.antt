-- Entries and reservations together are at most the filter's entries.
use Rattle.std.proofs.Common.{◌≡◌, ℕ, zero, suc, ◌+◌, ◌-◌, ◌<◌, ◌≤◌, Bool, true, false, List, [], ◌∷◌, ◌++◌, Option, Some, None, cond, length, refl, sym, ◌∙◌, ap, subst, arith, inl, inr}
use Rattle.std.specs.Prelude.{filter, nat_le, nat_lt, not, option_and_then, ◌&&◌, ◌==◌}
use Rattle.std.specs.List.{list_all, list_any, range_with_len}
use Rattle.std.proofs.lemmas.Bool.{and_from, and_left, and_parts, cases_Bool, eqb-true, false≢true, false_from_ne_true, leb-true, not-true, not_from_false, or_cases, or_from, or_parts, or_right}
use Rattle.std.proofs.lemmas.List.{length-append}
use Rattle.cxl_message.specs.declared.channels.Channel.{Channel}
use Rattle.cxl_message.specs.declared.events.Act.{Act}
use Rattle.cxl_message.specs.declared.events.Cause.{Cause}
use Rattle.cxl_message.specs.declared.events.Event.{Event}
use Rattle.cxl_message.specs.declared.events.Sends.{Sends}
use Rattle.cxl_message.specs.declared.identifiers.Tag.{Tag}
use Rattle.cxl_message.specs.declared.messages.Message.{Message}
use Rattle.cxl_message.specs.declared.opcodes.Span.{Span}
use Rattle.cxl_message.specs.Lists.{is_in}
use Rattle.cxl_message.specs.Messages.{line_in}
use Rattle.cxl_message.specs.Setup.{Configuration}
use Rattle.cxl_message.specs.Spans.{lines_of}
use Rattle.coherence_model.specs.Buffers.{buffered_requests, buffered_writes, message_with}
use Rattle.coherence_model.specs.DeviceActs.{has_entry_room, is_settled}
use Rattle.coherence_model.specs.Directory.{Directory, has_entry, is_busy, is_listed, is_to_ask, victim_block}
use Rattle.coherence_model.specs.DirectoryChanges.{directory, directory_after, directory_after_clean, directory_after_evict, directory_after_finish, directory_after_serve, directory_after_start, directory_after_take, with_entry, with_task}
use Rattle.coherence_model.specs.Room.{Room, evicts_for, free_entries, is_reservation, request_room, room_after, room_after_finish}
use Rattle.coherence_model.specs.SentSnoops.{is_asked, sent_snoop_at}
use Rattle.coherence_model.specs.Tasks.{Purpose, Task, is_eviction}
use Rattle.coherence_model.specs.OwnRuns.{IsOwnRun}
use Rattle.cxl_message.specs.declared.identifiers.Bytes64.{Bytes64}
use Rattle.cxl_message.specs.declared.identifiers.Line.{Line}
use Rattle.coherence_model.specs.Traces.{device}
use Rattle.entry_laws.proofs.Blocks.{all_below, all_lines, covers_first, some_lines}
use Rattle.entry_laws.proofs.Buffered.{AreTakenOn, request_line_exists, requests_are_taken}
use Rattle.entry_laws.proofs.Counts.{filter_loses, filter_shorter, is_pair, no_pairs, pair_at_most_one, pair_count, pair_exists, pairs_at_least, pairs_at_most}
use Rattle.entry_laws.proofs.DeviceRows.{DeviceRow, FinishRow, StartRow}
use Rattle.entry_laws.proofs.DirectorySteps.{DirectoryKept}
use Rattle.entry_laws.proofs.Entries.{EntriesKept}
use Rattle.entry_laws.proofs.Kept.{directory_is_kept}
use Rattle.entry_laws.proofs.OwnRuns.{device_event}
use Rattle.entry_laws.proofs.Tasks.{TasksKept, busy_at_task, busy_without}

-- the pairs of a host and a tag with a reservation
abbrev pub reserved : (ℕ → ℕ → Room) → ℕ → ℕ → Bool
reserved room h tag = is_reservation (room h tag)

-- entries and reservations are at most so many
abbrev pub Suffices : Configuration → List ℕ → (ℕ → ℕ → Room) → Type 0
Suffices setup entries room = length entries + pair_count (reserved room) setup.hosts setup.tags ≤ setup.entries

-- ---- fewer entries, or fewer reservations

-- no pair but those that were reserved is
fewer_reserved :
    (setup : Configuration) (room later : ℕ → ℕ → Room) → ((h tag : ℕ) → reserved later h tag ≡ true → reserved room h tag ≡ true)
    → pair_count (reserved later) setup.hosts setup.tags ≤ pair_count (reserved room) setup.hosts setup.tags
fewer_reserved setup room later from =
    let most = pairs_at_most (reserved later) (reserved room) (λ h tag. false) setup.hosts setup.tags
    (λ h tag is none. absurd (false≢true (sym none ∙ from h tag is))) in
    let none = no_pairs setup.hosts setup.tags in
    omega arith

suffice_fewer :
    (setup : Configuration) (old new : List ℕ) (room later : ℕ → ℕ → Room) → length new ≤ length old →
    ((h tag : ℕ) → reserved later h tag ≡ true → reserved room h tag ≡ true)
    → Suffices setup old room → Suffices setup new later
suffice_fewer setup old new room later short from enough = let fewer = fewer_reserved setup room later from in omega arith

-- ---- listings

relisted_suffice :
    (setup : Configuration) (D : Directory) (room : ℕ → ℕ → Room) (p : ℕ → Bool) → Suffices setup D.entries room → Suffices setup (filter p D.entries) room
relisted_suffice setup D room p enough = suffice_fewer setup D.entries (filter p D.entries) room room (filter_shorter p D.entries) (λ h tag is. is) enough

take_suffices :
    (setup : Configuration) (h : ℕ) (m : Message) (mine : List Event) (D : Directory) (room : ℕ → ℕ → Room) → Suffices setup D.entries room
    → Suffices setup (directory_after_take setup h m mine D).entries room
take_suffices setup h (Message.Req op meta snp tag line) mine D room enough = enough
take_suffices setup h (Message.MemWr meta snp tag line bytes) mine D room enough = enough
take_suffices setup h (Message.BiConflict tag) mine D room enough = enough
take_suffices setup h (Message.BiRsp op bitag low) mine D room enough = relisted_suffice setup D room _ enough
take_suffices setup h (Message.Ndr op tag) mine D room enough = enough
take_suffices setup h (Message.MemData tag bytes) mine D room enough = enough
take_suffices setup h (Message.BiSnp op bitag line span) mine D room enough = enough
take_suffices setup h (Message.Credit c) mine D room enough = enough

serve_suffices :
    (setup : Configuration) (h : ℕ) (found : Option Message) (D : Directory) (room : ℕ → ℕ → Room) → Suffices setup D.entries room
    → Suffices setup (directory_after_serve setup h found D).entries room
serve_suffices setup h None D room enough = enough
serve_suffices setup h (Some (Message.Req op meta snp tag line)) D room enough = enough
serve_suffices setup h (Some (Message.MemWr meta snp tag line bytes)) D room enough = relisted_suffice setup D room _ enough
serve_suffices setup h (Some (Message.BiConflict tag)) D room enough = enough
serve_suffices setup h (Some (Message.BiRsp op bitag low)) D room enough = enough
serve_suffices setup h (Some (Message.Ndr op tag)) D room enough = enough
serve_suffices setup h (Some (Message.MemData tag bytes)) D room enough = enough
serve_suffices setup h (Some (Message.BiSnp op bitag line span)) D room enough = enough
serve_suffices setup h (Some (Message.Credit c)) D room enough = enough

clean_suffices :
    (setup : Configuration) (h : ℕ) (found : Option ℕ) (D : Directory) (room : ℕ → ℕ → Room) → Suffices setup D.entries room
    → Suffices setup (directory_after_clean setup h found D).entries room
clean_suffices setup h None D room enough = enough
clean_suffices setup h (Some a) D room enough = relisted_suffice setup D room _ enough

-- ---- Start

-- the rooms after Start of the request of a host with a tag
abbrev started : (ℕ → ℕ → Room) → ℕ → ℕ → ℕ → ℕ → Room
started room host k h tag = cond (is_pair host k h tag) Room.NoEviction (room h tag)

unreserved : (own : Bool) (old : Room) → is_reservation (cond own Room.NoEviction old) ≡ true → is_reservation old ≡ true
unreserved true old is = absurd (false≢true is)
unreserved false old is = is

unreserved_own : (own : Bool) (old : Room) → own ≡ true → is_reservation (cond own Room.NoEviction old) ≡ false
unreserved_own true old is = refl
unreserved_own false old is = absurd (false≢true is)

own_reserved : (room : ℕ → ℕ → Room) (host k h tag : ℕ) → is_pair host k h tag ≡ true → is_reservation (room host k) ≡ true → is_reservation (room h tag) ≡ true
own_reserved room host k h tag own is =
    let parts = and_parts (host == h) (k == tag) own in
    subst (λ x. is_reservation (room h x) ≡ true) (eqb-true k tag parts.1) (subst (λ x. is_reservation (room x k) ≡ true) (eqb-true host h parts.0) is)

-- a reservation that is used makes place for an entry
started_reserved :
    (setup : Configuration) (room : ℕ → ℕ → Room) (host k : ℕ) → nat_lt host setup.hosts ≡ true → nat_lt k setup.tags ≡ true
    → is_reservation (room host k) ≡ true
    → pair_count (reserved (started room host k)) setup.hosts setup.tags + 1 ≤ pair_count (reserved room) setup.hosts setup.tags
started_reserved setup room host k exists named is =
    let once = pair_exists host k setup.hosts setup.tags exists named in
    let most = pairs_at_least (reserved room) (reserved (started room host k)) (is_pair host k) setup.hosts setup.tags
    (λ h tag kept. unreserved (is_pair host k h tag) (room h tag) kept)
    (λ h tag own. (own_reserved room host k h tag own is, unreserved_own (is_pair host k h tag) (room h tag) own)) in
    omega arith

entered_length : (line : ℕ) (entries : List ℕ) (b : Bool) → length (cond b entries (entries ++ line ∷ [])) ≤ length entries + 1
entered_length line entries true = omega arith
entered_length line entries false = omega (arith, length-append entries (line ∷ []))

entered_there : (line : ℕ) (entries : List ℕ) (b : Bool) → b ≡ true → length (cond b entries (entries ++ line ∷ [])) ≤ length entries
entered_there line entries true h = omega arith
entered_there line entries false h = absurd (false≢true h)

-- one more entry beside fewer reservations
one_entry : (n new old later all : ℕ) → n ≤ old + 1 → later + 1 ≤ new → old + new ≤ all → n + later ≤ all
one_entry n new old later all h j k = omega arith

free_entry : (n later old total all : ℕ) → n ≤ old + 1 → later ≤ total → 1 ≤ (all - old) - total → n + later ≤ all
free_entry n later old total all h j k = omega arith

start_suffices :
    (setup : Configuration) (mine : List Event) (host k line : ℕ) (room : Room) → request_room setup host k mine ≡ room → nat_lt host setup.hosts ≡ true →
    nat_lt k setup.tags ≡ true
    → has_entry_room setup room line (directory setup mine) mine ≡ true → line < setup.lines → EntriesKept setup (directory setup mine)
    → Suffices setup (directory setup mine).entries (λ h tag. request_room setup h tag mine)
    → Suffices setup (with_entry line (directory setup mine).entries) (started (λ h tag. request_room setup h tag mine) host k)
start_suffices setup mine host k line Room.NoEviction is exists named has_room inside kept enough =
    let fewer = fewer_reserved setup (λ h tag. request_room setup h tag mine) (started (λ h tag. request_room setup h tag mine) host k)
    (λ h tag own. unreserved (is_pair host k h tag) (request_room setup h tag mine) own) in
    elim (or_cases (has_entry setup (directory setup mine) line) (nat_le 1 (free_entries setup mine)) has_room) [
      | inl has ↦ (
          let same = entered_there line (directory setup mine).entries (is_in line (directory setup mine).entries) (kept.all line inside has) in
          omega arith
          )
      | inr free ↦ (
          free_entry (length (with_entry line (directory setup mine).entries))
          (pair_count (reserved (started (λ h tag. request_room setup h tag mine) host k)) setup.hosts setup.tags)
          (length (directory setup mine).entries) (pair_count (reserved (λ h tag. request_room setup h tag mine)) setup.hosts setup.tags) setup.entries
          (entered_length line (directory setup mine).entries (is_in line (directory setup mine).entries)) fewer (leb-true 1 (free_entries setup mine) free)
          )
    ]
start_suffices setup mine host k line Room.EvictionInProgress is exists named has_room inside kept enough = absurd (false≢true has_room)
start_suffices setup mine host k line Room.Reservation is exists named has_room inside kept enough =
    one_entry (length (with_entry line (directory setup mine).entries)) (pair_count (reserved (λ h tag. request_room setup h tag mine)) setup.hosts setup.tags)
    (length (directory setup mine).entries) (pair_count (reserved (started (λ h tag. request_room setup h tag mine) host k)) setup.hosts setup.tags)
    setup.entries
    (entered_length line (directory setup mine).entries (is_in line (directory setup mine).entries))
    (started_reserved setup (λ h tag. request_room setup h tag mine) host k exists named (ap is_reservation is)) enough

-- ---- Evict

unreserved_progress : (own : Bool) (old : Room) → is_reservation (cond own Room.EvictionInProgress old) ≡ true → is_reservation old ≡ true
unreserved_progress true old is = absurd (false≢true is)
unreserved_progress false old is = is

evict_leaves_entries : (h : ℕ) (tag : Tag) (found : Option (ℕ × Span)) (D : Directory) → (directory_after_evict h tag found D).entries ≡ D.entries
evict_leaves_entries h tag None D = refl
evict_leaves_entries h tag (Some block) D = refl

evict_suffices : (setup : Configuration) (D : Directory) (room : ℕ → ℕ → Room) (host : ℕ) (k : Tag) (found : Option (ℕ × Span)) → Suffices setup D.entries room
    → Suffices setup (directory_after_evict host k found D).entries (λ h tag. cond ((host == h) && (k.0 == tag)) Room.EvictionInProgress (room h tag))
evict_suffices setup D room host k found enough =
    suffice_fewer setup D.entries (directory_after_evict host k found D).entries room
    (λ h tag. cond ((host == h) && (k.0 == tag)) Room.EvictionInProgress (room h tag))
    (subst (λ xs. length xs ≤ length D.entries) (sym (evict_leaves_entries host k found D)) (omega arith))
    (λ h tag is. unreserved_progress ((host == h) && (k.0 == tag)) (room h tag) is) enough

-- ---- Finish

none_any : {X : Type 0} (p : X → Bool) (xs : List X) → list_any p xs ≡ false → list_all (λ x. not (p x)) xs ≡ true
none_any p [] h = refl
none_any p (x ∷ xs) h = let parts = or_parts (p x) (list_any p xs) h in and_from _ _ (not_from_false _ parts.0) (none_any p xs parts.1)

any_none : (p : ℕ → Bool) (k n : ℕ) → ((j : ℕ) → j < k + n → p j ≡ false) → list_any p (range_with_len k n) ≡ false
any_none p k zero h = refl
any_none p k (suc n) h = or_from _ _ (h k (omega arith)) (any_none p (k + 1) n (λ j high. h j (omega arith)))

asks_none :
    (purpose : Purpose) (D : Directory) (a : ℕ) (t : Task) (g : ℕ) → is_eviction purpose ≡ true → is_to_ask purpose D a t g ≡ false
    → list_any (λ b. is_listed D b g) (lines_of a t.span) ≡ false
asks_none Purpose.SharedRead D a t g is none = absurd (false≢true is)
asks_none Purpose.OwningRead D a t g is none = absurd (false≢true is)
asks_none Purpose.Invalidation D a t g is none = absurd (false≢true is)
asks_none Purpose.Eviction D a t g is none = none

-- a host that is not to be asked by an eviction isn't listed for its first line
unlisted :
    (setup : Configuration) (D : Directory) (mine : List Event) (a : ℕ) (t : Task) → is_eviction t.purpose ≡ true → is_settled setup a t D mine ≡ true → (g : ℕ)
    → g < setup.hosts → is_listed D a g ≡ false
unlisted setup D mine a t evicts settled g exists =
    let none = and_parts _ _ (all_below (λ g. not (is_asked g a mine) && not (is_to_ask t.purpose D a t g)) setup.hosts settled g exists) in
    let quiet = none_any (λ b. is_listed D b g) (lines_of a t.span) (asks_none t.purpose D a t g evicts (not-true _ none.1)) in
    not-true _ (all_lines (λ b. not (is_listed D b g)) a t.span quiet a (covers_first a t.span))

-- the first line of a finished eviction has no entry any more
evicted_entry :
    (setup : Configuration) (D : Directory) (mine : List Event) (a : ℕ) (t : Task) → TasksKept setup.lines D.task → D.task a ≡ Some t → is_eviction t.purpose ≡
    true → is_settled setup a t D mine ≡ true
    → has_entry setup (record { listed = D.listed; task = with_task a None D.task; entries = D.entries }) a ≡ false
evicted_entry setup D mine a t kept is evicts settled =
    let E : Directory = record { listed = D.listed; task = with_task a None D.task; entries = D.entries } in
    or_from _ _ (any_none (is_listed D a) 0 setup.hosts (λ g high. unlisted setup D mine a t evicts settled g (omega arith)))
    (false_from_ne_true (is_busy E a) (λ busy. (
    let by = busy_without setup.lines D E a refl kept a busy in
    by.1 (kept.apart by.0.first a a by.0.t t by.0.is is by.0.covered (covers_first a t.span))
    )))

finish_entries : (setup : Configuration) (D : Directory) (a : ℕ) (sends : Sends) → sends ≡ Sends.Nothing
    → (directory_after_finish setup a sends D).entries ≡ filter
    (has_entry setup (record { listed = D.listed; task = with_task a None D.task; entries = D.entries })) D.entries
finish_entries setup D a sends same = ap (λ s. (directory_after_finish setup a s D).entries) same

now_reserved : (own : Bool) (old : Room) → is_reservation (cond own Room.Reservation old) ≡ true → is_reservation old ≡ false → own ≡ true
now_reserved true old is none = refl
now_reserved false old is none = absurd (false≢true (sym none ∙ is))

for_pair : (h tag : ℕ) (t : Task) → evicts_for h tag t ≡ true → is_pair t.host t.tag h tag ≡ true
for_pair h tag t is =
    let parts = and_parts (is_eviction t.purpose && (t.host == h)) (t.tag == tag) is in
    let first = and_parts (is_eviction t.purpose) (t.host == h) parts.0 in
    and_from (t.host == h) (t.tag == tag) first.1 parts.1

-- one reservation more beside fewer entries
one_reservation : (n old new total all : ℕ) → n + 1 ≤ old → new ≤ total + 1 → old + total ≤ all → n + new ≤ all
one_reservation n old new total all h j k = omega arith

at_most_more : (n m k : ℕ) → n ≤ m + k → k ≤ 1 → n ≤ m + 1
at_most_more n m k h j = omega arith

finished_eviction :
    (setup : Configuration) (mine : List Event) (a : ℕ) (sends : Sends) (row : FinishRow setup a sends mine) → is_eviction row.t.purpose ≡ true → DirectoryKept
    setup (directory setup mine) (λ h b. sent_snoop_at h b mine)
    → Suffices setup (directory setup mine).entries (λ h tag. request_room setup h tag mine)
    → Suffices setup (directory_after_finish setup a sends (directory setup mine)).entries
    (λ h tag. cond (evicts_for h tag row.t) Room.Reservation (request_room setup h tag mine))
finished_eviction setup mine a sends row evicts kept enough =
    let first = kept.tasks.placed a row.t row.task in
    let some = some_lines row.t.span in
    let busy = busy_at_task (directory setup mine) a row.t row.task in
    let there = kept.entries.all a (omega arith) (or_right _ _ busy) in
    let lost = evicted_entry setup (directory setup mine) mine a row.t kept.tasks row.task evicts row.settled in
    let shorter = filter_loses a
    (has_entry setup (record {
      listed = (directory setup mine).listed;
      task = with_task a None
          (directory setup mine).task;
      entries = (directory setup mine).entries;
    }))
    (directory setup mine).entries lost there in
    let one = pair_at_most_one row.t.host row.t.tag setup.hosts setup.tags in
    let most = pairs_at_most (reserved (λ h tag. cond (evicts_for h tag row.t) Room.Reservation (request_room setup h tag mine)))
    (reserved (λ h tag. request_room setup h tag mine)) (is_pair row.t.host row.t.tag) setup.hosts setup.tags
    (λ h tag is none. for_pair h tag row.t (now_reserved (evicts_for h tag row.t) (request_room setup h tag mine) is none)) in
    subst (λ xs. Suffices setup xs (λ h tag. cond (evicts_for h tag row.t) Room.Reservation (request_room setup h tag mine)))
    (sym (finish_entries setup (directory setup mine) a sends (row.quiet evicts)))
    (one_reservation _ _ _ _ setup.entries shorter (at_most_more _ _ _ most one) enough)

not_reserved :
    (h tag : ℕ) (t : Task) (old : Room) → is_eviction t.purpose ≡ false → is_reservation (cond (evicts_for h tag t) Room.Reservation old) ≡ true
    → is_reservation old ≡ true
not_reserved h tag t old none is =
    subst (λ b. is_reservation (cond b Room.Reservation old) ≡ true) (and_left _ _ (and_left _ _ none)) is

finished_request :
    (setup : Configuration) (mine : List Event) (a : ℕ) (sends : Sends) (row : FinishRow setup a sends mine) → is_eviction row.t.purpose ≡ false
    → Suffices setup (directory setup mine).entries (λ h tag. request_room setup h tag mine)
    → Suffices setup (directory_after_finish setup a sends (directory setup mine)).entries
    (λ h tag. cond (evicts_for h tag row.t) Room.Reservation (request_room setup h tag mine))
finished_request setup mine a sends row none enough =
    suffice_fewer setup (directory setup mine).entries (directory_after_finish setup a sends (directory setup mine)).entries
    (λ h tag. request_room setup h tag mine)
    (λ h tag. cond (evicts_for h tag row.t) Room.Reservation (request_room setup h tag mine)) (filter_shorter _ (directory setup mine).entries)
    (λ h tag is. not_reserved h tag row.t (request_room setup h tag mine) none is) enough

finish_suffices :
    (setup : Configuration) (mine : List Event) (a : ℕ) (sends : Sends) → FinishRow setup a sends mine → DirectoryKept setup (directory setup mine)
    (λ h b. sent_snoop_at h b mine)
    → Suffices setup (directory setup mine).entries (λ h tag. request_room setup h tag mine)
    → Suffices setup (directory_after_finish setup a sends (directory setup mine)).entries
    (λ h tag. room_after_finish h tag ((directory setup mine).task a) (request_room setup h tag mine))
finish_suffices setup mine a sends row kept enough =
    subst
    (λ found. Suffices setup (directory_after_finish setup a sends (directory setup mine)).entries
    (λ h tag. room_after_finish h tag found (request_room setup h tag mine)))
    (sym row.task)
    (elim (cases_Bool (is_eviction row.t.purpose)) [
      | inl evicts ↦ finished_eviction setup mine a sends row evicts kept enough
      | inr grants ↦ finished_request setup mine a sends row grants enough
    ])

-- ---- by cause

start_step_suffices :
    (setup : Configuration) (mine : List Event) (host k : ℕ) (row : StartRow setup host k mine) → row.r.line.0 < setup.lines → EntriesKept setup
    (directory setup mine)
    → Suffices setup (directory setup mine).entries (λ h tag. request_room setup h tag mine)
    → Suffices setup (directory_after_start host (message_with k (buffered_requests host mine)) (directory setup mine)).entries
    (λ h tag. cond ((host == h) && (k == tag)) Room.NoEviction (request_room setup h tag mine))
start_step_suffices setup mine host k row inside kept enough =
    subst
    (λ found. Suffices setup (directory_after_start host found (directory setup mine)).entries
    (λ h tag. cond ((host == h) && (k == tag)) Room.NoEviction (request_room setup h tag mine)))
    (sym row.r.found)
    (start_suffices setup mine host k row.r.line.0 (request_room setup host k mine) refl row.host row.named row.room inside kept enough)

suffice_step :
    (setup : Configuration) (cause : Cause) (sends : Sends) (mine : List Event) → ((h : ℕ) → AreTakenOn setup h Channel.Req (buffered_requests h mine))
    → DirectoryKept setup (directory setup mine) (λ h b. sent_snoop_at h b mine) → Suffices setup (directory setup mine).entries
    (λ h tag. request_room setup h tag mine) → DeviceRow setup cause sends mine
    → Suffices setup (directory_after setup cause sends mine (directory setup mine)).entries
    (λ h tag. room_after setup h tag cause mine (request_room setup h tag mine))
suffice_step setup (Cause.Op s i op) sends mine named kept enough row = enough
suffice_step setup (Cause.Take host m) sends mine named kept enough row =
    take_suffices setup host m mine (directory setup mine) (λ h tag. request_room setup h tag mine) enough
suffice_step setup (Cause.Act (Act.Conflict line)) sends mine named kept enough row = enough
suffice_step setup (Cause.Act (Act.WriteBack line)) sends mine named kept enough row = enough
suffice_step setup (Cause.Act (Act.Answer line)) sends mine named kept enough row = enough
suffice_step setup (Cause.Act (Act.AnswerBlock line)) sends mine named kept enough row = enough
suffice_step setup (Cause.Act (Act.HostReturn c)) sends mine named kept enough row = enough
suffice_step setup (Cause.Act (Act.Serve host tag)) sends mine named kept enough row =
    serve_suffices setup host (message_with tag.0 (buffered_writes host mine)) (directory setup mine) (λ h tag. request_room setup h tag mine) enough
suffice_step setup (Cause.Act (Act.Clean host tag)) sends mine named kept enough row =
    clean_suffices setup host (option_and_then line_in (message_with tag.0 (buffered_requests host mine))) (directory setup mine)
    (λ h tag. request_room setup h tag mine) enough
suffice_step setup (Cause.Act (Act.Start host k)) sends mine named kept enough row =
    start_step_suffices setup mine host k.0 row (request_line_exists setup host k.0 (buffered_requests host mine) row.r (named host)) kept.entries enough
suffice_step setup (Cause.Act (Act.Evict host k)) sends mine named kept enough row =
    evict_suffices setup (directory setup mine) (λ h tag. request_room setup h tag mine) host k (victim_block (directory setup mine)) enough
suffice_step setup (Cause.Act (Act.Snoop host line)) sends mine named kept enough row = enough
suffice_step setup (Cause.Act (Act.Finish line)) sends mine named kept enough row = finish_suffices setup mine line.0 sends row kept enough
suffice_step setup (Cause.Act (Act.DeviceReturn host c)) sends mine named kept enough row = enough

none_reserved : (setup : Configuration) → Suffices setup [] (λ h tag. Room.NoEviction)
none_reserved setup = let none = no_pairs setup.hosts setup.tags in omega arith

-- entries and reservations suffice after every list of the device's own events
pub entries_do_suffice :
    (setup : Configuration) (opening : List (Line × Bytes64)) (mine : List Event) → IsOwnRun setup opening device mine → Suffices setup (directory setup mine).entries (λ h tag. request_room setup h tag mine)
entries_do_suffice setup opening [] run = none_reserved setup
entries_do_suffice setup opening (e ∷ past) run =
    let own = device_event setup opening e past run in
    suffice_step setup e.cause e.sends past (requests_are_taken setup opening past own.0) (directory_is_kept setup opening past own.0) (entries_do_suffice setup opening past own.0)
    own.1
