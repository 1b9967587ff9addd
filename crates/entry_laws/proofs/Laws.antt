-- The laws, from what is kept by the device's own events.
use Rattle.std.proofs.Common.{◌≡◌, ℕ, ◌<◌, ◌≤◌, Bool, true, false, List, [], ◌∷◌, Option, Some, None, refl, sym, ◌∙◌, ap, subst, arith}
use Rattle.std.specs.Prelude.{count_by, is_some, nat_lt, not, option_and_then, ◌&&◌, ◌||◌}
use Rattle.std.specs.List.{list_all, list_any}
use Rattle.std.specs.Option.{option_map_or}
use Rattle.std.proofs.lemmas.Bool.{and_from, and_parts, eq-eqb, false≢true, le-leb, lt-ltb, ltb-true, not_from_false, or_left, or_right, false_from_ne_true}
use Rattle.cxl_message.specs.declared.events.Event.{Event}
use Rattle.cxl_message.specs.declared.identifiers.Bytes64.{Bytes64}
use Rattle.cxl_message.specs.declared.identifiers.Line.{Line}
use Rattle.cxl_message.specs.declared.messages.Message.{Message}
use Rattle.cxl_message.specs.Lists.{below, is_in}
use Rattle.cxl_message.specs.Setup.{Configuration}
use Rattle.cxl_message.specs.Spans.{covers}
use Rattle.coherence_model.specs.Buffers.{buffered_requests}
use Rattle.coherence_model.specs.Copies.{asks_for_grant}
use Rattle.coherence_model.specs.DeviceActs.{request_in}
use Rattle.coherence_model.specs.Directory.{Directory, has_entry, is_busy}
use Rattle.coherence_model.specs.DirectoryChanges.{directory}
use Rattle.coherence_model.specs.EntryFacts.{covering_count, eviction_has_request, line_tasks_are_kept}
use Rattle.coherence_model.specs.Room.{Room, evicts_for, is_no_eviction, request_room}
use Rattle.coherence_model.specs.SentSnoops.{is_asked}
use Rattle.coherence_model.specs.Tasks.{Task, is_eviction, task_covers}
use Rattle.coherence_model.specs.Traces.{device, events_of}
use Rattle.coherence_model.specs.Words.{one_if}
use Rattle.coherence_model.proofs.OwnRuns.{events_of_run}
use Rattle.entry_laws.specs.Laws.{BufferedMessagesFit, BusyLinesAreCovered, EntriesAreExact, EntriesAreKept, EntriesAreOnce, EntriesSuffice, EvictionsHaveRequests, OneTaskEvicts, RequestTagsAreDistinct, RoomsHaveRequests, SnoopsHaveTasks, TasksAreApart, TasksArePlaced, VictimsStand, WriteTagsAreDistinct, is_in_progress, is_waiting, TasksAreNamed, WritesGoOn, TasksGoOn, RequestsGoOn, task_may_go_on}
use Rattle.entry_laws.proofs.Blocks.{any_at, any_below, below_all, some_lines}
use Rattle.entry_laws.proofs.Buffered.{requests_are_taken, requests_have_distinct_tags, writes_are_taken, writes_have_distinct_tags}
use Rattle.entry_laws.proofs.Counts.{at_most_one_below, count_at_least_one, count_none_below}
use Rattle.entry_laws.proofs.Entries.{EntriesKept}
use Rattle.entry_laws.proofs.Kept.{directory_is_kept}
use Rattle.entry_laws.proofs.Progress.{requests_go_on, task_goes_on, writes_may_be_served}
use Rattle.entry_laws.proofs.RoomSteps.{rooms_are_kept}
use Rattle.entry_laws.proofs.Rooms.{Evicting, RoomsKept, Waiting, evicts_parts}
use Rattle.entry_laws.proofs.Suffice.{entries_do_suffice}
use Rattle.entry_laws.proofs.TaskShapes.{tasks_are_shaped}
use Rattle.entry_laws.proofs.Tasks.{TasksKept, busy_from, covering, covering_by}
use Rattle.entry_laws.proofs.Victims.{victim_there}

-- ---- entries

pub entries_suffice_after : EntriesSuffice
entries_suffice_after setup opening mine own = le-leb _ _ (entries_do_suffice setup opening mine own)

same_bool : (x y : Bool) → (x ≡ true → y ≡ true) → (y ≡ true → x ≡ true) → x ≡ y
same_bool true true h k = refl
same_bool true false h k = sym (h refl)
same_bool false true h k = k refl
same_bool false false h k = refl

exact_entries : (setup : Configuration) (D : Directory) → EntriesKept setup D → (a : ℕ) → is_in a D.entries ≡ (nat_lt a setup.lines && has_entry setup D a)
exact_entries setup D kept a =
    same_bool (is_in a D.entries) (nat_lt a setup.lines && has_entry setup D a)
    (λ there. (let parts = kept.there a there in and_from _ _ (lt-ltb _ _ parts.0) parts.1))
    (λ has. (let parts = and_parts (nat_lt a setup.lines) (has_entry setup D a) has in kept.all a (ltb-true _ _ parts.0) parts.1))

pub entries_are_exact : EntriesAreExact
entries_are_exact setup opening mine own =
    exact_entries setup (directory setup mine) (directory_is_kept setup opening mine own).entries

pub entries_are_once : EntriesAreOnce
entries_are_once setup opening mine own = (directory_is_kept setup opening mine own).entries.once

-- ---- tasks

pub tasks_are_placed : TasksArePlaced
tasks_are_placed setup opening mine own = (directory_is_kept setup opening mine own).tasks.placed

pub tasks_are_apart : TasksAreApart
tasks_are_apart setup opening mine own = (directory_is_kept setup opening mine own).tasks.apart

pub tasks_are_named : TasksAreNamed
tasks_are_named setup opening mine own a task is =
    let shape = tasks_are_shaped setup opening mine own a task is in (shape.host, shape.tag, shape.span)

-- a task's first line exists
first_exists : (setup : Configuration) (task : ℕ → Option Task) → TasksKept setup.lines task → (a : ℕ) (t : Task) → task a ≡ Some t → a < setup.lines
first_exists setup task kept a t is = let placed = kept.placed a t is in let some = some_lines t.span in omega arith

busy_is_covered :
    (setup : Configuration) (D : Directory) → TasksKept setup.lines D.task → (a : ℕ)
    → is_busy D a ≡ list_any (λ first. task_covers a first (D.task first)) (below setup.lines)
busy_is_covered setup D kept a =
    same_bool (is_busy D a) (list_any (λ first. task_covers a first (D.task first)) (below setup.lines))
    (λ busy. (
    let by = covering D a busy in
    any_at (λ first. task_covers a first (D.task first)) setup.lines by.first (first_exists setup D.task kept by.first by.t by.is)
    (ap (task_covers a by.first) by.is ∙ by.covered)
    ))
    (λ some. (
    let found = any_below (λ first. task_covers a first (D.task first)) setup.lines some in
    let by = covering_by D.task a found.0 (D.task found.0) refl found.2 in
    busy_from setup.lines D kept a by.first by.t by.is by.covered
    ))

pub busy_lines_are_covered : BusyLinesAreCovered
busy_lines_are_covered setup opening mine own =
    busy_is_covered setup (directory setup mine) (directory_is_kept setup opening mine own).tasks

-- ---- evictions and reservations

waiting_is : (h tag : ℕ) (mine : List Event) → Waiting tag (buffered_requests h mine) → is_waiting h tag mine ≡ true
waiting_is h tag mine w = ap (λ found. option_map_or (λ r. asks_for_grant r.op) (option_and_then request_in found) false) w.r.found ∙ w.asks

not_none : (r : Room) → r ≡ Room.EvictionInProgress → is_no_eviction r ≡ false
not_none r h = ap is_no_eviction h

eviction_waits :
    (setup : Configuration) (mine : List Event) → RoomsKept (directory setup mine).task (λ h tag. request_room setup h tag mine) (λ h. buffered_requests h mine)
    → (a : ℕ) (t : Task) → (directory setup mine).task a ≡ Some t → is_eviction t.purpose ≡ true → Waiting t.tag (buffered_requests t.host mine)
eviction_waits setup mine kept a t is evicts = kept.buffered t.host t.tag (not_none _ (kept.progress a t is evicts))

pub evictions_have_requests : EvictionsHaveRequests
evictions_have_requests setup opening mine own a task is evicts =
    waiting_is task.host task.tag mine
    (eviction_waits setup mine (rooms_are_kept setup opening mine own) a task is evicts)

waits_or_none :
    (setup : Configuration) (mine : List Event) → RoomsKept (directory setup mine).task (λ h tag. request_room setup h tag mine) (λ h. buffered_requests h mine)
    → (h tag : ℕ) (b : Bool) → is_no_eviction (request_room setup h tag mine) ≡ b → (b || is_waiting h tag mine) ≡ true
waits_or_none setup mine kept h tag true is = refl
waits_or_none setup mine kept h tag false is = waiting_is h tag mine (kept.buffered h tag is)

pub rooms_have_requests : RoomsHaveRequests
rooms_have_requests setup opening mine own h tag =
    waits_or_none setup mine (rooms_are_kept setup opening mine own) h tag
    (is_no_eviction (request_room setup h tag mine)) refl

evicting_by :
    (task : ℕ → Option Task) (h tag a : ℕ) (found : Option Task) → task a ≡ found → option_map_or (evicts_for h tag) found false ≡ true
    → (by : Evicting task h tag) × (by.first ≡ a)
evicting_by task h tag a None is found = absurd (false≢true found)
evicting_by task h tag a (Some t) is found = (record { first = a; t = t; is = is; evicts = found }, refl)

no_is_other : (r : Room) → is_in_progress r ≡ false → r ≡ Room.EvictionInProgress → ⊥
no_is_other r other same = false≢true (sym other ∙ ap is_in_progress same)

none_evict :
    (setup : Configuration) (D : Directory) (room : ℕ → ℕ → Room) (buffer : ℕ → List Message) → RoomsKept D.task room buffer → (h tag : ℕ)
    → (room h tag ≡ Room.EvictionInProgress → ⊥)
    → count_by (λ a. option_map_or (evicts_for h tag) (D.task a) false) (below setup.lines) ≡ 0
none_evict setup D room buffer kept h tag other =
    count_none_below (λ a. option_map_or (evicts_for h tag) (D.task a) false) setup.lines (λ a. false_from_ne_true _ (λ found. (
    let by = (evicting_by D.task h tag a (D.task a) refl found).0 in
    let parts = evicts_parts h tag by.t by.evicts in
    other (subst (λ x. room h x ≡ Room.EvictionInProgress) parts.2
    (subst (λ x. room x by.t.tag ≡ Room.EvictionInProgress) parts.1 (kept.progress by.first by.t by.is parts.0)))
    )))

two_evict : (task : ℕ → Option Task) (room : ℕ → ℕ → Room) (buffer : ℕ → List Message) → RoomsKept task room buffer → (h tag a b : ℕ)
    → option_map_or (evicts_for h tag) (task a) false ≡ true → option_map_or (evicts_for h tag) (task b) false ≡ true → a ≡ b
two_evict task room buffer kept h tag a b at_a at_b =
    let s = evicting_by task h tag a (task a) refl at_a in
    let u = evicting_by task h tag b (task b) refl at_b in
    let first = evicts_parts h tag s.0.t s.0.evicts in
    let second = evicts_parts h tag u.0.t u.0.evicts in
    sym s.1 ∙ (kept.alone s.0.first u.0.first s.0.t u.0.t s.0.is u.0.is first.0 second.0 (first.1 ∙ sym second.1) (first.2 ∙ sym second.2) ∙ u.1)

one_evicts :
    (setup : Configuration) (D : Directory) (room : ℕ → ℕ → Room) (buffer : ℕ → List Message) → TasksKept setup.lines D.task → RoomsKept D.task room buffer
    → (h tag : ℕ) (r : Room) → room h tag ≡ r
    → count_by (λ a. option_map_or (evicts_for h tag) (D.task a) false) (below setup.lines) ≡ one_if (is_in_progress r)
one_evicts setup D room buffer tasks kept h tag Room.NoEviction is =
    none_evict setup D room buffer kept h tag (λ progress. no_is_other Room.NoEviction refl (sym is ∙ progress))
one_evicts setup D room buffer tasks kept h tag Room.EvictionInProgress is =
    let by = kept.stands h tag is in
    let few = at_most_one_below (λ a. option_map_or (evicts_for h tag) (D.task a) false) setup.lines (two_evict D.task room buffer kept h tag) in
    let some = count_at_least_one (λ a. option_map_or (evicts_for h tag) (D.task a) false) setup.lines by.first
    (first_exists setup D.task tasks by.first by.t by.is)
    (ap (λ found. option_map_or (evicts_for h tag) found false) by.is ∙ by.evicts) in
    omega arith
one_evicts setup D room buffer tasks kept h tag Room.Reservation is =
    none_evict setup D room buffer kept h tag (λ progress. no_is_other Room.Reservation refl (sym is ∙ progress))

pub one_task_evicts : OneTaskEvicts
one_task_evicts setup opening mine own h tag =
    one_evicts setup (directory setup mine) (λ g k. request_room setup g k mine) (λ g. buffered_requests g mine)
    (directory_is_kept setup opening mine own).tasks (rooms_are_kept setup opening mine own) h tag
    (request_room setup h tag mine) refl

-- ---- the model's own fact

two_cover :
    (task : ℕ → Option Task) (lines : ℕ) → TasksKept lines task → (a x y : ℕ) (found other : Option Task) → task x ≡ found → task y ≡ other
    → task_covers a x found ≡ true → task_covers a y other ≡ true → x ≡ y
two_cover task lines kept a x y None other is_x is_y cover_x cover_y = absurd (false≢true cover_x)
two_cover task lines kept a x y (Some s) None is_x is_y cover_x cover_y = absurd (false≢true cover_y)
two_cover task lines kept a x y (Some s) (Some u) is_x is_y cover_x cover_y = kept.apart x y a s u is_x is_y cover_x cover_y

few_cover : (setup : Configuration) (D : Directory) → TasksKept setup.lines D.task → (a : ℕ) → covering_count setup D a ≤ 1
few_cover setup D kept a =
    at_most_one_below (λ first. task_covers a first (D.task first)) setup.lines (λ x y. two_cover D.task setup.lines kept a x y (D.task x) (D.task y) refl refl)

has_request :
    (mine : List Event) (t : Task) (b : Bool) → is_eviction t.purpose ≡ b → (is_eviction t.purpose ≡ true → Waiting t.tag (buffered_requests t.host mine))
    → eviction_has_request mine t ≡ true
has_request mine t true is waits = let w = waits is in or_right _ _ (ap is_some w.r.found)
has_request mine t false is waits = or_left _ _ (not_from_false _ is)

request_there :
    (setup : Configuration) (mine : List Event) → RoomsKept (directory setup mine).task (λ h tag. request_room setup h tag mine) (λ h. buffered_requests h mine)
    → (a : ℕ) (found : Option Task) → (directory setup mine).task a ≡ found
    → option_map_or (eviction_has_request mine) found true ≡ true
request_there setup mine kept a None is = refl
request_there setup mine kept a (Some t) is = has_request mine t (is_eviction t.purpose) refl (λ evicts. eviction_waits setup mine kept a t is evicts)

pub entries_are_kept_after : EntriesAreKept
entries_are_kept_after setup opening t run =
    let mine : List Event = events_of device t in
    let own = events_of_run setup opening device t run in
    and_from _ _ (entries_suffice_after setup opening mine own)
    (below_all (line_tasks_are_kept setup (directory setup mine) mine) setup.lines (λ a exists.
    and_from _ _ (le-leb _ _ (few_cover setup (directory setup mine) (directory_is_kept setup opening mine own).tasks a))
    (request_there setup mine (rooms_are_kept setup opening mine own) a ((directory setup mine).task a) refl)))

-- ---- buffered messages

pub request_tags_are_distinct : RequestTagsAreDistinct
request_tags_are_distinct setup opening mine own = requests_have_distinct_tags setup opening mine own

pub write_tags_are_distinct : WriteTagsAreDistinct
write_tags_are_distinct setup opening mine own = writes_have_distinct_tags setup opening mine own

pub buffered_messages_fit : BufferedMessagesFit
buffered_messages_fit setup opening mine own h =
    (requests_are_taken setup opening mine own h, writes_are_taken setup opening mine own h)

-- ---- snoops and victims

all_covered : (a : ℕ) (t : Task) (lines : List ℕ) → ((b : ℕ) → is_in b lines ≡ true → covers a t.span b ≡ true) → list_all (covers a t.span) lines ≡ true
all_covered a t [] h = refl
all_covered a t (b ∷ lines) h = and_from _ _ (h b (or_left _ _ (eq-eqb b b refl))) (all_covered a t lines (λ c there. h c (or_right _ _ there)))

pub snoops_have_tasks : SnoopsHaveTasks
snoops_have_tasks setup opening mine own h a q asked =
    let kept = (directory_is_kept setup opening mine own).snoops h a q asked in
    record {
      host = kept.host;
      task = kept.t;
      stands = kept.is;
      op = kept.op;
      span = kept.span;
      other = kept.other;
      lines = all_covered a kept.t q.unanswered kept.within;
      once = kept.once;
    }

pub victims_stand : VictimsStand
victims_stand setup opening limits mine own full none idle =
    victim_there setup mine (directory_is_kept setup opening mine own).entries limits.entries.0 full none
    idle

-- ---- how the device goes on

pub writes_go_on : WritesGoOn
writes_go_on setup opening mine own h =
    writes_may_be_served setup opening h mine (writes_are_taken setup opening mine own h)

some_task_goes_on :
    (setup : Configuration) (opening : List (Line × Bytes64)) (mine : List Event) (a : ℕ) (found : Option Task) → (directory setup mine).task a ≡ found →
    is_some found ≡ true
    → list_all (λ h. not (is_asked h a mine)) (below setup.hosts) ≡ true → task_may_go_on setup opening mine a ≡ true
some_task_goes_on setup opening mine a None is some quiet = absurd (false≢true some)
some_task_goes_on setup opening mine a (Some t) is some quiet = task_goes_on setup opening mine a t is quiet

pub tasks_go_on : TasksGoOn
tasks_go_on setup opening mine own a some quiet =
    some_task_goes_on setup opening mine a ((directory setup mine).task a) refl some quiet

pub some_request_goes_on : RequestsGoOn
some_request_goes_on setup opening limits mine own idle some =
    requests_go_on setup opening mine (record {
      directory_kept = directory_is_kept setup opening mine own;
      rooms = rooms_are_kept setup opening mine own;
      taken = requests_are_taken setup opening mine own;
      some_entry = limits.entries.0;
      idle = idle;
    }) some
