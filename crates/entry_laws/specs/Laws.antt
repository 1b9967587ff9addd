-- Laws of what the device keeps: entries, tasks, evictions and buffered messages, over every list of its own events that its rules allow.
use Rattle.std.specs.Prelude.{Bool, IsTrue, List, Some, count_by, false, is_some, length, nat_le, nat_lt, not, option_and_then, true, ℕ, ◌%◌, ◌&&◌, ◌+◌, ◌==◌, ◌||◌, ◌≡◌, ◌≢◌, ◌≤◌}
use Rattle.std.specs.List.{list_all, list_any}
use Rattle.std.specs.Option.{option_map_or}
use Rattle.cxl_message.specs.declared.channels.Channel.{Channel}
use Rattle.cxl_message.specs.declared.events.Act.{Act}
use Rattle.cxl_message.specs.declared.events.Event.{Event}
use Rattle.cxl_message.specs.declared.identifiers.Bytes64.{Bytes64}
use Rattle.cxl_message.specs.declared.identifiers.Line.{Line}
use Rattle.cxl_message.specs.declared.identifiers.Tag.{Tag}
use Rattle.cxl_message.specs.declared.messages.Message.{Message}
use Rattle.cxl_message.specs.declared.opcodes.Span.{Span}
use Rattle.cxl_message.specs.Codes.{channel_eq, span_len}
use Rattle.cxl_message.specs.Lists.{below, is_in}
use Rattle.cxl_message.specs.Messages.{channel_of, has_tag}
use Rattle.cxl_message.specs.Setup.{Configuration, IsWithinLimits}
use Rattle.cxl_message.specs.Spans.{covers}
use Rattle.coherence_model.specs.Buffers.{buffered_requests, buffered_writes, message_with}
use Rattle.coherence_model.specs.Copies.{asks_for_grant}
use Rattle.coherence_model.specs.DeviceActs.{device_acts, request_in, snoop_op}
use Rattle.coherence_model.specs.Directory.{Directory, has_entry, is_busy, victim_block}
use Rattle.coherence_model.specs.DirectoryChanges.{directory}
use Rattle.coherence_model.specs.EntryFacts.{entries_are_kept, entries_suffice}
use Rattle.coherence_model.specs.Fitting.{is_host, take_fits}
use Rattle.coherence_model.specs.Next.{tag_or_zero}
use Rattle.coherence_model.specs.OwnRuns.{ForEachDeviceRun, IsOwnRun}
use Rattle.coherence_model.specs.Room.{Room, evicts_for, free_entries, is_no_eviction, request_room, reservation_count}
use Rattle.coherence_model.specs.Runs.{IsRun}
use Rattle.coherence_model.specs.SentSnoops.{SentSnoop, is_asked, sent_snoop_at}
use Rattle.coherence_model.specs.Tasks.{Task, is_eviction, task_covers}
use Rattle.coherence_model.specs.Traces.{device}
use Rattle.coherence_model.specs.Words.{one_if}

-- ---- entries

-- entries and reservations together are at most the filter's entries
abbrev pub EntriesSuffice : Type 0
EntriesSuffice = ForEachDeviceRun (λ setup mine. IsTrue (entries_suffice setup mine))

-- entries and reservations suffice, no two tasks share a line, and the request of an eviction is buffered
abbrev pub EntriesAreKept : Type 0
EntriesAreKept =
    (setup : Configuration) (opening : List (Line × Bytes64)) (t : List Event) → IsRun setup opening t → IsTrue (entries_are_kept setup t)

-- the list of entries has exactly the lines that exist and have an entry
abbrev pub EntriesAreExact : Type 0
EntriesAreExact =
    ForEachDeviceRun (λ setup mine. (a : ℕ) → is_in a (directory setup mine).entries ≡ (nat_lt a setup.lines && has_entry setup (directory setup mine) a))

-- it has no line twice
abbrev pub EntriesAreOnce : Type 0
EntriesAreOnce = ForEachDeviceRun (λ setup mine. (a : ℕ) → count_by (λ b. a == b) (directory setup mine).entries ≤ 1)

-- ---- tasks

-- a task's first line is a multiple of its span, and its lines exist
abbrev pub TasksArePlaced : Type 0
TasksArePlaced =
    ForEachDeviceRun (λ setup mine. (a : ℕ) (task : Task) → (directory setup mine).task a ≡ Some task
    → (a % span_len task.span ≡ 0) × (a + span_len task.span ≤ setup.lines))

-- the host and the tag of a task's request exist, and a task that isn't an eviction is over one line
abbrev pub TasksAreNamed : Type 0
TasksAreNamed =
    ForEachDeviceRun (λ setup mine. (a : ℕ) (task : Task) → (directory setup mine).task a ≡ Some task
    → IsTrue (is_host setup task.host) × IsTrue (nat_lt task.tag setup.tags) × (is_eviction task.purpose ≡ false → task.span ≡ Span.One))

-- two tasks that cover one line are the same
abbrev pub TasksAreApart : Type 0
TasksAreApart =
    ForEachDeviceRun (λ setup mine. (a b c : ℕ) (s t : Task) → (directory setup mine).task a ≡ Some s → (directory setup mine).task b ≡ Some t
    → IsTrue (covers a s.span c) → IsTrue (covers b t.span c) → a ≡ b)

-- a line is Busy exactly where some task covers it
abbrev pub BusyLinesAreCovered : Type 0
BusyLinesAreCovered =
    ForEachDeviceRun (λ setup mine. (a : ℕ)
    → is_busy (directory setup mine) a ≡ list_any (λ first. task_covers a first ((directory setup mine).task first)) (below setup.lines))

-- ---- evictions and reservations

-- whether a MemRd or MemInv of host h with a tag is buffered (own rule)
abbrev pub is_waiting : ℕ → ℕ → List Event → Bool
is_waiting h tag mine = option_map_or (λ r. asks_for_grant r.op) (option_and_then request_in (message_with tag (buffered_requests h mine))) false

-- the request of an eviction is buffered
abbrev pub EvictionsHaveRequests : Type 0
EvictionsHaveRequests =
    ForEachDeviceRun (λ setup mine. (a : ℕ) (task : Task) → (directory setup mine).task a ≡ Some task → IsTrue (is_eviction task.purpose)
    → IsTrue (is_waiting task.host task.tag mine))

-- whether an eviction is in progress for a request (own rule)
abbrev pub is_in_progress : Room → Bool
is_in_progress Room.NoEviction = false
is_in_progress Room.EvictionInProgress = true
is_in_progress Room.Reservation = false

-- how many tasks evict for the request of host h with a tag (own rule)
abbrev pub evicting_count : Configuration → ℕ → ℕ → List Event → ℕ
evicting_count setup h tag mine = count_by (λ a. option_map_or (evicts_for h tag) ((directory setup mine).task a) false) (below setup.lines)

-- one task evicts for a request whose eviction is in progress, and none for any other
abbrev pub OneTaskEvicts : Type 0
OneTaskEvicts = ForEachDeviceRun (λ setup mine. (h tag : ℕ) → evicting_count setup h tag mine ≡ one_if (is_in_progress (request_room setup h tag mine)))

-- a request with an eviction in progress or a reservation is buffered
abbrev pub RoomsHaveRequests : Type 0
RoomsHaveRequests = ForEachDeviceRun (λ setup mine. (h tag : ℕ) → IsTrue (is_no_eviction (request_room setup h tag mine) || is_waiting h tag mine))

-- ---- buffered messages

-- at most one buffered Req message of a host has a tag
abbrev pub RequestTagsAreDistinct : Type 0
RequestTagsAreDistinct = ForEachDeviceRun (λ setup mine. (h tag : ℕ) → count_by (has_tag tag) (buffered_requests h mine) ≤ 1)

-- and at most one buffered RwD message
abbrev pub WriteTagsAreDistinct : Type 0
WriteTagsAreDistinct = ForEachDeviceRun (λ setup mine. (h tag : ℕ) → count_by (has_tag tag) (buffered_writes h mine) ≤ 1)

-- whether all messages are such as the device takes from channel c of host h: the host, the tags and the lines exist (own rule)
abbrev pub are_takeable_from : Configuration → ℕ → Channel → List Message → Bool
are_takeable_from setup h c ms = list_all (λ m. take_fits setup device h m && channel_eq (channel_of m) c) ms

-- each buffered Req message is such a message of Req, and each buffered RwD message one of RwD
abbrev pub BufferedMessagesFit : Type 0
BufferedMessagesFit =
    ForEachDeviceRun (λ setup mine. (h : ℕ)
    → IsTrue (are_takeable_from setup h Channel.Req (buffered_requests h mine)) × IsTrue (are_takeable_from setup h Channel.Rwd (buffered_writes h mine)))

-- ---- snoops and victims

-- a snoop was sent by the task at line a, to a host that exists and isn't the requester, and its unanswered lines are the task's, none twice (own rule)
pub record IsOfTask (setup : Configuration) (D : Directory) (h a : ℕ) (q : SentSnoop) : Type 0 where
  pub host : IsTrue (is_host setup h)
  pub task : Task
  pub stands : D.task a ≡ Some task
  pub op : q.op ≡ snoop_op task.purpose task.span
  pub span : q.span ≡ task.span
  pub other : is_eviction task.purpose ≡ false → task.host ≢ h
  pub lines : IsTrue (list_all (covers a task.span) q.unanswered)
  pub once : (b : ℕ) → count_by (λ c. b == c) q.unanswered ≤ 1

-- each snoop of which some line has no answer is a standing task's
abbrev pub SnoopsHaveTasks : Type 0
SnoopsHaveTasks = ForEachDeviceRun (λ setup mine. (h a : ℕ) (q : SentSnoop) → sent_snoop_at h a mine ≡ Some q → IsOfTask setup (directory setup mine) h a q)

-- where no entry is free, there is no reservation and no line is Busy, there is a victim block
abbrev pub VictimsStand : Type 0
VictimsStand =
    (setup : Configuration) (opening : List (Line × Bytes64)) → IsWithinLimits setup → (mine : List Event) → IsOwnRun setup opening device mine
    → free_entries setup mine ≡ 0 → reservation_count setup mine ≡ 0
    → IsTrue (list_all (λ a. not (is_busy (directory setup mine) a)) (below setup.lines))
    → IsTrue (is_some (victim_block (directory setup mine)))

-- ---- how the device goes on

-- whether the row of an act holds at the device, the credits for what it sends aside (own rule)
abbrev pub may_do : Configuration → List (Line × Bytes64) → List Event → Act → Bool
may_do setup opening mine act = is_some (device_acts setup opening act mine)

-- the Tag that a message has (own rule)
abbrev pub named_tag : Message → Tag
named_tag m = record { 0 = tag_or_zero m }

-- whether Clean, Start or Evict may be done for a buffered Req message of host h (own rule)
abbrev pub request_may_go_on : Configuration → List (Line × Bytes64) → List Event → ℕ → Message → Bool
request_may_go_on setup opening mine h m =
    may_do setup opening mine (Act.Clean h (named_tag m)) || may_do setup opening mine (Act.Start h (named_tag m))
    || may_do setup opening mine (Act.Evict h (named_tag m))

-- each buffered RwD message may be served
abbrev pub WritesGoOn : Type 0
WritesGoOn =
    (setup : Configuration) (opening : List (Line × Bytes64)) (mine : List Event) → IsOwnRun setup opening device mine → (h : ℕ)
    → IsTrue (list_all (λ m. may_do setup opening mine (Act.Serve h (named_tag m))) (buffered_writes h mine))

-- whether the task with first line a may snoop or finish (own rule)
abbrev pub task_may_go_on : Configuration → List (Line × Bytes64) → List Event → ℕ → Bool
task_may_go_on setup opening mine a =
    list_any (λ h. may_do setup opening mine (Act.Snoop h (record { 0 = a }))) (below setup.hosts) || may_do setup opening mine (Act.Finish (record { 0 = a }))

-- a task by which no host is Asked may snoop or finish
abbrev pub TasksGoOn : Type 0
TasksGoOn =
    (setup : Configuration) (opening : List (Line × Bytes64)) (mine : List Event) → IsOwnRun setup opening device mine → (a : ℕ)
    → IsTrue (is_some ((directory setup mine).task a)) → IsTrue (list_all (λ h. not (is_asked h a mine)) (below setup.hosts))
    → IsTrue (task_may_go_on setup opening mine a)

-- where no line is Busy and some Req message is buffered, Clean, Start or Evict may be done for one
abbrev pub RequestsGoOn : Type 0
RequestsGoOn =
    (setup : Configuration) (opening : List (Line × Bytes64)) → IsWithinLimits setup → (mine : List Event) → IsOwnRun setup opening device mine
    → IsTrue (list_all (λ a. not (is_busy (directory setup mine) a)) (below setup.lines))
    → IsTrue (list_any (λ h. nat_le 1 (length (buffered_requests h mine))) (below setup.hosts))
    → IsTrue (list_any (λ h. list_any (request_may_go_on setup opening mine h) (buffered_requests h mine)) (below setup.hosts))
