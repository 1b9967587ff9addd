-- Laws of the commits of every run, stream by stream, and of runs that follow a script.
use Rattle.std.specs.Prelude.{IsTrue, List, Some, false, length, nat_lt, slice_get, sum_by, take, ℕ, ◌++◌, ◌↔◌, ◌≡◌}
use Rattle.std.specs.List.{list_all}
use Rattle.cxl_message.specs.declared.events.Event.{Event}
use Rattle.cxl_message.specs.declared.events.Op.{Op}
use Rattle.cxl_message.specs.declared.identifiers.Bytes64.{Bytes64}
use Rattle.cxl_message.specs.declared.identifiers.Line.{Line}
use Rattle.cxl_message.specs.Script.{ScriptValue}
use Rattle.cxl_message.specs.Setup.{Configuration, IsWithinLimits, stream_host}
use Rattle.coherence_model.specs.Choices.{is_done, streams_of}
use Rattle.coherence_model.specs.Driven.{operation_count}
use Rattle.coherence_model.specs.Pending.{is_pending}
use Rattle.coherence_model.specs.Runs.{IsRun}
use Rattle.coherence_model.specs.Streams.{begun_count, stream_waits}
use Rattle.coherence_model.specs.Traces.{events_of, history}
use Rattle.commit_laws.specs.Begun.{Follows, ListsEachStream, done_count, follows, is_complete, operations_of}
use Rattle.commit_laws.specs.Commits.{CommitsEach, committed, numbered}

-- ---- every run

-- a stream has as many operations as its host began for it
abbrev pub BegunAreCounted : Type 0
BegunAreCounted =
    (setup : Configuration) (opening : List (Line × Bytes64)) (t : List Event) → IsRun setup opening t → (s h : ℕ) → stream_host setup s ≡ Some h
    → length (operations_of s t) ≡ begun_count s (events_of h t)

-- the commits of a stream name those of its operations that are done, each once and in their order
abbrev pub CommitsAreFirst : Type 0
CommitsAreFirst =
    (setup : Configuration) (opening : List (Line × Bytes64)) → IsWithinLimits setup → (t : List Event) → IsRun setup opening t → (s h : ℕ) → stream_host setup s ≡ Some h
    → committed s (history t) ≡ numbered 0 (take (done_count s (events_of h t)) (operations_of s t))

-- each commit is of a stream that there is
abbrev pub NoOtherCommits : Type 0
NoOtherCommits =
    (setup : Configuration) (opening : List (Line × Bytes64)) (t : List Event) → IsRun setup opening t → IsTrue (list_all (λ c. nat_lt c.stream (length setup.streams)) (history t))

-- where nothing is pending no stream waits
abbrev pub AtRestNoStreamWaits : Type 0
AtRestNoStreamWaits =
    (setup : Configuration) (opening : List (Line × Bytes64)) → IsWithinLimits setup → (t : List Event) → IsRun setup opening t → is_pending setup t ≡ false
    → (s h : ℕ) → stream_host setup s ≡ Some h → stream_waits s (events_of h t) ≡ false

-- so each operation that was begun is committed
abbrev pub AtRestAllIsCommitted : Type 0
AtRestAllIsCommitted =
    (setup : Configuration) (opening : List (Line × Bytes64)) → IsWithinLimits setup → (t : List Event) → IsRun setup opening t → is_pending setup t ≡ false
    → (s h : ℕ) → stream_host setup s ≡ Some h → committed s (history t) ≡ numbered 0 (operations_of s t)

-- ---- runs that follow a script

-- a front of a trace that follows a script follows it
abbrev pub FollowedFrontIsFollowed : Type 0
FollowedFrontIsFollowed = (script : ScriptValue) (later past : List Event) → Follows script (later ++ past) → Follows script past

-- a fact holds of each run that follows a script, where the setup is within its limits and the script has operations for each stream
abbrev pub ForEachFollowing : (ScriptValue → List Event → Type 0) → Type 0
ForEachFollowing Fact =
    (script : ScriptValue) → IsWithinLimits script.setup → ListsEachStream script → (t : List Event) → IsRun script.setup script.opening t → Follows script t → Fact script t

-- the commits of each stream name those of the script's operations that are done
abbrev pub FollowedCommits : Type 0
FollowedCommits =
    ForEachFollowing (λ script t. (s h : ℕ) (ops : List Op) → stream_host script.setup s ≡ Some h → slice_get script.operations s ≡ Some ops
    → committed s (history t) ≡ numbered 0 (take (done_count s (events_of h t)) ops))

-- one that is done has each operation of the script committed once, each stream's in their order, and nothing else
abbrev pub FollowingIsComplete : Type 0
FollowingIsComplete = ForEachFollowing (λ script t. IsTrue (is_done script t) → CommitsEach script t)

-- so has one in which all operations are done, though something may be pending still, and no other
abbrev pub CompleteIsCommitted : Type 0
CompleteIsCommitted = ForEachFollowing (λ script t. IsTrue (is_complete script t) ↔ CommitsEach script t)

-- there are as many commits as operations that are done, over all streams
abbrev pub CommitsAreSummed : Type 0
CommitsAreSummed = ForEachFollowing (λ script t. length (history t) ≡ sum_by (λ y. done_count y.number (events_of y.host t)) (streams_of script))

-- so all are done exactly where there are as many commits as operations
abbrev pub CompleteIsCounted : Type 0
CompleteIsCounted = ForEachFollowing (λ script t. IsTrue (is_complete script t) ↔ (length (history t) ≡ operation_count script))

-- a run follows a script exactly where each of its operations is the script's of its stream and index
abbrev pub FollowingIsTested : Type 0
FollowingIsTested =
    (script : ScriptValue) → ListsEachStream script → (t : List Event) → IsRun script.setup script.opening t → IsTrue (follows script t) ↔ Follows script t
