-- Laws of the streams of one host, over every list of its own events that its rules allow.
use Rattle.std.specs.Prelude.{List, Some, length, slice_get, take, true, ℕ, ◌+◌, ◌≡◌}
use Rattle.cxl_message.specs.declared.events.Event.{Event}
use Rattle.cxl_message.specs.Setup.{stream_host}
use Rattle.coherence_model.specs.OwnRuns.{ForEachHostRun}
use Rattle.coherence_model.specs.Streams.{begun_count, stream_waits}
use Rattle.coherence_model.specs.Traces.{history}
use Rattle.coherence_model.specs.Transactions.{Transaction, is_request, open_at}
use Rattle.commit_laws.specs.Begun.{done_count, operations_of}
use Rattle.commit_laws.specs.Commits.{committed, numbered}

-- a stream has as many operations as it began
abbrev pub OwnAreCounted : Type 0
OwnAreCounted = (s : ℕ) (mine : List Event) → length (operations_of s mine) ≡ begun_count s mine

-- the commits of a stream name those of its operations that are done, each once and in their order
abbrev pub OwnCommitsAreFirst : Type 0
OwnCommitsAreFirst =
    ForEachHostRun (λ setup h mine. (s : ℕ) → stream_host setup s ≡ Some h → committed s (history mine) ≡ numbered 0 (take (done_count s mine) (operations_of s mine)))

-- a line at which a request of a stream is open
pub record WaitsAt (s : ℕ) (mine : List Event) : Type 0 where
  pub line : ℕ
  pub request : Transaction
  pub open_there : open_at line mine ≡ Some request
  pub is_one : is_request request.kind ≡ true
  pub of_stream : request.stream ≡ s

-- a stream that waits has a request open
abbrev pub OwnWaitsForRequest : Type 0
OwnWaitsForRequest = ForEachHostRun (λ setup h mine. (s : ℕ) → stream_waits s mine ≡ true → WaitsAt s mine)

-- what is open is awaited: its stream waits, and it is for the stream's last operation
pub record IsAwaited (o : Transaction) (mine : List Event) : Type 0 where
  pub waiting : stream_waits o.stream mine ≡ true
  pub last : o.index + 1 ≡ begun_count o.stream mine
  pub operation : slice_get (operations_of o.stream mine) o.index ≡ Some o.op

-- each open request is awaited
abbrev pub OwnRequestsAreAwaited : Type 0
OwnRequestsAreAwaited = ForEachHostRun (λ setup h mine. (a : ℕ) (o : Transaction) → open_at a mine ≡ Some o → is_request o.kind ≡ true → IsAwaited o mine)

-- and no stream has two open
abbrev pub OwnRequestsAreAlone : Type 0
OwnRequestsAreAlone =
    ForEachHostRun (λ setup h mine.
    (a b : ℕ) (o p : Transaction) → open_at a mine ≡ Some o → open_at b mine ≡ Some p → is_request o.kind ≡ true → is_request p.kind ≡ true → o.stream ≡ p.stream → a ≡ b)
