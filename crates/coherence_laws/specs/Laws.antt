-- What the laws of a run say of a machine that stands for it. All of it is an own rule.
use Rattle.std.specs.Prelude.{IsTrue, List, Ok, Some, false, map, replicate, ℕ, ◌++◌, ◌-◌, ◌<◌, ◌≡◌}
use Rattle.cxl_message.specs.declared.events.Event.{Event}
use Rattle.cxl_message.specs.declared.events.Op.{Op}
use Rattle.cxl_message.specs.declared.limits.TheConstants.{MAX_HOSTS}
use Rattle.cxl_message.specs.declared.states.CopyState.{CopyState}
use Rattle.cxl_message.specs.Events.{line_of}
use Rattle.cxl_message.specs.Formed.{place_exists}
use Rattle.cxl_message.specs.Lists.{below}
use Rattle.cxl_message.specs.Setup.{Configuration, stream_host}
use Rattle.coherence_model.specs.Cache.{copy}
use Rattle.coherence_model.specs.Rules.{most_operations}
use Rattle.coherence_model.specs.Streams.{begun_count, stream_waits}
use Rattle.coherence_model.specs.Traces.{events_of}
use Rattle.machine.specs.Offers.{offered}

-- the copies of line a at the first n hosts, host by host
abbrev pub host_copies : Configuration → List Event → ℕ → ℕ → List CopyState
host_copies setup t a n = map (λ h. (copy setup a (events_of h t)).state) (below n)

-- those of the first n hosts, and I for each number of a host behind them
abbrev pub copies_of_first : Configuration → List Event → ℕ → ℕ → List CopyState
copies_of_first setup t a n = host_copies setup t a n ++ replicate (MAX_HOSTS - n) CopyState.I

-- the copies of line a after a trace, by the hosts' numbers: I where the setup has no such host
abbrev pub copies_after : Configuration → List Event → ℕ → List CopyState
copies_after setup t a = copies_of_first setup t a setup.hosts

-- stream s of host h may go on: its last operation has its commit, and it may make one more
pub record IsReady (setup : Configuration) (t : List Event) (s h : ℕ) : Type 0 where
  pub host : stream_host setup s ≡ Some h
  pub committed : stream_waits s (events_of h t) ≡ false
  pub left : begun_count s (events_of h t) < most_operations

-- the next operation of stream s is offered as an event
pub record IsOffered (setup : Configuration) (t : List Event) (s : ℕ) (op : Op) : Type 0 where
  pub event : Event
  pub is : offered setup t s op ≡ Ok event

-- each stream that may go on is offered each operation whose line and place exist
abbrev pub ReadyStreamsAreOffered : Configuration → List Event → Type 0
ReadyStreamsAreOffered setup t =
    (s h : ℕ) (op : Op) → IsReady setup t s h → line_of op < setup.lines → IsTrue (place_exists op) → IsOffered setup t s op
