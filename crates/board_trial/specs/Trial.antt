-- What a host's agent shows of the operations that a seat may mark, and how three seats share one front of the board's run.
use Rattle.std.specs.Prelude.{Bool, Err, List, Ok, Result, Some, [], false, length, map, reverse, true, ℕ, ◌+◌, ◌++◌, ◌∷◌, ◌≡◌, ◌≤◌}
use Rattle.cxl_message.specs.declared.events.Cause.{Cause}
use Rattle.cxl_message.specs.declared.events.Event.{Event}
use Rattle.cxl_message.specs.declared.states.RuleNo.{RuleNo}
use Rattle.coherence_model.specs.Emission.{Emission}
use Rattle.coherence_model.specs.Refusals.{host_answer}
use Rattle.coherence_model.specs.Runs.{IsRun, first_broken}
use Rattle.coherence_model.specs.Traces.{device, events_of, numbered_events_of}
use Rattle.board_trial.specs.declared.host.Host.{Host}
use Rattle.board_trial.specs.declared.marks.Refused.{Refused}
use Rattle.fabric_rule.specs.Fronts.{HasAllOf}
use Rattle.fabric_rule.specs.Values.{BoardValue, HaveOneRun, NoteValue, SeatValue, mine}
use Rattle.host_home.specs.Contract.{StandsFor as HostStandsFor}
use Rattle.host_rows.specs.Answers.{as_result}
use Rattle.host_rows.specs.declared.answers.HostRefusal.{HostRefusal}
use Rattle.host_tables.specs.Agent.{AgentRecord, event_of}
use Rattle.machine.specs.Stands.{MachineRecord, StandsFor}

-- whether a cause is an operation
abbrev pub is_operation : Cause → Bool
is_operation (Cause.Op _ _ _) = true
is_operation (Cause.Take _ _) = false
is_operation (Cause.Act _) = false

-- the host's agent stands for just the events of the seat's agent that the seat has
abbrev pub ShowsOwn : BoardValue → AgentRecord → SeatValue → Type 0
ShowsOwn b a s = HostStandsFor a b.setup s.agent (events_of s.agent s.seen)

-- the seat may mark so many operations at the board, each as the host's agent shows it
abbrev pub MayMark : BoardValue → AgentRecord → SeatValue → ℕ → Type 0
MayMark b a s n = (s.board ≡ b.id) × ShowsOwn b a s × (length (mine s) + n ≤ b.room)

-- the seat has marked one more event, with this number: that of the cause, as the model's host answers it after the seat's own events
pub record HasMarked (b : BoardValue) (cause : Cause) (n : ℕ) (old new : SeatValue) : Type 0 where
  pub emitted : Emission
  pub answer : as_result (host_answer b.setup old.agent cause (events_of old.agent old.seen)) ≡ Ok emitted
  pub own : mine new ≡ (n, event_of old.agent cause emitted) ∷ mine old

-- why an operation isn't marked: the model's host refuses it after the seat's own events
pub record IsRefusedByHost (b : BoardValue) (old : SeatValue) (cause : Cause) (r : Refused) : Type 0 where
  pub refusal : HostRefusal
  pub is : r ≡ Refused.Host refusal
  pub answer : as_result (host_answer b.setup old.agent cause (events_of old.agent old.seen)) ≡ Err refusal

-- why an event isn't marked as the next: it breaks this rule first
pub record IsBroken (b : BoardValue) (t : List Event) (e : Event) (r : Refused) : Type 0 where
  pub rule : RuleNo
  pub is : r ≡ Refused.Broken rule
  pub first : first_broken b.setup b.opening t e ≡ Some rule

-- or it is marked, and other events came between
pub record CameLater (t : List Event) (e : Event) (seen : List Event) (r : Refused) : Type 0 where
  pub is : r ≡ Refused.NotNext
  pub between : List Event
  pub seen_is : seen ≡ e ∷ (between ++ t)
  pub some : 1 ≤ length between

-- the numbers of an agent's events in a trace, newest first
abbrev pub numbers_in : ℕ → List Event → List ℕ
numbers_in g t = map (λ p. p.0) (numbered_events_of g t)

-- a seat of the board has made some more events, with these numbers, oldest first
pub record HasMade (b : BoardValue) (old : SeatValue) (numbers : List ℕ) (new : SeatValue) : Type 0 where
  pub board : new.board ≡ b.id
  pub agent : new.agent ≡ old.agent
  pub own : numbers_in new.agent new.seen ≡ reverse numbers ++ numbers_in old.agent old.seen

-- the whole run of a board so far, in one hand: the board and the events
pub record FrontValue : Type 0 where
  pub board : BoardValue
  pub seen : List Event

-- the note has the whole run, so many events, and the machine stands for it
pub record IsFront (b : BoardValue) (room : ℕ) (m : MachineRecord) (n : NoteValue) (count : ℕ) : Type 0 where
  pub room_is : b.room ≡ room
  pub note : n.board ≡ b.id
  pub count_is : length n.seen ≡ count
  pub machine : StandsFor m b.setup b.opening n.seen

-- the seat is this agent's at the board, and has all that the run has of it
pub record SitsBy (f : FrontValue) (g : ℕ) (s : SeatValue) : Type 0 where
  pub board : s.board ≡ f.board.id
  pub agent : s.agent ≡ g
  pub own : HasAllOf g s.seen f.seen

-- the board has two hosts, these are its seats, and the hosts' agents stand for their seats' own events
pub record IsStage (f : FrontValue) (h h' : Host) (d : SeatValue) : Type 0 where
  pub hosts : f.board.setup.hosts ≡ 2
  pub first : SitsBy f 0 h.seat
  pub second : SitsBy f 1 h'.seat
  pub third : SitsBy f device d
  pub first_shows : ShowsOwn f.board h.agent h.seat
  pub second_shows : ShowsOwn f.board h'.agent h'.seat

-- the board is closed with so many events, which are one run, where both hosts have made their operations
pub record ClosesWith (b : BoardValue) (one two : Result (List ℕ × SeatValue) Refused) (d : SeatValue) (ns ms : List ℕ) (count : ℕ) : Type 0 where
  pub seat : SeatValue
  pub other : SeatValue
  pub first : one ≡ Ok (ns, seat)
  pub second : two ≡ Ok (ms, other)
  pub run : HaveOneRun b.setup b.opening count (seat ∷ other ∷ d ∷ [])

-- the board was closed with so many events, which are one run. There the hosts have these numbers beside those that they had, and the
-- device has what it had
pub record IsClosed (f : FrontValue) (ns ms : List ℕ) (count : ℕ) : Type 0 where
  pub run : List Event
  pub is_run : IsRun f.board.setup f.board.opening run
  pub count_is : length run ≡ count
  pub first : numbers_in 0 run ≡ reverse ns ++ numbers_in 0 f.seen
  pub second : numbers_in 1 run ≡ reverse ms ++ numbers_in 1 f.seen
  pub third : numbers_in device run ≡ numbers_in device f.seen
