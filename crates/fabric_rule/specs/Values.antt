-- What a clause sees of a board, of an agent's seat and of a note.
use Rattle.std.specs.Prelude.{List, [], length, map, ℕ, ◌++◌, ◌≡◌, ◌∷◌}
use Rattle.std.specs.List.{All}
use Rattle.std.specs.List.Sorted.{IsPermutation}
use Rattle.atomic_table.specs.Seated.{TableId}
use Rattle.cxl_message.specs.declared.events.Event.{Event}
use Rattle.cxl_message.specs.declared.identifiers.Bytes64.{Bytes64}
use Rattle.cxl_message.specs.declared.identifiers.Line.{Line}
use Rattle.cxl_message.specs.Lists.{below}
use Rattle.cxl_message.specs.Setup.{Configuration}
use Rattle.coherence_model.specs.Runs.{IsRun}
use Rattle.coherence_model.specs.Traces.{device, numbered_events_of}
use Rattle.fabric_rule.specs.Fronts.{HasAllOf}

-- a board: which one it is, the setup and the opening of its runs, and how many events each agent may make (own rule)
pub record BoardValue : Type 0 where
  pub id : TableId
  pub setup : Configuration
  pub opening : List (Line × Bytes64)
  pub room : ℕ

-- a seat: its board, its agent, and the events that it has seen, newest first (own rule)
pub record SeatValue : Type 0 where
  pub board : TableId
  pub agent : ℕ
  pub seen : List Event

-- a note: its board, and the events that the seat had seen, newest first (own rule)
pub record NoteValue : Type 0 where
  pub board : TableId
  pub seen : List Event

-- the seat's own: its agent's events in what it has seen, each with its number there, newest first (own rule)
abbrev pub mine : SeatValue → List (ℕ × Event)
mine seat = numbered_events_of seat.agent seat.seen

-- the agent of a seat, with what the seat has seen
abbrev pub agent_and_seen : SeatValue → ℕ × List Event
agent_and_seen seat = (seat.agent, seat.seen)

-- the agents of a setup: its hosts, ascending, and then the device (own rule)
abbrev pub agents_of : Configuration → List ℕ
agents_of setup = below setup.hosts ++ device ∷ []

-- a seat of each of these agents, in their order, which have seen nothing
abbrev pub new_seats : TableId → List ℕ → List SeatValue
new_seats id agents = map (λ g. record { board = id; agent = g; seen = [] }) agents

-- there is one seat of each of these agents, in any order (own rule)
abbrev pub HasOneOfEach : List ℕ → List SeatValue → Type 0
HasOneOfEach agents seats = IsPermutation agents (map (λ s. s.agent) seats)

-- what the seat has seen begins the run, and its own are all events of its agent there, with their numbers (own rule)
abbrev pub StandsIn : List Event → SeatValue → Type 0
StandsIn run seat = HasAllOf seat.agent seat.seen run

-- there is one run of so many events, and all seats stand in it (own rule)
pub record HaveOneRun (setup : Configuration) (opening : List (Line × Bytes64)) (count : ℕ) (seats : List SeatValue) : Type 0 where
  pub run : List Event
  pub is_run : IsRun setup opening run
  pub count_is : length run ≡ count
  pub stand : All (StandsIn run) seats
