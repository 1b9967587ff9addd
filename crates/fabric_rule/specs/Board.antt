-- The rule of the board's one word: there is one run, as long as the word says, and each view is of it.
use Rattle.std.specs.Prelude.{Bool, IsTrue, List, [], false, length, nat_lt, suc, true, ℕ, ◌++◌, ◌==◌, ◌||◌, ◌≡◌, ◌≤◌, ◌∷◌}
use Rattle.std.specs.List.{All, list_all}
use mathlib.Core.Option.{some}
use lib.ListN.{get_elem?}
use Rattle.atomic_table.specs.Table.{State}
use Rattle.cxl_message.specs.declared.events.Event.{Event}
use Rattle.cxl_message.specs.declared.identifiers.Bytes64.{Bytes64}
use Rattle.cxl_message.specs.declared.identifiers.Line.{Line}
use Rattle.cxl_message.specs.Setup.{Configuration}
use Rattle.coherence_model.specs.Runs.{IsRun}
use Rattle.coherence_model.specs.Traces.{device, events_of}
use Rattle.fabric_rule.specs.Fronts.{GoesOnFrom, GoesOnWithout, longer}
use Rattle.fabric_rule.specs.declared.view.View.{View}

-- the view of a note: it has no agent
abbrev pub note_of : List Event → View
note_of seen = record { seen = seen; agents = []; joined = []; counts_hosts = false; hosts = 0 }

-- what a join leaves of the second view: a note of nothing
abbrev pub spent : View
spent = note_of []

-- the view of the device's seat once so many hosts have seats, and there is no event yet
abbrev pub device_view : ℕ → View
device_view n = record { seen = []; agents = (device, []) ∷ []; joined = []; counts_hosts = true; hosts = n }

-- the view of the device's seat once one more host has a seat
abbrev pub with_next_host : View → View
with_next_host v = record { seen = v.seen; agents = v.agents; joined = v.joined; counts_hosts = v.counts_hosts; hosts = suc v.hosts }

-- the view of the next host's seat, which is split from the device's
abbrev pub next_host : View → View
next_host v = record { seen = []; agents = (v.hosts, []) ∷ []; joined = []; counts_hosts = false; hosts = 0 }

-- a seat's view and a note's: the longer trace, with both of the old ones beside it
abbrev pub met : View → View → View
met v w = record { seen = longer v.seen w.seen; agents = v.agents; joined = v.seen ∷ w.seen ∷ []; counts_hosts = v.counts_hosts; hosts = v.hosts }

-- a seat's view and another seat's: the longer trace, and the agents of both, each with what its seat had seen
abbrev pub taken_over : View → View → View
taken_over v w = record { seen = longer v.seen w.seen; agents = w.agents ++ v.agents; joined = []; counts_hosts = v.counts_hosts; hosts = v.hosts }

-- whether an agent has a seat once so many hosts have one: the device, and each of these hosts
abbrev pub is_seated : ℕ → ℕ → Bool
is_seated hosts g = (g == device) || nat_lt g hosts

-- the agent p.0, whose own seat had seen p.1, is at this seat and at no other, and the run has no event of it but those
pub record HasSeat (seats : ℕ → ℕ) (hosts : ℕ) (run : List Event) (by : ℕ) (p : ℕ × List Event) : Type 0 where
  pub at : seats p.0 ≡ by
  pub seated : IsTrue (is_seated hosts p.0)
  pub all : GoesOnWithout p.0 p.1 run

-- the view of a seat is of the run: each trace in it begins the run, and its agents are at this seat. The first seat counts the hosts that have one
pub record IsOf (run : List Event) (seats : ℕ → ℕ) (hosts by : ℕ) (v : View) : Type 0 where
  pub seen : GoesOnFrom v.seen run
  pub agents : All (HasSeat seats hosts run by) v.agents
  pub joined : All (λ t. GoesOnFrom t run) v.joined
  pub counts : v.counts_hosts ≡ true → (by ≡ 0) × (v.hosts ≡ hosts)

-- this is the one run: the word is its length, its events are of agents that have a seat, at most room of each, and all views are of it.
-- seats says at which seat each agent is, so that no agent is at two. A host that has no seat yet has no event
pub record IsTheRun (setup : Configuration) (opening : List (Line × Bytes64)) (room : ℕ) (words : List ℕ) (views : List View) (run : List Event) (seats : ℕ → ℕ) (hosts : ℕ) : Type 0 where
  pub word : words ≡ length run ∷ []
  pub is_run : IsRun setup opening run
  pub events : IsTrue (list_all (λ e. is_seated hosts e.agent) run)
  pub rooms : (g : ℕ) → length (events_of g run) ≤ room
  pub views_fit : (by : ℕ) (v : View) → get_elem? views by ≡ some v → IsOf run seats hosts by v
  pub host_limit : hosts ≤ 16
  pub room_limit : room ≤ 200000

-- the rule of the board: there is such a run
abbrev pub KeepsOneRun : Configuration → List (Line × Bytes64) → ℕ → State (Unit {0}) View → Type 0
KeepsOneRun setup opening room s = (run : List Event) × (seats : ℕ → ℕ) × (hosts : ℕ) × IsTheRun setup opening room s.words s.views run seats hosts
