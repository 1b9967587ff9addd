-- What a step on the board's word tells its seat.
use Rattle.std.specs.Prelude.{List, None, [], length, ℕ, ◌+◌, ◌∷◌, ◌≡◌}
use Rattle.std.specs.List.{All}
use Rattle.atomic_table.specs.Table.{Me}
use Rattle.cxl_message.specs.declared.events.Act.{Act}
use Rattle.cxl_message.specs.declared.events.Cause.{Cause}
use Rattle.cxl_message.specs.declared.events.Event.{Event}
use Rattle.cxl_message.specs.declared.events.Sends.{Sends}
use Rattle.cxl_message.specs.declared.identifiers.Bytes64.{Bytes64}
use Rattle.cxl_message.specs.declared.identifiers.Line.{Line}
use Rattle.cxl_message.specs.Setup.{Configuration}
use Rattle.coherence_model.specs.Runs.{IsRun}
use Rattle.fabric_rule.specs.Fronts.{EndsWith, GoesOnFrom, GoesOnWithout}
use Rattle.fabric_rule.specs.declared.view.View.{View}

-- the first agent of a view, and 0 where there is none
abbrev pub agent_of : List (ℕ × List Event) → ℕ
agent_of [] = 0
agent_of (p ∷ ps) = p.0

-- a seat of one agent, all of whose events are in what the seat has seen. It holds no slot
pub record IsSeat (me : Me (Unit {0}) View) : Type 0 where
  pub own : me.0.agents ≡ (agent_of me.0.agents, me.0.seen) ∷ []
  pub joined : me.0.joined ≡ []
  pub slots : me.1 ≡ []

-- the view of a seat of one agent once it has seen this
abbrev pub seeing : View → List Event → View
seeing v seen = record { seen = seen; agents = (agent_of v.agents, seen) ∷ []; joined = []; counts_hosts = v.counts_hosts; hosts = v.hosts }

-- a mark adds the event to the run, all of which is then seen. What was found is the event's number
pub record Marked (setup : Configuration) (opening : List (Line × Bytes64)) (e : Event) (before : Me (Unit {0}) View) (found : ℕ) (after : Me (Unit {0}) View) : Type 0 where
  pub seen : List Event
  pub view : after ≡ (seeing before.0 seen, before.1)
  pub marked : EndsWith (agent_of before.0.agents) before.0.seen e seen
  pub number : length seen ≡ found + 1
  pub is_run : IsRun setup opening seen

-- the load of a meeting: what was joined begins what is seen, which is a run and has no event of the seat's agent but its own
pub record Learnt (setup : Configuration) (opening : List (Line × Bytes64)) (before after : Me (Unit {0}) View) : Type 0 where
  pub view : after ≡ (seeing before.0 before.0.seen, before.1)
  pub is_run : IsRun setup opening before.0.seen
  pub joined : All (λ t. GoesOnFrom t before.0.seen) before.0.joined
  pub own : All (λ p. GoesOnWithout p.0 p.1 before.0.seen) before.0.agents

-- stand-ins of the type that a call's subject is picked for
abbrev pub no_setup : Configuration
no_setup = record { hosts = 0; lines = 0; entries = 0; ways = 0; tags = 0; credits = 0; streams = [] }

abbrev pub no_event : Event
no_event = record { agent = 0; cause = Cause.Act (Act.Answer (record { 0 = 0 })); sends = Sends.Nothing; commit = None }
