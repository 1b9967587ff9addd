-- A trace is a list of events, newest first: whose events they are, and what they commit.
use Rattle.std.specs.Prelude.{List, [], filter, if◌then◌else◌, length, option_to_list, ℕ, ◌++◌, ◌==◌, ◌∷◌}
use Rattle.cxl_message.specs.declared.events.Commit.{Commit}
use Rattle.cxl_message.specs.declared.events.Event.{Event}

-- the device as an agent; a host is the agent of its own number (own rule)
abbrev pub device : ℕ
device = 16

-- the events of one agent, newest first (own rule)
abbrev pub events_of : ℕ → List Event → List Event
events_of g t = filter (λ e. e.agent == g) t

-- the events of one agent with their numbers, newest first: an event's number is how many events of the trace came before it (own rule)
abbrev pub numbered_events_of : ℕ → List Event → List (ℕ × Event)
numbered_events_of g [] = []
numbered_events_of g (e ∷ past) = if e.agent == g then (length past, e) ∷ numbered_events_of g past else numbered_events_of g past

-- the commits of a trace, newest first (own rule)
abbrev pub history : List Event → List Commit
history [] = []
history (e ∷ past) = option_to_list e.commit ++ history past
