-- What a stream's next operation would be. All of it is an own rule.
use Rattle.std.specs.Prelude.{Err, List, None, Option, Result, Some, ℕ}
use Rattle.cxl_message.specs.declared.events.Cause.{Cause}
use Rattle.cxl_message.specs.declared.events.Event.{Event}
use Rattle.cxl_message.specs.declared.events.Op.{Op}
use Rattle.cxl_message.specs.Setup.{Configuration, stream_host}
use Rattle.coherence_model.specs.Refusals.{host_answer}
use Rattle.coherence_model.specs.Streams.{begun_count}
use Rattle.coherence_model.specs.Traces.{events_of}
use Rattle.host_rows.specs.declared.answers.HostRefusal.{HostRefusal}
use Rattle.host_rows.specs.Answers.{as_result}
use Rattle.machine_agents.specs.Going.{as_event}

-- what host h answers to the next operation of stream s, by its own events
abbrev pub offered_by : Configuration → ℕ → ℕ → Op → List Event → Result Event HostRefusal
offered_by setup h s op mine = as_event h (Cause.Op s (begun_count s mine) op) (as_result (host_answer setup h (Cause.Op s (begun_count s mine) op) mine))

-- what the host of a stream answers, if there is the stream
abbrev pub offered_at : Configuration → List Event → ℕ → Op → Option ℕ → Result Event HostRefusal
offered_at setup t s op None = Err HostRefusal.NoSuchLine
offered_at setup t s op (Some h) = offered_by setup h s op (events_of h t)

-- what the next operation of stream s would be after a trace: its event, or its host's refusal
abbrev pub offered : Configuration → List Event → ℕ → Op → Result Event HostRefusal
offered setup t s op = offered_at setup t s op (stream_host setup s)
