-- Events as they are made, part after part. Every rule here is an own rule.
use Rattle.std.specs.Prelude.{ℕ, Bool, true, false, Option, Some, None}
use Rattle.cxl_message.specs.declared.events.Act.{Act}
use Rattle.cxl_message.specs.declared.events.Cause.{Cause}
use Rattle.cxl_message.specs.declared.events.Out.{Out}
use Rattle.cxl_message.specs.declared.events.Sends.{Sends}
use Rattle.cxl_message.specs.declared.events.Commit.{Commit}
use Rattle.cxl_message.specs.declared.events.Event.{Event}

-- an event of an agent that has its cause, and sends and commits nothing yet
abbrev pub begun : ℕ → Cause → Event
begun agent cause = record { agent = agent; cause = cause; sends = Sends.Nothing; commit = None }

-- an event to be written over: host 0 finishes line 0
abbrev pub blank_event : Event
blank_event = begun 0 (Cause.Act (Act.Finish (record { 0 = 0 })))

-- an event with these sends and this commit in place of its own
abbrev pub emitting : Event → Sends → Option Commit → Event
emitting e sends commit = record { agent = e.agent; cause = e.cause; sends = sends; commit = commit }

-- one message more, where fewer than two are sent
abbrev pub and_send : Sends → Out → Sends
and_send Sends.Nothing out = Sends.One out
and_send (Sends.One first) out = Sends.Two first out
and_send (Sends.Two first second) out = Sends.Two first second

-- whether fewer than two messages are sent
abbrev pub may_send : Sends → Bool
may_send Sends.Nothing = true
may_send (Sends.One first) = true
may_send (Sends.Two first second) = false

-- an event that sends one message more
abbrev pub with_send : Event → Out → Event
with_send e out = emitting e (and_send e.sends out) e.commit

-- an event with this commit
abbrev pub with_commit : Event → Commit → Event
with_commit e commit = emitting e e.sends (Some commit)
