-- What a trace has of operations, events and messages. Every rule here is an own rule.
use Rattle.std.specs.Prelude.{List, None, Option, Some, [], ℕ, ◌+◌, ◌∷◌}
use Rattle.cxl_message.specs.declared.events.Act.{Act}
use Rattle.cxl_message.specs.declared.events.Cause.{Cause}
use Rattle.cxl_message.specs.declared.events.Commit.{Commit}
use Rattle.cxl_message.specs.declared.events.Event.{Event}
use Rattle.cxl_message.specs.declared.events.Op.{Op}
use Rattle.cxl_message.specs.declared.events.Sends.{Sends}
use Rattle.cxl_message.specs.declared.messages.Message.{Message}
use Rattle.step_driver.specs.declared.summary.Summary.{Summary}

-- the act counts where it makes the filter give an entry up
abbrev pub with_act : Act → Summary → Summary
with_act (Act.Conflict _) s = s
with_act (Act.WriteBack _) s = s
with_act (Act.Answer _) s = s
with_act (Act.AnswerBlock _) s = s
with_act (Act.HostReturn _) s = s
with_act (Act.Serve _ _) s = s
with_act (Act.Clean _ _) s = s
with_act (Act.Start _ _) s = s
with_act (Act.Evict _ _) s = record s { filter_evictions = s.filter_evictions + 1 }
with_act (Act.Snoop _ _) s = s
with_act (Act.Finish _) s = s
with_act (Act.DeviceReturn _ _) s = s

-- an operation that sends two messages evicts a line of its host
abbrev pub with_operation : Sends → Summary → Summary
with_operation Sends.Nothing s = s
with_operation (Sends.One _) s = s
with_operation (Sends.Two _ _) s = record s { host_evictions = s.host_evictions + 1 }

-- the cause of an event that sends these messages
abbrev pub with_cause : Cause → Sends → Summary → Summary
with_cause (Cause.Op _ _ _) sends s = with_operation sends (record s { operations = s.operations + 1 })
with_cause (Cause.Take _ _) sends s = s
with_cause (Cause.Act act) sends s = with_act act s

-- a message counts where it is a snoop or a conflict
abbrev pub with_message : Message → Summary → Summary
with_message (Message.Req _ _ _ _ _) s = s
with_message (Message.MemWr _ _ _ _ _) s = s
with_message (Message.BiConflict _) s = record s { conflicts = s.conflicts + 1 }
with_message (Message.BiRsp _ _ _) s = s
with_message (Message.Ndr _ _) s = s
with_message (Message.MemData _ _) s = s
with_message (Message.BiSnp _ _ _ _) s = record s { snoops = s.snoops + 1 }
with_message (Message.Credit _) s = s

-- the messages that are sent
abbrev pub with_sends : Sends → Summary → Summary
with_sends Sends.Nothing s = s
with_sends (Sends.One o) s = with_message o.message s
with_sends (Sends.Two o p) s = with_message p.message (with_message o.message s)

-- an operation that is committed counts by its kind
abbrev pub with_committed : Op → Summary → Summary
with_committed (Op.Load _) s = record s { loads = s.loads + 1 }
with_committed (Op.Word _ _ _) s = record s { words = s.words + 1 }
with_committed (Op.Whole _ _) s = record s { wholes = s.wholes + 1 }

-- the operation that is committed, if one is
abbrev pub with_commit : Option Commit → Summary → Summary
with_commit None s = s
with_commit (Some c) s = with_committed c.op s

-- one event more
abbrev pub with_event : Event → Summary → Summary
with_event e s = with_commit e.commit (with_sends e.sends (with_cause e.cause e.sends (record s { events = s.events + 1 })))

-- the summary of a trace, newest event first
abbrev pub summary_of : List Event → Summary
summary_of [] = record { operations = 0; events = 0; loads = 0; words = 0; wholes = 0; snoops = 0; conflicts = 0; host_evictions = 0; filter_evictions = 0 }
summary_of (e ∷ t) = with_event e (summary_of t)

-- the sum of all numbers
abbrev pub total : Summary → ℕ
total s = s.operations + s.events + s.loads + s.words + s.wholes + s.snoops + s.conflicts + s.host_evictions + s.filter_evictions
