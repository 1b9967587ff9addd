-- Whether two acts, two causes or two events are the same.
use Rattle.std.specs.Prelude.{Bool, false, ◌&&◌, ◌==◌}
use Rattle.std.specs.Option.{option_eq}
use Rattle.cxl_message.specs.declared.events.Act.{Act}
use Rattle.cxl_message.specs.declared.events.Cause.{Cause}
use Rattle.cxl_message.specs.declared.events.Event.{Event}
use Rattle.cxl_message.specs.Codes.{channel_eq}
use Rattle.cxl_message.specs.Events.{commit_eq, op_eq, sends_eq}
use Rattle.cxl_message.specs.Messages.{message_eq}

-- whether two acts are the same (own rule)
abbrev pub act_eq : Act → Act → Bool
act_eq (Act.Conflict a) (Act.Conflict b) = a.0 == b.0
act_eq (Act.WriteBack a) (Act.WriteBack b) = a.0 == b.0
act_eq (Act.Answer a) (Act.Answer b) = a.0 == b.0
act_eq (Act.AnswerBlock a) (Act.AnswerBlock b) = a.0 == b.0
act_eq (Act.HostReturn c) (Act.HostReturn d) = channel_eq c d
act_eq (Act.Serve g s) (Act.Serve h t) = (g == h) && (s.0 == t.0)
act_eq (Act.Clean g s) (Act.Clean h t) = (g == h) && (s.0 == t.0)
act_eq (Act.Start g s) (Act.Start h t) = (g == h) && (s.0 == t.0)
act_eq (Act.Evict g s) (Act.Evict h t) = (g == h) && (s.0 == t.0)
act_eq (Act.Snoop g a) (Act.Snoop h b) = (g == h) && (a.0 == b.0)
act_eq (Act.Finish a) (Act.Finish b) = a.0 == b.0
act_eq (Act.DeviceReturn g c) (Act.DeviceReturn h d) = (g == h) && channel_eq c d
act_eq _ _ = false

-- whether two causes are the same (own rule)
abbrev pub cause_eq : Cause → Cause → Bool
cause_eq (Cause.Op s i op) (Cause.Op r j other) = (s == r) && (i == j) && op_eq op other
cause_eq (Cause.Take g m) (Cause.Take h n) = (g == h) && message_eq m n
cause_eq (Cause.Act a) (Cause.Act b) = act_eq a b
cause_eq _ _ = false

-- whether two events are the same: their causes, agents, messages sent and commits (own rule)
abbrev pub event_eq : Event → Event → Bool
event_eq e f = cause_eq e.cause f.cause && (e.agent == f.agent) && sends_eq e.sends f.sends && option_eq commit_eq e.commit f.commit
