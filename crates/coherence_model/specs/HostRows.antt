-- The rows of a host together: what a cause sends and commits, and which row judges it.
use Rattle.std.specs.Prelude.{List, None, Option, if◌then◌else◌, ℕ}
use Rattle.cxl_message.specs.declared.events.Act.{Act}
use Rattle.cxl_message.specs.declared.events.Cause.{Cause}
use Rattle.cxl_message.specs.declared.events.Event.{Event}
use Rattle.cxl_message.specs.declared.messages.Message.{Message}
use Rattle.cxl_message.specs.declared.opcodes.NdrOp.{NdrOp}
use Rattle.cxl_message.specs.declared.states.RuleNo.{RuleNo}
use Rattle.cxl_message.specs.Setup.{Configuration}
use Rattle.coherence_model.specs.Credits.{has_room}
use Rattle.coherence_model.specs.Emission.{Emission}
use Rattle.coherence_model.specs.HostActs.{host_acts}
use Rattle.coherence_model.specs.HostOperations.{hits, host_operates}
use Rattle.coherence_model.specs.HostTakes.{host_takes}

-- what a cause sends and commits at a host, the credits for what is sent aside (own rule)
abbrev pub host_emission : Configuration → ℕ → Cause → List Event → Option Emission
host_emission setup h (Cause.Op s i op) mine = host_operates setup h s i op mine
host_emission setup h (Cause.Take _ m) mine = if has_room setup h m mine then host_takes setup h m mine else None
host_emission setup h (Cause.Act act) mine = host_acts setup h act mine

-- the row of a taken NDR message: H5 for BI-ConflictAck, else H3 (own rule)
abbrev pub ndr_rule : NdrOp → RuleNo
ndr_rule NdrOp.Cmp = RuleNo.H3
ndr_rule NdrOp.CmpS = RuleNo.H3
ndr_rule NdrOp.CmpE = RuleNo.H3
ndr_rule NdrOp.ConflictAck = RuleNo.H5

-- the row of a taken message at a host; what goes to the device has none and breaks P0 first (own rule)
abbrev pub host_take_rule : Message → RuleNo
host_take_rule (Message.Req _ _ _ _ _) = RuleNo.P0
host_take_rule (Message.MemWr _ _ _ _ _) = RuleNo.P0
host_take_rule (Message.BiConflict _) = RuleNo.P0
host_take_rule (Message.BiRsp _ _ _) = RuleNo.P0
host_take_rule (Message.Ndr op _) = ndr_rule op
host_take_rule (Message.MemData _ _) = RuleNo.H3
host_take_rule (Message.BiSnp _ _ _ _) = RuleNo.H4
host_take_rule (Message.Credit _) = RuleNo.H6

-- the row of an act at a host; an act of the device has none and breaks P0 first (own rule)
abbrev pub host_act_rule : Act → RuleNo
host_act_rule (Act.Conflict _) = RuleNo.H7
host_act_rule (Act.WriteBack _) = RuleNo.H8
host_act_rule (Act.Answer _) = RuleNo.H9
host_act_rule (Act.AnswerBlock _) = RuleNo.H9
host_act_rule (Act.HostReturn _) = RuleNo.H10
host_act_rule (Act.Serve _ _) = RuleNo.P0
host_act_rule (Act.Clean _ _) = RuleNo.P0
host_act_rule (Act.Start _ _) = RuleNo.P0
host_act_rule (Act.Evict _ _) = RuleNo.P0
host_act_rule (Act.Snoop _ _) = RuleNo.P0
host_act_rule (Act.Finish _) = RuleNo.P0
host_act_rule (Act.DeviceReturn _ _) = RuleNo.P0

-- the row of a cause at a host (own rule)
abbrev pub host_rule : Configuration → Cause → List Event → RuleNo
host_rule setup (Cause.Op _ _ op) mine = if hits setup op mine then RuleNo.H1 else RuleNo.H2
host_rule setup (Cause.Take _ m) mine = host_take_rule m
host_rule setup (Cause.Act act) mine = host_act_rule act
