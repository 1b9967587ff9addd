-- The rows of the device together: what a cause sends, and which row judges it.
use Rattle.std.specs.Prelude.{List, None, Option, if◌then◌else◌}
use Rattle.cxl_message.specs.declared.events.Act.{Act}
use Rattle.cxl_message.specs.declared.events.Cause.{Cause}
use Rattle.cxl_message.specs.declared.events.Event.{Event}
use Rattle.cxl_message.specs.declared.identifiers.Bytes64.{Bytes64}
use Rattle.cxl_message.specs.declared.identifiers.Line.{Line}
use Rattle.cxl_message.specs.declared.messages.Message.{Message}
use Rattle.cxl_message.specs.declared.states.RuleNo.{RuleNo}
use Rattle.cxl_message.specs.Setup.{Configuration}
use Rattle.coherence_model.specs.Credits.{has_room}
use Rattle.coherence_model.specs.DeviceActs.{device_acts}
use Rattle.coherence_model.specs.DeviceTakes.{device_takes}
use Rattle.coherence_model.specs.Emission.{Emission}

-- what a cause sends at the device, the credits for what is sent aside; no device row commits (own rule)
abbrev pub device_emission : Configuration → List (Line × Bytes64) → Cause → List Event → Option Emission
device_emission setup opening (Cause.Op _ _ _) mine = None
device_emission setup opening (Cause.Take h m) mine = if has_room setup h m mine then device_takes setup h m mine else None
device_emission setup opening (Cause.Act act) mine = device_acts setup opening act mine

-- the row of a taken message at the device; what goes to a host has none and breaks P0 first (own rule)
abbrev pub device_take_rule : Message → RuleNo
device_take_rule (Message.Req _ _ _ _ _) = RuleNo.V1
device_take_rule (Message.MemWr _ _ _ _ _) = RuleNo.V1
device_take_rule (Message.BiConflict _) = RuleNo.V1
device_take_rule (Message.BiRsp _ _ _) = RuleNo.V2
device_take_rule (Message.Ndr _ _) = RuleNo.P0
device_take_rule (Message.MemData _ _) = RuleNo.P0
device_take_rule (Message.BiSnp _ _ _ _) = RuleNo.P0
device_take_rule (Message.Credit _) = RuleNo.V1

-- the row of an act at the device; an act of a host has none and breaks P0 first (own rule)
abbrev pub device_act_rule : Act → RuleNo
device_act_rule (Act.Conflict _) = RuleNo.P0
device_act_rule (Act.WriteBack _) = RuleNo.P0
device_act_rule (Act.Answer _) = RuleNo.P0
device_act_rule (Act.AnswerBlock _) = RuleNo.P0
device_act_rule (Act.HostReturn _) = RuleNo.P0
device_act_rule (Act.Serve _ _) = RuleNo.V3
device_act_rule (Act.Clean _ _) = RuleNo.V4
device_act_rule (Act.Start _ _) = RuleNo.V5
device_act_rule (Act.Evict _ _) = RuleNo.V6
device_act_rule (Act.Snoop _ _) = RuleNo.V7
device_act_rule (Act.Finish _) = RuleNo.V8
device_act_rule (Act.DeviceReturn _ _) = RuleNo.V9

-- the row of a cause at the device; an operation has none and breaks P0 first (own rule)
abbrev pub device_rule : Cause → RuleNo
device_rule (Cause.Op _ _ _) = RuleNo.P0
device_rule (Cause.Take _ m) = device_take_rule m
device_rule (Cause.Act act) = device_act_rule act
