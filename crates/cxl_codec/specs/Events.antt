-- The event records of a trace. Every rule here is an own rule.
use Rattle.std.specs.Prelude.{ℕ, List, [], ◌∷◌, ◌++◌, ◌<◌, ◌^◌, IsTrue, Option, Some, None, IfSome}
use Rattle.std.specs.Int.{w16, w32, w64}
use Rattle.std.specs.List.{flat_map, AllByRecursion}
use Rattle.cxl_message.specs.declared.events.Op.{Op}
use Rattle.cxl_message.specs.declared.events.Act.{Act}
use Rattle.cxl_message.specs.declared.events.Cause.{Cause}
use Rattle.cxl_message.specs.declared.events.Out.{Out}
use Rattle.cxl_message.specs.declared.events.Sends.{Sends}
use Rattle.cxl_message.specs.declared.events.Commit.{Commit}
use Rattle.cxl_message.specs.declared.events.Event.{Event}
use Rattle.cxl_message.specs.Codes.{channel_code}
use Rattle.cxl_message.specs.Events.{outs}
use Rattle.cxl_message.specs.Formed.{well_formed}
use Rattle.cxl_codec.specs.declared.fields.FieldName.{FieldName}
use Rattle.cxl_codec.specs.Cells.{Cell, kind, field, number, payload}
use Rattle.cxl_codec.specs.Messages.{message_cells, MessageInRange}
use Rattle.cxl_codec.specs.declared.versions.Version.{Version}
use Rattle.cxl_codec.specs.Versions.{tag_limit, tag_width}
use Rattle.cxl_codec.specs.Openings.{IsPayload}

-- an operation: its kind byte and its fields
abbrev pub op_cells : Op → List Cell
op_cells (Op.Load line) = kind 0x01 ∷ number w32 line.0
op_cells (Op.Word line place value) = kind 0x02 ∷ number w32 line.0 ++ field FieldName.Place place ∷ number w64 value
op_cells (Op.Whole line bytes) = kind 0x03 ∷ number w32 line.0 ++ payload bytes

-- an act: its kind byte and its fields
abbrev pub act_cells : Version → Act → List Cell
act_cells version (Act.Conflict line) = kind 0x01 ∷ number w32 line.0
act_cells version (Act.WriteBack line) = kind 0x02 ∷ number w32 line.0
act_cells version (Act.Answer line) = kind 0x03 ∷ number w32 line.0
act_cells version (Act.AnswerBlock line) = kind 0x04 ∷ number w32 line.0
act_cells version (Act.HostReturn channel) = kind 0x05 ∷ field FieldName.Channel (channel_code channel) ∷ []
act_cells version (Act.Serve host tag) = kind 0x11 ∷ field FieldName.Host host ∷ number (tag_width version) tag.0
act_cells version (Act.Clean host tag) = kind 0x12 ∷ field FieldName.Host host ∷ number (tag_width version) tag.0
act_cells version (Act.Start host tag) = kind 0x13 ∷ field FieldName.Host host ∷ number (tag_width version) tag.0
act_cells version (Act.Evict host tag) = kind 0x14 ∷ field FieldName.Host host ∷ number (tag_width version) tag.0
act_cells version (Act.Snoop host line) = kind 0x15 ∷ field FieldName.Host host ∷ number w32 line.0
act_cells version (Act.Finish line) = kind 0x16 ∷ number w32 line.0
act_cells version (Act.DeviceReturn host channel) = kind 0x17 ∷ field FieldName.Host host ∷ field FieldName.Channel (channel_code channel) ∷ []

-- a cause: its kind byte and its fields
abbrev pub cause_cells : Version → Cause → List Cell
cause_cells version (Cause.Op stream index op) = kind 0x01 ∷ field FieldName.Stream stream ∷ number w32 index ++ op_cells op
cause_cells version (Cause.Take host message) = kind 0x02 ∷ field FieldName.Host host ∷ message_cells version message
cause_cells version (Cause.Act act) = kind 0x03 ∷ act_cells version act

-- a sent message: its host, and the message
abbrev pub out_cells : Version → Out → List Cell
out_cells version out = field FieldName.Host out.host ∷ message_cells version out.message

-- how many messages are sent
abbrev pub sends_count : Sends → ℕ
sends_count Sends.Nothing = 0
sends_count (Sends.One o) = 1
sends_count (Sends.Two o p) = 2

-- the messages that are sent: their number, then each of them
abbrev pub sends_cells : Version → Sends → List Cell
sends_cells version sends = field FieldName.SendCount (sends_count sends) ∷ flat_map (out_cells version) (outs sends)

-- a flag, and behind a 1 the commit: stream, index, operation and the line after it
abbrev pub commit_cells : Option Commit → List Cell
commit_cells None = field FieldName.CommitFlag 0 ∷ []
commit_cells (Some c) = field FieldName.CommitFlag 1 ∷ field FieldName.Stream c.stream ∷ number w32 c.index ++ op_cells c.op ++ payload c.value

-- an event: its agent, cause, sends and commit
abbrev pub event_cells_in : Version → Event → List Cell
event_cells_in version e = field FieldName.Agent e.agent ∷ cause_cells version e.cause ++ sends_cells version e.sends ++ commit_cells e.commit

-- the same in version 1
abbrev pub event_cells : Event → List Cell
event_cells e = event_cells_in Version.One e

-- the line, the value and the bytes of an operation are such as its type can hold
abbrev pub OpInRange : Op → Type 0
OpInRange (Op.Load line) = line.0 < 2 ^ 32
OpInRange (Op.Word line place value) = (line.0 < 2 ^ 32) × (value < 2 ^ 64)
OpInRange (Op.Whole line bytes) = (line.0 < 2 ^ 32) × IsPayload bytes

-- the line and the tag of an act are such as its type can hold
abbrev pub ActInRange : Version → Act → Type 0
ActInRange version (Act.Conflict line) = line.0 < 2 ^ 32
ActInRange version (Act.WriteBack line) = line.0 < 2 ^ 32
ActInRange version (Act.Answer line) = line.0 < 2 ^ 32
ActInRange version (Act.AnswerBlock line) = line.0 < 2 ^ 32
ActInRange version (Act.HostReturn channel) = Unit {0}
ActInRange version (Act.Serve host tag) = tag.0 < tag_limit version
ActInRange version (Act.Clean host tag) = tag.0 < tag_limit version
ActInRange version (Act.Start host tag) = tag.0 < tag_limit version
ActInRange version (Act.Evict host tag) = tag.0 < tag_limit version
ActInRange version (Act.Snoop host line) = line.0 < 2 ^ 32
ActInRange version (Act.Finish line) = line.0 < 2 ^ 32
ActInRange version (Act.DeviceReturn host channel) = Unit {0}

-- the numbers of a cause are such as its type can hold
abbrev pub CauseInRange : Version → Cause → Type 0
CauseInRange version (Cause.Op stream index op) = (index < 2 ^ 32) × OpInRange op
CauseInRange version (Cause.Take host message) = MessageInRange version message
CauseInRange version (Cause.Act act) = ActInRange version act

-- the numbers of a commit are such as its type can hold
pub record CommitInRange (c : Commit) : Type 0 where
  pub index : c.index < 2 ^ 32
  pub op : OpInRange c.op
  pub value : IsPayload c.value

-- an event that has a record in a version: it is well formed, its tags are such as the version can hold, and its other numbers such as their types can
pub record EventFitsIn (version : Version) (e : Event) : Type 0 where
  pub formed : IsTrue (well_formed e)
  pub cause : CauseInRange version e.cause
  pub sends : AllByRecursion (λ o. MessageInRange version o.message) (outs e.sends)
  pub commit : IfSome e.commit CommitInRange

-- the same in version 1
abbrev pub EventFits : Event → Type 0
EventFits e = EventFitsIn Version.One e
