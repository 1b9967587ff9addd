-- Reading what is inside an event record. No public clause cites this file.
use Rattle.std.specs.Prelude.{ℕ, zero, suc, ◌==◌, List, Option, Some, None, Ok, find, ◌-◌}
use Rattle.std.specs.Int.{w16, w32, w64}
use Rattle.cxl_message.specs.declared.identifiers.Line.{Line}
use Rattle.cxl_message.specs.declared.messages.Message.{Message}
use Rattle.cxl_message.specs.declared.events.Op.{Op}
use Rattle.cxl_message.specs.declared.events.Act.{Act}
use Rattle.cxl_message.specs.declared.events.Cause.{Cause}
use Rattle.cxl_message.specs.declared.events.Out.{Out}
use Rattle.cxl_message.specs.declared.events.Sends.{Sends}
use Rattle.cxl_message.specs.declared.events.Commit.{Commit}
use Rattle.cxl_message.specs.declared.events.Event.{Event}
use Rattle.cxl_codec.specs.declared.fields.FieldName.{FieldName}
use Rattle.cxl_codec.specs.declared.kinds.CauseKind.{CauseKind}
use Rattle.cxl_codec.specs.declared.kinds.OpKind.{OpKind}
use Rattle.cxl_codec.specs.declared.kinds.ActKind.{ActKind}
use Rattle.cxl_codec.specs.declared.kinds.LineActKind.{LineActKind}
use Rattle.cxl_codec.specs.declared.kinds.TaggedActKind.{TaggedActKind}
use Rattle.cxl_message.specs.declared.identifiers.Tag.{Tag}
use Rattle.cxl_codec.specs.declared.kinds.MessageKind.{MessageKind}
use Rattle.cxl_codec.specs.Kinds.{cause_kind_code, cause_kinds, op_kind_code, op_kinds, act_kind_code, act_kinds, message_kind_code, message_kinds}
use Rattle.cxl_codec.specs.declared.versions.Version.{Version}
use Rattle.cxl_codec.specs.Versions.{tag_width}
use Rattle.cxl_codec.specs.Reading.{Read, ◌>>=◌, kind_of, field_of, within, number_at, payload_at, run_at, meta_at, snoop_type_at, channel_at, span_at}
use Rattle.cxl_message.specs.declared.limits.TheConstants.{DEVICE, MAX_HOSTS, MAX_SPAN, MAX_STREAMS, PLACES}

-- the fields of a message of this kind
unfoldable pub message_fields_at : Version → MessageKind → List ℕ → Read Message
message_fields_at version (MessageKind.Req op) bytes = do
  meta ← meta_at bytes
  snp ← snoop_type_at meta.1
  tag ← number_at (tag_width version) snp.1
  line ← number_at w32 tag.1
  Ok (Message.Req op meta.0 snp.0 (record { 0 = tag.0 }) (record { 0 = line.0 }), line.1)
message_fields_at version MessageKind.MemWr bytes = do
  meta ← meta_at bytes
  snp ← snoop_type_at meta.1
  tag ← number_at (tag_width version) snp.1
  line ← number_at w32 tag.1
  value ← payload_at line.1
  Ok (Message.MemWr meta.0 snp.0 (record { 0 = tag.0 }) (record { 0 = line.0 }) value.0, value.1)
message_fields_at version MessageKind.BiConflict bytes = do
  tag ← number_at (tag_width version) bytes
  zeros ← run_at FieldName.Payload 0 64 tag.1
  Ok (Message.BiConflict (record { 0 = tag.0 }), zeros.1)
message_fields_at version (MessageKind.BiRsp op) bytes = do
  bitag ← number_at w16 bytes
  low ← field_of FieldName.LowAddr (within 0 (MAX_SPAN - 1)) bitag.1
  Ok (Message.BiRsp op (record { 0 = bitag.0 }) low.0, low.1)
message_fields_at version (MessageKind.Ndr op) bytes = do
  tag ← number_at (tag_width version) bytes
  Ok (Message.Ndr op (record { 0 = tag.0 }), tag.1)
message_fields_at version MessageKind.MemData bytes = do
  tag ← number_at (tag_width version) bytes
  value ← payload_at tag.1
  Ok (Message.MemData (record { 0 = tag.0 }) value.0, value.1)
message_fields_at version (MessageKind.BiSnp op) bytes = do
  bitag ← number_at w16 bytes
  line ← number_at w32 bitag.1
  span ← span_at op line.1
  Ok (Message.BiSnp op (record { 0 = bitag.0 }) (record { 0 = line.0 }) span.0, span.1)
message_fields_at version MessageKind.Credit bytes = do
  channel ← channel_at bytes
  Ok (Message.Credit channel.0, channel.1)

-- a message
unfoldable pub message_at : Version → List ℕ → Read Message
message_at version bytes = do
  kind ← kind_of (λ b. find (λ k. message_kind_code k == b) message_kinds) bytes
  message_fields_at version kind.0 kind.1

-- the fields of an operation of this kind
unfoldable pub op_fields_at : OpKind → List ℕ → Read Op
op_fields_at OpKind.Load bytes = do
  line ← number_at w32 bytes
  Ok (Op.Load (record { 0 = line.0 }), line.1)
op_fields_at OpKind.Word bytes = do
  line ← number_at w32 bytes
  place ← field_of FieldName.Place (within 0 (PLACES - 1)) line.1
  value ← number_at w64 place.1
  Ok (Op.Word (record { 0 = line.0 }) place.0 value.0, value.1)
op_fields_at OpKind.Whole bytes = do
  line ← number_at w32 bytes
  value ← payload_at line.1
  Ok (Op.Whole (record { 0 = line.0 }) value.0, value.1)

-- an operation
unfoldable pub op_at : List ℕ → Read Op
op_at bytes = do
  kind ← kind_of (λ b. find (λ k. op_kind_code k == b) op_kinds) bytes
  op_fields_at kind.0 kind.1

-- the act of this kind that names a line
abbrev pub line_act : LineActKind → Line → Act
line_act LineActKind.Conflict line = Act.Conflict line
line_act LineActKind.WriteBack line = Act.WriteBack line
line_act LineActKind.Answer line = Act.Answer line
line_act LineActKind.AnswerBlock line = Act.AnswerBlock line
line_act LineActKind.Finish line = Act.Finish line

-- the act of this kind that names a host and a tag
abbrev pub tagged_act : TaggedActKind → ℕ → Tag → Act
tagged_act TaggedActKind.Serve host tag = Act.Serve host tag
tagged_act TaggedActKind.Clean host tag = Act.Clean host tag
tagged_act TaggedActKind.Start host tag = Act.Start host tag
tagged_act TaggedActKind.Evict host tag = Act.Evict host tag

-- the fields of an act of this kind
unfoldable pub act_fields_at : Version → ActKind → List ℕ → Read Act
act_fields_at version (ActKind.Line kind) bytes = do
  line ← number_at w32 bytes
  Ok (line_act kind (record { 0 = line.0 }), line.1)
act_fields_at version (ActKind.Tagged kind) bytes = do
  host ← field_of FieldName.Host (within 0 (MAX_HOSTS - 1)) bytes
  tag ← number_at (tag_width version) host.1
  Ok (tagged_act kind host.0 (record { 0 = tag.0 }), tag.1)
act_fields_at version ActKind.HostReturn bytes = do
  channel ← channel_at bytes
  Ok (Act.HostReturn channel.0, channel.1)
act_fields_at version ActKind.Snoop bytes = do
  host ← field_of FieldName.Host (within 0 (MAX_HOSTS - 1)) bytes
  line ← number_at w32 host.1
  Ok (Act.Snoop host.0 (record { 0 = line.0 }), line.1)
act_fields_at version ActKind.DeviceReturn bytes = do
  host ← field_of FieldName.Host (within 0 (MAX_HOSTS - 1)) bytes
  channel ← channel_at host.1
  Ok (Act.DeviceReturn host.0 channel.0, channel.1)

-- an act
unfoldable pub act_at : Version → List ℕ → Read Act
act_at version bytes = do
  kind ← kind_of (λ b. find (λ k. act_kind_code k == b) act_kinds) bytes
  act_fields_at version kind.0 kind.1

-- the fields of a cause of this kind
unfoldable pub cause_fields_at : Version → CauseKind → List ℕ → Read Cause
cause_fields_at version CauseKind.Op bytes = do
  stream ← field_of FieldName.Stream (within 0 (MAX_STREAMS - 1)) bytes
  index ← number_at w32 stream.1
  op ← op_at index.1
  Ok (Cause.Op stream.0 index.0 op.0, op.1)
cause_fields_at version CauseKind.Take bytes = do
  host ← field_of FieldName.Host (within 0 (MAX_HOSTS - 1)) bytes
  message ← message_at version host.1
  Ok (Cause.Take host.0 message.0, message.1)
cause_fields_at version CauseKind.Act bytes = do
  act ← act_at version bytes
  Ok (Cause.Act act.0, act.1)

-- a cause
unfoldable pub cause_at : Version → List ℕ → Read Cause
cause_at version bytes = do
  kind ← kind_of (λ b. find (λ k. cause_kind_code k == b) cause_kinds) bytes
  cause_fields_at version kind.0 kind.1

-- a sent message
unfoldable pub out_at : Version → List ℕ → Read Out
out_at version bytes = do
  host ← field_of FieldName.Host (within 0 (MAX_HOSTS - 1)) bytes
  message ← message_at version host.1
  Ok (record { host = host.0; message = message.0 }, message.1)

-- so many sent messages, two at most
unfoldable pub outs_at : Version → ℕ → List ℕ → Read Sends
outs_at version zero bytes = Ok (Sends.Nothing, bytes)
outs_at version (suc zero) bytes = do
  first ← out_at version bytes
  Ok (Sends.One first.0, first.1)
outs_at version (suc (suc n)) bytes = do
  first ← out_at version bytes
  second ← out_at version first.1
  Ok (Sends.Two first.0 second.0, second.1)

-- the messages that are sent
unfoldable pub sends_at : Version → List ℕ → Read Sends
sends_at version bytes = do
  count ← field_of FieldName.SendCount (within 0 2) bytes
  outs_at version count.0 count.1

-- the commit behind a flag of 1
unfoldable pub flagged_at : ℕ → List ℕ → Read (Option Commit)
flagged_at zero bytes = Ok (None, bytes)
flagged_at (suc n) bytes = do
  stream ← field_of FieldName.Stream (within 0 (MAX_STREAMS - 1)) bytes
  index ← number_at w32 stream.1
  op ← op_at index.1
  value ← payload_at op.1
  Ok (Some (record { stream = stream.0; index = index.0; op = op.0; value = value.0 }), value.1)

-- a commit, if there is one
unfoldable pub commit_at : List ℕ → Read (Option Commit)
commit_at bytes = do
  flag ← field_of FieldName.CommitFlag (within 0 1) bytes
  flagged_at flag.0 flag.1

-- an event
unfoldable pub event_at : Version → List ℕ → Read Event
event_at version bytes = do
  agent ← field_of FieldName.Agent (within 0 DEVICE) bytes
  cause ← cause_at version agent.1
  sends ← sends_at version cause.1
  commit ← commit_at sends.1
  Ok (record { agent = agent.0; cause = cause.0; sends = sends.0; commit = commit.0 }, commit.1)
