-- The messages inside event records. Every rule here is an own rule.
use Rattle.std.specs.Prelude.{ℕ, List, [], ◌∷◌, ◌++◌, ◌<◌, ◌^◌, replicate}
use Rattle.std.specs.Int.{w16, w32}
use Rattle.cxl_message.specs.declared.messages.Message.{Message}
use Rattle.cxl_message.specs.Codes.{meta_code, snoop_type_code, channel_code, request_code, write_code, conflict_code, response_code, completion_code, data_code, snoop_code, credit_code, span_len}
use Rattle.cxl_codec.specs.declared.fields.FieldName.{FieldName}
use Rattle.cxl_codec.specs.Cells.{Cell, kind, field, number, payload}
use Rattle.cxl_codec.specs.declared.versions.Version.{Version}
use Rattle.cxl_codec.specs.Versions.{tag_limit, tag_width}
use Rattle.cxl_codec.specs.Openings.{IsPayload}

-- the kind byte of a message
abbrev pub message_code : Message → ℕ
message_code (Message.Req op meta snp tag line) = request_code op
message_code (Message.MemWr meta snp tag line bytes) = write_code
message_code (Message.BiConflict tag) = conflict_code
message_code (Message.BiRsp op bitag low) = response_code op
message_code (Message.Ndr op tag) = completion_code op
message_code (Message.MemData tag bytes) = data_code
message_code (Message.BiSnp op bitag line span) = snoop_code op
message_code (Message.Credit channel) = credit_code

-- the payload of a BIConflict: 64 zero bytes
abbrev pub zero_payload : List Cell
zero_payload = replicate 64 (field FieldName.Payload 0)

-- the fields of a message after its kind byte, in a version
abbrev pub message_fields : Version → Message → List Cell
message_fields version (Message.Req op meta snp tag line) = field FieldName.Meta (meta_code meta) ∷ field FieldName.SnpType (snoop_type_code snp) ∷ number (tag_width version) tag.0 ++ number w32 line.0
message_fields version (Message.MemWr meta snp tag line bytes) = field FieldName.Meta (meta_code meta) ∷ field FieldName.SnpType (snoop_type_code snp) ∷ number (tag_width version) tag.0 ++ (number w32 line.0 ++ payload bytes)
message_fields version (Message.BiConflict tag) = number (tag_width version) tag.0 ++ zero_payload
message_fields version (Message.BiRsp op bitag low) = number w16 bitag.0 ++ field FieldName.LowAddr low ∷ []
message_fields version (Message.Ndr op tag) = number (tag_width version) tag.0
message_fields version (Message.MemData tag bytes) = number (tag_width version) tag.0 ++ payload bytes
message_fields version (Message.BiSnp op bitag line span) = number w16 bitag.0 ++ number w32 line.0 ++ field FieldName.Span (span_len span) ∷ []
message_fields version (Message.Credit channel) = field FieldName.Channel (channel_code channel) ∷ []

-- a message: its kind byte and its fields
abbrev pub message_cells : Version → Message → List Cell
message_cells version message = kind (message_code message) ∷ message_fields version message

-- the tag of a message is such as the version can hold, and its line and bytes such as its type can
abbrev pub MessageInRange : Version → Message → Type 0
MessageInRange version (Message.Req op meta snp tag line) = (tag.0 < tag_limit version) × (line.0 < 2 ^ 32)
MessageInRange version (Message.MemWr meta snp tag line bytes) = (tag.0 < tag_limit version) × (line.0 < 2 ^ 32) × IsPayload bytes
MessageInRange version (Message.BiConflict tag) = tag.0 < tag_limit version
MessageInRange version (Message.BiRsp op bitag low) = bitag.0 < 2 ^ 16
MessageInRange version (Message.Ndr op tag) = tag.0 < tag_limit version
MessageInRange version (Message.MemData tag bytes) = (tag.0 < tag_limit version) × IsPayload bytes
MessageInRange version (Message.BiSnp op bitag line span) = (bitag.0 < 2 ^ 16) × (line.0 < 2 ^ 32)
MessageInRange version (Message.Credit channel) = Unit {0}
