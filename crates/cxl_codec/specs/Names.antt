-- The names of fields. Every name is an own rule.
use Rattle.std.specs.Prelude.{ℕ, List, codes}
use Rattle.cxl_codec.specs.declared.fields.FieldName.{FieldName}

-- the name of a field
abbrev pub name_of : FieldName → List ℕ
name_of FieldName.Magic = codes "Magic"
name_of FieldName.Version = codes "Version"
name_of FieldName.Hosts = codes "Hosts"
name_of FieldName.Entries = codes "Entries"
name_of FieldName.Tags = codes "Tags"
name_of FieldName.Credits = codes "Credits"
name_of FieldName.StreamCount = codes "StreamCount"
name_of FieldName.StreamHost = codes "StreamHost"
name_of FieldName.Agent = codes "Agent"
name_of FieldName.Host = codes "Host"
name_of FieldName.Stream = codes "Stream"
name_of FieldName.Place = codes "Place"
name_of FieldName.SendCount = codes "SendCount"
name_of FieldName.CommitFlag = codes "CommitFlag"
name_of FieldName.Meta = codes "Meta"
name_of FieldName.SnpType = codes "SnpType"
name_of FieldName.Payload = codes "Payload"
name_of FieldName.LowAddr = codes "LowAddr"
name_of FieldName.Span = codes "Span"
name_of FieldName.Channel = codes "Channel"
name_of FieldName.NameLength = codes "NameLength"
name_of FieldName.NameByte = codes "NameByte"
