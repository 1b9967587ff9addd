-- Reading headers, openings and end records. No public clause cites this file.
use Rattle.std.specs.Prelude.{ℕ, ◌+◌, ◌-◌, ◌*◌, ◌==◌, List, Ok, find, if◌then◌else◌}
use Rattle.std.specs.Int.{w16, w64}
use Rattle.cxl_message.specs.declared.identifiers.Line.{Line}
use Rattle.cxl_message.specs.declared.identifiers.Bytes64.{Bytes64}
use Rattle.cxl_message.specs.Setup.{Configuration}
use Rattle.cxl_codec.specs.declared.fields.FieldName.{FieldName}
use Rattle.cxl_codec.specs.Reading.{Read, ◌>>=◌, field_of, within, number_at, free_at, payload_at, bytes_at, run_at, letter}
use Rattle.cxl_message.specs.declared.limits.TheConstants.{MAX_CREDITS, MAX_HOSTS, MAX_NAME_LEN, MAX_STREAMS, MIN_CREDITS, MIN_TAGS}
use Rattle.cxl_codec.specs.declared.version_one.TheConstants.{MOST_SHORT_TAGS}
use Rattle.cxl_codec.specs.declared.versions.Version.{Version}
use Rattle.cxl_codec.specs.Versions.{version_number, versions}

-- the four bytes that begin every trace
unfoldable pub magic_at : List ℕ → Read ℕ
magic_at bytes = do
  first ← field_of FieldName.Magic (within 0x43 0x43) bytes
  second ← field_of FieldName.Magic (within 0x58 0x58) first.1
  third ← field_of FieldName.Magic (within 0x4c 0x4c) second.1
  fourth ← field_of FieldName.Magic (within 0x54 0x54) third.1
  Ok (fourth.0, fourth.1)

-- the number of streams, and the host of each
unfoldable pub streams_at : ℕ → List ℕ → Read (List ℕ)
streams_at hosts bytes = do
  count ← field_of FieldName.StreamCount (within 0 MAX_STREAMS) bytes
  streams ← run_at FieldName.StreamHost (hosts - 1) count.0 count.1
  Ok (streams.0, streams.1)

-- the least second byte of a number of tags of version 2, by the first one: there are 2 tags at least
abbrev pub least_low : ℕ → ℕ
least_low high = if high == 0 then MIN_TAGS else 0

-- the most second byte of it, by the first one: there are 1,024 tags at most
abbrev pub most_low : ℕ → ℕ
most_low high = if high == 4 then 0 else 255

-- the number of tags, in a version
unfoldable pub tags_at : Version → List ℕ → Read ℕ
tags_at Version.One bytes = field_of FieldName.Tags (within MIN_TAGS MOST_SHORT_TAGS) bytes
tags_at Version.Two bytes = do
  high ← field_of FieldName.Tags (within 0 (4)) bytes
  low ← field_of FieldName.Tags (within (least_low high.0) (most_low high.0)) high.1
  Ok (256 * high.0 + low.0, low.1)

-- the setup of a header, in a version
unfoldable pub setup_at : Version → List ℕ → Read Configuration
setup_at version bytes = do
  hosts ← field_of FieldName.Hosts (within 1 MAX_HOSTS) bytes
  lines ← number_at w16 hosts.1
  high ← field_of FieldName.Entries (within 0 15) lines.1
  low ← free_at high.1
  ways ← free_at low.1
  tags ← tags_at version ways.1
  credits ← field_of FieldName.Credits (within MIN_CREDITS MAX_CREDITS) tags.1
  streams ← streams_at hosts.0 credits.1
  Ok (record { hosts = hosts.0; lines = lines.0 + 1; entries = 256 * high.0 + low.0 + 1; ways = ways.0 + 1; tags = tags.0; credits = credits.0; streams = streams.0 }, streams.1)

-- a header of version 1
unfoldable pub header_at : List ℕ → Read Configuration
header_at bytes = do
  magic ← magic_at bytes
  version ← field_of FieldName.Version (within 1 1) magic.1
  setup ← setup_at Version.One version.1
  Ok (setup.0, setup.1)

-- the version of a header
abbrev pub version_at : List ℕ → Read Version
version_at bytes = field_of FieldName.Version (λ b. find (λ v. version_number v == b) versions) bytes

-- a header of either version
unfoldable pub versioned_at : List ℕ → Read (Version × Configuration)
versioned_at bytes = do
  magic ← magic_at bytes
  version ← version_at magic.1
  setup ← setup_at version.0 version.1
  Ok ((version.0, setup.0), setup.1)

-- an opening record
unfoldable pub opening_at : List ℕ → Read (Line × Bytes64)
opening_at bytes = do
  agent ← field_of FieldName.Agent (within 0xf0 0xf0) bytes
  line ← number_at w16 agent.1
  value ← payload_at line.1
  Ok ((record { 0 = line.0 }, value.0), value.1)

-- an end record
unfoldable pub end_at : List ℕ → Read ℕ
end_at bytes = do
  agent ← field_of FieldName.Agent (within 0xff 0xff) bytes
  count ← number_at w64 agent.1
  Ok (count.0, count.1)

-- a name record
unfoldable pub name_at : List ℕ → Read (ℕ × List ℕ)
name_at bytes = do
  agent ← field_of FieldName.Agent (within 0xf1 0xf1) bytes
  stream ← field_of FieldName.Stream (within 0 (MAX_STREAMS - 1)) agent.1
  count ← field_of FieldName.NameLength (within 1 MAX_NAME_LEN) stream.1
  name ← bytes_at FieldName.NameByte letter count.0 count.1
  Ok ((stream.0, name.0), name.1)
