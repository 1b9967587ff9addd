-- The header of a trace. Every rule here is an own rule.
use Rattle.std.specs.Prelude.{ℕ, List, [], ◌∷◌, ◌++◌, ◌-◌, IsTrue, length, map}
use Rattle.std.specs.Int.{w16, byte_at}
use Rattle.cxl_message.specs.Setup.{Configuration, IsWithinLimits}
use Rattle.cxl_codec.specs.declared.fields.FieldName.{FieldName}
use Rattle.cxl_codec.specs.Cells.{Cell, field, free, number}
use Rattle.cxl_codec.specs.declared.versions.Version.{Version}
use Rattle.cxl_codec.specs.Versions.{setup_fits, version_number}

-- the four bytes that begin every trace
abbrev pub magic_cells : List Cell
magic_cells = field FieldName.Magic 0x43 ∷ field FieldName.Magic 0x58 ∷ field FieldName.Magic 0x4c ∷ field FieldName.Magic 0x54 ∷ []

-- the filter entries less 1, in two bytes of which the high one is limited
abbrev pub entries_cells : ℕ → List Cell
entries_cells n = field FieldName.Entries (byte_at 1 n) ∷ free (byte_at 0 n) ∷ []

-- the number of streams, and the host of each
abbrev pub stream_cells : List ℕ → List Cell
stream_cells hosts = field FieldName.StreamCount (length hosts) ∷ map (field FieldName.StreamHost) hosts

-- the number of tags: one byte in version 1, two in version 2, both of them limited
abbrev pub tags_cells : Version → ℕ → List Cell
tags_cells Version.One n = field FieldName.Tags n ∷ []
tags_cells Version.Two n = field FieldName.Tags (byte_at 1 n) ∷ field FieldName.Tags (byte_at 0 n) ∷ []

-- a setup: hosts, lines less 1, filter entries less 1, ways less 1, tags, credits, streams
abbrev pub setup_cells : Version → Configuration → List Cell
setup_cells version setup =
    field FieldName.Hosts setup.hosts ∷ number w16 (setup.lines - 1) ++ entries_cells (setup.entries - 1)
    ++ free (setup.ways - 1) ∷ tags_cells version setup.tags ++ field FieldName.Credits setup.credits ∷ stream_cells setup.streams

-- a header: the four bytes, the version and the setup
abbrev pub header_cells_in : Version → Configuration → List Cell
header_cells_in version setup = magic_cells ++ field FieldName.Version (version_number version) ∷ setup_cells version setup

-- the same in version 1
abbrev pub header_cells : Configuration → List Cell
header_cells setup = header_cells_in Version.One setup

-- a header of either version, with its version
abbrev pub versioned_cells : Version × Configuration → List Cell
versioned_cells headed = header_cells_in headed.0 headed.1

-- a setup that has a header of a version
pub record HeaderFitsIn (version : Version) (setup : Configuration) : Type 0 where
  pub limits : IsWithinLimits setup
  pub tags : IsTrue (setup_fits version setup)

-- the same in version 1
abbrev pub HeaderFits : Configuration → Type 0
HeaderFits setup = HeaderFitsIn Version.One setup

-- a version and a setup that has a header of it
abbrev pub VersionedFits : Version × Configuration → Type 0
VersionedFits headed = HeaderFitsIn headed.0 headed.1
