-- The name records of a trace of version 2. Every rule here is an own rule.
use Rattle.std.specs.Prelude.{ℕ, List, ◌∷◌, ◌<◌, IsTrue, length, map}
use Rattle.cxl_message.specs.declared.limits.TheConstants.{MAX_STREAMS}
use Rattle.cxl_message.specs.Names.{is_name}
use Rattle.cxl_codec.specs.declared.fields.FieldName.{FieldName}
use Rattle.cxl_codec.specs.Cells.{Cell, field}

-- a name record: its first byte stands where an event has its agent, then the stream, the length of the name and the name
abbrev pub name_cells : ℕ × List ℕ → List Cell
name_cells named = field FieldName.Agent 0xf1 ∷ field FieldName.Stream named.0 ∷ field FieldName.NameLength (length named.1) ∷ map (field FieldName.NameByte) named.1

-- the stream is one that there may be, and the name is spelled as names are
pub record NameFits (named : ℕ × List ℕ) : Type 0 where
  pub stream : named.0 < MAX_STREAMS
  pub spelled : IsTrue (is_name named.1)
