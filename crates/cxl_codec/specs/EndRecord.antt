-- The end record of a trace. Every rule here is an own rule.
use Rattle.std.specs.Prelude.{ℕ, List, ◌∷◌, ◌<◌, ◌^◌}
use Rattle.std.specs.Int.{w64}
use Rattle.cxl_codec.specs.declared.fields.FieldName.{FieldName}
use Rattle.cxl_codec.specs.Cells.{Cell, field, number}

-- the end record of so many events: its first byte stands where an event has its agent
abbrev pub end_cells : ℕ → List Cell
end_cells count = field FieldName.Agent 0xff ∷ number w64 count

-- the number of events is one of 64 bits
abbrev pub EndFits : ℕ → Type 0
EndFits count = count < 2 ^ 64
