-- The opening records of a trace. Every rule here is an own rule.
use Rattle.std.specs.Prelude.{ℕ, List, ◌∷◌, ◌++◌, ◌<◌, ◌^◌, ◌≡◌, All, length}
use Rattle.std.specs.Int.{w16}
use Rattle.cxl_message.specs.declared.identifiers.Line.{Line}
use Rattle.cxl_message.specs.declared.identifiers.Bytes64.{Bytes64}
use Rattle.cxl_codec.specs.declared.fields.FieldName.{FieldName}
use Rattle.cxl_codec.specs.Cells.{Cell, field, number, payload}

-- there are 64 bytes
pub record IsPayload (bytes : Bytes64) : Type 0 where
  pub count : length bytes.0 ≡ 64
  pub each : All (λ b. b < 256) bytes.0

-- an opening record: its first byte stands where an event has its agent
abbrev pub opening_cells : Line × Bytes64 → List Cell
opening_cells opened = field FieldName.Agent 0xf0 ∷ number w16 opened.0.0 ++ payload opened.1

-- the line of an opening record is below 65,536
pub record OpeningFits (opened : Line × Bytes64) : Type 0 where
  pub line : opened.0.0 < 2 ^ 16
  pub bytes : IsPayload opened.1
