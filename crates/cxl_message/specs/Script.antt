-- What a script says: a machine, what its memory holds at first, and what its streams do.
use Rattle.std.specs.Prelude.{ℕ, List}
use Rattle.cxl_message.specs.declared.identifiers.Line.{Line}
use Rattle.cxl_message.specs.declared.identifiers.Bytes64.{Bytes64}
use Rattle.cxl_message.specs.declared.events.Op.{Op}
use Rattle.cxl_message.specs.Setup.{Configuration}

-- the setup, the names of its streams, the room of each agent's journal, the opening, the operations of each stream, and the picks (own rule)
pub record ScriptValue : Type 0 where
  pub setup : Configuration
  pub names : List (ℕ × List ℕ)
  pub room : ℕ
  pub opening : List (Line × Bytes64)
  pub operations : List (List Op)
  pub picks : List ℕ
