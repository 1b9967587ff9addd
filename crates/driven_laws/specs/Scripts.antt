-- Which scripts the laws speak of: those that can be driven.
use Rattle.std.specs.Prelude.{Bool, IsTrue, length, nat_lt, ℕ, ◌&&◌, ◌≡◌, ◌≤◌}
use Rattle.std.specs.List.{list_all}
use Rattle.cxl_message.specs.declared.events.Op.{Op}
use Rattle.cxl_message.specs.Events.{line_of}
use Rattle.cxl_message.specs.Formed.{place_exists}
use Rattle.cxl_message.specs.Script.{ScriptValue}
use Rattle.cxl_message.specs.Setup.{IsWithinLimits}
use Rattle.coherence_model.specs.Driven.{operation_count}

-- whether an operation's line is below so many, and a Word's place is one of the eight (own rule)
abbrev pub is_placed : ℕ → Op → Bool
is_placed lines op = nat_lt (line_of op) lines && place_exists op

-- each operation of a script passes a test
abbrev pub EachOperation : (Op → Bool) → ScriptValue → Type 0
EachOperation test script = IsTrue (list_all (λ ops. list_all test ops) script.operations)

-- a script that can be driven: its setup is within its limits, each stream has its operations, each operation its line and place, and there are at most 65,536
pub record IsDrivable (script : ScriptValue) : Type 0 where
  pub limits : IsWithinLimits script.setup
  pub lists : length script.operations ≡ length script.setup.streams
  pub operations : EachOperation (is_placed script.setup.lines) script
  pub count : operation_count script ≤ 65536
