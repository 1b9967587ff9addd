-- A script that was parsed can be driven.
use Rattle.std.proofs.Common.{Bool, List, [], true, ◌&&◌, ◌≡◌, ◌∷◌, ℕ, refl}
use Rattle.std.specs.List.{list_all}
use Rattle.std.specs.Prelude.{nat_lt, ◌^◌}
use Rattle.std.proofs.lemmas.Bool.{and_from, and_parts}
use Rattle.cxl_message.specs.declared.events.Op.{Op}
use Rattle.cxl_message.specs.Script.{ScriptValue}
use Rattle.driven_laws.specs.Scripts.{IsDrivable, is_placed}
use Rattle.script_text.specs.Script.{IsScript, op_fits}

-- what implies passes where it passes
all_weaker : {X : Type 0} (p q : X → Bool) → ((x : X) → p x ≡ true → q x ≡ true) → (xs : List X) → list_all p xs ≡ true → list_all q xs ≡ true
all_weaker p q h [] all = refl
all_weaker p q h (x ∷ xs) all = let parts = and_parts (p x) (list_all p xs) all in and_from (q x) (list_all q xs) (h x parts.0) (all_weaker p q h xs parts.1)

-- an operation that fits has its line and its place
placed : (lines : ℕ) (op : Op) → op_fits lines op ≡ true → is_placed lines op ≡ true
placed lines (Op.Load line) fits = and_from (nat_lt line.0 lines) true fits refl
placed lines (Op.Word line place value) fits =
    let outer = and_parts (nat_lt line.0 lines && nat_lt place 8) (nat_lt value (2 ^ 64)) fits in
    let parts = and_parts (nat_lt line.0 lines) (nat_lt place 8) outer.0 in
    and_from (nat_lt line.0 lines) (nat_lt place 8) parts.0 parts.1
placed lines (Op.Whole line bytes) fits = and_from (nat_lt line.0 lines) true (and_parts (nat_lt line.0 lines) _ fits).0 refl

pub drivable_of : (script : ScriptValue) → IsScript script → IsDrivable script
drivable_of script is =
    record {
      limits = is.setup;
      lists = is.streams;
      operations =
          all_weaker (λ ops. list_all (op_fits script.setup.lines) ops) (λ ops. list_all (is_placed script.setup.lines) ops)
          (λ ops. all_weaker (op_fits script.setup.lines) (is_placed script.setup.lines) (placed script.setup.lines) ops) script.operations is.operations;
      count = is.operation_count;
    }
