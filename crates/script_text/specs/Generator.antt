-- A large script from one number: what each draw of a generator of 64 bits makes of it. Every rule here is an own rule.
use Rattle.std.specs.Prelude.{ℕ, zero, suc, List, [], ◌∷◌, ◌++◌, ◌+◌, ◌*◌, ◌/◌, ◌%◌, ◌^◌, get_or, replicate, set}
use Rattle.std.specs.Int.{w64, to_be_bytes}
use Rattle.cxl_message.specs.Script.{ScriptValue}
use Rattle.cxl_message.specs.Setup.{Configuration}
use Rattle.cxl_message.specs.declared.events.Op.{Op}
use Rattle.cxl_message.specs.declared.identifiers.Bytes64.{Bytes64}
use Rattle.cxl_message.specs.declared.identifiers.Line.{Line}
use Rattle.cxl_message.specs.declared.limits.TheConstants.{MAX_STREAMS, PLACES}
use Rattle.script_text.specs.declared.limits.TheConstants.{MAX_ROOM}

-- the generator's number after a draw
abbrev pub next_number : ℕ → ℕ
next_number x = (x * 6364136223846793005 + 1442695040888963407) % 2 ^ 64

-- what a draw gives, of the number after it
abbrev pub given : ℕ → ℕ
given x = x / 2 ^ 32

-- the eight bytes of a number, the highest first, eight times
abbrev pub eight_times : ℕ → Bytes64
eight_times x = let b = to_be_bytes w64 x in record { 0 = b ++ b ++ b ++ b ++ b ++ b ++ b ++ b }

-- the operation of this kind on a line, which a draw completes where it stores, and the number then
abbrev pub drawn_of : ℕ → Line → ℕ → Op × ℕ
drawn_of zero line x = (Op.Load line, x)
drawn_of (suc zero) line x = (Op.Load line, x)
drawn_of (suc (suc zero)) line x = (Op.Word line (given (next_number x) % PLACES) (next_number x), next_number x)
drawn_of (suc (suc (suc n))) line x = (Op.Whole line (eight_times (next_number x)), next_number x)

-- the operation that is drawn after a number: its kind, its line, and what it stores; and the number then
abbrev pub drawn_operation : ℕ → Op × ℕ
drawn_operation x = drawn_of (given (next_number x) % 4) (record { 0 = given (next_number (next_number x)) % 64 }) (next_number (next_number x))

-- the operations of streams with one more at the end of a stream's
abbrev pub with_operation : ℕ → Op → List (List Op) → List (List Op)
with_operation stream op operations = set operations stream (get_or operations stream [] ++ op ∷ [])

-- so many operations drawn after a number, each in turn for the next stream of 64; and the number then
abbrev pub drawn_operations : ℕ → ℕ → List (List Op) × ℕ
drawn_operations x zero = (replicate MAX_STREAMS [], x)
drawn_operations x (suc n) = let so_far = drawn_operations x n in let drawn = drawn_operation so_far.1 in (with_operation (n % MAX_STREAMS) drawn.0 so_far.0, drawn.1)

-- so many picks drawn after a number; and the number then
abbrev pub drawn_picks : ℕ → ℕ → List ℕ × ℕ
drawn_picks x zero = ([], x)
drawn_picks x (suc n) = let so_far = drawn_picks x n in (so_far.0 ++ (given (next_number so_far.1) % 65536) ∷ [], next_number so_far.1)

-- sixteen hosts with four streams each, few ways and entries for 64 lines
abbrev pub large_setup : Configuration
large_setup =
    let hosts = 0 ∷ 1 ∷ 2 ∷ 3 ∷ 4 ∷ 5 ∷ 6 ∷ 7 ∷ 8 ∷ 9 ∷ 10 ∷ 11 ∷ 12 ∷ 13 ∷ 14 ∷ 15 ∷ [] in
    record { hosts = 16; lines = 64; entries = 32; ways = 4; tags = 4; credits = 4; streams = hosts ++ hosts ++ hosts ++ hosts }

-- the script of so many operations that a seed makes: eight picks are drawn for each
abbrev pub generated : ℕ → ℕ → ScriptValue
generated count seed =
    let drawn = drawn_operations seed count in
    record { setup = large_setup; names = []; room = MAX_ROOM; opening = []; operations = drawn.0; picks = (drawn_picks drawn.1 (8 * count)).0 }
