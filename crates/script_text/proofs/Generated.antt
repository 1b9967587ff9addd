-- What the generator draws is a script: each operation fits, each pick is within its limit, and there are as many operations as
-- were drawn.
use Rattle.std.proofs.Common.{◌≡◌, ℕ, zero, suc, ◌*◌, ◌%◌, ◌<◌, ◌≤◌, Bool, IsTrue, List, [], ◌∷◌, ◌++◌, length, get_or, set, map, refl, sym, ap, ◌∙◌, arith}
use Rattle.std.specs.Prelude.{◌==◌, nat_lt, nat_le}
use Rattle.std.specs.Global.{Vec}
use Rattle.std.specs.Int.{w64, to_be_bytes}
use Rattle.std.specs.List.{list_all}
use Rattle.std.proofs.lemmas.Bool.{and_parts, and_from, lt-ltb, le-leb}
use Rattle.std.proofs.lemmas.List.{length-set, length_push, map-set, get_or-map}
use Rattle.std.proofs.lemmas.List.Folds.{list_all-append}
use Rattle.std.proofs.lemmas.List.Sums.{sum_by-set}
use Rattle.cxl_message.specs.declared.events.Op.{Op}
use Rattle.cxl_message.specs.declared.identifiers.Line.{Line}
use Rattle.script_text.specs.Generator.{drawn_of, drawn_operation, drawn_operations, drawn_picks, eight_times, generated, given, next_number, with_operation}
use Rattle.script_text.specs.Script.{IsScript, are_line_bytes, op_fits, operation_count}
use Rattle.script_text.proofs.LineLaws.{value_bytes}
use Rattle.script_text.proofs.WordLaws.{AreBytes}

-- ---- an operation more

-- the operations of vectors with one more at the end of one
pub one_more_drawn : (streams : List (Vec Op)) (before last : Vec Op) (op : Op) (s : ℕ) → s < length streams → before ≡ get_or streams s before → last.items ≡ before.items ++ op ∷ []
    → map (λ ops. ops.items) (set streams s last) ≡ with_operation s op (map (λ ops. ops.items) streams)
one_more_drawn streams before last op s there read is =
    let items : Vec Op → List Op = λ ops. ops.items in
    let found : get_or (map items streams) s [] ≡ before.items = get_or-map items streams s before [] there ∙ ap items (sym read) in
    map-set items streams s last ∙ ap (λ (ops : List Op). set (map items streams) s ops) (is ∙ ap (λ (ops : List Op). ops ++ op ∷ []) (sym found))

-- ---- each operation fits

-- bytes before bytes
bytes_before : (a b : List ℕ) → AreBytes a → AreBytes b → AreBytes (a ++ b)
bytes_before a b one other = list_all-append (λ byte. nat_lt byte 256) a b ∙ and_from _ _ one other

line_bytes_eight : (x : ℕ) → IsTrue (are_line_bytes (eight_times x))
line_bytes_eight x =
    let b = to_be_bytes w64 x in
    let more : (rest : List ℕ) → AreBytes rest → AreBytes (b ++ rest) = λ rest. bytes_before b rest (value_bytes x) in
    let two = b ++ b in
    let four = b ++ b ++ two in
    let six = b ++ b ++ four in
    let of_four : AreBytes four = more (b ++ two) (more two (more b (value_bytes x))) in
    let of_six : AreBytes six = more (b ++ four) (more four of_four) in
    and_from (length (eight_times x).0 == 64) _ refl (more (b ++ six) (more six of_six))

drawn_fits : (kind : ℕ) (line : Line) (x : ℕ) → line.0 < 64 → IsTrue (op_fits 64 (drawn_of kind line x).0)
drawn_fits zero line x below = lt-ltb line.0 64 below
drawn_fits (suc zero) line x below = lt-ltb line.0 64 below
drawn_fits (suc (suc zero)) line x below =
    and_from _ _ (and_from _ _ (lt-ltb line.0 64 below) (lt-ltb (given (next_number x) % 8) 8 (omega arith))) (lt-ltb (next_number x) 18446744073709551616 (omega arith))
drawn_fits (suc (suc (suc n))) line x below = and_from _ _ (lt-ltb line.0 64 below) (line_bytes_eight (next_number x))

operation_fits : (x : ℕ) → IsTrue (op_fits 64 (drawn_operation x).0)
operation_fits x = drawn_fits (given (next_number x) % 4) (record { 0 = given (next_number (next_number x)) % 64 }) (next_number (next_number x)) (omega arith)

all_in : {X : Type 0} → (p : X → Bool) → (xs : List (List X)) (i : ℕ) → IsTrue (list_all (list_all p) xs) → IsTrue (list_all p (get_or xs i []))
all_in p [] i all = refl
all_in p (x ∷ xs) zero all = (and_parts _ _ all).0
all_in p (x ∷ xs) (suc i) all = all_in p xs i (and_parts _ _ all).1

all_set : {X : Type 0} → (p : X → Bool) → (xs : List X) (i : ℕ) (y : X) → IsTrue (list_all p xs) → IsTrue (p y) → IsTrue (list_all p (set xs i y))
all_set p [] i y all is = refl
all_set p (x ∷ xs) zero y all is = and_from _ _ is (and_parts _ _ all).1
all_set p (x ∷ xs) (suc i) y all is = and_from _ _ (and_parts _ _ all).0 (all_set p xs i y (and_parts _ _ all).1 is)

all_push : {X : Type 0} → (p : X → Bool) → (xs : List X) (y : X) → IsTrue (list_all p xs) → IsTrue (p y) → IsTrue (list_all p (xs ++ y ∷ []))
all_push p xs y all is = list_all-append p xs (y ∷ []) ∙ and_from _ _ all (and_from _ _ is refl)

operations_fit : (x n : ℕ) → IsTrue (list_all (list_all (op_fits 64)) (drawn_operations x n).0)
operations_fit x zero = refl
operations_fit x (suc n) =
    let so_far = drawn_operations x n in
    let drawn = drawn_operation so_far.1 in
    let there = get_or so_far.0 (n % 64) [] in
    all_set (list_all (op_fits 64)) so_far.0 (n % 64) (there ++ drawn.0 ∷ []) (operations_fit x n)
    (all_push (op_fits 64) there drawn.0 (all_in (op_fits 64) so_far.0 (n % 64) (operations_fit x n)) (operation_fits so_far.1))

-- ---- how many there are

streams_are_64 : (x n : ℕ) → length (drawn_operations x n).0 ≡ 64
streams_are_64 x zero = refl
streams_are_64 x (suc n) =
    let so_far = drawn_operations x n in
    length-set so_far.0 (n % 64) (get_or so_far.0 (n % 64) [] ++ (drawn_operation so_far.1).0 ∷ []) ∙ streams_are_64 x n

as_many_drawn : (x n : ℕ) → operation_count (drawn_operations x n).0 ≡ n
as_many_drawn x zero = refl
as_many_drawn x (suc n) =
    let so_far = drawn_operations x n in
    let there = get_or so_far.0 (n % 64) [] in
    let op = (drawn_operation so_far.1).0 in
    let place : n % 64 < length so_far.0 = omega (arith, streams_are_64 x n) in
    omega (arith, sum_by-set length so_far.0 (n % 64) (there ++ op ∷ []) [] place, length_push there op, as_many_drawn x n)

-- ---- picks

picks_fit : (x n : ℕ) → IsTrue (list_all (λ pick. nat_le pick 65535) (drawn_picks x n).0)
picks_fit x zero = refl
picks_fit x (suc n) =
    let so_far = drawn_picks x n in
    all_push (λ pick. nat_le pick 65535) so_far.0 (given (next_number so_far.1) % 65536) (picks_fit x n) (le-leb (given (next_number so_far.1) % 65536) 65535 (omega arith))

-- what is generated is a script, where there may be so many operations
pub generated_is_script : (count seed : ℕ) → count ≤ 65536 → IsScript (generated count seed)
generated_is_script count seed few =
    record {
      setup = record { hosts = (omega arith, omega arith); lines = (omega arith, omega arith); entries = (omega arith, omega arith); ways = (omega arith, omega arith); tags = (omega arith, omega arith); credits = (omega arith, omega arith); streams = omega arith; stream_hosts = refl };
      names = record { ascending = refl; spelled = refl };
      named = refl;
      room = (omega arith, omega arith);
      opening = record { ascending = refl; not_zero = refl };
      opening_lines = refl;
      opening_bytes = refl;
      streams = streams_are_64 seed count;
      operations = operations_fit seed count;
      operation_count = omega (arith, as_many_drawn seed count);
      picks = picks_fit (drawn_operations seed count).1 (8 * count);
    }
