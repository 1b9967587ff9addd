-- No count is greater than a number.
use Rattle.std.proofs.Common.{ℕ, ◌+◌, ◌≤◌, Bool, true, false, IsTrue, List, [], ◌∷◌, Some, cond, arith}
use Rattle.std.specs.Prelude.{◌&&◌, fold, nat_eq, nat_le, nat_lt, if◌then◌else◌}
use Rattle.std.specs.Map.{lookup}
use Rattle.std.specs.Option.{option_map_or}
use Rattle.std.proofs.lemmas.Bool.{and_parts, and_from, le-leb, leb-true}
use Rattle.indexmap.specs.IndexMap.{insert_entry}
use Rattle.cxl_message.specs.declared.events.Cause.{Cause}
use Rattle.cxl_message.specs.declared.events.Op.{Op}
use Rattle.cxl_message.specs.Events.{line_of}
use Rattle.cxl_view.specs.declared.counting.LineTally.{LineTally}
use Rattle.cxl_view.specs.Counting.{all_within, and_op, counted_on, none_counted, tally_within, with_op}
use Rattle.cxl_view.specs.Tallies.{begun_by}

-- the three counts of a line
pub record Below (n : ℕ) (t : LineTally) : Type 0 where
  pub loads : t.loads ≤ n
  pub words : t.words ≤ n
  pub wholes : t.wholes ≤ n

pub parts_within : (n : ℕ) (t : LineTally) → IsTrue (tally_within n t) → Below n t
parts_within n t h =
    let both = and_parts (nat_le t.loads n && nat_le t.words n) (nat_le t.wholes n) h in
    let first = and_parts (nat_le t.loads n) (nat_le t.words n) both.0 in
    record { loads = leb-true t.loads n first.0; words = leb-true t.words n first.1; wholes = leb-true t.wholes n both.1 }

pub from_parts : (n : ℕ) (t : LineTally) → Below n t → IsTrue (tally_within n t)
from_parts n t b = and_from (nat_le t.loads n && nat_le t.words n) (nat_le t.wholes n) (and_from (nat_le t.loads n) (nat_le t.words n) (le-leb t.loads n b.loads) (le-leb t.words n b.words)) (le-leb t.wholes n b.wholes)

pub within_more : (n m : ℕ) (t : LineTally) → n ≤ m → IsTrue (tally_within n t) → IsTrue (tally_within m t)
within_more n m t more h =
    let b = parts_within n t h in
    let loads = b.loads in
    let words = b.words in
    let wholes = b.wholes in
    from_parts m t (record { loads = omega arith; words = omega arith; wholes = omega arith })

-- no count of no operation is greater
pub none_within : (n : ℕ) → IsTrue (tally_within n none_counted)
none_within n = from_parts n none_counted (record { loads = omega arith; words = omega arith; wholes = omega arith })

-- an operation more
pub op_within : (n : ℕ) (op : Op) (t : LineTally) → IsTrue (tally_within n t) → IsTrue (tally_within (n + 1) (with_op op t))
op_within n (Op.Load line) t h =
    let b = parts_within n t h in
    let loads = b.loads in
    let words = b.words in
    let wholes = b.wholes in
    from_parts (n + 1) _ (record { loads = omega arith; words = omega arith; wholes = omega arith })
op_within n (Op.Word line place value) t h =
    let b = parts_within n t h in
    let loads = b.loads in
    let words = b.words in
    let wholes = b.wholes in
    from_parts (n + 1) _ (record { loads = omega arith; words = omega arith; wholes = omega arith })
op_within n (Op.Whole line bytes) t h =
    let b = parts_within n t h in
    let loads = b.loads in
    let words = b.words in
    let wholes = b.wholes in
    from_parts (n + 1) _ (record { loads = omega arith; words = omega arith; wholes = omega arith })

-- all lines
pub all_within_more : (n m : ℕ) (es : List (ℕ × LineTally)) → n ≤ m → IsTrue (all_within n es) → IsTrue (all_within m es)
all_within_more n m [] more h = h
all_within_more n m (e ∷ es) more h =
    let parts = and_parts _ _ h in
    and_from _ _ (within_more n m e.1 more parts.0) (all_within_more n m es more parts.1)

found_by : (n line : ℕ) (b : Bool) (t : LineTally) (es : List (ℕ × LineTally)) → IsTrue (tally_within n t) → IsTrue (tally_within n (counted_on line es))
    → IsTrue (tally_within n (option_map_or (λ t. t) (cond b (Some t) (lookup (nat_eq line) es)) none_counted))
found_by n line true t es first rest = first
found_by n line false t es first rest = rest

-- what is counted of a line
pub counted_within : (n line : ℕ) (es : List (ℕ × LineTally)) → IsTrue (all_within n es) → IsTrue (tally_within n (counted_on line es))
counted_within n line [] h = none_within n
counted_within n line (e ∷ es) h =
    let parts = and_parts _ _ h in
    found_by n line (nat_eq line e.0) e.1 es parts.0 (counted_within n line es parts.1)

put_by : (n : ℕ) (b : Bool) (e f : ℕ × LineTally) (es fs : List (ℕ × LineTally)) → IsTrue (tally_within n e.1) → IsTrue (tally_within n f.1) → IsTrue (all_within n es) → IsTrue (all_within n fs)
    → IsTrue (all_within n (if b then f ∷ es else e ∷ fs))
put_by n true e f es fs old new same put = and_from _ _ new same
put_by n false e f es fs old new same put = and_from _ _ old put

-- a line's counts are put in
pub put_within : (n line : ℕ) (t : LineTally) (es : List (ℕ × LineTally)) → IsTrue (tally_within n t) → IsTrue (all_within n es) → IsTrue (all_within n (insert_entry nat_eq es line t))
put_within n line t [] new h = and_from _ _ new h
put_within n line t (e ∷ es) new h =
    let parts = and_parts _ _ h in
    put_by n (nat_eq line e.0) e (e.0, t) es (insert_entry nat_eq es line t) parts.0 new parts.1 (put_within n line t es new parts.1)

-- an operation more
pub all_within_op : (n : ℕ) (es : List (ℕ × LineTally)) (op : Op) → IsTrue (all_within n es) → IsTrue (all_within (n + 1) (and_op es op))
all_within_op n es op h =
    let more : n ≤ n + 1 = omega arith in
    put_within (n + 1) (line_of op) _ es (op_within n op _ (counted_within n (line_of op) es h)) (all_within_more n (n + 1) es more h)

-- the operations of a cause, one at most
pub all_within_cause : (n lines : ℕ) (es : List (ℕ × LineTally)) (cause : Cause) → IsTrue (all_within n es) → IsTrue (all_within (n + 1) (fold and_op es (begun_by lines cause)))
all_within_cause n lines es (Cause.Op stream index op) h = by (nat_lt (line_of op) lines)
  where
    by : (b : Bool) → IsTrue (all_within (n + 1) (fold and_op es (if b then op ∷ [] else [])))
    by true = all_within_op n es op h
    by false = let more : n ≤ n + 1 = omega arith in all_within_more n (n + 1) es more h
all_within_cause n lines es (Cause.Take host message) h = let more : n ≤ n + 1 = omega arith in all_within_more n (n + 1) es more h
all_within_cause n lines es (Cause.Act act) h = let more : n ≤ n + 1 = omega arith in all_within_more n (n + 1) es more h
