-- An operation more of the last stream.
use Rattle.std.proofs.Common.{◌≡◌, ℕ, zero, suc, ◌+◌, ◌<◌, List, [], ◌∷◌, ◌++◌, length, get_or, set, map, sym, ap, ◌∙◌, arith}
use Rattle.std.specs.Global.{Vec}
use Rattle.std.proofs.lemmas.List.{length_push, length-map, map-set, get_or-map}
use Rattle.std.proofs.lemmas.List.Sums.{sum_by-cons}
use Rattle.cxl_message.specs.declared.events.Op.{Op}
use Rattle.script_text.specs.Refusals.{with_op}
use Rattle.script_text.specs.Script.{operation_count}

-- the streams' operations with the last stream's replaced
replaced : (streams : List (List Op)) (ops : List Op) (op : Op) (n : ℕ) → suc n ≡ length streams → ops ≡ get_or streams n [] ++ op ∷ [] → set streams n ops ≡ with_op streams op
replaced [] ops op n e is = absurd (omega arith)
replaced (first ∷ []) ops op zero e is = ap (λ (x : List Op). x ∷ []) is
replaced (first ∷ []) ops op (suc n) e is = absurd (omega arith)
replaced (first ∷ next ∷ more) ops op zero e is = absurd (omega arith)
replaced (first ∷ next ∷ more) ops op (suc n) e is = ap (λ (x : List (List Op)). first ∷ x) (replaced (next ∷ more) ops op n (omega arith) is)

-- the same of the vectors that hold them
pub last_pushed : (streams : List (Vec Op)) (before last : Vec Op) (op : Op) (n : ℕ) → suc n ≡ length streams → before ≡ get_or streams n before → last.items ≡ before.items ++ op ∷ []
    → map (λ ops. ops.items) (set streams n last) ≡ with_op (map (λ ops. ops.items) streams) op
last_pushed streams before last op n place read is =
    let items : Vec Op → List Op = λ ops. ops.items in
    let there : get_or (map items streams) n [] ≡ before.items = get_or-map items streams n before [] (omega arith) ∙ ap items (sym read) in
    map-set items streams n last ∙ replaced (map items streams) last.items op n (place ∙ sym (length-map streams items)) (is ∙ ap (λ (ops : List Op). ops ++ op ∷ []) (sym there))

-- they are one more
pub count-with_op : (streams : List (List Op)) (op : Op) → 0 < length streams → operation_count (with_op streams op) ≡ operation_count streams + 1
count-with_op [] op some = absurd (omega arith)
count-with_op (first ∷ []) op some = omega (arith, sum_by-cons length first [], sum_by-cons length (first ++ op ∷ []) [], length_push first op)
count-with_op (first ∷ next ∷ more) op some = omega (arith, sum_by-cons length first (next ∷ more), sum_by-cons length first (with_op (next ∷ more) op), count-with_op (next ∷ more) op (omega arith))
