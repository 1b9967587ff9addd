-- Over all lines the counts are those of the operations.
use Rattle.std.proofs.Common.{◌≡◌, ℕ, ◌+◌, Bool, true, false, List, [], ◌∷◌, ◌++◌, map, Some, cond, refl, sym, ap, subst, ◌∙◌, append_assoc, arith}
use Rattle.std.specs.Prelude.{fold, count_by, nat_eq, sum_by, if◌then◌else◌}
use Rattle.std.specs.List.{IsDistinct}
use Rattle.std.specs.Map.{lookup}
use Rattle.std.specs.Option.{option_map_or}
use Rattle.std.proofs.lemmas.List.{append-nil}
use Rattle.std.proofs.lemmas.List.Sums.{sum_by-cons}
use Rattle.indexmap.specs.IndexMap.{insert_entry}
use Rattle.cxl_message.specs.declared.events.Op.{Op}
use Rattle.cxl_message.specs.Events.{is_load, is_whole, line_of}
use Rattle.cxl_view.specs.declared.counting.LineTally.{LineTally}
use Rattle.cxl_view.specs.Counting.{and_op, counted_on, none_counted, with_op}
use Rattle.cxl_view.specs.Laws.{CountsAddUp}
use Rattle.cxl_view.specs.Tallies.{begun_ops, is_word, lines_named, tally_of}
use Rattle.cxl_view.proofs.Counted.{entries, named_once, on_lines_of, op_counted}

-- what is counted on the lines of more operations
counted_all : (front ops : List Op) → on_lines_of (front ++ ops) ≡ fold and_op (on_lines_of front) ops
counted_all front [] = ap on_lines_of (append-nil front)
counted_all front (op ∷ ops) =
    ap on_lines_of (sym (append_assoc front (op ∷ []) ops)) ∙ counted_all (front ++ op ∷ []) ops ∙ ap (λ (es : List (ℕ × LineTally)). fold and_op es ops) (op_counted front op)

module _ (count : LineTally → ℕ) (test : Op → Bool) (none : count none_counted ≡ 0) (one : (op : Op) (t : LineTally) → count (with_op op t) ≡ cond (test op) 1 0 + count t) where
  -- the sum over lines
  total : List (ℕ × LineTally) → ℕ
  total es = sum_by (λ counted. count counted.1) es

  -- what is put in for a line
  put_if : ℕ → Op → ℕ × LineTally → List (ℕ × LineTally) → Bool → LineTally
  put_if k op e es b = with_op op (option_map_or (λ t. t) (cond b (Some e.1) (lookup (nat_eq k) es)) none_counted)

  more : (e : ℕ × LineTally) (es : List (ℕ × LineTally)) → total (e ∷ es) ≡ count e.1 + total es
  unfolding total
  more e es = sum_by-cons (λ counted. count counted.1) e es

  put_by : (k : ℕ) (op : Op) (e : ℕ × LineTally) (es : List (ℕ × LineTally)) → total (insert_entry nat_eq es k (with_op op (counted_on k es))) ≡ cond (test op) 1 0 + total es
      → (b : Bool) → total (if b then (e.0, put_if k op e es b) ∷ es else e ∷ insert_entry nat_eq es k (put_if k op e es b)) ≡ cond (test op) 1 0 + total (e ∷ es)
  unfolding put_if
  put_by k op e es rest true =
      let first : total ((e.0, with_op op e.1) ∷ es) ≡ count (with_op op e.1) + total es = more (e.0, with_op op e.1) es in
      let before = more e es in
      let one_op = one op e.1 in
      let sums : total ((e.0, with_op op e.1) ∷ es) ≡ cond (test op) 1 0 + total (e ∷ es) = omega (arith, first, before, one_op) in
      sums
  put_by k op e es rest false =
      let first = more e (insert_entry nat_eq es k (with_op op (counted_on k es))) in
      let before = more e es in
      let sums : total (e ∷ insert_entry nat_eq es k (with_op op (counted_on k es))) ≡ cond (test op) 1 0 + total (e ∷ es) = omega (arith, first, before, rest) in
      sums

  -- an operation more
  put_total : (k : ℕ) (op : Op) (es : List (ℕ × LineTally)) → total (insert_entry nat_eq es k (with_op op (counted_on k es))) ≡ cond (test op) 1 0 + total es
  unfolding put_if
  put_total k op [] =
      let first : total ((k, with_op op none_counted) ∷ []) ≡ count (with_op op none_counted) + total [] = more (k, with_op op none_counted) [] in
      let one_op = one op none_counted in
      let sums : total ((k, with_op op none_counted) ∷ []) ≡ cond (test op) 1 0 + total [] = omega (arith, first, one_op, none) in
      sums
  put_total k op (e ∷ es) = put_by k op e es (put_total k op es) (nat_eq k e.0)

  all_total : (es : List (ℕ × LineTally)) (ops : List Op) → total (fold and_op es ops) ≡ count_by test ops + total es
  all_total es [] = let same : total es ≡ 0 + total es = omega arith in same
  all_total es (op ∷ ops) =
      let rest = all_total (and_op es op) ops in
      let here : total (and_op es op) ≡ cond (test op) 1 0 + total es = put_total (line_of op) op es in
      let counted : count_by test (op ∷ ops) ≡ cond (test op) 1 0 + count_by test ops = sum_by-cons (λ o. cond (test o) 1 0) op ops in
      let sums : total (fold and_op (and_op es op) ops) ≡ count_by test (op ∷ ops) + total es = omega (arith, rest, here, counted) in
      sums

  pub adds_up : (ops : List Op) → sum_by (λ counted. count counted.1) (on_lines_of ops) ≡ count_by test ops
  unfolding total
  adds_up ops =
      let all : total (fold and_op [] ops) ≡ count_by test ops + 0 = all_total [] ops in
      let same : total (on_lines_of ops) ≡ total (fold and_op [] ops) = ap total (counted_all [] ops) in
      let sums : total (on_lines_of ops) ≡ count_by test ops = omega (arith, all, same) in
      sums

load_more : (op : Op) (t : LineTally) → (with_op op t).loads ≡ cond (is_load op) 1 0 + t.loads
load_more (Op.Load line) t = omega arith
load_more (Op.Word line place value) t = omega arith
load_more (Op.Whole line bytes) t = omega arith

word_more : (op : Op) (t : LineTally) → (with_op op t).words ≡ cond (is_word op) 1 0 + t.words
word_more (Op.Load line) t = omega arith
word_more (Op.Word line place value) t = omega arith
word_more (Op.Whole line bytes) t = omega arith

whole_more : (op : Op) (t : LineTally) → (with_op op t).wholes ≡ cond (is_whole op) 1 0 + t.wholes
whole_more (Op.Load line) t = omega arith
whole_more (Op.Word line place value) t = omega arith
whole_more (Op.Whole line bytes) t = omega arith

keys_are : (f : ℕ → LineTally) (ks : List ℕ) → ks ≡ map (λ counted. counted.0) (entries f ks)
keys_are f [] = refl
keys_are f (k ∷ ks) = ap (λ (l : List ℕ). k ∷ l) (keys_are f ks)

pub add_up : CountsAddUp
add_up = record {
  once = λ lines events. let ops : List Op = begun_ops lines events in subst (IsDistinct nat_eq) (keys_are (λ line. tally_of line ops) (lines_named ops)) (named_once ops);
  loads = λ lines events. adds_up (λ t. t.loads) is_load refl load_more (begun_ops lines events);
  words = λ lines events. adds_up (λ t. t.words) is_word refl word_more (begun_ops lines events);
  wholes = λ lines events. adds_up (λ t. t.wholes) is_whole refl whole_more (begun_ops lines events);
}
