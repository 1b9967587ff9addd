-- Counting one event more of a list of events.
use Rattle.std.proofs.Common.{◌≡◌, ℕ, ◌+◌, Bool, true, false, List, [], ◌∷◌, ◌++◌, map, Option, Some, None, cond, refl, sym, ap, subst, ◌∙◌, arith}
use Rattle.std.specs.Prelude.{◌&&◌, ◌||◌, ◌==◌, fold, count_by, is_some, nat_eq, nat_lt, if◌then◌else◌}
use Rattle.std.specs.List.{AllByRecursion, IsDistinct, list_any}
use Rattle.std.specs.Map.{lookup}
use Rattle.std.specs.Option.{option_map_or}
use Rattle.std.proofs.lemmas.Bool.{eq-eqb, eqb-true, false≢true, ne_eqb, or_parts}
use Rattle.std.proofs.lemmas.Grind.{flat_map-append}
use Rattle.std.proofs.lemmas.List.{append-nil, length-append, map-append}
use Rattle.std.proofs.lemmas.List.Folds.{list_any-append}
use Rattle.std.proofs.lemmas.List.Sums.{fold-append, sum_by-append, sum_by-cons}
use Rattle.indexmap.specs.IndexMap.{insert_entry}
use Rattle.indexmap.specs.IndexSet.{insert_key}
use Rattle.cxl_message.specs.declared.events.Cause.{Cause}
use Rattle.cxl_message.specs.declared.events.Event.{Event}
use Rattle.cxl_message.specs.declared.events.Op.{Op}
use Rattle.cxl_message.specs.Events.{is_load, is_whole, line_of}
use Rattle.cxl_view.specs.declared.counting.LineTally.{LineTally}
use Rattle.cxl_view.specs.Tallies.{Counts, begun_by, begun_ops, counts_of, is_word, lines_named, ops_on, tally_of}
use Rattle.cxl_view.specs.Counting.{and_event, and_op, none_counted, with_op}

-- ---- the counts of a line

-- an operation more among those of a line
abbrev pub more_if : Bool → ℕ → ℕ
more_if b n = if b then n + 1 else n

one_more : (b : Bool) (n : ℕ) → n + (0 + cond b 1 0) ≡ more_if b n
one_more true n = omega arith
one_more false n = omega arith

pub ops_more : (test : Op → Bool) (line : ℕ) (ops : List Op) (op : Op) → ops_on test line (ops ++ op ∷ []) ≡ more_if (test op && (line_of op == line)) (ops_on test line ops)
ops_more test line ops op =
    let first : ops_on test line (ops ++ op ∷ []) ≡ ops_on test line ops + (0 + cond (test op && (line_of op == line)) 1 0) = sum_by-append (λ o. cond (test o && (line_of o == line)) 1 0) ops (op ∷ []) in
    first ∙ one_more (test op && (line_of op == line)) (ops_on test line ops)

-- the counts of a line, from an operation more
abbrev pub tally_more : Op → Bool → LineTally → LineTally
tally_more op b t = record {
  loads = more_if (is_load op && b) t.loads;
  words = more_if (is_word op && b) t.words;
  wholes = more_if (is_whole op && b) t.wholes;
}

more_true : (op : Op) (t : LineTally) → tally_more op true t ≡ with_op op t
more_true (Op.Load line) t = refl
more_true (Op.Word line place value) t = refl
more_true (Op.Whole line bytes) t = refl

more_false : (op : Op) (t : LineTally) → tally_more op false t ≡ t
more_false (Op.Load line) t = refl
more_false (Op.Word line place value) t = refl
more_false (Op.Whole line bytes) t = refl

abbrev made_of : ℕ → ℕ → ℕ → LineTally
made_of loads words wholes = record { loads = loads; words = words; wholes = wholes }

same_tally : (a b c d e f : ℕ) → a ≡ d → b ≡ e → c ≡ f → made_of a b c ≡ made_of d e f
same_tally a b c d e f p q r = ap (λ n. made_of n b c) p ∙ ap (λ n. made_of d n c) q ∙ ap (λ n. made_of d e n) r

pub tally_is_more : (line : ℕ) (ops : List Op) (op : Op) → tally_of line (ops ++ op ∷ []) ≡ tally_more op (line_of op == line) (tally_of line ops)
tally_is_more line ops op = same_tally _ _ _ _ _ _ (ops_more is_load line ops op) (ops_more is_word line ops op) (ops_more is_whole line ops op)

-- the operation's own line, and any other
pub tally_own : (ops : List Op) (op : Op) → (line : ℕ) → (line_of op == line) ≡ true → tally_of line (ops ++ op ∷ []) ≡ with_op op (tally_of line ops)
tally_own ops op line own = tally_is_more line ops op ∙ ap (λ b. tally_more op b (tally_of line ops)) own ∙ more_true op (tally_of line ops)

pub tally_other : (ops : List Op) (op : Op) → (line : ℕ) → (line_of op == line) ≡ false → tally_of line (ops ++ op ∷ []) ≡ tally_of line ops
tally_other ops op line other = tally_is_more line ops op ∙ ap (λ b. tally_more op b (tally_of line ops)) other ∙ more_false op (tally_of line ops)

-- ---- the lines that operations name

same_false : (a b : ℕ) → (a == b) ≡ false → (b == a) ≡ false
same_false a b differ = ne_eqb b a (λ e. false≢true (sym differ ∙ eq-eqb a b (sym e)))

key_by : (k : ℕ) (keys : List ℕ) (x : ℕ) (b : Bool) → list_any (nat_eq x) keys ≡ b → list_any (nat_eq k) (if b then keys else keys ++ x ∷ []) ≡ false → (list_any (nat_eq k) keys ≡ false) × ((k == x) ≡ false)
key_by k keys x true found h =
    (h, ne_eqb k x (λ e. false≢true (sym h ∙ ap (λ (n : ℕ). list_any (nat_eq n) keys) e ∙ found)))
key_by k keys x false found h =
    let parts = or_parts (list_any (nat_eq k) keys) (list_any (nat_eq k) (x ∷ [])) (sym (list_any-append (nat_eq k) keys (x ∷ [])) ∙ h) in
    (parts.0, (or_parts (k == x) false parts.1).0)

-- a line that isn't among those named is that of no operation
pub not_named : (k : ℕ) (keys xs : List ℕ) → list_any (nat_eq k) (fold (insert_key nat_eq) keys xs) ≡ false → (list_any (nat_eq k) keys ≡ false) × (list_any (nat_eq k) xs ≡ false)
not_named k keys [] h = (h, refl)
not_named k keys (x ∷ xs) h =
    let rest = not_named k (insert_key nat_eq keys x) xs h in
    let here = key_by k keys x (list_any (nat_eq x) keys) refl rest.0 in
    (here.0, ap (λ b. b || list_any (nat_eq k) xs) here.1 ∙ rest.1)

and_false : (b : Bool) → (b && false) ≡ false
and_false true = refl
and_false false = refl

ops_none : (test : Op → Bool) (k : ℕ) (ops : List Op) → list_any (nat_eq k) (map line_of ops) ≡ false → ops_on test k ops ≡ 0
ops_none test k [] h = refl
ops_none test k (o ∷ ops) h =
    let parts = or_parts (k == line_of o) (list_any (nat_eq k) (map line_of ops)) h in
    let rest = ops_none test k ops parts.1 in
    let none : (test o && (line_of o == k)) ≡ false = ap (λ b. test o && b) (same_false k (line_of o) parts.0) ∙ and_false (test o) in
    let first : ops_on test k (o ∷ ops) ≡ cond (test o && (line_of o == k)) 1 0 + ops_on test k ops = sum_by-cons (λ o. cond (test o && (line_of o == k)) 1 0) o ops in
    let nothing : 0 + ops_on test k ops ≡ ops_on test k ops = omega arith in
    first ∙ ap (λ b. cond b 1 0 + ops_on test k ops) none ∙ nothing ∙ rest

pub tally_none : (k : ℕ) (ops : List Op) → list_any (nat_eq k) (lines_named ops) ≡ false → tally_of k ops ≡ none_counted
tally_none k ops h =
    let none = (not_named k [] (map line_of ops) h).1 in
    same_tally _ _ _ 0 0 0 (ops_none is_load k ops none) (ops_none is_word k ops none) (ops_none is_whole k ops none)

all_push : (P : ℕ → Type 0) (xs : List ℕ) (x : ℕ) → AllByRecursion P xs → P x → AllByRecursion P (xs ++ x ∷ [])
all_push P [] x all new = (new, tt)
all_push P (y ∷ ys) x all new = (all.0, all_push P ys x all.1 new)

-- one key more
push_distinct : (keys : List ℕ) (x : ℕ) → list_any (nat_eq x) keys ≡ false → IsDistinct nat_eq keys → IsDistinct nat_eq (keys ++ x ∷ [])
unfolding IsDistinct
push_distinct [] x none distinct = (tt, tt)
push_distinct (y ∷ ys) x none distinct =
    let parts = or_parts (x == y) (list_any (nat_eq x) ys) none in
    (all_push (λ z. (y == z) ≡ false) ys x distinct.0 (same_false x y parts.0), push_distinct ys x parts.1 distinct.1)

key_distinct : (keys : List ℕ) (x : ℕ) (b : Bool) → list_any (nat_eq x) keys ≡ b → IsDistinct nat_eq keys → IsDistinct nat_eq (if b then keys else keys ++ x ∷ [])
key_distinct keys x true found distinct = distinct
key_distinct keys x false none distinct = push_distinct keys x none distinct

keys_distinct : (keys xs : List ℕ) → IsDistinct nat_eq keys → IsDistinct nat_eq (fold (insert_key nat_eq) keys xs)
keys_distinct keys [] distinct = distinct
keys_distinct keys (x ∷ xs) distinct = keys_distinct (insert_key nat_eq keys x) xs (key_distinct keys x (list_any (nat_eq x) keys) refl distinct)

no_keys : IsDistinct nat_eq []
unfolding IsDistinct
no_keys = tt

-- each line that operations name is among those named once
pub named_once : (ops : List Op) → IsDistinct nat_eq (lines_named ops)
named_once ops = keys_distinct [] (map line_of ops) no_keys

-- ---- what is counted on the lines

-- lines, each with its counts
abbrev pub entries : (ℕ → LineTally) → List ℕ → List (ℕ × LineTally)
entries f lines = map (λ line. (line, f line)) lines

lookup_new : (f : ℕ → LineTally) (k : ℕ) (ks : List ℕ) → list_any (nat_eq k) ks ≡ false → lookup (nat_eq k) (entries f ks) ≡ None
lookup_new f k [] none = refl
lookup_new f k (x ∷ xs) none =
    let parts = or_parts (k == x) (list_any (nat_eq k) xs) none in
    ap (λ b. cond b (Some (f x)) (lookup (nat_eq k) (entries f xs))) parts.0 ∙ lookup_new f k xs parts.1

lookup_by : (f : ℕ → LineTally) (k x : ℕ) (xs : List ℕ) (b : Bool) → (k == x) ≡ b → (b || list_any (nat_eq k) xs) ≡ true → (list_any (nat_eq k) xs ≡ true → lookup (nat_eq k) (entries f xs) ≡ Some (f k))
    → cond b (Some (f x)) (lookup (nat_eq k) (entries f xs)) ≡ Some (f k)
lookup_by f k x xs true same there rest = ap (λ (n : ℕ). Some (f n)) (sym (eqb-true k x same))
lookup_by f k x xs false differ there rest = rest there

lookup_there : (f : ℕ → LineTally) (k : ℕ) (ks : List ℕ) → list_any (nat_eq k) ks ≡ true → lookup (nat_eq k) (entries f ks) ≡ Some (f k)
lookup_there f k [] there = absurd (false≢true there)
lookup_there f k (x ∷ xs) there = lookup_by f k x xs (k == x) refl there (λ more. lookup_there f k xs more)

module _ (f g : ℕ → LineTally) (k : ℕ) (others : (x : ℕ) → (k == x) ≡ false → g x ≡ f x) where
  entries_same : (xs : List ℕ) → AllByRecursion (λ y. (k == y) ≡ false) xs → entries g xs ≡ entries f xs
  entries_same [] all = refl
  entries_same (x ∷ xs) all = rw (others x all.0, entries_same xs all.1) refl

  -- a new line comes last
  entry_new : (ks : List ℕ) → list_any (nat_eq k) ks ≡ false → entries g (ks ++ k ∷ []) ≡ insert_entry nat_eq (entries f ks) k (g k)
  entry_new [] none = refl
  entry_new (x ∷ xs) none =
      let parts = or_parts (k == x) (list_any (nat_eq k) xs) none in
      rw (others x parts.0, entry_new xs parts.1, parts.0) refl

  there_by : (x : ℕ) (xs : List ℕ) → AllByRecursion (λ y. (x == y) ≡ false) xs → (b : Bool) → (k == x) ≡ b → (b || list_any (nat_eq k) xs) ≡ true
      → (list_any (nat_eq k) xs ≡ true → entries g xs ≡ insert_entry nat_eq (entries f xs) k (g k))
      → (x, g x) ∷ entries g xs ≡ (if b then (x, g k) ∷ entries f xs else (x, f x) ∷ insert_entry nat_eq (entries f xs) k (g k))
  there_by x xs apart true same there rest =
      let is : k ≡ x = eqb-true k x same in
      let others_same = entries_same xs (subst (λ (n : ℕ). AllByRecursion (λ y. (n == y) ≡ false) xs) (sym is) apart) in
      ap (λ (es : List (ℕ × LineTally)). (x, g x) ∷ es) others_same ∙ ap (λ (n : ℕ). (x, g n) ∷ entries f xs) (sym is)
  there_by x xs apart false differ there rest =
      ap (λ (es : List (ℕ × LineTally)). (x, g x) ∷ es) (rest there) ∙ ap (λ (t : LineTally). (x, t) ∷ insert_entry nat_eq (entries f xs) k (g k)) (others x differ)

  -- one that is there keeps its place
  entry_there : (ks : List ℕ) → list_any (nat_eq k) ks ≡ true → IsDistinct nat_eq ks → entries g ks ≡ insert_entry nat_eq (entries f ks) k (g k)
  unfolding IsDistinct
  entry_there [] there distinct = absurd (false≢true there)
  entry_there (x ∷ xs) there distinct = there_by x xs distinct.0 (k == x) refl there (λ more. entry_there xs more distinct.1)

-- what is counted on the lines of some operations
abbrev pub on_lines_of : List Op → List (ℕ × LineTally)
on_lines_of ops = entries (λ line. tally_of line ops) (lines_named ops)

named_more : (ops : List Op) (op : Op) → lines_named (ops ++ op ∷ []) ≡ insert_key nat_eq (lines_named ops) (line_of op)
named_more ops op = ap (fold (insert_key nat_eq) []) (map-append line_of ops (op ∷ [])) ∙ fold-append (insert_key nat_eq) [] (map line_of ops) (line_of op ∷ [])

-- an operation more
pub op_counted : (ops : List Op) (op : Op) → on_lines_of (ops ++ op ∷ []) ≡ and_op (on_lines_of ops) op
op_counted ops op = ap (entries after) (named_more ops op) ∙ by (list_any (nat_eq k) ks) refl
  where
    k : ℕ
    k = line_of op

    ks : List ℕ
    ks = lines_named ops

    before : ℕ → LineTally
    before line = tally_of line ops

    after : ℕ → LineTally
    after line = tally_of line (ops ++ op ∷ [])

    own : after k ≡ with_op op (before k)
    own = tally_own ops op k (eq-eqb k k refl)

    by : (b : Bool) → list_any (nat_eq k) ks ≡ b → entries after (if b then ks else ks ++ k ∷ []) ≡ and_op (entries before ks) op
    by true there =
        entry_there before after k (tally_other ops op) ks there (named_once ops)
        ∙ ap (λ (t : LineTally). insert_entry nat_eq (entries before ks) k t) (own ∙ ap (λ (o : Option LineTally). with_op op (option_map_or (λ t. t) o none_counted)) (sym (lookup_there before k ks there)))
    by false none =
        entry_new before after k (tally_other ops op) ks none
        ∙ ap (λ (t : LineTally). insert_entry nat_eq (entries before ks) k t)
        (own ∙ ap (with_op op) (tally_none k ops none) ∙ ap (λ (o : Option LineTally). with_op op (option_map_or (λ t. t) o none_counted)) (sym (lookup_new before k ks none)))

-- the operations of a cause more, one at most
pub cause_counted : (lines : ℕ) (ops : List Op) (cause : Cause) → on_lines_of (ops ++ (begun_by lines cause ++ [])) ≡ fold and_op (on_lines_of ops) (begun_by lines cause)
cause_counted lines ops (Cause.Op stream index op) = by (nat_lt (line_of op) lines)
  where
    by : (b : Bool) → on_lines_of (ops ++ ((if b then op ∷ [] else []) ++ [])) ≡ fold and_op (on_lines_of ops) (if b then op ∷ [] else [])
    by true = op_counted ops op
    by false = ap on_lines_of (append-nil ops)
cause_counted lines ops (Cause.Take host message) = ap on_lines_of (append-nil ops)
cause_counted lines ops (Cause.Act act) = ap on_lines_of (append-nil ops)

abbrev counts_made : ℕ → List (ℕ × LineTally) → ℕ → ℕ → Counts
counts_made lines on_lines events commits = record { lines = lines; on_lines = on_lines; events = events; commits = commits }

same_counts : (lines : ℕ) (es fs : List (ℕ × LineTally)) (a b c d : ℕ) → es ≡ fs → a ≡ b → c ≡ d → counts_made lines es a c ≡ counts_made lines fs b d
same_counts lines es fs a b c d p q r = ap (λ es. counts_made lines es a c) p ∙ ap (λ n. counts_made lines fs n c) q ∙ ap (λ n. counts_made lines fs b n) r

commit_by : (b : Bool) (n : ℕ) → n + (0 + cond b 1 0) ≡ n + (if b then 1 else 0)
commit_by true n = refl
commit_by false n = refl

commits_more : (events : List Event) (e : Event) → count_by (λ e. is_some e.commit) (events ++ e ∷ []) ≡ count_by (λ e. is_some e.commit) events + (if is_some e.commit then 1 else 0)
commits_more events e =
    let first : count_by (λ e. is_some e.commit) (events ++ e ∷ []) ≡ count_by (λ e. is_some e.commit) events + (0 + cond (is_some e.commit) 1 0) = sum_by-append (λ e. cond (is_some e.commit) 1 0) events (e ∷ []) in
    first ∙ commit_by (is_some e.commit) (count_by (λ e. is_some e.commit) events)

-- an event more
pub event_counted : (lines : ℕ) (events : List Event) (e : Event) → and_event (counts_of lines events) e.cause (is_some e.commit) ≡ counts_of lines (events ++ e ∷ [])
event_counted lines events e =
    sym (same_counts lines _ _ _ _ _ _
    (ap on_lines_of (flat_map-append (λ e. begun_by lines e.cause) events (e ∷ [])) ∙ cause_counted lines (begun_ops lines events) e.cause)
    (length-append events (e ∷ [])) (commits_more events e))
