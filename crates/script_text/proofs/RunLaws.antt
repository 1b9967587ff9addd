-- A script's lines, added one after the other to its first seven, make the script.
use Rattle.std.proofs.Common.{◌≡◌, ℕ, suc, ◌+◌, ◌-◌, ◌<◌, ◌≤◌, Bool, true, false, IsTrue, cond, List, [], ◌∷◌, ◌++◌, length, map, Option, Some, None, refl, sym, ap, subst, ◌∙◌, append_assoc, arith}
use Rattle.std.specs.Prelude.{◌==◌, ◌&&◌, not, nat_lt, nat_le, slice_get}
use Rattle.std.specs.List.{list_all}
use Rattle.std.specs.Option.{option_and_then, option_map_or}
use Rattle.std.proofs.lemmas.Bool.{and_parts, and_from, lt-ltb, leb-true, ne_eqb, not_from_false, cond-true}
use Rattle.std.proofs.lemmas.List.{append-nil, length_push}
use Rattle.std.proofs.lemmas.List.Folds.{list_all-append}
use Rattle.std.proofs.lemmas.List.Sums.{sum_by_push, sum_by-cons}
use Rattle.cxl_message.specs.declared.identifiers.Line.{Line}
use Rattle.cxl_message.specs.declared.identifiers.Bytes64.{Bytes64}
use Rattle.cxl_message.specs.declared.events.Op.{Op}
use Rattle.cxl_message.specs.Codes.{bytes_eq}
use Rattle.cxl_message.specs.Names.{name_of, names_ascend_from, names_fit}
use Rattle.cxl_message.specs.Opening.{IsOpening, ascends_from, is_after_last, opening_fits, zero_bytes}
use Rattle.cxl_message.specs.Script.{ScriptValue}
use Rattle.cxl_message.specs.Setup.{Configuration}
use Rattle.script_text.specs.declared.lines.ScriptLine.{ScriptLine}
use Rattle.script_text.specs.declared.refusals.ScriptReason.{ScriptReason}
use Rattle.script_text.specs.Spelling.{open_line, op_line, stream_line, stream_lines, body_lines}
use Rattle.script_text.specs.Script.{op_fits, operation_count, IsScript}
use Rattle.script_text.specs.Refusals.{takes_operations, stream_refusal, line_refusal, with_op, with_line}
use Rattle.script_text.proofs.NameLaws.{Next, nameless, named, next_name, named_here, named_later, none_left}

-- the script with a line more, where nothing refuses it
abbrev pub unless_refused : Option ScriptReason → ScriptValue → Option ScriptValue
unless_refused None s = Some s
unless_refused (Some reason) s = None

abbrev pub step : ScriptValue → ScriptLine → Option ScriptValue
step s l = unless_refused (line_refusal s l) (with_line s l)

-- the script with these lines more
abbrev pub run : ScriptValue → List ScriptLine → Option ScriptValue
run s [] = Some s
run s (l ∷ ls) = option_and_then (λ t. run t ls) (step s l)

each : {A B : Type 0} (o : Option A) (f g : A → Option B) → ((x : A) → f x ≡ g x) → option_and_then f o ≡ option_and_then g o
each (Some x) f g h = h x
each None f g h = refl

then_then : {A B C : Type 0} (o : Option A) (f : A → Option B) (g : B → Option C) → option_and_then (λ x. option_and_then g (f x)) o ≡ option_and_then g (option_and_then f o)
then_then (Some x) f g = refl
then_then None f g = refl

pub run-append : (s : ScriptValue) (xs ys : List ScriptLine) → run s (xs ++ ys) ≡ option_and_then (λ t. run t ys) (run s xs)
run-append s [] ys = refl
run-append s (l ∷ xs) ys = each (step s l) (λ t. run t (xs ++ ys)) _ (λ t. run-append t xs ys) ∙ then_then (step s l) (λ t. run t xs) (λ t. run t ys)

-- one line that isn't refused
run_step : (s t : ScriptValue) (l : ScriptLine) (ls : List ScriptLine) → line_refusal s l ≡ None → with_line s l ≡ t → run s (l ∷ ls) ≡ run t ls
run_step s t l ls e same = ap (λ (o : Option ScriptReason). option_and_then (λ x. run x ls) (unless_refused o (with_line s l))) e ∙ ap (λ (x : ScriptValue). run x ls) same

-- a script of these parts
abbrev pub whole : Configuration → ℕ → List (Line × Bytes64) → List (ℕ × List ℕ) → List ℕ → List (List Op) → List ℕ → ScriptValue
whole c room opening names hosts operations picks = record { setup = record c { streams = hosts }; names = names; room = room; opening = opening; operations = operations; picks = picks }

-- ---- openings

after_last : (least : ℕ) (before more : List (Line × Bytes64)) (p : Line × Bytes64) → IsTrue (ascends_from least (before ++ p ∷ more)) → is_after_last before p.0.0 ≡ true
after_last least [] more p h = refl
after_last least (q ∷ []) more p h = lt-ltb q.0.0 p.0.0 (let next = leb-true (q.0.0 + 1) p.0.0 (and_parts _ _ (and_parts _ _ h).1).0 in omega arith)
after_last least (q ∷ r ∷ rs) more p h =
    let last : length (q ∷ r ∷ rs) - 1 ≡ suc (length (r ∷ rs) - 1) = omega arith in
    ap (λ i. option_map_or (λ x. nat_lt x.0.0 p.0.0) (slice_get (q ∷ r ∷ rs) i) true) last ∙ after_last (q.0.0 + 1) (r ∷ rs) more p (and_parts _ _ h).1

-- what holds of all holds of the one in the middle
all_middle : {X : Type 0} (p : X → Bool) (before more : List X) (x : X) → list_all p (before ++ x ∷ more) ≡ true → p x ≡ true
all_middle p before more x h = (and_parts _ _ (and_parts _ _ (sym (list_all-append p before (x ∷ more)) ∙ h)).1).0

-- what may stand next
next_if : (b : Bool) (r : ScriptReason) (x : Option ScriptReason) → b ≡ true → x ≡ None → cond (not b) (Some r) x ≡ None
next_if true r x e f = f
next_if false r x e f = absurd cc

run_openings : (c : Configuration) (room : ℕ) (before more : List (Line × Bytes64)) (ls : List ScriptLine) → IsOpening (before ++ more) → IsTrue (opening_fits c.lines (before ++ more))
    → run (whole c room before [] [] [] []) (map open_line more ++ ls) ≡ run (whole c room (before ++ more) [] [] [] []) ls
run_openings c room before [] ls h fits = ap (λ (o : List (Line × Bytes64)). run (whole c room o [] [] [] []) ls) (sym (append-nil before))
run_openings c room before (p ∷ more) ls h fits =
    let regroup : before ++ p ∷ [] ++ more ≡ before ++ p ∷ more = append_assoc before (p ∷ []) more in
    let order = and_from _ _ (after_last 0 before more p h.ascending) (all_middle (λ x. not (bytes_eq x.1 zero_bytes)) before more p h.not_zero) in
    let range = all_middle (λ x. nat_lt x.0.0 c.lines) before more p fits in
    let allowed : line_refusal (whole c room before [] [] [] []) (open_line p) ≡ None = next_if _ ScriptReason.Range _ range (next_if _ ScriptReason.Order None order refl) in
    run_step (whole c room before [] [] [] []) (whole c room (before ++ p ∷ []) [] [] [] []) (open_line p) (map open_line more ++ ls) allowed refl
    ∙ run_openings c room (before ++ p ∷ []) more ls (subst IsOpening (sym regroup) h) (subst (λ (x : List (Line × Bytes64)). IsTrue (opening_fits c.lines x)) (sym regroup) fits)
    ∙ ap (λ (o : List (Line × Bytes64)). run (whole c room o [] [] [] []) ls) regroup

-- ---- operations of a stream

with_op_last : (before : List (List Op)) (ops : List Op) (op : Op) → with_op (before ++ ops ∷ []) op ≡ before ++ (ops ++ op ∷ []) ∷ []
with_op_last [] ops op = refl
with_op_last (first ∷ []) ops op = refl
with_op_last (first ∷ next ∷ more) ops op = ap (λ (x : List (List Op)). first ∷ x) (with_op_last (next ∷ more) ops op)

op_allowed_line : (s : ScriptValue) (op : Op) → takes_operations s ≡ true → op_fits s.setup.lines op ≡ true → operation_count s.operations < 65536 → line_refusal s (op_line op) ≡ None
op_allowed_line s (Op.Load line) takes fits few = next_if _ ScriptReason.Spelling _ takes (next_if _ ScriptReason.Range _ fits (next_if _ ScriptReason.Many None (lt-ltb _ _ few) refl))
op_allowed_line s (Op.Word line place value) takes fits few =
    next_if _ ScriptReason.Spelling _ takes (next_if _ ScriptReason.Range _ (and_parts _ _ fits).0 (next_if _ ScriptReason.Many None (lt-ltb _ _ few) refl))
op_allowed_line s (Op.Whole line bytes) takes fits few = next_if _ ScriptReason.Spelling _ takes (next_if _ ScriptReason.Range _ (and_parts _ _ fits).0 (next_if _ ScriptReason.Many None (lt-ltb _ _ few) refl))

with_op_line : (s : ScriptValue) (op : Op) → with_line s (op_line op) ≡ record s { operations = with_op s.operations op }
with_op_line s (Op.Load line) = refl
with_op_line s (Op.Word line place value) = refl
with_op_line s (Op.Whole line bytes) = refl

has_stream : (hosts : List ℕ) → 0 < length hosts → (not (length hosts == 0) && (length {A = ℕ} [] == 0)) ≡ true
has_stream [] some = absurd (omega arith)
has_stream (host ∷ hosts) some = and_from _ _ (not_from_false _ (ne_eqb (length (host ∷ hosts)) 0 (λ e. omega arith))) refl

run_operations : (c : Configuration) (room : ℕ) (opening : List (Line × Bytes64)) (names : List (ℕ × List ℕ)) (hosts : List ℕ) (before : List (List Op)) (done ops : List Op) (ls : List ScriptLine) → 0 < length hosts
    → list_all (op_fits c.lines) ops ≡ true → operation_count (before ++ done ∷ []) + length ops ≤ 65536
    → run (whole c room opening names hosts (before ++ done ∷ []) []) (map op_line ops ++ ls) ≡ run (whole c room opening names hosts (before ++ (done ++ ops) ∷ []) []) ls
run_operations c room opening names hosts before done [] ls some fits few = ap (λ (x : List Op). run (whole c room opening names hosts (before ++ x ∷ []) []) ls) (sym (append-nil done))
run_operations c room opening names hosts before done (op ∷ ops) ls some fits few =
    let one = and_parts _ _ fits in
    let at : List (List Op) → ScriptValue = λ operations. whole c room opening names hosts operations [] in
    let so_far = sum_by_push length before done in
    let after = sum_by_push length before (done ++ op ∷ []) in
    let below : operation_count (before ++ done ∷ []) < 65536 = omega arith in
    let count : operation_count (before ++ (done ++ op ∷ []) ∷ []) + length ops ≤ 65536 = omega (arith, length_push done op) in
    let allowed = op_allowed_line (at (before ++ done ∷ [])) op (has_stream hosts some) one.0 below in
    let same : with_line (at (before ++ done ∷ [])) (op_line op) ≡ at (before ++ (done ++ op ∷ []) ∷ []) = with_op_line (at (before ++ done ∷ [])) op ∙ ap at (with_op_last before done op) in
    run_step (at (before ++ done ∷ [])) (at (before ++ (done ++ op ∷ []) ∷ [])) (op_line op) (map op_line ops ++ ls) allowed same
    ∙ run_operations c room opening names hosts before (done ++ op ∷ []) ops ls some one.1 count
    ∙ ap (λ (x : List Op). run (at (before ++ x ∷ [])) ls) (append_assoc done (op ∷ []) ops)

-- ---- streams

-- a stream's line was added: the names so far, those that are still to come, and what the lines after it make
record Streamed (c : Configuration) (room : ℕ) (opening : List (Line × Bytes64)) (all front rest : List (ℕ × List ℕ)) (before : List ℕ) (host : ℕ) (done : List (List Op)) (limit : ℕ) (ls : List ScriptLine) : Type 0 where
  so_far : List (ℕ × List ℕ)
  more : List (ℕ × List ℕ)
  names : so_far ++ more ≡ front ++ rest
  ascending : IsTrue (names_ascend_from (length before + 1) more)
  fit : IsTrue (names_fit limit more)
  same : (k : ℕ) → length before + 1 ≤ k → name_of all k ≡ name_of more k
  runs : run (whole c room opening front before done []) (stream_line host (name_of all (length before)) ∷ ls) ≡ run (whole c room opening so_far (before ++ host ∷ []) (done ++ [] ∷ []) []) ls

-- a stream that may stand there
stream_may : (s : ScriptValue) (host : ℕ) → (length s.picks == 0) ≡ true → nat_lt host s.setup.hosts ≡ true → length s.setup.streams < 64 → stream_refusal s host ≡ None
stream_may s host none exists few = next_if _ ScriptReason.Spelling _ none (next_if _ ScriptReason.Range _ exists (next_if _ ScriptReason.Many None (lt-ltb (length s.setup.streams) 64 few) refl))

run_stream : (c : Configuration) (room : ℕ) (opening : List (Line × Bytes64)) (all front rest : List (ℕ × List ℕ)) (before : List ℕ) (host : ℕ) (done : List (List Op)) (limit : ℕ) (ls : List ScriptLine)
    → length before < 64 → nat_lt host c.hosts ≡ true → IsTrue (names_fit limit rest) → ((k : ℕ) → length before ≤ k → name_of all k ≡ name_of rest k) → Next (length before) rest
    → Streamed c room opening all front rest before host done limit ls
run_stream c room opening all front rest before host done limit ls few exists fit same (nameless none later) =
    let at = whole c room opening front before done [] in
    let found : name_of all (length before) ≡ None = same (length before) (omega arith) ∙ none in
    record {
      so_far = front;
      more = rest;
      names = refl;
      ascending = later;
      fit = fit;
      same = λ k from. same k (omega arith);
      runs = ap (λ (o : Option (List ℕ)). run at (stream_line host o ∷ ls)) found
          ∙ run_step at (whole c room opening front (before ++ host ∷ []) (done ++ [] ∷ []) []) (ScriptLine.Stream host) ls (stream_may at host refl exists few) refl;
    }
run_stream c room opening all front rest before host done limit ls few exists fit same (named name more is later) =
    let n = length before in
    let at = whole c room opening front before done [] in
    let found : name_of all n ≡ Some name = same n (omega arith) ∙ named_here n name rest more is in
    let of_more : IsTrue (names_fit limit ((n, name) ∷ more)) = subst (λ (x : List (ℕ × List ℕ)). IsTrue (names_fit limit x)) is fit in
    record {
      so_far = front ++ (n, name) ∷ [];
      more = more;
      names = append_assoc front ((n, name) ∷ []) more ∙ ap (λ (x : List (ℕ × List ℕ)). front ++ x) (sym is);
      ascending = later;
      fit = (and_parts _ _ of_more).1;
      same = λ k from. same k (omega arith) ∙ named_later n k name rest more is (omega arith);
      runs = ap (λ (o : Option (List ℕ)). run at (stream_line host o ∷ ls)) found
          ∙ run_step at (whole c room opening (front ++ (n, name) ∷ []) (before ++ host ∷ []) (done ++ [] ∷ []) []) (ScriptLine.NamedStream host (record { items = name })) ls (stream_may at host refl exists few) refl;
    }

-- the streams' lines, where the names of the streams before them are a front of all names
run_streams : (c : Configuration) (room : ℕ) (opening : List (Line × Bytes64)) (all front rest : List (ℕ × List ℕ)) (before hosts : List ℕ) (done streams : List (List Op)) (ls : List ScriptLine)
    → length streams ≡ length hosts → length before + length hosts ≤ 64 → list_all (λ h. nat_lt h c.hosts) hosts ≡ true → list_all (list_all (op_fits c.lines)) streams ≡ true
    → operation_count done + operation_count streams ≤ 65536 → IsTrue (names_ascend_from (length before) rest) → IsTrue (names_fit (length before + length hosts) rest)
    → ((k : ℕ) → length before ≤ k → name_of all k ≡ name_of rest k)
    → run (whole c room opening front before done []) (stream_lines all (length before) hosts streams ++ ls) ≡ run (whole c room opening (front ++ rest) (before ++ hosts) (done ++ streams) []) ls
run_streams c room opening all front rest before [] done [] ls paired few exist fits count ascending fit same =
    let none : rest ≡ [] = none_left (length before) rest ascending (subst (λ (n : ℕ). IsTrue (names_fit n rest)) (omega arith) fit) in
    ap (λ (x : List (ℕ × List ℕ)). run (whole c room opening x before done []) ls) (sym (append-nil front) ∙ ap (λ (x : List (ℕ × List ℕ)). front ++ x) (sym none))
    ∙ ap (λ (x : List ℕ). run (whole c room opening (front ++ rest) x done []) ls) (sym (append-nil before)) ∙ ap (λ (x : List (List Op)). run (whole c room opening (front ++ rest) (before ++ []) x []) ls) (sym (append-nil done))
run_streams c room opening all front rest before [] done (ops ∷ streams) ls paired few exist fits count ascending fit same = absurd (omega arith)
run_streams c room opening all front rest before (host ∷ hosts) done [] ls paired few exist fits count ascending fit same = absurd (omega arith)
run_streams c room opening all front rest before (host ∷ hosts) done (ops ∷ streams) ls paired few exist fits count ascending fit same =
    let one = and_parts _ _ fits in
    let here = and_parts _ _ exist in
    let longer = length_push before host in
    let total = sum_by-cons length ops streams in
    let empty = sum_by_push {X = List Op} length done [] in
    let filled = sum_by_push length done ops in
    let some : 0 < length (before ++ host ∷ []) = omega arith in
    let first : operation_count (done ++ [] ∷ []) + length ops ≤ 65536 = omega arith in
    let few_more : length (before ++ host ∷ []) + length hosts ≤ 64 = omega arith in
    let count_more : operation_count (done ++ ops ∷ []) + operation_count streams ≤ 65536 = omega arith in
    let paired_more : length streams ≡ length hosts = omega arith in
    let last : length before + length (host ∷ hosts) ≡ length (before ++ host ∷ []) + length hosts = omega arith in
    let lines = stream_lines all (length before + 1) hosts streams in
    let next = run_stream c room opening all front rest before host done (length before + length (host ∷ hosts)) (map op_line ops ++ lines ++ ls) (omega arith) here.0 fit same (next_name (length before) rest ascending) in
    let at : List (ℕ × List ℕ) → List ℕ → List (List Op) → ScriptValue = λ names hs operations. whole c room opening names hs operations [] in
    let numbered : lines ≡ stream_lines all (length (before ++ host ∷ [])) hosts streams = ap (λ (n : ℕ). stream_lines all n hosts streams) (sym longer) in
    next.runs
    ∙ ap (λ (x : List ScriptLine). run (at next.so_far (before ++ host ∷ []) (done ++ [] ∷ [])) x) (append_assoc (map op_line ops) lines ls)
    ∙ run_operations c room opening next.so_far (before ++ host ∷ []) done [] ops (lines ++ ls) some one.0 first
    ∙ ap (λ (x : List ScriptLine). run (at next.so_far (before ++ host ∷ []) (done ++ ops ∷ [])) (x ++ ls)) numbered
    ∙ run_streams c room opening all next.so_far next.more (before ++ host ∷ []) hosts (done ++ ops ∷ []) streams ls paired_more few_more here.1 one.1 count_more
    (subst (λ (n : ℕ). IsTrue (names_ascend_from n next.more)) (sym longer) next.ascending) (subst (λ (n : ℕ). IsTrue (names_fit n next.more)) last next.fit) (λ k from. next.same k (omega arith))
    ∙ ap (λ (x : List (ℕ × List ℕ)). run (at x ((before ++ host ∷ []) ++ hosts) ((done ++ ops ∷ []) ++ streams)) ls) next.names
    ∙ ap (λ (x : List ℕ). run (at (front ++ rest) x ((done ++ ops ∷ []) ++ streams)) ls) (append_assoc before (host ∷ []) hosts)
    ∙ ap (λ (x : List (List Op)). run (at (front ++ rest) (before ++ host ∷ hosts) x) ls) (append_assoc done (ops ∷ []) streams)

-- ---- picks

run_picks : (s : ScriptValue) (before more : List ℕ) → list_all (λ pick. nat_le pick 65535) more ≡ true → run (record s { picks = before }) (map (λ pick. ScriptLine.Pick pick) more) ≡ Some (record s { picks = before ++ more })
run_picks s before [] small = ap (λ (x : List ℕ). Some (record s { picks = x })) (sym (append-nil before))
run_picks s before (pick ∷ more) small =
    let one = and_parts _ _ small in
    let at : List ℕ → ScriptValue = λ picks. record s { picks = picks } in
    run_step (at before) (at (before ++ pick ∷ [])) (ScriptLine.Pick pick) (map (λ p. ScriptLine.Pick p) more) (cond-true (nat_le pick 65535) _ _ one.0) refl
    ∙ run_picks s (before ++ pick ∷ []) more one.1
    ∙ ap (λ (x : List ℕ). Some (at x)) (append_assoc before (pick ∷ []) more)

-- all of them
pub run_all : (s : ScriptValue) → IsScript s → run (whole s.setup s.room [] [] [] [] []) (body_lines s) ≡ Some s
run_all s h =
    let opens = map open_line s.opening in
    let streams = stream_lines s.names 0 s.setup.streams s.operations in
    let picks = map (λ pick. ScriptLine.Pick pick) s.picks in
    let few : 0 + length s.setup.streams ≤ 64 = omega (arith, h.setup.streams) in
    let count : 0 + operation_count s.operations ≤ 65536 = omega (arith, h.operation_count) in
    let fit : IsTrue (names_fit (0 + length s.setup.streams) s.names) = subst (λ (n : ℕ). IsTrue (names_fit n s.names)) (omega arith) h.named in
    ap (λ (x : List ScriptLine). run (whole s.setup s.room [] [] [] [] []) x) (append_assoc opens streams picks)
    ∙ run_openings s.setup s.room [] s.opening (streams ++ picks) h.opening h.opening_lines
    ∙ run_streams s.setup s.room s.opening s.names [] s.names [] s.setup.streams [] s.operations picks h.streams few h.setup.stream_hosts h.operations count h.names.ascending fit (λ k from. refl)
    ∙ run_picks (whole s.setup s.room s.opening s.names s.setup.streams s.operations []) [] s.picks h.picks
