-- A text and the script that it spells: at most one, found line by line.
use Rattle.std.proofs.Common.{◌≡◌, ℕ, ◌+◌, ◌^◌, ◌<◌, ◌≤◌, true, IsTrue, List, [], ◌∷◌, ◌++◌, map, Option, Some, None, refl, sym, ap, ◌∙◌, append_assoc, arith}
use Rattle.std.specs.Prelude.{nat_lt, nat_le}
use Rattle.std.specs.List.{list_all, flat_map}
use Rattle.std.proofs.lemmas.Bool.{and_parts, ltb-true, leb-true}
use Rattle.std.proofs.lemmas.Option.{same_Some, none-some}
use Rattle.cxl_message.specs.declared.identifiers.Line.{Line}
use Rattle.cxl_message.specs.declared.identifiers.Bytes64.{Bytes64}
use Rattle.cxl_message.specs.declared.events.Op.{Op}
use Rattle.cxl_message.specs.Names.{is_name, name_of}
use Rattle.cxl_message.specs.Script.{ScriptValue}
use Rattle.script_text.specs.declared.lines.ScriptLine.{ScriptLine}
use Rattle.script_text.specs.Spelling.{open_line, op_line, stream_line, stream_lines, body_lines, line_bytes}
use Rattle.script_text.specs.Script.{IsSpelled, are_line_bytes, op_fits, IsScript}
use Rattle.script_text.specs.Lines.{first_line}
use Rattle.script_text.specs.Words.{parts_at}
use Rattle.script_text.proofs.LineLaws.{first_again}
use Rattle.script_text.proofs.NameLaws.{IsNameIfAny, name_spelled}

-- ---- the lines of a script have a spelling

abbrev pub AreSpelled : List ScriptLine → Type 0
AreSpelled [] = Unit {0}
AreSpelled (l ∷ ls) = IsSpelled l × AreSpelled ls

both_spelled : (xs ys : List ScriptLine) → AreSpelled xs → AreSpelled ys → AreSpelled (xs ++ ys)
both_spelled [] ys p q = q
both_spelled (x ∷ xs) ys p q = (p.0, both_spelled xs ys p.1 q)

opens_spelled : (lines : ℕ) (pairs : List (Line × Bytes64)) → lines ≤ 65536 → list_all (λ p. nat_lt p.0.0 lines) pairs ≡ true → list_all (λ p. are_line_bytes p.1) pairs ≡ true → AreSpelled (map open_line pairs)
opens_spelled lines [] most fits are = tt
opens_spelled lines (p ∷ pairs) most fits are =
    let below = ltb-true p.0.0 lines (and_parts _ _ fits).0 in
    let small : p.0.0 < 10 ^ 10 = omega arith in
    ((small, (and_parts _ _ are).0), opens_spelled lines pairs most (and_parts _ _ fits).1 (and_parts _ _ are).1)

op_spelled : (lines : ℕ) (op : Op) → lines ≤ 65536 → op_fits lines op ≡ true → IsSpelled (op_line op)
op_spelled lines (Op.Load line) most fits = let below = ltb-true line.0 lines fits in omega arith
op_spelled lines (Op.Word line place value) most fits =
    let one = and_parts _ _ fits in
    let two = and_parts _ _ one.0 in
    let below = ltb-true line.0 lines two.0 in
    let within = ltb-true place 8 two.1 in
    (omega arith, omega arith, ltb-true value (2 ^ 64) one.1)
op_spelled lines (Op.Whole line bytes) most fits = let one = and_parts _ _ fits in let below = ltb-true line.0 lines one.0 in (omega arith, one.1)

ops_spelled : (lines : ℕ) (ops : List Op) → lines ≤ 65536 → list_all (op_fits lines) ops ≡ true → AreSpelled (map op_line ops)
ops_spelled lines [] most fits = tt
ops_spelled lines (op ∷ ops) most fits = (op_spelled lines op most (and_parts _ _ fits).0, ops_spelled lines ops most (and_parts _ _ fits).1)

stream_spelled : (host : ℕ) (name : Option (List ℕ)) → host < 10 ^ 10 → IsNameIfAny name → IsSpelled (stream_line host name)
stream_spelled host None below is = below
stream_spelled host (Some name) below is = (below, is)

streams_spelled : (names : List (ℕ × List ℕ)) (k hosts_limit lines : ℕ) (hosts : List ℕ) (streams : List (List Op)) → IsTrue (list_all (λ p. is_name p.1) names) → hosts_limit ≤ 16 → lines ≤ 65536 → list_all (λ h. nat_lt h hosts_limit) hosts ≡ true → list_all (list_all (op_fits lines)) streams ≡ true → AreSpelled (stream_lines names k hosts streams)
streams_spelled names k hosts_limit lines [] streams spelled few most exist fits = tt
streams_spelled names k hosts_limit lines (host ∷ hosts) [] spelled few most exist fits = tt
streams_spelled names k hosts_limit lines (host ∷ hosts) (ops ∷ streams) spelled few most exist fits =
    let below = ltb-true host hosts_limit (and_parts _ _ exist).0 in
    let small : host < 10 ^ 10 = omega arith in
    let rest = streams_spelled names (k + 1) hosts_limit lines hosts streams spelled few most (and_parts _ _ exist).1 (and_parts _ _ fits).1 in
    (stream_spelled host (name_of names k) small (name_spelled k names spelled), both_spelled (map op_line ops) (stream_lines names (k + 1) hosts streams) (ops_spelled lines ops most (and_parts _ _ fits).0) rest)

picks_spelled : (picks : List ℕ) → list_all (λ pick. nat_le pick 65535) picks ≡ true → AreSpelled (map (λ pick. ScriptLine.Pick pick) picks)
picks_spelled [] small = tt
picks_spelled (pick ∷ picks) small = let below = leb-true pick 65535 (and_parts _ _ small).0 in (omega arith, picks_spelled picks (and_parts _ _ small).1)

pub lines_spelled : (s : ScriptValue) → IsScript s → AreSpelled (body_lines s)
lines_spelled s h =
    let streams = stream_lines s.names 0 s.setup.streams s.operations in
    let picks = map (λ pick. ScriptLine.Pick pick) s.picks in
    both_spelled (map open_line s.opening ++ streams) picks
    (both_spelled (map open_line s.opening) streams (opens_spelled s.setup.lines s.opening h.setup.lines.1 h.opening_lines h.opening_bytes)
    (streams_spelled s.names 0 s.setup.hosts s.setup.lines s.setup.streams s.operations h.names.spelled h.setup.hosts.1 h.setup.lines.1 h.setup.stream_hosts h.operations)) (picks_spelled s.picks h.picks)

-- ---- the lines of a text

abbrev pub text_of : List ScriptLine → List ℕ
text_of lines = flat_map line_bytes lines

pub nothing_first : first_line [] ≡ None
unfolding first_line parts_at
nothing_first = refl

-- lines and a rest that spell other lines are the first of them
pub lines_cancel : (xs ys : List ScriptLine) (rest : List ℕ) → AreSpelled xs → AreSpelled ys → text_of xs ++ rest ≡ text_of ys → (more : List ScriptLine) × (ys ≡ xs ++ more) × (rest ≡ text_of more) × AreSpelled more
lines_cancel [] ys rest p q e = (ys, refl, e, q)
lines_cancel (x ∷ xs) [] rest p q e =
    let first = first_again x (text_of xs ++ rest) p.0 in
    let split = append_assoc (line_bytes x) (text_of xs) rest in
    absurd (none-some _ (sym nothing_first ∙ ap first_line (sym e ∙ split) ∙ first))
lines_cancel (x ∷ xs) (y ∷ ys) rest p q e =
    let left = first_again x (text_of xs ++ rest) p.0 in
    let right = first_again y (text_of ys) q.0 in
    let split = append_assoc (line_bytes x) (text_of xs) rest in
    let same : (x, text_of xs ++ rest) ≡ (y, text_of ys) = same_Some _ _ (sym left ∙ ap first_line (sym split ∙ e) ∙ right) in
    let heads : x ≡ y = ap (λ (z : ScriptLine × List ℕ). z.0) same in
    let tails : text_of xs ++ rest ≡ text_of ys = ap (λ (z : ScriptLine × List ℕ). z.1) same in
    let more = lines_cancel xs ys rest p.1 q.1 tails in
    (more.0, ap (λ (z : ScriptLine). z ∷ ys) (sym heads) ∙ ap (λ (zs : List ScriptLine). x ∷ zs) more.1, more.2, more.3)
