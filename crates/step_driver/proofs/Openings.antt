-- How many lines an opening has, and how many streams have names.
use Rattle.std.proofs.Common.{IsTrue, List, [], ◌∷◌, arith, length, ℕ, ◌+◌, ◌^◌, ◌≤◌, nat_lt, nat_le}
use Rattle.std.proofs.lemmas.Bool.{and_parts, leb-true, ltb-true}
use Rattle.cxl_message.specs.declared.identifiers.Bytes64.{Bytes64}
use Rattle.cxl_message.specs.declared.identifiers.Line.{Line}
use Rattle.cxl_message.specs.Script.{ScriptValue}
use Rattle.cxl_message.specs.Names.{names_ascend_from, names_fit}
use Rattle.cxl_message.specs.Opening.{ascends_from, opening_fits}
use Rattle.script_text.specs.Script.{IsScript}
use Rattle.trace_stream.specs.Writing.{begin_cost_in}

-- an opening has at most as many lines as there are
pub few_lines : (least n : ℕ) (pairs : List (Line × Bytes64)) → least ≤ n → IsTrue (ascends_from least pairs) → IsTrue (opening_fits n pairs) → length pairs + least ≤ n
few_lines least n [] le up fits = omega (arith, le)
few_lines least n (p ∷ ps) le up fits =
    let rises = and_parts (nat_le least p.0.0) (ascends_from (p.0.0 + 1) ps) up in
    let lows = and_parts (nat_lt p.0.0 n) (opening_fits n ps) fits in
    let low = ltb-true p.0.0 n lows.0 in
    let high = leb-true least p.0.0 rises.0 in
    let rest = few_lines (p.0.0 + 1) n ps (omega (arith, low)) rises.1 lows.1 in
    omega (arith, rest, high)

-- at most as many streams have names as there are
pub few_names : (least n : ℕ) (names : List (ℕ × List ℕ)) → least ≤ n → IsTrue (names_ascend_from least names) → IsTrue (names_fit n names) → length names + least ≤ n
few_names least n [] le up fits = omega (arith, le)
few_names least n (p ∷ ps) le up fits =
    let rises = and_parts (nat_le least p.0) (names_ascend_from (p.0 + 1) ps) up in
    let lows = and_parts (nat_lt p.0 n) (names_fit n ps) fits in
    let low = ltb-true p.0 n lows.0 in
    let high = leb-true least p.0 rises.0 in
    let rest = few_names (p.0 + 1) n ps (omega (arith, low)) rises.1 lows.1 in
    omega (arith, rest, high)

-- so what comes before the first event of a script's trace costs little
pub begin_cost_of : (script : ScriptValue) → IsScript script → begin_cost_in script.names script.opening ≤ 2 ^ 24
begin_cost_of script is =
    let lines = few_lines 0 script.setup.lines script.opening (omega arith) is.opening.ascending is.opening_lines in
    let few = is.setup.lines.1 in
    let names = few_names 0 (length script.setup.streams) script.names (omega arith) is.names.ascending is.named in
    let streams = is.setup.streams in
    omega (arith, lines, few, names, streams)
