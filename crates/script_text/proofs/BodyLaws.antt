-- What one line more does to a script: it stands after the script's lines, and what it makes is a script.
use Rattle.std.proofs.Common.{◌≡◌, ℕ, suc, ◌+◌, ◌^◌, ◌<◌, ◌≤◌, Bool, true, false, IsTrue, cond, List, [], ◌∷◌, ◌++◌, length, map, Option, Some, None, refl, sym, ap, subst, ◌∙◌, append_assoc, arith}
use Rattle.std.specs.Prelude.{◌==◌, ◌&&◌, not, nat_lt, nat_le}
use Rattle.std.specs.List.{list_all}
use Rattle.std.proofs.lemmas.Bool.{and_parts, and_from, eqb-true, ltb-true, lt-ltb, not-true}
use Rattle.std.proofs.lemmas.List.{append-nil, length_push, map_push}
use Rattle.std.proofs.lemmas.List.Folds.{list_all-append}
use Rattle.std.proofs.lemmas.List.Sums.{sum_by_push}
use Rattle.cxl_message.specs.declared.identifiers.Bytes64.{Bytes64}
use Rattle.cxl_message.specs.declared.events.Op.{Op}
use Rattle.cxl_message.specs.Codes.{bytes_eq}
use Rattle.cxl_message.specs.Names.{AreNames, name_of, names_fit}
use Rattle.cxl_message.specs.Opening.{is_after_last, zero_bytes}
use Rattle.cxl_message.specs.Script.{ScriptValue}
use Rattle.cxl_message.specs.Setup.{IsWithinLimits}
use Rattle.cxl_message.proofs.Ascending.{opening_added}
use Rattle.script_text.specs.declared.lines.ScriptLine.{ScriptLine}
use Rattle.script_text.specs.declared.refusals.ScriptReason.{ScriptReason}
use Rattle.script_text.specs.Spelling.{open_line, op_line, stream_line, stream_lines, body_lines}
use Rattle.script_text.specs.Script.{IsSpelled, are_line_bytes, op_fits, operation_count, IsScript}
use Rattle.script_text.specs.Refusals.{takes_openings, takes_operations, op_refusal, stream_refusal, line_refusal, with_op, with_stream, with_line}
use Rattle.script_text.proofs.NameLaws.{none_yet, named_last, others_named, fit_more, fit_added, are_names_added}
use Rattle.script_text.proofs.Streams.{count-with_op}

-- a test that doesn't refuse
pub passes : (b : Bool) (r : ScriptReason) (x : Option ScriptReason) → cond (not b) (Some r) x ≡ None → (b ≡ true) × (x ≡ None)
passes true r x e = (refl, e)
passes false r x e = absurd cc

-- an operation's line that isn't refused
pub op_allowed : (s : ScriptValue) (fits : Bool) → op_refusal s fits ≡ None → (takes_operations s ≡ true) × (fits ≡ true) × (operation_count s.operations < 65536)
op_allowed s fits e =
    let place = passes (takes_operations s) ScriptReason.Spelling _ e in
    let range = passes fits ScriptReason.Range _ place.1 in
    let many = passes (nat_lt (operation_count s.operations) 65536) ScriptReason.Many None range.1 in
    (place.0, range.0, ltb-true _ _ many.0)

-- ---- its lines

-- a line after the streams' lines
after_streams : (opens before now : List ScriptLine) (picks : List ℕ) (line : ScriptLine) → (length picks == 0) ≡ true → now ≡ before ++ line ∷ []
    → opens ++ now ++ map (λ pick. ScriptLine.Pick pick) picks ≡ (opens ++ before ++ map (λ pick. ScriptLine.Pick pick) picks) ++ line ∷ []
after_streams opens before now [] line none e =
    append-nil (opens ++ now) ∙ ap (λ (x : List ScriptLine). opens ++ x) e ∙ sym (append_assoc opens before (line ∷ [])) ∙ ap (λ (x : List ScriptLine). x ++ line ∷ []) (sym (append-nil (opens ++ before)))
after_streams opens before now (pick ∷ picks) line none e = absurd (let bad : suc (length picks) ≡ 0 = eqb-true _ _ none in omega arith)

-- a line after the openings
after_opens : (before now : List ScriptLine) (names : List (ℕ × List ℕ)) (hosts : List ℕ) (streams : List (List Op)) (picks : List ℕ) (line : ScriptLine) → (length hosts == 0) ≡ true → (length picks == 0) ≡ true → now ≡ before ++ line ∷ []
    → now ++ stream_lines names 0 hosts streams ++ map (λ pick. ScriptLine.Pick pick) picks ≡ (before ++ stream_lines names 0 hosts streams ++ map (λ pick. ScriptLine.Pick pick) picks) ++ line ∷ []
after_opens before now names [] streams [] line none no_pick e =
    append-nil (now ++ []) ∙ append-nil now ∙ e ∙ ap (λ (x : List ScriptLine). x ++ line ∷ []) (sym (append-nil (before ++ []) ∙ append-nil before))
after_opens before now names [] streams (pick ∷ picks) line none no_pick e = absurd (let bad : suc (length picks) ≡ 0 = eqb-true _ _ no_pick in omega arith)
after_opens before now names (host ∷ hosts) streams picks line none no_pick e = absurd (let bad : suc (length hosts) ≡ 0 = eqb-true _ _ none in omega arith)

-- an operation after a stream's lines
pub lines-with_op : (names : List (ℕ × List ℕ)) (k : ℕ) (hosts : List ℕ) (streams : List (List Op)) (op : Op) → length streams ≡ length hosts → 0 < length hosts
    → stream_lines names k hosts (with_op streams op) ≡ stream_lines names k hosts streams ++ op_line op ∷ []
lines-with_op names k [] streams op e some = absurd (omega arith)
lines-with_op names k (host ∷ hosts) [] op e some = absurd (omega arith)
lines-with_op names k (host ∷ []) (ops ∷ []) op e some =
    ap (λ (x : List ScriptLine). stream_line host (name_of names k) ∷ x) (append-nil (map op_line (ops ++ op ∷ [])) ∙ map_push op_line ops op ∙ ap (λ (x : List ScriptLine). x ++ op_line op ∷ []) (sym (append-nil (map op_line ops))))
lines-with_op names k (host ∷ []) (ops ∷ next ∷ more) op e some = absurd (omega arith)
lines-with_op names k (host ∷ second ∷ hosts) (ops ∷ []) op e some = absurd (omega arith)
lines-with_op names k (host ∷ second ∷ hosts) (ops ∷ next ∷ more) op e some =
    let rest = lines-with_op names (k + 1) (second ∷ hosts) (next ∷ more) op (omega arith) (omega arith) in
    ap (λ (x : List ScriptLine). stream_line host (name_of names k) ∷ x) (ap (λ (x : List ScriptLine). map op_line ops ++ x) rest ∙ sym (append_assoc (map op_line ops) (stream_lines names (k + 1) (second ∷ hosts) (next ∷ more)) (op_line op ∷ [])))

-- a stream after the streams' lines
lines-with_stream : (names : List (ℕ × List ℕ)) (k n : ℕ) (hosts : List ℕ) (streams : List (List Op)) (host : ℕ) → length streams ≡ length hosts → k + length hosts ≡ n
    → stream_lines names k (hosts ++ host ∷ []) (streams ++ [] ∷ []) ≡ stream_lines names k hosts streams ++ stream_line host (name_of names n) ∷ []
lines-with_stream names k n [] [] host e place = ap (λ (i : ℕ). stream_line host (name_of names i) ∷ []) (omega arith)
lines-with_stream names k n [] (ops ∷ streams) host e place = absurd (omega arith)
lines-with_stream names k n (first ∷ hosts) [] host e place = absurd (omega arith)
lines-with_stream names k n (first ∷ hosts) (ops ∷ streams) host e place =
    let rest = lines-with_stream names (k + 1) n hosts streams host (omega arith) (omega arith) in
    ap (λ (x : List ScriptLine). stream_line first (name_of names k) ∷ x)
    (ap (λ (x : List ScriptLine). map op_line ops ++ x) rest ∙ sym (append_assoc (map op_line ops) (stream_lines names (k + 1) hosts streams) (stream_line host (name_of names n) ∷ [])))

-- the lines of streams are the same where each of them has the same name
lines_renamed : (names new : List (ℕ × List ℕ)) (k : ℕ) (hosts : List ℕ) (streams : List (List Op)) → ((n : ℕ) → n < k + length hosts → name_of new n ≡ name_of names n) → stream_lines new k hosts streams ≡ stream_lines names k hosts streams
lines_renamed names new k [] streams same = refl
lines_renamed names new k (host ∷ hosts) [] same = refl
lines_renamed names new k (host ∷ hosts) (ops ∷ streams) same =
    let rest = lines_renamed names new (k + 1) hosts streams (λ n below. same n (omega arith)) in
    ap (λ (o : Option (List ℕ)). stream_line host o ∷ map op_line ops ++ stream_lines new (k + 1) hosts streams) (same k (omega arith))
    ∙ ap (λ (x : List ScriptLine). stream_line host (name_of names k) ∷ map op_line ops ++ x) rest

-- a stream without a name after the streams' lines
pub lines-with_nameless : (names : List (ℕ × List ℕ)) (hosts : List ℕ) (streams : List (List Op)) (host : ℕ) → length streams ≡ length hosts → IsTrue (names_fit (length hosts) names)
    → stream_lines names 0 (hosts ++ host ∷ []) (streams ++ [] ∷ []) ≡ stream_lines names 0 hosts streams ++ ScriptLine.Stream host ∷ []
lines-with_nameless names hosts streams host e fit =
    lines-with_stream names 0 (length hosts) hosts streams host e (omega arith) ∙ ap (λ (o : Option (List ℕ)). stream_lines names 0 hosts streams ++ stream_line host o ∷ []) (none_yet (length hosts) names fit)

-- a stream with a name after the streams' lines
pub lines-with_named : (names : List (ℕ × List ℕ)) (hosts : List ℕ) (streams : List (List Op)) (host : ℕ) (name : List ℕ) → length streams ≡ length hosts → IsTrue (names_fit (length hosts) names)
    → stream_lines (names ++ (length hosts, name) ∷ []) 0 (hosts ++ host ∷ []) (streams ++ [] ∷ []) ≡ stream_lines names 0 hosts streams ++ ScriptLine.NamedStream host (record { items = name }) ∷ []
lines-with_named names hosts streams host name e fit =
    let new = names ++ (length hosts, name) ∷ [] in
    lines-with_stream new 0 (length hosts) hosts streams host e (omega arith) ∙ ap (λ (o : Option (List ℕ)). stream_lines new 0 hosts streams ++ stream_line host o ∷ []) (named_last (length hosts) name names fit)
    ∙ ap (λ (x : List ScriptLine). x ++ ScriptLine.NamedStream host (record { items = name }) ∷ []) (lines_renamed names new 0 hosts streams (λ n below. let small : n < length hosts = omega arith in others_named (length hosts) n name names small))

-- what takes operations has a stream, and no pick
some_stream : (s : ScriptValue) → takes_operations s ≡ true → (0 < length s.setup.streams) × ((length s.picks == 0) ≡ true)
some_stream s e = let parts = and_parts _ _ e in (has_some s.setup.streams (not-true _ parts.0), parts.1)
  where
    has_some : (xs : List ℕ) → (length xs == 0) ≡ false → 0 < length xs
    has_some [] none = absurd cc
    has_some (x ∷ xs) none = omega arith

lines_op : (s : ScriptValue) (op : Op) → length s.operations ≡ length s.setup.streams → takes_operations s ≡ true → body_lines (record s { operations = with_op s.operations op }) ≡ body_lines s ++ op_line op ∷ []
lines_op s op paired takes =
    let some = some_stream s takes in
    after_streams (map open_line s.opening) (stream_lines s.names 0 s.setup.streams s.operations) _ s.picks (op_line op) some.1 (lines-with_op s.names 0 s.setup.streams s.operations op paired some.0)

-- a stream's line that isn't refused
pub stream_allowed : (s : ScriptValue) (host : ℕ) → stream_refusal s host ≡ None → ((length s.picks == 0) ≡ true) × (nat_lt host s.setup.hosts ≡ true) × (length s.setup.streams < 64)
stream_allowed s host e =
    let place = passes (length s.picks == 0) ScriptReason.Spelling _ e in
    let range = passes (nat_lt host s.setup.hosts) ScriptReason.Range _ place.1 in
    let many = passes (nat_lt (length s.setup.streams) 64) ScriptReason.Many None range.1 in
    (place.0, range.0, ltb-true _ _ many.0)

pub lines-with_line : (s : ScriptValue) (l : ScriptLine) → IsScript s → line_refusal s l ≡ None → body_lines (with_line s l) ≡ body_lines s ++ l ∷ []
lines-with_line s (ScriptLine.Open line bytes) h e =
    let place = passes (takes_openings s) ScriptReason.Spelling _ e in
    let none = and_parts _ _ place.0 in
    after_opens (map open_line s.opening) _ s.names s.setup.streams s.operations s.picks (ScriptLine.Open line bytes) none.0 none.1 (map_push open_line s.opening (record { 0 = line }, bytes))
lines-with_line s (ScriptLine.Stream host) h e =
    after_streams (map open_line s.opening) (stream_lines s.names 0 s.setup.streams s.operations) _ s.picks (ScriptLine.Stream host) (stream_allowed s host e).0
    (lines-with_nameless s.names s.setup.streams s.operations host h.streams h.named)
lines-with_line s (ScriptLine.NamedStream host name) h e =
    after_streams (map open_line s.opening) (stream_lines s.names 0 s.setup.streams s.operations) _ s.picks (ScriptLine.NamedStream host name) (stream_allowed s host e).0
    (lines-with_named s.names s.setup.streams s.operations host name.items h.streams h.named)
lines-with_line s (ScriptLine.Load line) h e = lines_op s (Op.Load (record { 0 = line })) h.streams (op_allowed s _ e).0
lines-with_line s (ScriptLine.Word line place value) h e = lines_op s (Op.Word (record { 0 = line }) place value) h.streams (op_allowed s _ e).0
lines-with_line s (ScriptLine.Whole line bytes) h e = lines_op s (Op.Whole (record { 0 = line }) bytes) h.streams (op_allowed s _ e).0
lines-with_line s (ScriptLine.Pick pick) h e =
    let front = map open_line s.opening ++ stream_lines s.names 0 s.setup.streams s.operations in
    ap (λ (x : List ScriptLine). front ++ x) (map_push (λ p. ScriptLine.Pick p) s.picks pick) ∙ sym (append_assoc front (map (λ p. ScriptLine.Pick p) s.picks) (ScriptLine.Pick pick ∷ []))

-- ---- it is a script

-- one more that passes
all_push : {X : Type 0} (p : X → Bool) (xs : List X) (x : X) → list_all p xs ≡ true → p x ≡ true → list_all p (xs ++ x ∷ []) ≡ true
all_push p xs x all one = list_all-append p xs (x ∷ []) ∙ and_from _ _ all (and_from _ _ one refl)

length-with_op : (streams : List (List Op)) (op : Op) → length (with_op streams op) ≡ length streams
length-with_op [] op = refl
length-with_op (ops ∷ []) op = refl
length-with_op (ops ∷ next ∷ more) op = omega (arith, length-with_op (next ∷ more) op)

all-with_op : (p : Op → Bool) (streams : List (List Op)) (op : Op) → list_all (list_all p) streams ≡ true → p op ≡ true → list_all (list_all p) (with_op streams op) ≡ true
all-with_op p [] op all one = refl
all-with_op p (ops ∷ []) op all one = and_from _ _ (all_push p ops op (and_parts _ _ all).0 one) refl
all-with_op p (ops ∷ next ∷ more) op all one = let parts = and_parts _ _ all in and_from _ _ parts.0 (all-with_op p (next ∷ more) op parts.1 one)

opened : (s : ScriptValue) (line : ℕ) (bytes : Bytes64) → IsScript s → IsTrue (are_line_bytes bytes) → line_refusal s (ScriptLine.Open line bytes) ≡ None → IsScript (with_line s (ScriptLine.Open line bytes))
opened s line bytes h are e =
    let place = passes (takes_openings s) ScriptReason.Spelling _ e in
    let range = passes (nat_lt line s.setup.lines) ScriptReason.Range _ place.1 in
    let order = passes (is_after_last s.opening line && not (bytes_eq bytes zero_bytes)) ScriptReason.Order None range.1 in
    let parts = and_parts _ _ order.0 in
    record {
      setup = h.setup;
      names = h.names;
      named = h.named;
      room = h.room;
      opening = opening_added s.opening (record { 0 = line }) bytes h.opening parts.0 (not-true _ parts.1);
      opening_lines = all_push _ s.opening (record { 0 = line }, bytes) h.opening_lines range.0;
      opening_bytes = all_push _ s.opening (record { 0 = line }, bytes) h.opening_bytes are;
      streams = h.streams;
      operations = h.operations;
      operation_count = h.operation_count;
      picks = h.picks;
    }

with_stream_within : (s : ScriptValue) (host : ℕ) → IsScript s → nat_lt host s.setup.hosts ≡ true → length s.setup.streams < 64 → IsWithinLimits (record s.setup { streams = s.setup.streams ++ host ∷ [] })
with_stream_within s host h range few =
    let small : length (s.setup.streams ++ host ∷ []) ≤ 64 = omega (arith, length_push s.setup.streams host) in
    record {
      hosts = h.setup.hosts;
      lines = h.setup.lines;
      entries = h.setup.entries;
      ways = h.setup.ways;
      tags = h.setup.tags;
      credits = h.setup.credits;
      streams = small;
      stream_hosts = all_push _ s.setup.streams host h.setup.stream_hosts range;
    }

-- a stream more, where the names with its own are names
streamed : (s : ScriptValue) (host : ℕ) (names : List (ℕ × List ℕ)) → IsScript s → stream_refusal s host ≡ None → AreNames names → IsTrue (names_fit (length s.setup.streams + 1) names) → IsScript (with_stream s host names)
streamed s host names h e are fit =
    let is = stream_allowed s host e in
    let longer = length_push s.setup.streams host in
    let paired : length (s.operations ++ [] ∷ []) ≡ length (s.setup.streams ++ host ∷ []) = length_push s.operations [] ∙ ap (λ n. n + 1) h.streams ∙ sym longer in
    let count : operation_count (s.operations ++ [] ∷ []) ≤ 65536 = omega (arith, sum_by_push length s.operations [], h.operation_count) in
    record {
      setup = with_stream_within s host h is.1 is.2;
      names = are;
      named = subst (λ (n : ℕ). IsTrue (names_fit n names)) (sym longer) fit;
      room = h.room;
      opening = h.opening;
      opening_lines = h.opening_lines;
      opening_bytes = h.opening_bytes;
      streams = paired;
      operations = all_push _ s.operations [] h.operations refl;
      operation_count = count;
      picks = h.picks;
    }

operated : (s : ScriptValue) (op : Op) → IsScript s → takes_operations s ≡ true → op_fits s.setup.lines op ≡ true → operation_count s.operations < 65536 → IsScript (record s { operations = with_op s.operations op })
operated s op h takes fits few =
    let some = some_stream s takes in
    let count : operation_count (with_op s.operations op) ≤ 65536 = omega (arith, count-with_op s.operations op (omega (arith, h.streams, some.0))) in
    record {
      setup = h.setup;
      names = h.names;
      named = h.named;
      room = h.room;
      opening = h.opening;
      opening_lines = h.opening_lines;
      opening_bytes = h.opening_bytes;
      streams = length-with_op s.operations op ∙ h.streams;
      operations = all-with_op (op_fits s.setup.lines) s.operations op h.operations fits;
      operation_count = count;
      picks = h.picks;
    }

picked : (s : ScriptValue) (pick : ℕ) → IsScript s → nat_le pick 65535 ≡ true → IsScript (with_line s (ScriptLine.Pick pick))
picked s pick h small = record {
  setup = h.setup;
  names = h.names;
  named = h.named;
  room = h.room;
  opening = h.opening;
  opening_lines = h.opening_lines;
  opening_bytes = h.opening_bytes;
  streams = h.streams;
  operations = h.operations;
  operation_count = h.operation_count;
  picks = all_push _ s.picks pick h.picks small;
}

pick_allowed : (b : Bool) (r : ScriptReason) → ◌≡◌ {A = Option ScriptReason} (cond b None (Some r)) None → b ≡ true
pick_allowed true r e = refl
pick_allowed false r e = absurd cc

pub IsScript-with_line : (s : ScriptValue) (l : ScriptLine) → IsScript s → IsSpelled l → line_refusal s l ≡ None → IsScript (with_line s l)
IsScript-with_line s (ScriptLine.Open line bytes) h spelled e = opened s line bytes h spelled.1 e
IsScript-with_line s (ScriptLine.Stream host) h spelled e = streamed s host s.names h e h.names (fit_more (length s.setup.streams) s.names h.named)
IsScript-with_line s (ScriptLine.NamedStream host name) h spelled e =
    let n = length s.setup.streams in
    streamed s host (s.names ++ (n, name.items) ∷ []) h e (are_names_added n name.items s.names h.names h.named spelled.1) (fit_added n name.items s.names h.named)
IsScript-with_line s (ScriptLine.Load line) h spelled e = let is = op_allowed s _ e in operated s (Op.Load (record { 0 = line })) h is.0 is.1 is.2
IsScript-with_line s (ScriptLine.Word line place value) h spelled e =
    let is = op_allowed s _ e in
    operated s (Op.Word (record { 0 = line }) place value) h is.0 (and_from _ _ is.1 (lt-ltb value (2 ^ 64) spelled.2)) is.2
IsScript-with_line s (ScriptLine.Whole line bytes) h spelled e = let is = op_allowed s _ e in operated s (Op.Whole (record { 0 = line }) bytes) h is.0 (and_from _ _ is.1 spelled.1) is.2
IsScript-with_line s (ScriptLine.Pick pick) h spelled e = picked s pick h (pick_allowed _ _ e)
