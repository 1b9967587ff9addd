-- Texts that grow by the lines of a list, one after the other: what was appended and what the rest of the list will append are together the whole.
use Rattle.std.proofs.Common.{◌≡◌, ℕ, ◌+◌, ◌<◌, ◌≤◌, List, [], ◌∷◌, ◌++◌, length, map, get_or, drop, Some, sym, ap, ◌∙◌, append_assoc}
use Rattle.std.specs.Prelude.{codes, slice_get}
use Rattle.std.specs.Fmt.{decimal}
use Rattle.std.specs.Int.{to_be_bytes, w64}
use Rattle.std.specs.List.{flat_map}
use Rattle.std.proofs.lemmas.List.{append-nil, drop_all, drop_more}
use Rattle.std.proofs.lemmas.List.Concat.{flat_map-append}
use Rattle.std.proofs.lemmas.Option.{get_or_from_slice_get, slice_get_within}
use Rattle.cxl_message.specs.declared.events.Op.{Op}
use Rattle.cxl_message.specs.Names.{name_of}
use Rattle.cxl_message.specs.Script.{ScriptValue}
use Rattle.script_text.specs.declared.lines.ScriptLine.{ScriptLine}
use Rattle.script_text.specs.Spelling.{body_lines, head_bytes, hex, line_bytes, op_line, open_line, script_bytes, stream_line, stream_lines}

-- one more of a list, where `rest` says what a list appends
pub appended_more : {A : Type 0} (rest : List A → List ℕ) (one : List ℕ) (xs : List A) (k : ℕ) (d : A) (out new total : List ℕ) → k < length xs
    → rest (get_or xs k d ∷ drop (k + 1) xs) ≡ one ++ rest (drop (k + 1) xs) → new ≡ out ++ one → out ++ rest (drop k xs) ≡ total → new ++ rest (drop (k + 1) xs) ≡ total
appended_more rest one xs k d out new total below opens is so_far =
    ap (λ (t : List ℕ). t ++ rest (drop (k + 1) xs)) is ∙ append_assoc out one (rest (drop (k + 1) xs))
    ∙ ap (λ (t : List ℕ). out ++ t) (sym opens ∙ ap rest (sym (drop_more xs k d below))) ∙ so_far

-- nothing is left of a list
pub appended_all : {A : Type 0} (rest : List A → List ℕ) (xs : List A) (k : ℕ) (out total : List ℕ) → rest [] ≡ [] → length xs ≤ k → out ++ rest (drop k xs) ≡ total → out ≡ total
appended_all rest xs k out total none le so_far =
    sym (append-nil out) ∙ ap (λ (t : List ℕ). out ++ t) (sym none ∙ ap rest (sym (drop_all k xs le))) ∙ so_far

-- what stands at a place of a list stands first behind it
drop_at : (streams : List (List Op)) (k : ℕ) (ops : List Op) → slice_get streams k ≡ Some ops → drop k streams ≡ ops ∷ drop (k + 1) streams
drop_at streams k ops found =
    drop_more streams k ops (slice_get_within streams k ops found) ∙ ap (λ (x : List Op). x ∷ drop (k + 1) streams) (get_or_from_slice_get streams k ops ops found)

-- the lines of a stream: its host and name, then its operations, then the other streams'
pub stream_more : (names : List (ℕ × List ℕ)) (hosts : List ℕ) (streams : List (List Op)) (k d : ℕ) (ops : List Op) (out middle new total : List ℕ) → k < length hosts → k < length streams → slice_get streams k ≡ Some ops
    → middle ≡ out ++ line_bytes (stream_line (get_or hosts k d) (name_of names k)) → new ≡ middle ++ flat_map line_bytes (map op_line ops)
    → out ++ flat_map line_bytes (stream_lines names k (drop k hosts) (drop k streams)) ≡ total → new ++ flat_map line_bytes (stream_lines names (k + 1) (drop (k + 1) hosts) (drop (k + 1) streams)) ≡ total
stream_more names hosts streams k d ops out middle new total below within found host operations so_far =
    let more = stream_lines names (k + 1) (drop (k + 1) hosts) (drop (k + 1) streams) in
    let line = stream_line (get_or hosts k d) (name_of names k) in
    let first = line_bytes line in
    let text = flat_map line_bytes (map op_line ops) in
    let opened : stream_lines names k (drop k hosts) (drop k streams) ≡ line ∷ map op_line ops ++ more =
    ap (λ (hs : List ℕ). stream_lines names k hs (drop k streams)) (drop_more hosts k d below) ∙ ap (λ (ss : List (List Op)). stream_lines names k (get_or hosts k d ∷ drop (k + 1) hosts) ss) (drop_at streams k ops found) in
    let spelled : flat_map line_bytes (stream_lines names k (drop k hosts) (drop k streams)) ≡ first ++ (text ++ flat_map line_bytes more) =
    ap (flat_map line_bytes) opened ∙ ap (λ (t : List ℕ). first ++ t) (flat_map-append line_bytes (map op_line ops) more) in
    ap (λ (t : List ℕ). t ++ flat_map line_bytes more) (operations ∙ ap (λ (t : List ℕ). t ++ text) host)
    ∙ append_assoc (out ++ first) text (flat_map line_bytes more) ∙ append_assoc out first (text ++ flat_map line_bytes more)
    ∙ ap (λ (t : List ℕ). out ++ t) (sym spelled) ∙ so_far

-- no stream is left
pub streams_all : (names : List (ℕ × List ℕ)) (hosts : List ℕ) (streams : List (List Op)) (k : ℕ) (out total : List ℕ) → length hosts ≤ k → out ++ flat_map line_bytes (stream_lines names k (drop k hosts) (drop k streams)) ≡ total → out ≡ total
streams_all names hosts streams k out total le so_far =
    sym (append-nil out) ∙ ap (λ (hs : List ℕ). out ++ flat_map line_bytes (stream_lines names k hs (drop k streams))) (sym (drop_all k hosts le)) ∙ so_far

-- the parts of a word's line are the line
pub word_parts : (out a b d new bytes : List ℕ) (line place place_read value : ℕ) → a ≡ out ++ (codes "word" ++ 32 ∷ decimal line) → b ≡ a ++ 32 ∷ [] → d ≡ b ++ decimal place_read → new ≡ d ++ (32 ∷ hex bytes ++ 10 ∷ [])
    → place_read ≡ place → bytes ≡ to_be_bytes w64 value → new ≡ out ++ line_bytes (ScriptLine.Word line place value)
word_parts out a b d new bytes line place place_read value named space number last same is =
    let front = codes "word" ++ 32 ∷ decimal line in
    let read = 32 ∷ decimal place_read in
    let digits = 32 ∷ hex bytes in
    let numbers : d ≡ out ++ (front ++ read) =
    number ∙ ap (λ (t : List ℕ). t ++ decimal place_read) (space ∙ ap (λ (t : List ℕ). t ++ 32 ∷ []) named) ∙ append_assoc (out ++ front) (32 ∷ []) (decimal place_read) ∙ append_assoc out front read in
    last ∙ ap (λ (t : List ℕ). t ++ (digits ++ 10 ∷ [])) numbers ∙ append_assoc out (front ++ read) (digits ++ 10 ∷ []) ∙ ap (λ (t : List ℕ). out ++ t) (sym (append_assoc (front ++ read) digits (10 ∷ [])))
    ∙ ap (λ (n : ℕ). out ++ (codes "word" ++ 32 ∷ decimal line ++ 32 ∷ decimal n ++ digits ++ 10 ∷ [])) same ∙ ap (λ (t : List ℕ). out ++ (codes "word" ++ 32 ∷ decimal line ++ 32 ∷ decimal place ++ 32 ∷ hex t ++ 10 ∷ [])) is

-- the parts of a script's text are the text
pub script_parts : (s : ScriptValue) (start a b d new : List ℕ) → start ≡ [] → a ≡ start ++ head_bytes s → b ≡ a ++ flat_map line_bytes (map open_line s.opening)
    → d ≡ b ++ flat_map line_bytes (stream_lines s.names 0 s.setup.streams s.operations) → new ≡ d ++ flat_map line_bytes (map (λ pick. ScriptLine.Pick pick) s.picks) → new ≡ script_bytes s
unfolding script_bytes
script_parts s start a b d new none head openings streams picks =
    let opens = map open_line s.opening in
    let lines = stream_lines s.names 0 s.setup.streams s.operations in
    let last = map (λ (pick : ℕ). ScriptLine.Pick pick) s.picks in
    let spelled : flat_map line_bytes (body_lines s) ≡ flat_map line_bytes opens ++ flat_map line_bytes lines ++ flat_map line_bytes last =
    flat_map-append line_bytes (opens ++ lines) last ∙ ap (λ (t : List ℕ). t ++ flat_map line_bytes last) (flat_map-append line_bytes opens lines) in
    let first : a ≡ head_bytes s = head ∙ ap (λ (t : List ℕ). t ++ head_bytes s) none in
    picks ∙ ap (λ (t : List ℕ). t ++ flat_map line_bytes last) (streams ∙ ap (λ (t : List ℕ). t ++ flat_map line_bytes lines) (openings ∙ ap (λ (t : List ℕ). t ++ flat_map line_bytes opens) first))
    ∙ ap (λ (t : List ℕ). t ++ flat_map line_bytes last) (append_assoc (head_bytes s) (flat_map line_bytes opens) (flat_map line_bytes lines))
    ∙ append_assoc (head_bytes s) (flat_map line_bytes opens ++ flat_map line_bytes lines) (flat_map line_bytes last) ∙ ap (λ (t : List ℕ). head_bytes s ++ t) (sym spelled)
