-- What was read of a text, and what is left of it.
use Rattle.std.proofs.Common.{◌≡◌, ◌≢◌, ℕ, ◌<◌, ◌≤◌, List, [], ◌∷◌, ◌++◌, length, Option, Some, None, Result, Ok, Err, refl, sym, ap, ◌∙◌, append_assoc, arith}
use Rattle.std.proofs.lemmas.List.{append-nil, length-append}
use Rattle.std.proofs.lemmas.List.Concat.{flat_map-append}
use Rattle.std.proofs.lemmas.Option.{same_Some, none-some}
use Rattle.std.specs.Option.{option_and_then}
use Rattle.cxl_message.specs.Script.{ScriptValue}
use Rattle.cxl_message.specs.Setup.{Configuration}
use Rattle.script_text.specs.declared.lines.ScriptLine.{ScriptLine}
use Rattle.script_text.specs.declared.refusals.ScriptReason.{ScriptReason}
use Rattle.script_text.specs.declared.refusals.ScriptRefusal.{ScriptRefusal}
use Rattle.script_text.specs.Spelling.{body_lines, stream_lines, line_bytes, line_text, head_bytes, script_bytes}
use Rattle.script_text.specs.Script.{IsScript}
use Rattle.script_text.specs.Lines.{first_line}
use Rattle.script_text.specs.Head.{head_at}
use Rattle.script_text.specs.Laws.{TextsSpellOneScript}
use Rattle.script_text.specs.Refusals.{IfBad, line_refusal, with_line}
use Rattle.script_text.proofs.LineLaws.{first_again, first_take}
use Rattle.script_text.proofs.HeadLaws.{bare, start, head_again, head_take}
use Rattle.script_text.proofs.BodyLaws.{lines-with_line, IsScript-with_line}
use Rattle.script_text.proofs.RunLaws.{unless_refused, run, run-append, run_all}
use Rattle.script_text.proofs.WholeLaws.{AreSpelled, lines_spelled, text_of, nothing_first, lines_cancel}

-- the bytes are those of a script, and then a rest
pub record Reads (bytes : List ℕ) (d : ScriptValue) (rest : List ℕ) : Type 0 where
  pub text : bytes ≡ head_bytes d ++ (text_of (body_lines d) ++ rest)
  pub script : IsScript d

-- no operations, no lines of streams
pub no_lines : (names : List (ℕ × List ℕ)) (k : ℕ) (hosts : List ℕ) → stream_lines names k hosts [] ≡ []
no_lines names k [] = refl
no_lines names k (host ∷ hosts) = refl

pub reads_start : (bytes : List ℕ) (head : Configuration × ℕ × List ℕ) → head_at bytes ≡ Ok head → Reads bytes (start head.0 head.1) head.2
reads_start bytes head e =
    let read = head_take bytes head e in
    let d = start head.0 head.1 in
    let none : body_lines d ≡ [] = append-nil (stream_lines [] 0 head.0.streams []) ∙ no_lines [] 0 head.0.streams in
    record { text = read.0 ∙ ap (λ (ls : List ScriptLine). head_bytes d ++ (text_of ls ++ head.2)) (sym none); script = read.1 }

-- a line leaves the seven before it
same_head : (d : ScriptValue) (l : ScriptLine) → head_bytes (with_line d l) ≡ head_bytes d
same_head d (ScriptLine.Open line bytes) = refl
same_head d (ScriptLine.Stream host) = refl
same_head d (ScriptLine.NamedStream host name) = refl
same_head d (ScriptLine.Load line) = refl
same_head d (ScriptLine.Word line place value) = refl
same_head d (ScriptLine.Whole line bytes) = refl
same_head d (ScriptLine.Pick pick) = refl

-- a line more
pub reads_more : (bytes : List ℕ) (d : ScriptValue) (rest : List ℕ) (l : ScriptLine) (after : List ℕ) → Reads bytes d rest → first_line rest ≡ Some (l, after) → line_refusal d l ≡ None → Reads bytes (with_line d l) after
reads_more bytes d rest l after h first allowed =
    let taken = first_take rest (l, after) first in
    let lines = lines-with_line d l h.script allowed in
    let one : text_of (l ∷ []) ≡ line_bytes l = append-nil (line_bytes l) in
    let texts : text_of (body_lines d) ++ rest ≡ text_of (body_lines (with_line d l)) ++ after =
    ap (λ (r : List ℕ). text_of (body_lines d) ++ r) taken.0 ∙ sym (append_assoc (text_of (body_lines d)) (line_bytes l) after)
    ∙ ap (λ (x : List ℕ). text_of (body_lines d) ++ x ++ after) (sym one) ∙ ap (λ (x : List ℕ). x ++ after) (sym (flat_map-append line_bytes (body_lines d) (l ∷ []))) ∙ ap (λ (x : List ScriptLine). text_of x ++ after) (sym lines) in
    record {
      text = h.text ∙ ap (λ (x : List ℕ). head_bytes d ++ x) texts ∙ ap (λ (x : List ℕ). x ++ (text_of (body_lines (with_line d l)) ++ after)) (sym (same_head d l));
      script = IsScript-with_line d l h.script taken.1 allowed;
    }

-- a line takes a byte at least
pub shorter : (rest : List ℕ) (l : ScriptLine) (after : List ℕ) → first_line rest ≡ Some (l, after) → length after < length rest
shorter rest l after first =
    let taken = first_take rest (l, after) first in
    omega (arith, ap length taken.0, length-append (line_bytes l) after, length-append (line_text l) (10 ∷ []))

pub reads_end : (bytes : List ℕ) (d : ScriptValue) → Reads bytes d [] → bytes ≡ script_bytes d
unfolding script_bytes
reads_end bytes d h = h.text ∙ ap (λ (x : List ℕ). head_bytes d ++ x) (append-nil (text_of (body_lines d)))

same_Ok : {A : Type 0} (x y : A) → ◌≡◌ {A = Result A ScriptRefusal} (Ok x) (Ok y) → x ≡ y
same_Ok x y e = cc

-- what is left of a script that the bytes spell
record Left (d s : ScriptValue) (rest : List ℕ) : Type 0 where
  more : List ScriptLine
  text : rest ≡ text_of more
  spelled : AreSpelled more
  runs : run d more ≡ Some s

left : (bytes : List ℕ) (d : ScriptValue) (rest : List ℕ) (s : ScriptValue) → Reads bytes d rest → IsScript s → bytes ≡ script_bytes s → Left d s rest
unfolding script_bytes
left bytes d rest s h is e =
    let mine = head_again d (text_of (body_lines d) ++ rest) h.script.setup h.script.room in
    let other = head_again s (text_of (body_lines s)) is.setup is.room in
    let same : (bare d.setup, d.room, text_of (body_lines d) ++ rest) ≡ (bare s.setup, s.room, text_of (body_lines s)) = same_Ok _ _ (sym mine ∙ ap head_at (sym h.text ∙ e) ∙ other) in
    let begun : start (bare d.setup) d.room ≡ start (bare s.setup) s.room = ap (λ (x : Configuration × ℕ × List ℕ). start x.0 x.1) same in
    let texts : text_of (body_lines d) ++ rest ≡ text_of (body_lines s) = ap (λ (x : Configuration × ℕ × List ℕ). x.2) same in
    let cut = lines_cancel (body_lines d) (body_lines s) rest (lines_spelled d h.script) (lines_spelled s is) texts in
    let through : run (start (bare s.setup) s.room) (body_lines d ++ cut.0) ≡ Some s = ap (λ (x : List ScriptLine). run (start (bare s.setup) s.room) x) (sym cut.1) ∙ run_all s is in
    let split = run-append (start (bare d.setup) d.room) (body_lines d) cut.0 in
    let reached : option_and_then (λ t. run t cut.0) (run (start (bare d.setup) d.room) (body_lines d)) ≡ run d cut.0 = ap (λ (o : Option ScriptValue). option_and_then (λ t. run t cut.0) o) (run_all d h.script) in
    record {
      more = cut.0;
      text = cut.2;
      spelled = cut.3;
      runs = sym reached ∙ sym split ∙ ap (λ (x : ScriptValue). run x (body_lines d ++ cut.0)) begun ∙ through;
    }

-- the bytes spell no script
abbrev pub SpellsNone : List ℕ → Type 0
SpellsNone bytes = (s : ScriptValue) → IsScript s → bytes ≢ script_bytes s

no_line : (d s : ScriptValue) (rest : List ℕ) (more : List ScriptLine) → rest ≡ text_of more → AreSpelled more → (length rest ≡ 0 → ⊥) → first_line rest ≡ None → ⊥
no_line d s rest [] e spelled some none = some (ap length e)
no_line d s rest (m ∷ ms) e spelled some none = none-some _ (sym none ∙ ap first_line e ∙ first_again m (text_of ms) spelled.0)

-- where no line can be read
pub stops_at_none : (bytes : List ℕ) (d : ScriptValue) (rest : List ℕ) → Reads bytes d rest → (length rest ≡ 0 → ⊥) → first_line rest ≡ None → SpellsNone bytes
stops_at_none bytes d rest h some none s is e = let l = left bytes d rest s h is e in no_line d s rest l.more l.text l.spelled some none

not_taken : (d s : ScriptValue) (rest : List ℕ) (l : ScriptLine) (after : List ℕ) (reason : ScriptReason) (more : List ScriptLine) → rest ≡ text_of more → AreSpelled more → run d more ≡ Some s
    → first_line rest ≡ Some (l, after) → line_refusal d l ≡ Some reason → ⊥
not_taken d s rest l after reason [] e spelled runs first refused = none-some _ (sym nothing_first ∙ ap first_line (sym e) ∙ first)
not_taken d s rest l after reason (m ∷ ms) e spelled runs first refused =
    let same : (m, text_of ms) ≡ (l, after) = same_Some _ _ (sym (first_again m (text_of ms) spelled.0) ∙ ap first_line (sym e) ∙ first) in
    let line : m ≡ l = ap (λ (x : ScriptLine × List ℕ). x.0) same in
    let refused_m : line_refusal d m ≡ Some reason = ap (line_refusal d) line ∙ refused in
    none-some _ (sym (ap (λ (o : Option ScriptReason). option_and_then (λ t. run t ms) (unless_refused o (with_line d m))) refused_m) ∙ runs)

-- where a line is refused
pub stops_at_refused : (bytes : List ℕ) (d : ScriptValue) (rest : List ℕ) (l : ScriptLine) (after : List ℕ) (reason : ScriptReason) → Reads bytes d rest → first_line rest ≡ Some (l, after) → line_refusal d l ≡ Some reason → SpellsNone bytes
stops_at_refused bytes d rest l after reason h first refused s is e = let x = left bytes d rest s h is e in not_taken d s rest l after reason x.more x.text x.spelled x.runs first refused

-- where the seven lines are refused
pub stops_in_head : (bytes : List ℕ) (refusal : ScriptRefusal) → head_at bytes ≡ Err refusal → SpellsNone bytes
unfolding script_bytes
stops_in_head bytes refusal refused s is e =
    let read = head_again s (text_of (body_lines s)) is.setup is.room in
    let both : ◌≡◌ {A = Result (Configuration × ℕ × List ℕ) ScriptRefusal} (Err refusal) (Ok (bare s.setup, s.room, text_of (body_lines s))) = sym refused ∙ ap head_at e ∙ read in
    absurd cc

nothing_left : (d s : ScriptValue) (more : List ScriptLine) → [] ≡ text_of more → AreSpelled more → run d more ≡ Some s → s ≡ d
nothing_left d s [] e spelled runs = sym (same_Some _ _ runs)
nothing_left d s (m ∷ ms) e spelled runs = absurd (none-some _ (sym nothing_first ∙ ap first_line e ∙ first_again m (text_of ms) spelled.0))

-- the bytes spell no other script
pub reads_only : (bytes : List ℕ) (d : ScriptValue) → Reads bytes d [] → (s : ScriptValue) → IsScript s → bytes ≡ script_bytes s → s ≡ d
reads_only bytes d h s is e = let l = left bytes d [] s h is e in nothing_left d s l.more l.text l.spelled l.runs

-- a text is spelled by one script at most
pub texts_spell_one_script : TextsSpellOneScript
unfolding script_bytes
texts_spell_one_script text s other is same e f =
    let reads : Reads text other [] = record { text = f ∙ ap (λ (x : List ℕ). head_bytes other ++ x) (sym (append-nil (text_of (body_lines other)))); script = same } in
    reads_only text other reads s is e

-- what is left is no longer than all
pub left_within : (bytes : List ℕ) (d : ScriptValue) (rest : List ℕ) → Reads bytes d rest → length rest ≤ length bytes
left_within bytes d rest h = omega (arith, ap length h.text, length-append (head_bytes d) (text_of (body_lines d) ++ rest), length-append (text_of (body_lines d)) rest)

-- a refusal for another cause
pub bad_since : (refusal : ScriptRefusal) (P Q : ℕ → ScriptReason → Type 0) → ((line : ℕ) (reason : ScriptReason) → P line reason → Q line reason) → IfBad refusal P → IfBad refusal Q
bad_since (ScriptRefusal.Bad line reason) P Q f h = f line reason h
bad_since ScriptRefusal.Memory P Q f h = tt
