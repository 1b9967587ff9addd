-- A text that fails does so at one line and for one reason, and no script spells it.
use Rattle.std.proofs.Common.{◌≡◌, ℕ, ◌+◌, Bool, true, false, cond, List, [], ◌∷◌, ◌++◌, length, Option, Some, None, Result, Ok, Err, refl, sym, ap, subst, ◌∙◌, inl, inr, append_assoc, arith}
use Rattle.std.specs.Option.{option_and_then}
use Rattle.std.specs.Prelude.{nat_le, nat_lt, not, ◌&&◌, ◌==◌}
use Rattle.std.proofs.lemmas.List.{append-nil, length-append}
use Rattle.std.proofs.lemmas.Option.{same_Some, none-some}
use Rattle.cxl_message.specs.Codes.{bytes_eq}
use Rattle.cxl_message.specs.Opening.{is_after_last, zero_bytes}
use Rattle.cxl_message.specs.Script.{ScriptValue}
use Rattle.cxl_message.specs.Setup.{Configuration}
use Rattle.script_text.specs.declared.lines.ScriptLine.{ScriptLine}
use Rattle.script_text.specs.declared.refusals.ScriptReason.{ScriptReason}
use Rattle.script_text.specs.declared.refusals.ScriptRefusal.{ScriptRefusal}
use Rattle.script_text.specs.Failures.{FailsAt, FailsInBody, FailuresAreAlone, FailuresAreNoScripts, LineFailure, RefusedLine}
use Rattle.script_text.specs.Head.{head_at}
use Rattle.script_text.specs.Lines.{first_line}
use Rattle.script_text.specs.Refusals.{line_refusal, op_refusal, stream_refusal, takes_openings, takes_operations, with_line}
use Rattle.script_text.specs.Script.{IsScript, IsSpelled, operation_count}
use Rattle.script_text.specs.Spelling.{body_lines, head_bytes, line_bytes, line_text, script_bytes, stream_lines}
use Rattle.script_text.proofs.BodyLaws.{lines-with_line}
use Rattle.script_text.proofs.HeadFailures.{head_fails, head_refused, ok-err, same_line, same_reason}
use Rattle.script_text.proofs.HeadLaws.{bare, head_again, start}
use Rattle.script_text.proofs.LineLaws.{first_again, first_take}
use Rattle.script_text.proofs.Readings.{Reads, SpellsNone, no_lines, stops_in_head}
use Rattle.script_text.proofs.RunLaws.{run, run-append, run_all, unless_refused}
use Rattle.script_text.proofs.WholeLaws.{AreSpelled, lines_spelled, nothing_first, text_of}

-- ---- the reason at a line

-- why the first line of a text is refused after a script's lines, by reading it
reading : ScriptValue → Option (ScriptLine × List ℕ) → Option ScriptReason
reading d None = Some ScriptReason.Spelling
reading d (Some found) = line_refusal d found.0

line_read : (d : ScriptValue) (text : List ℕ) (reason : ScriptReason) → RefusedLine d text reason → reading d (first_line text) ≡ Some reason
unfolding reading
line_read d text reason h = ap (λ (t : List ℕ). reading d (first_line t)) h.begins ∙ ap (reading d) (first_again h.line h.rest h.spelled) ∙ h.refused

spelling_read : (d : ScriptValue) (text : List ℕ) (found : Option (ScriptLine × List ℕ)) → LineFailure d text ScriptReason.Spelling → first_line text ≡ found → reading d found ≡ Some ScriptReason.Spelling
unfolding reading
spelling_read d text None h is = refl
spelling_read d text (Some found) h is = let taken = first_take text found is in h.1 found.0 found.1 taken.1 taken.0

-- the reason for which a text fails is the one that a reader finds
reason_read : (d : ScriptValue) (text : List ℕ) (reason : ScriptReason) → LineFailure d text reason → reading d (first_line text) ≡ Some reason
reason_read d text ScriptReason.Spelling h = spelling_read d text (first_line text) h refl
reason_read d text ScriptReason.Range h = line_read d text ScriptReason.Range h
reason_read d text ScriptReason.Order h = line_read d text ScriptReason.Order h
reason_read d text ScriptReason.Many h = line_read d text ScriptReason.Many h
reason_read d text ScriptReason.Missing h = absurd h

-- a text that fails doesn't begin with a line that may stand there
not_allowed : (d : ScriptValue) (text : List ℕ) (reason : ScriptReason) (l : ScriptLine) (rest : List ℕ) → LineFailure d text reason → text ≡ line_bytes l ++ rest → IsSpelled l → line_refusal d l ≡ None → ⊥
unfolding reading
not_allowed d text reason l rest h begins spelled allowed =
    none-some _ (sym allowed ∙ ap (reading d) (sym (first_again l rest spelled) ∙ ap first_line (sym begins)) ∙ reason_read d text reason h)

not_begun : (l : ScriptLine) (rest : List ℕ) → line_bytes l ++ rest ≡ [] → ⊥
not_begun l rest e = omega (arith, ap length e, length-append (line_bytes l) rest, length-append (line_text l) (10 ∷ []))

-- and it isn't empty
not_empty : (d : ScriptValue) (text : List ℕ) (reason : ScriptReason) → LineFailure d text reason → text ≡ [] → ⊥
not_empty d text ScriptReason.Spelling h none = h.0 none
not_empty d text ScriptReason.Range h none = not_begun h.line h.rest (sym h.begins ∙ none)
not_empty d text ScriptReason.Order h none = not_begun h.line h.rest (sym h.begins ∙ none)
not_empty d text ScriptReason.Many h none = not_begun h.line h.rest (sym h.begins ∙ none)
not_empty d text ScriptReason.Missing h none = absurd h

-- ---- two ways to begin a text

-- lines stand before a rest, and the first of them is more than other lines have
record Beyond (xs ys : List ScriptLine) (left right : List ℕ) : Type 0 where
  line : ScriptLine
  more : List ScriptLine
  longer : ys ≡ xs ++ line ∷ more
  spelled : IsSpelled line
  begins : left ≡ line_bytes line ++ (text_of more ++ right)

-- two lists of lines, each with a rest, that spell one text: they are the same, or one goes on beyond the other
data Compared (xs ys : List ScriptLine) (left right : List ℕ) : Type 0 where
  same : xs ≡ ys → left ≡ right → Compared xs ys left right
  right_beyond : Beyond xs ys left right → Compared xs ys left right
  left_beyond : Beyond ys xs right left → Compared xs ys left right

one_more : (x : ScriptLine) (xs ys : List ScriptLine) (left right : List ℕ) → Compared xs ys left right → Compared (x ∷ xs) (x ∷ ys) left right
one_more x xs ys left right (same lines rests) = same (ap (λ (zs : List ScriptLine). x ∷ zs) lines) rests
one_more x xs ys left right (right_beyond b) =
    right_beyond (record { line = b.line; more = b.more; longer = ap (λ (zs : List ScriptLine). x ∷ zs) b.longer; spelled = b.spelled; begins = b.begins })
one_more x xs ys left right (left_beyond b) =
    left_beyond (record { line = b.line; more = b.more; longer = ap (λ (zs : List ScriptLine). x ∷ zs) b.longer; spelled = b.spelled; begins = b.begins })

compared : (xs ys : List ScriptLine) (left right : List ℕ) → AreSpelled xs → AreSpelled ys → text_of xs ++ left ≡ text_of ys ++ right → Compared xs ys left right
compared [] [] left right p q e = same refl e
compared [] (y ∷ ys) left right p q e =
    right_beyond (record { line = y; more = ys; longer = refl; spelled = q.0; begins = e ∙ append_assoc (line_bytes y) (text_of ys) right })
compared (x ∷ xs) [] left right p q e =
    left_beyond (record { line = x; more = xs; longer = refl; spelled = p.0; begins = sym e ∙ append_assoc (line_bytes x) (text_of xs) left })
compared (x ∷ xs) (y ∷ ys) left right p q e =
    let split = sym (append_assoc (line_bytes x) (text_of xs) left) ∙ e ∙ append_assoc (line_bytes y) (text_of ys) right in
    let both : (x, text_of xs ++ left) ≡ (y, text_of ys ++ right) =
    same_Some _ _ (sym (first_again x (text_of xs ++ left) p.0) ∙ ap first_line split ∙ first_again y (text_of ys ++ right) q.0) in
    let heads : x ≡ y = ap (λ (z : ScriptLine × List ℕ). z.0) both in
    let rest = compared xs ys left right p.1 q.1 (ap (λ (z : ScriptLine × List ℕ). z.1) both) in
    subst (λ (z : ScriptLine). Compared (x ∷ xs) (z ∷ ys) left right) heads (one_more x xs ys left right rest)

-- ---- a line beyond is allowed

not_refused : (d s : ScriptValue) (l : ScriptLine) (more : List ScriptLine) (refusal : Option ScriptReason) → line_refusal d l ≡ refusal → run d (l ∷ more) ≡ Some s → refusal ≡ None
not_refused d s l more None is runs = refl
not_refused d s l more (Some reason) is runs =
    absurd (none-some _ (sym (ap (λ (o : Option ScriptReason). option_and_then (λ t. run t more) (unless_refused o (with_line d l))) is) ∙ runs))

-- scripts with the same first seven lines: a line that one has beyond the other's may stand there
allowed_beyond : (d s : ScriptValue) (l : ScriptLine) (more : List ScriptLine) → IsScript d → IsScript s → start (bare d.setup) d.room ≡ start (bare s.setup) s.room
    → body_lines s ≡ body_lines d ++ l ∷ more → line_refusal d l ≡ None
allowed_beyond d s l more is-d is-s begun longer =
    let s0 = start (bare d.setup) d.room in
    let through : run s0 (body_lines d ++ l ∷ more) ≡ Some s =
    ap (λ (x : List ScriptLine). run s0 x) (sym longer) ∙ ap (λ (x : ScriptValue). run x (body_lines s)) begun ∙ run_all s is-s in
    let reached : option_and_then (λ t. run t (l ∷ more)) (run s0 (body_lines d)) ≡ run d (l ∷ more) = ap (λ (o : Option ScriptValue). option_and_then (λ t. run t (l ∷ more)) o) (run_all d is-d) in
    not_refused d s l more (line_refusal d l) refl (sym reached ∙ sym (run-append s0 (body_lines d) (l ∷ more)) ∙ through)

-- scripts with the same lines are one
same_script : (d s : ScriptValue) → IsScript d → IsScript s → start (bare d.setup) d.room ≡ start (bare s.setup) s.room → body_lines d ≡ body_lines s → d ≡ s
same_script d s is-d is-s begun lines =
    same_Some d s (sym (run_all d is-d) ∙ ap (λ (x : ScriptValue). run x (body_lines d)) begun ∙ ap (λ (x : List ScriptLine). run (start (bare s.setup) s.room) x) lines ∙ run_all s is-s)

-- ---- failures after the seven lines

same_Ok : {A : Type 0} (x y : A) → ◌≡◌ {A = Result A ScriptRefusal} (Ok x) (Ok y) → x ≡ y
same_Ok x y e = cc

-- the seven lines of a text that fails after them are read
head_read : (text : List ℕ) (at : ℕ) (reason : ScriptReason) (h : FailsInBody text at reason) → head_at text ≡ Ok (bare h.script.setup, h.script.room, text_of (body_lines h.script) ++ h.rest)
unfolding script_bytes
head_read text at reason h =
    ap head_at (h.begins ∙ append_assoc (head_bytes h.script) (text_of (body_lines h.script)) h.rest) ∙ head_again h.script (text_of (body_lines h.script) ++ h.rest) h.is.setup h.is.room

-- two failures of one text are one
abbrev IsOne : ℕ → ℕ → ScriptReason → ScriptReason → Type 0
IsOne at other reason cause = (other ≡ at) × (cause ≡ reason)

body_compared : (text : List ℕ) (at other : ℕ) (reason cause : ScriptReason) (h : FailsInBody text at reason) (g : FailsInBody text other cause)
    → start (bare h.script.setup) h.script.room ≡ start (bare g.script.setup) g.script.room → Compared (body_lines h.script) (body_lines g.script) h.rest g.rest → IsOne at other reason cause
body_compared text at other reason cause h g begun (same lines rests) =
    let scripts = same_script h.script g.script h.is g.is begun lines in
    let mine = reason_read h.script h.rest reason h.fails in
    let yours = reason_read g.script g.rest cause g.fails in
    let read : reading g.script (first_line g.rest) ≡ reading h.script (first_line h.rest) =
    ap (λ (x : ScriptValue). reading x (first_line g.rest)) (sym scripts) ∙ ap (λ (x : List ℕ). reading h.script (first_line x)) (sym rests) in
    (g.line ∙ ap (λ (x : List ScriptLine). 8 + length x) (sym lines) ∙ sym h.line, same_Some _ _ (sym yours ∙ read ∙ mine))
body_compared text at other reason cause h g begun (right_beyond b) =
    absurd (not_allowed h.script h.rest reason b.line (text_of b.more ++ g.rest) h.fails b.begins b.spelled (allowed_beyond h.script g.script b.line b.more h.is g.is begun b.longer))
body_compared text at other reason cause h g begun (left_beyond b) =
    absurd (not_allowed g.script g.rest cause b.line (text_of b.more ++ h.rest) g.fails b.begins b.spelled (allowed_beyond g.script h.script b.line b.more g.is h.is (sym begun) b.longer))

in_body : (text : List ℕ) (at other : ℕ) (reason cause : ScriptReason) → FailsInBody text at reason → FailsInBody text other cause → IsOne at other reason cause
in_body text at other reason cause h g =
    let both = same_Ok _ _ (sym (head_read text at reason h) ∙ head_read text other cause g) in
    let begun : start (bare h.script.setup) h.script.room ≡ start (bare g.script.setup) g.script.room = ap (λ (x : Configuration × ℕ × List ℕ). start x.0 x.1) both in
    let texts : text_of (body_lines h.script) ++ h.rest ≡ text_of (body_lines g.script) ++ g.rest = ap (λ (x : Configuration × ℕ × List ℕ). x.2) both in
    body_compared text at other reason cause h g begun
    (compared (body_lines h.script) (body_lines g.script) h.rest g.rest (lines_spelled h.script h.is) (lines_spelled g.script g.is) texts)

same_bad : {A : Type 0} (k at : ℕ) (r q : ScriptReason) → ◌≡◌ {A = Result A ScriptRefusal} (Err (ScriptRefusal.Bad k r)) (Err (ScriptRefusal.Bad at q)) → IsOne at k q r
same_bad k at r q e = (sym (same_line k at r q e), same_reason k at r q e)

-- a text fails at one line at most, and for one reason
pub failures_are_alone : FailuresAreAlone
failures_are_alone text at reason (inl h) other cause (inl g) = same_bad other at cause reason (sym (head_refused text other cause g) ∙ head_refused text at reason h)
failures_are_alone text at reason (inl h) other cause (inr g) = absurd (ok-err _ _ (sym (head_read text other cause g) ∙ head_refused text at reason h))
failures_are_alone text at reason (inr h) other cause (inl g) = absurd (ok-err _ _ (sym (head_read text at reason h) ∙ head_refused text other cause g))
failures_are_alone text at reason (inr h) other cause (inr g) = in_body text at other reason cause h g

-- ---- no script

spelled_compared : (text : List ℕ) (at : ℕ) (reason : ScriptReason) (h : FailsInBody text at reason) (s : ScriptValue) → IsScript s → start (bare h.script.setup) h.script.room ≡ start (bare s.setup) s.room
    → Compared (body_lines h.script) (body_lines s) h.rest [] → ⊥
spelled_compared text at reason h s is begun (same lines rests) = not_empty h.script h.rest reason h.fails rests
spelled_compared text at reason h s is begun (right_beyond b) =
    not_allowed h.script h.rest reason b.line (text_of b.more ++ []) h.fails b.begins b.spelled (allowed_beyond h.script s b.line b.more h.is is begun b.longer)
spelled_compared text at reason h s is begun (left_beyond b) = not_begun b.line (text_of b.more ++ h.rest) (sym b.begins)

body_spells_none : (text : List ℕ) (at : ℕ) (reason : ScriptReason) → FailsInBody text at reason → SpellsNone text
unfolding script_bytes
body_spells_none text at reason h s is e =
    let read = ap head_at e ∙ head_again s (text_of (body_lines s)) is.setup is.room in
    let both = same_Ok _ _ (sym (head_read text at reason h) ∙ read) in
    let begun : start (bare h.script.setup) h.script.room ≡ start (bare s.setup) s.room = ap (λ (x : Configuration × ℕ × List ℕ). start x.0 x.1) both in
    let texts : text_of (body_lines h.script) ++ h.rest ≡ text_of (body_lines s) = ap (λ (x : Configuration × ℕ × List ℕ). x.2) both in
    spelled_compared text at reason h s is begun
    (compared (body_lines h.script) (body_lines s) h.rest [] (lines_spelled h.script h.is) (lines_spelled s is) (texts ∙ sym (append-nil (text_of (body_lines s)))))

-- a text that fails is spelled by no script
pub failures_are_no_scripts : FailuresAreNoScripts
failures_are_no_scripts text at reason (inl h) = stops_in_head text (ScriptRefusal.Bad at reason) (head_refused text at reason h)
failures_are_no_scripts text at reason (inr h) = body_spells_none text at reason h

-- ---- what the parser refuses

-- the seven lines
pub fails_in_head : (text : List ℕ) (at : ℕ) (reason : ScriptReason) → head_at text ≡ Err (ScriptRefusal.Bad at reason) → FailsAt text at reason
fails_in_head text at reason e = inl (head_fails text at reason e)

-- a text in which no line is found
pub fails_at_none : (text : List ℕ) (d : ScriptValue) (rest : List ℕ) (at : ℕ) → Reads text d rest → at ≡ 8 + length (body_lines d) → (length rest ≡ 0 → ⊥) → first_line rest ≡ None → FailsAt text at ScriptReason.Spelling
unfolding script_bytes
fails_at_none text d rest at h line some none =
    inr (record {
      script = d;
      rest = rest;
      is = h.script;
      begins = h.text ∙ sym (append_assoc (head_bytes d) (text_of (body_lines d)) rest);
      line = line;
      fails = (λ e. some (ap length e), λ l after spelled begins. absurd (none-some _ (sym none ∙ ap first_line begins ∙ first_again l after spelled)));
    })

-- a test that refuses for a reason, or leaves the rest
other_reason : (b : Bool) (r : ScriptReason) (x : Option ScriptReason) → (◌≡◌ {A = Option ScriptReason} (Some r) (Some ScriptReason.Missing) → ⊥) → (x ≡ Some ScriptReason.Missing → ⊥) → cond b (Some r) x ≡ Some ScriptReason.Missing → ⊥
other_reason true r x h g e = h e
other_reason false r x h g e = g e

not_spelling : ◌≡◌ {A = Option ScriptReason} (Some ScriptReason.Spelling) (Some ScriptReason.Missing) → ⊥
not_spelling e = cc

not_range : ◌≡◌ {A = Option ScriptReason} (Some ScriptReason.Range) (Some ScriptReason.Missing) → ⊥
not_range e = cc

not_order : ◌≡◌ {A = Option ScriptReason} (Some ScriptReason.Order) (Some ScriptReason.Missing) → ⊥
not_order e = cc

not_many : ◌≡◌ {A = Option ScriptReason} (Some ScriptReason.Many) (Some ScriptReason.Missing) → ⊥
not_many e = cc

not_nothing : ◌≡◌ {A = Option ScriptReason} None (Some ScriptReason.Missing) → ⊥
not_nothing e = cc

op_not_missing : (d : ScriptValue) (fits : Bool) → op_refusal d fits ≡ Some ScriptReason.Missing → ⊥
op_not_missing d fits e =
    other_reason (not (takes_operations d)) _ _ not_spelling
    (other_reason (not fits) _ _ not_range (other_reason (not (nat_lt (operation_count d.operations) 65536)) _ _ not_many not_nothing)) e

stream_not_missing : (d : ScriptValue) (host : ℕ) → stream_refusal d host ≡ Some ScriptReason.Missing → ⊥
stream_not_missing d host e =
    other_reason (not (length d.picks == 0)) _ _ not_spelling
    (other_reason (not (nat_lt host d.setup.hosts)) _ _ not_range (other_reason (not (nat_lt (length d.setup.streams) 64)) _ _ not_many not_nothing)) e

-- no line that stands there is refused because it is missing
never_missing : (d : ScriptValue) (l : ScriptLine) → line_refusal d l ≡ Some ScriptReason.Missing → ⊥
never_missing d (ScriptLine.Open line bytes) e =
    other_reason (not (takes_openings d)) _ _ not_spelling
    (other_reason (not (nat_lt line d.setup.lines)) _ _ not_range
    (other_reason (not (is_after_last d.opening line && not (bytes_eq bytes zero_bytes))) _ _ not_order not_nothing)) e
never_missing d (ScriptLine.Stream host) e = stream_not_missing d host e
never_missing d (ScriptLine.NamedStream host name) e = stream_not_missing d host e
never_missing d (ScriptLine.Load line) e = op_not_missing d _ e
never_missing d (ScriptLine.Word line place value) e = op_not_missing d _ e
never_missing d (ScriptLine.Whole line bytes) e = op_not_missing d _ e
never_missing d (ScriptLine.Pick pick) e = pick_not_missing (nat_le pick 65535) e
  where
    pick_not_missing : (b : Bool) → cond b None (Some ScriptReason.Range) ≡ Some ScriptReason.Missing → ⊥
    pick_not_missing true e = not_nothing e
    pick_not_missing false e = not_range e

-- the failure of a line that is refused
refused_line : (d : ScriptValue) (rest : List ℕ) (l : ScriptLine) (after : List ℕ) (reason : ScriptReason) → first_line rest ≡ Some (l, after) → line_refusal d l ≡ Some reason → LineFailure d rest reason
refused_line d rest l after ScriptReason.Spelling first refused = (
  λ e. none-some _ (sym nothing_first ∙ ap first_line (sym e) ∙ first),
  λ m more spelled begins. let same = same_Some _ _ (sym (first_again m more spelled) ∙ ap first_line (sym begins) ∙ first) in ap (λ (x : ScriptLine × List ℕ). line_refusal d x.0) same ∙ refused,
)
refused_line d rest l after ScriptReason.Range first refused = let taken = first_take rest (l, after) first in record { line = l; rest = after; spelled = taken.1; begins = taken.0; refused = refused }
refused_line d rest l after ScriptReason.Order first refused = let taken = first_take rest (l, after) first in record { line = l; rest = after; spelled = taken.1; begins = taken.0; refused = refused }
refused_line d rest l after ScriptReason.Many first refused = let taken = first_take rest (l, after) first in record { line = l; rest = after; spelled = taken.1; begins = taken.0; refused = refused }
refused_line d rest l after ScriptReason.Missing first refused = never_missing d l refused

-- a line that is refused
pub fails_at_refused : (text : List ℕ) (d : ScriptValue) (rest : List ℕ) (at : ℕ) (l : ScriptLine) (after : List ℕ) (reason : ScriptReason) → Reads text d rest → at ≡ 8 + length (body_lines d)
    → first_line rest ≡ Some (l, after) → line_refusal d l ≡ Some reason → FailsAt text at reason
unfolding script_bytes
fails_at_refused text d rest at l after reason h line first refused =
    inr (record {
      script = d;
      rest = rest;
      is = h.script;
      begins = h.text ∙ sym (append_assoc (head_bytes d) (text_of (body_lines d)) rest);
      line = line;
      fails = refused_line d rest l after reason first refused;
    })

-- the number of the next line
pub next_place : (d new : ScriptValue) (number : ℕ) (l : ScriptLine) → IsScript d → line_refusal d l ≡ None → new ≡ with_line d l
    → number ≡ 8 + length (body_lines d) → number + 1 ≡ 8 + length (body_lines new)
next_place d new number l script allowed is place =
    let lines = ap (λ (x : List ScriptLine). length x) (ap body_lines is ∙ lines-with_line d l script allowed) in
    omega (arith, lines, length-append (body_lines d) (l ∷ []), place)

-- the first line after the seven is the eighth
pub first_place : (d : ScriptValue) (c : Configuration) (room : ℕ) → d ≡ start c room → 8 ≡ 8 + length (body_lines d)
first_place d c room is =
    let none : body_lines (start c room) ≡ [] = append-nil (stream_lines [] 0 c.streams []) ∙ no_lines [] 0 c.streams in
    omega (arith, ap (λ (x : List ScriptLine). length x) (ap body_lines is ∙ none))
