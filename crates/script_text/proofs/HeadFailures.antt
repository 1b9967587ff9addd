-- Where the seven lines are refused is where a text fails in them, and the other way round.
use Rattle.std.proofs.Common.{◌≡◌, ℕ, ◌+◌, ◌^◌, ◌<◌, false, List, [], ◌∷◌, ◌++◌, length, Option, Some, None, Result, Ok, Err, refl, sym, ap, subst, ◌∙◌, inl, inr, arith, lit<}
use Rattle.std.specs.Prelude.{◌==◌, codes}
use Rattle.std.proofs.lemmas.Bool.{and_from, and_parts, eqb-true, eqb-false, le-leb, leb-true, ne_eqb}
use Rattle.std.proofs.lemmas.List.{length-append, nil_from_length}
use Rattle.std.proofs.lemmas.Option.{none-some}
use Rattle.std.specs.Fmt.{decimal}
use Rattle.cxl_message.specs.Setup.{is_within}
use Rattle.script_text.specs.declared.refusals.ScriptReason.{ScriptReason}
use Rattle.script_text.specs.declared.refusals.ScriptRefusal.{ScriptRefusal}
use Rattle.script_text.specs.Failures.{FailsInHead, HeadFailure, HeadForm, HeadLine, form_of, head_forms}
use Rattle.script_text.specs.Head.{◌>>=◌, head_at, limited, number_at, setting_in}
use Rattle.script_text.specs.Spelling.{setting}
use Rattle.script_text.proofs.HeadLaws.{number_line_again, number_line_take, setting_again, setting_take}
use Rattle.script_text.proofs.WordLaws.{Lacks, chosen}

-- a line's number and reason, of one refusal
pub same_line : {A : Type 0} (k at : ℕ) (r q : ScriptReason) → ◌≡◌ {A = Result A ScriptRefusal} (Err (ScriptRefusal.Bad k r)) (Err (ScriptRefusal.Bad at q)) → at ≡ k
same_line k at r q e = cc

pub same_reason : {A : Type 0} (k at : ℕ) (r q : ScriptReason) → ◌≡◌ {A = Result A ScriptRefusal} (Err (ScriptRefusal.Bad k r)) (Err (ScriptRefusal.Bad at q)) → r ≡ q
same_reason k at r q e = cc

pub ok-err : {A : Type 0} (x : A) (refusal : ScriptRefusal) → ◌≡◌ {A = Result A ScriptRefusal} (Ok x) (Err refusal) → ⊥
ok-err x refusal e = cc

-- the failure for the reason of a refusal
moved : (form : HeadForm) (text : List ℕ) (k at : ℕ) (r q : ScriptReason)
    → ◌≡◌ {A = Result (ℕ × List ℕ) ScriptRefusal} (Err (ScriptRefusal.Bad k r)) (Err (ScriptRefusal.Bad at q)) → HeadFailure form text r → (at ≡ k) × HeadFailure form text q
moved form text k at r q e h = (same_line k at r q e, subst (λ (x : ScriptReason). HeadFailure form text x) (same_reason k at r q e) h)

-- a number that was found is outside its limits, or none was found
limited_fails : (form : HeadForm) (k : ℕ) (text : List ℕ) (read : Option (ℕ × List ℕ)) (at : ℕ) (reason : ScriptReason) → Lacks 10 form.word → Lacks 32 form.word → (length text ≡ 0 → ⊥)
    → setting_in form.word text ≡ read → limited k form.least form.most read ≡ Err (ScriptRefusal.Bad at reason) → (at ≡ k) × HeadFailure form text reason
limited_fails form k text None at reason feed space some is e =
    moved form text k at ScriptReason.Spelling reason e
    (λ h. some (ap length h), λ n rest below h. none-some _ (sym is ∙ ap (setting_in form.word) h ∙ setting_again form.word n rest feed space below))
limited_fails form k text (Some x) at reason feed space some is e = elim (chosen (is_within form.least form.most x.0) (Ok x) (Err (ScriptRefusal.Bad k ScriptReason.Range)) (Err (ScriptRefusal.Bad at reason)) e) [
  | inl h ↦ absurd (ok-err x _ h.1)
  | inr h ↦ let found = setting_take form.word text x is in moved form text k at ScriptReason.Range reason h.1 (x.0, x.1, found.1, h.0, found.0)
]

-- a line of the seven that is refused is one where the text fails
number_fails : (form : HeadForm) (k : ℕ) (text : List ℕ) (at : ℕ) (reason : ScriptReason) → Lacks 10 form.word → Lacks 32 form.word
    → number_at k form.word form.least form.most text ≡ Err (ScriptRefusal.Bad at reason) → (at ≡ k) × HeadFailure form text reason
unfolding number_at
number_fails form k text at reason feed space e = elim (chosen (length text == 0) _ _ (Err (ScriptRefusal.Bad at reason)) e) [
  | inl h ↦ moved form text k at ScriptReason.Missing reason h.1 (nil_from_length text (eqb-true (length text) 0 h.0))
  | inr h ↦ limited_fails form k text (setting_in form.word text) at reason feed space (eqb-false (length text) 0 h.0) refl h.1
]

-- no such line is found
none_found : (form : HeadForm) (text : List ℕ) (read : Option (ℕ × List ℕ)) → ((n : ℕ) (rest : List ℕ) → n < 10 ^ 10 → text ≡ setting form.word n ++ rest → ⊥) → setting_in form.word text ≡ read → read ≡ None
none_found form text None none is = refl
none_found form text (Some x) none is = let found = setting_take form.word text x is in absurd (none x.0 x.1 found.1 found.0)

-- a line of the seven that is taken is one that the text begins with
abbrev number_begins : (form : HeadForm) (k : ℕ) (text : List ℕ) (found : ℕ × List ℕ) → number_at k form.word form.least form.most text ≡ Ok found → HeadLine form text
number_begins form k text found e =
    let read = number_line_take k form.word form.least form.most text found e in
    record { number = found.0; rest = found.1; within = and_from _ _ (le-leb form.least found.0 read.1) (le-leb found.0 form.most read.2); begins = read.0 }

-- the steps of the head: the first line fails, or it doesn't and a later one does
step : {B : Type 0} (form : HeadForm) (forms : List HeadForm) (k : ℕ) (text : List ℕ) (r : Result (ℕ × List ℕ) ScriptRefusal) (f : ℕ × List ℕ → Result B ScriptRefusal) (at : ℕ) (reason : ScriptReason)
    → Lacks 10 form.word → Lacks 32 form.word → number_at k form.word form.least form.most text ≡ r → (r >>= f) ≡ Err (ScriptRefusal.Bad at reason)
    → ((x : ℕ × List ℕ) → f x ≡ Err (ScriptRefusal.Bad at reason) → FailsInHead forms (k + 1) x.1 at reason) → FailsInHead (form ∷ forms) k text at reason
step {B = B} form forms k text (Ok x) f at reason feed space is e later = inr (number_begins form k text x is, later x e)
step {B = B} form forms k text (Err refusal) f at reason feed space is e later =
    inl (number_fails form k text at reason feed space (is ∙ refused refusal (ScriptRefusal.Bad at reason) e))
  where
    refused : (r q : ScriptRefusal) → ◌≡◌ {A = Result B ScriptRefusal} (Err r) (Err q) → ◌≡◌ {A = Result (ℕ × List ℕ) ScriptRefusal} (Err r) (Err q)
    refused r q e = cc

-- the forms from the second, third .. on
abbrev from_room : List HeadForm
from_room = form_of (codes "room") 1 200000 ∷ []

abbrev from_credits : List HeadForm
from_credits = form_of (codes "credits") 2 64 ∷ from_room

abbrev from_tags : List HeadForm
from_tags = form_of (codes "tags") 2 1024 ∷ from_credits

abbrev from_ways : List HeadForm
from_ways = form_of (codes "ways") 1 256 ∷ from_tags

abbrev from_filter : List HeadForm
from_filter = form_of (codes "filter") 1 4096 ∷ from_ways

abbrev from_lines : List HeadForm
from_lines = form_of (codes "lines") 1 65536 ∷ from_filter

-- where the head is refused, the text fails in the seven lines
pub head_fails : (text : List ℕ) (at : ℕ) (reason : ScriptReason) → head_at text ≡ Err (ScriptRefusal.Bad at reason) → FailsInHead head_forms 1 text at reason
unfolding head_at
head_fails text at reason e =
    step (form_of (codes "hosts") 1 16) from_lines 1 text _ _ at reason refl refl refl e (λ a e. step (form_of (codes "lines") 1 65536) from_filter 2 a.1 _ _ at reason refl refl refl e (λ b e.
    step (form_of (codes "filter") 1 4096) from_ways 3 b.1 _ _ at reason refl refl refl e (λ c e. step (form_of (codes "ways") 1 256) from_tags 4 c.1 _ _ at reason refl refl refl e (λ d e.
    step (form_of (codes "tags") 2 1024) from_credits 5 d.1 _ _ at reason refl refl refl e (λ f e. step (form_of (codes "credits") 2 64) from_room 6 f.1 _ _ at reason refl refl refl e (λ g e.
    step (form_of (codes "room") 1 200000) [] 7 g.1 _ _ at reason refl refl refl e (λ x e. absurd (ok-err _ _ e))))))))

-- ---- the other way round

-- where a text fails at one of the seven lines, that line is refused
number_refused : (form : HeadForm) (k : ℕ) (text : List ℕ) (reason : ScriptReason) → Lacks 10 form.word → Lacks 32 form.word → HeadFailure form text reason
    → number_at k form.word form.least form.most text ≡ Err (ScriptRefusal.Bad k reason)
unfolding number_at
number_refused form k text ScriptReason.Missing feed space h = rw h refl
number_refused form k text ScriptReason.Spelling feed space h =
    rw (ne_eqb (length text) 0 (λ e. h.0 (nil_from_length text e)), none_found form text (setting_in form.word text) h.1 refl) refl
number_refused form k text ScriptReason.Range feed space h =
    let some : (length (setting form.word h.0 ++ h.1) == 0) ≡ false =
    ne_eqb (length (setting form.word h.0 ++ h.1)) 0 (λ e. omega (arith, length-append (setting form.word h.0) h.1, length-append (form.word ++ 32 ∷ decimal h.0) (10 ∷ []))) in
    rw (h.4, some, setting_again form.word h.0 h.1 feed space h.2, h.3) refl
number_refused form k text ScriptReason.Order feed space h = absurd h
number_refused form k text ScriptReason.Many feed space h = absurd h

-- a step that fails, or goes on to one that does
back : {B : Type 0} (form : HeadForm) (forms : List HeadForm) (k : ℕ) (text : List ℕ) (f : ℕ × List ℕ → Result B ScriptRefusal) (at : ℕ) (reason : ScriptReason)
    → Lacks 10 form.word → Lacks 32 form.word → form.most < 10 ^ 10 → FailsInHead (form ∷ forms) k text at reason
    → ((x : ℕ × List ℕ) → FailsInHead forms (k + 1) x.1 at reason → f x ≡ Err (ScriptRefusal.Bad at reason)) → (number_at k form.word form.least form.most text >>= f) ≡ Err (ScriptRefusal.Bad at reason)
back {B = B} form forms k text f at reason feed space small (inl h) later = rw (number_refused form k text reason feed space h.1, h.0) refl
back {B = B} form forms k text f at reason feed space small (inr h) later =
    let line = h.0 in
    let within = and_parts _ _ line.within in
    let low = leb-true form.least line.number within.0 in
    let high = leb-true line.number form.most within.1 in
    rw (line.begins, number_line_again k form.word form.least form.most line.number line.rest feed space (omega arith) low high) (later (line.number, line.rest) h.1)

-- where a text fails in the seven lines, the head is refused
pub head_refused : (text : List ℕ) (at : ℕ) (reason : ScriptReason) → FailsInHead head_forms 1 text at reason → head_at text ≡ Err (ScriptRefusal.Bad at reason)
unfolding head_at
head_refused text at reason h =
    back (form_of (codes "hosts") 1 16) from_lines 1 text _ at reason refl refl (lit< tt) h (λ a h. back (form_of (codes "lines") 1 65536) from_filter 2 a.1 _ at reason refl refl (lit< tt) h (λ b h.
    back (form_of (codes "filter") 1 4096) from_ways 3 b.1 _ at reason refl refl (lit< tt) h (λ c h. back (form_of (codes "ways") 1 256) from_tags 4 c.1 _ at reason refl refl (lit< tt) h (λ d h.
    back (form_of (codes "tags") 2 1024) from_credits 5 d.1 _ at reason refl refl (lit< tt) h (λ f h. back (form_of (codes "credits") 2 64) from_room 6 f.1 _ at reason refl refl (lit< tt) h (λ g h.
    back (form_of (codes "room") 1 200000) [] 7 g.1 _ at reason refl refl (lit< tt) h (λ x h. absurd h)))))))
