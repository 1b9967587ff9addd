-- The snoops that a host holds: no line is in them twice, and one without an answer has its first line.
use Rattle.std.proofs.Common.{◌≡◌, ℕ, ◌+◌, ◌≤◌, ◌<◌, Bool, true, false, List, [], ◌∷◌, ◌++◌, Option, Some, cond, filter, find, length, sum_by, refl, sym, ◌∙◌, ap, subst, arith, ◌⊎◌, inl, inr}
use Rattle.std.specs.Prelude.{is_some, nat_le, not, ◌==◌}
use Rattle.std.proofs.lemmas.Bool.{and_parts, cond-false, eqb-true}
use Rattle.std.proofs.lemmas.Bool.Decides.{nat_tests}
use Rattle.std.proofs.lemmas.List.Sums.{sum_by-append, sum_by-cons}
use Rattle.std.proofs.lemmas.Option.{none-some, same_Some}
use Rattle.cxl_message.specs.declared.opcodes.SnpOp.{SnpOp}
use Rattle.cxl_message.specs.declared.opcodes.Span.{Span}
use Rattle.cxl_message.specs.Codes.{span_len}
use Rattle.cxl_message.specs.Lists.{is_in, without}
use Rattle.cxl_message.specs.Spans.{lines_of}
use Rattle.coherence_model.specs.Snoops.{Snoop, invalidates_block, is_whole_block, snoop_left, snoops_after_answer}
use Rattle.request_laws.proofs.Counts.{any_counts, length-without, list_any-count, times, times-without}

-- how often line a is in buffered snoops
abbrev pub total : ℕ → List Snoop → ℕ
total a ss = sum_by (λ s. times a s.unanswered) ss

pub total-cons : (a : ℕ) (s : Snoop) (ss : List Snoop) → total a (s ∷ ss) ≡ times a s.unanswered + total a ss
total-cons a s ss = sum_by-cons (λ (x : Snoop). times a x.unanswered) s ss

pub total-append : (a : ℕ) (ss ts : List Snoop) → total a (ss ++ ts) ≡ total a ss + total a ts
total-append a ss ts = sum_by-append (λ (x : Snoop). times a x.unanswered) ss ts

-- a line is snooped where some snoop has it
snooped-step : (b c : Bool) (s : Snoop) (found : Option Snoop) (n m : ℕ) → b ≡ nat_le 1 n → is_some found ≡ nat_le 1 m → is_some (cond b (Some s) found) ≡ nat_le 1 (n + m)
snooped-step true c s found n m h k = grind (arith, nat_tests)
snooped-step false c s found n m h k = rw k (grind (arith, nat_tests))

pub snooped-total : (a : ℕ) (ss : List Snoop) → is_some (find (λ s. is_in a s.unanswered) ss) ≡ nat_le 1 (total a ss)
snooped-total a [] = refl
snooped-total a (s ∷ ss) =
    snooped-step (is_in a s.unanswered) true s (find (λ x. is_in a x.unanswered) ss) (times a s.unanswered) (total a ss) (list_any-count (λ y. a == y) s.unanswered) (snooped-total a ss)
    ∙ ap (nat_le 1) (sym (total-cons a s ss))

-- what is left of a snoop
left-total : (a : ℕ) (s : Snoop) (zs : List ℕ) (ss : List Snoop) → total a (snoop_left s zs ++ ss) ≡ times a zs + total a ss
left-total a s [] ss = omega arith
left-total a s (z ∷ zs) ss = total-cons a (record s { unanswered = z ∷ zs }) ss

-- after the answer for line b: another line is in as many snoops
answer-other : (a b : ℕ) → (a == b) ≡ false → (s : Snoop) (ss rest : List Snoop) (here : Bool) → total a rest ≡ total a ss
    → total a (cond here (snoop_left s (without b s.unanswered) ++ ss) (s ∷ rest)) ≡ total a (s ∷ ss)
answer-other a b other s ss rest true later =
    left-total a s (without b s.unanswered) ss ∙ ap (λ n. n + total a ss) (times-without a b s.unanswered ∙ cond-false (a == b) 0 (times a s.unanswered) other) ∙ sym (total-cons a s ss)
answer-other a b other s ss rest false later = total-cons a s rest ∙ ap (λ n. times a s.unanswered + n) later ∙ sym (total-cons a s ss)

pub total-answer_other : (a b : ℕ) → (a == b) ≡ false → (ss : List Snoop) → total a (snoops_after_answer b ss) ≡ total a ss
total-answer_other a b other [] = refl
total-answer_other a b other (s ∷ ss) = answer-other a b other s ss (snoops_after_answer b ss) (is_in b s.unanswered) (total-answer_other a b other ss)

-- and no line is in more
answer-fewer : (a b : ℕ) (s : Snoop) (ss rest : List Snoop) (here : Bool) → total a rest ≤ total a ss
    → total a (cond here (snoop_left s (without b s.unanswered) ++ ss) (s ∷ rest)) ≤ total a (s ∷ ss)
answer-fewer a b s ss rest true later =
    let was = total-cons a s ss in
    let is = left-total a s (without b s.unanswered) ss in
    let less = times-without a b s.unanswered in
    rw (was, is, less) (grind arith)
answer-fewer a b s ss rest false later =
    let was = total-cons a s ss in
    let is = total-cons a s rest in
    omega arith

pub total-answer : (a b : ℕ) (ss : List Snoop) → total a (snoops_after_answer b ss) ≤ total a ss
total-answer a b [] = omega arith
total-answer a b (s ∷ ss) = answer-fewer a b s ss (snoops_after_answer b ss) (is_in b s.unanswered) (total-answer a b ss)

filter-step : (a : ℕ) (s : Snoop) (ss rest : List Snoop) (keep : Bool) → total a rest ≤ total a ss → total a (cond keep (s ∷ rest) rest) ≤ total a (s ∷ ss)
filter-step a s ss rest true later = let was = total-cons a s ss in let is = total-cons a s rest in omega arith
filter-step a s ss rest false later = let was = total-cons a s ss in omega arith

pub total-filter : (a : ℕ) (q : Snoop → Bool) (ss : List Snoop) → total a (filter q ss) ≤ total a ss
total-filter a q [] = omega arith
total-filter a q (s ∷ ss) = filter-step a s ss (filter q ss) (q s) (total-filter a q ss)

-- a snoop has no more lines than its span, and its first line while none was answered
pub record IsSound (s : Snoop) : Type 0 where
  pub few : length s.unanswered ≤ span_len s.span
  pub whole : length s.unanswered ≡ span_len s.span → 1 ≤ times s.first s.unanswered

abbrev pub AreSound : List Snoop → Type 0
AreSound [] = Unit {0}
AreSound (s ∷ ss) = IsSound s × AreSound ss

pub sound-append : (ss ts : List Snoop) → AreSound ss → AreSound ts → AreSound (ss ++ ts)
sound-append [] ts h k = k
sound-append (s ∷ ss) ts h k = (h.0, sound-append ss ts h.1 k)

sound-keep : (s : Snoop) (rest : List Snoop) (keep : Bool) → IsSound s → AreSound rest → AreSound (cond keep (s ∷ rest) rest)
sound-keep s rest true h k = (h, k)
sound-keep s rest false h k = k

pub sound-filter : (q : Snoop → Bool) (ss : List Snoop) → AreSound ss → AreSound (filter q ss)
sound-filter q [] h = tt
sound-filter q (s ∷ ss) h = sound-keep s (filter q ss) (q s) h.0 (sound-filter q ss h.1)

sound-left : (s : Snoop) (zs : List ℕ) → length zs < span_len s.span → AreSound (snoop_left s zs)
sound-left s [] less = tt
sound-left s (z ∷ zs) less = (record { few = omega arith; whole = λ same. absurd (omega arith) }, tt)

sound-answered : (b : ℕ) (s : Snoop) (ss rest : List Snoop) (here : Bool) → is_in b s.unanswered ≡ here → IsSound s → AreSound ss → AreSound rest
    → AreSound (cond here (snoop_left s (without b s.unanswered) ++ ss) (s ∷ rest))
sound-answered b s ss rest true is h k later =
    let gone = any_counts (λ y. b == y) s.unanswered is in
    let left = length-without b s.unanswered in
    let few = h.few in
    sound-append (snoop_left s (without b s.unanswered)) ss (sound-left s (without b s.unanswered) (omega arith)) k
sound-answered b s ss rest false is h k later = (h, later)

pub sound-answer : (b : ℕ) (ss : List Snoop) → AreSound ss → AreSound (snoops_after_answer b ss)
sound-answer b [] h = tt
sound-answer b (s ∷ ss) h = sound-answered b s ss (snoops_after_answer b ss) (is_in b s.unanswered) refl h.0 h.1 (sound-answer b ss h.1)

-- a snoop as it was taken is sound
length-lines : (first : ℕ) (span : Span) → length (lines_of first span) ≡ span_len span
length-lines first Span.One = refl
length-lines first Span.Two = refl
length-lines first Span.Four = refl

first-covered : (first : ℕ) (span : Span) → 1 ≤ times first (lines_of first span)
first-covered first Span.One = grind (arith, nat_tests)
first-covered first Span.Two = grind (arith, nat_tests)
first-covered first Span.Four = grind (arith, nat_tests)

pub sound-taken : (op : SnpOp) (first : ℕ) (span : Span) → IsSound (record { op = op; first = first; span = span; unanswered = lines_of first span })
sound-taken op first span = let same = length-lines first span in record { few = omega arith; whole = λ same. first-covered first span }

-- a whole block has its first line
pub whole_has_first : (first : ℕ) (s : Snoop) → IsSound s → is_whole_block first s ≡ true → 1 ≤ times first s.unanswered
whole_has_first first s sound is =
    let parts = and_parts _ _ is in
    let named = and_parts (invalidates_block s.op) (s.first == first) parts.0 in
    subst (λ x. 1 ≤ times x s.unanswered) (eqb-true s.first first named.1) (sound.whole (eqb-true (length s.unanswered) (span_len s.span) parts.1))

-- where no snoop has its first line, no whole block is taken away
none-step : (a first : ℕ) (s : Snoop) (ss rest : List Snoop) (whole : Bool) → is_whole_block first s ≡ whole → IsSound s → total first (s ∷ ss) ≡ 0 → total a rest ≡ total a ss
    → total a (cond (not whole) (s ∷ rest) rest) ≡ total a (s ∷ ss)
none-step a first s ss rest true is sound none later =
    let has = whole_has_first first s sound is in
    let sum = total-cons first s ss in
    absurd (omega arith)
none-step a first s ss rest false is sound none later = total-cons a s rest ∙ ap (λ n. times a s.unanswered + n) later ∙ sym (total-cons a s ss)

none_whole : (a first : ℕ) (ss : List Snoop) → AreSound ss → total first ss ≡ 0 → total a (filter (λ s. not (is_whole_block first s)) ss) ≡ total a ss
none_whole a first [] h none = refl
none_whole a first (s ∷ ss) h none =
    let sum = total-cons first s ss in
    none-step a first s ss (filter (λ x. not (is_whole_block first x)) ss) (is_whole_block first s) refl h.0 none (none_whole a first ss h.1 (omega arith))

-- a line stays snooped when a whole block is answered, unless it is one of that block
whole-step : (a first : ℕ) (s t : Snoop) (ss : List Snoop) (whole : Bool) → is_whole_block first s ≡ whole → IsSound s → AreSound ss → total first (s ∷ ss) ≤ 1
    → cond whole (Some s) (find (is_whole_block first) ss) ≡ Some t → 1 ≤ total a (s ∷ ss)
    → (total first ss ≤ 1 → find (is_whole_block first) ss ≡ Some t → 1 ≤ total a ss → (1 ≤ total a (filter (λ x. not (is_whole_block first x)) ss)) ⊎ (1 ≤ times a t.unanswered))
    → (1 ≤ total a (cond (not whole) (s ∷ filter (λ x. not (is_whole_block first x)) ss) (filter (λ x. not (is_whole_block first x)) ss))) ⊎ (1 ≤ times a t.unanswered)
whole-step a first s t ss true is sound sounds few found some later =
    let has = whole_has_first first s sound is in
    let sum = total-cons first s ss in
    let rest = none_whole a first ss sounds (omega arith) in
    let here = total-cons a s ss in
    elim (one_or_more (times a s.unanswered) (total a ss) (omega arith)) [
      | inl n ↦ inr (subst (λ (x : Snoop). 1 ≤ times a x.unanswered) (same_Some s t found) n)
      | inr n ↦ inl (subst (λ m. 1 ≤ m) (sym rest) n)
    ]
  where
    one_or_more : (n m : ℕ) → 1 ≤ n + m → (1 ≤ n) ⊎ (1 ≤ m)
    one_or_more n m h = grind arith
whole-step a first s t ss false is sound sounds few found some later =
    let sum = total-cons first s ss in
    let here = total-cons a s ss in
    let kept = total-cons a s (filter (λ x. not (is_whole_block first x)) ss) in
    elim (none_or_more (times a s.unanswered)) [
      | inl n ↦ elim (later (omega arith) found (omega arith)) [
        | inl more ↦ inl (omega arith)
        | inr more ↦ inr more
      ]
      | inr n ↦ inl (omega arith)
    ]
  where
    none_or_more : (n : ℕ) → (n ≡ 0) ⊎ (1 ≤ n)
    none_or_more n = grind arith

pub kept_by_block_answer : (a first : ℕ) (t : Snoop) (ss : List Snoop) → AreSound ss → total first ss ≤ 1 → find (is_whole_block first) ss ≡ Some t → 1 ≤ total a ss
    → (1 ≤ total a (filter (λ s. not (is_whole_block first s)) ss)) ⊎ (1 ≤ times a t.unanswered)
kept_by_block_answer a first t [] h few found some = absurd (none-some t found)
kept_by_block_answer a first t (s ∷ ss) h few found some =
    whole-step a first s t ss (is_whole_block first s) refl h.0 h.1 few found some (λ few' found' some'. kept_by_block_answer a first t ss h.1 few' found' some')
