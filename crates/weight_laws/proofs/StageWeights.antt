-- What an event of a host does to the weight of its snooped lines.
use Rattle.std.proofs.Common.{◌≡◌, ℕ, ◌+◌, ◌*◌, ◌≤◌, Bool, true, false, List, [], ◌∷◌, ◌++◌, Option, Some, cond, filter, find, flat_map, length, sum_by, refl, sym, ◌∙◌, ap, subst, arith, ◌⊎◌, inl, inr}
use Rattle.std.specs.Prelude.{is_some, not, ◌==◌, ◌||◌}
use Rattle.std.specs.List.{list_all}
use Rattle.std.proofs.lemmas.Bool.{cond-false, cond-true, eq-eqb, eqb-true, false≢true, or_cases, or_left, or_right}
use Rattle.std.proofs.lemmas.List.Sums.{sum_by-append, sum_by-cons}
use Rattle.std.proofs.lemmas.Option.{none-some}
use Rattle.cxl_message.specs.declared.events.Act.{Act}
use Rattle.cxl_message.specs.declared.events.Cause.{Cause}
use Rattle.cxl_message.specs.declared.events.Event.{Event}
use Rattle.cxl_message.specs.declared.identifiers.BiTag.{BiTag}
use Rattle.cxl_message.specs.declared.identifiers.Line.{Line}
use Rattle.cxl_message.specs.declared.identifiers.Tag.{Tag}
use Rattle.cxl_message.specs.declared.messages.Message.{Message}
use Rattle.cxl_message.specs.declared.opcodes.NdrOp.{NdrOp}
use Rattle.cxl_message.specs.declared.opcodes.SnpOp.{SnpOp}
use Rattle.cxl_message.specs.declared.opcodes.Span.{Span}
use Rattle.cxl_message.specs.Codes.{span_len}
use Rattle.cxl_message.specs.Lists.{is_in, without}
use Rattle.cxl_message.specs.Setup.{Configuration}
use Rattle.cxl_message.specs.Spans.{covers, lines_of}
use Rattle.coherence_model.specs.Snoops.{Snoop, buffered_snoops, is_snooped, is_whole_block, snoop_left, snoops_after, snoops_after_answer}
use Rattle.coherence_model.specs.Stages.{Stage, is_new, is_new_or_late, stage, stage_after, stage_after_ack, stage_after_completion, stage_after_ndr, was_completed}
use Rattle.coherence_model.specs.Transactions.{Transaction, open_at}
use Rattle.coherence_model.specs.Weight.{snoop_weight, stage_weight}
use Rattle.entry_laws.proofs.Blocks.{covers_from}
use Rattle.request_laws.proofs.Conflicts.{uncovered}
use Rattle.request_laws.proofs.SnoopsKept.{snooped_counts}
use Rattle.step_laws.proofs.Counts.{sum_by-flat_map}
use Rattle.weight_laws.proofs.Sums.{list_le, list_less}

-- the lines of snoops that have no answer
abbrev pub lines_in : List Snoop → List ℕ
lines_in ss = flat_map (λ (s : Snoop). s.unanswered) ss

-- what the snooped lines weigh
abbrev pub lines_weight : Configuration → List Event → ℕ
lines_weight setup mine = sum_by (λ a. stage_weight (stage setup a mine)) (lines_in (buffered_snoops mine))

-- what they weigh after a cause
abbrev pub lines_weight_after : Configuration → Cause → List Event → ℕ
lines_weight_after setup cause mine = sum_by (λ a. stage_weight (stage_after setup a cause mine (stage setup a mine))) (lines_in (snoops_after cause (buffered_snoops mine)))

-- the snoops' weights are two for each and those of the lines
snoops_weigh_by : (f : ℕ → ℕ) (ss : List Snoop) → sum_by (λ (s : Snoop). 2 + sum_by f s.unanswered) ss ≡ 2 * length ss + sum_by (λ (s : Snoop). sum_by f s.unanswered) ss
snoops_weigh_by f [] = refl
snoops_weigh_by f (s ∷ ss) =
    let whole = sum_by-cons (λ (x : Snoop). 2 + sum_by f x.unanswered) s ss in
    let lines = sum_by-cons (λ (x : Snoop). sum_by f x.unanswered) s ss in
    let rest = snoops_weigh_by f ss in
    omega arith

pub snoops_weigh : (setup : Configuration) (mine : List Event) → sum_by (snoop_weight setup mine) (buffered_snoops mine) ≡ 2 * length (buffered_snoops mine) + lines_weight setup mine
snoops_weigh setup mine =
    snoops_weigh_by (λ a. stage_weight (stage setup a mine)) (buffered_snoops mine)
    ∙ ap (λ n. 2 * length (buffered_snoops mine) + n) (sym (sum_by-flat_map (λ a. stage_weight (stage setup a mine)) (λ (s : Snoop). s.unanswered) (buffered_snoops mine)))

-- ---- lines of snoops

in_append : (a : ℕ) (xs ys : List ℕ) → (is_in a xs ≡ true) ⊎ (is_in a ys ≡ true) → is_in a (xs ++ ys) ≡ true
in_append a [] ys (inl h) = absurd (false≢true h)
in_append a [] ys (inr h) = h
in_append a (x ∷ xs) ys (inl h) =
    elim (or_cases (a == x) (is_in a xs) h) [
      | inl here ↦ or_left (a == x) (is_in a (xs ++ ys)) here
      | inr later ↦ or_right (a == x) (is_in a (xs ++ ys)) (in_append a xs ys (inl later))
    ]
in_append a (x ∷ xs) ys (inr h) = or_right (a == x) (is_in a (xs ++ ys)) (in_append a xs ys (inr h))

from_append : (a : ℕ) (xs ys : List ℕ) → is_in a (xs ++ ys) ≡ true → (is_in a xs ≡ true) ⊎ (is_in a ys ≡ true)
from_append a [] ys h = inr h
from_append a (x ∷ xs) ys h =
    elim (or_cases (a == x) (is_in a (xs ++ ys)) h) [
      | inl here ↦ inl (or_left (a == x) (is_in a xs) here)
      | inr later ↦ elim (from_append a xs ys later) [ inl rest ↦ inl (or_right (a == x) (is_in a xs) rest) | inr other ↦ inr other ]
    ]

snooped_by : (a : ℕ) (s : Snoop) (ss : List Snoop) (here : Bool) → is_in a s.unanswered ≡ here → (is_some (find (λ (r : Snoop). is_in a r.unanswered) ss) ≡ true → is_in a (lines_in ss) ≡ true)
    → is_some (cond here (Some s) (find (λ (r : Snoop). is_in a r.unanswered) ss)) ≡ true → is_in a (s.unanswered ++ lines_in ss) ≡ true
snooped_by a s ss true is later some = in_append a s.unanswered (lines_in ss) (inl is)
snooped_by a s ss false is later some = in_append a s.unanswered (lines_in ss) (inr (later some))

-- a snooped line is one of them
pub snooped_in : (a : ℕ) (ss : List Snoop) → is_some (find (λ (s : Snoop). is_in a s.unanswered) ss) ≡ true → is_in a (lines_in ss) ≡ true
snooped_in a [] some = absurd (false≢true some)
snooped_in a (s ∷ ss) some = snooped_by a s ss (is_in a s.unanswered) refl (snooped_in a ss) some

found_by : (a : ℕ) (s : Snoop) (ss : List Snoop) (here : Bool) → is_in a s.unanswered ≡ here → (is_in a (lines_in ss) ≡ true → is_some (find (λ (r : Snoop). is_in a r.unanswered) ss) ≡ true)
    → (is_in a s.unanswered ≡ true) ⊎ (is_in a (lines_in ss) ≡ true) → is_some (cond here (Some s) (find (λ (r : Snoop). is_in a r.unanswered) ss)) ≡ true
found_by a s ss true is later there = refl
found_by a s ss false is later (inl here) = absurd (false≢true (sym is ∙ here))
found_by a s ss false is later (inr rest) = later rest

-- and each of them is snooped
pub in_snooped : (a : ℕ) (ss : List Snoop) → is_in a (lines_in ss) ≡ true → is_some (find (λ (s : Snoop). is_in a s.unanswered) ss) ≡ true
in_snooped a [] there = absurd (false≢true there)
in_snooped a (s ∷ ss) there = found_by a s ss (is_in a s.unanswered) refl (in_snooped a ss) (from_append a s.unanswered (lines_in ss) there)

-- ---- takes

acked_less : (o : Option Transaction) (t : ℕ) (b c : Bool) → was_completed o ≡ c → stage_weight (cond b (cond c Stage.Late Stage.Early) (Stage.Asked t)) ≤ 12
acked_less o t true true is = omega arith
acked_less o t true false is = omega arith
acked_less o t false c is = omega arith

ack_less : (tag a : ℕ) (mine : List Event) (st : Stage) → stage_weight (stage_after_ack tag a mine st) ≤ stage_weight st
ack_less tag a mine Stage.New = omega arith
ack_less tag a mine (Stage.Asked t) = acked_less (open_at a mine) t (t == tag) (was_completed (open_at a mine)) refl
ack_less tag a mine Stage.Early = omega arith
ack_less tag a mine Stage.Late = omega arith
ack_less tag a mine Stage.Writing = omega arith
ack_less tag a mine Stage.Written = omega arith

written_less : (b : Bool) → stage_weight (cond b Stage.Written Stage.Writing) ≤ 4
written_less true = omega arith
written_less false = omega arith

completion_less : (setup : Configuration) (tag : ℕ) (st : Stage) → stage_weight (stage_after_completion setup tag st) ≤ stage_weight st
completion_less setup tag Stage.New = omega arith
completion_less setup tag (Stage.Asked t) = omega arith
completion_less setup tag Stage.Early = omega arith
completion_less setup tag Stage.Late = omega arith
completion_less setup tag Stage.Writing = written_less (tag == setup.tags)
completion_less setup tag Stage.Written = omega arith

ndr_less : (setup : Configuration) (op : NdrOp) (tag a : ℕ) (mine : List Event) (st : Stage) → stage_weight (stage_after_ndr setup op tag a mine st) ≤ stage_weight st
ndr_less setup NdrOp.Cmp tag a mine st = completion_less setup tag st
ndr_less setup NdrOp.CmpS tag a mine st = omega arith
ndr_less setup NdrOp.CmpE tag a mine st = omega arith
ndr_less setup NdrOp.ConflictAck tag a mine st = ack_less tag a mine st

-- an NDR message
pub ndr_weighs : (setup : Configuration) (host : ℕ) (op : NdrOp) (tag : Tag) (mine : List Event) → lines_weight_after setup (Cause.Take host (Message.Ndr op tag)) mine ≤ lines_weight setup mine
ndr_weighs setup host op tag mine =
    list_le (λ a. stage_weight (stage_after_ndr setup op tag.0 a mine (stage setup a mine))) (λ a. stage_weight (stage setup a mine)) (lines_in (buffered_snoops mine)) (λ a there. ndr_less setup op tag.0 a mine (stage setup a mine))

-- the lines of a snoop that is taken
lines_append : (ss ts : List Snoop) → lines_in (ss ++ ts) ≡ lines_in ss ++ lines_in ts
lines_append [] ts = refl
lines_append (s ∷ ss) ts = ap (λ xs. s.unanswered ++ xs) (lines_append ss ts) ∙ sym (assoc s.unanswered (lines_in ss) (lines_in ts))
  where
    assoc : (xs ys zs : List ℕ) → (xs ++ ys) ++ zs ≡ xs ++ (ys ++ zs)
    assoc [] ys zs = refl
    assoc (x ∷ xs) ys zs = ap (λ rest. x ∷ rest) (assoc xs ys zs)

new_at : (f : ℕ → Stage) (first : ℕ) (span : Span) (a : ℕ) → covers first span a ≡ true → stage_weight (cond (covers first span a) Stage.New (f a)) ≡ 20
new_at f first span a is = ap stage_weight (cond-true (covers first span a) Stage.New (f a) is)

new_lines : (f : ℕ → Stage) (first : ℕ) (span : Span) → sum_by (λ a. stage_weight (cond (covers first span a) Stage.New (f a))) (lines_of first span) ≡ 20 * span_len span
new_lines f first Span.One =
    let one = new_at f first Span.One (first + 0) (covers_from first Span.One (first + 0) (omega arith) (omega arith)) in
    omega arith
new_lines f first Span.Two =
    let one = new_at f first Span.Two (first + 0) (covers_from first Span.Two (first + 0) (omega arith) (omega arith)) in
    let two = new_at f first Span.Two (first + 1) (covers_from first Span.Two (first + 1) (omega arith) (omega arith)) in
    omega arith
new_lines f first Span.Four =
    let one = new_at f first Span.Four (first + 0) (covers_from first Span.Four (first + 0) (omega arith) (omega arith)) in
    let two = new_at f first Span.Four (first + 1) (covers_from first Span.Four (first + 1) (omega arith) (omega arith)) in
    let three = new_at f first Span.Four (first + 2) (covers_from first Span.Four (first + 2) (omega arith) (omega arith)) in
    let four = new_at f first Span.Four (first + 3) (covers_from first Span.Four (first + 3) (omega arith) (omega arith)) in
    omega arith

-- a snoop
pub snoop_weighs :
    (setup : Configuration) (host : ℕ) (op : SnpOp) (bitag : BiTag) (line : Line) (span : Span) (mine : List Event)
    → list_all (λ b. not (is_snooped b mine)) (lines_of line.0 span) ≡ true → lines_weight_after setup (Cause.Take host (Message.BiSnp op bitag line span)) mine ≤ lines_weight setup mine + 20 * span_len span
snoop_weighs setup host op bitag line span mine free =
    let f : ℕ → ℕ = λ a. stage_weight (cond (covers line.0 span a) Stage.New (stage setup a mine)) in
    let s : Snoop = record { op = op; first = line.0; span = span; unanswered = lines_of line.0 span } in
    let joined = ap (sum_by f) (lines_append (buffered_snoops mine) (s ∷ [])) ∙ sum_by-append f (lines_in (buffered_snoops mine)) (lines_in (s ∷ [])) in
    let alone = sum_by-append f (lines_of line.0 span) [] in
    let new = new_lines (λ a. stage setup a mine) line.0 span in
    let old = list_le f (λ a. stage_weight (stage setup a mine)) (lines_in (buffered_snoops mine))
    (λ a there. same_weight a (uncovered mine a line.0 span free (snooped_counts a mine (in_snooped a (buffered_snoops mine) there)))) in
    omega arith
  where
    same_weight : (a : ℕ) → covers line.0 span a ≡ false → stage_weight (cond (covers line.0 span a) Stage.New (stage setup a mine)) ≤ stage_weight (stage setup a mine)
    same_weight a outside = let same = ap stage_weight (cond-false (covers line.0 span a) Stage.New (stage setup a mine) outside) in omega arith

-- ---- acts on one line

asked_less : (b : Bool) (n : ℕ) (st : Stage) → (b ≡ true → is_new st ≡ true) → stage_weight (cond b (Stage.Asked n) st) ≤ stage_weight st
asked_less true n Stage.New new = omega arith
asked_less true n (Stage.Asked t) new = absurd (false≢true (new refl))
asked_less true n Stage.Early new = absurd (false≢true (new refl))
asked_less true n Stage.Late new = absurd (false≢true (new refl))
asked_less true n Stage.Writing new = absurd (false≢true (new refl))
asked_less true n Stage.Written new = absurd (false≢true (new refl))
asked_less false n st new = omega arith

asked_at : (b : Bool) (n : ℕ) (st : Stage) → b ≡ true → is_new st ≡ true → stage_weight (cond b (Stage.Asked n) st) + 8 ≤ stage_weight st
asked_at true n Stage.New is new = omega arith
asked_at true n (Stage.Asked t) is new = absurd (false≢true new)
asked_at true n Stage.Early is new = absurd (false≢true new)
asked_at true n Stage.Late is new = absurd (false≢true new)
asked_at true n Stage.Writing is new = absurd (false≢true new)
asked_at true n Stage.Written is new = absurd (false≢true new)
asked_at false n st is new = absurd (false≢true is)

-- Conflict
pub conflict_weighs : (setup : Configuration) (l : ℕ) (mine : List Event) → is_snooped l mine ≡ true → is_new (stage setup l mine) ≡ true
    → lines_weight_after setup (Cause.Act (Act.Conflict (record { 0 = l }))) mine + 8 ≤ lines_weight setup mine
conflict_weighs setup l mine snooped new =
    list_less _ (λ a. stage_weight (stage setup a mine)) (lines_in (buffered_snoops mine)) l 8 (snooped_in l (buffered_snoops mine) snooped)
    (λ a there. asked_less (l == a) _ (stage setup a mine) (λ is. subst (λ x. is_new (stage setup x mine) ≡ true) (eqb-true l a is) new))
    (asked_at (l == l) _ (stage setup l mine) (eq-eqb l l refl) new)

writing_less : (b : Bool) (st : Stage) → (b ≡ true → is_new_or_late st ≡ true) → stage_weight (cond b Stage.Writing st) ≤ stage_weight st
writing_less true Stage.New ready = omega arith
writing_less true (Stage.Asked t) ready = absurd (false≢true (ready refl))
writing_less true Stage.Early ready = absurd (false≢true (ready refl))
writing_less true Stage.Late ready = omega arith
writing_less true Stage.Writing ready = absurd (false≢true (ready refl))
writing_less true Stage.Written ready = absurd (false≢true (ready refl))
writing_less false st ready = omega arith

writing_at : (b : Bool) (st : Stage) → b ≡ true → is_new_or_late st ≡ true → stage_weight (cond b Stage.Writing st) + 8 ≤ stage_weight st
writing_at true Stage.New is ready = omega arith
writing_at true (Stage.Asked t) is ready = absurd (false≢true ready)
writing_at true Stage.Early is ready = absurd (false≢true ready)
writing_at true Stage.Late is ready = omega arith
writing_at true Stage.Writing is ready = absurd (false≢true ready)
writing_at true Stage.Written is ready = absurd (false≢true ready)
writing_at false st is ready = absurd (false≢true is)

-- WriteBack
pub write_back_weighs : (setup : Configuration) (l : ℕ) (mine : List Event) → is_snooped l mine ≡ true → is_new_or_late (stage setup l mine) ≡ true
    → lines_weight_after setup (Cause.Act (Act.WriteBack (record { 0 = l }))) mine + 8 ≤ lines_weight setup mine
write_back_weighs setup l mine snooped ready =
    list_less _ (λ a. stage_weight (stage setup a mine)) (lines_in (buffered_snoops mine)) l 8 (snooped_in l (buffered_snoops mine) snooped)
    (λ a there. writing_less (l == a) (stage setup a mine) (λ is. subst (λ x. is_new_or_late (stage setup x mine) ≡ true) (eqb-true l a is) ready))
    (writing_at (l == l) (stage setup l mine) (eq-eqb l l refl) ready)

-- ---- answers

without_by : (f : ℕ → ℕ) (x y : ℕ) (ys rest : List ℕ) (here : Bool) → (x == y) ≡ here → sum_by f rest ≤ sum_by f ys → (is_in x ys ≡ true → sum_by f rest + f x ≤ sum_by f ys) → (here || is_in x ys) ≡ true
    → sum_by f (cond (not here) (y ∷ rest) rest) + f x ≤ sum_by f (y ∷ ys)
without_by f x y ys rest true is less later there = let whole = sum_by-cons f y ys in let same : f x ≡ f y = ap f (eqb-true x y is) in omega arith
without_by f x y ys rest false is less later there =
    let whole = sum_by-cons f y ys in
    let left = sum_by-cons f y rest in
    let tail = later there in
    omega arith

fewer_by : (f : ℕ → ℕ) (y : ℕ) (ys rest : List ℕ) (keep : Bool) → sum_by f rest ≤ sum_by f ys → sum_by f (cond keep (y ∷ rest) rest) ≤ sum_by f (y ∷ ys)
fewer_by f y ys rest true less = let whole = sum_by-cons f y ys in let left = sum_by-cons f y rest in omega arith
fewer_by f y ys rest false less = let whole = sum_by-cons f y ys in omega arith

without_less : (f : ℕ → ℕ) (x : ℕ) (ys : List ℕ) → sum_by f (without x ys) ≤ sum_by f ys
without_less f x [] = omega arith
without_less f x (y ∷ ys) = fewer_by f y ys (without x ys) (not (x == y)) (without_less f x ys)

without_one : (f : ℕ → ℕ) (x : ℕ) (ys : List ℕ) → is_in x ys ≡ true → sum_by f (without x ys) + f x ≤ sum_by f ys
without_one f x [] there = absurd (false≢true there)
without_one f x (y ∷ ys) there = without_by f x y ys (without x ys) (x == y) refl (without_less f x ys) (without_one f x ys) there

left_sum : (f : ℕ → ℕ) (s : Snoop) (zs : List ℕ) (ss : List Snoop) → sum_by f (lines_in (snoop_left s zs ++ ss)) ≡ sum_by f zs + sum_by f (lines_in ss)
left_sum f s [] ss = omega arith
left_sum f s (z ∷ zs) ss = sum_by-append f (z ∷ zs) (lines_in ss)

answer_by : (f : ℕ → ℕ) (x : ℕ) (s : Snoop) (ss rest : List Snoop) (here : Bool) → is_in x s.unanswered ≡ here → (is_some (find (λ (r : Snoop). is_in x r.unanswered) ss) ≡ true → sum_by f (lines_in rest) + f x ≤ sum_by f (lines_in ss))
    → is_some (cond here (Some s) (find (λ (r : Snoop). is_in x r.unanswered) ss)) ≡ true → sum_by f (lines_in (cond here (snoop_left s (without x s.unanswered) ++ ss) (s ∷ rest))) + f x ≤ sum_by f (s.unanswered ++ lines_in ss)
answer_by f x s ss rest true is later some =
    let whole = sum_by-append f s.unanswered (lines_in ss) in
    let left = left_sum f s (without x s.unanswered) ss in
    let gone = without_one f x s.unanswered is in
    omega arith
answer_by f x s ss rest false is later some =
    let whole = sum_by-append f s.unanswered (lines_in ss) in
    let left = sum_by-append f s.unanswered (lines_in rest) in
    let tail = later some in
    omega arith

answer_less : (f : ℕ → ℕ) (x : ℕ) (ss : List Snoop) → is_some (find (λ (s : Snoop). is_in x s.unanswered) ss) ≡ true → sum_by f (lines_in (snoops_after_answer x ss)) + f x ≤ sum_by f (lines_in ss)
answer_less f x [] some = absurd (false≢true some)
answer_less f x (s ∷ ss) some = answer_by f x s ss (snoops_after_answer x ss) (is_in x s.unanswered) refl (answer_less f x ss) some

four_at_least : (st : Stage) → 4 ≤ stage_weight st
four_at_least Stage.New = omega arith
four_at_least (Stage.Asked t) = omega arith
four_at_least Stage.Early = omega arith
four_at_least Stage.Late = omega arith
four_at_least Stage.Writing = omega arith
four_at_least Stage.Written = omega arith

-- Answer
pub answer_weighs : (setup : Configuration) (l : ℕ) (mine : List Event) → is_snooped l mine ≡ true → lines_weight_after setup (Cause.Act (Act.Answer (record { 0 = l }))) mine + 4 ≤ lines_weight setup mine
answer_weighs setup l mine snooped =
    let less = answer_less (λ a. stage_weight (stage setup a mine)) l (buffered_snoops mine) snooped in
    let four = four_at_least (stage setup l mine) in
    omega arith

block_by : (f : ℕ → ℕ) (q : Snoop → Bool) (s : Snoop) (ss : List Snoop) (d : ℕ) (here : Bool) → q s ≡ here → d ≤ sum_by f s.unanswered → sum_by f (lines_in (filter (λ r. not (q r)) ss)) ≤ sum_by f (lines_in ss)
    → sum_by f (lines_in (cond (not here) (s ∷ filter (λ r. not (q r)) ss) (filter (λ r. not (q r)) ss))) ≤ sum_by f (s.unanswered ++ lines_in ss)
block_by f q s ss d true is some less = let whole = sum_by-append f s.unanswered (lines_in ss) in omega arith
block_by f q s ss d false is some less =
    let whole = sum_by-append f s.unanswered (lines_in ss) in
    let left = sum_by-append f s.unanswered (lines_in (filter (λ r. not (q r)) ss)) in
    omega arith

block_fewer : (f : ℕ → ℕ) (q : Snoop → Bool) (ss : List Snoop) → sum_by f (lines_in (filter (λ r. not (q r)) ss)) ≤ sum_by f (lines_in ss)
block_fewer f q [] = omega arith
block_fewer f q (s ∷ ss) = block_by f q s ss 0 (q s) refl (omega arith) (block_fewer f q ss)

block_gone_by : (f : ℕ → ℕ) (q : Snoop → Bool) (s x : Snoop) (ss : List Snoop) (here : Bool) → q s ≡ here → (find q ss ≡ Some x → sum_by f (lines_in (filter (λ r. not (q r)) ss)) + sum_by f x.unanswered ≤ sum_by f (lines_in ss))
    → cond here (Some s) (find q ss) ≡ Some x → sum_by f (lines_in (cond (not here) (s ∷ filter (λ r. not (q r)) ss) (filter (λ r. not (q r)) ss))) + sum_by f x.unanswered ≤ sum_by f (s.unanswered ++ lines_in ss)
block_gone_by f q s x ss true is later found =
    let same : s ≡ x = cc in
    let lines : sum_by f x.unanswered ≡ sum_by f s.unanswered = ap (λ (r : Snoop). sum_by f r.unanswered) (sym same) in
    let whole = sum_by-append f s.unanswered (lines_in ss) in
    let less = block_fewer f q ss in
    omega arith
block_gone_by f q s x ss false is later found =
    let whole = sum_by-append f s.unanswered (lines_in ss) in
    let left = sum_by-append f s.unanswered (lines_in (filter (λ r. not (q r)) ss)) in
    let tail = later found in
    omega arith

block_gone : (f : ℕ → ℕ) (q : Snoop → Bool) (ss : List Snoop) (x : Snoop) → find q ss ≡ Some x → sum_by f (lines_in (filter (λ r. not (q r)) ss)) + sum_by f x.unanswered ≤ sum_by f (lines_in ss)
block_gone f q [] x found = absurd (none-some x found)
block_gone f q (s ∷ ss) x found = block_gone_by f q s x ss (q s) refl (block_gone f q ss x) found

some_weigh : (f : ℕ → ℕ) (ys : List ℕ) → ((y : ℕ) → 4 ≤ f y) → 1 ≤ length ys → 4 ≤ sum_by f ys
some_weigh f [] four some = absurd (omega arith)
some_weigh f (y ∷ ys) four some = let whole = sum_by-cons f y ys in let one = four y in omega arith

-- AnswerBlock
pub block_weighs : (setup : Configuration) (first : ℕ) (mine : List Event) (s : Snoop) → find (is_whole_block first) (buffered_snoops mine) ≡ Some s → 1 ≤ length s.unanswered
    → lines_weight_after setup (Cause.Act (Act.AnswerBlock (record { 0 = first }))) mine + 4 ≤ lines_weight setup mine
block_weighs setup first mine s found some =
    let f : ℕ → ℕ = λ a. stage_weight (stage setup a mine) in
    let gone = block_gone f (is_whole_block first) (buffered_snoops mine) s found in
    let four = some_weigh f s.unanswered (λ y. four_at_least (stage setup y mine)) some in
    omega arith
