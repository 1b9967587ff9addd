-- Each line has one snoop at most among those that a host holds, and each first line one whole block.
use Rattle.std.proofs.Common.{◌≡◌, ℕ, ◌+◌, ◌≤◌, Bool, true, false, List, [], ◌∷◌, ◌++◌, Some, cond, refl, sym, ◌∙◌, subst, arith}
use Rattle.std.specs.Prelude.{◌==◌, not, nat_le, is_some, count_by, sum_by, filter}
use Rattle.std.specs.List.{list_all}
use Rattle.std.proofs.lemmas.Bool.{and_parts, eqb-true, leb-true, leb-false, not-true}
use Rattle.std.proofs.lemmas.Bool.Decides.{nat_tests}
use Rattle.std.proofs.lemmas.List.Sums.{sum_by-cons, sum_by_push}
use Rattle.std.proofs.lemmas.List.Filters.{sum_by-filter_both}
use Rattle.cxl_message.specs.declared.events.Act.{Act}
use Rattle.cxl_message.specs.declared.events.Cause.{Cause}
use Rattle.cxl_message.specs.declared.events.Event.{Event}
use Rattle.cxl_message.specs.declared.identifiers.Bytes64.{Bytes64}
use Rattle.cxl_message.specs.declared.identifiers.Line.{Line}
use Rattle.cxl_message.specs.declared.messages.Message.{Message}
use Rattle.cxl_message.specs.declared.opcodes.Span.{Span}
use Rattle.cxl_message.specs.Lists.{is_in, without}
use Rattle.cxl_message.specs.Setup.{Configuration}
use Rattle.cxl_message.specs.Spans.{lines_of}
use Rattle.coherence_model.specs.Credits.{has_room}
use Rattle.coherence_model.specs.Emission.{nothing}
use Rattle.coherence_model.specs.Fitting.{is_device}
use Rattle.coherence_model.specs.HostRows.{host_emission}
use Rattle.coherence_model.specs.HostTakes.{h4_snoop}
use Rattle.coherence_model.specs.Snoops.{Snoop, buffered_snoops, is_snooped, is_whole_block, snoop_at, snoop_left, snoops_after, snoops_after_act, snoops_after_answer, whole_block_at}
use Rattle.step_laws.proofs.Counts.{Each, each_from_all, counted, find-is_some, find_alone, list_any-count}
use Rattle.step_laws.proofs.HeldSnoops.{SnoopFits, held_snoops_fit}
use Rattle.coherence_model.specs.OwnRuns.{IsOwnRun}
use Rattle.coherence_model.proofs.OwnRuns.{own_event}
use Rattle.step_laws.proofs.OwnRuns.{guard-some, host-some, when-some}

-- how often line a is left in a snoop, and in all of them
abbrev pub line_count : ℕ → Snoop → ℕ
line_count a s = count_by (λ b. a == b) s.unanswered

abbrev pub held_count : ℕ → List Snoop → ℕ
held_count a ss = sum_by (line_count a) ss

filter-less : {X : Type 0} (f : X → ℕ) (p : X → Bool) (xs : List X) → sum_by f (filter p xs) ≤ sum_by f xs
filter-less f p xs = let both = sum_by-filter_both p (λ x. not (p x)) (λ x. refl) f xs in omega arith

-- an answer takes lines away
left-less : (a : ℕ) (s : Snoop) (left : List ℕ) (ss : List Snoop) → held_count a (snoop_left s left ++ ss) ≤ count_by (λ b. a == b) left + held_count a ss
left-less a s [] ss = omega arith
left-less a s (b ∷ bs) ss = let e = sum_by-cons (line_count a) (record s { unanswered = b ∷ bs }) ss in omega arith

answer-less :
    (a c : ℕ) (s : Snoop) (ss later : List Snoop) (b : Bool) → held_count a later ≤ held_count a ss
    → held_count a (cond b (snoop_left s (without c s.unanswered) ++ ss) (s ∷ later)) ≤ line_count a s + held_count a ss
answer-less a c s ss later true less =
    let one = left-less a s (without c s.unanswered) ss in
    let two = filter-less (λ b. counted (a == b)) (λ y. not (c == y)) s.unanswered in
    omega arith
answer-less a c s ss later false less = let e = sum_by-cons (line_count a) s later in omega arith

after_answer-less : (a c : ℕ) (ss : List Snoop) → held_count a (snoops_after_answer c ss) ≤ held_count a ss
after_answer-less a c [] = omega arith
after_answer-less a c (s ∷ ss) =
    let e = sum_by-cons (line_count a) s ss in
    let less = answer-less a c s ss (snoops_after_answer c ss) (is_in c s.unanswered) (after_answer-less a c ss) in
    omega arith

after_act-less : (a : ℕ) (act : Act) (ss : List Snoop) → held_count a (snoops_after_act act ss) ≤ held_count a ss
after_act-less a (Act.Conflict line) ss = omega arith
after_act-less a (Act.WriteBack line) ss = omega arith
after_act-less a (Act.Answer line) ss = after_answer-less a line.0 ss
after_act-less a (Act.AnswerBlock line) ss = filter-less (line_count a) (λ s. not (is_whole_block line.0 s)) ss
after_act-less a (Act.HostReturn c) ss = omega arith
after_act-less a (Act.Serve h tag) ss = omega arith
after_act-less a (Act.Clean h tag) ss = omega arith
after_act-less a (Act.Start h tag) ss = omega arith
after_act-less a (Act.Evict h tag) ss = omega arith
after_act-less a (Act.Snoop h line) ss = omega arith
after_act-less a (Act.Finish line) ss = omega arith
after_act-less a (Act.DeviceReturn h c) ss = omega arith

-- a line stands once at most in its span
lines_of-once : (a first : ℕ) (span : Span) → count_by (λ b. a == b) (lines_of first span) ≤ 1
lines_of-once a first Span.One = grind (arith, nat_tests)
lines_of-once a first Span.Two = grind (arith, nat_tests)
lines_of-once a first Span.Four = grind (arith, nat_tests)

-- what holds of each number of a list holds of one that is counted there
at-step : (P : ℕ → Type 0) (a b n : ℕ) (k : Bool) → (a == b) ≡ k → 1 ≤ cond k 1 0 + n → P b → (1 ≤ n → P a) → P a
at-step P a b n true is one here later = subst P (sym (eqb-true a b is)) here
at-step P a b n false is one here later = later (omega arith)

pub each_at : (P : ℕ → Type 0) (a : ℕ) (bs : List ℕ) → Each P bs → 1 ≤ count_by (λ b. a == b) bs → P a
each_at P a [] e one = absurd (omega arith)
each_at P a (b ∷ bs) e one =
    let eq = sum_by-cons (λ y. counted (a == y)) b bs in
    at-step P a b (count_by (λ y. a == y) bs) (a == b) refl (subst (λ n. 1 ≤ n) eq one) e.0 (each_at P a bs e.1)

-- a line that isn't Snooped is left in no snoop
none-left : (n m k : ℕ) (b : Bool) → b ≡ nat_le 1 n → cond b 1 0 + m ≡ 0 → (m ≡ 0 → k ≡ 0) → n + k ≡ 0
none-left n m k true is none rest = absurd (omega arith)
none-left n m k false is none rest = let few = leb-false 1 n (sym is) in let r = rest (omega arith) in omega arith

uncounted : (a : ℕ) (ss : List Snoop) → count_by (λ (s : Snoop). is_in a s.unanswered) ss ≡ 0 → held_count a ss ≡ 0
uncounted a [] h = refl
uncounted a (s ∷ ss) h =
    sum_by-cons (line_count a) s ss
    ∙ none-left (line_count a s) (count_by (λ (r : Snoop). is_in a r.unanswered) ss) (held_count a ss) (is_in a s.unanswered) (list_any-count (λ b. a == b) s.unanswered)
    (sym (sum_by-cons (λ (r : Snoop). counted (is_in a r.unanswered)) s ss) ∙ h) (uncounted a ss)

not_snooped : (a : ℕ) (mine : List Event) → not (is_snooped a mine) ≡ true → held_count a (buffered_snoops mine) ≡ 0
not_snooped a mine h =
    let none = sym (find-is_some (λ (s : Snoop). is_in a s.unanswered) (buffered_snoops mine)) ∙ not-true (is_snooped a mine) h in
    let few = leb-false 1 _ none in
    uncounted a (buffered_snoops mine) (omega arith)

-- a snoop that is taken brings no line that is left in another
taken-alone :
    (a first : ℕ) (span : Span) (mine : List Event) → list_all (λ b. not (is_snooped b mine)) (lines_of first span) ≡ true
    → held_count a (buffered_snoops mine) ≤ 1 → held_count a (buffered_snoops mine) + count_by (λ b. a == b) (lines_of first span) ≤ 1
taken-alone a first span mine free few =
    let once = lines_of-once a first span in
    let other : 1 ≤ count_by (λ b. a == b) (lines_of first span) → held_count a (buffered_snoops mine) ≡ 0 =
    λ one. not_snooped a mine (each_at (λ b. not (is_snooped b mine) ≡ true) a (lines_of first span)
    (each_from_all (λ b. not (is_snooped b mine)) (lines_of first span) free) one) in
    grind arith

-- a line has one snoop at most, after a cause whose row holds
alone-after_take :
    (setup : Configuration) (g h : ℕ) (m : Message) (mine : List Event) (a : ℕ) → is_some (host_emission setup g (Cause.Take h m) mine) ≡ true
    → held_count a (buffered_snoops mine) ≤ 1 → held_count a (snoops_after (Cause.Take h m) (buffered_snoops mine)) ≤ 1
alone-after_take setup g h (Message.Req op meta snp tag line) mine a some few = few
alone-after_take setup g h (Message.MemWr meta snp tag line bytes) mine a some few = few
alone-after_take setup g h (Message.BiConflict tag) mine a some few = few
alone-after_take setup g h (Message.BiRsp op bitag low) mine a some few = few
alone-after_take setup g h (Message.Ndr op tag) mine a some few = few
alone-after_take setup g h (Message.MemData tag bytes) mine a some few = few
alone-after_take setup g h (Message.BiSnp op bitag line span) mine a some few =
    let m : Message = Message.BiSnp op bitag line span in
    let free = guard-some (list_all (λ b. not (is_snooped b mine)) (lines_of line.0 span)) nothing
    (when-some (has_room setup g m mine) (h4_snoop line.0 span mine) some).1 in
    let alone = taken-alone a line.0 span mine free few in
    let s : Snoop = record { op = op; first = line.0; span = span; unanswered = lines_of line.0 span } in
    let e = sum_by_push (line_count a) (buffered_snoops mine) s in
    omega arith
alone-after_take setup g h (Message.Credit c) mine a some few = few

alone-after :
    (setup : Configuration) (g : ℕ) (cause : Cause) (mine : List Event) (a : ℕ) → is_some (host_emission setup g cause mine) ≡ true
    → held_count a (buffered_snoops mine) ≤ 1 → held_count a (snoops_after cause (buffered_snoops mine)) ≤ 1
alone-after setup g (Cause.Op s i op) mine a some few = few
alone-after setup g (Cause.Take h m) mine a some few = alone-after_take setup g h m mine a some few
alone-after setup g (Cause.Act act) mine a some few = let less = after_act-less a act (buffered_snoops mine) in omega arith

-- each line has one snoop at most
pub held_once :
    (setup : Configuration) (opening : List (Line × Bytes64)) (g : ℕ) (mine : List Event) → is_device g ≡ false → IsOwnRun setup opening g mine → (a : ℕ)
    → held_count a (buffered_snoops mine) ≤ 1
held_once setup opening g [] host run a = omega arith
held_once setup opening g (e ∷ mine) host run a =
    let own = own_event setup opening g e mine run in
    let some = host-some setup opening e mine (subst (λ k. is_device k ≡ false) (sym own.agent) host) own.row in
    alone-after setup e.agent e.cause mine a some (held_once setup opening g mine host own.before a)

-- what holds of each element for each number
each_for_all : {X : Type 0} (P : ℕ → X → Type 0) (xs : List X) → ((a : ℕ) → Each (P a) xs) → Each (λ x. (a : ℕ) → P a x) xs
each_for_all P [] h = tt
each_for_all P (x ∷ xs) h = (λ a. (h a).0, each_for_all P xs (λ a. (h a).1))

counted-less : (b : Bool) (n : ℕ) → b ≡ nat_le 1 n → cond b 1 0 ≤ n
counted-less true n e = leb-true 1 n (sym e)
counted-less false n e = omega arith

-- no more snoops have a line than it is left in
pub has-less : (a : ℕ) (ss : List Snoop) → count_by (λ (s : Snoop). is_in a s.unanswered) ss ≤ held_count a ss
has-less a [] = omega arith
has-less a (s ∷ ss) =
    let one = sum_by-cons (λ (r : Snoop). counted (is_in a r.unanswered)) s ss in
    let all = sum_by-cons (line_count a) s ss in
    let here = counted-less (is_in a s.unanswered) (line_count a s) (list_any-count (λ b. a == b) s.unanswered) in
    let rest = has-less a ss in
    omega arith

-- the snoop in which a line is left is the one that has the line
pub snoop_at-alone :
    (setup : Configuration) (opening : List (Line × Bytes64)) (g : ℕ) (mine : List Event) → is_device g ≡ false → IsOwnRun setup opening g mine
    → Each (λ s. (a : ℕ) → is_in a s.unanswered ≡ true → snoop_at a mine ≡ Some s) (buffered_snoops mine)
snoop_at-alone setup opening g mine host run =
    each_for_all (λ a s. is_in a s.unanswered ≡ true → snoop_at a mine ≡ Some s) (buffered_snoops mine)
    (λ a. find_alone (λ (s : Snoop). is_in a s.unanswered) (buffered_snoops mine) (let few = held_once setup opening g mine host run a in let less = has-less a (buffered_snoops mine) in omega arith))

-- a whole block has its first line left
lines_of-first : (first : ℕ) (span : Span) → 1 ≤ count_by (λ b. first == b) (lines_of first span)
lines_of-first first Span.One = grind (arith, nat_tests)
lines_of-first first Span.Two = grind (arith, nat_tests)
lines_of-first first Span.Four = grind (arith, nat_tests)

whole-first : (setup : Configuration) (b : ℕ) (s : Snoop) → SnoopFits setup s → is_whole_block b s ≡ true → 1 ≤ line_count b s
whole-first setup b s fits is =
    let parts = and_parts _ _ is in
    let first : s.first ≡ b = eqb-true s.first b (and_parts _ _ parts.0).1 in
    let all : s.unanswered ≡ lines_of s.first s.span = fits.whole (eqb-true _ _ parts.1) in
    subst (λ us. 1 ≤ count_by (λ y. b == y) us) (sym all) (subst (λ n. 1 ≤ count_by (λ y. n == y) (lines_of s.first s.span)) first (lines_of-first s.first s.span))

whole-step : (b : Bool) (n m k : ℕ) → (b ≡ true → 1 ≤ n) → m ≤ k → cond b 1 0 + m ≤ n + k
whole-step true n m k one le = let o = one refl in omega arith
whole-step false n m k one le = omega arith

wholes-less : (setup : Configuration) (b : ℕ) (ss : List Snoop) → Each (SnoopFits setup) ss → count_by (is_whole_block b) ss ≤ held_count b ss
wholes-less setup b [] fit = omega arith
wholes-less setup b (s ∷ ss) fit =
    let one = sum_by-cons (λ r. counted (is_whole_block b r)) s ss in
    let all = sum_by-cons (line_count b) s ss in
    let step = whole-step (is_whole_block b s) (line_count b s) (count_by (is_whole_block b) ss) (held_count b ss) (whole-first setup b s fit.0)
    (wholes-less setup b ss fit.1) in
    omega arith

-- there is one whole block at most with a first line
pub wholes_once :
    (setup : Configuration) (opening : List (Line × Bytes64)) (g : ℕ) (mine : List Event) → is_device g ≡ false → IsOwnRun setup opening g mine → (b : ℕ)
    → count_by (is_whole_block b) (buffered_snoops mine) ≤ 1
wholes_once setup opening g mine host run b =
    let few = held_once setup opening g mine host run b in
    let less = wholes-less setup b (buffered_snoops mine) (held_snoops_fit setup opening g mine run) in
    omega arith

-- it is the one that is found
pub whole_block-alone :
    (setup : Configuration) (opening : List (Line × Bytes64)) (g : ℕ) (mine : List Event) → is_device g ≡ false → IsOwnRun setup opening g mine
    → Each (λ s. (b : ℕ) → is_whole_block b s ≡ true → whole_block_at b mine ≡ Some s) (buffered_snoops mine)
whole_block-alone setup opening g mine host run =
    each_for_all (λ b s. is_whole_block b s ≡ true → whole_block_at b mine ≡ Some s) (buffered_snoops mine)
    (λ b. find_alone (is_whole_block b) (buffered_snoops mine) (wholes_once setup opening g mine host run b))
