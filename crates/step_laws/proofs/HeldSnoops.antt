-- The snoops that a host holds: each line has one snoop at most, and the lines left of a snoop are some of its span.
use Rattle.std.proofs.Common.{◌≡◌, ℕ, suc, ◌+◌, ◌≤◌, ◌<◌, Bool, true, false, List, [], ◌∷◌, ◌++◌, cond, length, refl, arith}
use Rattle.std.specs.Prelude.{◌==◌, ◌&&◌, ◌||◌, not, nat_lt, nat_le}
use Rattle.std.proofs.lemmas.Bool.{and_parts, and_from, leb-true, le-leb, lt-ltb, false≢true}
use Rattle.cxl_message.specs.declared.events.Act.{Act}
use Rattle.cxl_message.specs.declared.events.Cause.{Cause}
use Rattle.cxl_message.specs.declared.events.Event.{Event}
use Rattle.cxl_message.specs.declared.identifiers.Bytes64.{Bytes64}
use Rattle.cxl_message.specs.declared.identifiers.Line.{Line}
use Rattle.cxl_message.specs.declared.messages.Message.{Message}
use Rattle.cxl_message.specs.declared.opcodes.SnpOp.{SnpOp}
use Rattle.cxl_message.specs.declared.opcodes.Span.{Span}
use Rattle.cxl_message.specs.Codes.{span_len}
use Rattle.cxl_message.specs.Lists.{is_in, without}
use Rattle.cxl_message.specs.Profile.{snoop_in_profile}
use Rattle.cxl_message.specs.Setup.{Configuration}
use Rattle.cxl_message.specs.Spans.{covers, lines_of}
use Rattle.coherence_model.specs.Fitting.{cause_fits}
use Rattle.coherence_model.specs.Snoops.{Snoop, buffered_snoops, is_whole_block, snoop_left, snoops_after, snoops_after_act, snoops_after_answer}
use Rattle.step_laws.proofs.Counts.{Each, each_append, each_filter}
use Rattle.coherence_model.specs.OwnRuns.{IsOwnRun}
use Rattle.coherence_model.proofs.OwnRuns.{own_event}
use Rattle.coherence_lemmas.proofs.Allowed.{profiled}
use Rattle.step_laws.proofs.Profile.{taken_message_fits}

-- a snoop as a host may hold it
pub record SnoopFits (setup : Configuration) (s : Snoop) : Type 0 where
  pub kind : snoop_in_profile s.op s.span ≡ true
  pub within : s.first + span_len s.span ≤ setup.lines
  pub covered : Each (λ a. covers s.first s.span a ≡ true) s.unanswered
  pub short : length s.unanswered ≤ span_len s.span
  pub whole : length s.unanswered ≡ span_len s.span → s.unanswered ≡ lines_of s.first s.span

covers-from : (first n a : ℕ) → first ≤ a → a < first + n → (nat_le first a && nat_lt a (first + n)) ≡ true
covers-from first n a low high = and_from _ _ (le-leb first a low) (lt-ltb a (first + n) high)

lines_of-covered : (first : ℕ) (span : Span) → Each (λ a. covers first span a ≡ true) (lines_of first span)
lines_of-covered first Span.One = (covers-from first 1 (first + 0) (omega arith) (omega arith), tt)
lines_of-covered first Span.Two = (covers-from first 2 (first + 0) (omega arith) (omega arith), (covers-from first 2 (first + 1) (omega arith) (omega arith), tt))
lines_of-covered first Span.Four = (
  covers-from first 4 (first + 0) (omega arith) (omega arith),
  (
    covers-from first 4 (first + 1) (omega arith) (omega arith),
    (covers-from first 4 (first + 2) (omega arith) (omega arith), (covers-from first 4 (first + 3) (omega arith) (omega arith), tt)),
  ),
)

lines_of-length : (first : ℕ) (span : Span) → length (lines_of first span) ≡ span_len span
lines_of-length first Span.One = refl
lines_of-length first Span.Two = refl
lines_of-length first Span.Four = refl

-- a snoop that is taken
taken-fits :
    (setup : Configuration) (op : SnpOp) (line : Line) (span : Span) → snoop_in_profile op span ≡ true → line.0 + span_len span ≤ setup.lines
    → SnoopFits setup (record { op = op; first = line.0; span = span; unanswered = lines_of line.0 span })
taken-fits setup op line span kind within = record {
  kind = kind;
  within = within;
  covered = lines_of-covered line.0 span;
  short = let e = lines_of-length line.0 span in omega arith;
  whole = λ e. refl;
}

-- what is left of a list without a number is shorter, if the number was there
shorter-step : (b : Bool) (n m : ℕ) → m ≤ n → cond (not b) (suc m) m ≤ suc n
shorter-step true n m le = omega arith
shorter-step false n m le = omega arith

length-cond : (b : Bool) (y : ℕ) (left : List ℕ) → length (cond b (y ∷ left) left) ≡ cond b (suc (length left)) (length left)
length-cond true y left = refl
length-cond false y left = refl

without-short : (a : ℕ) (ys : List ℕ) → length (without a ys) ≤ length ys
without-short a [] = omega arith
without-short a (y ∷ ys) = rw (length-cond (not (a == y)) y (without a ys)) (shorter-step (a == y) (length ys) (length (without a ys)) (without-short a ys))

without-step : (b c : Bool) (n m : ℕ) → m ≤ n → (c ≡ true → m < n) → (b || c) ≡ true → cond (not b) (suc m) m < suc n
without-step true c n m le less is = omega arith
without-step false c n m le less is = let l = less is in omega arith

without-shorter : (a : ℕ) (ys : List ℕ) → is_in a ys ≡ true → length (without a ys) < length ys
without-shorter a [] h = absurd (false≢true h)
without-shorter a (y ∷ ys) h =
    rw (length-cond (not (a == y)) y (without a ys)) (without-step (a == y) (is_in a ys) (length ys) (length (without a ys)) (without-short a ys)
    (without-shorter a ys) h)

left-fits :
    (setup : Configuration) (s : Snoop) (left : List ℕ) → SnoopFits setup s → Each (λ a. covers s.first s.span a ≡ true) left
    → length left < length s.unanswered → Each (SnoopFits setup) (snoop_left s left)
left-fits setup s [] fits covered less = tt
left-fits setup s (b ∷ bs) fits covered less =
    let short = fits.short in
    (record { kind = fits.kind; within = fits.within; covered = covered; short = omega arith; whole = λ e. absurd (omega arith) }, tt)

answer-step :
    (setup : Configuration) (a : ℕ) (s : Snoop) (ss later : List Snoop) (b : Bool) → is_in a s.unanswered ≡ b → SnoopFits setup s → Each (SnoopFits setup) ss
    → Each (SnoopFits setup) later → Each (SnoopFits setup) (cond b (snoop_left s (without a s.unanswered) ++ ss) (s ∷ later))
answer-step setup a s ss later true is fits rest left =
    each_append _ (snoop_left s (without a s.unanswered)) ss
    (left-fits setup s (without a s.unanswered) fits (each_filter _ (λ y. not (a == y)) s.unanswered fits.covered) (without-shorter a s.unanswered is)) rest
answer-step setup a s ss later false is fits rest left = (fits, left)

after_answer-fit : (setup : Configuration) (a : ℕ) (ss : List Snoop) → Each (SnoopFits setup) ss → Each (SnoopFits setup) (snoops_after_answer a ss)
after_answer-fit setup a [] e = tt
after_answer-fit setup a (s ∷ ss) e = answer-step setup a s ss (snoops_after_answer a ss) (is_in a s.unanswered) refl e.0 e.1 (after_answer-fit setup a ss e.1)

after_act-fit : (setup : Configuration) (act : Act) (ss : List Snoop) → Each (SnoopFits setup) ss → Each (SnoopFits setup) (snoops_after_act act ss)
after_act-fit setup (Act.Conflict line) ss e = e
after_act-fit setup (Act.WriteBack line) ss e = e
after_act-fit setup (Act.Answer line) ss e = after_answer-fit setup line.0 ss e
after_act-fit setup (Act.AnswerBlock line) ss e = each_filter (SnoopFits setup) (λ s. not (is_whole_block line.0 s)) ss e
after_act-fit setup (Act.HostReturn c) ss e = e
after_act-fit setup (Act.Serve h tag) ss e = e
after_act-fit setup (Act.Clean h tag) ss e = e
after_act-fit setup (Act.Start h tag) ss e = e
after_act-fit setup (Act.Evict h tag) ss e = e
after_act-fit setup (Act.Snoop h line) ss e = e
after_act-fit setup (Act.Finish line) ss e = e
after_act-fit setup (Act.DeviceReturn h c) ss e = e

after_take-fit :
    (setup : Configuration) (g h : ℕ) (m : Message) (ss : List Snoop) → cause_fits setup g (Cause.Take h m) ≡ true → Each (SnoopFits setup) ss
    → Each (SnoopFits setup) (snoops_after (Cause.Take h m) ss)
after_take-fit setup g h (Message.Req op meta snp tag line) ss fits e = e
after_take-fit setup g h (Message.MemWr meta snp tag line bytes) ss fits e = e
after_take-fit setup g h (Message.BiConflict tag) ss fits e = e
after_take-fit setup g h (Message.BiRsp op bitag low) ss fits e = e
after_take-fit setup g h (Message.Ndr op tag) ss fits e = e
after_take-fit setup g h (Message.MemData tag bytes) ss fits e = e
after_take-fit setup g h (Message.BiSnp op bitag line span) ss fits e =
    let parts = taken_message_fits setup g h (Message.BiSnp op bitag line span) fits in
    each_append (SnoopFits setup) ss _ e (taken-fits setup op line span (and_parts _ _ parts.profile).0 (leb-true _ _ (and_parts _ _ parts.fits).0), tt)
after_take-fit setup g h (Message.Credit c) ss fits e = e

after-fit :
    (setup : Configuration) (g : ℕ) (cause : Cause) (ss : List Snoop) → cause_fits setup g cause ≡ true → Each (SnoopFits setup) ss
    → Each (SnoopFits setup) (snoops_after cause ss)
after-fit setup g (Cause.Op s i op) ss fits e = e
after-fit setup g (Cause.Take h m) ss fits e = after_take-fit setup g h m ss fits e
after-fit setup g (Cause.Act act) ss fits e = after_act-fit setup act ss e

-- each snoop that an agent holds fits
pub held_snoops_fit :
    (setup : Configuration) (opening : List (Line × Bytes64)) (g : ℕ) (mine : List Event) → IsOwnRun setup opening g mine
    → Each (SnoopFits setup) (buffered_snoops mine)
held_snoops_fit setup opening g [] run = tt
held_snoops_fit setup opening g (e ∷ mine) run =
    let own = own_event setup opening g e mine run in
    after-fit setup e.agent e.cause (buffered_snoops mine) (profiled setup e own.profile).cause (held_snoops_fit setup opening g mine own.before)
