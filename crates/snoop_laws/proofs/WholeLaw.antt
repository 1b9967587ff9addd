-- The law that each line of a snoop is in exactly one place.
use Rattle.std.proofs.Common.{◌≡◌, ℕ, ◌+◌, ◌≤◌, ◌<◌, Bool, true, false, List, [], ◌∷◌, Option, None, Some, cond, filter, find, map, refl, sym, ◌∙◌, ap, subst, arith, inl, inr}
use Rattle.std.specs.Prelude.{is_some, ◌&&◌, ◌==◌}
use Rattle.std.specs.List.{list_all, list_any}
use Rattle.std.proofs.lemmas.Bool.{and_from, and_parts, eq-eqb, eqb-true, false≢true, false_from_ne_true, le-leb, lt-ltb}
use Rattle.std.proofs.lemmas.List.Sums.{sum_by-cons}
use Rattle.cxl_message.specs.declared.channels.Channel.{Channel}
use Rattle.cxl_message.specs.declared.events.Event.{Event}
use Rattle.cxl_message.specs.declared.events.Out.{Out}
use Rattle.cxl_message.specs.declared.identifiers.Bytes64.{Bytes64}
use Rattle.cxl_message.specs.declared.identifiers.Line.{Line}
use Rattle.cxl_message.specs.declared.messages.Message.{Message}
use Rattle.cxl_message.specs.declared.opcodes.RspOp.{RspOp}
use Rattle.cxl_message.specs.Codes.{channel_eq}
use Rattle.cxl_message.specs.Events.{outs}
use Rattle.cxl_message.specs.Lists.{below, is_in}
use Rattle.cxl_message.specs.Messages.{channel_of}
use Rattle.cxl_message.specs.Setup.{Configuration}
use Rattle.coherence_model.specs.DirectoryChanges.{answered_lines, directory}
use Rattle.coherence_model.specs.Flight.{in_flight, is_on, sends_on, takes_on, without_taken}
use Rattle.coherence_model.specs.Runs.{IsRun}
use Rattle.coherence_model.specs.SentSnoops.{SentSnoop, sent_snoop_at}
use Rattle.coherence_model.specs.SnoopFacts.{answers_line, answers_snoop, snoop_has_task, snoop_is_placed, snoop_place_count, snoops_line, unanswered_count}
use Rattle.coherence_model.specs.Snoops.{Snoop, buffered_snoops, is_snooped, snoop_at}
use Rattle.coherence_model.specs.Traces.{device, events_of}
use Rattle.coherence_model.specs.Words.{implies, one_if}
use Rattle.coherence_lemmas.proofs.Options.{some_is}
use Rattle.entry_laws.proofs.Blocks.{below_all, some_lines}
use Rattle.entry_laws.proofs.DirectorySteps.{DirectoryKept}
use Rattle.entry_laws.proofs.Kept.{directory_is_kept}
use Rattle.coherence_model.proofs.OwnRuns.{events_of_run}
use Rattle.snoop_laws.proofs.AnswerSteps.{found_snoop, held_is_left}
use Rattle.snoop_laws.proofs.Below.{any_below, both_same, one_counted, passing_below}
use Rattle.snoop_laws.proofs.Counts.{Among, among_counts, among_either, among_rest, any_counts, counts_alike, counts_any, none_counted, times}
use Rattle.snoop_laws.proofs.Laws.{one_first}
use Rattle.snoop_laws.proofs.Places.{IsAnswering, answers, brings, held, holds, left_of, named_lines, once}
use Rattle.snoop_laws.proofs.Runs.{PlacedAfter, are_sent, host_is_no_device, placed_after}
use Rattle.snoop_laws.proofs.Sending.{credit_off}
use Rattle.snoop_laws.proofs.SentSnoops.{snoops_fit}
use Rattle.snoop_laws.specs.Laws.{SnoopsArePlaced}

-- ---- messages in flight are on their channel

sent_by : (h : ℕ) (c : Channel) (m : Message) (o : Out) (ms : List Message) (on : Bool) → is_on h c o ≡ on → (Among m ms → channel_eq (channel_of m) c ≡ true) → Among m (cond on (o.message ∷ ms) ms) → channel_eq (channel_of m) c ≡ true
sent_by h c m o ms true is later there = elim there [
  | inl same ↦ subst (λ n. channel_eq (channel_of n) c ≡ true) (sym same) (and_parts _ _ is).1
  | inr rest ↦ later rest
]
sent_by h c m o ms false is later there = later there

moved_in : (on : Bool) (o : Out) (os : List Out) → map (λ (x : Out). x.message) (cond on (o ∷ os) os) ≡ cond on (o.message ∷ map (λ (x : Out). x.message) os) (map (λ (x : Out). x.message) os)
moved_in true o os = refl
moved_in false o os = refl

sent_on_channel : (h : ℕ) (c : Channel) (m : Message) (os : List Out) → Among m (map (λ (o : Out). o.message) (filter (is_on h c) os)) → channel_eq (channel_of m) c ≡ true
sent_on_channel h c m [] there = absurd there
sent_on_channel h c m (o ∷ os) there =
    sent_by h c m o (map (λ (x : Out). x.message) (filter (is_on h c) os)) (is_on h c o) refl (sent_on_channel h c m os)
    (subst (λ ms. Among m ms) (moved_in (is_on h c o) o (filter (is_on h c) os)) there)

among_untaken : (m : Message) (o : Option Message) (ms : List Message) → Among m (without_taken o ms) → Among m ms
among_untaken m None ms there = there
among_untaken m (Some n) ms there = among_rest m n ms there

flying_on_channel : (h : ℕ) (c : Channel) (m : Message) (t : List Event) → Among m (in_flight h c t) → channel_eq (channel_of m) c ≡ true
flying_on_channel h c m [] there = absurd there
flying_on_channel h c m (e ∷ past) there = elim (among_either m (without_taken (takes_on h c e.cause) (in_flight h c past)) (sends_on h c e) there) [
  | inl old ↦ flying_on_channel h c m past (among_untaken m (takes_on h c e.cause) (in_flight h c past) old)
  | inr new ↦ sent_on_channel h c m (outs e.sends) new
]

-- ---- a line that is held is Snooped

held_by : (a f : ℕ) (s : Snoop) (found : Option Snoop) (n : ℕ) (here : Bool) → is_in a s.unanswered ≡ here → (1 ≤ n → is_some found ≡ true) → 1 ≤ holds f a s + n → is_some (cond here (Some s) found) ≡ true
held_by a f s found n true is later some = refl
held_by a f s found n false is later some = later (none (s.first == f) some)
  where
    none : (own : Bool) → 1 ≤ cond own (times a s.unanswered) 0 + n → 1 ≤ n
    none true h = (
        let zero : (1 ≤ times a s.unanswered → ⊥) = λ more. false≢true (sym is ∙ counts_any (λ y. a == y) s.unanswered more) in
        grind (arith, zero)
        )
    none false h = omega arith

held_snooped : (a f : ℕ) (ss : List Snoop) → 1 ≤ held f a ss → is_some (find (λ s. is_in a s.unanswered) ss) ≡ true
held_snooped a f [] some = absurd (omega arith)
held_snooped a f (s ∷ ss) some =
    held_by a f s (find (λ z. is_in a z.unanswered) ss) (held f a ss) (is_in a s.unanswered) refl (held_snooped a f ss) (subst (λ n. 1 ≤ n) (sum_by-cons (holds f a) s ss) some)

one_of : (b : Bool) (n : ℕ) → n ≤ 1 → (b ≡ true → 1 ≤ n) → (1 ≤ n → b ≡ true) → one_if b ≡ n
one_of true n few some back = let one = some refl in omega arith
one_of false n few some back = by n few (λ more. false≢true (back more))
  where
    by : (n : ℕ) → n ≤ 1 → (1 ≤ n → ⊥) → 0 ≡ n
    by n few none = grind (arith, none)

-- what the definitions call the lines of an answer
answered_named : (op : RspOp) (h first a : ℕ) (mine : List Event) → answered_lines op h first a mine ≡ named_lines op a (left_of (sent_snoop_at h first mine))
answered_named RspOp.I h first a mine = refl
answered_named RspOp.S h first a mine = refl
answered_named RspOp.E h first a mine = refl
answered_named RspOp.IBlk h first a mine = refl
answered_named RspOp.SBlk h first a mine = refl
answered_named RspOp.EBlk h first a mine = refl

module _ (setup : Configuration) (opening : List (Line × Bytes64)) (t : List Event) (run : IsRun setup opening t) (h : ℕ) (placed : PlacedAfter h t) (a : ℕ) where
  abbrev asked : ℕ → Option SentSnoop
  asked f = sent_snoop_at h f (events_of device t)

  abbrev bs : List Message
  bs = in_flight h Channel.BiSnp t

  abbrev ss : List Snoop
  ss = buffered_snoops (events_of h t)

  abbrev rs : List Message
  rs = in_flight h Channel.BiRsp t

  few : (f : ℕ) → times a (left_of (asked f)) ≤ 1
  few f = once asked (are_sent setup opening t run h) f a

  -- where a message or a held snoop has the line, it is left of that snoop
  brought_left : (m : Message) (f : ℕ) → Among m bs → brings f a m ≡ true → 1 ≤ times a (left_of (asked f))
  brought_left m f there is = let some = among_counts (brings f a) m bs is there in let lines = placed.lines f a in omega arith

  answered_left : (m : Message) (f : ℕ) → Among m rs → answers (left_of (asked f)) f a m ≡ true → 1 ≤ times a (left_of (asked f))
  answered_left m f there is = let some = among_counts (answers (left_of (asked f)) f a) m rs is there in let lines = placed.lines f a in omega arith

  snooped_left : (s : Snoop) → snoop_at a (events_of h t) ≡ Some s → (1 ≤ held s.first a ss) × (1 ≤ times a (left_of (asked s.first)))
  snooped_left s found =
      let here = found_snoop (λ z. is_in a z.unanswered) s ss found in
      let some = any_counts (λ z. a == z) s.unanswered here.1 in
      let sum = held_is_left asked bs ss rs placed s here.0 a in
      let lines = placed.lines s.first a in
      (omega arith, omega arith)

  -- ---- where the line is left of the snoop with first line f

  module _ (f : ℕ) (some : 1 ≤ times a (left_of (asked f))) where
    only : (g : ℕ) → 1 ≤ times a (left_of (asked g)) → f ≡ g
    only g more = one_first setup opening t run h f g a some more

    snoops_same : (m : Message) → Among m bs → snoops_line a m ≡ brings f a m
    snoops_same (Message.Req _ _ _ _ _) there = refl
    snoops_same (Message.MemWr _ _ _ _ _) there = refl
    snoops_same (Message.BiConflict _) there = refl
    snoops_same (Message.BiRsp _ _ _) there = refl
    snoops_same (Message.Ndr _ _) there = refl
    snoops_same (Message.MemData _ _) there = refl
    snoops_same (Message.BiSnp op bitag line span) there = both_same _ _
        (λ covered. and_from _ _ (eq-eqb line.0 f (sym (only line.0 (brought_left (Message.BiSnp op bitag line span) line.0 there (and_from _ _ (eq-eqb line.0 line.0 refl) covered))))) covered)
        (λ is. (and_parts (line.0 == f) _ is).1)
    snoops_same (Message.Credit _) there = refl

    answers_same : (m : Message) → Among m rs → answers_line h a (events_of device t) m ≡ answers (left_of (asked f)) f a m
    answers_same (Message.Req _ _ _ _ _) there = refl
    answers_same (Message.MemWr _ _ _ _ _) there = refl
    answers_same (Message.BiConflict _) there = refl
    answers_same (Message.BiRsp op bitag low) there =
        ap (λ ys. is_in a ys) (answered_named op h bitag.0 (bitag.0 + low) (events_of device t))
        ∙ both_same _ _
        (λ is. (
        let same = only bitag.0 (answered_left (Message.BiRsp op bitag low) bitag.0 there (and_from _ _ (eq-eqb bitag.0 bitag.0 refl) is)) in
        and_from _ _ (eq-eqb bitag.0 f (sym same)) (subst (λ g. is_in a (named_lines op (bitag.0 + low) (left_of (asked g))) ≡ true) (sym same) is)
        ))
        (λ is. (
        let parts = and_parts (bitag.0 == f) _ is in
        subst (λ g. is_in a (named_lines op (bitag.0 + low) (left_of (asked g))) ≡ true) (sym (eqb-true bitag.0 f parts.0)) parts.1
        ))
    answers_same (Message.Ndr _ _) there = refl
    answers_same (Message.MemData _ _) there = refl
    answers_same (Message.BiSnp _ _ _ _) there = refl
    answers_same (Message.Credit _) there = refl

    held_same : one_if (is_snooped a (events_of h t)) ≡ held f a ss
    held_same =
        let lines = placed.lines f a in
        let most = few f in
        one_of (is_snooped a (events_of h t)) (held f a ss) (omega arith)
        (λ is. (
        let found = some_is (snoop_at a (events_of h t)) is in
        let left = snooped_left found.x found.found in
        subst (λ g. 1 ≤ held g a ss) (sym (only found.x.first left.1)) left.0
        ))
        (held_snooped a f ss)

    one_place : snoop_place_count h a t ≡ 1
    one_place =
        let lines = placed.lines f a in
        let most = few f in
        let snoops = counts_alike (snoops_line a) (brings f a) bs snoops_same in
        let responses = counts_alike (answers_line h a (events_of device t)) (answers (left_of (asked f)) f a) rs answers_same in
        let host = held_same in
        omega arith

  -- ---- where it is left of no snoop

  module _ (none : (f : ℕ) → 1 ≤ times a (left_of (asked f)) → ⊥) where
    none_brought : (m : Message) → Among m bs → snoops_line a m ≡ false
    none_brought (Message.Req _ _ _ _ _) there = refl
    none_brought (Message.MemWr _ _ _ _ _) there = refl
    none_brought (Message.BiConflict _) there = refl
    none_brought (Message.BiRsp _ _ _) there = refl
    none_brought (Message.Ndr _ _) there = refl
    none_brought (Message.MemData _ _) there = refl
    none_brought (Message.BiSnp op bitag line span) there =
        false_from_ne_true _ (λ covered. none line.0 (brought_left (Message.BiSnp op bitag line span) line.0 there (and_from _ _ (eq-eqb line.0 line.0 refl) covered)))
    none_brought (Message.Credit _) there = refl

    none_answered : (m : Message) → Among m rs → answers_line h a (events_of device t) m ≡ false
    none_answered (Message.Req _ _ _ _ _) there = refl
    none_answered (Message.MemWr _ _ _ _ _) there = refl
    none_answered (Message.BiConflict _) there = refl
    none_answered (Message.BiRsp op bitag low) there =
        ap (λ ys. is_in a ys) (answered_named op h bitag.0 (bitag.0 + low) (events_of device t))
        ∙ false_from_ne_true _ (λ is. none bitag.0 (answered_left (Message.BiRsp op bitag low) bitag.0 there (and_from _ _ (eq-eqb bitag.0 bitag.0 refl) is)))
    none_answered (Message.Ndr _ _) there = refl
    none_answered (Message.MemData _ _) there = refl
    none_answered (Message.BiSnp _ _ _ _) there = refl
    none_answered (Message.Credit _) there = refl

    none_snooped : is_snooped a (events_of h t) ≡ false
    none_snooped = false_from_ne_true _ (λ is. let found = some_is (snoop_at a (events_of h t)) is in none found.x.first (snooped_left found.x found.found).1)

    no_place : snoop_place_count h a t ≡ 0
    no_place =
        let snoops = none_counted (snoops_line a) bs none_brought in
        let responses = none_counted (answers_line h a (events_of device t)) rs none_answered in
        let host = ap one_if none_snooped in
        omega arith

  -- ---- the equation of the law

  -- the first line of a snoop is a line of the setup
  first_exists : (f : ℕ) → 1 ≤ times a (left_of (asked f)) → f < setup.lines
  first_exists f some = by (asked f) refl some
    where
      by : (o : Option SentSnoop) → asked f ≡ o → 1 ≤ times a (left_of o) → f < setup.lines
      by None is some = absurd (omega arith)
      by (Some q) is some = (
          let fits = snoops_fit setup opening (events_of device t) (events_of_run setup opening device t run) h f q is in
          let kept : DirectoryKept setup (directory setup (events_of device t)) (λ g b. sent_snoop_at g b (events_of device t)) = directory_is_kept setup opening (events_of device t) (events_of_run setup opening device t run) in
          let within = (kept.tasks.placed f fits.t fits.stands).1 in
          let lines = some_lines fits.t.span in
          omega arith
          )

  placed_by : (found : Bool) → list_any (λ f. is_in a (left_of (asked f))) (below setup.lines) ≡ found → (unanswered_count setup h a (events_of device t) ≡ snoop_place_count h a t) × (snoop_place_count h a t ≤ 1)
  placed_by true is =
      let some = passing_below (λ f. is_in a (left_of (asked f))) setup.lines is in
      let left = any_counts (λ y. a == y) (left_of (asked some.x)) some.passes in
      let place = one_place some.x left in
      let count = one_counted (λ f. is_in a (left_of (asked f))) setup.lines some.x some.less some.passes (λ g more. only some.x left g (any_counts (λ y. a == y) (left_of (asked g)) more)) in
      (count ∙ sym place, omega arith)
  placed_by false is =
      let none : (f : ℕ) → 1 ≤ times a (left_of (asked f)) → ⊥ = λ f some. false≢true (sym is ∙ any_below (λ g. is_in a (left_of (asked g))) setup.lines f (first_exists f some) (counts_any (λ y. a == y) (left_of (asked f)) some)) in
      let place = no_place none in
      let count = none_counted (λ f. is_in a (left_of (asked f))) (below setup.lines) (λ f there. false_from_ne_true _ (λ more. none f (any_counts (λ y. a == y) (left_of (asked f)) more))) in
      (count ∙ sym place, omega arith)

  line_placed : snoop_is_placed setup t h a ≡ true
  line_placed =
      let both = placed_by (list_any (λ f. is_in a (left_of (asked f))) (below setup.lines)) refl in
      and_from _ _ (eq-eqb _ _ both.0) (le-leb (snoop_place_count h a t) 1 both.1)

  task_stands : snoop_has_task setup t h a ≡ true
  task_stands = by (asked a) refl
    where
      by : (o : Option SentSnoop) → asked a ≡ o → implies (is_some o) (is_some ((directory setup (events_of device t)).task a)) ≡ true
      by None is = refl
      by (Some q) is = ap is_some (snoops_fit setup opening (events_of device t) (events_of_run setup opening device t run) h a q is).stands

-- ---- each answer has its snoop

has_snoop : (h : ℕ) (mine : List Event) (m : Message) → IsAnswering (λ f. sent_snoop_at h f mine) m → channel_eq (channel_of m) Channel.BiRsp ≡ true → answers_snoop h mine m ≡ true
has_snoop h mine (Message.Req _ _ _ _ _) is on = absurd (false≢true on)
has_snoop h mine (Message.MemWr _ _ _ _ _) is on = absurd (false≢true on)
has_snoop h mine (Message.BiConflict _) is on = absurd (false≢true on)
has_snoop h mine (Message.BiRsp op bitag low) is on = ap is_some is.is
has_snoop h mine (Message.Ndr _ _) is on = absurd (false≢true on)
has_snoop h mine (Message.MemData _ _) is on = absurd (false≢true on)
has_snoop h mine (Message.BiSnp _ _ _ _) is on = absurd (false≢true on)
has_snoop h mine (Message.Credit c) is on = absurd (false≢true (sym (credit_off c).1 ∙ on))

all_among : (p : Message → Bool) (ms : List Message) → ((m : Message) → Among m ms → p m ≡ true) → list_all p ms ≡ true
all_among p [] each = refl
all_among p (m ∷ ms) each = and_from _ _ (each m (inl refl)) (all_among p ms (λ n there. each n (inr there)))

-- each line of a snoop is in exactly one place
pub snoops_placed : SnoopsArePlaced
snoops_placed setup opening limits t run =
    below_all _ setup.hosts (λ h less. (
    let placed = placed_after setup opening h (host_is_no_device setup limits h (lt-ltb h setup.hosts less)) t run in
    and_from _ _
    (below_all (λ a. snoop_is_placed setup t h a && snoop_has_task setup t h a) setup.lines (λ a exists. and_from _ _ (line_placed setup opening t run h placed a) (task_stands setup opening t run h placed a)))
    (all_among (answers_snoop h (events_of device t)) (in_flight h Channel.BiRsp t) (λ m there. has_snoop h (events_of device t) m (placed.answering m there) (flying_on_channel h Channel.BiRsp m t there)))
    ))
