-- The laws on held snoops and takeable messages, by the places of lines.
use Rattle.std.proofs.Common.{◌≡◌, ℕ, ◌+◌, ◌≤◌, Bool, true, false, List, [], ◌∷◌, Option, None, Some, cond, refl, sym, ◌∙◌, ap, subst, arith, inl, inr}
use Rattle.std.specs.Prelude.{not, ◌==◌}
use Rattle.std.specs.List.{list_all, list_any}
use Rattle.std.proofs.lemmas.Bool.{and_from, and_parts, eq-eqb, false≢true, false_from_ne_true, not_from_false}
use Rattle.cxl_message.specs.declared.channels.Channel.{Channel}
use Rattle.cxl_message.specs.declared.events.Event.{Event}
use Rattle.cxl_message.specs.declared.identifiers.BiTag.{BiTag}
use Rattle.cxl_message.specs.declared.identifiers.Bytes64.{Bytes64}
use Rattle.cxl_message.specs.declared.identifiers.Line.{Line}
use Rattle.cxl_message.specs.declared.messages.Message.{Message}
use Rattle.cxl_message.specs.declared.opcodes.RspOp.{RspOp}
use Rattle.cxl_message.specs.declared.opcodes.SnpOp.{SnpOp}
use Rattle.cxl_message.specs.declared.opcodes.Span.{Span}
use Rattle.cxl_message.specs.Lists.{is_in}
use Rattle.cxl_message.specs.Messages.{message_eq}
use Rattle.cxl_message.specs.Setup.{Configuration}
use Rattle.cxl_message.specs.Spans.{covers, lines_of}
use Rattle.coherence_model.specs.DeviceTakes.{is_answered_by, v2_response}
use Rattle.coherence_model.specs.DirectoryChanges.{directory}
use Rattle.coherence_model.specs.Emission.{nothing}
use Rattle.coherence_model.specs.Flight.{in_flight}
use Rattle.coherence_model.specs.Runs.{IsRun}
use Rattle.coherence_model.specs.SentSnoops.{SentSnoop, sent_snoop_at}
use Rattle.coherence_model.specs.Snoops.{buffered_snoops, is_snooped, snoop_at}
use Rattle.coherence_model.specs.Traces.{device, events_of}
use Rattle.coherence_model.specs.Words.{when}
use Rattle.coherence_lemmas.proofs.Options.{some_is}
use Rattle.entry_laws.proofs.DirectorySteps.{DirectoryKept}
use Rattle.entry_laws.proofs.Kept.{directory_is_kept}
use Rattle.coherence_model.proofs.OwnRuns.{events_of_run}
use Rattle.snoop_laws.proofs.AnswerSteps.{found_snoop, held_is_left, line_left}
use Rattle.snoop_laws.proofs.Counts.{Among, among_counts, any_counts, counts_any, found_among, times, times-lines}
use Rattle.snoop_laws.proofs.Parts.{part_covered}
use Rattle.snoop_laws.proofs.Places.{brings, held, left_of, once}
use Rattle.snoop_laws.proofs.Runs.{PlacedAfter, are_sent, host_is_no_device, placed_after}
use Rattle.snoop_laws.proofs.SentSnoops.{SnoopFits, snoops_fit}
use Rattle.snoop_laws.specs.Laws.{AnswersMayBeTaken, HeldSnoopsWereSent, SnoopsMayBeTaken}

-- ---- answers

given : (test : Bool) → test ≡ true → when test nothing ≡ Some nothing
given true h = refl
given false h = absurd (false≢true h)

answer_given : (op : RspOp) (a : ℕ) (found : Option SentSnoop) (q : SentSnoop) → found ≡ Some q → is_answered_by op a q ≡ true → v2_response op a found ≡ Some nothing
answer_given op a found q is answered = ap (v2_response op a) is ∙ given (is_answered_by op a q) answered

pub answers_may_be_taken : AnswersMayBeTaken
answers_may_be_taken setup opening limits t run h host op bitag low takeable =
    let placed = placed_after setup opening h (host_is_no_device setup limits h host) t run in
    let is = placed.answering (Message.BiRsp op bitag low) (found_among (Message.BiRsp op bitag low) (in_flight h Channel.BiRsp t) (and_parts _ _ takeable).0) in
    answer_given op (bitag.0 + low) (sent_snoop_at h bitag.0 (events_of device t)) is.q is.is is.answered

-- ---- held snoops

pub held_snoops_were_sent : HeldSnoopsWereSent
held_snoops_were_sent setup opening limits t run h host a s found =
    let placed = placed_after setup opening h (host_is_no_device setup limits h host) t run in
    let here = found_snoop (λ z. is_in a z.unanswered) s (buffered_snoops (events_of h t)) found in
    let is = placed.holding s here.0 in
    let some = any_counts (λ z. a == z) s.unanswered here.1 in
    let left = line_left (λ f. sent_snoop_at h f (events_of device t)) (are_sent setup opening t run h) (in_flight h Channel.BiSnp t) (buffered_snoops (events_of h t)) (in_flight h Channel.BiRsp t) placed s here.0 a in
    record {
      sent = is.sent.q;
      asked = is.sent.is;
      op_same = is.sent.op_same;
      span_same = is.sent.span_same;
      unanswered = counts_any (λ z. a == z) is.sent.q.unanswered (subst (λ o. 1 ≤ times a (left_of o)) is.sent.is (omega arith));
    }

-- ---- a line of a host has one snoop at most

-- what is left somewhere is left of a snoop that was sent
some_left : (a : ℕ) (o : Option SentSnoop) → 1 ≤ times a (left_of o) → (q : SentSnoop) × (o ≡ Some q)
some_left a None h = absurd (omega arith)
some_left a (Some q) h = (q, refl)

module _ (setup : Configuration) (opening : List (Line × Bytes64)) (t : List Event) (run : IsRun setup opening t) (h : ℕ) where
  abbrev asked : ℕ → Option SentSnoop
  asked f = sent_snoop_at h f (events_of device t)

  -- the task of a snoop covers each line that is left
  covering : (f a : ℕ) (q : SentSnoop) → asked f ≡ Some q → 1 ≤ times a (left_of (asked f)) → (fits : SnoopFits (directory setup (events_of device t)).task f q) × (covers f fits.t.span a ≡ true)
  covering f a q is some =
      let fits = snoops_fit setup opening (events_of device t) (events_of_run setup opening device t run) h f q is in
      (fits, subst (λ s. covers f s a ≡ true) fits.span (part_covered a f q.span q.unanswered fits.part (subst (λ o. 1 ≤ times a (left_of o)) is some)))

  -- two snoops that have a line are one
  pub one_first : (f g a : ℕ) → 1 ≤ times a (left_of (asked f)) → 1 ≤ times a (left_of (asked g)) → f ≡ g
  one_first f g a first second =
      let p = some_left a (asked f) first in
      let q = some_left a (asked g) second in
      let cover_f = covering f a p.0 p.1 first in
      let cover_g = covering g a q.0 q.1 second in
      let kept : DirectoryKept setup (directory setup (events_of device t)) (λ k b. sent_snoop_at k b (events_of device t)) = directory_is_kept setup opening (events_of device t) (events_of_run setup opening device t run) in
      kept.tasks.apart f g a cover_f.0.t cover_g.0.t cover_f.0.stands cover_g.0.stands cover_f.1 cover_g.1

  -- ---- a snoop in flight

  pub flying_unsnooped : (placed : PlacedAfter h t) (op : SnpOp) (bitag : BiTag) (line : Line) (span : Span) (a : ℕ) → list_any (message_eq (Message.BiSnp op bitag line span)) (in_flight h Channel.BiSnp t) ≡ true
      → covers line.0 span a ≡ true → is_snooped a (events_of h t) ≡ true → ⊥
  flying_unsnooped placed op bitag line span a there covered snooped =
      let m : Message = Message.BiSnp op bitag line span in
      let found = some_is (snoop_at a (events_of h t)) snooped in
      let here = found_snoop (λ z. is_in a z.unanswered) found.x (buffered_snoops (events_of h t)) found.found in
      let some = any_counts (λ z. a == z) found.x.unanswered here.1 in
      let bs = in_flight h Channel.BiSnp t in
      let ss = buffered_snoops (events_of h t) in
      let rs = in_flight h Channel.BiRsp t in
      let held_there = held_is_left asked bs ss rs placed found.x here.0 a in
      let flying = among_counts (brings line.0 a) m bs (and_from _ _ (eq-eqb line.0 line.0 refl) covered) (found_among m bs there) in
      let at_line = placed.lines line.0 a in
      let at_first = placed.lines found.x.first a in
      let same = one_first line.0 found.x.first a (omega arith) (omega arith) in
      let held_here = subst (λ f. 1 ≤ held f a ss) (sym same) (omega arith) in
      let few = once asked (are_sent setup opening t run h) line.0 a in
      absurd (omega arith)

all_listed : (p : ℕ → Bool) (xs : List ℕ) → ((a : ℕ) → Among a xs → p a ≡ true) → list_all p xs ≡ true
all_listed p [] each = refl
all_listed p (x ∷ xs) each = and_from _ _ (each x (inl refl)) (all_listed p xs (λ a there. each a (inr there)))

covered_by : (b : Bool) → 1 ≤ cond b 1 0 → b ≡ true
covered_by true h = refl
covered_by false h = absurd (omega arith)

among_covered : (first a : ℕ) (span : Span) → Among a (lines_of first span) → covers first span a ≡ true
among_covered first a span there =
    covered_by (covers first span a) (subst (λ n. 1 ≤ n) (times-lines first a span) (among_counts (λ y. a == y) a (lines_of first span) (eq-eqb a a refl) there))

pub snoops_may_be_taken : SnoopsMayBeTaken
snoops_may_be_taken setup opening limits t run h host op bitag line span takeable =
    let placed = placed_after setup opening h (host_is_no_device setup limits h host) t run in
    given (list_all (λ a. not (is_snooped a (events_of h t))) (lines_of line.0 span))
    (all_listed (λ a. not (is_snooped a (events_of h t))) (lines_of line.0 span) (λ a there.
    not_from_false _ (false_from_ne_true (is_snooped a (events_of h t)) (flying_unsnooped setup opening t run h placed op bitag line span a (and_parts _ _ takeable).0 (among_covered line.0 a span there)))))
