-- A snoop is sent by the device, and taken by its host.
use Rattle.std.proofs.Common.{◌≡◌, ℕ, ◌+◌, Bool, true, false, List, [], ◌∷◌, ◌++◌, Option, None, Some, cond, count_by, refl, sym, ◌∙◌, ap, subst, arith, inl, inr}
use Rattle.std.specs.Prelude.{◌&&◌, ◌==◌}
use Rattle.std.specs.List.{list_any}
use Rattle.std.proofs.lemmas.Bool.{and_left, cases_eq, eq-eqb, false≢true, ne_eqb}
use Rattle.std.proofs.lemmas.List.Sums.{sum_by-append}
use Rattle.std.proofs.lemmas.Option.{none-some}
use Rattle.cxl_message.specs.declared.identifiers.BiTag.{BiTag}
use Rattle.cxl_message.specs.declared.identifiers.Line.{Line}
use Rattle.cxl_message.specs.declared.messages.Message.{Message}
use Rattle.cxl_message.specs.declared.opcodes.SnpOp.{SnpOp}
use Rattle.cxl_message.specs.declared.opcodes.Span.{Span}
use Rattle.cxl_message.specs.Messages.{message_eq}
use Rattle.cxl_message.specs.Spans.{covers, lines_of}
use Rattle.coherence_model.specs.DeviceActs.{snoop_message}
use Rattle.coherence_model.specs.Flight.{without_first}
use Rattle.coherence_model.specs.SentSnoops.{SentSnoop}
use Rattle.coherence_model.specs.Snoops.{Snoop}
use Rattle.coherence_model.specs.Tasks.{Task}
use Rattle.coherence_lemmas.proofs.Queues.{counts}
use Rattle.snoop_laws.proofs.Counts.{among_either, among_rest, count-rest, count-sent, found_among, none_counted, sum-one, times, times-lines}
use Rattle.snoop_laws.proofs.Parts.{whole}
use Rattle.snoop_laws.proofs.Places.{IsAnswering, IsBrought, IsHeld, Placed, answering_by, answers, brings, brought_by, held, holding_by, holds, left_of}
use Rattle.snoop_laws.proofs.SentSnoops.{sent_by, span_some}

at_own : (b c : Bool) (n : ℕ) → b ≡ true → n ≡ cond c 1 0 → cond (b && c) 1 0 ≡ n
at_own true c n is same = sym same
at_own false c n is same = absurd (false≢true is)

at_other : (b c : Bool) → b ≡ false → cond {A = ℕ} (b && c) 1 0 ≡ 0
at_other true c is = absurd (false≢true (sym is))
at_other false c is = refl

-- a task's snoop brings each of its lines once, and no line of another snoop
brings_own : (a x : ℕ) (t : Task) → counts (brings a x) (snoop_message a t) ≡ times x (lines_of a t.span)
brings_own a x t = at_own (a == a) (covers a t.span x) (times x (lines_of a t.span)) (eq-eqb a a refl) (times-lines a x t.span)

brings_other : (a f x : ℕ) (t : Task) → (a ≡ f → ⊥) → counts (brings f x) (snoop_message a t) ≡ 0
brings_other a f x t differ = at_other (a == f) (covers a t.span x) (ne_eqb a f differ)

-- ---- the device sends a snoop to a host that isn't Asked by its task

module _ (asked later : ℕ → Option SentSnoop) (a : ℕ) (t : Task) (free : asked a ≡ None) (own : later a ≡ Some (sent_by a t)) (other : (f : ℕ) → (a ≡ f → ⊥) → later f ≡ asked f) where
  -- no answer in flight is for it
  unanswered : (left : List ℕ) (x : ℕ) (m : Message) → IsAnswering asked m → answers left a x m ≡ false
  unanswered left x (Message.Req _ _ _ _ _) is = refl
  unanswered left x (Message.MemWr _ _ _ _ _) is = refl
  unanswered left x (Message.BiConflict _) is = refl
  unanswered left x (Message.BiRsp op bitag low) is =
      and_left _ _ (ne_eqb bitag.0 a (λ same. none-some is.q (sym free ∙ ap asked (sym same) ∙ is.is)))
  unanswered left x (Message.Ndr _ _) is = refl
  unanswered left x (Message.MemData _ _) is = refl
  unanswered left x (Message.BiSnp _ _ _ _) is = refl
  unanswered left x (Message.Credit _) is = refl

  -- other snoops stay
  stays : (f : ℕ) (q : SentSnoop) → asked f ≡ Some q → later f ≡ asked f
  stays f q is = other f (λ same. none-some q (sym free ∙ ap asked same ∙ is))

  brought_stays : (m : Message) → IsBrought asked m → IsBrought later m
  brought_stays (Message.Req _ _ _ _ _) is = tt
  brought_stays (Message.MemWr _ _ _ _ _) is = tt
  brought_stays (Message.BiConflict _) is = tt
  brought_stays (Message.BiRsp _ _ _) is = tt
  brought_stays (Message.Ndr _ _) is = tt
  brought_stays (Message.MemData _ _) is = tt
  brought_stays (Message.BiSnp op _ line span) is = brought_by asked later op line.0 span (stays line.0 is.q is.is) is
  brought_stays (Message.Credit _) is = tt

  answering_stays : (m : Message) → IsAnswering asked m → IsAnswering later m
  answering_stays (Message.Req _ _ _ _ _) is = tt
  answering_stays (Message.MemWr _ _ _ _ _) is = tt
  answering_stays (Message.BiConflict _) is = tt
  answering_stays (Message.BiRsp op bitag low) is = answering_by asked later op bitag.0 (bitag.0 + low) (stays bitag.0 is.q is.is) is
  answering_stays (Message.Ndr _ _) is = tt
  answering_stays (Message.MemData _ _) is = tt
  answering_stays (Message.BiSnp _ _ _ _) is = tt
  answering_stays (Message.Credit _) is = tt

  own_lines : (bs : List Message) (ss : List Snoop) (rs : List Message) (x : ℕ) → Placed asked bs ss rs
      → times x (left_of (later a)) ≡ count_by (brings a x) (bs ++ snoop_message a t ∷ []) + held a x ss + count_by (answers (left_of (later a)) a x) rs
  own_lines bs ss rs x placed =
      let none : times x (left_of (asked a)) ≡ 0 = ap (λ o. times x (left_of o)) free in
      let before = placed.lines a x in
      let answered = none_counted (answers (left_of (later a)) a x) rs (λ m there. unanswered (left_of (later a)) x m (placed.answering m there)) in
      let sent = count-sent (brings a x) bs (snoop_message a t) in
      let new = brings_own a x t in
      let left : times x (left_of (later a)) ≡ times x (lines_of a t.span) = ap (λ o. times x (left_of o)) own in
      omega arith

  other_lines : (bs : List Message) (ss : List Snoop) (rs : List Message) (f x : ℕ) → (a ≡ f → ⊥) → Placed asked bs ss rs
      → times x (left_of (later f)) ≡ count_by (brings f x) (bs ++ snoop_message a t ∷ []) + held f x ss + count_by (answers (left_of (later f)) f x) rs
  other_lines bs ss rs f x differ placed =
      let before = placed.lines f x in
      let sent = count-sent (brings f x) bs (snoop_message a t) in
      let new = brings_other a f x t differ in
      subst (λ o. times x (left_of o) ≡ count_by (brings f x) (bs ++ snoop_message a t ∷ []) + held f x ss + count_by (answers (left_of o) f x) rs) (sym (other f differ)) (omega arith)

  pub placed_sent : (bs : List Message) (ss : List Snoop) (rs : List Message) → Placed asked bs ss rs → Placed later (bs ++ snoop_message a t ∷ []) ss rs
  placed_sent bs ss rs placed = record {
    lines = λ f x. elim (cases_eq a f) [
      | inl same ↦ subst (λ g. times x (left_of (later g)) ≡ count_by (brings g x) (bs ++ snoop_message a t ∷ []) + held g x ss + count_by (answers (left_of (later g)) g x) rs) same (own_lines bs ss rs x placed)
      | inr differ ↦ other_lines bs ss rs f x differ placed
    ];
    brought = λ m there. elim (among_either m bs (snoop_message a t ∷ []) there) [
      | inl old ↦ brought_stays m (placed.brought m old)
      | inr new ↦ (elim new [
        | inl is ↦ subst (IsBrought later) (sym is) (record { q = sent_by a t; is = own; op_same = refl; span_same = refl })
        | inr none ↦ absurd none
      ])
    ];
    holding = λ s there. let is = placed.holding s there in holding_by asked later s (stays s.first is.sent.q is.sent.is) is;
    answering = λ m there. answering_stays m (placed.answering m there);
  }

-- ---- the host takes a snoop

taken_by : (b c : Bool) (n : ℕ) → n ≡ cond c 1 0 → cond b n 0 ≡ cond (b && c) 1 0
taken_by true c n is = is
taken_by false c n is = refl

pub placed_taken :
    (asked : ℕ → Option SentSnoop) (bs : List Message) (ss : List Snoop) (rs : List Message) (op : SnpOp) (bitag : BiTag) (line : Line) (span : Span)
    → list_any (message_eq (Message.BiSnp op bitag line span)) bs ≡ true → Placed asked bs ss rs
    → Placed asked (without_first (Message.BiSnp op bitag line span) bs) (ss ++ record { op = op; first = line.0; span = span; unanswered = lines_of line.0 span } ∷ []) rs
placed_taken asked bs ss rs op bitag line span there placed =
    let m : Message = Message.BiSnp op bitag line span in
    let s : Snoop = record { op = op; first = line.0; span = span; unanswered = lines_of line.0 span } in
    record {
      lines = λ f x. (
          let before = placed.lines f x in
          let fewer = count-rest (brings f x) m bs there in
          let more = sum_by-append (holds f x) ss (s ∷ []) in
          let one = sum-one (holds f x) s in
          let same = taken_by (line.0 == f) (covers line.0 span x) (times x (lines_of line.0 span)) (times-lines line.0 x span) in
          omega arith
          );
      brought = λ n among. placed.brought n (among_rest n m bs among);
      holding = λ r among. elim (among_either r ss (s ∷ []) among) [
        | inl old ↦ placed.holding r old
        | inr new ↦ (elim new [
          | inl is ↦ subst (IsHeld asked) (sym is) (record { sent = placed.brought m (found_among m bs there); part = whole (lines_of line.0 span); some = span_some span line.0 })
          | inr none ↦ absurd none
        ])
      ];
      answering = placed.answering;
    }
