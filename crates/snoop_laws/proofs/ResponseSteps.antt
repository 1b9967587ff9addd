-- The device takes an answer: its lines are left no more, and no other place had them.
use Rattle.std.proofs.Common.{◌≡◌, ℕ, ◌+◌, ◌≤◌, Bool, true, false, List, [], ◌∷◌, Option, None, Some, cond, count_by, refl, sym, ◌∙◌, ap, subst, arith, inl, inr}
use Rattle.std.specs.Prelude.{◌&&◌, ◌==◌, ◌||◌}
use Rattle.std.specs.List.{list_any}
use Rattle.std.proofs.lemmas.Bool.{and_from, and_left, and_parts, cases_eq, eq-eqb, eqb-true, false≢true, ne_eqb, or_left}
use Rattle.std.proofs.lemmas.Option.{same_Some}
use Rattle.cxl_message.specs.declared.identifiers.BiTag.{BiTag}
use Rattle.cxl_message.specs.declared.identifiers.Line.{Line}
use Rattle.cxl_message.specs.declared.messages.Message.{Message}
use Rattle.cxl_message.specs.declared.opcodes.RspOp.{RspOp}
use Rattle.cxl_message.specs.declared.opcodes.SnpOp.{SnpOp}
use Rattle.cxl_message.specs.declared.opcodes.Span.{Span}
use Rattle.cxl_message.specs.Lists.{is_in, without}
use Rattle.cxl_message.specs.Messages.{message_eq}
use Rattle.cxl_message.specs.Spans.{covers}
use Rattle.coherence_model.specs.DeviceTakes.{is_answered_by}
use Rattle.coherence_model.specs.Flight.{without_first}
use Rattle.coherence_model.specs.HostActs.{is_data_snoop}
use Rattle.coherence_model.specs.SentSnoops.{SentSnoop, snoop_after_response, still_asking}
use Rattle.coherence_model.specs.Snoops.{Snoop}
use Rattle.coherence_lemmas.proofs.Queues.{counts}
use Rattle.snoop_laws.proofs.AnswerSteps.{held_is_left}
use Rattle.snoop_laws.proofs.Counts.{Among, among_counts, among_rest, any_counts, count-rest, counts_alike, counts_any, none_counted, times, times-without}
use Rattle.snoop_laws.proofs.Parts.{part_covered}
use Rattle.snoop_laws.proofs.Places.{Answering, AreSent, Brought, Element, IsAnswering, IsBrought, IsHeld, Placed, answering_by, answers, brings, brought_by, element, held, holding_by, in_times, left_of, named_lines, once}

-- nothing that is among the elements is counted
uncounted : {X : Type 0} (p : X → Bool) (x : X) (xs : List X) → count_by p xs ≡ 0 → Among x xs → p x ≡ true → ⊥
uncounted p x xs none there passes = let some = among_counts p x xs passes there in absurd (omega arith)

left_asking : (q : SentSnoop) (zs : List ℕ) → left_of (still_asking q zs) ≡ zs
left_asking q [] = refl
left_asking q (z ∷ zs) = refl

asking_some : (q : SentSnoop) (y : ℕ) (zs : List ℕ) → 1 ≤ times y zs → still_asking q zs ≡ Some (record q { unanswered = zs })
asking_some q y [] some = absurd (omega arith)
asking_some q y (z ∷ zs) some = refl

single_answers : (f x a : ℕ) (left ys : List ℕ) → ys ≡ a ∷ [] → cond {A = ℕ} ((f == f) && is_in x ys) 1 0 ≡ cond (x == a) 1 0
single_answers f x a left ys one =
    ap (λ zs. cond {A = ℕ} ((f == f) && is_in x zs) 1 0) one ∙ by (f == f) (x == a) (eq-eqb f f refl)
  where
    by : (b c : Bool) → b ≡ true → cond {A = ℕ} (b && (c || false)) 1 0 ≡ cond c 1 0
    by true true h = refl
    by true false h = refl
    by false c h = absurd (false≢true h)

other_answers : (b c : Bool) → b ≡ false → cond {A = ℕ} (b && c) 1 0 ≡ 0
other_answers true c h = absurd (false≢true (sym h))
other_answers false c h = refl

-- a message is taken from those in flight that answers some lines of the snoop with first line f
module _ (asked : ℕ → Option SentSnoop) (sent : AreSent asked) (bs : List Message) (ss : List Snoop) (rs : List Message) (placed : Placed asked bs ss rs) (taken : Message) (there : list_any (message_eq taken) rs ≡ true) (f : ℕ) (q : SentSnoop) (is : asked f ≡ Some q) where
  abbrev rest : List Message
  rest = without_first taken rs

  -- a line that it answers is in no other place
  record Alone (x : ℕ) : Type 0 where
    flight : count_by (brings f x) bs ≡ 0
    host : held f x ss ≡ 0
    others : count_by (answers (left_of (asked f)) f x) rest ≡ 0

  counted : (x : ℕ) → answers (left_of (asked f)) f x taken ≡ true → counts (answers (left_of (asked f)) f x) taken ≡ 1
  counted x h = ap (λ b. cond b 1 0) h

  alone : (x : ℕ) → answers (left_of (asked f)) f x taken ≡ true → Alone x
  alone x h =
      let lines = placed.lines f x in
      let few = once asked sent f x in
      let one = counted x h in
      let fewer = count-rest (answers (left_of (asked f)) f x) taken rs there in
      record { flight = omega arith; host = omega arith; others = omega arith }

  same_q : (p : SentSnoop) → asked f ≡ Some p → p ≡ q
  same_q p h = same_Some p q (sym h ∙ is)

  left_is : left_of (asked f) ≡ q.unanswered
  left_is = ap left_of is

  -- a snoop in flight brings each line that is left
  snoop_brings : (op : SnpOp) (bitag : BiTag) (line : Line) (span : Span) (x : ℕ) → line.0 ≡ f → Brought asked op line.0 span → 1 ≤ times x q.unanswered → brings f x (Message.BiSnp op bitag line span) ≡ true
  snoop_brings op bitag line span x same brought some =
      let own = same_q brought.q (ap asked (sym same) ∙ brought.is) in
      let covered = part_covered x f q.span q.unanswered (sent f q is).part some in
      and_from _ _ (eq-eqb line.0 f same) (subst (λ a. covers a span x ≡ true) (sym same) (subst (λ s. covers f s x ≡ true) (ap (λ (p : SentSnoop). p.span) (sym own) ∙ brought.span_same) covered))

  -- a line that the host holds is left
  host_left : (s : Snoop) → Among s ss → s.first ≡ f → (x : ℕ) → (times x s.unanswered ≤ held f x ss) × (times x s.unanswered ≤ times x q.unanswered)
  host_left s among same x =
      let some = subst (λ a. times x s.unanswered ≤ held a x ss) same (held_is_left asked bs ss rs placed s among x) in
      let lines = placed.lines f x in
      let left = ap (times x) left_is in
      (some, omega arith)

  -- what an answer in flight names
  single_named : (left : List ℕ) (m a x : ℕ) → m ≡ f → x ≡ a → ((m == f) && is_in x (a ∷ [])) ≡ true
  single_named left m a x same at = and_from _ _ (eq-eqb m f same) (or_left _ _ (eq-eqb x a at))

  block_named : (m x : ℕ) → m ≡ f → 1 ≤ times x q.unanswered → ((m == f) && is_in x (left_of (asked f))) ≡ true
  block_named m x same some = and_from _ _ (eq-eqb m f same) (counts_any (λ y. x == y) (left_of (asked f)) (subst (λ zs. 1 ≤ times x zs) (sym left_is) some))

  in_left : (p : SentSnoop) (m a : ℕ) → m ≡ f → asked m ≡ Some p → is_in a p.unanswered ≡ true → 1 ≤ times a q.unanswered
  in_left p m a same found h = any_counts (λ y. a == y) q.unanswered (subst (λ (z : SentSnoop). is_in a z.unanswered ≡ true) (same_q p (ap asked (sym same) ∙ found)) h)

  -- ---- an answer for one line

  module _ (a : ℕ) (later : ℕ → Option SentSnoop) (single : (x : ℕ) → counts (answers (left_of (asked f)) f x) taken ≡ cond (x == a) 1 0) (elsewhere : (g x : ℕ) → (f ≡ g → ⊥) → counts (answers (left_of (asked g)) g x) taken ≡ 0)
      (for_line : answers (left_of (asked f)) f a taken ≡ true) (inside : 1 ≤ times a q.unanswered) (own : later f ≡ still_asking q (without a q.unanswered)) (other : (g : ℕ) → (f ≡ g → ⊥) → later g ≡ asked g) where
    only : Alone a
    only = alone a for_line

    left_later : left_of (later f) ≡ without a q.unanswered
    left_later = ap left_of own ∙ left_asking q (without a q.unanswered)

    -- where another line is left the snoop stays
    asking_on : (y : ℕ) → 1 ≤ times y q.unanswered → (y ≡ a → ⊥) → later f ≡ Some (record q { unanswered = without a q.unanswered })
    asking_on y some differ =
        own ∙ asking_some q y (without a q.unanswered) (subst (λ n. 1 ≤ n) (sym (times-without y a q.unanswered ∙ ap (λ b. cond b 0 (times y q.unanswered)) (ne_eqb y a differ))) some)

    in_without : (y : ℕ) → 1 ≤ times y q.unanswered → (y ≡ a → ⊥) → is_in y (without a q.unanswered) ≡ true
    in_without y some differ =
        counts_any (λ z. y == z) (without a q.unanswered) (subst (λ n. 1 ≤ n) (sym (times-without y a q.unanswered ∙ ap (λ b. cond b 0 (times y q.unanswered)) (ne_eqb y a differ))) some)

    -- no other answer is one for the line
    not_again : (m : Message) → Among m rest → answers (left_of (asked f)) f a m ≡ true → ⊥
    not_again m among h = uncounted (answers (left_of (asked f)) f a) m rest only.others among h

    alike_at : (op : RspOp) (bitag : BiTag) (low x : ℕ) → Among (Message.BiRsp op bitag low) rest → IsAnswering asked (Message.BiRsp op bitag low) → (here : Bool) → (bitag.0 == f) ≡ here
        → (here && is_in x (named_lines op (bitag.0 + low) (left_of (asked f)))) ≡ (here && is_in x (named_lines op (bitag.0 + low) (left_of (later f))))
    alike_at RspOp.I bitag low x among answering here at = refl
    alike_at RspOp.S bitag low x among answering here at = refl
    alike_at RspOp.E bitag low x among answering here at = refl
    alike_at RspOp.IBlk bitag low x among answering true at = absurd (not_again (Message.BiRsp RspOp.IBlk bitag low) among (block_named bitag.0 a (eqb-true bitag.0 f at) inside))
    alike_at RspOp.IBlk bitag low x among answering false at = refl
    alike_at RspOp.SBlk bitag low x among answering here at = absurd (false≢true answering.answered)
    alike_at RspOp.EBlk bitag low x among answering here at = absurd (false≢true answering.answered)

    alike : (x : ℕ) (m : Message) → Among m rest → answers (left_of (asked f)) f x m ≡ answers (left_of (later f)) f x m
    alike x (Message.Req _ _ _ _ _) among = refl
    alike x (Message.MemWr _ _ _ _ _) among = refl
    alike x (Message.BiConflict _) among = refl
    alike x (Message.BiRsp op bitag low) among = alike_at op bitag low x among (placed.answering (Message.BiRsp op bitag low) (among_rest (Message.BiRsp op bitag low) taken rs among)) (bitag.0 == f) refl
    alike x (Message.Ndr _ _) among = refl
    alike x (Message.MemData _ _) among = refl
    alike x (Message.BiSnp _ _ _ _) among = refl
    alike x (Message.Credit _) among = refl

    own_by : (x : ℕ) (same : Bool) → (x == a) ≡ same → cond same 0 (times x q.unanswered) ≡ count_by (brings f x) bs + held f x ss + count_by (answers (left_of (asked f)) f x) rest
    own_by x true at =
        let alone_at : Alone x = subst Alone (sym (eqb-true x a at)) only in
        let flight = alone_at.flight in
        let host = alone_at.host in
        let others = alone_at.others in
        omega arith
    own_by x false at =
        let lines = placed.lines f x in
        let left = ap (times x) left_is in
        let fewer = count-rest (answers (left_of (asked f)) f x) taken rs there in
        let one = single x ∙ ap (λ b. cond b 1 0) at in
        omega arith

    own_lines : (x : ℕ) → times x (left_of (later f)) ≡ count_by (brings f x) bs + held f x ss + count_by (answers (left_of (later f)) f x) rest
    own_lines x =
        ap (times x) left_later ∙ times-without x a q.unanswered ∙ own_by x (x == a) refl
        ∙ ap (λ n. count_by (brings f x) bs + held f x ss + n) (counts_alike (answers (left_of (asked f)) f x) (answers (left_of (later f)) f x) rest (alike x))

    other_lines : (g x : ℕ) → (f ≡ g → ⊥) → times x (left_of (later g)) ≡ count_by (brings g x) bs + held g x ss + count_by (answers (left_of (later g)) g x) rest
    other_lines g x differ =
        let lines = placed.lines g x in
        let none = elsewhere g x differ in
        let fewer = count-rest (answers (left_of (asked g)) g x) taken rs there in
        subst (λ o. times x (left_of o) ≡ count_by (brings g x) bs + held g x ss + count_by (answers (left_of o) g x) rest) (sym (other g differ)) (omega arith)

    brought_on : (m : Message) → Among m bs → IsBrought asked m → IsBrought later m
    brought_on (Message.Req _ _ _ _ _) among h = tt
    brought_on (Message.MemWr _ _ _ _ _) among h = tt
    brought_on (Message.BiConflict _) among h = tt
    brought_on (Message.BiRsp _ _ _) among h = tt
    brought_on (Message.Ndr _ _) among h = tt
    brought_on (Message.MemData _ _) among h = tt
    brought_on (Message.BiSnp op bitag line span) among h = elim (cases_eq f line.0) [
      | inl same ↦ absurd (uncounted (brings f a) (Message.BiSnp op bitag line span) bs only.flight among (snoop_brings op bitag line span a (sym same) h inside))
      | inr differ ↦ brought_by asked later op line.0 span (other line.0 differ) h
    ]
    brought_on (Message.Credit _) among h = tt

    holding_own : (s : Snoop) → Among s ss → s.first ≡ f → IsHeld asked s → IsHeld later s
    holding_own s among same h =
        let y = element s.unanswered h.some in
        let some = y.is in
        let bounds = host_left s among same y.x in
        let differ : y.x ≡ a → ⊥ = λ at. (let none = subst (λ z. held f z ss ≡ 0) (sym at) only.host in let low = bounds.0 in absurd (omega arith)) in
        let own_q = same_q h.sent.q (ap asked (sym same) ∙ h.sent.is) in
        record {
          sent = record {
            q = record q { unanswered = without a q.unanswered };
            is = ap later same ∙ asking_on y.x (let high = bounds.1 in omega arith) differ;
            op_same = ap (λ (p : SentSnoop). p.op) (sym own_q) ∙ h.sent.op_same;
            span_same = ap (λ (p : SentSnoop). p.span) (sym own_q) ∙ h.sent.span_same;
          };
          part = h.part;
          some = h.some;
        }

    holding_on : (s : Snoop) → Among s ss → IsHeld later s
    holding_on s among = elim (cases_eq f s.first) [
      | inl same ↦ holding_own s among (sym same) (placed.holding s among)
      | inr differ ↦ holding_by asked later s (other s.first differ) (placed.holding s among)
    ]

    answering_own : (op : RspOp) (bitag : BiTag) (low : ℕ) → Among (Message.BiRsp op bitag low) rest → bitag.0 ≡ f → Answering asked op bitag.0 (bitag.0 + low) → Answering later op bitag.0 (bitag.0 + low)
    answering_own RspOp.I bitag low among same h =
        let some = in_left h.q bitag.0 (bitag.0 + low) same h.is h.answered in
        let differ : bitag.0 + low ≡ a → ⊥ = λ at. not_again (Message.BiRsp RspOp.I bitag low) among (single_named [] bitag.0 (bitag.0 + low) a same (sym at)) in
        record { q = record q { unanswered = without a q.unanswered }; is = ap later same ∙ asking_on (bitag.0 + low) some differ; answered = in_without (bitag.0 + low) some differ }
    answering_own RspOp.S bitag low among same h =
        let parts = and_parts _ _ h.answered in
        let some = in_left h.q bitag.0 (bitag.0 + low) same h.is parts.0 in
        let differ : bitag.0 + low ≡ a → ⊥ = λ at. not_again (Message.BiRsp RspOp.S bitag low) among (single_named [] bitag.0 (bitag.0 + low) a same (sym at)) in
        record {
          q = record q { unanswered = without a q.unanswered };
          is = ap later same ∙ asking_on (bitag.0 + low) some differ;
          answered = and_from _ _ (in_without (bitag.0 + low) some differ) (ap (λ (p : SentSnoop). is_data_snoop p.op) (sym (same_q h.q (ap asked (sym same) ∙ h.is))) ∙ parts.1);
        }
    answering_own RspOp.E bitag low among same h = absurd (false≢true h.answered)
    answering_own RspOp.IBlk bitag low among same h = absurd (not_again (Message.BiRsp RspOp.IBlk bitag low) among (block_named bitag.0 a same inside))
    answering_own RspOp.SBlk bitag low among same h = absurd (false≢true h.answered)
    answering_own RspOp.EBlk bitag low among same h = absurd (false≢true h.answered)

    answering_on : (m : Message) → Among m rest → IsAnswering asked m → IsAnswering later m
    answering_on (Message.Req _ _ _ _ _) among h = tt
    answering_on (Message.MemWr _ _ _ _ _) among h = tt
    answering_on (Message.BiConflict _) among h = tt
    answering_on (Message.BiRsp op bitag low) among h = elim (cases_eq f bitag.0) [
      | inl same ↦ answering_own op bitag low among (sym same) h
      | inr differ ↦ answering_by asked later op bitag.0 (bitag.0 + low) (other bitag.0 differ) h
    ]
    answering_on (Message.Ndr _ _) among h = tt
    answering_on (Message.MemData _ _) among h = tt
    answering_on (Message.BiSnp _ _ _ _) among h = tt
    answering_on (Message.Credit _) among h = tt

    pub placed_line_answer : Placed later bs ss rest
    placed_line_answer = record {
      lines = λ g x. elim (cases_eq f g) [
        | inl same ↦ subst (λ k. times x (left_of (later k)) ≡ count_by (brings k x) bs + held k x ss + count_by (answers (left_of (later k)) k x) rest) same (own_lines x)
        | inr differ ↦ other_lines g x differ
      ];
      brought = λ m among. brought_on m among (placed.brought m among);
      holding = λ s among. holding_on s among;
      answering = λ m among. answering_on m among (placed.answering m (among_rest m taken rs among));
    }

  -- ---- an answer for all lines that are left

  module _ (later : ℕ → Option SentSnoop) (all : (x : ℕ) → answers (left_of (asked f)) f x taken ≡ is_in x (left_of (asked f))) (elsewhere : (g x : ℕ) → (f ≡ g → ⊥) → counts (answers (left_of (asked g)) g x) taken ≡ 0)
      (own : later f ≡ None) (other : (g : ℕ) → (f ≡ g → ⊥) → later g ≡ asked g) where
    -- each line that is left is in no other place
    alone_left : (x : ℕ) → 1 ≤ times x q.unanswered → Alone x
    alone_left x some = alone x (all x ∙ counts_any (λ y. x == y) (left_of (asked f)) (subst (λ zs. 1 ≤ times x zs) (sym left_is) some))

    first_left : Element q.unanswered
    first_left = element q.unanswered (sent f q is).some

    none_again : (op : RspOp) (bitag : BiTag) (low : ℕ) → Among (Message.BiRsp op bitag low) rest → bitag.0 ≡ f → Answering asked op bitag.0 (bitag.0 + low) → ⊥
    none_again RspOp.I bitag low among same h =
        uncounted (answers (left_of (asked f)) f (bitag.0 + low)) (Message.BiRsp RspOp.I bitag low) rest (alone_left (bitag.0 + low) (in_left h.q bitag.0 (bitag.0 + low) same h.is h.answered)).others among
        (single_named [] bitag.0 (bitag.0 + low) (bitag.0 + low) same refl)
    none_again RspOp.S bitag low among same h =
        uncounted (answers (left_of (asked f)) f (bitag.0 + low)) (Message.BiRsp RspOp.S bitag low) rest (alone_left (bitag.0 + low) (in_left h.q bitag.0 (bitag.0 + low) same h.is (and_parts _ _ h.answered).0)).others among
        (single_named [] bitag.0 (bitag.0 + low) (bitag.0 + low) same refl)
    none_again RspOp.E bitag low among same h = absurd (false≢true h.answered)
    none_again RspOp.IBlk bitag low among same h =
        uncounted (answers (left_of (asked f)) f first_left.x) (Message.BiRsp RspOp.IBlk bitag low) rest (alone_left first_left.x first_left.is).others among
        (block_named bitag.0 first_left.x same first_left.is)
    none_again RspOp.SBlk bitag low among same h = absurd (false≢true h.answered)
    none_again RspOp.EBlk bitag low among same h = absurd (false≢true h.answered)

    unnamed : (x : ℕ) (m : Message) → Among m rest → IsAnswering asked m → answers [] f x m ≡ false
    unnamed x (Message.Req _ _ _ _ _) among h = refl
    unnamed x (Message.MemWr _ _ _ _ _) among h = refl
    unnamed x (Message.BiConflict _) among h = refl
    unnamed x (Message.BiRsp op bitag low) among h = and_left _ _ (ne_eqb bitag.0 f (λ same. none_again op bitag low among same h))
    unnamed x (Message.Ndr _ _) among h = refl
    unnamed x (Message.MemData _ _) among h = refl
    unnamed x (Message.BiSnp _ _ _ _) among h = refl
    unnamed x (Message.Credit _) among h = refl

    block_own_lines : (x : ℕ) → times x (left_of (later f)) ≡ count_by (brings f x) bs + held f x ss + count_by (answers (left_of (later f)) f x) rest
    block_own_lines x =
        let lines = placed.lines f x in
        let fewer = count-rest (answers (left_of (asked f)) f x) taken rs there in
        let one : counts (answers (left_of (asked f)) f x) taken ≡ times x (left_of (asked f)) = ap (λ b. cond b 1 0) (all x) ∙ in_times x (left_of (asked f)) (once asked sent f x) in
        let none = none_counted (answers [] f x) rest (λ m among. unnamed x m among (placed.answering m (among_rest m taken rs among))) in
        subst (λ o. times x (left_of o) ≡ count_by (brings f x) bs + held f x ss + count_by (answers (left_of o) f x) rest) (sym own) (omega arith)

    block_other_lines : (g x : ℕ) → (f ≡ g → ⊥) → times x (left_of (later g)) ≡ count_by (brings g x) bs + held g x ss + count_by (answers (left_of (later g)) g x) rest
    block_other_lines g x differ =
        let lines = placed.lines g x in
        let none = elsewhere g x differ in
        let fewer = count-rest (answers (left_of (asked g)) g x) taken rs there in
        subst (λ o. times x (left_of o) ≡ count_by (brings g x) bs + held g x ss + count_by (answers (left_of o) g x) rest) (sym (other g differ)) (omega arith)

    block_brought : (m : Message) → Among m bs → IsBrought asked m → IsBrought later m
    block_brought (Message.Req _ _ _ _ _) among h = tt
    block_brought (Message.MemWr _ _ _ _ _) among h = tt
    block_brought (Message.BiConflict _) among h = tt
    block_brought (Message.BiRsp _ _ _) among h = tt
    block_brought (Message.Ndr _ _) among h = tt
    block_brought (Message.MemData _ _) among h = tt
    block_brought (Message.BiSnp op bitag line span) among h = elim (cases_eq f line.0) [
      | inl same ↦ absurd (uncounted (brings f first_left.x) (Message.BiSnp op bitag line span) bs (alone_left first_left.x first_left.is).flight among (snoop_brings op bitag line span first_left.x (sym same) h first_left.is))
      | inr differ ↦ brought_by asked later op line.0 span (other line.0 differ) h
    ]
    block_brought (Message.Credit _) among h = tt

    block_holding : (s : Snoop) → Among s ss → IsHeld later s
    block_holding s among = elim (cases_eq f s.first) [
      | inl same ↦ (
          let y = element s.unanswered (placed.holding s among).some in
          let some = y.is in
          let bounds = host_left s among (sym same) y.x in
          let low = bounds.0 in
          let none = (alone_left y.x (let high = bounds.1 in omega arith)).host in
          absurd (omega arith)
          )
      | inr differ ↦ holding_by asked later s (other s.first differ) (placed.holding s among)
    ]

    block_answering : (m : Message) → Among m rest → IsAnswering asked m → IsAnswering later m
    block_answering (Message.Req _ _ _ _ _) among h = tt
    block_answering (Message.MemWr _ _ _ _ _) among h = tt
    block_answering (Message.BiConflict _) among h = tt
    block_answering (Message.BiRsp op bitag low) among h = elim (cases_eq f bitag.0) [
      | inl same ↦ absurd (none_again op bitag low among (sym same) h)
      | inr differ ↦ answering_by asked later op bitag.0 (bitag.0 + low) (other bitag.0 differ) h
    ]
    block_answering (Message.Ndr _ _) among h = tt
    block_answering (Message.MemData _ _) among h = tt
    block_answering (Message.BiSnp _ _ _ _) among h = tt
    block_answering (Message.Credit _) among h = tt

    pub placed_block_answer : Placed later bs ss rest
    placed_block_answer = record {
      lines = λ g x. elim (cases_eq f g) [
        | inl same ↦ subst (λ k. times x (left_of (later k)) ≡ count_by (brings k x) bs + held k x ss + count_by (answers (left_of (later k)) k x) rest) same (block_own_lines x)
        | inr differ ↦ block_other_lines g x differ
      ];
      brought = λ m among. block_brought m among (placed.brought m among);
      holding = λ s among. block_holding s among;
      answering = λ m among. block_answering m among (placed.answering m (among_rest m taken rs among));
    }

-- ---- the device takes an answer

elsewhere : (op : RspOp) (bitag : BiTag) (low g x : ℕ) (left : List ℕ) → (bitag.0 ≡ g → ⊥) → counts (answers left g x) (Message.BiRsp op bitag low) ≡ 0
elsewhere op bitag low g x left differ = other_answers (bitag.0 == g) (is_in x (named_lines op (bitag.0 + low) left)) (ne_eqb bitag.0 g differ)

own_true : (b c : Bool) → b ≡ true → (b && c) ≡ c
own_true true c h = refl
own_true false c h = absurd (false≢true h)

pub placed_response :
    (asked later : ℕ → Option SentSnoop) (bs : List Message) (ss : List Snoop) (rs : List Message) (op : RspOp) (bitag : BiTag) (low : ℕ) (q : SentSnoop) → AreSent asked → Placed asked bs ss rs
    → list_any (message_eq (Message.BiRsp op bitag low)) rs ≡ true → asked bitag.0 ≡ Some q → is_answered_by op (bitag.0 + low) q ≡ true
    → later bitag.0 ≡ snoop_after_response op (bitag.0 + low) q → ((g : ℕ) → (bitag.0 ≡ g → ⊥) → later g ≡ asked g)
    → Placed later bs ss (without_first (Message.BiRsp op bitag low) rs)
placed_response asked later bs ss rs RspOp.I bitag low q sent placed there is answered own other =
    placed_line_answer asked sent bs ss rs placed (Message.BiRsp RspOp.I bitag low) there bitag.0 q is (bitag.0 + low) later
    (λ x. single_answers bitag.0 x (bitag.0 + low) (left_of (asked bitag.0)) ((bitag.0 + low) ∷ []) refl)
    (λ g x differ. elsewhere RspOp.I bitag low g x (left_of (asked g)) differ)
    (and_from _ _ (eq-eqb bitag.0 bitag.0 refl) (or_left _ _ (eq-eqb (bitag.0 + low) (bitag.0 + low) refl)))
    (any_counts (λ y. (bitag.0 + low) == y) q.unanswered answered) own other
placed_response asked later bs ss rs RspOp.S bitag low q sent placed there is answered own other =
    placed_line_answer asked sent bs ss rs placed (Message.BiRsp RspOp.S bitag low) there bitag.0 q is (bitag.0 + low) later
    (λ x. single_answers bitag.0 x (bitag.0 + low) (left_of (asked bitag.0)) ((bitag.0 + low) ∷ []) refl)
    (λ g x differ. elsewhere RspOp.S bitag low g x (left_of (asked g)) differ)
    (and_from _ _ (eq-eqb bitag.0 bitag.0 refl) (or_left _ _ (eq-eqb (bitag.0 + low) (bitag.0 + low) refl)))
    (any_counts (λ y. (bitag.0 + low) == y) q.unanswered (and_parts _ _ answered).0) own other
placed_response asked later bs ss rs RspOp.E bitag low q sent placed there is answered own other = absurd (false≢true answered)
placed_response asked later bs ss rs RspOp.IBlk bitag low q sent placed there is answered own other =
    placed_block_answer asked sent bs ss rs placed (Message.BiRsp RspOp.IBlk bitag low) there bitag.0 q is later
    (λ x. own_true (bitag.0 == bitag.0) (is_in x (left_of (asked bitag.0))) (eq-eqb bitag.0 bitag.0 refl))
    (λ g x differ. elsewhere RspOp.IBlk bitag low g x (left_of (asked g)) differ) own other
placed_response asked later bs ss rs RspOp.SBlk bitag low q sent placed there is answered own other = absurd (false≢true answered)
placed_response asked later bs ss rs RspOp.EBlk bitag low q sent placed there is answered own other = absurd (false≢true answered)
