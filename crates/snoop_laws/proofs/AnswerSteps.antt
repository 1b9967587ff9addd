-- A host answers one line of a snoop that it holds.
use Rattle.std.proofs.Common.{◌≡◌, ℕ, ◌+◌, ◌-◌, ◌≤◌, Bool, true, false, List, [], ◌∷◌, ◌++◌, Option, Some, cond, find, refl, sym, ◌∙◌, ap, subst, arith, inl, inr}
use Rattle.std.specs.Prelude.{◌&&◌, ◌==◌, ◌||◌}
use Rattle.std.proofs.lemmas.Bool.{and_from, and_parts, eq-eqb, eqb-true, leb-true}
use Rattle.std.proofs.lemmas.List.Sums.{sum_by-cons}
use Rattle.std.proofs.lemmas.Option.{none-some, same_Some}
use Rattle.cxl_message.specs.declared.events.Event.{Event}
use Rattle.cxl_message.specs.declared.messages.Message.{Message}
use Rattle.cxl_message.specs.declared.opcodes.RspOp.{RspOp}
use Rattle.cxl_message.specs.declared.opcodes.SnpOp.{SnpOp}
use Rattle.cxl_message.specs.Lists.{is_in, without}
use Rattle.cxl_message.specs.Setup.{Configuration}
use Rattle.cxl_message.specs.Spans.{lines_of}
use Rattle.coherence_model.specs.DeviceTakes.{is_answered_by}
use Rattle.coherence_model.specs.HostActs.{is_data_snoop, response_for, stays_shared}
use Rattle.coherence_model.specs.SentSnoops.{SentSnoop}
use Rattle.coherence_model.specs.Snoops.{Snoop, snoop_left, snoops_after_answer}
use Rattle.coherence_lemmas.proofs.Queues.{counts}
use Rattle.snoop_laws.proofs.Counts.{Among, among_either, among_sums, any_counts, count-sent, counts_any, times, times-without}
use Rattle.snoop_laws.proofs.Parts.{Part, part_covered, part_without}
use Rattle.snoop_laws.proofs.Places.{AreSent, IsAnswering, IsHeld, Placed, answers, held, holds, left_of, named_lines, once}

-- ---- the snoop that is found

found_by : (p : Snoop → Bool) (s y : Snoop) (ss : List Snoop) (here : Bool) → p y ≡ here → cond here (Some y) (find p ss) ≡ Some s
    → (find p ss ≡ Some s → Among s ss × (p s ≡ true)) → Among s (y ∷ ss) × (p s ≡ true)
found_by p s y ss true is h later = let same : y ≡ s = same_Some y s h in (inl (sym same), subst (λ z. p z ≡ true) same is)
found_by p s y ss false is h later = let rest = later h in (inr rest.0, rest.1)

pub found_snoop : (p : Snoop → Bool) (s : Snoop) (ss : List Snoop) → find p ss ≡ Some s → Among s ss × (p s ≡ true)
found_snoop p s [] h = absurd (none-some s h)
found_snoop p s (y ∷ ss) h = found_by p s y ss (p y) refl h (found_snoop p s ss)

-- ---- what is held after the answer for a line

left-held : (f x : ℕ) (s : Snoop) (zs : List ℕ) (ss : List Snoop) → held f x (snoop_left s zs ++ ss) ≡ cond (s.first == f) (times x zs) 0 + held f x ss
left-held f x s [] ss = by (s.first == f)
  where
    by : (b : Bool) → held f x ss ≡ cond b (times x []) 0 + held f x ss
    by true = omega arith
    by false = omega arith
left-held f x s (z ∷ zs) ss = sum_by-cons (holds f x) (record s { unanswered = z ∷ zs }) ss

-- of the line that is answered one is gone
fewer_held : (own : Bool) (x b n : ℕ) → n ≤ 1 → (x ≡ b → 1 ≤ n) → cond own n 0 ≡ cond own (cond (x == b) 0 n) 0 + cond (own && (x == b)) 1 0
fewer_held true x b n few some = by (x == b) (λ is. some (eqb-true x b is))
  where
    by : (same : Bool) → (same ≡ true → 1 ≤ n) → n ≡ cond same 0 n + cond same 1 0
    by true h = let one = h refl in omega arith
    by false h = omega arith
fewer_held false x b n few some = omega arith

answered_by : (b f x : ℕ) (s y : Snoop) (ss rest : List Snoop) (here : Bool) → is_in b y.unanswered ≡ here → times x y.unanswered ≤ 1
    → cond here (Some y) (find (λ z. is_in b z.unanswered) ss) ≡ Some s
    → (find (λ z. is_in b z.unanswered) ss ≡ Some s → held f x ss ≡ held f x rest + cond ((s.first == f) && (x == b)) 1 0)
    → held f x (y ∷ ss) ≡ held f x (cond here (snoop_left y (without b y.unanswered) ++ ss) (y ∷ rest)) + cond ((s.first == f) && (x == b)) 1 0
answered_by b f x s y ss rest true is few h later =
    let same : y ≡ s = same_Some y s h in
    let all = sum_by-cons (holds f x) y ss in
    let left = left-held f x y (without b y.unanswered) ss ∙ ap (λ n. cond (y.first == f) n 0 + held f x ss) (times-without x b y.unanswered) in
    let gone = fewer_held (y.first == f) x b (times x y.unanswered) few (λ at. subst (λ z. 1 ≤ times z y.unanswered) (sym at) (any_counts (λ z. b == z) y.unanswered is)) in
    subst (λ (z : Snoop). held f x (y ∷ ss) ≡ held f x (snoop_left y (without b y.unanswered) ++ ss) + cond ((z.first == f) && (x == b)) 1 0) same (omega arith)
answered_by b f x s y ss rest false is few h later =
    let all = sum_by-cons (holds f x) y ss in
    let kept = sum_by-cons (holds f x) y rest in
    let less = later h in
    omega arith

answered_held : (b f x : ℕ) (s : Snoop) (ss : List Snoop) → ((y : Snoop) → Among y ss → times x y.unanswered ≤ 1) → find (λ z. is_in b z.unanswered) ss ≡ Some s
    → held f x ss ≡ held f x (snoops_after_answer b ss) + cond ((s.first == f) && (x == b)) 1 0
answered_held b f x s [] few h = absurd (none-some s h)
answered_held b f x s (y ∷ ss) few h =
    answered_by b f x s y ss (snoops_after_answer b ss) (is_in b y.unanswered) refl (few y (inl refl)) h (answered_held b f x s ss (λ z there. few z (inr there)))

-- ---- what is left of the snoops is held still

left_holding : (asked : ℕ → Option SentSnoop) (b : ℕ) (s y : Snoop) (zs : List ℕ) → without b y.unanswered ≡ zs → IsHeld asked y → Among s (snoop_left y zs) → IsHeld asked s
left_holding asked b s y [] is held_y there = absurd there
left_holding asked b s y (z ∷ zs) is held_y there = elim there [
  | inl same ↦ subst (IsHeld asked) (sym same) (record {
    sent = held_y.sent;
    part = subst (λ xs. Part xs (lines_of y.first y.span)) is (part_without b y.unanswered (lines_of y.first y.span) held_y.part);
    some = omega arith;
  })
  | inr none ↦ absurd none
]

holding_by_answer : (asked : ℕ → Option SentSnoop) (b : ℕ) (s y : Snoop) (ss rest : List Snoop) (here : Bool) → ((z : Snoop) → Among z (y ∷ ss) → IsHeld asked z)
    → (Among s rest → IsHeld asked s) → Among s (cond here (snoop_left y (without b y.unanswered) ++ ss) (y ∷ rest)) → IsHeld asked s
holding_by_answer asked b s y ss rest true all later there = elim (among_either s (snoop_left y (without b y.unanswered)) ss there) [
  | inl left ↦ left_holding asked b s y (without b y.unanswered) refl (all y (inl refl)) left
  | inr other ↦ all s (inr other)
]
holding_by_answer asked b s y ss rest false all later there = elim there [
  | inl same ↦ all s (inl same)
  | inr other ↦ later other
]

holding_after_answer : (asked : ℕ → Option SentSnoop) (b : ℕ) (s : Snoop) (ss : List Snoop) → ((z : Snoop) → Among z ss → IsHeld asked z) → Among s (snoops_after_answer b ss) → IsHeld asked s
holding_after_answer asked b s [] all there = absurd there
holding_after_answer asked b s (y ∷ ss) all there =
    holding_by_answer asked b s y ss (snoops_after_answer b ss) (is_in b y.unanswered) all (holding_after_answer asked b s ss (λ z among. all z (inr among))) there

-- ---- a line that a held snoop has is one without an answer

holds_own : (f : ℕ) (x : ℕ) (s : Snoop) → s.first ≡ f → holds f x s ≡ times x s.unanswered
holds_own f x s same = ap (λ b. cond b (times x s.unanswered) 0) (eq-eqb s.first f same)

pub held_is_left : (asked : ℕ → Option SentSnoop) (bs : List Message) (ss : List Snoop) (rs : List Message) → Placed asked bs ss rs → (s : Snoop) → Among s ss → (x : ℕ)
    → times x s.unanswered ≤ held s.first x ss
held_is_left asked bs ss rs placed s there x =
    let own = holds_own s.first x s refl in
    let one = among_sums (holds s.first x) s ss there in
    omega arith

-- ---- the answer

single : (shared : Bool) (a : ℕ) (left : List ℕ) → named_lines (cond shared RspOp.S RspOp.I) a left ≡ a ∷ []
single true a left = refl
single false a left = refl

answers_by : (shared : Bool) (op : SnpOp) (b : ℕ) (q : SentSnoop) → (shared ≡ true → is_data_snoop op ≡ true) → q.op ≡ op → is_in b q.unanswered ≡ true → is_answered_by (cond shared RspOp.S RspOp.I) b q ≡ true
answers_by true op b q keeps same there = and_from _ _ there (ap is_data_snoop same ∙ keeps refl)
answers_by false op b q keeps same there = there

or_none : (b : Bool) → cond {A = ℕ} (b || false) 1 0 ≡ cond b 1 0
or_none true = refl
or_none false = refl

both_or : (a b : Bool) → cond {A = ℕ} (a && (b || false)) 1 0 ≡ cond (a && b) 1 0
both_or true b = or_none b
both_or false b = refl

back_to : (first b : ℕ) → first ≤ b → first + (b - first) ≡ b
back_to first b h = omega arith

module _ (asked : ℕ → Option SentSnoop) (sent : AreSent asked) (bs : List Message) (ss : List Snoop) (rs : List Message) (placed : Placed asked bs ss rs) where
  -- each line of a held snoop is one without an answer
  pub line_left : (s : Snoop) → Among s ss → (x : ℕ) → times x s.unanswered ≤ times x (left_of (asked s.first))
  line_left s there x =
      let lines = placed.lines s.first x in
      let some = held_is_left asked bs ss rs placed s there x in
      omega arith

  pub line_once : (s : Snoop) → Among s ss → (x : ℕ) → times x s.unanswered ≤ 1
  line_once s there x = let few = line_left s there x in let one = once asked sent s.first x in omega arith

  pub placed_answered : (setup : Configuration) (mine : List Event) (b : ℕ) (s : Snoop) → find (λ z. is_in b z.unanswered) ss ≡ Some s
      → Placed asked bs (snoops_after_answer b ss) (rs ++ Message.BiRsp (response_for setup s.op b mine) (record { 0 = s.first }) (b - s.first) ∷ [])
  placed_answered setup mine b s found =
      let here = found_snoop (λ z. is_in b z.unanswered) s ss found in
      let is = placed.holding s here.0 in
      let shared : Bool = stays_shared setup s.op b mine in
      let n : Message = Message.BiRsp (response_for setup s.op b mine) (record { 0 = s.first }) (b - s.first) in
      let covered = part_covered b s.first s.span s.unanswered is.part (any_counts (λ z. b == z) s.unanswered here.1) in
      let at : s.first + (b - s.first) ≡ b = back_to s.first b (leb-true s.first b (and_parts _ _ covered).0) in
      let q : SentSnoop = is.sent.q in
      let left : is_in b q.unanswered ≡ true = counts_any (λ z. b == z) q.unanswered
      (subst (λ o. 1 ≤ times b (left_of o)) is.sent.is
      (let few = line_left s here.0 b in let some = any_counts (λ z. b == z) s.unanswered here.1 in omega arith)) in
      record {
        lines = λ f x. (
            let before = placed.lines f x in
            let gone = answered_held b f x s ss (λ y there. line_once y there x) found in
            let more = count-sent (answers (left_of (asked f)) f x) rs n in
            let new : counts (answers (left_of (asked f)) f x) n ≡ cond ((s.first == f) && (x == b)) 1 0 =
            ap (λ ys. cond ((s.first == f) && is_in x ys) 1 0) (single shared (s.first + (b - s.first)) (left_of (asked f)))
            ∙ both_or (s.first == f) (x == (s.first + (b - s.first))) ∙ ap (λ a. cond ((s.first == f) && (x == a)) 1 0) at in
            omega arith
            );
        brought = placed.brought;
        holding = λ y there. holding_after_answer asked b y ss placed.holding there;
        answering = λ m there. elim (among_either m rs (n ∷ []) there) [
          | inl old ↦ placed.answering m old
          | inr new ↦ (elim new [
            | inl same ↦ subst (IsAnswering asked) (sym same) (record {
              q = q;
              is = is.sent.is;
              answered = subst (λ a. is_answered_by (response_for setup s.op b mine) a q ≡ true) (sym at)
                  (answers_by shared s.op b q (λ h. (and_parts _ _ (and_parts _ _ h).0).0) is.sent.op_same left);
            })
            | inr none ↦ absurd none
          ])
        ];
      }
