-- What a taken answer leaves of the answers in flight: those for other lines stay answers for them.
use Rattle.std.proofs.Common.{◌≡◌, ℕ, ◌+◌, ◌≤◌, Bool, true, false, List, [], ◌∷◌, Some, cond, count_by, refl, sym, ◌∙◌, ap, arith}
use Rattle.std.specs.Prelude.{not, option_and_then, ◌==◌, ◌&&◌}
use Rattle.std.specs.Option.{option_map_or}
use Rattle.std.proofs.lemmas.Bool.{and_parts, eq-eqb, eqb-true, false≢true, or_left}
use Rattle.cxl_message.specs.declared.events.Event.{Event}
use Rattle.cxl_message.specs.declared.messages.Message.{Message}
use Rattle.cxl_message.specs.declared.opcodes.RspOp.{RspOp}
use Rattle.cxl_message.specs.Lists.{is_in, without}
use Rattle.coherence_model.specs.SentSnoops.{SentSnoop, sent_snoop_at, snoop_after_response, still_asking, unanswered_lines}
use Rattle.coherence_model.specs.SnoopFacts.{answers_line, answers_line_by}
use Rattle.entry_laws.proofs.Blocks.{in_filter}
use Rattle.request_laws.proofs.Counts.{count_by-cons}

-- where the device's snoops stay, answers stay answers
pub answers_stay : (h a : ℕ) (dev later : List Event) → ((f : ℕ) → sent_snoop_at h f later ≡ sent_snoop_at h f dev) → (m : Message) → answers_line h a later m ≡ answers_line h a dev m
answers_stay h a dev later same (Message.Req _ _ _ _ _) = refl
answers_stay h a dev later same (Message.MemWr _ _ _ _ _) = refl
answers_stay h a dev later same (Message.BiConflict _) = refl
answers_stay h a dev later same (Message.BiRsp op bitag low) = by op
  where
    left : (f : ℕ) → is_in a (unanswered_lines h f later) ≡ is_in a (unanswered_lines h f dev)
    left f = ap (λ o. is_in a (option_map_or (λ (q : SentSnoop). q.unanswered) o [])) (same f)

    by : (op : RspOp) → answers_line_by op h bitag.0 (bitag.0 + low) a later ≡ answers_line_by op h bitag.0 (bitag.0 + low) a dev
    by RspOp.I = refl
    by RspOp.S = refl
    by RspOp.E = refl
    by RspOp.IBlk = left bitag.0
    by RspOp.SBlk = left bitag.0
    by RspOp.EBlk = left bitag.0
answers_stay h a dev later same (Message.Ndr _ _) = refl
answers_stay h a dev later same (Message.MemData _ _) = refl
answers_stay h a dev later same (Message.BiSnp _ _ _ _) = refl
answers_stay h a dev later same (Message.Credit _) = refl

-- fewer pass a test that is stronger
more_by : (b c : Bool) (n m : ℕ) → (b ≡ true → c ≡ true) → n ≤ m → cond b 1 0 + n ≤ cond c 1 0 + m
more_by true true n m f h = omega arith
more_by true false n m f h = absurd (false≢true (f refl))
more_by false true n m f h = omega arith
more_by false false n m f h = omega arith

pub count_weaker : (p q : Message → Bool) → ((m : Message) → p m ≡ true → q m ≡ true) → (ms : List Message) → count_by p ms ≤ count_by q ms
count_weaker p q f [] = omega arith
count_weaker p q f (m ∷ ms) =
    let first = count_by-cons p m ms in
    let second = count_by-cons q m ms in
    let step = more_by (p m) (q m) (count_by p ms) (count_by q ms) (f m) (count_weaker p q f ms) in
    omega arith

-- the lines that an answer leaves
abbrev remaining : RspOp → ℕ → List ℕ → List ℕ
remaining RspOp.I b xs = without b xs
remaining RspOp.S b xs = without b xs
remaining RspOp.E b xs = without b xs
remaining RspOp.IBlk b xs = []
remaining RspOp.SBlk b xs = []
remaining RspOp.EBlk b xs = []

-- what a snoop asks after an answer, from what is left of it
asking_left : (q : SentSnoop) (xs : List ℕ) → option_map_or (λ (z : SentSnoop). z.unanswered) (still_asking q xs) [] ≡ xs
asking_left q [] = refl
asking_left q (x ∷ xs) = refl

-- what a response leaves of a snoop
response_left : (op : RspOp) (b : ℕ) (q : SentSnoop) → option_map_or (λ (z : SentSnoop). z.unanswered) (snoop_after_response op b q) [] ≡ remaining op b q.unanswered
response_left RspOp.I b q = asking_left q (without b q.unanswered)
response_left RspOp.S b q = asking_left q (without b q.unanswered)
response_left RspOp.E b q = asking_left q (without b q.unanswered)
response_left RspOp.IBlk b q = refl
response_left RspOp.SBlk b q = refl
response_left RspOp.EBlk b q = refl

-- both are the first where the second is true
and_true : (b c : Bool) → c ≡ true → (b && c) ≡ b
and_true true c h = h
and_true false c h = refl

-- without one line the others are as before
other_in : (a b : ℕ) (xs : List ℕ) → is_in a (b ∷ []) ≡ false → is_in a (without b xs) ≡ is_in a xs
other_in a b xs other = in_filter a (λ y. not (b == y)) xs ∙ and_true (is_in a xs) (not (b == a)) (by (b == a) refl)
  where
    by : (c : Bool) → (b == a) ≡ c → not c ≡ true
    by true is = absurd (false≢true (sym other ∙ or_left (a == b) false (eq-eqb a b (sym (eqb-true b a is)))))
    by false is = refl

-- what is left was there
fewer_in : (a b : ℕ) (xs : List ℕ) → is_in a (without b xs) ≡ true → is_in a xs ≡ true
fewer_in a b xs is = (and_parts _ _ (sym (in_filter a (λ y. not (b == y)) xs) ∙ is)).0

module _ (h a : ℕ) (dev later : List Event) (op : RspOp) (first low : ℕ) (q : SentSnoop) (asked : sent_snoop_at h first dev ≡ Some q)
    (snoops : (f : ℕ) → sent_snoop_at h f later ≡ cond (first == f) (option_and_then (snoop_after_response op (f + low)) (sent_snoop_at h f dev)) (sent_snoop_at h f dev)) where
  -- what is unanswered after the answer, for the answered snoop and for the others
  left_is : (f : ℕ) (here : Bool) → (first == f) ≡ here → unanswered_lines h f later ≡ cond here (remaining op (first + low) q.unanswered) (unanswered_lines h f dev)
  left_is f true is =
      let same = eqb-true first f is in
      ap (λ o. option_map_or (λ (z : SentSnoop). z.unanswered) o []) (snoops f ∙ ap (λ b. cond b (option_and_then (snoop_after_response op (f + low)) (sent_snoop_at h f dev)) (sent_snoop_at h f dev)) is
      ∙ ap (λ x. option_and_then (snoop_after_response op (x + low)) (sent_snoop_at h x dev)) (sym same) ∙ ap (option_and_then (snoop_after_response op (first + low))) asked)
      ∙ response_left op (first + low) q
  left_is f false is =
      ap (λ o. option_map_or (λ (z : SentSnoop). z.unanswered) o []) (snoops f ∙ ap (λ b. cond b (option_and_then (snoop_after_response op (f + low)) (sent_snoop_at h f dev)) (sent_snoop_at h f dev)) is)

  -- what was unanswered for the answered snoop
  old_is : unanswered_lines h first dev ≡ q.unanswered
  old_is = ap (λ o. option_map_or (λ (z : SentSnoop). z.unanswered) o []) asked

  -- an answer for another line leaves the line in the snoop or out of it
  left_same_by : (op' : RspOp) → answers_line_by op' h first (first + low) a dev ≡ false → is_in a (remaining op' (first + low) q.unanswered) ≡ is_in a q.unanswered
  left_same_by RspOp.I other = other_in a (first + low) q.unanswered other
  left_same_by RspOp.S other = other_in a (first + low) q.unanswered other
  left_same_by RspOp.E other = other_in a (first + low) q.unanswered other
  left_same_by RspOp.IBlk other = sym (sym (ap (is_in a) old_is) ∙ other)
  left_same_by RspOp.SBlk other = sym (sym (ap (is_in a) old_is) ∙ other)
  left_same_by RspOp.EBlk other = sym (sym (ap (is_in a) old_is) ∙ other)

  -- a line that isn't answered is left as before
  left_same : answers_line_by op h first (first + low) a dev ≡ false → (f : ℕ) → is_in a (unanswered_lines h f later) ≡ is_in a (unanswered_lines h f dev)
  left_same other f = by (first == f) refl
    where
      by : (here : Bool) → (first == f) ≡ here → is_in a (unanswered_lines h f later) ≡ is_in a (unanswered_lines h f dev)
      by true is = ap (is_in a) (left_is f true is) ∙ left_same_by op other ∙ sym (ap (is_in a) old_is) ∙ ap (λ x. is_in a (unanswered_lines h x dev)) (eqb-true first f is)
      by false is = ap (is_in a) (left_is f false is)

  -- a line that is left was unanswered
  left_fewer_by : (op' : RspOp) → is_in a (remaining op' (first + low) q.unanswered) ≡ true → is_in a q.unanswered ≡ true
  left_fewer_by RspOp.I is = fewer_in a (first + low) q.unanswered is
  left_fewer_by RspOp.S is = fewer_in a (first + low) q.unanswered is
  left_fewer_by RspOp.E is = fewer_in a (first + low) q.unanswered is
  left_fewer_by RspOp.IBlk is = absurd (false≢true is)
  left_fewer_by RspOp.SBlk is = absurd (false≢true is)
  left_fewer_by RspOp.EBlk is = absurd (false≢true is)

  -- no line comes in
  left_fewer : (f : ℕ) → is_in a (unanswered_lines h f later) ≡ true → is_in a (unanswered_lines h f dev) ≡ true
  left_fewer f there = by (first == f) refl
    where
      by : (here : Bool) → (first == f) ≡ here → is_in a (unanswered_lines h f dev) ≡ true
      by true is = sym (ap (λ x. is_in a (unanswered_lines h x dev)) (eqb-true first f is)) ∙ ap (is_in a) old_is ∙ left_fewer_by op (sym (ap (is_in a) (left_is f true is)) ∙ there)
      by false is = sym (ap (is_in a) (left_is f false is)) ∙ there

  -- a taken answer for another line leaves what answers this one
  pub answers_same : answers_line_by op h first (first + low) a dev ≡ false → (m : Message) → answers_line h a later m ≡ answers_line h a dev m
  answers_same other (Message.Req _ _ _ _ _) = refl
  answers_same other (Message.MemWr _ _ _ _ _) = refl
  answers_same other (Message.BiConflict _) = refl
  answers_same other (Message.BiRsp op' bitag low') = by op'
    where
      by : (op'' : RspOp) → answers_line_by op'' h bitag.0 (bitag.0 + low') a later ≡ answers_line_by op'' h bitag.0 (bitag.0 + low') a dev
      by RspOp.I = refl
      by RspOp.S = refl
      by RspOp.E = refl
      by RspOp.IBlk = left_same other bitag.0
      by RspOp.SBlk = left_same other bitag.0
      by RspOp.EBlk = left_same other bitag.0
  answers_same other (Message.Ndr _ _) = refl
  answers_same other (Message.MemData _ _) = refl
  answers_same other (Message.BiSnp _ _ _ _) = refl
  answers_same other (Message.Credit _) = refl

  -- what answers the line after an answer was taken answered it before
  pub answers_fewer : (m : Message) → answers_line h a later m ≡ true → answers_line h a dev m ≡ true
  answers_fewer (Message.Req _ _ _ _ _) is = is
  answers_fewer (Message.MemWr _ _ _ _ _) is = is
  answers_fewer (Message.BiConflict _) is = is
  answers_fewer (Message.BiRsp op' bitag low') is = by op' is
    where
      by : (op'' : RspOp) → answers_line_by op'' h bitag.0 (bitag.0 + low') a later ≡ true → answers_line_by op'' h bitag.0 (bitag.0 + low') a dev ≡ true
      by RspOp.I is' = is'
      by RspOp.S is' = is'
      by RspOp.E is' = is'
      by RspOp.IBlk is' = left_fewer bitag.0 is'
      by RspOp.SBlk is' = left_fewer bitag.0 is'
      by RspOp.EBlk is' = left_fewer bitag.0 is'
  answers_fewer (Message.Ndr _ _) is = is
  answers_fewer (Message.MemData _ _) is = is
  answers_fewer (Message.BiSnp _ _ _ _) is = is
  answers_fewer (Message.Credit _) is = is
