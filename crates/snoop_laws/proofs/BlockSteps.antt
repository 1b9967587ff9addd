-- A host answers a whole block that it holds at once.
use Rattle.std.proofs.Common.{◌≡◌, ℕ, ◌+◌, ◌≤◌, Bool, true, false, List, [], ◌∷◌, ◌++◌, Option, Some, cond, count_by, filter, find, length, sum_by, refl, sym, ◌∙◌, ap, subst, arith, inl, inr}
use Rattle.std.specs.Prelude.{not, ◌&&◌, ◌==◌}
use Rattle.std.proofs.lemmas.Bool.{and_from, and_parts, eq-eqb, eqb-true}
use Rattle.std.proofs.lemmas.List.Filters.{sum_by-filter_both}
use Rattle.std.proofs.lemmas.List.Sums.{sum_by-cons}
use Rattle.std.proofs.lemmas.Option.{none-some, same_Some}
use Rattle.cxl_message.specs.declared.messages.Message.{Message}
use Rattle.cxl_message.specs.declared.opcodes.RspOp.{RspOp}
use Rattle.cxl_message.specs.declared.opcodes.Span.{Span}
use Rattle.cxl_message.specs.Codes.{span_len}
use Rattle.cxl_message.specs.Lists.{is_in}
use Rattle.cxl_message.specs.Spans.{lines_of}
use Rattle.coherence_model.specs.SentSnoops.{SentSnoop}
use Rattle.coherence_model.specs.Snoops.{Snoop, invalidates_block, is_whole_block}
use Rattle.coherence_lemmas.proofs.Queues.{counts}
use Rattle.entry_laws.proofs.Blocks.{covers_first}
use Rattle.snoop_laws.proofs.AnswerSteps.{found_snoop, line_left}
use Rattle.snoop_laws.proofs.Counts.{Among, among_either, among_filter, count-cons, count-sent, sum-one, times, times-lines}
use Rattle.snoop_laws.proofs.Parts.{Part, part_full, part_long}
use Rattle.snoop_laws.proofs.Places.{AreSent, IsAnswering, IsHeld, Placed, answers, held, holds, in_times, left_of, once}

-- the block with a first line is the only one
counts_below : (p : Snoop → Bool) (f : Snoop → ℕ) (ss : List Snoop) → ((s : Snoop) → Among s ss → cond (p s) 1 0 ≤ f s) → count_by p ss ≤ sum_by f ss
counts_below p f [] each = omega arith
counts_below p f (s ∷ ss) each =
    let here = each s (inl refl) in
    let rest = counts_below p f ss (λ z there. each z (inr there)) in
    let count = count-cons p s ss in
    let sum = sum_by-cons f s ss in
    omega arith

none_pass-step : (b : Bool) (n : ℕ) (s : Snoop) (zs : List Snoop) → (n ≡ 0 → zs ≡ []) → cond b 1 0 + n ≡ 0 → cond b (s ∷ zs) zs ≡ []
none_pass-step true n s zs later h = absurd (omega arith)
none_pass-step false n s zs later h = later (omega arith)

none_pass : (p : Snoop → Bool) (ss : List Snoop) → count_by p ss ≡ 0 → filter p ss ≡ []
none_pass p [] h = refl
none_pass p (s ∷ ss) h = none_pass-step (p s) (count_by p ss) s (filter p ss) (none_pass p ss) (sym (count-cons p s ss) ∙ h)

one_passes : (p : Snoop → Bool) (s y : Snoop) (ss : List Snoop) (here : Bool) → cond here 1 0 + count_by p ss ≤ 1 → cond here (Some y) (find p ss) ≡ Some s
    → (count_by p ss ≤ 1 → find p ss ≡ Some s → filter p ss ≡ s ∷ []) → cond here (y ∷ filter p ss) (filter p ss) ≡ s ∷ []
one_passes p s y ss true few h later = ap (λ (z : Snoop). z ∷ filter p ss) (same_Some y s h) ∙ ap {B = List Snoop} (λ zs. s ∷ zs) (none_pass p ss (omega arith))
one_passes p s y ss false few h later = later (omega arith) h

only_one : (p : Snoop → Bool) (s : Snoop) (ss : List Snoop) → count_by p ss ≤ 1 → find p ss ≡ Some s → filter p ss ≡ s ∷ []
only_one p s [] few h = absurd (none-some s h)
only_one p s (y ∷ ss) few h = one_passes p s y ss (p y) (subst (λ n. n ≤ 1) (count-cons p y ss) few) h (only_one p s ss)

-- ---- a whole block has all its lines

lines_long : (first : ℕ) (span : Span) → length (lines_of first span) ≡ span_len span
lines_long first Span.One = refl
lines_long first Span.Two = refl
lines_long first Span.Four = refl

-- what it says that a snoop is a whole block
record WholeBlock (first : ℕ) (s : Snoop) : Type 0 where
  block : invalidates_block s.op ≡ true
  first_same : s.first ≡ first
  all : s.unanswered ≡ lines_of s.first s.span

whole_block : (asked : ℕ → Option SentSnoop) (first : ℕ) (s : Snoop) → IsHeld asked s → is_whole_block first s ≡ true → WholeBlock first s
whole_block asked first s is whole =
    let parts = and_parts _ _ whole in
    let named = and_parts (invalidates_block s.op) (s.first == first) parts.0 in
    record {
      block = named.0;
      first_same = eqb-true s.first first named.1;
      all = part_long s.unanswered (lines_of s.first s.span) is.part (eqb-true (length s.unanswered) (span_len s.span) parts.1 ∙ sym (lines_long s.first s.span));
    }

first_held : (asked : ℕ → Option SentSnoop) (first : ℕ) (s : Snoop) (whole : Bool) → is_whole_block first s ≡ whole → IsHeld asked s → cond whole 1 0 ≤ holds first first s
first_held asked first s true is held_s =
    let block = whole_block asked first s held_s is in
    let own : holds first first s ≡ times first s.unanswered = ap (λ b. cond b (times first s.unanswered) 0) (eq-eqb s.first first block.first_same) in
    let lines : times first s.unanswered ≡ times first (lines_of first s.span) = ap (times first) block.all ∙ ap (λ a. times first (lines_of a s.span)) block.first_same in
    let one : times first (lines_of first s.span) ≡ 1 = times-lines first first s.span ∙ ap (λ b. cond b 1 0) (covers_first first s.span) in
    omega arith
first_held asked first s false is held_s = omega arith

module _ (asked : ℕ → Option SentSnoop) (sent : AreSent asked) (bs : List Message) (ss : List Snoop) (rs : List Message) (placed : Placed asked bs ss rs) (first : ℕ) (s : Snoop) (found : find (is_whole_block first) ss ≡ Some s) where
  -- the held lines that go are those of the block
  block_held : (f x : ℕ) → held f x ss ≡ holds f x s + held f x (filter (λ z. not (is_whole_block first z)) ss)
  block_held f x =
      let few = counts_below (is_whole_block first) (holds first first) ss (λ y there. first_held asked first y (is_whole_block first y) refl (placed.holding y there)) in
      let lines = placed.lines first first in
      let most = once asked sent first first in
      let only = ap (held f x) (only_one (is_whole_block first) s ss (omega arith) found) in
      let one = sum-one (holds f x) s in
      let both = sum_by-filter_both (is_whole_block first) (λ z. not (is_whole_block first z)) (λ z. refl) (holds f x) ss in
      omega arith

  here : Among s ss × (is_whole_block first s ≡ true)
  here = found_snoop (is_whole_block first) s ss found

  is : IsHeld asked s
  is = placed.holding s here.0

  block : WholeBlock first s
  block = whole_block asked first s is here.1

  -- the block has all lines without an answer
  same_lines : is.sent.q.unanswered ≡ s.unanswered
  same_lines =
      let part : Part is.sent.q.unanswered (lines_of s.first s.span) =
      subst (λ span. Part is.sent.q.unanswered (lines_of s.first span)) is.sent.span_same (sent s.first is.sent.q is.sent.is).part in
      part_full is.sent.q.unanswered (lines_of s.first s.span) part (λ a some.
      subst (λ o. 1 ≤ times a (left_of o)) is.sent.is
      (let few = line_left asked sent bs ss rs placed s here.0 a in let all = ap (times a) block.all in omega arith))
      ∙ sym block.all

  block_lines : (f x : ℕ) (own : Bool) → (first == f) ≡ own → cond (own && is_in x (left_of (asked f))) 1 0 ≡ cond own (times x s.unanswered) 0
  block_lines f x true at =
      let same : left_of (asked f) ≡ s.unanswered = ap (λ a. left_of (asked a)) (sym (eqb-true first f at)) ∙ ap (λ a. left_of (asked a)) (sym block.first_same) ∙ ap left_of is.sent.is ∙ same_lines in
      in_times x (left_of (asked f)) (once asked sent f x) ∙ ap (times x) same
  block_lines f x false at = refl

  pub placed_block : Placed asked bs (filter (λ z. not (is_whole_block first z)) ss) (rs ++ Message.BiRsp RspOp.IBlk (record { 0 = first }) 0 ∷ [])
  placed_block =
      let n : Message = Message.BiRsp RspOp.IBlk (record { 0 = first }) 0 in
      let q : SentSnoop = is.sent.q in
      record {
        lines = λ f x. (
            let before = placed.lines f x in
            let gone = block_held f x in
            let more = count-sent (answers (left_of (asked f)) f x) rs n in
            let new : counts (answers (left_of (asked f)) f x) n ≡ holds f x s = block_lines f x (first == f) refl ∙ ap (λ a. cond (a == f) (times x s.unanswered) 0) (sym block.first_same) in
            omega arith
            );
        brought = placed.brought;
        holding = λ y there. placed.holding y (among_filter (λ z. not (is_whole_block first z)) y ss there);
        answering = λ m there. elim (among_either m rs (n ∷ []) there) [
          | inl old ↦ placed.answering m old
          | inr new ↦ (elim new [
            | inl same ↦ subst (IsAnswering asked) (sym same) (record {
              q = q;
              is = ap asked (sym block.first_same) ∙ is.sent.is;
              answered = and_from _ _ (ap invalidates_block is.sent.op_same ∙ block.block)
                  (eq-eqb (length q.unanswered) (span_len q.span) (ap length (same_lines ∙ block.all) ∙ lines_long s.first s.span ∙ ap span_len (sym is.sent.span_same)));
            })
            | inr none ↦ absurd none
          ])
        ];
      }
