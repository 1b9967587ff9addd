-- An event that a host's own half allows is what the host answers to its cause.
use Rattle.std.proofs.Common.{List, None, Option, Some, ap, arith, cond, false, inl, inr, length, sym, true, ℕ, ◌∙◌, ◌∷◌, ◌≡◌, ◌≤◌}
use Rattle.std.proofs.lemmas.Bool.{and_from, and_left, and_parts, and_right, cond-false, cond-true, le-ltb}
use Rattle.std.specs.Option.{option_map_or}
use Rattle.std.specs.Prelude.{is_none, nat_lt, not, ◌&&◌}
use Rattle.cxl_message.specs.declared.events.Cause.{Cause}
use Rattle.cxl_message.specs.declared.events.Event.{Event}
use Rattle.cxl_message.specs.declared.events.Op.{Op}
use Rattle.cxl_message.specs.declared.identifiers.Bytes64.{Bytes64}
use Rattle.cxl_message.specs.declared.identifiers.Line.{Line}
use Rattle.cxl_message.specs.declared.states.RuleNo.{RuleNo}
use Rattle.cxl_message.specs.Events.{line_of}
use Rattle.cxl_message.specs.Formed.{cause_formed}
use Rattle.cxl_message.specs.Setup.{Configuration}
use Rattle.coherence_model.specs.Cache.{is_writable, needs_eviction, needs_victim}
use Rattle.coherence_model.specs.Credits.{lacking_channel}
use Rattle.coherence_model.specs.Emission.{Emission}
use Rattle.coherence_model.specs.Fitting.{cause_fits, is_device}
use Rattle.coherence_model.specs.HostOperations.{hits, host_operates}
use Rattle.coherence_model.specs.HostRows.{host_emission, host_rule}
use Rattle.coherence_model.specs.Refusals.{Answer, answer_to_operation, answer_to_row, cause_passes, host_answer, is_short_of_tags, is_short_of_ways, profile_then_order, tags_needed, unless_lacking}
use Rattle.coherence_model.specs.Rules.{s0_stream_order}
use Rattle.coherence_model.specs.Snoops.{is_quiet}
use Rattle.coherence_model.specs.Tags.{free_tags}
use Rattle.coherence_lemmas.proofs.HostOperations.{host_operates-inv}
use Rattle.coherence_model.specs.OwnRuns.{is_own_run}
use Rattle.host_laws.proofs.Keeps.{own_event}

-- what an operation whose row holds has: a quiet line, tags and ways
record Able (setup : Configuration) (op : Op) (mine : List Event) : Type 0 where
  quiet : is_quiet (line_of op) mine ≡ true
  tags : is_short_of_tags setup op mine ≡ false
  ways : is_short_of_ways setup op mine ≡ false

enough : (n k : ℕ) → k ≤ n → nat_lt n k ≡ false
enough n k h = le-ltb n k h

one_tag : (setup : Configuration) (op : Op) (mine : List Event) (t : ℕ) (rest : List ℕ) → free_tags setup mine ≡ t ∷ rest → needs_eviction setup (line_of op) mine ≡ false → nat_lt (length (free_tags setup mine)) (tags_needed setup (line_of op) mine) ≡ false
one_tag setup op mine t rest free none =
    let some : 1 ≤ length (t ∷ rest) = omega arith in
    ap (λ xs. nat_lt (length xs) (tags_needed setup (line_of op) mine)) free ∙ ap (λ b. nat_lt (length (t ∷ rest)) (cond b 2 1)) none ∙ enough (length (t ∷ rest)) 1 some

two_tags : (setup : Configuration) (op : Op) (mine : List Event) (t u : ℕ) (rest : List ℕ) → free_tags setup mine ≡ t ∷ u ∷ rest → needs_eviction setup (line_of op) mine ≡ true → nat_lt (length (free_tags setup mine)) (tags_needed setup (line_of op) mine) ≡ false
two_tags setup op mine t u rest free needs =
    let some : 2 ≤ length (t ∷ u ∷ rest) = omega arith in
    ap (λ xs. nat_lt (length xs) (tags_needed setup (line_of op) mine)) free ∙ ap (λ b. nat_lt (length (t ∷ u ∷ rest)) (cond b 2 1)) needs ∙ enough (length (t ∷ u ∷ rest)) 2 some

able : (setup : Configuration) (h s i : ℕ) (op : Op) (mine : List Event) (w : Emission) → host_operates setup h s i op mine ≡ Some w → Able setup op mine
able setup h s i op mine w row = elim (host_operates-inv setup h s i op mine w row) [
  | inl hit ↦ record {
    quiet = hit.quiet;
    tags = and_left (not (hits setup op mine)) _ (ap not hit.on_copy);
    ways = and_left (not (hits setup op mine) && needs_victim setup (line_of op) mine) _ (and_left (not (hits setup op mine)) _ (ap not hit.on_copy));
  }
  | inr miss ↦ elim miss.how [
    | inl lone ↦ record {
      quiet = miss.quiet;
      tags = and_right (not (hits setup op mine)) _ (one_tag setup op mine lone.alone.tag lone.alone.rest lone.alone.free (and_left (needs_victim setup (line_of op) mine) _ lone.needs));
      ways = and_left (not (hits setup op mine) && needs_victim setup (line_of op) mine) _ (and_right (not (hits setup op mine)) _ lone.needs);
    }
    | inr other ↦ elim other [
      | inl drop ↦ record {
        quiet = miss.quiet;
        tags = and_right (not (hits setup op mine)) _ (one_tag setup op mine drop.alone.tag drop.alone.rest drop.alone.free
            (and_right (needs_victim setup (line_of op) mine) _ (ap (λ x. option_map_or (λ v. is_writable setup v mine) x false) drop.victim ∙ drop.shared)));
        ways = and_right (not (hits setup op mine) && needs_victim setup (line_of op) mine) _ (ap is_none drop.victim);
      }
      | inr evict ↦ record {
        quiet = miss.quiet;
        tags = and_right (not (hits setup op mine)) _ (two_tags setup op mine evict.evicting.eviction_tag evict.evicting.tag evict.evicting.rest evict.evicting.free
            (and_from (needs_victim setup (line_of op) mine) _ evict.needs (ap (λ x. option_map_or (λ v. is_writable setup v mine) x false) evict.victim ∙ evict.writable)));
        ways = and_right (not (hits setup op mine) && needs_victim setup (line_of op) mine) _ (ap is_none evict.victim);
      }
    ]
  ]
]

emits_row : (setup : Configuration) (rule : RuleNo) (mine : List Event) (x : Option Emission) (w : Emission) → x ≡ Some w → lacking_channel setup w.sends mine ≡ None → answer_to_row setup rule mine x ≡ Answer.Emits w
emits_row setup rule mine x w is paid = ap (answer_to_row setup rule mine) is ∙ ap (λ l. unless_lacking l (Answer.Emits w)) paid

row_answer : (setup : Configuration) (h : ℕ) (cause : Cause) (mine : List Event) (rule : RuleNo) (w : Emission) → cause_passes setup h cause ≡ true → host_emission setup h cause mine ≡ Some w → lacking_channel setup w.sends mine ≡ None
    → cond (cause_passes setup h cause) (answer_to_row setup rule mine (host_emission setup h cause mine)) (Answer.Broken RuleNo.P0) ≡ Answer.Emits w
row_answer setup h cause mine rule w passes row paid = cond-true (cause_passes setup h cause) _ _ passes ∙ emits_row setup rule mine (host_emission setup h cause mine) w row paid

emits_by : (setup : Configuration) (h : ℕ) (cause : Cause) (mine : List Event) (w : Emission) → cause_passes setup h cause ≡ true → s0_stream_order cause mine ≡ true → host_emission setup h cause mine ≡ Some w → lacking_channel setup w.sends mine ≡ None
    → host_answer setup h cause mine ≡ Answer.Emits w
emits_by setup h (Cause.Op s i op) mine w passes order row paid =
    let able = able setup h s i op mine w row in
    let low : nat_lt (line_of op) setup.lines ≡ true = (and_parts _ _ (and_parts (cause_formed (Cause.Op s i op)) (cause_fits setup h (Cause.Op s i op)) passes).1).1 in
    cond-false (not (nat_lt (line_of op) setup.lines)) _ _ (ap not low)
    ∙ cond-false (not (is_quiet (line_of op) mine)) _ _ (ap not able.quiet)
    ∙ cond-false (is_short_of_tags setup op mine) _ _ able.tags
    ∙ cond-false (is_short_of_ways setup op mine) _ _ able.ways
    ∙ ap (answer_to_operation setup h (Cause.Op s i op) mine) row
    ∙ ap (λ l. unless_lacking l (profile_then_order (cause_passes setup h (Cause.Op s i op)) (s0_stream_order (Cause.Op s i op) mine) w)) paid
    ∙ ap (λ b. profile_then_order b (s0_stream_order (Cause.Op s i op) mine) w) passes
    ∙ ap (λ b. profile_then_order true b w) order
emits_by setup h (Cause.Take g m) mine w passes order row paid = row_answer setup h (Cause.Take g m) mine (host_rule setup (Cause.Take g m) mine) w passes row paid
emits_by setup h (Cause.Act act) mine w passes order row paid = row_answer setup h (Cause.Act act) mine (host_rule setup (Cause.Act act) mine) w passes row paid

-- an own event is what the host answers
pub own_is_answered : (setup : Configuration) (opening : List (Line × Bytes64)) (h : ℕ) → is_device h ≡ false → (e : Event) (mine : List Event) → is_own_run setup opening h (e ∷ mine) ≡ true
    → host_answer setup h e.cause mine ≡ Answer.Emits (record { sends = e.sends; commit = e.commit })
own_is_answered setup opening h host e mine run =
    let own = own_event setup opening h host e mine run in
    emits_by setup h e.cause mine own.w (and_from (cause_formed e.cause) (cause_fits setup h e.cause) own.formed own.fits) own.order own.row own.paid
    ∙ (λ j. Answer.Emits (record { sends = sym own.sends j; commit = sym own.commit j }))
