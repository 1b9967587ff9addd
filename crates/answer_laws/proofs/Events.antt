-- Which events are allowed, by P0, K0 and what their agents answer.
use Rattle.std.proofs.Common.{◌≡◌, Bool, true, false, IsTrue, List, Option, None, cond, refl, ap, sym, ◌∙◌}
use Rattle.std.specs.Prelude.{◌&&◌}
use Rattle.std.specs.Option.{option_map_or}
use Rattle.std.proofs.lemmas.Bool.{and_from, and_parts, false≢true}
use Rattle.cxl_message.specs.declared.events.Event.{Event}
use Rattle.cxl_message.specs.declared.identifiers.Bytes64.{Bytes64}
use Rattle.cxl_message.specs.declared.identifiers.Line.{Line}
use Rattle.cxl_message.specs.declared.states.RuleNo.{RuleNo}
use Rattle.cxl_message.specs.Formed.{cause_formed, well_formed}
use Rattle.cxl_message.specs.Setup.{Configuration}
use Rattle.cxl_message.proofs.SameEvents.{commits_same, sends_eq-same}
use Rattle.coherence_model.specs.Emission.{Emission}
use Rattle.coherence_model.specs.Fitting.{cause_fits}
use Rattle.coherence_model.specs.Refusals.{Answer, cause_passes}
use Rattle.coherence_model.specs.Rows.{emission, is_emitted, row_holds, rule_of}
use Rattle.coherence_model.specs.Rules.{k0_takeable, p0_profile, s0_stream_order}
use Rattle.coherence_model.specs.Runs.{first_broken, first_failure, is_allowed, own_half}
use Rattle.coherence_model.specs.Traces.{events_of}
use Rattle.coherence_lemmas.proofs.Allowed.{profiled}
use Rattle.answer_laws.specs.Answered.{agent_answer, emission_of, is_answered, is_by_answer}
use Rattle.answer_laws.specs.Laws.{AllowedIsAnswered, AllowedIsEmitted, FirstBrokenIsAnswered, OwnHalfIsAnswered}
use Rattle.answer_laws.proofs.Answers.{answer_is_row}

formed_cause : (e : Event) → IsTrue (well_formed e) → IsTrue (cause_formed e.cause)
formed_cause e formed =
    let three = and_parts _ _ formed in
    let two = and_parts _ _ three.0 in
    (and_parts _ _ two.0).1

-- the cause of an event that keeps P0 passes
pub passes_of : (setup : Configuration) (e : Event) → IsTrue (p0_profile setup e) → cause_passes setup e.agent e.cause ≡ true
passes_of setup e p0 =
    let parts = profiled setup e p0 in
    and_from (cause_formed e.cause) (cause_fits setup e.agent e.cause) (formed_cause e parts.formed) parts.cause

-- what is emitted behind a test
behind : (e : Event) (order : Bool) (o : Option Emission) → option_map_or (is_emitted e) (cond order o None) false ≡ order && option_map_or (is_emitted e) o false
behind e true o = refl
behind e false o = refl

-- an event that keeps P0 is what its agent answers exactly where it comes in its stream's order and its row holds
pub answered_past_profile :
    (setup : Configuration) (opening : List (Line × Bytes64)) (e : Event) (mine : List Event) → p0_profile setup e ≡ true
    → is_answered setup opening e mine ≡ s0_stream_order e.cause mine && row_holds setup opening e mine
answered_past_profile setup opening e mine p0 =
    ap (λ o. option_map_or (is_emitted e) o false) (answer_is_row setup opening e.agent e.cause mine)
    ∙ ap (λ passes. option_map_or (is_emitted e) (cond (passes && s0_stream_order e.cause mine) (emission setup opening e.agent e.cause mine) None) false) (passes_of setup e p0)
    ∙ behind e (s0_stream_order e.cause mine) (emission setup opening e.agent e.cause mine)

-- the own half, whether P0 is kept or not
half_by : (p s r x : Bool) → (p ≡ true → x ≡ s && r) → (p && s && r) ≡ p && x
half_by false s r x is = refl
half_by true s r x is = sym (is refl)

pub own_half_is_answered : OwnHalfIsAnswered
unfolding own_half
own_half_is_answered setup opening e mine =
    half_by (p0_profile setup e) (s0_stream_order e.cause mine) (row_holds setup opening e mine) (is_answered setup opening e mine) (answered_past_profile setup opening e mine)

-- three tests in another order
reorder : (p x k : Bool) → ((p && x) && k) ≡ (p && k) && x
reorder false x k = refl
reorder true false false = refl
reorder true false true = refl
reorder true true false = refl
reorder true true true = refl

pub allowed_is_answered : AllowedIsAnswered
unfolding is_allowed
allowed_is_answered setup opening t e =
    let mine = events_of e.agent t in
    ap (λ (half : Bool). half && k0_takeable e.cause t) (own_half_is_answered setup opening e mine)
    ∙ reorder (p0_profile setup e) (is_answered setup opening e mine) (k0_takeable e.cause t)

-- an event that an answer gives: the answer is what it sends and commits
by_answer : (e : Event) (answer : Answer) → IsTrue (is_by_answer e answer) → answer ≡ Answer.Emits (emission_of e)
by_answer e (Answer.Emits w) is =
    let same = and_parts _ _ is in
    λ i. Answer.Emits (record { sends = sym (sends_eq-same e.sends w.sends same.0) i; commit = sym (commits_same e.commit w.commit same.1) i })
by_answer e Answer.NoSuchLine is = absurd (false≢true is)
by_answer e Answer.Again is = absurd (false≢true is)
by_answer e Answer.NoTag is = absurd (false≢true is)
by_answer e Answer.NoWay is = absurd (false≢true is)
by_answer e (Answer.NoCredit c) is = absurd (false≢true is)
by_answer e (Answer.Broken rule) is = absurd (false≢true is)

pub allowed_is_emitted : AllowedIsEmitted
allowed_is_emitted setup opening t e allowed =
    let mine = events_of e.agent t in
    by_answer e (agent_answer setup opening e.agent e.cause mine)
    (and_parts _ (is_answered setup opening e mine) (sym (allowed_is_answered setup opening t e) ∙ allowed)).1

-- the first failure asks the last test only where the others hold
last_by : (p k s r x : Bool) (rule : RuleNo) → (p ≡ true → x ≡ s && r) → first_failure p k s r rule ≡ first_failure p k s x rule
last_by false k s r x rule is = refl
last_by true false s r x rule is = refl
last_by true true false r x rule is = refl
last_by true true true r x rule is = ap (λ (row : Bool). first_failure true true true row rule) (sym (is refl))

pub first_broken_is_answered : FirstBrokenIsAnswered
unfolding first_broken
first_broken_is_answered setup opening t e =
    let mine = events_of e.agent t in
    last_by (p0_profile setup e) (k0_takeable e.cause t) (s0_stream_order e.cause mine) (row_holds setup opening e mine) (is_answered setup opening e mine)
    (rule_of setup e.agent e.cause mine) (answered_past_profile setup opening e mine)
