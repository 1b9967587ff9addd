-- The choices of a script by the hosts' answers, and driving by number.
use Rattle.std.proofs.Common.{◌≡◌, ℕ, zero, suc, ◌+◌, ◌-◌, ◌*◌, ◌%◌, ◌<◌, ◌≤◌, Bool, true, false, cond, List, [], ◌∷◌, ◌++◌, length, Option, Some, None, refl, ap, sym, ◌∙◌, arith, inl, inr}
use Rattle.std.specs.Prelude.{flat_map, nat_lt, not, option_map, option_to_list, slice_get, ◌&&◌}
use Rattle.std.specs.Option.{option_map_or}
use Rattle.std.proofs.lemmas.Bool.{ltb-false, and_from, and_right, eq-eqb, false≢true, ltb-true}
use Rattle.std.proofs.lemmas.List.{length-append}
use Rattle.std.proofs.lemmas.Option.{none-some, slice_get_cases}
use Rattle.std.proofs.Math.Nat.{mod-lt}
use Rattle.cxl_message.specs.declared.events.Cause.{Cause}
use Rattle.cxl_message.specs.declared.events.Event.{Event}
use Rattle.cxl_message.specs.declared.events.Op.{Op}
use Rattle.cxl_message.specs.Script.{ScriptValue}
use Rattle.coherence_model.specs.Choices.{Stream, choices, operation_step, stream_step, streams_of}
use Rattle.coherence_model.specs.Driven.{pick_from, pick_now}
use Rattle.coherence_model.specs.Emission.{Emission}
use Rattle.coherence_model.specs.Fitting.{is_device}
use Rattle.coherence_model.specs.Next.{event_with, next_steps, step_of}
use Rattle.coherence_model.specs.Refusals.{cause_passes}
use Rattle.coherence_model.specs.Rows.{emission}
use Rattle.coherence_model.specs.Rules.{s0_stream_order}
use Rattle.coherence_model.specs.Streams.{begun_count, stream_waits}
use Rattle.coherence_model.specs.Traces.{events_of}
use Rattle.step_laws.proofs.Counts.{Each, each_holds}
use Rattle.driven_laws.specs.Scripts.{IsDrivable}
use Rattle.driven_laws.proofs.Ending.{has_choice, reached_is_short}
use Rattle.driven_laws.proofs.OnTheWay.{way_goes_on}
use Rattle.driven_laws.proofs.Reached.{cause_is_fit, in_order}
use Rattle.commit_laws.proofs.Streams.{IsStreamOf, few_streams, not_the_device, streams_are}
use Rattle.bound_laws.specs.Laws.{most_next_steps}
use Rattle.cxl_message.specs.declared.limits.TheConstants.{MAX_STREAMS}
use Rattle.bound_laws.proofs.Few.{next_steps_are_few}
use Rattle.bound_laws.proofs.Joined.{joined_within, one_at_most}
use Rattle.answer_laws.proofs.Answers.{host_answer_is_row}
use Rattle.choice_laws.specs.Answered.{host_steps, next_answer}
use Rattle.choice_laws.specs.Laws.{AnyPickReaches, ChoiceIsAtItsPlace, ChoicesAreAnswered, ChoicesAreFew, WayGoesByNumber}

-- ---- the choices

-- lists whose parts are the same
same_joined : (P : Stream → Type 0) (f g : Stream → List Event) → ((y : Stream) → P y → f y ≡ g y) → (ys : List Stream) → Each P ys → flat_map f ys ≡ flat_map g ys
same_joined P f g same [] all = refl
same_joined P f g same (y ∷ ys) all = ap (λ (xs : List Event). xs ++ flat_map f ys) (same y all.0) ∙ ap (λ (xs : List Event). g y ++ xs) (same_joined P f g same ys all.1)

-- a gate that is closed, and one that is open
closed_gate : (gate : Bool) (xs : List Event) → gate ≡ false → [] ≡ cond gate xs []
closed_gate true xs is = absurd (false≢true (sym is))
closed_gate false xs is = refl

open_gate : (gate : Bool) (xs : List Event) → gate ≡ true → xs ≡ cond gate xs []
open_gate true xs is = refl
open_gate false xs is = absurd (false≢true is)

-- the next operation of a stream, whether it waits or not
waiting_by :
    (script : ScriptValue) → IsDrivable script → (t : List Event) (y : Stream) → IsStreamOf script y → (op : Op) → slice_get y.operations (begun_count y.number (events_of y.host t)) ≡ Some op → (waits : Bool)
    → stream_waits y.number (events_of y.host t) ≡ waits
    → operation_step script t y (cond waits None (Some op))
    ≡ cond (cause_passes script.setup y.host (Cause.Op y.number (begun_count y.number (events_of y.host t)) op) && s0_stream_order (Cause.Op y.number (begun_count y.number (events_of y.host t)) op) (events_of y.host t))
    (step_of script.setup script.opening t y.host (Cause.Op y.number (begun_count y.number (events_of y.host t)) op)) []
waiting_by script can t y of op is true waits =
    let mine = events_of y.host t in
    let cause = Cause.Op y.number (begun_count y.number mine) op in
    closed_gate (cause_passes script.setup y.host cause && s0_stream_order cause mine) (step_of script.setup script.opening t y.host cause)
    (and_right (cause_passes script.setup y.host cause) (s0_stream_order cause mine) (and_right _ (not (stream_waits y.number mine)) (ap not waits)))
waiting_by script can t y of op is false waits =
    let mine = events_of y.host t in
    let i = begun_count y.number mine in
    let cause = Cause.Op y.number i op in
    open_gate (cause_passes script.setup y.host cause && s0_stream_order cause mine) (step_of script.setup script.opening t y.host cause)
    (and_from _ _ (cause_is_fit script can y.number y.host i y.operations op of.host of.operations is)
    (and_from _ _ (and_from _ _ (eq-eqb i i refl) (in_order script can y.number y.operations op mine of.operations is)) (ap not waits)))

-- the steps of what stands behind a gate
steps_behind : (h : ℕ) (cause : Cause) (gate : Bool) (o : Option Emission) → option_to_list (option_map (event_with h cause) (cond gate o None)) ≡ cond gate (option_to_list (option_map (event_with h cause) o)) []
steps_behind h cause true o = refl
steps_behind h cause false o = refl

-- a host's answer gives the step of its row, where the cause passes and comes in its stream's order
steps_answered :
    (script : ScriptValue) (t : List Event) (h : ℕ) (cause : Cause) → is_device h ≡ false
    → host_steps script t h cause ≡ cond (cause_passes script.setup h cause && s0_stream_order cause (events_of h t)) (step_of script.setup script.opening t h cause) []
steps_answered script t h cause host =
    let mine = events_of h t in
    ap (λ o. option_to_list (option_map (event_with h cause) o)) (host_answer_is_row script.setup script.opening h cause mine host)
    ∙ steps_behind h cause (cause_passes script.setup h cause && s0_stream_order cause mine) (emission script.setup script.opening h cause mine)

-- no operation left, no step
none_left : (script : ScriptValue) (t : List Event) (y : Stream) (waits : Bool) → operation_step script t y (cond waits None None) ≡ []
none_left script t y true = refl
none_left script t y false = refl

-- a stream's step is what its host answers, if an operation is left
answer_by :
    (script : ScriptValue) → IsDrivable script → (t : List Event) (y : Stream) → IsStreamOf script y → (o : Option Op) → slice_get y.operations (begun_count y.number (events_of y.host t)) ≡ o
    → stream_step script t y ≡ option_map_or (λ op. host_steps script t y.host (Cause.Op y.number (begun_count y.number (events_of y.host t)) op)) o []
answer_by script can t y of None is =
    ap (λ (o : Option Op). operation_step script t y (cond (stream_waits y.number (events_of y.host t)) None o)) is ∙ none_left script t y (stream_waits y.number (events_of y.host t))
answer_by script can t y of (Some op) is =
    ap (λ (o : Option Op). operation_step script t y (cond (stream_waits y.number (events_of y.host t)) None o)) is
    ∙ waiting_by script can t y of op is (stream_waits y.number (events_of y.host t)) refl
    ∙ sym (steps_answered script t y.host (Cause.Op y.number (begun_count y.number (events_of y.host t)) op) (not_the_device script.setup can.limits y.number y.host of.host))

pub choices_are_answered : ChoicesAreAnswered
choices_are_answered script can t =
    ap (λ (xs : List Event). next_steps script.setup script.opening t ++ xs)
    (same_joined (IsStreamOf script) (stream_step script t) (next_answer script t)
    (λ y of. answer_by script can t y of (slice_get y.operations (begun_count y.number (events_of y.host t))) refl) (streams_of script) (streams_are script))

-- ---- how many there are

-- a stream has one step at most
one_operation : (script : ScriptValue) (t : List Event) (y : Stream) (o : Option Op) → length (operation_step script t y o) ≤ 1
one_operation script t y None = omega arith
one_operation script t y (Some op) = one_at_most (option_map _ _)

pub choices_are_few : ChoicesAreFew
choices_are_few script can t run =
    let steps = next_steps_are_few script.setup script.opening can.limits t run in
    let streams = few_streams 0 script.setup.streams script.operations in
    let most = can.limits.streams in
    let offers = joined_within (stream_step script t) 1 MAX_STREAMS (streams_of script) (omega (arith, streams, most))
    (each_holds (λ y. length (stream_step script t y) ≤ 1) (λ y. one_operation script t y _) (streams_of script)) in
    sums _ _ _ (length-append (next_steps script.setup script.opening t) (flat_map (stream_step script t) (streams_of script))) steps offers
  where
    sums : (n a b : ℕ) → n ≡ a + b → a ≤ most_next_steps → b ≤ 1 * MAX_STREAMS → n ≤ most_next_steps + MAX_STREAMS
    sums n a b both ha hb = omega (arith, both, ha, hb)

-- ---- by number

-- a pick takes the choice of its number modulo the count
pick_is : (p : ℕ) (cs : List Event) (e : Event) → slice_get cs (p % length cs) ≡ Some e → pick_from p cs ≡ Some e
pick_is p [] e is = absurd (none-some e is)
pick_is p (c ∷ cs) e is = is

pub any_pick_reaches : AnyPickReaches
any_pick_reaches script p t e reached is = (reached, (p, pick_is p (choices script t) e is))

-- there is one where there is a choice
picks_some : (p : ℕ) (cs : List Event) → 1 ≤ length cs → (e : Event) × (slice_get cs (p % length cs) ≡ Some e)
picks_some p cs some =
    let low = mod-lt p some in
    elim ((slice_get_cases cs (p % length cs)).1) [
      | inl there ↦ (there.0, there.2)
      | inr over ↦ let past = over.0 in absurd (omega (arith, low, past))
    ]

pub way_goes_by_number : WayGoesByNumber
way_goes_by_number script can picks t way more =
    let pick = picks_some (pick_now picks) (choices script t) (has_choice script can t way.reached more) in
    let on = way_goes_on script can picks t pick.0 way more (pick_is (pick_now picks) (choices script t) pick.0 pick.1) in
    let few = reached_is_short script can (pick.0 ∷ t) on.reached in
    record { event = pick.0; at = pick.1; way = on; short = few }

-- an element of the first of two lists joined
at_front : (xs ys : List Event) (k : ℕ) → k < length xs → slice_get (xs ++ ys) k ≡ slice_get xs k
at_front [] ys k low = absurd (omega (arith, low))
at_front (x ∷ xs) ys zero low = refl
at_front (x ∷ xs) ys (suc k) low = at_front xs ys k (omega (arith, low))

-- and one of the second
at_back : (xs ys : List Event) (k : ℕ) → length xs ≤ k → slice_get (xs ++ ys) k ≡ slice_get ys (k - length xs)
at_back [] ys k high = let none : k ≡ k - 0 = omega arith in ap (slice_get ys) none
at_back (x ∷ xs) ys zero high = absurd (omega (arith, high))
at_back (x ∷ xs) ys (suc k) high =
    let same : k - length xs ≡ suc k - suc (length xs) = omega arith in
    at_back xs ys k (omega (arith, high)) ∙ ap (slice_get ys) same

-- the element at a place of two lists joined
at_place : (xs ys : List Event) (k : ℕ) (front : Bool) → nat_lt k (length xs) ≡ front → slice_get (xs ++ ys) k ≡ cond front (slice_get xs k) (slice_get ys (k - length xs))
at_place xs ys k true is = at_front xs ys k (ltb-true k (length xs) is)
at_place xs ys k false is = at_back xs ys k (ltb-false k (length xs) is)

pub choice_is_at_its_place : ChoiceIsAtItsPlace
choice_is_at_its_place script t k = at_place (next_steps script.setup script.opening t) (flat_map (stream_step script t) (streams_of script)) k (nat_lt k (length (next_steps script.setup script.opening t))) refl
