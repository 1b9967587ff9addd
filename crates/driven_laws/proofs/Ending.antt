-- Driving ends: what isn't done has a choice, and a reached trace has at most so many events.
use Rattle.std.proofs.Common.{◌≡◌, ℕ, zero, suc, ◌+◌, ◌<◌, ◌≤◌, Bool, true, false, cond, List, [], ◌∷◌, ◌++◌, length, Option, Some, None, refl, ap, sym, subst, ◌∙◌, arith, inl, inr}
use Rattle.std.specs.Prelude.{flat_map, not, option_map, option_to_list, slice_get, ◌%◌, ◌&&◌}
use Rattle.std.specs.List.{list_all}
use Rattle.std.specs.Option.{option_map_or}
use Rattle.std.proofs.Math.Nat.{mod-lt}
use Rattle.std.proofs.lemmas.Bool.{and_from, cases_Bool, eq-eqb, eqb-false, false≢true, ltb-true}
use Rattle.std.proofs.lemmas.List.{length-append}
use Rattle.std.proofs.lemmas.Option.{none-some, slice_get_cases}
use Rattle.cxl_message.specs.declared.events.Cause.{Cause}
use Rattle.cxl_message.specs.declared.events.Event.{Event}
use Rattle.cxl_message.specs.declared.events.Op.{Op}
use Rattle.cxl_message.specs.Script.{ScriptValue}
use Rattle.coherence_model.specs.Choices.{Stream, choices, is_all_begun, is_done, operation_step, stream_step, streams_of}
use Rattle.coherence_model.specs.Driven.{driven_on, driven_trace, event_bound, go_on, pick_from, pick_now, picks_left}
use Rattle.coherence_model.specs.Emission.{Emission}
use Rattle.coherence_model.specs.Next.{event_with, next_steps}
use Rattle.coherence_model.specs.Pending.{is_pending}
use Rattle.coherence_model.specs.Rows.{emission}
use Rattle.coherence_model.specs.Runs.{is_allowed}
use Rattle.coherence_model.specs.Streams.{begun_count}
use Rattle.coherence_model.specs.Traces.{events_of}
use Rattle.progress_laws.proofs.SnoopTakes.{snoops_known}
use Rattle.progress_laws.proofs.StuckOpen.{pending_goes_on}
use Rattle.progress_laws.proofs.StuckOperations.{operation_begins}
use Rattle.commit_laws.proofs.Followed.{following_is_complete}
use Rattle.commit_laws.proofs.Lengths.{begun_within}
use Rattle.commit_laws.proofs.Rest.{at_rest_no_stream_waits}
use Rattle.commit_laws.proofs.Streams.{IsStreamOf, each_at, host_there, streams_are}
use Rattle.length_laws.proofs.Short.{following_is_short}
use Rattle.driven_laws.specs.Laws.{ChoicesStand, DrivenIsCommitted, DrivingEnds, EachIsCommitted, ReachedAreShort}
use Rattle.driven_laws.specs.Reached.{IsReached}
use Rattle.driven_laws.specs.Scripts.{IsDrivable}
use Rattle.driven_laws.proofs.Reached.{cause_is_fit, driving_goes_on, driving_reaches, driving_stops, in_order, reached_is_followed, reached_is_run}

-- ---- what isn't done has a choice

-- some stream has operations left where not all have begun theirs
pub record FailsAt (p : Stream → Bool) (xs : List Stream) : Type 0 where
  pub place : ℕ
  pub stream : Stream
  pub there : slice_get xs place ≡ Some stream
  pub fails : p stream ≡ false

-- the first stream, or a later one
fails_by : (p : Stream → Bool) (x : Stream) (xs : List Stream) (b : Bool) → p x ≡ b → b && list_all p xs ≡ false → (list_all p xs ≡ false → FailsAt p xs) → FailsAt p (x ∷ xs)
fails_by p x xs true is fails later = let rest = later fails in record { place = suc rest.place; stream = rest.stream; there = rest.there; fails = rest.fails }
fails_by p x xs false is fails later = record { place = 0; stream = x; there = refl; fails = is }

-- where not all pass some stream fails
fails_at : (p : Stream → Bool) (xs : List Stream) → list_all p xs ≡ false → FailsAt p xs
fails_at p [] fails = absurd (false≢true (sym fails))
fails_at p (x ∷ xs) fails = fails_by p x xs (p x) refl fails (fails_at p xs)

-- an element of a part is one of all
some_joined : (f : Stream → List Event) (xs : List Stream) (n : ℕ) (y : Stream) → slice_get xs n ≡ Some y → 1 ≤ length (f y) → 1 ≤ length (flat_map f xs)
some_joined f [] n y is some = absurd (none-some y is)
some_joined f (x ∷ xs) zero y is some =
    let same : x ≡ y = cc in
    let here = subst (λ (z : Stream). 1 ≤ length (f z)) (sym same) some in
    let joined = length-append (f x) (flat_map f xs) in
    omega arith
some_joined f (x ∷ xs) (suc n) y is some = let rest = some_joined f xs n y is some in let joined = length-append (f x) (flat_map f xs) in omega arith

-- a list that begins with some elements has some
first_some : (xs ys : List Event) → 1 ≤ length xs → 1 ≤ length (xs ++ ys)
first_some xs ys some = let joined = length-append xs ys in omega arith

-- what may begin is a step
emission_steps : (g : ℕ) (cause : Cause) (p : Emission → Bool) (o : Option Emission) → option_map_or p o false ≡ true → 1 ≤ length (option_to_list (option_map (event_with g cause) o))
emission_steps g cause p None may = absurd (false≢true may)
emission_steps g cause p (Some w) may = omega arith

-- what is at most m and not m is less
left_over : (n m : ℕ) → n ≤ m → (n ≡ m → ⊥) → n < m
left_over n m le other = grind arith

-- the next operation of a stream that doesn't wait is a choice where no step is next
stream_goes_on :
    (script : ScriptValue) → IsDrivable script → (t : List Event) → IsReached script t → is_pending script.setup t ≡ false → next_steps script.setup script.opening t ≡ []
    → (y : Stream) → IsStreamOf script y → (op : Op) → slice_get y.operations (begun_count y.number (events_of y.host t)) ≡ Some op → 1 ≤ length (stream_step script t y)
stream_goes_on script can t reached idle stuck y of op is =
    let setup = script.setup in
    let run = reached_is_run script can t reached in
    let mine = events_of y.host t in
    let i = begun_count y.number mine in
    let cause = Cause.Op y.number i op in
    let waits = at_rest_no_stream_waits setup script.opening can.limits t run idle y.number y.host of.host in
    let host = host_there setup can.limits y.number y.host of.host in
    let order = and_from _ _ (and_from _ _ (eq-eqb i i refl) (in_order script can y.number y.operations op mine of.operations is)) (ap not waits) in
    let begins = operation_begins setup script.opening can.limits t run (snoops_known setup script.opening can.limits t run) stuck y.host host (ltb-true y.host setup.hosts host) y.number i op
    (cause_is_fit script can y.number y.host i y.operations op of.host of.operations is) order in
    let next = ap (λ (b : Bool). cond b None (slice_get y.operations i)) waits ∙ is in
    subst (λ (o : Option Op). 1 ≤ length (operation_step script t y o)) (sym next)
    (emission_steps y.host cause (λ w. is_allowed setup script.opening t (event_with y.host cause w)) (emission setup script.opening y.host cause mine) begins)

-- a stream with an operation left
left_goes_on :
    (script : ScriptValue) → IsDrivable script → (t : List Event) → IsReached script t → is_pending script.setup t ≡ false → next_steps script.setup script.opening t ≡ []
    → (y : Stream) → IsStreamOf script y → is_all_begun t y ≡ false → 1 ≤ length (stream_step script t y)
left_goes_on script can t reached idle stuck y of fails =
    let within = begun_within script t (reached_is_run script can t reached) (reached_is_followed script can t reached) y of in
    let less = left_over (begun_count y.number (events_of y.host t)) (length y.operations) within (eqb-false _ _ fails) in
    elim ((slice_get_cases y.operations (begun_count y.number (events_of y.host t))).1) [
      | inl there ↦ stream_goes_on script can t reached idle stuck y of there.0 there.2
      | inr over ↦ let past = over.0 in absurd (omega arith)
    ]

-- at rest, with a step next or with none
rest_goes_on :
    (script : ScriptValue) → IsDrivable script → (t : List Event) → IsReached script t → is_pending script.setup t ≡ false → list_all (is_all_begun t) (streams_of script) ≡ false
    → (steps : List Event) → next_steps script.setup script.opening t ≡ steps → 1 ≤ length (steps ++ flat_map (stream_step script t) (streams_of script))
rest_goes_on script can t reached idle fails [] stuck =
    let at = fails_at (is_all_begun t) (streams_of script) fails in
    some_joined (stream_step script t) (streams_of script) at.place at.stream at.there
    (left_goes_on script can t reached idle stuck at.stream (each_at (IsStreamOf script) (streams_of script) at.place at.stream (streams_are script) at.there) at.fails)
rest_goes_on script can t reached idle fails (e ∷ steps) is = first_some (e ∷ steps) (flat_map (stream_step script t) (streams_of script)) (omega arith)

-- at rest, what is not done has operations left
not_both : (a b : Bool) → a && not b ≡ false → b ≡ false → a ≡ false
not_both true true h idle = absurd (false≢true (sym idle))
not_both true false h idle = absurd (false≢true (sym h))
not_both false b h idle = refl

-- what isn't done has a choice
pub has_choice : ChoicesStand
has_choice script can t reached more =
    let setup = script.setup in
    let run = reached_is_run script can t reached in
    elim (cases_Bool (is_pending setup t)) [
      | inl pending ↦
          first_some (next_steps setup script.opening t) (flat_map (stream_step script t) (streams_of script))
          (pending_goes_on setup script.opening can.limits t run (snoops_known setup script.opening can.limits t run) pending)
      | inr idle ↦ rest_goes_on script can t reached idle (not_both (list_all (is_all_begun t) (streams_of script)) (is_pending setup t) more idle) (next_steps setup script.opening t) refl
    ]

-- so each pick takes an event
picks_some : (p : ℕ) (cs : List Event) → 1 ≤ length cs → (e : Event) × (pick_from p cs ≡ Some e)
picks_some p [] some = absurd (omega arith)
picks_some p (c ∷ cs) some =
    let low = mod-lt p some in
    elim ((slice_get_cases (c ∷ cs) (p % length (c ∷ cs))).1) [
      | inl there ↦ (there.0, there.2)
      | inr over ↦ let past = over.0 in absurd (omega arith)
    ]

-- ---- how long a reached trace is

-- a reached trace has at most as many events as the bound
pub reached_is_short : ReachedAreShort
reached_is_short script can t reached = following_is_short script can.limits can.lists t (reached_is_run script can t reached) (reached_is_followed script can t reached)

-- ---- driving ends

-- a trace that was reached with so much of the bound left, and isn't done, goes on
pub record GoesOn (script : ScriptValue) (p : ℕ) (t : List Event) : Type 0 where
  pub event : Event
  pub picked : pick_from p (choices script t) ≡ Some event
  pub reached : IsReached script (event ∷ t)

-- so driving goes on
goes_on : (script : ScriptValue) → IsDrivable script → (p : ℕ) (t : List Event) → IsReached script t → is_done script t ≡ false → GoesOn script p t
goes_on script can p t reached more =
    let pick = picks_some p (choices script t) (has_choice script can t reached more) in
    record { event = pick.0; picked = pick.1; reached = (reached, (p, pick.1)) }

-- with as much of the bound to come as is left, driving ends done
pub ends : (script : ScriptValue) → IsDrivable script → (n : ℕ) (picks : List ℕ) (t : List Event) → IsReached script t → event_bound script ≤ length t + n
    → is_done script (driven_on n script picks t) ≡ true
ends script can zero picks t reached enough =
    elim (cases_Bool (is_done script t)) [
      | inl done ↦ done
      | inr more ↦
          let on = goes_on script can 0 t reached more in
          let few = reached_is_short script can (on.event ∷ t) on.reached in
          absurd (omega arith)
    ]
ends script can (suc n) picks t reached enough =
    elim (cases_Bool (is_done script t)) [
      | inl done ↦ ap (is_done script) (driving_stops script n picks t done) ∙ done
      | inr more ↦
          let on = goes_on script can (pick_now picks) t reached more in
          ap (is_done script) (driving_goes_on script n picks t more ∙ ap (λ (o : Option Event). go_on o t (driven_on n script (picks_left picks))) on.picked)
          ∙ ends script can n (picks_left picks) (on.event ∷ t) on.reached (omega arith)
    ]

-- the driven trace is done
pub driving_ends : DrivingEnds
driving_ends script can = ends script can (event_bound script) script.picks [] tt (omega arith)

-- each operation of a done trace is committed
pub each_is_committed : EachIsCommitted
each_is_committed script can t reached done = following_is_complete script can.limits can.lists t (reached_is_run script can t reached) (reached_is_followed script can t reached) done

-- so the driven trace has each operation committed
pub driven_is_committed : DrivenIsCommitted
driven_is_committed script can =
    each_is_committed script can (driven_trace script) (driving_reaches script (event_bound script) script.picks [] tt) (driving_ends script can)
