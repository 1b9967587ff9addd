-- The operations of a run are those that its streams began: of a run that follows a script, at most the script's.
use Rattle.std.proofs.Common.{◌≡◌, ℕ, zero, suc, ◌+◌, ◌-◌, ◌*◌, ◌≤◌, Bool, true, false, cond, List, [], ◌∷◌, length, Some, refl, ap, sym, subst, ◌∙◌, arith}
use Rattle.std.specs.Prelude.{count_by, slice_get, sum_by, ◌==◌}
use Rattle.std.proofs.Math.Nat.{mul-le-mul_left}
use Rattle.std.proofs.lemmas.Bool.{eq-eqb, false≢true}
use Rattle.std.proofs.lemmas.List.Sums.{sum_by-cons, sum_by-le-sum_by}
use Rattle.std.proofs.lemmas.Option.{none-some}
use Rattle.cxl_message.specs.declared.events.Cause.{Cause}
use Rattle.cxl_message.specs.declared.events.Event.{Event}
use Rattle.cxl_message.specs.declared.events.Op.{Op}
use Rattle.cxl_message.specs.Script.{ScriptValue}
use Rattle.coherence_model.specs.Choices.{Stream, streams_of}
use Rattle.coherence_model.specs.Driven.{operation_count}
use Rattle.coherence_model.specs.Streams.{begins_for, begun_count}
use Rattle.coherence_model.specs.Traces.{events_of}
use Rattle.coherence_model.specs.Weight.{is_operation}
use Rattle.step_laws.proofs.Counts.{count_by-cons, each_weaker}
use Rattle.weight_laws.proofs.Lengths.{runs_are_short}
use Rattle.commit_laws.proofs.Fronts.{are_scripted}
use Rattle.commit_laws.proofs.Lengths.{begun_of, begun_within}
use Rattle.commit_laws.proofs.Scripted.{AreScripted, IsOfScript}
use Rattle.commit_laws.proofs.Streams.{IsStreamOf, stream_at, streams_are}
use Rattle.commit_laws.proofs.Sums.{lengths_same, sum_within}
use Rattle.length_laws.specs.Laws.{FollowingIsShort}

-- one more event, own or not, takes nothing away
begun_more_by : (n : ℕ) (e : Event) (mine : List Event) (own : Bool) → begun_count n mine ≤ begun_count n (cond own (e ∷ mine) mine)
begun_more_by n e mine true = omega arith
begun_more_by n e mine false = omega arith

-- a longer trace began as many at least
begun_more : (e : Event) (past : List Event) (y : Stream) → begun_of past y ≤ begun_of (e ∷ past) y
begun_more e past y = begun_more_by y.number e (events_of y.host past) (e.agent == y.host)

-- a sum with one greater term is greater
sum_more : (f g : Stream → ℕ) (xs : List Stream) (n : ℕ) (y : Stream) → ((x : Stream) → f x ≤ g x) → slice_get xs n ≡ Some y → f y + 1 ≤ g y → sum_by f xs + 1 ≤ sum_by g xs
sum_more f g [] n y le is more = absurd (none-some y is)
sum_more f g (x ∷ xs) zero y le is more =
    let same : x ≡ y = cc in
    let here = subst (λ (z : Stream). f z + 1 ≤ g z) (sym same) more in
    let rest = sum_by-le-sum_by f g xs le in
    let left = sum_by-cons f x xs in
    let right = sum_by-cons g x xs in
    omega arith
sum_more f g (x ∷ xs) (suc n) y le is more =
    let here = le x in
    let rest = sum_more f g xs n y le is more in
    let left = sum_by-cons f x xs in
    let right = sum_by-cons g x xs in
    omega arith

-- its own operation is one more of a stream
own_more : (s i : ℕ) (op : Op) (g : ℕ) (e : Event) (mine : List Event) (own same : Bool) → (s == s) ≡ same → e.cause ≡ Cause.Op s i op → own ≡ true → same ≡ true
    → begun_count s mine + 1 ≤ begun_count s (cond own (e ∷ mine) mine)
own_more s i op g e mine false same is cause own sure = absurd (false≢true own)
own_more s i op g e mine true same is cause own sure =
    let one = ap (λ (c : Cause). cond (begins_for s c) 1 0 + begun_count s mine) cause ∙ ap (λ (b : Bool). cond b 1 0 + begun_count s mine) (is ∙ sure) in omega arith

-- an operation counts for its stream, and any other event counts for none
total_step : (script : ScriptValue) (e : Event) (past : List Event) (cause : Cause) → e.cause ≡ cause → IsOfScript script e.agent cause
    → count_by (λ e. is_operation e.cause) past ≤ sum_by (begun_of past) (streams_of script) → cond (is_operation cause) 1 0 + count_by (λ e. is_operation e.cause) past ≤ sum_by (begun_of (e ∷ past)) (streams_of script)
total_step script e past (Cause.Op s i op) is named before =
    let y : Stream = record { number = s; host = e.agent; operations = named.list } in
    let more = sum_more (begun_of past) (begun_of (e ∷ past)) (streams_of script) s y (begun_more e past) (stream_at script s e.agent named.list named.host named.operations)
    (own_more s i op e.agent e (events_of e.agent past) (e.agent == e.agent) (s == s) refl is (eq-eqb e.agent e.agent refl) (eq-eqb s s refl)) in
    omega arith
total_step script e past (Cause.Take h m) is named before = let more = sum_by-le-sum_by (begun_of past) (begun_of (e ∷ past)) (streams_of script) (begun_more e past) in omega arith
total_step script e past (Cause.Act act) is named before = let more = sum_by-le-sum_by (begun_of past) (begun_of (e ∷ past)) (streams_of script) (begun_more e past) in omega arith

-- the operations of a trace are at most what its streams began
pub total_begun : (script : ScriptValue) (t : List Event) → AreScripted script t → count_by (λ e. is_operation e.cause) t ≤ sum_by (begun_of t) (streams_of script)
total_begun script [] named = omega arith
total_begun script (e ∷ past) named =
    let counted = count_by-cons (λ (e : Event). is_operation e.cause) e past in
    let step = total_step script e past e.cause refl named.0 (total_begun script past named.1) in
    omega arith

pub following_is_short : FollowingIsShort
following_is_short script limits lists t run follows =
    let short = runs_are_short script.setup script.opening limits t run in
    let all = total_begun script t (are_scripted script lists t run follows) in
    let each = sum_within (begun_of t) (λ y. length y.operations) (streams_of script)
    (each_weaker (IsStreamOf script) (λ y. begun_of t y ≤ length y.operations) (begun_within script t run follows) (streams_of script) (streams_are script)) in
    let sums = lengths_same 0 script.setup.streams script.operations lists in
    let few : (108 * script.setup.hosts - 3) * count_by (λ e. is_operation e.cause) t ≤ (108 * script.setup.hosts - 3) * operation_count script = mul-le-mul_left (108 * script.setup.hosts - 3) (omega (arith, all, each, sums)) in
    omega (arith, short, few)
