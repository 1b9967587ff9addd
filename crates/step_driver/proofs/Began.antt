-- The operation that a stream is offered begins.
use Rattle.std.proofs.Common.{List, Option, Some, None, [], ap, arith, get_or, length, refl, sym, true, ℕ, ◌<◌, ◌≡◌, ◌∙◌}
use Rattle.std.specs.Prelude.{Err, IfOk, Ok, OnOk, Result, is_ok, slice_get}
use Rattle.std.specs.Option.{option_map_or}
use Rattle.std.specs.Result.{result_ok}
use Rattle.std.proofs.lemmas.Bool.{false≢true}
use Rattle.std.proofs.lemmas.Option.{get_or_from_slice_get, same_Some, slice_get_within}
use Rattle.cxl_message.specs.declared.events.Cause.{Cause}
use Rattle.cxl_message.specs.declared.events.Event.{Event}
use Rattle.cxl_message.specs.declared.events.Op.{Op}
use Rattle.cxl_message.specs.Script.{ScriptValue}
use Rattle.answer_laws.specs.Answered.{answered_steps}
use Rattle.choice_laws.specs.Answered.{host_steps}
use Rattle.coherence_model.specs.Refusals.{Answer}
use Rattle.coherence_model.specs.Streams.{begun_count}
use Rattle.coherence_model.specs.Traces.{events_of}
use Rattle.driven_laws.specs.Scripts.{IsDrivable}
use Rattle.host_rows.specs.declared.answers.HostRefusal.{HostRefusal}
use Rattle.host_rows.specs.Answers.{as_result, emission_in, told}
use Rattle.machine.specs.Stands.{MachineRecord}
use Rattle.step_driver.specs.declared.table.StreamTable.{StreamTable}
use Rattle.step_driver.specs.Driver.{IsKept, IsNext}
use Rattle.step_driver.specs.Picks.{IsOfferOf, chosen}
use Rattle.step_driver.proofs.Asked.{next_is}
use Rattle.step_driver.proofs.Scans.{first_from}

some_left : (o : Option Op) (steps : Op → List Event) → length (option_map_or steps o []) ≡ 1 → (op : Op) × (o ≡ Some op)
some_left None steps one = absurd (omega (arith, one))
some_left (Some op) steps one = (op, refl)

-- an offered stream's next operation is this one, and what its host answers to it is chosen
pub record IsReady (script : ScriptValue) (t : List Event) (pick stream begun host : ℕ) (ops : List Op) (op : Op) : Type 0 where
  pub low : begun < length ops
  pub one : length (host_steps script t host (Cause.Op stream begun op)) ≡ 1
  pub is : chosen script pick t ≡ slice_get (host_steps script t host (Cause.Op stream begun op)) 0

pub ready :
    (script : ScriptValue) → IsDrivable script → (machine : MachineRecord) (s : StreamTable) (t : List Event) (pick stream host : ℕ) (ops : List Op) (other : Op) → IsKept script machine s t → IsOfferOf script t (chosen script pick t) stream
    → Some host ≡ slice_get script.setup.streams stream → slice_get script.operations stream ≡ Some ops → IsReady script t pick stream (get_or s.begun stream 0) host ops (get_or ops (get_or s.begun stream 0) other)
ready script drivable machine s t pick stream host ops other kept offered at list =
    let first = first_from script t stream drivable.lists offered.below in
    let y = first.y in
    let tells = offered.is y first.stream first.number in
    let begun = get_or s.begun stream 0 in
    let next : IsNext script y stream begun t = record { number = first.number; of_script = first.stream; counted = ap (λ n. get_or s.begun n 0) (sym first.number) ∙ kept.counted y.number y.host first.stream.host } in
    let left = some_left (slice_get y.operations (begun_count y.number (events_of y.host t))) (λ op. host_steps script t y.host (Cause.Op y.number (begun_count y.number (events_of y.host t)) op)) tells.0 in
    let operations : y.operations ≡ ops = same_Some y.operations ops (sym first.stream.operations ∙ ap (slice_get script.operations) first.number ∙ list) in
    let there : slice_get ops begun ≡ Some left.0 = sym (ap (slice_get y.operations) (sym next.counted) ∙ ap (λ (xs : List Op). slice_get xs begun) operations) ∙ left.1 in
    let same : get_or ops begun other ≡ left.0 = get_or_from_slice_get ops begun left.0 other there in
    let answered = next_is script t y stream begun host ops left.0 next at list there ∙ ap (λ op. host_steps script t host (Cause.Op stream begun op)) (sym same) in
    record { low = slice_get_within ops begun left.0 there; one = sym (ap length answered) ∙ tells.0; is = tells.1 ∙ ap (λ xs. slice_get xs 0) answered }

-- what the host wrote into the room is the event of its answer
pub made_is :
    {A : Type 0} → (g h : ℕ) (cause : Cause) (a : Answer) (r : Result A HostRefusal) (e : Event) → told r e ≡ as_result a → is_ok r ≡ true → IfOk r (λ u. e.agent ≡ g) → g ≡ h → IfOk r (λ u. e.cause ≡ cause)
    → Some e ≡ slice_get (answered_steps h cause a) 0
made_is g h cause (Answer.Emits w) (Ok u) e is ok agent same why =
    let emitted : emission_in e ≡ w = same_Some (emission_in e) w (ap (λ r. result_ok r) is) in
    let by = agent ∙ same in
    λ i. Some (record { agent = by i; cause = why i; sends = (emitted i).sends; commit = (emitted i).commit })
made_is g h cause (Answer.Emits w) (Err f) e is ok agent same why = absurd (false≢true ok)
made_is g h cause Answer.NoSuchLine (Ok u) e is ok agent same why = absurd (false≢true (sym (ap (λ r. is_ok r) is)))
made_is g h cause Answer.NoSuchLine (Err f) e is ok agent same why = absurd (false≢true ok)
made_is g h cause Answer.Again (Ok u) e is ok agent same why = absurd (false≢true (sym (ap (λ r. is_ok r) is)))
made_is g h cause Answer.Again (Err f) e is ok agent same why = absurd (false≢true ok)
made_is g h cause Answer.NoTag (Ok u) e is ok agent same why = absurd (false≢true (sym (ap (λ r. is_ok r) is)))
made_is g h cause Answer.NoTag (Err f) e is ok agent same why = absurd (false≢true ok)
made_is g h cause Answer.NoWay (Ok u) e is ok agent same why = absurd (false≢true (sym (ap (λ r. is_ok r) is)))
made_is g h cause Answer.NoWay (Err f) e is ok agent same why = absurd (false≢true ok)
made_is g h cause (Answer.NoCredit _) (Ok u) e is ok agent same why = absurd (false≢true (sym (ap (λ r. is_ok r) is)))
made_is g h cause (Answer.NoCredit _) (Err f) e is ok agent same why = absurd (false≢true ok)
made_is g h cause (Answer.Broken _) (Ok u) e is ok agent same why = absurd (false≢true (sym (ap (λ r. is_ok r) is)))
made_is g h cause (Answer.Broken _) (Err f) e is ok agent same why = absurd (false≢true ok)

-- what holds on an acceptance
pub accepted : {T E P : Type 0} (r : Result T E) → is_ok r ≡ true → OnOk r P → P
accepted (Ok x) ok p = p
accepted (Err f) ok p = absurd (false≢true ok)
