-- What a host's answer tells of its streams, and what the table keeps of it.
use Rattle.std.proofs.Common.{Bool, List, Option, Some, [], ap, arith, false, get_or, inl, inr, length, refl, set, sym, ℕ, ◌<◌, ◌≡◌, ◌∙◌}
use Rattle.std.specs.Prelude.{Err, Ok, Result, is_ok, slice_get, ◌==◌}
use Rattle.std.specs.Option.{option_map_or}
use Rattle.std.proofs.lemmas.Bool.{cases_Bool, eqb-false, eqb-true, false≢true, ltb-true}
use Rattle.std.proofs.lemmas.List.{get_or-set_other, get_or-set_same, length-set}
use Rattle.std.proofs.lemmas.Option.{same_Some}
use Rattle.cxl_message.specs.declared.events.Cause.{Cause}
use Rattle.cxl_message.specs.declared.events.Event.{Event}
use Rattle.cxl_message.specs.declared.events.Op.{Op}
use Rattle.cxl_message.specs.Script.{ScriptValue}
use Rattle.cxl_message.specs.Setup.{Configuration, IsWithinLimits}
use Rattle.answer_laws.specs.Answered.{answered_steps}
use Rattle.choice_laws.specs.Answered.{host_steps, next_answer}
use Rattle.coherence_model.specs.Choices.{Stream}
use Rattle.coherence_model.specs.Refusals.{Answer}
use Rattle.coherence_model.specs.Streams.{begun_count}
use Rattle.coherence_model.specs.Traces.{events_of}
use Rattle.commit_laws.proofs.Streams.{host_there}
use Rattle.host_rows.specs.declared.answers.HostRefusal.{HostRefusal}
use Rattle.host_rows.specs.Answers.{as_result, told}
use Rattle.machine.specs.Stands.{MachineRecord}
use Rattle.step_driver.specs.Driver.{IsKept, IsNext, IsStreamOf, IsTold, one_if}
use Rattle.step_driver.specs.declared.table.StreamTable.{StreamTable}

-- ---- one host's answer

-- a host offers an operation where it answers with an event
pub answer_tells : {A : Type 0} → (h : ℕ) (cause : Cause) (a : Answer) (r : Result A HostRefusal) (e : Event) → told r e ≡ as_result a → length (answered_steps h cause a) ≡ one_if (is_ok r)
answer_tells h cause (Answer.Emits w) (Ok u) e is = refl
answer_tells h cause (Answer.Emits w) (Err f) e is = absurd (false≢true (ap (λ r. is_ok r) is))
answer_tells h cause Answer.NoSuchLine (Ok u) e is = absurd (false≢true (sym (ap (λ r. is_ok r) is)))
answer_tells h cause Answer.NoSuchLine (Err f) e is = refl
answer_tells h cause Answer.Again (Ok u) e is = absurd (false≢true (sym (ap (λ r. is_ok r) is)))
answer_tells h cause Answer.Again (Err f) e is = refl
answer_tells h cause Answer.NoTag (Ok u) e is = absurd (false≢true (sym (ap (λ r. is_ok r) is)))
answer_tells h cause Answer.NoTag (Err f) e is = refl
answer_tells h cause Answer.NoWay (Ok u) e is = absurd (false≢true (sym (ap (λ r. is_ok r) is)))
answer_tells h cause Answer.NoWay (Err f) e is = refl
answer_tells h cause (Answer.NoCredit _) (Ok u) e is = absurd (false≢true (sym (ap (λ r. is_ok r) is)))
answer_tells h cause (Answer.NoCredit _) (Err f) e is = refl
answer_tells h cause (Answer.Broken _) (Ok u) e is = absurd (false≢true (sym (ap (λ r. is_ok r) is)))
answer_tells h cause (Answer.Broken _) (Err f) e is = refl

-- the host of a stream
pub host_of_next : (script : ScriptValue) (t : List Event) (y : Stream) (stream begun host : ℕ) → IsNext script y stream begun t → Some host ≡ slice_get script.setup.streams stream → y.host ≡ host
host_of_next script t y stream begun host next at = same_Some y.host host (sym next.of_script.host ∙ ap (slice_get script.setup.streams) next.number ∙ sym at)

-- what a stream is offered next is its host's answer to the operation
pub next_is :
    (script : ScriptValue) (t : List Event) (y : Stream) (stream begun host : ℕ) (ops : List Op) (op : Op) → IsNext script y stream begun t → Some host ≡ slice_get script.setup.streams stream
    → slice_get script.operations stream ≡ Some ops → slice_get ops begun ≡ Some op → next_answer script t y ≡ host_steps script t host (Cause.Op stream begun op)
next_is script t y stream begun host ops op next at list there =
    let same : y.host ≡ host = host_of_next script t y stream begun host next at in
    let operations : y.operations ≡ ops = same_Some y.operations ops (sym next.of_script.operations ∙ ap (slice_get script.operations) next.number ∙ list) in
    let count : begun_count y.number (events_of y.host t) ≡ begun = sym next.counted in
    let number = next.number in
    let left : slice_get y.operations (begun_count y.number (events_of y.host t)) ≡ Some op = ap (slice_get y.operations) count ∙ ap (λ (xs : List Op). slice_get xs begun) operations ∙ there in
    let moved : host_steps script t y.host (Cause.Op y.number (begun_count y.number (events_of y.host t)) op) ≡ host_steps script t host (Cause.Op stream begun op) =
    λ j. host_steps script t (same j) (Cause.Op (number j) (count j) op) in
    ap (λ (o : Option Op). option_map_or (λ op. host_steps script t y.host (Cause.Op y.number (begun_count y.number (events_of y.host t)) op)) o []) left ∙ moved

-- it is below the hosts
pub stream_host_below : (setup : Configuration) → IsWithinLimits setup → (s h : ℕ) → slice_get setup.streams s ≡ Some h → h < setup.hosts
stream_host_below setup limits s h is = ltb-true h setup.hosts (host_there setup limits s h is)

-- ---- the table

-- what is told of a stream is told by the table with it
pub set_told :
    (script : ScriptValue) (offered : List Bool) (t : List Event) (k : ℕ) (b : Bool) → k < length offered → ((y : Stream) → IsStreamOf script y → y.number ≡ k → length (next_answer script t y) ≡ one_if b)
    → (y : Stream) → IsStreamOf script y → ((y.number ≡ k → ⊥) → IsTold script offered t y) → IsTold script (set offered k b) t y
set_told script offered t k b low tells y of_script other =
    elim (cases_Bool (y.number == k)) [
      | inl is ↦
          let same = eqb-true y.number k is in
          tells y of_script same ∙ ap one_if (sym (ap (λ n. get_or (set offered k b) n false) same ∙ get_or-set_same offered k b false low))
      | inr differs ↦
          let apart = eqb-false y.number k differs in
          other apart ∙ ap one_if (sym (get_or-set_other offered k y.number b false apart))
    ]

-- and keeps what it kept
pub kept_with :
    (script : ScriptValue) (machine : MachineRecord) (s : StreamTable) (t : List Event) (k : ℕ) (b : Bool) → k < 64 → IsKept script machine s t
    → ((y : Stream) → IsStreamOf script y → y.number ≡ k → length (next_answer script t y) ≡ one_if b) → IsKept script machine (record s { offered = set s.offered k b }) t
kept_with script machine s t k b low kept tells =
    let size = kept.offers_sized in
    record {
      stands = kept.stands;
      reached = kept.reached;
      counted = kept.counted;
      known = λ y of_script asked. set_told script s.offered t k b (omega (arith, low, size)) tells y of_script (λ apart. kept.known y of_script asked);
      sized = kept.sized;
      offers_sized = length-set s.offered k b ∙ size;
    }
