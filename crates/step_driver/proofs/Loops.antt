-- How far the loop is that puts the events of a trace.
use Rattle.std.proofs.Common.{List, Option, [], ap, arith, length, refl, reverse, subst, sym, ℕ, ◌++◌, ◌+◌, ◌≤◌, ◌∙◌, ◌≡◌, ◌∷◌}
use Rattle.std.specs.Prelude.{OnErr, Ok, Err, Result}
use Rattle.std.proofs.lemmas.List.{reverse-append}
use Rattle.cxl_message.specs.declared.events.Event.{Event}
use Rattle.cxl_message.specs.declared.identifiers.Bytes64.{Bytes64}
use Rattle.cxl_message.specs.declared.identifiers.Line.{Line}
use Rattle.cxl_message.specs.Script.{ScriptValue}
use Rattle.cxl_message.specs.Setup.{Configuration}
use Rattle.cxl_codec.specs.declared.versions.Version.{Version}
use Rattle.driven_laws.specs.Scripts.{IsDrivable}
use Rattle.machine.specs.Stands.{MachineRecord, StandsFor}
use Rattle.trace_stream.specs.Writing.{BreaksOff, GoesOn, WritesFront, Writing}
use Rattle.step_driver.specs.declared.schedules.Schedule.{Schedule}
use Rattle.step_driver.specs.declared.summary.Summary.{Summary}
use Rattle.step_driver.specs.declared.table.StreamTable.{StreamTable}
use Rattle.step_driver.specs.Driver.{empty_table}
use Rattle.step_driver.specs.Outputs.{HasPut, WritesTargetFront, trace_with, version_of}
use Rattle.step_driver.specs.Schedules.{IsAt, no_events, picks_of, target}
use Rattle.step_driver.specs.Summaries.{summary_of, total, with_event}
use Rattle.step_driver.proofs.Adding.{goes_to_target}
use Rattle.step_driver.proofs.Totals.{summary_is_small}
use Rattle.step_driver.proofs.Ways.{begins_at, few_events}

-- the loop after so many events: `old` is the writer before it
pub record LoopAt (schedule : Schedule) (script : ScriptValue) (machine : MachineRecord) (s : StreamTable) (journals picks : List ℕ) (sum : Summary) (step : ℕ) (old now : Writing) : Type 0 where
  pub t : List Event
  pub at : IsAt schedule script machine s journals picks t
  pub counted : length t ≡ step
  pub summed : sum ≡ summary_of t
  pub put : (start : Option (List ℕ)) → HasPut start old script [] → HasPut start now script (reverse t)

-- before the first event
pub loop_starts :
    (schedule : Schedule) (script : ScriptValue) (machine : MachineRecord) (old : Writing) → StandsFor machine script.setup script.opening []
    → LoopAt schedule script machine empty_table no_events (picks_of schedule script) (summary_of []) 0 old old
loop_starts schedule script machine old stands = record { t = []; at = begins_at schedule script machine stands; counted = refl; summed = refl; put = λ start begun. begun }

-- the events with one more
one_more : (e : Event) (t : List Event) → reverse t ++ e ∷ [] ≡ reverse (e ∷ t)
one_more e t = sym (reverse-append (e ∷ []) t)

-- after one event more
pub loop_goes_on :
    (schedule : Schedule) (script : ScriptValue) (machine next : MachineRecord) (s after : StreamTable) (journals entered picks left : List ℕ) (sum : Summary) (step : ℕ) (old mid now : Writing) (e : Event)
    → (l : LoopAt schedule script machine s journals picks sum step old mid) → IsAt schedule script next after entered left (e ∷ l.t) → GoesOn mid now (e ∷ [])
    → LoopAt schedule script next after entered left (with_event e sum) (step + 1) old now
loop_goes_on schedule script machine next s after journals entered picks left sum step old mid now e l at goes =
    let size = l.counted in
    record {
      t = e ∷ l.t;
      at = at;
      counted = omega (arith, size);
      summed = ap (with_event e) l.summed;
      put = λ start begun. subst (λ (events : List Event). HasPut start now script events) (one_more e l.t) (goes start (version_of script) script.setup script.names script.opening (reverse l.t) (l.put start begun));
    }

-- what a put that failed leaves
pub loop_cut :
    (schedule : Schedule) (script : ScriptValue) (machine next : MachineRecord) (s after : StreamTable) (journals entered picks left : List ℕ) (sum : Summary) (step : ℕ) (old mid now : Writing) (e : Event)
    → (l : LoopAt schedule script machine s journals picks sum step old mid) → IsAt schedule script next after entered left (e ∷ l.t) → BreaksOff mid now (e ∷ []) → (start : Option (List ℕ)) → HasPut start old script []
    → WritesTargetFront start now.out.gone schedule script
loop_cut schedule script machine next s after journals entered picks left sum step old mid now e l at fails start begun =
    let on = goes_to_target schedule script left (e ∷ l.t) at.way in
    let parts : (reverse l.t ++ e ∷ []) ++ reverse on.later ≡ reverse (target schedule script) =
    ap (λ (events : List Event). events ++ reverse on.later) (one_more e l.t) ∙ sym (ap (λ (events : List Event). reverse events) on.is ∙ reverse-append on.later (e ∷ l.t)) in
    subst (λ (events : List Event). WritesFront start now.out.gone (trace_with script events)) parts
    (fails start (version_of script) script.setup script.names script.opening (reverse l.t) (l.put start begun) (reverse on.later))

-- all is put
pub loop_done :
    (schedule : Schedule) (script : ScriptValue) (machine : MachineRecord) (s : StreamTable) (journals picks : List ℕ) (sum : Summary) (step : ℕ) (old now : Writing) → (l : LoopAt schedule script machine s journals picks sum step old now)
    → l.t ≡ target schedule script → (start : Option (List ℕ)) → HasPut start old script [] → HasPut start now script (reverse (target schedule script))
loop_done schedule script machine s journals picks sum step old now l is start begun = subst (λ (events : List Event). HasPut start now script (reverse events)) is (l.put start begun)

-- the loop never runs to its end
pub loop_is_short :
    (schedule : Schedule) (script : ScriptValue) → IsDrivable script → (machine : MachineRecord) (s : StreamTable) (journals picks : List ℕ) (sum : Summary) (step : ℕ) (old now : Writing)
    → LoopAt schedule script machine s journals picks sum step old now → step ≤ 113049600
loop_is_short schedule script drivable machine s journals picks sum step old now l = let few = few_events schedule script drivable picks l.t l.at.way in let size = l.counted in omega (arith, few, size)

-- and its summary is small
pub loop_sum_is_small :
    (schedule : Schedule) (script : ScriptValue) → IsDrivable script → (machine : MachineRecord) (s : StreamTable) (journals picks : List ℕ) (sum : Summary) (step : ℕ) (old now : Writing)
    → LoopAt schedule script machine s journals picks sum step old now → total sum ≤ 678297600
loop_sum_is_small schedule script drivable machine s journals picks sum step old now l =
    let few = few_events schedule script drivable picks l.t l.at.way in
    let small = summary_is_small l.t in
    let same = ap total l.summed in
    omega (arith, few, small, same)

-- what holds of a script's version, setup, names and opening, as they were read
pub of_script :
    (script : ScriptValue) (P : Version → Configuration → List (ℕ × List ℕ) → List (Line × Bytes64) → Type 0) (version : Version) (setup : Configuration) (names : List (ℕ × List ℕ)) (opening : List (Line × Bytes64))
    → version ≡ version_of script → setup ≡ script.setup → names ≡ script.names → opening ≡ script.opening → P version setup names opening → P (version_of script) script.setup script.names script.opening
of_script script P version setup names opening same_version same_setup same_names same_opening p =
    subst (λ (v : Version). P v script.setup script.names script.opening) same_version
    (subst (λ (s : Configuration). P version s script.names script.opening) same_setup
    (subst (λ (n : List (ℕ × List ℕ)). P version setup n script.opening) same_names (subst (λ (o : List (Line × Bytes64)). P version setup names o) same_opening p)))

-- what holds in any case holds of a refusal
pub on_refusal : {T E P : Type 0} (r : Result T E) → P → OnErr r P
on_refusal (Ok x) p = tt
on_refusal (Err e) p = p
