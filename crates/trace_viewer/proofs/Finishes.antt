-- What was read to its end: a trace that was shown whole, or a fault.
use Rattle.std.proofs.Common.{List, None, Some, Ok, Err, Option, [], ◌++◌, ◌+◌, ◌≡◌, inl, inr, append-nil, length, refl, sym, ap, subst, ◌∙◌, ℕ}
use Rattle.std.specs.Prelude.{IfNone, Result}
use Rattle.cxl_view.specs.Tallies.{Counts, tally_lines}
use Rattle.trace_stream.specs.declared.items.Item.{Item}
use Rattle.trace_stream.specs.declared.items.TraceFault.{TraceFault}
use Rattle.trace_stream.specs.declared.stages.Stage.{Stage}
use Rattle.trace_stream.specs.Readings.{end_of, fed_count, unless_fault}
use Rattle.trace_stream.specs.Items.{Says}
use Rattle.trace_stream.specs.Runs.{HasRead, IsTraceOf, items_bytes, stage_after}
use Rattle.trace_viewer.specs.Items.{counts_in, shown_items}
use Rattle.trace_viewer.specs.Viewing.{AppendsSome, HasShown, HasShownAll, HasShownUnless, IsFrontShown, IsShown, Viewing}
use Rattle.trace_viewer.proofs.Bytes.{unless_none}
use Rattle.trace_viewer.proofs.Texts.{shown_whole}

-- where the end is answered, no fault was met
ended_well : (met : Option TraceFault) (end : Result ℕ TraceFault) (count : ℕ) → Ok count ≡ unless_fault met end → met ≡ None
ended_well None end count is = refl
ended_well (Some fault) end count is = absurd cc

-- all of a trace is shown
pub ends_whole :
    (bytes text old new : List ℕ) (v : Viewing) (count : ℕ) (end : Result ℕ TraceFault) → HasShown bytes text v → Ok count ≡ unless_fault v.reading.fault end → ((items : List Item) → HasRead bytes items v.reading → IsTraceOf bytes items count)
    → new ≡ old ++ tally_lines v.counted → AppendsSome old new (λ more. IsShown bytes (text ++ more))
ends_whole bytes text old new v count end has is whole put =
    let shown = unless_none v.reading.fault bytes text v (ended_well v.reading.fault end count is) has.shown in
    let same : shown_items shown.items ++ tally_lines (counts_in shown.items) ≡ text ++ tally_lines v.counted =
    ap (λ (l : List ℕ). l ++ tally_lines (counts_in shown.items)) (sym shown.shown) ∙ ap (λ (c : Counts). text ++ tally_lines c) (sym shown.counted) in
    record { more = tally_lines v.counted; appended = put; holds = subst (IsShown bytes) same (shown_whole bytes shown.items count (whole shown.items shown.read)) }

-- what is said where no fault was met
drained_says : (met : Option TraceFault) (P : Type 0) → met ≡ None → IfNone met P → P
drained_says None P none says = says
drained_says (Some fault) P none says = absurd cc

-- the front of bytes whose items were all shown
short_front : (bytes text : List ℕ) (v : Viewing) (fault : TraceFault) → HasShownAll bytes text v → Says v.reading.stage v.reading.place v.reading.waiting (Ok Item.More) → end_of v.reading.stage (fed_count v.reading) ≡ Err fault → IsFrontShown bytes text fault
short_front bytes text v fault shown says ends =
    let waiting = v.reading.waiting in
    let stage : v.reading.stage ≡ stage_after Stage.Start shown.items = shown.read.stage in
    let place : v.reading.place ≡ length (items_bytes shown.items) = shown.read.place in
    let said : Says (stage_after Stage.Start shown.items) (length (items_bytes shown.items)) waiting (Ok Item.More) =
    subst (λ (s : Stage). Says s (length (items_bytes shown.items)) waiting (Ok Item.More)) stage (subst (λ (n : ℕ). Says v.reading.stage n waiting (Ok Item.More)) place says) in
    let ended : end_of (stage_after Stage.Start shown.items) (length (items_bytes shown.items) + length waiting) ≡ Err fault =
    subst (λ (s : Stage). end_of s (length (items_bytes shown.items) + length waiting) ≡ Err fault) stage (subst (λ (n : ℕ). end_of v.reading.stage (n + length waiting) ≡ Err fault) place ends) in
    record { items = shown.items; rest = waiting; read = shown.read.read; fails = inr (said, ended); shown = shown.shown }

-- the fault that is answered is that behind what was shown
front_by :
    (met : Option TraceFault) (bytes text : List ℕ) (v : Viewing) (fault : TraceFault) → HasShownUnless met bytes text v → IfNone met (Says v.reading.stage v.reading.place v.reading.waiting (Ok Item.More)) → Err fault ≡ unless_fault met (end_of v.reading.stage (fed_count v.reading))
    → IsFrontShown bytes text fault
front_by None bytes text v fault shown says is = short_front bytes text v fault shown says (sym is)
front_by (Some own) bytes text v fault shown says is =
    let same : own ≡ fault = cc in
    subst (IsFrontShown bytes text) same (record { items = shown.items; rest = shown.rest; read = shown.read; fails = inl shown.says; shown = shown.shown })

pub ends_front : (bytes text out : List ℕ) (v : Viewing) (fault : TraceFault) → HasShown bytes text v → Err fault ≡ unless_fault v.reading.fault (end_of v.reading.stage (fed_count v.reading)) → AppendsSome out out (λ more. IsFrontShown bytes (text ++ more) fault)
ends_front bytes text out v fault has is = record {
  more = [];
  appended = sym (append-nil out);
  holds = subst (λ (l : List ℕ). IsFrontShown bytes l fault) (sym (append-nil text)) (front_by v.reading.fault bytes text v fault has.shown has.drained is);
}
