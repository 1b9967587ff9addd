-- The verdict on bytes: there is one, and it is that on the events of a trace.
use Rattle.std.proofs.Common.{◌≡◌, ℕ, List, [], ◌∷◌, ◌++◌, length, map, reverse, refl, sym, ap, subst, ◌∙◌, append-nil}
use Rattle.cxl_message.specs.Setup.{Configuration}
use Rattle.cxl_message.specs.declared.events.Event.{Event}
use Rattle.cxl_message.specs.declared.identifiers.Bytes64.{Bytes64}
use Rattle.cxl_message.specs.declared.identifiers.Line.{Line}
use Rattle.cxl_message.specs.declared.states.RuleNo.{RuleNo}
use Rattle.cxl_codec.specs.declared.versions.Version.{Version}
use Rattle.cxl_codec.specs.Traces.{TraceIsDetermined}
use Rattle.coherence_model.specs.Verdicts.{Verdict as EventsVerdict, verdict_on}
use Rattle.coherent_runs.proofs.Runs.{runs_coherent}
use Rattle.trace_stream.specs.declared.items.Item.{Item}
use Rattle.trace_stream.specs.declared.items.TraceFault.{TraceFault}
use Rattle.trace_stream.specs.Items.{fault_at}
use Rattle.trace_stream.specs.Laws.{OneFault, TracesHaveNoFault}
use Rattle.trace_stream.specs.Runs.{HasFault, IsTraceIn, IsTraceOf, name_item, trace_items_in}
use Rattle.verdict_laws.proofs.Verdicts.{broken_is_told, run_is_told}
use Rattle.trace_check.specs.declared.runs.Run.{Run}
use Rattle.trace_check.specs.declared.verdicts.Verdict.{Verdict}
use Rattle.trace_check.specs.Items.{events_in, openings_in, setups_in}
use Rattle.trace_check.specs.Judged.{IsBroken, IsOpened, IsRunning}
use Rattle.trace_check.specs.Laws.{BrokenSaysSo, OneVerdict, RunSaysSo, RunsAreCoherent, TracesAreJudged, TracesHaveGoodBytes}
use Rattle.trace_check.specs.Verdicts.{IsTold, IsVerdict, as_verdict}

-- ---- what a judging says

one_setup : (a b : Configuration) (l : List Configuration) → l ≡ a ∷ [] → l ≡ b ∷ [] → a ≡ b
one_setup a b l x y = let e : a ∷ [] ≡ b ∷ [] = sym x ∙ y in same a b e where
  same : (a b : Configuration) → a ∷ [] ≡ b ∷ [] → a ≡ b
  same a b e = cc

told_with : (items : List Item) (own setup : Configuration) (verdict : EventsVerdict) → setups_in items ≡ own ∷ [] → setups_in items ≡ setup ∷ [] → verdict_on own (openings_in items) (events_in items) ≡ verdict
    → as_verdict verdict ≡ as_verdict (verdict_on setup (openings_in items) (events_in items))
told_with items own setup verdict mine header told =
    ap as_verdict (sym told) ∙ ap (λ (s : Configuration). as_verdict (verdict_on s (openings_in items) (events_in items))) (one_setup own setup (setups_in items) mine header)

pub opened_says : (items : List Item) (own setup : Configuration) (opening : List (Line × Bytes64)) → setups_in items ≡ setup ∷ [] → IsOpened items own opening
    → Verdict.Run 0 0 ≡ as_verdict (verdict_on setup (openings_in items) (events_in items))
opened_says items own setup opening header opened = ap (λ (l : List Event). as_verdict (verdict_on setup (openings_in items) l)) (sym opened.none)

pub running_says : (items : List Item) (setup : Configuration) (run : Run) → setups_in items ≡ setup ∷ [] → IsRunning items run → Verdict.Run run.events run.commits ≡ as_verdict (verdict_on setup (openings_in items) (events_in items))
running_says items setup run header running = told_with items running.setup setup (EventsVerdict.Run run.events run.commits) running.header header running.told

pub broken_says : (items : List Item) (setup : Configuration) (event : ℕ) (rule : RuleNo) → setups_in items ≡ setup ∷ [] → IsBroken items event rule
    → Verdict.Broken event rule ≡ as_verdict (verdict_on setup (openings_in items) (events_in items))
broken_says items setup event rule header broken = told_with items broken.setup setup (EventsVerdict.Broken event rule) broken.header header broken.told

-- ---- the parts of a trace

abbrev opened_items : List (Line × Bytes64) → List Item
opened_items opening = map (λ pair. Item.Opened pair.0 pair.1) opening

setups_names : (names : List (ℕ × List ℕ)) (rest : List Item) → setups_in (map name_item names ++ rest) ≡ setups_in rest
setups_names [] rest = refl
setups_names (n ∷ names) rest = setups_names names rest

setups_opened : (opening : List (Line × Bytes64)) (rest : List Item) → setups_in (opened_items opening ++ rest) ≡ setups_in rest
setups_opened [] rest = refl
setups_opened (p ∷ opening) rest = setups_opened opening rest

setups_events : (events : List Event) (n : ℕ) → setups_in (map Item.Event events ++ Item.End n ∷ []) ≡ []
setups_events [] n = refl
setups_events (e ∷ events) n = setups_events events n

openings_names : (names : List (ℕ × List ℕ)) (rest : List Item) → openings_in (map name_item names ++ rest) ≡ openings_in rest
openings_names [] rest = refl
openings_names (n ∷ names) rest = openings_names names rest

openings_opened : (opening : List (Line × Bytes64)) (rest : List Item) → openings_in (opened_items opening ++ rest) ≡ opening ++ openings_in rest
openings_opened [] rest = refl
openings_opened (p ∷ opening) rest = ap (λ (l : List (Line × Bytes64)). p ∷ l) (openings_opened opening rest)

openings_events : (events : List Event) (n : ℕ) → openings_in (map Item.Event events ++ Item.End n ∷ []) ≡ []
openings_events [] n = refl
openings_events (e ∷ events) n = openings_events events n

events_names : (names : List (ℕ × List ℕ)) (rest : List Item) → events_in (map name_item names ++ rest) ≡ events_in rest
events_names [] rest = refl
events_names (n ∷ names) rest = events_names names rest

events_opened : (opening : List (Line × Bytes64)) (rest : List Item) → events_in (opened_items opening ++ rest) ≡ events_in rest
events_opened [] rest = refl
events_opened (p ∷ opening) rest = events_opened opening rest

events_events : (events : List Event) (n : ℕ) → events_in (map Item.Event events ++ Item.End n ∷ []) ≡ events
events_events [] n = refl
events_events (e ∷ events) n = ap (λ (l : List Event). e ∷ l) (events_events events n)

-- a trace has the parts of its items
pub record HasParts (items : List Item) (setup : Configuration) (opening : List (Line × Bytes64)) (events : List Event) : Type 0 where
  pub header : setups_in items ≡ setup ∷ []
  pub opened : openings_in items ≡ opening
  pub happened : events_in items ≡ events

trace_parts : (version : Version) (setup : Configuration) (names : List (ℕ × List ℕ)) (opening : List (Line × Bytes64)) (events : List Event) → HasParts (trace_items_in version setup names opening events) setup opening events
trace_parts version setup names opening events =
    let last : List Item = map Item.Event events ++ Item.End (length events) ∷ [] in
    let middle : List Item = opened_items opening ++ last in
    record {
      header = ap (λ (l : List Configuration). setup ∷ l) (setups_names names middle ∙ setups_opened opening last ∙ setups_events events (length events));
      opened = openings_names names middle ∙ openings_opened opening last ∙ ap (λ (l : List (Line × Bytes64)). opening ++ l) (openings_events events (length events)) ∙ append-nil opening;
      happened = events_names names middle ∙ events_opened opening last ∙ events_events events (length events);
    }

pub parts_of : (bytes : List ℕ) (items : List Item) (count : ℕ) → (t : IsTraceOf bytes items count) → HasParts items t.setup t.opening t.events
parts_of bytes items count t = subst (λ (l : List Item). HasParts l t.setup t.opening t.events) (sym t.same) (trace_parts t.version t.setup t.names t.opening t.events)

-- ---- the laws

told_by : (bytes : List ℕ) (version : Version) (setup : Configuration) (names : List (ℕ × List ℕ)) (opening : List (Line × Bytes64)) (events : List Event) (verdict : EventsVerdict) → IsTraceIn bytes version setup names opening events
    → verdict_on setup opening events ≡ verdict → IsVerdict bytes (as_verdict verdict)
told_by bytes version setup names opening events (EventsVerdict.Run n k) trace told = record { version = version; setup = setup; names = names; opening = opening; events = events; trace = trace; told = told }
told_by bytes version setup names opening events (EventsVerdict.Broken n rule) trace told = record { version = version; setup = setup; names = names; opening = opening; events = events; trace = trace; told = told }

pub traces_judged : TracesAreJudged
traces_judged bytes version setup names opening events trace = told_by bytes version setup names opening events (verdict_on setup opening events) trace refl

-- what was read and judged whole has its verdict
pub judged_whole : (bytes : List ℕ) (items : List Item) (count : ℕ) (verdict : Verdict) → IsTraceOf bytes items count
    → ((setup : Configuration) → setups_in items ≡ setup ∷ [] → verdict ≡ as_verdict (verdict_on setup (openings_in items) (events_in items))) → IsVerdict bytes verdict
judged_whole bytes items count verdict t says =
    let parts = parts_of bytes items count t in
    let told : verdict ≡ as_verdict (verdict_on t.setup t.opening t.events) =
    says t.setup parts.header ∙ ap (λ (l : List (Line × Bytes64)). as_verdict (verdict_on t.setup l (events_in items))) parts.opened ∙ ap (λ (l : List Event). as_verdict (verdict_on t.setup t.opening l)) parts.happened in
    subst (IsVerdict bytes) (sym told) (traces_judged bytes t.version t.setup t.names t.opening t.events t.trace)

module _ (determined : TraceIsDetermined) where
  one_told : (bytes : List ℕ) (a b : EventsVerdict) → IsTold bytes a → IsTold bytes b → a ≡ b
  one_told bytes a b x y =
      let same = determined x.version y.version x.setup y.setup x.names y.names x.opening y.opening x.events y.events x.trace.fits y.trace.fits (sym x.trace.spelled ∙ y.trace.spelled) in
      sym x.told ∙ ap (λ (s : Configuration). verdict_on s x.opening x.events) same.1 ∙ ap (λ (l : List (Line × Bytes64)). verdict_on y.setup l x.events) same.3 ∙ ap (λ (l : List Event). verdict_on y.setup y.opening l) same.4
      ∙ y.told

  told_of : (bytes : List ℕ) (version : Version) (setup : Configuration) (names : List (ℕ × List ℕ)) (opening : List (Line × Bytes64)) (events : List Event) (verdict : EventsVerdict)
      → IsTraceIn bytes version setup names opening events → IsTold bytes verdict → verdict_on setup opening events ≡ verdict
  told_of bytes version setup names opening events verdict trace told =
      one_told bytes (verdict_on setup opening events) verdict (record { version = version; setup = setup; names = names; opening = opening; events = events; trace = trace; told = refl }) told

  pub run_says_so : RunSaysSo
  run_says_so bytes version setup names opening events trace n k = (
    λ told. (run_is_told setup opening events n k).0 (told_of bytes version setup names opening events (EventsVerdict.Run n k) trace told),
    λ runs. told_by bytes version setup names opening events (EventsVerdict.Run n k) trace ((run_is_told setup opening events n k).1 runs),
  )

  pub broken_says_so : BrokenSaysSo
  broken_says_so bytes version setup names opening events trace n rule = (
    λ told. (broken_is_told setup opening events n rule).0 (told_of bytes version setup names opening events (EventsVerdict.Broken n rule) trace told),
    λ breaks. told_by bytes version setup names opening events (EventsVerdict.Broken n rule) trace ((broken_is_told setup opening events n rule).1 breaks),
  )

  pub runs_are_coherent : RunsAreCoherent
  runs_are_coherent bytes version setup names opening events trace n k told =
      runs_coherent setup opening trace.fits.limits.limits (reverse events) ((run_is_told setup opening events n k).0 (told_of bytes version setup names opening events (EventsVerdict.Run n k) trace told)).run

  module _ (one_fault : OneFault) (none : TracesHaveNoFault) where
    no_fault : (bytes : List ℕ) (verdict : EventsVerdict) (fault : TraceFault) → IsTold bytes verdict → HasFault bytes fault → ⊥
    no_fault bytes verdict fault told has = none bytes told.version told.setup told.names told.opening told.events fault told.trace has

    pub one_verdict : OneVerdict
    one_verdict bytes (Verdict.Run n k) (Verdict.Run m j) x y = ap as_verdict (one_told bytes (EventsVerdict.Run n k) (EventsVerdict.Run m j) x y)
    one_verdict bytes (Verdict.Run n k) (Verdict.Broken m rule) x y = ap as_verdict (one_told bytes (EventsVerdict.Run n k) (EventsVerdict.Broken m rule) x y)
    one_verdict bytes (Verdict.Run n k) (Verdict.BadBytes at reason) x y = absurd (no_fault bytes (EventsVerdict.Run n k) (fault_at at reason) x y)
    one_verdict bytes (Verdict.Broken n rule) (Verdict.Run m j) x y = ap as_verdict (one_told bytes (EventsVerdict.Broken n rule) (EventsVerdict.Run m j) x y)
    one_verdict bytes (Verdict.Broken n rule) (Verdict.Broken m law) x y = ap as_verdict (one_told bytes (EventsVerdict.Broken n rule) (EventsVerdict.Broken m law) x y)
    one_verdict bytes (Verdict.Broken n rule) (Verdict.BadBytes at reason) x y = absurd (no_fault bytes (EventsVerdict.Broken n rule) (fault_at at reason) x y)
    one_verdict bytes (Verdict.BadBytes at reason) (Verdict.Run m j) x y = absurd (no_fault bytes (EventsVerdict.Run m j) (fault_at at reason) y x)
    one_verdict bytes (Verdict.BadBytes at reason) (Verdict.Broken m rule) x y = absurd (no_fault bytes (EventsVerdict.Broken m rule) (fault_at at reason) y x)
    one_verdict bytes (Verdict.BadBytes at reason) (Verdict.BadBytes there why) x y = ap (λ (f : TraceFault). Verdict.BadBytes f.at f.reason) (one_fault bytes (fault_at at reason) (fault_at there why) x y)

pub good_bytes : TracesHaveNoFault → TracesHaveGoodBytes
good_bytes none bytes version setup names opening events trace at reason bad = none bytes version setup names opening events (fault_at at reason) trace bad
