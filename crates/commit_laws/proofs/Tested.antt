-- Whether a run follows a script is tested event by event, and whether all is committed by the streams' counts.
use Rattle.std.proofs.Common.{◌≡◌, ℕ, Bool, true, false, List, [], ◌∷◌, length, take, Option, Some, None, refl, ap, sym, ◌∙◌, arith}
use Rattle.std.specs.Prelude.{slice_get}
use Rattle.std.specs.Option.{option_map_or}
use Rattle.std.proofs.lemmas.Bool.{and_from, and_parts, eq-eqb, eqb-true, false≢true}
use Rattle.std.proofs.lemmas.List.{take_all, length-take-le}
use Rattle.cxl_message.specs.declared.events.Cause.{Cause}
use Rattle.cxl_message.specs.declared.events.Event.{Event}
use Rattle.cxl_message.specs.declared.events.Op.{Op}
use Rattle.cxl_message.specs.Events.{op_eq}
use Rattle.cxl_message.specs.Script.{ScriptValue}
use Rattle.coherence_model.specs.Choices.{Stream, streams_of}
use Rattle.coherence_model.specs.Fitting.{cause_fits}
use Rattle.coherence_model.specs.Runs.{IsRun, is_allowed, is_run}
use Rattle.coherence_model.specs.Traces.{events_of, history}
use Rattle.coherence_lemmas.proofs.Allowed.{allowed_parts}
use Rattle.cxl_message.proofs.SameEvents.{op_eq-same, same-op_eq}
use Rattle.step_laws.proofs.Counts.{all_from_each, each_from_all, each_weaker}
use Rattle.commit_laws.specs.Begun.{Follows, done_count, follows, is_all_committed, is_of_script}
use Rattle.commit_laws.specs.Commits.{CommitsEach, committed, numbered}
use Rattle.commit_laws.specs.Laws.{CompleteIsCommitted, FollowingIsTested}
use Rattle.commit_laws.proofs.Fronts.{are_scripted, scripted_follows}
use Rattle.commit_laws.proofs.Lengths.{done_of, done_within, numbered_long}
use Rattle.commit_laws.proofs.Named.{names_done, no_other}
use Rattle.commit_laws.proofs.Scripted.{AreScripted, IsOfScript}
use Rattle.commit_laws.proofs.Streams.{IsStreamOf, each_at, fits_host, host_of, stream_at, streams_are}

-- ---- event by event

-- what passes is there
passes_some : {X : Type 0} (p : X → Bool) (o : Option X) → option_map_or p o false ≡ true → (x : X) × ((o ≡ Some x) × (p x ≡ true))
passes_some p None h = absurd (false≢true h)
passes_some p (Some x) h = (x, (refl, h))

-- a cause that passes is the script's
cause_tested : (script : ScriptValue) (g : ℕ) (cause : Cause) → cause_fits script.setup g cause ≡ true → is_of_script script cause ≡ true → IsOfScript script g cause
cause_tested script g (Cause.Op s i op) fits test =
    let list = passes_some (λ ops. option_map_or (op_eq op) (slice_get ops i) false) (slice_get script.operations s) test in
    let one = passes_some (op_eq op) (slice_get list.0 i) list.1.1 in
    record {
      host = fits_host script.setup g s i op fits;
      list = list.0;
      operations = list.1.0;
      is = one.1.0 ∙ ap Some (sym (op_eq-same op one.0 one.1.1));
    }
cause_tested script g (Cause.Take h m) fits test = tt
cause_tested script g (Cause.Act act) fits test = tt

-- and one that is passes
cause_passes_test : (script : ScriptValue) (g : ℕ) (cause : Cause) → IsOfScript script g cause → is_of_script script cause ≡ true
cause_passes_test script g (Cause.Op s i op) named =
    ap (λ (o : Option (List Op)). option_map_or (λ ops. option_map_or (op_eq op) (slice_get ops i) false) o false) named.operations
    ∙ ap (λ (o : Option Op). option_map_or (op_eq op) o false) named.is ∙ same-op_eq op op refl
cause_passes_test script g (Cause.Take h m) named = refl
cause_passes_test script g (Cause.Act act) named = refl

-- so it is of all
all_tested : (script : ScriptValue) (t : List Event) → IsRun script.setup script.opening t → follows script t ≡ true → AreScripted script t
all_tested script [] run test = tt
all_tested script (e ∷ past) run test =
    let runs = and_parts (is_run script.setup script.opening past) (is_allowed script.setup script.opening past e) run in
    let tests = and_parts (is_of_script script e.cause) (follows script past) test in
    (cause_tested script e.agent e.cause (allowed_parts script.setup script.opening past e runs.1).profile.cause tests.0, all_tested script past runs.0 tests.1)

all_pass : (script : ScriptValue) (t : List Event) → AreScripted script t → follows script t ≡ true
all_pass script [] named = refl
all_pass script (e ∷ past) named = and_from _ _ (cause_passes_test script e.agent e.cause named.0) (all_pass script past named.1)

pub following_is_tested : FollowingIsTested
following_is_tested script lists t run = (
  λ test. scripted_follows script t run (all_tested script t run test),
  λ followed. all_pass script t (are_scripted script lists t run followed),
)

-- ---- by the counts

-- a stream whose commits are those of all its operations has all done
counted :
    (script : ScriptValue) (t : List Event) → IsRun script.setup script.opening t → Follows script t → CommitsEach script t
    → ((s h : ℕ) (ops : List Op) → slice_get script.setup.streams s ≡ Some h → slice_get script.operations s ≡ Some ops → committed s (history t) ≡ numbered 0 (take (done_count s (events_of h t)) ops))
    → (y : Stream) → IsStreamOf script y → is_all_committed t y ≡ true
counted script t run followed each named y of =
    let done = done_of t y in
    let within = done_within script t run followed y of in
    let same = ap length (sym (named y.number y.host y.operations of.host of.operations) ∙ each.streams y.number y.operations of.operations) in
    let some = numbered_long 0 (take done y.operations) ∙ length-take-le done y.operations within in
    let all = numbered_long 0 y.operations in
    eq-eqb done (length y.operations) (sym some ∙ same ∙ all)

pub complete_is_committed : CompleteIsCommitted
complete_is_committed script limits lists t run followed =
    let scripted = are_scripted script lists t run followed in (
      λ complete. record {
        streams = λ s ops list.
            let host = host_of script lists s ops list in
            let done = eqb-true (done_count s (events_of host.0 t)) (length ops)
            (each_at (λ y. is_all_committed t y ≡ true) (streams_of script) s _ (each_from_all (is_all_committed t) (streams_of script) complete) (stream_at script s host.0 ops host.1 list)) in
            names_done script limits s host.0 ops host.1 list t run scripted
            ∙ ap (λ (n : ℕ). numbered 0 (take n ops)) done
            ∙ ap (numbered 0) (take_all (length ops) ops (omega arith));
        no_other = no_other script t run scripted;
      },
      λ each.
          all_from_each (is_all_committed t) (streams_of script)
          (each_weaker (IsStreamOf script) (λ y. is_all_committed t y ≡ true)
          (counted script t run followed each (λ s h ops host list. names_done script limits s h ops host list t run scripted)) (streams_of script) (streams_are script)),
    )
