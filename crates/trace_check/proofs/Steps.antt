-- What is judged of one more item, by what was judged before it.
use Rattle.std.proofs.Common.{◌≡◌, ℕ, ◌≤◌, List, [], ◌∷◌, ◌++◌, reverse, None, refl, sym, ap, subst, ◌∙◌, append-nil, arith}
use Rattle.cxl_message.specs.Opening.{opening_refusal}
use Rattle.cxl_message.specs.Setup.{Configuration}
use Rattle.cxl_message.specs.declared.events.Event.{Event}
use Rattle.cxl_message.specs.declared.identifiers.Bytes64.{Bytes64}
use Rattle.cxl_message.specs.declared.identifiers.Line.{Line}
use Rattle.cxl_message.specs.declared.states.RuleNo.{RuleNo}
use Rattle.cxl_codec.specs.declared.versions.Version.{Version}
use Rattle.coherence_model.specs.Verdicts.{Verdict, verdict_on}
use Rattle.machine.specs.Stands.{StandsFor}
use Rattle.trace_stream.specs.declared.items.Item.{Item}
use Rattle.trace_stream.specs.declared.stages.Stage.{Stage}
use Rattle.trace_stream.specs.Items.{event_count}
use Rattle.trace_stream.specs.Runs.{Follow, stage_after}
use Rattle.trace_check.specs.declared.judging.Judging.{Judging}
use Rattle.trace_check.specs.Items.{event_part, events_in, opening_part, openings_in, setup_part, setups_in}
use Rattle.trace_check.specs.Judged.{GoesOnBy, IsJudged, IsSettled}
use Rattle.trace_check.proofs.Openings.{IsGood, may_add, opened_well}
use Rattle.trace_check.proofs.Parts.{events_more, header_first, none_counted, opening_first, openings_more, setups_more}

-- ---- the header

empty_of : (items : List Item) (setup : Configuration) → items ≡ [] → setups_in items ≡ setup ∷ [] → ⊥
empty_of items setup none header = let e : [] ≡ setup ∷ [] = sym (ap setups_in none) ∙ header in absurd cc

-- where a header comes, nothing was read
header_comes : (items : List Item) (version : Version) (setup : Configuration) (judging : Judging) → GoesOnBy items (Item.Header version setup) judging → items ≡ []
header_comes items version setup judging on = header_first items version setup on.follow

pub header_judged : (items : List Item) (version : Version) (setup : Configuration) (judging : Judging) → GoesOnBy items (Item.Header version setup) judging
    → IsJudged (items ++ Item.Header version setup ∷ []) (Judging.Opened setup [])
header_judged items version setup judging on =
    subst (λ (front : List Item). IsJudged (front ++ Item.Header version setup ∷ []) (Judging.Opened setup [])) (sym (header_comes items version setup judging on)) (record { header = refl; opened = refl; none = refl })

pub header_unsettled : (items : List Item) (version : Version) (setup : Configuration) (judging : Judging) → GoesOnBy items (Item.Header version setup) judging → IsSettled judging → ⊥
header_unsettled items version setup Judging.Start on settled = settled
header_unsettled items version setup (Judging.Opened own opening) on settled = settled
header_unsettled items version setup (Judging.Running run) on settled = empty_of items on.judged.0.setup (header_comes items version setup (Judging.Running run) on) on.judged.0.header
header_unsettled items version setup (Judging.Broken event rule) on settled = empty_of items on.judged.setup (header_comes items version setup (Judging.Broken event rule) on) on.judged.header
header_unsettled items version setup Judging.NoMemory on settled = settled

-- ---- an opening

-- where no event was read, none is a run or broken
none_run : (items : List Item) (setup : Configuration) (verdict : Verdict) → events_in items ≡ [] → verdict_on setup (openings_in items) (events_in items) ≡ verdict → verdict ≡ Verdict.Run 0 0
none_run items setup verdict none told = sym told ∙ ap (verdict_on setup (openings_in items)) none

run_of_none : (n k : ℕ) → 1 ≤ n → Verdict.Run n k ≡ Verdict.Run 0 0 → ⊥
run_of_none n k some e = let none : n ≡ 0 = events_told n k e in absurd (omega (arith, some, none)) where
  events_told : (n k : ℕ) → Verdict.Run n k ≡ Verdict.Run 0 0 → n ≡ 0
  events_told n k e = cc

broken_of_none : (n : ℕ) (rule : RuleNo) → Verdict.Broken n rule ≡ Verdict.Run 0 0 → ⊥
broken_of_none n rule e = cc

-- where a line is opened the judging says so
abbrev pub IsOpenedState : Judging → Type 0
IsOpenedState Judging.Start = ⊥
IsOpenedState (Judging.Opened setup opening) = Unit {0}
IsOpenedState (Judging.Running run) = ⊥
IsOpenedState (Judging.Broken event rule) = ⊥
IsOpenedState Judging.NoMemory = ⊥

start_opens_none : (items : List Item) (line : Line) (bytes : Bytes64) → items ≡ [] → Follow Stage.Start (items ++ Item.Opened line bytes ∷ []) → ⊥
start_opens_none items line bytes none follow = (subst (λ (front : List Item). Follow Stage.Start (front ++ Item.Opened line bytes ∷ [])) none follow).0

pub opening_comes : (items : List Item) (line : Line) (bytes : Bytes64) (judging : Judging) → GoesOnBy items (Item.Opened line bytes) judging → IsOpenedState judging
opening_comes items line bytes Judging.Start on = start_opens_none items line bytes on.judged on.follow
opening_comes items line bytes (Judging.Opened setup opening) on = tt
opening_comes items line bytes (Judging.Running run) on =
    run_of_none run.events run.commits on.judged.1 (none_run items on.judged.0.setup (Verdict.Run run.events run.commits) (opening_first Stage.Start items line bytes on.follow) on.judged.0.told)
opening_comes items line bytes (Judging.Broken event rule) on =
    broken_of_none event rule (none_run items on.judged.setup (Verdict.Broken event rule) (opening_first Stage.Start items line bytes on.follow) on.judged.told)
opening_comes items line bytes Judging.NoMemory on = on.judged

pub opening_unsettled : (items : List Item) (line : Line) (bytes : Bytes64) (judging : Judging) → GoesOnBy items (Item.Opened line bytes) judging → IsSettled judging → ⊥
opening_unsettled items line bytes Judging.Start on settled = settled
opening_unsettled items line bytes (Judging.Opened setup opening) on settled = settled
opening_unsettled items line bytes (Judging.Running run) on settled = opening_comes items line bytes (Judging.Running run) on
opening_unsettled items line bytes (Judging.Broken event rule) on settled = opening_comes items line bytes (Judging.Broken event rule) on
opening_unsettled items line bytes Judging.NoMemory on settled = settled

-- the line may be added
pub opening_allowed : (items : List Item) (line : Line) (bytes : Bytes64) (setup : Configuration) (opening : List (Line × Bytes64)) → GoesOnBy items (Item.Opened line bytes) (Judging.Opened setup opening)
    → opening_refusal opening line.0 bytes ≡ None
opening_allowed items line bytes setup opening on =
    let item = Item.Opened line bytes in
    let header : setups_in (items ++ item ∷ []) ≡ setup ∷ [] = setups_more items item ∙ append-nil (setups_in items) ∙ on.judged.header in
    let opened : openings_in (items ++ item ∷ []) ≡ opening ++ (line, bytes) ∷ [] = openings_more items item ∙ ap (λ (l : List (Line × Bytes64)). l ++ (line, bytes) ∷ []) on.judged.opened in
    may_add setup.lines opening line bytes (subst (λ (l : List (Line × Bytes64)). IsGood setup.lines 0 l) opened (opened_well (items ++ item ∷ []) setup on.follow header))

pub opening_judged : (items : List Item) (line : Line) (bytes : Bytes64) (setup : Configuration) (opening : List (Line × Bytes64)) → GoesOnBy items (Item.Opened line bytes) (Judging.Opened setup opening)
    → IsJudged (items ++ Item.Opened line bytes ∷ []) (Judging.Opened setup (opening ++ (line, bytes) ∷ []))
opening_judged items line bytes setup opening on =
    let item = Item.Opened line bytes in
    record {
      header = setups_more items item ∙ append-nil (setups_in items) ∙ on.judged.header;
      opened = openings_more items item ∙ ap (λ (l : List (Line × Bytes64)). l ++ (line, bytes) ∷ []) on.judged.opened;
      none = events_more items item ∙ append-nil (events_in items) ∙ on.judged.none;
    }

-- ---- a name, or the end record

-- what items say that have the same parts
same_parts : (a b : List Item) → setups_in a ≡ setups_in b → openings_in a ≡ openings_in b → events_in a ≡ events_in b → (judging : Judging) → (a ≡ [] → ⊥) → IsJudged a judging → IsJudged b judging
same_parts a b header opened events Judging.Start some judged = absurd (some judged)
same_parts a b header opened events (Judging.Opened setup opening) some judged =
    record { header = sym header ∙ judged.header; opened = sym opened ∙ judged.opened; none = sym events ∙ judged.none }
same_parts a b header opened events (Judging.Running run) some judged = (
  record {
    setup = judged.0.setup;
    header = sym header ∙ judged.0.header;
    stands =
        subst (λ (l : List (Line × Bytes64)). StandsFor run.machine judged.0.setup l (reverse (events_in b))) opened
        (subst (λ (l : List Event). StandsFor run.machine judged.0.setup (openings_in a) (reverse l)) events judged.0.stands);
    told =
        ap (λ (l : List Event). verdict_on judged.0.setup (openings_in b) l) (sym events) ∙ ap (λ (l : List (Line × Bytes64)). verdict_on judged.0.setup l (events_in a)) (sym opened)
        ∙ judged.0.told;
  },
  judged.1,
)
same_parts a b header opened events (Judging.Broken event rule) some judged =
    record {
      setup = judged.setup;
      header = sym header ∙ judged.header;
      told = ap (λ (l : List Event). verdict_on judged.setup (openings_in b) l) (sym events) ∙ ap (λ (l : List (Line × Bytes64)). verdict_on judged.setup l (events_in a)) (sym opened) ∙ judged.told;
    }
same_parts a b header opened events Judging.NoMemory some judged = absurd judged

pub silent_judged : (items : List Item) (item : Item) (judging : Judging) → setup_part item ≡ [] → opening_part item ≡ [] → event_part item ≡ [] → (Follow Stage.Start (item ∷ []) → ⊥) → GoesOnBy items item judging
    → IsJudged (items ++ item ∷ []) judging
silent_judged items item judging header opened events late on =
    same_parts items (items ++ item ∷ []) (sym (setups_more items item ∙ ap (λ (l : List Configuration). setups_in items ++ l) header ∙ append-nil (setups_in items)))
    (sym (openings_more items item ∙ ap (λ (l : List (Line × Bytes64)). openings_in items ++ l) opened ∙ append-nil (openings_in items)))
    (sym (events_more items item ∙ ap (λ (l : List Event). events_in items ++ l) events ∙ append-nil (events_in items)))
    judging (λ none. late (subst (λ (front : List Item). Follow Stage.Start (front ++ item ∷ [])) none on.follow)) on.judged

-- ---- whether an event was judged

pub settled_after : (items : List Item) (judging : Judging) → Follow Stage.Start items → IsJudged items judging → 1 ≤ event_count (stage_after Stage.Start items) → IsSettled judging
settled_after items Judging.Start follow judged some =
    let none : event_count (stage_after Stage.Start items) ≡ 0 = ap (λ (l : List Item). event_count (stage_after Stage.Start l)) judged in
    absurd (omega (arith, some, none))
settled_after items (Judging.Opened setup opening) follow judged some = let none = none_counted Stage.Start items follow refl judged.none in absurd (omega (arith, some, none))
settled_after items (Judging.Running run) follow judged some = tt
settled_after items (Judging.Broken event rule) follow judged some = tt
settled_after items Judging.NoMemory follow judged some = judged
