-- What a checker has read and judged of the bytes that it was fed. Every rule here is an own rule.
use Rattle.std.specs.Prelude.{Err, List, None, Option, Some, [], length, reverse, ℕ, ◌++◌, ◌∷◌, ◌<◌, ◌^◌, ◌≡◌, ◌≤◌}
use Rattle.cxl_message.specs.Setup.{Configuration}
use Rattle.cxl_message.specs.declared.identifiers.Bytes64.{Bytes64}
use Rattle.cxl_message.specs.declared.identifiers.Line.{Line}
use Rattle.cxl_message.specs.declared.states.RuleNo.{RuleNo}
use Rattle.coherence_model.specs.Verdicts.{Verdict, verdict_on}
use Rattle.machine.specs.Stands.{StandsFor}
use Rattle.trace_stream.specs.declared.items.Item.{Item}
use Rattle.trace_stream.specs.declared.items.TraceFault.{TraceFault}
use Rattle.trace_stream.specs.declared.stages.Stage.{Stage}
use Rattle.trace_stream.specs.Items.{event_count}
use Rattle.trace_stream.specs.Readings.{IsDrained, Reading}
use Rattle.trace_stream.specs.Runs.{Follow, HasRead, IsRead, SaysAfter}
use Rattle.trace_check.specs.declared.judging.Judging.{Judging}
use Rattle.trace_check.specs.declared.runs.Run.{Run}
use Rattle.trace_check.specs.Items.{events_in, openings_in, setups_in}

-- ---- what was judged of some items

-- they have this header and these openings, and no event
pub record IsOpened (items : List Item) (setup : Configuration) (opening : List (Line × Bytes64)) : Type 0 where
  pub header : setups_in items ≡ setup ∷ []
  pub opened : openings_in items ≡ opening
  pub none : events_in items ≡ []

-- their events are a run with these numbers, and the machine stands for it
pub record IsRunning (items : List Item) (run : Run) : Type 0 where
  pub setup : Configuration
  pub header : setups_in items ≡ setup ∷ []
  pub stands : StandsFor run.machine setup (openings_in items) (reverse (events_in items))
  pub told : verdict_on setup (openings_in items) (events_in items) ≡ Verdict.Run run.events run.commits

-- the event of this number is the first of them that isn't allowed, and breaks this rule
pub record IsBroken (items : List Item) (event : ℕ) (rule : RuleNo) : Type 0 where
  pub setup : Configuration
  pub header : setups_in items ≡ setup ∷ []
  pub told : verdict_on setup (openings_in items) (events_in items) ≡ Verdict.Broken event rule

-- the events among them, perhaps none, are a run or were found broken
abbrev pub IsBegun : List Item → Judging → Type 0
IsBegun items Judging.Start = ⊥
IsBegun items (Judging.Opened setup opening) = ⊥
IsBegun items (Judging.Running run) = IsRunning items run
IsBegun items (Judging.Broken event rule) = IsBroken items event rule
IsBegun items Judging.NoMemory = ⊥

-- how far the judging is after these items, unless memory was wanting
abbrev pub IsJudged : List Item → Judging → Type 0
IsJudged items Judging.Start = items ≡ []
IsJudged items (Judging.Opened setup opening) = IsOpened items setup opening
IsJudged items (Judging.Running run) = IsRunning items run × (1 ≤ run.events)
IsJudged items (Judging.Broken event rule) = IsBroken items event rule
IsJudged items Judging.NoMemory = ⊥

-- a trace goes on by this item after those that were judged
pub record GoesOnBy (items : List Item) (item : Item) (judging : Judging) : Type 0 where
  pub judged : IsJudged items judging
  pub follow : Follow Stage.Start (items ++ item ∷ [])
  pub few : length (events_in items) < 2 ^ 63

-- an event was judged: from now on no memory is taken
abbrev pub IsSettled : Judging → Type 0
IsSettled Judging.Start = ⊥
IsSettled (Judging.Opened setup opening) = ⊥
IsSettled (Judging.Running run) = Unit {0}
IsSettled (Judging.Broken event rule) = Unit {0}
IsSettled Judging.NoMemory = ⊥

-- memory was wanting
abbrev pub IsLost : Judging → Type 0
IsLost Judging.Start = ⊥
IsLost (Judging.Opened setup opening) = ⊥
IsLost (Judging.Running run) = ⊥
IsLost (Judging.Broken event rule) = ⊥
IsLost Judging.NoMemory = Unit {0}

-- ---- what was read and judged of some bytes

-- what a checker has read, and how far the judging is
pub record Checking : Type 0 where
  pub reading : Reading
  pub judging : Judging

-- the items of the bytes, up to those that wait, are judged
pub record HasJudged (bytes : List ℕ) (checking : Checking) : Type 0 where
  pub items : List Item
  pub read : HasRead bytes items checking.reading
  pub judged : IsJudged items checking.judging

-- behind some items the bytes have this fault
pub record IsRefused (bytes : List ℕ) (fault : TraceFault) : Type 0 where
  pub items : List Item
  pub rest : List ℕ
  pub read : IsRead bytes items rest
  pub says : SaysAfter items rest (Err fault)

-- the bytes were judged, or a fault was met in them
abbrev pub HasJudgedUnless : Option TraceFault → List ℕ → Checking → Type 0
HasJudgedUnless None bytes checking = HasJudged bytes checking
HasJudgedUnless (Some fault) bytes checking = IsRefused bytes fault

-- a checker that was fed these bytes, and for which memory wasn't wanting, has judged them as far as they tell, or has met their fault
pub record HasChecked (bytes : List ℕ) (checking : Checking) : Type 0 where
  pub judged : HasJudgedUnless checking.reading.fault bytes checking
  pub drained : IsDrained checking.reading
  pub settled : 1 ≤ event_count checking.reading.stage → IsSettled checking.judging

-- a fact holds unless memory was wanting
abbrev pub UnlessLost : Judging → Type 0 → Type 0
UnlessLost Judging.Start P = P
UnlessLost (Judging.Opened setup opening) P = P
UnlessLost (Judging.Running run) P = P
UnlessLost (Judging.Broken event rule) P = P
UnlessLost Judging.NoMemory P = Unit {0}

-- a checker has checked some bytes, unless memory was wanting
abbrev pub HasCheckedSome : Checking → Type 0
HasCheckedSome checking = UnlessLost checking.judging ((bytes : List ℕ) × HasChecked bytes checking)
