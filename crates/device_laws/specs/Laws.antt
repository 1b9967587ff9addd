-- What is kept of the device is what its own events give, for every list of them that its rules allow. Each law here is an own rule.
use Rattle.std.specs.Prelude.{List, [], length, map, true, ℕ, ◌<◌, ◌∷◌, ◌≡◌}
use Rattle.cxl_message.specs.declared.events.Cause.{Cause}
use Rattle.cxl_message.specs.declared.events.Event.{Event}
use Rattle.cxl_message.specs.declared.identifiers.Bytes64.{Bytes64}
use Rattle.cxl_message.specs.declared.identifiers.Line.{Line}
use Rattle.cxl_message.specs.Setup.{Configuration, IsWithinLimits}
use Rattle.coherence_model.specs.Emission.{Emission}
use Rattle.coherence_model.specs.Next.{event_with}
use Rattle.coherence_model.specs.Pending.{device_pending}
use Rattle.coherence_model.specs.Refusals.{Answer, device_answer}
use Rattle.coherence_model.specs.Traces.{device}
use Rattle.coherence_model.specs.Weight.{device_weight}
use Rattle.device_record.specs.Acts.{acts_in, next_causes}
use Rattle.device_record.specs.Answers.{answer_in}
use Rattle.device_record.specs.Changes.{device_after}
use Rattle.device_record.specs.Counts.{act_total}
use Rattle.device_record.specs.Kept.{kept_device}
use Rattle.device_record.specs.Opened.{opened_device}
use Rattle.coherence_model.specs.OwnRuns.{IsOwnRun}
use Rattle.device_record.specs.Stands.{StandsForList}
use Rattle.device_record.specs.Steady.{IsSteady}
use Rattle.device_record.specs.Record.{DeviceRecord}
use Rattle.device_record.specs.Weights.{pending_in, weight_in}
use Rattle.cxl_message.specs.declared.states.Listing.{Listing}
use Rattle.coherence_model.specs.Directory.{is_busy}
use Rattle.coherence_model.specs.DirectoryChanges.{directory}
use Rattle.coherence_model.specs.Memory.{memory}
use Rattle.device_record.specs.Record.{bytes_in}
use Rattle.snoop_filter.specs.Changes.{rows_hold, rows_hold_all, rows_let_go, rows_set}
use Rattle.snoop_filter.specs.Rows.{FilterRow, has_row, held_in, listed_in}

-- a fact holds of every list of the device's own events that its rules allow
abbrev pub OfEachRun : (Configuration → List (Line × Bytes64) → List Event → Type 0) → Type 0
OfEachRun Fact = (setup : Configuration) (opening : List (Line × Bytes64)) (mine : List Event) → IsOwnRun setup opening device mine → Fact setup opening mine

-- what is kept after one event more is what the event makes of what was kept
abbrev pub DeviceFollows : Type 0
DeviceFollows =
    (setup : Configuration) (opening : List (Line × Bytes64)) (e : Event) (past : List Event) → IsOwnRun setup opening device (e ∷ past)
    → kept_device setup opening (e ∷ past) ≡ device_after setup e.cause e.sends (kept_device setup opening past)

-- what is opened stands for the empty list
abbrev pub OpenedStands : Type 0
OpenedStands = (setup : Configuration) (opening : List (Line × Bytes64)) → IsWithinLimits setup → StandsForList (opened_device setup opening) setup opening []

-- what stands for a list stands for it with each event that the model answers by
abbrev pub StandsOn : Type 0
StandsOn =
    (k : DeviceRecord) (setup : Configuration) (opening : List (Line × Bytes64)) (mine : List Event) → StandsForList k setup opening mine → (cause : Cause) (w : Emission)
    → device_answer setup opening cause mine ≡ Answer.Emits w → StandsForList (device_after setup cause w.sends k) setup opening (event_with device cause w ∷ mine)

-- the answers by what is kept are the model's
abbrev pub AnswersAreTheModels : Type 0
AnswersAreTheModels = OfEachRun (λ setup opening mine. (cause : Cause) → answer_in setup cause (kept_device setup opening mine) ≡ device_answer setup opening cause mine)

-- the acts by what is kept are the model's, in their order
abbrev pub ActsAreNext : Type 0
ActsAreNext = OfEachRun (λ setup opening mine. next_causes setup opening mine ≡ map (λ act. Cause.Act act) (acts_in setup (kept_device setup opening mine)))

-- their number is a sum over hosts and tasks
abbrev pub ActsAreCounted : Type 0
ActsAreCounted = OfEachRun (λ setup opening mine. length (acts_in setup (kept_device setup opening mine)) ≡ act_total setup (kept_device setup opening mine))

-- the weight by what is kept is the model's
abbrev pub WeightIsTheModels : Type 0
WeightIsTheModels = OfEachRun (λ setup opening mine. weight_in setup (kept_device setup opening mine) ≡ device_weight setup mine)

-- something is pending by what is kept exactly where the model says so
abbrev pub PendingIsTheModels : Type 0
PendingIsTheModels = OfEachRun (λ setup opening mine. pending_in setup (kept_device setup opening mine) ≡ device_pending setup mine)

-- memory, listings and Busy lines are read as the model has them
pub record AreRead (setup : Configuration) (opening : List (Line × Bytes64)) (mine : List Event) : Type 0 where
  pub memory : (a : ℕ) → a < setup.lines → bytes_in (kept_device setup opening mine).memory a ≡ memory opening a mine
  pub listed :
      (a h : ℕ) → a < setup.lines → h < setup.hosts → listed_in a h (kept_device setup opening mine).filter.rows ≡ (directory setup mine).listed a h
  pub busy : (a : ℕ) → a < setup.lines → held_in a (kept_device setup opening mine).filter.rows ≡ is_busy (directory setup mine) a

abbrev pub ReadsAreTheModels : Type 0
ReadsAreTheModels = OfEachRun AreRead

-- what is done to a line and then to others is done to all of them
pub record AreDoneByLine : Type 0 where
  pub let_go : (a : ℕ) (lines : List ℕ) (rows : List FilterRow) → rows_let_go lines (rows_let_go (a ∷ []) rows) ≡ rows_let_go (a ∷ lines) rows
  pub unlist :
      (a : ℕ) (lines : List ℕ) (h : ℕ) (rows : List FilterRow)
      → rows_set lines h Listing.I (rows_set (a ∷ []) h Listing.I rows) ≡ rows_set (a ∷ lines) h Listing.I rows
  pub hold : (hosts a : ℕ) (lines : List ℕ) (rows : List FilterRow) → has_row a rows ≡ true → rows_hold_all lines (rows_hold hosts a rows) ≡ rows_hold_all (a ∷ lines) rows

abbrev pub BlocksAreDoneByLine : Type 0
BlocksAreDoneByLine = AreDoneByLine

-- what is kept is steady, in a setup within its limits
abbrev pub KeptIsSteady : Type 0
KeptIsSteady = OfEachRun (λ setup opening mine. IsWithinLimits setup → IsSteady setup (kept_device setup opening mine))
