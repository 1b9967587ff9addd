-- The laws of a host's record over every list of its own events that its rules allow, whatever its peers did.
use Rattle.std.specs.Prelude.{IsTrue, List, [], is_some, ℕ, ◌∷◌, ◌≡◌}
use Rattle.std.specs.List.{list_any}
use Rattle.cxl_message.specs.declared.events.Act.{Act}
use Rattle.cxl_message.specs.declared.events.Cause.{Cause}
use Rattle.cxl_message.specs.declared.events.Event.{Event}
use Rattle.cxl_message.specs.declared.events.Op.{Op}
use Rattle.cxl_message.specs.declared.identifiers.Bytes64.{Bytes64}
use Rattle.cxl_message.specs.declared.identifiers.Line.{Line}
use Rattle.cxl_message.specs.Setup.{Configuration, IsWithinLimits}
use Rattle.coherence_model.specs.Emission.{Emission}
use Rattle.coherence_model.specs.Fitting.{is_host}
use Rattle.coherence_model.specs.HostActs.{host_acts}
use Rattle.coherence_model.specs.HostOperations.{host_operates}
use Rattle.coherence_model.specs.Next.{event_with}
use Rattle.coherence_model.specs.OwnRuns.{ForEachHostRun, IsOwnRun}
use Rattle.coherence_model.specs.Pending.{host_pending}
use Rattle.coherence_model.specs.Refusals.{Answer, host_answer}
use Rattle.coherence_model.specs.Transactions.{is_open}
use Rattle.coherence_model.specs.Weight.{host_weight}
use Rattle.host_record.specs.HostChanges.{host_after}
use Rattle.host_record.specs.HostRecord.{view_in}
use Rattle.host_record.specs.Stands.{acts_after, acts_in, answer_in, kept_host, opened_host, weight_in}
use Rattle.host_record.specs.Tables.{lookup}
use Rattle.host_record.specs.View.{view_of}
use Rattle.host_record.specs.ViewRows.{acts_by, operates_by}

-- before the first event what is kept is what an agent opens with
abbrev pub RecordsBegin : Type 0
RecordsBegin = (setup : Configuration) (h : ℕ) → opened_host setup ≡ kept_host setup h []

-- H1, H2 and H7 to H10 over the view of any list of events are the model's rows
abbrev pub OperationsAreModel : Type 0
OperationsAreModel =
    (setup : Configuration) (h : ℕ) (mine : List Event) (s i : ℕ) (op : Op)
    → operates_by setup h s i op (view_of setup h mine) ≡ host_operates setup h s i op mine

abbrev pub ActsAreModel : Type 0
ActsAreModel = (setup : Configuration) (h : ℕ) (mine : List Event) (act : Act) → acts_by setup h act (view_of setup h mine) ≡ host_acts setup h act mine

-- one more own event makes of what is kept what is kept with it
abbrev pub RecordsFollow : Type 0
RecordsFollow =
    (setup : Configuration) (opening : List (Line × Bytes64)) → IsWithinLimits setup → (h : ℕ) → IsTrue (is_host setup h) → (e : Event) (mine : List Event) → IsOwnRun setup opening h (e ∷ mine)
    → kept_host setup h (e ∷ mine) ≡ host_after setup e (kept_host setup h mine)

-- what is answered by the record is what the host answers
abbrev pub RecordsAnswer : Type 0
RecordsAnswer = ForEachHostRun (λ setup h mine. (cause : Cause) → answer_in setup h cause (kept_host setup h mine) ≡ host_answer setup h cause mine)

-- the acts by the record are the host's, in their order
abbrev pub RecordsAct : Type 0
RecordsAct = ForEachHostRun (λ setup h mine. acts_in setup h (kept_host setup h mine) ≡ acts_after setup h mine)

-- a line has a tag in the record just where it is Open
abbrev pub RecordsOpen : Type 0
RecordsOpen = ForEachHostRun (λ setup h mine. (a : ℕ) → is_some (lookup (kept_host setup h mine).line_tags a) ≡ is_open a mine)

-- the record has something pending where the host has
abbrev pub RecordsPend : Type 0
RecordsPend = ForEachHostRun (λ setup h mine. list_any (λ b. b) (kept_host setup h mine).busy ≡ host_pending setup mine)

-- the record adds to the weight what the host does
abbrev pub RecordsWeigh : Type 0
RecordsWeigh = ForEachHostRun (λ setup h mine. weight_in (kept_host setup h mine) ≡ host_weight setup h mine)

-- all that the rows read of the record is what they read of the events
abbrev pub RecordsView : Type 0
RecordsView = ForEachHostRun (λ setup h mine. view_in (kept_host setup h mine) ≡ view_of setup h mine)

-- an own run goes on by what the host answers, where that emits
abbrev pub OwnRunsGoOn : Type 0
OwnRunsGoOn =
    ForEachHostRun (λ setup h mine. (opening : List (Line × Bytes64)) → IsOwnRun setup opening h mine → (cause : Cause) (w : Emission)
    → host_answer setup h cause mine ≡ Answer.Emits w → IsOwnRun setup opening h (event_with h cause w ∷ mine))

-- each event of an own run is what the host answers to its cause
abbrev pub OwnEventsAreAnswered : Type 0
OwnEventsAreAnswered =
    (setup : Configuration) (opening : List (Line × Bytes64)) → IsWithinLimits setup → (h : ℕ) → IsTrue (is_host setup h) → (e : Event) (mine : List Event) → IsOwnRun setup opening h (e ∷ mine)
    → host_answer setup h e.cause mine ≡ Answer.Emits (record { sends = e.sends; commit = e.commit })

-- an own run of a host doesn't depend on the opening
abbrev pub OwnRunsOfAnyOpening : Type 0
OwnRunsOfAnyOpening = ForEachHostRun (λ setup h mine. (opening : List (Line × Bytes64)) → IsOwnRun setup opening h mine)
