-- What is passed for a task that stands, where it isn't allowed.
use Rattle.std.proofs.Common.{◌≡◌, ℕ, Bool, true, false, List, [], ◌∷◌, Option, cond, ap, sym, ◌∙◌}
use Rattle.std.specs.Prelude.{is_some, not, option_and_then, ◌&&◌}
use Rattle.cxl_message.specs.declared.events.Act.{Act}
use Rattle.coherence_model.specs.DeviceActs.{finish_emission}
use Rattle.coherence_model.specs.Emission.{Emission, one_send}
use Rattle.coherence_model.specs.Words.{when}
use Rattle.device_record.specs.Acts.{act_if}
use Rattle.device_record.specs.Answers.{finish_row, grant_in, is_asked_by, is_finished, is_wanted, snoop_of_task, snoop_row}
use Rattle.device_record.specs.Record.{CreditRecord, TaskRecord, bytes_in}
use Rattle.device_state.specs.Agent.{AgentRecord}
use Rattle.device_acts.specs.declared.searching.Search.{Search}
use Rattle.device_acts.specs.Searching.{searched}
use Rattle.device_acts.specs.Sections.{Stands, first_of, paid, snoop_for}

-- an act whose row sends this, where the credits reach
abbrev pub act_by : List CreditRecord → Act → Option Emission → List Act
act_by credits act row = cond (is_some (paid credits row)) (act ∷ []) []

not_both : (b : Bool) → b && false ≡ false
not_both true = λ i. false
not_both false = λ i. false

no_snoop : (d : AgentRecord) (t : TaskRecord) (h : ℕ) → Stands d.kept t → is_wanted d.kept.filter.rows t h && not (is_asked_by h t) ≡ false → snoop_for d t h ≡ []
no_snoop d t h stands none =
    ap (λ (o : Option TaskRecord). act_by d.kept.credits (Act.Snoop h (first_of t)) (option_and_then (snoop_row h d.kept.filter.rows) o)) stands
    ∙ ap (λ (b : Bool). act_by d.kept.credits (Act.Snoop h (first_of t)) (when b (one_send h (snoop_of_task t)))) none

-- a host that is Asked isn't asked again
pub passes_asked : (d : AgentRecord) (t : TaskRecord) (h : ℕ) (s : Search) → Stands d.kept t → is_asked_by h t ≡ true → s ≡ searched (snoop_for d t h) s
passes_asked d t h s stands asked =
    ap (λ (acts : List Act). searched acts s) (sym (no_snoop d t h stands (ap (λ (b : Bool). is_wanted d.kept.filter.rows t h && not b) asked ∙ not_both (is_wanted d.kept.filter.rows t h))))

-- a host that isn't to be asked isn't asked
pub passes_unwanted : (d : AgentRecord) (t : TaskRecord) (h : ℕ) (s : Search) → Stands d.kept t → is_wanted d.kept.filter.rows t h ≡ false → s ≡ searched (snoop_for d t h) s
passes_unwanted d t h s stands unwanted =
    ap (λ (acts : List Act). searched acts s) (sym (no_snoop d t h stands (ap (λ (b : Bool). b && not (is_asked_by h t)) unwanted)))

-- a task isn't finished while a host is Asked or to be asked
pub passes_unfinished : (d : AgentRecord) (t : TaskRecord) (s : Search) → Stands d.kept t → is_finished d.setup.hosts d.kept.filter.rows t ≡ false
    → s ≡ searched (act_if d.setup d.kept (Act.Finish (first_of t))) s
passes_unfinished d t s stands unfinished =
    ap (λ (acts : List Act). searched acts s)
    (sym (ap (λ (o : Option TaskRecord). act_by d.kept.credits (Act.Finish (first_of t)) (option_and_then (finish_row d.setup d.kept) o)) stands
    ∙ ap (λ (b : Bool). act_by d.kept.credits (Act.Finish (first_of t)) (when b (finish_emission t.purpose (grant_in d.setup.hosts d.kept.filter.rows t) t.host t.tag (bytes_in d.kept.memory t.first)))) unfinished))
