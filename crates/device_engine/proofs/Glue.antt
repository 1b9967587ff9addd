-- From what the agent keeps to the model's words.
use Rattle.std.proofs.Common.{◌≡◌, ℕ, zero, suc, ◌<◌, Bool, true, false, IsTrue, List, [], ◌∷◌, ◌++◌, Option, Some, None, Ok, Err, length, map, refl, ap, sym, ◌∙◌, subst, arith}
use Rattle.std.specs.declared.result.Result.{Result}
use Rattle.std.specs.Prelude.{flat_map, slice_get, ◌↔◌}
use Rattle.std.proofs.lemmas.Bool.{false≢true}
use Rattle.cxl_message.specs.declared.events.Act.{Act}
use Rattle.cxl_message.specs.declared.events.Cause.{Cause}
use Rattle.cxl_message.specs.declared.events.Event.{Event}
use Rattle.cxl_message.specs.declared.identifiers.Bytes64.{Bytes64}
use Rattle.cxl_message.specs.declared.identifiers.Line.{Line}
use Rattle.cxl_message.specs.declared.states.Listing.{Listing}
use Rattle.cxl_message.specs.Setup.{Configuration, IsWithinLimits}
use Rattle.coherence_model.specs.Directory.{is_busy}
use Rattle.coherence_model.specs.DirectoryChanges.{directory}
use Rattle.coherence_model.specs.Emission.{Emission}
use Rattle.coherence_model.specs.Memory.{memory}
use Rattle.coherence_model.specs.Next.{event_with, next_device_acts}
use Rattle.coherence_model.specs.Pending.{device_pending}
use Rattle.coherence_model.specs.Refusals.{Answer, device_answer}
use Rattle.coherence_model.specs.Traces.{device}
use Rattle.coherence_model.specs.Weight.{device_weight}
use Rattle.snoop_filter.specs.Rows.{held_in, listed_in}
use Rattle.device_record.specs.Acts.{acts_in, next_causes}
use Rattle.device_record.specs.Answers.{answer_in}
use Rattle.device_record.specs.Changes.{device_after}
use Rattle.device_record.specs.Kept.{kept_device}
use Rattle.device_record.specs.Opened.{opened_device}
use Rattle.device_record.specs.Record.{DeviceRecord, bytes_in}
use Rattle.device_record.specs.Stands.{StandsForList}
use Rattle.device_record.specs.Steady.{IsSteady}
use Rattle.device_record.specs.Weights.{pending_in, weight_in}
use Rattle.device_changes.specs.Passing.{MayStep}
use Rattle.device_changes.proofs.Steps.{may_step}
use Rattle.device_laws.proofs.Acts.{acts_of_list}
use Rattle.device_laws.proofs.Answers.{answer_is}
use Rattle.device_laws.proofs.GoesOn.{stands_on}
use Rattle.device_laws.proofs.Opened.{busy_read, listed_read, memory_read, opened_stands}
use Rattle.device_laws.proofs.Steady.{steady_is}
use Rattle.device_laws.proofs.Weights.{pending_is, weight_is}
use Rattle.device_state.specs.Agent.{AgentRecord}
use Rattle.device_state.specs.declared.decisions.Decision.{Decision}
use Rattle.device_state.specs.Decisions.{emission_by}
use Rattle.device_rows.specs.declared.answers.DeviceRefusal.{DeviceRefusal}
use Rattle.device_rows.specs.Answering.{answered, decided}
use Rattle.device_engine.specs.Contract.{IsBy, StandsFor, StandsForSome, WhereStands, act_of_cause, acts_after, emission_of, made}

-- what is read of the record that the agent keeps is what is read of the list's
of_list : {X : Type 0} (d : AgentRecord) (setup : Configuration) (opening : List (Line × Bytes64)) (mine : List Event) (read : Configuration → DeviceRecord → X) → StandsFor d setup opening mine
    → read d.setup d.kept ≡ read setup (kept_device setup opening mine)
of_list d setup opening mine read stands = ap (λ (s : Configuration). read s d.kept) stands.setup_is ∙ ap (read setup) stands.kept.same

-- the answer by what is kept is the model's
pub answers_are : (d : AgentRecord) (cause : Cause) (answer : Answer) → answer ≡ answer_in d.setup cause d.kept → WhereStands d (λ setup opening mine. answer ≡ device_answer setup opening cause mine)
answers_are d cause answer is setup opening mine stands =
    is ∙ of_list d setup opening mine (λ s k. answer_in s cause k) stands ∙ answer_is setup opening mine stands.kept.list cause

-- after an event that was emitted the agent stands for the list with it
pub stands_after : (d later : AgentRecord) (cause : Cause) (w : Emission) → Answer.Emits w ≡ answer_in d.setup cause d.kept → later ≡ record d { kept = device_after d.setup cause w.sends d.kept }
    → WhereStands d (λ setup opening mine. StandsFor later setup opening (event_with device cause w ∷ mine))
stands_after d later cause w is after setup opening mine stands =
    subst (λ (x : AgentRecord). StandsFor x setup opening (event_with device cause w ∷ mine)) (sym after)
    (record {
      setup_is = stands.setup_is;
      kept = subst (λ (s : Configuration). StandsForList (device_after s cause w.sends d.kept) setup opening (event_with device cause w ∷ mine)) (sym stands.setup_is)
          (stands_on d.kept setup opening mine stands.kept cause w (sym (answers_are d cause (Answer.Emits w) is setup opening mine stands)));
    })

acts_joined : (acts : List Act) (es : List Event) → map (λ (e : Event). e.cause) es ≡ map (λ act. Cause.Act act) acts → flat_map (λ (e : Event). act_of_cause e.cause) es ≡ acts
acts_joined [] [] same = refl
acts_joined [] (e ∷ es) same = cc
acts_joined (a ∷ acts) [] same = cc
acts_joined (a ∷ acts) (e ∷ es) same =
    let here : e.cause ≡ Cause.Act a = cc in
    let rest : map (λ (e : Event). e.cause) es ≡ map (λ act. Cause.Act act) acts = cc in
    ap (λ c. act_of_cause c ++ flat_map (λ (x : Event). act_of_cause x.cause) es) here ∙ ap (λ l. a ∷ l) (acts_joined acts es rest)

-- the acts by what is kept are those that the rows allow
pub acts_are : (d : AgentRecord) (setup : Configuration) (opening : List (Line × Bytes64)) (mine : List Event) → StandsFor d setup opening mine → acts_in d.setup d.kept ≡ acts_after setup opening mine
acts_are d setup opening mine stands =
    of_list d setup opening mine acts_in stands ∙ sym (acts_joined (acts_in setup (kept_device setup opening mine)) (next_device_acts setup opening mine) (acts_of_list setup opening mine stands.kept.list))

-- the number of acts
pub count_is : (d : AgentRecord) (n : ℕ) → n ≡ length (acts_in d.setup d.kept) → WhereStands d (λ setup opening mine. n ≡ length (acts_after setup opening mine))
count_is d n is setup opening mine stands = is ∙ ap length (acts_are d setup opening mine stands)

-- the act of a number
pub act_is : (d : AgentRecord) (k : ℕ) (act : Option Act) → act ≡ slice_get (acts_in d.setup d.kept) k → WhereStands d (λ setup opening mine. act ≡ slice_get (acts_after setup opening mine) k)
act_is d k act is setup opening mine stands = is ∙ ap (λ l. slice_get l k) (acts_are d setup opening mine stands)

-- the weight
pub weight_added : (d : AgentRecord) (n : ℕ) → n ≡ weight_in d.setup d.kept → WhereStands d (λ setup opening mine. n ≡ device_weight setup mine)
weight_added d n is setup opening mine stands = is ∙ of_list d setup opening mine weight_in stands ∙ weight_is setup opening mine stands.kept.list

-- whether something is pending
pub pending_shown : (d : AgentRecord) (b : Bool) → b ≡ pending_in d.setup d.kept → WhereStands d (λ setup opening mine. b ≡ device_pending setup mine)
pending_shown d b is setup opening mine stands = is ∙ of_list d setup opening mine pending_in stands ∙ pending_is setup opening mine stands.kept.list

-- a line of memory
pub bytes_read : (d : AgentRecord) (a : ℕ) (bytes : Bytes64) → a < d.setup.lines → bytes ≡ bytes_in d.kept.memory a → WhereStands d (λ setup opening mine. bytes ≡ memory opening a mine)
bytes_read d a bytes low is setup opening mine stands =
    is ∙ of_list d setup opening mine (λ s k. bytes_in k.memory a) stands
    ∙ memory_read setup opening mine a (subst (λ (s : Configuration). a < s.lines) stands.setup_is low)

-- what is kept is steady
pub some_steady : (d : AgentRecord) → StandsForSome d → IsSteady d.setup d.kept
some_steady d some =
    subst (IsSteady d.setup) (sym some.stands.same) (steady_is d.setup some.opening some.mine some.stands.list some.stands.within)

-- how a host is listed
pub listing_read : (d : AgentRecord) (a h : ℕ) (l : Listing) → a < d.setup.lines → h < d.setup.hosts → l ≡ listed_in a h d.kept.filter.rows → WhereStands d (λ setup opening mine. l ≡ (directory setup mine).listed a h)
listing_read d a h l low host is setup opening mine stands =
    is ∙ of_list d setup opening mine (λ s k. listed_in a h k.filter.rows) stands
    ∙ listed_read setup opening mine stands.kept.list a h (subst (λ (s : Configuration). a < s.lines) stands.setup_is low) (subst (λ (s : Configuration). h < s.hosts) stands.setup_is host)

-- whether a line is Busy
pub busy_shown : (d : AgentRecord) (a : ℕ) (b : Bool) → a < d.setup.lines → b ≡ held_in a d.kept.filter.rows → WhereStands d (λ setup opening mine. b ≡ is_busy (directory setup mine) a)
busy_shown d a b low is setup opening mine stands =
    is ∙ of_list d setup opening mine (λ s k. held_in a k.filter.rows) stands ∙ busy_read setup opening mine stands.kept.list a (subst (λ (s : Configuration). a < s.lines) stands.setup_is low)

-- what was opened stands for the empty list, and so for some
pub opened_stands_for : (d : AgentRecord) (setup : Configuration) (opening : List (Line × Bytes64)) → IsWithinLimits setup → d ≡ record { setup = setup; kept = opened_device setup opening } → StandsFor d setup opening []
opened_stands_for d setup opening limits is =
    subst (λ (x : AgentRecord). StandsFor x setup opening []) (sym is) (record { setup_is = refl; kept = opened_stands setup opening limits })

pub opened_for_some : (d : AgentRecord) (setup : Configuration) (opening : List (Line × Bytes64)) → IsWithinLimits setup → d ≡ record { setup = setup; kept = opened_device setup opening } → StandsForSome d
opened_for_some d setup opening limits is =
    subst StandsForSome (sym is) (record { opening = opening; mine = []; stands = opened_stands setup opening limits })

-- the device may step by what it answers
pub some_step : (d : AgentRecord) → StandsForSome d → (cause : Cause) (w : Emission) → Answer.Emits w ≡ answer_in d.setup cause d.kept → MayStep d.setup d.kept cause w
some_step d some cause w is = may_step d.kept d.setup some.opening some.mine some.stands cause w (sym is)

-- after an event that was emitted the agent stands for some list
pub some_after : (d later : AgentRecord) → StandsForSome d → (cause : Cause) (w : Emission) → Answer.Emits w ≡ answer_in d.setup cause d.kept
    → later ≡ record d { kept = device_after d.setup cause w.sends d.kept } → StandsForSome later
some_after d later some cause w is after =
    let stands = stands_after d later cause w is after d.setup some.opening some.mine (record { setup_is = refl; kept = some.stands }) in
    record {
      opening = some.opening;
      mine = event_with device cause w ∷ some.mine;
      stands = subst (λ (s : Configuration). StandsForList later.kept s some.opening (event_with device cause w ∷ some.mine)) (sym stands.setup_is) stands.kept;
    }

-- ---- events in rooms

-- the event that was made answers as was decided
pub made_as : (memory : List Bytes64) (d : Decision) (cause : Cause) (e : Event) (o : Result Decision DeviceRefusal) → o ≡ Ok d → e ≡ event_with device cause (emission_by memory d) → made (Ok tt) e ≡ decided memory o
made_as memory d cause e o is event = ap (λ (x : Event). made (Ok tt) x) event ∙ ap (decided memory) (sym is)

-- a refusal answers as was decided
pub refused_as : (memory : List Bytes64) (r : DeviceRefusal) (e : Event) (o : Result Decision DeviceRefusal) → o ≡ Err r → made (Err r) e ≡ decided memory o
refused_as memory (DeviceRefusal.NoCredit c) e o is = ap (decided memory) (sym is)
refused_as memory (DeviceRefusal.Broken rule) e o is = ap (decided memory) (sym is)

-- it is the device's, with its cause
pub by_device : (cause : Cause) (w : Emission) (e : Event) → e ≡ event_with device cause w → IsBy device cause e
by_device cause w e event = record { agent = ap (λ (x : Event). x.agent) event; cause_is = ap (λ (x : Event). x.cause) event }

-- what was decided is what the model answers
pub emits : (memory : List Bytes64) (d : Decision) (o : Result Decision DeviceRefusal) (answer : Answer) → o ≡ Ok d → decided memory o ≡ answer → Answer.Emits (emission_by memory d) ≡ answer
emits memory d o answer is same = ap (decided memory) (sym is) ∙ same

-- the agent stands for its list with the event that was made
pub stands_with : (d later : AgentRecord) (decision : Decision) (cause : Cause) (e : Event) → Answer.Emits (emission_by d.kept.memory decision) ≡ answer_in d.setup cause d.kept
    → later ≡ record d { kept = device_after d.setup cause (emission_by d.kept.memory decision).sends d.kept } → e ≡ event_with device cause (emission_by d.kept.memory decision)
    → WhereStands d (λ setup opening mine. StandsFor later setup opening (e ∷ mine))
stands_with d later decision cause e is after event setup opening mine stands =
    subst (λ (x : Event). StandsFor later setup opening (x ∷ mine)) (sym event) (stands_after d later cause (emission_by d.kept.memory decision) is after setup opening mine stands)

-- an event of the device is that of what it emits
pub event_by : (cause : Cause) (e : Event) → IsBy device cause e → e ≡ event_with device cause (emission_of e)
event_by cause e by i = record { agent = by.agent i; cause = by.cause_is i; sends = e.sends; commit = e.commit }

-- what is answered by value is what was made in the room
pub answered_as : (w : Emission) (e : Event) (o : Result (Unit {0}) DeviceRefusal) → o ≡ Ok tt → w ≡ emission_of e → Answer.Emits w ≡ made o e
answered_as w e o is same = ap Answer.Emits same ∙ ap (λ (x : Result (Unit {0}) DeviceRefusal). made x e) (sym is)

pub refusal_as : (r : DeviceRefusal) (e : Event) (o : Result (Unit {0}) DeviceRefusal) → o ≡ Err r → answered (Err r) ≡ made o e
refusal_as (DeviceRefusal.NoCredit c) e o is = ap (λ (x : Result (Unit {0}) DeviceRefusal). made x e) (sym is)
refusal_as (DeviceRefusal.Broken rule) e o is = ap (λ (x : Result (Unit {0}) DeviceRefusal). made x e) (sym is)

-- an answer that is the same is the model's too
pub where_same : (d : AgentRecord) (cause : Cause) (a b : Answer) → a ≡ b → WhereStands d (λ setup opening mine. b ≡ device_answer setup opening cause mine) → WhereStands d (λ setup opening mine. a ≡ device_answer setup opening cause mine)
where_same d cause a b same is setup opening mine stands = same ∙ is setup opening mine stands

-- the agent stands for its list with the event of what is answered by value
pub stands_by : (d later : AgentRecord) (cause : Cause) (w : Emission) (e : Event) → IsBy device cause e → w ≡ emission_of e → WhereStands d (λ setup opening mine. StandsFor later setup opening (e ∷ mine))
    → WhereStands d (λ setup opening mine. StandsFor later setup opening (event_with device cause w ∷ mine))
stands_by d later cause w e by same is setup opening mine stands =
    subst (λ (x : Event). StandsFor later setup opening (x ∷ mine)) (event_by cause e by ∙ ap (event_with device cause) (sym same)) (is setup opening mine stands)

-- ---- a step that is wanted

-- the emission of an answer that is one
abbrev emission_or : Emission → Answer → Emission
emission_or w (Answer.Emits v) = v
emission_or w Answer.NoSuchLine = w
emission_or w Answer.Again = w
emission_or w Answer.NoTag = w
emission_or w Answer.NoWay = w
emission_or w (Answer.NoCredit c) = w
emission_or w (Answer.Broken rule) = w

-- what is answered is wanted exactly where both are the same
pub wanted_answers : (d : AgentRecord) (cause : Cause) (m w : Emission) (b : Bool) → Answer.Emits m ≡ answer_in d.setup cause d.kept → (IsTrue b ↔ (m ≡ w))
    → WhereStands d (λ setup opening mine. IsTrue b ↔ (device_answer setup opening cause mine ≡ Answer.Emits w))
wanted_answers d cause m w b is same setup opening mine stands =
    let emits = answers_are d cause (Answer.Emits m) is setup opening mine stands in
    (λ so. sym emits ∙ ap Answer.Emits (same.0 so), λ wants. same.1 (ap (emission_or m) (emits ∙ wants)))

refusal_emits_none : (r : DeviceRefusal) (w : Emission) (memory : List Bytes64) → decided memory (Err r) ≡ Answer.Emits w → ⊥
refusal_emits_none (DeviceRefusal.NoCredit c) w memory is = cc
refusal_emits_none (DeviceRefusal.Broken rule) w memory is = cc

-- no refusal is wanted
pub refusal_is_unwanted : (d : AgentRecord) (cause : Cause) (r : DeviceRefusal) (w : Emission) (o : Result Decision DeviceRefusal) → o ≡ Err r → decided d.kept.memory o ≡ answer_in d.setup cause d.kept
    → WhereStands d (λ setup opening mine. IsTrue false ↔ (device_answer setup opening cause mine ≡ Answer.Emits w))
refusal_is_unwanted d cause r w o is same setup opening mine stands = (
  λ no. absurd (false≢true no),
  λ wants. absurd (refusal_emits_none r w d.kept.memory (ap (decided d.kept.memory) (sym is) ∙ answers_are d cause (decided d.kept.memory o) same setup opening mine stands ∙ wants)),
)

-- the agent stands for its list with the wanted event too
pub wanted_stands : (d later : AgentRecord) (cause : Cause) (m w : Emission) → Answer.Emits m ≡ answer_in d.setup cause d.kept → later ≡ record d { kept = device_after d.setup cause m.sends d.kept } → m ≡ w
    → WhereStands d (λ setup opening mine. IsTrue true → StandsFor later setup opening (event_with device cause w ∷ mine))
wanted_stands d later cause m w is after same setup opening mine stands so =
    subst (λ (x : Emission). StandsFor later setup opening (event_with device cause x ∷ mine)) same (stands_after d later cause m is after setup opening mine stands)

-- the event that was made is wanted exactly where what was decided is
pub made_is_wanted : (cause : Cause) (m w : Emission) (e : Event) (b : Bool) → e ≡ event_with device cause m → (IsTrue b ↔ (emission_of e ≡ w)) → IsTrue b ↔ (m ≡ w)
made_is_wanted cause m w e b event same = subst (λ (x : Emission). IsTrue b ↔ (x ≡ w)) (ap emission_of event) same
