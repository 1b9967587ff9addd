-- The public clauses of an agent follow from what its body does by its record, by the laws of the record.
use Rattle.std.proofs.Common.{Bool, IsTrue, List, [], ap, false, length, refl, subst, sym, true, ℕ, ◌<◌, ◌∙◌, ◌∷◌, ◌≡◌}
use Rattle.std.specs.Prelude.{Err, IfOk, Ok, OnErr, Result, is_some, slice_get, ◌↔◌}
use Rattle.std.specs.List.{list_any}
use Rattle.std.proofs.lemmas.Bool.{false≢true, lt-ltb}
use Rattle.cxl_message.specs.declared.events.Act.{Act}
use Rattle.cxl_message.specs.declared.events.Cause.{Cause}
use Rattle.cxl_message.specs.declared.events.Event.{Event}
use Rattle.cxl_message.specs.Setup.{Configuration, IsWithinLimits}
use Rattle.coherence_model.specs.Cache.{copy}
use Rattle.coherence_model.specs.Emission.{Emission}
use Rattle.coherence_model.specs.Pending.{host_pending}
use Rattle.coherence_model.specs.Refusals.{Answer, host_answer}
use Rattle.coherence_model.specs.Snoops.{is_snooped}
use Rattle.coherence_model.specs.Streams.{begun_count, stream_waits}
use Rattle.coherence_model.specs.Transactions.{is_open}
use Rattle.coherence_model.specs.Weight.{host_weight}
use Rattle.host_record.specs.HostRecord.{stream_in, view_in}
use Rattle.host_record.specs.Stands.{acts_after, weight_in}
use Rattle.host_record.specs.Tables.{lookup}
use Rattle.host_record.specs.View.{View, view_of}
use Rattle.host_record.specs.ViewRows.{snoop_of_line}
use Rattle.host_record.specs.Ways.{copy_in}
use Rattle.host_record.proofs.Opened.{records_begin}
use Rattle.host_laws.proofs.Laws.{own_runs_go_on, records_act, records_answer, records_follow, records_view}
use Rattle.host_laws.proofs.Readings.{records_open, records_pend, records_weigh}
use Rattle.host_acts.specs.Counting.{acts_of_agent}
use Rattle.host_home.specs.Contract.{StandsFor, WhereStands, answered_by}
use Rattle.host_rows.specs.declared.answers.HostRefusal.{HostRefusal}
use Rattle.host_rows.specs.Answers.{as_result, emission_in, told}
use Rattle.host_tables.specs.Agent.{AgentRecord, agent_after, event_of, opened_agent}

pub opened_stands : (agent : AgentRecord) (setup : Configuration) (h : ℕ) → IsWithinLimits setup → h < setup.hosts → agent ≡ opened_agent setup h → StandsFor agent setup h []
opened_stands agent setup h limits low is = record {
  within = limits;
  host = lt-ltb h setup.hosts low;
  run = refl;
  kept = is ∙ ap {B = AgentRecord} (λ k. record { setup = setup; host = h; kept = k }) (records_begin setup h);
}

-- ---- answers

pub would_answers :
    (agent : AgentRecord) (cause : Cause) (setup : Configuration) (h : ℕ) (mine : List Event) → StandsFor agent setup h mine
    → answered_by agent cause ≡ as_result (host_answer setup h cause mine)
would_answers agent cause setup h mine s = ap (λ x. answered_by x cause) s.kept ∙ ap as_result (records_answer setup [] s.within h s.host mine s.run cause)

-- an answer that is Ok is an emission
abbrev ok_or : Emission → Result Emission HostRefusal → Emission
ok_or x (Ok w) = w
ok_or x (Err refusal) = x

emits_by : (a : Answer) (w : Emission) → as_result a ≡ Ok w → a ≡ Answer.Emits w
emits_by (Answer.Emits x) w is = ap (λ r. Answer.Emits (ok_or x r)) is
emits_by Answer.NoSuchLine w is = cc
emits_by Answer.Again w is = cc
emits_by Answer.NoTag w is = cc
emits_by Answer.NoWay w is = cc
emits_by (Answer.NoCredit c) w is = cc
emits_by (Answer.Broken rule) w is = cc

event_stands :
    (old new : AgentRecord) (cause : Cause) (w : Emission) (setup : Configuration) (h : ℕ) (mine : List Event) → StandsFor old setup h mine
    → answered_by old cause ≡ Ok w → new ≡ agent_after cause w old → StandsFor new setup h (event_of h cause w ∷ mine)
event_stands old new cause w setup h mine s ok is =
    let emits = emits_by (host_answer setup h cause mine) w (sym (would_answers old cause setup h mine s) ∙ ok) in
    let run = own_runs_go_on setup [] s.within h s.host mine s.run [] s.run cause w emits in
    record {
      within = s.within;
      host = s.host;
      run = run;
      kept = is ∙ ap (agent_after cause w) s.kept
          ∙ ap {B = AgentRecord} (λ k. record { setup = setup; host = h; kept = k }) (sym (records_follow setup [] s.within h s.host (event_of h cause w) mine run));
    }

-- an event is that of its agent and its cause
event_is : (e : Event) (h : ℕ) (cause : Cause) → e.agent ≡ h → e.cause ≡ cause → e ≡ event_of h cause (emission_in e)
event_is e h cause agent same = λ j. record { agent = agent j; cause = same j; sends = e.sends; commit = e.commit }

-- the host of an agent that stands for a list is that of the list
host_is : (agent : AgentRecord) (setup : Configuration) (h : ℕ) (mine : List Event) → StandsFor agent setup h mine → agent.host ≡ h
host_is agent setup h mine s = ap (λ (x : AgentRecord). x.host) s.kept

-- the same by the result of the step, and by the event in the room
pub step_stands :
    (old new : AgentRecord) (cause : Cause) (e : Event) (r : Result (Unit {0}) HostRefusal) (setup : Configuration) (h : ℕ) (mine : List Event) → StandsFor old setup h mine
    → told r e ≡ answered_by old cause → IfOk r (λ u. e ≡ event_of old.host cause (emission_in e)) → IfOk r (λ u. new ≡ agent_after cause (emission_in e) old)
    → IfOk r (λ u. StandsFor new setup h (e ∷ mine))
step_stands old new cause e (Ok u) setup h mine s is of changed =
    subst (λ x. StandsFor new setup h (x ∷ mine)) (sym (of ∙ ap (λ n. event_of n cause (emission_in e)) (host_is old setup h mine s)))
    (event_stands old new cause (emission_in e) setup h mine s (sym is) changed)
step_stands old new cause e (Err refusal) setup h mine s is of changed = tt

-- the same by what the event sends and commits
pub value_stands :
    (old new : AgentRecord) (cause : Cause) (e : Event) (r : Result (Unit {0}) HostRefusal) (u : Unit {0}) (w : Emission) (setup : Configuration) (h : ℕ) (mine : List Event)
    → StandsFor old setup h mine → r ≡ Ok u → w ≡ emission_in e → IfOk r (λ x. e.agent ≡ old.host) → IfOk r (λ x. e.cause ≡ cause)
    → IfOk r (λ x. StandsFor new setup h (e ∷ mine)) → StandsFor new setup h (event_of h cause w ∷ mine)
value_stands old new cause e (Ok x) u w setup h mine s is same agent cause_is stands =
    subst (λ y. StandsFor new setup h (event_of h cause y ∷ mine)) (sym same)
    (subst (λ y. StandsFor new setup h (y ∷ mine)) (event_is e h cause (agent ∙ host_is old setup h mine s) cause_is) stands)
value_stands old new cause e (Err refusal) u w setup h mine s is same agent cause_is stands = cc

-- ---- a step that is wanted

-- what is answered is wanted exactly where both are the same
pub emits_as : (r : Result Emission HostRefusal) (m w : Emission) (b : Bool) → Ok m ≡ r → (IsTrue b ↔ (m ≡ w)) → IsTrue b ↔ (r ≡ Ok w)
emits_as r m w b is same = (λ so. sym is ∙ ap {B = Result Emission HostRefusal} Ok (same.0 so), λ wants. same.1 (ap (ok_or m) (is ∙ wants)))

-- no refusal is wanted
pub emits_none : (r : Result Emission HostRefusal) (refusal : HostRefusal) (w : Emission) → Err refusal ≡ r → IsTrue false ↔ (r ≡ Ok w)
emits_none r refusal w is = (λ no. absurd (false≢true no), λ wants. let both : ◌≡◌ {A = Result Emission HostRefusal} (Err refusal) (Ok w) = is ∙ wants in absurd cc)

-- the model's answer is wanted where what is answered by what is kept is
pub wanted_answers :
    (agent : AgentRecord) (cause : Cause) (w : Emission) (b : Bool) → (IsTrue b ↔ (answered_by agent cause ≡ Ok w))
    → WhereStands agent (λ setup h mine. IsTrue b ↔ (host_answer setup h cause mine ≡ Answer.Emits w))
wanted_answers agent cause w b is setup h mine s =
    let same = would_answers agent cause setup h mine s in
    (λ so. emits_by (host_answer setup h cause mine) w (sym same ∙ is.0 so), λ emits. is.1 (same ∙ ap as_result emits))

-- and the agent stands for the wanted event too
pub wanted_stands :
    (old new : AgentRecord) (cause : Cause) (w : Emission) (b : Bool) → (IsTrue b ↔ (answered_by old cause ≡ Ok w)) → (IsTrue b → new ≡ agent_after cause w old)
    → WhereStands old (λ setup h mine. IsTrue b → StandsFor new setup h (event_of h cause w ∷ mine))
wanted_stands old new cause w b is changed setup h mine s so = event_stands old new cause w setup h mine s (is.0 so) (changed so)

-- ---- what stays

-- where an agent changes by a cause, or doesn't, its setup and its host stay
pub wanted_stays :
    (old new : AgentRecord) (cause : Cause) (w : Emission) (b : Bool) → (IsTrue b → new ≡ agent_after cause w old) → (b ≡ false → new ≡ old)
    → (new.setup ≡ old.setup) × (new.host ≡ old.host)
wanted_stays old new cause w true goes stays = (ap (λ (x : AgentRecord). x.setup) (goes refl), ap (λ (x : AgentRecord). x.host) (goes refl))
wanted_stays old new cause w false goes stays = (ap (λ (x : AgentRecord). x.setup) (stays refl), ap (λ (x : AgentRecord). x.host) (stays refl))

pub setup_stays :
    (old new : AgentRecord) (cause : Cause) (w : Emission) (r : Result (Unit {0}) HostRefusal) → IfOk r (λ u. new ≡ agent_after cause w old) → OnErr r (new ≡ old)
    → new.setup ≡ old.setup
setup_stays old new cause w (Ok u) goes stays = ap (λ (x : AgentRecord). x.setup) goes
setup_stays old new cause w (Err refusal) goes stays = ap (λ (x : AgentRecord). x.setup) stays

pub host_stays :
    (old new : AgentRecord) (cause : Cause) (w : Emission) (r : Result (Unit {0}) HostRefusal) → IfOk r (λ u. new ≡ agent_after cause w old) → OnErr r (new ≡ old)
    → new.host ≡ old.host
host_stays old new cause w (Ok u) goes stays = ap (λ (x : AgentRecord). x.host) goes
host_stays old new cause w (Err refusal) goes stays = ap (λ (x : AgentRecord). x.host) stays

-- ---- acts

pub acts_are :
    (agent : AgentRecord) (setup : Configuration) (h : ℕ) (mine : List Event) → StandsFor agent setup h mine → acts_of_agent agent ≡ acts_after setup h mine
acts_are agent setup h mine s = ap acts_of_agent s.kept ∙ records_act setup [] s.within h s.host mine s.run

pub count_stands :
    (agent : AgentRecord) (setup : Configuration) (h : ℕ) (mine : List Event) → StandsFor agent setup h mine
    → length (acts_of_agent agent) ≡ length (acts_after setup h mine)
count_stands agent setup h mine s = ap (λ (xs : List Act). length xs) (acts_are agent setup h mine s)

pub pick_stands :
    (agent : AgentRecord) (k : ℕ) (setup : Configuration) (h : ℕ) (mine : List Event) → StandsFor agent setup h mine
    → slice_get (acts_of_agent agent) k ≡ slice_get (acts_after setup h mine) k
pick_stands agent k setup h mine s = ap (λ (xs : List Act). slice_get xs k) (acts_are agent setup h mine s)

-- ---- what is read

-- all that the rows read of the agent
view_read :
    (agent : AgentRecord) (setup : Configuration) (h : ℕ) (mine : List Event) → StandsFor agent setup h mine → view_in agent.kept ≡ view_of setup h mine
view_read agent setup h mine s = ap (λ (x : AgentRecord). view_in x.kept) s.kept ∙ records_view setup [] s.within h s.host mine s.run

pub copy_is :
    (agent : AgentRecord) (a : ℕ) (setup : Configuration) (h : ℕ) (mine : List Event) → StandsFor agent setup h mine
    → (copy_in agent.kept.ways a).state ≡ (copy setup a mine).state
copy_is agent a setup h mine s = ap (λ (v : View). (v.copy a).state) (view_read agent setup h mine s)

pub stream_is :
    (agent : AgentRecord) (t : ℕ) (setup : Configuration) (h : ℕ) (mine : List Event) → StandsFor agent setup h mine
    → (stream_in agent.kept.streams t).begun ≡ begun_count t mine
stream_is agent t setup h mine s = ap (λ (v : View). v.begun t) (view_read agent setup h mine s)

pub waits_is :
    (agent : AgentRecord) (t : ℕ) (setup : Configuration) (h : ℕ) (mine : List Event) → StandsFor agent setup h mine
    → (stream_in agent.kept.streams t).waits ≡ stream_waits t mine
waits_is agent t setup h mine s = ap (λ (v : View). v.waits t) (view_read agent setup h mine s)

pub open_is :
    (agent : AgentRecord) (a : ℕ) (setup : Configuration) (h : ℕ) (mine : List Event) → StandsFor agent setup h mine
    → is_some (lookup agent.kept.line_tags a) ≡ is_open a mine
open_is agent a setup h mine s =
    ap (λ (x : AgentRecord). is_some (lookup x.kept.line_tags a)) s.kept ∙ records_open setup [] s.within h s.host mine s.run a

pub snooped_is :
    (agent : AgentRecord) (a : ℕ) (setup : Configuration) (h : ℕ) (mine : List Event) → StandsFor agent setup h mine
    → is_some (snoop_of_line agent.kept.snoops a) ≡ is_snooped a mine
snooped_is agent a setup h mine s = ap (λ (v : View). is_some (snoop_of_line v.snoops a)) (view_read agent setup h mine s)

pub pending_is :
    (agent : AgentRecord) (setup : Configuration) (h : ℕ) (mine : List Event) → StandsFor agent setup h mine
    → list_any (λ b. b) agent.kept.busy ≡ host_pending setup mine
pending_is agent setup h mine s =
    ap (λ (x : AgentRecord). list_any (λ b. b) x.kept.busy) s.kept ∙ records_pend setup [] s.within h s.host mine s.run

pub weight_is :
    (agent : AgentRecord) (setup : Configuration) (h : ℕ) (mine : List Event) → StandsFor agent setup h mine → weight_in agent.kept ≡ host_weight setup h mine
weight_is agent setup h mine s = ap (λ (x : AgentRecord). weight_in x.kept) s.kept ∙ records_weigh setup [] s.within h s.host mine s.run
