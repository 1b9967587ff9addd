-- What a machine or a host's agent shows of an event, and what a seat has seen after a mark.
use Rattle.std.proofs.Common.{◌≡◌, ℕ, Err, IsTrue, List, None, Option, Some, [], ◌∷◌, ◌++◌, length, length-append, refl, sym, ◌∙◌, ap, subst, arith}
use Rattle.std.specs.Prelude.{nat_lt}
use Rattle.std.proofs.lemmas.Bool.{and_from, and_parts, cond_both, ltb-false}
use Rattle.cxl_message.specs.declared.events.Cause.{Cause}
use Rattle.cxl_message.specs.declared.events.Event.{Event}
use Rattle.cxl_message.specs.declared.identifiers.Bytes64.{Bytes64}
use Rattle.cxl_message.specs.declared.identifiers.Line.{Line}
use Rattle.cxl_message.specs.declared.states.RuleNo.{RuleNo}
use Rattle.cxl_message.specs.Setup.{Configuration}
use Rattle.coherence_model.specs.Emission.{Emission}
use Rattle.coherence_model.specs.Rules.{k0_takeable}
use Rattle.coherence_model.specs.Runs.{first_broken, is_allowed, is_run, own_half}
use Rattle.coherence_model.specs.Traces.{events_of}
use Rattle.coherence_model.proofs.OwnRuns.{own_event}
use Rattle.coherence_lemmas.proofs.OwnEvents.{events_of-foreign_all, events_of-own}
use Rattle.run_laws.proofs.Runs.{allowed_in_halves}
use Rattle.fabric_rule.specs.Fronts.{EndsWith, GoesOnFrom, longer}
use Rattle.fabric_rule.specs.Values.{BoardValue, SeatValue}
use Rattle.host_home.specs.Contract.{StandsFor as HostStandsFor}
use Rattle.host_laws.proofs.Laws.{own_runs_of_any_opening}
use Rattle.host_rows.specs.Answers.{emission_in}
use Rattle.host_tables.specs.Agent.{AgentRecord, event_of}
use Rattle.machine.specs.Stands.{MachineRecord, StandsFor, verdict}
use Rattle.board_trial.specs.declared.marks.Refused.{Refused}
use Rattle.board_trial.specs.Trial.{IsBroken, ShowsOwn, is_operation}

-- where the machine goes on by an event, the event is allowed
pub shown_allowed : (setup : Configuration) (opening : List (Line × Bytes64)) (t : List Event) (e : Event) (m : MachineRecord) → StandsFor m setup opening (e ∷ t) → IsTrue (is_allowed setup opening t e)
shown_allowed setup opening t e m stands = (and_parts (is_run setup opening t) (is_allowed setup opening t e) stands.run).1

-- where the machine refuses an event, this rule is the first that it breaks
refused_by : (broken : Option RuleNo) (rule : RuleNo) → Err rule ≡ verdict broken → broken ≡ Some rule
refused_by None rule is = cc
refused_by (Some first) rule is = cc

pub is_broken : (b : BoardValue) (t : List Event) (e : Event) (rule : RuleNo) → Err rule ≡ verdict (first_broken b.setup b.opening t e) → IsBroken b t e (Refused.Broken rule)
is_broken b t e rule is = record { rule = rule; is = refl; first = refused_by (first_broken b.setup b.opening t e) rule is }

-- an operation takes no message
operation_takes_nothing : (cause : Cause) (t : List Event) → IsTrue (is_operation cause) → IsTrue (k0_takeable cause t)
operation_takes_nothing (Cause.Op _ _ _) t is = refl
operation_takes_nothing (Cause.Take _ _) t is = cc
operation_takes_nothing (Cause.Act _) t is = cc

-- an event of this agent and cause is the one that a step has made
pub event_is_made :
    (e : Event) (h : ℕ) (cause : Cause) (w : Emission) → e.agent ≡ h → e.cause ≡ cause → emission_in e ≡ w → e ≡ event_of h cause w
event_is_made e h cause w agent same emits =
    λ j. record { agent = agent j; cause = same j; sends = (emits j).sends; commit = (emits j).commit }

-- what an event sends and commits, by its parts
pub emission_is : (e : Event) (w : Emission) → e.sends ≡ w.sends → e.commit ≡ w.commit → emission_in e ≡ w
emission_is e w sends commit = λ j. record { sends = sends j; commit = commit j }

-- so an agent that stands for what its step has made stands for the event
pub event_stands :
    (a : AgentRecord) (setup : Configuration) (h : ℕ) (mine : List Event) (e : Event) (cause : Cause) (w : Emission) → e.agent ≡ h → e.cause ≡ cause → emission_in e ≡ w
    → HostStandsFor a setup h (event_of h cause w ∷ mine) → HostStandsFor a setup h (e ∷ mine)
event_stands a setup h mine e cause w agent same emits =
    subst (λ x. HostStandsFor a setup h (x ∷ mine)) (sym (event_is_made e h cause w agent same emits))

-- where the host's agent stands for the operation too, the operation is allowed: a host's own half looks neither at the opening nor
-- at other agents' events
pub own_shown_allowed :
    (b : BoardValue) (s : SeatValue) (a : AgentRecord) (e : Event) → e.agent ≡ s.agent → IsTrue (is_operation e.cause)
    → HostStandsFor a b.setup s.agent (e ∷ events_of s.agent s.seen) → IsTrue (is_allowed b.setup b.opening s.seen e)
own_shown_allowed b s a e agent operation stands =
    let mine = events_of s.agent s.seen in
    let run = own_runs_of_any_opening b.setup [] stands.within s.agent stands.host (e ∷ mine) stands.run b.opening in
    let half = (own_event b.setup b.opening s.agent e mine run).half in
    allowed_in_halves b.setup b.opening s.seen e
    ∙ and_from (own_half b.setup b.opening e (events_of e.agent s.seen)) (k0_takeable e.cause s.seen)
    (subst (λ g. IsTrue (own_half b.setup b.opening e (events_of g s.seen))) (sym agent) half)
    (operation_takes_nothing e.cause s.seen operation)

-- the longer of a trace and of one that goes on from it is the later one
longer_by : (later s t : List Event) → t ≡ later ++ s → longer s t ≡ t
longer_by [] s t is = cond_both (nat_lt (length s) (length t)) t s (λ x. x ≡ t) (λ _. refl) (λ _. sym is)
longer_by (f ∷ later) s t is =
    let more : length t ≡ length ((f ∷ later) ++ s) = ap length is in
    cond_both (nat_lt (length s) (length t)) t s (λ x. x ≡ t) (λ _. refl)
    (λ not_less. let few = ltb-false (length s) (length t) not_less in absurd (omega (arith, few, more, length-append later s)))

pub longer_is_later : (s t : List Event) → GoesOnFrom s t → longer s t ≡ t
longer_is_later s t from = longer_by from.0 s t from.1

-- the host's agent stands for the seat's own events after the mark too
pub shows_on :
    (b : BoardValue) (a : AgentRecord) (old new : SeatValue) (e : Event) → e.agent ≡ old.agent → new.agent ≡ old.agent
    → EndsWith old.agent old.seen e new.seen → HostStandsFor a b.setup old.agent (e ∷ events_of old.agent old.seen) → ShowsOwn b a new
shows_on b a old new e agent same ends stands =
    let own : events_of old.agent new.seen ≡ e ∷ events_of old.agent old.seen =
    ap (events_of old.agent) ends.seen
    ∙ events_of-own old.agent e (ends.between ++ old.seen) agent
    ∙ ap (λ es. e ∷ es) (events_of-foreign_all old.agent ends.between old.seen ends.foreign) in
    subst (λ g. HostStandsFor a b.setup g (events_of g new.seen)) (sym same) (subst (HostStandsFor a b.setup old.agent) (sym own) stands)
