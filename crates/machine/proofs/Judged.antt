-- What the machine's tests say of an event, where it stands for a run.
use Rattle.std.proofs.Common.{◌≡◌, ℕ, ◌<◌, Bool, true, false, IsTrue, List, Some, None, refl, ap, sym, ◌∙◌, subst}
use Rattle.std.specs.Prelude.{not, ◌||◌}
use Rattle.std.proofs.lemmas.Bool.{and_parts, false≢true, ltb-true}
use Rattle.cxl_message.specs.declared.events.Cause.{Cause}
use Rattle.cxl_message.specs.declared.events.Event.{Event}
use Rattle.cxl_message.specs.declared.events.Op.{Op}
use Rattle.cxl_message.specs.declared.identifiers.Bytes64.{Bytes64}
use Rattle.cxl_message.specs.declared.identifiers.Line.{Line}
use Rattle.cxl_message.specs.declared.messages.Message.{Message}
use Rattle.cxl_message.specs.declared.states.RuleNo.{RuleNo}
use Rattle.cxl_message.specs.Setup.{Configuration}
use Rattle.coherence_model.specs.Fitting.{cause_fits, is_device}
use Rattle.coherence_model.specs.Rows.{rule_of}
use Rattle.coherence_model.specs.Rules.{k0_takeable, p0_profile, s0_stream_order}
use Rattle.coherence_model.specs.Runs.{first_broken, first_failure}
use Rattle.coherence_model.specs.Traces.{events_of}
use Rattle.coherence_lemmas.proofs.Allowed.{profiled}
use Rattle.coherence_lemmas.proofs.Directions.{take_parts}
use Rattle.answer_laws.specs.Answered.{is_answered}
use Rattle.answer_laws.proofs.Events.{first_broken_is_answered}
use Rattle.machine.specs.Stands.{MachineRecord, StandsFor, WhereStands}

-- the first rule that an event breaks, by its tests
failure_by :
    (setup : Configuration) (opening : List (Line × Bytes64)) (t : List Event) (e : Event) (p k s x : Bool) (rule : RuleNo) → p0_profile setup e ≡ p → k0_takeable e.cause t ≡ k
    → s0_stream_order e.cause (events_of e.agent t) ≡ s → is_answered setup opening e (events_of e.agent t) ≡ x → rule_of setup e.agent e.cause (events_of e.agent t) ≡ rule
    → first_failure p k s x rule ≡ first_broken setup opening t e
failure_by setup opening t e p k s x rule p0 k0 s0 answered is =
    sym (first_broken_is_answered setup opening t e ∙ (λ i. first_failure (p0 i) (k0 i) (s0 i) (answered i) (is i)))

-- P0 of the setup that the machine stands for
profile_of : (m : MachineRecord) (setup : Configuration) (opening : List (Line × Bytes64)) (t : List Event) (e : Event) (b : Bool) → StandsFor m setup opening t
    → p0_profile m.setup e ≡ b → p0_profile setup e ≡ b
profile_of m setup opening t e b stands is = ap (λ s. p0_profile s e) (sym stands.setup_is) ∙ is

-- P0 is broken
pub breaks_profile : (m : MachineRecord) (e : Event) → p0_profile m.setup e ≡ false → WhereStands m (λ setup opening t. Some RuleNo.P0 ≡ first_broken setup opening t e)
breaks_profile m e is setup opening t stands =
    failure_by setup opening t e false (k0_takeable e.cause t) (s0_stream_order e.cause (events_of e.agent t)) (is_answered setup opening e (events_of e.agent t))
    (rule_of setup e.agent e.cause (events_of e.agent t)) (profile_of m setup opening t e false stands is) refl refl refl refl

-- K0 is broken
pub breaks_take : (m : MachineRecord) (e : Event) → IsTrue (p0_profile m.setup e) → WhereStands m (λ setup opening t. false ≡ k0_takeable e.cause t)
    → WhereStands m (λ setup opening t. Some RuleNo.K0 ≡ first_broken setup opening t e)
breaks_take m e p0 k0 setup opening t stands =
    failure_by setup opening t e true false (s0_stream_order e.cause (events_of e.agent t)) (is_answered setup opening e (events_of e.agent t))
    (rule_of setup e.agent e.cause (events_of e.agent t)) (profile_of m setup opening t e true stands p0) (sym (k0 setup opening t stands)) refl refl refl

-- S0 is broken
pub breaks_order : (m : MachineRecord) (e : Event) → IsTrue (p0_profile m.setup e) → WhereStands m (λ setup opening t. true ≡ k0_takeable e.cause t)
    → WhereStands m (λ setup opening t. false ≡ s0_stream_order e.cause (events_of e.agent t)) → WhereStands m (λ setup opening t. Some RuleNo.S0 ≡ first_broken setup opening t e)
breaks_order m e p0 k0 s0 setup opening t stands =
    failure_by setup opening t e true true false (is_answered setup opening e (events_of e.agent t)) (rule_of setup e.agent e.cause (events_of e.agent t))
    (profile_of m setup opening t e true stands p0) (sym (k0 setup opening t stands)) (sym (s0 setup opening t stands)) refl refl

-- the row is broken
pub breaks_row : (m : MachineRecord) (e : Event) (rule : RuleNo) → IsTrue (p0_profile m.setup e) → WhereStands m (λ setup opening t. true ≡ k0_takeable e.cause t)
    → WhereStands m (λ setup opening t. true ≡ s0_stream_order e.cause (events_of e.agent t))
    → WhereStands m (λ setup opening t. false ≡ is_answered setup opening e (events_of e.agent t))
    → WhereStands m (λ setup opening t. rule ≡ rule_of setup e.agent e.cause (events_of e.agent t))
    → WhereStands m (λ setup opening t. Some rule ≡ first_broken setup opening t e)
breaks_row m e rule p0 k0 s0 answered is setup opening t stands =
    failure_by setup opening t e true true true false rule (profile_of m setup opening t e true stands p0) (sym (k0 setup opening t stands)) (sym (s0 setup opening t stands))
    (sym (answered setup opening t stands)) (sym (is setup opening t stands))

-- nothing is
pub breaks_nothing : (m : MachineRecord) (e : Event) → IsTrue (p0_profile m.setup e) → WhereStands m (λ setup opening t. true ≡ k0_takeable e.cause t)
    → WhereStands m (λ setup opening t. true ≡ s0_stream_order e.cause (events_of e.agent t))
    → WhereStands m (λ setup opening t. true ≡ is_answered setup opening e (events_of e.agent t))
    → WhereStands m (λ setup opening t. None ≡ first_broken setup opening t e)
breaks_nothing m e p0 k0 s0 answered setup opening t stands =
    failure_by setup opening t e true true true true (rule_of setup e.agent e.cause (events_of e.agent t)) (profile_of m setup opening t e true stands p0)
    (sym (k0 setup opening t stands)) (sym (s0 setup opening t stands)) (sym (answered setup opening t stands)) refl

-- ---- takes

pub take_there : (setup : Configuration) (e : Event) (h : ℕ) (n : Message) → IsTrue (p0_profile setup e) → e.cause ≡ Cause.Take h n → h < setup.hosts
take_there setup e h n p0 is =
    let fits = subst (λ c. IsTrue (cause_fits setup e.agent c)) is (profiled setup e p0).cause in
    ltb-true h setup.hosts (take_parts setup e.agent h n fits).host

-- ---- hosts

-- the agent of an operation is a host
pub operation_is_of_host : (m : MachineRecord) (e : Event) (s i : ℕ) (op : Op) → IsTrue (p0_profile m.setup e) → e.cause ≡ Cause.Op s i op → e.agent < m.setup.hosts
operation_is_of_host m e s i op p0 is =
    let fits = subst (λ c. IsTrue (cause_fits m.setup e.agent c)) is (profiled m.setup e p0).cause in
    let two = and_parts _ _ fits in
    let one = and_parts _ _ two.0 in
    ltb-true e.agent m.setup.hosts one.0

or_right : (b c : Bool) → (b || c) ≡ true → b ≡ false → c ≡ true
or_right true c either not = absurd (false≢true (sym not))
or_right false c either not = either

-- an agent that isn't the device is a host
pub agent_is_host : (m : MachineRecord) (e : Event) → IsTrue (p0_profile m.setup e) → is_device e.agent ≡ false → e.agent < m.setup.hosts
agent_is_host m e p0 other = ltb-true e.agent m.setup.hosts (or_right _ _ (profiled m.setup e p0).agent other)
