-- The machine after an event that is allowed stands for the run with it.
use Rattle.std.proofs.Common.{◌≡◌, ℕ, zero, suc, ◌<◌, Bool, true, false, IsTrue, List, [], ◌∷◌, length, Some, None, refl, ap, sym, ◌∙◌, subst, arith}
use Rattle.std.specs.Prelude.{Err, Ok, is_none, slice_get, ◌==◌}
use Rattle.std.proofs.lemmas.Bool.{and_from, cond-false, cond-true, eq-eqb, eqb-true, false≢true, ne_eqb, not_from_false}
use Rattle.std.proofs.lemmas.Option.{slice_get_within}
use Rattle.cxl_message.specs.declared.events.Event.{Event}
use Rattle.cxl_message.specs.declared.identifiers.Bytes64.{Bytes64}
use Rattle.cxl_message.specs.declared.identifiers.Line.{Line}
use Rattle.cxl_message.specs.declared.states.RuleNo.{RuleNo}
use Rattle.cxl_message.specs.Setup.{Configuration}
use Rattle.coherence_model.specs.Fitting.{is_device}
use Rattle.coherence_model.specs.Refusals.{Answer, device_answer, host_answer}
use Rattle.coherence_model.specs.Rules.{p0_profile}
use Rattle.coherence_model.specs.Runs.{IsRun, first_broken, is_allowed, is_run}
use Rattle.coherence_model.specs.Traces.{device, events_of}
use Rattle.coherence_model.proofs.Allowed.{allowed_breaks_no_rule, allowed_own, own_half_parts}
use Rattle.coherence_lemmas.proofs.OwnEvents.{events_of-foreign, events_of-own}
use Rattle.answer_laws.specs.Answered.{emission_of, is_answered}
use Rattle.answer_laws.proofs.Events.{allowed_is_emitted}
use Rattle.device_engine.specs.Contract.{StandsFor as DeviceStandsFor}
use Rattle.device_state.specs.Agent.{AgentRecord as DeviceRecord}
use Rattle.host_home.specs.Contract.{StandsFor as HostStandsFor}
use Rattle.host_tables.specs.Agent.{AgentRecord as HostRecord}
use Rattle.link_queues.specs.Links.{HasRoomFor, LinkRecord, TakesFromHost, after_cause, after_sends}
use Rattle.link_queues.proofs.Going.{flight_goes_on, sends_have_room as room_is_there, takes_are_there as hosts_are_there}
use Rattle.machine.specs.Going.{KeepsFirstRules}
use Rattle.machine.specs.Stands.{MachineRecord, StandsFor, StandsForSome, WhereStands, verdict}
use Rattle.machine_agents.specs.Going.{DeviceFollows, HostFollows}
use Rattle.machine.proofs.Answered.{DeviceGoesOn, HostGoesOn, device_goes_on, device_tells, host_goes_on, host_tells}
use Rattle.machine.proofs.Judged.{agent_is_host, breaks_nothing}

-- what is refused
pub some_is_refused : (m : MachineRecord) (e : Event) (rule : RuleNo) → WhereStands m (λ setup opening t. Some rule ≡ first_broken setup opening t e)
    → WhereStands m (λ setup opening t. Err rule ≡ verdict (first_broken setup opening t e))
some_is_refused m e rule is setup opening t stands = ap verdict (is setup opening t stands)

-- and what isn't
pub none_is_taken : (m : MachineRecord) (e : Event) → WhereStands m (λ setup opening t. None ≡ first_broken setup opening t e)
    → WhereStands m (λ setup opening t. Ok tt ≡ verdict (first_broken setup opening t e))
none_is_taken m e is setup opening t stands = ap verdict (is setup opening t stands)

-- is allowed
none_is_allowed : (m : MachineRecord) (e : Event) → WhereStands m (λ setup opening t. None ≡ first_broken setup opening t e)
    → WhereStands m (λ setup opening t. IsTrue (is_allowed setup opening t e))
none_is_allowed m e is setup opening t stands = allowed_breaks_no_rule setup opening t e ∙ ap is_none (sym (is setup opening t stands))

-- an event that keeps the first rules and that its agent answers with is allowed
pub answered_is_next : (m : MachineRecord) (e : Event) → KeepsFirstRules m e → WhereStands m (λ setup opening t. true ≡ is_answered setup opening e (events_of e.agent t))
    → WhereStands m (λ setup opening t. IsTrue (is_allowed setup opening t e))
answered_is_next m e keeps answered = none_is_allowed m e (breaks_nothing m e keeps.profile keeps.takeable keeps.order answered)

-- it is an event after which the machine may go on
abbrev pub IsNext : MachineRecord → Event → Type 0
IsNext m e = WhereStands m (λ setup opening t. IsTrue (is_allowed setup opening t e))

some_run : (m : MachineRecord) (e : Event) → (some : StandsForSome m) → IsNext m e → IsRun m.setup some.opening (e ∷ some.t)
some_run m e some next = and_from (is_run m.setup some.opening some.t) _ some.stands.run (next m.setup some.opening some.t some.stands)

profile_of : (m : MachineRecord) (e : Event) → StandsForSome m → IsNext m e → IsTrue (p0_profile m.setup e)
profile_of m e some next = (own_half_parts m.setup some.opening e (events_of e.agent some.t) (allowed_own m.setup some.opening some.t e (next m.setup some.opening some.t some.stands))).0

-- the agent of an event that isn't the device is one of the hosts
pub agent_is_there : (m : MachineRecord) (e : Event) → StandsForSome m → IsNext m e → is_device e.agent ≡ false → e.agent < length m.hosts
agent_is_there m e some next other = subst (λ (n : ℕ). e.agent < n) (sym some.stands.host_count) (agent_is_host m e (profile_of m e some next) other)

-- what it takes is taken from a host that is there
pub takes_are_there : (m : MachineRecord) (e : Event) → StandsForSome m → IsNext m e → TakesFromHost m.links e.cause
takes_are_there m e some next = hosts_are_there m.links m.setup some.opening some.t e some.stands.links (some_run m e some next)

-- and there is room for what it sends
pub sends_have_room : (m : MachineRecord) (e : Event) → StandsForSome m → IsNext m e → HasRoomFor (after_cause e.cause m.links) e.sends
sends_have_room m e some next = room_is_there m.links m.setup some.opening some.t e some.stands.links (some_run m e some next)

-- the hosts after an event of another agent
stay : (setup : Configuration) (t : List Event) (e : Event) (h : ℕ) (a : HostRecord) → (e.agent ≡ h → ⊥) → HostStandsFor a setup h (events_of h t) → HostStandsFor a setup h (events_of h (e ∷ t))
stay setup t e h a other stands = subst (HostStandsFor a setup h) (sym (events_of-foreign h e t (not_from_false (e.agent == h) (ne_eqb e.agent h other)))) stands

-- the machine with one step more
abbrev pub moved : MachineRecord → List HostRecord → DeviceRecord → LinkRecord → MachineRecord
moved m hosts device links = record { setup = m.setup; hosts = hosts; device = device; links = links }

-- the device's answer to the cause of an allowed event of its own
device_says : (setup : Configuration) (opening : List (Line × Bytes64)) (t : List Event) (e : Event) → IsTrue (is_allowed setup opening t e) → is_device e.agent ≡ true
    → device_answer setup opening e.cause (events_of device t) ≡ Answer.Emits (emission_of e)
device_says setup opening t e allowed at =
    let mine = events_of e.agent t in
    ap (λ g. device_answer setup opening e.cause (events_of g t)) (sym (eqb-true e.agent device at))
    ∙ sym (cond-true (is_device e.agent) (device_answer setup opening e.cause mine) (host_answer setup e.agent e.cause mine) at)
    ∙ allowed_is_emitted setup opening t e allowed

-- and a host's
host_says : (setup : Configuration) (opening : List (Line × Bytes64)) (t : List Event) (e : Event) → IsTrue (is_allowed setup opening t e) → is_device e.agent ≡ false
    → host_answer setup e.agent e.cause (events_of e.agent t) ≡ Answer.Emits (emission_of e)
host_says setup opening t e allowed other =
    let mine = events_of e.agent t in
    sym (cond-false (is_device e.agent) (device_answer setup opening e.cause mine) (host_answer setup e.agent e.cause mine) other)
    ∙ allowed_is_emitted setup opening t e allowed

device_follows : (m : MachineRecord) (e : Event) (new : DeviceRecord) (setup : Configuration) (opening : List (Line × Bytes64)) (t : List Event) → StandsFor m setup opening t
    → IsTrue (is_allowed setup opening t e) → is_device e.agent ≡ true → DeviceGoesOn m.device new e → DeviceStandsFor new setup opening (events_of device (e ∷ t))
device_follows m e new setup opening t stands allowed at goes =
    let agent = eqb-true e.agent device at in
    subst (DeviceStandsFor new setup opening) (sym (events_of-own device e t agent))
    (goes setup opening (events_of device t) stands.device agent (device_says setup opening t e allowed at))

-- the device made the event
pub goes_on_at_device : (m : MachineRecord) (e : Event) (device' : DeviceRecord) (links : LinkRecord) → IsNext m e → is_device e.agent ≡ true → DeviceGoesOn m.device device' e
    → links ≡ after_sends e.sends (after_cause e.cause m.links) → WhereStands m (λ setup opening t. StandsFor (moved m m.hosts device' links) setup opening (e ∷ t))
goes_on_at_device m e device' links next at goes links_are setup opening t stands =
    let allowed = next setup opening t stands in
    let run : IsRun setup opening (e ∷ t) = and_from (is_run setup opening t) _ stands.run allowed in
    let agent = eqb-true e.agent device at in
    record {
      within = stands.within;
      run = run;
      setup_is = stands.setup_is;
      host_count = stands.host_count;
      hosts = λ h a there. stay setup t e h a
          (λ same. let low = slice_get_within m.hosts h a there in let few = stands.within.hosts.1 in let count = stands.host_count in omega arith)
          (stands.hosts h a there);
      device = device_follows m e device' setup opening t stands allowed at goes;
      links = links_are ∙ flight_goes_on m.links setup opening t e stands.links run;
    }

host_follows : (m : MachineRecord) (e : Event) (a b : HostRecord) (setup : Configuration) (opening : List (Line × Bytes64)) (t : List Event) → StandsFor m setup opening t
    → IsTrue (is_allowed setup opening t e) → is_device e.agent ≡ false → HostStandsFor a setup e.agent (events_of e.agent t) → HostGoesOn a b e
    → HostStandsFor b setup e.agent (events_of e.agent (e ∷ t))
host_follows m e a b setup opening t stands allowed other here goes =
    subst (HostStandsFor b setup e.agent) (sym (events_of-own e.agent e t refl)) (goes setup e.agent (events_of e.agent t) here refl (host_says setup opening t e allowed other))

pub some_there : (xs : List HostRecord) (k : ℕ) → k < length xs → (x : HostRecord) × (slice_get xs k ≡ Some x)
some_there [] k low = absurd (omega arith)
some_there (x ∷ xs) zero low = (x, refl)
some_there (x ∷ xs) (suc k) low = some_there xs k (omega arith)

-- each host after a host's event
host_after : (m : MachineRecord) (e : Event) (hosts : List HostRecord) → is_device e.agent ≡ false → length hosts ≡ length m.hosts
    → ((k : ℕ) → (k ≡ e.agent → ⊥) → slice_get hosts k ≡ slice_get m.hosts k)
    → ((a b : HostRecord) → slice_get m.hosts e.agent ≡ Some a → slice_get hosts e.agent ≡ Some b → HostGoesOn a b e)
    → (setup : Configuration) (opening : List (Line × Bytes64)) (t : List Event) → StandsFor m setup opening t → IsTrue (is_allowed setup opening t e)
    → (h : ℕ) (b : HostRecord) → slice_get hosts h ≡ Some b → (same : Bool) → (e.agent == h) ≡ same → HostStandsFor b setup h (events_of h (e ∷ t))
host_after m e hosts other count others goes setup opening t stands allowed h b there true is =
    let at = eqb-true e.agent h is in
    let here : slice_get hosts e.agent ≡ Some b = ap (slice_get hosts) at ∙ there in
    let within = slice_get_within hosts e.agent b here in
    let low : e.agent < length m.hosts = omega arith in
    let old = some_there m.hosts e.agent low in
    subst (λ g. HostStandsFor b setup g (events_of g (e ∷ t))) at
    (host_follows m e old.0 b setup opening t stands allowed other (stands.hosts e.agent old.0 old.1) (goes old.0 b old.1 here))
host_after m e hosts other count others goes setup opening t stands allowed h b there false is =
    let differ : e.agent ≡ h → ⊥ = λ same. false≢true (sym is ∙ eq-eqb e.agent h same) in
    stay setup t e h b differ (stands.hosts h b (sym (others h (λ same. differ (sym same))) ∙ there))

-- a host made the event
pub goes_on_at_host : (m : MachineRecord) (e : Event) (hosts : List HostRecord) (links : LinkRecord) → IsNext m e → is_device e.agent ≡ false → length hosts ≡ length m.hosts
    → ((k : ℕ) → (k ≡ e.agent → ⊥) → slice_get hosts k ≡ slice_get m.hosts k)
    → ((a b : HostRecord) → slice_get m.hosts e.agent ≡ Some a → slice_get hosts e.agent ≡ Some b → HostGoesOn a b e)
    → links ≡ after_sends e.sends (after_cause e.cause m.links) → WhereStands m (λ setup opening t. StandsFor (moved m hosts m.device links) setup opening (e ∷ t))
goes_on_at_host m e hosts links next other count others goes links_are setup opening t stands =
    let allowed = next setup opening t stands in
    let run : IsRun setup opening (e ∷ t) = and_from (is_run setup opening t) _ stands.run allowed in
    record {
      within = stands.within;
      run = run;
      setup_is = stands.setup_is;
      host_count = count ∙ stands.host_count;
      hosts = λ h b there. host_after m e hosts other count others goes setup opening t stands allowed h b there (e.agent == h) refl;
      device = subst (DeviceStandsFor m.device setup opening) (sym (events_of-foreign device e t (not_from_false (e.agent == device) other))) stands.device;
      links = links_are ∙ flight_goes_on m.links setup opening t e stands.links run;
    }

-- so the machine stands for some run again
pub some_at_device : (m : MachineRecord) (e : Event) (device' : DeviceRecord) (links : LinkRecord) → StandsForSome m → IsNext m e → is_device e.agent ≡ true → DeviceGoesOn m.device device' e
    → links ≡ after_sends e.sends (after_cause e.cause m.links) → StandsForSome (moved m m.hosts device' links)
some_at_device m e device' links some next at goes links_are =
    record { opening = some.opening; t = e ∷ some.t; stands = goes_on_at_device m e device' links next at goes links_are m.setup some.opening some.t some.stands }

pub some_at_host : (m : MachineRecord) (e : Event) (hosts : List HostRecord) (links : LinkRecord) → StandsForSome m → IsNext m e → is_device e.agent ≡ false → length hosts ≡ length m.hosts
    → ((k : ℕ) → (k ≡ e.agent → ⊥) → slice_get hosts k ≡ slice_get m.hosts k)
    → ((a b : HostRecord) → slice_get m.hosts e.agent ≡ Some a → slice_get hosts e.agent ≡ Some b → HostGoesOn a b e)
    → links ≡ after_sends e.sends (after_cause e.cause m.links) → StandsForSome (moved m hosts m.device links)
some_at_host m e hosts links some next other count others goes links_are =
    record { opening = some.opening; t = e ∷ some.t; stands = goes_on_at_host m e hosts links next other count others goes links_are m.setup some.opening some.t some.stands }

-- ---- an event that keeps the first rules and is followed

-- what is known of an event of the device that is followed
pub record FollowedAtDevice (m : MachineRecord) (e : Event) (new : DeviceRecord) : Type 0 where
  pub next : IsNext m e
  pub goes : DeviceGoesOn m.device new e

pub followed_at_device : (m : MachineRecord) (e : Event) (new : DeviceRecord) (b : Bool) → KeepsFirstRules m e → is_device e.agent ≡ true → b ≡ true → DeviceFollows m.device new e.cause e b → FollowedAtDevice m e new
followed_at_device m e new b keeps at so follows =
    let same = subst (DeviceFollows m.device new e.cause e) so follows in
    record { next = answered_is_next m e keeps (device_tells m new e true at same); goes = device_goes_on m.device new e same }

-- the hosts follow an event at one of them
pub record HostsFollow (old new : List HostRecord) (e : Event) (follows : Bool) : Type 0 where
  pub count : length new ≡ length old
  pub others : (k : ℕ) → (k ≡ e.agent → ⊥) → slice_get new k ≡ slice_get old k
  pub followed : (a b : HostRecord) → slice_get old e.agent ≡ Some a → slice_get new e.agent ≡ Some b → HostFollows a b e.cause e follows

-- they do where the event stands in a room
pub hosts_follow : (old new : List HostRecord) (e x : Event) (follows : Bool) → x ≡ e → length new ≡ length old → ((k : ℕ) → (k ≡ e.agent → ⊥) → slice_get new k ≡ slice_get old k)
    → ((a b : HostRecord) → slice_get old e.agent ≡ Some a → slice_get new e.agent ≡ Some b → HostFollows a b e.cause x follows) → HostsFollow old new e follows
hosts_follow old new e x follows same count others followed = record {
  count = count;
  others = others;
  followed = λ a b before after. subst (λ (y : Event). HostFollows a b e.cause y follows) same (followed a b before after);
}

-- and so does the device
pub device_follows_room : (old new : DeviceRecord) (e x : Event) (follows : Bool) → x ≡ e → DeviceFollows old new e.cause x follows → DeviceFollows old new e.cause e follows
device_follows_room old new e x follows same followed = subst (λ (y : Event). DeviceFollows old new e.cause y follows) same followed

-- where no event is followed the machine is as it was
pub stays_at_device : (m : MachineRecord) (new : DeviceRecord) (follows : Bool) → StandsForSome m → follows ≡ false → (follows ≡ false → new ≡ m.device) → StandsForSome (moved m m.hosts new m.links)
stays_at_device m new follows some none stays = subst (λ (d : DeviceRecord). StandsForSome (moved m m.hosts d m.links)) (sym (stays none)) some

pub stays_at_host : (m : MachineRecord) (new : List HostRecord) (follows : Bool) → StandsForSome m → follows ≡ false → (follows ≡ false → new ≡ m.hosts) → StandsForSome (moved m new m.device m.links)
stays_at_host m new follows some none stays = subst (λ (hosts : List HostRecord). StandsForSome (moved m hosts m.device m.links)) (sym (stays none)) some

-- the agent of an event that keeps P0 and isn't of the device is there
pub host_is_there : (m : MachineRecord) (e : Event) → StandsForSome m → KeepsFirstRules m e → is_device e.agent ≡ false → e.agent < length m.hosts
host_is_there m e some keeps other = subst (λ (n : ℕ). e.agent < n) (sym some.stands.host_count) (agent_is_host m e keeps.profile other)

-- whether the hosts follow it is whether it is answered
pub hosts_tell : (m : MachineRecord) (e : Event) (new : List HostRecord) (c : Bool) → StandsForSome m → KeepsFirstRules m e → is_device e.agent ≡ false → HostsFollow m.hosts new e c
    → WhereStands m (λ setup opening t. c ≡ is_answered setup opening e (events_of e.agent t))
hosts_tell m e new c some keeps other follow =
    let low = host_is_there m e some keeps other in
    let same = follow.count in
    let a = some_there m.hosts e.agent low in
    let b = some_there new e.agent (omega arith) in
    host_tells m a.0 b.0 e c other a.1 (follow.followed a.0 b.0 a.1 b.1)

-- what is known of an event of a host that is followed
pub record FollowedAtHost (m : MachineRecord) (e : Event) (new : List HostRecord) : Type 0 where
  pub next : IsNext m e
  pub goes : (a b : HostRecord) → slice_get m.hosts e.agent ≡ Some a → slice_get new e.agent ≡ Some b → HostGoesOn a b e

pub followed_at_host : (m : MachineRecord) (e : Event) (new : List HostRecord) (c : Bool) → StandsForSome m → KeepsFirstRules m e → is_device e.agent ≡ false → c ≡ true → HostsFollow m.hosts new e c → FollowedAtHost m e new
followed_at_host m e new c some keeps other so follow =
    let same = subst (HostsFollow m.hosts new e) so follow in
    record {
      next = answered_is_next m e keeps (hosts_tell m e new true some keeps other same);
      goes = λ a b old there. host_goes_on a b e (same.followed a b old there);
    }
