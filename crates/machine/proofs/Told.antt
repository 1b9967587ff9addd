-- What the machine tells, where it stands for a run.
use Rattle.std.proofs.Common.{◌≡◌, ℕ, zero, suc, ◌+◌, ◌-◌, ◌<◌, Bool, true, false, IsTrue, List, [], ◌∷◌, Some, refl, ap, sym, ◌∙◌, subst, arith}
use Rattle.std.specs.Prelude.{Result, nat_lt, slice_get, ◌||◌}
use Rattle.std.specs.List.{list_all, list_any}
use Rattle.std.proofs.lemmas.Bool.{and_parts, ltb-true}
use Rattle.std.proofs.lemmas.Option.{same_Some}
use Rattle.cxl_message.specs.declared.events.Event.{Event}
use Rattle.cxl_message.specs.declared.events.Op.{Op}
use Rattle.cxl_message.specs.Lists.{below}
use Rattle.cxl_message.specs.Setup.{Configuration, stream_host}
use Rattle.coherence_model.specs.Pending.{device_pending, host_pending, is_pending}
use Rattle.coherence_model.specs.Traces.{device, events_of}
use Rattle.device_engine.specs.Contract.{StandsFor as DeviceStandsFor, WhereStands as WhereDeviceStands}
use Rattle.device_state.specs.Agent.{AgentRecord as DeviceRecord}
use Rattle.host_rows.specs.declared.answers.HostRefusal.{HostRefusal}
use Rattle.link_queues.proofs.Tables.{below_one_more}
use Rattle.machine.specs.Offers.{offered, offered_at, offered_by}
use Rattle.machine.specs.Stands.{MachineRecord, StandsForSome, WhereStands, hosts_pending}
use Rattle.std.proofs.lemmas.List.Folds.{list_any-append}

-- ---- pending

or_neither : (b c : Bool) → false ≡ b → false ≡ c → false ≡ (b || (c || false))
or_neither true c x y = x
or_neither false true x y = y
or_neither false false x y = refl

or_last : (b c : Bool) → true ≡ c → true ≡ (b || (c || false))
or_last true c y = refl
or_last false true y = refl
or_last false false y = y

more_hosts : (p : ℕ → Bool) (n : ℕ) → list_any p (below (n + 1)) ≡ (list_any p (below n) || (p n || false))
more_hosts p n = ap (list_any p) (below_one_more n) ∙ list_any-append p (below n) (n ∷ [])

-- nor at one more
pub one_more_rests : (m : MachineRecord) (n : ℕ) → WhereStands m (λ setup opening t. false ≡ hosts_pending setup t n)
    → WhereStands m (λ setup opening t. false ≡ host_pending setup (events_of n t)) → WhereStands m (λ setup opening t. false ≡ hosts_pending setup t (n + 1))
one_more_rests m n before here setup opening t stands =
    or_neither _ _ (before setup opening t stands) (here setup opening t stands) ∙ sym (more_hosts (λ h. host_pending setup (events_of h t)) n)

or_first : (b c : Bool) → true ≡ b → true ≡ (b || (c || false))
or_first true c x = refl
or_first false c x = absurd cc

still_any : (p : ℕ → Bool) (n k : ℕ) → true ≡ list_any p (below n) → true ≡ list_any p (below (n + k))
still_any p n zero any = let e : n + 0 ≡ n = omega arith in any ∙ ap (λ j. list_any p (below j)) (sym e)
still_any p n (suc k) any =
    let e : n + suc k ≡ (n + k) + 1 = omega arith in
    or_first _ _ (still_any p n k any) ∙ sym (more_hosts p (n + k)) ∙ ap (λ j. list_any p (below j)) (sym e)

any_of : (p : ℕ → Bool) (n h : ℕ) → h < n → true ≡ p h → true ≡ list_any p (below n)
any_of p n h low is =
    let e : (h + 1) + (n - (h + 1)) ≡ n = omega arith in
    still_any p (h + 1) (n - (h + 1)) (or_last (list_any p (below h)) (p h) is ∙ sym (more_hosts p h)) ∙ ap (λ j. list_any p (below j)) e

-- where one pends some do
pub one_pends : (m : MachineRecord) (h : ℕ) → h < m.setup.hosts → WhereStands m (λ setup opening t. true ≡ host_pending setup (events_of h t))
    → WhereStands m (λ setup opening t. true ≡ hosts_pending setup t setup.hosts)
one_pends m h low is setup opening t stands =
    let there : h < setup.hosts = subst (λ (s : Configuration). h < s.hosts) stands.setup_is low in
    any_of (λ g. host_pending setup (events_of g t)) setup.hosts h there (is setup opening t stands)

-- where all hosts were looked at
pub all_rest : (m : MachineRecord) (n : ℕ) → n ≡ m.setup.hosts → WhereStands m (λ setup opening t. false ≡ hosts_pending setup t n)
    → WhereStands m (λ setup opening t. false ≡ hosts_pending setup t setup.hosts)
all_rest m n all is setup opening t stands =
    is setup opening t stands ∙ ap (hosts_pending setup t) (all ∙ ap (λ (s : Configuration). s.hosts) stands.setup_is)

or_true : (b c : Bool) → true ≡ b → true ≡ (b || c)
or_true true c x = refl
or_true false c x = absurd cc

or_other : (b c d : Bool) → false ≡ b → d ≡ c → d ≡ (b || c)
or_other true c d x y = absurd cc
or_other false c d x y = y

-- something is pending by a host
pub pends_by_host : (m : MachineRecord) → WhereStands m (λ setup opening t. true ≡ hosts_pending setup t setup.hosts) → WhereStands m (λ setup opening t. true ≡ is_pending setup t)
pends_by_host m is setup opening t stands = or_true _ _ (is setup opening t stands)

-- or by the device
pub pends_by_device : (m : MachineRecord) (d : DeviceRecord) (b : Bool) → WhereStands m (λ setup opening t. false ≡ hosts_pending setup t setup.hosts)
    → WhereStands m (λ setup opening t. DeviceStandsFor d setup opening (events_of device t)) → WhereDeviceStands d (λ setup opening mine. b ≡ device_pending setup mine)
    → WhereStands m (λ setup opening t. b ≡ is_pending setup t)
pends_by_device m d b rest agent is setup opening t stands = or_other _ _ b (rest setup opening t stands) (is setup opening (events_of device t) (agent setup opening t stands))

-- ---- offers

at_host : (p : ℕ → Bool) (xs : List ℕ) (k x : ℕ) → IsTrue (list_all p xs) → slice_get xs k ≡ Some x → p x ≡ true
at_host p [] k x all there = absurd cc
at_host p (y ∷ xs) zero x all there = ap p (sym (same_Some y x there)) ∙ (and_parts (p y) (list_all p xs) all).0
at_host p (y ∷ xs) (suc k) x all there = at_host p xs k x (and_parts (p y) (list_all p xs) all).1 there

-- the host of a stream is one of the setup's
pub stream_host_is_there : (m : MachineRecord) (s h : ℕ) → StandsForSome m → Some h ≡ stream_host m.setup s → h < m.setup.hosts
stream_host_is_there m s h some is = ltb-true h m.setup.hosts (at_host (λ g. nat_lt g m.setup.hosts) m.setup.streams s h some.stands.within.stream_hosts (sym is))

-- so it is what is offered
pub offered_is : (m : MachineRecord) (s h : ℕ) (op : Op) (r : Result Event HostRefusal) → Some h ≡ stream_host m.setup s
    → WhereStands m (λ setup opening t. r ≡ offered_by setup h s op (events_of h t)) → WhereStands m (λ setup opening t. r ≡ offered setup t s op)
offered_is m s h op r of is setup opening t stands =
    is setup opening t stands ∙ ap (offered_at setup t s op) (of ∙ ap (λ (x : Configuration). stream_host x s) stands.setup_is)
