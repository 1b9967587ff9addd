-- The weight of a run, by its parts.
use Rattle.std.proofs.Common.{◌≡◌, ℕ, zero, suc, ◌+◌, ◌-◌, ◌^◌, ◌<◌, ◌≤◌, List, [], ◌∷◌, ap, ◌∙◌, subst, arith}
use Rattle.std.proofs.lemmas.List.Sums.{sum_by-append}
use Rattle.std.specs.List.{sum_by}
use Rattle.cxl_message.specs.declared.events.Event.{Event}
use Rattle.cxl_message.specs.Lists.{below}
use Rattle.cxl_message.specs.Setup.{Configuration}
use Rattle.coherence_model.specs.Traces.{device, events_of}
use Rattle.coherence_model.specs.Weight.{device_weight, flight_weight, host_weight, weight}
use Rattle.device_engine.specs.Contract.{WhereStands as WhereDeviceStands}
use Rattle.device_state.specs.Agent.{AgentRecord as DeviceRecord}
use Rattle.host_home.specs.Contract.{StandsFor as HostStandsFor, WhereStands as WhereHostStands}
use Rattle.host_tables.specs.Agent.{AgentRecord as HostRecord}
use Rattle.length_laws.proofs.Small.{weight_fits}
use Rattle.link_queues.proofs.Tables.{below_one_more}
use Rattle.machine.specs.Stands.{MachineRecord, StandsForSome, WhereStands}

-- what the first n hosts add
abbrev pub hosts_weight : Configuration → List Event → ℕ → ℕ
hosts_weight setup t n = sum_by (λ h. host_weight setup h (events_of h t)) (below n)

-- the weight so far: all in flight, and the first n hosts
abbrev pub WeighsSoFar : MachineRecord → ℕ → ℕ → Type 0
WeighsSoFar m n total = WhereStands m (λ setup opening t. total ≡ flight_weight setup t + hosts_weight setup t n)

-- a host, by its agent
pub host_weighs :
    (m : MachineRecord) (a : HostRecord) (h w : ℕ) → WhereStands m (λ setup opening t. HostStandsFor a setup h (events_of h t))
    → WhereHostStands a (λ setup g mine. w ≡ host_weight setup g mine) → WhereStands m (λ setup opening t. w ≡ host_weight setup h (events_of h t))
host_weighs m a h w stands is setup opening t standing = is setup h (events_of h t) (stands setup opening t standing)

-- all in flight, and no host
pub flight_first : (m : MachineRecord) (w : ℕ) → WhereStands m (λ setup opening t. w ≡ flight_weight setup t) → WeighsSoFar m 0 w
flight_first m w is setup opening t stands = let same = is setup opening t stands in omega arith

more_sum : (f : ℕ → ℕ) (n : ℕ) → sum_by f (below (n + 1)) ≡ sum_by f (below n) + f n
more_sum f n =
    let last : sum_by f (n ∷ []) ≡ f n = omega arith in
    ap (sum_by f) (below_one_more n) ∙ sum_by-append f (below n) (n ∷ []) ∙ ap (λ x. sum_by f (below n) + x) last

part_sum : (f : ℕ → ℕ) (n k : ℕ) → sum_by f (below n) ≤ sum_by f (below (n + k))
part_sum f n zero = let e : n ≡ n + 0 = omega arith in subst (λ j. sum_by f (below n) ≤ sum_by f (below j)) e (omega arith)
part_sum f n (suc k) =
    let e : (n + k) + 1 ≡ n + suc k = omega arith in
    let less = part_sum f n k in
    let more = more_sum f (n + k) in
    subst (λ j. sum_by f (below n) ≤ sum_by f (below j)) e (omega (arith, less, more))

front_sum : (f : ℕ → ℕ) (n m : ℕ) → n ≤ m → sum_by f (below n) ≤ sum_by f (below m)
front_sum f n m few = let e : n + (m - n) ≡ m = omega (arith, few) in subst (λ j. sum_by f (below n) ≤ sum_by f (below j)) e (part_sum f n (m - n))

-- one host more
pub one_host_more :
    (m : MachineRecord) (h total w : ℕ) → WeighsSoFar m h total → WhereStands m (λ setup opening t. w ≡ host_weight setup h (events_of h t)) → WeighsSoFar m (h + 1) (total + w)
one_host_more m h total w before here setup opening t stands =
    let a = before setup opening t stands in
    let b = here setup opening t stands in
    let more = more_sum (λ g. host_weight setup g (events_of g t)) h in
    omega (arith, a, b, more)

-- which fits
pub host_fits :
    (m : MachineRecord) (h total w : ℕ) → StandsForSome m → h < m.setup.hosts → WeighsSoFar m h total
    → WhereStands m (λ setup opening t. w ≡ host_weight setup h (events_of h t)) → total + w < 2 ^ 64
host_fits m h total w some low before here =
    let s = some.stands in
    let all = one_host_more m h total w before here m.setup some.opening some.t s in
    let fits = weight_fits m.setup some.opening s.within some.t s.run in
    let few : h + 1 ≤ m.setup.hosts = omega (arith, low) in
    let part = front_sum (λ g. host_weight m.setup g (events_of g some.t)) (h + 1) m.setup.hosts few in
    omega (arith, all, fits, part)

-- all hosts and the device
total_is :
    (m : MachineRecord) (n total w : ℕ) → n ≡ m.setup.hosts → WeighsSoFar m n total → WhereDeviceStands m.device (λ setup opening mine. w ≡ device_weight setup mine)
    → WhereStands m (λ setup opening t. total + w ≡ weight setup t)
total_is m n total w all before here setup opening t stands =
    let hosts : n ≡ setup.hosts = all ∙ ap (λ (s : Configuration). s.hosts) stands.setup_is in
    let a = before setup opening t stands ∙ ap (λ j. flight_weight setup t + hosts_weight setup t j) hosts in
    let b = here setup opening (events_of device t) stands.device in
    ap (λ x. x + w) a ∙ ap (λ x. (flight_weight setup t + hosts_weight setup t setup.hosts) + x) b

pub all_weighed :
    (m : MachineRecord) (d : DeviceRecord) (n total w : ℕ) → n ≡ m.setup.hosts → d ≡ m.device → WeighsSoFar m n total → WhereDeviceStands d (λ setup opening mine. w ≡ device_weight setup mine)
    → WhereStands m (λ setup opening t. total + w ≡ weight setup t)
all_weighed m d n total w all is before here =
    total_is m n total w all before (subst (λ x. WhereDeviceStands x (λ setup opening mine. w ≡ device_weight setup mine)) is here)

-- and they fit
pub device_fits :
    (m : MachineRecord) (d : DeviceRecord) (n total w : ℕ) → StandsForSome m → n ≡ m.setup.hosts → d ≡ m.device → WeighsSoFar m n total
    → WhereDeviceStands d (λ setup opening mine. w ≡ device_weight setup mine) → total + w < 2 ^ 64
device_fits m d n total w some all is before here =
    let s = some.stands in
    let same = all_weighed m d n total w all is before here m.setup some.opening some.t s in
    let fits = weight_fits m.setup some.opening s.within some.t s.run in
    omega (arith, same, fits)
