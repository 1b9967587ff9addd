-- How many next steps there are, where the machine stands for a run.
use Rattle.std.proofs.Common.{◌≡◌, ℕ, ◌+◌, ◌<◌, ◌≤◌, List, ◌++◌, length, ap, sym, ◌∙◌, arith}
use Rattle.std.proofs.lemmas.List.{length-append, length-map}
use Rattle.cxl_message.specs.declared.events.Event.{Event}
use Rattle.cxl_message.specs.declared.identifiers.Bytes64.{Bytes64}
use Rattle.cxl_message.specs.declared.identifiers.Line.{Line}
use Rattle.cxl_message.specs.Setup.{Configuration, IsWithinLimits}
use Rattle.coherence_model.specs.Next.{next_steps}
use Rattle.coherence_model.specs.Runs.{IsRun}
use Rattle.coherence_model.specs.Traces.{device, events_of}
use Rattle.bound_laws.proofs.Few.{next_steps_are_few}
use Rattle.next_laws.specs.Told.{act_told, device_acts_told, host_acts_told, steps_told, takes_told, told}
use Rattle.next_laws.proofs.Steps.{next_steps_are_told}
use Rattle.device_engine.specs.Contract.{StandsFor as DeviceStandsFor, acts_after as device_acts_after}
use Rattle.machine_agents.specs.Going.{HasDeviceActs}
use Rattle.device_state.specs.Agent.{AgentRecord as DeviceRecord}
use Rattle.machine.specs.Stands.{MachineRecord, StandsForSome, WhereStands}
use Rattle.machine.specs.Steps.{host_acts_below, takes_below}
use Rattle.machine.proofs.Numbered.{more_length, within_all}

-- the next steps are as many as are told
pub told_count : (setup : Configuration) (opening : List (Line × Bytes64)) → IsWithinLimits setup → (t : List Event) → IsRun setup opening t
    → length (next_steps setup opening t) ≡ length (steps_told setup opening t)
told_count setup opening limits t run = sym (length-map (next_steps setup opening t) told) ∙ ap length (next_steps_are_told setup opening limits t run)

pub device_acts_count : (setup : Configuration) (opening : List (Line × Bytes64)) (t : List Event) → length (device_acts_told setup opening t) ≡ length (device_acts_after setup opening (events_of device t))
device_acts_count setup opening t = length-map (device_acts_after setup opening (events_of device t)) (act_told device)

-- ---- takes

pub takes_more : (m : MachineRecord) (h n c : ℕ) → WhereStands m (λ setup opening t. n ≡ length (takes_below t h)) → WhereStands m (λ setup opening t. c ≡ length (takes_told t h))
    → WhereStands m (λ setup opening t. n + c ≡ length (takes_below t (h + 1)))
takes_more m h n c before here setup opening t stands =
    let a = before setup opening t stands in
    let b = here setup opening t stands in
    let one = more_length (takes_told t) h in
    omega arith

pub all_takes : (m : MachineRecord) (n c : ℕ) → n ≡ m.setup.hosts → WhereStands m (λ setup opening t. c ≡ length (takes_below t n)) → WhereStands m (λ setup opening t. c ≡ length (takes_below t setup.hosts))
all_takes m n c all is setup opening t stands = is setup opening t stands ∙ ap (λ j. length (takes_below t j)) (all ∙ ap (λ (s : Configuration). s.hosts) stands.setup_is)

-- ---- acts of hosts

pub acts_more : (m : MachineRecord) (h n c : ℕ) → WhereStands m (λ setup opening t. n ≡ length (host_acts_below setup t h))
    → WhereStands m (λ setup opening t. c ≡ length (host_acts_told setup t h)) → WhereStands m (λ setup opening t. n + c ≡ length (host_acts_below setup t (h + 1)))
acts_more m h n c before here setup opening t stands =
    let a = before setup opening t stands in
    let b = here setup opening t stands in
    let one = more_length (host_acts_told setup t) h in
    omega arith

pub all_acts : (m : MachineRecord) (n c : ℕ) → n ≡ m.setup.hosts → WhereStands m (λ setup opening t. c ≡ length (host_acts_below setup t n))
    → WhereStands m (λ setup opening t. c ≡ length (host_acts_below setup t setup.hosts))
all_acts m n c all is setup opening t stands = is setup opening t stands ∙ ap (λ j. length (host_acts_below setup t j)) (all ∙ ap (λ (s : Configuration). s.hosts) stands.setup_is)

-- ---- all together

-- the steps that are told are the three parts together
pub parts_add_up : (setup : Configuration) (opening : List (Line × Bytes64)) (t : List Event)
    → length (steps_told setup opening t) ≡ (length (takes_below t setup.hosts) + length (host_acts_below setup t setup.hosts)) + length (device_acts_told setup opening t)
parts_add_up setup opening t =
    let takes = takes_below t setup.hosts in
    let acts = host_acts_below setup t setup.hosts in
    length-append (takes ++ acts) (device_acts_told setup opening t) ∙ ap (λ n. n + length (device_acts_told setup opening t)) (length-append takes acts)

-- they are few, so counting them doesn't overflow
pub acts_fit : (m : MachineRecord) (h n c : ℕ) → StandsForSome m → h < m.setup.hosts → WhereStands m (λ setup opening t. n ≡ length (host_acts_below setup t h))
    → WhereStands m (λ setup opening t. c ≡ length (host_acts_told setup t h)) → n + c ≤ 1200000
acts_fit m h n c some low before here =
    let stands = some.stands in
    let one = acts_more m h n c before here m.setup some.opening some.t stands in
    let fits = within_all (host_acts_told m.setup some.t) (h + 1) m.setup.hosts (omega arith) in
    let sum = parts_add_up m.setup some.opening some.t in
    let same = told_count m.setup some.opening stands.within some.t stands.run in
    let few = next_steps_are_few m.setup some.opening stands.within some.t stands.run in
    omega arith

pub steps_add_up : (m : MachineRecord) (d : DeviceRecord) (x y z : ℕ) → WhereStands m (λ setup opening t. x ≡ length (takes_below t setup.hosts))
    → WhereStands m (λ setup opening t. y ≡ length (host_acts_below setup t setup.hosts))
    → WhereStands m (λ setup opening t. DeviceStandsFor d setup opening (events_of device t))
    → HasDeviceActs d z → WhereStands m (λ setup opening t. (x + y) + z ≡ length (next_steps setup opening t))
steps_add_up m d x y z takes acts agent dev setup opening t stands =
    let a = takes setup opening t stands in
    let b = acts setup opening t stands in
    let c = dev setup opening (events_of device t) (agent setup opening t stands) in
    let e = device_acts_count setup opening t in
    let sum = parts_add_up setup opening t in
    let same = told_count setup opening stands.within t stands.run in
    omega arith

pub steps_fit : (m : MachineRecord) (d : DeviceRecord) (x y z : ℕ) → StandsForSome m → WhereStands m (λ setup opening t. x ≡ length (takes_below t setup.hosts))
    → WhereStands m (λ setup opening t. y ≡ length (host_acts_below setup t setup.hosts))
    → WhereStands m (λ setup opening t. DeviceStandsFor d setup opening (events_of device t))
    → HasDeviceActs d z → (x + y) + z ≤ 1200000
steps_fit m d x y z some takes acts agent dev =
    let sum = steps_add_up m d x y z takes acts agent dev m.setup some.opening some.t some.stands in
    let few = next_steps_are_few m.setup some.opening some.stands.within some.t some.stands.run in
    omega arith
