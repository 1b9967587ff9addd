-- The step of a number, part by part, where the machine stands for a run.
use Rattle.std.proofs.Common.{◌≡◌, ℕ, ◌+◌, ◌-◌, ◌<◌, ◌≤◌, List, ◌++◌, length, Option, None, ap, sym, ◌∙◌, subst, arith}
use Rattle.std.specs.Prelude.{slice_get}
use Rattle.std.proofs.lemmas.List.{length-append}
use Rattle.std.proofs.lemmas.Option.{slice_get_past}
use Rattle.cxl_message.specs.declared.events.Cause.{Cause}
use Rattle.cxl_message.specs.declared.events.Event.{Event}
use Rattle.cxl_message.specs.declared.identifiers.Bytes64.{Bytes64}
use Rattle.cxl_message.specs.declared.identifiers.Line.{Line}
use Rattle.cxl_message.specs.Setup.{Configuration}
use Rattle.next_laws.specs.Told.{device_acts_told, host_acts_told, steps_told, takes_told}
use Rattle.link_queues.proofs.Parts.{get_left, get_right}
use Rattle.machine.specs.Stands.{MachineRecord, StandsFor, WhereStands}
use Rattle.machine.specs.Steps.{host_acts_below, takes_below}
use Rattle.machine.proofs.Numbered.{more_length, part_get}

-- ---- a part of the steps that are told

pub at_take : (m : MachineRecord) (k x : ℕ) (o : Option (ℕ × Cause)) → k < x → WhereStands m (λ setup opening t. x ≡ length (takes_below t setup.hosts))
    → WhereStands m (λ setup opening t. o ≡ slice_get (takes_below t setup.hosts) k) → WhereStands m (λ setup opening t. o ≡ slice_get (steps_told setup opening t) k)
at_take m k x o low count is setup opening t stands =
    let takes = takes_below t setup.hosts in
    let acts = host_acts_below setup t setup.hosts in
    let same = count setup opening t stands in
    let sum = length-append takes acts in
    is setup opening t stands ∙ sym (get_left (takes ++ acts) (device_acts_told setup opening t) k (omega arith) ∙ get_left takes acts k (omega arith))

pub at_host_act : (m : MachineRecord) (k x y : ℕ) (o : Option (ℕ × Cause)) → x ≤ k → k - x < y → WhereStands m (λ setup opening t. x ≡ length (takes_below t setup.hosts))
    → WhereStands m (λ setup opening t. y ≡ length (host_acts_below setup t setup.hosts))
    → WhereStands m (λ setup opening t. o ≡ slice_get (host_acts_below setup t setup.hosts) (k - x)) → WhereStands m (λ setup opening t. o ≡ slice_get (steps_told setup opening t) k)
at_host_act m k x y o past low takes_are acts_are is setup opening t stands =
    let takes = takes_below t setup.hosts in
    let acts = host_acts_below setup t setup.hosts in
    let a = takes_are setup opening t stands in
    let b = acts_are setup opening t stands in
    let sum = length-append takes acts in
    let split : k ≡ length takes + (k - x) = omega arith in
    is setup opening t stands
    ∙ sym (get_left (takes ++ acts) (device_acts_told setup opening t) k (omega arith) ∙ ap (slice_get (takes ++ acts)) split ∙ get_right takes acts (k - x))

pub at_device_act : (m : MachineRecord) (k x y : ℕ) (o : Option (ℕ × Cause)) → x ≤ k → y ≤ k - x → WhereStands m (λ setup opening t. x ≡ length (takes_below t setup.hosts))
    → WhereStands m (λ setup opening t. y ≡ length (host_acts_below setup t setup.hosts))
    → WhereStands m (λ setup opening t. o ≡ slice_get (device_acts_told setup opening t) ((k - x) - y)) → WhereStands m (λ setup opening t. o ≡ slice_get (steps_told setup opening t) k)
at_device_act m k x y o past past_too takes_are acts_are is setup opening t stands =
    let takes = takes_below t setup.hosts in
    let acts = host_acts_below setup t setup.hosts in
    let a = takes_are setup opening t stands in
    let b = acts_are setup opening t stands in
    let sum = length-append takes acts in
    let split : k ≡ length (takes ++ acts) + ((k - x) - y) = omega arith in
    is setup opening t stands
    ∙ sym (ap (slice_get ((takes ++ acts) ++ device_acts_told setup opening t)) split ∙ get_right (takes ++ acts) (device_acts_told setup opening t) ((k - x) - y))

-- ---- going over the hosts

host_there : (m : MachineRecord) (h : ℕ) (setup : Configuration) (opening : List (Line × Bytes64)) (t : List Event) → StandsFor m setup opening t → h < m.setup.hosts → h < setup.hosts
host_there m h setup opening t stands low = subst (λ (s : Configuration). h < s.hosts) stands.setup_is low

pub take_of_host : (m : MachineRecord) (h k left c : ℕ) (o : Option (ℕ × Cause)) → h < m.setup.hosts → left < c → WhereStands m (λ setup opening t. c ≡ length (takes_told t h))
    → WhereStands m (λ setup opening t. k ≡ length (takes_below t h) + left) → WhereStands m (λ setup opening t. o ≡ slice_get (takes_told t h) left)
    → WhereStands m (λ setup opening t. o ≡ slice_get (takes_below t setup.hosts) k)
take_of_host m h k left c o low few here at is setup opening t stands =
    let a = here setup opening t stands in
    let all = part_get (takes_told t) setup.hosts h left (host_there m h setup opening t stands low) (omega arith) in
    is setup opening t stands ∙ sym (ap (slice_get (takes_below t setup.hosts)) (at setup opening t stands) ∙ all)

pub takes_pass : (m : MachineRecord) (h k left c : ℕ) → c ≤ left → WhereStands m (λ setup opening t. c ≡ length (takes_told t h))
    → WhereStands m (λ setup opening t. k ≡ length (takes_below t h) + left) → WhereStands m (λ setup opening t. k ≡ length (takes_below t (h + 1)) + (left - c))
takes_pass m h k left c past here at setup opening t stands =
    let a = here setup opening t stands in
    let one = more_length (takes_told t) h in
    let b = at setup opening t stands in
    omega arith

pub no_more_takes : (m : MachineRecord) (n k left : ℕ) → n ≡ m.setup.hosts → WhereStands m (λ setup opening t. k ≡ length (takes_below t n) + left)
    → WhereStands m (λ setup opening t. None ≡ slice_get (takes_below t setup.hosts) k)
no_more_takes m n k left all at setup opening t stands =
    let is = at setup opening t stands ∙ ap (λ j. length (takes_below t j) + left) (all ∙ ap (λ (s : Configuration). s.hosts) stands.setup_is) in
    sym (slice_get_past (takes_below t setup.hosts) k (omega arith))

pub act_of_host : (m : MachineRecord) (h k left c : ℕ) (o : Option (ℕ × Cause)) → h < m.setup.hosts → left < c
    → WhereStands m (λ setup opening t. c ≡ length (host_acts_told setup t h))
    → WhereStands m (λ setup opening t. k ≡ length (host_acts_below setup t h) + left) → WhereStands m (λ setup opening t. o ≡ slice_get (host_acts_told setup t h) left)
    → WhereStands m (λ setup opening t. o ≡ slice_get (host_acts_below setup t setup.hosts) k)
act_of_host m h k left c o low few here at is setup opening t stands =
    let a = here setup opening t stands in
    let all = part_get (host_acts_told setup t) setup.hosts h left (host_there m h setup opening t stands low) (omega arith) in
    is setup opening t stands ∙ sym (ap (slice_get (host_acts_below setup t setup.hosts)) (at setup opening t stands) ∙ all)

pub acts_pass : (m : MachineRecord) (h k left c : ℕ) → c ≤ left → WhereStands m (λ setup opening t. c ≡ length (host_acts_told setup t h))
    → WhereStands m (λ setup opening t. k ≡ length (host_acts_below setup t h) + left)
    → WhereStands m (λ setup opening t. k ≡ length (host_acts_below setup t (h + 1)) + (left - c))
acts_pass m h k left c past here at setup opening t stands =
    let a = here setup opening t stands in
    let one = more_length (host_acts_told setup t) h in
    let b = at setup opening t stands in
    omega arith

pub no_more_acts : (m : MachineRecord) (n k left : ℕ) → n ≡ m.setup.hosts → WhereStands m (λ setup opening t. k ≡ length (host_acts_below setup t n) + left)
    → WhereStands m (λ setup opening t. None ≡ slice_get (host_acts_below setup t setup.hosts) k)
no_more_acts m n k left all at setup opening t stands =
    let is = at setup opening t stands ∙ ap (λ j. length (host_acts_below setup t j) + left) (all ∙ ap (λ (s : Configuration). s.hosts) stands.setup_is) in
    sym (slice_get_past (host_acts_below setup t setup.hosts) k (omega arith))
