-- There are never so many allowed acts that a search that skips the most it can finds one.
use Rattle.std.proofs.Common.{◌≡◌, ℕ, suc, ◌+◌, ◌-◌, ◌*◌, ◌≤◌, Bool, true, false, List, [], ◌∷◌, ◌++◌, cond, length, ap, sym, ◌∙◌, subst, arith}
use Rattle.std.specs.Prelude.{flat_map, is_some}
use Rattle.std.proofs.lemmas.List.{length-append}
use Rattle.std.proofs.lemmas.List.FromFn.{length-range_with_len}
use Rattle.cxl_message.specs.declared.events.Act.{Act}
use Rattle.cxl_message.specs.declared.events.Cause.{Cause}
use Rattle.cxl_message.specs.declared.messages.Message.{Message}
use Rattle.cxl_message.specs.Lists.{below}
use Rattle.cxl_message.specs.Setup.{Configuration}
use Rattle.coherence_model.specs.Next.{device_return_channels}
use Rattle.device_record.specs.Acts.{act_if, acts_in, acts_of_task, acts_or, return_acts, serve_acts, tag_named, waiting_acts}
use Rattle.device_record.specs.Answers.{emission_in}
use Rattle.device_record.specs.Record.{DeviceRecord, TaskRecord, WaitingRequest, requests_at, writes_at}
use Rattle.device_record.specs.Steady.{IsSteady}
use Rattle.device_acts.specs.declared.searching.Search.{Search}
use Rattle.device_acts.specs.Searching.{searched}
use Rattle.device_acts.proofs.Passing.{passes_all}

-- ---- lists of few

few_if : (b : Bool) (act : Act) → length (cond b (act ∷ []) []) ≤ 1
few_if true act = omega arith
few_if false act = omega arith

one_act : (setup : Configuration) (k : DeviceRecord) (act : Act) → length (act_if setup k act) ≤ 1
one_act setup k act = few_if (is_some (emission_in setup (Cause.Act act) k)) act

times_more : (m n : ℕ) → m * suc n ≡ m + m * n
times_more m n = grind arith

few_joined : (m a b n : ℕ) → a ≤ m → b ≤ m * n → a + b ≤ m * suc n
few_joined m a b n here rest = omega (arith, here, rest, times_more m n)

-- where each member gives at most m, all give at most m for each
few_each : {X : Type 0} (f : X → List Act) (m : ℕ) → ((x : X) → length (f x) ≤ m) → (xs : List X) → length (flat_map f xs) ≤ m * length xs
few_each f m few [] = omega arith
few_each f m few (x ∷ xs) =
    let joined : length (f x) + length (flat_map f xs) ≤ m * suc (length xs) = few_joined m (length (f x)) (length (flat_map f xs)) (length xs) (few x) (few_each f m few xs) in
    omega (arith, joined, length-append (f x) (flat_map f xs))

few_or : (xs ys : List Act) → length xs ≤ 1 → length ys ≤ 1 → length (acts_or xs ys) ≤ 1
few_or [] ys a b = b
few_or (x ∷ xs) ys a b = a

-- ---- each section

few_serves : (setup : Configuration) (k : DeviceRecord) (h : ℕ) → length (flat_map (serve_acts setup k h) (writes_at h k.writes)) ≤ 1 * length (writes_at h k.writes)
few_serves setup k h = few_each (serve_acts setup k h) 1 (λ (m : Message). one_act setup k (Act.Serve h (tag_named m))) (writes_at h k.writes)

one_waiting : (setup : Configuration) (k : DeviceRecord) (h : ℕ) (w : WaitingRequest) → length (waiting_acts setup k h w) ≤ 1
one_waiting setup k h w =
    few_or (act_if setup k (Act.Clean h (tag_named w.message))) (acts_or (act_if setup k (Act.Start h (tag_named w.message))) (act_if setup k (Act.Evict h (tag_named w.message))))
    (one_act setup k (Act.Clean h (tag_named w.message)))
    (few_or (act_if setup k (Act.Start h (tag_named w.message))) (act_if setup k (Act.Evict h (tag_named w.message)))
    (one_act setup k (Act.Start h (tag_named w.message))) (one_act setup k (Act.Evict h (tag_named w.message))))

few_starts : (setup : Configuration) (k : DeviceRecord) (h : ℕ) → length (flat_map (waiting_acts setup k h) (requests_at h k.requests)) ≤ 1 * length (requests_at h k.requests)
few_starts setup k h = few_each (waiting_acts setup k h) 1 (one_waiting setup k h) (requests_at h k.requests)

length_below : (n : ℕ) → length (below n) ≡ n
length_below n = length-range_with_len 0 n

few_snoops : (setup : Configuration) (k : DeviceRecord) (t : TaskRecord) → length (flat_map (λ h. act_if setup k (Act.Snoop h (record { 0 = t.first }))) (below setup.hosts)) ≤ 1 * length (below setup.hosts)
few_snoops setup k t = few_each (λ h. act_if setup k (Act.Snoop h (record { 0 = t.first }))) 1 (λ h. one_act setup k (Act.Snoop h (record { 0 = t.first }))) (below setup.hosts)

few_for : (setup : Configuration) (k : DeviceRecord) → setup.hosts ≤ 16 → (t : TaskRecord) → length (acts_of_task setup k t) ≤ 17
few_for setup k hosts t =
    let snoops = flat_map (λ h. act_if setup k (Act.Snoop h (record { 0 = t.first }))) (below setup.hosts) in
    let finish = act_if setup k (Act.Finish (record { 0 = t.first })) in
    omega (arith, length-append snoops finish, few_snoops setup k t, length_below setup.hosts, one_act setup k (Act.Finish (record { 0 = t.first })), hosts)

few_returns : (setup : Configuration) (k : DeviceRecord) (h : ℕ) → length (return_acts setup k h) ≤ 3
few_returns setup k h = few_each (λ c. act_if setup k (Act.DeviceReturn h c)) 1 (λ c. one_act setup k (Act.DeviceReturn h c)) device_return_channels

-- ---- all

few_total : (a b c d hosts tasks : ℕ) → a ≤ 64 * hosts → b ≤ 64 * hosts → c ≤ 17 * tasks → d ≤ 3 * hosts → hosts ≤ 16 → tasks ≤ 65536 → ((a + b) + c) + d ≤ 4294967295
few_total a b c d hosts tasks = omega arith

few_acts : (setup : Configuration) (k : DeviceRecord) → IsSteady setup k → length (acts_in setup k) ≤ 4294967295
few_acts setup k steady =
    let serves = flat_map (λ h. flat_map (serve_acts setup k h) (writes_at h k.writes)) (below setup.hosts) in
    let starts = flat_map (λ h. flat_map (waiting_acts setup k h) (requests_at h k.requests)) (below setup.hosts) in
    let tasks = flat_map (acts_of_task setup k) k.tasks in
    let returns = flat_map (return_acts setup k) (below setup.hosts) in
    let hosts = steady.limits.hosts.1 in
    let credits = steady.limits.credits.1 in
    let a : length serves ≤ 64 * length (below setup.hosts) = few_each (λ h. flat_map (serve_acts setup k h) (writes_at h k.writes)) 64 (λ h. (let few = few_serves setup k h in let held = steady.writes h in let left = (steady.credits h).rwd in omega (arith, few, held, left, credits))) (below setup.hosts) in
    let b : length starts ≤ 64 * length (below setup.hosts) = few_each (λ h. flat_map (waiting_acts setup k h) (requests_at h k.requests)) 64 (λ h. (let few = few_starts setup k h in let held = steady.requests h in let left = (steady.credits h).req in omega (arith, few, held, left, credits))) (below setup.hosts) in
    let c : length tasks ≤ 17 * length k.tasks = few_each (acts_of_task setup k) 17 (few_for setup k hosts) k.tasks in
    let d : length returns ≤ 3 * length (below setup.hosts) = few_each (return_acts setup k) 3 (few_returns setup k) (below setup.hosts) in
    let low : length (below setup.hosts) ≤ 16 = omega (arith, length_below setup.hosts, hosts) in
    let some : length k.tasks ≤ 65536 = omega (arith, steady.listed, steady.limits.lines.1) in
    let sum = few_total (length serves) (length starts) (length tasks) (length returns) (length (below setup.hosts)) (length k.tasks) a b c d low some in
    let added : length (((serves ++ starts) ++ tasks) ++ returns) ≡ ((length serves + length starts) + length tasks) + length returns =
    length-append ((serves ++ starts) ++ tasks) returns ∙ ap (λ n. n + length returns) (length-append (serves ++ starts) tasks ∙ ap (λ n. n + length tasks) (length-append serves starts)) in
    subst (λ n. n ≤ 4294967295) (sym added) sum

-- the search that skips the most passes all, and what it has left to skip tells how many
pub all_passed : (setup : Configuration) (k : DeviceRecord) (s : Search) → IsSteady setup k → s ≡ searched (acts_in setup k) (Search.Skip 4294967295) → s ≡ Search.Skip (4294967295 - length (acts_in setup k))
all_passed setup k s steady is = is ∙ passes_all (acts_in setup k) 4294967295 (few_acts setup k steady)

-- and so many are allowed
pub all_counted : (setup : Configuration) (k : DeviceRecord) → IsSteady setup k → (left : ℕ) → left ≡ 4294967295 - length (acts_in setup k) → 4294967295 - left ≡ length (acts_in setup k)
all_counted setup k steady left is = omega (arith, is, few_acts setup k steady)
