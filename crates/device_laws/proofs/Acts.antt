-- The acts that are allowed by what is kept are the device's next acts, in their order.
use Rattle.std.proofs.Common.{◌≡◌, ℕ, zero, suc, ◌+◌, ◌<◌, ◌≤◌, Bool, true, false, List, [], ◌∷◌, ◌++◌, Option, Some, None, cond, map, refl, ap, sym, ◌∙◌, subst, arith}
use Rattle.std.specs.Prelude.{filter, flat_map, is_some, nat_lt, option_map, option_to_list}
use Rattle.std.specs.List.{list_all, range_with_len}
use Rattle.std.specs.Option.{option_map_or}
use Rattle.std.proofs.lemmas.Bool.{and_from, and_parts, false≢true, le-leb, lt-ltb, ltb-true}
use Rattle.cxl_message.specs.declared.channels.Channel.{Channel}
use Rattle.cxl_message.specs.declared.events.Act.{Act}
use Rattle.cxl_message.specs.declared.events.Cause.{Cause}
use Rattle.cxl_message.specs.declared.events.Event.{Event}
use Rattle.cxl_message.specs.declared.identifiers.Bytes64.{Bytes64}
use Rattle.cxl_message.specs.declared.identifiers.Line.{Line}
use Rattle.cxl_message.specs.declared.identifiers.Tag.{Tag}
use Rattle.cxl_message.specs.declared.messages.Message.{Message}
use Rattle.cxl_message.specs.Lists.{below}
use Rattle.cxl_message.specs.Setup.{Configuration}
use Rattle.coherence_model.specs.Buffers.{buffered_requests, buffered_writes}
use Rattle.coherence_model.specs.DirectoryChanges.{directory}
use Rattle.coherence_model.specs.Emission.{Emission}
use Rattle.coherence_model.specs.Fitting.{cause_fits, tag_exists}
use Rattle.coherence_model.specs.Next.{act_step, device_return_acts, device_return_channels, event_with, next_device_acts, or_else, request_acts, task_acts, task_lines, write_acts}
use Rattle.coherence_model.specs.Rows.{emission}
use Rattle.coherence_model.specs.Tasks.{Task}
use Rattle.coherence_model.specs.Traces.{device, events_of}
use Rattle.entry_laws.proofs.Buffered.{credit_is_no_request, credit_is_no_write, is_taken_on}
use Rattle.device_record.specs.Acts.{act_if, acts_in, acts_of_task, acts_or, next_causes, return_acts, serve_acts, tag_named, waiting_acts}
use Rattle.device_record.specs.Kept.{kept_device, kept_request, kept_task, kept_tasks, lines_left, task_of}
use Rattle.coherence_model.specs.OwnRuns.{IsOwnRun}
use Rattle.device_record.specs.Record.{requests_at, writes_at}
use Rattle.device_record.specs.Sparse.{sparse}
use Rattle.device_laws.proofs.Answers.{emission_is}
use Rattle.device_laws.proofs.Lookups.{requests_are, writes_are}
use Rattle.device_laws.proofs.OwnFacts.{all_own, device_list}
use Rattle.device_laws.proofs.DeviceRuns.{DeviceRun, requests_are_taken, writes_are_taken}

-- ---- lists joined

-- lists that agree member by member, for members that pass
flat_passing : {X Y : Type 0} (p : X → Bool) (f g : X → List Y) (xs : List X) → list_all p xs ≡ true → ((x : X) → p x ≡ true → f x ≡ g x) → flat_map f xs ≡ flat_map g xs
flat_passing p f g [] all same = refl
flat_passing p f g (x ∷ xs) all same = let parts = and_parts (p x) (list_all p xs) all in λ i. same x parts.0 i ++ flat_passing p f g xs parts.1 same i

flat_from : {Y : Type 0} (f g : ℕ → List Y) (s n : ℕ) → ((j : ℕ) → s ≤ j → j < s + n → f j ≡ g j) → flat_map f (range_with_len s n) ≡ flat_map g (range_with_len s n)
flat_from f g s zero same = refl
flat_from f g s (suc n) same =
    let here : s ≤ s = omega arith in
    let low : s < s + suc n = omega arith in
    λ i. same s here low i ++ flat_from f g (s + 1) n (λ j high less. let higher : s ≤ j = omega arith in let lower : j < s + suc n = omega arith in same j higher lower) i

-- for numbers below a bound
flat_below : {Y : Type 0} (f g : ℕ → List Y) (n : ℕ) → ((j : ℕ) → j < n → f j ≡ g j) → flat_map f (below n) ≡ flat_map g (below n)
flat_below f g n same = flat_from f g 0 n (λ j high less. let low : j < n = omega arith in same j low)

map_append : {X Y : Type 0} (f : X → Y) (xs ys : List X) → map f (xs ++ ys) ≡ map f xs ++ map f ys
map_append f [] ys = refl
map_append f (x ∷ xs) ys = ap (λ l. f x ∷ l) (map_append f xs ys)

map_flat : {X Y Z : Type 0} (f : Y → Z) (g : X → List Y) (xs : List X) → map f (flat_map g xs) ≡ flat_map (λ x. map f (g x)) xs
map_flat f g [] = refl
map_flat f g (x ∷ xs) = map_append f (g x) (flat_map g xs) ∙ ap (λ l. map f (g x) ++ l) (map_flat f g xs)

flat_mapped : {X Y Z : Type 0} (g : Y → List Z) (f : X → Y) (xs : List X) → flat_map g (map f xs) ≡ flat_map (λ x. g (f x)) xs
flat_mapped g f [] = refl
flat_mapped g f (x ∷ xs) = ap (λ l. g (f x) ++ l) (flat_mapped g f xs)

kept_step : {X Y : Type 0} (b : Bool) (f : X → List Y) (x : X) (xs : List X) → flat_map f (cond b (x ∷ xs) xs) ≡ cond b (f x) [] ++ flat_map f xs
kept_step true f x xs = refl
kept_step false f x xs = refl

flat_filter : {X Y : Type 0} (f : X → List Y) (p : X → Bool) (xs : List X) → flat_map f (filter p xs) ≡ flat_map (λ x. cond (p x) (f x) []) xs
flat_filter f p [] = refl
flat_filter f p (x ∷ xs) = kept_step (p x) f x (filter p xs) ∙ ap (λ l. cond (p x) (f x) [] ++ l) (flat_filter f p xs)

flat_option : {X Y : Type 0} (g : X → List Y) (o : Option X) (rest : List X) → flat_map g (option_to_list o ++ rest) ≡ option_map_or g o [] ++ flat_map g rest
flat_option g None rest = refl
flat_option g (Some x) rest = refl

flat_sparse : {X Y : Type 0} (g : X → List Y) (f : ℕ → Option X) (xs : List ℕ) → flat_map g (sparse f xs) ≡ flat_map (λ a. option_map_or g (f a) []) xs
flat_sparse g f [] = refl
flat_sparse g f (a ∷ xs) = flat_option g (f a) (sparse f xs) ∙ ap (λ l. option_map_or g (f a) [] ++ l) (flat_sparse g f xs)

-- ---- one act

-- the cause of an event, and that of an act
abbrev cause_of : Event → Cause
cause_of e = e.cause

abbrev as_cause : Act → Cause
as_cause act = Cause.Act act

step_causes : (act : Act) (o : Option Emission) → map cause_of (option_to_list (option_map (event_with device (Cause.Act act)) o)) ≡ map as_cause (cond (is_some o) (act ∷ []) [])
step_causes act None = refl
step_causes act (Some w) = refl

none_same : {X Y Z : Type 0} (f : X → Z) (g : Y → Z) (y : Y) (ys : List Y) → map f [] ≡ map g (y ∷ ys) → ⊥
none_same f g y ys same = cc

-- the first of two that isn't empty
first_same : (xs ys : List Event) (us bs : List Act) → map cause_of xs ≡ map as_cause us → map cause_of ys ≡ map as_cause bs → map cause_of (or_else xs ys) ≡ map as_cause (acts_or us bs)
first_same [] ys [] bs first second = second
first_same [] ys (a ∷ us) bs first second = absurd (none_same cause_of as_cause a us first)
first_same (x ∷ xs) ys [] bs first second = absurd (none_same as_cause cause_of x xs (sym first))
first_same (x ∷ xs) ys (a ∷ us) bs first second = first

-- an act that may be the device's is a step by what is kept where it is one by the events
act_is : (setup : Configuration) (opening : List (Line × Bytes64)) (t : List Event) → DeviceRun setup (events_of device t) → (act : Act) → cause_fits setup device (Cause.Act act) ≡ true
    → map cause_of (act_step setup opening t device act) ≡ map as_cause (act_if setup (kept_device setup opening (events_of device t)) act)
act_is setup opening t run act fits =
    step_causes act (emission setup opening device (Cause.Act act) (events_of device t))
    ∙ ap (λ o. map as_cause (cond (is_some o) (act ∷ []) [])) (sym (emission_is setup opening (events_of device t) run (Cause.Act act) fits))

-- ---- Serve

write_fits : (setup : Configuration) (h : ℕ) (m : Message) → h < setup.hosts → is_taken_on setup h Channel.Rwd m ≡ true → cause_fits setup device (Cause.Act (Act.Serve h (tag_named m))) ≡ true
write_fits setup h (Message.Req op meta snp tag line) low taken = absurd (false≢true (and_parts _ _ taken).1)
write_fits setup h (Message.MemWr meta snp tag line bytes) low taken = and_from _ _ (lt-ltb h setup.hosts low) (and_parts _ _ (and_parts _ _ (and_parts _ _ taken).0).1).0
write_fits setup h (Message.BiConflict tag) low taken =
    let named = ltb-true tag.0 setup.tags (and_parts _ _ (and_parts _ _ taken).0).1 in
    let within : tag.0 ≤ setup.tags = omega arith in
    and_from _ _ (lt-ltb h setup.hosts low) (le-leb tag.0 setup.tags within)
write_fits setup h (Message.BiRsp op bitag at) low taken = absurd (false≢true (and_parts _ _ taken).1)
write_fits setup h (Message.Ndr op tag) low taken = absurd (false≢true (and_parts _ _ taken).1)
write_fits setup h (Message.MemData tag bytes) low taken = absurd (false≢true (and_parts _ _ taken).1)
write_fits setup h (Message.BiSnp op bitag line span) low taken = absurd (false≢true (and_parts _ _ taken).1)
write_fits setup h (Message.Credit c) low taken = absurd (false≢true (sym (credit_is_no_write c) ∙ (and_parts _ _ taken).1))

serves_are : (setup : Configuration) (opening : List (Line × Bytes64)) (t : List Event) → DeviceRun setup (events_of device t) → (h : ℕ) → h < setup.hosts
    → map cause_of (flat_map (write_acts setup opening t h) (buffered_writes h (events_of device t)))
    ≡ map as_cause (flat_map (serve_acts setup (kept_device setup opening (events_of device t)) h) (writes_at h (kept_device setup opening (events_of device t)).writes))
serves_are setup opening t run h low =
    let mine : List Event = events_of device t in
    let k = kept_device setup opening (events_of device t) in
    map_flat cause_of (write_acts setup opening t h) (buffered_writes h mine)
    ∙ flat_passing (is_taken_on setup h Channel.Rwd) (λ m. map cause_of (write_acts setup opening t h m)) (λ m. map as_cause (serve_acts setup k h m)) (buffered_writes h mine) (writes_are_taken setup mine run h)
    (λ m taken. act_is setup opening t run (Act.Serve h (tag_named m)) (write_fits setup h m low taken))
    ∙ sym (map_flat as_cause (serve_acts setup k h) (buffered_writes h mine))
    ∙ sym (ap (λ ms. map as_cause (flat_map (serve_acts setup k h) ms)) (writes_are setup.hosts mine h low))

-- ---- Clean, Start and Evict

-- the tag of a buffered request exists
request_named : (setup : Configuration) (h : ℕ) (m : Message) → is_taken_on setup h Channel.Req m ≡ true → tag_exists setup (tag_named m) ≡ true
request_named setup h (Message.Req op meta snp tag line) taken = (and_parts _ _ (and_parts _ _ (and_parts _ _ taken).0).1).0
request_named setup h (Message.MemWr meta snp tag line bytes) taken = absurd (false≢true (and_parts _ _ taken).1)
request_named setup h (Message.BiConflict tag) taken = absurd (false≢true (and_parts _ _ taken).1)
request_named setup h (Message.BiRsp op bitag at) taken = absurd (false≢true (and_parts _ _ taken).1)
request_named setup h (Message.Ndr op tag) taken = absurd (false≢true (and_parts _ _ taken).1)
request_named setup h (Message.MemData tag bytes) taken = absurd (false≢true (and_parts _ _ taken).1)
request_named setup h (Message.BiSnp op bitag line span) taken = absurd (false≢true (and_parts _ _ taken).1)
request_named setup h (Message.Credit c) taken = absurd (false≢true (sym (credit_is_no_request c) ∙ (and_parts _ _ taken).1))

request_is_act : (setup : Configuration) (opening : List (Line × Bytes64)) (t : List Event) → DeviceRun setup (events_of device t) → (h : ℕ) → h < setup.hosts → (m : Message) → is_taken_on setup h Channel.Req m ≡ true
    → map cause_of (request_acts setup opening t h m) ≡ map as_cause (waiting_acts setup (kept_device setup opening (events_of device t)) h (kept_request setup h (events_of device t) m))
request_is_act setup opening t run h low m taken =
    let k = kept_device setup opening (events_of device t) in
    let tag : Tag = tag_named m in
    let fits = and_from (nat_lt h setup.hosts) (tag_exists setup (tag_named m)) (lt-ltb h setup.hosts low) (request_named setup h m taken) in
    first_same (act_step setup opening t device (Act.Clean h tag)) (or_else (act_step setup opening t device (Act.Start h tag)) (act_step setup opening t device (Act.Evict h tag)))
    (act_if setup k (Act.Clean h tag)) (acts_or (act_if setup k (Act.Start h tag)) (act_if setup k (Act.Evict h tag)))
    (act_is setup opening t run (Act.Clean h tag) fits)
    (first_same (act_step setup opening t device (Act.Start h tag)) (act_step setup opening t device (Act.Evict h tag)) (act_if setup k (Act.Start h tag)) (act_if setup k (Act.Evict h tag))
    (act_is setup opening t run (Act.Start h tag) fits) (act_is setup opening t run (Act.Evict h tag) fits))

requests_are_acts : (setup : Configuration) (opening : List (Line × Bytes64)) (t : List Event) → DeviceRun setup (events_of device t) → (h : ℕ) → h < setup.hosts
    → map cause_of (flat_map (request_acts setup opening t h) (buffered_requests h (events_of device t)))
    ≡ map as_cause (flat_map (waiting_acts setup (kept_device setup opening (events_of device t)) h) (requests_at h (kept_device setup opening (events_of device t)).requests))
requests_are_acts setup opening t run h low =
    let mine : List Event = events_of device t in
    let k = kept_device setup opening (events_of device t) in
    map_flat cause_of (request_acts setup opening t h) (buffered_requests h mine)
    ∙ flat_passing (is_taken_on setup h Channel.Req) (λ m. map cause_of (request_acts setup opening t h m)) (λ m. map as_cause (waiting_acts setup k h (kept_request setup h mine m))) (buffered_requests h mine)
    (requests_are_taken setup mine run h) (request_is_act setup opening t run h low)
    ∙ sym (map_flat as_cause (λ m. waiting_acts setup k h (kept_request setup h mine m)) (buffered_requests h mine))
    ∙ sym (ap (map as_cause) (flat_mapped (waiting_acts setup k h) (kept_request setup h mine) (buffered_requests h mine)))
    ∙ sym (ap (λ rs. map as_cause (flat_map (waiting_acts setup k h) rs)) (requests_are setup mine h low))

-- ---- Snoop and Finish

task_is_acts : (setup : Configuration) (opening : List (Line × Bytes64)) (t : List Event) → DeviceRun setup (events_of device t) → (a : ℕ) → a < setup.lines
    → map cause_of (task_acts setup opening t a)
    ≡ map as_cause (flat_map (λ h. act_if setup (kept_device setup opening (events_of device t)) (Act.Snoop h (record { 0 = a }))) (below setup.hosts) ++ act_if setup (kept_device setup opening (events_of device t)) (Act.Finish (record { 0 = a })))
task_is_acts setup opening t run a low =
    let k = kept_device setup opening (events_of device t) in
    let line : Line = record { 0 = a } in
    let snoop : ℕ → List Event = λ h. act_step setup opening t device (Act.Snoop h line) in
    map_append cause_of (flat_map snoop (below setup.hosts)) (act_step setup opening t device (Act.Finish line))
    ∙ (λ i. (map_flat cause_of snoop (below setup.hosts)
    ∙ flat_below (λ h. map cause_of (snoop h)) (λ h. map as_cause (act_if setup k (Act.Snoop h line))) setup.hosts
    (λ h host. act_is setup opening t run (Act.Snoop h line) (and_from (nat_lt h setup.hosts) (nat_lt a setup.lines) (lt-ltb h setup.hosts host) (lt-ltb a setup.lines low)))
    ∙ sym (map_flat as_cause (λ h. act_if setup k (Act.Snoop h line)) (below setup.hosts))) i
    ++ act_is setup opening t run (Act.Finish line) (lt-ltb a setup.lines low) i)
    ∙ sym (map_append as_cause (flat_map (λ h. act_if setup k (Act.Snoop h line)) (below setup.hosts)) (act_if setup k (Act.Finish line)))

task_by : (setup : Configuration) (opening : List (Line × Bytes64)) (t : List Event) → DeviceRun setup (events_of device t) → (a : ℕ) → a < setup.lines → (o : Option Task)
    → cond (is_some o) (map cause_of (task_acts setup opening t a)) []
    ≡ map as_cause (option_map_or (acts_of_task setup (kept_device setup opening (events_of device t))) (option_map (kept_task setup.hosts (lines_left (events_of device t) a) a) o) [])
task_by setup opening t run a low None = refl
task_by setup opening t run a low (Some u) = task_is_acts setup opening t run a low

map_if : (b : Bool) (xs : List Event) → map cause_of (cond b xs []) ≡ cond b (map cause_of xs) []
map_if true xs = refl
map_if false xs = refl

tasks_are_acts : (setup : Configuration) (opening : List (Line × Bytes64)) (t : List Event) → DeviceRun setup (events_of device t)
    → map cause_of (flat_map (task_acts setup opening t) (task_lines setup (events_of device t)))
    ≡ map as_cause (flat_map (acts_of_task setup (kept_device setup opening (events_of device t))) (kept_tasks setup (events_of device t)))
tasks_are_acts setup opening t run =
    let mine : List Event = events_of device t in
    let k = kept_device setup opening (events_of device t) in
    let task : ℕ → Option Task = (directory setup (events_of device t)).task in
    ap (map cause_of) (flat_filter (task_acts setup opening t) (λ a. is_some (task a)) (below setup.lines))
    ∙ map_flat cause_of (λ a. cond (is_some (task a)) (task_acts setup opening t a) []) (below setup.lines)
    ∙ flat_below (λ a. map cause_of (cond (is_some (task a)) (task_acts setup opening t a) []))
    (λ a. map as_cause (option_map_or (acts_of_task setup k) (task_of setup.hosts task (lines_left mine) a) [])) setup.lines
    (λ a low. map_if (is_some (task a)) (task_acts setup opening t a) ∙ task_by setup opening t run a low (task a))
    ∙ sym (map_flat as_cause (λ a. option_map_or (acts_of_task setup k) (task_of setup.hosts task (lines_left mine) a) []) (below setup.lines))
    ∙ sym (ap (map as_cause) (flat_sparse (acts_of_task setup k) (task_of setup.hosts task (lines_left mine)) (below setup.lines)))

-- ---- the returns

returns_are : (setup : Configuration) (opening : List (Line × Bytes64)) (t : List Event) → DeviceRun setup (events_of device t) → (h : ℕ) → h < setup.hosts
    → map cause_of (device_return_acts setup opening t h) ≡ map as_cause (return_acts setup (kept_device setup opening (events_of device t)) h)
returns_are setup opening t run h low =
    let k = kept_device setup opening (events_of device t) in
    map_flat cause_of (λ c. act_step setup opening t device (Act.DeviceReturn h c)) device_return_channels
    ∙ flat_passing (λ c. true) (λ c. map cause_of (act_step setup opening t device (Act.DeviceReturn h c))) (λ c. map as_cause (act_if setup k (Act.DeviceReturn h c))) device_return_channels refl
    (λ c any. act_is setup opening t run (Act.DeviceReturn h c) (lt-ltb h setup.hosts low))
    ∙ sym (map_flat as_cause (λ c. act_if setup k (Act.DeviceReturn h c)) device_return_channels)

-- ---- all of them

by_hosts : (hosts : ℕ) (f : ℕ → List Event) (g : ℕ → List Act) → ((h : ℕ) → h < hosts → map cause_of (f h) ≡ map as_cause (g h)) → map cause_of (flat_map f (below hosts)) ≡ map as_cause (flat_map g (below hosts))
by_hosts hosts f g same = map_flat cause_of f (below hosts) ∙ flat_below (λ h. map cause_of (f h)) (λ h. map as_cause (g h)) hosts same ∙ sym (map_flat as_cause g (below hosts))

joined : (xs ys : List Event) (us bs : List Act) → map cause_of xs ≡ map as_cause us → map cause_of ys ≡ map as_cause bs → map cause_of (xs ++ ys) ≡ map as_cause (us ++ bs)
joined xs ys us bs first second = map_append cause_of xs ys ∙ (λ i. first i ++ second i) ∙ sym (map_append as_cause us bs)

-- the acts of the device among the next steps of a trace
pub acts_are : (setup : Configuration) (opening : List (Line × Bytes64)) (t : List Event) → DeviceRun setup (events_of device t)
    → map cause_of (next_device_acts setup opening t) ≡ map as_cause (acts_in setup (kept_device setup opening (events_of device t)))
acts_are setup opening t run =
    joined _ _ _ _ (joined _ _ _ _ (joined _ _ _ _ (by_hosts setup.hosts _ _ (serves_are setup opening t run)) (by_hosts setup.hosts _ _ (requests_are_acts setup opening t run))) (tasks_are_acts setup opening t run))
    (by_hosts setup.hosts _ _ (returns_are setup opening t run))

-- and after a list of the device's own events
pub acts_of_list : (setup : Configuration) (opening : List (Line × Bytes64)) (mine : List Event) → IsOwnRun setup opening device mine
    → next_causes setup opening mine ≡ map as_cause (acts_in setup (kept_device setup opening mine))
acts_of_list setup opening mine list =
    let own = all_own setup opening mine list in
    acts_are setup opening mine (subst (DeviceRun setup) (sym own) (device_list setup opening mine list))
    ∙ ap (λ l. map as_cause (acts_in setup (kept_device setup opening l))) own
