-- What the device adds to the weight, and whether something is pending there, by what is kept.
use Rattle.std.proofs.Common.{◌≡◌, ℕ, zero, suc, ◌+◌, ◌<◌, ◌≤◌, Bool, true, List, [], ◌∷◌, ◌++◌, Option, Some, None, cond, length, map, refl, ap, sym, ◌∙◌, arith}
use Rattle.std.specs.Prelude.{is_some, nat_le, not, option_map, option_to_list, sum_by, ◌&&◌, ◌*◌, ◌||◌}
use Rattle.std.specs.List.{list_all, list_any, range_with_len}
use Rattle.std.specs.Option.{option_map_or}
use Rattle.std.proofs.lemmas.Bool.{and_parts, false≢true, le-leb}
use Rattle.std.proofs.lemmas.List.{length-map}
use Rattle.std.proofs.lemmas.List.Sums.{sum_by-cons}
use Rattle.cxl_message.specs.declared.events.Event.{Event}
use Rattle.cxl_message.specs.declared.identifiers.Bytes64.{Bytes64}
use Rattle.cxl_message.specs.declared.identifiers.Line.{Line}
use Rattle.cxl_message.specs.declared.messages.Message.{Message}
use Rattle.cxl_message.specs.Codes.{span_len}
use Rattle.cxl_message.specs.Lists.{below}
use Rattle.cxl_message.specs.Setup.{Configuration}
use Rattle.coherence_model.specs.Buffers.{buffered_requests, device_owed}
use Rattle.coherence_model.specs.DeviceActs.{Request, device_returns, request_in}
use Rattle.coherence_model.specs.Directory.{Directory, is_busy}
use Rattle.coherence_model.specs.DirectoryChanges.{directory}
use Rattle.coherence_model.specs.Next.{device_return_channels}
use Rattle.coherence_model.specs.Pending.{device_pending, holds_message_of}
use Rattle.coherence_model.specs.Room.{request_room}
use Rattle.coherence_model.specs.Tasks.{Task}
use Rattle.coherence_model.specs.Weight.{buffered_request_weight, buffers_weight, device_weight, purpose_weight, request_weight, task_weight, unasked_count}
use Rattle.coherence_model.specs.Traces.{device}
use Rattle.entry_laws.proofs.Blocks.{any_at, any_below, some_lines}
use Rattle.entry_laws.proofs.Tasks.{busy_at_task, covering}
use Rattle.device_record.specs.Kept.{kept_device, kept_request, kept_rows, kept_task, lines_left, task_of}
use Rattle.coherence_model.specs.OwnRuns.{IsOwnRun}
use Rattle.device_record.specs.Record.{owed_on}
use Rattle.device_record.specs.Sparse.{sparse}
use Rattle.device_record.specs.Weights.{has_buffered, pending_in, waiting_weight, weight_in, weight_of_host, weight_of_task}
use Rattle.device_laws.proofs.AnswerActs.{asked_by_is, owed_is, room_named, wanted_by, within_by}
use Rattle.device_laws.proofs.FilterSteps.{same_tests}
use Rattle.device_laws.proofs.Lookups.{requests_are, writes_are}
use Rattle.device_laws.proofs.OwnFacts.{device_list}
use Rattle.device_laws.proofs.DeviceRuns.{DeviceRun, directory_is_kept}

sum_from : (f g : ℕ → ℕ) (s n : ℕ) → ((j : ℕ) → s ≤ j → j < s + n → f j ≡ g j) → sum_by f (range_with_len s n) ≡ sum_by g (range_with_len s n)
sum_from f g s zero same = refl
sum_from f g s (suc n) same =
    let here : s ≤ s = omega arith in
    let low : s < s + suc n = omega arith in
    sum_by-cons f s (range_with_len (s + 1) n)
    ∙ (λ i. same s here low i + sum_from f g (s + 1) n (λ j high less. let higher : s ≤ j = omega arith in let lower : j < s + suc n = omega arith in same j higher lower) i)
    ∙ sym (sum_by-cons g s (range_with_len (s + 1) n))

-- sums that agree below a bound
pub sum_below : (f g : ℕ → ℕ) (n : ℕ) → ((j : ℕ) → j < n → f j ≡ g j) → sum_by f (below n) ≡ sum_by g (below n)
sum_below f g n same = sum_from f g 0 n (λ j high less. let low : j < n = omega arith in same j low)

pub sum_mapped : {X Y : Type 0} (f : Y → ℕ) (g : X → Y) (xs : List X) → sum_by f (map g xs) ≡ sum_by (λ x. f (g x)) xs
sum_mapped f g [] = refl
sum_mapped f g (x ∷ xs) = sum_by-cons f (g x) (map g xs) ∙ ap (λ n. f (g x) + n) (sum_mapped f g xs) ∙ sym (sum_by-cons (λ y. f (g y)) x xs)

sum_same : {X : Type 0} (f g : X → ℕ) (xs : List X) → ((x : X) → f x ≡ g x) → sum_by f xs ≡ sum_by g xs
sum_same f g [] same = refl
sum_same f g (x ∷ xs) same = sum_by-cons f x xs ∙ (λ i. same x i + sum_same f g xs same i) ∙ sym (sum_by-cons g x xs)

sum_option : {X : Type 0} (g : X → ℕ) (o : Option X) (rest : List X) → sum_by g (option_to_list o ++ rest) ≡ option_map_or g o 0 + sum_by g rest
sum_option g None rest = omega arith
sum_option g (Some x) rest = sum_by-cons g x rest

pub sum_sparse : {X : Type 0} (g : X → ℕ) (f : ℕ → Option X) (xs : List ℕ) → sum_by g (sparse f xs) ≡ sum_by (λ a. option_map_or g (f a) 0) xs
sum_sparse g f [] = refl
sum_sparse g f (a ∷ xs) = sum_option g (f a) (sparse f xs) ∙ ap (λ n. option_map_or g (f a) 0 + n) (sum_sparse g f xs) ∙ sym (sum_by-cons (λ b. option_map_or g (f b) 0) a xs)

-- sums that agree for members that pass
sum_passing : {X : Type 0} (p : X → Bool) (f g : X → ℕ) (xs : List X) → list_all p xs ≡ true → ((x : X) → p x ≡ true → f x ≡ g x) → sum_by f xs ≡ sum_by g xs
sum_passing p f g [] all same = refl
sum_passing p f g (x ∷ xs) all same =
    let parts = and_parts (p x) (list_all p xs) all in
    sum_by-cons f x xs ∙ (λ i. same x parts.0 i + sum_passing p f g xs parts.1 same i) ∙ sym (sum_by-cons g x xs)

-- ---- requests

request_by : (setup : Configuration) (mine : List Event) (h : ℕ) (m : Message) (o : Option Request) → request_in m ≡ o
    → option_map_or (λ (r : Request). request_weight setup.hosts (kept_request setup h mine m).room r.op) o 0 ≡ buffered_request_weight setup mine h m
request_by setup mine h m None is = sym (ap (λ o. option_map_or (λ (r : Request). request_weight setup.hosts (request_room setup h r.tag.0 mine) r.op) o 0) is)
request_by setup mine h m (Some r) is =
    ap (λ room. request_weight setup.hosts room r.op) (room_named setup h mine m r is)
    ∙ sym (ap (λ o. option_map_or (λ (r : Request). request_weight setup.hosts (request_room setup h r.tag.0 mine) r.op) o 0) is)

-- ---- a host

module _ (setup : Configuration) (opening : List (Line × Bytes64)) (mine : List Event) where
  owed_sum : (h : ℕ) → h < setup.hosts → sum_by (λ c. owed_on h c (kept_device setup opening mine)) device_return_channels ≡ sum_by (λ c. device_owed h c mine) device_return_channels
  owed_sum h low =
      sum_passing device_returns (λ c. owed_on h c (kept_device setup opening mine)) (λ c. device_owed h c mine) device_return_channels refl (λ c returns. owed_is setup opening mine h low c returns)

  host_is : (h : ℕ) → h < setup.hosts → weight_of_host setup.hosts (kept_device setup opening mine) h ≡ buffers_weight setup mine h
  host_is h low =
      λ i. 2 * owed_sum h low i + 6 * length (writes_are setup.hosts mine h low i)
      + (ap (sum_by (waiting_weight setup.hosts)) (requests_are setup mine h low) ∙ sum_mapped (waiting_weight setup.hosts) (kept_request setup h mine) (buffered_requests h mine)
      ∙ sum_same (λ m. waiting_weight setup.hosts (kept_request setup h mine m)) (buffered_request_weight setup mine h) (buffered_requests h mine) (λ m. request_by setup mine h m (request_in m) refl)) i

-- ---- a task

task_by : (setup : Configuration) (mine : List Event) → DeviceRun setup mine → (a : ℕ) (o : Option Task) → (directory setup mine).task a ≡ o
    → option_map_or (weight_of_task setup.hosts (kept_rows setup.hosts (directory setup mine))) (option_map (kept_task setup.hosts (lines_left mine a) a) o) 0
    ≡ option_map_or (λ (t : Task). purpose_weight t.purpose (span_len t.span) (unasked_count setup (directory setup mine) mine a t)) o 0
task_by setup mine run a None is = refl
task_by setup mine run a (Some t) is =
    ap (purpose_weight t.purpose (span_len t.span))
    (sum_below _ _ setup.hosts (λ g low. λ i. cond (wanted_by setup (directory setup mine) (directory_is_kept setup mine run).entries t.purpose a t g (within_by setup mine run a t is) low i
    && not (asked_by_is setup mine a g t low i)) 1 0))

-- what the device adds
pub weight_is : (setup : Configuration) (opening : List (Line × Bytes64)) (mine : List Event) → IsOwnRun setup opening device mine → weight_in setup (kept_device setup opening mine) ≡ device_weight setup mine
weight_is setup opening mine list =
    let run = device_list setup opening mine list in
    λ i. sum_below (weight_of_host setup.hosts (kept_device setup opening mine)) (buffers_weight setup mine) setup.hosts (λ h low. host_is setup opening mine h low) i
    + (sum_sparse (weight_of_task setup.hosts (kept_rows setup.hosts (directory setup mine))) (task_of setup.hosts (directory setup mine).task (lines_left mine)) (below setup.lines)
    ∙ sum_same _ (task_weight setup (directory setup mine) mine) (below setup.lines) (λ a. task_by setup mine run a ((directory setup mine).task a) refl)) i

-- ---- pending

some_option : {X : Type 0} (o : Option X) (rest : List X) (b : Bool) → nat_le 1 (length rest) ≡ b → nat_le 1 (length (option_to_list o ++ rest)) ≡ (is_some o || b)
some_option None rest b is = is
some_option (Some x) rest b is = le-leb 1 (suc (length rest)) (omega arith)

some_sparse : {X : Type 0} (f : ℕ → Option X) (xs : List ℕ) → nat_le 1 (length (sparse f xs)) ≡ list_any (λ a. is_some (f a)) xs
some_sparse f [] = refl
some_sparse f (a ∷ xs) = some_option (f a) (sparse f xs) (list_any (λ b. is_some (f b)) xs) (some_sparse f xs)

same_some : {X Y : Type 0} (f : X → Y) (o : Option X) → is_some (option_map f o) ≡ is_some o
same_some f None = refl
same_some f (Some x) = refl

any_same : (p q : ℕ → Bool) (xs : List ℕ) → ((x : ℕ) → p x ≡ q x) → list_any p xs ≡ list_any q xs
any_same p q [] same = refl
any_same p q (x ∷ xs) same = λ i. same x i || any_same p q xs same i

busy_of : (D : Directory) (a : ℕ) (o : Option Task) → D.task a ≡ o → is_some o ≡ true → is_busy D a ≡ true
busy_of D a None is some = absurd (false≢true some)
busy_of D a (Some t) is some = busy_at_task D a t is

some_busy : (setup : Configuration) (mine : List Event) → DeviceRun setup mine → list_any (λ a. is_some ((directory setup mine).task a)) (below setup.lines) ≡ list_any (is_busy (directory setup mine)) (below setup.lines)
some_busy setup mine run =
    let D = directory setup mine in
    same_tests _ _
    (λ some. (let found = any_below (λ a. is_some (D.task a)) setup.lines some in any_at (is_busy D) setup.lines found.0 found.1 (busy_of D found.0 (D.task found.0) refl found.2)))
    (λ busy. (
    let found = any_below (is_busy D) setup.lines busy in
    let by = covering D found.0 found.2 in
    let within = within_by setup mine run by.first by.t by.is in
    let some = some_lines by.t.span in
    let low : by.first < setup.lines = omega arith in
    any_at (λ a. is_some (D.task a)) setup.lines by.first low (ap is_some by.is)
    ))

any_hosts : (p q : ℕ → Bool) (s n : ℕ) → ((j : ℕ) → s ≤ j → j < s + n → p j ≡ q j) → list_any p (range_with_len s n) ≡ list_any q (range_with_len s n)
any_hosts p q s zero same = refl
any_hosts p q s (suc n) same =
    let here : s ≤ s = omega arith in
    let low : s < s + suc n = omega arith in
    λ i. same s here low i || any_hosts p q (s + 1) n (λ j high less. let higher : s ≤ j = omega arith in let lower : j < s + suc n = omega arith in same j higher lower) i

-- whether something is pending at the device
pub pending_is : (setup : Configuration) (opening : List (Line × Bytes64)) (mine : List Event) → IsOwnRun setup opening device mine → pending_in setup (kept_device setup opening mine) ≡ device_pending setup mine
pending_is setup opening mine list =
    let run = device_list setup opening mine list in
    λ i. (some_sparse (task_of setup.hosts (directory setup mine).task (lines_left mine)) (below setup.lines)
    ∙ any_same _ (λ a. is_some ((directory setup mine).task a)) (below setup.lines) (λ a. same_some (kept_task setup.hosts (lines_left mine a) a) ((directory setup mine).task a))
    ∙ some_busy setup mine run) i
    || any_hosts (has_buffered (kept_device setup opening mine)) (holds_message_of mine) 0 setup.hosts
    (λ h high less. (let low : h < setup.hosts = omega arith in
    λ j. nat_le 1 ((ap length (requests_are setup mine h low) ∙ length-map (buffered_requests h mine) (kept_request setup h mine)) j) || nat_le 1 (length (writes_are setup.hosts mine h low j)))) i
