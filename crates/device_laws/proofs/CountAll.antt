-- All acts counted, by what is kept after a list of the device's own events.
use Rattle.std.proofs.Common.{◌≡◌, ℕ, zero, suc, ◌+◌, ◌<◌, ◌≤◌, Bool, true, false, List, [], ◌∷◌, Option, Some, None, cond, find, length, refl, ap, sym, ◌∙◌, subst, arith}
use Rattle.std.specs.Prelude.{count_by, flat_map, is_none, is_some, nat_le, nat_lt, not, option_and_then, option_map, sum_by, ◌&&◌, ◌==◌}
use Rattle.std.specs.List.{list_all}
use Rattle.std.specs.Option.{option_map_or, option_or}
use Rattle.std.proofs.lemmas.Bool.{and_from, and_parts, and_right, cond-true, eq-eqb, false≢true, le-leb, le-ltb}
use Rattle.std.proofs.lemmas.List.{length-append}
use Rattle.std.proofs.lemmas.List.Sums.{sum_by-cons}
use Rattle.std.proofs.lemmas.Option.{none-some}
use Rattle.cxl_message.specs.declared.channels.Channel.{Channel}
use Rattle.cxl_message.specs.declared.events.Act.{Act}
use Rattle.cxl_message.specs.declared.events.Cause.{Cause}
use Rattle.cxl_message.specs.declared.events.Event.{Event}
use Rattle.cxl_message.specs.declared.identifiers.Bytes64.{Bytes64}
use Rattle.cxl_message.specs.declared.identifiers.Line.{Line}
use Rattle.cxl_message.specs.declared.identifiers.Tag.{Tag}
use Rattle.cxl_message.specs.declared.messages.Message.{Message}
use Rattle.cxl_message.specs.declared.opcodes.NdrOp.{NdrOp}
use Rattle.cxl_message.specs.Lists.{below}
use Rattle.cxl_message.specs.Messages.{has_tag}
use Rattle.cxl_message.specs.Setup.{Configuration}
use Rattle.coherence_model.specs.Buffers.{buffered_requests, buffered_writes, message_with}
use Rattle.coherence_model.specs.DeviceActs.{Request, finish_emission, request_in, v3_serve}
use Rattle.coherence_model.specs.DirectoryChanges.{directory}
use Rattle.coherence_model.specs.Emission.{Emission, one_send, two_sends}
use Rattle.coherence_model.specs.Next.{device_return_channels, tag_or_zero}
use Rattle.coherence_model.specs.Tasks.{Purpose, Task}
use Rattle.coherence_model.specs.Words.{one_if, when}
use Rattle.coherence_model.specs.Traces.{device}
use Rattle.entry_laws.proofs.Buffered.{HasDistinctTags, credit_is_no_request, credit_is_no_write, is_taken_on}
use Rattle.device_record.specs.Acts.{act_if, acts_in, acts_of_task, return_acts, serve_acts, tag_named, waiting_acts}
use Rattle.device_record.specs.Answers.{emission_in, finish_row, is_asked_by, is_finished, is_wanted, lacking_in, snoop_of_task, snoop_row}
use Rattle.device_record.specs.Counts.{act_total, acts_for, has_credit_for, is_ready, ready_of, returns_of, serves_of}
use Rattle.device_record.specs.Kept.{kept_device, kept_request, kept_requests, kept_task, kept_tasks, lines_left, task_of}
use Rattle.coherence_model.specs.OwnRuns.{IsOwnRun}
use Rattle.device_record.specs.Record.{CreditRecord, DeviceRecord, TaskRecord, credits_at, owed_on, request_with, requests_at, task_at, writes_at}
use Rattle.device_laws.proofs.Counts.{length_flat, one_act, request_counts}
use Rattle.device_laws.proofs.Lookups.{request_found, requests_are, task_is, writes_are}
use Rattle.device_laws.proofs.OwnFacts.{device_list}
use Rattle.device_laws.proofs.Weights.{sum_below, sum_mapped, sum_sparse}
use Rattle.device_laws.proofs.DeviceRuns.{DeviceRun, directory_is_kept, requests_are_taken, requests_have_distinct_tags, writes_are_taken, writes_have_distinct_tags}

-- ---- each member

abbrev pub Each : {X : Type 0} → (X → Type 0) → List X → Type 0
Each P [] = Unit {0}
Each P (x ∷ xs) = P x × Each P xs

each_to : {X : Type 0} (P Q : X → Type 0) (xs : List X) → ((x : X) → P x → Q x) → Each P xs → Each Q xs
each_to P Q [] step all = tt
each_to P Q (x ∷ xs) step all = (step x all.0, each_to P Q xs step all.1)

each_passing : {X : Type 0} (p : X → Bool) (P Q : X → Type 0) (xs : List X) → list_all p xs ≡ true → ((x : X) → p x ≡ true → P x → Q x) → Each P xs → Each Q xs
each_passing p P Q [] passes step all = tt
each_passing p P Q (x ∷ xs) passes step all = let parts = and_parts (p x) (list_all p xs) passes in (step x parts.0 all.0, each_passing p P Q xs parts.1 step all.1)

sum_each : {X : Type 0} (f g : X → ℕ) (xs : List X) → Each (λ x. f x ≡ g x) xs → sum_by f xs ≡ sum_by g xs
sum_each f g [] all = refl
sum_each f g (x ∷ xs) all = sum_by-cons f x xs ∙ (λ i. all.0 i + sum_each f g xs all.1 i) ∙ sym (sum_by-cons g x xs)

-- ---- each message is the first with its tag

counts_by : {X : Type 0} (p : X → Bool) (x : X) (xs : List X) (y : X) (b : Bool) → p x ≡ b → cond b (Some x) (find p xs) ≡ Some y → (find p xs ≡ Some y → 1 ≤ count_by p xs) → 1 ≤ count_by p (x ∷ xs)
counts_by p x xs y true here is later = subst (λ n. 1 ≤ n) (sym (sum_by-cons (λ z. cond (p z) 1 0) x xs ∙ ap (λ b. cond b 1 0 + count_by p xs) here)) (omega arith)
counts_by p x xs y false here is later =
    let more = later is in subst (λ n. 1 ≤ n) (sym (sum_by-cons (λ z. cond (p z) 1 0) x xs ∙ ap (λ b. cond b 1 0 + count_by p xs) here)) (omega arith)

found_counts : {X : Type 0} (p : X → Bool) (xs : List X) (y : X) → find p xs ≡ Some y → 1 ≤ count_by p xs
found_counts p [] y is = absurd (none-some y is)
found_counts p (x ∷ xs) y is = counts_by p x xs y (p x) refl is (found_counts p xs y)

alone_by : (b : Bool) (n : ℕ) → cond b 1 0 + n ≤ 1 → 1 ≤ n → b ≡ false
alone_by true n few some = absurd (omega arith)
alone_by false n few some = refl

abbrev has_own : Message → Bool
has_own m = has_tag (tag_or_zero m) m

firsts : (ms : List Message) → HasDistinctTags ms → list_all has_own ms ≡ true → Each (λ m. message_with (tag_or_zero m) ms ≡ Some m) ms
firsts [] distinct tagged = tt
firsts (m ∷ ms) distinct tagged =
    let parts = and_parts (has_own m) (list_all has_own ms) tagged in
    let fewer : HasDistinctTags ms = λ k. (let few = distinct k in let step = sum_by-cons (λ z. cond (has_tag k z) 1 0) m ms in omega arith) in (
      cond-true (has_own m) (Some m) (message_with (tag_or_zero m) ms) parts.0,
      each_to (λ n. message_with (tag_or_zero n) ms ≡ Some n) (λ n. message_with (tag_or_zero n) (m ∷ ms) ≡ Some n) ms
          (λ n found. ap (λ b. cond b (Some m) (message_with (tag_or_zero n) ms))
          (alone_by (has_tag (tag_or_zero n) m) (count_by (has_tag (tag_or_zero n)) ms)
          (subst (λ c. c ≤ 1) (sum_by-cons (λ z. cond (has_tag (tag_or_zero n) z) 1 0) m ms) (distinct (tag_or_zero n))) (found_counts (has_tag (tag_or_zero n)) ms n found)) ∙ found)
          (firsts ms fewer parts.1),
    )

own_by : (n : ℕ) → (n == n) ≡ true
own_by n = eq-eqb n n refl

request_tagged : (setup : Configuration) (h : ℕ) (m : Message) → is_taken_on setup h Channel.Req m ≡ true → has_own m ≡ true
request_tagged setup h (Message.Req op meta snp tag line) taken = own_by tag.0
request_tagged setup h (Message.MemWr meta snp tag line bytes) taken = own_by tag.0
request_tagged setup h (Message.BiConflict tag) taken = own_by tag.0
request_tagged setup h (Message.BiRsp op bitag low) taken = absurd (false≢true (and_parts _ _ taken).1)
request_tagged setup h (Message.Ndr op tag) taken = own_by tag.0
request_tagged setup h (Message.MemData tag bytes) taken = own_by tag.0
request_tagged setup h (Message.BiSnp op bitag line span) taken = absurd (false≢true (and_parts _ _ taken).1)
request_tagged setup h (Message.Credit c) taken = absurd (false≢true (sym (credit_is_no_request c) ∙ (and_parts _ _ taken).1))

write_tagged : (setup : Configuration) (h : ℕ) (m : Message) → is_taken_on setup h Channel.Rwd m ≡ true → has_own m ≡ true
write_tagged setup h (Message.Req op meta snp tag line) taken = own_by tag.0
write_tagged setup h (Message.MemWr meta snp tag line bytes) taken = own_by tag.0
write_tagged setup h (Message.BiConflict tag) taken = own_by tag.0
write_tagged setup h (Message.BiRsp op bitag low) taken = absurd (false≢true (and_parts _ _ taken).1)
write_tagged setup h (Message.Ndr op tag) taken = own_by tag.0
write_tagged setup h (Message.MemData tag bytes) taken = own_by tag.0
write_tagged setup h (Message.BiSnp op bitag line span) taken = absurd (false≢true (and_parts _ _ taken).1)
write_tagged setup h (Message.Credit c) taken = absurd (false≢true (sym (credit_is_no_write c) ∙ (and_parts _ _ taken).1))

all_to : (p q : Message → Bool) (ms : List Message) → ((m : Message) → p m ≡ true → q m ≡ true) → list_all p ms ≡ true → list_all q ms ≡ true
all_to p q [] step all = refl
all_to p q (m ∷ ms) step all = let parts = and_parts (p m) (list_all p ms) all in and_from _ _ (step m parts.0) (all_to p q ms step parts.1)

-- ---- Serve

less_one : (n : ℕ) (c : Channel) → is_none (cond (nat_lt n 1) (Some c) None) ≡ nat_le 1 n
less_one zero c = refl
less_one (suc n) c = ap (λ b. is_none (cond b (Some c) None)) (le-ltb (suc n) 1 (omega arith)) ∙ sym (le-leb 1 (suc n) (omega arith))

some_when : (b : Bool) (w : Emission) → is_some (when b w) ≡ b
some_when true w = refl
some_when false w = refl

abbrev paid : List CreditRecord → Emission → Option Emission
paid credits w = when (is_none (lacking_in w.sends credits)) w

ndr_paid : (credits : List CreditRecord) (h : ℕ) (op : NdrOp) (tag : Tag) → is_some (paid credits (one_send h (Message.Ndr op tag))) ≡ nat_le 1 (credits_at h credits).ndr_left
ndr_paid credits h op tag = some_when (is_none (cond (nat_lt (credits_at h credits).ndr_left 1) (Some Channel.Ndr) None)) (one_send h (Message.Ndr op tag)) ∙ less_one (credits_at h credits).ndr_left Channel.Ndr

serve_paid : (setup : Configuration) (h : ℕ) (credits : List CreditRecord) (m : Message) → is_taken_on setup h Channel.Rwd m ≡ true → is_some (option_and_then (paid credits) (v3_serve h (Some m))) ≡ nat_le 1 (credits_at h credits).ndr_left
serve_paid setup h credits (Message.Req op meta snp tag line) taken = absurd (false≢true (and_parts _ _ taken).1)
serve_paid setup h credits (Message.MemWr meta snp tag line bytes) taken = ndr_paid credits h NdrOp.Cmp tag
serve_paid setup h credits (Message.BiConflict tag) taken = ndr_paid credits h NdrOp.ConflictAck tag
serve_paid setup h credits (Message.BiRsp op bitag low) taken = absurd (false≢true (and_parts _ _ taken).1)
serve_paid setup h credits (Message.Ndr op tag) taken = absurd (false≢true (and_parts _ _ taken).1)
serve_paid setup h credits (Message.MemData tag bytes) taken = absurd (false≢true (and_parts _ _ taken).1)
serve_paid setup h credits (Message.BiSnp op bitag line span) taken = absurd (false≢true (and_parts _ _ taken).1)
serve_paid setup h credits (Message.Credit c) taken = absurd (false≢true (sym (credit_is_no_write c) ∙ (and_parts _ _ taken).1))

one_more : (n : ℕ) → 1 + n ≡ suc n
one_more n = omega arith

sum_const : {X : Type 0} (b : Bool) (xs : List X) → sum_by (λ x. one_if b) xs ≡ cond b (length xs) 0
sum_const true [] = refl
sum_const true (x ∷ xs) = sum_by-cons (λ y. 1) x xs ∙ ap (λ n. 1 + n) (sum_const true xs) ∙ one_more (length xs)
sum_const false [] = refl
sum_const false (x ∷ xs) = sum_by-cons (λ y. 0) x xs ∙ ap (λ n. 0 + n) (sum_const false xs)

module _ (setup : Configuration) (opening : List (Line × Bytes64)) (mine : List Event) (run : DeviceRun setup mine) where
  serves_count : (h : ℕ) → h < setup.hosts → length (flat_map (serve_acts setup (kept_device setup opening mine) h) (writes_at h (kept_device setup opening mine).writes)) ≡ serves_of (kept_device setup opening mine) h
  serves_count h low =
      let k = kept_device setup opening mine in
      let are = writes_are setup.hosts mine h low in
      let ms : List Message = buffered_writes h mine in
      let taken = writes_are_taken setup mine run h in
      ap (λ l. length (flat_map (serve_acts setup k h) l)) are ∙ length_flat (serve_acts setup k h) (buffered_writes h mine)
      ∙ sum_each (λ m. length (serve_acts setup k h m)) (λ m. one_if (nat_le 1 (credits_at h k.credits).ndr_left)) (buffered_writes h mine)
      (each_passing (is_taken_on setup h Channel.Rwd) (λ m. message_with (tag_or_zero m) (buffered_writes h mine) ≡ Some m) _ (buffered_writes h mine) taken
      (λ m on first. one_act (is_some (emission_in setup (Cause.Act (Act.Serve h (tag_named m))) k)) (Act.Serve h (tag_named m))
      ∙ ap one_if (ap (λ l. is_some (option_and_then (paid k.credits) (v3_serve h (message_with (tag_or_zero m) l)))) are
      ∙ ap (λ o. is_some (option_and_then (paid k.credits) (v3_serve h o))) first ∙ serve_paid setup h k.credits m on))
      (firsts (buffered_writes h mine) (writes_have_distinct_tags setup mine run h) (all_to (is_taken_on setup h Channel.Rwd) has_own (buffered_writes h mine) (write_tagged setup h) taken)))
      ∙ sum_const (nat_le 1 (credits_at h k.credits).ndr_left) (buffered_writes h mine)
      ∙ ap (λ l. cond (nat_le 1 (credits_at h k.credits).ndr_left) (length l) 0) (sym are)

-- ---- Clean, Start and Evict

-- a Req message that is taken is a request
request_there : (setup : Configuration) (h : ℕ) (m : Message) → is_taken_on setup h Channel.Req m ≡ true → (r : Request) × (request_in m ≡ Some r)
request_there setup h (Message.Req op meta snp tag line) taken = (record { op = op; tag = tag; line = line.0 }, refl)
request_there setup h (Message.MemWr meta snp tag line bytes) taken = absurd (false≢true (and_parts _ _ taken).1)
request_there setup h (Message.BiConflict tag) taken = absurd (false≢true (and_parts _ _ taken).1)
request_there setup h (Message.BiRsp op bitag low) taken = absurd (false≢true (and_parts _ _ taken).1)
request_there setup h (Message.Ndr op tag) taken = absurd (false≢true (and_parts _ _ taken).1)
request_there setup h (Message.MemData tag bytes) taken = absurd (false≢true (and_parts _ _ taken).1)
request_there setup h (Message.BiSnp op bitag line span) taken = absurd (false≢true (and_parts _ _ taken).1)
request_there setup h (Message.Credit c) taken = absurd (false≢true (sym (credit_is_no_request c) ∙ (and_parts _ _ taken).1))

one_is : (b : Bool) → one_if b ≡ cond b 1 0
one_is true = refl
one_is false = refl

-- a count is a sum of ones
same_counts : {X : Type 0} (p : X → Bool) (xs : List X) → sum_by (λ x. one_if (p x)) xs ≡ count_by p xs
same_counts p [] = refl
same_counts p (x ∷ xs) = sum_by-cons (λ y. one_if (p y)) x xs ∙ (λ i. one_is (p x) i + same_counts p xs i) ∙ sym (sum_by-cons (λ y. cond (p y) 1 0) x xs)

requests_count : (setup : Configuration) (opening : List (Line × Bytes64)) (mine : List Event) → DeviceRun setup mine → (h : ℕ) → h < setup.hosts
    → length (flat_map (waiting_acts setup (kept_device setup opening mine) h) (requests_at h (kept_device setup opening mine).requests)) ≡ ready_of (kept_device setup opening mine) h
requests_count setup opening mine run h low =
    let k = kept_device setup opening mine in
    let are = requests_are setup mine h low in
    let taken = requests_are_taken setup mine run h in
    ap (λ l. length (flat_map (waiting_acts setup k h) l)) are ∙ length_flat (waiting_acts setup k h) (kept_requests setup mine h)
    ∙ sum_mapped (λ w. length (waiting_acts setup k h w)) (kept_request setup h mine) (buffered_requests h mine)
    ∙ sum_each (λ m. length (waiting_acts setup k h (kept_request setup h mine m))) (λ m. one_if (is_ready k h (kept_request setup h mine m))) (buffered_requests h mine)
    (each_passing (is_taken_on setup h Channel.Req) (λ m. message_with (tag_or_zero m) (buffered_requests h mine) ≡ Some m) _ (buffered_requests h mine) taken
    (λ m on first. (let there = request_there setup h m on in
    request_counts setup k h (kept_request setup h mine m) there.0 there.1
    (ap (request_with (tag_or_zero m)) are ∙ request_found setup h (tag_or_zero m) mine (buffered_requests h mine) ∙ ap (option_map (kept_request setup h mine)) first)))
    (firsts (buffered_requests h mine) (requests_have_distinct_tags setup mine run h) (all_to (is_taken_on setup h Channel.Req) has_own (buffered_requests h mine) (request_tagged setup h) taken)))
    ∙ sym (sum_mapped (λ w. one_if (is_ready k h w)) (kept_request setup h mine) (buffered_requests h mine))
    ∙ same_counts (is_ready k h) (kept_requests setup mine h)
    ∙ ap (count_by (is_ready k h)) (sym are)

-- ---- Snoop and Finish

snoop_by : (k : DeviceRecord) (h : ℕ) (t : TaskRecord) (b : Bool) → is_some (option_and_then (paid k.credits) (when b (one_send h (snoop_of_task t)))) ≡ (b && nat_le 1 (credits_at h k.credits).snp_left)
snoop_by k h t true = some_when (is_none (cond (nat_lt (credits_at h k.credits).snp_left 1) (Some Channel.BiSnp) None)) (one_send h (snoop_of_task t)) ∙ less_one (credits_at h k.credits).snp_left Channel.BiSnp
snoop_by k h t false = refl

none_of_two : (a b : Option Channel) → is_none (option_or a b) ≡ (is_none a && is_none b)
none_of_two None b = refl
none_of_two (Some c) b = refl

grant_by : (k : DeviceRecord) (h tag : ℕ) (c : NdrOp) (bytes : Bytes64)
    → is_some (paid k.credits (two_sends h (Message.Ndr c (record { 0 = tag })) (Message.MemData (record { 0 = tag }) bytes))) ≡ (nat_le 1 (credits_at h k.credits).ndr_left && nat_le 1 (credits_at h k.credits).drs_left)
grant_by k h tag c bytes =
    some_when (is_none (option_or (cond (nat_lt (credits_at h k.credits).ndr_left (cond ((h == h) && false) 2 1)) (Some Channel.Ndr) None) (cond (nat_lt (credits_at h k.credits).drs_left 1) (Some Channel.Drs) None)))
    (two_sends h (Message.Ndr c (record { 0 = tag })) (Message.MemData (record { 0 = tag }) bytes))
    ∙ ap (λ b. is_none (option_or (cond (nat_lt (credits_at h k.credits).ndr_left (cond b 2 1)) (Some Channel.Ndr) None) (cond (nat_lt (credits_at h k.credits).drs_left 1) (Some Channel.Drs) None))) (and_right (h == h) false refl)
    ∙ none_of_two (cond (nat_lt (credits_at h k.credits).ndr_left 1) (Some Channel.Ndr) None) (cond (nat_lt (credits_at h k.credits).drs_left 1) (Some Channel.Drs) None)
    ∙ (λ i. less_one (credits_at h k.credits).ndr_left Channel.Ndr i && less_one (credits_at h k.credits).drs_left Channel.Drs i)

finish_paid : (k : DeviceRecord) (p : Purpose) (c : NdrOp) (h tag : ℕ) (bytes : Bytes64) → is_some (paid k.credits (finish_emission p c h tag bytes)) ≡ has_credit_for p (credits_at h k.credits)
finish_paid k Purpose.SharedRead c h tag bytes = grant_by k h tag c bytes
finish_paid k Purpose.OwningRead c h tag bytes = grant_by k h tag NdrOp.CmpE bytes
finish_paid k Purpose.Invalidation c h tag bytes = ndr_paid k.credits h NdrOp.CmpE (record { 0 = tag })
finish_paid k Purpose.Eviction c h tag bytes = refl

finish_by : (k : DeviceRecord) (b : Bool) (w : Emission) → is_some (option_and_then (paid k.credits) (when b w)) ≡ (b && is_some (paid k.credits w))
finish_by k true w = refl
finish_by k false w = refl

-- the acts for a task that is the one of its line
task_counts : (setup : Configuration) (k : DeviceRecord) (t : TaskRecord) → task_at t.first k.tasks ≡ Some t → length (acts_of_task setup k t) ≡ acts_for setup k t
task_counts setup k t found =
    length-append (flat_map (λ h. act_if setup k (Act.Snoop h (record { 0 = t.first }))) (below setup.hosts)) (act_if setup k (Act.Finish (record { 0 = t.first })))
    ∙ (λ i. (length_flat (λ h. act_if setup k (Act.Snoop h (record { 0 = t.first }))) (below setup.hosts)
    ∙ sum_below (λ h. length (act_if setup k (Act.Snoop h (record { 0 = t.first })))) (λ h. one_if (is_wanted k.filter.rows t h && not (is_asked_by h t) && nat_le 1 (credits_at h k.credits).snp_left)) setup.hosts
    (λ h low. one_act (is_some (emission_in setup (Cause.Act (Act.Snoop h (record { 0 = t.first }))) k)) (Act.Snoop h (record { 0 = t.first }))
    ∙ ap one_if (ap (λ o. is_some (option_and_then (paid k.credits) (option_and_then (snoop_row h k.filter.rows) o))) found ∙ snoop_by k h t (is_wanted k.filter.rows t h && not (is_asked_by h t))))
    ∙ same_counts (λ h. is_wanted k.filter.rows t h && not (is_asked_by h t) && nat_le 1 (credits_at h k.credits).snp_left) (below setup.hosts)) i
    + (one_act (is_some (emission_in setup (Cause.Act (Act.Finish (record { 0 = t.first }))) k)) (Act.Finish (record { 0 = t.first }))
    ∙ ap one_if (ap (λ o. is_some (option_and_then (paid k.credits) (option_and_then (finish_row setup k) o))) found
    ∙ finish_by k (is_finished setup.hosts k.filter.rows t) _ ∙ ap (λ b. is_finished setup.hosts k.filter.rows t && b) (finish_paid k t.purpose _ t.host t.tag _))) i)

task_by : (setup : Configuration) (opening : List (Line × Bytes64)) (mine : List Event) → DeviceRun setup mine → (a : ℕ) (o : Option Task) → (directory setup mine).task a ≡ o
    → option_map_or (λ t. length (acts_of_task setup (kept_device setup opening mine) t)) (option_map (kept_task setup.hosts (lines_left mine a) a) o) 0
    ≡ option_map_or (acts_for setup (kept_device setup opening mine)) (option_map (kept_task setup.hosts (lines_left mine a) a) o) 0
task_by setup opening mine run a None is = refl
task_by setup opening mine run a (Some t) is =
    task_counts setup (kept_device setup opening mine) (kept_task setup.hosts (lines_left mine a) a t)
    (task_is setup.hosts setup.lines (directory setup mine).task (lines_left mine) (directory_is_kept setup mine run).tasks a ∙ ap (option_map (kept_task setup.hosts (lines_left mine a) a)) is)

tasks_count : (setup : Configuration) (opening : List (Line × Bytes64)) (mine : List Event) → DeviceRun setup mine
    → length (flat_map (acts_of_task setup (kept_device setup opening mine)) (kept_tasks setup mine)) ≡ sum_by (acts_for setup (kept_device setup opening mine)) (kept_tasks setup mine)
tasks_count setup opening mine run =
    let k = kept_device setup opening mine in
    let f : ℕ → Option TaskRecord = task_of setup.hosts (directory setup mine).task (lines_left mine) in
    length_flat (acts_of_task setup k) (kept_tasks setup mine)
    ∙ sum_sparse (λ t. length (acts_of_task setup k t)) f (below setup.lines)
    ∙ sum_below (λ a. option_map_or (λ t. length (acts_of_task setup k t)) (f a) 0) (λ a. option_map_or (acts_for setup k) (f a) 0) setup.lines
    (λ a low. task_by setup opening mine run a ((directory setup mine).task a) refl)
    ∙ sym (sum_sparse (acts_for setup k) f (below setup.lines))

-- ---- the returns

return_by : (k : DeviceRecord) (h : ℕ) (b : Bool) (c : Channel) → is_some (option_and_then (paid k.credits) (when b (one_send h (Message.Credit c)))) ≡ (b && is_some (paid k.credits (one_send h (Message.Credit c))))
return_by k h true c = refl
return_by k h false c = refl

and_true : (b : Bool) → (b && true) ≡ b
and_true true = refl
and_true false = refl

returns_count : (setup : Configuration) (k : DeviceRecord) (h : ℕ) → length (return_acts setup k h) ≡ returns_of k h
returns_count setup k h =
    length_flat (λ c. act_if setup k (Act.DeviceReturn h c)) device_return_channels
    ∙ sum_each (λ c. length (act_if setup k (Act.DeviceReturn h c))) (λ c. one_if (nat_le 1 (owed_on h c k))) device_return_channels (
      one_act (is_some (emission_in setup (Cause.Act (Act.DeviceReturn h Channel.Req)) k)) (Act.DeviceReturn h Channel.Req) ∙ ap one_if (return_by k h (nat_le 1 (owed_on h Channel.Req k)) Channel.Req ∙ and_true (nat_le 1 (owed_on h Channel.Req k))),
      (
        one_act (is_some (emission_in setup (Cause.Act (Act.DeviceReturn h Channel.Rwd)) k)) (Act.DeviceReturn h Channel.Rwd) ∙ ap one_if (return_by k h (nat_le 1 (owed_on h Channel.Rwd k)) Channel.Rwd ∙ and_true (nat_le 1 (owed_on h Channel.Rwd k))),
        (one_act (is_some (emission_in setup (Cause.Act (Act.DeviceReturn h Channel.BiRsp)) k)) (Act.DeviceReturn h Channel.BiRsp) ∙ ap one_if (return_by k h (nat_le 1 (owed_on h Channel.BiRsp k)) Channel.BiRsp ∙ and_true (nat_le 1 (owed_on h Channel.BiRsp k))), tt),
      ),
    )
    ∙ same_counts (λ c. nat_le 1 (owed_on h c k)) device_return_channels

-- ---- all of them

by_hosts : (hosts : ℕ) (f : ℕ → List Act) (g : ℕ → ℕ) → ((h : ℕ) → h < hosts → length (f h) ≡ g h) → length (flat_map f (below hosts)) ≡ sum_by g (below hosts)
by_hosts hosts f g same = length_flat f (below hosts) ∙ sum_below (λ h. length (f h)) g hosts same

-- the number of allowed acts is the sum of what each waits for
pub acts_counted : (setup : Configuration) (opening : List (Line × Bytes64)) (mine : List Event) → IsOwnRun setup opening device mine
    → length (acts_in setup (kept_device setup opening mine)) ≡ act_total setup (kept_device setup opening mine)
acts_counted setup opening mine list =
    let run = device_list setup opening mine list in
    let k = kept_device setup opening mine in
    length-append _ (flat_map (return_acts setup k) (below setup.hosts))
    ∙ (λ i. (length-append _ (flat_map (acts_of_task setup k) k.tasks)
    ∙ (λ j. (length-append (flat_map (λ h. flat_map (serve_acts setup k h) (writes_at h k.writes)) (below setup.hosts)) (flat_map (λ h. flat_map (waiting_acts setup k h) (requests_at h k.requests)) (below setup.hosts))
    ∙ (λ l. by_hosts setup.hosts (λ h. flat_map (serve_acts setup k h) (writes_at h k.writes)) (serves_of k) (serves_count setup opening mine run) l
    + by_hosts setup.hosts (λ h. flat_map (waiting_acts setup k h) (requests_at h k.requests)) (ready_of k) (requests_count setup opening mine run) l)) j
    + tasks_count setup opening mine run j)) i
    + by_hosts setup.hosts (return_acts setup k) (returns_of k) (λ h low. returns_count setup k h) i)
