-- The record of a device that stands for a list of its own events is steady.
use Rattle.std.proofs.Common.{◌≡◌, ℕ, zero, suc, ◌+◌, ◌-◌, ◌<◌, ◌≤◌, Bool, true, false, IsTrue, List, [], ◌∷◌, ◌++◌, Option, Some, None, cond, find, length, map, refl, ap, sym, ◌∙◌, subst, ◌⊎◌, inl, inr, arith}
use Rattle.std.specs.Prelude.{nat_lt, not, option_and_then, option_map, option_to_list, slice_get, unwrap_or, ◌&&◌, ◌==◌, ◌||◌}
use Rattle.std.specs.List.{range_with_len}
use Rattle.std.specs.Option.{option_map_or}
use Rattle.std.proofs.lemmas.Bool.{and_parts, eqb-true, false≢true, ltb-true, ltb-false}
use Rattle.std.proofs.lemmas.List.{length-map}
use Rattle.std.proofs.lemmas.List.FromFn.{length-range_with_len}
use Rattle.std.proofs.lemmas.Option.{none-some}
use Rattle.cxl_message.specs.declared.channels.Channel.{Channel}
use Rattle.cxl_message.specs.declared.events.Event.{Event}
use Rattle.cxl_message.specs.declared.identifiers.Bytes64.{Bytes64}
use Rattle.cxl_message.specs.declared.identifiers.Line.{Line}
use Rattle.cxl_message.specs.declared.messages.Message.{Message}
use Rattle.cxl_message.specs.Codes.{channel_eq, span_len}
use Rattle.cxl_message.specs.Lists.{below, is_in}
use Rattle.cxl_message.specs.Messages.{channel_of, has_tag, tag_of}
use Rattle.cxl_message.specs.Profile.{in_profile}
use Rattle.cxl_message.specs.Setup.{Configuration, IsWithinLimits}
use Rattle.cxl_message.specs.Spans.{covers}
use Rattle.coherence_model.specs.Buffers.{buffered_requests, buffered_writes, message_with}
use Rattle.coherence_model.specs.Credits.{held_count}
use Rattle.coherence_model.specs.DeviceActs.{Request, request_in}
use Rattle.coherence_model.specs.Directory.{Directory}
use Rattle.coherence_model.specs.DirectoryChanges.{directory}
use Rattle.coherence_model.specs.Fitting.{goes_to, is_addressed, message_fits, take_fits}
use Rattle.coherence_model.specs.Memory.{write_in}
use Rattle.coherence_model.specs.OwnRuns.{IsOwnRun}
use Rattle.coherence_model.specs.Room.{Room, is_reservation, request_room, reservation_count}
use Rattle.coherence_model.specs.SentSnoops.{SentSnoop, sent_snoop_at}
use Rattle.coherence_model.specs.Tasks.{Task}
use Rattle.coherence_model.specs.Traces.{device}
use Rattle.entry_laws.proofs.Blocks.{covers_from, covers_parts}
use Rattle.entry_laws.proofs.Buffered.{all_found, is_taken_on}
use Rattle.entry_laws.proofs.Counts.{is_pair, pair_exists, pairs_at_least}
use Rattle.entry_laws.proofs.Suffice.{entries_do_suffice}
use Rattle.entry_laws.proofs.Tasks.{busy_from, same_task}
use Rattle.device_record.specs.Answers.{request_of}
use Rattle.device_record.specs.Kept.{kept_credits, kept_device, kept_request, kept_requests, kept_row, kept_task, lines_left, room_in}
use Rattle.device_record.specs.Record.{CreditRecord, DeviceRecord, TaskRecord, WaitingRequest, credits_at, left_at, no_credits, request_with, requests_at, task_at, writes_at}
use Rattle.device_record.specs.Sparse.{sparse}
use Rattle.device_record.specs.Steady.{AscendFrom, HasTables, IsCredited, IsPlaced, IsSteady}
use Rattle.device_laws.specs.Laws.{KeptIsSteady}
use Rattle.device_laws.proofs.AnswerActs.{line_named}
use Rattle.device_laws.proofs.AnswerTakes.{left_is}
use Rattle.device_laws.proofs.Bounds.{held_within, left_within}
use Rattle.device_laws.proofs.DeviceRuns.{DeviceRun, directory_is_kept, requests_are_taken, tasks_are_shaped, writes_are_taken}
use Rattle.device_laws.proofs.FilterLookups.{held_is}
use Rattle.device_laws.proofs.Lookups.{request_is, requests_are, task_is, tasks_keyed, writes_are}
use Rattle.device_laws.proofs.OwnFacts.{device_list, returned_within}
use Rattle.device_laws.proofs.Sparse.{IsKeyed}
use Rattle.device_laws.proofs.Tables.{get_table, none_past}

-- both sides of a bound by equations
subst2 : {a b c d : ℕ} → a ≡ b → c ≡ d → b ≤ d → a ≤ c
subst2 {a} {b} {c} {d} left right low = subst (λ x. x ≤ c) (sym left) (subst (λ y. b ≤ y) (sym right) low)

-- ---- tables

pub table_len : {X : Type 0} (f : ℕ → X) (n : ℕ) → length (map f (below n)) ≡ n
table_len f n = length-map (below n) f ∙ length-range_with_len 0 n

tables_are : (setup : Configuration) (opening : List (Line × Bytes64)) (mine : List Event) → HasTables setup (kept_device setup opening mine)
tables_are setup opening mine =
    record {
      memory = table_len _ setup.lines;
      requests = table_len _ setup.hosts;
      writes = table_len _ setup.hosts;
      credits = table_len _ setup.hosts;
      filter_hosts = refl;
      filter_lines = refl;
      filter_entries = refl;
    }

-- ---- hosts

credits_by : (setup : Configuration) (opening : List (Line × Bytes64)) (mine : List Event) → IsOwnRun setup opening device mine → (h : ℕ) → IsCredited setup.credits (kept_credits setup mine h)
credits_by setup opening mine run h =
    record {
      req = held_within setup opening h Channel.Req refl mine run;
      rwd = held_within setup opening h Channel.Rwd refl mine run;
      rsp = held_within setup opening h Channel.BiRsp refl mine run;
      ndr = left_within setup opening h Channel.Ndr mine run;
      drs = left_within setup opening h Channel.Drs mine run;
      snp = left_within setup opening h Channel.BiSnp mine run;
    }

none_credited : (n : ℕ) → IsCredited n no_credits
none_credited n = record { req = omega arith; rwd = omega arith; rsp = omega arith; ndr = omega arith; drs = omega arith; snp = omega arith }

-- of each host what is kept of it, and nothing of what is no host
by_host : {X : Type 0} (f : ℕ → X) (none : X) (n h : ℕ) (P : X → Type 0) → (h < n → P (f h)) → P none → P (unwrap_or (slice_get (map f (below n)) h) none)
by_host {X} f none n h P here past = by (nat_lt h n) refl where
  by : (b : Bool) → nat_lt h n ≡ b → P (unwrap_or (slice_get (map f (below n)) h) none)
  by true is = let low : h < n = ltb-true h n is in subst (λ o. P (unwrap_or o none)) (sym (get_table f n h low)) (here low)
  by false is = let high : n ≤ h = ltb-false h n is in subst (λ o. P (unwrap_or o none)) (sym (none_past f n h high)) past

credits_are : (setup : Configuration) (opening : List (Line × Bytes64)) (mine : List Event) → IsOwnRun setup opening device mine → (h : ℕ) → IsCredited setup.credits (credits_at h (kept_device setup opening mine).credits)
credits_are setup opening mine run h =
    by_host (kept_credits setup mine) no_credits setup.hosts h (λ c. IsCredited setup.credits c) (λ low. credits_by setup opening mine run h) (none_credited setup.credits)

-- no more is buffered than is held
buffered_fit :
    (setup : Configuration) (opening : List (Line × Bytes64)) (mine : List Event) → IsOwnRun setup opening device mine → (h : ℕ) (b : Bool) → nat_lt h setup.hosts ≡ b
    → (length (requests_at h (kept_device setup opening mine).requests) ≤ (credits_at h (kept_device setup opening mine).credits).req_held)
    × (length (writes_at h (kept_device setup opening mine).writes) ≤ (credits_at h (kept_device setup opening mine).credits).rwd_held)
buffered_fit setup opening mine run h true is =
    let low : h < setup.hosts = ltb-true h setup.hosts is in
    let credits = ap (λ o. unwrap_or o no_credits) (get_table (kept_credits setup mine) setup.hosts h low) in
    let requests = ap length (requests_are setup mine h low) ∙ length-map (buffered_requests h mine) (kept_request setup h mine) in
    let writes = ap length (writes_are setup.hosts mine h low) in
    let req_kept = returned_within setup opening h Channel.Req refl mine run in
    let rwd_kept = returned_within setup opening h Channel.Rwd refl mine run in
    let req : length (buffered_requests h mine) ≤ held_count h Channel.Req mine = omega arith in
    let rwd : length (buffered_writes h mine) ≤ held_count h Channel.Rwd mine = omega arith in
    (subst2 requests (ap (λ (c : CreditRecord). c.req_held) credits) req, subst2 writes (ap (λ (c : CreditRecord). c.rwd_held) credits) rwd)
buffered_fit setup opening mine run h false is =
    let high : setup.hosts ≤ h = ltb-false h setup.hosts is in
    let credits = ap (λ o. unwrap_or o no_credits) (none_past (kept_credits setup mine) setup.hosts h high) in
    let requests : length (requests_at h (kept_device setup opening mine).requests) ≡ 0 = ap (λ o. length (unwrap_or o [])) (none_past (kept_requests setup mine) setup.hosts h high) in
    let writes : length (writes_at h (kept_device setup opening mine).writes) ≡ 0 = ap (λ o. length (unwrap_or o [])) (none_past (λ k. buffered_writes k mine) setup.hosts h high) in
    (omega (arith, requests), omega (arith, writes))

-- ---- buffered messages

found_by : (p : Message → Bool) (n m : Message) (rest : Option Message) (b : Bool) → p n ≡ b → cond b (Some n) rest ≡ Some m → (rest ≡ Some m → p m ≡ true) → p m ≡ true
found_by p n m rest true is found more = let same : n ≡ m = cc in ap p (sym same) ∙ is
found_by p n m rest false is found more = more found

-- what was found passes the test
found_has : (p : Message → Bool) (ms : List Message) (m : Message) → find p ms ≡ Some m → p m ≡ true
found_has p [] m found = absurd (none-some m found)
found_has p (n ∷ ms) m found = found_by p n m (find p ms) (p n) refl found (found_has p ms m)

-- a buffered request that was found: its message, which was taken from its host
record FoundRequest (setup : Configuration) (mine : List Event) (h tag : ℕ) (w : WaitingRequest) : Type 0 where
  m : Message
  is : message_with tag (buffered_requests h mine) ≡ Some m
  same : kept_request setup h mine m ≡ w
  taken : is_taken_on setup h Channel.Req m ≡ true
  host : nat_lt h setup.hosts ≡ true

request_by : (setup : Configuration) (mine : List Event) (run : DeviceRun setup mine) (h tag : ℕ) (w : WaitingRequest) → nat_lt h setup.hosts ≡ true → (o : Option Message)
    → message_with tag (buffered_requests h mine) ≡ o → option_map (kept_request setup h mine) o ≡ Some w → FoundRequest setup mine h tag w
request_by setup mine run h tag w host None is found = absurd (none-some w found)
request_by setup mine run h tag w host (Some m) is found =
    record {
      m = m;
      is = is;
      same = cc;
      taken = all_found (has_tag tag) (is_taken_on setup h Channel.Req) (buffered_requests h mine) m (requests_are_taken setup mine run h) is;
      host = host;
    }

request_found_by : (setup : Configuration) (mine : List Event) (run : DeviceRun setup mine) (h tag : ℕ) (w : WaitingRequest) (b : Bool) → nat_lt h setup.hosts ≡ b
    → request_with tag (requests_at h (map (kept_requests setup mine) (below setup.hosts))) ≡ Some w → FoundRequest setup mine h tag w
request_found_by setup mine run h tag w true is found =
    request_by setup mine run h tag w is (message_with tag (buffered_requests h mine)) refl (sym (request_is setup mine h tag (ltb-true h setup.hosts is)) ∙ found)
request_found_by setup mine run h tag w false is found =
    absurd (none-some w (sym (ap (λ o. request_with tag (unwrap_or o [])) (none_past (kept_requests setup mine) setup.hosts h (ltb-false h setup.hosts is))) ∙ found))

-- its line exists
line_fits : (setup : Configuration) (opening : List (Line × Bytes64)) (mine : List Event) (run : DeviceRun setup mine) (h tag : ℕ) (w : WaitingRequest) (r : Request)
    → request_with tag (requests_at h (kept_device setup opening mine).requests) ≡ Some w → request_of w ≡ Some r → r.line < setup.lines
line_fits setup opening mine run h tag w r found is =
    let at = request_found_by setup mine run h tag w (nat_lt h setup.hosts) refl found in
    line_named setup h at.m r (ap (λ (x : WaitingRequest). request_in x.message) at.same ∙ is) at.taken

-- what isn't on Req isn't taken from there
no_request : (setup : Configuration) (h : ℕ) (m : Message) → channel_eq (channel_of m) Channel.Req ≡ false → is_taken_on setup h Channel.Req m ≡ true → ⊥
no_request setup h m other taken = false≢true (sym other ∙ (and_parts (take_fits setup device h m) (channel_eq (channel_of m) Channel.Req) taken).1)

credit_no_request : (setup : Configuration) (h : ℕ) (c : Channel) → is_taken_on setup h Channel.Req (Message.Credit c) ≡ true → ⊥
credit_no_request setup h Channel.Req taken = no_request setup h (Message.Credit Channel.Req) refl taken
credit_no_request setup h Channel.Rwd taken = no_request setup h (Message.Credit Channel.Rwd) refl taken
credit_no_request setup h Channel.BiRsp taken = no_request setup h (Message.Credit Channel.BiRsp) refl taken
credit_no_request setup h Channel.Ndr taken = no_request setup h (Message.Credit Channel.Ndr) refl taken
credit_no_request setup h Channel.Drs taken = no_request setup h (Message.Credit Channel.Drs) refl taken
credit_no_request setup h Channel.BiSnp taken = no_request setup h (Message.Credit Channel.BiSnp) refl taken
credit_no_request setup h Channel.CreditUp taken = no_request setup h (Message.Credit Channel.CreditUp) refl taken
credit_no_request setup h Channel.CreditDown taken = no_request setup h (Message.Credit Channel.CreditDown) refl taken

tag_named : (setup : Configuration) (h tag : ℕ) (m : Message) → has_tag tag m ≡ true → is_taken_on setup h Channel.Req m ≡ true → (nat_lt tag setup.tags ≡ true) × (tag_of m ≡ Some tag)
tag_named setup h tag (Message.Req op meta snp own line) tagged taken =
    let both = and_parts (take_fits setup device h (Message.Req op meta snp own line)) (channel_eq Channel.Req Channel.Req) taken in
    let named = and_parts (is_addressed setup device h && goes_to device (Message.Req op meta snp own line) && in_profile (Message.Req op meta snp own line)) (message_fits setup (Message.Req op meta snp own line)) both.0 in
    let same = eqb-true own.0 tag tagged in
    (ap (λ n. nat_lt n setup.tags) (sym same) ∙ (and_parts _ _ named.1).0, ap (λ n. Some n) same)
tag_named setup h tag (Message.MemWr meta snp own line bytes) tagged taken = absurd (no_request setup h (Message.MemWr meta snp own line bytes) refl taken)
tag_named setup h tag (Message.BiConflict own) tagged taken = absurd (no_request setup h (Message.BiConflict own) refl taken)
tag_named setup h tag (Message.BiRsp op bitag low) tagged taken = absurd (no_request setup h (Message.BiRsp op bitag low) refl taken)
tag_named setup h tag (Message.Ndr op own) tagged taken = absurd (no_request setup h (Message.Ndr op own) refl taken)
tag_named setup h tag (Message.MemData own bytes) tagged taken = absurd (no_request setup h (Message.MemData own bytes) refl taken)
tag_named setup h tag (Message.BiSnp op bitag line span) tagged taken = absurd (no_request setup h (Message.BiSnp op bitag line span) refl taken)
tag_named setup h tag (Message.Credit c) tagged taken = absurd (credit_no_request setup h c taken)

-- a request with a reservation is counted
one_reserved : (setup : Configuration) (mine : List Event) (h tag : ℕ) → nat_lt h setup.hosts ≡ true → nat_lt tag setup.tags ≡ true → request_room setup h tag mine ≡ Room.Reservation → 1 ≤ reservation_count setup mine
one_reserved setup mine h tag host named room =
    let one = pair_exists h tag setup.hosts setup.tags host named in
    let least = pairs_at_least (λ g t. is_reservation (request_room setup g t mine)) (λ g t. false) (is_pair h tag) setup.hosts setup.tags (λ g t is. absurd (false≢true is))
    (λ g t is. (let parts = and_parts (h == g) (tag == t) is in
    (ap is_reservation (ap (λ x. request_room setup x t mine) (sym (eqb-true h g parts.0)) ∙ ap (λ x. request_room setup h x mine) (sym (eqb-true tag t parts.1)) ∙ room), refl))) in
    omega (arith, one, least)

reserved_fits : (setup : Configuration) (opening : List (Line × Bytes64)) (mine : List Event) (run : DeviceRun setup mine) (h tag : ℕ) (w : WaitingRequest)
    → request_with tag (requests_at h (kept_device setup opening mine).requests) ≡ Some w → w.room ≡ Room.Reservation → 1 ≤ reservation_count setup mine
reserved_fits setup opening mine run h tag w found room =
    let at = request_found_by setup mine run h tag w (nat_lt h setup.hosts) refl found in
    let tagged = found_has (has_tag tag) (buffered_requests h mine) at.m at.is in
    let named = tag_named setup h tag at.m tagged at.taken in
    one_reserved setup mine h tag at.host named.0 (sym (ap (room_in (λ t. request_room setup h t mine)) named.1) ∙ ap (λ (x : WaitingRequest). x.room) at.same ∙ room)

-- ---- writes

write_named : (setup : Configuration) (h : ℕ) (m : Message) (w : ℕ × Bytes64) → is_taken_on setup h Channel.Rwd m ≡ true → write_in m ≡ Some w → w.0 < setup.lines
write_named setup h (Message.Req op meta snp tag line) w taken is = absurd (none-some w is)
write_named setup h (Message.MemWr meta snp tag line bytes) w taken is =
    let m : Message = Message.MemWr meta snp tag line bytes in
    let both = and_parts (take_fits setup device h m) (channel_eq (channel_of m) Channel.Rwd) taken in
    let named = and_parts (is_addressed setup device h && goes_to device m && in_profile m) (message_fits setup m) both.0 in
    let same : (line.0, bytes) ≡ w = cc in
    subst (λ (x : ℕ × Bytes64). x.0 < setup.lines) same (ltb-true line.0 setup.lines (and_parts _ _ named.1).1)
write_named setup h (Message.BiConflict tag) w taken is = absurd (none-some w is)
write_named setup h (Message.BiRsp op bitag low) w taken is = absurd (none-some w is)
write_named setup h (Message.Ndr op tag) w taken is = absurd (none-some w is)
write_named setup h (Message.MemData tag bytes) w taken is = absurd (none-some w is)
write_named setup h (Message.BiSnp op bitag line span) w taken is = absurd (none-some w is)
write_named setup h (Message.Credit c) w taken is = absurd (none-some w is)

write_by : (setup : Configuration) (mine : List Event) (run : DeviceRun setup mine) (h tag : ℕ) (w : ℕ × Bytes64) (o : Option Message) → message_with tag (buffered_writes h mine) ≡ o
    → option_and_then write_in o ≡ Some w → w.0 < setup.lines
write_by setup mine run h tag w None is found = absurd (none-some w found)
write_by setup mine run h tag w (Some m) is found =
    write_named setup h m w (all_found (has_tag tag) (is_taken_on setup h Channel.Rwd) (buffered_writes h mine) m (writes_are_taken setup mine run h) is) found

written_fits : (setup : Configuration) (opening : List (Line × Bytes64)) (mine : List Event) (run : DeviceRun setup mine) (h tag : ℕ) (w : ℕ × Bytes64) (b : Bool) → nat_lt h setup.hosts ≡ b
    → option_and_then write_in (message_with tag (writes_at h (kept_device setup opening mine).writes)) ≡ Some w → w.0 < setup.lines
written_fits setup opening mine run h tag w true is found =
    write_by setup mine run h tag w (message_with tag (buffered_writes h mine)) refl
    (sym (ap (λ ms. option_and_then write_in (message_with tag ms)) (writes_are setup.hosts mine h (ltb-true h setup.hosts is))) ∙ found)
written_fits setup opening mine run h tag w false is found =
    absurd (none-some w (sym (ap (λ o. option_and_then write_in (message_with tag (unwrap_or o []))) (none_past (λ k. buffered_writes k mine) setup.hosts h (ltb-false h setup.hosts is))) ∙ found))

-- ---- tasks

-- what a host has left of a task's snoop is covered by the task
asked_lines : (setup : Configuration) (mine : List Event) (run : DeviceRun setup mine) (h a : ℕ) (task : Task) → (directory setup mine).task a ≡ Some task → (b : ℕ) (o : Option SentSnoop) → sent_snoop_at h a mine ≡ o
    → is_in b (option_map_or (λ (q : SentSnoop). q.unanswered) o []) ≡ true → (a ≤ b) × (b < a + span_len task.span)
asked_lines setup mine run h a task is b None asked there = absurd (false≢true there)
asked_lines setup mine run h a task is b (Some q) asked there =
    let snoop = (directory_is_kept setup mine run).snoops h a q asked in
    let same : task ≡ snoop.t = same_task snoop.t task (sym is ∙ snoop.is) in
    covers_parts a task.span b (subst (λ (t : Task). covers a t.span b ≡ true) (sym same) (snoop.within b there))

left_by : (setup : Configuration) (mine : List Event) (run : DeviceRun setup mine) (a : ℕ) (task : Task) → (directory setup mine).task a ≡ Some task → (h b : ℕ) (low : Bool) → nat_lt h setup.hosts ≡ low
    → is_in b (left_at h (kept_task setup.hosts (lines_left mine a) a task)) ≡ true → (a ≤ b) × (b < a + span_len task.span)
left_by setup mine run a task is h b true low there =
    asked_lines setup mine run h a task is b (sent_snoop_at h a mine) refl (sym (ap (is_in b) (left_is setup mine a h task (ltb-true h setup.hosts low))) ∙ there)
left_by setup mine run a task is h b false low there =
    absurd (false≢true (sym (ap (λ o. is_in b (unwrap_or o [])) (none_past (lines_left mine a) setup.hosts h (ltb-false h setup.hosts low))) ∙ there))

task_by : (setup : Configuration) (opening : List (Line × Bytes64)) (mine : List Event) (run : DeviceRun setup mine) (a : ℕ) (t : TaskRecord) (o : Option Task) → (directory setup mine).task a ≡ o
    → option_map (kept_task setup.hosts (lines_left mine a) a) o ≡ Some t → IsPlaced setup (kept_device setup opening mine) t
task_by setup opening mine run a t None is found = absurd (none-some t found)
task_by setup opening mine run a t (Some task) is found =
    let kept = directory_is_kept setup mine run in
    let shape = tasks_are_shaped setup mine run a task is in
    let placed = (kept.tasks.placed a task is).1 in
    let same : kept_task setup.hosts (lines_left mine a) a task ≡ t = cc in
    subst (IsPlaced setup (kept_device setup opening mine)) same
    (record {
      within = placed;
      host = ltb-true task.host setup.hosts shape.host;
      single = shape.span;
      held = λ b from to. (
          let low : b < setup.lines = omega arith in
          held_is setup (directory setup mine) kept.entries b low ∙ busy_from setup.lines (directory setup mine) kept.tasks b a task is (covers_from a task.span b from to)
          );
      left = λ h b there. left_by setup mine run a task is h b (nat_lt h setup.hosts) refl there;
    })

tasks_fit : (setup : Configuration) (opening : List (Line × Bytes64)) (mine : List Event) (run : DeviceRun setup mine) (a : ℕ) (t : TaskRecord) → task_at a (kept_device setup opening mine).tasks ≡ Some t
    → IsPlaced setup (kept_device setup opening mine) t
tasks_fit setup opening mine run a t found =
    task_by setup opening mine run a t ((directory setup mine).task a) refl
    (sym (task_is setup.hosts setup.lines (directory setup mine).task (lines_left mine) (directory_is_kept setup mine run).tasks a) ∙ found)

few_by : {X : Type 0} (o : Option X) (xs : List X) (n : ℕ) → length xs ≤ n → length (option_to_list o ++ xs) ≤ suc n
few_by None xs n few = omega arith
few_by (Some x) xs n few = omega arith

sparse_few : {X : Type 0} (f : ℕ → Option X) (places : List ℕ) → length (sparse f places) ≤ length places
sparse_few f [] = omega arith
sparse_few f (a ∷ places) = few_by (f a) (sparse f places) (length places) (sparse_few f places)

ascend_lower : (n : ℕ) (ts : List TaskRecord) → AscendFrom (suc n) ts → AscendFrom n ts
ascend_lower n [] all = tt
ascend_lower n (t ∷ ts) all = let above : suc n ≤ t.first = all.0 in let low : n ≤ t.first = omega arith in (low, all.1)

ascend_by : (f : ℕ → Option TaskRecord) (s : ℕ) (rest : List TaskRecord) → AscendFrom (suc s) rest → (o : Option TaskRecord) → ((x : TaskRecord) → o ≡ Some x → x.first ≡ s) → AscendFrom s (option_to_list o ++ rest)
ascend_by f s rest more None keyed = ascend_lower s rest more
ascend_by f s rest more (Some x) keyed =
    let at : x.first ≡ s = keyed x refl in
    let here : s ≤ x.first = omega arith in
    (here, subst (λ n. AscendFrom (suc n) rest) (sym at) more)

ascend_sparse : (f : ℕ → Option TaskRecord) → IsKeyed (λ (t : TaskRecord). t.first) f → (s n : ℕ) → AscendFrom s (sparse f (range_with_len s n))
ascend_sparse f keyed s zero = tt
ascend_sparse f keyed s (suc n) =
    let e : s + 1 ≡ suc s = omega arith in
    ascend_by f s (sparse f (range_with_len (s + 1) n)) (subst (λ k. AscendFrom k (sparse f (range_with_len (s + 1) n))) e (ascend_sparse f keyed (s + 1) n)) (f s) (keyed s)

-- ---- all of it

-- what is kept is steady
pub steady_is : KeptIsSteady
steady_is setup opening mine list limits =
    let run = device_list setup opening mine list in
    record {
      limits = limits;
      tables = tables_are setup opening mine;
      entries = subst (λ n. n + reservation_count setup mine ≤ setup.entries) (sym (length-map (directory setup mine).entries (kept_row setup.hosts (directory setup mine)))) (entries_do_suffice setup opening mine list);
      credits = credits_are setup opening mine list;
      requests = λ h. (buffered_fit setup opening mine list h (nat_lt h setup.hosts) refl).0;
      writes = λ h. (buffered_fit setup opening mine list h (nat_lt h setup.hosts) refl).1;
      lines = line_fits setup opening mine run;
      reservations = reserved_fits setup opening mine run;
      written = λ h tag w. written_fits setup opening mine run h tag w (nat_lt h setup.hosts) refl;
      tasks = tasks_fit setup opening mine run;
      ascend = ascend_sparse _ (tasks_keyed setup.hosts (directory setup mine).task (lines_left mine)) 0 setup.lines;
      listed = subst (λ n. length (kept_device setup opening mine).tasks ≤ n) (length-range_with_len 0 setup.lines) (sparse_few _ (below setup.lines));
    }
