-- The acts of the device: what a row says by what is kept is what it says of the events.
use Rattle.std.proofs.Common.{◌≡◌, ℕ, zero, suc, ◌+◌, ◌-◌, ◌<◌, ◌≤◌, Bool, true, false, List, [], ◌∷◌, Option, Some, None, cond, length, map, refl, ap, sym, ◌∙◌, subst, arith}
use Rattle.std.specs.Prelude.{nat_le, not, option_and_then, option_map, unwrap_or, ◌&&◌, ◌==◌, ◌||◌}
use Rattle.std.specs.List.{list_all, list_any, range_with_len}
use Rattle.std.proofs.lemmas.Bool.{and_parts, eq-eqb, false≢true, ltb-true, or_left, or_right}
use Rattle.std.proofs.lemmas.List.{length-map}
use Rattle.std.proofs.lemmas.Option.{none-some}
use Rattle.cxl_message.specs.declared.channels.Channel.{Channel}
use Rattle.cxl_message.specs.declared.events.Act.{Act}
use Rattle.cxl_message.specs.declared.events.Cause.{Cause}
use Rattle.cxl_message.specs.declared.events.Event.{Event}
use Rattle.cxl_message.specs.declared.identifiers.Bytes64.{Bytes64}
use Rattle.cxl_message.specs.declared.identifiers.Line.{Line}
use Rattle.cxl_message.specs.declared.identifiers.Tag.{Tag}
use Rattle.cxl_message.specs.declared.messages.Message.{Message}
use Rattle.cxl_message.specs.declared.opcodes.NdrOp.{NdrOp}
use Rattle.cxl_message.specs.Codes.{channel_eq, listing_code, span_len}
use Rattle.cxl_message.specs.Lists.{below}
use Rattle.cxl_message.specs.Messages.{channel_of, has_tag}
use Rattle.cxl_message.specs.Opening.{zero_bytes}
use Rattle.cxl_message.specs.Profile.{in_profile}
use Rattle.cxl_message.specs.Setup.{Configuration}
use Rattle.cxl_message.specs.Spans.{lines_of}
use Rattle.coherence_model.specs.Buffers.{buffered_requests, buffered_writes, device_owed, message_with}
use Rattle.coherence_model.specs.Copies.{asks_for_grant}
use Rattle.coherence_model.specs.Credits.{returned_count, taken_count}
use Rattle.coherence_model.specs.DeviceActs.{Request, buffered_request, device_acts, device_returns, finish_emission, has_entry_room, is_settled, is_shared_with_others, request_in, snoop_message, v3_serve, v4_clean, v5_start, v6_evict, v7_snoop, v8_finish, wants_eviction}
use Rattle.coherence_model.specs.Directory.{Directory, is_listed, is_to_ask}
use Rattle.coherence_model.specs.DirectoryChanges.{directory}
use Rattle.coherence_model.specs.Emission.{Emission, nothing, one_send}
use Rattle.coherence_model.specs.Fitting.{cause_fits, goes_to, is_addressed, message_fits, take_fits}
use Rattle.coherence_model.specs.Memory.{memory}
use Rattle.coherence_model.specs.Room.{Room, free_entries, is_no_eviction, request_room, reservation_count}
use Rattle.coherence_model.specs.SentSnoops.{is_asked}
use Rattle.coherence_model.specs.Tasks.{Purpose, Task}
use Rattle.coherence_model.specs.Traces.{device}
use Rattle.coherence_model.specs.Words.{when}
use Rattle.entry_laws.proofs.Blocks.{covers_listed, covers_parts, some_lines}
use Rattle.entry_laws.proofs.Buffered.{all_found, is_taken_on}
use Rattle.entry_laws.proofs.Entries.{EntriesKept}
use Rattle.device_record.specs.Answers.{act_row, asking_for, clean_of, clean_row, evict_of, evict_row, finish_row, has_room_in, is_asked_by, is_finished, snoop_row, start_of, start_row, wants_eviction_in}
use Rattle.block_snoop.specs.Asking.{is_asked_for}
use Rattle.snoop_filter.specs.Victims.{block_from}
use Rattle.snoop_filter.specs.Rows.{is_some_listing, listed_in}
use Rattle.device_record.specs.Kept.{kept_device, kept_request, kept_requests, kept_rows, kept_task, lines_left}
use Rattle.device_record.specs.Record.{WaitingRequest, owed_on, request_with, requests_at}
use Rattle.device_laws.proofs.AnswerTakes.{asked_is, credits_are, left_is, some_of}
use Rattle.device_laws.proofs.Buffers.{act_host}
use Rattle.device_laws.proofs.FilterLookups.{has_row_entry, held_is, is_some_victim, listed_is}
use Rattle.device_laws.proofs.Lookups.{request_is, requests_are, task_is, writes_are}
use Rattle.device_laws.proofs.Tables.{get_table}
use Rattle.device_laws.proofs.DeviceRuns.{DeviceRun, directory_is_kept, requests_are_taken}

-- ---- what a buffered request names

pub line_named : (setup : Configuration) (h : ℕ) (m : Message) (r : Request) → request_in m ≡ Some r → is_taken_on setup h Channel.Req m ≡ true → r.line < setup.lines
line_named setup h (Message.Req op meta snp tag line) r is taken =
    let m : Message = Message.Req op meta snp tag line in
    let both = and_parts (take_fits setup device h m) (channel_eq (channel_of m) Channel.Req) taken in
    let named = and_parts (is_addressed setup device h && goes_to device m && in_profile m) (message_fits setup m) both.0 in
    let same : record { op = op; tag = tag; line = line.0 } ≡ r = cc in
    subst (λ (x : Request). x.line < setup.lines) same (ltb-true _ _ (and_parts _ _ named.1).1)
line_named setup h (Message.MemWr meta snp tag line bytes) r is taken = absurd (none-some r is)
line_named setup h (Message.BiConflict tag) r is taken = absurd (none-some r is)
line_named setup h (Message.BiRsp op bitag low) r is taken = absurd (none-some r is)
line_named setup h (Message.Ndr op tag) r is taken = absurd (none-some r is)
line_named setup h (Message.MemData tag bytes) r is taken = absurd (none-some r is)
line_named setup h (Message.BiSnp op bitag line span) r is taken = absurd (none-some r is)
line_named setup h (Message.Credit c) r is taken = absurd (none-some r is)

-- the room of a request is that of its tag
pub room_named : (setup : Configuration) (h : ℕ) (mine : List Event) (m : Message) (r : Request) → request_in m ≡ Some r → (kept_request setup h mine m).room ≡ request_room setup h r.tag.0 mine
room_named setup h mine (Message.Req op meta snp tag line) r is =
    let same : record { op = op; tag = tag; line = line.0 } ≡ r = cc in ap (λ (x : Request). request_room setup h x.tag.0 mine) same
room_named setup h mine (Message.MemWr meta snp tag line bytes) r is = absurd (none-some r is)
room_named setup h mine (Message.BiConflict tag) r is = absurd (none-some r is)
room_named setup h mine (Message.BiRsp op bitag low) r is = absurd (none-some r is)
room_named setup h mine (Message.Ndr op tag) r is = absurd (none-some r is)
room_named setup h mine (Message.MemData tag bytes) r is = absurd (none-some r is)
room_named setup h mine (Message.BiSnp op bitag line span) r is = absurd (none-some r is)
room_named setup h mine (Message.Credit c) r is = absurd (none-some r is)

-- a row for a buffered request agrees where it does for each request that may be there
module _ (setup : Configuration) (mine : List Event) (h tag : ℕ) (row : WaitingRequest → Request → Option Emission) (rule : Option Request → Option Emission) (none : rule None ≡ None)
    (same : (m : Message) (r : Request) → request_in m ≡ Some r → is_taken_on setup h Channel.Req m ≡ true → row (kept_request setup h mine m) r ≡ rule (Some r)) where
  by_request : (m : Message) → is_taken_on setup h Channel.Req m ≡ true → (o : Option Request) → request_in m ≡ o → option_and_then (row (kept_request setup h mine m)) o ≡ rule o
  by_request m taken None is = sym none
  by_request m taken (Some r) is = same m r is taken

  by_message : (found : Option Message) → ((m : Message) → found ≡ Some m → is_taken_on setup h Channel.Req m ≡ true)
      → option_and_then (λ (w : WaitingRequest). option_and_then (row w) (request_in w.message)) (option_map (kept_request setup h mine) found) ≡ rule (option_and_then request_in found)
  by_message None taken = sym none
  by_message (Some m) taken = by_request m (taken m refl) (request_in m) refl

-- so it does by what is kept
pub by_tag : (setup : Configuration) (mine : List Event) → DeviceRun setup mine → (h : ℕ) (tag : Tag) → h < setup.hosts → (row : WaitingRequest → Request → Option Emission) (rule : Option Request → Option Emission) → rule None ≡ None
    → ((m : Message) (r : Request) → request_in m ≡ Some r → is_taken_on setup h Channel.Req m ≡ true → row (kept_request setup h mine m) r ≡ rule (Some r))
    → option_and_then (λ (w : WaitingRequest). option_and_then (row w) (request_in w.message)) (request_with tag.0 (requests_at h (map (kept_requests setup mine) (below setup.hosts)))) ≡ rule (buffered_request h tag mine)
by_tag setup mine run h tag low row rule none same =
    ap (option_and_then (λ (w : WaitingRequest). option_and_then (row w) (request_in w.message))) (request_is setup mine h tag.0 low)
    ∙ by_message setup mine h tag.0 row rule none same (message_with tag.0 (buffered_requests h mine))
    (λ m is. all_found (has_tag tag.0) (is_taken_on setup h Channel.Req) (buffered_requests h mine) m (requests_are_taken setup mine run h) is)

-- ---- room

free_is : (setup : Configuration) (mine : List Event) → (setup.entries - length (kept_rows setup.hosts (directory setup mine))) - reservation_count setup mine ≡ free_entries setup mine
free_is setup mine = ap (λ n. (setup.entries - n) - reservation_count setup mine) (length-map (directory setup mine).entries _)

module _ (setup : Configuration) (opening : List (Line × Bytes64)) (mine : List Event) (run : DeviceRun setup mine) where
  entries : EntriesKept setup (directory setup mine)
  entries = (directory_is_kept setup mine run).entries

  room_by : (room : Room) (a : ℕ) → a < setup.lines → has_room_in room a (kept_device setup opening mine) ≡ has_entry_room setup room a (directory setup mine) mine
  room_by Room.NoEviction a low = λ i. has_row_entry setup (directory setup mine) entries a low i || nat_le 1 (free_is setup mine i)
  room_by Room.EvictionInProgress a low = refl
  room_by Room.Reservation a low = refl

  wants_by : (room : Room) (a : ℕ) → a < setup.lines → wants_eviction_in room a (kept_device setup opening mine) ≡ wants_eviction setup room a (directory setup mine) mine
  wants_by room a low = λ i. not (has_row_entry setup (directory setup mine) entries a low i) && is_no_eviction room && (free_is setup mine i == 0)

  -- V4
  clean_is : (h : ℕ) (tag : Tag) → h < setup.hosts
      → option_and_then (clean_row h (kept_rows setup.hosts (directory setup mine))) (request_with tag.0 (requests_at h (map (kept_requests setup mine) (below setup.hosts))))
      ≡ v4_clean h (buffered_request h tag mine) (directory setup mine)
  clean_is h tag low =
      by_tag setup mine run h tag low (λ w. clean_of h (kept_rows setup.hosts (directory setup mine))) (λ o. v4_clean h o (directory setup mine)) refl
      (λ m r is taken. ap (λ b. when (not (asks_for_grant r.op) && not b) (one_send h (Message.Ndr NdrOp.Cmp r.tag))) (held_is setup (directory setup mine) entries r.line (line_named setup h m r is taken)))

  -- V5
  start_is : (h : ℕ) (tag : Tag) → h < setup.hosts
      → option_and_then (start_row (kept_device setup opening mine)) (request_with tag.0 (requests_at h (map (kept_requests setup mine) (below setup.hosts))))
      ≡ v5_start setup h (buffered_request h tag mine) (directory setup mine) mine
  start_is h tag low =
      by_tag setup mine run h tag low (λ w. start_of (kept_device setup opening mine) w.room) (λ o. v5_start setup h o (directory setup mine) mine) refl
      (λ m r is taken. (let line = line_named setup h m r is taken in
      λ i. when (asks_for_grant r.op && not (held_is setup (directory setup mine) entries r.line line i)
      && (ap (λ room. has_room_in room r.line (kept_device setup opening mine)) (room_named setup h mine m r is) ∙ room_by (request_room setup h r.tag.0 mine) r.line line) i) nothing))

  -- V6
  evict_is : (h : ℕ) (tag : Tag) → h < setup.hosts
      → option_and_then (evict_row (kept_device setup opening mine)) (request_with tag.0 (requests_at h (map (kept_requests setup mine) (below setup.hosts))))
      ≡ v6_evict setup h (buffered_request h tag mine) (directory setup mine) mine
  evict_is h tag low =
      by_tag setup mine run h tag low (λ w. evict_of (kept_device setup opening mine) w.room) (λ o. v6_evict setup h o (directory setup mine) mine) refl
      (λ m r is taken. (let line = line_named setup h m r is taken in
      λ i. when (asks_for_grant r.op && not (held_is setup (directory setup mine) entries r.line line i)
      && (ap (λ room. wants_eviction_in room r.line (kept_device setup opening mine)) (room_named setup h mine m r is) ∙ wants_by (request_room setup h r.tag.0 mine) r.line line) i
      && is_some_victim setup.hosts (directory setup mine) i) nothing))

-- ---- who is asked

any_lines : (p q : ℕ → Bool) (xs : List ℕ) → ((a : ℕ) → list_any (λ y. a == y) xs ≡ true → p a ≡ q a) → list_any p xs ≡ list_any q xs
any_lines p q [] same = refl
any_lines p q (x ∷ xs) same = λ i. same x (or_left _ _ (eq-eqb x x refl)) i || any_lines p q xs (λ a there. same a (or_right _ _ there)) i

all_hosts : (p q : ℕ → Bool) (s n : ℕ) → ((j : ℕ) → s ≤ j → j < s + n → p j ≡ q j) → list_all p (range_with_len s n) ≡ list_all q (range_with_len s n)
all_hosts p q s zero same = refl
all_hosts p q s (suc n) same =
    let here : s ≤ s = omega arith in
    let low : s < s + suc n = omega arith in
    λ i. same s here low i && all_hosts p q (s + 1) n (λ j high less. let higher : s ≤ j = omega arith in let lower : j < s + suc n = omega arith in same j higher lower) i

any_hosts : (p q : ℕ → Bool) (s n : ℕ) → ((j : ℕ) → s ≤ j → j < s + n → p j ≡ q j) → list_any p (range_with_len s n) ≡ list_any q (range_with_len s n)
any_hosts p q s zero same = refl
any_hosts p q s (suc n) same =
    let here : s ≤ s = omega arith in
    let low : s < s + suc n = omega arith in
    λ i. same s here low i || any_hosts p q (s + 1) n (λ j high less. let higher : s ≤ j = omega arith in let lower : j < s + suc n = omega arith in same j higher lower) i

-- where the lines of a block exist, whom its task is to ask is whom the rows say
pub wanted_by : (setup : Configuration) (D : Directory) → EntriesKept setup D → (p : Purpose) (a : ℕ) (t : Task) (g : ℕ) → a + span_len t.span ≤ setup.lines → g < setup.hosts
    → is_asked_for (asking_for p t.host) (block_from a t.span) (kept_rows setup.hosts D) g ≡ is_to_ask p D a t g
wanted_by setup D kept Purpose.SharedRead a t g within low =
    let some = some_lines t.span in
    let line : a < setup.lines = omega arith in
    ap (λ l. not (t.host == g) && (listing_code l == 2)) (listed_is setup D kept a g line low)
wanted_by setup D kept Purpose.OwningRead a t g within low =
    let some = some_lines t.span in
    let line : a < setup.lines = omega arith in
    ap (λ l. not (t.host == g) && is_some_listing l) (listed_is setup D kept a g line low)
wanted_by setup D kept Purpose.Invalidation a t g within low =
    let some = some_lines t.span in
    let line : a < setup.lines = omega arith in
    ap (λ l. not (t.host == g) && is_some_listing l) (listed_is setup D kept a g line low)
wanted_by setup D kept Purpose.Eviction a t g within low =
    any_lines (λ b. is_some_listing (listed_in b g (kept_rows setup.hosts D))) (λ b. is_listed D b g) (lines_of a t.span)
    (λ b there. (
    let parts = covers_parts a t.span b (covers_listed a t.span b there) in
    let line : b < setup.lines = omega arith in
    ap is_some_listing (listed_is setup D kept b g line low)
    ))

-- a task's lines exist
pub within_by : (setup : Configuration) (mine : List Event) → DeviceRun setup mine → (a : ℕ) (t : Task) → (directory setup mine).task a ≡ Some t → a + span_len t.span ≤ setup.lines
within_by setup mine run a t is = ((directory_is_kept setup mine run).tasks.placed a t is).1

-- whether a host is Asked by a task
pub asked_by_is : (setup : Configuration) (mine : List Event) (a h : ℕ) (t : Task) → h < setup.hosts → is_asked_by h (kept_task setup.hosts (lines_left mine a) a t) ≡ is_asked h a mine
asked_by_is setup mine a h t low = ap some_of (left_is setup mine a h t low) ∙ asked_is h a mine

-- V7
snoop_by : (setup : Configuration) (mine : List Event) → DeviceRun setup mine → (h a : ℕ) → h < setup.hosts → (found : Option Task) → (directory setup mine).task a ≡ found
    → option_and_then (snoop_row h (kept_rows setup.hosts (directory setup mine))) (option_map (kept_task setup.hosts (lines_left mine a) a) found) ≡ v7_snoop h a found (directory setup mine) mine
snoop_by setup mine run h a low None is = refl
snoop_by setup mine run h a low (Some t) is =
    λ i. when (wanted_by setup (directory setup mine) (directory_is_kept setup mine run).entries t.purpose a t h (within_by setup mine run a t is) low i
    && not (asked_by_is setup mine a h t low i)) (one_send h (snoop_message a t))

-- V8
settled_is : (setup : Configuration) (mine : List Event) → DeviceRun setup mine → (a : ℕ) (t : Task) → (directory setup mine).task a ≡ Some t
    → is_finished setup.hosts (kept_rows setup.hosts (directory setup mine)) (kept_task setup.hosts (lines_left mine a) a t) ≡ is_settled setup a t (directory setup mine) mine
settled_is setup mine run a t is =
    all_hosts _ _ 0 setup.hosts (λ g high less. (let low : g < setup.hosts = omega arith in
    λ i. not (asked_by_is setup mine a g t low i)
    && not (wanted_by setup (directory setup mine) (directory_is_kept setup mine run).entries t.purpose a t g (within_by setup mine run a t is) low i)))

shared_is : (setup : Configuration) (mine : List Event) → DeviceRun setup mine → (a : ℕ) (t : Task) → (directory setup mine).task a ≡ Some t
    → list_any (λ g. not (t.host == g) && is_some_listing (listed_in a g (kept_rows setup.hosts (directory setup mine)))) (below setup.hosts) ≡ is_shared_with_others setup a t (directory setup mine)
shared_is setup mine run a t is =
    let within = within_by setup mine run a t is in
    let some = some_lines t.span in
    let line : a < setup.lines = omega arith in
    any_hosts _ _ 0 setup.hosts (λ g high less. (let low : g < setup.hosts = omega arith in
    ap (λ l. not (t.host == g) && is_some_listing l) (listed_is setup (directory setup mine) (directory_is_kept setup mine run).entries a g line low)))

finish_by : (setup : Configuration) (opening : List (Line × Bytes64)) (mine : List Event) → DeviceRun setup mine → (a : ℕ) → (found : Option Task) → (directory setup mine).task a ≡ found
    → option_and_then (finish_row setup (kept_device setup opening mine)) (option_map (kept_task setup.hosts (lines_left mine a) a) found) ≡ v8_finish setup opening a found (directory setup mine) mine
finish_by setup opening mine run a None is = refl
finish_by setup opening mine run a (Some t) is =
    let within = within_by setup mine run a t is in
    let some = some_lines t.span in
    let line : a < setup.lines = omega arith in
    λ i. when (settled_is setup mine run a t is i)
    (finish_emission t.purpose (cond (shared_is setup mine run a t is i) NdrOp.CmpS NdrOp.CmpE) t.host t.tag (unwrap_or (get_table (λ b. memory opening b mine) setup.lines a line i) zero_bytes))

-- ---- V9

minus_swap : (t r b : ℕ) → (t - r) - b ≡ (t - b) - r
minus_swap t r b = omega arith

pub owed_is : (setup : Configuration) (opening : List (Line × Bytes64)) (mine : List Event) (h : ℕ) → h < setup.hosts → (c : Channel) → device_returns c ≡ true → owed_on h c (kept_device setup opening mine) ≡ device_owed h c mine
owed_is setup opening mine h low Channel.Req returns =
    (λ i. (credits_are setup mine h low i).req_held - (ap length (requests_are setup mine h low) ∙ length-map (buffered_requests h mine) (kept_request setup h mine)) i)
    ∙ minus_swap (taken_count h Channel.Req mine) (returned_count h Channel.Req mine) (length (buffered_requests h mine))
owed_is setup opening mine h low Channel.Rwd returns =
    (λ i. (credits_are setup mine h low i).rwd_held - length (writes_are setup.hosts mine h low i))
    ∙ minus_swap (taken_count h Channel.Rwd mine) (returned_count h Channel.Rwd mine) (length (buffered_writes h mine))
owed_is setup opening mine h low Channel.BiRsp returns =
    (λ i. (credits_are setup mine h low i).rsp_held - 0) ∙ minus_swap (taken_count h Channel.BiRsp mine) (returned_count h Channel.BiRsp mine) 0
owed_is setup opening mine h low Channel.Ndr returns = absurd (false≢true returns)
owed_is setup opening mine h low Channel.Drs returns = absurd (false≢true returns)
owed_is setup opening mine h low Channel.BiSnp returns = absurd (false≢true returns)
owed_is setup opening mine h low Channel.CreditUp returns = absurd (false≢true returns)
owed_is setup opening mine h low Channel.CreditDown returns = absurd (false≢true returns)

return_by : (setup : Configuration) (opening : List (Line × Bytes64)) (mine : List Event) (h : ℕ) → h < setup.hosts → (c : Channel) (b : Bool) → device_returns c ≡ b
    → when (b && nat_le 1 (owed_on h c (kept_device setup opening mine))) (one_send h (Message.Credit c)) ≡ when (b && nat_le 1 (device_owed h c mine)) (one_send h (Message.Credit c))
return_by setup opening mine h low c true is = ap (λ n. when (nat_le 1 n) (one_send h (Message.Credit c))) (owed_is setup opening mine h low c is)
return_by setup opening mine h low c false is = refl

-- ---- each act

pub act_row_is : (setup : Configuration) (opening : List (Line × Bytes64)) (mine : List Event) → DeviceRun setup mine → (act : Act) → cause_fits setup device (Cause.Act act) ≡ true
    → act_row setup act (kept_device setup opening mine) ≡ device_acts setup opening act mine
act_row_is setup opening mine run (Act.Conflict line) fits = refl
act_row_is setup opening mine run (Act.WriteBack line) fits = refl
act_row_is setup opening mine run (Act.Answer line) fits = refl
act_row_is setup opening mine run (Act.AnswerBlock line) fits = refl
act_row_is setup opening mine run (Act.HostReturn c) fits = refl
act_row_is setup opening mine run (Act.Serve h tag) fits = ap (λ ms. v3_serve h (message_with tag.0 ms)) (writes_are setup.hosts mine h (act_host setup h _ fits))
act_row_is setup opening mine run (Act.Clean h tag) fits = clean_is setup opening mine run h tag (act_host setup h _ fits)
act_row_is setup opening mine run (Act.Start h tag) fits = start_is setup opening mine run h tag (act_host setup h _ fits)
act_row_is setup opening mine run (Act.Evict h tag) fits = evict_is setup opening mine run h tag (act_host setup h _ fits)
act_row_is setup opening mine run (Act.Snoop h line) fits =
    ap (option_and_then (snoop_row h (kept_rows setup.hosts (directory setup mine))))
    (task_is setup.hosts setup.lines (directory setup mine).task (lines_left mine) (directory_is_kept setup mine run).tasks line.0)
    ∙ snoop_by setup mine run h line.0 (act_host setup h _ fits) ((directory setup mine).task line.0) refl
act_row_is setup opening mine run (Act.Finish line) fits =
    ap (option_and_then (finish_row setup (kept_device setup opening mine)))
    (task_is setup.hosts setup.lines (directory setup mine).task (lines_left mine) (directory_is_kept setup mine run).tasks line.0)
    ∙ finish_by setup opening mine run line.0 ((directory setup mine).task line.0) refl
act_row_is setup opening mine run (Act.DeviceReturn h c) fits = return_by setup opening mine h (ltb-true h setup.hosts fits) c (device_returns c) refl
