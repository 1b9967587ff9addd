-- Why the device goes on: each buffered write may be served, a task may snoop or finish, and where no line is Busy some request may be used.
use Rattle.std.proofs.Common.{◌≡◌, ℕ, zero, suc, ◌+◌, ◌<◌, ◌≤◌, Bool, true, false, List, [], ◌∷◌, Option, Some, None, cond, find, length, refl, sym, ◌∙◌, ap, subst, arith, inl, inr}
use Rattle.std.specs.Prelude.{count_by, is_some, nat_le, not, option_and_then, option_map, sum_by, ◌&&◌, ◌||◌}
use Rattle.std.specs.List.{list_all, list_any, range_with_len}
use Rattle.std.proofs.lemmas.Bool.{and_from, and_parts, cases_Bool, cases_lt, eq-eqb, false≢true, leb-false, leb-true, not-true, not_from_false, or_left, or_parts, or_right}
use Rattle.std.proofs.lemmas.Option.{none-some}
use Rattle.std.proofs.lemmas.List.Sums.{sum_by-cons}
use Rattle.cxl_message.specs.declared.channels.Channel.{Channel}
use Rattle.cxl_message.specs.declared.events.Act.{Act}
use Rattle.cxl_message.specs.declared.events.Event.{Event}
use Rattle.cxl_message.specs.declared.identifiers.Bytes64.{Bytes64}
use Rattle.cxl_message.specs.declared.identifiers.Line.{Line}
use Rattle.cxl_message.specs.declared.messages.Message.{Message}
use Rattle.cxl_message.specs.Codes.{channel_eq}
use Rattle.cxl_message.specs.Lists.{below}
use Rattle.cxl_message.specs.Messages.{channel_of, has_tag}
use Rattle.cxl_message.specs.Setup.{Configuration}
use Rattle.coherence_model.specs.Buffers.{buffered_requests, buffered_writes, message_with}
use Rattle.coherence_model.specs.Copies.{asks_for_grant}
use Rattle.coherence_model.specs.DeviceActs.{has_entry_room, is_settled, request_in, served_by, v3_serve, v4_clean, v5_start, v6_evict, v7_snoop, v8_finish, wants_eviction}
use Rattle.coherence_model.specs.Directory.{Directory, has_entry, is_busy, is_to_ask, victim_block}
use Rattle.coherence_model.specs.DirectoryChanges.{directory}
use Rattle.coherence_model.specs.Emission.{one_send}
use Rattle.coherence_model.specs.Fitting.{take_fits}
use Rattle.coherence_model.specs.Next.{tag_or_zero}
use Rattle.coherence_model.specs.Room.{Room, free_entries, is_no_eviction, is_reservation, request_room, reservation_count}
use Rattle.coherence_model.specs.SentSnoops.{is_asked, sent_snoop_at}
use Rattle.coherence_model.specs.Tasks.{Task}
use Rattle.coherence_model.specs.Traces.{device}
use Rattle.coherence_model.specs.Words.{when}
use Rattle.entry_laws.specs.Laws.{named_tag, may_do, request_may_go_on}
use Rattle.entry_laws.proofs.Blocks.{all_below, any_at, any_below, some_lines}
use Rattle.entry_laws.proofs.Buffered.{AreTakenOn, all_found, credit_is_no_request, credit_is_no_write, is_taken_on, request_line_exists}
use Rattle.entry_laws.proofs.DeviceRows.{FoundRequest}
use Rattle.entry_laws.proofs.DirectorySteps.{DirectoryKept}
use Rattle.entry_laws.proofs.Rooms.{RoomsKept}
use Rattle.entry_laws.proofs.Tasks.{busy_at_task}
use Rattle.entry_laws.proofs.Victims.{victim_there}

-- ---- what is there

is_some_when : {A : Type 0} (b : Bool) (x : A) → b ≡ true → is_some (when b x) ≡ true
is_some_when true x h = refl
is_some_when false x h = absurd (false≢true h)

any_of_found :
    {X : Type 0} (p q : X → Bool) (y x : X) (ys : List X) (b : Bool) → cond b (Some y) (find q ys) ≡ Some x → p x ≡ true
    → (find q ys ≡ Some x → list_any p ys ≡ true) → list_any p (y ∷ ys) ≡ true
any_of_found p q y x ys true h passes later = let same : y ≡ x = cc in or_left _ _ (subst (λ z. p z ≡ true) (sym same) passes)
any_of_found p q y x ys false h passes later = or_right _ _ (later h)

-- what is found is one of the list
any_found : {X : Type 0} (p q : X → Bool) (xs : List X) (x : X) → find q xs ≡ Some x → p x ≡ true → list_any p xs ≡ true
any_found p q [] x h passes = absurd (none-some x h)
any_found p q (y ∷ ys) x h passes = any_of_found p q y x ys (q y) h passes (λ later. any_found p q ys x later passes)

some_term : (f : ℕ → ℕ) (k n : ℕ) → 1 ≤ sum_by f (range_with_len k n) → (x : ℕ) × (x < k + n) × (1 ≤ f x)
some_term f k zero h = absurd (omega arith)
some_term f k (suc n) h =
    let whole = subst (λ m. 1 ≤ m) (sum_by-cons f k (range_with_len (k + 1) n)) h in
    elim (cases_lt 0 (f k)) [
      | inl here ↦ (k, omega arith, here)
      | inr none ↦ (let later = some_term f (k + 1) n (omega arith) in (later.0, omega arith, later.2))
    ]

-- a sum that isn't zero has such a term
term_below : (f : ℕ → ℕ) (n : ℕ) → 1 ≤ sum_by f (below n) → (x : ℕ) × (x < n) × (1 ≤ f x)
term_below f n h = let found = some_term f 0 n h in (found.0, omega arith, found.2)

one_passes : (b : Bool) → 1 ≤ cond b 1 0 → b ≡ true
one_passes true h = refl
one_passes false h = absurd (omega arith)

-- ---- writes

served : (m : Message) → channel_eq (channel_of m) Channel.Rwd ≡ true → is_some (option_and_then served_by (Some m)) ≡ true
served (Message.Req op meta snp tag line) on = absurd (false≢true on)
served (Message.MemWr meta snp tag line bytes) on = refl
served (Message.BiConflict tag) on = refl
served (Message.BiRsp op bitag low) on = absurd (false≢true on)
served (Message.Ndr op tag) on = absurd (false≢true on)
served (Message.MemData tag bytes) on = absurd (false≢true on)
served (Message.BiSnp op bitag line span) on = absurd (false≢true on)
served (Message.Credit c) on = absurd (false≢true (sym (credit_is_no_write c) ∙ on))

emits_by : (h : ℕ) (answer : Option Message) → is_some answer ≡ true → is_some (option_map (one_send h) answer) ≡ true
emits_by h None is = absurd (false≢true is)
emits_by h (Some m) is = refl

served_emits : (h : ℕ) (found : Option Message) → is_some (option_and_then served_by found) ≡ true → is_some (v3_serve h found) ≡ true
served_emits h None is = absurd (false≢true is)
served_emits h (Some m) is = emits_by h (served_by m) is

serve_found :
    (setup : Configuration) (h tag : ℕ) (buffer : List Message) (found : Option Message) → message_with tag buffer ≡ found → is_some found ≡ true
    → AreTakenOn setup h Channel.Rwd buffer → is_some (v3_serve h found) ≡ true
serve_found setup h tag buffer None is some taken = absurd (false≢true some)
serve_found setup h tag buffer (Some m) is some taken =
    served_emits h (Some m) (served m (and_parts _ _ (all_found (has_tag tag) (is_taken_on setup h Channel.Rwd) buffer m taken is)).1)

some_chosen :
    {X : Type 0} (p : X → Bool) (x : X) (xs : List X) (b : Bool) → p x ≡ b → (b || list_any p xs) ≡ true → (list_any p xs ≡ true → is_some (find p xs) ≡ true)
    → is_some (cond b (Some x) (find p xs)) ≡ true
some_chosen p x xs true is h later = refl
some_chosen p x xs false is h later = later h

some_found : {X : Type 0} (p : X → Bool) (xs : List X) → list_any p xs ≡ true → is_some (find p xs) ≡ true
some_found p [] h = absurd (false≢true h)
some_found p (x ∷ xs) h = some_chosen p x xs (p x) refl h (some_found p xs)

-- a message of RwD has a tag, and so is found by it
write_has_tag : (m : Message) → channel_eq (channel_of m) Channel.Rwd ≡ true → has_tag (tag_or_zero m) m ≡ true
write_has_tag (Message.Req op meta snp tag line) on = absurd (false≢true on)
write_has_tag (Message.MemWr meta snp tag line bytes) on = eq-eqb tag.0 tag.0 refl
write_has_tag (Message.BiConflict tag) on = eq-eqb tag.0 tag.0 refl
write_has_tag (Message.BiRsp op bitag low) on = absurd (false≢true on)
write_has_tag (Message.Ndr op tag) on = absurd (false≢true on)
write_has_tag (Message.MemData tag bytes) on = absurd (false≢true on)
write_has_tag (Message.BiSnp op bitag line span) on = absurd (false≢true on)
write_has_tag (Message.Credit c) on = absurd (false≢true (sym (credit_is_no_write c) ∙ on))

serve_each :
    (setup : Configuration) (opening : List (Line × Bytes64)) (h : ℕ) (mine : List Event) (ms : List Message) → AreTakenOn setup h Channel.Rwd
    (buffered_writes h mine) → AreTakenOn setup h Channel.Rwd ms
    → ((tag : ℕ) → list_any (has_tag tag) ms ≡ true → list_any (has_tag tag) (buffered_writes h mine) ≡ true) → list_all
    (λ m. may_do setup opening mine (Act.Serve h (named_tag m))) ms ≡ true
serve_each setup opening h mine [] taken these within = refl
serve_each setup opening h mine (m ∷ ms) taken these within =
    let parts = and_parts (is_taken_on setup h Channel.Rwd m) (list_all (is_taken_on setup h Channel.Rwd) ms) these in
    let there = within (tag_or_zero m) (or_left _ _ (write_has_tag m (and_parts _ _ parts.0).1)) in
    and_from _ _
    (serve_found setup h (tag_or_zero m) (buffered_writes h mine) (message_with (tag_or_zero m) (buffered_writes h mine)) refl
    (some_found (has_tag (tag_or_zero m)) (buffered_writes h mine) there) taken)
    (serve_each setup opening h mine ms taken parts.1 (λ tag is. within tag (or_right _ _ is)))

-- every buffered write may be served
pub writes_may_be_served :
    (setup : Configuration) (opening : List (Line × Bytes64)) (h : ℕ) (mine : List Event) → AreTakenOn setup h Channel.Rwd (buffered_writes h mine)
    → list_all (λ m. may_do setup opening mine (Act.Serve h (named_tag m))) (buffered_writes h mine) ≡ true
writes_may_be_served setup opening h mine taken = serve_each setup opening h mine (buffered_writes h mine) taken taken (λ tag is. is)

-- ---- tasks

failing_step :
    (p : ℕ → Bool) (k n : ℕ) (b : Bool) → p k ≡ b → (b && list_all p (range_with_len (k + 1) n)) ≡ false
    → (list_all p (range_with_len (k + 1) n) ≡ false → (x : ℕ) × (x < k + 1 + n) × (p x ≡ false)) → (x : ℕ) × (x < k + suc n) × (p x ≡ false)
failing_step p k n true is h later = let found = later h in (found.0, omega arith, found.2)
failing_step p k n false is h later = (k, omega arith, is)

failing : (p : ℕ → Bool) (k n : ℕ) → list_all p (range_with_len k n) ≡ false → (x : ℕ) × (x < k + n) × (p x ≡ false)
failing p k zero h = absurd (false≢true (sym h))
failing p k (suc n) h = failing_step p k n (p k) refl h (failing p (k + 1) n)

not_settled : (asked ask : Bool) → (not asked && not ask) ≡ false → asked ≡ false → ask ≡ true
not_settled true ask h none = absurd (false≢true (sym none))
not_settled false true h none = refl
not_settled false false h none = absurd (false≢true (sym h))

task_settled :
    (setup : Configuration) (opening : List (Line × Bytes64)) (mine : List Event) (a : ℕ) (t : Task) (b : Bool) → (directory setup mine).task a ≡ Some t →
    list_all (λ g. not (is_asked g a mine)) (below setup.hosts) ≡ true
    → is_settled setup a t (directory setup mine) mine ≡ b
    → (list_any (λ g. may_do setup opening mine (Act.Snoop g (record { 0 = a }))) (below setup.hosts) || may_do setup opening mine (Act.Finish (record { 0 = a })))
    ≡ true
task_settled setup opening mine a t true is quiet settled =
    or_right _ _
    (ap (λ found. is_some (v8_finish setup opening a found (directory setup mine) mine)) is ∙ is_some_when
    (is_settled setup a t (directory setup mine) mine) _ settled)
task_settled setup opening mine a t false is quiet settled =
    let found = failing (λ g. not (is_asked g a mine) && not (is_to_ask t.purpose (directory setup mine) a t g)) 0 setup.hosts settled in
    let none = not-true _ (all_below (λ g. not (is_asked g a mine)) setup.hosts quiet found.0 (omega arith)) in
    let ask = not_settled (is_asked found.0 a mine) (is_to_ask t.purpose (directory setup mine) a t found.0) found.2 none in
    or_left _ _ (any_at (λ g. may_do setup opening mine (Act.Snoop g (record { 0 = a }))) setup.hosts found.0 (omega arith)
    (ap (λ task. is_some (v7_snoop found.0 a task (directory setup mine) mine)) is
    ∙ is_some_when (is_to_ask t.purpose (directory setup mine) a t found.0 && not (is_asked found.0 a mine)) _ (and_from _ _ ask (not_from_false _ none))))

-- a task by which no host is Asked may snoop or finish
pub task_goes_on :
    (setup : Configuration) (opening : List (Line × Bytes64)) (mine : List Event) (a : ℕ) (t : Task) → (directory setup mine).task a ≡ Some t → list_all
    (λ g. not (is_asked g a mine)) (below setup.hosts) ≡ true
    → (list_any (λ g. may_do setup opening mine (Act.Snoop g (record { 0 = a }))) (below setup.hosts) || may_do setup opening mine (Act.Finish (record { 0 = a })))
    ≡ true
task_goes_on setup opening mine a t is quiet = task_settled setup opening mine a t (is_settled setup a t (directory setup mine) mine) is quiet refl

-- ---- requests

-- the message of a found request
abbrev message_of : (k : ℕ) (ms : List Message) → FoundRequest k ms → Message
message_of k ms r = Message.Req r.op r.meta r.snp r.own_tag r.line

own_found : (k : ℕ) (ms : List Message) (r : FoundRequest k ms) → message_with r.own_tag.0 ms ≡ Some (message_of k ms r)
own_found k ms r = subst (λ x. message_with x ms ≡ Some (message_of k ms r)) (sym r.same) r.found

-- whether some request may be used
abbrev pub SomeRequestGoesOn : Configuration → List (Line × Bytes64) → List Event → Type 0
SomeRequestGoesOn setup opening mine = list_any (λ h. list_any (request_may_go_on setup opening mine h) (buffered_requests h mine)) (below setup.hosts) ≡ true

goes_on_by :
    (setup : Configuration) (opening : List (Line × Bytes64)) (mine : List Event) (h k : ℕ) (r : FoundRequest k (buffered_requests h mine)) → h < setup.hosts
    → request_may_go_on setup opening mine h (message_of k (buffered_requests h mine) r) ≡ true → SomeRequestGoesOn setup opening mine
goes_on_by setup opening mine h k r exists may =
    any_at (λ g. list_any (request_may_go_on setup opening mine g) (buffered_requests g mine)) setup.hosts h exists
    (any_found (request_may_go_on setup opening mine h) (has_tag k) (buffered_requests h mine) (message_of k (buffered_requests h mine) r) r.found may)

clean_goes_on :
    (setup : Configuration) (opening : List (Line × Bytes64)) (mine : List Event) (h k : ℕ) (r : FoundRequest k (buffered_requests h mine)) → h < setup.hosts
    → asks_for_grant r.op ≡ false → is_busy (directory setup mine) r.line.0 ≡ false → SomeRequestGoesOn setup opening mine
clean_goes_on setup opening mine h k r exists asks idle =
    goes_on_by setup opening mine h k r exists
    (or_left _ _ (or_left _ _
    (ap (λ found. is_some (v4_clean h (option_and_then request_in found) (directory setup mine))) (own_found k (buffered_requests h mine) r)
    ∙ is_some_when (not (asks_for_grant r.op) && not (is_busy (directory setup mine) r.line.0)) _ (and_from _ _ (not_from_false _ asks) (not_from_false _ idle)))))

start_goes_on :
    (setup : Configuration) (opening : List (Line × Bytes64)) (mine : List Event) (h k : ℕ) (r : FoundRequest k (buffered_requests h mine)) → h < setup.hosts
    → asks_for_grant r.op ≡ true → is_busy (directory setup mine) r.line.0 ≡ false → has_entry_room setup (request_room setup h r.own_tag.0 mine) r.line.0
    (directory setup mine) mine ≡ true
    → SomeRequestGoesOn setup opening mine
start_goes_on setup opening mine h k r exists asks idle room =
    goes_on_by setup opening mine h k r exists
    (or_left _ _ (or_right _ _
    (ap (λ found. is_some (v5_start setup h (option_and_then request_in found) (directory setup mine) mine)) (own_found k (buffered_requests h mine) r)
    ∙ is_some_when
    (asks_for_grant r.op && not (is_busy (directory setup mine) r.line.0) && has_entry_room setup (request_room setup h r.own_tag.0 mine) r.line.0
    (directory setup mine) mine)
    _
    (and_from _ _ (and_from _ _ asks (not_from_false _ idle)) room))))

evict_goes_on :
    (setup : Configuration) (opening : List (Line × Bytes64)) (mine : List Event) (h k : ℕ) (r : FoundRequest k (buffered_requests h mine)) → h < setup.hosts
    → asks_for_grant r.op ≡ true → is_busy (directory setup mine) r.line.0 ≡ false → wants_eviction setup (request_room setup h r.own_tag.0 mine) r.line.0
    (directory setup mine) mine ≡ true
    → is_some (victim_block (directory setup mine)) ≡ true → SomeRequestGoesOn setup opening mine
evict_goes_on setup opening mine h k r exists asks idle wants victim =
    goes_on_by setup opening mine h k r exists
    (or_right _ _
    (ap (λ found. is_some (v6_evict setup h (option_and_then request_in found) (directory setup mine) mine)) (own_found k (buffered_requests h mine) r)
    ∙ is_some_when
    (asks_for_grant r.op && not (is_busy (directory setup mine) r.line.0) && wants_eviction setup (request_room setup h r.own_tag.0 mine) r.line.0
    (directory setup mine) mine && is_some (victim_block (directory setup mine)))
    _
    (and_from _ _ (and_from _ _ (and_from _ _ asks (not_from_false _ idle)) wants) victim)))

-- what holds of the device where no line is Busy
pub record Quiet (setup : Configuration) (mine : List Event) : Type 0 where
  pub directory_kept : DirectoryKept setup (directory setup mine) (λ h a. sent_snoop_at h a mine)
  pub rooms : RoomsKept (directory setup mine).task (λ h tag. request_room setup h tag mine) (λ h. buffered_requests h mine)
  pub taken : (h : ℕ) → AreTakenOn setup h Channel.Req (buffered_requests h mine)
  pub some_entry : 1 ≤ setup.entries
  pub idle : list_all (λ a. not (is_busy (directory setup mine) a)) (below setup.lines) ≡ true

idle_request :
    (setup : Configuration) (mine : List Event) → Quiet setup mine → (h k : ℕ) (r : FoundRequest k (buffered_requests h mine))
    → is_busy (directory setup mine) r.line.0 ≡ false
idle_request setup mine quiet h k r =
    not-true _
    (all_below (λ a. not (is_busy (directory setup mine) a)) setup.lines quiet.idle r.line.0
    (request_line_exists setup h k (buffered_requests h mine) r (quiet.taken h)))

no_progress : (setup : Configuration) (mine : List Event) → Quiet setup mine → (h tag : ℕ) → request_room setup h tag mine ≡ Room.EvictionInProgress → ⊥
no_progress setup mine quiet h tag is =
    let by = quiet.rooms.stands h tag is in
    let placed = quiet.directory_kept.tasks.placed by.first by.t by.is in
    let some = some_lines by.t.span in
    let idle = not-true _ (all_below (λ a. not (is_busy (directory setup mine) a)) setup.lines quiet.idle by.first (omega arith)) in
    false≢true (sym idle ∙ busy_at_task (directory setup mine) by.first by.t by.is)

is_reserved : (room : Room) → is_reservation room ≡ true → is_no_eviction room ≡ false
is_reserved Room.NoEviction h = absurd (false≢true h)
is_reserved Room.EvictionInProgress h = absurd (false≢true h)
is_reserved Room.Reservation h = refl

has_reserved_room :
    (setup : Configuration) (a : ℕ) (D : Directory) (mine : List Event) (room : Room) → is_reservation room ≡ true → has_entry_room setup room a D mine ≡ true
has_reserved_room setup a D mine Room.NoEviction h = absurd (false≢true h)
has_reserved_room setup a D mine Room.EvictionInProgress h = absurd (false≢true h)
has_reserved_room setup a D mine Room.Reservation h = refl

below_one : (n : ℕ) → n < 1 → n ≡ 0
below_one n h = omega arith

-- a request with a reservation may start
reserved_goes_on :
    (setup : Configuration) (opening : List (Line × Bytes64)) (mine : List Event) → Quiet setup mine → (h tag : ℕ) → h < setup.hosts → is_reservation
    (request_room setup h tag mine) ≡ true
    → SomeRequestGoesOn setup opening mine
reserved_goes_on setup opening mine quiet h tag exists reserved =
    let w = quiet.rooms.buffered h tag (is_reserved (request_room setup h tag mine) reserved) in
    start_goes_on setup opening mine h tag w.r exists w.asks (idle_request setup mine quiet h tag w.r)
    (subst (λ x. has_entry_room setup (request_room setup h x mine) w.r.line.0 (directory setup mine) mine ≡ true) (sym w.r.same)
    (has_reserved_room setup w.r.line.0 (directory setup mine) mine (request_room setup h tag mine) reserved))

full_goes_on :
    (setup : Configuration) (opening : List (Line × Bytes64)) (mine : List Event) → Quiet setup mine → (h k : ℕ) (r : FoundRequest k (buffered_requests h mine))
    → h < setup.hosts
    → asks_for_grant r.op ≡ true → request_room setup h r.own_tag.0 mine ≡ Room.NoEviction → has_entry setup (directory setup mine) r.line.0 ≡ false →
    free_entries setup mine ≡ 0
    → (b : Bool) → nat_le 1 (reservation_count setup mine) ≡ b → SomeRequestGoesOn setup opening mine
full_goes_on setup opening mine quiet h k r exists asks none absent full true some =
    let host = term_below (λ g. count_by (λ tag. is_reservation (request_room setup g tag mine)) (below setup.tags)) setup.hosts (leb-true _ _ some) in
    let tag = term_below (λ tag. cond (is_reservation (request_room setup host.0 tag mine)) 1 0) setup.tags host.2 in
    reserved_goes_on setup opening mine quiet host.0 tag.0 host.1 (one_passes (is_reservation (request_room setup host.0 tag.0 mine)) tag.2)
full_goes_on setup opening mine quiet h k r exists asks none absent full false some =
    evict_goes_on setup opening mine h k r exists asks (idle_request setup mine quiet h k r)
    (subst (λ room. wants_eviction setup room r.line.0 (directory setup mine) mine ≡ true) (sym none)
    (and_from _ _ (and_from _ _ (not_from_false _ absent) refl) (eq-eqb (free_entries setup mine) 0 full)))
    (victim_there setup mine quiet.directory_kept.entries quiet.some_entry full (below_one (reservation_count setup mine) (leb-false _ _ some)) quiet.idle)

grant_goes_on :
    (setup : Configuration) (opening : List (Line × Bytes64)) (mine : List Event) → Quiet setup mine → (h k : ℕ) (r : FoundRequest k (buffered_requests h mine))
    → h < setup.hosts
    → asks_for_grant r.op ≡ true → (room : Room) → request_room setup h r.own_tag.0 mine ≡ room → SomeRequestGoesOn setup opening mine
grant_goes_on setup opening mine quiet h k r exists asks Room.NoEviction is =
    elim (cases_Bool (has_entry setup (directory setup mine) r.line.0 || nat_le 1 (free_entries setup mine))) [
      | inl room ↦ start_goes_on setup opening mine h k r exists asks (idle_request setup mine quiet h k r)
          (subst (λ room. has_entry_room setup room r.line.0 (directory setup mine) mine ≡ true) (sym is) room)
      | inr none ↦ (
          let parts = or_parts (has_entry setup (directory setup mine) r.line.0) (nat_le 1 (free_entries setup mine)) none in
          full_goes_on setup opening mine quiet h k r exists asks is parts.0 (below_one (free_entries setup mine) (leb-false _ _ parts.1))
          (nat_le 1 (reservation_count setup mine)) refl
          )
    ]
grant_goes_on setup opening mine quiet h k r exists asks Room.EvictionInProgress is = absurd (no_progress setup mine quiet h r.own_tag.0 is)
grant_goes_on setup opening mine quiet h k r exists asks Room.Reservation is =
    reserved_goes_on setup opening mine quiet h r.own_tag.0 exists (ap is_reservation is)

request_goes_on :
    (setup : Configuration) (opening : List (Line × Bytes64)) (mine : List Event) → Quiet setup mine → (h k : ℕ) (r : FoundRequest k (buffered_requests h mine))
    → h < setup.hosts → SomeRequestGoesOn setup opening mine
request_goes_on setup opening mine quiet h k r exists =
    elim (cases_Bool (asks_for_grant r.op)) [
      | inl asks ↦ grant_goes_on setup opening mine quiet h k r exists asks (request_room setup h r.own_tag.0 mine) refl
      | inr asks ↦ clean_goes_on setup opening mine h k r exists asks (idle_request setup mine quiet h k r)
    ]

first_request :
    (setup : Configuration) (h : ℕ) (m : Message) (rest : List Message) → is_taken_on setup h Channel.Req m ≡ true → FoundRequest (tag_or_zero m) (m ∷ rest)
first_request setup h (Message.Req op meta snp tag line) rest taken =
    record {
      op = op;
      meta = meta;
      snp = snp;
      own_tag = tag;
      line = line;
      found = ap
          (λ b. cond b (Some (Message.Req op meta snp tag line)) (find (has_tag tag.0) rest)) (eq-eqb tag.0 tag.0 refl);
      same = refl;
    }
first_request setup h (Message.MemWr meta snp tag line bytes) rest taken = absurd (false≢true (and_parts _ _ taken).1)
first_request setup h (Message.BiConflict tag) rest taken = absurd (false≢true (and_parts _ _ taken).1)
first_request setup h (Message.BiRsp op bitag low) rest taken = absurd (false≢true (and_parts _ _ taken).1)
first_request setup h (Message.Ndr op tag) rest taken = absurd (false≢true (and_parts _ _ taken).1)
first_request setup h (Message.MemData tag bytes) rest taken = absurd (false≢true (and_parts _ _ taken).1)
first_request setup h (Message.BiSnp op bitag line span) rest taken = absurd (false≢true (and_parts _ _ taken).1)
first_request setup h (Message.Credit c) rest taken =
    absurd (false≢true (sym (credit_is_no_request c) ∙ (and_parts (take_fits setup device h (Message.Credit c))
    (channel_eq (channel_of (Message.Credit c)) Channel.Req) taken).1))

some_request :
    (setup : Configuration) (h : ℕ) (ms : List Message) → nat_le 1 (length ms) ≡ true → AreTakenOn setup h Channel.Req ms → (k : ℕ) × FoundRequest k ms
some_request setup h [] some taken = absurd (false≢true some)
some_request setup h (m ∷ rest) some taken = (tag_or_zero m, first_request setup h m rest (and_parts _ _ taken).0)

-- where no line is Busy and a request is buffered, some request may be used
pub requests_go_on :
    (setup : Configuration) (opening : List (Line × Bytes64)) (mine : List Event) → Quiet setup mine → list_any
    (λ h. nat_le 1 (length (buffered_requests h mine))) (below setup.hosts) ≡ true
    → SomeRequestGoesOn setup opening mine
requests_go_on setup opening mine quiet some =
    let host = any_below (λ h. nat_le 1 (length (buffered_requests h mine))) setup.hosts some in
    let found = some_request setup host.0 (buffered_requests host.0 mine) host.2 (quiet.taken host.0) in
    request_goes_on setup opening mine quiet host.0 found.0 found.1 host.1
