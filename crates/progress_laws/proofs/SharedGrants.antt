-- A Cmp-S in flight meets a MemRd Shared: by recursion over the run.
use Rattle.std.proofs.Common.{◌≡◌, ℕ, Bool, true, false, IsTrue, List, [], ◌∷◌, Option, Some, None, cond, refl, sym, ◌∙◌, ap, subst, ◌⊎◌, inl, inr, arith}
use Rattle.std.specs.Prelude.{filter, map, not, ◌&&◌, ◌==◌, ◌||◌}
use Rattle.std.specs.List.{list_any}
use Rattle.std.specs.Option.{option_or}
use Rattle.std.proofs.lemmas.Bool.{and_parts, eq-eqb, eqb-true, false≢true, or_cases}
use Rattle.std.proofs.lemmas.List.Folds.{list_any-append}
use Rattle.std.proofs.lemmas.Option.{none-some, same_Some}
use Rattle.cxl_message.specs.declared.channels.Channel.{Channel}
use Rattle.cxl_message.specs.declared.events.Act.{Act}
use Rattle.cxl_message.specs.declared.events.Cause.{Cause}
use Rattle.cxl_message.specs.declared.events.Event.{Event}
use Rattle.cxl_message.specs.declared.events.Op.{Op}
use Rattle.cxl_message.specs.declared.events.Out.{Out}
use Rattle.cxl_message.specs.declared.events.Sends.{Sends}
use Rattle.cxl_message.specs.declared.identifiers.Bytes64.{Bytes64}
use Rattle.cxl_message.specs.declared.identifiers.Line.{Line}
use Rattle.cxl_message.specs.declared.messages.Message.{Message}
use Rattle.cxl_message.specs.declared.opcodes.NdrOp.{NdrOp}
use Rattle.cxl_message.specs.Events.{line_of, outs}
use Rattle.cxl_message.specs.Messages.{message_eq, tag_of}
use Rattle.cxl_message.specs.Setup.{Configuration, IsWithinLimits}
use Rattle.coherence_model.specs.Buffers.{buffered_writes, message_with}
use Rattle.coherence_model.specs.Cache.{is_modified}
use Rattle.coherence_model.specs.DeviceActs.{buffered_request, finish_emission, served_by, snoop_message}
use Rattle.coherence_model.specs.DeviceRows.{device_emission}
use Rattle.coherence_model.specs.DirectoryChanges.{directory}
use Rattle.coherence_model.specs.Emission.{Emission}
use Rattle.coherence_model.specs.Fitting.{is_device, is_host}
use Rattle.coherence_model.specs.Flight.{in_flight, is_on, sends_on, takes_on, without_first, without_taken}
use Rattle.coherence_model.specs.HostOperations.{eviction_message, request_message}
use Rattle.coherence_model.specs.HostRows.{host_emission}
use Rattle.coherence_model.specs.OwnerFacts.{is_open_so, purpose_fits}
use Rattle.coherence_model.specs.RequestFacts.{grants, is_ndr_with, is_task_of}
use Rattle.coherence_model.specs.Rows.{row_emission}
use Rattle.coherence_model.specs.Runs.{IsRun, is_allowed, is_run}
use Rattle.coherence_model.specs.Tags.{open_with, tagged_line}
use Rattle.coherence_model.specs.Tasks.{Purpose, Task, is_eviction}
use Rattle.coherence_model.specs.Traces.{device, events_of}
use Rattle.coherence_model.specs.Transactions.{Kind, Transaction, open_after, open_at, opened}
use Rattle.coherence_lemmas.proofs.Allowed.{AllowedParts, allowed_parts}
use Rattle.coherence_lemmas.proofs.DeviceActs.{v3_serve-inv, v4_clean-inv, v5_start-inv, v6_evict-inv, v7_snoop-inv, v8_finish-inv, v9_return-inv}
use Rattle.coherence_lemmas.proofs.CreditsReach.{on_channel}
use Rattle.cxl_message.proofs.SameMessages.{message_eq-same}
use Rattle.coherence_lemmas.proofs.Rows.{device_row, device_take-inv, host_row}
use Rattle.coherence_lemmas.proofs.TakesSendNothing.{device_takes_silent}
use Rattle.request_laws.proofs.AllPlaces.{neither, only_sent, only_taken, other_events, own_events}
use Rattle.request_laws.proofs.HostOperations.{Evicts, Hits, Operated, Requests, eviction_kind, kind_of, operated, request_opens}
use Rattle.request_laws.proofs.OpenLines.{LeadBack, after_take, one_opens, open_leads_back, opening_line, take_keeps, two_open, victim_opens}
use Rattle.request_laws.proofs.Counts.{any_counts}
use Rattle.coherence_model.proofs.OwnRuns.{events_of_run}
use Rattle.request_laws.proofs.OwnRuns.{host_is_no_device}
use Rattle.request_laws.proofs.Owners.{tasks_have_requests, unused_tags}
use Rattle.progress_laws.proofs.Messages.{passes}

-- the Cmp-S with a tag
abbrev pub shared_grant_with : ℕ → Message
shared_grant_with tag = Message.Ndr NdrOp.CmpS (record { 0 = tag })

-- what is open with the tag of a Cmp-S that waits is a shared read
abbrev pub MeetShared : (ℕ → Option Transaction) → List Message → Type 0
MeetShared open_there ndr = (a : ℕ) (o : Transaction) → open_there a ≡ Some o → list_any (message_eq (shared_grant_with o.tag)) ndr ≡ true → o.kind ≡ Kind.ReadShared

-- ---- where a sent message is

-- a message is one of those sent to host h
abbrev pub SentTo : ℕ → Message → List Out → Type 0
SentTo h m [] = ⊥
SentTo h m (o ∷ os) = ((o.host ≡ h) × (o.message ≡ m)) ⊎ SentTo h m os

sent_by :
    (h : ℕ) (c : Channel) (m : Message) (o : Out) (os : List Out) (on : Bool) → is_on h c o ≡ on
    → list_any (message_eq m) (map (λ (x : Out). x.message) (cond on (o ∷ filter (is_on h c) os) (filter (is_on h c) os))) ≡ true
    → (list_any (message_eq m) (map (λ (x : Out). x.message) (filter (is_on h c) os)) ≡ true → SentTo h m os) → ((o.host ≡ h) × (o.message ≡ m)) ⊎ SentTo h m os
sent_by h c m o os true is there later =
    elim (or_cases (message_eq m o.message) (list_any (message_eq m) (map (λ (x : Out). x.message) (filter (is_on h c) os))) there) [
      | inl here ↦ inl ((on_channel h c o is).host, sym (message_eq-same m o.message here))
      | inr rest ↦ inr (later rest)
    ]
sent_by h c m o os false is there later = inr (later there)

pub sent_to : (h : ℕ) (c : Channel) (m : Message) (os : List Out) → list_any (message_eq m) (map (λ (x : Out). x.message) (filter (is_on h c) os)) ≡ true → SentTo h m os
sent_to h c m [] there = absurd (false≢true there)
sent_to h c m (o ∷ os) there = sent_by h c m o os (is_on h c o) refl there (sent_to h c m os)

-- what is left of the messages has no message that wasn't there
kept_by : (m n k : Message) (ns rest : List Message) (gone : Bool) → list_any (message_eq m) (cond gone ns (k ∷ rest)) ≡ true → (list_any (message_eq m) rest ≡ true → list_any (message_eq m) ns ≡ true) → (message_eq m k || list_any (message_eq m) ns) ≡ true
kept_by m n k ns rest true there later = right (message_eq m k) there
  where
    right : (b : Bool) {c : Bool} → c ≡ true → (b || c) ≡ true
    right true e = refl
    right false e = e
kept_by m n k ns rest false there later = mono (message_eq m k) (list_any (message_eq m) rest) (list_any (message_eq m) ns) later there
  where
    mono : (b c d : Bool) → (c ≡ true → d ≡ true) → (b || c) ≡ true → (b || d) ≡ true
    mono true c d f e = refl
    mono false c d f e = f e

was_there : (m n : Message) (ns : List Message) → list_any (message_eq m) (without_first n ns) ≡ true → list_any (message_eq m) ns ≡ true
was_there m n [] there = there
was_there m n (k ∷ ns) there = kept_by m n k ns (without_first n ns) (message_eq n k) there (was_there m n ns)

pub untaken : (m : Message) (o : Option Message) (ns : List Message) → list_any (message_eq m) (without_taken o ns) ≡ true → list_any (message_eq m) ns ≡ true
untaken m None ns there = there
untaken m (Some n) ns there = was_there m n ns there

-- ---- events of the host

-- one more line is opened, with a tag for which no Cmp-S waits
opened_by :
    (f : ℕ → Option Transaction) (ndr : List Message) (x : Transaction) → (list_any (message_eq (shared_grant_with x.tag)) ndr ≡ true → ⊥) → MeetShared f ndr → (a : ℕ) (o : Transaction) (here : Bool)
    → option_or (cond here (Some x) None) (f a) ≡ Some o → list_any (message_eq (shared_grant_with o.tag)) ndr ≡ true → o.kind ≡ Kind.ReadShared
opened_by f ndr x none inv a o true there waits = absurd (none (ap (λ (y : Transaction). list_any (message_eq (shared_grant_with y.tag)) ndr) (same_Some x o there) ∙ waits))
opened_by f ndr x none inv a o false there waits = inv a o there waits

opened_line : (f : ℕ → Option Transaction) (ndr : List Message) (l : ℕ) (x : Transaction) → (list_any (message_eq (shared_grant_with x.tag)) ndr ≡ true → ⊥) → MeetShared f ndr → MeetShared (opening_line l x f) ndr
opened_line f ndr l x none inv a o there waits = opened_by f ndr x none inv a o (l == a) there waits

operation_meets :
    (setup : Configuration) (h s i : ℕ) (op : Op) (past : List Event) (sends : Sends) (ndr : List Message) → Operated setup h op past sends
    → ((tag : ℕ) → open_with tag past ≡ None → list_any (message_eq (shared_grant_with tag)) ndr ≡ true → ⊥)
    → MeetShared (λ a. open_at a past) ndr → MeetShared (λ a. open_after a (Cause.Op s i op) sends (open_at a past)) ndr
operation_meets setup h s i op past sends ndr (Hits none) unused inv a o there waits =
    inv a o (ap (λ x. open_after a (Cause.Op s i op) x (open_at a past)) (sym none) ∙ there) waits
operation_meets setup h s i op past sends ndr (Requests one) unused inv a o there waits =
    opened_line (λ b. open_at b past) ndr (line_of op) (opened s i op (kind_of op) one.t) (unused one.t one.free.closed) inv a o
    (sym (one_opens a s i h op (request_message op one.t) (line_of op) one.t (kind_of op) past (request_opens op one.t))
    ∙ ap (λ x. open_after a (Cause.Op s i op) x (open_at a past)) (sym one.sent) ∙ there) waits
operation_meets setup h s i op past sends ndr (Evicts two) unused inv a o there waits =
    let k = eviction_kind (is_modified setup two.v past) in
    opened_line (opening_line (line_of op) (opened s i op (kind_of op) two.u) (λ b. open_at b past)) ndr two.v (opened s i op k two.t) (unused two.t two.free.first.closed)
    (opened_line (λ b. open_at b past) ndr (line_of op) (opened s i op (kind_of op) two.u) (unused two.u two.free.second.closed) inv) a o
    (sym (two_open a s i h op (eviction_message setup two.v past two.t) (request_message op two.u) two.v two.t k (line_of op) two.u (kind_of op) past (victim_opens setup two.v past two.t) (request_opens op two.u))
    ∙ ap (λ x. open_after a (Cause.Op s i op) x (open_at a past)) (sym two.sent) ∙ there) waits

host_meets :
    (setup : Configuration) (h : ℕ) (cause : Cause) (past : List Event) (w : Emission) (sends : Sends) (ndr : List Message) → host_emission setup h cause past ≡ Some w → sends ≡ w.sends
    → ((tag : ℕ) → open_with tag past ≡ None → list_any (message_eq (shared_grant_with tag)) ndr ≡ true → ⊥)
    → MeetShared (λ a. open_at a past) ndr → MeetShared (λ a. open_after a cause sends (open_at a past)) (without_taken (takes_on h Channel.Ndr cause) ndr)
host_meets setup h (Cause.Op s i op) past w sends ndr row sent unused inv =
    operation_meets setup h s i op past sends ndr (subst (Operated setup h op past) (sym sent) (operated setup h s i op past w row)) unused inv
host_meets setup h (Cause.Take host m) past w sends ndr row sent unused inv = λ a p there waits.
    let was = after_take m (open_at a past) p there in
    let kept = take_keeps m was.0 p was.2 in
    let before = untaken (shared_grant_with p.tag) (takes_on h Channel.Ndr (Cause.Take host m)) ndr waits in
    kept.kind ∙ inv a was.0 was.1 (subst (λ t. list_any (message_eq (shared_grant_with t)) ndr ≡ true) kept.tag before)
host_meets setup h (Cause.Act act) past w sends ndr row sent unused inv = inv

-- ---- events of the device

-- a Cmp-S is sent by the end of a shared read's task alone
pub record GrantsShared (setup : Configuration) (h tag : ℕ) (mine : List Event) : Type 0 where
  pub a : ℕ
  pub task : Task
  pub stands : (directory setup mine).task a ≡ Some task
  pub purpose : task.purpose ≡ Purpose.SharedRead
  pub host : task.host ≡ h
  pub tagged : task.tag ≡ tag

not_shared : (tag : ℕ) (m answer : Message) → served_by m ≡ Some answer → answer ≡ shared_grant_with tag → ⊥
not_shared tag (Message.Req _ _ _ _ _) answer is same = absurd (none-some answer is)
not_shared tag (Message.MemWr meta snp t line bytes) answer is same = let e = same_Some (Message.Ndr NdrOp.Cmp t) answer is ∙ same in cc
not_shared tag (Message.BiConflict t) answer is same = let e = same_Some (Message.Ndr NdrOp.ConflictAck t) answer is ∙ same in cc
not_shared tag (Message.BiRsp _ _ _) answer is same = absurd (none-some answer is)
not_shared tag (Message.Ndr _ _) answer is same = absurd (none-some answer is)
not_shared tag (Message.MemData _ _) answer is same = absurd (none-some answer is)
not_shared tag (Message.BiSnp _ _ _ _) answer is same = absurd (none-some answer is)
not_shared tag (Message.Credit _) answer is same = absurd (none-some answer is)

-- one message that isn't a Cmp-S
one_other : {C : Type 0} (h k tag : ℕ) (m : Message) → (m ≡ shared_grant_with tag → ⊥) → SentTo h (shared_grant_with tag) (record { host = k; message = m } ∷ []) → C
one_other h k tag m other (inl here) = absurd (other here.1)
one_other h k tag m other (inr none) = absurd none

finished_tag : (c : NdrOp) (t tag : ℕ) → Message.Ndr c (record { 0 = t }) ≡ shared_grant_with tag → t ≡ tag
finished_tag c t tag e = same_Some t tag (ap tag_of e)

finish_grants :
    (setup : Configuration) (h tag a : ℕ) (mine : List Event) (task : Task) (purpose : Purpose) (c : NdrOp) (bytes : Bytes64) → (directory setup mine).task a ≡ Some task → task.purpose ≡ purpose
    → SentTo h (shared_grant_with tag) (outs (finish_emission purpose c task.host task.tag bytes).sends) → GrantsShared setup h tag mine
finish_grants setup h tag a mine task Purpose.SharedRead c bytes stands is (inl here) =
    record { a = a; task = task; stands = stands; purpose = is; host = here.0; tagged = finished_tag c task.tag tag here.1 }
finish_grants setup h tag a mine task Purpose.SharedRead c bytes stands is (inr (inl here)) = let e = here.1 in cc
finish_grants setup h tag a mine task Purpose.SharedRead c bytes stands is (inr (inr none)) = absurd none
finish_grants setup h tag a mine task Purpose.OwningRead c bytes stands is (inl here) = let e = here.1 in cc
finish_grants setup h tag a mine task Purpose.OwningRead c bytes stands is (inr (inl here)) = let e = here.1 in cc
finish_grants setup h tag a mine task Purpose.OwningRead c bytes stands is (inr (inr none)) = absurd none
finish_grants setup h tag a mine task Purpose.Invalidation c bytes stands is (inl here) = let e = here.1 in cc
finish_grants setup h tag a mine task Purpose.Invalidation c bytes stands is (inr none) = absurd none
finish_grants setup h tag a mine task Purpose.Eviction c bytes stands is none = absurd none

-- the same with equal emissions
sent_as : (h : ℕ) (m : Message) (s s' : Sends) → s ≡ s' → SentTo h m (outs s) → SentTo h m (outs s')
sent_as h m s s' e there = subst (λ x. SentTo h m (outs x)) e there

device_sends :
    (setup : Configuration) (opening : List (Line × Bytes64)) (h tag : ℕ) (cause : Cause) (mine : List Event) (w : Emission) → device_emission setup opening cause mine ≡ Some w
    → SentTo h (shared_grant_with tag) (outs w.sends) → GrantsShared setup h tag mine
device_sends setup opening h tag (Cause.Op s i op) mine w row there = absurd (none-some w row)
device_sends setup opening h tag (Cause.Take k m) mine w row there =
    absurd (sent_as h (shared_grant_with tag) w.sends Sends.Nothing (device_takes_silent setup k m mine w (device_take-inv setup opening k m mine w row).same) there)
device_sends setup opening h tag (Cause.Act (Act.Conflict _)) mine w row there = absurd (none-some w row)
device_sends setup opening h tag (Cause.Act (Act.WriteBack _)) mine w row there = absurd (none-some w row)
device_sends setup opening h tag (Cause.Act (Act.Answer _)) mine w row there = absurd (none-some w row)
device_sends setup opening h tag (Cause.Act (Act.AnswerBlock _)) mine w row there = absurd (none-some w row)
device_sends setup opening h tag (Cause.Act (Act.HostReturn _)) mine w row there = absurd (none-some w row)
device_sends setup opening h tag (Cause.Act (Act.Serve k t)) mine w row there =
    let inv = v3_serve-inv k (message_with t.0 (buffered_writes k mine)) w row in
    one_other h k tag inv.answer (not_shared tag inv.m inv.answer inv.answers) (sent_as h (shared_grant_with tag) w.sends _ (ap (λ (x : Emission). x.sends) inv.emits) there)
device_sends setup opening h tag (Cause.Act (Act.Clean k t)) mine w row there =
    let inv = v4_clean-inv k (buffered_request k t mine) (directory setup mine) w row in
    one_other h k tag (Message.Ndr NdrOp.Cmp inv.r.tag) (λ e. cc) (sent_as h (shared_grant_with tag) w.sends _ (ap (λ (x : Emission). x.sends) inv.emits) there)
device_sends setup opening h tag (Cause.Act (Act.Start k t)) mine w row there =
    let inv = v5_start-inv setup k (buffered_request k t mine) (directory setup mine) mine w row in
    absurd (sent_as h (shared_grant_with tag) w.sends Sends.Nothing (ap (λ (x : Emission). x.sends) inv.emits) there)
device_sends setup opening h tag (Cause.Act (Act.Evict k t)) mine w row there =
    let inv = v6_evict-inv setup k (buffered_request k t mine) (directory setup mine) mine w row in
    absurd (sent_as h (shared_grant_with tag) w.sends Sends.Nothing (ap (λ (x : Emission). x.sends) inv.emits) there)
device_sends setup opening h tag (Cause.Act (Act.Snoop k line)) mine w row there =
    let inv = v7_snoop-inv k line.0 ((directory setup mine).task line.0) (directory setup mine) mine w row in
    one_other h k tag (snoop_message line.0 inv.t) (λ e. cc) (sent_as h (shared_grant_with tag) w.sends _ (ap (λ (x : Emission). x.sends) inv.emits) there)
device_sends setup opening h tag (Cause.Act (Act.Finish line)) mine w row there =
    let inv = v8_finish-inv setup opening line.0 ((directory setup mine).task line.0) (directory setup mine) mine w row in
    finish_grants setup h tag line.0 mine inv.t inv.t.purpose _ _ inv.found refl (sent_as h (shared_grant_with tag) w.sends _ (ap (λ (x : Emission). x.sends) inv.emits) there)
device_sends setup opening h tag (Cause.Act (Act.DeviceReturn k c)) mine w row there =
    let inv = v9_return-inv k c mine w row in
    one_other h k tag (Message.Credit c) (λ e. cc) (sent_as h (shared_grant_with tag) w.sends _ (ap (λ (x : Emission). x.sends) inv.emits) there)

-- ---- over the run

shared_kind : (tag : ℕ) (o : Transaction) → is_open_so (purpose_fits Purpose.SharedRead) tag (Some o) ≡ true → (o.kind ≡ Kind.ReadShared) × (o.tag ≡ tag)
shared_kind tag o is = let parts = and_parts _ _ is in (kind_by o.kind parts.0, eqb-true o.tag tag parts.1)
  where
    kind_by : (k : Kind) → purpose_fits Purpose.SharedRead k ≡ true → k ≡ Kind.ReadShared
    kind_by Kind.ReadShared h = refl
    kind_by Kind.ReadAny h = absurd (false≢true h)
    kind_by Kind.Invalidate h = absurd (false≢true h)
    kind_by Kind.CleanEviction h = absurd (false≢true h)
    kind_by Kind.DirtyEviction h = absurd (false≢true h)

open_found : (tag : ℕ) (found : Option Transaction) → is_open_so (purpose_fits Purpose.SharedRead) tag found ≡ true → (o : Transaction) × (found ≡ Some o) × (o.kind ≡ Kind.ReadShared) × (o.tag ≡ tag)
open_found tag None is = absurd (false≢true is)
open_found tag (Some o) is = let parts = shared_kind tag o is in (o, refl, parts.0, parts.1)

module _ (setup : Configuration) (opening : List (Line × Bytes64)) (limits : IsWithinLimits setup) (h : ℕ) (host : IsTrue (is_host setup h)) (e : Event) (past : List Event) (run : IsRun setup opening past)
    (parts : AllowedParts setup opening past e) (inv : MeetShared (λ a. open_at a (events_of h past)) (in_flight h Channel.Ndr past)) where
  no_device : is_device h ≡ false
  no_device = host_is_no_device setup limits h host

  lead : LeadBack setup (λ a. open_at a (events_of h past)) (λ b. tagged_line b (events_of h past))
  lead = open_leads_back setup opening h no_device (events_of h past) (events_of_run setup opening h past run)

  none_waits : (tag : ℕ) → open_with tag (events_of h past) ≡ None → list_any (message_eq (shared_grant_with tag)) (in_flight h Channel.Ndr past) ≡ true → ⊥
  none_waits tag none waits =
      let zero = (unused_tags setup opening limits h host past run tag none).granted in
      let some = any_counts (is_ndr_with grants tag) (in_flight h Channel.Ndr past) (passes (is_ndr_with grants tag) (shared_grant_with tag) (in_flight h Channel.Ndr past) (eq-eqb tag tag refl) waits) in
      omega arith

  by_own : (e.agent == h) ≡ true → MeetShared (λ a. open_at a (events_of h (e ∷ past))) (in_flight h Channel.Ndr (e ∷ past))
  by_own is =
      let same = eqb-true e.agent h is in
      let other : (e.agent == device) ≡ false = ap (λ g. g == device) same ∙ no_device in
      subst (λ mine. MeetShared (λ a. open_at a mine) (in_flight h Channel.Ndr (e ∷ past))) (own_events h e past is)
      (subst (MeetShared (λ a. open_at a (e ∷ events_of h past))) (only_taken setup opening h e past parts Channel.Ndr other)
      (host_meets setup h e.cause (events_of h past) parts.row.w e.sends (in_flight h Channel.Ndr past)
      (sym (host_row setup opening h e.cause (events_of h past) no_device) ∙ subst (λ g. row_emission setup opening g e.cause (events_of g past) ≡ Some parts.row.w) same parts.row.row) parts.row.sends none_waits inv))

  sent_meets : (e.agent == device) ≡ true → (a : ℕ) (o : Transaction) → open_at a (events_of h past) ≡ Some o → list_any (message_eq (shared_grant_with o.tag)) (sends_on h Channel.Ndr e) ≡ true → o.kind ≡ Kind.ReadShared
  sent_meets is a o there waits =
      let same = eqb-true e.agent device is in
      let row = subst (λ g. row_emission setup opening g e.cause (events_of g past) ≡ Some parts.row.w) same parts.row.row in
      let sent = sent_as h (shared_grant_with o.tag) e.sends parts.row.w.sends parts.row.sends (sent_to h Channel.Ndr (shared_grant_with o.tag) (outs e.sends) waits) in
      let given = device_sends setup opening h o.tag e.cause (events_of device past) parts.row.w (sym (device_row setup opening device e.cause (events_of device past) refl) ∙ row) sent in
      let mine : is_task_of h o.tag given.task ≡ true = task_is given.task given.purpose given.host given.tagged in
      let owner = tasks_have_requests setup opening limits h host past run o.tag given.a given.task given.stands mine in
      let found = open_found o.tag (open_at given.a (events_of h past)) (subst (λ p. is_open_so (purpose_fits p) o.tag (open_at given.a (events_of h past)) ≡ true) given.purpose owner) in
      let line = same_Some given.a a (sym (lead given.a found.0 found.1).back ∙ ap (λ t. tagged_line t (events_of h past)) found.3 ∙ (lead a o there).back) in
      ap (λ (x : Transaction). x.kind) (sym (same_Some found.0 o (sym found.1 ∙ ap (λ b. open_at b (events_of h past)) line ∙ there))) ∙ found.2
    where
      task_is : (task : Task) → task.purpose ≡ Purpose.SharedRead → task.host ≡ h → task.tag ≡ o.tag → is_task_of h o.tag task ≡ true
      task_is task purpose at_host tag =
          ap (λ p. not (is_eviction p) && (task.host == h) && (task.tag == o.tag)) purpose ∙ ap (λ b. b && (task.tag == o.tag)) (eq-eqb task.host h at_host) ∙ eq-eqb task.tag o.tag tag

  by_device : (e.agent == h) ≡ false → (e.agent == device) ≡ true → MeetShared (λ a. open_at a (events_of h (e ∷ past))) (in_flight h Channel.Ndr (e ∷ past))
  by_device other is a o there waits =
      let before = ap (λ mine. open_at a mine) (other_events h e past other) ∙ there in
      elim (or_cases (list_any (message_eq (shared_grant_with o.tag)) (in_flight h Channel.Ndr past)) (list_any (message_eq (shared_grant_with o.tag)) (sends_on h Channel.Ndr e))
      (sym (list_any-append (message_eq (shared_grant_with o.tag)) (in_flight h Channel.Ndr past) (sends_on h Channel.Ndr e))
      ∙ ap (list_any (message_eq (shared_grant_with o.tag))) (only_sent setup opening h e past parts Channel.Ndr other) ∙ waits)) [
        | inl old ↦ inv a o before old
        | inr new ↦ sent_meets is a o before new
      ]

  by_other : (e.agent == h) ≡ false → (e.agent == device) ≡ false → MeetShared (λ a. open_at a (events_of h (e ∷ past))) (in_flight h Channel.Ndr (e ∷ past))
  by_other other another a o there waits =
      inv a o (ap (λ mine. open_at a mine) (other_events h e past other) ∙ there) (ap (list_any (message_eq (shared_grant_with o.tag))) (neither setup opening h e past parts Channel.Ndr other another) ∙ waits)

  by_agent : (own dev : Bool) → (e.agent == h) ≡ own → (e.agent == device) ≡ dev → MeetShared (λ a. open_at a (events_of h (e ∷ past))) (in_flight h Channel.Ndr (e ∷ past))
  by_agent true dev is its = by_own is
  by_agent false true is its = by_device is its
  by_agent false false is its = by_other is its

  pub goes_on : MeetShared (λ a. open_at a (events_of h (e ∷ past))) (in_flight h Channel.Ndr (e ∷ past))
  goes_on = by_agent (e.agent == h) (e.agent == device) refl refl

pub shared_grants_meet :
    (setup : Configuration) (opening : List (Line × Bytes64)) → IsWithinLimits setup → (h : ℕ) → IsTrue (is_host setup h) → (t : List Event) → IsRun setup opening t
    → MeetShared (λ a. open_at a (events_of h t)) (in_flight h Channel.Ndr t)
shared_grants_meet setup opening limits h host [] run = λ a o there waits. absurd (none-some o there)
shared_grants_meet setup opening limits h host (e ∷ past) run =
    let runs = and_parts (is_run setup opening past) (is_allowed setup opening past e) run in
    goes_on setup opening limits h host e past runs.0 (allowed_parts setup opening past e runs.1) (shared_grants_meet setup opening limits h host past runs.0)
