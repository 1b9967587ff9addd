-- What holds of a host after each list of its own events that its own half allows.
use Rattle.std.proofs.Common.{Bool, IsTrue, List, None, Option, Some, [], ap, arith, cond, false, refl, subst, sym, true, ℕ, ◌-◌, ◌∙◌, ◌∷◌, ◌≡◌}
use Rattle.std.proofs.lemmas.Bool.{and_parts, cond-false, cond-true, eqb-true, false≢true}
use Rattle.std.proofs.lemmas.Option.{none-some, same_Some}
use Rattle.std.specs.Prelude.{is_none, option_and_then, ◌&&◌, ◌==◌}
use Rattle.cxl_message.specs.declared.events.Act.{Act}
use Rattle.cxl_message.specs.declared.events.Cause.{Cause}
use Rattle.cxl_message.specs.declared.opcodes.RspOp.{RspOp}
use Rattle.coherence_model.specs.Next.{event_with}
use Rattle.std.specs.Option.{option_or}
use Rattle.cxl_message.specs.declared.events.Event.{Event}
use Rattle.cxl_message.specs.declared.events.Op.{Op}
use Rattle.cxl_message.specs.declared.identifiers.Bytes64.{Bytes64}
use Rattle.cxl_message.specs.declared.identifiers.Line.{Line}
use Rattle.cxl_message.specs.declared.messages.Message.{Message}
use Rattle.cxl_message.specs.declared.opcodes.NdrOp.{NdrOp}
use Rattle.cxl_message.specs.Events.{line_of}
use Rattle.cxl_message.specs.Setup.{Configuration}
use Rattle.coherence_model.specs.Cache.{copy, is_modified}
use Rattle.coherence_model.specs.Copies.{filling_grant}
use Rattle.cxl_message.specs.Stores.{line_after}
use Rattle.coherence_model.specs.Fitting.{is_device}
use Rattle.coherence_model.specs.HostActs.{response_for, stays_shared, write_back_message}
use Rattle.coherence_model.specs.HostOperations.{eviction_message}
use Rattle.coherence_model.specs.HostTakes.{may_grant}
use Rattle.coherence_model.specs.Snoops.{buffered_snoops}
use Rattle.coherence_model.specs.Tags.{tagged_line}
use Rattle.coherence_model.specs.Transactions.{Kind, Transaction, is_read, is_request, open_after_completion, open_after_data, open_after_grant, open_at, opened}
use Rattle.coherence_model.proofs.Allowed.{own_half_parts}
use Rattle.coherence_lemmas.proofs.Allowed.{emitted, profiled}
use Rattle.coherence_lemmas.proofs.Rows.{host_row}
use Rattle.coherence_model.specs.Rows.{row_emission}
use Rattle.coherence_model.specs.Fitting.{cause_fits}
use Rattle.request_laws.proofs.Conflicts.{ConflictsAre, conflicts_kept}
use Rattle.request_laws.proofs.HostOperations.{eviction_kind, kind_of}
use Rattle.request_laws.proofs.OpenLines.{LeadBack, open_leads_back}
use Rattle.request_laws.proofs.SnoopsKept.{SnoopsKept, snoops_kept}
use Rattle.request_laws.proofs.WriteBacks.{WritesAre, writes_kept}
use Rattle.coherence_model.specs.OwnRuns.{is_own_run}
use Rattle.host_laws.proofs.CacheKept.{CacheKeeps, asks, drop_keeps, evict_keeps, hit_keeps, request_keeps}
use Rattle.host_laws.proofs.CacheTakes.{answer_keeps_shared, answered_keeps, block_keeps, fill_keeps, idle_keeps, mark_keeps, modified_is_valid, written_keeps}
use Rattle.host_laws.proofs.Events.{act_event, commit_of, evicting_event, request_event, take_event}
use Rattle.host_laws.proofs.HostEvents.{ByAck, ByAnswer, ByBlock, ByConflict, ByCredit, ByData, ByDataFill, ByDrop, ByEviction, ByEvictionEnd, ByGrant, ByGrantFill, ByHit, ByRequest, ByReturn, BySnoop, ByWriteBack, ByWriteEnd, HostEvent, OwnStep, data_of, ndr}
use Rattle.host_laws.proofs.HostCases.{host_event}
use Rattle.host_laws.proofs.Opens.{AnswersTag, FoundLine, ack_open, credit_open, data_answers, evicted, found_line, ndr_answers, open_take, request_open, snoop_open, two_open_at, write_end_open}

-- a request that is open for a line is one of that line's operations
abbrev pub OwnLines : List Event → Type 0
OwnLines mine = (a : ℕ) (o : Transaction) → open_at a mine ≡ Some o → is_request o.kind ≡ true → line_of o.op ≡ a

opened_own : (f : ℕ → Option Transaction) (l a : ℕ) (x o : Transaction) (b : Bool) → (l == a) ≡ b → (is_request x.kind ≡ true → line_of x.op ≡ l) → ((o : Transaction) → f a ≡ Some o → is_request o.kind ≡ true → line_of o.op ≡ a)
    → cond b (Some x) (f a) ≡ Some o → is_request o.kind ≡ true → line_of o.op ≡ a
opened_own f l a x o true is own before there request =
    let same = same_Some x o there in
    ap (λ (y : Transaction). line_of y.op) (sym same) ∙ own (ap (λ (y : Transaction). is_request y.kind) same ∙ request) ∙ eqb-true l a is
opened_own f l a x o false is own before there request = before o there request

stepped_own : (f : ℕ → Option Transaction) (l a : ℕ) (o p : Transaction) (step : Transaction → Option Transaction) (b : Bool) → (l == a) ≡ b → f l ≡ Some o → ((p : Transaction) → step o ≡ Some p → (p.kind ≡ o.kind) × (p.op ≡ o.op))
    → ((k : ℕ) (o : Transaction) → f k ≡ Some o → is_request o.kind ≡ true → line_of o.op ≡ k) → cond b (step o) (f a) ≡ Some p → is_request p.kind ≡ true → line_of p.op ≡ a
stepped_own f l a o p step true is at keeps before there request =
    let same = keeps p there in
    ap line_of same.1 ∙ before l o at (ap is_request (sym same.0) ∙ request) ∙ eqb-true l a is
stepped_own f l a o p step false is at keeps before there request = before a p there request

if_same : (b : Bool) (x p : Transaction) → cond b (Some x) None ≡ Some p → (p.kind ≡ x.kind) × (p.op ≡ x.op)
if_same true x p h = let same = same_Some x p h in (ap (λ (y : Transaction). y.kind) (sym same), ap (λ (y : Transaction). y.op) (sym same))
if_same false x p h = absurd (none-some p h)

pub ndr_same : (c : NdrOp) (o p : Transaction) → open_after_completion c o ≡ Some p → (p.kind ≡ o.kind) × (p.op ≡ o.op)
ndr_same NdrOp.Cmp o p there = if_same (is_request o.kind) o p there
ndr_same NdrOp.CmpS o p there = if_same (is_read o.kind && is_none o.bytes) (record o { grant = Some NdrOp.CmpS }) p there
ndr_same NdrOp.CmpE o p there = if_same (is_read o.kind && is_none o.bytes) (record o { grant = Some NdrOp.CmpE }) p there
ndr_same NdrOp.ConflictAck o p there = let same = same_Some o p there in (ap (λ (y : Transaction). y.kind) (sym same), ap (λ (y : Transaction). y.op) (sym same))

pub data_same : (bytes : Bytes64) (o p : Transaction) → open_after_data bytes o ≡ Some p → (p.kind ≡ o.kind) × (p.op ≡ o.op)
data_same bytes o p there = if_same (is_none o.grant) (record o { bytes = Some bytes }) p there

-- what is open after each event

own_request : (h s i : ℕ) (op : Op) (tag : ℕ) (mine : List Event) → OwnLines mine → OwnLines (request_event h s i op tag ∷ mine)
own_request h s i op tag mine own a o there =
    opened_own (λ b. open_at b mine) (line_of op) a (opened s i op (kind_of op) tag) o (line_of op == a) refl (λ r. refl) (own a) (sym (request_open h s i op tag mine a) ∙ there)

own_evict : (setup : Configuration) (h s i : ℕ) (op : Op) (v t u : ℕ) (mine : List Event) → OwnLines mine → OwnLines (evicting_event h s i op (eviction_message setup v mine t) u ∷ mine)
own_evict setup h s i op v t u mine own a o there =
    opened_own (λ b. cond (line_of op == b) (Some (opened s i op (kind_of op) u)) (open_at b mine)) v a (evicted s i op (is_modified setup v mine) t) o (v == a) refl
    (λ r. absurd (false≢true (sym (no_request (is_modified setup v mine)) ∙ r)))
    (λ p at. opened_own (λ b. open_at b mine) (line_of op) a (opened s i op (kind_of op) u) p (line_of op == a) refl (λ r. refl) (own a) at)
    (sym (two_open_at setup h s i op v t u mine a) ∙ there)
  where
    no_request : (m : Bool) → is_request (eviction_kind m) ≡ false
    no_request true = refl
    no_request false = refl

own_taken :
    (setup : Configuration) (h : ℕ) (m : Message) (tag : ℕ) (step : Transaction → Option Transaction) → AnswersTag m tag step → (commit : Option Rattle.cxl_message.specs.declared.events.Commit.Commit) (mine : List Event)
    → LeadBack setup (λ a. open_at a mine) (λ t. tagged_line t mine) → (o : Transaction) (found : FoundLine mine tag o) → ((p : Transaction) → step o ≡ Some p → (p.kind ≡ o.kind) × (p.op ≡ o.op))
    → OwnLines mine → OwnLines (take_event h m commit ∷ mine)
own_taken setup h m tag step answers commit mine back o found keeps own a p there =
    stepped_own (λ b. open_at b mine) found.a a o p step (found.a == a) refl found.there keeps own
    (sym (open_take setup h m tag step answers commit mine back o found.a found.there found.tag found.tagged a) ∙ there)

own_same : (e : Event) (mine : List Event) → ((a : ℕ) → open_at a (e ∷ mine) ≡ open_at a mine) → OwnLines mine → OwnLines (e ∷ mine)
own_same e mine same own a o there = own a o (sym (same a) ∙ there)

-- all together

pub record Keeps (setup : Configuration) (mine : List Event) : Type 0 where
  pub back : LeadBack setup (λ a. open_at a mine) (λ t. tagged_line t mine)
  pub own : OwnLines mine
  pub cache : CacheKeeps setup mine
  pub snoops : SnoopsKept (buffered_snoops mine)
  pub conflicts : ConflictsAre setup mine
  pub writes : WritesAre setup mine

-- a grant that is allowed ends or leaves the request as the opcode of a grant does
pub grant_step : (c : NdrOp) (o : Transaction) → may_grant c o.kind ≡ true → open_after_completion c o ≡ open_after_grant c o
grant_step NdrOp.Cmp o may = absurd (false≢true may)
grant_step NdrOp.CmpS o may = refl
grant_step NdrOp.CmpE o may = refl
grant_step NdrOp.ConflictAck o may = absurd (false≢true may)

pub grants_request : (c : NdrOp) (kind : Kind) → may_grant c kind ≡ true → is_request kind ≡ true
grants_request NdrOp.Cmp kind may = absurd (false≢true may)
grants_request NdrOp.CmpS Kind.ReadShared may = refl
grants_request NdrOp.CmpS Kind.ReadAny may = refl
grants_request NdrOp.CmpS Kind.Invalidate may = refl
grants_request NdrOp.CmpS Kind.CleanEviction may = absurd (false≢true may)
grants_request NdrOp.CmpS Kind.DirtyEviction may = absurd (false≢true may)
grants_request NdrOp.CmpE kind may = may
grants_request NdrOp.ConflictAck kind may = absurd (false≢true may)

pub reads_request : (kind : Kind) → is_read kind ≡ true → is_request kind ≡ true
reads_request Kind.ReadShared h = refl
reads_request Kind.ReadAny h = refl
reads_request Kind.Invalidate h = refl
reads_request Kind.CleanEviction h = h
reads_request Kind.DirtyEviction h = h

-- what each answer leaves

pub grant_waits : (c : NdrOp) (o : Transaction) → may_grant c o.kind ≡ true → is_read o.kind ≡ true → o.bytes ≡ None → open_after_completion c o ≡ Some (record o { grant = Some c })
grant_waits c o may read waits = grant_step c o may ∙ cond-true (is_read o.kind && is_none o.bytes) _ None (both (is_read o.kind) (is_none o.bytes) read (ap is_none waits))
  where
    both : (x y : Bool) → x ≡ true → y ≡ true → (x && y) ≡ true
    both x y p q = ap (λ b. b && y) p ∙ q

pub grant_ends : (c : NdrOp) (o : Transaction) → may_grant c o.kind ≡ true → (is_read o.kind && is_none o.bytes) ≡ false → open_after_completion c o ≡ None
grant_ends c o may ends = grant_step c o may ∙ cond-false (is_read o.kind && is_none o.bytes) _ None ends

pub data_waits : (bytes : Bytes64) (o : Transaction) → o.grant ≡ None → open_after_data bytes o ≡ Some (record o { bytes = Some bytes })
data_waits bytes o waits = cond-true (is_none o.grant) _ None (ap is_none waits)

pub data_ends : (bytes : Bytes64) (o : Transaction) (c : NdrOp) → o.grant ≡ Some c → open_after_data bytes o ≡ None
data_ends bytes o c granted = cond-false (is_none o.grant) _ None (ap is_none granted)

pub eviction_ends : (o : Transaction) → is_request o.kind ≡ false → open_after_completion NdrOp.Cmp o ≡ None
eviction_ends o eviction = cond-false (is_request o.kind) (Some o) None eviction

-- the requests' lines after an event
pub own_step : (setup : Configuration) (h : ℕ) (mine : List Event) (e : Event) → LeadBack setup (λ a. open_at a mine) (λ t. tagged_line t mine) → OwnLines mine → HostEvent setup h mine e → OwnLines (e ∷ mine)
own_step setup h mine e back own (ByHit r) = subst (λ x. OwnLines (x ∷ mine)) (sym r.is) own
own_step setup h mine e back own (ByRequest r) = subst (λ x. OwnLines (x ∷ mine)) (sym r.is) (own_request h r.s r.i r.op r.tag mine own)
own_step setup h mine e back own (ByDrop r) = subst (λ x. OwnLines (x ∷ mine)) (sym r.is) (own_request h r.s r.i r.op r.tag mine own)
own_step setup h mine e back own (ByEviction r) = subst (λ x. OwnLines (x ∷ mine)) (sym r.is) (own_evict setup h r.s r.i r.op r.v r.t r.u mine own)
own_step setup h mine e back own (ByWriteEnd r) = subst (λ x. OwnLines (x ∷ mine)) (sym r.is) (own_same (take_event h (ndr NdrOp.Cmp setup.tags) None) mine (write_end_open setup h mine back) own)
own_step setup h mine e back own (ByEvictionEnd r) =
    subst (λ x. OwnLines (x ∷ mine)) (sym r.is) (own_taken setup h _ r.tag _ (ndr_answers NdrOp.Cmp r.tag) None mine back r.o (found_line mine r.tag r.o r.there) (ndr_same NdrOp.Cmp r.o) own)
own_step setup h mine e back own (ByGrant r) =
    subst (λ x. OwnLines (x ∷ mine)) (sym r.is) (own_taken setup h _ r.tag _ (ndr_answers r.c r.tag) None mine back r.o (found_line mine r.tag r.o r.there) (ndr_same r.c r.o) own)
own_step setup h mine e back own (ByGrantFill r) =
    subst (λ x. OwnLines (x ∷ mine)) (sym r.is) (own_taken setup h _ r.tag _ (ndr_answers r.c r.tag) (Some (commit_of r.o.stream r.o.index r.o.op (line_after r.o.op r.bytes))) mine back r.o (found_line mine r.tag r.o r.there) (ndr_same r.c r.o) own)
own_step setup h mine e back own (ByData r) =
    subst (λ x. OwnLines (x ∷ mine)) (sym r.is) (own_taken setup h _ r.tag _ (data_answers r.tag r.bytes) None mine back r.o (found_line mine r.tag r.o r.there) (data_same r.bytes r.o) own)
own_step setup h mine e back own (ByDataFill r) =
    subst (λ x. OwnLines (x ∷ mine)) (sym r.is) (own_taken setup h _ r.tag _ (data_answers r.tag r.bytes) (Some (commit_of r.o.stream r.o.index r.o.op (line_after r.o.op r.bytes))) mine back r.o (found_line mine r.tag r.o r.there) (data_same r.bytes r.o) own)
own_step setup h mine e back own (BySnoop r) = subst (λ x. OwnLines (x ∷ mine)) (sym r.is) (own_same (take_event h (Message.BiSnp r.op r.bitag r.line r.span) None) mine (snoop_open h r.op r.bitag r.line r.span None mine) own)
own_step setup h mine e back own (ByAck r) = subst (λ x. OwnLines (x ∷ mine)) (sym r.is) (own_same (take_event h (ndr NdrOp.ConflictAck r.tag) None) mine (ack_open h r.tag None mine) own)
own_step setup h mine e back own (ByCredit r) = subst (λ x. OwnLines (x ∷ mine)) (sym r.is) (own_same (take_event h (Message.Credit r.c) None) mine (credit_open h r.c None mine) own)
own_step setup h mine e back own (ByConflict r) = subst (λ x. OwnLines (x ∷ mine)) (sym r.is) own
own_step setup h mine e back own (ByWriteBack r) = subst (λ x. OwnLines (x ∷ mine)) (sym r.is) own
own_step setup h mine e back own (ByAnswer r) = subst (λ x. OwnLines (x ∷ mine)) (sym r.is) own
own_step setup h mine e back own (ByBlock r) = subst (λ x. OwnLines (x ∷ mine)) (sym r.is) own
own_step setup h mine e back own (ByReturn r) = subst (λ x. OwnLines (x ∷ mine)) (sym r.is) own

-- what a fill is granted by

option_or_none : (x : Option NdrOp) → option_or None x ≡ x
option_or_none x = refl

-- the grant of a fill by MemData is the one that was taken before
pub data_grant : (setup : Configuration) (mine : List Event) (tag : ℕ) (bytes : Bytes64) (o : Transaction) (c : NdrOp) → OwnLines mine → (found : FoundLine mine tag o) → is_request o.kind ≡ true → o.grant ≡ Some c
    → filling_grant (data_of tag bytes) (open_at (line_of o.op) mine) ≡ Some c
data_grant setup mine tag bytes o c own found request granted =
    ap (λ x. option_and_then (λ (p : Transaction). p.grant) x) (ap (λ l. open_at l mine) (own found.a o found.there request) ∙ found.there) ∙ granted

-- copies and ways after an event
pub cache_step :
    (setup : Configuration) (h : ℕ) (mine : List Event) (e : Event) → LeadBack setup (λ a. open_at a mine) (λ t. tagged_line t mine) → OwnLines mine → CacheKeeps setup mine → HostEvent setup h mine e → CacheKeeps setup (e ∷ mine)
cache_step setup h mine e back own k (ByHit r) = subst (λ x. CacheKeeps setup (x ∷ mine)) (sym r.is) (hit_keeps setup h r.s r.i r.op (line_after r.op (copy setup (line_of r.op) mine).bytes) mine k r.on_copy)
cache_step setup h mine e back own k (ByRequest r) = subst (λ x. CacheKeeps setup (x ∷ mine)) (sym r.is) (request_keeps setup h r.s r.i r.op r.tag mine k r.needs)
cache_step setup h mine e back own k (ByDrop r) = subst (λ x. CacheKeeps setup (x ∷ mine)) (sym r.is) (drop_keeps setup h r.s r.i r.op r.tag r.v mine k r.needs r.victim)
cache_step setup h mine e back own k (ByEviction r) = subst (λ x. CacheKeeps setup (x ∷ mine)) (sym r.is) (evict_keeps setup h r.s r.i r.op r.v r.t r.u mine k r.needs r.victim)
cache_step setup h mine e back own k (ByWriteEnd r) =
    subst (λ x. CacheKeeps setup (x ∷ mine)) (sym r.is) (idle_keeps setup (take_event h (ndr NdrOp.Cmp setup.tags) None) mine k (λ a. refl) refl (write_end_open setup h mine back))
cache_step setup h mine e back own k (ByEvictionEnd r) =
    subst (λ x. CacheKeeps setup (x ∷ mine)) (sym r.is)
    (mark_keeps setup h (ndr NdrOp.Cmp r.tag) r.tag (open_after_completion NdrOp.Cmp) (ndr_answers NdrOp.Cmp r.tag) mine k back r.o (found_line mine r.tag r.o r.there) (ap asks (eviction_ends r.o r.eviction) ∙ sym r.eviction))
cache_step setup h mine e back own k (ByGrant r) =
    subst (λ x. CacheKeeps setup (x ∷ mine)) (sym r.is)
    (mark_keeps setup h (ndr r.c r.tag) r.tag (open_after_completion r.c) (ndr_answers r.c r.tag) mine k back r.o (found_line mine r.tag r.o r.there) (ap asks (grant_waits r.c r.o r.may r.read r.waits)))
cache_step setup h mine e back own k (ByGrantFill r) =
    let found = found_line mine r.tag r.o r.there in
    let request = grants_request r.c r.o.kind r.may in
    subst (λ x. CacheKeeps setup (x ∷ mine)) (sym r.is)
    (fill_keeps setup h (ndr r.c r.tag) r.tag (open_after_completion r.c) (ndr_answers r.c r.tag) mine k back r.o found (grant_ends r.c r.o r.may r.ends) request
    (commit_of r.o.stream r.o.index r.o.op (line_after r.o.op r.bytes)) (Some r.c) (own found.a r.o found.there request) refl)
cache_step setup h mine e back own k (ByData r) =
    subst (λ x. CacheKeeps setup (x ∷ mine)) (sym r.is)
    (mark_keeps setup h (data_of r.tag r.bytes) r.tag (open_after_data r.bytes) (data_answers r.tag r.bytes) mine k back r.o (found_line mine r.tag r.o r.there) (ap asks (data_waits r.bytes r.o r.waits)))
cache_step setup h mine e back own k (ByDataFill r) =
    let found = found_line mine r.tag r.o r.there in
    let request = reads_request r.o.kind r.read in
    subst (λ x. CacheKeeps setup (x ∷ mine)) (sym r.is)
    (fill_keeps setup h (data_of r.tag r.bytes) r.tag (open_after_data r.bytes) (data_answers r.tag r.bytes) mine k back r.o found (data_ends r.bytes r.o r.c r.granted) request
    (commit_of r.o.stream r.o.index r.o.op (line_after r.o.op r.bytes)) (Some r.c) (own found.a r.o found.there request) (data_grant setup mine r.tag r.bytes r.o r.c own found request r.granted))
cache_step setup h mine e back own k (BySnoop r) =
    subst (λ x. CacheKeeps setup (x ∷ mine)) (sym r.is) (idle_keeps setup (take_event h (Message.BiSnp r.op r.bitag r.line r.span) None) mine k (λ a. refl) refl (snoop_open h r.op r.bitag r.line r.span None mine))
cache_step setup h mine e back own k (ByAck r) =
    subst (λ x. CacheKeeps setup (x ∷ mine)) (sym r.is) (idle_keeps setup (take_event h (ndr NdrOp.ConflictAck r.tag) None) mine k (λ a. refl) refl (ack_open h r.tag None mine))
cache_step setup h mine e back own k (ByCredit r) =
    subst (λ x. CacheKeeps setup (x ∷ mine)) (sym r.is) (idle_keeps setup (take_event h (Message.Credit r.c) None) mine k (λ a. refl) refl (credit_open h r.c None mine))
cache_step setup h mine e back own k (ByConflict r) =
    subst (λ x. CacheKeeps setup (x ∷ mine)) (sym r.is) (idle_keeps setup (act_event h (Act.Conflict (record { 0 = r.a })) (Message.BiConflict (record { 0 = r.row.o.tag }))) mine k (λ a. refl) refl (λ a. refl))
cache_step setup h mine e back own k (ByWriteBack r) =
    subst (λ x. CacheKeeps setup (x ∷ mine)) (sym r.is) (written_keeps setup h r.a (write_back_message setup r.row.s.op r.a mine) mine k (λ keeps. modified_is_valid setup r.a mine r.row.modified))
cache_step setup h mine e back own k (ByAnswer r) =
    subst (λ x. CacheKeeps setup (x ∷ mine)) (sym (r.is ∙ ap (event_with h (Cause.Act (Act.Answer (record { 0 = r.a })))) r.row.emits))
    (answered_keeps setup h r.a (Message.BiRsp (response_for setup r.row.s.op r.a mine) (record { 0 = r.row.s.first }) (r.a - r.row.s.first)) mine k (answer_keeps_shared setup r.row.s.op r.a mine (stays_shared setup r.row.s.op r.a mine) refl))
cache_step setup h mine e back own k (ByBlock r) = subst (λ x. CacheKeeps setup (x ∷ mine)) (sym r.is) (block_keeps setup h r.a (Message.BiRsp RspOp.IBlk (record { 0 = r.a }) 0) mine k)
cache_step setup h mine e back own k (ByReturn r) =
    subst (λ x. CacheKeeps setup (x ∷ mine)) (sym r.is) (idle_keeps setup (act_event h (Act.HostReturn r.c) (Message.Credit r.c)) mine k (λ a. refl) refl (λ a. refl))

-- the newest event of an own run
pub own_event : (setup : Configuration) (opening : List (Line × Bytes64)) (h : ℕ) → is_device h ≡ false → (e : Event) (past : List Event) → is_own_run setup opening h (e ∷ past) ≡ true → OwnStep setup h past e
own_event setup opening h host e past run =
    let parts = and_parts (is_own_run setup opening h past) _ run in
    let own = and_parts (e.agent == h) _ parts.1 in
    let agent = eqb-true e.agent h own.0 in
    let halves = own_half_parts setup opening e past own.1 in
    let row = emitted setup opening e past halves.2 in
    record {
      agent = agent;
      order = halves.1;
      formed = (and_parts _ _ (and_parts _ _ (and_parts _ _ (profiled setup e halves.0).formed).0).0).1;
      fits = subst (λ g. IsTrue (cause_fits setup g e.cause)) agent (profiled setup e halves.0).cause;
      w = row.w;
      row = sym (host_row setup opening h e.cause past host) ∙ subst (λ g. row_emission setup opening g e.cause past ≡ Some row.w) agent row.row;
      paid = row.paid;
      sends = row.sends;
      commit = row.commit;
    }

pub run_before : (setup : Configuration) (opening : List (Line × Bytes64)) (h : ℕ) (e : Event) (past : List Event) → is_own_run setup opening h (e ∷ past) ≡ true → is_own_run setup opening h past ≡ true
run_before setup opening h e past run = (and_parts (is_own_run setup opening h past) _ run).0

own_lines : (setup : Configuration) (opening : List (Line × Bytes64)) (h : ℕ) → is_device h ≡ false → (mine : List Event) → is_own_run setup opening h mine ≡ true → OwnLines mine
own_lines setup opening h host [] run = λ a o there request. absurd (none-some o there)
own_lines setup opening h host (e ∷ past) run =
    let before = run_before setup opening h e past run in
    own_step setup h past e (open_leads_back setup opening h host past before) (own_lines setup opening h host past before) (host_event setup h past e host (own_event setup opening h host e past run))

cache_at_start : (setup : Configuration) → CacheKeeps setup []
cache_at_start setup = record { ways_are = λ a. refl; no_bytes = λ a none. refl; few = omega arith }

cache_keeps : (setup : Configuration) (opening : List (Line × Bytes64)) (h : ℕ) → is_device h ≡ false → (mine : List Event) → is_own_run setup opening h mine ≡ true → CacheKeeps setup mine
cache_keeps setup opening h host [] run = cache_at_start setup
cache_keeps setup opening h host (e ∷ past) run =
    let before = run_before setup opening h e past run in
    cache_step setup h past e (open_leads_back setup opening h host past before) (own_lines setup opening h host past before) (cache_keeps setup opening h host past before)
    (host_event setup h past e host (own_event setup opening h host e past run))

pub keeps : (setup : Configuration) (opening : List (Line × Bytes64)) (h : ℕ) → is_device h ≡ false → (mine : List Event) → is_own_run setup opening h mine ≡ true → Keeps setup mine
keeps setup opening h host mine run = record {
  back = open_leads_back setup opening h host mine run;
  own = own_lines setup opening h host mine run;
  cache = cache_keeps setup opening h host mine run;
  snoops = snoops_kept setup opening h host mine run;
  conflicts = conflicts_kept setup opening h host mine run;
  writes = writes_kept setup opening h host mine run;
}
