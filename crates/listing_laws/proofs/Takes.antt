-- What a host's take of a grant or of MemData does: it waits for the other part, or it fills the line.
use Rattle.std.proofs.Common.{◌≡◌, ℕ, Bool, true, false, List, Option, Some, None, cond, refl, sym, ◌∙◌, ap, ◌⊎◌, inl, inr}
use Rattle.std.specs.Prelude.{is_none, ◌==◌, ◌&&◌}
use Rattle.std.specs.Option.{option_map_or, option_or}
use Rattle.std.proofs.lemmas.Bool.{and_from, cond-false, cond-true, eq-eqb, eqb-true, false≢true}
use Rattle.std.proofs.lemmas.Option.{none-some}
use Rattle.cxl_message.specs.declared.events.Cause.{Cause}
use Rattle.cxl_message.specs.declared.events.Commit.{Commit}
use Rattle.cxl_message.specs.declared.events.Event.{Event}
use Rattle.cxl_message.specs.declared.events.Op.{Op}
use Rattle.cxl_message.specs.declared.events.Sends.{Sends}
use Rattle.cxl_message.specs.declared.identifiers.Bytes64.{Bytes64}
use Rattle.cxl_message.specs.declared.messages.Message.{Message}
use Rattle.cxl_message.specs.declared.opcodes.NdrOp.{NdrOp}
use Rattle.cxl_message.specs.declared.states.CopyState.{CopyState}
use Rattle.cxl_message.specs.Events.{is_load}
use Rattle.cxl_message.specs.Opening.{zero_bytes}
use Rattle.cxl_message.specs.Setup.{Configuration}
use Rattle.coherence_model.specs.Cache.{copy}
use Rattle.coherence_model.specs.Copies.{Copy, copy_after_commit, filling_grant, granted_state}
use Rattle.coherence_model.specs.Emission.{Emission, nothing}
use Rattle.cxl_message.specs.Stores.{line_after}
use Rattle.coherence_model.specs.HostTakes.{data_emission, fill_emission, grant_emission, host_takes, may_grant}
use Rattle.coherence_model.specs.Tags.{open_with, tagged_line}
use Rattle.coherence_model.specs.Transactions.{Kind, Transaction, is_read, is_request, open_after_data, open_after_grant, open_after_take, open_at}
use Rattle.coherence_model.specs.ValueFacts.{data_in}
use Rattle.coherence_lemmas.proofs.HostTakes.{DataTaken, Granted, h3_completion-inv, h3_data-inv, h3_grant-inv, h4_snoop-inv, h5_conflict_ack-inv, h6_credit-inv}
use Rattle.request_laws.proofs.HostOperations.{kind_of}
use Rattle.request_laws.proofs.HostPlaces.{tagged}
use Rattle.listing_laws.proofs.Copies.{copy_next, valid_count, writable_count}
use Rattle.listing_laws.proofs.Fits.{AreFit}

-- both are false where the second is
and_no : (b c : Bool) → c ≡ false → (b && c) ≡ false
and_no true c h = h
and_no false c h = refl

-- a grant waits for its MemData, or fills
pub data GrantTaken (c : NdrOp) (o : Transaction) (w : Emission) : Type 0 where
  Waits : w ≡ nothing → open_after_grant c o ≡ Some (record o { grant = Some c }) → GrantTaken c o w
  Fills : (bytes : Bytes64) → w ≡ fill_emission o bytes → open_after_grant c o ≡ None → (is_read o.kind ≡ true → o.bytes ≡ Some bytes) → GrantTaken c o w

-- a taken grant, by whether data is needed and there
grant_by : (c : NdrOp) (o : Transaction) (w : Emission) (bytes : Option Bytes64) (read : Bool) → o.bytes ≡ bytes → is_read o.kind ≡ read → w ≡ grant_emission o bytes → GrantTaken c o w
grant_by c o w None true got is e =
    Waits (e ∙ cond-true (is_read o.kind) nothing (fill_emission o zero_bytes) is)
    (cond-true (is_read o.kind && is_none o.bytes) (Some (record o { grant = Some c })) None (and_from _ _ is (ap is_none got)))
grant_by c o w None false got is e =
    Fills zero_bytes (e ∙ cond-false (is_read o.kind) nothing (fill_emission o zero_bytes) is)
    (cond-false (is_read o.kind && is_none o.bytes) (Some (record o { grant = Some c })) None (ap (λ b. b && is_none o.bytes) is)) (λ reads. absurd (false≢true (sym is ∙ reads)))
grant_by c o w (Some bytes) read got is e =
    Fills bytes e (cond-false (is_read o.kind && is_none o.bytes) (Some (record o { grant = Some c })) None (and_no (is_read o.kind) (is_none o.bytes) (ap is_none got))) (λ reads. got)

-- a taken grant waits for its data, or fills with the data that is there
pub grant_taken : (c : NdrOp) (o : Transaction) (w : Emission) → w ≡ grant_emission o o.bytes → GrantTaken c o w
grant_taken c o w e = grant_by c o w o.bytes (is_read o.kind) refl refl e

-- MemData waits for its grant, or fills
pub data DataUsed (bytes : Bytes64) (o : Transaction) (w : Emission) : Type 0 where
  DataWaits : w ≡ nothing → o.grant ≡ None → open_after_data bytes o ≡ Some (record o { bytes = Some bytes }) → DataUsed bytes o w
  DataFills : (c : NdrOp) → o.grant ≡ Some c → w ≡ fill_emission o bytes → open_after_data bytes o ≡ None → DataUsed bytes o w

-- taken data, by the grant that is there
data_by : (bytes : Bytes64) (o : Transaction) (w : Emission) (grant : Option NdrOp) → o.grant ≡ grant → w ≡ data_emission o bytes → DataUsed bytes o w
data_by bytes o w None got e =
    DataWaits (e ∙ cond-true (is_none o.grant) nothing (fill_emission o bytes) (ap is_none got)) got (cond-true (is_none o.grant) (Some (record o { bytes = Some bytes })) None (ap is_none got))
data_by bytes o w (Some c) got e =
    DataFills c got (e ∙ cond-false (is_none o.grant) nothing (fill_emission o bytes) (ap is_none got)) (cond-false (is_none o.grant) (Some (record o { bytes = Some bytes })) None (ap is_none got))

-- taken data waits for its grant, or fills by the grant that is there
pub data_used : (bytes : Bytes64) (o : Transaction) (w : Emission) → w ≡ data_emission o bytes → DataUsed bytes o w
data_used bytes o w e = data_by bytes o w o.grant refl e

-- a fill: what was open for its line, and the grant and the bytes by which the line is filled
pub record Fill (own : List Event) (m : Message) (commit : Option Commit) : Type 0 where
  pub l : ℕ
  pub o : Transaction
  pub there : open_at l own ≡ Some o
  pub closed : open_after_take m o ≡ None
  pub request : is_request o.kind ≡ true
  pub grant : NdrOp
  pub may : may_grant grant o.kind ≡ true
  pub source : filling_grant m (Some o) ≡ Some grant
  pub bytes : Bytes64
  pub given : is_read o.kind ≡ true → option_or o.bytes (data_in m) ≡ Some bytes
  pub committed : commit ≡ Some (record { stream = o.stream; index = o.index; op = o.op; value = line_after o.op bytes })

-- a read is a request
pub read_is_request : (k : Kind) → is_read k ≡ true → is_request k ≡ true
read_is_request Kind.ReadShared h = refl
read_is_request Kind.ReadAny h = refl
read_is_request Kind.Invalidate h = refl
read_is_request Kind.CleanEviction h = absurd (false≢true h)
read_is_request Kind.DirtyEviction h = absurd (false≢true h)

-- what may be granted is a request
pub may_is_request : (c : NdrOp) (k : Kind) → may_grant c k ≡ true → is_request k ≡ true
may_is_request NdrOp.Cmp k h = absurd (false≢true h)
may_is_request NdrOp.CmpS Kind.ReadShared h = refl
may_is_request NdrOp.CmpS Kind.ReadAny h = absurd (false≢true h)
may_is_request NdrOp.CmpS Kind.Invalidate h = absurd (false≢true h)
may_is_request NdrOp.CmpS Kind.CleanEviction h = absurd (false≢true h)
may_is_request NdrOp.CmpS Kind.DirtyEviction h = absurd (false≢true h)
may_is_request NdrOp.CmpE k h = h
may_is_request NdrOp.ConflictAck k h = absurd (false≢true h)

-- what an emission commits
abbrev commit_of : Emission → Option Commit
commit_of w = w.commit

-- a message of the tag that leaves nothing open closes it
named_closed : (t : ℕ) (o : Transaction) (x : Option Transaction) → o.tag ≡ t → x ≡ None → cond (t == o.tag) x (Some o) ≡ None
named_closed t o x same e = cond-true (t == o.tag) x (Some o) (eq-eqb t o.tag (sym same)) ∙ e

-- a grant that doesn't wait fills
grant_fill : (own : List Event) (c : NdrOp) (tag : ℕ) (w : Emission) (commit : Option Commit) → commit ≡ w.commit → (g : Granted c (open_with tag own) w) → GrantTaken c g.o w
    → ((o : Transaction) → open_after_grant c o ≡ None → (tag == o.tag) ≡ true → open_after_take (Message.Ndr c (record { 0 = tag })) o ≡ None)
    → (commit ≡ None) ⊎ Fill own (Message.Ndr c (record { 0 = tag })) commit
grant_fill own c tag w commit committed g (Waits e after) closes = inl (committed ∙ ap commit_of e)
grant_fill own c tag w commit committed g (Fills bytes e after given) closes =
    let at = tagged (λ b. open_at b own) (λ t. tagged_line t own) tag g.o g.is_open in
    inr (record {
      l = at.l;
      o = g.o;
      there = at.there;
      closed = closes g.o after (eq-eqb tag g.o.tag (sym at.tagged));
      request = may_is_request c g.o.kind g.may;
      grant = c;
      may = g.may;
      source = refl;
      bytes = bytes;
      given = λ reads. ap (λ x. option_or x None) (given reads);
      committed = committed ∙ ap commit_of e;
    })

-- data that doesn't wait fills
data_fill : (own : List Event) (bytes : Bytes64) (tag : ℕ) (w : Emission) (commit : Option Commit) → commit ≡ w.commit → AreFit (λ a. open_at a own) → (d : DataTaken bytes (open_with tag own) w) → DataUsed bytes d.o w
    → (commit ≡ None) ⊎ Fill own (Message.MemData (record { 0 = tag }) bytes) commit
data_fill own bytes tag w commit committed fit d (DataWaits e none after) = inl (committed ∙ ap commit_of e)
data_fill own bytes tag w commit committed fit d (DataFills c got e after) =
    let at = tagged (λ b. open_at b own) (λ t. tagged_line t own) tag d.o d.is_open in
    inr (record {
      l = at.l;
      o = d.o;
      there = at.there;
      closed = named_closed tag d.o (open_after_data bytes d.o) at.tagged after;
      request = read_is_request d.o.kind d.read;
      grant = c;
      may = (fit at.l d.o at.there).granted c got;
      source = got;
      bytes = bytes;
      given = λ reads. ap (λ x. option_or x (Some bytes)) d.first;
      committed = committed ∙ ap commit_of e;
    })

-- a take commits nothing, or fills
pub take_commits : (setup : Configuration) (h : ℕ) (m : Message) (own : List Event) (w : Emission) (commit : Option Commit) → host_takes setup h m own ≡ Some w → commit ≡ w.commit
    → AreFit (λ a. open_at a own) → (commit ≡ None) ⊎ Fill own m commit
take_commits setup h (Message.Req _ _ _ _ _) own w commit row committed fit = absurd (none-some w row)
take_commits setup h (Message.MemWr _ _ _ _ _) own w commit row committed fit = absurd (none-some w row)
take_commits setup h (Message.BiConflict _) own w commit row committed fit = absurd (none-some w row)
take_commits setup h (Message.BiRsp _ _ _) own w commit row committed fit = absurd (none-some w row)
take_commits setup h (Message.Ndr NdrOp.Cmp tag) own w commit row committed fit = inl (committed ∙ (elim (h3_completion-inv _ (open_with tag.0 own) w row) [
  | inl written ↦ ap commit_of written.emits
  | inr evicted ↦ ap commit_of evicted.emits
]))
take_commits setup h (Message.Ndr NdrOp.CmpS tag) own w commit row committed fit =
    let g = h3_grant-inv NdrOp.CmpS (open_with tag.0 own) w row in
    grant_fill own NdrOp.CmpS tag.0 w commit committed g (grant_taken NdrOp.CmpS g.o w g.emits) (λ o none same. cond-true (tag.0 == o.tag) _ (Some o) same ∙ none)
take_commits setup h (Message.Ndr NdrOp.CmpE tag) own w commit row committed fit =
    let g = h3_grant-inv NdrOp.CmpE (open_with tag.0 own) w row in
    grant_fill own NdrOp.CmpE tag.0 w commit committed g (grant_taken NdrOp.CmpE g.o w g.emits) (λ o none same. cond-true (tag.0 == o.tag) _ (Some o) same ∙ none)
take_commits setup h (Message.Ndr NdrOp.ConflictAck tag) own w commit row committed fit = inl (committed ∙ ap commit_of (h5_conflict_ack-inv tag.0 own w row).emits)
take_commits setup h (Message.MemData tag bytes) own w commit row committed fit =
    let d = h3_data-inv bytes (open_with tag.0 own) w row in
    data_fill own bytes tag.0 w commit committed fit d (data_used bytes d.o w d.emits)
take_commits setup h (Message.BiSnp _ _ line span) own w commit row committed fit = inl (committed ∙ ap commit_of (h4_snoop-inv line.0 span own w row).emits)
take_commits setup h (Message.Credit c) own w commit row committed fit = inl (committed ∙ ap commit_of (h6_credit-inv setup h c own w row).emits)

-- ---- the copy after a fill

-- the copy that a grant and the line's bytes make
abbrev pub filled_copy : Transaction → NdrOp → Bytes64 → Copy
filled_copy o c bytes = record { state = cond (is_load o.op) (granted_state c) CopyState.M; bytes = line_after o.op bytes }

-- the copies after a fill, by the filled line
filled_by : (op : Op) (k : ℕ) (m : Message) (own : List Event) (a : ℕ) (value : Bytes64) (old : Copy) (c : NdrOp) → filling_grant m (open_at a own) ≡ Some c
    → copy_after_commit a (Cause.Take k m) op value own old ≡ record { state = cond (is_load op) (granted_state c) CopyState.M; bytes = value }
filled_by (Op.Load line) k m own a value old c is = ap {B = Copy} (λ x. record { state = option_map_or granted_state x CopyState.E; bytes = value }) is
filled_by (Op.Word line place word) k m own a value old c is = refl
filled_by (Op.Whole line bytes) k m own a value old c is = refl

-- a fill makes the copy of its line, and leaves those of the others
pub fill_copy : (setup : Configuration) (k : ℕ) (m : Message) (own : List Event) (sends : Sends) (commit : Option Commit) (f : Fill own m commit) → AreFit (λ a. open_at a own) → (a : ℕ)
    → copy_next setup (Cause.Take k m) sends commit own a ≡ cond (f.l == a) (filled_copy f.o f.grant f.bytes) (copy setup a own)
fill_copy setup k m own sends commit f fit a =
    ap (λ x. copy_next setup (Cause.Take k m) sends x own a) f.committed
    ∙ ap (λ l. cond (l == a) (copy_after_commit a (Cause.Take k m) f.o.op (line_after f.o.op f.bytes) own (copy setup a own)) (copy setup a own)) ((fit f.l f.o f.there).asked f.request).1
    ∙ by (f.l == a) refl
  where
    by : (here : Bool) → (f.l == a) ≡ here
        → cond here (copy_after_commit a (Cause.Take k m) f.o.op (line_after f.o.op f.bytes) own (copy setup a own)) (copy setup a own) ≡ cond here (filled_copy f.o f.grant f.bytes) (copy setup a own)
    by true is =
        filled_by f.o.op k m own a (line_after f.o.op f.bytes) (copy setup a own) f.grant (ap (filling_grant m) (ap (λ b. open_at b own) (sym (eqb-true f.l a is)) ∙ f.there) ∙ f.source)
    by false is = refl

-- Cmp-S may be granted to a shared read only
shared_kind : (k : Kind) → may_grant NdrOp.CmpS k ≡ true → k ≡ Kind.ReadShared
shared_kind Kind.ReadShared h = refl
shared_kind Kind.ReadAny h = absurd (false≢true h)
shared_kind Kind.Invalidate h = absurd (false≢true h)
shared_kind Kind.CleanEviction h = absurd (false≢true h)
shared_kind Kind.DirtyEviction h = absurd (false≢true h)

-- a shared read is a load's
load_kind : (op : Op) → kind_of op ≡ Kind.ReadShared → is_load op ≡ true
load_kind (Op.Load line) h = refl
load_kind (Op.Word line place word) h = cc
load_kind (Op.Whole line bytes) h = cc

-- what a filled copy is, by its grant
pub data FilledBy (c : NdrOp) (later : Copy) : Type 0 where
  Owned : c ≡ NdrOp.CmpE → valid_count later ≡ 1 → writable_count later ≡ 1 → FilledBy c later
  Shared : c ≡ NdrOp.CmpS → valid_count later ≡ 1 → writable_count later ≡ 0 → FilledBy c later

-- a fill by Cmp-E leaves a writable copy, and one by Cmp-S a shared one
pub filled_is : (c : NdrOp) (o : Transaction) (bytes : Bytes64) → may_grant c o.kind ≡ true → kind_of o.op ≡ o.kind → FilledBy c (filled_copy o c bytes)
filled_is NdrOp.Cmp o bytes may kind = absurd (false≢true may)
filled_is NdrOp.CmpS o bytes may kind =
    let load = load_kind o.op (kind ∙ shared_kind o.kind may) in
    Shared refl (ap (λ b. valid_count (record { state = cond b CopyState.S CopyState.M; bytes = line_after o.op bytes })) load) (ap (λ b. writable_count (record { state = cond b CopyState.S CopyState.M; bytes = line_after o.op bytes })) load)
filled_is NdrOp.CmpE o bytes may kind = Owned refl (by (is_load o.op)) (both (is_load o.op))
  where
    by : (b : Bool) → valid_count (record { state = cond b CopyState.E CopyState.M; bytes = line_after o.op bytes }) ≡ 1
    by true = refl
    by false = refl

    both : (b : Bool) → writable_count (record { state = cond b CopyState.E CopyState.M; bytes = line_after o.op bytes }) ≡ 1
    both true = refl
    both false = refl
filled_is NdrOp.ConflictAck o bytes may kind = absurd (false≢true may)
