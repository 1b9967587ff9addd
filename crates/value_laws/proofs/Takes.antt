-- What a take of a host leaves of a line's value there: MemData is kept for its read, and a fill performs the waiting operation on the line's bytes.
use Rattle.std.proofs.Common.{◌≡◌, ℕ, ◌+◌, ◌≤◌, Bool, true, false, List, ◌++◌, Option, Some, None, cond, count_by, refl, sym, ◌∙◌, ap, subst, arith, ◌⊎◌, inl, inr}
use Rattle.std.specs.Prelude.{is_none, is_some, option_and_then, ◌==◌, ◌&&◌}
use Rattle.std.specs.Option.{option_or}
use Rattle.std.proofs.lemmas.Bool.{cond-false, cond-true, eqb-true, false≢true}
use Rattle.std.proofs.lemmas.Option.{none-some, same_Some}
use Rattle.cxl_message.specs.declared.channels.Channel.{Channel}
use Rattle.cxl_message.specs.declared.events.Cause.{Cause}
use Rattle.cxl_message.specs.declared.events.Commit.{Commit}
use Rattle.cxl_message.specs.declared.events.Event.{Event}
use Rattle.cxl_message.specs.declared.events.Op.{Op}
use Rattle.cxl_message.specs.declared.events.Sends.{Sends}
use Rattle.cxl_message.specs.declared.identifiers.Bytes64.{Bytes64}
use Rattle.cxl_message.specs.declared.messages.Message.{Message}
use Rattle.cxl_message.specs.declared.opcodes.NdrOp.{NdrOp}
use Rattle.cxl_message.specs.declared.states.CopyState.{CopyState}
use Rattle.cxl_message.specs.Codes.{copy_code}
use Rattle.cxl_message.specs.Events.{is_load, line_of}
use Rattle.cxl_message.specs.Messages.{has_tag}
use Rattle.cxl_message.specs.Setup.{Configuration}
use Rattle.coherence_model.specs.Cache.{copy}
use Rattle.coherence_model.specs.Copies.{Copy}
use Rattle.cxl_message.specs.Stores.{line_after}
use Rattle.coherence_model.specs.Flight.{takes_on, without_taken}
use Rattle.coherence_model.specs.HostTakes.{may_grant}
use Rattle.coherence_model.specs.ListingFacts.{grants_ownership}
use Rattle.coherence_model.specs.Transactions.{Transaction, is_read, is_request, open_after_completion, open_after_data, open_after_take, open_at}
use Rattle.coherence_model.specs.ValueFacts.{data_in}
use Rattle.coherence_model.specs.Words.{one_if}
use Rattle.request_laws.proofs.Each.{Each, each_without_taken}
use Rattle.request_laws.proofs.HostOperations.{kind_of}
use Rattle.request_laws.proofs.OpenLines.{after_take, take_keeps}
use Rattle.request_laws.proofs.Places.{on_channel}
use Rattle.snoop_laws.proofs.Counts.{Among}
use Rattle.listing_laws.proofs.Copies.{copy_next, writable_count}
use Rattle.listing_laws.proofs.Fits.{AreFit}
use Rattle.listing_laws.proofs.HostLines.{HostKeptLine}
use Rattle.listing_laws.proofs.Owners.{granted_so}
use Rattle.listing_laws.proofs.TakenGrants.{fill_granted}
use Rattle.listing_laws.proofs.Takes.{Fill, FilledBy, Owned, Shared, fill_copy, filled_copy, filled_is}
use Rattle.listing_laws.proofs.UnderWay.{each_at, each_none}
use Rattle.listing_laws.proofs.WriteBackLines.{writes_line}
use Rattle.value_laws.proofs.Has.{Brings, DataHas, HostHas, HostMoved, ReadsHave, Writes, both_none, is_dirty, moved, none_before, none_written, open_low, unwritable_clean, value_next}
use Rattle.value_laws.proofs.Operations.{copied_as}

-- ---- the MemData that was taken for what stays open

-- what is open has its bytes
same_bytes : (x y : Transaction) (b : Bytes64) → ◌≡◌ {A = Option Transaction} (Some x) (Some y) → y.bytes ≡ Some b → x.bytes ≡ Some b
same_bytes x y b h is = subst (λ (z : Transaction). z.bytes ≡ Some b) (sym (same_Some x y h)) is

-- what stays open has its bytes
kept_bytes : (t : Bool) (x z y : Transaction) (b : Bytes64) → z.bytes ≡ x.bytes → cond t (Some z) None ≡ Some y → y.bytes ≡ Some b → x.bytes ≡ Some b
kept_bytes true x z y b e h is = sym e ∙ same_bytes z y b h is
kept_bytes false x z y b e h is = absurd (none-some y h)

-- an NDR message brings no bytes
completed_bytes : (op : NdrOp) (x y : Transaction) (b : Bytes64) → open_after_completion op x ≡ Some y → y.bytes ≡ Some b → x.bytes ≡ Some b
completed_bytes NdrOp.Cmp x y b h is = kept_bytes (is_request x.kind) x x y b refl h is
completed_bytes NdrOp.CmpS x y b h is = kept_bytes (is_read x.kind && is_none x.bytes) x (record x { grant = Some NdrOp.CmpS }) y b refl h is
completed_bytes NdrOp.CmpE x y b h is = kept_bytes (is_read x.kind && is_none x.bytes) x (record x { grant = Some NdrOp.CmpE }) y b refl h is
completed_bytes NdrOp.ConflictAck x y b h is = same_bytes x y b h is

-- bytes were there or come with the message
abbrev BytesFrom : Message → Transaction → Bytes64 → Type 0
BytesFrom m x b = (x.bytes ≡ Some b) ⊎ ((has_tag x.tag m ≡ true) × (data_in m ≡ Some b))

-- where the bytes of what stays open come from
bytes_after : (m : Message) (x y : Transaction) (b : Bytes64) → open_after_take m x ≡ Some y → y.bytes ≡ Some b → BytesFrom m x b
bytes_after (Message.Req _ _ _ _ _) x y b h is = inl (same_bytes x y b h is)
bytes_after (Message.MemWr _ _ _ _ _) x y b h is = inl (same_bytes x y b h is)
bytes_after (Message.BiConflict _) x y b h is = inl (same_bytes x y b h is)
bytes_after (Message.BiRsp _ _ _) x y b h is = inl (same_bytes x y b h is)
bytes_after (Message.Ndr op tag) x y b h is = by (tag.0 == x.tag) h
  where
    by : (t : Bool) → cond t (open_after_completion op x) (Some x) ≡ Some y → BytesFrom (Message.Ndr op tag) x b
    by true e = inl (completed_bytes op x y b e is)
    by false e = inl (same_bytes x y b e is)
bytes_after (Message.MemData tag bytes) x y b h is = by (tag.0 == x.tag) refl h
  where
    given : (t : Bool) → cond t (Some (record x { bytes = Some bytes })) None ≡ Some y → bytes ≡ b
    given true e = same_Some bytes b (ap (λ (z : Transaction). z.bytes) (same_Some (record x { bytes = Some bytes }) y e) ∙ is)
    given false e = absurd (none-some y e)

    by : (t : Bool) → (tag.0 == x.tag) ≡ t → cond t (open_after_data bytes x) (Some x) ≡ Some y → BytesFrom (Message.MemData tag bytes) x b
    by true same e = inr (same, ap Some (given (is_none x.grant) e))
    by false other e = inl (same_bytes x y b e is)
bytes_after (Message.BiSnp _ _ _ _) x y b h is = inl (same_bytes x y b h is)
bytes_after (Message.Credit _) x y b h is = inl (same_bytes x y b h is)

-- MemData that closes a read has its tag
closed_tag : (m : Message) (x : Transaction) (b : Bytes64) → open_after_take m x ≡ None → data_in m ≡ Some b → has_tag x.tag m ≡ true
closed_tag (Message.Req _ _ _ _ _) x b h is = absurd (none-some b is)
closed_tag (Message.MemWr _ _ _ _ _) x b h is = absurd (none-some b is)
closed_tag (Message.BiConflict _) x b h is = absurd (none-some b is)
closed_tag (Message.BiRsp _ _ _) x b h is = absurd (none-some b is)
closed_tag (Message.Ndr op tag) x b h is = absurd (none-some b is)
closed_tag (Message.MemData tag bytes) x b h is = by (tag.0 == x.tag) h
  where
    by : (t : Bool) → cond t (open_after_data bytes x) (Some x) ≡ None → t ≡ true
    by true e = refl
    by false e = absurd (none-some x (sym e))
closed_tag (Message.BiSnp _ _ _ _) x b h is = absurd (none-some b is)
closed_tag (Message.Credit _) x b h is = absurd (none-some b is)

-- ---- what a fill commits

-- a line that is stored whole doesn't depend on what it was
whole_after : (op : Op) (b v : Bytes64) → is_read (kind_of op) ≡ false → line_after op b ≡ line_after op v
whole_after (Op.Load line) b v h = absurd (false≢true (sym h))
whole_after (Op.Word line place word) b v h = absurd (false≢true (sym h))
whole_after (Op.Whole line bytes) b v h = refl

-- a Cmp-S fills for a Load, which leaves the line
load_after : (op : Op) (v : Bytes64) → may_grant NdrOp.CmpS (kind_of op) ≡ true → line_after op v ≡ v
load_after (Op.Load line) v h = refl
load_after (Op.Word line place word) v h = absurd (false≢true h)
load_after (Op.Whole line bytes) v h = absurd (false≢true h)

-- a fill that leaves no copy M is a Load's
unstored : (op : Op) (s : CopyState) (v : Bytes64) → (copy_code (cond (is_load op) s CopyState.M) == 3) ≡ false → line_after op v ≡ v
unstored (Op.Load line) s v h = refl
unstored (Op.Word line place word) s v h = absurd (false≢true (sym h))
unstored (Op.Whole line bytes) s v h = absurd (false≢true (sym h))

module _ (setup : Configuration) (h : ℕ) (own : List Event) (a : ℕ) (v : Bytes64) (fw held ndr drs : List Message) (old : HostHas a v (copy setup a own) (open_at a own) fw held drs) (k : ℕ) (m : Message)
    (arrives : (b : Bytes64) → data_in m ≡ Some b → Among m drs) where
  -- the copy before the take
  abbrev c : Copy
  c = copy setup a own

  -- 1 or more where the host owns the line or gets it
  abbrev owns : ℕ
  owns = writable_count c + granted_so grants_ownership ndr (open_at a own)

  -- what a take leaves
  abbrev AfterTake : Sends → Option Commit → Type 0
  AfterTake sends commit =
      HostMoved a v (value_next commit a v) c (copy_next setup (Cause.Take k m) sends commit own a) (option_and_then (open_after_take m) (open_at a own)) fw (fw ++ on_channel h Channel.Rwd sends) held
      (without_taken (takes_on h Channel.Drs (Cause.Take k m)) drs) owns

  -- what stays open has its data still
  reads_taken : (taken : Option Message) → ReadsHave v (option_and_then (open_after_take m) (open_at a own)) (without_taken taken drs)
  reads_taken taken = λ y there read.
      let was = after_take m (open_at a own) y there in
      let kept = take_keeps m was.0 y was.2 in
      let had = old.reads was.0 was.1 (ap is_read (sym kept.kind) ∙ read) in
      record {
        flying = each_without_taken (Brings y.tag v) taken drs (subst (λ t. Each (Brings t v) drs) (sym kept.tag) had.flying);
        taken = λ b is. elim (bytes_after m was.0 y b was.2 is) [
          | inl before ↦ had.taken b before
          | inr now ↦ each_at (Brings was.0.tag v) m drs had.flying (arrives b now.1) now.0 b now.1
        ];
      }

  -- a take that fills another line, or none
  take_elsewhere : (sends : Sends) (commit : Option Commit) → sends ≡ Sends.Nothing → value_next commit a v ≡ v → copy_next setup (Cause.Take k m) sends commit own a ≡ c → AfterTake sends commit
  take_elsewhere sends commit none same copied =
      moved a v _ c _ _ fw _ held _ owns same
      (record {
        copied = copied_as v c _ copied old.copied;
        flying = each_none (Writes a v) h Channel.Rwd sends fw none old.flying;
        waiting = old.waiting;
        reads = reads_taken (takes_on h Channel.Drs (Cause.Take k m));
      })
      (λ clean. record { copied = sym (ap is_dirty copied) ∙ clean.copied; unwritten = none_before a fw (on_channel h Channel.Rwd sends) held clean.unwritten })

  module _ (fit : AreFit (λ b. open_at b own)) (kept : HostKeptLine setup own a) (granted : (op : NdrOp) (t : ℕ) → m ≡ Message.Ndr op (record { 0 = t }) → Among m ndr)
      (unwritten : (x : Transaction) → open_at a own ≡ Some x → is_request x.kind ≡ true → count_by (writes_line a) fw + count_by (writes_line a) held ≡ 0) where
    -- the bytes that a read fills with are the line's
    pub filled_bytes : (commit : Option Commit) (f : Fill own m commit) → open_at a own ≡ Some f.o → (read : Bool) → is_read f.o.kind ≡ read → line_after f.o.op f.bytes ≡ line_after f.o.op v
    filled_bytes commit f there true is = ap (line_after f.o.op) (by f.o.bytes refl)
      where
        had : DataHas v f.o drs
        had = old.reads f.o there is

        by : (got : Option Bytes64) → f.o.bytes ≡ got → f.bytes ≡ v
        by None none =
            let now : data_in m ≡ Some f.bytes = sym (ap (λ x. option_or x (data_in m)) none) ∙ f.given is in
            each_at (Brings f.o.tag v) m drs had.flying (arrives f.bytes now) (closed_tag m f.o f.bytes f.closed now) f.bytes now
        by (Some b) some = had.taken f.bytes (some ∙ sym (ap (λ x. option_or x (data_in m)) some) ∙ f.given is)
    filled_bytes commit f there false is = whole_after f.o.op f.bytes v (ap is_read (((fit f.l f.o f.there).asked f.request).0) ∙ is)

    -- the line that is filled
    fill_here : (sends : Sends) (commit : Option Commit) → sends ≡ Sends.Nothing → (f : Fill own m commit) → (f.l == a) ≡ true → AfterTake sends commit
    fill_here sends commit none f here =
        let there : open_at a own ≡ Some f.o = ap (λ b. open_at b own) (sym (eqb-true f.l a here)) ∙ f.there in
        let asked = (fit f.l f.o f.there).asked f.request in
        let next : value_next commit a v ≡ line_after f.o.op v = ap (λ x. value_next x a v) f.committed ∙ cond-true (line_of f.o.op == a) (line_after f.o.op v) v (ap (λ l. l == a) asked.1 ∙ here) in
        let copied : copy_next setup (Cause.Take k m) sends commit own a ≡ filled_copy f.o f.grant f.bytes = fill_copy setup k m own sends commit f fit a ∙ cond-true (f.l == a) (filled_copy f.o f.grant f.bytes) c here in
        let bytes = filled_bytes commit f there (is_read f.o.kind) refl in
        let zero = unwritten f.o there f.request in
        let none_of = both_none (count_by (writes_line a) fw) (count_by (writes_line a) held) zero in
        record {
          has = record {
            copied = λ is. ap (λ (x : Copy). x.bytes) copied ∙ bytes ∙ sym next;
            flying = each_none (Writes a _) h Channel.Rwd sends fw none (none_written a _ fw none_of.0);
            waiting = none_written a _ held none_of.1;
            reads = λ y open_now. absurd (none-some y (sym (ap (option_and_then (open_after_take m)) there ∙ f.closed) ∙ open_now));
          };
          others = owned f there next (filled_is f.grant f.o f.bytes f.may asked.0);
          clean = λ clean. (
            record { copied = unwritable_clean c (open_low (writable_count c) _ _ _ kept (ap (λ x. one_if (is_some x)) there)); unwritten = zero },
            next ∙ unstored f.o.op _ v (sym (ap is_dirty copied) ∙ clean.copied),
          );
        }
      where
        owned : {later : Copy} (f : Fill own m commit) → open_at a own ≡ Some f.o → value_next commit a v ≡ line_after f.o.op v → FilledBy f.grant later → (value_next commit a v ≡ v) ⊎ (1 ≤ owns)
        owned f there next (Owned is one two) =
            let some = fill_granted grants_ownership own m commit ndr f (ap grants_ownership is) granted in
            let same = ap (granted_so grants_ownership ndr) there in
            inr (omega arith)
        owned f there next (Shared is one two) =
            inl (next ∙ load_after f.o.op v (subst (λ g. may_grant g (kind_of f.o.op) ≡ true) is (ap (may_grant f.grant) (((fit f.l f.o f.there).asked f.request).0) ∙ f.may)))

    -- a fill, of the line or of another
    fill_by : (sends : Sends) (commit : Option Commit) → sends ≡ Sends.Nothing → (f : Fill own m commit) → (here : Bool) → (f.l == a) ≡ here → AfterTake sends commit
    fill_by sends commit none f true here = fill_here sends commit none f here
    fill_by sends commit none f false here =
        let asked = (fit f.l f.o f.there).asked f.request in
        take_elsewhere sends commit none (ap (λ x. value_next x a v) f.committed ∙ cond-false (line_of f.o.op == a) (line_after f.o.op v) v (ap (λ l. l == a) asked.1 ∙ here))
        (fill_copy setup k m own sends commit f fit a ∙ cond-false (f.l == a) (filled_copy f.o f.grant f.bytes) c here)

    -- what each take leaves
    pub take_moved : (sends : Sends) (commit : Option Commit) → sends ≡ Sends.Nothing → (commit ≡ None) ⊎ Fill own m commit → AfterTake sends commit
    take_moved sends commit none how = elim how [
      | inl uncommitted ↦ take_elsewhere sends commit none (ap (λ x. value_next x a v) uncommitted) (ap (λ x. copy_next setup (Cause.Take k m) sends x own a) uncommitted)
      | inr f ↦ fill_by sends commit none f (f.l == a) refl
    ]
