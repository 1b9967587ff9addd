-- What an operation of a host leaves of a line's value there: a hit stores where the host alone has the line, a request or an eviction moves bytes on.
use Rattle.std.proofs.Common.{◌≡◌, ℕ, ◌+◌, Bool, true, false, List, [], ◌++◌, Option, Some, None, cond, count_by, refl, sym, ◌∙◌, ap, subst, arith, inr}
use Rattle.std.specs.Prelude.{◌==◌}
use Rattle.std.specs.Option.{option_or}
use Rattle.std.proofs.lemmas.Bool.{cond-false, cond-true, eqb-true, false≢true}
use Rattle.std.proofs.lemmas.Option.{none-some, same_Some}
use Rattle.cxl_message.specs.declared.channels.Channel.{Channel}
use Rattle.cxl_message.specs.declared.events.Cause.{Cause}
use Rattle.cxl_message.specs.declared.events.Commit.{Commit}
use Rattle.cxl_message.specs.declared.events.Event.{Event}
use Rattle.cxl_message.specs.declared.events.Op.{Op}
use Rattle.cxl_message.specs.declared.events.Sends.{Sends}
use Rattle.cxl_message.specs.declared.identifiers.Bytes64.{Bytes64}
use Rattle.cxl_message.specs.declared.messages.Message.{Message}
use Rattle.cxl_message.specs.Codes.{channel_eq}
use Rattle.cxl_message.specs.Events.{is_load, line_of}
use Rattle.cxl_message.specs.Messages.{channel_of, has_tag}
use Rattle.cxl_message.specs.Setup.{Configuration}
use Rattle.coherence_model.specs.Cache.{copy, is_modified, is_valid, is_writable}
use Rattle.coherence_model.specs.Copies.{Copy, modified, no_copy}
use Rattle.coherence_model.specs.Emission.{Emission}
use Rattle.cxl_message.specs.Stores.{line_after}
use Rattle.coherence_model.specs.HostOperations.{eviction_message, hits, request_message}
use Rattle.coherence_model.specs.ListingFacts.{grants_ownership}
use Rattle.coherence_model.specs.Snoops.{is_quiet}
use Rattle.coherence_model.specs.Tags.{open_with}
use Rattle.coherence_model.specs.Transactions.{Transaction, is_open, is_read, open_after, open_at, opened}
use Rattle.coherence_model.specs.ValueFacts.{written_bytes}
use Rattle.request_laws.proofs.FreeTags.{nothing_there}
use Rattle.request_laws.proofs.HostOperations.{eviction_kind, eviction_with, kind_of, request_opens}
use Rattle.request_laws.proofs.OpenLines.{one_opens, opening_line, quiet_parts, two_open, victim_opens}
use Rattle.request_laws.proofs.Options.{guarded_some}
use Rattle.request_laws.proofs.Places.{on_channel}
use Rattle.listing_laws.proofs.Copies.{alone_copy, copy_next, evicting_copy, store_hits, without_line, writable_count}
use Rattle.listing_laws.proofs.HostLines.{flag_up}
use Rattle.listing_laws.proofs.Operations.{AloneRow, EvictingRow, OperationRow, RowAlone, RowEvicts, RowHits}
use Rattle.listing_laws.proofs.Owners.{granted_so}
use Rattle.listing_laws.proofs.UnderWay.{count_two, each_none, each_one, each_two}
use Rattle.listing_laws.proofs.WriteBackLines.{writes_line}
use Rattle.value_laws.proofs.Has.{DataHas, HostHas, HostMoved, ReadsHave, Writes, is_dirty, moved, none_before, none_brought, none_written, both_none, undirty, value_next, writable_valid}

-- ---- messages that write nothing

-- a request writes nothing
pub request_writes : (a : ℕ) (v : Bytes64) (op : Op) (t : ℕ) → Writes a v (request_message op t)
request_writes a v (Op.Load line) t b h = absurd (none-some b h)
request_writes a v (Op.Word line place word) t b h = absurd (none-some b h)
request_writes a v (Op.Whole line bytes) t b h = absurd (none-some b h)

-- ---- what is opened

-- no read that is opened has data yet
opened_kind_read : (b : Bool) → is_read (eviction_kind b) ≡ true → ⊥
opened_kind_read true h = false≢true h
opened_kind_read false h = false≢true h

-- one more line is opened
reads_opened : (v : Bytes64) (l a : ℕ) (x : Transaction) (o : Option Transaction) (drs : List Message) (here : Bool) → (l == a) ≡ here → (is_read x.kind ≡ true → DataHas v x drs) → ReadsHave v o drs
    → ReadsHave v (option_or (cond here (Some x) None) o) drs
reads_opened v l a x o drs true is fresh old = λ y there read.
    let same = same_Some x y there in
    subst (λ (z : Transaction). DataHas v z drs) same (fresh (subst (λ (z : Transaction). is_read z.kind ≡ true) (sym same) read))
reads_opened v l a x o drs false is fresh old = old

-- the same with what is open
pub reads_as : (v : Bytes64) (o o' : Option Transaction) (drs : List Message) → o' ≡ o → ReadsHave v o drs → ReadsHave v o' drs
reads_as v o o' drs same old = λ x there. old x (sym same ∙ there)

-- what is opened with a free tag has no data
fresh_data : (v : Bytes64) (s i t : ℕ) (op : Op) (drs : List Message) → count_by (has_tag t) drs ≡ 0 → DataHas v (opened s i op (kind_of op) t) drs
fresh_data v s i t op drs none = record { flying = none_brought t v drs none; taken = λ b there. absurd (none-some b there) }

-- ---- copies

-- a copy without a line that is dropped
copy_lost : (v : Bytes64) (d : Option ℕ) (a : ℕ) (c : Copy) → (is_valid c ≡ true → c.bytes ≡ v) → is_valid (without_line d a c) ≡ true → (without_line d a c).bytes ≡ v
copy_lost v None a c old h = old h
copy_lost v (Some l) a c old h = by (a == l) h
  where
    by : (b : Bool) → is_valid (cond b no_copy c) ≡ true → (cond b no_copy c).bytes ≡ v
    by true e = absurd (false≢true e)
    by false e = old e

-- no copy M is dropped
clean_lost : (d : Option ℕ) (a : ℕ) (c : Copy) → ((l : ℕ) → d ≡ Some l → l ≡ a → is_dirty c ≡ false) → is_dirty (without_line d a c) ≡ false → is_dirty c ≡ false
clean_lost None a c low h = h
clean_lost (Some l) a c low h = by (a == l) refl h
  where
    by : (b : Bool) → (a == l) ≡ b → is_dirty (cond b no_copy c) ≡ false → is_dirty c ≡ false
    by true is e = low l refl (sym (eqb-true a l is))
    by false is e = e

-- the same with equal copies
pub copied_as : (v : Bytes64) (c c' : Copy) → c' ≡ c → (is_valid c ≡ true → c.bytes ≡ v) → is_valid c' ≡ true → c'.bytes ≡ v
copied_as v c c' same old h = ap (λ (x : Copy). x.bytes) same ∙ old (ap is_valid (sym same) ∙ h)

-- a test that makes no difference
either_same : {A : Type 0} (b : Bool) (x : A) → cond b x x ≡ x
either_same true x = refl
either_same false x = refl

module _ (setup : Configuration) (h : ℕ) (own : List Event) (a : ℕ) (v : Bytes64) (fw held ndr drs : List Message) (old : HostHas a v (copy setup a own) (open_at a own) fw held drs)
    (unwritten : is_writable setup a own ≡ true → count_by (writes_line a) fw + count_by (writes_line a) held ≡ 0) (unused : (t : ℕ) → open_with t own ≡ None → count_by (has_tag t) drs ≡ 0) where
  -- the copy before the operation
  abbrev c : Copy
  c = copy setup a own

  -- 1 or more where the host owns the line or gets it
  abbrev owns : ℕ
  owns = writable_count c + granted_so grants_ownership ndr (open_at a own)

  -- what an operation leaves
  abbrev AfterOp : (s i : ℕ) → Op → Sends → Option Commit → Type 0
  AfterOp s i op sends commit =
      HostMoved a v (value_next commit a v) c (copy_next setup (Cause.Op s i op) sends commit own a) (open_after a (Cause.Op s i op) sends (open_at a own)) fw (fw ++ on_channel h Channel.Rwd sends) held drs owns

  -- the commit of a hit
  abbrev committed_as : (s i : ℕ) → Op → Bytes64 → Option Commit
  committed_as s i op value = Some (record { stream = s; index = i; op = op; value = value })

  -- a hit that leaves the line
  hit_elsewhere : (s i : ℕ) (op : Op) (value : Bytes64) → value_next (committed_as s i op value) a v ≡ v → copy_next setup (Cause.Op s i op) Sends.Nothing (committed_as s i op value) own a ≡ c
      → AfterOp s i op Sends.Nothing (committed_as s i op value)
  hit_elsewhere s i op value same copied =
      moved a v _ c _ _ fw (fw ++ []) held drs owns same
      (record {
        copied = copied_as v c _ copied old.copied;
        flying = each_none (Writes a v) h Channel.Rwd Sends.Nothing fw refl old.flying;
        waiting = old.waiting;
        reads = old.reads;
      })
      (λ k. record { copied = sym (ap is_dirty copied) ∙ k.copied; unwritten = none_before a fw [] held k.unwritten })

  -- a hit that stores to the line
  hit_here : (s i : ℕ) (op : Op) (value : Bytes64) → value_next (committed_as s i op value) a v ≡ value → copy_next setup (Cause.Op s i op) Sends.Nothing (committed_as s i op value) own a ≡ modified value
      → is_writable setup a own ≡ true → open_at a own ≡ None → AfterOp s i op Sends.Nothing (committed_as s i op value)
  hit_here s i op value next copied writable closed =
      let none = both_none (count_by (writes_line a) fw) (count_by (writes_line a) held) (unwritten writable) in
      let x = flag_up (is_writable setup a own) writable in
      record {
        has = record {
          copied = λ is. ap (λ (y : Copy). y.bytes) copied ∙ sym next;
          flying = each_none (Writes a _) h Channel.Rwd Sends.Nothing fw refl (none_written a _ fw none.0);
          waiting = none_written a _ held none.1;
          reads = λ y there. absurd (none-some y (sym closed ∙ there));
        };
        others = inr (omega arith);
        clean = λ k. absurd (false≢true (sym k.copied ∙ ap is_dirty copied));
      }

  -- a store that hits, on the line or on another
  store_by : (s i : ℕ) (op : Op) → is_load op ≡ false → hits setup op own ≡ true → is_quiet (line_of op) own ≡ true → (value : Bytes64) → value ≡ line_after op (copy setup (line_of op) own).bytes
      → copy_next setup (Cause.Op s i op) Sends.Nothing (committed_as s i op value) own a ≡ cond (line_of op == a) (modified value) c → (here : Bool) → (line_of op == a) ≡ here
      → AfterOp s i op Sends.Nothing (committed_as s i op value)
  store_by s i op store hit quiet value is copied true here =
      let same = eqb-true (line_of op) a here in
      let writable : is_writable setup a own ≡ true = subst (λ b. is_writable setup b own ≡ true) same (store_hits setup op own store hit) in
      let bytes : c.bytes ≡ v = old.copied (writable_valid c writable) in
      hit_here s i op value
      (cond-true (line_of op == a) (line_after op v) v here ∙ ap (line_after op) (sym bytes) ∙ ap (λ b. line_after op (copy setup b own).bytes) (sym same) ∙ sym is)
      (copied ∙ cond-true (line_of op == a) (modified value) c here) writable (nothing_there (open_at a own) (subst (λ b. is_open b own ≡ false) same (quiet_parts (line_of op) own quiet).0))
  store_by s i op store hit quiet value is copied false here =
      hit_elsewhere s i op value (cond-false (line_of op == a) (line_after op v) v here) (copied ∙ cond-false (line_of op == a) (modified value) c here)

  -- each hit
  hit_by : (s i : ℕ) (op : Op) → hits setup op own ≡ true → is_quiet (line_of op) own ≡ true → AfterOp s i op Sends.Nothing (committed_as s i op (line_after op (copy setup (line_of op) own).bytes))
  hit_by s i (Op.Load line) hit quiet = hit_elsewhere s i (Op.Load line) (copy setup line.0 own).bytes (either_same (line.0 == a) v) (either_same (line.0 == a) c)
  hit_by s i (Op.Word line place word) hit quiet = store_by s i (Op.Word line place word) refl hit quiet (line_after (Op.Word line place word) (copy setup line.0 own).bytes) refl refl (line.0 == a) refl
  hit_by s i (Op.Whole line bytes) hit quiet = store_by s i (Op.Whole line bytes) refl hit quiet bytes refl refl (line.0 == a) refl

  -- a request alone
  alone_by : (s i : ℕ) (op : Op) (w : Emission) (sends : Sends) (commit : Option Commit) → AloneRow setup h op own sends commit → AfterOp s i op sends commit
  alone_by s i op w sends commit row =
      let copied = alone_copy setup s i h op row.t own w sends commit row.d a row.sent row.uncommitted row.drops in
      let opens : open_after a (Cause.Op s i op) sends (open_at a own) ≡ opening_line (line_of op) (opened s i op (kind_of op) row.t) (λ b. open_at b own) a
      = ap (λ x. open_after a (Cause.Op s i op) x (open_at a own)) row.sent ∙ one_opens a s i h op (request_message op row.t) (line_of op) row.t (kind_of op) own (request_opens op row.t) in
      moved a v _ c _ _ fw _ held drs owns (ap (λ k. value_next k a v) row.uncommitted)
      (record {
        copied = copied_as v (without_line row.d a c) _ copied (copy_lost v row.d a c old.copied);
        flying = each_one (Writes a v) h Channel.Rwd sends (request_message op row.t) fw row.sent (request_writes a v op row.t) old.flying;
        waiting = old.waiting;
        reads = reads_as v _ _ drs opens
            (reads_opened v (line_of op) a (opened s i op (kind_of op) row.t) (open_at a own) drs (line_of op == a) refl (λ read. fresh_data v s i row.t op drs (unused row.t row.free.closed)) old.reads);
      })
      (λ k. record {
        copied = clean_lost row.d a c (λ l dropped same. undirty c (subst (λ b. is_writable setup b own ≡ false) same (row.unwritable l dropped).0)) (sym (ap is_dirty copied) ∙ k.copied);
        unwritten = none_before a fw (on_channel h Channel.Rwd sends) held k.unwritten;
      })

  -- an eviction of a copy M sends its bytes
  eviction_bytes : (m : Bool) (bytes : Bytes64) (l t : ℕ) (b : Bytes64) → written_bytes a (eviction_with m bytes l t) ≡ Some b → (l ≡ a) × (bytes ≡ b)
  eviction_bytes true bytes l t b e = let parts = guarded_some (l == a) (Some bytes) b e in (eqb-true l a parts.0, same_Some bytes b parts.1)
  eviction_bytes false bytes l t b e = absurd (none-some b e)

  -- an eviction of a copy M sends a MemWr of its line
  eviction_counts : (m : Bool) (bytes : Bytes64) (l t : ℕ) → m ≡ true
      → ◌≡◌ {A = ℕ} (cond (channel_eq (channel_of (eviction_with m bytes l t)) Channel.Rwd) (cond (writes_line a (eviction_with m bytes l t)) 1 0) 0) (cond (l == a) 1 0)
  eviction_counts true bytes l t e = refl
  eviction_counts false bytes l t e = absurd (false≢true e)

  -- a request that evicts
  evicting_by : (s i : ℕ) (op : Op) (sends : Sends) (commit : Option Commit) → EvictingRow setup h op own sends commit → AfterOp s i op sends commit
  evicting_by s i op sends commit row =
      let copied = evicting_copy setup s i h op row.v row.t row.u own sends commit a row.sent row.uncommitted in
      let k = eviction_kind (is_modified setup row.v own) in
      let opens : open_after a (Cause.Op s i op) sends (open_at a own) ≡ opening_line row.v (opened s i op k row.t) (opening_line (line_of op) (opened s i op (kind_of op) row.u) (λ b. open_at b own)) a
      = ap (λ x. open_after a (Cause.Op s i op) x (open_at a own)) row.sent
      ∙ two_open a s i h op (eviction_message setup row.v own row.t) (request_message op row.u) row.v row.t k (line_of op) row.u (kind_of op) own (victim_opens setup row.v own row.t) (request_opens op row.u) in
      moved a v _ c _ _ fw _ held drs owns (ap (λ k. value_next k a v) row.uncommitted)
      (record {
        copied = copied_as v (cond (row.v == a) no_copy c) _ copied (gone (row.v == a));
        flying = each_two (Writes a v) h Channel.Rwd sends (eviction_message setup row.v own row.t) (request_message op row.u) fw row.sent
            (λ b is.
            let sent = eviction_bytes (is_modified setup row.v own) (copy setup row.v own).bytes row.v row.t b is in
            sym sent.1 ∙ ap (λ l. (copy setup l own).bytes) sent.0 ∙ old.copied (writable_valid c (subst (λ l. is_writable setup l own ≡ true) sent.0 row.writable)))
            (request_writes a v op row.u) old.flying;
        waiting = old.waiting;
        reads = reads_as v _ _ drs opens
            (reads_opened v row.v a (opened s i op k row.t) (opening_line (line_of op) (opened s i op (kind_of op) row.u) (λ b. open_at b own) a) drs (row.v == a) refl (λ read. absurd (opened_kind_read (is_modified setup row.v own) read))
            (reads_opened v (line_of op) a (opened s i op (kind_of op) row.u) (open_at a own) drs (line_of op == a) refl (λ read. fresh_data v s i row.u op drs (unused row.u row.free.second.closed)) old.reads));
      })
      (λ clean. record {
        copied = undirtied row clean.unwritten (row.v == a) refl (sym (ap is_dirty copied) ∙ clean.copied);
        unwritten = none_before a fw (on_channel h Channel.Rwd sends) held clean.unwritten;
      })
    where
      gone : (b : Bool) → is_valid (cond b no_copy c) ≡ true → (cond b no_copy c).bytes ≡ v
      gone true e = absurd (false≢true e)
      gone false e = old.copied e

      sent_away : (row : EvictingRow setup h op own sends commit) → count_by (writes_line a) (fw ++ on_channel h Channel.Rwd sends) + count_by (writes_line a) held ≡ 0 → (row.v == a) ≡ true → (d : Bool) → is_dirty c ≡ d → d ≡ false
      sent_away row none is true dirty =
          let same = eqb-true row.v a is in
          let m : is_modified setup row.v own ≡ true = subst (λ l. is_modified setup l own ≡ true) (sym same) dirty in
          let two = count_two (writes_line a) h Channel.Rwd sends (eviction_message setup row.v own row.t) (request_message op row.u) fw row.sent in
          let one = eviction_counts (is_modified setup row.v own) (copy setup row.v own).bytes row.v row.t m ∙ ap (λ b. cond {A = ℕ} b 1 0) is in
          absurd (omega arith)
      sent_away row none is false dirty = refl

      undirtied : (row : EvictingRow setup h op own sends commit) → count_by (writes_line a) (fw ++ on_channel h Channel.Rwd sends) + count_by (writes_line a) held ≡ 0 → (b : Bool) → (row.v == a) ≡ b
          → is_dirty (cond b no_copy c) ≡ false → is_dirty c ≡ false
      undirtied row none true is e = sent_away row none is (is_dirty c) refl
      undirtied row none false is e = e

  -- what each operation leaves
  pub operation_moved : (s i : ℕ) (op : Op) (w : Emission) (sends : Sends) (commit : Option Commit) → OperationRow setup h s i op own w sends commit → sends ≡ w.sends → commit ≡ w.commit → AfterOp s i op sends commit
  operation_moved s i op w sends commit (RowHits hit) sent committed =
      subst (λ x. AfterOp s i op x commit) (sym (sent ∙ ap (λ (y : Emission). y.sends) hit.emits))
      (subst (λ x. AfterOp s i op Sends.Nothing x) (sym (committed ∙ ap (λ (y : Emission). y.commit) hit.emits)) (hit_by s i op hit.on_copy hit.quiet))
  operation_moved s i op w sends commit (RowAlone row) sent committed = alone_by s i op w sends commit row
  operation_moved s i op w sends commit (RowEvicts row) sent committed = evicting_by s i op sends commit row
