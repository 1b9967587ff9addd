-- A line's numbers are kept by the operations of its host.
use Rattle.std.proofs.Common.{◌≡◌, ℕ, ◌+◌, ◌≤◌, Bool, true, false, List, ◌++◌, Option, Some, None, cond, count_by, refl, sym, ◌∙◌, ap, subst, arith, inl, inr}
use Rattle.std.specs.Prelude.{nat_le, ◌==◌, ◌&&◌}
use Rattle.std.specs.Option.{option_or}
use Rattle.std.proofs.lemmas.Bool.{eqb-true}
use Rattle.cxl_message.specs.declared.channels.Channel.{Channel}
use Rattle.cxl_message.specs.declared.events.Cause.{Cause}
use Rattle.cxl_message.specs.declared.events.Commit.{Commit}
use Rattle.cxl_message.specs.declared.events.Event.{Event}
use Rattle.cxl_message.specs.declared.events.Op.{Op}
use Rattle.cxl_message.specs.declared.events.Sends.{Sends}
use Rattle.cxl_message.specs.declared.identifiers.Bytes64.{Bytes64}
use Rattle.cxl_message.specs.declared.messages.Message.{Message}
use Rattle.cxl_message.specs.declared.opcodes.Meta.{Meta}
use Rattle.cxl_message.specs.declared.opcodes.NdrOp.{NdrOp}
use Rattle.cxl_message.specs.declared.opcodes.ReqOp.{ReqOp}
use Rattle.cxl_message.specs.declared.opcodes.SnpType.{SnpType}
use Rattle.cxl_message.specs.declared.states.CopyState.{CopyState}
use Rattle.cxl_message.specs.Codes.{channel_eq, copy_code}
use Rattle.cxl_message.specs.Events.{line_of}
use Rattle.cxl_message.specs.Messages.{channel_of}
use Rattle.cxl_message.specs.Setup.{Configuration}
use Rattle.coherence_model.specs.Cache.{copy, is_modified, is_writable}
use Rattle.coherence_model.specs.Copies.{Copy, keeps_shared, no_copy}
use Rattle.coherence_model.specs.Emission.{Emission}
use Rattle.coherence_model.specs.HostOperations.{eviction_message, request_message}
use Rattle.coherence_model.specs.ListingFacts.{grants_ownership}
use Rattle.coherence_model.specs.RequestFacts.{grants, is_ndr_with}
use Rattle.coherence_model.specs.SnoopFacts.{answers_line}
use Rattle.coherence_model.specs.Snoops.{is_quiet}
use Rattle.coherence_model.specs.Tags.{open_with}
use Rattle.coherence_model.specs.Transactions.{Kind, Transaction, open_after, open_at, opened}
use Rattle.coherence_model.specs.Words.{one_if}
use Rattle.coherence_lemmas.proofs.HostOperations.{Hit}
use Rattle.request_laws.proofs.FreeTags.{IsFree, nothing_there}
use Rattle.request_laws.proofs.HostOperations.{eviction_kind, kind_of, request_opens}
use Rattle.request_laws.proofs.OpenLines.{one_opens, quiet_parts, two_open, victim_opens}
use Rattle.request_laws.proofs.Places.{on_channel}
use Rattle.listing_laws.proofs.Copies.{alone_copy, copy_next, evicting_copy, hit_copy, store_hits, valid_count, without_line, writable_count}
use Rattle.listing_laws.proofs.HostLines.{flag_down, flag_up}
use Rattle.listing_laws.proofs.Lines.{LineKept, and_first, answers_shared, off_by, quiet_none, quiet_one, writes_shared}
use Rattle.listing_laws.proofs.Numbers.{Kept, kept_as, kept_evicted, kept_evicted_clean, kept_lost, kept_stored}
use Rattle.listing_laws.proofs.Operations.{AloneRow, EvictingRow, OperationRow, RowAlone, RowEvicts, RowHits}
use Rattle.listing_laws.proofs.Owners.{granted_so, grants_shared, split_grants}
use Rattle.listing_laws.proofs.UnderWay.{count_two}
use Rattle.listing_laws.proofs.WriteBackLines.{cleans_line, writes_line}

-- a request is no eviction and no answer
pub request_writes : (a t : ℕ) (op : Op) → writes_line a (request_message op t) ≡ false
request_writes a t (Op.Load line) = refl
request_writes a t (Op.Word line place word) = refl
request_writes a t (Op.Whole line bytes) = refl

-- a request is no MemClnEvct
pub request_cleans : (a t : ℕ) (op : Op) → cleans_line a (request_message op t) ≡ false
request_cleans a t (Op.Load line) = refl
request_cleans a t (Op.Word line place word) = refl
request_cleans a t (Op.Whole line bytes) = refl

-- a request is no answer
pub request_answers : (h a t : ℕ) (dev : List Event) (op : Op) → answers_line h a dev (request_message op t) ≡ false
request_answers h a t dev (Op.Load line) = refl
request_answers h a t dev (Op.Word line place word) = refl
request_answers h a t dev (Op.Whole line bytes) = refl

-- a sum of none has none
none_left : (s g n : ℕ) → s + g ≡ n → n ≡ 0 → (s ≡ 0) × (g ≡ 0)
none_left s g n e z = (omega arith, omega arith)

-- no count of none
off : (b : Bool) (n : ℕ) → n ≡ 0 → ◌≡◌ {A = ℕ} (cond b n 0) 0
off true n e = e
off false n e = refl

module _ (setup : Configuration) (h : ℕ) (own dev : List Event) (a : ℕ) (fr hr fw hw ndr rs : List Message) (l : ℕ)
    (unused : (tag : ℕ) → open_with tag own ≡ None → count_by (is_ndr_with grants tag) ndr ≡ 0)
    (old : LineKept h a (copy setup a own) (open_at a own) dev fr hr fw hw ndr rs l) where
  -- what is kept after an operation
  abbrev Next : (s i : ℕ) (op : Op) (sends : Sends) (commit : Option Commit) → Type 0
  Next s i op sends commit =
      LineKept h a (copy_next setup (Cause.Op s i op) sends commit own a) (open_after a (Cause.Op s i op) sends (open_at a own)) dev (fr ++ on_channel h Channel.Req sends) hr (fw ++ on_channel h Channel.Rwd sends) hw ndr
      (rs ++ on_channel h Channel.BiRsp sends) l

  -- with another copy that has the same numbers or fewer, and what is open with as many grants
  with_open : (c : Copy) (o : Option Transaction) → granted_so grants_shared ndr o ≡ granted_so grants_shared ndr (open_at a own) → granted_so grants_ownership ndr o ≡ granted_so grants_ownership ndr (open_at a own)
      → LineKept h a c (open_at a own) dev fr hr fw hw ndr rs l → LineKept h a c o dev fr hr fw hw ndr rs l
  with_open c o es eg kept = kept_as _ _ _ _ _ _ _ _ _ _ _ _ _ _ _ _ _ _ _ _ refl refl es eg refl refl refl refl refl refl kept

  -- a free tag has no grants
  fresh : (t s i : ℕ) (op : Op) (k : Kind) → IsFree setup own t → (granted_so grants_shared ndr (Some (opened s i op k t)) ≡ 0) × (granted_so grants_ownership ndr (Some (opened s i op k t)) ≡ 0)
  fresh t s i op k free =
      let both = none_left _ _ _ (split_grants t ndr) (unused t free.closed) in
      let first = both.0 in
      let second = both.1 in
      (omega arith, omega arith)

  -- a quiet line has nothing open
  closed : (b : ℕ) → is_quiet b own ≡ true → open_at b own ≡ None
  closed b quiet = nothing_there (open_at b own) (quiet_parts b own quiet).0

  -- what is open after a line is opened, as its grants count
  opened_grants : (p : NdrOp → Bool) (b : ℕ) (y : Transaction) (o : Option Transaction) (here : Bool) → (b == a) ≡ here → is_quiet b own ≡ true → granted_so p ndr (Some y) ≡ 0 → granted_so p ndr o ≡ granted_so p ndr (open_at a own)
      → granted_so p ndr (option_or (cond here (Some y) None) o) ≡ granted_so p ndr (open_at a own)
  opened_grants p b y o true is quiet none rest = none ∙ sym (ap (granted_so p ndr) (ap (λ x. open_at x own) (sym (eqb-true b a is)) ∙ closed b quiet))
  opened_grants p b y o false is quiet none rest = rest

  -- a hit keeps the line's numbers
  hit_line : (s i : ℕ) (op : Op) (w : Emission) (sends : Sends) (commit : Option Commit) → Hit setup s i op own w → sends ≡ w.sends → commit ≡ w.commit → Next s i op sends commit
  hit_line s i op w sends commit hit sent committed =
      let none = sent ∙ ap (λ (y : Emission). y.sends) hit.emits in
      let c = copy_next setup (Cause.Op s i op) sends commit own a in
      quiet_none h a c (open_after a (Cause.Op s i op) sends (open_at a own)) dev fr hr fw hw ndr rs l sends none
      (subst (λ o. LineKept h a c o dev fr hr fw hw ndr rs l) (sym (ap (λ x. open_after a (Cause.Op s i op) x (open_at a own)) none))
      (elim (hit_copy setup s i op own w sends commit a hit sent committed) [
        | inl same ↦ subst (λ c. LineKept h a c (open_at a own) dev fr hr fw hw ndr rs l) (sym same) old
        | inr store ↦ (
            let one : writable_count (copy setup a own) ≡ 1 = flag_up _ (subst (λ x. is_writable setup x own ≡ true) store.0 (store_hits setup op own store.1 hit.on_copy)) in
            subst (λ c. LineKept h a c (open_at a own) dev fr hr fw hw ndr rs l) (sym store.2)
            (kept_stored _ _ _ _ _ _ _ _ _ (kept_as _ _ _ _ _ _ _ _ _ _ _ _ _ _ _ _ _ _ _ _ refl (sym one) refl refl refl refl refl refl refl refl old))
            )
      ]))

  -- a dropped line adds no copy
  lost_valid : (d : Option ℕ) (c : Copy) → valid_count (without_line d a c) ≤ valid_count c
  lost_valid None c = omega arith
  lost_valid (Some v) c = by (a == v)
    where
      by : (b : Bool) → valid_count (cond b no_copy c) ≤ valid_count c
      by true = omega arith
      by false = omega arith

  -- a writable copy is valid
  writable_valid : (c : Copy) → writable_count c ≤ valid_count c
  writable_valid c = by c.state
    where
      by : (s : CopyState) → one_if (nat_le 2 (copy_code s)) ≤ one_if (nat_le 1 (copy_code s))
      by CopyState.I = omega arith
      by CopyState.S = omega arith
      by CopyState.E = omega arith
      by CopyState.M = omega arith

  -- a dropped copy isn't writable
  dropped_same : (d : Option ℕ) → ((v : ℕ) → d ≡ Some v → (is_writable setup v own ≡ false) × (is_quiet v own ≡ true)) → writable_count (without_line d a (copy setup a own)) ≡ writable_count (copy setup a own)
  dropped_same None low = refl
  dropped_same (Some v) low = by (a == v) refl
    where
      by : (b : Bool) → (a == v) ≡ b → writable_count (cond b no_copy (copy setup a own)) ≡ writable_count (copy setup a own)
      by true is = sym (flag_down _ (subst (λ x. is_writable setup x own ≡ false) (sym (eqb-true a v is)) (low v refl).0))
      by false is = refl

  -- a miss that sends a request keeps the line's numbers
  alone_line : (s i : ℕ) (op : Op) (w : Emission) (sends : Sends) (commit : Option Commit) → AloneRow setup h op own sends commit → Next s i op sends commit
  alone_line s i op w sends commit row =
      let c = copy_next setup (Cause.Op s i op) sends commit own a in
      let y : Transaction = opened s i op (kind_of op) row.t in
      let is = alone_copy setup s i h op row.t own w sends commit row.d a row.sent row.uncommitted row.drops in
      let none = fresh row.t s i op (kind_of op) row.free in
      let o = ap (λ v. open_after a (Cause.Op s i op) v (open_at a own)) row.sent ∙ one_opens a s i h op (request_message op row.t) (line_of op) row.t (kind_of op) own (request_opens op row.t) in
      quiet_one h a c (open_after a (Cause.Op s i op) sends (open_at a own)) dev fr hr fw hw ndr rs l sends (request_message op row.t) row.sent (request_writes a row.t op) (request_cleans a row.t op) (request_answers h a row.t dev op)
      (with_open c (open_after a (Cause.Op s i op) sends (open_at a own))
      (ap (granted_so grants_shared ndr) o ∙ opened_grants grants_shared (line_of op) y (open_at a own) (line_of op == a) refl row.quiet none.0 refl)
      (ap (granted_so grants_ownership ndr) o ∙ opened_grants grants_ownership (line_of op) y (open_at a own) (line_of op == a) refl row.quiet none.1 refl)
      (subst (λ c. LineKept h a c (open_at a own) dev fr hr fw hw ndr rs l) (sym is)
      (let same = dropped_same row.d row.unwritable in
      let less = lost_valid row.d (copy setup a own) in
      let low = writable_valid (without_line row.d a (copy setup a own)) in
      kept_as _ _ _ _ _ _ _ _ _ _ _ _ _ _ _ _ _ _ _ _ refl same refl refl refl refl refl refl refl refl
      (kept_lost (valid_count (copy setup a own)) (valid_count (without_line row.d a (copy setup a own))) (writable_count (copy setup a own)) _ _ _ _ _ _ _ _ less (omega arith) old))))

  -- an eviction, which counts n writes and m cleans, and a request
  two_line : (c : Copy) (o : Option Transaction) (sends : Sends) (ev rq : Message) (n m : ℕ) → sends ≡ Sends.Two (record { host = h; message = ev }) (record { host = h; message = rq })
      → ◌≡◌ {A = ℕ} (cond (channel_eq (channel_of ev) Channel.Rwd) (cond (writes_line a ev) 1 0) 0) n → ◌≡◌ {A = ℕ} (cond (channel_eq (channel_of ev) Channel.Rwd) (cond (writes_shared a ev) 1 0) 0) 0
      → ◌≡◌ {A = ℕ} (cond (channel_eq (channel_of ev) Channel.Req) (cond (cleans_line a ev) 1 0) 0) m → answers_line h a dev ev ≡ false
      → writes_line a rq ≡ false → cleans_line a rq ≡ false → answers_line h a dev rq ≡ false
      → Kept (valid_count c) (writable_count c) (granted_so grants_shared ndr o) (granted_so grants_ownership ndr o) (count_by (writes_line a) fw + count_by (writes_line a) hw + n)
      (count_by (writes_shared a) fw + count_by (writes_shared a) hw) (count_by (cleans_line a) fr + count_by (cleans_line a) hr + m) (count_by (answers_line h a dev) rs) (count_by (answers_shared h a dev) rs) l
      → LineKept h a c o dev (fr ++ on_channel h Channel.Req sends) hr (fw ++ on_channel h Channel.Rwd sends) hw ndr (rs ++ on_channel h Channel.BiRsp sends) l
  two_line c o sends ev rq n m sent en es em er w_rq e_rq r_rq kept =
      let w = count_two (writes_line a) h Channel.Rwd sends ev rq fw sent in
      let w2 = off_by (channel_eq (channel_of rq) Channel.Rwd) (writes_line a rq) w_rq in
      let s = count_two (writes_shared a) h Channel.Rwd sends ev rq fw sent in
      let s2 = off_by (channel_eq (channel_of rq) Channel.Rwd) (writes_shared a rq) (and_first (writes_line a rq) (keeps_shared rq) w_rq) in
      let e = count_two (cleans_line a) h Channel.Req sends ev rq fr sent in
      let e2 = off_by (channel_eq (channel_of rq) Channel.Req) (cleans_line a rq) e_rq in
      let r = count_two (answers_line h a dev) h Channel.BiRsp sends ev rq rs sent in
      let r1 = off_by (channel_eq (channel_of ev) Channel.BiRsp) (answers_line h a dev ev) er in
      let r2 = off_by (channel_eq (channel_of rq) Channel.BiRsp) (answers_line h a dev rq) r_rq in
      let t = count_two (answers_shared h a dev) h Channel.BiRsp sends ev rq rs sent in
      let t1 = off_by (channel_eq (channel_of ev) Channel.BiRsp) (answers_shared h a dev ev) (and_first (answers_line h a dev ev) (keeps_shared ev) er) in
      let t2 = off_by (channel_eq (channel_of rq) Channel.BiRsp) (answers_shared h a dev rq) (and_first (answers_line h a dev rq) (keeps_shared rq) r_rq) in
      kept_as _ _ _ _ _ _ _ _ _ _ _ _ _ _ _ _ _ _ _ _ refl refl refl refl (omega arith) (omega arith) (omega arith) (omega arith) (omega arith) refl kept

  -- an eviction's message
  abbrev eviction_by : Bool → Bytes64 → ℕ → ℕ → Message
  eviction_by b bytes v t =
      cond b (Message.MemWr Meta.Invalid SnpType.NoOp (record { 0 = t }) (record { 0 = v }) bytes) (Message.Req ReqOp.MemClnEvct Meta.Invalid SnpType.NoOp (record { 0 = t }) (record { 0 = v }))

  -- no count where the second is false
  no_shared : (b : Bool) → ◌≡◌ {A = ℕ} (cond (b && false) 1 0) 0
  no_shared true = refl
  no_shared false = refl

  -- an eviction keeps the line's numbers, by whether the line is the victim
  evicted_line : (b here : Bool) (bytes : Bytes64) (v t : ℕ) (c : Copy) (o : Option Transaction) (sends : Sends) (rq : Message) → (v == a) ≡ here
      → sends ≡ Sends.Two (record { host = h; message = eviction_by b bytes v t }) (record { host = h; message = rq })
      → writes_line a rq ≡ false → cleans_line a rq ≡ false → answers_line h a dev rq ≡ false → c ≡ cond here no_copy (copy setup a own)
      → granted_so grants_shared ndr o ≡ granted_so grants_shared ndr (open_at a own) → granted_so grants_ownership ndr o ≡ granted_so grants_ownership ndr (open_at a own)
      → (here ≡ true → (writable_count (copy setup a own) ≡ 1) × (granted_so grants_shared ndr (open_at a own) ≡ 0) × (granted_so grants_ownership ndr (open_at a own) ≡ 0))
      → LineKept h a c o dev (fr ++ on_channel h Channel.Req sends) hr (fw ++ on_channel h Channel.Rwd sends) hw ndr (rs ++ on_channel h Channel.BiRsp sends) l
  evicted_line true true bytes v t c o sends rq at sent w_rq e_rq r_rq is es eg was =
      let facts = was refl in
      two_line c o sends (eviction_by true bytes v t) rq 1 0 sent (ap {B = ℕ} (λ b. cond b 1 0) at) (ap {B = ℕ} (λ b. cond (b && false) 1 0) at) refl refl w_rq e_rq r_rq
      (kept_as _ _ _ _ _ _ _ _ _ _ _ _ _ _ _ _ _ _ _ _ (ap valid_count is) (ap writable_count is) (es ∙ facts.1) (eg ∙ facts.2) refl refl (omega arith) refl refl refl
      (kept_evicted (valid_count (copy setup a own)) _ _ _ _ _ _ (kept_as _ _ _ _ _ _ _ _ _ _ _ _ _ _ _ _ _ _ _ _ refl (sym facts.0) (sym facts.1) (sym facts.2) refl refl refl refl refl refl old)))
  evicted_line false true bytes v t c o sends rq at sent w_rq e_rq r_rq is es eg was =
      let facts = was refl in
      two_line c o sends (eviction_by false bytes v t) rq 0 1 sent refl refl (ap {B = ℕ} (λ b. cond b 1 0) at) refl w_rq e_rq r_rq
      (kept_as _ _ _ _ _ _ _ _ _ _ _ _ _ _ _ _ _ _ _ _ (ap valid_count is) (ap writable_count is) (es ∙ facts.1) (eg ∙ facts.2) (omega arith) refl refl refl refl refl
      (kept_evicted_clean (valid_count (copy setup a own)) _ _ _ _ _ _ (kept_as _ _ _ _ _ _ _ _ _ _ _ _ _ _ _ _ _ _ _ _ refl (sym facts.0) (sym facts.1) (sym facts.2) refl refl refl refl refl refl old)))
  evicted_line true false bytes v t c o sends rq at sent w_rq e_rq r_rq is es eg was =
      two_line c o sends (eviction_by true bytes v t) rq 0 0 sent (ap {B = ℕ} (λ b. cond b 1 0) at) (ap {B = ℕ} (λ b. cond (b && false) 1 0) at) refl refl w_rq e_rq r_rq
      (kept_as _ _ _ _ _ _ _ _ _ _ _ _ _ _ _ _ _ _ _ _ (ap valid_count is) (ap writable_count is) es eg (omega arith) refl (omega arith) refl refl refl old)
  evicted_line false false bytes v t c o sends rq at sent w_rq e_rq r_rq is es eg was =
      two_line c o sends (eviction_by false bytes v t) rq 0 0 sent refl refl (ap {B = ℕ} (λ b. cond b 1 0) at) refl w_rq e_rq r_rq
      (kept_as _ _ _ _ _ _ _ _ _ _ _ _ _ _ _ _ _ _ _ _ (ap valid_count is) (ap writable_count is) es eg (omega arith) refl (omega arith) refl refl refl old)

  -- a miss that sends an eviction too keeps the line's numbers
  evicting_line : (s i : ℕ) (op : Op) (sends : Sends) (commit : Option Commit) → EvictingRow setup h op own sends commit → Next s i op sends commit
  evicting_line s i op sends commit row =
      let c = copy_next setup (Cause.Op s i op) sends commit own a in
      let k = eviction_kind (is_modified setup row.v own) in
      let y : Transaction = opened s i op (kind_of op) row.u in
      let e : Transaction = opened s i op k row.t in
      let o = ap (λ v. open_after a (Cause.Op s i op) v (open_at a own)) row.sent
      ∙ two_open a s i h op (eviction_message setup row.v own row.t) (request_message op row.u) row.v row.t k (line_of op) row.u (kind_of op) own (victim_opens setup row.v own row.t) (request_opens op row.u) in
      let none = fresh row.u s i op (kind_of op) row.free.second in
      let gone = fresh row.t s i op k row.free.first in
      evicted_line (is_modified setup row.v own) (row.v == a) (copy setup row.v own).bytes row.v row.t c (open_after a (Cause.Op s i op) sends (open_at a own)) sends (request_message op row.u) refl row.sent
      (request_writes a row.u op) (request_cleans a row.u op) (request_answers h a row.u dev op) (evicting_copy setup s i h op row.v row.t row.u own sends commit a row.sent row.uncommitted)
      (ap (granted_so grants_shared ndr) o
      ∙ opened_grants grants_shared row.v e (option_or (cond (line_of op == a) (Some y) None) (open_at a own)) (row.v == a) refl row.idle gone.0 (opened_grants grants_shared (line_of op) y (open_at a own) (line_of op == a) refl row.quiet none.0 refl))
      (ap (granted_so grants_ownership ndr) o
      ∙ opened_grants grants_ownership row.v e (option_or (cond (line_of op == a) (Some y) None) (open_at a own)) (row.v == a) refl row.idle gone.1
      (opened_grants grants_ownership (line_of op) y (open_at a own) (line_of op == a) refl row.quiet none.1 refl))
      (λ here.
      let same = eqb-true row.v a here in
      let none_open : open_at a own ≡ None = ap (λ x. open_at x own) (sym same) ∙ closed row.v row.idle in
      (flag_up _ (subst (λ x. is_writable setup x own ≡ true) same row.writable), ap (granted_so grants_shared ndr) none_open, ap (granted_so grants_ownership ndr) none_open))

  -- a line's numbers are kept by an operation
  pub operation_line : (s i : ℕ) (op : Op) (w : Emission) (sends : Sends) (commit : Option Commit) → OperationRow setup h s i op own w sends commit → sends ≡ w.sends → commit ≡ w.commit → Next s i op sends commit
  operation_line s i op w sends commit (RowHits hit) sent committed = hit_line s i op w sends commit hit sent committed
  operation_line s i op w sends commit (RowAlone row) sent committed = alone_line s i op w sends commit row
  operation_line s i op w sends commit (RowEvicts row) sent committed = evicting_line s i op sends commit row
