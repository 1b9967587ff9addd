-- Whose each eviction and each grant under way is, after every run: that of what is open for the line, or of a line at stage Writing.
use Rattle.std.proofs.Common.{◌≡◌, ℕ, ◌+◌, ◌≤◌, Bool, true, false, IsTrue, List, [], ◌∷◌, Option, Some, None, cond, count_by, refl, sym, ◌∙◌, ap, arith, ◌⊎◌, inl, inr}
use Rattle.std.specs.Prelude.{not, ◌==◌, ◌&&◌}
use Rattle.std.specs.Option.{option_map_or}
use Rattle.std.proofs.lemmas.Bool.{and_from, and_parts, eq-eqb, eqb-true, false≢true, false_from_ne_true, not-true}
use Rattle.std.proofs.lemmas.Option.{same_Some}
use Rattle.cxl_message.specs.declared.channels.Channel.{Channel}
use Rattle.cxl_message.specs.declared.events.Event.{Event}
use Rattle.cxl_message.specs.declared.identifiers.Bytes64.{Bytes64}
use Rattle.cxl_message.specs.declared.identifiers.Line.{Line}
use Rattle.cxl_message.specs.declared.messages.Message.{Message}
use Rattle.cxl_message.specs.declared.identifiers.Tag.{Tag}
use Rattle.cxl_message.specs.declared.opcodes.Meta.{Meta}
use Rattle.cxl_message.specs.declared.opcodes.NdrOp.{NdrOp}
use Rattle.cxl_message.specs.declared.opcodes.SnpType.{SnpType}
use Rattle.cxl_message.specs.Messages.{has_tag}
use Rattle.cxl_message.specs.Setup.{Configuration, IsWithinLimits}
use Rattle.coherence_model.specs.Buffers.{buffered_requests, buffered_writes}
use Rattle.coherence_model.specs.Copies.{asks_for_grant}
use Rattle.coherence_model.specs.DirectoryChanges.{directory}
use Rattle.coherence_model.specs.Fitting.{is_host}
use Rattle.coherence_model.specs.Flight.{in_flight}
use Rattle.coherence_model.specs.HostTakes.{may_grant}
use Rattle.coherence_model.specs.ListingFacts.{grants_ownership}
use Rattle.coherence_model.specs.RequestFacts.{grants, is_ndr_with, kind_eq}
use Rattle.coherence_model.specs.Runs.{IsRun}
use Rattle.coherence_model.specs.Stages.{Stage, stage}
use Rattle.coherence_model.specs.Tags.{open_with, tagged_line}
use Rattle.coherence_model.specs.Traces.{device, events_of}
use Rattle.coherence_model.specs.Transactions.{Kind, Transaction, is_request, open_at, request_kind}
use Rattle.coherence_model.specs.WriteBacks.{completes, is_write_back_open}
use Rattle.coherence_model.specs.Words.{one_if}
use Rattle.request_laws.proofs.AllPlaces.{PlacedAfter, placed}
use Rattle.request_laws.proofs.Balances.{Balanced, BalancedAs, balance_as, balance_of, here}
use Rattle.request_laws.proofs.Counts.{count_by-cons}
use Rattle.request_laws.proofs.HostPlaces.{tagged}
use Rattle.request_laws.proofs.OpenLines.{open_leads_back, tagged_found}
use Rattle.coherence_model.proofs.OwnRuns.{events_of_run}
use Rattle.request_laws.proofs.OwnRuns.{host_is_no_device}
use Rattle.request_laws.proofs.Places.{FitsRequest, FitsWrite, OwnRequest, OwnWrite, is_write_of, task_at, write_back_at}
use Rattle.request_laws.proofs.RequestKinds.{clean_kind, kind_same}
use Rattle.snoop_laws.proofs.Counts.{Among, among_counts}
use Rattle.listing_laws.proofs.Fits.{FitsLine, open_lines_fit}
use Rattle.listing_laws.proofs.UnderWay.{counted, each_at}
use Rattle.listing_laws.proofs.WriteBackLines.{Back, backs_seen, cleans_line, writes_line}

-- something of a kind is open for line a
pub record OpenAs (own : List Event) (a : ℕ) (k : Kind) : Type 0 where
  pub x : Transaction
  pub there : open_at a own ≡ Some x
  pub kind : x.kind ≡ k

-- a MemWr under way whose tag isn't the write-back tag's is that of an open eviction
dirty_kind : (k : Kind) (b g y r w nc ng d t : ℕ) → BalancedAs k b g y r w nc ng d t → 1 ≤ w → k ≡ Kind.DirtyEviction
dirty_kind Kind.ReadShared b g y r w nc ng d t h some = absurd (omega arith)
dirty_kind Kind.ReadAny b g y r w nc ng d t h some = absurd (omega arith)
dirty_kind Kind.Invalidate b g y r w nc ng d t h some = absurd (omega arith)
dirty_kind Kind.CleanEviction b g y r w nc ng d t h some = absurd (omega arith)
dirty_kind Kind.DirtyEviction b g y r w nc ng d t h some = refl

-- a MemWr that is no write back has an open dirty eviction
dirty_open : (o : Option Transaction) (b r w nc ng d t : ℕ) → Balanced o b r w nc ng d t → b ≡ 0 → 1 ≤ w → (x : Transaction) × (o ≡ Some x) × (x.kind ≡ Kind.DirtyEviction)
dirty_open None b r w nc ng d t h none some = absurd (omega arith)
dirty_open (Some x) b r w nc ng d t h none some = (x, refl, dirty_kind x.kind b (here x.grant) (here x.bytes) r w nc ng d t h some)

-- a tag of a transaction is no write back's
no_back : (setup : Configuration) (tag : ℕ) (writing b : Bool) → (tag == setup.tags) ≡ b → b ≡ false → write_back_at setup tag writing ≡ 0
no_back setup tag writing b is other = ap (λ c. cond (c && writing) 1 0) (is ∙ other)

-- what isn't at least 1 is none
zero_from : (n : ℕ) → (1 ≤ n → ⊥) → n ≡ 0
zero_from n none = by n none
  where
    by : (n : ℕ) → (1 ≤ n → ⊥) → n ≡ 0
    by n none = grind (arith, none)

-- one of two that add up to at least 1
one_or_other : (n m : ℕ) → 1 ≤ n + m → (1 ≤ n) ⊎ (1 ≤ m)
one_or_other n m h = grind arith

-- whether an NDR opcode is Cmp-S
abbrev pub grants_shared : NdrOp → Bool
grants_shared NdrOp.Cmp = false
grants_shared NdrOp.CmpS = true
grants_shared NdrOp.CmpE = false
grants_shared NdrOp.ConflictAck = false

-- how many grants of such an opcode what is open has: in flight, or taken
abbrev pub granted_so : (NdrOp → Bool) → List Message → Option Transaction → ℕ
granted_so p ndr o = option_map_or (λ (o : Transaction). count_by (is_ndr_with p o.tag) ndr + one_if (option_map_or p o.grant false)) o 0

-- a message counts as one kind or the other
split_step : (b c d : Bool) (n m k : ℕ) → n + m ≡ k → (cond b 1 0 + cond c 1 0 ≡ cond {A = ℕ} d 1 0) → (cond b 1 0 + n) + (cond c 1 0 + m) ≡ cond d 1 0 + k
split_step b c d n m k e f = omega arith

-- a grant is Cmp-S or Cmp-E
split_ndr : (op : NdrOp) (same : Bool) → cond (grants_shared op && same) 1 0 + cond (grants_ownership op && same) 1 0 ≡ cond {A = ℕ} (grants op && same) 1 0
split_ndr NdrOp.Cmp same = refl
split_ndr NdrOp.CmpS same = by same
  where
    by : (b : Bool) → cond b 1 0 + 0 ≡ cond {A = ℕ} b 1 0
    by true = refl
    by false = refl
split_ndr NdrOp.CmpE same = by same
  where
    by : (b : Bool) → 0 + cond b 1 0 ≡ cond {A = ℕ} b 1 0
    by true = refl
    by false = refl
split_ndr NdrOp.ConflictAck same = refl

-- a message that grants is Cmp-S or Cmp-E
split_message : (tag : ℕ) (m : Message) → cond (is_ndr_with grants_shared tag m) 1 0 + cond (is_ndr_with grants_ownership tag m) 1 0 ≡ cond {A = ℕ} (is_ndr_with grants tag m) 1 0
split_message tag (Message.Req _ _ _ _ _) = refl
split_message tag (Message.MemWr _ _ _ _ _) = refl
split_message tag (Message.BiConflict _) = refl
split_message tag (Message.BiRsp _ _ _) = refl
split_message tag (Message.Ndr op t) = split_ndr op (t.0 == tag)
split_message tag (Message.MemData _ _) = refl
split_message tag (Message.BiSnp _ _ _ _) = refl
split_message tag (Message.Credit _) = refl

-- the grants in flight are Cmp-S and Cmp-E
pub split_grants : (tag : ℕ) (ms : List Message) → count_by (is_ndr_with grants_shared tag) ms + count_by (is_ndr_with grants_ownership tag) ms ≡ count_by (is_ndr_with grants tag) ms
split_grants tag [] = refl
split_grants tag (m ∷ ms) =
    let s = count_by-cons (is_ndr_with grants_shared tag) m ms in
    let g = count_by-cons (is_ndr_with grants_ownership tag) m ms in
    let both = count_by-cons (is_ndr_with grants tag) m ms in
    let rest = split_grants tag ms in
    let one = split_message tag m in
    omega arith

-- a taken grant is one at most
taken_grants : (o : Option NdrOp) → one_if (option_map_or grants_shared o false) + one_if (option_map_or grants_ownership o false) ≤ here o
taken_grants None = omega arith
taken_grants (Some NdrOp.Cmp) = omega arith
taken_grants (Some NdrOp.CmpS) = omega arith
taken_grants (Some NdrOp.CmpE) = omega arith
taken_grants (Some NdrOp.ConflictAck) = omega arith

-- a request has one grant at most, and none while its task stands; anything else has none
few_by : (k : Kind) (b g y r w nc ng d t n : ℕ) → BalancedAs k b g y r w nc ng d t → (is_request k ≡ false → g ≡ 0) → n ≤ ng + g → n + t ≤ 1
few_by Kind.ReadShared b g y r w nc ng d t n h none less = omega arith
few_by Kind.ReadAny b g y r w nc ng d t n h none less = omega arith
few_by Kind.Invalidate b g y r w nc ng d t n h none less = omega arith
few_by Kind.CleanEviction b g y r w nc ng d t n h none less = let zero = none refl in omega arith
few_by Kind.DirtyEviction b g y r w nc ng d t n h none less = let zero = none refl in omega arith

-- what isn't a request has no grants
none_by : (k : Kind) (b g y r w nc ng d t n : ℕ) → BalancedAs k b g y r w nc ng d t → (is_request k ≡ false → g ≡ 0) → n ≤ ng + g → is_request k ≡ false → n ≡ 0
none_by Kind.ReadShared b g y r w nc ng d t n h none less other = absurd (false≢true (sym other))
none_by Kind.ReadAny b g y r w nc ng d t n h none less other = absurd (false≢true (sym other))
none_by Kind.Invalidate b g y r w nc ng d t n h none less other = absurd (false≢true (sym other))
none_by Kind.CleanEviction b g y r w nc ng d t n h none less other = let zero = none refl in omega arith
none_by Kind.DirtyEviction b g y r w nc ng d t n h none less other = let zero = none refl in omega arith

-- what may be granted is a request
not_granted : (c : NdrOp) (k : Kind) → may_grant c k ≡ true → is_request k ≡ false → ⊥
not_granted NdrOp.Cmp k may other = false≢true may
not_granted NdrOp.CmpS Kind.ReadShared may other = false≢true (sym other)
not_granted NdrOp.CmpS Kind.ReadAny may other = false≢true may
not_granted NdrOp.CmpS Kind.Invalidate may other = false≢true may
not_granted NdrOp.CmpS Kind.CleanEviction may other = false≢true may
not_granted NdrOp.CmpS Kind.DirtyEviction may other = false≢true may
not_granted NdrOp.CmpE k may other = false≢true (sym other ∙ may)
not_granted NdrOp.ConflictAck k may other = false≢true may

module _ (setup : Configuration) (opening : List (Line × Bytes64)) (limits : IsWithinLimits setup) (h : ℕ) (host : IsTrue (is_host setup h)) (t : List Event) (run : IsRun setup opening t) where
  -- the host's own events
  abbrev own : List Event
  own = events_of h t

  -- the device's own events
  abbrev dev : List Event
  dev = events_of device t

  -- a message of either list
  abbrev Under : Message → (fl held : List Message) → Type 0
  Under m fl held = Among m fl ⊎ Among m held

  -- what is open with a tag is open for the tag's line
  at_line : (tag a : ℕ) (x : Transaction) → open_with tag own ≡ Some x → tagged_line tag own ≡ Some a → open_at a own ≡ Some x
  at_line tag a x is named =
      let at = tagged (λ b. open_at b own) (λ n. tagged_line n own) tag x is in
      ap (λ b. open_at b own) (same_Some a at.l (sym named ∙ at.named)) ∙ at.there

  -- a MemWr with the write-back tag is of a line at stage Writing
  back_owner : (a : ℕ) (meta : Meta) (snp : SnpType) (tag : Tag) (line : Line) (bytes : Bytes64) → Under (Message.MemWr meta snp tag line bytes) (in_flight h Channel.Rwd t) (buffered_writes h dev)
      → (line.0 == a) ≡ true → (tag.0 == setup.tags) ≡ true → stage setup a own ≡ Stage.Writing
  back_owner a meta snp tag line bytes under is same =
      let backs = backs_seen setup opening limits h host t run in
      let back : Back setup own (Message.MemWr meta snp tag line bytes) = elim under [
        | inl flying ↦ each_at (Back setup own) (Message.MemWr meta snp tag line bytes) (in_flight h Channel.Rwd t) backs.0 flying
        | inr held ↦ each_at (Back setup own) (Message.MemWr meta snp tag line bytes) (buffered_writes h dev) backs.1 held
      ] in
      back a (and_from _ _ is same)

  -- any other is that of the eviction that is open for its line
  eviction_owner : (a : ℕ) (meta : Meta) (snp : SnpType) (tag : Tag) (line : Line) (bytes : Bytes64) → Under (Message.MemWr meta snp tag line bytes) (in_flight h Channel.Rwd t) (buffered_writes h dev)
      → (line.0 == a) ≡ true → (tag.0 == setup.tags) ≡ false → OpenAs own a Kind.DirtyEviction
  eviction_owner a meta snp tag line bytes under is other =
      let m : Message = Message.MemWr meta snp tag line bytes in
      let inv : PlacedAfter setup h tag.0 t = placed setup opening h tag.0 (host_is_no_device setup limits h host) t run in
      let mine : is_write_of tag.0 m ≡ true = eq-eqb tag.0 tag.0 refl in
      let some : 1 ≤ count_by (is_write_of tag.0) (in_flight h Channel.Rwd t) + count_by (is_write_of tag.0) (buffered_writes h dev) = elim under [
        | inl flying ↦ (let n = among_counts (is_write_of tag.0) m (in_flight h Channel.Rwd t) mine flying in omega arith)
        | inr held ↦ (let n = among_counts (is_write_of tag.0) m (buffered_writes h dev) mine held in omega arith)
      ] in
      let dirty = dirty_open (open_with tag.0 own) _ _ _ _ _ _ _ inv.balanced (no_back setup tag.0 (is_write_back_open setup own) false other refl) some in
      let fits : FitsWrite tag.0 (tagged_line tag.0 own) m = elim under [
        | inl flying ↦ each_at (OwnWrite tag.0 (open_with tag.0 own) (tagged_line tag.0 own)) m (in_flight h Channel.Rwd t) inv.flying_writes flying mine dirty.0 dirty.1
        | inr held ↦ each_at (OwnWrite tag.0 (open_with tag.0 own) (tagged_line tag.0 own)) m (buffered_writes h dev) inv.held_writes held mine dirty.0 dirty.1
      ] in
      let line_is : fits.l ≡ a = sym (eqb-true line.0 fits.l (and_parts (line.0 == fits.l) _ fits.is).0) ∙ eqb-true line.0 a is in
      record { x = dirty.0; there = at_line tag.0 a dirty.0 dirty.1 (fits.at_line ∙ ap Some line_is); kind = dirty.2 }

  -- the owner of a MemWr under way, by its tag
  write_by : (a : ℕ) (meta : Meta) (snp : SnpType) (tag : Tag) (line : Line) (bytes : Bytes64) → Under (Message.MemWr meta snp tag line bytes) (in_flight h Channel.Rwd t) (buffered_writes h dev)
      → (line.0 == a) ≡ true → (b : Bool) → (tag.0 == setup.tags) ≡ b → (stage setup a own ≡ Stage.Writing) ⊎ OpenAs own a Kind.DirtyEviction
  write_by a meta snp tag line bytes under is true same = inl (back_owner a meta snp tag line bytes under is same)
  write_by a meta snp tag line bytes under is false other = inr (eviction_owner a meta snp tag line bytes under is other)

  -- a MemWr under way is of a line at stage Writing or of an open dirty eviction
  pub write_owner : (a : ℕ) (m : Message) → Under m (in_flight h Channel.Rwd t) (buffered_writes h dev) → writes_line a m ≡ true → (stage setup a own ≡ Stage.Writing) ⊎ OpenAs own a Kind.DirtyEviction
  write_owner a (Message.Req _ _ _ _ _) under is = absurd (false≢true is)
  write_owner a (Message.MemWr meta snp tag line bytes) under is = write_by a meta snp tag line bytes under is (tag.0 == setup.tags) refl
  write_owner a (Message.BiConflict _) under is = absurd (false≢true is)
  write_owner a (Message.BiRsp _ _ _) under is = absurd (false≢true is)
  write_owner a (Message.Ndr _ _) under is = absurd (false≢true is)
  write_owner a (Message.MemData _ _) under is = absurd (false≢true is)
  write_owner a (Message.BiSnp _ _ _ _) under is = absurd (false≢true is)
  write_owner a (Message.Credit _) under is = absurd (false≢true is)

  -- a MemClnEvct is that of the eviction that is open for its line
  pub clean_owner : (a : ℕ) (m : Message) → Under m (in_flight h Channel.Req t) (buffered_requests h dev) → cleans_line a m ≡ true → OpenAs own a Kind.CleanEviction
  clean_owner a (Message.Req op meta snp tag line) under is =
      let m : Message = Message.Req op meta snp tag line in
      let parts = and_parts (not (asks_for_grant op)) (line.0 == a) is in
      let inv : PlacedAfter setup h tag.0 t = placed setup opening h tag.0 (host_is_no_device setup limits h host) t run in
      let mine : has_tag tag.0 m ≡ true = eq-eqb tag.0 tag.0 refl in
      let fits : FitsRequest tag.0 (open_with tag.0 own) (tagged_line tag.0 own) m = elim under [
        | inl flying ↦ each_at (OwnRequest tag.0 (open_with tag.0 own) (tagged_line tag.0 own)) m (in_flight h Channel.Req t) inv.flying_requests flying mine
        | inr held ↦ each_at (OwnRequest tag.0 (open_with tag.0 own) (tagged_line tag.0 own)) m (buffered_requests h dev) inv.held_requests held mine
      ] in
      let two = and_parts (kind_eq (request_kind op meta) fits.x.kind && (line.0 == fits.l)) _ fits.is in
      let one = and_parts (kind_eq (request_kind op meta) fits.x.kind) (line.0 == fits.l) two.0 in
      let line_is : fits.l ≡ a = sym (eqb-true line.0 fits.l one.1) ∙ eqb-true line.0 a parts.1 in
      record {
        x = fits.x;
        there = at_line tag.0 a fits.x fits.there (fits.at_line ∙ ap Some line_is);
        kind = sym (kind_same (request_kind op meta) fits.x.kind one.0) ∙ clean_kind op meta (not-true _ parts.0);
      }
  clean_owner a (Message.MemWr _ _ _ _ _) under is = absurd (false≢true is)
  clean_owner a (Message.BiConflict _) under is = absurd (false≢true is)
  clean_owner a (Message.BiRsp _ _ _) under is = absurd (false≢true is)
  clean_owner a (Message.Ndr _ _) under is = absurd (false≢true is)
  clean_owner a (Message.MemData _ _) under is = absurd (false≢true is)
  clean_owner a (Message.BiSnp _ _ _ _) under is = absurd (false≢true is)
  clean_owner a (Message.Credit _) under is = absurd (false≢true is)

  -- where no line could own it, none is under way
  pub no_write : (a : ℕ) → (stage setup a own ≡ Stage.Writing → ⊥) → (OpenAs own a Kind.DirtyEviction → ⊥)
      → count_by (writes_line a) (in_flight h Channel.Rwd t) + count_by (writes_line a) (buffered_writes h dev) ≡ 0
  no_write a unwritten closed = zero_from _ (λ some. elim (one_or_other _ _ some) [
    | inl flying ↦ (
        let c = counted (writes_line a) (in_flight h Channel.Rwd t) flying in
        elim (write_owner a c.m (inl c.there) c.passes) [ inl st ↦ unwritten st | inr o ↦ closed o ]
        )
    | inr held ↦ (
        let c = counted (writes_line a) (buffered_writes h dev) held in
        elim (write_owner a c.m (inr c.there) c.passes) [ inl st ↦ unwritten st | inr o ↦ closed o ]
        )
  ])

  -- without an open clean eviction no MemClnEvct of the line is under way
  pub no_clean : (a : ℕ) → (OpenAs own a Kind.CleanEviction → ⊥) → count_by (cleans_line a) (in_flight h Channel.Req t) + count_by (cleans_line a) (buffered_requests h dev) ≡ 0
  no_clean a closed = zero_from _ (λ some. elim (one_or_other _ _ some) [
    | inl flying ↦ (let c = counted (cleans_line a) (in_flight h Channel.Req t) flying in closed (clean_owner a c.m (inl c.there) c.passes))
    | inr held ↦ (let c = counted (cleans_line a) (buffered_requests h dev) held in closed (clean_owner a c.m (inr c.there) c.passes))
  ])

  -- ---- grants

  -- an eviction has no grant taken
  ungranted_eviction : (a : ℕ) (o : Transaction) → open_at a own ≡ Some o → is_request o.kind ≡ false → here o.grant ≡ 0
  ungranted_eviction a o there other = by o.grant refl
    where
      fits : FitsLine a o
      fits = open_lines_fit setup opening h (host_is_no_device setup limits h host) own (events_of_run setup opening h t run) a o there

      by : (g : Option NdrOp) → o.grant ≡ g → here g ≡ 0
      by None is = refl
      by (Some c) is = absurd (not_granted c o.kind (fits.granted c is) other)

  -- the places of what is open for a line
  open_balanced : (a : ℕ) (o : Transaction) → open_at a own ≡ Some o
      → BalancedAs o.kind (write_back_at setup o.tag (is_write_back_open setup own)) (here o.grant) (here o.bytes) (count_by (has_tag o.tag) (in_flight h Channel.Req t) + count_by (has_tag o.tag) (buffered_requests h dev))
      (count_by (is_write_of o.tag) (in_flight h Channel.Rwd t) + count_by (is_write_of o.tag) (buffered_writes h dev)) (count_by (is_ndr_with completes o.tag) (in_flight h Channel.Ndr t))
      (count_by (is_ndr_with grants o.tag) (in_flight h Channel.Ndr t)) (count_by (has_tag o.tag) (in_flight h Channel.Drs t)) (task_at h o.tag (directory setup dev).task (Some a))
  open_balanced a o there =
      let agent = host_is_no_device setup limits h host in
      let back = open_leads_back setup opening h agent own (events_of_run setup opening h t run) a o there in
      let found = tagged_found (λ b. open_at b own) (λ n. tagged_line n own) a o there back.back in
      let inv : PlacedAfter setup h o.tag t = placed setup opening h o.tag agent t run in
      balance_as (Some o) refl refl refl refl refl refl (ap (task_at h o.tag (directory setup dev).task) back.back) (balance_of (open_with o.tag own) (Some o) found _ _ _ _ _ _ _ inv.balanced)

  -- the grants of what is open are those of its tag
  grants_of : (o : Transaction) → granted_so grants_shared (in_flight h Channel.Ndr t) (Some o) + granted_so grants_ownership (in_flight h Channel.Ndr t) (Some o) ≤ count_by (is_ndr_with grants o.tag) (in_flight h Channel.Ndr t) + here o.grant
  grants_of o =
      let flying = split_grants o.tag (in_flight h Channel.Ndr t) in
      let taken = taken_grants o.grant in
      omega arith

  -- what is open has one grant at most, and none while its task stands
  pub few_grants : (a : ℕ) (o : Transaction) → open_at a own ≡ Some o
      → granted_so grants_shared (in_flight h Channel.Ndr t) (Some o) + granted_so grants_ownership (in_flight h Channel.Ndr t) (Some o) + task_at h o.tag (directory setup dev).task (Some a) ≤ 1
  few_grants a o there = few_by o.kind _ _ _ _ _ _ _ _ _ _ (open_balanced a o there) (ungranted_eviction a o there) (grants_of o)

  -- what isn't an open request has no grants, by what is open
  no_grants_by : (a : ℕ) (o : Option Transaction) → open_at a own ≡ o → ((x : Transaction) → o ≡ Some x → is_request x.kind ≡ true → ⊥)
      → granted_so grants_shared (in_flight h Channel.Ndr t) o + granted_so grants_ownership (in_flight h Channel.Ndr t) o ≡ 0
  no_grants_by a None is none = refl
  no_grants_by a (Some o) is none =
      none_by o.kind _ _ _ _ _ _ _ _ _ _ (open_balanced a o is) (ungranted_eviction a o is) (grants_of o) (false_from_ne_true _ (none o refl))

  -- where no request is open nothing is granted
  pub no_grants : (a : ℕ) → ((x : Transaction) → open_at a own ≡ Some x → is_request x.kind ≡ true → ⊥)
      → granted_so grants_shared (in_flight h Channel.Ndr t) (open_at a own) + granted_so grants_ownership (in_flight h Channel.Ndr t) (open_at a own) ≡ 0
  no_grants a none = no_grants_by a (open_at a own) refl none
