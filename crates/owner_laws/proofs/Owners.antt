-- Each message of Req, RwD, NDR and DRS under way belongs to something that is open at its host, to the write-back or to a conflict.
use Rattle.std.proofs.Common.{◌≡◌, ℕ, ◌+◌, ◌≤◌, Bool, true, false, IsTrue, List, [], ◌∷◌, ◌++◌, Option, Some, None, cond, count_by, refl, sym, ◌∙◌, ap, arith, ◌⊎◌, inl, inr}
use Rattle.std.specs.Prelude.{not, ◌&&◌, ◌==◌}
use Rattle.std.specs.List.{list_all}
use Rattle.std.proofs.lemmas.Bool.{and_from, and_parts, eq-eqb, eqb-true}
use Rattle.std.proofs.lemmas.List.Folds.{list_all-append}
use Rattle.std.proofs.lemmas.Option.{same_Some}
use Rattle.cxl_message.specs.declared.channels.Channel.{Channel}
use Rattle.cxl_message.specs.declared.events.Event.{Event}
use Rattle.cxl_message.specs.declared.identifiers.Bytes64.{Bytes64}
use Rattle.cxl_message.specs.declared.identifiers.Line.{Line}
use Rattle.cxl_message.specs.declared.identifiers.Tag.{Tag}
use Rattle.cxl_message.specs.declared.messages.Message.{Message}
use Rattle.cxl_message.specs.declared.opcodes.Meta.{Meta}
use Rattle.cxl_message.specs.declared.opcodes.NdrOp.{NdrOp}
use Rattle.cxl_message.specs.declared.opcodes.ReqOp.{ReqOp}
use Rattle.cxl_message.specs.declared.opcodes.SnpType.{SnpType}
use Rattle.cxl_message.specs.Codes.{channel_eq}
use Rattle.cxl_message.specs.Messages.{acknowledges, channel_of, has_tag}
use Rattle.cxl_message.specs.Setup.{Configuration, IsWithinLimits}
use Rattle.coherence_model.specs.Buffers.{buffered_requests, buffered_writes}
use Rattle.coherence_model.specs.Fitting.{is_device, is_host, take_fits}
use Rattle.coherence_model.specs.Flight.{in_flight}
use Rattle.coherence_model.specs.OwnerFacts.{has_conflict_line, has_owner, has_write_back_line, is_open_so, is_written_back, is_writing, messages_have_owners, ndr_has_owner}
use Rattle.coherence_model.specs.RequestFacts.{grants, is_ndr_with, kind_eq, requests_under_way, writes_under_way}
use Rattle.coherence_model.specs.Runs.{IsRun}
use Rattle.coherence_model.specs.Snoops.{is_snooped}
use Rattle.coherence_model.specs.Stages.{stage}
use Rattle.coherence_model.specs.Tags.{is_conflict_open, is_conflict_with, open_with, tagged_line}
use Rattle.coherence_model.specs.Traces.{device, events_of}
use Rattle.coherence_model.specs.Transactions.{Kind, Transaction, is_read, is_request, open_at, request_kind}
use Rattle.coherence_model.specs.WriteBacks.{completes, is_write_back_open}
use Rattle.cxl_message.proofs.SameNames.{channel_eq-same}
use Rattle.entry_laws.proofs.Laws.{buffered_messages_fit}
use Rattle.request_laws.proofs.AllConflicts.{conflicts_counted}
use Rattle.request_laws.proofs.AllPlaces.{PlacedAfter, placed}
use Rattle.request_laws.proofs.Balances.{Balanced, BalancedAs, balance_of, here}
use Rattle.request_laws.proofs.HostFacts.{conflicts_have_lines, write_backs_have_lines, writing_lines}
use Rattle.request_laws.proofs.HostPlaces.{Tagged, nothing_has, tagged}
use Rattle.request_laws.proofs.OpenLines.{open_leads_back}
use Rattle.coherence_model.proofs.OwnRuns.{events_of_run}
use Rattle.request_laws.proofs.OwnRuns.{host_is_no_device}
use Rattle.request_laws.proofs.Places.{FitsRequest, FitsWrite, OwnRequest, OwnWrite, is_write_of, write_back_at}
use Rattle.coherence_model.specs.OwnRuns.{is_own_run}
use Rattle.snoop_laws.proofs.Counts.{Among, among_counts, among_either}
use Rattle.listing_laws.proofs.UnderWay.{each_at}
use Rattle.listing_laws.proofs.WriteBackLines.{Back, backs_seen}
use Rattle.progress_laws.proofs.Messages.{IsOf, flying_of}
use Rattle.progress_laws.proofs.Room.{no_credit_on}

-- ---- whose a message of a tag is, by the places of the tag

-- something of such a kind is open
abbrev pub IsKind : (Kind → Bool) → Option Transaction → Type 0
IsKind p o = (x : Transaction) × (o ≡ Some x) × (p x.kind ≡ true)

-- with a Cmp in flight what is open is an eviction
completed_kind : (k : Kind) (b g y r w nc ng d n : ℕ) → BalancedAs k b g y r w nc ng d n → 1 ≤ nc → not (is_request k) ≡ true
completed_kind Kind.ReadShared b g y r w nc ng d n h some = absurd (omega arith)
completed_kind Kind.ReadAny b g y r w nc ng d n h some = absurd (omega arith)
completed_kind Kind.Invalidate b g y r w nc ng d n h some = absurd (omega arith)
completed_kind Kind.CleanEviction b g y r w nc ng d n h some = refl
completed_kind Kind.DirtyEviction b g y r w nc ng d n h some = refl

-- with a grant in flight it is a request
granted_kind : (k : Kind) (b g y r w nc ng d n : ℕ) → BalancedAs k b g y r w nc ng d n → 1 ≤ ng → is_request k ≡ true
granted_kind Kind.ReadShared b g y r w nc ng d n h some = refl
granted_kind Kind.ReadAny b g y r w nc ng d n h some = refl
granted_kind Kind.Invalidate b g y r w nc ng d n h some = refl
granted_kind Kind.CleanEviction b g y r w nc ng d n h some = absurd (omega arith)
granted_kind Kind.DirtyEviction b g y r w nc ng d n h some = absurd (omega arith)

-- with MemData in flight it is a read
data_kind : (k : Kind) (b g y r w nc ng d n : ℕ) → BalancedAs k b g y r w nc ng d n → 1 ≤ d → is_read k ≡ true
data_kind Kind.ReadShared b g y r w nc ng d n h some = refl
data_kind Kind.ReadAny b g y r w nc ng d n h some = refl
data_kind Kind.Invalidate b g y r w nc ng d n h some = absurd (omega arith)
data_kind Kind.CleanEviction b g y r w nc ng d n h some = absurd (omega arith)
data_kind Kind.DirtyEviction b g y r w nc ng d n h some = absurd (omega arith)

-- with a MemWr under way it is a dirty eviction
write_kind : (k : Kind) (b g y r w nc ng d n : ℕ) → BalancedAs k b g y r w nc ng d n → 1 ≤ w → kind_eq Kind.DirtyEviction k ≡ true
write_kind Kind.ReadShared b g y r w nc ng d n h some = absurd (omega arith)
write_kind Kind.ReadAny b g y r w nc ng d n h some = absurd (omega arith)
write_kind Kind.Invalidate b g y r w nc ng d n h some = absurd (omega arith)
write_kind Kind.CleanEviction b g y r w nc ng d n h some = absurd (omega arith)
write_kind Kind.DirtyEviction b g y r w nc ng d n h some = refl

-- a Cmp whose tag isn't the write-back tag is that of an eviction
completed_open : (o : Option Transaction) (b r w nc ng d k : ℕ) → Balanced o b r w nc ng d k → b ≡ 0 → 1 ≤ nc → IsKind (λ k. not (is_request k)) o
completed_open None b r w nc ng d k h none some = absurd (omega arith)
completed_open (Some o) b r w nc ng d k h none some = (o, refl, completed_kind o.kind b (here o.grant) (here o.bytes) r w nc ng d k h some)

-- a grant is that of a request
granted_open : (o : Option Transaction) (b r w nc ng d k : ℕ) → Balanced o b r w nc ng d k → 1 ≤ ng → IsKind is_request o
granted_open None b r w nc ng d k h some = absurd (omega arith)
granted_open (Some o) b r w nc ng d k h some = (o, refl, granted_kind o.kind b (here o.grant) (here o.bytes) r w nc ng d k h some)

-- MemData is that of a read
data_open : (o : Option Transaction) (b r w nc ng d k : ℕ) → Balanced o b r w nc ng d k → 1 ≤ d → IsKind is_read o
data_open None b r w nc ng d k h some = absurd (omega arith)
data_open (Some o) b r w nc ng d k h some = (o, refl, data_kind o.kind b (here o.grant) (here o.bytes) r w nc ng d k h some)

-- a MemWr whose tag isn't the write-back tag is that of a dirty eviction
write_open : (o : Option Transaction) (b r w nc ng d k : ℕ) → Balanced o b r w nc ng d k → b ≡ 0 → 1 ≤ w → IsKind (kind_eq Kind.DirtyEviction) o
write_open None b r w nc ng d k h none some = absurd (omega arith)
write_open (Some o) b r w nc ng d k h none some = (o, refl, write_kind o.kind b (here o.grant) (here o.bytes) r w nc ng d k h some)

-- a Cmp of the write-back tag is that of a write-back in progress
back_open : (c : Bool) (b r w nc ng d k : ℕ) → Balanced None b r w nc ng d k → b ≡ cond c 1 0 → 1 ≤ nc → c ≡ true
back_open true b r w nc ng d k h is some = refl
back_open false b r w nc ng d k h is some = absurd (omega arith)

-- where a message of a conflict is under way the conflict is open
conflict_up : (c : Bool) (n m k : ℕ) → n + m + k ≡ cond c 1 0 → (1 ≤ n) ⊎ ((1 ≤ m) ⊎ (1 ≤ k)) → c ≡ true
conflict_up true n m k e some = refl
conflict_up false n m k e some = elim some [
  | inl one ↦ absurd (omega arith)
  | inr rest ↦ (elim rest [ inl one ↦ absurd (omega arith) | inr one ↦ absurd (omega arith) ])
]

-- a tag that isn't the write-back tag counts no write-back
no_back : (setup : Configuration) (tag : ℕ) (writing b : Bool) → (tag == setup.tags) ≡ b → b ≡ false → write_back_at setup tag writing ≡ 0
no_back setup tag writing b is other = ap (λ c. cond (c && writing) 1 0) (is ∙ other)

-- a tag's line by another word for its number
named_as : (a : Option ℕ) (l k : ℕ) → a ≡ Some l → (k == l) ≡ true → a ≡ Some k
named_as a l k is same = is ∙ ap Some (sym (eqb-true k l same))

-- ---- lists

-- a test that each message passes
pub all_among : (p : Message → Bool) (ms : List Message) → ((m : Message) → Among m ms → p m ≡ true) → list_all p ms ≡ true
all_among p [] each = refl
all_among p (m ∷ ms) each = and_from (p m) (list_all p ms) (each m (inl refl)) (all_among p ms (λ n there. each n (inr there)))

-- a message passes what all pass
among_all : (p : Message → Bool) (m : Message) (ms : List Message) → list_all p ms ≡ true → Among m ms → p m ≡ true
among_all p m [] all there = absurd there
among_all p m (n ∷ ns) all there =
    let parts = and_parts (p n) (list_all p ns) all in
    elim there [
      | inl same ↦ ap p same ∙ parts.0
      | inr later ↦ among_all p m ns parts.1 later
    ]

-- a message of either list
abbrev pub Under : Message → (fl held : List Message) → Type 0
Under m fl held = Among m fl ⊎ Among m held

module _ (setup : Configuration) (opening : List (Line × Bytes64)) (limits : IsWithinLimits setup) (h : ℕ) (host : IsTrue (is_host setup h)) (t : List Event) (run : IsRun setup opening t) where
  -- the host's own events
  abbrev own : List Event
  own = events_of h t

  -- the device's own events
  abbrev dev : List Event
  dev = events_of device t

  -- the host's own events are such as its rules allow
  own_run : IsTrue (is_own_run setup opening h own)
  own_run = events_of_run setup opening h t run

  -- the host isn't the device
  no_device : is_device h ≡ false
  no_device = host_is_no_device setup limits h host

  -- the places of a tag
  places : (tag : ℕ) → PlacedAfter setup h tag t
  places tag = placed setup opening h tag no_device t run

  -- where something with a tag is open
  at_tag : (tag : ℕ) (x : Transaction) → open_with tag own ≡ Some x → Tagged (λ b. open_at b own) (λ n. tagged_line n own) tag x
  at_tag tag x is = tagged (λ b. open_at b own) (λ n. tagged_line n own) tag x is

  -- what is open with a tag is open so
  open_so : (p : Kind → Bool) (tag : ℕ) → IsKind p (open_with tag own) → is_open_so p tag (open_with tag own) ≡ true
  open_so p tag of = ap (is_open_so p tag) of.1 ∙ and_from (p of.0.kind) (of.0.tag == tag) of.2 (eq-eqb of.0.tag tag (at_tag tag of.0 of.1).tagged)

  -- and at its line
  open_so_at : (p : Kind → Bool) (tag l : ℕ) (x : Transaction) → open_with tag own ≡ Some x → tagged_line tag own ≡ Some l → p x.kind ≡ true → is_open_so p tag (open_at l own) ≡ true
  open_so_at p tag l x is named kind =
      let at = at_tag tag x is in
      ap (λ b. is_open_so p tag (open_at b own)) (same_Some l at.l (sym named ∙ at.named)) ∙ ap (is_open_so p tag) at.there ∙ and_from (p x.kind) (x.tag == tag) kind (eq-eqb x.tag tag at.tagged)

  -- ---- Req

  -- a Req message has its owner
  request_owner : (op : ReqOp) (meta : Meta) (snp : SnpType) (tag : Tag) (line : Line) → Under (Message.Req op meta snp tag line) (in_flight h Channel.Req t) (buffered_requests h dev)
      → has_owner setup own (Message.Req op meta snp tag line) ≡ true
  request_owner op meta snp tag line under =
      let m : Message = Message.Req op meta snp tag line in
      let inv = places tag.0 in
      let mine : has_tag tag.0 m ≡ true = eq-eqb tag.0 tag.0 refl in
      let fits : FitsRequest tag.0 (open_with tag.0 own) (tagged_line tag.0 own) m = elim under [
        | inl flying ↦ each_at (OwnRequest tag.0 (open_with tag.0 own) (tagged_line tag.0 own)) m (in_flight h Channel.Req t) inv.flying_requests flying mine
        | inr held ↦ each_at (OwnRequest tag.0 (open_with tag.0 own) (tagged_line tag.0 own)) m (buffered_requests h dev) inv.held_requests held mine
      ] in
      let two = and_parts (kind_eq (request_kind op meta) fits.x.kind && (line.0 == fits.l)) _ fits.is in
      let one = and_parts (kind_eq (request_kind op meta) fits.x.kind) (line.0 == fits.l) two.0 in
      open_so_at (kind_eq (request_kind op meta)) tag.0 line.0 fits.x fits.there (named_as _ fits.l line.0 fits.at_line one.1) one.0

  -- ---- RwD

  -- a MemWr with the write-back tag belongs to a line that is being written back
  back_owner : (meta : Meta) (snp : SnpType) (tag : Tag) (line : Line) (bytes : Bytes64) → Under (Message.MemWr meta snp tag line bytes) (in_flight h Channel.Rwd t) (buffered_writes h dev)
      → (tag.0 == setup.tags) ≡ true → is_written_back setup line.0 own ≡ true
  back_owner meta snp tag line bytes under same =
      let m : Message = Message.MemWr meta snp tag line bytes in
      let backs = backs_seen setup opening limits h host t run in
      let back : Back setup own m = elim under [
        | inl flying ↦ each_at (Back setup own) m (in_flight h Channel.Rwd t) backs.0 flying
        | inr held ↦ each_at (Back setup own) m (buffered_writes h dev) backs.1 held
      ] in
      let st = back line.0 (and_from (line.0 == line.0) (tag.0 == setup.tags) (eq-eqb line.0 line.0 refl) same) in
      and_from (is_snooped line.0 own) (is_writing (stage setup line.0 own)) (writing_lines setup opening limits h host own own_run line.0 st) (ap is_writing st)

  -- any other belongs to the dirty eviction that is open for its line
  eviction_owner : (meta : Meta) (snp : SnpType) (tag : Tag) (line : Line) (bytes : Bytes64) → Under (Message.MemWr meta snp tag line bytes) (in_flight h Channel.Rwd t) (buffered_writes h dev)
      → (tag.0 == setup.tags) ≡ false → is_open_so (kind_eq Kind.DirtyEviction) tag.0 (open_at line.0 own) ≡ true
  eviction_owner meta snp tag line bytes under other =
      let m : Message = Message.MemWr meta snp tag line bytes in
      let inv = places tag.0 in
      let mine : is_write_of tag.0 m ≡ true = eq-eqb tag.0 tag.0 refl in
      let some : 1 ≤ count_by (is_write_of tag.0) (in_flight h Channel.Rwd t) + count_by (is_write_of tag.0) (buffered_writes h dev) = elim under [
        | inl flying ↦ (let n = among_counts (is_write_of tag.0) m (in_flight h Channel.Rwd t) mine flying in omega arith)
        | inr held ↦ (let n = among_counts (is_write_of tag.0) m (buffered_writes h dev) mine held in omega arith)
      ] in
      let dirty = write_open (open_with tag.0 own) _ _ _ _ _ _ _ inv.balanced (no_back setup tag.0 (is_write_back_open setup own) false other refl) some in
      let fits : FitsWrite tag.0 (tagged_line tag.0 own) m = elim under [
        | inl flying ↦ each_at (OwnWrite tag.0 (open_with tag.0 own) (tagged_line tag.0 own)) m (in_flight h Channel.Rwd t) inv.flying_writes flying mine dirty.0 dirty.1
        | inr held ↦ each_at (OwnWrite tag.0 (open_with tag.0 own) (tagged_line tag.0 own)) m (buffered_writes h dev) inv.held_writes held mine dirty.0 dirty.1
      ] in
      open_so_at (kind_eq Kind.DirtyEviction) tag.0 line.0 dirty.0 dirty.1 (named_as _ fits.l line.0 fits.at_line (and_parts (line.0 == fits.l) _ fits.is).0) dirty.2

  -- a MemWr has its owner
  write_owner : (meta : Meta) (snp : SnpType) (tag : Tag) (line : Line) (bytes : Bytes64) → Under (Message.MemWr meta snp tag line bytes) (in_flight h Channel.Rwd t) (buffered_writes h dev)
      → (b : Bool) → (tag.0 == setup.tags) ≡ b → cond b (is_written_back setup line.0 own) (is_open_so (kind_eq Kind.DirtyEviction) tag.0 (open_at line.0 own)) ≡ true
  write_owner meta snp tag line bytes under true is = back_owner meta snp tag line bytes under is
  write_owner meta snp tag line bytes under false is = eviction_owner meta snp tag line bytes under is

  -- where a message of a conflict is under way some line is Asked with its tag
  conflict_owner : (tag : ℕ) → (1 ≤ count_by (is_conflict_with tag) (in_flight h Channel.Rwd t)) ⊎ ((1 ≤ count_by (is_conflict_with tag) (buffered_writes h dev)) ⊎ (1 ≤ count_by (is_ndr_with acknowledges tag) (in_flight h Channel.Ndr t)))
      → has_conflict_line setup tag own ≡ true
  conflict_owner tag some =
      sym (conflicts_have_lines setup opening limits h host own own_run tag)
      ∙ conflict_up (is_conflict_open tag own) _ _ _ (conflicts_counted setup opening h tag no_device t run) some

  -- a BIConflict has its owner
  declared_owner : (tag : Tag) → Under (Message.BiConflict tag) (in_flight h Channel.Rwd t) (buffered_writes h dev) → has_conflict_line setup tag.0 own ≡ true
  declared_owner tag under = conflict_owner tag.0 (elim under [
    | inl flying ↦ inl (among_counts (is_conflict_with tag.0) (Message.BiConflict tag) (in_flight h Channel.Rwd t) (eq-eqb tag.0 tag.0 refl) flying)
    | inr held ↦ inr (inl (among_counts (is_conflict_with tag.0) (Message.BiConflict tag) (buffered_writes h dev) (eq-eqb tag.0 tag.0 refl) held))
  ])

  -- ---- NDR and DRS

  -- a Cmp has its owner
  completion_owner : (tag : ℕ) → 1 ≤ count_by (is_ndr_with completes tag) (in_flight h Channel.Ndr t) → (b : Bool) → (tag == setup.tags) ≡ b
      → cond b (has_write_back_line setup own) (is_open_so (λ k. not (is_request k)) tag (open_with tag own)) ≡ true
  completion_owner tag some true is =
      let none : open_with tag own ≡ None =
      nothing_has setup own (open_leads_back setup opening h no_device own own_run) (open_with tag own) (ap (λ n. open_with n own) (sym (eqb-true tag setup.tags is))) in
      sym (write_backs_have_lines setup opening limits h host own own_run)
      ∙ back_open (is_write_back_open setup own) _ _ _ _ _ _ _ (balance_of (open_with tag own) None none _ _ _ _ _ _ _ (places tag).balanced) (ap (λ b. cond (b && is_write_back_open setup own) 1 0) is) some
  completion_owner tag some false is =
      open_so (λ k. not (is_request k)) tag (completed_open (open_with tag own) _ _ _ _ _ _ _ (places tag).balanced (no_back setup tag (is_write_back_open setup own) false is refl) some)

  -- a grant has its owner
  grant_owner : (tag : ℕ) → 1 ≤ count_by (is_ndr_with grants tag) (in_flight h Channel.Ndr t) → is_open_so is_request tag (open_with tag own) ≡ true
  grant_owner tag some = open_so is_request tag (granted_open (open_with tag own) _ _ _ _ _ _ _ (places tag).balanced some)

  -- an NDR message has its owner
  ndr_owner : (op : NdrOp) (tag : Tag) → Among (Message.Ndr op tag) (in_flight h Channel.Ndr t) → ndr_has_owner setup own op tag.0 ≡ true
  ndr_owner NdrOp.Cmp tag there =
      completion_owner tag.0 (among_counts (is_ndr_with completes tag.0) (Message.Ndr NdrOp.Cmp tag) (in_flight h Channel.Ndr t) (eq-eqb tag.0 tag.0 refl) there) (tag.0 == setup.tags) refl
  ndr_owner NdrOp.CmpS tag there = grant_owner tag.0 (among_counts (is_ndr_with grants tag.0) (Message.Ndr NdrOp.CmpS tag) (in_flight h Channel.Ndr t) (eq-eqb tag.0 tag.0 refl) there)
  ndr_owner NdrOp.CmpE tag there = grant_owner tag.0 (among_counts (is_ndr_with grants tag.0) (Message.Ndr NdrOp.CmpE tag) (in_flight h Channel.Ndr t) (eq-eqb tag.0 tag.0 refl) there)
  ndr_owner NdrOp.ConflictAck tag there =
      conflict_owner tag.0 (inr (inr (among_counts (is_ndr_with acknowledges tag.0) (Message.Ndr NdrOp.ConflictAck tag) (in_flight h Channel.Ndr t) (eq-eqb tag.0 tag.0 refl) there)))

  -- MemData has its owner
  data_owner : (tag : Tag) (bytes : Bytes64) → Among (Message.MemData tag bytes) (in_flight h Channel.Drs t) → is_open_so is_read tag.0 (open_with tag.0 own) ≡ true
  data_owner tag bytes there =
      open_so is_read tag.0 (data_open (open_with tag.0 own) _ _ _ _ _ _ _ (places tag.0).balanced
      (among_counts (has_tag tag.0) (Message.MemData tag bytes) (in_flight h Channel.Drs t) (eq-eqb tag.0 tag.0 refl) there))

  -- ---- channel by channel

  -- each message of Req under way has its owner
  on_req : (m : Message) → channel_of m ≡ Channel.Req → Under m (in_flight h Channel.Req t) (buffered_requests h dev) → has_owner setup own m ≡ true
  on_req (Message.Req op meta snp tag line) of under = request_owner op meta snp tag line under
  on_req (Message.MemWr meta snp tag line bytes) of under = cc
  on_req (Message.BiConflict tag) of under = cc
  on_req (Message.BiRsp op bitag low) of under = cc
  on_req (Message.Ndr op tag) of under = cc
  on_req (Message.MemData tag bytes) of under = cc
  on_req (Message.BiSnp op bitag line span) of under = cc
  on_req (Message.Credit c) of under = absurd (no_credit_on c Channel.Req refl of)

  -- each message of RwD under way has its owner
  on_rwd : (m : Message) → channel_of m ≡ Channel.Rwd → Under m (in_flight h Channel.Rwd t) (buffered_writes h dev) → has_owner setup own m ≡ true
  on_rwd (Message.Req op meta snp tag line) of under = cc
  on_rwd (Message.MemWr meta snp tag line bytes) of under = write_owner meta snp tag line bytes under (tag.0 == setup.tags) refl
  on_rwd (Message.BiConflict tag) of under = declared_owner tag under
  on_rwd (Message.BiRsp op bitag low) of under = cc
  on_rwd (Message.Ndr op tag) of under = cc
  on_rwd (Message.MemData tag bytes) of under = cc
  on_rwd (Message.BiSnp op bitag line span) of under = cc
  on_rwd (Message.Credit c) of under = absurd (no_credit_on c Channel.Rwd refl of)

  -- each NDR message in flight has its owner
  on_ndr : (m : Message) → channel_of m ≡ Channel.Ndr → Among m (in_flight h Channel.Ndr t) → has_owner setup own m ≡ true
  on_ndr (Message.Req op meta snp tag line) of there = cc
  on_ndr (Message.MemWr meta snp tag line bytes) of there = cc
  on_ndr (Message.BiConflict tag) of there = cc
  on_ndr (Message.BiRsp op bitag low) of there = cc
  on_ndr (Message.Ndr op tag) of there = ndr_owner op tag there
  on_ndr (Message.MemData tag bytes) of there = cc
  on_ndr (Message.BiSnp op bitag line span) of there = cc
  on_ndr (Message.Credit c) of there = absurd (no_credit_on c Channel.Ndr refl of)

  -- each DRS message in flight has its owner
  on_drs : (m : Message) → channel_of m ≡ Channel.Drs → Among m (in_flight h Channel.Drs t) → has_owner setup own m ≡ true
  on_drs (Message.Req op meta snp tag line) of there = cc
  on_drs (Message.MemWr meta snp tag line bytes) of there = cc
  on_drs (Message.BiConflict tag) of there = cc
  on_drs (Message.BiRsp op bitag low) of there = cc
  on_drs (Message.Ndr op tag) of there = cc
  on_drs (Message.MemData tag bytes) of there = data_owner tag bytes there
  on_drs (Message.BiSnp op bitag line span) of there = cc
  on_drs (Message.Credit c) of there = absurd (no_credit_on c Channel.Drs refl of)

  -- the channel of a message in flight
  flying : (c : Channel) (m : Message) → Among m (in_flight h c t) → channel_of m ≡ c
  flying c m there = (each_at (IsOf c) m (in_flight h c t) (flying_of setup opening h c t run) there).channel

  -- and of one that was taken
  held : (c : Channel) (m : Message) (ms : List Message) → list_all (λ x. take_fits setup device h x && channel_eq (channel_of x) c) ms ≡ true → Among m ms → channel_of m ≡ c
  held c m ms all there =
      channel_eq-same (channel_of m) c (and_parts (take_fits setup device h m) (channel_eq (channel_of m) c) (among_all (λ x. take_fits setup device h x && channel_eq (channel_of x) c) m ms all there)).1

  -- the messages under way on a channel
  all_under : (fl held : List Message) → ((m : Message) → Under m fl held → has_owner setup own m ≡ true) → list_all (has_owner setup own) (fl ++ held) ≡ true
  all_under fl held each = all_among (has_owner setup own) (fl ++ held) (λ m there. each m (among_either m fl held there))

  -- each message of Req under way has its owner, all together
  requests_owned : list_all (has_owner setup own) (requests_under_way h t) ≡ true
  requests_owned = all_under (in_flight h Channel.Req t) (buffered_requests h dev) (λ m under. on_req m (elim under [
    | inl there ↦ flying Channel.Req m there
    | inr there ↦ held Channel.Req m (buffered_requests h dev) (buffered_messages_fit setup opening (events_of device t) (events_of_run setup opening device t run) h).0 there
  ]) under)

  -- each of RwD
  writes_owned : list_all (has_owner setup own) (writes_under_way h t) ≡ true
  writes_owned = all_under (in_flight h Channel.Rwd t) (buffered_writes h dev) (λ m under. on_rwd m (elim under [
    | inl there ↦ flying Channel.Rwd m there
    | inr there ↦ held Channel.Rwd m (buffered_writes h dev) (buffered_messages_fit setup opening (events_of device t) (events_of_run setup opening device t run) h).1 there
  ]) under)

  -- each of NDR
  ndr_owned : list_all (has_owner setup own) (in_flight h Channel.Ndr t) ≡ true
  ndr_owned = all_among (has_owner setup own) (in_flight h Channel.Ndr t) (λ m there. on_ndr m (flying Channel.Ndr m there) there)

  -- each of DRS
  drs_owned : list_all (has_owner setup own) (in_flight h Channel.Drs t) ≡ true
  drs_owned = all_among (has_owner setup own) (in_flight h Channel.Drs t) (λ m there. on_drs m (flying Channel.Drs m there) there)

  -- all that hold of joined lists
  joined : (xs ys : List Message) → list_all (has_owner setup own) xs ≡ true → list_all (has_owner setup own) ys ≡ true → list_all (has_owner setup own) (xs ++ ys) ≡ true
  joined xs ys first second = list_all-append (has_owner setup own) xs ys ∙ and_from (list_all (has_owner setup own) xs) (list_all (has_owner setup own) ys) first second

  -- each message under way has its owner
  pub messages_owned : messages_have_owners setup t h ≡ true
  messages_owned =
      joined (requests_under_way h t ++ writes_under_way h t ++ in_flight h Channel.Ndr t) (in_flight h Channel.Drs t)
      (joined (requests_under_way h t ++ writes_under_way h t) (in_flight h Channel.Ndr t) (joined (requests_under_way h t) (writes_under_way h t) requests_owned writes_owned) ndr_owned) drs_owned
