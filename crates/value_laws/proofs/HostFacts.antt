-- What is known of a line at a host after a run: where its copy is writable, or its request open, no MemWr of it is under way.
use Rattle.std.proofs.Common.{◌≡◌, ℕ, ◌+◌, ◌≤◌, true, false, IsTrue, List, Option, Some, None, cond, count_by, refl, sym, ◌∙◌, ap, arith, ◌⊎◌, inl, inr}
use Rattle.std.specs.Prelude.{is_some, not, ◌==◌, ◌&&◌}
use Rattle.std.specs.Option.{option_map_or}
use Rattle.std.proofs.lemmas.Bool.{and_parts, cond-true, eqb-true, false≢true, not-true, or_cases}
use Rattle.cxl_message.specs.declared.channels.Channel.{Channel}
use Rattle.cxl_message.specs.declared.events.Event.{Event}
use Rattle.cxl_message.specs.declared.identifiers.Bytes64.{Bytes64}
use Rattle.cxl_message.specs.declared.identifiers.Line.{Line}
use Rattle.cxl_message.specs.declared.opcodes.NdrOp.{NdrOp}
use Rattle.cxl_message.specs.Messages.{has_tag}
use Rattle.cxl_message.specs.Setup.{Configuration, IsWithinLimits}
use Rattle.coherence_model.specs.Buffers.{buffered_writes}
use Rattle.coherence_model.specs.Cache.{copy, is_modified, is_writable}
use Rattle.coherence_model.specs.Directory.{is_listed_any}
use Rattle.coherence_model.specs.DirectoryChanges.{directory}
use Rattle.coherence_model.specs.Fitting.{is_device, is_host}
use Rattle.coherence_model.specs.Flight.{in_flight}
use Rattle.coherence_model.specs.HostActs.{is_ready}
use Rattle.coherence_model.specs.HostTakes.{may_grant}
use Rattle.coherence_model.specs.ListingFacts.{grants_ownership}
use Rattle.coherence_model.specs.RequestFacts.{data_count, grant_count, kind_is_placed, request_is_placed}
use Rattle.coherence_model.specs.Runs.{IsRun}
use Rattle.coherence_model.specs.Snoops.{is_snooped}
use Rattle.coherence_model.specs.Stages.{Stage, is_early_or_written, is_new_or_late, stage}
use Rattle.coherence_model.specs.Tags.{open_with}
use Rattle.coherence_model.specs.Traces.{device, events_of}
use Rattle.coherence_model.specs.Transactions.{Kind, Transaction, is_open, is_read, is_request, open_at}
use Rattle.coherence_model.specs.Words.{one_if}
use Rattle.request_laws.proofs.HostFacts.{writing_lines}
use Rattle.request_laws.proofs.OpenPlaced.{open_lines_are_placed}
use Rattle.request_laws.proofs.Owners.{unused_tags}
use Rattle.coherence_model.proofs.OwnRuns.{events_of_run}
use Rattle.request_laws.proofs.OwnRuns.{host_is_no_device}
use Rattle.coherence_model.specs.OwnRuns.{is_own_run}
use Rattle.listing_laws.proofs.Copies.{valid_count, writable_count}
use Rattle.listing_laws.proofs.Fits.{AreFit, open_lines_fit}
use Rattle.listing_laws.proofs.HostLines.{HostKeptLine, flag_up, host_lines_kept, is_write_stage}
use Rattle.listing_laws.proofs.Owners.{granted_so, grants_shared, no_write, split_grants}
use Rattle.listing_laws.proofs.WriteBackLines.{writes_line}
use Rattle.value_laws.proofs.Has.{ReadsHave, is_dirty, none_brought, open_low, unwritable_clean}

-- how many MemWr of a line a host has under way
abbrev pub written_count : ℕ → ℕ → List Event → ℕ
written_count a h t = count_by (writes_line a) (in_flight h Channel.Rwd t) + count_by (writes_line a) (buffered_writes h (events_of device t))

-- how many grants of a line are on their way to a host
abbrev pub shared_grants : ℕ → ℕ → List Event → ℕ
shared_grants a h t = granted_so grants_shared (in_flight h Channel.Ndr t) (open_at a (events_of h t))

-- how many Cmp-E of a line are on their way to a host
abbrev pub owning_grants : ℕ → ℕ → List Event → ℕ
owning_grants a h t = granted_so grants_ownership (in_flight h Channel.Ndr t) (open_at a (events_of h t))

-- a host has a writable copy or a MemWr under way at most; who has either is listed A; and who has either or gets a writable copy is alone with the line
pub record OwnersApart (setup : Configuration) (a : ℕ) (t : List Event) : Type 0 where
  pub listed : (h : ℕ) → is_host setup h ≡ true → 1 ≤ writable_count (copy setup a (events_of h t)) + written_count a h t → is_listed_any (directory setup (events_of device t)) a h ≡ true
  pub few : (h : ℕ) → is_host setup h ≡ true → writable_count (copy setup a (events_of h t)) + written_count a h t ≤ 1
  pub apart : (h g : ℕ) → is_host setup h ≡ true → is_host setup g ≡ true → (h ≡ g → ⊥) → 1 ≤ writable_count (copy setup a (events_of h t)) + written_count a h t + owning_grants a h t
      → valid_count (copy setup a (events_of g t)) + written_count a g t + shared_grants a g t + owning_grants a g t ≡ 0

-- a snooped line whose conflict ended early has no writable copy
abbrev pub EarlyUnwritable : Configuration → ℕ → List Event → Type 0
EarlyUnwritable setup a own = is_snooped a own ≡ true → stage setup a own ≡ Stage.Early → writable_count (copy setup a own) ≡ 0

-- a snooped line that is being written back, or was, is neither open nor writable
writing_closed : (x o n z : ℕ) → (o + x ≤ 1) × (n + z + o ≤ 2) × (n + z + x ≤ 2) → n ≡ 1 → z ≡ 1 → (o ≡ 0) × (x ≡ 0)
writing_closed x o n z h e f = (omega arith, omega arith)

-- no number is both 0 and 1
zero_one : (n : ℕ) → n ≡ 0 → n ≡ 1 → ⊥
zero_one n e f = omega arith

-- a ready line is Early, Written, or not modified
early_or_written : (s : Stage) → is_early_or_written s ≡ true → (s ≡ Stage.Early) ⊎ (is_write_stage s ≡ true)
early_or_written Stage.New h = absurd (false≢true h)
early_or_written (Stage.Asked t) h = absurd (false≢true h)
early_or_written Stage.Early h = inl refl
early_or_written Stage.Late h = absurd (false≢true h)
early_or_written Stage.Writing h = absurd (false≢true h)
early_or_written Stage.Written h = inr refl

-- a request is no eviction
read_no_eviction : (k : Kind) → is_request k ≡ true → k ≡ Kind.DirtyEviction → ⊥
read_no_eviction k request same = false≢true (sym (ap is_request same) ∙ request)

-- a grant that may be given counts
grant_flag : (c : NdrOp) (k : Kind) → may_grant c k ≡ true → one_if (grants_shared c) + one_if (grants_ownership c) ≡ 1
grant_flag NdrOp.Cmp k h = absurd (false≢true h)
grant_flag NdrOp.CmpS k h = refl
grant_flag NdrOp.CmpE k h = refl
grant_flag NdrOp.ConflictAck k h = absurd (false≢true h)

module _ (setup : Configuration) (opening : List (Line × Bytes64)) (limits : IsWithinLimits setup) (h : ℕ) (host : IsTrue (is_host setup h)) (t : List Event) (run : IsRun setup opening t) where
  -- the host's own events
  abbrev own : List Event
  own = events_of h t

  -- a host isn't the device
  pub agent : is_device h ≡ false
  agent = host_is_no_device setup limits h host

  -- the host's own events are such as its rules allow
  pub own_run : is_own_run setup opening h own ≡ true
  own_run = events_of_run setup opening h t run

  -- whether a line is writable, open, snooped and written back go together
  pub line_kept : (a : ℕ) → HostKeptLine setup own a
  line_kept a = host_lines_kept setup opening h agent own own_run a

  -- what is open for each line fits it
  pub fit : AreFit (λ a. open_at a own)
  fit = open_lines_fit setup opening h agent own own_run

  -- a line at stage Writing is snooped
  snooped_writing : (a : ℕ) → stage setup a own ≡ Stage.Writing → is_snooped a own ≡ true
  snooped_writing a st = writing_lines setup opening limits h host own own_run a st

  -- no MemWr of a line is under way beside its writable copy
  pub unwritten_copy : (a : ℕ) → is_writable setup a own ≡ true → written_count a h t ≡ 0
  unwritten_copy a writable =
      let x = flag_up (is_writable setup a own) writable in
      no_write setup opening limits h host t run a
      (λ st. zero_one (writable_count (copy setup a own)) (writing_closed _ _ _ _ (line_kept a) (flag_up _ (snooped_writing a st)) (ap (λ s. one_if (is_write_stage s)) st)).1 x)
      (λ o. zero_one (writable_count (copy setup a own)) (open_low _ _ _ _ (line_kept a) (ap (λ y. one_if (is_some y)) o.there)) x)

  -- nor beside its open request
  pub unwritten_request : (a : ℕ) (x : Transaction) → open_at a own ≡ Some x → is_request x.kind ≡ true → written_count a h t ≡ 0
  unwritten_request a x there request =
      let one : one_if (is_open a own) ≡ 1 = ap (λ y. one_if (is_some y)) there in
      no_write setup opening limits h host t run a
      (λ st. zero_one (one_if (is_open a own)) (writing_closed _ _ _ _ (line_kept a) (flag_up _ (snooped_writing a st)) (ap (λ s. one_if (is_write_stage s)) st)).0 one)
      (λ o. read_no_eviction x.kind request (ap (λ (y : Transaction). y.kind) (same_open x o.x (sym there ∙ o.there)) ∙ o.kind))
    where
      same_open : (y z : Transaction) → ◌≡◌ {A = Option Transaction} (Some y) (Some z) → y ≡ z
      same_open y z e = cc

  -- what is open has no writable copy
  pub open_clean : (a : ℕ) (x : Transaction) → open_at a own ≡ Some x → is_dirty (copy setup a own) ≡ false
  open_clean a x there = unwritable_clean (copy setup a own) (open_low _ _ _ _ (line_kept a) (ap (λ y. one_if (is_some y)) there))

  -- no MemData is in flight with a tag that is not in use
  pub unused : (tag : ℕ) → open_with tag own ≡ None → count_by (has_tag tag) (in_flight h Channel.Drs t) ≡ 0
  unused tag none = (unused_tags setup opening limits h host t run tag none).data_sent

  -- a ready line has no copy M
  pub ready_clean : (a : ℕ) → EarlyUnwritable setup a own → is_snooped a own ≡ true → is_ready setup a own ≡ true → is_dirty (copy setup a own) ≡ false
  ready_clean a early snooped ready = elim (or_cases (is_early_or_written (stage setup a own)) _ ready) [
    | inl ended ↦ (elim (early_or_written (stage setup a own) ended) [
      | inl st ↦ unwritable_clean (copy setup a own) (early snooped st)
      | inr written ↦ unwritable_clean (copy setup a own) (writing_closed _ _ _ _ (line_kept a) (flag_up _ snooped) (flag_up _ written)).1
    ])
    | inr others ↦ not-true _ (and_parts (is_new_or_late (stage setup a own) && not (is_open a own)) (not (is_modified setup a own)) others).1
  ]

  -- ---- data without a grant

  -- a request without a grant in flight or taken has none
  ungranted : (x : Transaction) (a : ℕ) → open_at a own ≡ Some x → granted_so grants_shared (in_flight h Channel.Ndr t) (Some x) + granted_so grants_ownership (in_flight h Channel.Ndr t) (Some x) ≡ 0 → (g : Option NdrOp) → x.grant ≡ g
      → grant_count h t x ≡ 0
  ungranted x a there none None is =
      let flying = split_grants x.tag (in_flight h Channel.Ndr t) in
      let taken : one_if (is_some x.grant) ≡ 0 = ap (λ y. one_if (is_some y)) is in
      omega arith
  ungranted x a there none (Some c) is =
      let flag = grant_flag c x.kind ((fit a x there).granted c is) in
      let s = ap (λ y. one_if (option_map_or grants_shared y false)) is in
      let o = ap (λ y. one_if (option_map_or grants_ownership y false)) is in
      absurd (omega arith)

  -- a read is in one place
  read_placed : (k : Kind) (a : ℕ) (x : Transaction) → is_read k ≡ true → kind_is_placed k setup h a t x ≡ true → request_is_placed setup h a t x ≡ true
  read_placed Kind.ReadShared a x read placed = placed
  read_placed Kind.ReadAny a x read placed = placed
  read_placed Kind.Invalidate a x read placed = absurd (false≢true read)
  read_placed Kind.CleanEviction a x read placed = absurd (false≢true read)
  read_placed Kind.DirtyEviction a x read placed = absurd (false≢true read)

  -- a read without a grant has no data
  data_none : (a : ℕ) (x : Transaction) → open_at a own ≡ Some x → is_read x.kind ≡ true → granted_so grants_shared (in_flight h Channel.Ndr t) (Some x) + granted_so grants_ownership (in_flight h Channel.Ndr t) (Some x) ≡ 0 → data_count h t x ≡ 0
  data_none a x there read none =
      let placed : kind_is_placed x.kind setup h a t x ≡ true = ap (λ o. option_map_or (λ (y : Transaction). kind_is_placed y.kind setup h a t y) o true) (sym there) ∙ open_lines_are_placed setup opening limits h host t run a in
      let parts = and_parts _ (data_count h t x == cond (is_read x.kind) (grant_count h t x) 0) (read_placed x.kind a x read placed) in
      eqb-true _ _ parts.1 ∙ cond-true (is_read x.kind) (grant_count h t x) 0 read ∙ ungranted x a there none x.grant refl

  -- where no grant is on its way, neither is MemData
  pub nothing_read : (a : ℕ) (v : Bytes64) → shared_grants a h t + owning_grants a h t ≡ 0 → ReadsHave v (open_at a own) (in_flight h Channel.Drs t)
  nothing_read a v none = λ x there read.
      let zero = data_none a x there read (ap (λ o. granted_so grants_shared (in_flight h Channel.Ndr t) o + granted_so grants_ownership (in_flight h Channel.Ndr t) o) (sym there) ∙ none) in
      record {
        flying = none_brought x.tag v (in_flight h Channel.Drs t) (first_zero _ _ zero);
        taken = λ b is. absurd (zero_one (one_if (is_some x.bytes)) (second_zero _ _ zero) (ap (λ y. one_if (is_some y)) is));
      }
    where
      first_zero : (n m : ℕ) → n + m ≡ 0 → n ≡ 0
      first_zero n m e = omega arith

      second_zero : (n m : ℕ) → n + m ≡ 0 → m ≡ 0
      second_zero n m e = omega arith
