-- The value of a line after a run, as the test that the law states.
use Rattle.std.proofs.Common.{◌≡◌, ℕ, ◌+◌, ◌<◌, ◌≤◌, Bool, true, false, List, [], ◌∷◌, Option, Some, None, cond, length, suc, refl, sym, ◌∙◌, ap, arith, length-append}
use Rattle.std.specs.Prelude.{filter_map, flat_map, nat_le, sum_by, ◌&&◌}
use Rattle.std.specs.List.{list_all}
use Rattle.std.specs.Option.{option_map_or}
use Rattle.std.proofs.lemmas.Bool.{and_from, lt-ltb, ltb-true}
use Rattle.std.proofs.lemmas.List.Concat.{length-flat_map}
use Rattle.std.proofs.lemmas.List.Folds.{list_all-append}
use Rattle.cxl_message.specs.declared.channels.Channel.{Channel}
use Rattle.cxl_message.specs.declared.events.Event.{Event}
use Rattle.cxl_message.specs.declared.identifiers.Bytes64.{Bytes64}
use Rattle.cxl_message.specs.declared.identifiers.Line.{Line}
use Rattle.cxl_message.specs.declared.messages.Message.{Message}
use Rattle.cxl_message.specs.Codes.{bytes_eq, copy_code}
use Rattle.cxl_message.specs.Lists.{below}
use Rattle.cxl_message.specs.Messages.{has_tag}
use Rattle.cxl_message.specs.Setup.{Configuration}
use Rattle.cxl_message.proofs.SameNames.{same-bytes_eq}
use Rattle.coherence_model.specs.Buffers.{buffered_writes}
use Rattle.coherence_model.specs.Cache.{copy, has_copy, is_valid, is_writable}
use Rattle.coherence_model.specs.Copies.{Copy}
use Rattle.coherence_model.specs.Fitting.{is_host}
use Rattle.coherence_model.specs.FlatMemory.{flat_line}
use Rattle.coherence_model.specs.Flight.{in_flight}
use Rattle.coherence_model.specs.Memory.{memory}
use Rattle.coherence_model.specs.RequestFacts.{writes_under_way}
use Rattle.coherence_model.specs.Traces.{device, events_of, history}
use Rattle.coherence_model.specs.Transactions.{Transaction, is_read, open_at}
use Rattle.coherence_model.specs.ValueFacts.{data_has_bytes, data_in, dirty_bytes, has_no_other_bytes, host_has_bytes, stands_alone, value_is_kept, writable_bytes, written_bytes}
use Rattle.coherence_model.specs.Words.{implies, one_if}
use Rattle.request_laws.proofs.Below.{all_below}
use Rattle.request_laws.proofs.Counts.{count_by-append}
use Rattle.request_laws.proofs.Each.{each_append}
use Rattle.listing_laws.proofs.Copies.{valid_count, writable_count}
use Rattle.listing_laws.proofs.HostLines.{flags}
use Rattle.listing_laws.proofs.WriteBackLines.{writes_line}
use Rattle.value_laws.proofs.Has.{Brings, ReadsHave, Writes, both_none, unwritable_clean, writable_valid}
use Rattle.value_laws.proofs.HostEvents.{HasAt}
use Rattle.value_laws.proofs.HostFacts.{OwnersApart, owning_grants, shared_grants, written_count}
use Rattle.value_laws.proofs.Kept.{ValueKept}
use Rattle.value_laws.proofs.Lists.{all_flat, each_all, few_below, sum_same, written_all, written_length, zero_below}

-- ---- tests

-- an implication as a test
implies_from : (p q : Bool) → (p ≡ true → q ≡ true) → implies p q ≡ true
implies_from true q h = h refl
implies_from false q h = refl

-- MemData with the tag has no other bytes
none_other : (v : Bytes64) (tag : ℕ) (m : Message) → Brings tag v m → has_no_other_bytes v tag m ≡ true
none_other v tag m brings = implies_from (has_tag tag m) _ (λ same. by (data_in m) (brings same))
  where
    by : (o : Option Bytes64) → ((b : Bytes64) → o ≡ Some b → b ≡ v) → option_map_or (bytes_eq v) o true ≡ true
    by None has = refl
    by (Some b) has = same-bytes_eq v b (sym (has b refl))

-- bytes that were taken
taken_same : (v : Bytes64) (o : Option Bytes64) → ((b : Bytes64) → o ≡ Some b → b ≡ v) → option_map_or (bytes_eq v) o true ≡ true
taken_same v None has = refl
taken_same v (Some b) has = same-bytes_eq v b (sym (has b refl))

-- the MemData of what is open passes
reads_pass : (v : Bytes64) (h : ℕ) (t : List Event) (o : Option Transaction) → ReadsHave v o (in_flight h Channel.Drs t) → option_map_or (data_has_bytes v h t) o true ≡ true
reads_pass v h t None reads = refl
reads_pass v h t (Some x) reads = implies_from (is_read x.kind) _ (λ read.
    let had = reads x refl read in
    and_from _ _ (each_all (Brings x.tag v) (has_no_other_bytes v x.tag) (none_other v x.tag) (in_flight h Channel.Drs t) had.flying) (taken_same v x.bytes had.taken))

-- a host's copy and its MemData pass
host_passes : (setup : Configuration) (t : List Event) (a : ℕ) (v : Bytes64) (h : ℕ) → HasAt setup a v h t → host_has_bytes setup t a v h ≡ true
host_passes setup t a v h has =
    and_from _ _ (implies_from (has_copy setup a (events_of h t)) _ (λ valid. same-bytes_eq (copy setup a (events_of h t)).bytes v (has.copied valid))) (reads_pass v h t (open_at a (events_of h t)) has.reads)

-- ---- where the line stands

-- bytes that are one at most
stands : (v stored : Bytes64) (xs : List Bytes64) → list_all (λ x. bytes_eq x v) xs ≡ true → length xs ≤ 1 → (length xs ≡ 0 → stored ≡ v) → stands_alone v stored xs ≡ true
stands v stored [] each few kept = same-bytes_eq stored v (kept refl)
stands v stored (x ∷ []) each few kept = one (bytes_eq x v) each
  where
    one : (b : Bool) → (b && true) ≡ true → b ≡ true
    one true h = refl
    one false h = h
stands v stored (x ∷ y ∷ rest) each few kept = absurd (too_many (length rest) few)
  where
    too_many : (n : ℕ) → suc (suc n) ≤ 1 → ⊥
    too_many n h = omega arith

-- the bytes of a writable copy
copy_pass : (v : Bytes64) (b : Bool) (x : Bytes64) → (b ≡ true → x ≡ v) → list_all (λ y. bytes_eq y v) (cond b (x ∷ []) []) ≡ true
copy_pass v true x has = and_from _ _ (same-bytes_eq x v (has refl)) refl
copy_pass v false x has = refl

-- a writable copy counts one
copy_length : (b : Bool) (x : Bytes64) → length (cond b (x ∷ []) []) ≡ one_if b
copy_length true x = refl
copy_length false x = refl

-- a writable copy is a valid one
writable_few : (c : Copy) → writable_count c ≤ valid_count c
writable_few c = flags (is_valid c) (nat_le 2 (copy_code c.state)) (writable_valid c)

-- what is writable or written is nothing where nothing is there
left_zero : (v x w s g : ℕ) → x ≤ v → v + w + s + g ≡ 0 → x + w ≡ 0
left_zero v x w s g less h = omega arith

-- an owner without grants is one with them
some_owner : (x w g : ℕ) → 1 ≤ x + w → 1 ≤ x + w + g
some_owner x w g h = omega arith

module _ (setup : Configuration) (opening : List (Line × Bytes64)) (a : ℕ) (v : Bytes64) (t : List Event) (kept : ValueKept setup opening a v t) (owners : OwnersApart setup a t) where
  -- 1 where a host has a writable copy
  abbrev writable_at : ℕ → ℕ
  writable_at h = writable_count (copy setup a (events_of h t))

  -- how many MemWr a host has under way
  abbrev written_at : ℕ → ℕ
  written_at h = written_count a h t

  -- a number below the hosts is a host
  is_there : (h : ℕ) → h < setup.hosts → is_host setup h ≡ true
  is_there h less = lt-ltb h setup.hosts less

  -- all bytes outside memory are the line
  dirty_pass : list_all (λ x. bytes_eq x v) (dirty_bytes setup a t) ≡ true
  dirty_pass =
      list_all-append (λ x. bytes_eq x v) (flat_map (writable_bytes setup t a) (below setup.hosts)) (flat_map (λ h. filter_map (written_bytes a) (writes_under_way h t)) (below setup.hosts))
      ∙ and_from _ _
      (all_flat (λ x. bytes_eq x v) (writable_bytes setup t a) (below setup.hosts)
      (all_below (λ h. list_all (λ x. bytes_eq x v) (writable_bytes setup t a h)) setup.hosts
      (λ h less. copy_pass v (is_writable setup a (events_of h t)) (copy setup a (events_of h t)).bytes (λ writable. (kept.hosts h (is_there h less)).copied (writable_valid (copy setup a (events_of h t)) writable)))))
      (all_flat (λ x. bytes_eq x v) (λ h. filter_map (written_bytes a) (writes_under_way h t)) (below setup.hosts)
      (all_below (λ h. list_all (λ x. bytes_eq x v) (filter_map (written_bytes a) (writes_under_way h t))) setup.hosts
      (λ h less.
      let has = kept.hosts h (is_there h less) in
      written_all a v (writes_under_way h t) (each_append (Writes a v) (in_flight h Channel.Rwd t) (buffered_writes h (events_of device t)) has.flying has.waiting))))

  -- how many there are
  dirty_length : length (dirty_bytes setup a t) ≡ sum_by writable_at (below setup.hosts) + sum_by written_at (below setup.hosts)
  dirty_length =
      let both = length-append (flat_map (writable_bytes setup t a) (below setup.hosts)) (flat_map (λ h. filter_map (written_bytes a) (writes_under_way h t)) (below setup.hosts)) in
      let copies = length-flat_map (writable_bytes setup t a) (below setup.hosts)
      ∙ sum_same (λ h. length (writable_bytes setup t a h)) writable_at (below setup.hosts) (λ h. copy_length (is_writable setup a (events_of h t)) (copy setup a (events_of h t)).bytes) in
      let writes = length-flat_map (λ h. filter_map (written_bytes a) (writes_under_way h t)) (below setup.hosts)
      ∙ sum_same (λ h. length (filter_map (written_bytes a) (writes_under_way h t))) written_at (below setup.hosts)
      (λ h. written_length a (writes_under_way h t) ∙ count_by-append (writes_line a) (in_flight h Channel.Rwd t) (buffered_writes h (events_of device t))) in
      both ∙ ap (λ n. n + length (flat_map (λ h. filter_map (written_bytes a) (writes_under_way h t)) (below setup.hosts))) copies ∙ ap (λ n. sum_by writable_at (below setup.hosts) + n) writes

  -- who has a writable copy or a MemWr under way is alone with them
  alone : (h g : ℕ) → is_host setup h ≡ true → is_host setup g ≡ true → (h ≡ g → ⊥) → 1 ≤ writable_at h + written_at h → writable_at g + written_at g ≡ 0
  alone h g host other differ some =
      left_zero (valid_count (copy setup a (events_of g t))) (writable_at g) (written_at g) (shared_grants a g t) (owning_grants a g t) (writable_few (copy setup a (events_of g t)))
      (owners.apart h g host other differ (some_owner (writable_at h) (written_at h) (owning_grants a h t) some))

  -- there is one at most
  dirty_few : length (dirty_bytes setup a t) ≤ 1
  dirty_few =
      let few = few_below writable_at written_at setup.hosts (λ h less. owners.few h (is_there h less)) (λ h g lh lg differ some. alone h g (is_there h lh) (is_there g lg) differ some) in
      let same = dirty_length in
      omega arith

  -- where nothing is dirty each host is clean
  dirty_none : length (dirty_bytes setup a t) ≡ 0 → memory opening a (events_of device t) ≡ v
  dirty_none none =
      let parts = both_none (sum_by writable_at (below setup.hosts)) (sum_by written_at (below setup.hosts)) (sym dirty_length ∙ none) in
      kept.stored (λ h host.
      let less = ltb-true h setup.hosts host in
      record { copied = unwritable_clean (copy setup a (events_of h t)) (zero_below writable_at setup.hosts parts.0 h less); unwritten = zero_below written_at setup.hosts parts.1 h less })

  -- the line stands where it should
  pub stands_kept : stands_alone v (memory opening a (events_of device t)) (dirty_bytes setup a t) ≡ true
  stands_kept = stands v (memory opening a (events_of device t)) (dirty_bytes setup a t) dirty_pass dirty_few dirty_none

  -- and each host has it
  pub hosts_kept : list_all (host_has_bytes setup t a v) (below setup.hosts) ≡ true
  hosts_kept = all_below (host_has_bytes setup t a v) setup.hosts (λ h less. host_passes setup t a v h (kept.hosts h (is_there h less)))

-- the value of a line is kept, as the test says
pub line_passes : (setup : Configuration) (opening : List (Line × Bytes64)) (a : ℕ) (t : List Event) → ValueKept setup opening a (flat_line opening a (history t)) t → OwnersApart setup a t → value_is_kept setup opening t a ≡ true
line_passes setup opening a t kept owners =
    and_from _ _ (stands_kept setup opening a (flat_line opening a (history t)) t kept owners) (hosts_kept setup opening a (flat_line opening a (history t)) t kept owners)
