-- What may be taken from the RwD channel of a host: no other RwD message with its tag is under way.
use Rattle.std.proofs.Common.{◌≡◌, ℕ, ◌+◌, ◌≤◌, Bool, true, false, List, [], ◌∷◌, Option, Some, None, cond, refl, sym, ◌∙◌, ap, arith, ◌⊎◌, inl, inr}
use Rattle.std.specs.Prelude.{count_by, is_some, ◌&&◌, ◌==◌}
use Rattle.std.specs.List.{list_all, list_any}
use Rattle.std.proofs.lemmas.Bool.{and_parts, eq-eqb, eqb-true, false≢true}
use Rattle.cxl_message.specs.declared.channels.Channel.{Channel}
use Rattle.cxl_message.specs.declared.events.Event.{Event}
use Rattle.cxl_message.specs.declared.identifiers.Bytes64.{Bytes64}
use Rattle.cxl_message.specs.declared.identifiers.Line.{Line}
use Rattle.cxl_message.specs.declared.messages.Message.{Message}
use Rattle.cxl_message.specs.Codes.{channel_eq}
use Rattle.cxl_message.specs.Messages.{channel_of, has_tag, message_eq}
use Rattle.cxl_message.specs.Setup.{Configuration}
use Rattle.coherence_model.specs.Buffers.{buffered_writes}
use Rattle.coherence_model.specs.DeviceTakes.{device_takes, v1_take}
use Rattle.coherence_model.specs.Fitting.{is_device, take_fits}
use Rattle.coherence_model.specs.Flight.{in_flight}
use Rattle.coherence_model.specs.HostActs.{may_conflict}
use Rattle.coherence_model.specs.Runs.{IsRun}
use Rattle.coherence_model.specs.Tags.{is_conflict_open, is_conflict_with, open_with, tagged_line}
use Rattle.coherence_model.specs.Traces.{device, events_of}
use Rattle.coherence_model.specs.Transactions.{Kind, Transaction, open_at}
use Rattle.coherence_model.specs.WriteBacks.{is_write_back_open}
use Rattle.cxl_message.proofs.SameNames.{channel_eq-same}
use Rattle.entry_laws.proofs.Laws.{buffered_messages_fit}
use Rattle.request_laws.proofs.AllConflicts.{conflicts_counted}
use Rattle.request_laws.proofs.AllPlaces.{placed}
use Rattle.request_laws.proofs.Balances.{Balanced, BalancedAs, here}
use Rattle.request_laws.proofs.Conflicts.{conflicts_kept}
use Rattle.request_laws.proofs.Counts.{any_counts, count_by-cons}
use Rattle.request_laws.proofs.HostPlaces.{tagged}
use Rattle.coherence_model.proofs.OwnRuns.{events_of_run}
use Rattle.request_laws.proofs.OwnRuns.{host_is_no_device}
use Rattle.request_laws.proofs.Places.{is_write_of, write_back_at}
use Rattle.progress_laws.proofs.ConflictKinds.{conflicts_are_declared}
use Rattle.progress_laws.proofs.Messages.{IsOf, all_on, each_there, flying_of, passes}
use Rattle.progress_laws.proofs.Room.{has_room_for, no_credit_on}
use Rattle.progress_laws.proofs.Takes.{device_emits, none_with, v1_holds}
use Rattle.progress_laws.specs.Laws.{MayBeTaken}

-- a message of RwD with a tag is a MemWr or a BIConflict with it
one_of_two : (tag : ℕ) (m : Message) → channel_of m ≡ Channel.Rwd → has_tag tag m ≡ true → (is_write_of tag m ≡ true) ⊎ (is_conflict_with tag m ≡ true)
one_of_two tag (Message.Req op meta snp t line) of is = cc
one_of_two tag (Message.MemWr meta snp t line bytes) of is = inl is
one_of_two tag (Message.BiConflict t) of is = inr is
one_of_two tag (Message.BiRsp op bitag low) of is = cc
one_of_two tag (Message.Ndr op t) of is = cc
one_of_two tag (Message.MemData t bytes) of is = cc
one_of_two tag (Message.BiSnp op bitag line span) of is = cc
one_of_two tag (Message.Credit c) of is = absurd (no_credit_on c Channel.Rwd refl of)

counted_step : (b w c : Bool) (n x y : ℕ) → (b ≡ true → (w ≡ true) ⊎ (c ≡ true)) → n ≤ x + y → cond b 1 0 + n ≤ (cond w 1 0 + x) + (cond c 1 0 + y)
counted_step true true c n x y h less = omega arith
counted_step true false true n x y h less = omega arith
counted_step true false false n x y h less = elim (h refl) [ inl e ↦ absurd (false≢true e) | inr e ↦ absurd (false≢true e) ]
counted_step false w c n x y h less = omega arith

-- so the messages with a tag are at most the MemWr and the BIConflict messages with it
tagged_writes : (tag : ℕ) (ms : List Message) → list_all (λ m. channel_eq (channel_of m) Channel.Rwd) ms ≡ true → count_by (has_tag tag) ms ≤ count_by (is_write_of tag) ms + count_by (is_conflict_with tag) ms
tagged_writes tag [] all = omega arith
tagged_writes tag (m ∷ ms) all =
    let parts = and_parts _ _ all in
    let of = channel_eq-same (channel_of m) Channel.Rwd parts.0 in
    let first = count_by-cons (has_tag tag) m ms in
    let second = count_by-cons (is_write_of tag) m ms in
    let third = count_by-cons (is_conflict_with tag) m ms in
    let step = counted_step (has_tag tag m) (is_write_of tag m) (is_conflict_with tag m) (count_by (has_tag tag) ms) (count_by (is_write_of tag) ms) (count_by (is_conflict_with tag) ms)
    (one_of_two tag m of) (tagged_writes tag ms parts.1) in
    omega arith

-- the channel of taken messages
on_rwd : (setup : Configuration) (h : ℕ) (ms : List Message) → list_all (λ m. take_fits setup device h m && channel_eq (channel_of m) Channel.Rwd) ms ≡ true → list_all (λ m. channel_eq (channel_of m) Channel.Rwd) ms ≡ true
on_rwd setup h [] all = refl
on_rwd setup h (m ∷ ms) all = let parts = and_parts _ _ all in ap (λ b. b && list_all (λ x. channel_eq (channel_of x) Channel.Rwd) ms) (and_parts _ _ parts.0).1 ∙ on_rwd setup h ms parts.1

-- at most one MemWr of a tag is under way, and with one what is open is a MemWr, or the write-back is
write_as : (l : Kind) (b g y r w nc ng d k : ℕ) → BalancedAs l b g y r w nc ng d k → (w ≤ 1) × (1 ≤ w → l ≡ Kind.DirtyEviction)
write_as Kind.ReadShared b g y r w nc ng d k e = (omega arith, λ some. absurd (omega arith))
write_as Kind.ReadAny b g y r w nc ng d k e = (omega arith, λ some. absurd (omega arith))
write_as Kind.Invalidate b g y r w nc ng d k e = (omega arith, λ some. absurd (omega arith))
write_as Kind.CleanEviction b g y r w nc ng d k e = (omega arith, λ some. absurd (omega arith))
write_as Kind.DirtyEviction b g y r w nc ng d k e = (omega arith, λ some. refl)

-- whose MemWr is under way with a tag
pub data WriterOf (o : Option Transaction) (b : ℕ) : Type 0 where
  Eviction : (x : Transaction) → o ≡ Some x → x.kind ≡ Kind.DirtyEviction → WriterOf o b
  WriteBack : 1 ≤ b → WriterOf o b

few_writes : (o : Option Transaction) (b r w nc ng d k : ℕ) → b ≤ 1 → Balanced o b r w nc ng d k → (w ≤ 1) × (1 ≤ w → WriterOf o b)
few_writes None b r w nc ng d k few e = (omega arith, λ some. WriteBack (omega arith))
few_writes (Some o) b r w nc ng d k few e = let is = write_as o.kind b (here o.grant) (here o.bytes) r w nc ng d k e in (is.0, λ some. Eviction o refl (is.1 some))

at_most_one : (b : Bool) → cond b 1 0 ≤ 1
at_most_one true = omega arith
at_most_one false = omega arith

there_at : (setup : Configuration) (tag : ℕ) (c : Bool) → 1 ≤ write_back_at setup tag c → tag ≡ setup.tags
there_at setup tag c some = eqb-true tag setup.tags (first_holds (tag == setup.tags) c some)
  where
    first_holds : (b c : Bool) → 1 ≤ cond (b && c) 1 0 → b ≡ true
    first_holds true c h = refl
    first_holds false c h = absurd (omega arith)

module _ (setup : Configuration) (opening : List (Line × Bytes64)) (h : ℕ) (no_device : is_device h ≡ false) (t : List Event) (run : IsRun setup opening t) (tag : ℕ) where
  -- the tag of an open conflict is no MemWr's
  writer_no_conflict : is_conflict_open tag (events_of h t) ≡ true → WriterOf (open_with tag (events_of h t)) (write_back_at setup tag (is_write_back_open setup (events_of h t))) → ⊥
  writer_no_conflict conflict (Eviction x is dirty) =
      let own = events_of_run setup opening h t run in
      let at_line = tagged (λ a. open_at a (events_of h t)) (λ b. tagged_line b (events_of h t)) tag x is in
      let may = conflicts_are_declared setup opening h no_device (events_of h t) own at_line.l x at_line.there (ap (λ u. is_conflict_open u (events_of h t)) at_line.tagged ∙ conflict) in
      false≢true (ap may_conflict (sym dirty) ∙ may)
  writer_no_conflict conflict (WriteBack some) =
      let own = events_of_run setup opening h t run in
      let inv = conflicts_kept setup opening h no_device (events_of h t) own in
      let found = inv.found tag conflict in
      let less = (inv.asked found.0 tag found.1).tag in
      let same = there_at setup tag (is_write_back_open setup (events_of h t)) some in
      omega arith

  conflict_if : (b : Bool) → is_conflict_open tag (events_of h t) ≡ b → (fw hw fc hc nk : ℕ) → (fw + hw ≤ 1) → (1 ≤ fw + hw → WriterOf (open_with tag (events_of h t)) (write_back_at setup tag (is_write_back_open setup (events_of h t))))
      → fc + hc + nk ≡ cond (is_conflict_open tag (events_of h t)) 1 0 → (fw + fc) + (hw + hc) ≤ 1
  conflict_if true is fw hw fc hc nk few writer sum =
      let one = sum ∙ ap (λ b. cond b 1 0) is in
      let none : (1 ≤ fw + hw → ⊥) = λ some. writer_no_conflict is (writer some) in
      grind (arith, none)
  conflict_if false is fw hw fc hc nk few writer sum = let zero = sum ∙ ap (λ b. cond b 1 0) is in omega arith

  write_row : list_any (has_tag tag) (in_flight h Channel.Rwd t) ≡ true → list_all (λ m. channel_eq (channel_of m) Channel.Rwd) (in_flight h Channel.Rwd t) ≡ true → is_some (v1_take tag (buffered_writes h (events_of device t))) ≡ true
  write_row there flying =
      let held = on_rwd setup h (buffered_writes h (events_of device t)) (buffered_messages_fit setup opening (events_of device t) (events_of_run setup opening device t run) h).1 in
      let some = any_counts (has_tag tag) (in_flight h Channel.Rwd t) there in
      let in_flight_two = tagged_writes tag (in_flight h Channel.Rwd t) flying in
      let held_two = tagged_writes tag (buffered_writes h (events_of device t)) held in
      let writes = few_writes (open_with tag (events_of h t)) _ _ _ _ _ _ _ (at_most_one ((tag == setup.tags) && is_write_back_open setup (events_of h t))) (placed setup opening h tag no_device t run).balanced in
      let both = conflict_if (is_conflict_open tag (events_of h t)) refl _ _ _ _ _ writes.0 writes.1 (conflicts_counted setup opening h tag no_device t run) in
      v1_holds tag (buffered_writes h (events_of device t)) (none_with tag (buffered_writes h (events_of device t)) (omega arith))

write_taken :
    (setup : Configuration) (opening : List (Line × Bytes64)) (h : ℕ) → is_device h ≡ false → (t : List Event) → IsRun setup opening t → (m : Message) → IsOf Channel.Rwd m
    → list_all (λ x. channel_eq (channel_of x) Channel.Rwd) (in_flight h Channel.Rwd t) ≡ true
    → list_any (message_eq m) (in_flight h Channel.Rwd t) ≡ true → is_some (device_takes setup h m (events_of device t)) ≡ true
write_taken setup opening h no_device t run (Message.Req op meta snp tag line) of all there = let c = of.channel in cc
write_taken setup opening h no_device t run (Message.MemWr meta snp tag line bytes) of all there =
    write_row setup opening h no_device t run tag.0 (passes (has_tag tag.0) (Message.MemWr meta snp tag line bytes) (in_flight h Channel.Rwd t) (eq-eqb tag.0 tag.0 refl) there) all
write_taken setup opening h no_device t run (Message.BiConflict tag) of all there =
    write_row setup opening h no_device t run tag.0 (passes (has_tag tag.0) (Message.BiConflict tag) (in_flight h Channel.Rwd t) (eq-eqb tag.0 tag.0 refl) there) all
write_taken setup opening h no_device t run (Message.BiRsp op bitag low) of all there = let c = of.channel in cc
write_taken setup opening h no_device t run (Message.Ndr op tag) of all there = let c = of.channel in cc
write_taken setup opening h no_device t run (Message.MemData tag bytes) of all there = let c = of.channel in cc
write_taken setup opening h no_device t run (Message.BiSnp op bitag line span) of all there = let c = of.channel in cc
write_taken setup opening h no_device t run (Message.Credit c) of all there = absurd (no_credit_on c Channel.Rwd refl of.channel)

pub writes_may_be_taken : MayBeTaken Channel.Rwd
writes_may_be_taken setup opening limits t run h host m takeable =
    let there = (and_parts _ _ takeable).0 in
    let each = flying_of setup opening h Channel.Rwd t run in
    let of = each_there (IsOf Channel.Rwd) m (in_flight h Channel.Rwd t) each there in
    device_emits setup opening h m (events_of device t) (has_room_for setup opening t run h Channel.Rwd m of.channel there)
    (write_taken setup opening h (host_is_no_device setup limits h host) t run m of (all_on Channel.Rwd (in_flight h Channel.Rwd t) each) there)
