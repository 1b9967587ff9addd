-- What an event of the device leaves of a line's value, at each host and in memory, after a run.
use Rattle.std.proofs.Common.{◌≡◌, ℕ, ◌+◌, ◌≤◌, Bool, true, false, IsTrue, List, ◌++◌, Option, Some, None, refl, sym, ◌∙◌, ap, subst, arith}
use Rattle.std.specs.Prelude.{nat_le, not, ◌==◌, ◌&&◌}
use Rattle.std.proofs.lemmas.Bool.{and_from, and_parts, eq-eqb, eqb-true, false≢true, leb-false, leb-true, ltb-true, not-true, not_from_false}
use Rattle.std.proofs.lemmas.Bool.Decides.{nat_tests}
use Rattle.cxl_message.specs.declared.channels.Channel.{Channel}
use Rattle.cxl_message.specs.declared.events.Cause.{Cause}
use Rattle.cxl_message.specs.declared.events.Event.{Event}
use Rattle.cxl_message.specs.declared.events.Sends.{Sends}
use Rattle.cxl_message.specs.declared.identifiers.Bytes64.{Bytes64}
use Rattle.cxl_message.specs.declared.identifiers.Line.{Line}
use Rattle.cxl_message.specs.Codes.{listing_code}
use Rattle.cxl_message.specs.Setup.{Configuration, IsWithinLimits}
use Rattle.coherence_model.specs.Buffers.{buffered_writes, writes_after}
use Rattle.coherence_model.specs.Cache.{copy}
use Rattle.coherence_model.specs.DeviceActs.{is_settled}
use Rattle.coherence_model.specs.DeviceRows.{device_emission}
use Rattle.coherence_model.specs.Directory.{Directory, is_listed, is_listed_any, is_to_ask}
use Rattle.coherence_model.specs.DirectoryChanges.{directory}
use Rattle.coherence_model.specs.Emission.{Emission}
use Rattle.coherence_model.specs.Fitting.{is_host}
use Rattle.coherence_model.specs.Flight.{in_flight, takes_on, without_taken}
use Rattle.coherence_model.specs.Memory.{memory}
use Rattle.coherence_model.specs.OwnerFacts.{is_open_so, purpose_fits}
use Rattle.coherence_model.specs.Runs.{IsRun}
use Rattle.coherence_model.specs.SentSnoops.{is_asked}
use Rattle.coherence_model.specs.Tasks.{Purpose, Task, is_eviction}
use Rattle.coherence_model.specs.Traces.{device, events_of}
use Rattle.coherence_model.specs.Transactions.{Kind, Transaction, is_read, open_at}
use Rattle.entry_laws.proofs.Blocks.{all_below}
use Rattle.request_laws.proofs.DeviceCauses.{WasThere}
use Rattle.request_laws.proofs.OpenLines.{open_tags_are_distinct}
use Rattle.request_laws.proofs.Owners.{tasks_have_requests}
use Rattle.request_laws.proofs.Places.{on_channel}
use Rattle.listing_laws.proofs.Copies.{writable_count}
use Rattle.listing_laws.proofs.Takes.{read_is_request}
use Rattle.listing_laws.proofs.UnderWay.{writes_by_device}
use Rattle.value_laws.proofs.DeviceSends.{device_sent, reads_sent}
use Rattle.value_laws.proofs.Has.{HostHas, IsClean, Writes, unwritable_clean}
use Rattle.value_laws.proofs.HostEvents.{HasAt}
use Rattle.value_laws.proofs.HostFacts.{OwnersApart, open_clean, own_run, unwritten_request, written_count}

-- a host is clean of a line after a trace
abbrev pub CleanAt : Configuration → ℕ → ℕ → List Event → Type 0
CleanAt setup a h t = IsClean a (copy setup a (events_of h t)) (in_flight h Channel.Rwd t) (buffered_writes h (events_of device t))

-- what is open where a task's request is
record OpenFor (o : Option Transaction) (tag : ℕ) : Type 0 where
  pub x : Transaction
  pub there : o ≡ Some x
  pub tag_same : x.tag ≡ tag

-- a request that is open with a tag
open_for : (p : Kind → Bool) (o : Option Transaction) (tag : ℕ) → is_open_so p tag o ≡ true → OpenFor o tag
open_for p None tag h = absurd (false≢true h)
open_for p (Some x) tag h = record { x = x; there = refl; tag_same = eqb-true x.tag tag (and_parts (p x.kind) (x.tag == tag) h).1 }

-- who is listed I is not listed A
low_listing : (n : ℕ) → nat_le 1 n ≡ false → (n == 2) ≡ false
low_listing n h = grind (arith, nat_tests)

-- the second of two tests that fail together
other_test : (b c : Bool) → b ≡ false → (not b && c) ≡ false → c ≡ false
other_test true c h k = absurd (false≢true (sym h))
other_test false c h k = k

-- another host that a task is not to ask isn't listed A
unasked_unlisted : (purpose : Purpose) (D : Directory) (a : ℕ) (t : Task) (g : ℕ) → is_eviction purpose ≡ false → (t.host == g) ≡ false → is_to_ask purpose D a t g ≡ false → is_listed_any D a g ≡ false
unasked_unlisted Purpose.SharedRead D a t g request other h = other_test (t.host == g) (is_listed_any D a g) other h
unasked_unlisted Purpose.OwningRead D a t g request other h = low_listing (listing_code (D.listed a g)) (other_test (t.host == g) (is_listed D a g) other h)
unasked_unlisted Purpose.Invalidation D a t g request other h = low_listing (listing_code (D.listed a g)) (other_test (t.host == g) (is_listed D a g) other h)
unasked_unlisted Purpose.Eviction D a t g request other h = absurd (false≢true (sym request))

-- of two numbers that are not 1 together each is 0
none_of_two : (n m : ℕ) → (1 ≤ n + m → ⊥) → (n ≡ 0) × (m ≡ 0)
none_of_two n m h = by (nat_le 1 (n + m)) refl
  where
    by : (b : Bool) → nat_le 1 (n + m) ≡ b → (n ≡ 0) × (m ≡ 0)
    by true is = absurd (h (leb-true 1 (n + m) is))
    by false is = let few = leb-false 1 (n + m) is in (omega arith, omega arith)

module _ (setup : Configuration) (opening : List (Line × Bytes64)) (limits : IsWithinLimits setup) (t : List Event) (run : IsRun setup opening t) (a : ℕ) (v : Bytes64) (owners : OwnersApart setup a t)
    (stored : ((g : ℕ) → is_host setup g ≡ true → CleanAt setup a g t) → memory opening a (events_of device t) ≡ v) where
  -- the device's own events
  abbrev dev : List Event
  dev = events_of device t

  -- who isn't listed A is clean
  unlisted_clean : (g : ℕ) → is_host setup g ≡ true → is_listed_any (directory setup dev) a g ≡ false → CleanAt setup a g t
  unlisted_clean g host unlisted =
      let none = none_of_two (writable_count (copy setup a (events_of g t))) (written_count a g t) (λ some. false≢true (sym unlisted ∙ owners.listed g host some)) in
      record { copied = unwritable_clean (copy setup a (events_of g t)) none.0; unwritten = none.1 }

  module _ (h : ℕ) (host : IsTrue (is_host setup h)) (x : Transaction) (there : open_at a (events_of h t) ≡ Some x) (read : is_read x.kind ≡ true) where
    -- where a task for the read is finished every host is clean
    settled_clean : (task : Task) → is_settled setup a task (directory setup dev) dev ≡ true → is_eviction task.purpose ≡ false → task.host ≡ h → (g : ℕ) → is_host setup g ≡ true → (b : Bool) → (task.host == g) ≡ b → CleanAt setup a g t
    settled_clean task settled request its g here true is =
        subst (λ k. CleanAt setup a k t) (sym its ∙ eqb-true task.host g is)
        (record { copied = open_clean setup opening limits h host t run a x there; unwritten = unwritten_request setup opening limits h host t run a x there (read_is_request x.kind read) })
    settled_clean task settled request its g here false is =
        let both = all_below (λ k. not (is_asked k a dev) && not (is_to_ask task.purpose (directory setup dev) a task k)) setup.hosts settled g (ltb-true g setup.hosts here) in
        unlisted_clean g here (unasked_unlisted task.purpose (directory setup dev) a task g request is (not-true _ (and_parts (not (is_asked g a dev)) _ both).1))

    -- so memory has the line
    finished_bytes : (line : Line) (task : Task) → (directory setup dev).task line.0 ≡ Some task → is_settled setup line.0 task (directory setup dev) dev ≡ true → is_eviction task.purpose ≡ false → task.host ≡ h → (task.tag == x.tag) ≡ true
        → memory opening line.0 dev ≡ v
    finished_bytes line task stands settled request its tag =
        let o = open_for (purpose_fits task.purpose) (open_at line.0 (events_of h t)) task.tag
        (tasks_have_requests setup opening limits h host t run task.tag line.0 task stands (and_from _ _ (and_from _ _ (not_from_false _ request) (eq-eqb task.host h its)) (eq-eqb task.tag task.tag refl))) in
        let same : line.0 ≡ a = open_tags_are_distinct setup opening limits h host (events_of h t) (own_run setup opening limits h host t run) line.0 a o.x x o.there there (o.tag_same ∙ eqb-true task.tag x.tag tag) in
        ap (λ l. memory opening l dev) same ∙ stored (λ g here. settled_clean task (subst (λ l. is_settled setup l task (directory setup dev) dev ≡ true) same settled) request its g here (task.host == g) refl)

  -- what an event of the device leaves at a host
  pub device_moved : (h : ℕ) (host : IsTrue (is_host setup h)) → HasAt setup a v h t → (cause : Cause) (w : Emission) (sends : Sends) → device_emission setup opening cause dev ≡ Some w → sends ≡ w.sends
      → WasThere (takes_on h Channel.Rwd cause) (in_flight h Channel.Rwd t)
      → HostHas a v (copy setup a (events_of h t)) (open_at a (events_of h t)) (without_taken (takes_on h Channel.Rwd cause) (in_flight h Channel.Rwd t)) (writes_after h cause (buffered_writes h dev)) (in_flight h Channel.Drs t ++ on_channel h Channel.Drs sends)
  device_moved h host old cause w sends row sent there =
      let writes = writes_by_device (Writes a v) h cause (in_flight h Channel.Rwd t) (buffered_writes h dev) there old.flying old.waiting in
      record {
        copied = old.copied;
        flying = writes.0;
        waiting = writes.1;
        reads = reads_sent v (open_at a (events_of h t)) (in_flight h Channel.Drs t) (on_channel h Channel.Drs sends) old.reads
            (λ x open_now read. device_sent h x.tag v setup opening dev cause w sends row sent (λ act is line task acts stands settled request its tag. finished_bytes h host x open_now read line task stands settled request its tag));
      }
