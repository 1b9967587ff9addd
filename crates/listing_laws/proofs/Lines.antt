-- A line at a host: its copy, what is under way for it, and its listing, as the numbers that every run keeps.
use Rattle.std.proofs.Common.{◌≡◌, ℕ, ◌+◌, ◌≤◌, ◌<◌, Bool, true, false, IsTrue, List, ◌++◌, Option, cond, count_by, refl, sym, ap, arith}
use Rattle.std.specs.Prelude.{◌&&◌}
use Rattle.std.specs.List.{list_all}
use Rattle.std.proofs.lemmas.Bool.{and_parts, eqb-true, false≢true, leb-true, ltb-true}
use Rattle.cxl_message.specs.declared.channels.Channel.{Channel}
use Rattle.cxl_message.specs.declared.events.Event.{Event}
use Rattle.cxl_message.specs.declared.events.Sends.{Sends}
use Rattle.cxl_message.specs.declared.identifiers.Bytes64.{Bytes64}
use Rattle.cxl_message.specs.declared.identifiers.Line.{Line}
use Rattle.cxl_message.specs.declared.messages.Message.{Message}
use Rattle.cxl_message.specs.Codes.{channel_eq, listing_code}
use Rattle.cxl_message.specs.Lists.{below}
use Rattle.cxl_message.specs.Messages.{channel_of}
use Rattle.cxl_message.specs.Setup.{Configuration, IsWithinLimits}
use Rattle.coherence_model.specs.Buffers.{buffered_requests, buffered_writes}
use Rattle.coherence_model.specs.Cache.{copy}
use Rattle.coherence_model.specs.Copies.{Copy, keeps_shared}
use Rattle.coherence_model.specs.DirectoryChanges.{directory}
use Rattle.coherence_model.specs.Fitting.{is_host}
use Rattle.coherence_model.specs.Flight.{in_flight}
use Rattle.coherence_model.specs.ListingFacts.{grants_ownership}
use Rattle.coherence_model.specs.Runs.{IsRun}
use Rattle.coherence_model.specs.SnoopFacts.{answers_have_snoops, answers_line, snoop_has_task, snoop_is_placed, snoops_line, unanswered_count}
use Rattle.coherence_model.specs.Snoops.{is_snooped}
use Rattle.coherence_model.specs.Traces.{device, events_of}
use Rattle.coherence_model.specs.Transactions.{Transaction, open_at}
use Rattle.coherence_model.specs.Words.{one_if}
use Rattle.entry_laws.proofs.Blocks.{all_below}
use Rattle.request_laws.proofs.Places.{on_channel}
use Rattle.snoop_laws.proofs.WholeLaw.{snoops_placed}
use Rattle.listing_laws.proofs.Copies.{valid_count, writable_count}
use Rattle.listing_laws.proofs.Induction.{Seen}
use Rattle.listing_laws.proofs.Numbers.{Kept, kept_as}
use Rattle.listing_laws.proofs.Owners.{granted_so, grants_shared}
use Rattle.listing_laws.proofs.UnderWay.{count_none, count_one}
use Rattle.listing_laws.proofs.WriteBackLines.{cleans_line, writes_line}

-- whether a message is a MemWr Shared of line a
abbrev pub writes_shared : ℕ → Message → Bool
writes_shared a m = writes_line a m && keeps_shared m

-- whether a message is an answer of host h for line a that keeps a shared copy
abbrev pub answers_shared : ℕ → ℕ → List Event → Message → Bool
answers_shared h a dev m = answers_line h a dev m && keeps_shared m

-- what is kept of a line, by the copy, what is open, the messages in flight and buffered, and the listing
abbrev pub LineKept : (h a : ℕ) (c : Copy) (o : Option Transaction) (dev : List Event) (fr hr fw hw ndr rs : List Message) (l : ℕ) → Type 0
LineKept h a c o dev fr hr fw hw ndr rs l =
    Kept (valid_count c) (writable_count c) (granted_so grants_shared ndr o) (granted_so grants_ownership ndr o) (count_by (writes_line a) fw + count_by (writes_line a) hw)
    (count_by (writes_shared a) fw + count_by (writes_shared a) hw) (count_by (cleans_line a) fr + count_by (cleans_line a) hr) (count_by (answers_line h a dev) rs) (count_by (answers_shared h a dev) rs) l

-- what is kept of a host's view: the line's numbers
abbrev pub LineSeen : Configuration → ℕ → ℕ → Seen
LineSeen setup h a own dev fr fw ndr rs =
    LineKept h a (copy setup a own) (open_at a own) dev fr (buffered_requests h dev) fw (buffered_writes h dev) ndr rs (listing_code ((directory setup dev).listed a h))

-- ---- what is sent without a word on the line

-- both are false where the first is
pub and_first : (b c : Bool) → b ≡ false → (b && c) ≡ false
and_first true c h = absurd (false≢true (sym h))
and_first false c h = refl

-- no count where the second is false
pub off_by : (b c : Bool) → c ≡ false → ◌≡◌ {A = ℕ} (cond b (cond c 1 0) 0) 0
off_by true c h = ap {B = ℕ} (λ x. cond x 1 0) h
off_by false c h = refl

-- a message that doesn't count
pub count_quiet : (p : Message → Bool) (h : ℕ) (c : Channel) (sends : Sends) (m : Message) (fl : List Message) → sends ≡ Sends.One (record { host = h; message = m }) → p m ≡ false → count_by p (fl ++ on_channel h c sends) ≡ count_by p fl
count_quiet p h c sends m fl sent other =
    let sum = count_one p h c sends m fl sent in
    let zero = off_by (channel_eq (channel_of m) c) (p m) other in
    omega arith

module _ (h a : ℕ) (c : Copy) (o : Option Transaction) (dev : List Event) (fr hr fw hw ndr rs : List Message) (l : ℕ) where
  -- an event that sends nothing and leaves the rest keeps the numbers
  pub quiet_none : (sends : Sends) → sends ≡ Sends.Nothing → LineKept h a c o dev fr hr fw hw ndr rs l
      → LineKept h a c o dev (fr ++ on_channel h Channel.Req sends) hr (fw ++ on_channel h Channel.Rwd sends) hw ndr (rs ++ on_channel h Channel.BiRsp sends) l
  quiet_none sends none kept =
      kept_as _ _ _ _ _ _ _ _ _ _ _ _ _ _ _ _ _ _ _ _ refl refl refl refl (ap (λ n. n + count_by (writes_line a) hw) (count_none (writes_line a) h Channel.Rwd sends fw none))
      (ap (λ n. n + count_by (writes_shared a) hw) (count_none (writes_shared a) h Channel.Rwd sends fw none)) (ap (λ n. n + count_by (cleans_line a) hr) (count_none (cleans_line a) h Channel.Req sends fr none))
      (count_none (answers_line h a dev) h Channel.BiRsp sends rs none) (count_none (answers_shared h a dev) h Channel.BiRsp sends rs none) refl kept

  -- an event that sends one message that doesn't count keeps the numbers
  pub quiet_one : (sends : Sends) (m : Message) → sends ≡ Sends.One (record { host = h; message = m }) → writes_line a m ≡ false → cleans_line a m ≡ false → answers_line h a dev m ≡ false → LineKept h a c o dev fr hr fw hw ndr rs l
      → LineKept h a c o dev (fr ++ on_channel h Channel.Req sends) hr (fw ++ on_channel h Channel.Rwd sends) hw ndr (rs ++ on_channel h Channel.BiRsp sends) l
  quiet_one sends m sent no_write no_clean no_answer kept =
      kept_as _ _ _ _ _ _ _ _ _ _ _ _ _ _ _ _ _ _ _ _ refl refl refl refl (ap (λ n. n + count_by (writes_line a) hw) (count_quiet (writes_line a) h Channel.Rwd sends m fw sent no_write))
      (ap (λ n. n + count_by (writes_shared a) hw) (count_quiet (writes_shared a) h Channel.Rwd sends m fw sent (and_first (writes_line a m) (keeps_shared m) no_write)))
      (ap (λ n. n + count_by (cleans_line a) hr) (count_quiet (cleans_line a) h Channel.Req sends m fr sent no_clean))
      (count_quiet (answers_line h a dev) h Channel.BiRsp sends m rs sent no_answer)
      (count_quiet (answers_shared h a dev) h Channel.BiRsp sends m rs sent (and_first (answers_line h a dev m) (keeps_shared m) no_answer)) refl kept

-- ---- where a line of a snoop is

-- a line is in at most one place of a snoop, and in one where it is without an answer
pub record SnoopPlace (setup : Configuration) (h a : ℕ) (t : List Event) : Type 0 where
  pub same : unanswered_count setup h a (events_of device t) ≡ count_by (snoops_line a) (in_flight h Channel.BiSnp t) + one_if (is_snooped a (events_of h t)) + count_by (answers_line h a (events_of device t)) (in_flight h Channel.BiRsp t)
  pub few : count_by (snoops_line a) (in_flight h Channel.BiSnp t) + one_if (is_snooped a (events_of h t)) + count_by (answers_line h a (events_of device t)) (in_flight h Channel.BiRsp t) ≤ 1

-- the place of a line's snoop after a run
pub snoop_place : (setup : Configuration) (opening : List (Line × Bytes64)) → IsWithinLimits setup → (h : ℕ) → IsTrue (is_host setup h) → (a : ℕ) → a < setup.lines → (t : List Event) → IsRun setup opening t → SnoopPlace setup h a t
snoop_place setup opening limits h host a exists t run =
    let hosts = all_below (λ g. list_all (λ b. snoop_is_placed setup t g b && snoop_has_task setup t g b) (below setup.lines) && answers_have_snoops t g) setup.hosts (snoops_placed setup opening limits t run) h (ltb-true h setup.hosts host) in
    let lines = all_below (λ b. snoop_is_placed setup t h b && snoop_has_task setup t h b) setup.lines (and_parts _ _ hosts).0 a exists in
    let parts = and_parts _ _ (and_parts (snoop_is_placed setup t h a) _ lines).0 in
    record { same = eqb-true _ _ parts.0; few = leb-true _ 1 parts.1 }
