-- What a changed listing says of a host and a line, and what is known of the device after a run.
use Rattle.std.proofs.Common.{◌≡◌, ℕ, ◌<◌, ◌≤◌, Bool, true, false, IsTrue, List, [], ◌∷◌, Some, cond, refl, inl, inr}
use Rattle.std.specs.Prelude.{count_by, nat_lt, ◌&&◌, ◌==◌}
use Rattle.std.proofs.lemmas.Bool.{and_parts, eqb-true, false≢true, or_cases}
use Rattle.cxl_message.specs.declared.events.Event.{Event}
use Rattle.cxl_message.specs.declared.identifiers.Bytes64.{Bytes64}
use Rattle.cxl_message.specs.declared.identifiers.Line.{Line}
use Rattle.cxl_message.specs.declared.identifiers.Tag.{Tag}
use Rattle.cxl_message.specs.declared.messages.Message.{Message}
use Rattle.cxl_message.specs.declared.opcodes.Meta.{Meta}
use Rattle.cxl_message.specs.declared.opcodes.SnpType.{SnpType}
use Rattle.cxl_message.specs.declared.opcodes.Span.{Span}
use Rattle.cxl_message.specs.declared.states.Listing.{Listing}
use Rattle.cxl_message.specs.Codes.{listing_code}
use Rattle.cxl_message.specs.Lists.{is_in}
use Rattle.cxl_message.specs.Messages.{has_tag}
use Rattle.cxl_message.specs.Setup.{Configuration, IsWithinLimits}
use Rattle.coherence_model.specs.Buffers.{buffered_requests, buffered_writes, message_with}
use Rattle.coherence_model.specs.Copies.{is_shared_meta}
use Rattle.coherence_model.specs.DirectoryChanges.{directory, with_listing}
use Rattle.coherence_model.specs.Fitting.{is_host}
use Rattle.coherence_model.specs.Runs.{IsRun}
use Rattle.coherence_model.specs.SentSnoops.{sent_snoop_at}
use Rattle.coherence_model.specs.Tasks.{Task, is_eviction}
use Rattle.coherence_model.specs.Traces.{device, events_of}
use Rattle.entry_laws.proofs.Buffered.{request_line_exists, requests_are_taken}
use Rattle.entry_laws.proofs.DeviceRows.{FoundRequest}
use Rattle.entry_laws.proofs.DirectorySteps.{DirectoryKept}
use Rattle.entry_laws.proofs.Kept.{directory_is_kept}
use Rattle.entry_laws.proofs.Laws.{request_tags_are_distinct, tasks_are_named}
use Rattle.coherence_model.proofs.OwnRuns.{events_of_run}
use Rattle.weight_laws.proofs.SharedRuns.{shared_writes_serve}
use Rattle.weight_laws.specs.ListingLaws.{ServesShared}

-- what is known of the device's own events: its directory is kept, and a buffered MemWr Shared serves a shared read
pub record DeviceKnown (setup : Configuration) (mine : List Event) : Type 0 where
  pub kept : DirectoryKept setup (directory setup mine) (λ g a. sent_snoop_at g a mine)
  pub lines : (h tag : ℕ) (r : FoundRequest tag (buffered_requests h mine)) → r.line.0 < setup.lines
  pub distinct : (h tag : ℕ) → count_by (has_tag tag) (buffered_requests h mine) ≤ 1
  pub named : (a : ℕ) (task : Task) → (directory setup mine).task a ≡ Some task → IsTrue (is_host setup task.host) × IsTrue (nat_lt task.tag setup.tags) × (is_eviction task.purpose ≡ false → task.span ≡ Span.One)
  pub shared : (k : ℕ) → IsTrue (is_host setup k) → (tag : ℕ) (meta : Meta) (snp : SnpType) (own_tag : Tag) (line : Line) (bytes : Bytes64)
      → message_with tag (buffered_writes k mine) ≡ Some (Message.MemWr meta snp own_tag line bytes) → is_shared_meta meta ≡ true → ServesShared setup mine line.0

-- the number of a listing after host k was listed anew on some lines
pub relisted_as : (lines : List ℕ) (k : ℕ) (l : Listing) (listed : ℕ → ℕ → Listing) (a g : ℕ) (test : ℕ → Bool)
    → (g ≡ k → is_in a lines ≡ true → test (listing_code l) ≡ false) → test (listing_code (listed a g)) ≡ false → test (listing_code (with_listing lines k l listed a g)) ≡ false
relisted_as lines k l listed a g test new old = by_test ((g == k) && is_in a lines) refl
  where
    by_test : (b : Bool) → ((g == k) && is_in a lines) ≡ b → test (listing_code (cond b l (listed a g))) ≡ false
    by_test true is = let parts = and_parts _ _ is in new (eqb-true g k parts.0) parts.1
    by_test false is = old

-- where a listing is changed to one that fails a test, what passes passed before
pub relisted_passes : (lines : List ℕ) (k : ℕ) (l : Listing) (listed : ℕ → ℕ → Listing) (a g : ℕ) (test : ℕ → Bool)
    → (g ≡ k → is_in a lines ≡ true → test (listing_code l) ≡ true → ⊥) → test (listing_code (with_listing lines k l listed a g)) ≡ true → test (listing_code (listed a g)) ≡ true
relisted_passes lines k l listed a g test new passes = by_test ((g == k) && is_in a lines) refl passes
  where
    by_test : (b : Bool) → ((g == k) && is_in a lines) ≡ b → test (listing_code (cond b l (listed a g))) ≡ true → test (listing_code (listed a g)) ≡ true
    by_test true is h = let parts = and_parts _ _ is in absurd (new (eqb-true g k parts.0) parts.1 h)
    by_test false is h = h

-- the line of a list of one
pub only_one : (a b : ℕ) → is_in a (b ∷ []) ≡ true → a ≡ b
only_one a b h = elim (or_cases (a == b) false h) [ inl same ↦ eqb-true a b same | inr none ↦ absurd (false≢true none) ]

-- so much is known after every run
pub device_known : (setup : Configuration) (opening : List (Line × Bytes64)) → IsWithinLimits setup → (t : List Event) → IsRun setup opening t → DeviceKnown setup (events_of device t)
device_known setup opening limits t run = record {
  kept = directory_is_kept setup opening (events_of device t) (events_of_run setup opening device t run);
  lines = λ h tag r. request_line_exists setup h tag (buffered_requests h (events_of device t)) r (requests_are_taken setup opening (events_of device t) (events_of_run setup opening device t run) h);
  distinct = request_tags_are_distinct setup opening (events_of device t) (events_of_run setup opening device t run);
  named = tasks_are_named setup opening (events_of device t) (events_of_run setup opening device t run);
  shared = λ k host tag meta snp own_tag line bytes found shared. shared_writes_serve setup opening limits t run k host tag meta snp own_tag line bytes found shared;
}
