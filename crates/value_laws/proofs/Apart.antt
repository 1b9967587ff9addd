-- After every run the owners of a line are apart: by the numbers of each line and the listings of two hosts.
use Rattle.std.proofs.Common.{◌≡◌, ℕ, ◌+◌, ◌<◌, ◌≤◌, true, IsTrue, List, refl, arith}
use Rattle.std.specs.Prelude.{◌==◌}
use Rattle.cxl_message.specs.declared.events.Event.{Event}
use Rattle.cxl_message.specs.declared.identifiers.Bytes64.{Bytes64}
use Rattle.cxl_message.specs.declared.identifiers.Line.{Line}
use Rattle.cxl_message.specs.declared.states.Listing.{Listing}
use Rattle.cxl_message.specs.Codes.{listing_code}
use Rattle.cxl_message.specs.Setup.{Configuration, IsWithinLimits}
use Rattle.coherence_model.specs.Cache.{copy}
use Rattle.coherence_model.specs.DirectoryChanges.{directory}
use Rattle.coherence_model.specs.Fitting.{is_host}
use Rattle.coherence_model.specs.Runs.{IsRun}
use Rattle.coherence_model.specs.Traces.{device, events_of}
use Rattle.listing_laws.proofs.Copies.{valid_count, writable_count}
use Rattle.listing_laws.proofs.LineRuns.{line_seen}
use Rattle.listing_laws.proofs.Pairs.{pair_seen}
use Rattle.value_laws.proofs.HostFacts.{OwnersApart, owning_grants, shared_grants, written_count}

-- a listing as a number is 2 where it is A
high_is_any : (l : Listing) → 2 ≤ listing_code l → (listing_code l == 2) ≡ true
high_is_any Listing.I h = absurd (omega arith)
high_is_any Listing.S h = absurd (omega arith)
high_is_any Listing.A h = refl

module _ (setup : Configuration) (opening : List (Line × Bytes64)) (limits : IsWithinLimits setup) (a : ℕ) (exists : a < setup.lines) (t : List Event) (run : IsRun setup opening t) where
  -- how a host is listed for the line, as a number
  abbrev listing : ℕ → ℕ
  listing h = listing_code ((directory setup (events_of device t)).listed a h)

  -- a host has a writable copy or a MemWr under way at most
  few_of : (h : ℕ) → IsTrue (is_host setup h) → writable_count (copy setup a (events_of h t)) + written_count a h t ≤ 1
  few_of h host = let kept = line_seen setup opening limits h host a exists t run in omega arith

  -- an owner's listing
  owner_high : (h : ℕ) → IsTrue (is_host setup h) → 1 ≤ writable_count (copy setup a (events_of h t)) + written_count a h t + owning_grants a h t → 2 ≤ listing h
  owner_high h host owns = let kept = line_seen setup opening limits h host a exists t run in omega arith

  -- who isn't listed has nothing of the line
  unlisted_bare : (h : ℕ) → IsTrue (is_host setup h) → listing h ≡ 0 → valid_count (copy setup a (events_of h t)) + written_count a h t + shared_grants a h t + owning_grants a h t ≡ 0
  unlisted_bare h host none = let kept = line_seen setup opening limits h host a exists t run in omega arith

  -- of two numbers of 2 together, where one is 2 the other is 0
  owner_of_two : (n m : ℕ) → n + m ≤ 2 → 2 ≤ n → m ≡ 0
  owner_of_two n m few high = omega arith

  -- an owner without grants is one with them
  with_grants : (x w g : ℕ) → 1 ≤ x + w → 1 ≤ x + w + g
  with_grants x w g h = omega arith

  -- after every run the owners of a line are apart
  pub owners_apart : OwnersApart setup a t
  owners_apart = record {
    listed = λ h host owns. high_is_any ((directory setup (events_of device t)).listed a h) (owner_high h host (with_grants _ (written_count a h t) (owning_grants a h t) owns));
    few = few_of;
    apart = λ h g host other differ owns.
        unlisted_bare g other (owner_of_two (listing h) (listing g) (pair_seen setup opening limits h g differ host other a exists t run) (owner_high h host owns));
  }
