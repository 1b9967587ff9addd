-- Before the first event, and what the readers read.
use Rattle.std.proofs.Common.{◌≡◌, ℕ, zero, suc, ◌+◌, ◌-◌, ◌<◌, List, [], ◌∷◌, None, map, refl, ap, sym, ◌∙◌, arith}
use Rattle.std.specs.Prelude.{replicate, unwrap_or}
use Rattle.std.specs.List.{range_with_len}
use Rattle.cxl_message.specs.declared.identifiers.Bytes64.{Bytes64}
use Rattle.cxl_message.specs.declared.identifiers.Line.{Line}
use Rattle.cxl_message.specs.Lists.{below}
use Rattle.cxl_message.specs.Opening.{zero_bytes}
use Rattle.cxl_message.specs.Setup.{Configuration, IsWithinLimits}
use Rattle.coherence_model.specs.Directory.{is_busy}
use Rattle.coherence_model.specs.DirectoryChanges.{directory}
use Rattle.coherence_model.specs.Memory.{memory}
use Rattle.coherence_model.specs.Traces.{device}
use Rattle.entry_laws.proofs.Counts.{no_pairs}
use Rattle.snoop_filter.specs.Rows.{held_in, listed_in}
use Rattle.device_record.specs.Kept.{kept_credits, kept_device}
use Rattle.device_record.specs.Opened.{full_credits, opened_device}
use Rattle.coherence_model.specs.OwnRuns.{IsOwnRun}
use Rattle.device_record.specs.Stands.{StandsForList}
use Rattle.device_record.specs.Record.{CreditRecord, bytes_in}
use Rattle.device_record.specs.Sparse.{sparse}
use Rattle.device_laws.specs.Laws.{ReadsAreTheModels}
use Rattle.device_laws.proofs.FilterLookups.{held_is, listed_is}
use Rattle.device_laws.proofs.OwnFacts.{device_list}
use Rattle.device_laws.proofs.Tables.{get_table}
use Rattle.device_laws.proofs.DeviceRuns.{directory_is_kept}
use Rattle.cxl_message.specs.declared.events.Event.{Event}

none_of : {X : Type 0} (xs : List ℕ) → sparse {X = X} (λ a. None) xs ≡ []
none_of [] = refl
none_of (x ∷ xs) = none_of xs

same_from : {X : Type 0} (c : X) (s n : ℕ) → map (λ h. c) (range_with_len s n) ≡ replicate n c
same_from c s zero = refl
same_from c s (suc n) = ap (λ l. c ∷ l) (same_from c (s + 1) n)

full : (setup : Configuration) (h : ℕ) → kept_credits setup [] h ≡ full_credits setup.credits
full setup h =
    let same : (setup.credits + 0) - 0 ≡ setup.credits = omega arith in
    λ i. record { req_held = 0; rwd_held = 0; rsp_held = 0; ndr_left = same i; drs_left = same i; snp_left = same i }

-- before the first event the device keeps what it was opened with
pub opened_is : (setup : Configuration) (opening : List (Line × Bytes64)) → kept_device setup opening [] ≡ opened_device setup opening
opened_is setup opening =
    λ i. record {
      memory = map (λ a. memory opening a []) (below setup.lines);
      filter = record { rows = []; reserved = no_pairs setup.hosts setup.tags i; entries = setup.entries; hosts = setup.hosts; lines = setup.lines };
      tasks = none_of (below setup.lines) i;
      requests = same_from [] 0 setup.hosts i;
      writes = same_from [] 0 setup.hosts i;
      credits = (ap (λ (f : ℕ → CreditRecord). map f (below setup.hosts)) (λ j h. full setup h j) ∙ same_from (full_credits setup.credits) 0 setup.hosts) i;
    }

-- so it stands for the empty list
pub opened_stands : (setup : Configuration) (opening : List (Line × Bytes64)) → IsWithinLimits setup → StandsForList (opened_device setup opening) setup opening []
opened_stands setup opening limits = record { within = limits; list = refl; same = sym (opened_is setup opening) }

-- memory, listings and Busy lines are read as they are
pub memory_read : (setup : Configuration) (opening : List (Line × Bytes64)) (mine : List Event) (a : ℕ) → a < setup.lines → bytes_in (kept_device setup opening mine).memory a ≡ memory opening a mine
memory_read setup opening mine a low = ap (λ o. unwrap_or o zero_bytes) (get_table (λ b. memory opening b mine) setup.lines a low)

pub listed_read : (setup : Configuration) (opening : List (Line × Bytes64)) (mine : List Event) → IsOwnRun setup opening device mine → (a h : ℕ) → a < setup.lines → h < setup.hosts
    → listed_in a h (kept_device setup opening mine).filter.rows ≡ (directory setup mine).listed a h
listed_read setup opening mine list a h low host = listed_is setup (directory setup mine) (directory_is_kept setup mine (device_list setup opening mine list)).entries a h low host

pub busy_read : (setup : Configuration) (opening : List (Line × Bytes64)) (mine : List Event) → IsOwnRun setup opening device mine → (a : ℕ) → a < setup.lines
    → held_in a (kept_device setup opening mine).filter.rows ≡ is_busy (directory setup mine) a
busy_read setup opening mine list a low = held_is setup (directory setup mine) (directory_is_kept setup mine (device_list setup opening mine list)).entries a low

-- all three
pub reads_are : ReadsAreTheModels
reads_are setup opening mine list =
    record { memory = memory_read setup opening mine; listed = listed_read setup opening mine list; busy = busy_read setup opening mine list }
