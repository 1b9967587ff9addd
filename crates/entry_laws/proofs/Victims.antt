-- Where no entry is free, there is no reservation and no line is Busy, there is a victim block.
use Rattle.std.proofs.Common.{◌≡◌, ℕ, ◌-◌, ◌≤◌, true, false, List, [], ◌∷◌, Some, cond, find, length, refl, ap, arith}
use Rattle.std.specs.Prelude.{is_some, not, option_map}
use Rattle.std.specs.List.{list_all}
use Rattle.std.proofs.lemmas.Bool.{eq-eqb, not-true, or_left}
use Rattle.cxl_message.specs.declared.events.Event.{Event}
use Rattle.cxl_message.specs.Lists.{below, is_in}
use Rattle.cxl_message.specs.Setup.{Configuration}
use Rattle.coherence_model.specs.Directory.{Directory, block_around, is_busy, victim_block}
use Rattle.coherence_model.specs.DirectoryChanges.{directory}
use Rattle.coherence_model.specs.Room.{free_entries, reservation_count}
use Rattle.entry_laws.proofs.Blocks.{all_below}
use Rattle.entry_laws.proofs.Entries.{EntriesKept}

no_free_entry : (n all reserved : ℕ) → 1 ≤ all → (all - n) - reserved ≡ 0 → reserved ≡ 0 → 1 ≤ n
no_free_entry n all reserved some full none = omega arith

first_victim :
    (D : Directory) (entries : List ℕ) → 1 ≤ length entries → ((a : ℕ) → is_in a entries ≡ true → is_busy D a ≡ false)
    → is_some (option_map (block_around D) (find (λ a. not (is_busy D a)) entries)) ≡ true
first_victim D [] some idle = absurd (omega arith)
first_victim D (a ∷ entries) some idle =
    ap (λ b. is_some (option_map (block_around D) (cond (not b) (Some a) (find (λ a. not (is_busy D a)) entries)))) (idle a (or_left _ _ (eq-eqb a a refl)))

-- there is a victim block where the filter is full and no line is Busy
pub victim_there :
    (setup : Configuration) (mine : List Event) → EntriesKept setup (directory setup mine) → 1 ≤ setup.entries → free_entries setup mine ≡ 0 → reservation_count
    setup mine ≡ 0
    → list_all (λ a. not (is_busy (directory setup mine) a)) (below setup.lines) ≡ true → is_some (victim_block (directory setup mine)) ≡ true
victim_there setup mine kept some full none idle =
    first_victim (directory setup mine) (directory setup mine).entries
    (no_free_entry (length (directory setup mine).entries) setup.entries (reservation_count setup mine) some full none)
    (λ a there. not-true _ (all_below (λ b. not (is_busy (directory setup mine) b)) setup.lines idle a (kept.there a there).0))
