-- The device before its first event.
use Rattle.std.specs.Prelude.{None, [], false, ◌∷◌, ◌≡◌}
use Rattle.cxl_message.specs.Opening.{opening_fits}
use Rattle.coherence_model.specs.Directory.{empty_directory, victim_block}
use Rattle.worked_runs.specs.Vocabulary.{filled, line}

-- without an entry there is no victim block
abbrev pub NoVictimAtFirst : Type 0
NoVictimAtFirst = victim_block empty_directory ≡ None

-- an opening that names line 4 doesn't fit four lines
abbrev pub OpeningOfLineFourFails : Type 0
OpeningOfLineFourFails = opening_fits 4 ((line 4, filled 0x01) ∷ []) ≡ false
