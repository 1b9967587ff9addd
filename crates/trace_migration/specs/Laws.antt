-- Laws of migration, for all bytes. Every rule here is an own rule.
use Rattle.std.specs.Prelude.{◌≡◌, ℕ, List}
use Rattle.cxl_message.specs.Setup.{Configuration}
use Rattle.cxl_message.specs.declared.events.Event.{Event}
use Rattle.cxl_message.specs.declared.identifiers.Bytes64.{Bytes64}
use Rattle.cxl_message.specs.declared.identifiers.Line.{Line}
use Rattle.cxl_codec.specs.Traces.{trace_bytes_in}
use Rattle.cxl_codec.specs.declared.versions.Version.{Version}
use Rattle.trace_stream.specs.Runs.{HasFault, IsTraceIn}
use Rattle.trace_stream.specs.declared.items.TraceFault.{TraceFault}
use Rattle.trace_migration.specs.Migrations.{IsMigrated}

-- each trace is migrated to the bytes of version 2 of its parts
abbrev pub EachTraceIsMigrated : Type 0
EachTraceIsMigrated =
    (input : List ℕ) (version : Version) (setup : Configuration) (names : List (ℕ × List ℕ)) (opening : List (Line × Bytes64)) (events : List Event) → IsTraceIn input version setup names opening events
    → IsMigrated input (trace_bytes_in Version.Two setup names opening events)

-- and to nothing else
abbrev pub OneMigration : Type 0
OneMigration = (input a b : List ℕ) → IsMigrated input a → IsMigrated input b → a ≡ b

-- what a trace is migrated to is a trace of version 2, of the same setup, names, opening and events
abbrev pub MigratedIsATrace : Type 0
MigratedIsATrace =
    (input output : List ℕ) (version : Version) (setup : Configuration) (names : List (ℕ × List ℕ)) (opening : List (Line × Bytes64)) (events : List Event) → IsTraceIn input version setup names opening events
    → IsMigrated input output → IsTraceIn output Version.Two setup names opening events

-- what was migrated is migrated to the same bytes, and to no others
pub record IsMigratedToItself (output : List ℕ) : Type 0 where
  pub itself : IsMigrated output output
  pub alone : (again : List ℕ) → IsMigrated output again → again ≡ output

abbrev pub MigratedStays : Type 0
MigratedStays = (input output : List ℕ) → IsMigrated input output → IsMigratedToItself output

-- bytes that are no trace are migrated to nothing
abbrev pub FaultsAreNotMigrated : Type 0
FaultsAreNotMigrated = (input output : List ℕ) (fault : TraceFault) → HasFault input fault → IsMigrated input output → ⊥
