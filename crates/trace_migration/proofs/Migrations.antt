-- The laws of migration, and what a writer has written when it is over.
use Rattle.std.proofs.Common.{◌≡◌, ◌⊎◌, ℕ, List, [], Err, Option, Result, inl, inr, refl, sym, ap, subst, ◌∙◌}
use Rattle.cxl_message.specs.Setup.{Configuration}
use Rattle.cxl_message.specs.declared.events.Event.{Event}
use Rattle.cxl_message.specs.declared.identifiers.Bytes64.{Bytes64}
use Rattle.cxl_message.specs.declared.identifiers.Line.{Line}
use Rattle.cxl_codec.specs.Traces.{trace_bytes_in}
use Rattle.cxl_codec.specs.declared.versions.Version.{Version}
use Rattle.cxl_codec.proofs.TraceReads.{determined}
use Rattle.trace_stream.specs.declared.items.TraceFault.{TraceFault}
use Rattle.trace_stream.specs.Runs.{HasFault, IsTraceIn}
use Rattle.trace_stream.specs.Writing.{HasBegunIn, WritesFront, WritesFrontOf, Writing}
use Rattle.trace_migration.specs.declared.heads.Head.{Head}
use Rattle.trace_migration.specs.declared.refusals.MigrateRefusal.{MigrateRefusal}
use Rattle.trace_migration.specs.Heads.{IsHeadOf}
use Rattle.trace_migration.specs.Laws.{EachTraceIsMigrated, FaultsAreNotMigrated, MigratedIsATrace, MigratedStays, OneMigration}
use Rattle.trace_migration.specs.Migrations.{IsMigrated, MigratesFront}
use Rattle.trace_migration.proofs.Fronts.{no_fault_in_trace, one_of_two_faults}
use Rattle.trace_migration.proofs.Wider.{fits_two, names_fit_two}

pub each_trace : EachTraceIsMigrated
each_trace input version setup names opening events trace = record { version = version; setup = setup; names = names; opening = opening; events = events; trace = trace; same = refl }

-- the trace of the same parts in version 2
in_two : (version : Version) (setup : Configuration) (names : List (ℕ × List ℕ)) (opening : List (Line × Bytes64)) (events : List Event) (input : List ℕ) → IsTraceIn input version setup names opening events
    → IsTraceIn (trace_bytes_in Version.Two setup names opening events) Version.Two setup names opening events
in_two version setup names opening events input trace = record {
  fits = fits_two version setup names opening events trace.fits;
  named = names_fit_two version _ names trace.named;
  ascending = trace.ascending;
  lines = trace.lines;
  spelled = refl;
}

-- what is migrated has the parts of the input
pub same_output : (input output : List ℕ) (version : Version) (setup : Configuration) (names : List (ℕ × List ℕ)) (opening : List (Line × Bytes64)) (events : List Event) → IsTraceIn input version setup names opening events
    → IsMigrated input output → trace_bytes_in Version.Two setup names opening events ≡ output
same_output input output version setup names opening events trace m =
    let same = determined version m.version setup m.setup names m.names opening m.opening events m.events trace.fits m.trace.fits (sym trace.spelled ∙ m.trace.spelled) in
    ap (λ (s : Configuration). trace_bytes_in Version.Two s names opening events) same.1 ∙ ap (λ (n : List (ℕ × List ℕ)). trace_bytes_in Version.Two m.setup n opening events) same.2
    ∙ ap (λ (o : List (Line × Bytes64)). trace_bytes_in Version.Two m.setup m.names o events) same.3 ∙ ap (λ (e : List Event). trace_bytes_in Version.Two m.setup m.names m.opening e) same.4
    ∙ sym m.same

pub one_migration : OneMigration
one_migration input a b m n = sym (same_output input a m.version m.setup m.names m.opening m.events m.trace m) ∙ same_output input b m.version m.setup m.names m.opening m.events m.trace n

pub is_a_trace : MigratedIsATrace
is_a_trace input output version setup names opening events trace m =
    subst (λ (bytes : List ℕ). IsTraceIn bytes Version.Two setup names opening events) (same_output input output version setup names opening events trace m)
    (in_two version setup names opening events input trace)

pub stays : MigratedStays
stays input output m =
    let trace = is_a_trace input output m.version m.setup m.names m.opening m.events m.trace m in
    let itself : IsMigrated output output = record { version = Version.Two; setup = m.setup; names = m.names; opening = m.opening; events = m.events; trace = trace; same = m.same } in
    record { itself = itself; alone = λ again n. one_migration output again output n itself }

pub faults_are_not : FaultsAreNotMigrated
faults_are_not input output fault has m = no_fault_in_trace input m.version m.setup m.names m.opening m.events fault m.trace has

-- a front of the trace of version 2 is a front of what the input is migrated to
pub front_went : (start gone : Option (List ℕ)) (input : List ℕ) (version : Version) (setup : Configuration) (names : List (ℕ × List ℕ)) (opening : List (Line × Bytes64)) (events : List Event)
    → IsTraceIn input version setup names opening events → WritesFront start gone (trace_bytes_in Version.Two setup names opening events) → MigratesFront start gone input
front_went start gone input version setup names opening events trace front output m =
    subst (λ (bytes : List ℕ). WritesFront start gone bytes) (same_output input output version setup names opening events trace m) front

-- ---- the writer of the trace that has a head

-- a writer of version 2 that was given the names of the head
pub begun_with : (start : Option (List ℕ)) (w : Writing) (version : Version) (names : List (ℕ × List ℕ)) (head : Head) → version ≡ Version.Two → names ≡ head.names → HasBegunIn start w version head.setup names head.opening []
    → HasBegunIn start w Version.Two head.setup head.names head.opening []
begun_with start w version names head two named begun =
    subst (λ (n : List (ℕ × List ℕ)). HasBegunIn start w Version.Two head.setup n head.opening []) named (subst (λ (v : Version). HasBegunIn start w v head.setup names head.opening []) two begun)

-- and failed to put what comes before the first event
pub begin_cut : (start gone : Option (List ℕ)) (input : List ℕ) (version : Version) (names : List (ℕ × List ℕ)) (head : Head) → version ≡ Version.Two → names ≡ head.names → IsHeadOf input head
    → WritesFrontOf start gone version head.setup names head.opening [] → MigratesFront start gone input
begin_cut start gone input version names head two named t front =
    front_went start gone input t.version head.setup head.names head.opening t.events t.trace
    (subst (λ (n : List (ℕ × List ℕ)). WritesFront start gone (trace_bytes_in Version.Two head.setup n head.opening t.events)) named
    (subst (λ (v : Version). WritesFront start gone (trace_bytes_in v head.setup names head.opening t.events)) two (front t.events)))

-- ---- what is answered for bytes that are no trace

-- a survey that was refused, as the whole
pub refused : (input : List ℕ) (result : Result (Unit {0}) MigrateRefusal) (refusal : MigrateRefusal) → result ≡ Err refusal → ((own : TraceFault) → refusal ≡ MigrateRefusal.NotATrace own → HasFault input own)
    → (refusal ≡ MigrateRefusal.WriteFault → ⊥) → (fault : TraceFault) → HasFault input fault → (result ≡ Err (MigrateRefusal.NotATrace fault)) ⊎ (result ≡ Err MigrateRefusal.Memory)
refused input result (MigrateRefusal.NotATrace own) is told no_write fault has = inl (is ∙ ap (λ (f : TraceFault). Err (MigrateRefusal.NotATrace f)) (one_of_two_faults input own fault (told own refl) has))
refused input result MigrateRefusal.WriteFault is told no_write fault has = absurd (no_write refl)
refused input result MigrateRefusal.Memory is told no_write fault has = inr is

-- a trace with a head has no fault
pub no_fault_with : (input : List ℕ) (head : Head) (fault : TraceFault) → IsHeadOf input head → HasFault input fault → ⊥
no_fault_with input head fault t has = no_fault_in_trace input t.version head.setup head.names head.opening t.events fault t.trace has
