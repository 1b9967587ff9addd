-- Verdicts by computation: worked traces that are runs.
use Rattle.std.specs.Prelude.{refl}
use Rattle.coherence_model.specs.Runs.{first_broken}
use Rattle.broken_runs.specs.Accepted.{NothingIsRun, OneLoadIsRun, LateConflictIsRun, CleanEvictionCrossesIsRun, BlocksOfFourIsRun, SharedCopyDroppedIsRun, ModifiedLineIsReadIsRun, BlockOfTwoModifiedLinesIsRun, ReservationIsKeptIsRun, EarlyConflictKeepsItsWayIsRun}

-- nothing is run
pub nothing : NothingIsRun
unfolding first_broken
nothing = refl

-- one load is run
pub one_load : OneLoadIsRun
unfolding first_broken
one_load = refl

-- late conflict is run
pub late_conflict : LateConflictIsRun
unfolding first_broken
late_conflict = refl

-- clean eviction crosses is run
pub clean_eviction_crosses : CleanEvictionCrossesIsRun
unfolding first_broken
clean_eviction_crosses = refl

-- blocks of four is run
pub blocks_of_four : BlocksOfFourIsRun
unfolding first_broken
blocks_of_four = refl

-- shared copy dropped is run
pub shared_copy_dropped : SharedCopyDroppedIsRun
unfolding first_broken
shared_copy_dropped = refl

-- modified line is read is run
pub modified_line_is_read : ModifiedLineIsReadIsRun
unfolding first_broken
modified_line_is_read = refl

-- block of two modified lines is run
pub block_of_two_modified_lines : BlockOfTwoModifiedLinesIsRun
unfolding first_broken
block_of_two_modified_lines = refl

-- reservation is kept is run
pub reservation_is_kept : ReservationIsKeptIsRun
unfolding first_broken
reservation_is_kept = refl

-- early conflict keeps its way is run
pub early_conflict_keeps_its_way : EarlyConflictKeepsItsWayIsRun
unfolding first_broken
early_conflict_keeps_its_way = refl
