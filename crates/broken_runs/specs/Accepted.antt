-- The verdict on worked traces that are runs: their numbers of events and commits.
use Rattle.std.specs.Prelude.{[], ◌≡◌}
use Rattle.coherence_model.specs.Verdicts.{Verdict, verdict_on}
use Rattle.worked_runs.specs.BlockOfTwoModifiedLines.{block_of_two_modified_lines_events, block_of_two_modified_lines_setup}
use Rattle.worked_runs.specs.BlocksOfFour.{blocks_of_four_events, blocks_of_four_setup}
use Rattle.worked_runs.specs.CleanEvictionCrosses.{clean_eviction_crosses_events, clean_eviction_crosses_setup}
use Rattle.worked_runs.specs.EarlyConflictKeepsItsWay.{early_conflict_keeps_its_way_events, early_conflict_keeps_its_way_setup}
use Rattle.worked_runs.specs.LateConflict.{late_conflict_events, late_conflict_setup}
use Rattle.worked_runs.specs.ModifiedLineIsRead.{modified_line_is_read_events, modified_line_is_read_setup}
use Rattle.worked_runs.specs.Nothing.{nothing_events, nothing_setup}
use Rattle.worked_runs.specs.OneLoad.{one_load_events, one_load_setup}
use Rattle.worked_runs.specs.ReservationIsKept.{reservation_is_kept_events, reservation_is_kept_setup}
use Rattle.worked_runs.specs.SharedCopyDropped.{shared_copy_dropped_events, shared_copy_dropped_setup}

-- 'Nothing' is a run
abbrev pub NothingIsRun : Type 0
NothingIsRun = verdict_on nothing_setup [] nothing_events ≡ Verdict.Run 0 0

-- 'One load' is a run
abbrev pub OneLoadIsRun : Type 0
OneLoadIsRun = verdict_on one_load_setup [] one_load_events ≡ Verdict.Run 6 1

-- 'Late conflict' is a run
abbrev pub LateConflictIsRun : Type 0
LateConflictIsRun = verdict_on late_conflict_setup [] late_conflict_events ≡ Verdict.Run 34 2

-- 'Clean eviction crosses' is a run
abbrev pub CleanEvictionCrossesIsRun : Type 0
CleanEvictionCrossesIsRun = verdict_on clean_eviction_crosses_setup [] clean_eviction_crosses_events ≡ Verdict.Run 45 3

-- 'Blocks of four' is a run
abbrev pub BlocksOfFourIsRun : Type 0
BlocksOfFourIsRun = verdict_on blocks_of_four_setup [] blocks_of_four_events ≡ Verdict.Run 62 5

-- 'Shared copy dropped' is a run
abbrev pub SharedCopyDroppedIsRun : Type 0
SharedCopyDroppedIsRun = verdict_on shared_copy_dropped_setup [] shared_copy_dropped_events ≡ Verdict.Run 56 4

-- 'Modified line is read' is a run
abbrev pub ModifiedLineIsReadIsRun : Type 0
ModifiedLineIsReadIsRun = verdict_on modified_line_is_read_setup [] modified_line_is_read_events ≡ Verdict.Run 41 3

-- 'Block of two modified lines' is a run
abbrev pub BlockOfTwoModifiedLinesIsRun : Type 0
BlockOfTwoModifiedLinesIsRun = verdict_on block_of_two_modified_lines_setup [] block_of_two_modified_lines_events ≡ Verdict.Run 52 3

-- 'Reservation is kept' is a run
abbrev pub ReservationIsKeptIsRun : Type 0
ReservationIsKeptIsRun = verdict_on reservation_is_kept_setup [] reservation_is_kept_events ≡ Verdict.Run 44 3

-- 'Early conflict keeps its way' is a run
abbrev pub EarlyConflictKeepsItsWayIsRun : Type 0
EarlyConflictKeepsItsWayIsRun = verdict_on early_conflict_keeps_its_way_setup [] early_conflict_keeps_its_way_events ≡ Verdict.Run 99 5
