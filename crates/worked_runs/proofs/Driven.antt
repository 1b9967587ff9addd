-- The worked traces, each by computation.
use Rattle.std.specs.Prelude.{refl}
use Rattle.worked_runs.specs.AnOpening.{AnOpeningIsDriven}
use Rattle.worked_runs.specs.BlockOfTwoModifiedLines.{BlockOfTwoModifiedLinesIsDriven}
use Rattle.worked_runs.specs.BlocksOfFour.{BlocksOfFourIsDriven}
use Rattle.worked_runs.specs.CleanEvictionCrosses.{CleanEvictionCrossesIsDriven}
use Rattle.worked_runs.specs.DirtyEvictionByOneHost.{DirtyEvictionByOneHostIsDriven}
use Rattle.worked_runs.specs.DirtyEvictionCrosses.{DirtyEvictionCrossesIsDriven}
use Rattle.worked_runs.specs.DowngradeAndSharing.{DowngradeAndSharingIsDriven}
use Rattle.worked_runs.specs.EarlyConflict.{EarlyConflictIsDriven}
use Rattle.worked_runs.specs.EarlyConflictKeepsItsWay.{EarlyConflictKeepsItsWayIsDriven}
use Rattle.worked_runs.specs.FilterOfOneEntry.{FilterOfOneEntryIsDriven}
use Rattle.worked_runs.specs.LateConflict.{LateConflictIsDriven}
use Rattle.worked_runs.specs.ModifiedLineIsRead.{ModifiedLineIsReadIsDriven}
use Rattle.worked_runs.specs.ModifiedLineIsWanted.{ModifiedLineIsWantedIsDriven}
use Rattle.worked_runs.specs.Nothing.{NothingIsDriven}
use Rattle.worked_runs.specs.OldestEntryIsEvicted.{OldestEntryIsEvictedIsDriven}
use Rattle.worked_runs.specs.OneLoad.{OneLoadIsDriven, PickedLoadIsDriven}
use Rattle.worked_runs.specs.ReservationIsKept.{ReservationIsKeptIsDriven}
use Rattle.worked_runs.specs.RoomForOneEvent.{RoomForOneEventIsSerial}
use Rattle.worked_runs.specs.SharedCopyDropped.{SharedCopyDroppedIsDriven}
use Rattle.worked_runs.specs.SilentUpgrade.{SilentUpgradeIsDriven}
use Rattle.worked_runs.specs.StoreOverTwoSharedCopies.{StoreOverTwoSharedCopiesIsDriven}
use Rattle.worked_runs.specs.ThirdReader.{ThirdReaderIsDriven}
use Rattle.worked_runs.specs.UpgradeKeepsItsPlace.{UpgradeKeepsItsPlaceIsDriven}
use Rattle.worked_runs.specs.WholeLineStoreThenHit.{WholeLineStoreThenHitIsDriven}
use Rattle.worked_runs.specs.WholeLineStoresUnderEarlyConflict.{WholeLineStoresUnderEarlyConflictIsDriven}

-- nothing
pub nothing : NothingIsDriven
nothing = refl

-- one load
pub one_load : OneLoadIsDriven
one_load = refl

-- one load with a large pick
pub picked_load : PickedLoadIsDriven
picked_load = refl

-- silent upgrade
pub silent_upgrade : SilentUpgradeIsDriven
silent_upgrade = refl

-- downgrade and sharing
pub downgrade_and_sharing : DowngradeAndSharingIsDriven
downgrade_and_sharing = refl

-- store over two shared copies
pub store_over_two_shared_copies : StoreOverTwoSharedCopiesIsDriven
store_over_two_shared_copies = refl

-- modified line is wanted
pub modified_line_is_wanted : ModifiedLineIsWantedIsDriven
modified_line_is_wanted = refl

-- early conflict
pub early_conflict : EarlyConflictIsDriven
early_conflict = refl

-- late conflict
pub late_conflict : LateConflictIsDriven
late_conflict = refl

-- dirty eviction crosses
pub dirty_eviction_crosses : DirtyEvictionCrossesIsDriven
dirty_eviction_crosses = refl

-- clean eviction crosses
pub clean_eviction_crosses : CleanEvictionCrossesIsDriven
clean_eviction_crosses = refl

-- filter of one entry
pub filter_of_one_entry : FilterOfOneEntryIsDriven
filter_of_one_entry = refl

-- whole line stores under early conflict
pub whole_line_stores_under_early_conflict : WholeLineStoresUnderEarlyConflictIsDriven
whole_line_stores_under_early_conflict = refl

-- blocks of four
pub blocks_of_four : BlocksOfFourIsDriven
blocks_of_four = refl

-- dirty eviction by one host
pub dirty_eviction_by_one_host : DirtyEvictionByOneHostIsDriven
dirty_eviction_by_one_host = refl

-- whole line store then hit
pub whole_line_store_then_hit : WholeLineStoreThenHitIsDriven
whole_line_store_then_hit = refl

-- shared copy dropped
pub shared_copy_dropped : SharedCopyDroppedIsDriven
shared_copy_dropped = refl

-- an opening
pub an_opening : AnOpeningIsDriven
an_opening = refl

-- third reader
pub third_reader : ThirdReaderIsDriven
third_reader = refl

-- modified line is read
pub modified_line_is_read : ModifiedLineIsReadIsDriven
modified_line_is_read = refl

-- oldest entry is evicted
pub oldest_entry_is_evicted : OldestEntryIsEvictedIsDriven
oldest_entry_is_evicted = refl

-- block of two modified lines
pub block_of_two_modified_lines : BlockOfTwoModifiedLinesIsDriven
block_of_two_modified_lines = refl

-- reservation is kept
pub reservation_is_kept : ReservationIsKeptIsDriven
reservation_is_kept = refl

-- upgrade keeps its place
pub upgrade_keeps_its_place : UpgradeKeepsItsPlaceIsDriven
upgrade_keeps_its_place = refl

-- early conflict keeps its way
pub early_conflict_keeps_its_way : EarlyConflictKeepsItsWayIsDriven
early_conflict_keeps_its_way = refl

-- room for one event
pub room_for_one_event : RoomForOneEventIsSerial
room_for_one_event = refl
