-- Summaries and histories of the worked traces, by computation.
use Rattle.std.specs.Prelude.{refl}
use Rattle.worked_runs.specs.Histories.{HistoryIsStoredOver, StoredOverIsLegal, LostWordIsNotLegal}
use Rattle.worked_runs.specs.SummariesOfTraces.{CleanEvictionCrossesIsSummed, WholeLineStoresUnderEarlyConflictIsSummed, BlocksOfFourIsSummed, SharedCopyDroppedIsSummed}

-- clean eviction crosses is summed
pub clean_eviction_crosses_is_summed : CleanEvictionCrossesIsSummed
clean_eviction_crosses_is_summed = refl

-- whole line stores under early conflict is summed
pub whole_line_stores_under_early_conflict_is_summed : WholeLineStoresUnderEarlyConflictIsSummed
whole_line_stores_under_early_conflict_is_summed = refl

-- blocks of four is summed
pub blocks_of_four_is_summed : BlocksOfFourIsSummed
blocks_of_four_is_summed = refl

-- shared copy dropped is summed
pub shared_copy_dropped_is_summed : SharedCopyDroppedIsSummed
shared_copy_dropped_is_summed = refl

-- history is stored over
pub history_is_stored_over : HistoryIsStoredOver
history_is_stored_over = refl

-- stored over is legal
pub stored_over_is_legal : StoredOverIsLegal
stored_over_is_legal = refl

-- lost word is not legal
pub lost_word_is_not_legal : LostWordIsNotLegal
lost_word_is_not_legal = refl
