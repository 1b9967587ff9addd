-- The summaries of worked traces. A summary counts operations, events, committed loads, words and wholes, snoops and conflicts sent, and evictions.
use Rattle.std.specs.Prelude.{◌≡◌}
use Rattle.coherence_model.specs.Driven.{driven_trace}
use Rattle.coherence_model.specs.Summaries.{Summary, summary_of}
use Rattle.worked_runs.specs.BlocksOfFour.{blocks_of_four_script}
use Rattle.worked_runs.specs.CleanEvictionCrosses.{clean_eviction_crosses_script}
use Rattle.worked_runs.specs.SharedCopyDropped.{shared_copy_dropped_script}
use Rattle.worked_runs.specs.WholeLineStoresUnderEarlyConflict.{whole_line_stores_under_early_conflict_script}

-- the summary of 'Clean eviction crosses'
abbrev pub clean_eviction_crosses_summary : Summary
clean_eviction_crosses_summary = record { operations = 3; events = 45; loads = 2; words = 1; wholes = 0; snoops = 1; conflicts = 1; host_evictions = 1; filter_evictions = 0 }

-- its driven trace has this summary
abbrev pub CleanEvictionCrossesIsSummed : Type 0
CleanEvictionCrossesIsSummed = summary_of (driven_trace clean_eviction_crosses_script) ≡ clean_eviction_crosses_summary

-- the summary of 'Whole line stores under early conflict'
abbrev pub whole_line_stores_under_early_conflict_summary : Summary
whole_line_stores_under_early_conflict_summary = record { operations = 4; events = 68; loads = 2; words = 0; wholes = 2; snoops = 3; conflicts = 1; host_evictions = 0; filter_evictions = 0 }

-- its driven trace has this summary
abbrev pub WholeLineStoresUnderEarlyConflictIsSummed : Type 0
WholeLineStoresUnderEarlyConflictIsSummed = summary_of (driven_trace whole_line_stores_under_early_conflict_script) ≡ whole_line_stores_under_early_conflict_summary

-- the summary of 'Blocks of four'
abbrev pub blocks_of_four_summary : Summary
blocks_of_four_summary = record { operations = 5; events = 62; loads = 5; words = 0; wholes = 0; snoops = 1; conflicts = 0; host_evictions = 0; filter_evictions = 1 }

-- its driven trace has this summary
abbrev pub BlocksOfFourIsSummed : Type 0
BlocksOfFourIsSummed = summary_of (driven_trace blocks_of_four_script) ≡ blocks_of_four_summary

-- the summary of 'Shared copy dropped'
abbrev pub shared_copy_dropped_summary : Summary
shared_copy_dropped_summary = record { operations = 4; events = 56; loads = 3; words = 1; wholes = 0; snoops = 2; conflicts = 0; host_evictions = 0; filter_evictions = 0 }

-- its driven trace has this summary
abbrev pub SharedCopyDroppedIsSummed : Type 0
SharedCopyDroppedIsSummed = summary_of (driven_trace shared_copy_dropped_script) ≡ shared_copy_dropped_summary
