-- Traces that aren't runs, each by one changed event. The verdict names that event and the rule.
use Rattle.std.specs.Prelude.{[], set, ◌≡◌}
use Rattle.cxl_message.specs.declared.messages.Message.{Message}
use Rattle.cxl_message.specs.declared.opcodes.SnpOp.{SnpOp}
use Rattle.cxl_message.specs.declared.opcodes.Span.{Span}
use Rattle.cxl_message.specs.declared.states.RuleNo.{RuleNo}
use Rattle.coherence_model.specs.Verdicts.{Verdict, verdict_on}
use Rattle.worked_runs.specs.BlockOfTwoModifiedLines.{block_of_two_modified_lines_events, block_of_two_modified_lines_setup}
use Rattle.worked_runs.specs.BlocksOfFour.{blocks_of_four_events, blocks_of_four_setup}
use Rattle.worked_runs.specs.EarlyConflict.{early_conflict_events, early_conflict_setup}
use Rattle.worked_runs.specs.LateConflict.{late_conflict_events, late_conflict_setup}
use Rattle.worked_runs.specs.ModifiedLineIsWanted.{modified_line_is_wanted_events, modified_line_is_wanted_setup}
use Rattle.worked_runs.specs.OldestEntryIsEvicted.{oldest_entry_is_evicted_events, oldest_entry_is_evicted_setup}
use Rattle.worked_runs.specs.OneLoad.{one_load_events, one_load_setup}
use Rattle.worked_runs.specs.ReservationIsKept.{reservation_is_kept_events, reservation_is_kept_setup}
use Rattle.worked_runs.specs.SharedCopyDropped.{shared_copy_dropped_events, shared_copy_dropped_setup}
use Rattle.worked_runs.specs.StoreOverTwoSharedCopies.{store_over_two_shared_copies_events, store_over_two_shared_copies_setup}
use Rattle.worked_runs.specs.Vocabulary.{answer, begin, bitag, clean_evict, conflict_ack, dev, dev_sends, filled, host, host_commits, host_hits, host_sends, host_sends_two, line, load, mem_data, one_word, read_any, read_shared, rsp_invalid, snoop, snp_inv, start, take, word, write_back, write_invalid, zeros}

-- K0: event 12 of 'Late conflict', changed so that the BI-ConflictAck is taken before the Cmp-E of its tag
abbrev pub EarlyAckIsBroken : Type 0
EarlyAckIsBroken =
    verdict_on late_conflict_setup [] (set late_conflict_events 12 (host 0 (take 0 (conflict_ack 0))))
    ≡ Verdict.Broken 12 RuleNo.K0

-- H3: event 5 of 'One load', changed so that the commit's value is {01}, while the line is {00}
abbrev pub WrongValueIsBroken : Type 0
WrongValueIsBroken =
    verdict_on one_load_setup [] (set one_load_events 5 (host_commits 0 (take 0 (mem_data 0 zeros)) 0 0 (load 0) (filled 0x01)))
    ≡ Verdict.Broken 5 RuleNo.H3

-- S0: event 0 of 'One load', changed so that the first operation of its stream has index 1
abbrev pub WrongIndexIsBroken : Type 0
WrongIndexIsBroken =
    verdict_on one_load_setup [] (set one_load_events 0 (host_sends 0 (begin 0 1 (load 0)) (read_shared 0 0)))
    ≡ Verdict.Broken 0 RuleNo.S0

-- P0: event 0 of 'One load', changed so that a host sends BISnpCur
abbrev pub SnoopByHostIsBroken : Type 0
SnoopByHostIsBroken =
    verdict_on one_load_setup [] (set one_load_events 0 (host_sends 0 (begin 0 0 (load 0)) (Message.BiSnp SnpOp.Cur (bitag 0) (line 0) Span.One)))
    ≡ Verdict.Broken 0 RuleNo.P0

-- H1: event 34 of 'Early conflict', replaced: a host loads a line whose copy it has, while its store of the line is open
abbrev pub HitOfOpenLineIsBroken : Type 0
HitOfOpenLineIsBroken =
    verdict_on early_conflict_setup [] (set early_conflict_events 34 (host_hits 0 0 1 (load 0) zeros))
    ≡ Verdict.Broken 34 RuleNo.H1

-- H1: event 17 of 'Modified line is wanted', replaced: a host loads a line whose copy it has, while the line is snooped
abbrev pub HitOfSnoopedLineIsBroken : Type 0
HitOfSnoopedLineIsBroken =
    verdict_on modified_line_is_wanted_setup [] (set modified_line_is_wanted_events 17 (host_hits 0 0 1 (load 0) (one_word 1)))
    ≡ Verdict.Broken 17 RuleNo.H1

-- H2: event 37 of 'Store over two shared copies', replaced: a host stores to a line that is snooped
abbrev pub RequestForSnoopedLineIsBroken : Type 0
RequestForSnoopedLineIsBroken =
    verdict_on store_over_two_shared_copies_setup [] (set store_over_two_shared_copies_events 37 (host_sends 1 (begin 1 1 (word 0 0 3)) (read_any 0 0)))
    ≡ Verdict.Broken 37 RuleNo.H2

-- S0: event 1 of 'One load', replaced: a stream begins an operation while its last one waits
abbrev pub WaitingStreamIsBroken : Type 0
WaitingStreamIsBroken =
    verdict_on one_load_setup [] (set one_load_events 1 (host_sends 0 (begin 0 1 (load 1)) (read_shared 1 1)))
    ≡ Verdict.Broken 1 RuleNo.S0

-- P0: event 1 of 'One load', replaced: a host takes its own request
abbrev pub TakeByWrongAgentIsBroken : Type 0
TakeByWrongAgentIsBroken =
    verdict_on one_load_setup [] (set one_load_events 1 (host 0 (take 0 (read_shared 0 0))))
    ≡ Verdict.Broken 1 RuleNo.P0

-- H9: event 53 of 'Blocks of four', replaced: one line of a block is answered where the whole block is to be
abbrev pub LineOfWholeBlockIsBroken : Type 0
LineOfWholeBlockIsBroken =
    verdict_on blocks_of_four_setup [] (set blocks_of_four_events 53 (host_sends 0 (answer 0) (rsp_invalid 0 0)))
    ≡ Verdict.Broken 53 RuleNo.H9

-- H8: event 30 of 'Block of two modified lines', replaced: a second line is written back while the write-back tag is in use
abbrev pub SecondWriteBackIsBroken : Type 0
SecondWriteBackIsBroken =
    verdict_on block_of_two_modified_lines_setup [] (set block_of_two_modified_lines_events 30 (host_sends 0 (write_back 1) (write_invalid 2 1 (one_word 2))))
    ≡ Verdict.Broken 30 RuleNo.H8

-- V5: event 24 of 'Reservation is kept', replaced: a request starts though the free entry is reserved for another
abbrev pub StartAgainstReservationIsBroken : Type 0
StartAgainstReservationIsBroken =
    verdict_on reservation_is_kept_setup [] (set reservation_is_kept_events 24 (dev (start 0 0)))
    ≡ Verdict.Broken 24 RuleNo.V5

-- V7: event 27 of 'Oldest entry is evicted', replaced: the newer entry is evicted in place of the oldest
abbrev pub EvictionOfNewerEntryIsBroken : Type 0
EvictionOfNewerEntryIsBroken =
    verdict_on oldest_entry_is_evicted_setup [] (set oldest_entry_is_evicted_events 27 (dev_sends (snoop 0 2) 0 (snp_inv 2)))
    ≡ Verdict.Broken 27 RuleNo.V7

-- H2: event 32 of 'Shared copy dropped', changed so that the shared copy is evicted with MemClnEvct
abbrev pub SharedEvictionIsBroken : Type 0
SharedEvictionIsBroken =
    verdict_on shared_copy_dropped_setup [] (set shared_copy_dropped_events 32 (host_sends_two 1 (begin 1 1 (load 1)) (clean_evict 0 0) (read_shared 1 1)))
    ≡ Verdict.Broken 32 RuleNo.H2
