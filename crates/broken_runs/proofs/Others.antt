-- Verdicts by computation: further traces that aren't runs.
use Rattle.std.specs.Prelude.{refl}
use Rattle.coherence_model.specs.Runs.{first_broken}
use Rattle.broken_runs.specs.NotRuns.{EarlyAckIsBroken, WrongValueIsBroken, WrongIndexIsBroken, SnoopByHostIsBroken, HitOfOpenLineIsBroken, HitOfSnoopedLineIsBroken, RequestForSnoopedLineIsBroken, WaitingStreamIsBroken, TakeByWrongAgentIsBroken, LineOfWholeBlockIsBroken, SecondWriteBackIsBroken, StartAgainstReservationIsBroken, EvictionOfNewerEntryIsBroken, SharedEvictionIsBroken}

-- early ack is broken
pub early_ack : EarlyAckIsBroken
unfolding first_broken
early_ack = refl

-- wrong value is broken
pub wrong_value : WrongValueIsBroken
unfolding first_broken
wrong_value = refl

-- wrong index is broken
pub wrong_index : WrongIndexIsBroken
unfolding first_broken
wrong_index = refl

-- snoop by host is broken
pub snoop_by_host : SnoopByHostIsBroken
unfolding first_broken
snoop_by_host = refl

-- hit of open line is broken
pub hit_of_open_line : HitOfOpenLineIsBroken
unfolding first_broken
hit_of_open_line = refl

-- hit of snooped line is broken
pub hit_of_snooped_line : HitOfSnoopedLineIsBroken
unfolding first_broken
hit_of_snooped_line = refl

-- request for snooped line is broken
pub request_for_snooped_line : RequestForSnoopedLineIsBroken
unfolding first_broken
request_for_snooped_line = refl

-- waiting stream is broken
pub waiting_stream : WaitingStreamIsBroken
unfolding first_broken
waiting_stream = refl

-- take by wrong agent is broken
pub take_by_wrong_agent : TakeByWrongAgentIsBroken
unfolding first_broken
take_by_wrong_agent = refl

-- line of whole block is broken
pub line_of_whole_block : LineOfWholeBlockIsBroken
unfolding first_broken
line_of_whole_block = refl

-- second write back is broken
pub second_write_back : SecondWriteBackIsBroken
unfolding first_broken
second_write_back = refl

-- start against reservation is broken
pub start_against_reservation : StartAgainstReservationIsBroken
unfolding first_broken
start_against_reservation = refl

-- eviction of newer entry is broken
pub eviction_of_newer_entry : EvictionOfNewerEntryIsBroken
unfolding first_broken
eviction_of_newer_entry = refl

-- shared eviction is broken
pub shared_eviction : SharedEvictionIsBroken
unfolding first_broken
shared_eviction = refl
