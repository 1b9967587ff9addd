-- The answers of single agents, by computation.
use Rattle.std.specs.Prelude.{refl}
use Rattle.worked_agents.specs.AgainAndNoSuchLine.{AgainAndNoSuchLineIsAnswered}
use Rattle.worked_agents.specs.BlockAnswers.{BlockAnswersIsAnswered}
use Rattle.worked_agents.specs.BlockOfMixedLines.{BlockOfMixedLinesIsAnswered, MixedActsAreNext}
use Rattle.worked_agents.specs.CompletionOfNothing.{CompletionOfNothingIsAnswered}
use Rattle.worked_agents.specs.DeviceRefusals.{DeviceRefusalsIsAnswered}
use Rattle.worked_agents.specs.EarlyConflictOfSharedCopy.{EarlyConflictOfSharedCopyIsAnswered}
use Rattle.worked_agents.specs.EvictionNeedsTwoCredits.{EvictionNeedsTwoCreditsIsAnswered}
use Rattle.worked_agents.specs.FreshDevice.{NoVictimAtFirst, OpeningOfLineFourFails}
use Rattle.worked_agents.specs.NoCredit.{NoCreditIsAnswered}
use Rattle.worked_agents.specs.NoTag.{NoTagIsAnswered}
use Rattle.worked_agents.specs.NoWay.{NoWayIsAnswered}
use Rattle.worked_agents.specs.OtherOrder.{OtherOrderIsAnswered}
use Rattle.worked_agents.specs.ReaderAlone.{ReaderAloneIsAnswered}
use Rattle.worked_agents.specs.SecondGrant.{SecondGrantIsAnswered}
use Rattle.worked_agents.specs.SecondSnoop.{SecondSnoopIsAnswered}
use Rattle.worked_agents.specs.TagOfAConflict.{TagOfAConflictIsAnswered}
use Rattle.worked_agents.specs.WriteToUnlistedLine.{WriteToUnlistedLineIsAnswered, WriteIsInMemory, WriterIsNotListed}

-- other order is answered
pub other_order_is_answered : OtherOrderIsAnswered
other_order_is_answered = refl

-- block of mixed lines is answered
pub block_of_mixed_lines_is_answered : BlockOfMixedLinesIsAnswered
block_of_mixed_lines_is_answered = refl

-- mixed acts are next
pub mixed_acts_are_next : MixedActsAreNext
mixed_acts_are_next = refl

-- no way is answered
pub no_way_is_answered : NoWayIsAnswered
no_way_is_answered = refl

-- no tag is answered
pub no_tag_is_answered : NoTagIsAnswered
no_tag_is_answered = refl

-- no credit is answered
pub no_credit_is_answered : NoCreditIsAnswered
no_credit_is_answered = refl

-- again and no such line is answered
pub again_and_no_such_line_is_answered : AgainAndNoSuchLineIsAnswered
again_and_no_such_line_is_answered = refl

-- completion of nothing is answered
pub completion_of_nothing_is_answered : CompletionOfNothingIsAnswered
completion_of_nothing_is_answered = refl

-- device refusals is answered
pub device_refusals_is_answered : DeviceRefusalsIsAnswered
device_refusals_is_answered = refl

-- write to unlisted line is answered
pub write_to_unlisted_line_is_answered : WriteToUnlistedLineIsAnswered
write_to_unlisted_line_is_answered = refl

-- write is in memory
pub write_is_in_memory : WriteIsInMemory
write_is_in_memory = refl

-- writer is not listed
pub writer_is_not_listed : WriterIsNotListed
writer_is_not_listed = refl

-- tag of a conflict is answered
pub tag_of_a_conflict_is_answered : TagOfAConflictIsAnswered
tag_of_a_conflict_is_answered = refl

-- early conflict of shared copy is answered
pub early_conflict_of_shared_copy_is_answered : EarlyConflictOfSharedCopyIsAnswered
early_conflict_of_shared_copy_is_answered = refl

-- second grant is answered
pub second_grant_is_answered : SecondGrantIsAnswered
second_grant_is_answered = refl

-- second snoop is answered
pub second_snoop_is_answered : SecondSnoopIsAnswered
second_snoop_is_answered = refl

-- eviction needs two credits is answered
pub eviction_needs_two_credits_is_answered : EvictionNeedsTwoCreditsIsAnswered
eviction_needs_two_credits_is_answered = refl

-- block answers is answered
pub block_answers_is_answered : BlockAnswersIsAnswered
block_answers_is_answered = refl

-- reader alone is answered
pub reader_alone_is_answered : ReaderAloneIsAnswered
reader_alone_is_answered = refl

-- no victim at first
pub no_victim_at_first : NoVictimAtFirst
no_victim_at_first = refl

-- opening of line four fails
pub opening_of_line_four_fails : OpeningOfLineFourFails
opening_of_line_four_fails = refl
