-- All flags of the block are set.
use Rattle.block_snoop.proofs.Left.{new_is}
use Rattle.block_snoop.proofs.answers.AnswersLeft.new.Goals as goal

pub returns : goal.returns
returns c = record { all = new_is c.args.block c.all_of.result c.all_of.ensures }
