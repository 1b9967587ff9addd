-- The empty run.
use Rattle.fabric_rule.proofs.Opens.{begins}
use Rattle.fabric_rule.proofs.board.Board.open.Goals as goal

pub of_words-requires : goal.of_words-requires
of_words-requires c = begins _ _ _ c.requires.room.1
