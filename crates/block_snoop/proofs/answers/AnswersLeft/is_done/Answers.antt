-- No line is left where as many as none are.
use Rattle.std.proofs.Common.{ℕ, ap, ◌∙◌}
use Rattle.std.specs.Prelude.{◌==◌}
use Rattle.block_snoop.proofs.Left.{done_is}
use Rattle.block_snoop.proofs.answers.AnswersLeft.is_done.Goals as goal

pub returns : goal.returns
returns c = record { done = ap (λ (n : ℕ). n == 0) c.count.ensures ∙ done_is c.args.self.now.left }
