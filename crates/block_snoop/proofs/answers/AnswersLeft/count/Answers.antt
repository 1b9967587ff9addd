-- As many lines are left as flags are set.
use Rattle.std.proofs.Common.{ap, arith, length}
use Rattle.block_snoop.specs.Answering.{LeftRecord}
use Rattle.block_snoop.proofs.Left.{left_counted}
use Rattle.block_snoop.proofs.answers.AnswersLeft.count.Goals as goal

pub returns : goal.returns
returns c =
    omega (
      arith,
      c.one_if.ensures.count,
      c.one_if-2.ensures.count,
      c.one_if-3.ensures.count,
      c.one_if-4.ensures.count,
      left_counted c.self.inside.block.first.0 c.self.inside.left c.self.invariant,
      ap (λ (v : LeftRecord). length v.left) c.self.view_is,
    )
