-- A line is left where its flag is set, and its answer clears the flag.
use Rattle.std.proofs.Common.{sym, ◌∙◌, ◌+◌, arith}
use Rattle.block_snoop.proofs.Left.{answered_is, left_is, not_left_is, stays_is}
use Rattle.block_snoop.proofs.answers.AnswersLeft.answer_line.Goals as goal
use Rattle.block_snoop.proofs.answers.AnswersLeft.answer_line.Goals.{else-low-lt4-via-then-low-lt4+else-self-low, else-low-lt4-via-else-low-lt4}

pub returns-then-self-low-clause-left : goal.returns-then-self-low-clause-left
returns-then-self-low-clause-left c = sym (left_is c.self.inside c.args.self.now c.self.view_is c.args.low ∙ c.if-self-low.true)

pub returns-then-self-low-clause-answered : goal.returns-then-self-low-clause-answered
returns-then-self-low-clause-answered c = answered_is c.self.inside c.args.self.now c.self.view_is c.args.low

pub returns-else-low-lt4-clause-left : goal.returns-else-low-lt4-clause-left
returns-else-low-lt4-clause-left c =
    elim c.else-low-lt4.branch [
      | else-low-lt4-via-then-low-lt4+else-self-low w ↦ sym (left_is c.self.inside c.args.self.now c.self.view_is c.args.low ∙ w.if-self-low.false)
      | else-low-lt4-via-else-low-lt4 w ↦ sym (not_left_is c.self.inside c.args.self.now c.self.view_is c.args.low (omega (arith, w.if-low-lt4.false, c.self.invariant)))
    ]

pub returns-else-low-lt4-clause-answered : goal.returns-else-low-lt4-clause-answered
returns-else-low-lt4-clause-answered c =
    elim c.else-low-lt4.branch [
      | else-low-lt4-via-then-low-lt4+else-self-low w ↦ stays_is c.args.self.now (c.args.self.now.block.first.0 + c.args.low) (left_is c.self.inside c.args.self.now c.self.view_is c.args.low ∙ w.if-self-low.false)
      | else-low-lt4-via-else-low-lt4 w ↦
          stays_is c.args.self.now (c.args.self.now.block.first.0 + c.args.low) (not_left_is c.self.inside c.args.self.now c.self.view_is c.args.low (omega (arith, w.if-low-lt4.false, c.self.invariant)))
    ]
