-- All lines are left where as many are as the block has.
use Rattle.std.proofs.Common.{sym, ◌∙◌}
use Rattle.std.proofs.lemmas.Bool.{eq-eqb}
use Rattle.block_snoop.proofs.Left.{all_answered_is, same_span}
use Rattle.block_snoop.proofs.answers.AnswersLeft.answer_all.Goals as goal

pub returns-then-count-span_len-clause-answered : goal.returns-then-count-span_len-clause-answered
returns-then-count-span_len-clause-answered c =
    all_answered_is c.self.inside c.args.self.now c.self.view_is (eq-eqb _ _ (sym c.count.ensures ∙ c.if-count-span_len.true ∙ c.span_len.ensures.lines ∙ same_span c.self.inside c.args.self.now c.self.view_is))
