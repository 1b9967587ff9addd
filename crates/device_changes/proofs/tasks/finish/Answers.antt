-- The task's lines are held.
use Rattle.std.proofs.Common.{◌∙◌, ap}
use Rattle.cxl_message.specs.Codes.{span_len}
use Rattle.snoop_filter.specs.declared.blocks.Block.{Block}
use Rattle.device_state.specs.Decisions.{heads_sent}
use Rattle.device_changes.proofs.Standing.{still_standing}
use Rattle.device_changes.proofs.tasks.finish.Goals as goal

pub let_go_lines-requires-clause-held : goal.let_go_lines-requires-clause-held
let_go_lines-requires-clause-held c =
    still_standing c.args.line.0 c.span_len.result (heads_sent c.args.decision) c.args.tasks.now.tasks c.args.filter.now c.grant.new.filter c.requires.may.stands c.in-Some.task.now c.in-Some.ensures.found c.grant.ensures
    (c.span_len.ensures.lines ∙ ap (λ (b : Block). span_len b.span) c.block.ensures)
