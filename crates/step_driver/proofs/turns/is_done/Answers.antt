-- What is pending isn't done.
use Rattle.std.proofs.Common.{sym, ◌∙◌}
use Rattle.std.specs.List.{list_all}
use Rattle.coherence_model.specs.Choices.{is_all_begun, streams_of}
use Rattle.coherence_model.specs.Pending.{is_pending}
use Rattle.step_driver.proofs.Turned.{pending_none, pending_open}
use Rattle.step_driver.proofs.turns.is_done.Goals as goal

pub returns-then-pending : goal.returns-then-pending
returns-then-pending c t at =
    pending_open (list_all (is_all_begun t) (streams_of c.args.script.now)) (is_pending c.args.script.now.setup t)
    (sym (c.pending.ensures.pending c.args.script.now.setup c.args.script.now.opening t at.stands) ∙ c.if-pending.true)

pub returns : goal.returns
returns c t at =
    pending_none c.all_begun.result (list_all (is_all_begun t) (streams_of c.args.script.now)) (is_pending c.args.script.now.setup t)
    (sym (c.pending.ensures.pending c.args.script.now.setup c.args.script.now.opening t at.stands) ∙ c.if-pending.false) (c.all_begun.ensures t at.counted)
