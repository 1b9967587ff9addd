-- No snoop has the line, or the one at its place loses it.
use Rattle.std.proofs.Common.{ap, slice_index_or, sym, ◌∙◌}
use Rattle.std.specs.Prelude.{List, position}
use Rattle.cxl_message.specs.Lists.{is_in}
use Rattle.coherence_model.specs.Snoops.{Snoop}
use Rattle.held_snoops.specs.Held.{has_no_other, no_snoop}
use Rattle.held_snoops.proofs.Answering.{kept, stays}
use Rattle.held_snoops.proofs.held.take_answer.Goals as goal

pub returns-in_default-clause-items : goal.returns-in_default-clause-items
returns-in_default-clause-items c =
    let found = ap (position (λ (s : Snoop). is_in c.args.line.0 s.unanswered)) (sym c.deref.ensures.value) ∙ sym c.in_default.ensures in
    stays c.args.line.0 c.args.snoops.now.items found

pub returns-else-has_no_other_at-clause-items : goal.returns-else-has_no_other_at-clause-items
returns-else-has_no_other_at-clause-items c =
    let found = ap (position (λ (s : Snoop). is_in c.args.line.0 s.unanswered)) (sym c.deref.ensures.value) ∙ sym c.in-Some.ensures in
    let other = ap (λ (ss : List Snoop). has_no_other c.args.line.0 (slice_index_or ss c.in-Some.place no_snoop)) (sym c.deref-2.ensures.value)
    ∙ sym c.has_no_other_at.ensures ∙ c.if-has_no_other_at.false in
    c.answer_at.ensures.items ∙ kept c.args.line.0 c.args.snoops.now.items c.in-Some.place found other
