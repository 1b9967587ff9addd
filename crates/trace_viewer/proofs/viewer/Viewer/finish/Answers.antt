-- All bytes were shown, or their fault was met.
use Rattle.std.proofs.Common.{subst, sym}
use Rattle.trace_viewer.specs.Viewing.{HasShown, Viewing}
use Rattle.trace_viewer.proofs.Finishes.{ends_front, ends_whole}
use Rattle.trace_viewer.proofs.viewer.Viewer.finish.Goals as goal

pub returns-in-Ok-clause-viewed : goal.returns-in-Ok-clause-viewed
returns-in-Ok-clause-viewed c bytes text has =
    let inside = c.self.inside in
    let v : Viewing = record { reading = inside.reader; counted = inside.tallies } in
    ends_whole bytes text c.args.out.now.items c.render.new.out.items v c.in-Ok.field-0 _ (subst (HasShown bytes text) (sym c.self.view_is) has) c.in-Ok.ensures.answer (λ items read. c.in-Ok.ensures.whole bytes items read) c.in_ok-render-in-Ok.ensures.ok

pub returns-clause-viewed : goal.returns-clause-viewed
returns-clause-viewed c bytes text has =
    let inside = c.self.inside in
    let v : Viewing = record { reading = inside.reader; counted = inside.tallies } in
    ends_front bytes text c.args.out.now.items v c.in-Err.fault (subst (HasShown bytes text) (sym c.self.view_is) has) c.in-Err.ensures.answer
