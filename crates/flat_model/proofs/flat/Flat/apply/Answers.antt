-- The line that an operation leaves is the flat memory's after one more commit.
use Rattle.std.proofs.Common.{ap, length, subst, sym, ◌<◌, ◌∙◌, ◌≡◌}
use Rattle.cxl_message.specs.Events.{line_of}
use Rattle.cxl_message.specs.Stores.{line_after}
use Rattle.coherence_model.specs.FlatMemory.{flat_line}
use Rattle.flat_model.proofs.Lines.{after_set, line_read}
use Rattle.flat_model.proofs.flat.Flat.apply.Goals as goal

pub returns-clause-value : goal.returns-clause-value
returns-clause-value c opening older is =
    let line : c.line-line.result.0 ≡ line_of c.args.op.now = c.line-line.ensures in
    let low = subst (λ a. a < length c.args.self.now) (sym line) c.requires.line in
    let read = line_read c.args.self.now c.self.inside.lines.items c.line-line.result.0 c.index.result.now (sym c.self.view_is) low c.index.ensures opening older is in
    c.line_after-value.ensures ∙ ap (line_after c.args.op.now) (read ∙ ap (λ a. flat_line opening a older) line)

pub returns-clause-stands : goal.returns-clause-stands
returns-clause-stands c opening older is stream index =
    let value = returns-clause-value c opening older is in
    let line : c.line-line.result.0 ≡ line_of c.args.op.now = c.line-line.ensures in
    after_set c.self.inside.lines.items c.args.self.now c.line-line.result.0 c.line_after-value.result opening older stream index c.args.op.now c.self.view_is is line value
