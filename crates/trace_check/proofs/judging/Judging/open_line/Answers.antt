-- A reader gives openings alone, and in order.
use Rattle.std.proofs.Common.{Err, List, refl, ap, subst, sym, ◌∙◌, ◌≡◌}
use Rattle.std.proofs.lemmas.Option.{none-some}
use Rattle.cxl_message.specs.Setup.{Configuration}
use Rattle.cxl_message.specs.declared.identifiers.Bytes64.{Bytes64}
use Rattle.cxl_message.specs.declared.identifiers.Line.{Line}
use Rattle.trace_stream.specs.declared.items.Item.{Item}
use Rattle.trace_check.specs.declared.judging.Judging.{Judging}
use Rattle.trace_check.specs.Judged.{GoesOnBy}
use Rattle.trace_check.proofs.Steps.{IsOpenedState, opening_allowed, opening_comes}
use Rattle.trace_check.proofs.judging.Judging.open_line.Goals as goal

not_opened : (j : Judging) → IsOpenedState j → ((setup : Configuration) (opening : List (Line × Bytes64)) → j ≡ Judging.Opened setup opening → ⊥) → ⊥
not_opened Judging.Start opened none = opened
not_opened (Judging.Opened setup opening) opened none = none setup opening refl
not_opened (Judging.Running run) opened none = opened
not_opened (Judging.Broken event rule) opened none = opened
not_opened Judging.NoMemory opened none = opened

pub unreachable-requires : goal.unreachable-requires
unreachable-requires c =
    not_opened c.args.self.now (opening_comes c.requires.0 c.args.line c.args.bytes.now c.args.self.now c.requires.1) c.in_default.not-Opened

pub unreachable-requires-in-Err-Order : goal.unreachable-requires-in-Err-Order
unreachable-requires-in-Err-Order c =
    let on = subst (λ (j : Judging). GoesOnBy c.requires.0 (Item.Opened c.args.line c.args.bytes.now) j) c.in-Opened.is c.requires.1 in
    none-some _ (sym (opening_allowed c.requires.0 c.args.line c.args.bytes.now c.in-Opened.setup c.in-Opened.opening on) ∙ c.add.ensures.order (c.in-Err-Order.is ∙ ap Err c.in-Err-Order.field-0-is))

pub unreachable-requires-in-Err-Zero : goal.unreachable-requires-in-Err-Zero
unreachable-requires-in-Err-Zero c =
    let on = subst (λ (j : Judging). GoesOnBy c.requires.0 (Item.Opened c.args.line c.args.bytes.now) j) c.in-Opened.is c.requires.1 in
    none-some _ (sym (opening_allowed c.requires.0 c.args.line c.args.bytes.now c.in-Opened.setup c.in-Opened.opening on) ∙ c.add.ensures.zero (c.in-Err-Zero.is ∙ ap Err c.in-Err-Zero.field-0-is))
