-- The first line is let go, and then the others.
use Rattle.std.proofs.Common.{◌≡◌, ◌+◌, ◌-◌, ap, arith}
use Rattle.snoop_filter.specs.Filters.{FilterRecord}
use Rattle.device_changes.proofs.FilterLines.{gone_each, rest_held}
use Rattle.device_changes.proofs.blocks.+let_go_lines.Goals as goal

pub let_go_lines-requires : goal.let_go_lines-requires
let_go_lines-requires t c =
    let less : (c.args.count - 1) + 1 ≡ c.args.count = omega arith in
    let lines : c.let_go.new.self.lines ≡ c.args.filter.now.lines = ap (λ (f : FilterRecord). f.lines) c.let_go.ensures.let_go in (
      omega arith,
      (omega arith, (omega arith, (omega arith, rest_held c.args.filter.now c.let_go.new.self c.args.line c.args.count (c.args.count - 1) c.let_go.ensures.let_go less c.requires.held))),
    )

pub returns-then-count-gt1 : goal.returns-then-count-gt1
returns-then-count-gt1 t c =
    let less : (c.args.count - 1) + 1 ≡ c.args.count = omega arith in
    gone_each c.args.filter.now c.let_go.new.self c.let_go_lines.new.filter c.args.line c.args.count (c.args.count - 1) c.let_go.ensures.let_go c.let_go_lines.ensures less
