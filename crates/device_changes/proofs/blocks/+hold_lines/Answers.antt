-- The first line is held, and then the others.
use Rattle.std.proofs.Common.{◌≡◌, ◌+◌, ◌-◌, ap, inl, arith}
use Rattle.snoop_filter.specs.Filters.{FilterRecord}
use Rattle.device_changes.proofs.FilterLines.{first_idle, held_each, held_one, rest_idle}
use Rattle.device_changes.proofs.blocks.+hold_lines.Goals as goal

pub hold-requires-clause-room : goal.hold-requires-clause-room
hold-requires-clause-room t c = inl (first_idle c.args.filter.now.rows c.args.line c.args.count c.requires.some c.requires.idle).row

pub hold_lines-requires : goal.hold_lines-requires
hold_lines-requires t c =
    let less : (c.args.count - 1) + 1 ≡ c.args.count = omega arith in
    let lines : c.hold.new.self.lines ≡ c.args.filter.now.lines = ap (λ (f : FilterRecord). f.lines) c.hold.ensures.held in (
      omega arith,
      (omega arith, (omega arith, (omega arith, rest_idle c.args.filter.now c.hold.new.self c.args.line c.args.count (c.args.count - 1) c.hold.ensures.held c.requires.some less c.requires.idle))),
    )

pub returns-then-count-gt1 : goal.returns-then-count-gt1
returns-then-count-gt1 t c =
    let less : (c.args.count - 1) + 1 ≡ c.args.count = omega arith in
    held_each c.args.filter.now c.hold.new.self c.hold_lines.new.filter c.args.line c.args.count (c.args.count - 1) c.hold.ensures.held c.hold_lines.ensures less
    (first_idle c.args.filter.now.rows c.args.line c.args.count c.requires.some c.requires.idle).row

pub returns-else-count-gt1 : goal.returns-else-count-gt1
returns-else-count-gt1 t c =
    let only : 1 ≡ c.args.count = omega arith in
    held_one c.args.filter.now c.hold.new.self c.args.line c.args.count c.hold.ensures.held only (first_idle c.args.filter.now.rows c.args.line c.args.count c.requires.some c.requires.idle).row
