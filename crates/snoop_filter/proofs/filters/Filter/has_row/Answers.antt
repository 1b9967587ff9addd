-- A line has a row where the table has its place.
use Rattle.std.proofs.Common.{◌∙◌}
use Rattle.snoop_filter.proofs.Seen.{cell_is, has_seen}
use Rattle.snoop_filter.proofs.filters.Filter.has_row.Goals as goal

pub returns : goal.returns
returns c =
    record {
      row = c.is_some.ensures
          ∙ has_seen c.self.inside c.args.self.now c.self.view_is c.self.invariant c.args.line.0 c.index.result.now (cell_is c.self.inside c.args.self.now c.self.view_is c.self.invariant c.args.line.0 c.index.result.now c.requires.line c.index.ensures);
    }
