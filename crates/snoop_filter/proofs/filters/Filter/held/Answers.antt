-- What is read from the place of a line.
use Rattle.std.proofs.Common.{Some, None}
use Rattle.snoop_filter.proofs.Seen.{filed_at, held_none, held_seen, place_fits, row_is}
use Rattle.snoop_filter.proofs.filters.Filter.held.Goals as goal

pub index-requires-in-Some : goal.index-requires-in-Some
index-requires-in-Some c =
    place_fits c.self.inside c.self.invariant c.args.line.0 c.in-Some.place
    (filed_at c.self.inside c.args.self.now c.self.view_is c.self.invariant c.args.line.0 c.index.result.now c.requires.line c.index.ensures (Some c.in-Some.place) c.in-Some.is)

pub returns-in-Some : goal.returns-in-Some
returns-in-Some c =
    let filed = filed_at c.self.inside c.args.self.now c.self.view_is c.self.invariant c.args.line.0 c.index.result.now c.requires.line c.index.ensures (Some c.in-Some.place) c.in-Some.is in
    let low = place_fits c.self.inside c.self.invariant c.args.line.0 c.in-Some.place filed in
    record {
      held = held_seen c.self.inside c.args.self.now c.self.view_is c.self.invariant c.args.line.0 c.in-Some.place filed c.index-in-Some.result.now
          (row_is c.self.inside c.in-Some.place c.index-in-Some.result.now low c.index-in-Some.ensures);
    }

pub returns-in-None : goal.returns-in-None
returns-in-None c =
    record {
      held = held_none c.self.inside c.args.self.now c.self.view_is c.self.invariant c.args.line.0
          (filed_at c.self.inside c.args.self.now c.self.view_is c.self.invariant c.args.line.0 c.index.result.now c.requires.line c.index.ensures None c.in-None.is);
    }
