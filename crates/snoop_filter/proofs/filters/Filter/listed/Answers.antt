-- What is read from the place of a line.
use Rattle.std.proofs.Common.{Some, None}
use Rattle.snoop_filter.proofs.Seen.{few_lines, filed_at, listed_none, listed_seen, place_fits, row_is}
use Rattle.snoop_filter.proofs.filters.Filter.listed.Goals as goal

pub index-requires-in-Some : goal.index-requires-in-Some
index-requires-in-Some c =
    place_fits c.self.inside c.self.invariant c.args.line.0 c.in-Some.place
    (filed_at c.self.inside c.args.self.now c.self.view_is c.self.invariant c.args.line.0 c.index.result.now c.requires.line c.index.ensures (Some c.in-Some.place) c.in-Some.is)

pub returns-in-Some-clause-listed : goal.returns-in-Some-clause-listed
returns-in-Some-clause-listed c =
    let filed = filed_at c.self.inside c.args.self.now c.self.view_is c.self.invariant c.args.line.0 c.index.result.now c.requires.line c.index.ensures (Some c.in-Some.place) c.in-Some.is in
    let low = place_fits c.self.inside c.self.invariant c.args.line.0 c.in-Some.place filed in
    listed_seen c.self.inside c.args.self.now c.self.view_is c.self.invariant c.args.line.0 c.in-Some.place filed c.index-in-Some.result.now
    (row_is c.self.inside c.in-Some.place c.index-in-Some.result.now low c.index-in-Some.ensures) c.args.host c.requires.host

pub returns-in-None-clause-listed : goal.returns-in-None-clause-listed
returns-in-None-clause-listed c =
    listed_none c.self.inside c.args.self.now c.self.view_is c.self.invariant c.args.line.0
    (filed_at c.self.inside c.args.self.now c.self.view_is c.self.invariant c.args.line.0 c.index.result.now c.requires.line c.index.ensures None c.in-None.is) c.args.host

pub returns-in-Some-clause-lines : goal.returns-in-Some-clause-lines
returns-in-Some-clause-lines c = few_lines c.self.inside c.args.self.now c.self.view_is c.self.invariant

pub returns-in-None-clause-lines : goal.returns-in-None-clause-lines
returns-in-None-clause-lines c = few_lines c.self.inside c.args.self.now c.self.view_is c.self.invariant
