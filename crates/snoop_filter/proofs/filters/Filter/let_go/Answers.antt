-- A row that is let go is put in its place, or falls.
use Rattle.std.proofs.Common.{false, List, [], ◌∷◌, Some, None, refl}
use Rattle.snoop_filter.specs.Changes.{row_marked, rows_let_go}
use Rattle.snoop_filter.specs.Rows.{FilterRow}
use Rattle.snoop_filter.proofs.Seen.{filed_at, mark_own, mark_others, moved_kept, moved_seen, place_fits, put_needs, row_is, unchanged, with_rows}
use Rattle.snoop_filter.proofs.filters.Filter.let_go.Goals as goal

pub index-requires-in-Some : goal.index-requires-in-Some
index-requires-in-Some c =
    place_fits c.self.inside c.self.invariant c.args.line.0 c.in-Some.place
    (filed_at c.self.inside c.args.self.now c.self.view_is c.self.invariant c.args.line.0 c.index.result.now c.requires.line c.index.ensures (Some c.in-Some.place) c.in-Some.is)

pub put-requires : goal.put-requires
put-requires c =
    let filed = filed_at c.self.inside c.args.self.now c.self.view_is c.self.invariant c.args.line.0 c.index.result.now c.requires.line c.index.ensures (Some c.in-Some.place) c.in-Some.is in
    let low = place_fits c.self.inside c.self.invariant c.args.line.0 c.in-Some.place filed in
    let row = row_is c.self.inside c.in-Some.place c.index-in-Some.result.now low c.index-in-Some.ensures in
    let needs = put_needs c.self.inside c.args.self.now c.self.view_is c.self.invariant c.args.line.0 c.in-Some.place c.requires.line filed c.index-in-Some.result.now row in
    record { hosts = c.self.invariant.hosts; line = needs.1; place = low; listed = needs.2; room = needs.3 }

pub invariant_of-self : goal.invariant_of-self
invariant_of-self c =
    let filed = filed_at c.self.inside c.args.self.now c.self.view_is c.self.invariant c.args.line.0 c.index.result.now c.requires.line c.index.ensures (Some c.in-Some.place) c.in-Some.is in
    let low = place_fits c.self.inside c.self.invariant c.args.line.0 c.in-Some.place filed in
    let row = row_is c.self.inside c.in-Some.place c.index-in-Some.result.now low c.index-in-Some.ensures in
    let needs = put_needs c.self.inside c.args.self.now c.self.view_is c.self.invariant c.args.line.0 c.in-Some.place c.requires.line filed c.index-in-Some.result.now row in
    moved_kept c.self.inside c.self.invariant c.put.new.self c.args.line.0 c.in-Some.place (record { line = c.index-in-Some.result.now.line; listed = c.index-in-Some.result.now.listed; held = false }) filed needs.0 c.put.ensures.put

pub returns-in-Some : goal.returns-in-Some
returns-in-Some c =
    let filed = filed_at c.self.inside c.args.self.now c.self.view_is c.self.invariant c.args.line.0 c.index.result.now c.requires.line c.index.ensures (Some c.in-Some.place) c.in-Some.is in
    let low = place_fits c.self.inside c.self.invariant c.args.line.0 c.in-Some.place filed in
    let row = row_is c.self.inside c.in-Some.place c.index-in-Some.result.now low c.index-in-Some.ensures in
    let needs = put_needs c.self.inside c.args.self.now c.self.view_is c.self.invariant c.args.line.0 c.in-Some.place c.requires.line filed c.index-in-Some.result.now row in
    record {
      let_go = with_rows c.self.inside c.args.self.now (record c.self.inside { places = c.put.new.self }) (λ (rows : List FilterRow). rows_let_go (c.args.line.0 ∷ []) rows) c.self.view_is refl refl refl refl
          (moved_seen c.self.inside c.self.invariant c.put.new.self c.args.line.0 c.in-Some.place (record { line = c.index-in-Some.result.now.line; listed = c.index-in-Some.result.now.listed; held = false }) filed needs.0 (row_marked (c.args.line.0 ∷ []) false)
          (mark_own c.self.inside.hosts c.args.line.0 false c.index-in-Some.result.now _ needs.0 row) (mark_others c.args.line.0 false) c.put.ensures.put);
    }

pub returns-in-None : goal.returns-in-None
returns-in-None c =
    record {
      let_go = unchanged c.self.inside c.args.self.now c.self.view_is c.self.invariant c.args.line.0
          (filed_at c.self.inside c.args.self.now c.self.view_is c.self.invariant c.args.line.0 c.index.result.now c.requires.line c.index.ensures None c.in-None.is) (row_marked (c.args.line.0 ∷ []) false) (mark_others c.args.line.0 false);
    }
