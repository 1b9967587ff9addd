-- A line's row is marked in its place, or a new one goes last.
use Rattle.std.proofs.Common.{List, Some, None, true, refl, ◌∙◌, inl}
use Rattle.std.specs.Vec.{with_item}
use Rattle.snoop_filter.specs.Changes.{rows_hold}
use Rattle.snoop_filter.specs.Rows.{FilterRow}
use Rattle.snoop_filter.proofs.Seen.{add_needs, added_kept, added_seen, entry_left, filed_at, held_old, held_stands, moved_kept, place_fits, put_needs, row_is, same_hosts, spare_left, with_rows}
use Rattle.snoop_filter.proofs.filters.Filter.hold.Goals as goal

pub index-row-requires : goal.index-row-requires
index-row-requires c =
    let filed = filed_at c.self.inside c.args.self.now c.self.view_is c.self.invariant c.args.line.0 c.index.result.now c.requires.line c.index.ensures (Some c.in-Some.place) c.in-Some.is in
    let low = place_fits c.self.inside c.self.invariant c.args.line.0 c.in-Some.place filed in
    low

pub index_mut-requires : goal.index_mut-requires
index_mut-requires c =
    let filed = filed_at c.self.inside c.args.self.now c.self.view_is c.self.invariant c.args.line.0 c.index.result.now c.requires.line c.index.ensures (Some c.in-Some.place) c.in-Some.is in
    let low = place_fits c.self.inside c.self.invariant c.args.line.0 c.in-Some.place filed in
    low

pub invariant_of-self : goal.invariant_of-self
invariant_of-self c =
    let filed = filed_at c.self.inside c.args.self.now c.self.view_is c.self.invariant c.args.line.0 c.index.result.now c.requires.line c.index.ensures (Some c.in-Some.place) c.in-Some.is in
    let low = place_fits c.self.inside c.self.invariant c.args.line.0 c.in-Some.place filed in
    let row = row_is c.self.inside c.in-Some.place c.index-row.result.now low c.index-row.ensures in
    let needs = put_needs c.self.inside c.args.self.now c.self.view_is c.self.invariant c.args.line.0 c.in-Some.place c.requires.line filed c.index-row.result.now row in
    moved_kept c.self.inside c.self.invariant (record c.self.inside.places { rows = with_item c.self.inside.places.rows c.in-Some.place (record { line = c.index-row.result.now.line; listed = c.index-row.result.now.listed; held = true }) }) c.args.line.0 c.in-Some.place (record { line = c.index-row.result.now.line; listed = c.index-row.result.now.listed; held = true }) filed needs.0
    (inl (record { standing = held_stands c.self.inside.hosts c.index-row.result.now; rows = refl; table = refl; order = refl; spare = refl }))

pub add-requires-clause-spare : goal.add-requires-clause-spare
add-requires-clause-spare c =
    let none = filed_at c.self.inside c.args.self.now c.self.view_is c.self.invariant c.args.line.0 c.index.result.now c.requires.line c.index.ensures None c.in-None.is in
    spare_left c.self.inside c.args.self.now c.self.view_is c.self.invariant c.args.line.0 none c.requires.room

pub add-requires-clause-apart : goal.add-requires-clause-apart
add-requires-clause-apart c = add_needs c.self.inside c.self.invariant

pub invariant_of-self-in-None : goal.invariant_of-self-in-None
invariant_of-self-in-None c =
    let none = filed_at c.self.inside c.args.self.now c.self.view_is c.self.invariant c.args.line.0 c.index.result.now c.requires.line c.index.ensures None c.in-None.is in
    let left = entry_left c.self.inside c.args.self.now c.self.view_is c.self.invariant c.args.line.0 none c.requires.room in
    added_kept c.self.inside c.self.invariant c.add.new.self c.args.line.0 none left c.add.ensures.added

pub returns-in-Some : goal.returns-in-Some
returns-in-Some c =
    let filed = filed_at c.self.inside c.args.self.now c.self.view_is c.self.invariant c.args.line.0 c.index.result.now c.requires.line c.index.ensures (Some c.in-Some.place) c.in-Some.is in
    let low = place_fits c.self.inside c.self.invariant c.args.line.0 c.in-Some.place filed in
    let row = row_is c.self.inside c.in-Some.place c.index-row.result.now low c.index-row.ensures in
    record {
      held = with_rows c.self.inside c.args.self.now (record c.self.inside { places = record c.self.inside.places { rows = with_item c.self.inside.places.rows c.in-Some.place (record { line = c.index-row.result.now.line; listed = c.index-row.result.now.listed; held = true }) } })
          (λ (rows : List FilterRow). rows_hold c.self.inside.hosts c.args.line.0 rows) c.self.view_is refl refl refl refl
          (held_old c.self.inside c.args.self.now c.self.view_is c.self.invariant c.args.line.0 c.in-Some.place filed c.index-row.result.now row)
          ∙ same_hosts c.self.inside c.args.self.now c.self.view_is c.args.line.0;
    }

pub returns-in-None : goal.returns-in-None
returns-in-None c =
    let none = filed_at c.self.inside c.args.self.now c.self.view_is c.self.invariant c.args.line.0 c.index.result.now c.requires.line c.index.ensures None c.in-None.is in
    record {
      held = with_rows c.self.inside c.args.self.now (record c.self.inside { places = c.add.new.self }) (λ (rows : List FilterRow). rows_hold c.self.inside.hosts c.args.line.0 rows) c.self.view_is refl refl refl refl
          (added_seen c.self.inside c.self.invariant c.add.new.self c.args.line.0 none c.add.ensures.added)
          ∙ same_hosts c.self.inside c.args.self.now c.self.view_is c.args.line.0;
    }
