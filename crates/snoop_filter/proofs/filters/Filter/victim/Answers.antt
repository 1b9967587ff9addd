-- The block around the oldest row that isn't held.
use Rattle.std.proofs.Common.{Some, None, ◌∙◌, ap}
use Rattle.snoop_filter.specs.declared.places.Row.{Row}
use Rattle.snoop_filter.specs.Victims.{idle_block_around}
use Rattle.snoop_filter.proofs.Seen.{victim_seen}
use Rattle.snoop_filter.proofs.filters.Filter.victim.Goals as goal

pub returns-in-Some : goal.returns-in-Some
returns-in-Some c =
    record {
      victim = ap (λ b. Some b) (c.idle_block_around.ensures ∙ ap (λ (r : Row). idle_block_around c.args.self.now.rows r.line) c.row.ensures)
          ∙ victim_seen c.self.inside c.args.self.now c.self.view_is (Some c.in-Some.place) c.in-Some.ensures;
    }

pub returns-in-None : goal.returns-in-None
returns-in-None c = record { victim = victim_seen c.self.inside c.args.self.now c.self.view_is None c.in-None.ensures }
