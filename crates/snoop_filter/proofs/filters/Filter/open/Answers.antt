-- No place has a row at first.
use Rattle.std.proofs.Common.{arith, ℕ, replicate, ap, ◌∙◌}
use Rattle.std.specs.List.{range_with_len}
use Rattle.snoop_filter.specs.Places.{blank_row}
use Rattle.snoop_filter.proofs.Seen.{no_places, opened_kept}
use Rattle.snoop_filter.proofs.filters.Filter.open.Goals as goal

pub invariant_of-result : goal.invariant_of-result
invariant_of-result c =
    opened_kept c.in_ok-places.places c.args.entries c.args.hosts c.args.lines c.requires (omega (arith, c.ranges.lines.fits)) c.in_ok-places.ensures.table (c.in_ok-places.ensures.rows ∙ ap (λ (n : ℕ). replicate n blank_row) c.from.ensures)
    (c.in_ok-places.ensures.order ∙ ap no_places c.from.ensures) (c.in_ok-places.ensures.spare ∙ ap (range_with_len 0) c.from.ensures)
