-- The place that was found, or the end.
use Rattle.std.proofs.Common.{sym}
use Rattle.std.specs.Prelude.{nat_lt, not}
use Rattle.device_tables.proofs.Places.{found_place, passed_places}
use Rattle.device_tables.proofs.tasks.place_of.Goals as goal

pub returns-in-Some-clause-place : goal.returns-in-Some-clause-place
returns-in-Some-clause-place c = found_place (λ t. not (nat_lt t.first c.args.line)) c.args.tasks.now c.in-Some.place (sym c.in-Some.ensures)

pub returns-in-None-clause-place : goal.returns-in-None-clause-place
returns-in-None-clause-place c = passed_places (λ t. not (nat_lt t.first c.args.line)) c.args.tasks.now (sym c.in-None.ensures)
