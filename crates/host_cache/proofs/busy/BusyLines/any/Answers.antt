use Rattle.std.proofs.Common.{Bool, ap, ◌∙◌}
use Rattle.std.specs.Prelude.{nat_lt}
use Rattle.std.specs.List.{list_any}
use Rattle.host_cache.proofs.Dropped.{some_marked}
use Rattle.host_cache.proofs.busy.BusyLines.any.Goals as goal

pub returns : goal.returns
returns c = record { value = ap (nat_lt 0) c.self.invariant.counted ∙ some_marked c.self.inside.marks.items ∙ ap (list_any (λ (on : Bool). on)) c.self.view_is }
