-- A slot that was taken holds the bytes that were written.
use Rattle.std.proofs.Common.{◌≡◌, ◌∙◌, ℕ, ◌-◌, List, Option, Some, ap, replicate, set}
use Rattle.std.specs.Prelude.{slice_set}
use Rattle.line_pool.specs.Pools.{Pool}
use Rattle.device_lines.proofs.Regions.{set_twice}
use Rattle.device_lines.proofs.lines.store.Goals as goal

pub returns-clause-stored : goal.returns-clause-stored
returns-clause-stored c =
    ap (λ (p : Pool). record { slots = slice_set p.slots c.in-Some.slot (Some c.args.bytes.now); spare = p.spare }) c.in-Some.ensures.taken
    ∙ ap (λ (l : List (Option (List ℕ))). record { slots = l; spare = c.args.pool.now.spare - 1 }) (set_twice c.args.pool.now.slots c.in-Some.slot (Some (replicate 64 0)) (Some c.args.bytes.now))
