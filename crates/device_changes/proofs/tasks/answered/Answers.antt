-- The lines that are answered are held.
use Rattle.std.proofs.Common.{◌≡◌, ◌+◌, true, inl, subst, sym, ℕ}
use Rattle.snoop_filter.specs.Rows.{has_row}
use Rattle.device_changes.proofs.Standing.{block_answer, shared_row}
use Rattle.device_changes.proofs.tasks.answered.Goals as goal

pub set-requires-in-S-clause-row : goal.set-requires-in-S-clause-row
set-requires-in-S-clause-row c =
    let row = shared_row c.args.op c.args.host c.args.first c.args.low c.args.tasks.now.tasks c.args.filter.now c.requires.answers c.in-S.is in
    inl (subst (λ (n : ℕ). has_row (c.args.first + n) c.args.filter.now.rows ≡ true) (sym c.from-in-S.ensures) row)

pub unlist_left-requires-clause-answers : goal.unlist_left-requires-clause-answers
unlist_left-requires-clause-answers c = block_answer c.args.op c.args.host c.args.first c.args.low c.args.tasks.now.tasks c.args.filter.now c.requires.answers c.in-IBlk.is
