-- A binary search over ascending lines finds the pair with the line, or none has it.
use Rattle.std.proofs.Common.{sym, ap, inl, inr, arith, rules}
use Rattle.std.specs.Option.{option_map_or}
use Rattle.std.specs.declared.cmp.Ordering.{Ordering}
use Rattle.std.proofs.lemmas.Bool.{cases_lt}
use Rattle.std.proofs.lemmas.Cmp.{ranked}
use Rattle.std.proofs.lemmas.List.Sorted.{answers_always}
use Rattle.cxl_message.specs.Opening.{zero_bytes}
use Rattle.cxl_message.proofs.Ascending.{find-there, find-none, index_rises, lines_rise, not_less, not_greater}
use Rattle.cxl_message.proofs.openings.bytes_in.Goals as goal

pub returns-in-Ok : goal.returns-in-Ok
returns-in-Ok c =
    let at = c.in-Ok.ensures.position (λ pair. pair.0.0) (answers_always _ _ _ (λ f a r g h. search rules)) in
    sym (ap (λ found. option_map_or (λ p. p.1) found zero_bytes)
    (find-there 0 c.args.line.0 c.args.pairs.now c.requires c.in-Ok.place _ (omega (arith, c.in-Ok.ensures.bound)) (ranked _ _ Ordering.Equal (sym (at _)))))

pub returns-in-Err : goal.returns-in-Err
returns-in-Err c =
    let parts = c.in-Err.ensures.position (λ pair. pair.0.0) (answers_always _ _ _ (λ f a r g h. search rules)) (λ i j d le below. index_rises _ _ c.args.line.0 (lines_rise 0 c.args.pairs.now c.requires i j d le below)) in
    sym (ap (λ found. option_map_or (λ p. p.1) found zero_bytes)
    (find-none c.args.line.0 c.args.pairs.now (λ k d below same. elim (cases_lt k c.in-Err.field-0) [
      | inl before ↦ not_less _ _ (parts.0 k d (omega arith) before) same
      | inr after ↦ not_greater _ _ (parts.1 k d after below) same
    ])))
