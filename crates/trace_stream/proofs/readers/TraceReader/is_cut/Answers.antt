-- An event record that is cut short waits.
use Rattle.std.proofs.Common.{◌≡◌, ◌<◌, ◌⊎◌, inl, inr, true, Ok, ℕ, List, ◌∙◌, arith, ap, sym, subst, length}
use Rattle.std.specs.Prelude.{not, ◌==◌}
use Rattle.trace_stream.specs.declared.items.Item.{Item}
use Rattle.trace_stream.specs.Readings.{Answered, IsQuiet, Reading}
use Rattle.trace_stream.proofs.Scanned.{quiet_from, quiet_now}
use Rattle.trace_stream.proofs.readers.TraceReader.is_cut.Goals as goal

-- a number that isn't 0 is above
above : (n below : ℕ) → not (below == 0) ≡ true → (below ≡ 0) ⊎ (n < below) → n < below
above n below some more = elim more [
  | inl none ↦ absurd (zero_is_not below none some)
  | inr lt ↦ lt
] where
  zero_is_not : (k : ℕ) → k ≡ 0 → not (k == 0) ≡ true → ⊥
  zero_is_not k none some = let wrong : not (0 == 0) ≡ true = subst (λ (m : ℕ). not (m == 0) ≡ true) none some in absurd cc

pub invariant_of-self : goal.invariant_of-self
invariant_of-self c =
    let inside = c.self.inside in
    let below = c.cut_below-self-inside in
    let reading : Reading = record { place = inside.place; waiting = inside.waiting; stage = inside.stage; fault = inside.fault } in (
      omega (arith, ap (length {A = ℕ}) below.ensures.same, c.self.invariant.0),
      omega (arith, ap (length {A = ℕ}) below.ensures.same, c.self.invariant.1),
      c.self.invariant.2,
      subst (λ (waiting : List ℕ). IsQuiet (record reading { waiting = waiting }) below.result) (sym below.ensures.same)
          (quiet_from reading below.result (sym c.is_some.ensures ∙ c.if-is_some.false) (sym c.takes_events.ensures ∙ c.if-not-takes_events.false) below.ensures.cut),
    )

pub returns-clause-cut : goal.returns-clause-cut
returns-clause-cut c cut =
    let inside = c.self.inside in
    let below = c.cut_below-self-inside in
    let reading : Reading = record { place = inside.place; waiting = inside.waiting; stage = inside.stage; fault = inside.fault } in
    let quiet : IsQuiet reading below.result = quiet_from reading below.result (sym c.is_some.ensures ∙ c.if-is_some.false) (sym c.takes_events.ensures ∙ c.if-not-takes_events.false) below.ensures.cut in
    subst (λ (r : Reading). Answered r (Ok Item.More)) c.self.view_is
    (quiet_now reading below.result quiet (above (length inside.waiting) below.result cut below.ensures.above))
