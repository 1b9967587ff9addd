-- A word is the decimal number that it is parsed as, or none.
use Rattle.std.proofs.Common.{◌≡◌, ℕ, ◌<◌, ◌≤◌, arith, refl, subst, sym, ◌∙◌}
use Rattle.std.proofs.lemmas.Bool.{false≢true}
use Rattle.std.specs.Fmt.{decimal}
use Rattle.cxlmem.proofs.Counts.{read_again}
use Rattle.cxlmem.proofs.forms.count_of.Goals as goal
use Rattle.cxlmem.proofs.forms.count_of.Goals.{else-number-le-MAX_OPERATIONS-via-then-number-le-MAX_OPERATIONS+else-is_text, else-number-le-MAX_OPERATIONS-via-else-number-le-MAX_OPERATIONS}

above : (n : ℕ) → 65536 < n → n ≤ 65536 → ⊥
above n more less = omega (arith, more, less)

pub returns-in_default-clause-no_number : goal.returns-in_default-clause-no_number
returns-in_default-clause-no_number c n small is none =
    let read = read_again n c.as_str.result.now small (c.as_str.ensures.value ∙ is) in
    c.in_default.ensures.value.0 (read.0, omega (arith, read.1, small))

pub returns-else-number-le-MAX_OPERATIONS-clause-no_number : goal.returns-else-number-le-MAX_OPERATIONS-clause-no_number
returns-else-number-le-MAX_OPERATIONS-clause-no_number c n small is none =
    let read = read_again n c.as_str.result.now small (c.as_str.ensures.value ∙ is) in
    let same : c.in-Ok.number ≡ n = c.in-Ok.ensures.value.0.1 ∙ read.1 in
    elim c.else-number-le-MAX_OPERATIONS.branch [
      | else-number-le-MAX_OPERATIONS-via-then-number-le-MAX_OPERATIONS+else-is_text w ↦
          false≢true (sym w.if-is_text.false ∙ w.is_text.ensures.1 (is ∙ subst (λ (k : ℕ). decimal n ≡ decimal k) (sym same) refl ∙ sym w.format.ensures.text))
      | else-number-le-MAX_OPERATIONS-via-else-number-le-MAX_OPERATIONS w ↦ above c.in-Ok.number w.if-number-le-MAX_OPERATIONS.false (subst (λ (k : ℕ). k ≤ 65536) (sym same) small)
    ]
