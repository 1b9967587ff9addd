-- All bytes were judged, or their fault was met.
use Rattle.std.proofs.Common.{subst, sym, ◌∙◌}
use Rattle.std.proofs.lemmas.Bool.{false≢true}
use Rattle.trace_check.specs.Judged.{HasChecked, IsLost}
use Rattle.trace_check.proofs.Finishes.{ended_well, has_fault, judged_trace, unless_kept}
use Rattle.trace_check.proofs.Told.{judged_whole}
use Rattle.trace_check.proofs.checker.Checker.finish.Goals as goal

pub verdict-requires : goal.verdict-requires
verdict-requires c =
    let inside = c.self.inside in
    let kept : IsLost inside.judging → ⊥ = λ lost. false≢true (sym c.if-is_lost.false ∙ c.is_lost.ensures.1 lost) in
    let some = unless_kept inside.judging _ kept c.self.invariant in
    let none = ended_well inside.reader.fault _ c.in-Ok.field-0 c.in-Ok.ensures.answer in
    let j = judged_trace some.0 (record { reading = inside.reader; judging = inside.judging }) c.in-Ok.field-0 some.1 none (λ items read. c.in-Ok.ensures.whole some.0 items read) in
    (j.items, j.setup, j.header, j.judged)

pub returns-in-Ok-clause-verdict : goal.returns-in-Ok-clause-verdict
returns-in-Ok-clause-verdict c bytes has =
    let inside = c.self.inside in
    let own : HasChecked bytes (record { reading = inside.reader; judging = inside.judging }) = subst (HasChecked bytes) (sym c.self.view_is) has in
    let none = ended_well inside.reader.fault _ c.in-Ok.field-0 c.in-Ok.ensures.answer in
    let j = judged_trace bytes (record { reading = inside.reader; judging = inside.judging }) c.in-Ok.field-0 own none (λ items read. c.in-Ok.ensures.whole bytes items read) in
    judged_whole bytes j.items c.in-Ok.field-0 c.verdict.result j.trace (λ setup header. c.verdict.ensures j.items setup header j.judged)

pub returns-clause-verdict : goal.returns-clause-verdict
returns-clause-verdict c bytes has =
    let inside = c.self.inside in
    let own : HasChecked bytes (record { reading = inside.reader; judging = inside.judging }) = subst (HasChecked bytes) (sym c.self.view_is) has in
    has_fault bytes (record { reading = inside.reader; judging = inside.judging }) inside.reader.fault _ c.in-Err.fault own.judged c.in-Err.ensures.answer (λ items read. c.in-Err.ensures.fault bytes items read)
