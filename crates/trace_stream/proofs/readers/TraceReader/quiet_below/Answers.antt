-- An opening record that is begun waits.
use Rattle.std.proofs.Common.{◌<◌, ◌++◌, ℕ, List, length, sym, subst, ◌∙◌}
use Rattle.std.specs.Prelude.{All}
use Rattle.cxl_codec.specs.Openings.{opening_cells, OpeningFits}
use Rattle.cxl_codec.specs.Grammar.{IsCutShort}
use Rattle.trace_stream.specs.Readings.{IsQuiet, Reading}
use Rattle.trace_stream.proofs.Scanned.{quiet_opening}
use Rattle.trace_stream.proofs.readers.TraceReader.quiet_below.Goals as goal

pub returns : goal.returns
returns c =
    let inside = c.self.inside in
    let below = c.opening_cut_below.result in
    let reading : Reading = record { place = inside.place; waiting = inside.waiting; stage = inside.stage; fault = inside.fault } in
    subst (λ (r : Reading). IsQuiet r below) c.self.view_is
    (quiet_opening reading below (sym c.is_some.ensures ∙ c.if-is_some.false) (sym c.takes_openings.ensures ∙ c.if-not-takes_openings.false)
    (subst (λ (ws : List ℕ). (more : List ℕ) → All (λ b. b < 256) more → length (ws ++ more) < below → IsCutShort OpeningFits opening_cells (ws ++ more)) c.bytes.ensures c.opening_cut_below.ensures.cut))
