-- One opening after another is put.
use Rattle.std.proofs.Common.{[], arith, ◌∙◌}
use Rattle.cxl_codec.specs.Openings.{OpeningFits}
use Rattle.cxl_codec.specs.Traces.{opening_bytes}
use Rattle.trace_stream.proofs.Costs.{no_fault}
use Rattle.trace_stream.proofs.Putting.{on_refusal}
use Rattle.trace_stream.proofs.RecordLists.{puts_record, front_of_record, fits_one_more}
use Rattle.trace_stream.proofs.buffers.Buffered.put_openings.Goals as goal

pub loop-line-preserved : goal.loop-line-preserved
loop-line-preserved g c =
    let before = c.loop-line.invariant in
    let put = c.in_ok-put_opening.ensures in
    let rises = put.kept.reached in
    let old = before.reached in
    record {
      put = puts_record opening_bytes _ _ _ _ _ _ c.args.pairs.now c.loop-line.line-index (record { 0 = 0 }, record { 0 = [] }) (omega arith) before.put put.put;
      fits = fits_one_more OpeningFits c.args.pairs.now c.loop-line.line-index (record { 0 = 0 }, record { 0 = [] }) (omega arith) before.fits put.fits;
      bounded = put.bounded;
      same_sink = put.kept.same_sink ∙ before.same_sink;
      faults = no_fault _ _ _ _ put.kept ∙ before.faults;
      reached = omega (arith, old, rises);
    }

pub returns-in_err-put_opening-clause-front : goal.returns-in_err-put_opening-clause-front
returns-in_err-put_opening-clause-front g c =
    on_refusal c.from_residual.result
    (front_of_record opening_bytes _ _ _ _ _ c.args.pairs.now c.loop-line.line-index (record { 0 = 0 }, record { 0 = [] }) (omega arith) c.loop-line.invariant.put c.in_err-put_opening.ensures.front)
