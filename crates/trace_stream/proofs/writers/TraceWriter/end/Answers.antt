-- The end of a trace.
use Rattle.std.proofs.Common.{subst}
use Rattle.cxl_codec.specs.EndRecord.{EndFits}
use Rattle.cxl_codec.specs.Traces.{end_bytes}
use Rattle.trace_stream.specs.Buffers.{Gathers, GathersFront}
use Rattle.trace_stream.specs.Writing.{Writing}
use Rattle.trace_stream.proofs.Beginnings.{ends_at, fails_last}
use Rattle.trace_stream.proofs.Putting.{on_refusal}
use Rattle.trace_stream.proofs.writers.TraceWriter.end.Goals as goal

pub returns-in_err-put_end-clause-front : goal.returns-in_err-put_end-clause-front
returns-in_err-put_end-clause-front g c =
    let new = c.put_end.new.self in
    let front = subst (λ (w : Writing). GathersFront w.out new (end_bytes w.count)) c.self.view_is c.in_err-put_end.ensures.front in
    on_refusal c.from_residual.result (λ start version setup names opening events begun. fails_last version setup names opening start c.args.self.now new events begun front)

pub returns-clause-trace : goal.returns-clause-trace
returns-clause-trace g c start version setup names opening events begun =
    let new = c.put_end.new.self in
    let put = subst (λ (w : Writing). Gathers w.out new (end_bytes w.count)) c.self.view_is c.in_ok-put_end.ensures.put in
    let fits = subst (λ (w : Writing). EndFits w.count) c.self.view_is c.in_ok-put_end.ensures.fits in
    ends_at version setup names opening start c.args.self.now new events begun put c.in_ok-put_end.ensures.all fits
