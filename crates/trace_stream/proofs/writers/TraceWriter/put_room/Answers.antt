-- One more event.
use Rattle.std.proofs.Common.{◌+◌, ap, subst}
use Rattle.cxl_codec.specs.declared.versions.Version.{Version}
use Rattle.cxl_codec.specs.Events.{EventFitsIn}
use Rattle.cxl_codec.specs.Traces.{event_bytes_in}
use Rattle.trace_stream.specs.Buffers.{Gathers, GathersFront}
use Rattle.trace_stream.specs.Writing.{Writing}
use Rattle.trace_stream.proofs.Beginnings.{goes_on, fails_at}
use Rattle.trace_stream.proofs.Putting.{on_refusal}
use Rattle.trace_stream.proofs.writers.TraceWriter.put_room.Goals as goal

pub returns-in_err-put_room-clause-front : goal.returns-in_err-put_room-clause-front
returns-in_err-put_room-clause-front g c =
    let e = c.args.room.now in
    let new = c.put_room.new.self in
    let front = subst (λ (w : Writing). GathersFront w.out new (event_bytes_in w.version e)) c.self.view_is c.in_err-put_room.ensures.front in
    on_refusal c.from_residual.result (λ start version setup names opening events begun.
    fails_at version setup names opening start c.args.self.now new events e begun (subst (λ (v : Version). GathersFront c.args.self.now.out new (event_bytes_in v e)) begun.of_version front))

pub returns-clause-goes_on : goal.returns-clause-goes_on
returns-clause-goes_on g c start version setup names opening events begun =
    let e = c.args.room.now in
    let new = c.put_room.new.self in
    let put = subst (λ (w : Writing). Gathers w.out new (event_bytes_in w.version e)) c.self.view_is c.in_ok-put_room.ensures.put in
    let own = subst (λ (v : Version). Gathers c.args.self.now.out new (event_bytes_in v e)) begun.of_version put in
    let fits = subst (λ (v : Version). EventFitsIn v e) begun.of_version (subst (λ (w : Writing). EventFitsIn w.version e) c.self.view_is c.in_ok-put_room.ensures.fits) in
    goes_on version setup names opening start c.args.self.now _ events e begun own fits (ap (λ (w : Writing). w.count + 1) c.self.view_is) (ap (λ (w : Writing). w.version) c.self.view_is)
