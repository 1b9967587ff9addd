-- An event's record is short.
use Rattle.std.proofs.Common.{ℕ, ◌+◌, ◌*◌, ◌<◌, ◌≤◌, ◌≡◌, length, ap, sym, subst, ◌^◌, ◌∙◌, arith, length-append}
use Rattle.cxl_codec.specs.Traces.{event_bytes_in}
use Rattle.trace_stream.specs.Buffers.{Buffer, reach}
use Rattle.trace_stream.specs.Writing.{event_cost}
use Rattle.trace_stream.proofs.Costs.{keeps_after}
use Rattle.trace_stream.proofs.Lengths.{event_bytes_length}
use Rattle.trace_stream.proofs.buffers.Buffered.put_event.Goals as goal

pub drain-requires : goal.drain-requires
drain-requires g c =
    let event = c.args.event.now in
    let size : length c.encode_event_in.new.out.items ≡ length c.self.inside.waiting.items + length (event_bytes_in c.args.version event) =
    ap (length {A = ℕ}) c.in_ok-encode_event_in.ensures.ok ∙ length-append c.self.inside.waiting.items (event_bytes_in c.args.version event) in
    let before : g.K.Sink.highest_count c.self.inside.sink.now + 2 * length c.self.inside.waiting.items + event_cost < 2 ^ 63 =
    subst (λ (b : Buffer). reach b + event_cost < 2 ^ 63) (sym c.self.view_is) c.requires.counts in
    record { counts = omega (arith, size, event_bytes_length c.args.version event c.in_ok-encode_event_in.ensures.fits, before) }

pub returns-clause-kept : goal.returns-clause-kept
returns-clause-kept g c =
    let event = c.args.event.now in
    let size : length c.encode_event_in.new.out.items ≡ length c.self.inside.waiting.items + length (event_bytes_in c.args.version event) =
    ap (length {A = ℕ}) c.in_ok-encode_event_in.ensures.ok ∙ length-append c.self.inside.waiting.items (event_bytes_in c.args.version event) in
    let short : length (event_bytes_in c.args.version event) ≤ 370 = event_bytes_length c.args.version event c.in_ok-encode_event_in.ensures.fits in
    let highest : g.K.Sink.highest_count c.self.inside.sink.now + 2 * length c.self.inside.waiting.items ≡ reach c.args.self.now = ap reach c.self.view_is in
    keeps_after c.args.self.now _ c.drain.new.self 799 1 c.drain.result (ap (λ (b : Buffer). b.sink) c.self.view_is) (ap (λ (b : Buffer). b.faults) c.self.view_is) (omega (arith, size, short, highest)) c.drain.ensures.kept
