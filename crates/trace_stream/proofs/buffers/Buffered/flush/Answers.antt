-- What a failed write leaves.
use Rattle.std.proofs.Common.{ℕ, List, [], take, subst}
use Rattle.std.specs.Io.KnownBytes.{Appends}
use Rattle.trace_stream.specs.Buffers.{Buffer, PutsFront}
use Rattle.trace_stream.proofs.Putting.{front_went}
use Rattle.trace_stream.proofs.buffers.Buffered.flush.Goals as goal

pub returns-in-Err-clause-front : goal.returns-in-Err-clause-front
returns-in-Err-clause-front g c =
    let count = c.in-Err.field-0.gone in
    let new = g.K.Sink.gone c.write_all.new.sink in
    subst (λ (b : Buffer). PutsFront b.gone new b.waiting []) c.self.view_is
    (front_went _ _ c.self.inside.waiting.items count
    (subst (λ (bytes : List ℕ). Appends (g.K.Sink.gone c.self.inside.sink.now) new (take count bytes)) c.deref.ensures.value c.in-Err.ensures.front))
