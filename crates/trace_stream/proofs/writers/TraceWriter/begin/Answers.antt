-- A trace that wasn't begun whole.
use Rattle.std.proofs.Common.{[], subst}
use Rattle.std.specs.Option.{option_map_or}
use Rattle.trace_stream.specs.Buffers.{Buffer, GathersFront}
use Rattle.trace_stream.specs.Writing.{Writing, begin_bytes_in}
use Rattle.trace_stream.proofs.Beginnings.{fails_first}
use Rattle.trace_stream.proofs.Putting.{on_refusal}
use Rattle.trace_stream.proofs.writers.TraceWriter.begin.Goals as goal

pub returns-in_err-put_begin-clause-front : goal.returns-in_err-put_begin-clause-front
returns-in_err-put_begin-clause-front g c =
    let setup = c.args.setup.now in
    let opening = c.args.opening.now in
    let old = c.args.self.now in
    let new = c.put_begin.new.self in
    let inside = c.self.inside in
    let first = subst (λ (b : Buffer). GathersFront b new (begin_bytes_in inside.version setup (option_map_or (λ n. n.now) inside.names []) opening)) c.reserve.ensures c.in_err-put_begin.ensures.front in
    let front = subst (λ (w : Writing). GathersFront w.out new (begin_bytes_in w.version setup w.names opening)) c.self.view_is first in
    on_refusal c.from_residual-in_err-put_begin.result (fails_first old.version setup old.names opening old.out.gone new.gone old.out.waiting c.requires.unused.empty front)
