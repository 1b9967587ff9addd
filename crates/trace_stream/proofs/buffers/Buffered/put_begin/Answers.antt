-- The header, then the names, and then the openings.
use Rattle.std.proofs.Common.{List, IsTrue, ◌++◌, ℕ, length, subst, sym}
use Rattle.std.specs.List.{flat_map}
use Rattle.std.proofs.lemmas.Result.{on_err_weaker, on_ok_weaker}
use Rattle.cxl_message.specs.Opening.{opening_fits}
use Rattle.cxl_message.specs.declared.identifiers.Line.{Line}
use Rattle.cxl_message.specs.declared.identifiers.Bytes64.{Bytes64}
use Rattle.cxl_codec.specs.Traces.{header_bytes_in, opening_bytes}
use Rattle.trace_stream.specs.Buffers.{Gathers, GathersFront}
use Rattle.trace_stream.proofs.Putting.{puts_twice, puts_then_front, front_of_more, on_refusal}
use Rattle.trace_stream.proofs.RecordLists.{fits_more, named_streams}
use Rattle.trace_stream.proofs.buffers.Buffered.put_begin.Goals as goal

pub returns-in_err-put_header-clause-front : goal.returns-in_err-put_header-clause-front
returns-in_err-put_header-clause-front g c =
    on_refusal c.from_residual.result (front_of_more _ _ _ (header_bytes_in c.args.version c.args.setup.now) _ c.in_err-put_header.ensures.front)

pub put_given-requires-clause-streams : goal.put_given-requires-clause-streams
put_given-requires-clause-streams g c = named_streams c.args.version (length c.args.setup.now.streams) _ c.in_ok-put_header.ensures.limits.limits.streams c.requires.named

pub returns-in_err-put_given-clause-front : goal.returns-in_err-put_given-clause-front
returns-in_err-put_given-clause-front g c =
    on_refusal c.from_residual-in_err-put_given.result
    (puts_then_front _ _ _ _ _ (header_bytes_in c.args.version c.args.setup.now) _ c.in_ok-put_header.ensures.put (front_of_more _ _ _ _ (flat_map opening_bytes c.args.opening.now) c.in_err-put_given.ensures.front))

pub put_openings-requires-clause-lines : goal.put_openings-requires-clause-lines
put_openings-requires-clause-lines g c =
    let fits : IsTrue (opening_fits 65536 c.args.opening.now) =
    fits_more c.args.setup.now.lines 65536 c.in_ok-put_header.ensures.limits.limits.lines.1 c.args.opening.now c.requires.lines in
    subst (λ (pairs : List (Line × Bytes64)). IsTrue (opening_fits 65536 pairs)) (sym c.pairs.ensures.pairs) fits

pub returns-clause-put : goal.returns-clause-put
returns-clause-put g c =
    let named = c.put_given.new.self in
    let new = c.put_openings.new.self in
    on_ok_weaker c.put_openings.result
    (λ put.
    let opened : Gathers named new (flat_map opening_bytes c.args.opening.now) = subst (λ (pairs : List (Line × Bytes64)). Gathers named new (flat_map opening_bytes pairs)) c.pairs.ensures.pairs put in
    puts_twice _ _ _ _ _ _ (header_bytes_in c.args.version c.args.setup.now) _ c.in_ok-put_header.ensures.put (puts_twice _ _ _ _ _ _ _ (flat_map opening_bytes c.args.opening.now) c.in_ok-put_given.ensures.put opened))
    c.put_openings.ensures.put

pub returns-clause-front : goal.returns-clause-front
returns-clause-front g c =
    let named = c.put_given.new.self in
    let new = c.put_openings.new.self in
    on_err_weaker c.put_openings.result
    (λ front.
    let opened : GathersFront named new (flat_map opening_bytes c.args.opening.now) = subst (λ (pairs : List (Line × Bytes64)). GathersFront named new (flat_map opening_bytes pairs)) c.pairs.ensures.pairs front in
    puts_then_front _ _ _ _ _ (header_bytes_in c.args.version c.args.setup.now) _ c.in_ok-put_header.ensures.put (puts_then_front _ _ _ _ _ _ (flat_map opening_bytes c.args.opening.now) c.in_ok-put_given.ensures.put opened))
    c.put_openings.ensures.front
