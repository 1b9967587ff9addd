-- One name after another is put.
use Rattle.std.proofs.Common.{[], arith, ◌∙◌, ◌+◌, ◌≡◌, ◌≤◌, List, ℕ, subst, sym}
use Rattle.cxl_codec.specs.NameRecord.{NameFits}
use Rattle.cxl_codec.specs.Traces.{name_bytes}
use Rattle.trace_stream.specs.Buffers.{Gathers, GathersFront}
use Rattle.trace_stream.proofs.Costs.{no_fault}
use Rattle.trace_stream.proofs.Putting.{on_refusal}
use Rattle.trace_stream.proofs.RecordLists.{named_at, puts_record, front_of_record, fits_one_more}
use Rattle.trace_stream.proofs.buffers.Buffered.put_names.Goals as goal

pub put_name-requires : goal.put_name-requires
put_name-requires g c =
    let named = named_at c.args.names.now c.loop-place.place _ c.at-stream.ensures (omega arith) c.requires.streams c.len-place-end.ensures.names in
    let reached = c.loop-place.invariant.reached in
    record { stream = named.stream; spelled = named.spelled; counts = omega (arith, reached, c.requires.counts) }

pub loop-place-preserved : goal.loop-place-preserved
loop-place-preserved g c =
    let names = c.args.names.now in
    let i = c.loop-place.place in
    let before = c.loop-place.invariant in
    let named = named_at names i _ c.at-stream.ensures (omega arith) c.requires.streams c.len-place-end.ensures.names in
    let put = c.in_ok-put_name.ensures in
    let rises = put.kept.reached in
    let old = before.reached in
    record {
      put = puts_record name_bytes _ _ _ _ _ _ names i (0, []) named.within before.put (subst (λ (n : ℕ × List ℕ). Gathers c.loop-place.self c.put_name.new.self (name_bytes n)) (sym named.there) put.put);
      fits = fits_one_more NameFits names i (0, []) named.within before.fits (subst NameFits (sym named.there) put.fits);
      bounded = put.bounded;
      same_sink = put.kept.same_sink ∙ before.same_sink;
      faults = no_fault _ _ _ _ put.kept ∙ before.faults;
      reached = omega (arith, old, rises);
    }

pub returns-in_err-put_name-clause-front : goal.returns-in_err-put_name-clause-front
returns-in_err-put_name-clause-front g c =
    let names = c.args.names.now in
    let i = c.loop-place.place in
    let named = named_at names i _ c.at-stream.ensures (omega arith) c.requires.streams c.len-place-end.ensures.names in
    on_refusal c.from_residual.result
    (front_of_record name_bytes _ _ _ _ _ names i (0, []) named.within c.loop-place.invariant.put (subst (λ (n : ℕ × List ℕ). GathersFront c.loop-place.self c.put_name.new.self (name_bytes n)) (sym named.there) c.in_err-put_name.ensures.front))
