-- With more bytes the record is cut short as long.
use Rattle.std.proofs.Common.{◌+◌, ℕ, List, arith, ap, sym, subst, length, take}
use Rattle.std.proofs.lemmas.List.{length-append, length-take}
use Rattle.trace_stream.specs.Readings.{IsQuiet, Reading}
use Rattle.trace_stream.proofs.Scanned.{piece_bytes, quiet_still}
use Rattle.trace_stream.proofs.readers.TraceReader.take.Goals as goal

pub invariant_of-self : goal.invariant_of-self
invariant_of-self c =
    let inside = c.self.inside in
    let fed : List ℕ = take c.feed.result c.args.piece.now in
    let reading : Reading = record { place = inside.place; waiting = inside.waiting; stage = inside.stage; fault = inside.fault } in (
      c.feed.ensures.fits,
      omega (arith, c.requires, ap (λ (r : Reading). r.place + length r.waiting) c.self.view_is, ap (length {A = ℕ}) c.feed.ensures.after, length-append inside.waiting fed, length-take c.feed.result c.args.piece.now),
      c.self.invariant.2,
      subst (λ (waiting : List ℕ). IsQuiet (record reading { waiting = waiting }) inside.quiet) (sym c.feed.ensures.after)
          (quiet_still reading inside.quiet fed (piece_bytes c.feed.result c.args.piece.now (λ i. omega (arith, c.type_inv.piece i))) c.self.invariant.3),
    )
