-- The loop goes on by each item, and what it has put at the end are the events of the trace.
use Rattle.std.proofs.Common.{arith, refl, ◌∙◌}
use Rattle.trace_stream.proofs.Costs.{no_fault}
use Rattle.trace_stream.specs.Items.{item_of}
use Rattle.trace_migration.proofs.Events.{few_at, last_formed, loop_cut, loop_done, loop_goes_on, nothing_put, on_refusal}
use Rattle.trace_migration.proofs.Fronts.{no_fault_in_trace}
use Rattle.trace_migration.proofs.putting.put_events.Goals as goal

pub returns-in_err-walk-clause-cut_short : goal.returns-in_err-walk-clause-cut_short
returns-in_err-walk-clause-cut_short g c = on_refusal c.from_residual.result (nothing_put c.args.bytes.now c.args.writer.now)

pub put_item-requires-clause-formed : goal.put_item-requires-clause-formed
put_item-requires-clause-formed g c =
    let l = c.loop-found.invariant.at in
    last_formed c.args.bytes.now l.items (item_of c.next.new.room c.in-Some.found) c.next.new.self (c.in-Some.ensures.item c.args.bytes.now l.items l.at)

pub put_item-requires-clause-events : goal.put_item-requires-clause-events
put_item-requires-clause-events g c =
    let l = c.loop-found.invariant.at in
    let few = (few_at c.args.bytes.now l.items c.loop-found.walk l.at).events in
    let short = c.requires.short in
    let counted = l.counted in
    omega (arith, few, short, counted)

pub put_item-requires-clause-counts : goal.put_item-requires-clause-counts
put_item-requires-clause-counts g c =
    let l = c.loop-found.invariant.at in
    let few = (few_at c.args.bytes.now l.items c.loop-found.walk l.at).all in
    let short = c.requires.short in
    let rises = l.rises in
    let start = c.requires.counts in
    omega (arith, few, short, rises, start)

pub loop-found-preserved : goal.loop-found-preserved
loop-found-preserved g c =
    let i = c.loop-found.invariant in
    let l = i.at in
    let item = item_of c.next.new.room c.in-Some.found in
    let e = c.in_ok-put_item.ensures in
    record {
      at = loop_goes_on c.args.bytes.now c.loop-found.walk c.next.new.self c.args.writer.now c.loop-found.writer c.put_item.new.writer item l (c.in-Some.ensures.item c.args.bytes.now l.items l.at) e.goes_on e.count e.kept.reached;
      begun = e.progress;
      version = e.same_version ∙ i.version;
      faults = no_fault _ _ _ _ e.kept ∙ i.faults;
      same_sink = e.kept.same_sink ∙ i.same_sink;
    }

pub returns-in_err-put_item-clause-cut_short : goal.returns-in_err-put_item-clause-cut_short
returns-in_err-put_item-clause-cut_short g c =
    let l = c.loop-found.invariant.at in
    on_refusal c.from_residual-in_err-put_item.result
    (loop_cut c.args.bytes.now c.loop-found.walk c.next.new.self c.args.writer.now c.loop-found.writer c.put_item.new.writer (item_of c.next.new.room c.in-Some.found) l (c.in-Some.ensures.item c.args.bytes.now l.items l.at)
    c.in_err-put_item.ensures.front)

pub finish-requires : goal.finish-requires
finish-requires g c = let l = c.loop-found.invariant.at in (c.args.bytes.now, l.items, c.in_default.ensures.over refl c.args.bytes.now l.items l.at)

pub unreachable-requires : goal.unreachable-requires
unreachable-requires g c =
    let l = c.loop-found.invariant.at in
    let t = c.requires.trace in
    no_fault_in_trace c.args.bytes.now t.version t.setup t.names t.opening t.events c.in-Err.field-0 t.trace (c.in-Err.ensures.fault c.args.bytes.now l.items (c.in_default.ensures.over refl c.args.bytes.now l.items l.at))

pub returns-clause-put : goal.returns-clause-put
returns-clause-put g c =
    let l = c.loop-found.invariant.at in
    loop_done c.args.bytes.now l.items c.in-Ok.field-0 c.args.writer.now c.loop-found.writer l.put (c.in-Ok.ensures.whole c.args.bytes.now l.items (c.in_default.ensures.over refl c.args.bytes.now l.items l.at))

pub returns-clause-counts : goal.returns-clause-counts
returns-clause-counts g c =
    let l = c.loop-found.invariant.at in
    let few = (few_at c.args.bytes.now l.items c.loop-found.walk l.at).all in
    let short = c.requires.short in
    let rises = l.rises in
    let start = c.requires.counts in
    omega (arith, few, short, rises, start)
