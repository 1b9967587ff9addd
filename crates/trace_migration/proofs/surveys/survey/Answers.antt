-- The head takes what each item has for it, and at the end it is the head of the trace.
use Rattle.std.proofs.Common.{[], refl, ◌∷◌, ◌++◌}
use Rattle.trace_stream.specs.Items.{item_of}
use Rattle.trace_migration.specs.declared.refusals.MigrateRefusal.{MigrateRefusal}
use Rattle.trace_migration.proofs.Surveyed.{goes_on_by, head_of, one_told, passed_on, told_fault}
use Rattle.trace_migration.proofs.surveys.survey.Goals as goal

pub take-requires : goal.take-requires
take-requires c =
    let i = c.loop-found.invariant in
    (i.items, goes_on_by c.args.bytes.now i.items (item_of c.next.new.room c.in-Some.found) c.next.new.self c.loop-found.head i.is (c.in-Some.ensures.item c.args.bytes.now i.items i.at))

pub loop-found-preserved : goal.loop-found-preserved
loop-found-preserved c =
    let i = c.loop-found.invariant in
    let item = item_of c.next.new.room c.in-Some.found in
    let at = c.in-Some.ensures.item c.args.bytes.now i.items i.at in
    record {
      items = i.items ++ item ∷ [];
      at = at;
      is = c.in_ok-take.ensures i.items (goes_on_by c.args.bytes.now i.items item c.next.new.self c.loop-found.head i.is at);
    }

pub finish-requires : goal.finish-requires
finish-requires c = let i = c.loop-found.invariant in (c.args.bytes.now, i.items, c.in_default.ensures.over refl c.args.bytes.now i.items i.at)

pub returns-in_err-finish-clause-fault : goal.returns-in_err-finish-clause-fault
returns-in_err-finish-clause-fault c fault is =
    let i = c.loop-found.invariant in
    told_fault c.args.bytes.now c.in_err-finish.field-0.0 fault (c.in_err-finish.ensures.fault c.args.bytes.now i.items (c.in_default.ensures.over refl c.args.bytes.now i.items i.at)) (one_told c.from_residual-in_err-finish.result c.in_err-finish.field-0.0 fault (passed_on c.from_residual-in_err-finish.result (MigrateRefusal.NotATrace c.in_err-finish.field-0.0) c.from_residual-in_err-finish.ensures.1) is)

pub returns-clause-trace : goal.returns-clause-trace
returns-clause-trace c =
    let i = c.loop-found.invariant in
    head_of c.args.bytes.now i.items c.in_ok-finish.field-0 c.loop-found.head i.is (c.in_ok-finish.ensures.whole c.args.bytes.now i.items (c.in_default.ensures.over refl c.args.bytes.now i.items i.at))
