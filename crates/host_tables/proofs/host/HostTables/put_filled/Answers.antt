-- The copy is that of a fill.
use Rattle.std.proofs.Common.{ap, sym, ◌∙◌}
use Rattle.cxl_message.specs.Events.{line_of}
use Rattle.coherence_model.specs.Copies.{Copy}
use Rattle.event_room.specs.Parts.{commit_of, op_of}
use Rattle.host_cache.specs.Caches.{copy_with}
use Rattle.host_record.specs.Ways.{put_way}
use Rattle.host_tables.specs.Agent.{AgentRecord}
use Rattle.host_tables.proofs.Copies.{filled_is}
use Rattle.host_tables.proofs.host.HostTables.put_filled.Goals as goal

pub returns : goal.returns
returns c =
    let old : AgentRecord = c.args.self.now in
    c.put_copy.ensures
    ∙ (λ j. record old { kept = record old.kept { ways = put_way (c.line_named.ensures j) (copy_with (c.filled_state-state.ensures j) (record { 0 = c.args.commit.value.now })) old.kept.ways } })
    ∙ ap (λ (x : Copy). record old { kept = record old.kept { ways = put_way (line_of (op_of c.args.commit.op)) x old.kept.ways } }) (sym (filled_is c.args.grant (commit_of c.args.commit) (op_of c.args.commit.op)))
