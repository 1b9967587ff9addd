-- What each act asks holds where the device may step.
use Rattle.std.proofs.Common.{◌<◌, length, refl, ap, arith}
use Rattle.device_tables.specs.Tasks.{TaskList}
use Rattle.device_state.specs.Decisions.{heads_sent}
use Rattle.device_changes.proofs.Heads.{snooped}
use Rattle.device_changes.proofs.Acts.{act_inside, clean_waits, evict_may, evict_room, start_may, start_room, start_waits, write_fits}
use Rattle.device_changes.proofs.changes.act_on.Goals as goal

pub serve-requires-clause-line : goal.serve-requires-clause-line
serve-requires-clause-line c =
    let may = act_inside _ _ _ _ _ _ c.tables.view_is c.in-Serve.is refl c.requires in write_fits _ _ c.in-Serve.host c.in-Serve.tag.0 may.before

pub clean-requires-clause-waiting : goal.clean-requires-clause-waiting
clean-requires-clause-waiting c =
    let may = act_inside _ _ _ _ _ _ c.tables-in-Clean.view_is c.in-Clean.is refl c.requires in clean_waits _ _ c.in-Clean.host c.in-Clean.tag _ may

pub start-requires-clause-waiting : goal.start-requires-clause-waiting
start-requires-clause-waiting c =
    let may = act_inside _ _ _ _ _ _ c.tables-in-Start.view_is c.in-Start.is refl c.requires in start_waits _ _ c.in-Start.host c.in-Start.tag _ may

pub start-requires-clause-may : goal.start-requires-clause-may
start-requires-clause-may c =
    let may = act_inside _ _ _ _ _ _ c.tables-in-Start.view_is c.in-Start.is refl c.requires in start_may _ _ c.in-Start.host c.in-Start.tag _ may

pub start-requires-clause-room : goal.start-requires-clause-room
start-requires-clause-room c =
    let may = act_inside _ _ _ _ _ _ c.tables-in-Start.view_is c.in-Start.is refl c.requires in
    let low : length c.tables-in-Start.inside.tasks.tasks < c.tables-in-Start.inside.setup.lines = start_room _ _ c.in-Start.host c.in-Start.tag _ may in
    omega (arith, low, c.tables-in-Start.invariant.tasks)

pub evict-requires-clause-victim : goal.evict-requires-clause-victim
evict-requires-clause-victim c =
    let may = act_inside _ _ _ _ _ _ c.tables-in-Evict.view_is c.in-Evict.is refl c.requires in evict_may _ _ c.in-Evict.host c.in-Evict.tag _ may

pub evict-requires-clause-room : goal.evict-requires-clause-room
evict-requires-clause-room c =
    let may = act_inside _ _ _ _ _ _ c.tables-in-Evict.view_is c.in-Evict.is refl c.requires in
    let low : length c.tables-in-Evict.inside.tasks.tasks < c.tables-in-Evict.inside.setup.lines = evict_room _ _ c.in-Evict.host c.in-Evict.tag _ may in
    omega (arith, low, c.tables-in-Evict.invariant.tasks)

pub returns-in-Snoop : goal.returns-in-Snoop
returns-in-Snoop c =
    snooped c.args.tables.now _ c.snoop.new.tasks.tasks c.args.act.now c.in-Snoop.host c.in-Snoop.line (heads_sent c.args.decision) c.tables-in-Snoop.view_is c.in-Snoop.is (ap (λ (t : TaskList). t.tasks) c.snoop.ensures)
