-- An event is counted behind the others.
use Rattle.trace_viewer.proofs.Parts.{event_counted, in_any_case}
use Rattle.trace_viewer.proofs.showing.show_event.Goals as goal

pub returns-clause-counted : goal.returns-clause-counted
returns-clause-counted c items same = in_any_case c.render_room.result (event_counted items c.args.event.now c.args.tallies.now c.count_room.new.self same c.in_ok-count_room.ensures.ok)
