-- One more request is changed, and at the end all are.
use Rattle.std.proofs.Common.{◌∙◌, ◌<◌, ◌≤◌, length, arith}
use Rattle.device_record.specs.BufferChanges.{request_roomed}
use Rattle.device_tables.specs.Waiting.{room_seen}
use Rattle.device_tables.proofs.Places.{front_all, front_next}
use Rattle.device_tables.proofs.waiting.set_progress_of.Goals as goal

pub loop-place-preserved : goal.loop-place-preserved
loop-place-preserved c =
    let low : c.loop-place.place < length c.args.waiting.now.items = omega (arith, c.loop-place-test.true, c.len-place-end.ensures, c.args.waiting.now.ok.0) in
    record {
      items = front_next (request_roomed c.args.tag.0 (room_seen c.args.progress)) c.args.waiting.now.items c.loop-place.waiting.items c.loop-place.place c.index.result.now c.with_progress.result low c.loop-place.invariant.items c.index.ensures c.with_progress.ensures;
      len = c.loop-place.invariant.len;
      capacity = c.loop-place.invariant.capacity;
    }

pub returns-clause-items : goal.returns-clause-items
returns-clause-items c =
    let high : length c.args.waiting.now.items ≤ c.loop-place.place = omega (arith, c.loop-place-test.false, c.len-place-end.ensures, c.args.waiting.now.ok.0) in
    c.loop-place.invariant.items ∙ front_all (request_roomed c.args.tag.0 (room_seen c.args.progress)) c.args.waiting.now.items c.loop-place.place high
