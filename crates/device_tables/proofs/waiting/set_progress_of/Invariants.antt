-- The first requests are changed, the others are as they were.
use Rattle.std.proofs.Common.{◌≡◌, length, vec_capacity, vec_len}
use Rattle.device_record.specs.BufferChanges.{request_roomed}
use Rattle.device_tables.specs.Changing.{front_changed}
use Rattle.device_tables.specs.Waiting.{room_seen}
use Rattle.device_tables.proofs.waiting.set_progress_of.Given as goal

abbrev pub invariant-loop-place : goal.invariant-loop-place
invariant-loop-place l =
    record {
      items : l.waiting.items ≡ front_changed (request_roomed l.tag.0 (room_seen l.progress)) l.place l.fn.waiting.items;
      len : vec_len l.waiting ≡ vec_len l.fn.waiting;
      capacity : vec_capacity l.waiting ≡ vec_capacity l.fn.waiting;
    }
