-- After every run the entries of the filter suffice, and the tasks are kept.
use Rattle.std.specs.Prelude.{Bool, List, count_by, is_some, length, nat_le, true, ℕ, ◌&&◌, ◌+◌}
use Rattle.std.specs.List.{list_all}
use Rattle.std.specs.Option.{option_map_or}
use Rattle.cxl_message.specs.declared.events.Event.{Event}
use Rattle.cxl_message.specs.Lists.{below}
use Rattle.cxl_message.specs.Setup.{Configuration}
use Rattle.coherence_model.specs.Buffers.{buffered_requests, message_with}
use Rattle.coherence_model.specs.Directory.{Directory}
use Rattle.coherence_model.specs.DirectoryChanges.{directory}
use Rattle.coherence_model.specs.Room.{reservation_count}
use Rattle.coherence_model.specs.Tasks.{Task, is_eviction, task_covers}
use Rattle.coherence_model.specs.Traces.{device, events_of}
use Rattle.coherence_model.specs.Words.{implies}

-- how many tasks cover line a (own rule)
abbrev pub covering_count : Configuration → Directory → ℕ → ℕ
covering_count setup D a = count_by (λ first. task_covers a first (D.task first)) (below setup.lines)

-- whether the request of an eviction task is buffered; other tasks have none (own rule)
abbrev pub eviction_has_request : List Event → Task → Bool
eviction_has_request mine t = implies (is_eviction t.purpose) (is_some (message_with t.tag (buffered_requests t.host mine)))

-- whether line a is in at most one task, and the eviction that begins at it has its request buffered (own rule)
abbrev pub line_tasks_are_kept : Configuration → Directory → List Event → ℕ → Bool
line_tasks_are_kept setup D mine a = nat_le (covering_count setup D a) 1 && option_map_or (eviction_has_request mine) (D.task a) true

-- whether entries and reservations together are at most the filter's entries (own rule)
abbrev pub entries_suffice : Configuration → List Event → Bool
entries_suffice setup mine = nat_le (length (directory setup mine).entries + reservation_count setup mine) setup.entries

-- entries and reservations suffice, no two tasks share a line, and the request of an eviction is buffered (own rule)
abbrev pub entries_are_kept : Configuration → List Event → Bool
entries_are_kept setup t =
    let mine = events_of device t in
    entries_suffice setup mine && list_all (line_tasks_are_kept setup (directory setup mine) mine) (below setup.lines)
