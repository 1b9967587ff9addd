-- What the device keeps after its own events, by looking back over them.
use Rattle.std.specs.Prelude.{List, None, Option, Some, map, option_map, ℕ}
use Rattle.cxl_message.specs.declared.channels.Channel.{Channel}
use Rattle.cxl_message.specs.declared.events.Event.{Event}
use Rattle.cxl_message.specs.declared.identifiers.Bytes64.{Bytes64}
use Rattle.cxl_message.specs.declared.identifiers.Line.{Line}
use Rattle.cxl_message.specs.declared.messages.Message.{Message}
use Rattle.cxl_message.specs.Lists.{below}
use Rattle.cxl_message.specs.Messages.{tag_of}
use Rattle.cxl_message.specs.Setup.{Configuration}
use Rattle.coherence_model.specs.Buffers.{buffered_requests, buffered_writes}
use Rattle.coherence_model.specs.Credits.{credits_left, held_count}
use Rattle.coherence_model.specs.Directory.{Directory, is_busy}
use Rattle.coherence_model.specs.DirectoryChanges.{directory}
use Rattle.coherence_model.specs.Memory.{memory}
use Rattle.coherence_model.specs.Room.{Room, request_room, reservation_count}
use Rattle.coherence_model.specs.SentSnoops.{unanswered_lines}
use Rattle.coherence_model.specs.Tasks.{Task}
use Rattle.snoop_filter.specs.Filters.{FilterRecord}
use Rattle.snoop_filter.specs.Rows.{FilterRow}
use Rattle.device_record.specs.Record.{CreditRecord, DeviceRecord, TaskRecord, WaitingRequest}
use Rattle.device_record.specs.Sparse.{sparse}

-- the row of line a (own rule)
abbrev pub kept_row : ℕ → Directory → ℕ → FilterRow
kept_row hosts D a = record { line = a; listings = map (D.listed a) (below hosts); held = is_busy D a }

-- the rows, in the order of the entries (own rule)
abbrev pub kept_rows : ℕ → Directory → List FilterRow
kept_rows hosts D = map (kept_row hosts D) D.entries

-- the filter (own rule)
abbrev pub kept_filter : Configuration → List Event → FilterRecord
kept_filter setup mine =
    record {
      rows = kept_rows setup.hosts (directory setup mine);
      reserved = reservation_count setup mine;
      entries = setup.entries;
      hosts = setup.hosts;
      lines = setup.lines;
    }

-- the task with first line a (own rule)
abbrev pub kept_task : ℕ → (ℕ → List ℕ) → ℕ → Task → TaskRecord
kept_task hosts left a t = record { first = a; purpose = t.purpose; host = t.host; tag = t.tag; span = t.span; left = map left (below hosts) }

-- what a table of tasks has at line a, with the lines left by line and host (own rule)
abbrev pub task_of : ℕ → (ℕ → Option Task) → (ℕ → ℕ → List ℕ) → ℕ → Option TaskRecord
task_of hosts task left a = option_map (kept_task hosts (left a) a) (task a)

-- the lines left of the snoop of line a to a host (own rule)
abbrev pub lines_left : List Event → ℕ → ℕ → List ℕ
lines_left mine a h = unanswered_lines h a mine

-- the tasks, by ascending first line (own rule)
abbrev pub kept_tasks : Configuration → List Event → List TaskRecord
kept_tasks setup mine = sparse (task_of setup.hosts (directory setup mine).task (lines_left mine)) (below setup.lines)

-- the room by tag, for a message that may have one (own rule)
abbrev pub room_in : (ℕ → Room) → Option ℕ → Room
room_in rooms None = Room.NoEviction
room_in rooms (Some tag) = rooms tag

-- a buffered Req message, with the rooms by tag (own rule)
abbrev pub with_room : (ℕ → Room) → Message → WaitingRequest
with_room rooms m = record { message = m; room = room_in rooms (tag_of m) }

-- a buffered Req message of host h (own rule)
abbrev pub kept_request : Configuration → ℕ → List Event → Message → WaitingRequest
kept_request setup h mine m = with_room (λ tag. request_room setup h tag mine) m

-- the buffered Req messages of host h (own rule)
abbrev pub kept_requests : Configuration → List Event → ℕ → List WaitingRequest
kept_requests setup mine h = map (kept_request setup h mine) (buffered_requests h mine)

-- the credits of host h (own rule)
abbrev pub kept_credits : Configuration → List Event → ℕ → CreditRecord
kept_credits setup mine h =
    record {
      req_held = held_count h Channel.Req mine;
      rwd_held = held_count h Channel.Rwd mine;
      rsp_held = held_count h Channel.BiRsp mine;
      ndr_left = credits_left setup h Channel.Ndr mine;
      drs_left = credits_left setup h Channel.Drs mine;
      snp_left = credits_left setup h Channel.BiSnp mine;
    }

-- all that is kept after the device's own events, newest first (own rule)
abbrev pub kept_device : Configuration → List (Line × Bytes64) → List Event → DeviceRecord
kept_device setup opening mine =
    record {
      memory = map (λ a. memory opening a mine) (below setup.lines);
      filter = kept_filter setup mine;
      tasks = kept_tasks setup mine;
      requests = map (kept_requests setup mine) (below setup.hosts);
      writes = map (λ h. buffered_writes h mine) (below setup.hosts);
      credits = map (kept_credits setup mine) (below setup.hosts);
    }
