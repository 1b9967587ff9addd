-- What an event of the device does to its tasks, by its cause.
use Rattle.std.specs.Prelude.{List, None, Option, Some, [], filter, if◌then◌else◌, map, not, option_and_then, option_map, ℕ, ◌+◌, ◌==◌}
use Rattle.std.specs.Option.{option_map_or}
use Rattle.cxl_message.specs.declared.events.Act.{Act}
use Rattle.cxl_message.specs.declared.events.Cause.{Cause}
use Rattle.cxl_message.specs.declared.identifiers.Tag.{Tag}
use Rattle.cxl_message.specs.declared.messages.Message.{Message}
use Rattle.cxl_message.specs.declared.opcodes.RspOp.{RspOp}
use Rattle.cxl_message.specs.Setup.{Configuration}
use Rattle.cxl_message.specs.Spans.{lines_of}
use Rattle.coherence_model.specs.Tasks.{Task, eviction_task, request_task}
use Rattle.snoop_filter.specs.declared.blocks.Block.{Block}
use Rattle.snoop_filter.specs.Victims.{victim_in}
use Rattle.block_snoop.specs.Answering.{line_answered}
use Rattle.device_record.specs.Kept.{kept_task}
use Rattle.device_record.specs.Record.{DeviceRecord, TaskRecord, request_with, requests_at, task_at}
use Rattle.device_record.specs.Sparse.{put_in_order}
use Rattle.device_record.specs.Tables.{changed_at}

-- the lines left after an answer for line a, or for the whole block (own rule)
abbrev pub lines_still_left : RspOp → ℕ → List ℕ → List ℕ
lines_still_left RspOp.I a left = line_answered a left
lines_still_left RspOp.S a left = line_answered a left
lines_still_left RspOp.E a left = line_answered a left
lines_still_left RspOp.IBlk a left = []
lines_still_left RspOp.SBlk a left = []
lines_still_left RspOp.EBlk a left = []

-- a task with the lines that a host has left changed, if it is that of line a (own rule)
abbrev pub task_left : ℕ → ℕ → (List ℕ → List ℕ) → TaskRecord → TaskRecord
task_left a h change t = if t.first == a then record t { left = changed_at h change t.left } else t

-- the tasks after the take of a message: an answer leaves fewer lines to its host (own rule)
abbrev pub tasks_after_take : ℕ → Message → DeviceRecord → List TaskRecord
tasks_after_take h (Message.Req _ _ _ _ _) k = k.tasks
tasks_after_take h (Message.MemWr _ _ _ _ _) k = k.tasks
tasks_after_take h (Message.BiConflict _) k = k.tasks
tasks_after_take h (Message.BiRsp op bitag low) k = map (task_left bitag.0 h (lines_still_left op (bitag.0 + low))) k.tasks
tasks_after_take h (Message.Ndr _ _) k = k.tasks
tasks_after_take h (Message.MemData _ _) k = k.tasks
tasks_after_take h (Message.BiSnp _ _ _ _) k = k.tasks
tasks_after_take h (Message.Credit _) k = k.tasks

-- a task that begins: no host is Asked by it (own rule)
abbrev pub task_begun : ℕ → ℕ → Task → TaskRecord
task_begun hosts a t = kept_task hosts (λ h. []) a t

-- the task of a request that starts (own rule)
abbrev pub task_started : ℕ → ℕ → Message → Option TaskRecord
task_started hosts h (Message.Req op meta _ tag line) = Some (task_begun hosts line.0 (request_task h tag op meta))
task_started hosts h (Message.MemWr _ _ _ _ _) = None
task_started hosts h (Message.BiConflict _) = None
task_started hosts h (Message.BiRsp _ _ _) = None
task_started hosts h (Message.Ndr _ _) = None
task_started hosts h (Message.MemData _ _) = None
task_started hosts h (Message.BiSnp _ _ _ _) = None
task_started hosts h (Message.Credit _) = None

-- the task that evicts a block for a request (own rule)
abbrev pub task_evicting : ℕ → ℕ → Tag → Block → TaskRecord
task_evicting hosts h tag block = task_begun hosts block.first.0 (eviction_task h tag block.span)

-- the tasks with one more, if there is one (own rule)
abbrev pub tasks_with : Option TaskRecord → List TaskRecord → List TaskRecord
tasks_with None tasks = tasks
tasks_with (Some t) tasks = put_in_order (λ u. u.first) t tasks

-- the tasks without that of line a (own rule)
abbrev pub tasks_without : ℕ → List TaskRecord → List TaskRecord
tasks_without a tasks = filter (λ t. not (t.first == a)) tasks

-- the tasks after an act: Snoop leaves all lines of the task to its host (own rule)
abbrev pub tasks_after_act : Configuration → Act → DeviceRecord → List TaskRecord
tasks_after_act setup (Act.Conflict _) k = k.tasks
tasks_after_act setup (Act.WriteBack _) k = k.tasks
tasks_after_act setup (Act.Answer _) k = k.tasks
tasks_after_act setup (Act.AnswerBlock _) k = k.tasks
tasks_after_act setup (Act.HostReturn _) k = k.tasks
tasks_after_act setup (Act.Serve _ _) k = k.tasks
tasks_after_act setup (Act.Clean _ _) k = k.tasks
tasks_after_act setup (Act.Start h tag) k =
    tasks_with (option_and_then (λ r. task_started setup.hosts h r.message) (request_with tag.0 (requests_at h k.requests))) k.tasks
tasks_after_act setup (Act.Evict h tag) k = tasks_with (option_map (task_evicting setup.hosts h tag) (victim_in k.filter.rows)) k.tasks
tasks_after_act setup (Act.Snoop h line) k =
    map (task_left line.0 h (λ old. option_map_or (λ t. lines_of t.first t.span) (task_at line.0 k.tasks) [])) k.tasks
tasks_after_act setup (Act.Finish line) k = tasks_without line.0 k.tasks
tasks_after_act setup (Act.DeviceReturn _ _) k = k.tasks

-- the tasks after a cause (own rule)
abbrev pub tasks_in : Configuration → Cause → DeviceRecord → List TaskRecord
tasks_in setup (Cause.Op _ _ _) k = k.tasks
tasks_in setup (Cause.Take h m) k = tasks_after_take h m k
tasks_in setup (Cause.Act act) k = tasks_after_act setup act k
