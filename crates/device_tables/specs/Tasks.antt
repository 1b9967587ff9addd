-- How a task is kept.
use Rattle.std.specs.Prelude.{List, [], if◌then◌else◌, length, map, take, ℕ, ◌==◌, ◌∷◌, ◌≡◌, ◌≤◌}
use Rattle.snoop_filter.specs.declared.blocks.Block.{Block}
use Rattle.block_snoop.specs.Answering.{LeftRecord}
use Rattle.coherence_model.specs.Tasks.{Purpose}
use Rattle.snoop_filter.specs.Victims.{block_from, block_lines}
use Rattle.device_record.specs.Record.{TaskRecord}
use Rattle.device_record.specs.Tables.{changed_at}
use Rattle.device_tables.specs.declared.tasks.TaskKind.{TaskKind}
use Rattle.device_tables.specs.declared.tasks.Task.TheInside.{Inside}

-- the purpose that a kind is (own rule)
abbrev pub purpose_seen : TaskKind → Purpose
purpose_seen TaskKind.SharedRead = Purpose.SharedRead
purpose_seen TaskKind.OwningRead = Purpose.OwningRead
purpose_seen TaskKind.Invalidation = Purpose.Invalidation
purpose_seen TaskKind.Eviction = Purpose.Eviction

-- the lines that the first n hosts have left (own rule)
abbrev pub lefts_seen : ℕ → List LeftRecord → List (List ℕ)
lefts_seen n lefts = map (λ (l : LeftRecord). l.left) (take n lefts)

-- what a task is seen as (own rule)
abbrev pub task_seen : Inside → TaskRecord
task_seen t =
    record {
      first = t.block.first.0;
      purpose = purpose_seen t.kind;
      host = t.host;
      tag = t.tag.0;
      span = t.block.span;
      left = lefts_seen t.hosts t.left;
    }

-- the answers that are kept are those of one block (own rule)
abbrev pub AreOfBlock : Block → List LeftRecord → Type 0
AreOfBlock b [] = Unit {0}
AreOfBlock b (l ∷ ls) = (l.block ≡ b) × AreOfBlock b ls

-- how a task is kept: the answers of sixteen hosts, of which the setup has some, all for its block (own rule)
pub record IsTask (t : Inside) : Type 0 where
  pub hosts : t.hosts ≤ 16
  pub sixteen : length t.left ≡ 16
  pub block : AreOfBlock t.block t.left

-- the tasks that stand, and how many there is room for (own rule)
pub record TaskList : Type 0 where
  pub tasks : List TaskRecord
  pub room : ℕ

-- a task by which a host is asked, if it is that of line a (own rule)
abbrev pub task_asked : ℕ → ℕ → TaskRecord → TaskRecord
task_asked a h t = if t.first == a then record t { left = changed_at h (λ old. block_lines (block_from t.first t.span)) t.left } else t
