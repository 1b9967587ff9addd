-- The device's tasks: what one is for, and which lines it covers.
use Rattle.std.specs.Prelude.{Bool, Option, false, true, ℕ}
use Rattle.std.specs.Option.{option_map_or}
use Rattle.cxl_message.specs.declared.identifiers.Tag.{Tag}
use Rattle.cxl_message.specs.declared.opcodes.Meta.{Meta}
use Rattle.cxl_message.specs.declared.opcodes.ReqOp.{ReqOp}
use Rattle.cxl_message.specs.declared.opcodes.Span.{Span}
use Rattle.cxl_message.specs.Spans.{covers}

-- what a task is for: the grant of a MemRd Shared, of a MemRd Any, of a MemInv, or an eviction that makes room for a request (own rule)
pub data Purpose : Type 0 where
  SharedRead : Purpose
  OwningRead : Purpose
  Invalidation : Purpose
  Eviction : Purpose

-- a task: its purpose, the host and the tag of its request, and its span (own rule)
pub record Task : Type 0 where
  pub purpose : Purpose
  pub host : ℕ
  pub tag : ℕ
  pub span : Span

-- whether a task is an eviction (own rule)
abbrev pub is_eviction : Purpose → Bool
is_eviction Purpose.SharedRead = false
is_eviction Purpose.OwningRead = false
is_eviction Purpose.Invalidation = false
is_eviction Purpose.Eviction = true

-- the purpose of a MemRd's task, by its Meta0-State (own rule)
abbrev pub read_purpose : Meta → Purpose
read_purpose Meta.Shared = Purpose.SharedRead
read_purpose Meta.Any = Purpose.OwningRead
read_purpose Meta.Invalid = Purpose.OwningRead

-- the purpose of a request's task (own rule)
abbrev pub purpose_of : ReqOp → Meta → Purpose
purpose_of ReqOp.MemRd meta = read_purpose meta
purpose_of ReqOp.MemInv meta = Purpose.Invalidation
purpose_of ReqOp.MemClnEvct meta = Purpose.Invalidation

-- the task of a request, of one line (own rule)
abbrev pub request_task : ℕ → Tag → ReqOp → Meta → Task
request_task h tag op meta = record { purpose = purpose_of op meta; host = h; tag = tag.0; span = Span.One }

-- the task that evicts a block for a request (own rule)
abbrev pub eviction_task : ℕ → Tag → Span → Task
eviction_task h tag span = record { purpose = Purpose.Eviction; host = h; tag = tag.0; span = span }

-- whether the task with a first line, if there is one, covers line a (own rule)
abbrev pub task_covers : ℕ → ℕ → Option Task → Bool
task_covers a first t = option_map_or (λ t. covers first t.span a) t false
