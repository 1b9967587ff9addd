-- Where a task stands.
use Rattle.std.proofs.Common.{◌<◌, ◌≤◌, length, arith}
use Rattle.cxl_message.specs.declared.opcodes.Span.{Span}
use Rattle.cxl_message.specs.Codes.{span_len}
use Rattle.cxl_message.specs.Setup.{Configuration}
use Rattle.device_record.specs.Record.{DeviceRecord, TaskRecord}
use Rattle.device_record.specs.Steady.{IsPlaced, IsSteady}

some_line : (s : Span) → 1 ≤ span_len s
some_line Span.One = omega arith
some_line Span.Two = omega arith
some_line Span.Four = omega arith

-- the first line of a task is one of memory
pub first_in_memory : (setup : Configuration) (k : DeviceRecord) (t : TaskRecord) → IsSteady setup k → IsPlaced setup k t → t.first < length k.memory
first_in_memory setup k t steady placed = omega (arith, some_line t.span, placed.within, steady.tables.memory)
