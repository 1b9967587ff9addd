-- Where a task lies.
use Rattle.std.specs.Prelude.{ℕ, ◌+◌, ◌≤◌}
use Rattle.cxl_message.specs.Codes.{span_len}
use Rattle.device_record.specs.Record.{TaskRecord}

-- a task is over so many lines (own rule)
abbrev pub LiesWithin : ℕ → TaskRecord → Type 0
LiesWithin lines t = t.first + span_len t.span ≤ lines
