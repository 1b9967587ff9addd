-- What the rows of the device ask of what they read.
use Rattle.std.specs.Prelude.{None, Option, Some, if◌then◌else◌, nat_lt, ℕ, ◌<◌, ◌≡◌}
use Rattle.cxl_message.specs.declared.channels.Channel.{Channel}
use Rattle.coherence_model.specs.DeviceActs.{Request}
use Rattle.device_record.specs.Answers.{request_of}
use Rattle.device_record.specs.Record.{CreditRecord, DeviceRecord, WaitingRequest, left_on, request_with, requests_at}

-- the line of the buffered request of a host with a tag is one of the filter's (own rule)
abbrev pub LinesExist : DeviceRecord → ℕ → ℕ → Type 0
LinesExist k h tag = (w : WaitingRequest) (r : Request) → request_with tag (requests_at h k.requests) ≡ Some w → request_of w ≡ Some r → r.line < k.filter.lines

-- a channel of which no credit is left (own rule)
abbrev pub short_on : Channel → CreditRecord → Option Channel
short_on c left = if nat_lt (left_on c left) 1 then Some c else None
