-- What a host's decisions send and commit: the row of a take, and the head of the message that an act sends. All of it is an own rule.
use Rattle.std.specs.Prelude.{Bool, Err, None, Ok, Option, Result, Some, false, if◌then◌else◌, nat_lt, true, ℕ, ◌&&◌}
use Rattle.std.specs.Option.{option_map_or, option_or}
use Rattle.cxl_message.specs.declared.channels.Channel.{Channel}
use Rattle.cxl_message.specs.declared.events.Act.{Act}
use Rattle.cxl_message.specs.declared.identifiers.Bytes64.{Bytes64}
use Rattle.cxl_message.specs.declared.messages.Message.{Message}
use Rattle.cxl_message.specs.declared.states.RuleNo.{RuleNo}
use Rattle.cxl_message.specs.Channels.{has_credits}
use Rattle.cxl_message.specs.Messages.{channel_of}
use Rattle.cxl_message.specs.Opening.{zero_bytes}
use Rattle.coherence_model.specs.Emission.{Emission, nothing, one_send}
use Rattle.coherence_model.specs.HostTakes.{fill_emission}
use Rattle.coherence_model.specs.Transactions.{Transaction}
use Rattle.event_room.specs.declared.messages.MessageHead.{MessageHead}
use Rattle.event_room.specs.Heads.{with_payload}
use Rattle.host_plans.specs.declared.plans.Plan.{Plan}
use Rattle.host_record.specs.HostRecord.{HostRecord}
use Rattle.host_record.specs.Tables.{lookup}
use Rattle.host_record.specs.View.{View, left_of}
use Rattle.host_record.specs.Ways.{copy_in}
use Rattle.host_rows.specs.declared.answers.HostRefusal.{HostRefusal}
use Rattle.host_rows.specs.declared.taking.TakeRow.{TakeRow}

-- ---- takes

-- what is open performed on these bytes of its line
abbrev pub filled_with : Bytes64 → Option Transaction → Emission
filled_with bytes None = nothing
filled_with bytes (Some o) = fill_emission o bytes

-- what is open performed on the bytes that were taken for it before
abbrev pub filled_held : Option Transaction → Emission
filled_held None = nothing
filled_held (Some o) = option_map_or (fill_emission o) o.bytes nothing

-- what the row of a take brings, by the bytes of the message and what is open with its Tag
abbrev pub row_emission : TakeRow → Bytes64 → Option Transaction → Emission
row_emission TakeRow.Quiet carried found = nothing
row_emission TakeRow.Held carried found = filled_held found
row_emission TakeRow.Carried carried found = filled_with carried found
row_emission TakeRow.Zeros carried found = filled_with zero_bytes found

-- what the row of the take of a message brings: of all messages an NDR or a MemData alone may fill
abbrev pub take_emission : Message → HostRecord → TakeRow → Emission
take_emission (Message.Req _ _ _ _ _) k row = nothing
take_emission (Message.MemWr _ _ _ _ _) k row = nothing
take_emission (Message.BiConflict _) k row = nothing
take_emission (Message.BiRsp _ _ _) k row = nothing
take_emission (Message.Ndr _ tag) k row = row_emission row zero_bytes (lookup k.opened tag.0)
take_emission (Message.MemData tag bytes) k row = row_emission row bytes (lookup k.opened tag.0)
take_emission (Message.BiSnp _ _ _ _) k row = nothing
take_emission (Message.Credit _) k row = nothing

-- ---- acts

-- the line that an act of a host names: line 0 where it names none
abbrev pub act_line : Act → ℕ
act_line (Act.Conflict line) = line.0
act_line (Act.WriteBack line) = line.0
act_line (Act.Answer line) = line.0
act_line (Act.AnswerBlock line) = line.0
act_line (Act.HostReturn _) = 0
act_line (Act.Serve _ _) = 0
act_line (Act.Clean _ _) = 0
act_line (Act.Start _ _) = 0
act_line (Act.Evict _ _) = 0
act_line (Act.Snoop _ _) = 0
act_line (Act.Finish _) = 0
act_line (Act.DeviceReturn _ _) = 0

-- what an act sends, by its message's head: the bytes, where it has some, are those of its line's copy
abbrev pub act_emission : ℕ → Act → HostRecord → MessageHead → Emission
act_emission h act k head = one_send h (with_payload head (copy_in k.ways (act_line act)).bytes)

-- ---- credits

-- the channel of a message
abbrev pub head_channel : MessageHead → Channel
head_channel head = channel_of (with_payload head zero_bytes)

-- a channel where fewer than n of its credits are left
abbrev pub short_on : View → ℕ → Channel → Option Channel
short_on v n c = if has_credits c && nat_lt (left_of v c) n then Some c else None

-- the first channel whose credits don't reach for an eviction and a request: an eviction of modified bytes is a MemWr
abbrev pub short_of_two : View → Bool → Option Channel
short_of_two v true = option_or (short_on v 1 Channel.Rwd) (short_on v 1 Channel.Req)
short_of_two v false = option_or (short_on v 2 Channel.Req) (short_on v 1 Channel.Req)

-- the first channel whose credits don't reach for what a plan sends
abbrev pub short_of_plan : View → (ℕ → Bool) → Plan → Option Channel
short_of_plan v dirty Plan.Hit = None
short_of_plan v dirty (Plan.Request tag) = short_on v 1 Channel.Req
short_of_plan v dirty (Plan.Drop victim tag) = short_on v 1 Channel.Req
short_of_plan v dirty (Plan.Replace victim lower tag) = short_of_two v (dirty victim.0)

-- ---- answers

-- why a planned operation is refused: its credits, P0, S0
abbrev pub refusal_of_plan : Option Channel → Bool → Bool → Option HostRefusal
refusal_of_plan (Some c) passes next = Some (HostRefusal.NoCredit c)
refusal_of_plan None false next = Some (HostRefusal.Broken RuleNo.P0)
refusal_of_plan None true false = Some (HostRefusal.Broken RuleNo.S0)
refusal_of_plan None true true = None

-- what a decision answers, by what it emits
abbrev pub decided : {A : Type 0} → (A → Emission) → Result A HostRefusal → Result Emission HostRefusal
decided emits (Ok row) = Ok (emits row)
decided emits (Err refusal) = Err refusal
