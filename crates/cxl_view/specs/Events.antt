-- An event as one line of text. Numbers are decimal, and the bytes of a line are hexadecimal digits. Every rule here is an own rule.
use Rattle.std.specs.Prelude.{ℕ, List, [], ◌∷◌, ◌++◌, ◌+◌, ◌==◌, Option, Some, None, if◌then◌else◌, codes, decimal}
use Rattle.std.specs.List.{flat_map}
use Rattle.std.specs.Int.{w64, to_be_bytes}
use Rattle.hex.specs.Hex.{encode_lower}
use Rattle.cxl_message.specs.declared.limits.TheConstants.{DEVICE}
use Rattle.cxl_message.specs.declared.opcodes.Span.{Span}
use Rattle.cxl_message.specs.declared.messages.Message.{Message}
use Rattle.cxl_message.specs.declared.events.Act.{Act}
use Rattle.cxl_message.specs.declared.events.Cause.{Cause}
use Rattle.cxl_message.specs.declared.events.Commit.{Commit}
use Rattle.cxl_message.specs.declared.events.Event.{Event}
use Rattle.cxl_message.specs.declared.events.Op.{Op}
use Rattle.cxl_message.specs.declared.events.Out.{Out}
use Rattle.cxl_message.specs.Events.{outs}
use Rattle.cxl_view.specs.Words.{meta_word, snoop_type_word, request_word, response_word, completion_word, snoop_word, channel_word}

-- a word and a number
abbrev pub field : List ℕ → ℕ → List ℕ
field word number = word ++ decimal number

-- a word and bytes, two hexadecimal digits each
abbrev pub bytes_field : List ℕ → List ℕ → List ℕ
bytes_field word bytes = word ++ encode_lower bytes

-- a host
abbrev pub host_text : ℕ → List ℕ
host_text host = field (codes "h") host

-- who makes an event: a host, or the device
abbrev pub agent_text : ℕ → List ℕ
agent_text agent = if agent == DEVICE then codes "dev" else host_text agent

-- how many lines a snoop is for, where it is for more than one
abbrev pub span_text : Span → List ℕ
span_text Span.One = []
span_text Span.Two = codes " span=2"
span_text Span.Four = codes " span=4"

-- a message
abbrev pub message_text : Message → List ℕ
message_text (Message.Req op meta snp tag line) =
    request_word op ++ 32 ∷ meta_word meta ++ 32 ∷ snoop_type_word snp ++ field (codes " tag=") tag.0 ++ field (codes " line=") line.0
message_text (Message.MemWr meta snp tag line bytes) =
    codes "MemWr " ++ meta_word meta ++ 32 ∷ snoop_type_word snp ++ field (codes " tag=") tag.0 ++ field (codes " line=") line.0 ++ bytes_field (codes " bytes=") bytes.0
message_text (Message.BiConflict tag) = field (codes "BIConflict tag=") tag.0
message_text (Message.BiRsp op bitag low) = response_word op ++ field (codes " bitag=") bitag.0 ++ field (codes " low=") low
message_text (Message.Ndr op tag) = completion_word op ++ field (codes " tag=") tag.0
message_text (Message.MemData tag bytes) = field (codes "MemData tag=") tag.0 ++ bytes_field (codes " bytes=") bytes.0
message_text (Message.BiSnp op bitag line span) = snoop_word op ++ field (codes " bitag=") bitag.0 ++ field (codes " line=") line.0 ++ span_text span
message_text (Message.Credit channel) = codes "Credit " ++ channel_word channel

-- a stream and which of its operations it is
abbrev pub place_text : ℕ → ℕ → List ℕ
place_text stream index = field (codes " s") stream ++ field (codes ".") index

-- an operation of a stream
abbrev pub op_text : ℕ → ℕ → Op → List ℕ
op_text stream index (Op.Load line) = codes "load" ++ place_text stream index ++ field (codes " line=") line.0
op_text stream index (Op.Word line place value) =
    codes "word" ++ place_text stream index ++ field (codes " line=") line.0 ++ field (codes " place=") place ++ bytes_field (codes " value=") (to_be_bytes w64 value)
op_text stream index (Op.Whole line bytes) = codes "whole" ++ place_text stream index ++ field (codes " line=") line.0 ++ bytes_field (codes " bytes=") bytes.0

-- an act of the device on a request or a write: a word, its host and its Tag
abbrev pub served_text : List ℕ → ℕ → ℕ → List ℕ
served_text word host tag = word ++ host_text host ++ field (codes " tag=") tag

-- an act
abbrev pub act_text : Act → List ℕ
act_text (Act.Conflict line) = field (codes "Conflict line=") line.0
act_text (Act.WriteBack line) = field (codes "WriteBack line=") line.0
act_text (Act.Answer line) = field (codes "Answer line=") line.0
act_text (Act.AnswerBlock line) = field (codes "AnswerBlock line=") line.0
act_text (Act.HostReturn channel) = codes "Return " ++ channel_word channel
act_text (Act.Serve host tag) = served_text (codes "Serve ") host tag.0
act_text (Act.Clean host tag) = served_text (codes "Clean ") host tag.0
act_text (Act.Start host tag) = served_text (codes "Start ") host tag.0
act_text (Act.Evict host tag) = served_text (codes "Evict ") host tag.0
act_text (Act.Snoop host line) = codes "Snoop " ++ host_text host ++ field (codes " line=") line.0
act_text (Act.Finish line) = field (codes "Finish line=") line.0
act_text (Act.DeviceReturn host channel) = codes "Return " ++ host_text host ++ 32 ∷ channel_word channel

-- why an event happens
abbrev pub cause_text : Cause → List ℕ
cause_text (Cause.Op stream index op) = op_text stream index op
cause_text (Cause.Take host message) = codes "take " ++ host_text host ++ 32 ∷ message_text message
cause_text (Cause.Act act) = codes "act " ++ act_text act

-- a message that an event sends
abbrev pub out_text : Out → List ℕ
out_text out = codes " > " ++ host_text out.host ++ 32 ∷ message_text out.message

-- what an event commits, if it commits something: the operation, and the line's bytes after it
abbrev pub commit_text : Option Commit → List ℕ
commit_text None = []
commit_text (Some c) = codes " = " ++ op_text c.stream c.index c.op ++ bytes_field (codes " gives ") c.value.0

-- an event: who makes it, why, what it sends and what it commits
abbrev pub event_text : Event → List ℕ
event_text e = agent_text e.agent ++ 32 ∷ cause_text e.cause ++ flat_map out_text (outs e.sends) ++ commit_text e.commit

-- the line of an event: its number, and the event
abbrev pub event_line : ℕ → Event → List ℕ
event_line number e = decimal number ++ 32 ∷ event_text e ++ 10 ∷ []

-- the lines of events, the first of which has this number
abbrev pub event_lines : ℕ → List Event → List ℕ
event_lines number [] = []
event_lines number (e ∷ events) = event_line number e ++ event_lines (number + 1) events
