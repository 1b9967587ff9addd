-- Short words for events, messages and bytes, by which the worked traces are written.
use Rattle.std.specs.Prelude.{List, None, Some, [], replicate, ℕ, ◌++◌, ◌∷◌}
use Rattle.cxl_message.specs.declared.channels.Channel.{Channel}
use Rattle.cxl_message.specs.declared.events.Act.{Act}
use Rattle.cxl_message.specs.declared.events.Cause.{Cause}
use Rattle.cxl_message.specs.declared.events.Event.{Event}
use Rattle.cxl_message.specs.declared.events.Op.{Op}
use Rattle.cxl_message.specs.declared.events.Out.{Out}
use Rattle.cxl_message.specs.declared.events.Sends.{Sends}
use Rattle.cxl_message.specs.declared.identifiers.BiTag.{BiTag}
use Rattle.cxl_message.specs.declared.identifiers.Bytes64.{Bytes64}
use Rattle.cxl_message.specs.declared.identifiers.Line.{Line}
use Rattle.cxl_message.specs.declared.identifiers.Tag.{Tag}
use Rattle.cxl_message.specs.declared.messages.Message.{Message}
use Rattle.cxl_message.specs.declared.opcodes.Meta.{Meta}
use Rattle.cxl_message.specs.declared.opcodes.NdrOp.{NdrOp}
use Rattle.cxl_message.specs.declared.opcodes.ReqOp.{ReqOp}
use Rattle.cxl_message.specs.declared.opcodes.RspOp.{RspOp}
use Rattle.cxl_message.specs.declared.opcodes.SnpOp.{SnpOp}
use Rattle.cxl_message.specs.declared.opcodes.SnpType.{SnpType}
use Rattle.cxl_message.specs.declared.opcodes.Span.{Span}
use Rattle.cxl_message.specs.Script.{ScriptValue}
use Rattle.cxl_message.specs.Setup.{Configuration}
use Rattle.coherence_model.specs.Traces.{device}

-- a line of memory by its number
abbrev pub line : ℕ → Line
line n = record { 0 = n }

-- a Tag by its number
abbrev pub tag : ℕ → Tag
tag n = record { 0 = n }

-- a BITag by its number
abbrev pub bitag : ℕ → BiTag
bitag n = record { 0 = n }

-- 64 times the same byte
abbrev pub filled : ℕ → Bytes64
filled byte = record { 0 = replicate 64 byte }

-- 64 zero bytes
abbrev pub zeros : Bytes64
zeros = filled 0

-- the bytes of a word whose value is below 256
abbrev pub small_word : ℕ → List ℕ
small_word value = replicate 7 0 ++ value ∷ []

-- a line of eight words with values below 256, of which these are the first two and the others zero
abbrev pub two_words : ℕ → ℕ → Bytes64
two_words first second = record { 0 = small_word first ++ small_word second ++ replicate 48 0 }

-- a line whose first word has this value below 256 and whose other bytes are zero
abbrev pub one_word : ℕ → Bytes64
one_word first = two_words first 0

-- a load of line a
abbrev pub load : ℕ → Op
load a = Op.Load (line a)

-- a store of a word: line, place and value
abbrev pub word : ℕ → ℕ → ℕ → Op
word a place value = Op.Word (line a) place value

-- a store of a whole line
abbrev pub whole : ℕ → Bytes64 → Op
whole a bytes = Op.Whole (line a) bytes

-- M2S Req: MemRd Shared SnpData, with tag and line
abbrev pub read_shared : ℕ → ℕ → Message
read_shared t a = Message.Req ReqOp.MemRd Meta.Shared SnpType.SnpData (tag t) (line a)

-- M2S Req: MemRd Any SnpInv, with tag and line
abbrev pub read_any : ℕ → ℕ → Message
read_any t a = Message.Req ReqOp.MemRd Meta.Any SnpType.SnpInv (tag t) (line a)

-- M2S Req: MemInv Any SnpInv, with tag and line
abbrev pub invalidate : ℕ → ℕ → Message
invalidate t a = Message.Req ReqOp.MemInv Meta.Any SnpType.SnpInv (tag t) (line a)

-- M2S Req: MemClnEvct Invalid No-Op, with tag and line
abbrev pub clean_evict : ℕ → ℕ → Message
clean_evict t a = Message.Req ReqOp.MemClnEvct Meta.Invalid SnpType.NoOp (tag t) (line a)

-- M2S RwD: MemWr Invalid No-Op, with tag, line and bytes
abbrev pub write_invalid : ℕ → ℕ → Bytes64 → Message
write_invalid t a bytes = Message.MemWr Meta.Invalid SnpType.NoOp (tag t) (line a) bytes

-- M2S RwD: MemWr Shared No-Op, with tag, line and bytes
abbrev pub write_shared : ℕ → ℕ → Bytes64 → Message
write_shared t a bytes = Message.MemWr Meta.Shared SnpType.NoOp (tag t) (line a) bytes

-- M2S RwD: BIConflict, with its tag
abbrev pub bi_conflict : ℕ → Message
bi_conflict t = Message.BiConflict (tag t)

-- M2S BIRsp: BIRspI, with its BITag and the line counted from the first of the snoop
abbrev pub rsp_invalid : ℕ → ℕ → Message
rsp_invalid b low = Message.BiRsp RspOp.I (bitag b) low

-- M2S BIRsp: BIRspS, with its BITag and the line counted from the first of the snoop
abbrev pub rsp_shared : ℕ → ℕ → Message
rsp_shared b low = Message.BiRsp RspOp.S (bitag b) low

-- M2S BIRsp: BIRspIBlk, with its BITag
abbrev pub rsp_invalid_block : ℕ → Message
rsp_invalid_block b = Message.BiRsp RspOp.IBlk (bitag b) 0

-- S2M NDR: Cmp, with its tag
abbrev pub cmp : ℕ → Message
cmp t = Message.Ndr NdrOp.Cmp (tag t)

-- S2M NDR: Cmp-S, with its tag
abbrev pub cmp_s : ℕ → Message
cmp_s t = Message.Ndr NdrOp.CmpS (tag t)

-- S2M NDR: Cmp-E, with its tag
abbrev pub cmp_e : ℕ → Message
cmp_e t = Message.Ndr NdrOp.CmpE (tag t)

-- S2M NDR: BI-ConflictAck, with its tag
abbrev pub conflict_ack : ℕ → Message
conflict_ack t = Message.Ndr NdrOp.ConflictAck (tag t)

-- S2M DRS: MemData, with its tag and bytes
abbrev pub mem_data : ℕ → Bytes64 → Message
mem_data t bytes = Message.MemData (tag t) bytes

-- S2M BISnp: BISnpData of a line, whose number is the BITag
abbrev pub snp_data : ℕ → Message
snp_data a = Message.BiSnp SnpOp.Dat (bitag a) (line a) Span.One

-- S2M BISnp: BISnpInv of a line, whose number is the BITag
abbrev pub snp_inv : ℕ → Message
snp_inv a = Message.BiSnp SnpOp.Inv (bitag a) (line a) Span.One

-- S2M BISnp: BISnpInvBlk from a line on, whose number is the BITag
abbrev pub snp_inv_block : ℕ → Span → Message
snp_inv_block a span = Message.BiSnp SnpOp.InvBlk (bitag a) (line a) span

-- a Credit for a channel
abbrev pub credit : Channel → Message
credit c = Message.Credit c

-- operation i of stream s
abbrev pub begin : ℕ → ℕ → Op → Cause
begin s i op = Cause.Op s i op

-- the take of a message of host h
abbrev pub take : ℕ → Message → Cause
take h m = Cause.Take h m

-- the act Conflict of a line
abbrev pub conflict : ℕ → Cause
conflict a = Cause.Act (Act.Conflict (line a))

-- the act WriteBack of a line
abbrev pub write_back : ℕ → Cause
write_back a = Cause.Act (Act.WriteBack (line a))

-- the act Answer of a line
abbrev pub answer : ℕ → Cause
answer a = Cause.Act (Act.Answer (line a))

-- the act AnswerBlock of a block, by its first line
abbrev pub answer_block : ℕ → Cause
answer_block a = Cause.Act (Act.AnswerBlock (line a))

-- the Return of a credit by a host
abbrev pub give_back : Channel → Cause
give_back c = Cause.Act (Act.HostReturn c)

-- the act Serve of a tag of a host
abbrev pub serve : ℕ → ℕ → Cause
serve h t = Cause.Act (Act.Serve h (tag t))

-- the act Clean of a tag of a host
abbrev pub clean : ℕ → ℕ → Cause
clean h t = Cause.Act (Act.Clean h (tag t))

-- the act Start of a tag of a host
abbrev pub start : ℕ → ℕ → Cause
start h t = Cause.Act (Act.Start h (tag t))

-- the act Evict for a tag of a host
abbrev pub evict : ℕ → ℕ → Cause
evict h t = Cause.Act (Act.Evict h (tag t))

-- the act Snoop of a host, for the task with a first line
abbrev pub snoop : ℕ → ℕ → Cause
snoop h a = Cause.Act (Act.Snoop h (line a))

-- the act Finish of the task with a first line
abbrev pub finish : ℕ → Cause
finish a = Cause.Act (Act.Finish (line a))

-- the Return of a credit to a host by the device
abbrev pub give_back_to : ℕ → Channel → Cause
give_back_to h c = Cause.Act (Act.DeviceReturn h c)

-- a message sent to or from host h
abbrev pub out : ℕ → Message → Out
out h m = record { host = h; message = m }

-- an event of a host that sends nothing
abbrev pub host : ℕ → Cause → Event
host h cause = record { agent = h; cause = cause; sends = Sends.Nothing; commit = None }

-- an event of a host that sends one message
abbrev pub host_sends : ℕ → Cause → Message → Event
host_sends h cause m = record { agent = h; cause = cause; sends = Sends.One (out h m); commit = None }

-- an event of a host that sends two messages
abbrev pub host_sends_two : ℕ → Cause → Message → Message → Event
host_sends_two h cause m n = record { agent = h; cause = cause; sends = Sends.Two (out h m) (out h n); commit = None }

-- an event of a host that commits operation i of stream s, with the line's bytes after it
abbrev pub host_commits : ℕ → Cause → ℕ → ℕ → Op → Bytes64 → Event
host_commits h cause s i op value = record { agent = h; cause = cause; sends = Sends.Nothing; commit = Some (record { stream = s; index = i; op = op; value = value }) }

-- an operation that hits: it commits at once
abbrev pub host_hits : ℕ → ℕ → ℕ → Op → Bytes64 → Event
host_hits h s i op value = host_commits h (begin s i op) s i op value

-- an event of the device that sends nothing
abbrev pub dev : Cause → Event
dev cause = record { agent = device; cause = cause; sends = Sends.Nothing; commit = None }

-- an event of the device that sends one message to host h
abbrev pub dev_sends : Cause → ℕ → Message → Event
dev_sends cause h m = record { agent = device; cause = cause; sends = Sends.One (out h m); commit = None }

-- an event of the device that sends two messages to host h
abbrev pub dev_sends_two : Cause → ℕ → Message → Message → Event
dev_sends_two cause h m n = record { agent = device; cause = cause; sends = Sends.Two (out h m) (out h n); commit = None }

-- a setup with so many hosts, lines, filter entries, ways, tags and credits, and the hosts of its streams
abbrev pub setup_of : ℕ → ℕ → ℕ → ℕ → ℕ → ℕ → List ℕ → Configuration
setup_of hosts lines entries ways tags credits streams = record { hosts = hosts; lines = lines; entries = entries; ways = ways; tags = tags; credits = credits; streams = streams }

-- a script without an opening, with room for 100 events of each agent
abbrev pub script_of : Configuration → List (List Op) → List ℕ → ScriptValue
script_of setup operations picks = record { setup = setup; names = []; room = 100; opening = []; operations = operations; picks = picks }
