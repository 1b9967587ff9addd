-- What the device holds buffered, by its own events, newest first. Lists of messages are oldest first.
use Rattle.std.specs.Prelude.{List, None, Option, Some, [], find, if◌then◌else◌, length, ℕ, ◌==◌, ◌∷◌}
use Rattle.cxl_message.specs.declared.channels.Channel.{Channel}
use Rattle.cxl_message.specs.declared.events.Act.{Act}
use Rattle.cxl_message.specs.declared.events.Cause.{Cause}
use Rattle.cxl_message.specs.declared.events.Event.{Event}
use Rattle.cxl_message.specs.declared.identifiers.Tag.{Tag}
use Rattle.cxl_message.specs.declared.messages.Message.{Message}
use Rattle.cxl_message.specs.Messages.{has_tag}
use Rattle.coherence_model.specs.Credits.{owed_count}
use Rattle.coherence_model.specs.Flight.{takes_on}
use Rattle.coherence_model.specs.Words.{with_last}

-- the message with a tag, if there is one (own rule)
abbrev pub message_with : ℕ → List Message → Option Message
message_with tag ms = find (has_tag tag) ms

-- the messages without the first one that has this tag
abbrev pub without_tag : ℕ → List Message → List Message
without_tag tag [] = []
without_tag tag (m ∷ ms) = if has_tag tag m then ms else m ∷ without_tag tag ms

-- the messages without the one that was used, if one was
abbrev pub without_used : Option ℕ → List Message → List Message
without_used None ms = ms
without_used (Some tag) ms = without_tag tag ms

-- the tag, where the act is for this host (own rule)
abbrev pub tag_for : ℕ → ℕ → Tag → Option ℕ
tag_for h host tag = if host == h then Some tag.0 else None

-- the tag of the Req message of host h that an act uses: Clean and Start use one (own rule)
abbrev pub request_used_by : ℕ → Act → Option ℕ
request_used_by h (Act.Conflict _) = None
request_used_by h (Act.WriteBack _) = None
request_used_by h (Act.Answer _) = None
request_used_by h (Act.AnswerBlock _) = None
request_used_by h (Act.HostReturn _) = None
request_used_by h (Act.Serve _ _) = None
request_used_by h (Act.Clean host tag) = tag_for h host tag
request_used_by h (Act.Start host tag) = tag_for h host tag
request_used_by h (Act.Evict _ _) = None
request_used_by h (Act.Snoop _ _) = None
request_used_by h (Act.Finish _) = None
request_used_by h (Act.DeviceReturn _ _) = None

-- the tag of the RwD message of host h that an act uses: Serve uses one (own rule)
abbrev pub write_used_by : ℕ → Act → Option ℕ
write_used_by h (Act.Conflict _) = None
write_used_by h (Act.WriteBack _) = None
write_used_by h (Act.Answer _) = None
write_used_by h (Act.AnswerBlock _) = None
write_used_by h (Act.HostReturn _) = None
write_used_by h (Act.Serve host tag) = tag_for h host tag
write_used_by h (Act.Clean _ _) = None
write_used_by h (Act.Start _ _) = None
write_used_by h (Act.Evict _ _) = None
write_used_by h (Act.Snoop _ _) = None
write_used_by h (Act.Finish _) = None
write_used_by h (Act.DeviceReturn _ _) = None

-- the buffered Req messages of host h after a cause (own rule)
abbrev pub requests_after : ℕ → Cause → List Message → List Message
requests_after h (Cause.Op _ _ _) old = old
requests_after h (Cause.Take host m) old = with_last (takes_on h Channel.Req (Cause.Take host m)) old
requests_after h (Cause.Act act) old = without_used (request_used_by h act) old

-- the buffered Req messages of host h, in the order taken (own rule)
abbrev pub buffered_requests : ℕ → List Event → List Message
buffered_requests h [] = []
buffered_requests h (e ∷ past) = requests_after h e.cause (buffered_requests h past)

-- the buffered RwD messages of host h after a cause (own rule)
abbrev pub writes_after : ℕ → Cause → List Message → List Message
writes_after h (Cause.Op _ _ _) old = old
writes_after h (Cause.Take host m) old = with_last (takes_on h Channel.Rwd (Cause.Take host m)) old
writes_after h (Cause.Act act) old = without_used (write_used_by h act) old

-- the buffered RwD messages of host h, in the order taken (own rule)
abbrev pub buffered_writes : ℕ → List Event → List Message
buffered_writes h [] = []
buffered_writes h (e ∷ past) = writes_after h e.cause (buffered_writes h past)

-- how many messages of a channel of host h the device holds buffered (own rule)
abbrev pub device_buffered : ℕ → Channel → List Event → ℕ
device_buffered h Channel.Req mine = length (buffered_requests h mine)
device_buffered h Channel.Rwd mine = length (buffered_writes h mine)
device_buffered h Channel.BiRsp mine = 0
device_buffered h Channel.Ndr mine = 0
device_buffered h Channel.Drs mine = 0
device_buffered h Channel.BiSnp mine = 0
device_buffered h Channel.CreditUp mine = 0
device_buffered h Channel.CreditDown mine = 0

-- `Owed` at the device (own rule)
abbrev pub device_owed : ℕ → Channel → List Event → ℕ
device_owed h c mine = owed_count h c (device_buffered h c mine) mine
