-- What rule P0 tests of the parts of an event: that what they name exists in the setup, and that messages go the right way.
use Rattle.std.specs.Prelude.{Bool, false, if◌then◌else◌, nat_le, nat_lt, not, true, ℕ, ◌%◌, ◌&&◌, ◌+◌, ◌==◌, ◌||◌}
use Rattle.std.specs.Option.{option_map_or}
use Rattle.cxl_message.specs.declared.events.Act.{Act}
use Rattle.cxl_message.specs.declared.events.Cause.{Cause}
use Rattle.cxl_message.specs.declared.events.Commit.{Commit}
use Rattle.cxl_message.specs.declared.events.Op.{Op}
use Rattle.cxl_message.specs.declared.events.Out.{Out}
use Rattle.cxl_message.specs.declared.identifiers.Line.{Line}
use Rattle.cxl_message.specs.declared.identifiers.Tag.{Tag}
use Rattle.cxl_message.specs.declared.messages.Message.{Message}
use Rattle.cxl_message.specs.declared.opcodes.NdrOp.{NdrOp}
use Rattle.cxl_message.specs.declared.opcodes.Span.{Span}
use Rattle.cxl_message.specs.Channels.{goes_to_device}
use Rattle.cxl_message.specs.Codes.{span_len}
use Rattle.cxl_message.specs.Events.{line_of}
use Rattle.cxl_message.specs.Messages.{channel_of}
use Rattle.cxl_message.specs.Profile.{in_profile}
use Rattle.cxl_message.specs.Setup.{Configuration, stream_host}
use Rattle.coherence_model.specs.Traces.{device}

-- whether an agent is a host of the setup (own rule)
abbrev pub is_host : Configuration → ℕ → Bool
is_host setup g = nat_lt g setup.hosts

-- whether an agent is the device (own rule)
abbrev pub is_device : ℕ → Bool
is_device g = g == device

-- whether a line exists (own rule)
abbrev pub line_exists : Configuration → Line → Bool
line_exists setup line = nat_lt line.0 setup.lines

-- whether a tag is one of a request's or an eviction's (own rule)
abbrev pub tag_exists : Configuration → Tag → Bool
tag_exists setup tag = nat_lt tag.0 setup.tags

-- whether a tag is one of a write's: the write-back tag is one too (own rule)
abbrev pub write_tag_exists : Configuration → Tag → Bool
write_tag_exists setup tag = nat_le tag.0 setup.tags

-- whether an NDR message may have a tag: Cmp may have the write-back tag too (own rule)
abbrev pub ndr_tag_exists : Configuration → NdrOp → Tag → Bool
ndr_tag_exists setup NdrOp.Cmp tag = write_tag_exists setup tag
ndr_tag_exists setup NdrOp.CmpS tag = tag_exists setup tag
ndr_tag_exists setup NdrOp.CmpE tag = tag_exists setup tag
ndr_tag_exists setup NdrOp.ConflictAck tag = tag_exists setup tag

-- whether the lines of a span exist and its first line is a multiple of it (own rule)
abbrev pub span_exists : Configuration → Line → Span → Bool
span_exists setup line span = nat_le (line.0 + span_len span) setup.lines && (line.0 % span_len span == 0)

-- whether the setup has the tags, lines and spans that a message names; a BITag in an answer is left to the row (own rule)
abbrev pub message_fits : Configuration → Message → Bool
message_fits setup (Message.Req _ _ _ tag line) = tag_exists setup tag && line_exists setup line
message_fits setup (Message.MemWr _ _ tag line _) = write_tag_exists setup tag && line_exists setup line
message_fits setup (Message.BiConflict tag) = tag_exists setup tag
message_fits setup (Message.BiRsp _ _ _) = true
message_fits setup (Message.Ndr op tag) = ndr_tag_exists setup op tag
message_fits setup (Message.MemData tag _) = tag_exists setup tag
message_fits setup (Message.BiSnp _ _ line span) = span_exists setup line span
message_fits setup (Message.Credit _) = true

-- whether an act is one of the agent's kind, and the host, the line and the tag that it names exist (own rule)
abbrev pub act_fits : Configuration → ℕ → Act → Bool
act_fits setup g (Act.Conflict line) = is_host setup g && line_exists setup line
act_fits setup g (Act.WriteBack line) = is_host setup g && line_exists setup line
act_fits setup g (Act.Answer line) = is_host setup g && line_exists setup line
act_fits setup g (Act.AnswerBlock line) = is_host setup g && line_exists setup line
act_fits setup g (Act.HostReturn _) = is_host setup g
act_fits setup g (Act.Serve host tag) = is_device g && is_host setup host && write_tag_exists setup tag
act_fits setup g (Act.Clean host tag) = is_device g && is_host setup host && tag_exists setup tag
act_fits setup g (Act.Start host tag) = is_device g && is_host setup host && tag_exists setup tag
act_fits setup g (Act.Evict host tag) = is_device g && is_host setup host && tag_exists setup tag
act_fits setup g (Act.Snoop host line) = is_device g && is_host setup host && line_exists setup line
act_fits setup g (Act.Finish line) = is_device g && line_exists setup line
act_fits setup g (Act.DeviceReturn host _) = is_device g && is_host setup host

-- whether a message of a host may go to or from the agent: the device has those of every host, a host its own (own rule)
abbrev pub is_addressed : Configuration → ℕ → ℕ → Bool
is_addressed setup g host = is_host setup host && (is_device g || (host == g))

-- whether a message goes to the agent rather than from it (own rule)
abbrev pub goes_to : ℕ → Message → Bool
goes_to g m = if is_device g then goes_to_device (channel_of m) else not (goes_to_device (channel_of m))

-- whether the operation is one of a stream of this host, and its line exists (own rule)
abbrev pub operation_fits : Configuration → ℕ → ℕ → Op → Bool
operation_fits setup g stream op = is_host setup g && option_map_or (λ h. h == g) (stream_host setup stream) false && nat_lt (line_of op) setup.lines

-- whether the agent may take such a message of a host (own rule)
abbrev pub take_fits : Configuration → ℕ → ℕ → Message → Bool
take_fits setup g host m = is_addressed setup g host && goes_to g m && in_profile m && message_fits setup m

-- whether the agent may have such a cause (own rule)
abbrev pub cause_fits : Configuration → ℕ → Cause → Bool
cause_fits setup g (Cause.Op stream index op) = operation_fits setup g stream op
cause_fits setup g (Cause.Take host m) = take_fits setup g host m
cause_fits setup g (Cause.Act act) = act_fits setup g act

-- whether the agent may send such a message (own rule)
abbrev pub out_fits : Configuration → ℕ → Out → Bool
out_fits setup g o = is_addressed setup g o.host && not (goes_to g o.message) && in_profile o.message && message_fits setup o.message

-- whether the line of a commit exists (own rule)
abbrev pub commit_fits : Configuration → Commit → Bool
commit_fits setup c = nat_lt (line_of c.op) setup.lines
