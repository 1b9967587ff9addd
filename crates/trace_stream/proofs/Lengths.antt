-- How many bytes the records have at most.
use Rattle.std.proofs.Common.{◌≡◌, ◌≤◌, ℕ, [], ◌++◌, length, Option, Some, None, ap, ◌∙◌, arith, length-append, append-nil, IfSome}
use Rattle.std.proofs.lemmas.List.{length-map}
use Rattle.cxl_message.specs.declared.identifiers.Bytes64.{Bytes64}
use Rattle.cxl_message.specs.declared.messages.Message.{Message}
use Rattle.cxl_message.specs.declared.events.Op.{Op}
use Rattle.cxl_message.specs.declared.events.Act.{Act}
use Rattle.cxl_message.specs.declared.events.Cause.{Cause}
use Rattle.cxl_message.specs.declared.events.Sends.{Sends}
use Rattle.cxl_message.specs.declared.events.Commit.{Commit}
use Rattle.cxl_message.specs.declared.events.Event.{Event}
use Rattle.cxl_codec.specs.declared.versions.Version.{Version}
use Rattle.cxl_codec.specs.Cells.{Cell, payload, free, number}
use Rattle.cxl_codec.specs.Versions.{tag_width}
use Rattle.std.specs.Int.{w32}
use Rattle.cxl_codec.specs.Openings.{IsPayload}
use Rattle.cxl_codec.specs.Messages.{message_cells, MessageInRange, zero_payload}
use Rattle.cxl_codec.specs.Events.{op_cells, act_cells, cause_cells, out_cells, sends_cells, commit_cells, event_cells_in, OpInRange, CauseInRange, CommitInRange, EventFitsIn}
use Rattle.cxl_codec.specs.Traces.{event_bytes_in}
use Rattle.cxl_message.specs.Events.{outs}
use Rattle.std.specs.List.{AllByRecursion}

-- a payload has 64
pub payload_length : (bytes : Bytes64) → IsPayload bytes → length (payload bytes) ≡ 64
payload_length bytes fits = length-map bytes.0 free ∙ fits.count

op_length : (op : Op) → OpInRange op → length (op_cells op) ≤ 69
op_length (Op.Load line) fits = omega arith
op_length (Op.Word line place value) fits = omega arith
op_length (Op.Whole line bytes) fits = omega (arith, payload_length bytes fits.1)

commit_length : (commit : Option Commit) → IfSome commit CommitInRange → length (commit_cells commit) ≤ 139
commit_length None fits = omega arith
commit_length (Some c) fits =
    omega (arith, op_length c.op fits.op, payload_length c.value fits.value, length-append (op_cells c.op) (payload c.value))

module _ (version : Version) where
  -- a tag has at most 4
  tag_length : (tag : ℕ) → length (number (tag_width version) tag) ≤ 4
  tag_length tag = tag_by version tag where
    tag_by : (v : Version) (n : ℕ) → length (number (tag_width v) n) ≤ 4
    tag_by Version.One n = omega arith
    tag_by Version.Two n = omega arith

  message_length : (m : Message) → MessageInRange version m → length (message_cells version m) ≤ 75
  message_length (Message.Req op meta snp tag line) fits = omega (arith, tag_length tag.0, length-append (number (tag_width version) tag.0) (number w32 line.0))
  message_length (Message.MemWr meta snp tag line bytes) fits =
      omega (arith, tag_length tag.0, length-append (number (tag_width version) tag.0) (number w32 line.0 ++ payload bytes), payload_length bytes fits.2)
  message_length (Message.BiConflict tag) fits = omega (arith, tag_length tag.0, length-append (number (tag_width version) tag.0) zero_payload)
  message_length (Message.BiRsp op bitag low) fits = omega arith
  message_length (Message.Ndr op tag) fits = omega (arith, tag_length tag.0)
  message_length (Message.MemData tag bytes) fits = omega (arith, tag_length tag.0, length-append (number (tag_width version) tag.0) (payload bytes), payload_length bytes fits.1)
  message_length (Message.BiSnp op bitag line span) fits = omega arith
  message_length (Message.Credit channel) fits = omega arith

  act_length : (act : Act) → length (act_cells version act) ≤ 8
  act_length (Act.Conflict line) = omega arith
  act_length (Act.WriteBack line) = omega arith
  act_length (Act.Answer line) = omega arith
  act_length (Act.AnswerBlock line) = omega arith
  act_length (Act.HostReturn channel) = omega arith
  act_length (Act.Serve host tag) = omega (arith, tag_length tag.0)
  act_length (Act.Clean host tag) = omega (arith, tag_length tag.0)
  act_length (Act.Start host tag) = omega (arith, tag_length tag.0)
  act_length (Act.Evict host tag) = omega (arith, tag_length tag.0)
  act_length (Act.Snoop host line) = omega arith
  act_length (Act.Finish line) = omega arith
  act_length (Act.DeviceReturn host channel) = omega arith

  cause_length : (cause : Cause) → CauseInRange version cause → length (cause_cells version cause) ≤ 77
  cause_length (Cause.Op stream index op) fits = omega (arith, op_length op fits.1)
  cause_length (Cause.Take host message) fits = omega (arith, message_length message fits)
  cause_length (Cause.Act act) fits = omega (arith, act_length act)

  sends_length : (sends : Sends) → AllByRecursion (λ o. MessageInRange version o.message) (outs sends) → length (sends_cells version sends) ≤ 153
  sends_length Sends.Nothing fits = omega arith
  sends_length (Sends.One o) fits = omega (arith, message_length o.message fits.0, ap (length {A = Cell}) (append-nil (message_cells version o.message)))
  sends_length (Sends.Two o p) fits =
      omega (arith, message_length o.message fits.0, message_length p.message fits.1.0, ap (length {A = Cell}) (append-nil (message_cells version p.message)), length-append (message_cells version o.message) (out_cells version p ++ []))

  -- an event has at most 370
  pub event_length : (e : Event) → EventFitsIn version e → length (event_cells_in version e) ≤ 370
  event_length e fits =
      omega (
        arith,
        cause_length e.cause fits.cause,
        sends_length e.sends fits.sends,
        commit_length e.commit fits.commit,
        length-append (cause_cells version e.cause ++ sends_cells version e.sends) (commit_cells e.commit),
        length-append (cause_cells version e.cause) (sends_cells version e.sends),
      )

  -- and so many bytes
  pub event_bytes_length : (e : Event) → EventFitsIn version e → length (event_bytes_in version e) ≤ 370
  event_bytes_length e fits = omega (arith, event_length e fits, length-map (event_cells_in version e) (λ (c : Cell). c.byte))
