-- The event in a room. Every rule here is an own rule.
use Rattle.std.specs.Prelude.{ℕ, List, Bool, true, false, Option, Some, None}
use Rattle.cxl_message.specs.declared.identifiers.Bytes64.{Bytes64}
use Rattle.cxl_message.specs.declared.events.Cause.{Cause}
use Rattle.cxl_message.specs.declared.events.Out.{Out}
use Rattle.cxl_message.specs.declared.events.Sends.{Sends}
use Rattle.cxl_message.specs.declared.events.Commit.{Commit}
use Rattle.cxl_message.specs.declared.events.Event.{Event}
use Rattle.event_room.specs.declared.rooms.CauseHead.{CauseHead}
use Rattle.event_room.specs.declared.rooms.OutHead.{OutHead}
use Rattle.event_room.specs.declared.rooms.CommitHead.{CommitHead}
use Rattle.event_room.specs.declared.rooms.SendCount.{SendCount}
use Rattle.event_room.specs.declared.rooms.EventRoom.TheInside.{Inside}
use Rattle.event_room.specs.Heads.{with_payload, op_with}

-- the cause of a head and a payload
abbrev pub cause_with : CauseHead → List ℕ → Cause
cause_with (CauseHead.Op stream index op) payload = Cause.Op stream index (op_with op (record { 0 = payload }))
cause_with (CauseHead.Take host head) payload = Cause.Take host (with_payload head (record { 0 = payload }))
cause_with (CauseHead.Act act) payload = Cause.Act act

-- the sent message of a head and a payload
abbrev pub out_with : OutHead → List ℕ → Out
out_with out payload = record { host = out.host; message = with_payload out.head (record { 0 = payload }) }

-- so many of two sent messages
abbrev pub sends_with : SendCount → Out → Out → Sends
sends_with SendCount.Nothing first second = Sends.Nothing
sends_with SendCount.One first second = Sends.One first
sends_with SendCount.Two first second = Sends.Two first second

-- the commit of a head, the payload of its operation and the line afterwards
abbrev pub commit_with : CommitHead → List ℕ → List ℕ → Commit
commit_with commit payload value = record { stream = commit.stream; index = commit.index; op = op_with commit.op (record { 0 = payload }); value = record { 0 = value } }

-- the commit, if there is one
abbrev pub commit_if : Bool → Commit → Option Commit
commit_if true commit = Some commit
commit_if false commit = None

-- the event of the parts in a room
abbrev pub event_in : Inside → Event
event_in a = record {
  agent = a.agent;
  cause = cause_with a.cause a.cause_payload;
  sends = sends_with a.count (out_with a.first a.first_payload) (out_with a.second a.second_payload);
  commit = commit_if a.is_commit (commit_with a.commit a.op_payload a.value);
}
