-- Reading an event part after part into what has its earlier parts already. No public clause cites this file.
use Rattle.std.specs.Prelude.{ℕ, zero, suc, List, Ok, ◌-◌}
use Rattle.cxl_message.specs.declared.events.Event.{Event}
use Rattle.event_room.specs.Made.{begun, emitting, with_send}
use Rattle.cxl_codec.specs.declared.fields.FieldName.{FieldName}
use Rattle.cxl_codec.specs.declared.kinds.CauseKind.{CauseKind}
use Rattle.cxl_codec.specs.declared.versions.Version.{Version}
use Rattle.cxl_codec.specs.Reading.{Read, ◌>>=◌, field_of, within}
use Rattle.cxl_codec.specs.ReadingEvents.{cause_fields_at, cause_at, out_at, flagged_at}
use Rattle.cxl_message.specs.declared.limits.TheConstants.{DEVICE}

-- an event that is begun by a cause of this kind
unfoldable pub begun_fields_at : Version → ℕ → CauseKind → List ℕ → Read Event
begun_fields_at version agent kind bytes = do
  cause ← cause_fields_at version kind bytes
  Ok (begun agent cause.0, cause.1)

-- an event that is begun by a cause
unfoldable pub begun_at : Version → ℕ → List ℕ → Read Event
begun_at version agent bytes = do
  cause ← cause_at version bytes
  Ok (begun agent cause.0, cause.1)

-- an event that sends one message more
unfoldable pub sent_at : Version → Event → List ℕ → Read Event
sent_at version event bytes = do
  out ← out_at version bytes
  Ok (with_send event out.0, out.1)

-- an event that sends so many messages more, two at most
unfoldable pub all_sent_at : Version → ℕ → Event → List ℕ → Read Event
all_sent_at version zero event bytes = Ok (event, bytes)
all_sent_at version (suc zero) event bytes = sent_at version event bytes
all_sent_at version (suc (suc n)) event bytes = do
  first ← sent_at version event bytes
  sent_at version first.0 first.1

-- an event that sends the messages that are counted first
unfoldable pub sends_sent_at : Version → Event → List ℕ → Read Event
sends_sent_at version event bytes = do
  count ← field_of FieldName.SendCount (within 0 2) bytes
  all_sent_at version count.0 event count.1

-- an event with the commit behind a flag of 1
unfoldable pub flagged_set_at : ℕ → Event → List ℕ → Read Event
flagged_set_at zero event bytes = Ok (event, bytes)
flagged_set_at (suc n) event bytes = do
  commit ← flagged_at (suc n) bytes
  Ok (emitting event event.sends commit.0, commit.1)

-- an event with its commit, if there is one
unfoldable pub commit_set_at : Event → List ℕ → Read Event
commit_set_at event bytes = do
  flag ← field_of FieldName.CommitFlag (within 0 1) bytes
  flagged_set_at flag.0 event flag.1

-- an event, part after part
unfoldable pub room_event_at : Version → List ℕ → Read Event
room_event_at version bytes = do
  agent ← field_of FieldName.Agent (within 0 DEVICE) bytes
  begun ← begun_at version agent.0 agent.1
  sent ← sends_sent_at version begun.0 begun.1
  commit_set_at sent.0 sent.1
