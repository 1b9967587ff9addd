-- Own runs of the device, whatever its memory was at first: the laws of entries, tasks and buffers don't look at the opening.
use Rattle.std.proofs.Common.{ℕ, List}
use Rattle.cxl_message.specs.declared.channels.Channel.{Channel}
use Rattle.cxl_message.specs.declared.events.Event.{Event}
use Rattle.cxl_message.specs.declared.identifiers.Bytes64.{Bytes64}
use Rattle.cxl_message.specs.declared.identifiers.Line.{Line}
use Rattle.cxl_message.specs.Setup.{Configuration}
use Rattle.coherence_model.specs.Buffers.{buffered_requests, buffered_writes}
use Rattle.coherence_model.specs.DirectoryChanges.{directory}
use Rattle.coherence_model.specs.OwnRuns.{IsOwnRun}
use Rattle.coherence_model.specs.Room.{request_room}
use Rattle.coherence_model.specs.SentSnoops.{sent_snoop_at}
use Rattle.coherence_model.specs.Traces.{device}
use Rattle.entry_laws.proofs.Buffered.{AreTakenOn, HasDistinctTags}
use Rattle.entry_laws.proofs.Buffered as buffers
use Rattle.entry_laws.proofs.DirectorySteps.{DirectoryKept}
use Rattle.entry_laws.proofs.Kept as directories
use Rattle.entry_laws.proofs.Rooms.{RoomsKept}
use Rattle.entry_laws.proofs.RoomSteps as rooms
use Rattle.entry_laws.proofs.TaskShapes.{AreShaped}
use Rattle.entry_laws.proofs.TaskShapes as shapes

-- the events are an own run of the device with some opening
pub record DeviceRun (setup : Configuration) (mine : List Event) : Type 0 where
  pub opening : List (Line × Bytes64)
  pub run : IsOwnRun setup opening device mine

pub directory_is_kept : (setup : Configuration) (mine : List Event) → DeviceRun setup mine → DirectoryKept setup (directory setup mine) (λ g a. sent_snoop_at g a mine)
directory_is_kept setup mine run = directories.directory_is_kept setup run.opening mine run.run

pub requests_are_taken : (setup : Configuration) (mine : List Event) → DeviceRun setup mine → (h : ℕ) → AreTakenOn setup h Channel.Req (buffered_requests h mine)
requests_are_taken setup mine run = buffers.requests_are_taken setup run.opening mine run.run

pub writes_are_taken : (setup : Configuration) (mine : List Event) → DeviceRun setup mine → (h : ℕ) → AreTakenOn setup h Channel.Rwd (buffered_writes h mine)
writes_are_taken setup mine run = buffers.writes_are_taken setup run.opening mine run.run

pub requests_have_distinct_tags : (setup : Configuration) (mine : List Event) → DeviceRun setup mine → (h : ℕ) → HasDistinctTags (buffered_requests h mine)
requests_have_distinct_tags setup mine run = buffers.requests_have_distinct_tags setup run.opening mine run.run

pub writes_have_distinct_tags : (setup : Configuration) (mine : List Event) → DeviceRun setup mine → (h : ℕ) → HasDistinctTags (buffered_writes h mine)
writes_have_distinct_tags setup mine run = buffers.writes_have_distinct_tags setup run.opening mine run.run

pub rooms_are_kept : (setup : Configuration) (mine : List Event) → DeviceRun setup mine → RoomsKept (directory setup mine).task (λ h tag. request_room setup h tag mine) (λ h. buffered_requests h mine)
rooms_are_kept setup mine run = rooms.rooms_are_kept setup run.opening mine run.run

pub tasks_are_shaped : (setup : Configuration) (mine : List Event) → DeviceRun setup mine → AreShaped setup (directory setup mine).task
tasks_are_shaped setup mine run = shapes.tasks_are_shaped setup run.opening mine run.run
