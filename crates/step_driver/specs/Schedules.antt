-- Which trace of a script is put, and how far it is. Every rule here is an own rule.
use Rattle.std.specs.Prelude.{List, [], get_or, length, replicate, ℕ, ◌≡◌, ◌≤◌}
use Rattle.cxl_message.specs.declared.events.Event.{Event}
use Rattle.cxl_message.specs.declared.limits.TheConstants.{DEVICE}
use Rattle.cxl_message.specs.Script.{ScriptValue}
use Rattle.coherence_model.specs.Driven.{driven_trace, serial_trace}
use Rattle.coherence_model.specs.Traces.{events_of}
use Rattle.driven_laws.specs.Reached.{IsOnTheWay}
use Rattle.machine.specs.Stands.{MachineRecord}
use Rattle.serial_laws.specs.Cuts.{IsOnSerialWay}
use Rattle.step_driver.specs.Driver.{IsKept}
use Rattle.step_driver.specs.declared.schedules.Schedule.{Schedule}
use Rattle.step_driver.specs.declared.table.StreamTable.{StreamTable}

-- the trace that is put, newest event first
abbrev pub target : Schedule → ScriptValue → List Event
target Schedule.Picked script = driven_trace script
target Schedule.Serial script = serial_trace script

-- the picks by which choices are taken
abbrev pub picks_of : Schedule → ScriptValue → List ℕ
picks_of Schedule.Picked script = script.picks
picks_of Schedule.Serial script = []

-- how many events of each agent there is room for: the driven trace is never cut, and has fewer
abbrev pub room_of : Schedule → ScriptValue → ℕ
room_of Schedule.Picked script = 4294967295
room_of Schedule.Serial script = script.room

-- a trace is on the way to the one that is put, with these picks left
abbrev pub IsOnWay : Schedule → ScriptValue → List ℕ → List Event → Type 0
IsOnWay Schedule.Picked script picks t = IsOnTheWay script picks t
IsOnWay Schedule.Serial script picks t = (picks ≡ []) × IsOnSerialWay script t

-- the counts before the first event
abbrev pub no_events : List ℕ
no_events = replicate 17 0

-- for each agent it is counted how many events it has
pub record IsJournaled (counts : List ℕ) (t : List Event) : Type 0 where
  pub each : (g : ℕ) → g ≤ DEVICE → get_or counts g 0 ≡ length (events_of g t)
  pub sized : length counts ≡ 17

-- the machine, the table and the counts stand for a trace on the way to the one that is put, with these picks left
pub record IsAt (schedule : Schedule) (script : ScriptValue) (machine : MachineRecord) (s : StreamTable) (journals picks : List ℕ) (t : List Event) : Type 0 where
  pub kept : IsKept script machine s t
  pub way : IsOnWay schedule script picks t
  pub journaled : IsJournaled journals t
