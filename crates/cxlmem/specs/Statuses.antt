-- The numbers of statuses, and which of them come today. Every rule here is an own rule.
use Rattle.std.specs.Prelude.{ℕ, ◌+◌, ◌<◌, ◌≡◌, ◌≤◌}
use Rattle.cxlmem.specs.declared.ends.Status.{Status}

-- the exit status of the process
abbrev pub code_of : Status → ℕ
code_of Status.Ok = 0
code_of Status.Usage = 2
code_of Status.ReadFault = 3
code_of Status.WriteFault = 4
code_of Status.BadScript = 5
code_of Status.BadTrace = 6
code_of Status.NotARun = 7
code_of Status.Memory = 8
code_of Status.JournalFull = 9
code_of Status.TooLong = 10
code_of Status.NotBuilt = 11

-- a status that the commands answer today
abbrev pub IsAnswer : Status → Type 0
IsAnswer Status.Ok = Unit {0}
IsAnswer Status.Usage = Unit {0}
IsAnswer Status.ReadFault = Unit {0}
IsAnswer Status.WriteFault = Unit {0}
IsAnswer Status.BadScript = Unit {0}
IsAnswer Status.BadTrace = Unit {0}
IsAnswer Status.NotARun = Unit {0}
IsAnswer Status.Memory = Unit {0}
IsAnswer Status.JournalFull = ⊥
IsAnswer Status.TooLong = Unit {0}
IsAnswer Status.NotBuilt = Unit {0}

-- what a status says of the sink's count of faults: it rose where a write fault is answered, and is as it was where the command is done or wants memory; a refusal whose text meets a fault keeps its status
pub record TellsWriteFault (before now : ℕ) (status : Status) : Type 0 where
  pub once : now ≤ before + 1
  pub rose : status ≡ Status.WriteFault → before < now
  pub done : status ≡ Status.Ok → now ≡ before
  pub memory : status ≡ Status.Memory → now ≡ before
