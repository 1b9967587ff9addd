-- What a reader of traces has read and keeps, and what its calls do to it. Every rule here is an own rule.
use Rattle.std.specs.Prelude.{◌≡◌, ℕ, ◌+◌, ◌-◌, ◌<◌, List, ◌++◌, All, length, take, drop, min, Option, Some, None, IfNone, Result, Ok, Err}
use Rattle.trace_stream.specs.declared.items.Item.{Item}
use Rattle.trace_stream.specs.declared.items.Found.{Found}
use Rattle.trace_stream.specs.declared.items.Reason.{Reason}
use Rattle.trace_stream.specs.declared.items.TraceFault.{TraceFault}
use Rattle.trace_stream.specs.declared.stages.Stage.{Stage}
use Rattle.trace_stream.specs.Items.{item_length, advance, fault_at, Says}

-- the bytes that wait, the place of the first of them in the trace, what was read before them, and the fault that was met
pub record Reading : Type 0 where
  pub place : ℕ
  pub waiting : List ℕ
  pub stage : Stage
  pub fault : Option TraceFault

-- how many bytes wait at most: the longest record
abbrev pub room : ℕ
room = 370

-- how many bytes were fed
abbrev pub fed_count : Reading → ℕ
fed_count reading = reading.place + length reading.waiting

-- how many bytes of a piece are taken
abbrev pub taken_count : Reading → List ℕ → ℕ
taken_count reading piece = min (length piece) (room - length reading.waiting)

-- the reading after more bytes were fed
abbrev pub after_feed : Reading → List ℕ → Reading
after_feed reading bytes = record reading { waiting = reading.waiting ++ bytes }

-- how many bytes of a piece an answer took: so many as it says, or where it is a fault as many as there is room for
abbrev pub taken_with : Reading → List ℕ → Result (Found × ℕ) TraceFault → ℕ
taken_with reading piece (Ok found) = found.1
taken_with reading piece (Err fault) = taken_count reading piece

-- the reading after those bytes were fed
abbrev pub fed_with : Reading → List ℕ → Result (Found × ℕ) TraceFault → Reading
fed_with reading piece answer = after_feed reading (take (taken_with reading piece answer) piece)

-- the fault that was met, or what the bytes that wait say
abbrev pub Repeats : Option TraceFault → Type 0 → Result Item TraceFault → Type 0
Repeats None says outcome = says
Repeats (Some fault) says outcome = outcome ≡ Err fault

-- the outcome is what is answered next
abbrev pub Answered : Reading → Result Item TraceFault → Type 0
Answered reading outcome = Repeats reading.fault (Says reading.stage reading.place reading.waiting outcome) outcome

-- the reading after that answer: an item's bytes don't wait any more
abbrev pub after_next : Reading → Result Item TraceFault → Reading
after_next reading (Ok item) = record {
  place = reading.place + item_length reading.stage item;
  waiting = drop (item_length reading.stage item) reading.waiting;
  stage = advance reading.stage item;
  fault = reading.fault;
}
after_next reading (Err fault) = record reading { fault = Some fault }

-- what is answered where no byte follows and no fault was met: the number of events of a trace that ended, else that it is short
abbrev pub end_of : Stage → ℕ → Result ℕ TraceFault
end_of Stage.Start fed = Err (fault_at fed Reason.Short)
end_of (Stage.Names streams lines next) fed = Err (fault_at fed Reason.Short)
end_of (Stage.Openings version lines next) fed = Err (fault_at fed Reason.Short)
end_of (Stage.Events version count) fed = Err (fault_at fed Reason.Short)
end_of (Stage.Ended count) fed = Ok count

-- the fault that was met, or what is answered at the end
abbrev pub unless_fault : Option TraceFault → Result ℕ TraceFault → Result ℕ TraceFault
unless_fault None end = end
unless_fault (Some fault) end = Err fault

-- what is answered at the end of the bytes
abbrev pub finish_of : Reading → Result ℕ TraceFault
finish_of reading = unless_fault reading.fault (end_of reading.stage (fed_count reading))

-- as long as fewer bytes than this wait, whatever comes, more are wanted
abbrev pub IsQuiet : Reading → ℕ → Type 0
IsQuiet reading below = (more : List ℕ) → All (λ b. b < 256) more → length (reading.waiting ++ more) < below → Answered (record reading { waiting = reading.waiting ++ more }) (Ok Item.More)

-- a fault was met, or the bytes that wait say that more are wanted
abbrev pub IsDrained : Reading → Type 0
IsDrained reading = IfNone reading.fault (Says reading.stage reading.place reading.waiting (Ok Item.More))

-- an answer that gives an item
abbrev pub IsGiven : Result Item TraceFault → Type 0
IsGiven (Ok (Item.Header version setup)) = Unit {0}
IsGiven (Ok (Item.Name stream name)) = Unit {0}
IsGiven (Ok (Item.Opened line bytes)) = Unit {0}
IsGiven (Ok (Item.Event e)) = Unit {0}
IsGiven (Ok (Item.End count)) = Unit {0}
IsGiven (Ok Item.More) = ⊥
IsGiven (Err fault) = ⊥

-- an answer after which nothing more is given of the bytes that were fed
abbrev pub IsPause : Result Item TraceFault → Type 0
IsPause (Ok (Item.Header version setup)) = ⊥
IsPause (Ok (Item.Name stream name)) = ⊥
IsPause (Ok (Item.Opened line bytes)) = ⊥
IsPause (Ok (Item.Event e)) = ⊥
IsPause (Ok (Item.End count)) = ⊥
IsPause (Ok Item.More) = Unit {0}
IsPause (Err fault) = Unit {0}
