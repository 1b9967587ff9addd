-- What is put behind the bytes that wait for a sink. Every rule here is an own rule.
use Rattle.std.specs.Prelude.{◌≡◌, ℕ, ◌+◌, ◌*◌, ◌≤◌, List, [], ◌++◌, length, Option, Result, IsErrOf, OnOk}
use Rattle.std.specs.Io.KnownBytes.{Appends}
use Rattle.outside_io.specs.Counts.{TellsFaults}
use Rattle.trace_stream.specs.declared.refusals.TraceWriteRefusal.{TraceWriteRefusal}

-- a sink that was lent, with the bytes that wait for it: which sink it is, what has gone to it where it tells, its faults and the highest of its counts, and the bytes that wait
pub record Buffer : Type 0 where
  pub sink : ℕ
  pub gone : Option (List ℕ)
  pub faults : ℕ
  pub highest : ℕ
  pub waiting : List ℕ

-- a sink for which nothing waits
abbrev pub empty_buffer : ℕ → Option (List ℕ) → ℕ → ℕ → Buffer
empty_buffer sink gone faults highest = record { sink = sink; gone = gone; faults = faults; highest = highest; waiting = [] }

-- these bytes were put behind those that waited: where the sink tells, the first of them went to it, and the others wait
pub record Puts (old new : Option (List ℕ)) (waited waiting bytes : List ℕ) : Type 0 where
  pub gone : List ℕ
  pub went : Appends old new gone
  pub whole : waited ++ bytes ≡ gone ++ waiting

-- these bytes were to be put behind those that waited, and a call failed: where the sink tells, the first of them all went to it, and nothing else
pub record PutsFront (old new : Option (List ℕ)) (waited bytes : List ℕ) : Type 0 where
  pub gone : List ℕ
  pub lost : List ℕ
  pub went : Appends old new gone
  pub whole : waited ++ bytes ≡ gone ++ lost

-- the same of a buffer
abbrev pub Gathers : Buffer → Buffer → List ℕ → Type 0
Gathers old new bytes = Puts old.gone new.gone old.waiting new.waiting bytes

-- and of a call that failed
abbrev pub GathersFront : Buffer → Buffer → List ℕ → Type 0
GathersFront old new bytes = PutsFront old.gone new.gone old.waiting bytes

-- the most that the counts of the sink can come to, once the bytes that wait have gone
abbrev pub reach : Buffer → ℕ
reach buffer = buffer.highest + 2 * length buffer.waiting

-- how many bytes wait where all of them are written
abbrev pub full : ℕ
full = 65000

-- what each call keeps: the sink is the same; it counted a fault, one, exactly where a write fault is answered; and its counts come no higher than they were to come, and so much
pub record Keeps {T : Type 0} (old new : Buffer) (cost : ℕ) (result : Result T TraceWriteRefusal) : Type 0 where
  pub same_sink : new.sink ≡ old.sink
  pub faults : TellsFaults old.faults new.faults (IsErrOf result TraceWriteRefusal.WriteFault)
  pub reached : OnOk result (reach new ≤ reach old + cost)
  pub highest : new.highest ≤ reach old + cost
