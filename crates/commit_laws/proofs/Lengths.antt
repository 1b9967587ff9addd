-- How many operations a stream of a run that follows a script began, and how many are done: at most the script's.
use Rattle.std.proofs.Common.{◌≡◌, ℕ, suc, ◌+◌, ◌-◌, ◌≤◌, Bool, true, false, cond, List, [], ◌∷◌, length, refl, ap, arith}
use Rattle.std.proofs.lemmas.List.{length-append}
use Rattle.cxl_message.specs.declared.events.Event.{Event}
use Rattle.cxl_message.specs.declared.events.Op.{Op}
use Rattle.cxl_message.specs.Script.{ScriptValue}
use Rattle.coherence_model.specs.Choices.{Stream}
use Rattle.coherence_model.specs.Runs.{IsRun}
use Rattle.coherence_model.specs.Streams.{begun_count, stream_waits}
use Rattle.coherence_model.specs.Traces.{events_of}
use Rattle.commit_laws.specs.Begun.{BeginsWith, Follows, done_count, operations_of}
use Rattle.commit_laws.specs.Commits.{numbered}
use Rattle.commit_laws.proofs.Begun.{begun_are_counted}
use Rattle.commit_laws.proofs.Streams.{IsStreamOf}

-- how many operations a stream began in a trace
abbrev pub begun_of : List Event → Stream → ℕ
begun_of t y = begun_count y.number (events_of y.host t)

-- a front is no longer than the whole
front_short : (ops xs : List Op) → BeginsWith ops xs → length xs ≤ length ops
front_short ops xs begins =
    let both = length-append xs begins.0 in
    let long = ap length begins.1 in
    omega (arith, both, long)

-- a stream of a run that follows a script began at most its operations
pub begun_within : (script : ScriptValue) (t : List Event) → IsRun script.setup script.opening t → Follows script t → (y : Stream) → IsStreamOf script y → begun_of t y ≤ length y.operations
begun_within script t run follows y of =
    let counted = begun_are_counted script.setup script.opening t run y.number y.host of.host in
    let short = front_short y.operations (operations_of y.number t) (follows y.number y.operations of.operations) in
    omega (arith, counted, short)

-- as many numbers as operations
pub numbered_long : (n : ℕ) (ops : List Op) → length (numbered n ops) ≡ length ops
numbered_long n [] = refl
numbered_long n (op ∷ ops) = ap suc (numbered_long (n + 1) ops)

-- no more are done than begun
done_short : (n m : ℕ) (w : Bool) → n ≤ m → n - cond w 1 0 ≤ m
done_short n m true le = omega (arith, le)
done_short n m false le = omega (arith, le)

-- how many operations of a stream are done
abbrev pub done_of : List Event → Stream → ℕ
done_of t y = done_count y.number (events_of y.host t)

-- at most all
pub done_within : (script : ScriptValue) (t : List Event) → IsRun script.setup script.opening t → Follows script t → (y : Stream) → IsStreamOf script y → done_of t y ≤ length y.operations
done_within script t run follows y of = done_short (begun_of t y) (length y.operations) (stream_waits y.number (events_of y.host t)) (begun_within script t run follows y of)
