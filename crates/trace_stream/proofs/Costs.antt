-- What calls one after the other cost, and what they keep.
use Rattle.std.proofs.Common.{◌≡◌, ℕ, ◌+◌, ◌≤◌, Result, Ok, subst, ◌∙◌, arith}
use Rattle.std.specs.Result.{IsErrOf}
use Rattle.std.proofs.lemmas.Result.{on_ok_weaker}
use Rattle.outside_io.specs.Counts.{TellsFaults}
use Rattle.trace_stream.specs.Buffers.{Buffer, Keeps, reach}
use Rattle.trace_stream.specs.declared.refusals.TraceWriteRefusal.{TraceWriteRefusal}

-- a call that wasn't refused counted no fault
pub no_fault : {T : Type 0} (old new : Buffer) (cost : ℕ) (x : T) → Keeps old new cost (Ok x) → new.faults ≡ old.faults
no_fault old new cost x keeps = keeps.faults.kept (λ e. absurd cc)

-- a call after others, of which none was refused
pub keeps_after : {T : Type 0} (old mid new : Buffer) (first second : ℕ) (result : Result T TraceWriteRefusal) → mid.sink ≡ old.sink → mid.faults ≡ old.faults → reach mid ≤ reach old + first
    → Keeps mid new second result → Keeps old new (first + second) result
keeps_after old mid new first second result same faults reached keeps =
    let highest = keeps.highest in
    record {
      same_sink = keeps.same_sink ∙ same;
      faults = subst (λ (n : ℕ). TellsFaults n new.faults (IsErrOf result TraceWriteRefusal.WriteFault)) faults keeps.faults;
      reached = on_ok_weaker result (λ more. omega (arith, more, reached)) keeps.reached;
      highest = omega (arith, highest, reached);
    }
