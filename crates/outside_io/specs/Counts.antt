-- What a read or a write does to the counts of a source or a sink (own rule).
use Rattle.std.specs.Prelude.{◌≡◌, ℕ, ◌+◌, ◌<◌, ◌≤◌, List, length, Result, IfOk, OnErr, OnOk, is_err, if◌then◌else◌}
use Rattle.std.specs.Result.{result_unwrap_or}

-- the count of faults rose by one where the call failed, and else is as it was: no fault is made up, and none is passed over (own rule)
pub record HasCause {T E : Type 0} (before now : ℕ) (result : Result T E) : Type 0 where
  pub later : before ≤ now
  pub once : now ≤ before + 1
  pub failed : OnErr result (before < now)
  pub kept : OnOk result (now ≡ before)

-- the same of a call that has other answers beside a fault: the count rose by one where it answered the fault, and else is as it was (own rule)
pub record TellsFaults (before now : ℕ) (answered : Type 0) : Type 0 where
  pub later : before ≤ now
  pub once : now ≤ before + 1
  pub rose : answered → before < now
  pub kept : ¬ answered → now ≡ before

-- a count didn't fall, and rose by this much at most (own rule)
pub record RisesAtMost (most before now : ℕ) : Type 0 where
  pub later : before ≤ now
  pub bound : now ≤ before + most

-- how many bytes a write took: none where it failed (own rule)
abbrev pub taken_count : {E : Type 0} → Result ℕ E → ℕ
taken_count result = result_unwrap_or result 0

-- a write of some bytes that didn't fail took one at least (own rule)
abbrev pub TakesSome : {E : Type 0} → Result ℕ E → List ℕ → Type 0
TakesSome result from = 0 < length from → IfOk result (λ n. 0 < n)

-- how many faults a call of std's counts: one where it failed (own rule)
abbrev pub error_count : {T E : Type 0} → Result T E → ℕ
error_count result = if is_err result then 1 else 0
