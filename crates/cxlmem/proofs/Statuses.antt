-- The statuses of a trace that wasn't written whole.
use Rattle.std.proofs.Common.{◌≡◌, sym, ◌∙◌}
use Rattle.std.specs.Prelude.{◌≢◌}
use Rattle.cxlmem.specs.declared.ends.Status.{Status}

-- a write fault isn't Ok
pub fault_is_not_ok : (s : Status) → s ≡ Status.WriteFault → s ≢ Status.Ok
fault_is_not_ok s is ok = let never = sym is ∙ ok in cc

-- nor is want of memory
pub memory_is_not_ok : (s : Status) → s ≡ Status.Memory → s ≢ Status.Ok
memory_is_not_ok s is ok = let never = sym is ∙ ok in cc
