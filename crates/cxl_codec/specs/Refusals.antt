-- What a fault at some bytes left becomes: a refusal at a place. Every rule here is an own rule.
use Rattle.std.specs.Prelude.{ℕ, ◌-◌, ◌≤◌}
use Rattle.cxl_codec.specs.declared.faults.Fault.{Fault}
use Rattle.cxl_codec.specs.declared.refusals.DecodeRefusal.{DecodeRefusal}

-- the wrong byte is one of so many
abbrev pub LeavesAtMost : ℕ → Fault → Type 0
LeavesAtMost length Fault.Short = Unit {0}
LeavesAtMost length (Fault.Kind left) = left ≤ length
LeavesAtMost length (Fault.Field left which) = left ≤ length

-- the refusal of so many bytes with this fault
abbrev pub refusal_of : ℕ → Fault → DecodeRefusal
refusal_of length Fault.Short = DecodeRefusal.Short
refusal_of length (Fault.Kind left) = DecodeRefusal.Kind (length - left)
refusal_of length (Fault.Field left which) = DecodeRefusal.Field (length - left) which
