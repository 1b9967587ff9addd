-- What is open, writable, snooped and written of a host's line, as numbers, and how each step keeps it.
use Rattle.std.proofs.Common.{◌≡◌, ℕ, ◌+◌, ◌≤◌, arith}

-- x: the copy is writable; o: the line is open; n: it is snooped; z: its stage is Writing or Written
abbrev pub HostKept : (x o n z : ℕ) → Type 0
HostKept x o n z = (o + x ≤ 1) × (n + z + o ≤ 2) × (n + z + x ≤ 2)

-- with less of each it holds
pub fewer : (x x' o o' n n' z z' : ℕ) → x' ≤ x → o' ≤ o → n' ≤ n → z' ≤ z → HostKept x o n z → HostKept x' o' n' z'
fewer x x' o o' n n' z z' lx lo ln lz h = omega arith

-- a line opens where nothing is writable and nothing snooped
pub opens_line : (x x' n z : ℕ) → x ≡ 0 → x' ≤ x → n ≡ 0 → z ≤ 1 → HostKept x' 1 n z
opens_line x x' n z ex lx en lz = omega arith

-- a fill closes the line
pub fills_line : (x x' n z : ℕ) → x' ≤ 1 → HostKept x 1 n z → HostKept x' 0 n z
fills_line x x' n z lx h = omega arith

-- a snoop of the line starts without a write
pub snoops_line : (x o n n' z : ℕ) → n' ≤ 1 → HostKept x o n z → HostKept x o n' 0
snoops_line x o n n' z ln h = omega arith

-- a write back starts where nothing stays writable
pub writes_line : (x' n : ℕ) → x' ≡ 0 → n ≤ 1 → HostKept x' 0 n 1
writes_line x' n ex ln = omega arith

-- equal numbers are at most each other
pub same_less : (n m : ℕ) → m ≡ n → m ≤ n
same_less n m e = omega arith
