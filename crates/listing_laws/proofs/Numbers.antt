-- What a host's copy of a line, what is under way for it and its listing say of one another, as numbers, and how each step keeps it.
use Rattle.std.proofs.Common.{◌≡◌, ℕ, ◌+◌, ◌*◌, ◌≤◌, arith}

-- v and x: the copy is valid, and writable; s and g: Cmp-S and Cmp-E on their way; w and ws: MemWr, and MemWr Shared, under way;
-- e: MemClnEvct under way; r and rs: answers, and BIRspS, in flight; l: the listing
abbrev pub Kept : (v x s g w ws e r rs l : ℕ) → Type 0
Kept v x s g w ws e r rs l =
    (x ≤ v) × (v ≤ l) × (2 * x ≤ l) × (s ≤ l) × (2 * g ≤ l) × (l ≤ 1 + x + g + w + e + r) × (w + x ≤ 1) × (2 * w ≤ l) × (w + r ≤ 1) × (w + v ≤ 1 + ws) × (w + e ≤ 1)
    × (e + v ≤ 1) × (r + x ≤ 1) × (r + s + g ≤ 1) × (r + v ≤ 1 + rs) × (rs ≤ r) × (rs ≤ l) × (rs + e ≤ 1)

-- the same with equal numbers
pub kept_as : (v v' x x' s s' g g' w w' ws ws' e e' r r' rs rs' l l' : ℕ) → v' ≡ v → x' ≡ x → s' ≡ s → g' ≡ g → w' ≡ w → ws' ≡ ws → e' ≡ e → r' ≡ r → rs' ≡ rs → l' ≡ l
    → Kept v x s g w ws e r rs l → Kept v' x' s' g' w' ws' e' r' rs' l'
kept_as v v' x x' s s' g g' w w' ws ws' e e' r r' rs rs' l l' ev ex es eg ew ews ee er ers el h = omega arith

-- at the start there is nothing
pub kept_at_start : Kept 0 0 0 0 0 0 0 0 0 0
kept_at_start = omega arith

-- a copy that isn't writable is dropped
pub kept_lost : (v v' x s g w ws e r rs l : ℕ) → v' ≤ v → x ≤ v' → Kept v x s g w ws e r rs l → Kept v' x s g w ws e r rs l
kept_lost v v' x s g w ws e r rs l less more h = omega arith

-- a store hits
pub kept_stored : (v s g w ws e r rs l : ℕ) → Kept v 1 s g w ws e r rs l → Kept 1 1 s g w ws e r rs l
kept_stored v s g w ws e r rs l h = omega arith

-- a modified copy is evicted
pub kept_evicted : (v w ws e r rs l : ℕ) → Kept v 1 0 0 w ws e r rs l → Kept 0 0 0 0 (w + 1) ws e r rs l
kept_evicted v w ws e r rs l h = omega arith

-- an exclusive copy is evicted
pub kept_evicted_clean : (v w ws e r rs l : ℕ) → Kept v 1 0 0 w ws e r rs l → Kept 0 0 0 0 w ws (e + 1) r rs l
kept_evicted_clean v w ws e r rs l h = omega arith

-- a modified copy is written back, and n of it stays
pub kept_written : (n v w ws e r rs l : ℕ) → n ≤ 1 → Kept v 1 0 0 w ws e r rs l → Kept n 0 0 0 (w + 1) (ws + n) e r rs l
kept_written n v w ws e r rs l few h = omega arith

-- a snooped line is answered, and n of its copy stays
pub kept_answered : (n v x s g w ws e r rs l : ℕ) → n ≤ v → n ≤ 1 → s + g ≡ 0 → w ≡ 0 → r ≡ 0 → Kept v x s g w ws e r rs l → Kept n 0 s g w ws e (r + 1) (rs + n) l
kept_answered n v x s g w ws e r rs l less few ungranted unwritten unanswered h = omega arith

-- an exclusive or modified copy is filled
pub kept_filled : (v x s g w ws e r rs l : ℕ) → 1 ≤ g → w ≡ 0 → e ≡ 0 → x ≡ 0 → l ≤ 2 → Kept v x s g w ws e r rs l → Kept 1 1 0 0 w ws e r rs l
kept_filled v x s g w ws e r rs l owns unwritten unevicted none few h = omega arith

-- a shared copy is filled
pub kept_filled_shared : (v x s g w ws e r rs l : ℕ) → 1 ≤ s → g ≡ 0 → w ≡ 0 → e ≡ 0 → x ≡ 0 → Kept v x s g w ws e r rs l → Kept 1 0 0 0 w ws e r rs l
kept_filled_shared v x s g w ws e r rs l shares owns unwritten unevicted none h = omega arith

-- a MemWr Shared is served
pub kept_served_shared : (v x s g w ws e r rs l : ℕ) → v ≤ 1 → l ≤ 2 → s + g ≡ 0 → Kept v x s g (1 + w) (1 + ws) e r rs l → Kept v x s g w ws e r rs 1
kept_served_shared v x s g w ws e r rs l few least ungranted h = omega arith

-- a MemWr Invalid is served
pub kept_served : (v x s g w ws e r rs l : ℕ) → ws ≤ w → l ≤ 2 → s + g ≡ 0 → Kept v x s g (1 + w) ws e r rs l → Kept v x s g w ws e r rs 0
kept_served v x s g w ws e r rs l part least ungranted h = omega arith

-- a MemClnEvct is cleaned
pub kept_cleaned : (v x s g w ws e r rs l : ℕ) → s + g ≡ 0 → Kept v x s g w ws (1 + e) r rs l → Kept v x s g w ws e r rs 0
kept_cleaned v x s g w ws e r rs l ungranted h = omega arith

-- a BIRspI or BIRspIBlk is taken
pub kept_given_up : (v x s g w ws e r rs l : ℕ) → rs ≤ r → r ≡ 0 → Kept v x s g w ws e (1 + r) rs l → Kept v x s g w ws e r rs 0
kept_given_up v x s g w ws e r rs l part last h = omega arith

-- a BIRspS is taken
pub kept_shared : (v x s g w ws e r rs l : ℕ) → rs ≤ r → r ≡ 0 → v ≤ 1 → Kept v x s g w ws e (1 + r) (1 + rs) l → Kept v x s g w ws e r rs 1
kept_shared v x s g w ws e r rs l part last few h = omega arith

-- a Cmp-S is sent
pub kept_granted_shared : (v x w ws e r rs l : ℕ) → w ≡ 0 → e ≡ 0 → x ≡ 0 → r ≡ 0 → v ≤ 1 → Kept v x 0 0 w ws e r rs l → Kept v x 1 0 w ws e r rs 1
kept_granted_shared v x w ws e r rs l unwritten unevicted none unanswered few h = omega arith

-- a Cmp-E is sent
pub kept_granted : (v x w ws e r rs l : ℕ) → w ≡ 0 → e ≡ 0 → x ≡ 0 → r ≡ 0 → v ≤ 1 → Kept v x 0 0 w ws e r rs l → Kept v x 0 1 w ws e r rs 2
kept_granted v x w ws e r rs l unwritten unevicted none unanswered few h = omega arith
