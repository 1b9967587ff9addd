-- Where what is open with a tag is: one equation for each kind, and what each step of a host or of the device does to them.
use Rattle.std.proofs.Common.{◌≡◌, ℕ, ◌+◌, ◌≤◌, Bool, true, false, Option, Some, None, cond, refl, sym, subst, arith}
use Rattle.cxl_message.specs.declared.events.Op.{Op}
use Rattle.cxl_message.specs.declared.identifiers.Bytes64.{Bytes64}
use Rattle.cxl_message.specs.declared.opcodes.NdrOp.{NdrOp}
use Rattle.coherence_model.specs.Transactions.{Kind, Transaction, open_after_completion, open_after_data, open_after_grant}

-- 1 where there is something
abbrev pub here : {A : Type 0} → Option A → ℕ
here None = 0
here (Some x) = 1

-- the places of a kind: g grants and y data were taken, r requests and w writes are under way, nc Cmp, ng grants and d data in flight, k tasks stand
abbrev pub BalancedAs : Kind → (b g y r w nc ng d k : ℕ) → Type 0
BalancedAs Kind.ReadShared b g y r w nc ng d k = (b ≡ 0) × (r + k + ng + g ≡ 1) × (d + y ≡ ng + g) × (w ≡ 0) × (nc ≡ 0)
BalancedAs Kind.ReadAny b g y r w nc ng d k = (b ≡ 0) × (r + k + ng + g ≡ 1) × (d + y ≡ ng + g) × (w ≡ 0) × (nc ≡ 0)
BalancedAs Kind.Invalidate b g y r w nc ng d k = (b ≡ 0) × (r + k + ng + g ≡ 1) × (d + y ≡ 0) × (w ≡ 0) × (nc ≡ 0)
BalancedAs Kind.CleanEviction b g y r w nc ng d k = (b ≡ 0) × (r + nc ≡ 1) × (w ≡ 0) × (ng ≡ 0) × (d ≡ 0) × (k ≡ 0)
BalancedAs Kind.DirtyEviction b g y r w nc ng d k = (b ≡ 0) × (w + nc ≡ 1) × (r ≡ 0) × (ng ≡ 0) × (d ≡ 0) × (k ≡ 0)

-- the places of what is open with a tag, b being 1 where the tag is that of a write-back in progress
abbrev pub Balanced : Option Transaction → (b r w nc ng d k : ℕ) → Type 0
Balanced None b r w nc ng d k = (r ≡ 0) × (w + nc ≡ b) × (ng ≡ 0) × (d ≡ 0) × (k ≡ 0)
Balanced (Some o) b r w nc ng d k = BalancedAs o.kind b (here o.grant) (here o.bytes) r w nc ng d k

-- how many Req and how many RwD messages open a kind
abbrev pub by_request : Kind → ℕ
by_request Kind.ReadShared = 1
by_request Kind.ReadAny = 1
by_request Kind.Invalidate = 1
by_request Kind.CleanEviction = 1
by_request Kind.DirtyEviction = 0

abbrev pub by_write : Kind → ℕ
by_write Kind.ReadShared = 0
by_write Kind.ReadAny = 0
by_write Kind.Invalidate = 0
by_write Kind.CleanEviction = 0
by_write Kind.DirtyEviction = 1

-- something is opened
pub balance_opened : (kind : Kind) (r w nc ng d k : ℕ) → Balanced None 0 r w nc ng d k → BalancedAs kind 0 0 0 (r + by_request kind) (w + by_write kind) nc ng d k
balance_opened Kind.ReadShared r w nc ng d k h = omega arith
balance_opened Kind.ReadAny r w nc ng d k h = omega arith
balance_opened Kind.Invalidate r w nc ng d k h = omega arith
balance_opened Kind.CleanEviction r w nc ng d k h = omega arith
balance_opened Kind.DirtyEviction r w nc ng d k h = omega arith

-- a Cmp is taken
completed_as : (kind : Kind) (tag s i : ℕ) (op : Op) (grant : Option NdrOp) (bytes : Option Bytes64) (b r w nc ng d k : ℕ)
    → BalancedAs kind b (here grant) (here bytes) r w (1 + nc) ng d k
    → Balanced (open_after_completion NdrOp.Cmp (record { kind = kind; tag = tag; stream = s; index = i; op = op; grant = grant; bytes = bytes })) 0 r w nc ng d k
completed_as Kind.ReadShared tag s i op grant bytes b r w nc ng d k h = absurd (omega arith)
completed_as Kind.ReadAny tag s i op grant bytes b r w nc ng d k h = absurd (omega arith)
completed_as Kind.Invalidate tag s i op grant bytes b r w nc ng d k h = absurd (omega arith)
completed_as Kind.CleanEviction tag s i op grant bytes b r w nc ng d k h = omega arith
completed_as Kind.DirtyEviction tag s i op grant bytes b r w nc ng d k h = omega arith

pub balance_completed : (o : Transaction) (b r w nc ng d k : ℕ) → Balanced (Some o) b r w (1 + nc) ng d k → Balanced (open_after_completion NdrOp.Cmp o) 0 r w nc ng d k
balance_completed o b r w nc ng d k h = completed_as o.kind o.tag o.stream o.index o.op o.grant o.bytes b r w nc ng d k h

-- a grant is taken
granted_as : (c : NdrOp) (kind : Kind) (tag s i : ℕ) (op : Op) (grant : Option NdrOp) (bytes : Option Bytes64) (b r w nc ng d k : ℕ)
    → BalancedAs kind b (here grant) (here bytes) r w nc (1 + ng) d k
    → Balanced (open_after_grant c (record { kind = kind; tag = tag; stream = s; index = i; op = op; grant = grant; bytes = bytes })) b r w nc ng d k
granted_as c Kind.ReadShared tag s i op grant None b r w nc ng d k h = omega arith
granted_as c Kind.ReadShared tag s i op grant (Some bytes) b r w nc ng d k h = omega arith
granted_as c Kind.ReadAny tag s i op grant None b r w nc ng d k h = omega arith
granted_as c Kind.ReadAny tag s i op grant (Some bytes) b r w nc ng d k h = omega arith
granted_as c Kind.Invalidate tag s i op grant bytes b r w nc ng d k h = omega arith
granted_as c Kind.CleanEviction tag s i op grant bytes b r w nc ng d k h = absurd (omega arith)
granted_as c Kind.DirtyEviction tag s i op grant bytes b r w nc ng d k h = absurd (omega arith)

pub balance_granted : (c : NdrOp) (o : Transaction) (b r w nc ng d k : ℕ) → Balanced (Some o) b r w nc (1 + ng) d k → Balanced (open_after_grant c o) b r w nc ng d k
balance_granted c o b r w nc ng d k h = granted_as c o.kind o.tag o.stream o.index o.op o.grant o.bytes b r w nc ng d k h

-- MemData is taken
data_as : (data_bytes : Bytes64) (kind : Kind) (tag s i : ℕ) (op : Op) (grant : Option NdrOp) (bytes : Option Bytes64) (b r w nc ng d k : ℕ)
    → BalancedAs kind b (here grant) (here bytes) r w nc ng (1 + d) k
    → Balanced (open_after_data data_bytes (record { kind = kind; tag = tag; stream = s; index = i; op = op; grant = grant; bytes = bytes })) b r w nc ng d k
data_as x Kind.ReadShared tag s i op None bytes b r w nc ng d k h = omega arith
data_as x Kind.ReadShared tag s i op (Some c) bytes b r w nc ng d k h = omega arith
data_as x Kind.ReadAny tag s i op None bytes b r w nc ng d k h = omega arith
data_as x Kind.ReadAny tag s i op (Some c) bytes b r w nc ng d k h = omega arith
data_as x Kind.Invalidate tag s i op grant bytes b r w nc ng d k h = absurd (omega arith)
data_as x Kind.CleanEviction tag s i op grant bytes b r w nc ng d k h = absurd (omega arith)
data_as x Kind.DirtyEviction tag s i op grant bytes b r w nc ng d k h = absurd (omega arith)

pub balance_data : (x : Bytes64) (o : Transaction) (b r w nc ng d k : ℕ) → Balanced (Some o) b r w nc ng (1 + d) k → Balanced (open_after_data x o) b r w nc ng d k
balance_data x o b r w nc ng d k h = data_as x o.kind o.tag o.stream o.index o.op o.grant o.bytes b r w nc ng d k h

-- a write is served
served_as : (kind : Kind) (b g y r w nc ng d k : ℕ) → BalancedAs kind b g y r (1 + w) nc ng d k → BalancedAs kind b g y r w (nc + 1) ng d k
served_as Kind.ReadShared b g y r w nc ng d k h = absurd (omega arith)
served_as Kind.ReadAny b g y r w nc ng d k h = absurd (omega arith)
served_as Kind.Invalidate b g y r w nc ng d k h = absurd (omega arith)
served_as Kind.CleanEviction b g y r w nc ng d k h = absurd (omega arith)
served_as Kind.DirtyEviction b g y r w nc ng d k h = omega arith

pub balance_served : (o : Option Transaction) (b r w nc ng d k : ℕ) → Balanced o b r (1 + w) nc ng d k → Balanced o b r w (nc + 1) ng d k
balance_served None b r w nc ng d k h = omega arith
balance_served (Some o) b r w nc ng d k h = served_as o.kind b (here o.grant) (here o.bytes) r w nc ng d k h

-- a MemClnEvct is cleaned
pub balance_cleaned : (b g y r w nc ng d k : ℕ) → BalancedAs Kind.CleanEviction b g y (1 + r) w nc ng d k → BalancedAs Kind.CleanEviction b g y r w (nc + 1) ng d k
balance_cleaned b g y r w nc ng d k h = omega arith

-- a request starts
started_as : (kind : Kind) (b g y r w nc ng d : ℕ) → (kind ≡ Kind.CleanEviction → ⊥) → BalancedAs kind b g y (1 + r) w nc ng d 0 → BalancedAs kind b g y r w nc ng d 1
started_as Kind.ReadShared b g y r w nc ng d other h = omega arith
started_as Kind.ReadAny b g y r w nc ng d other h = omega arith
started_as Kind.Invalidate b g y r w nc ng d other h = omega arith
started_as Kind.CleanEviction b g y r w nc ng d other h = absurd (other refl)
started_as Kind.DirtyEviction b g y r w nc ng d other h = absurd (omega arith)

pub balance_started : (o : Transaction) (b r w nc ng d : ℕ) → (o.kind ≡ Kind.CleanEviction → ⊥) → Balanced (Some o) b (1 + r) w nc ng d 0 → Balanced (Some o) b r w nc ng d 1
balance_started o b r w nc ng d other h = started_as o.kind b (here o.grant) (here o.bytes) r w nc ng d other h

-- a task is finished: a grant, with MemData for a read
pub balance_read : (b g y r w nc ng d : ℕ) → BalancedAs Kind.ReadAny b g y r w nc ng d 1 → BalancedAs Kind.ReadAny b g y r w nc (ng + 1) (d + 1) 0
balance_read b g y r w nc ng d h = omega arith

pub balance_invalidated : (b g y r w nc ng d : ℕ) → BalancedAs Kind.Invalidate b g y r w nc ng d 1 → BalancedAs Kind.Invalidate b g y r w nc (ng + 1) d 0
balance_invalidated b g y r w nc ng d h = omega arith

-- a Cmp with nothing open ends the write-back
pub balance_written : (b r w nc ng d k : ℕ) → b ≤ 1 → Balanced None b r w (1 + nc) ng d k → Balanced None 0 r w nc ng d k
balance_written b r w nc ng d k few h = omega arith

-- a write-back begins
pub balance_write_begun : (r w nc ng d k : ℕ) → Balanced None 0 r w nc ng d k → Balanced None 1 r (w + 1) nc ng d k
balance_write_begun r w nc ng d k h = omega arith

-- the same with equal numbers
pub balance_as : (o : Option Transaction) {b b' r r' w w' nc nc' ng ng' d d' k k' : ℕ} → b ≡ b' → r ≡ r' → w ≡ w' → nc ≡ nc' → ng ≡ ng' → d ≡ d' → k ≡ k' → Balanced o b r w nc ng d k → Balanced o b' r' w' nc' ng' d' k'
balance_as o {b} {b'} {r} {r'} {w} {w'} {nc} {nc'} {ng} {ng'} {d} {d'} {k} {k'} eb er ew ec eg ed ek h =
    subst (λ x. Balanced o b' r' w' nc' ng' d' x) ek (subst (λ x. Balanced o b' r' w' nc' ng' x k) ed (subst (λ x. Balanced o b' r' w' nc' x d k) eg
    (subst (λ x. Balanced o b' r' w' x ng d k) ec (subst (λ x. Balanced o b' r' x nc ng d k) ew (subst (λ x. Balanced o b' x w nc ng d k) er (subst (λ x. Balanced o x r w nc ng d k) eb h))))))

-- the same where what is open is the same
pub balance_of : (o o' : Option Transaction) → o ≡ o' → (b r w nc ng d k : ℕ) → Balanced o b r w nc ng d k → Balanced o' b r w nc ng d k
balance_of o o' e b r w nc ng d k h = subst (λ x. Balanced x b r w nc ng d k) e h

-- a served message leaves the buffer, and its answer is sent
pub balance_serve : (c : Bool) (o : Option Transaction) (b r fw hw hw' nc ng d k : ℕ) → hw ≡ cond c 1 0 + hw' → Balanced o b r (fw + hw) nc ng d k → Balanced o b r (fw + hw') (nc + cond c 1 0) (ng + 0) (d + 0) k
balance_serve true o b r fw hw hw' nc ng d k e h =
    balance_as o refl refl refl refl (omega arith) (omega arith) refl (balance_served o b r (fw + hw') nc ng d k (balance_as o refl refl (omega arith) refl refl refl refl h))
balance_serve false o b r fw hw hw' nc ng d k e h = balance_as o refl refl (omega arith) (omega arith) (omega arith) (omega arith) refl h

-- nothing is sent that counts
pub balance_none : (o : Option Transaction) (b r w nc ng d k : ℕ) → Balanced o b r w nc ng d k → Balanced o b r w (nc + 0) (ng + 0) (d + 0) k
balance_none o b r w nc ng d k h = balance_as o refl refl refl (omega arith) (omega arith) (omega arith) refl h

-- a MemClnEvct leaves the buffer, and its Cmp is sent
pub balance_clean : (o : Transaction) (b fr hr hr' w nc ng d k : ℕ) → hr ≡ 1 + hr' → o.kind ≡ Kind.CleanEviction → Balanced (Some o) b (fr + hr) w nc ng d k → Balanced (Some o) b (fr + hr') w (nc + 1) (ng + 0) (d + 0) k
balance_clean o b fr hr hr' w nc ng d k e clean h =
    balance_as (Some o) refl refl refl refl (omega arith) (omega arith) refl
    (subst (λ x. BalancedAs x b (here o.grant) (here o.bytes) (fr + hr') w (nc + 1) ng d k) (sym clean)
    (balance_cleaned b (here o.grant) (here o.bytes) (fr + hr') w nc ng d k
    (subst (λ x. BalancedAs x b (here o.grant) (here o.bytes) (1 + (fr + hr')) w nc ng d k) clean (balance_as (Some o) refl (omega arith) refl refl refl refl refl h))))

-- a request leaves the buffer, and its task stands
pub balance_start : (o : Transaction) (b fr hr hr' w nc ng d k : ℕ) → hr ≡ 1 + hr' → k ≡ 0 → (o.kind ≡ Kind.CleanEviction → ⊥) → Balanced (Some o) b (fr + hr) w nc ng d k → Balanced (Some o) b (fr + hr') w (nc + 0) (ng + 0) (d + 0) 1
balance_start o b fr hr hr' w nc ng d k e none other h =
    balance_none (Some o) b (fr + hr') w nc ng d 1 (balance_started o b (fr + hr') w nc ng d other (balance_as (Some o) refl (omega arith) refl refl refl refl none h))

-- the same with other words for what was taken
pub balance_taken : (kind : Kind) (b g g' y y' r w nc ng d k : ℕ) → g ≡ g' → y ≡ y' → BalancedAs kind b g y r w nc ng d k → BalancedAs kind b g' y' r w nc ng d k
balance_taken kind b g g' y y' r w nc ng d k eg ey h = subst (λ x. BalancedAs kind b g' x r w nc ng d k) ey (subst (λ x. BalancedAs kind b x y r w nc ng d k) eg h)
