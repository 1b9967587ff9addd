-- The answers that a task keeps, and the lines left that are seen of them.
use Rattle.std.proofs.Common.{◌≡◌, ℕ, zero, suc, ◌+◌, ◌<◌, ◌≤◌, Bool, true, false, List, [], ◌∷◌, length, map, Option, Some, None, refl, ap, sym, ◌∙◌, subst, arith}
use Rattle.std.specs.Prelude.{option_map, replicate, slice_get, slice_index_or, slice_set, take, unwrap_or}
use Rattle.std.specs.List.{range_with_len}
use Rattle.cxl_message.specs.Spans.{lines_of}
use Rattle.cxl_message.specs.declared.opcodes.Span.{Span}
use Rattle.cxl_message.specs.Lists.{below}
use Rattle.snoop_filter.specs.declared.blocks.Block.{Block}
use Rattle.snoop_filter.specs.Victims.{block_from, block_lines}
use Rattle.block_snoop.specs.Answering.{LeftRecord, are_all_left}
use Rattle.device_record.specs.Tables.{changed_at, place_set}
use Rattle.std.proofs.lemmas.List.{length-set}
use Rattle.device_record.specs.Record.{TaskRecord, left_at}
use Rattle.device_tables.specs.declared.tasks.Task.TheInside.{Inside}
use Rattle.device_tables.specs.Tasks.{AreOfBlock, IsTask, lefts_seen, task_seen}

-- of a block that was not answered all lines are left
pub all_lines_left : (b : Block) (span : Span) → b.span ≡ span → are_all_left b.span (block_lines b) ≡ true
all_lines_left b Span.One is = subst (λ s. are_all_left s (lines_of b.first.0 s) ≡ true) (sym is) refl
all_lines_left b Span.Two is = subst (λ s. are_all_left s (lines_of b.first.0 s) ≡ true) (sym is) refl
all_lines_left b Span.Four is = subst (λ s. are_all_left s (lines_of b.first.0 s) ≡ true) (sym is) refl

-- ---- a new task

abbrev pub no_lines : List ℕ
no_lines = []

none_from : (s n : ℕ) → map (λ (h : ℕ). no_lines) (range_with_len s n) ≡ replicate n no_lines
none_from s zero = refl
none_from s (suc n) = ap (λ l. no_lines ∷ l) (none_from (s + 1) n)

seen_of_one : (l : LeftRecord) (n m : ℕ) → n ≤ m → lefts_seen n (replicate m l) ≡ replicate n l.left
seen_of_one l zero m few = refl
seen_of_one l (suc n) zero few = absurd (omega arith)
seen_of_one l (suc n) (suc m) few = let less : n ≤ m = omega arith in ap (λ ls. l.left ∷ ls) (seen_of_one l n m less)

-- no host has a line left
pub new_lefts : (b : Block) (n : ℕ) → n ≤ 16 → lefts_seen n (replicate 16 (record { block = b; left = [] })) ≡ map (λ (h : ℕ). no_lines) (below n)
new_lefts b n few = seen_of_one (record { block = b; left = [] }) n 16 few ∙ sym (none_from 0 n)

pub of_block_all : (b : Block) (l : LeftRecord) (n : ℕ) → l.block ≡ b → AreOfBlock b (replicate n l)
of_block_all b l zero is = tt
of_block_all b l (suc n) is = (is, of_block_all b l n is)

-- ---- places

pub of_block_at : (b : Block) (ls : List LeftRecord) (h : ℕ) (d : LeftRecord) → AreOfBlock b ls → h < length ls → (slice_index_or ls h d).block ≡ b
of_block_at b [] h d all low = absurd (omega arith)
of_block_at b (l ∷ ls) zero d all low = all.0
of_block_at b (l ∷ ls) (suc h) d all low = let less : h < length ls = omega arith in of_block_at b ls h d all.1 less

pub of_block_set : (b : Block) (ls : List LeftRecord) (h : ℕ) (l : LeftRecord) → AreOfBlock b ls → l.block ≡ b → AreOfBlock b (slice_set ls h l)
of_block_set b [] h l all is = tt
of_block_set b (m ∷ ls) zero l all is = (is, all.1)
of_block_set b (m ∷ ls) (suc h) l all is = (all.0, of_block_set b ls h l all.1 is)

pub seen_at : (n : ℕ) (ls : List LeftRecord) (h : ℕ) (d : LeftRecord) → h < n → h < length ls → slice_get (lefts_seen n ls) h ≡ Some (slice_index_or ls h d).left
seen_at zero ls h d low less = absurd (omega arith)
seen_at (suc n) [] h d low less = absurd (omega arith)
seen_at (suc n) (l ∷ ls) zero d low less = refl
seen_at (suc n) (l ∷ ls) (suc h) d low less = let low2 : h < n = omega arith in let less2 : h < length ls = omega arith in seen_at n ls h d low2 less2

pub seen_past : (n : ℕ) (ls : List LeftRecord) (h : ℕ) → n ≤ h → slice_get (lefts_seen n ls) h ≡ None
seen_past zero ls h high = refl
seen_past (suc n) [] h high = refl
seen_past (suc n) (l ∷ ls) zero high = absurd (omega arith)
seen_past (suc n) (l ∷ ls) (suc h) high = let more : n ≤ h = omega arith in seen_past n ls h more

seen_set : (n : ℕ) (ls : List LeftRecord) (h : ℕ) (l : LeftRecord) → lefts_seen n (slice_set ls h l) ≡ slice_set (lefts_seen n ls) h l.left
seen_set zero ls h l = refl
seen_set (suc n) [] h l = refl
seen_set (suc n) (m ∷ ls) zero l = refl
seen_set (suc n) (m ∷ ls) (suc h) l = ap (λ r. m.left ∷ r) (seen_set n ls h l)

-- one host's lines are changed
pub seen_changed : (n : ℕ) (ls : List LeftRecord) (h : ℕ) (d l : LeftRecord) (change : List ℕ → List ℕ) → h < n → h < length ls → l.left ≡ change (slice_index_or ls h d).left
    → lefts_seen n (slice_set ls h l) ≡ changed_at h change (lefts_seen n ls)
seen_changed n ls h d l change low less is =
    seen_set n ls h l ∙ ap (slice_set (lefts_seen n ls) h) is ∙ sym (ap (λ o. place_set h (option_map change o) (lefts_seen n ls)) (seen_at n ls h d low less))

-- what is no host's is changed nowhere
pub seen_unchanged : (n : ℕ) (ls : List LeftRecord) (h : ℕ) (change : List ℕ → List ℕ) → n ≤ h → lefts_seen n ls ≡ changed_at h change (lefts_seen n ls)
seen_unchanged n ls h change high = sym (ap (λ o. place_set h (option_map change o) (lefts_seen n ls)) (seen_past n ls h high))

-- ---- a task

-- a task with the answers of one host changed
pub task_changed :
    (t : Inside) (now : TaskRecord) (h : ℕ) (d l : LeftRecord) (change : TaskRecord → List ℕ → List ℕ) → task_seen t ≡ now → IsTask t → h < t.hosts
    → l.left ≡ change (task_seen t) (slice_index_or t.left h d).left
    → task_seen (record t { left = slice_set t.left h l }) ≡ record now { left = changed_at h (change now) now.left }
task_changed t now h d l change view kept low is =
    let sixteen = kept.sixteen in
    let few = kept.hosts in
    let less : h < length t.left = omega arith in
    subst (λ (k : TaskRecord). task_seen (record t { left = slice_set t.left h l }) ≡ record k { left = changed_at h (change k) k.left }) view
    (ap {B = TaskRecord} (λ (ls : List (List ℕ)). record (task_seen t) { left = ls }) (seen_changed t.hosts t.left h d l (change (task_seen t)) low less is))

-- what is no host's is changed nowhere
pub task_unchanged :
    (t : Inside) (now : TaskRecord) (h : ℕ) (change : TaskRecord → List ℕ → List ℕ) → task_seen t ≡ now → t.hosts ≤ h → now ≡ record now { left = changed_at h (change now) now.left }
task_unchanged t now h change view high =
    subst (λ (k : TaskRecord). k ≡ record k { left = changed_at h (change k) k.left }) view
    (ap {B = TaskRecord} (λ (ls : List (List ℕ)). record (task_seen t) { left = ls }) (seen_unchanged t.hosts t.left h (change (task_seen t)) high))

-- it is kept as a task is
pub task_kept : (t : Inside) (h : ℕ) (l : LeftRecord) → IsTask t → l.block ≡ t.block → IsTask (record t { left = slice_set t.left h l })
task_kept t h l kept is = record { hosts = kept.hosts; sixteen = length-set t.left h l ∙ kept.sixteen; block = of_block_set t.block t.left h l kept.block is }

-- the block of what a host has left
pub block_at : (t : Inside) (h : ℕ) (d : LeftRecord) → IsTask t → h < t.hosts → (slice_index_or t.left h d).block ≡ t.block
block_at t h d kept low =
    let sixteen = kept.sixteen in
    let few = kept.hosts in
    let less : h < length t.left = omega arith in
    of_block_at t.block t.left h d kept.block less

-- the lines that a host has left
pub left_seen : (t : Inside) (now : TaskRecord) (h : ℕ) (d : LeftRecord) → task_seen t ≡ now → IsTask t → h < t.hosts → (slice_index_or t.left h d).left ≡ left_at h now
left_seen t now h d view kept low =
    let sixteen = kept.sixteen in
    let few = kept.hosts in
    let less : h < length t.left = omega arith in
    subst (λ (k : TaskRecord). (slice_index_or t.left h d).left ≡ left_at h k) view (sym (ap (λ o. unwrap_or o []) (seen_at t.hosts t.left h d low less)))

pub none_seen : (t : Inside) (now : TaskRecord) (h : ℕ) → task_seen t ≡ now → t.hosts ≤ h → [] ≡ left_at h now
none_seen t now h view high = subst (λ (k : TaskRecord). [] ≡ left_at h k) view (sym (ap (λ o. unwrap_or o []) (seen_past t.hosts t.left h high)))

-- its block
pub block_seen : (t : Inside) (now : TaskRecord) (h : ℕ) (d : LeftRecord) → task_seen t ≡ now → IsTask t → h < t.hosts → (slice_index_or t.left h d).block ≡ block_from now.first now.span
block_seen t now h d view kept low = subst (λ (k : TaskRecord). (slice_index_or t.left h d).block ≡ block_from k.first k.span) view (block_at t h d kept low)
