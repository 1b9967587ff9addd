-- What is seen of a pool before and after a call, from its lines, marks and free slots.
use Rattle.std.proofs.Common.{◌≡◌, ℕ, ◌+◌, ◌-◌, ◌<◌, ◌≤◌, Bool, true, false, List, [], None, Some, IsSome, length, replicate, set, get_or, ap, sym, ◌∙◌, subst, arith}
use Rattle.line_pool.specs.Pools.{Pool, IsInUse, line_of, line_in_use, lines_in_use}
use Rattle.line_pool.specs.Region.{marks}
use Rattle.std.specs.List.{range_with_len}
use Rattle.line_pool.specs.Lending.{with_line}
use Rattle.line_pool.proofs.Lines.{length-lines_in_use, get_or-lines_in_use, lines_in_use-set, lines_in_use-unset, lines_in_use-write, lines_in_use-none, is_used}
use Rattle.line_pool.proofs.Regions.{in_use_within, spare_within, marks-opened}

-- what is seen of these lines
abbrev pub seen : List Bool → List (List ℕ) → ℕ → Pool
seen used lines spare = record { slots = lines_in_use used lines; spare = spare }

-- a slot in use, as the region has it
pub record Held (used : List Bool) (lines : List (List ℕ)) (pool : Pool) (slot number : ℕ) : Type 0 where
  pub mark_fits : number < length used
  pub line_fits : number < length lines
  pub marked : get_or used number true ≡ true
  pub in_use : get_or used number false ≡ true
  pub line : line_of pool slot ≡ Some (get_or lines number [])

-- a slot that is seen in use is one in the region
pub held : (used : List Bool) (lines : List (List ℕ)) (spare : ℕ) (pool : Pool) (slot number : ℕ) → seen used lines spare ≡ pool → number ≡ slot → length used ≡ length lines → IsInUse pool slot → Held used lines pool slot number
held used lines spare pool slot number is same sizes in_use =
    let line : line_of pool slot ≡ line_in_use (get_or used number false) (get_or lines number []) =
    sym (ap (λ (p : Pool). line_of p slot) is) ∙ ap (line_of (seen used lines spare)) (sym same) ∙ get_or-lines_in_use used lines number sizes in
    let mark : get_or used number false ≡ true = is_used _ (get_or lines number []) (subst IsSome line in_use) in
    let within = in_use_within used number mark in
    record {
      mark_fits = within.0;
      line_fits = omega (arith, within.0, sizes);
      marked = within.1;
      in_use = mark;
      line = line ∙ ap (λ u. line_in_use u (get_or lines number [])) mark;
    }

-- what is seen after a line was written
pub seen-write : (used : List Bool) (lines : List (List ℕ)) (spare : ℕ) (pool : Pool) (slot number : ℕ) (line : List ℕ) → seen used lines spare ≡ pool → number ≡ slot → length used ≡ length lines → get_or used number false ≡ true → seen used (set lines number line) spare ≡ with_line pool slot line
seen-write used lines spare pool slot number line is same sizes mark =
    ap (λ l. record { slots = l; spare = spare }) (lines_in_use-write used lines number line sizes mark)
    ∙ ap (λ (p : Pool). with_line p number line) is
    ∙ ap (λ n. with_line pool n line) same

-- what is seen after a slot was given back
pub seen-give : (used : List Bool) (lines : List (List ℕ)) (spare more : ℕ) (pool : Pool) (slot number : ℕ) → seen used lines spare ≡ pool → number ≡ slot → length used ≡ length lines → more ≡ spare + 1 → seen (set used number false) lines more ≡ record { slots = set pool.slots slot None; spare = pool.spare + 1 }
seen-give used lines spare more pool slot number is same sizes count =
    ap (λ l. record { slots = l; spare = more }) (lines_in_use-unset used lines number sizes)
    ∙ ap (λ n. record { slots = set (lines_in_use used lines) number None; spare = n }) count
    ∙ ap (λ (p : Pool). record { slots = set p.slots number None; spare = p.spare + 1 }) is
    ∙ ap (λ n. record { slots = set pool.slots n None; spare = pool.spare + 1 }) same

-- what is seen after a slot was taken
pub seen-take : (used : List Bool) (lines : List (List ℕ)) (spare less : ℕ) (pool : Pool) (slot : ℕ) (line : List ℕ) → seen used lines spare ≡ pool → length used ≡ length lines → less ≡ spare - 1 → seen (set used slot true) (set lines slot line) less ≡ record { slots = set pool.slots slot (Some line); spare = pool.spare - 1 }
seen-take used lines spare less pool slot line is sizes count =
    ap (λ l. record { slots = l; spare = less }) (lines_in_use-set used lines slot true line sizes)
    ∙ ap (λ n. record { slots = set (lines_in_use used lines) slot (Some line); spare = n }) count
    ∙ ap (λ (p : Pool). record { slots = set p.slots slot (Some line); spare = p.spare - 1 }) is

-- a spare slot is seen as one that isn't in use
pub seen-spare : (used : List Bool) (lines : List (List ℕ)) (spare : ℕ) (pool : Pool) (slot : ℕ) → seen used lines spare ≡ pool → length used ≡ length lines → get_or used slot true ≡ false → (slot < length pool.slots) × (line_of pool slot ≡ None)
seen-spare used lines spare pool slot is sizes mark =
    let within = spare_within used slot mark in
    let size : length pool.slots ≡ length used = sym (ap (λ (p : Pool). length p.slots) is) ∙ length-lines_in_use used lines sizes in (
      omega (arith, within.0, size),
      sym (ap (λ (p : Pool). line_of p slot) is) ∙ get_or-lines_in_use used lines slot sizes ∙ ap (λ u. line_in_use u (get_or lines slot [])) within.1,
    )

-- what is seen of a pool at first
pub seen-open : (n spare : ℕ) (used : List Bool) (lines : List (List ℕ)) → used ≡ replicate n false → length lines ≡ n → spare ≡ n → seen used lines spare ≡ record { slots = replicate n None; spare = n }
seen-open n spare used lines marks count all =
    ap (λ us. seen us lines spare) marks
    ∙ ap (λ l. record { slots = l; spare = spare }) (lines_in_use-none n lines count)
    ∙ ap (λ m. record { slots = replicate n None; spare = m }) all

-- what is seen of a pool at first, by the marks that the free slots determine
pub seen-opened : (n m spare : ℕ) (lines : List (List ℕ)) (free : List ℕ) → free ≡ range_with_len 0 n → length lines ≡ n → length lines ≡ m → n ≤ 131072 → spare ≡ n → seen (marks free m) lines spare ≡ record { slots = replicate n None; spare = n }
seen-opened n m spare lines free numbers count size most all =
    seen-open n spare (marks free m) lines (marks-opened n m lines free numbers count size most) count all
