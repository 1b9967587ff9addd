-- What is seen of a pool's lines.
use Rattle.std.proofs.Common.{◌≡◌, ℕ, if◌then◌else◌, Bool, true, false, List, [], ◌∷◌, None, Some, IsSome, length, replicate, set, get_or, count_by, is_none, sum_by, refl, ap, sym, ◌∙◌, zero, suc, arith}
use Rattle.std.proofs.lemmas.List.{set-get_or}
use Rattle.std.proofs.lemmas.List.Sums.{sum_by-cons}
use Rattle.line_pool.specs.Pools.{line_in_use, lines_in_use}
use Rattle.line_pool.specs.Region.{spare_of}

-- each slot is seen
pub length-lines_in_use : (used : List Bool) (lines : List (List ℕ)) → length used ≡ length lines → length (lines_in_use used lines) ≡ length used
length-lines_in_use [] lines sizes = refl
length-lines_in_use (u ∷ used) [] sizes = absurd (omega (arith, sizes))
length-lines_in_use (u ∷ used) (line ∷ lines) sizes = ap suc (length-lines_in_use used lines (omega arith))

-- what is seen of a slot
pub get_or-lines_in_use : (used : List Bool) (lines : List (List ℕ)) (slot : ℕ) → length used ≡ length lines → get_or (lines_in_use used lines) slot None ≡ line_in_use (get_or used slot false) (get_or lines slot [])
get_or-lines_in_use [] lines slot sizes = refl
get_or-lines_in_use (u ∷ used) [] slot sizes = absurd (omega (arith, sizes))
get_or-lines_in_use (u ∷ used) (line ∷ lines) zero sizes = refl
get_or-lines_in_use (u ∷ used) (line ∷ lines) (suc slot) sizes = get_or-lines_in_use used lines slot (omega arith)

-- a slot whose mark and line are written is seen so
pub lines_in_use-set : (used : List Bool) (lines : List (List ℕ)) (slot : ℕ) (u : Bool) (line : List ℕ) → length used ≡ length lines → lines_in_use (set used slot u) (set lines slot line) ≡ set (lines_in_use used lines) slot (line_in_use u line)
lines_in_use-set [] lines slot u line sizes = refl
lines_in_use-set (v ∷ used) [] slot u line sizes = absurd (omega (arith, sizes))
lines_in_use-set (v ∷ used) (old ∷ lines) zero u line sizes = refl
lines_in_use-set (v ∷ used) (old ∷ lines) (suc slot) u line sizes = ap (λ l. line_in_use v old ∷ l) (lines_in_use-set used lines slot u line (omega arith))

-- a slot whose mark is taken away is not seen
pub lines_in_use-unset : (used : List Bool) (lines : List (List ℕ)) (slot : ℕ) → length used ≡ length lines → lines_in_use (set used slot false) lines ≡ set (lines_in_use used lines) slot None
lines_in_use-unset used lines slot sizes =
    ap (lines_in_use (set used slot false)) (sym (set-get_or lines slot [])) ∙ lines_in_use-set used lines slot false (get_or lines slot []) sizes

-- a line that is written to a slot in use is seen there
pub lines_in_use-write : (used : List Bool) (lines : List (List ℕ)) (slot : ℕ) (line : List ℕ) → length used ≡ length lines → get_or used slot false ≡ true → lines_in_use used (set lines slot line) ≡ set (lines_in_use used lines) slot (Some line)
lines_in_use-write used lines slot line sizes in_use =
    ap (λ us. lines_in_use us (set lines slot line)) (sym (set-get_or used slot false))
    ∙ lines_in_use-set used lines slot (get_or used slot false) line sizes
    ∙ ap (λ u. set (lines_in_use used lines) slot (line_in_use u line)) in_use

-- a slot that is seen has a mark
pub is_used : (u : Bool) (line : List ℕ) → IsSome (line_in_use u line) → u ≡ true
is_used true line seen = refl
is_used false line seen = seen

-- the slots that are not seen are the spare ones
pub count_by-lines_in_use : (used : List Bool) (lines : List (List ℕ)) → length used ≡ length lines → count_by is_none (lines_in_use used lines) ≡ sum_by spare_of used
count_by-lines_in_use [] lines sizes = refl
count_by-lines_in_use (u ∷ used) [] sizes = absurd (omega (arith, sizes))
count_by-lines_in_use (true ∷ used) (line ∷ lines) sizes =
    omega (
      arith,
      sum_by-cons (λ o. if is_none o then 1 else 0) (Some line) (lines_in_use used lines),
      sum_by-cons spare_of true used,
      count_by-lines_in_use used lines (omega arith),
    )
count_by-lines_in_use (false ∷ used) (line ∷ lines) sizes =
    omega (
      arith,
      sum_by-cons (λ o. if is_none o then 1 else 0) None (lines_in_use used lines),
      sum_by-cons spare_of false used,
      count_by-lines_in_use used lines (omega arith),
    )

-- where no slot has a mark, none is seen
pub lines_in_use-none : (n : ℕ) (lines : List (List ℕ)) → length lines ≡ n → lines_in_use (replicate n false) lines ≡ replicate n None
lines_in_use-none zero lines size = refl
lines_in_use-none (suc n) [] size = absurd (omega (arith, size))
lines_in_use-none (suc n) (line ∷ lines) size = ap (λ l. None ∷ l) (lines_in_use-none n lines (omega (arith, size)))
