-- How many lines a set has. All of it is an own rule.
use Rattle.std.specs.Prelude.{Bool, List, count_by, false, length, true, ℕ, ◌+◌, ◌-◌, ◌<◌, ◌^◌, ◌≡◌}

-- a set's count is that of its marks
pub record IsCounted (count : ℕ) (marks : List Bool) : Type 0 where
  pub counted : count ≡ count_by (λ on. on) marks
  pub few : length marks < 2 ^ 32

-- a count after a mark was put in the place of another
abbrev pub count_after : ℕ → Bool → Bool → ℕ
count_after count false false = count
count_after count false true = count + 1
count_after count true false = count - 1
count_after count true true = count
