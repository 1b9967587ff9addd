-- Decimal digits and their value.
use Rattle.std.proofs.Common.{◌≡◌, ℕ, ◌+◌, ◌-◌, ◌*◌, ◌^◌, ◌<◌, ◌≤◌, true, List, length, get_or, take, arith, ◌&&◌, [], ◌∷◌, refl, ap}
use Rattle.std.specs.Char.{is_ascii_digit}
use Rattle.std.specs.List.{list_all}
use Rattle.std.specs.Int.{IsInRange}
use Rattle.std.specs.Str.{all_ascii_digits}
use Rattle.std.specs.Str.Parse.{digits_value}
use Rattle.std.proofs.lemmas.Int.Digits.{digits_value_more}
use Rattle.std.proofs.lemmas.Str.{digit_value_digit}
use Rattle.std.proofs.lemmas.Str.Parse.{IsNumeralModel, numerals_by_value, tells_all_ascii_digits, digit_at, digits_value_short, digits_value-take-le}

-- std's words for digits and their value
pub own : IsNumeralModel (λ ds. all_ascii_digits ds ≡ true) (digits_value 10)
own = numerals_by_value _ tells_all_ascii_digits

-- digits, one by one
pub all_ascii_digits_is : (ds : List ℕ) → all_ascii_digits ds ≡ list_all is_ascii_digit ds
all_ascii_digits_is [] = refl
all_ascii_digits_is (d ∷ ds) = ap (λ b. is_ascii_digit d && b) (all_ascii_digits_is ds)

-- up to ten digits are worth less than the eleventh power
pub value_below : (ds : List ℕ) (i : ℕ) → all_ascii_digits ds ≡ true → length ds ≤ 10 → digits_value 10 (take i ds) < 10 ^ 10
value_below ds i digits few =
    let whole = digits_value_short own ds 10 digits few in
    let part = digits_value-take-le 10 ds i (omega arith) in
    omega arith

-- each of them is one
pub digit_there : (ds : List ℕ) (i : ℕ) → all_ascii_digits ds ≡ true → i < length ds → IsInRange 48 57 (get_or ds i 0)
digit_there ds i digits below = digit_at ds i (own.to ds digits) below

-- one digit more
pub value_more : (ds : List ℕ) (i : ℕ) → all_ascii_digits ds ≡ true → i < length ds → digits_value 10 (take (i + 1) ds) ≡ 10 * digits_value 10 (take i ds) + (get_or ds i 0 - 48)
value_more ds i digits below =
    let more = digits_value_more 10 ds i below in
    let digit = digit_value_digit (get_or ds i 0) (digit_there ds i digits below) in
    omega arith
