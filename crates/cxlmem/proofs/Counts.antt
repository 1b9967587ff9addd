-- A word of a command line that is a decimal number, as it is parsed.
use Rattle.std.proofs.Common.{◌≡◌, ◌≢◌, ℕ, ◌<◌, ◌≤◌, List, [], ◌∷◌, get_or, ap, sym, subst, ◌∙◌, arith}
use Rattle.std.specs.Char.{digit_value}
use Rattle.std.specs.Fmt.{decimal}
use Rattle.std.specs.Str.Parse.{IsNumeral, digits_value, without_leading_plus}
use Rattle.std.proofs.lemmas.Fmt.{decimal_is_IsNumeral}
use Rattle.std.proofs.lemmas.Str.Parse.{without_leading_plus_none}

-- digits don't begin with a plus
no_plus : (ds : List ℕ) → IsNumeral 10 ds → get_or ds 0 0 ≢ 43
no_plus [] is plus = omega (arith, is.0)
no_plus (d ∷ ds) is plus = let none : digit_value 43 < 10 = subst (λ (x : ℕ). digit_value x < 10) plus is.1.0 in omega (arith, none)

-- a decimal number has no plus before it, and its digits are its value
pub read_again : (n : ℕ) (word : List ℕ) → n ≤ 65536 → word ≡ decimal n → IsNumeral 10 (without_leading_plus word) × (digits_value 10 (without_leading_plus word) ≡ n)
read_again n word small is =
    let numeral = decimal_is_IsNumeral n (omega arith) in
    let bare : without_leading_plus word ≡ decimal n = ap without_leading_plus is ∙ without_leading_plus_none (decimal n) (no_plus (decimal n) numeral.0) in
    subst (λ (ds : List ℕ). IsNumeral 10 ds × (digits_value 10 ds ≡ n)) (sym bare) numeral
