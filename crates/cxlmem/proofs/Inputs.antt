-- What a source had, where it tells, by the bytes that were read of it.
use Rattle.std.proofs.Common.{List, None, Option, Some, [], ap, arith, length, length-append, sym, subst, take, ◌++◌, ◌+◌, ◌<◌, ◌≡◌, ◌≤◌, ◌∙◌, ℕ}
use Rattle.std.specs.Prelude.{IfSome}
use Rattle.std.specs.Io.KnownBytes.{Consumes, IsAtEnd}
use Rattle.std.proofs.lemmas.List.{append-nil, length-take-le}

-- what holds of the bytes that were read holds of all that was left, where nothing is left now
pub of_input : (a b : Option (List ℕ)) (bytes : List ℕ) (P : List ℕ → Type 0) → Consumes a b bytes → IsAtEnd b → P bytes → IfSome a P
of_input None b bytes P came end holds = tt
of_input (Some xs) None bytes P came end holds = absurd came
of_input (Some xs) (Some ys) bytes P came end holds = subst P (sym (came ∙ ap (λ (l : List ℕ). bytes ++ l) end ∙ append-nil bytes)) holds

-- and nothing is left
pub nothing_left : (a b : Option (List ℕ)) (bytes : List ℕ) → Consumes a b bytes → IsAtEnd b → IfSome a (λ xs. b ≡ Some [])
nothing_left None b bytes came end = tt
nothing_left (Some xs) None bytes came end = absurd came
nothing_left (Some xs) (Some ys) bytes came end = ap Some end

-- there were more bytes than a limit, where more were read
pub over_limit : (limit n : ℕ) (a b c : Option (List ℕ)) (bytes piece : List ℕ) → Consumes a b bytes → Consumes b c (take n piece) → n ≤ length piece → limit < length bytes + n → IfSome a (λ xs. limit < length xs)
over_limit limit n None b c bytes piece came more fits over = tt
over_limit limit n (Some xs) None c bytes piece came more fits over = absurd came
over_limit limit n (Some xs) (Some ys) None bytes piece came more fits over = absurd more
over_limit limit n (Some xs) (Some ys) (Some zs) bytes piece came more fits over =
    let size = ap (λ (l : List ℕ). length l) came in
    let rest = ap (λ (l : List ℕ). length l) more in
    omega (arith, size, rest, length-append bytes ys, length-append (take n piece) zs, length-take-le n piece fits, over)
