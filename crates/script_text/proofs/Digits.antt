-- Hexadecimal digits and their bytes.
use Rattle.std.proofs.Common.{◌≡◌, ℕ, ◌+◌, ◌*◌, ◌<◌, ◌≤◌, List, [], ◌∷◌, ◌++◌, length, get_or, drop, Option, Some, None, refl, sym, ap, ◌∙◌, append_assoc, arith}
use Rattle.std.proofs.lemmas.List.{append-nil, drop_more, drop_all}
use Rattle.script_text.specs.Words.{◌>>=◌, byte_in, bytes_in}

-- these bytes, and then those that are read
abbrev pub after_bytes : List ℕ → Option (List ℕ) → Option (List ℕ)
after_bytes front read = read >>= λ tail. Some (front ++ tail)

-- one byte more
pub one_more : (front : List ℕ) (byte : ℕ) (read : Option (List ℕ)) → after_bytes front (read >>= λ tail. Some (byte ∷ tail)) ≡ after_bytes (front ++ byte ∷ []) read
one_more front byte (Some tail) = ap (λ (xs : List ℕ). Some xs) (sym (append_assoc front (byte ∷ []) tail))
one_more front byte None = refl

-- two digits come off the rest
pub pair_off : (word : List ℕ) (i : ℕ) → 2 * i + 1 < length word → drop (2 * i) word ≡ get_or word (2 * i) 0 ∷ get_or word (2 * i + 1) 0 ∷ drop (2 * (i + 1)) word
pair_off word i below =
    let first = drop_more word (2 * i) 0 (omega arith) in
    let second = drop_more word (2 * i + 1) 0 below in
    let place : 2 * i + 1 + 1 ≡ 2 * (i + 1) = omega arith in
    first ∙ ap (λ (xs : List ℕ). get_or word (2 * i) 0 ∷ xs) (second ∙ ap (λ n. get_or word (2 * i + 1) 0 ∷ drop n word) place)

pub bytes_more : (word front : List ℕ) (i byte : ℕ) → 2 * i + 1 < length word → byte_in (get_or word (2 * i) 0) (get_or word (2 * i + 1) 0) ≡ Some byte
    → bytes_in word ≡ after_bytes front (bytes_in (drop (2 * i) word)) → bytes_in word ≡ after_bytes (front ++ byte ∷ []) (bytes_in (drop (2 * (i + 1)) word))
bytes_more word front i byte below read so_far =
    so_far ∙ ap (λ (xs : List ℕ). after_bytes front (bytes_in xs)) (pair_off word i below)
    ∙ ap (λ (o : Option ℕ). after_bytes front (o >>= λ b. bytes_in (drop (2 * (i + 1)) word) >>= λ bs. Some (b ∷ bs))) read
    ∙ one_more front byte (bytes_in (drop (2 * (i + 1)) word))

pub bytes_fail : (word front : List ℕ) (i : ℕ) → 2 * i + 1 < length word → byte_in (get_or word (2 * i) 0) (get_or word (2 * i + 1) 0) ≡ None
    → bytes_in word ≡ after_bytes front (bytes_in (drop (2 * i) word)) → bytes_in word ≡ None
bytes_fail word front i below read so_far =
    so_far ∙ ap (λ (xs : List ℕ). after_bytes front (bytes_in xs)) (pair_off word i below)
    ∙ ap (λ (o : Option ℕ). after_bytes front (o >>= λ b. bytes_in (drop (2 * (i + 1)) word) >>= λ bs. Some (b ∷ bs))) read

pub bytes_end : (word front : List ℕ) (i : ℕ) → length word ≤ 2 * i → bytes_in word ≡ after_bytes front (bytes_in (drop (2 * i) word)) → bytes_in word ≡ Some front
bytes_end word front i le so_far =
    so_far ∙ ap (λ (xs : List ℕ). after_bytes front (bytes_in xs)) (drop_all (2 * i) word le) ∙ ap (λ (xs : List ℕ). Some xs) (append-nil front)
