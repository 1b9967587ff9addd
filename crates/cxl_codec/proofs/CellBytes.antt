-- The bytes of cells that all have one label, and bytes that are put one part after the other.
use Rattle.std.proofs.Common.{◌≡◌, ℕ, List, [], ◌∷◌, ◌++◌, refl, ap, ◌∙◌, append_assoc}
use Rattle.std.specs.Prelude.{map}
use Rattle.cxl_codec.specs.declared.fields.FieldName.{FieldName}
use Rattle.cxl_codec.specs.Cells.{bytes_of, field, free}

-- the bytes of the bytes of a field
pub bytes_of_field : (name : FieldName) (bs : List ℕ) → bytes_of (map (field name) bs) ≡ bs
bytes_of_field name [] = refl
bytes_of_field name (b ∷ bs) = ap (λ (rest : List ℕ). b ∷ rest) (bytes_of_field name bs)

-- the bytes of free bytes
pub bytes_of_free : (bs : List ℕ) → bytes_of (map free bs) ≡ bs
bytes_of_free [] = refl
bytes_of_free (b ∷ bs) = ap (λ (rest : List ℕ). b ∷ rest) (bytes_of_free bs)

-- two parts that were put, the second spelled in another way
pub put_both : (old reserved first second a b c : List ℕ) → reserved ≡ old → first ≡ reserved ++ a → second ≡ first ++ b → b ≡ c → second ≡ old ++ (a ++ c)
put_both old reserved first second a b c e p q same =
    q ∙ ap (λ (front : List ℕ). front ++ b) (p ∙ ap (λ (front : List ℕ). front ++ a) e) ∙ append_assoc old a b ∙ ap (λ (rest : List ℕ). old ++ (a ++ rest)) same
