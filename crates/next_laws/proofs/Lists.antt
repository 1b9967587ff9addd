-- Lists joined of parts.
use Rattle.std.proofs.Common.{◌≡◌, List, [], ◌∷◌, ◌++◌, map, refl, ap, sym, ◌∙◌, subst}
use Rattle.std.specs.Prelude.{flat_map}
use Rattle.std.proofs.lemmas.List.Concat.{flat_map-cons}
use Rattle.step_laws.proofs.Counts.{Each, each_append}

-- the image of two lists joined
pub map_joined : {X Y : Type 0} (f : X → Y) (xs ys : List X) → map f (xs ++ ys) ≡ map f xs ++ map f ys
map_joined f [] ys = refl
map_joined f (x ∷ xs) ys = ap (λ zs. f x ∷ zs) (map_joined f xs ys)

-- and of three
pub map_three : {X Y : Type 0} (f : X → Y) (xs ys zs : List X) → map f (xs ++ ys ++ zs) ≡ map f xs ++ map f ys ++ map f zs
map_three f xs ys zs = map_joined f (xs ++ ys) zs ∙ ap (λ ws. ws ++ map f zs) (map_joined f xs ys)

-- the image of parts whose images are known
pub map_parts : {X A B : Type 0} (f : A → B) (g : X → List A) (h : X → List B) (xs : List X) → Each (λ x. map f (g x) ≡ h x) xs → map f (flat_map g xs) ≡ flat_map h xs
map_parts f g h [] each = refl
map_parts f g h (x ∷ xs) each =
    ap (map f) (flat_map-cons g x xs) ∙ map_joined f (g x) (flat_map g xs) ∙ ap (λ ys. ys ++ map f (flat_map g xs)) each.0
    ∙ ap (λ ys. h x ++ ys) (map_parts f g h xs each.1) ∙ sym (flat_map-cons h x xs)

-- parts of one each
pub single_parts : {X A : Type 0} (f : X → List A) (g : X → A) (xs : List X) → Each (λ x. f x ≡ g x ∷ []) xs → flat_map f xs ≡ map g xs
single_parts f g [] each = refl
single_parts f g (x ∷ xs) each = flat_map-cons f x xs ∙ ap (λ ys. ys ++ flat_map f xs) each.0 ∙ ap (λ ys. g x ∷ ys) (single_parts f g xs each.1)

-- the images of parts, joined
pub parts_of_images : {X A B : Type 0} (f : A → B) (g : X → List A) (xs : List X) → flat_map (λ x. map f (g x)) xs ≡ map f (flat_map g xs)
parts_of_images f g [] = refl
parts_of_images f g (x ∷ xs) =
    flat_map-cons (λ y. map f (g y)) x xs ∙ ap (λ ys. map f (g x) ++ ys) (parts_of_images f g xs) ∙ sym (map_joined f (g x) (flat_map g xs)) ∙ ap (map f) (sym (flat_map-cons g x xs))

-- what holds of each member of each part
pub each_part : {X A : Type 0} (P : A → Type 0) (f : X → List A) (xs : List X) → ((x : X) → Each P (f x)) → Each P (flat_map f xs)
each_part P f [] each = tt
each_part P f (x ∷ xs) each = subst (Each P) (sym (flat_map-cons f x xs)) (each_append P (f x) (flat_map f xs) (each x) (each_part P f xs each))
