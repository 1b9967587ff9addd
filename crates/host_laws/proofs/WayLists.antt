-- The kept list of ways: each of its changes is that of a list of lines and of the copies by line.
use Rattle.host_record.specs.Ways.{Way, add_way, copy_in, drop_way, has_way, put_way}
use Rattle.std.proofs.Common.{Bool, List, Option, Some, [], ap, cond, false, filter, find, map, refl, sym, true, ℕ, ◌++◌, ◌∙◌, ◌∷◌, ◌≡◌}
use Rattle.std.proofs.lemmas.Bool.{eq-eqb, eqb-true, or_left, or_right}
use Rattle.std.specs.Option.{option_map_or}
use Rattle.std.specs.Prelude.{not, ◌==◌, ◌||◌}
use Rattle.cxl_message.specs.Lists.{is_in, without}
use Rattle.coherence_model.specs.Cache.{with_way}
use Rattle.coherence_model.specs.Copies.{Copy, no_copy}

-- a way with its copy
abbrev pub way_at : (ℕ → Copy) → ℕ → Way
way_at f a = record { line = a; copy = f a }

-- the ways of some lines
abbrev pub kept_ways : (ℕ → Copy) → List ℕ → List Way
kept_ways f ws = map (way_at f) ws

pub lines_kept : (f : ℕ → Copy) (ws : List ℕ) → map (λ (w : Way). w.line) (kept_ways f ws) ≡ ws
lines_kept f [] = refl
lines_kept f (a ∷ ws) = ap (λ xs. a ∷ xs) (lines_kept f ws)

pub has_kept : (f : ℕ → Copy) (a : ℕ) (ws : List ℕ) → has_way a (kept_ways f ws) ≡ is_in a ws
has_kept f a [] = refl
has_kept f a (b ∷ ws) = ap (λ x. (a == b) || x) (has_kept f a ws)

put_one : (f : ℕ → Copy) (c : Copy) (b : ℕ) (same : Bool) → cond same (record { line = b; copy = c }) (way_at f b) ≡ record { line = b; copy = cond same c (f b) }
put_one f c b true = refl
put_one f c b false = refl

pub put_kept : (f : ℕ → Copy) (l : ℕ) (c : Copy) (ws : List ℕ) → put_way l c (kept_ways f ws) ≡ kept_ways (λ a. cond (l == a) c (f a)) ws
put_kept f l c [] = refl
put_kept f l c (b ∷ ws) = λ i. put_one f c b (l == b) i ∷ put_kept f l c ws i

filter_one : (f : ℕ → Copy) (b : ℕ) (ws : List ℕ) (rest : List Way) (keep : Bool) → rest ≡ kept_ways f ws → cond keep (way_at f b ∷ rest) rest ≡ kept_ways f (cond keep (b ∷ ws) ws)
filter_one f b ws rest true is = ap (λ xs. way_at f b ∷ xs) is
filter_one f b ws rest false is = is

pub filter_kept : (f : ℕ → Copy) (p : ℕ → Bool) (ws : List ℕ) → filter (λ (w : Way). p w.line) (kept_ways f ws) ≡ kept_ways f (filter p ws)
filter_kept f p [] = refl
filter_kept f p (b ∷ ws) = filter_one f b (filter p ws) (filter (λ (w : Way). p w.line) (kept_ways f ws)) (p b) (filter_kept f p ws)

pub drop_kept : (f : ℕ → Copy) (v : ℕ) (ws : List ℕ) → drop_way v (kept_ways f ws) ≡ kept_ways f (without v ws)
drop_kept f v ws = filter_kept f (λ b. not (v == b)) ws

pub append_kept : (f : ℕ → Copy) (ws : List ℕ) (a : ℕ) → kept_ways f ws ++ way_at f a ∷ [] ≡ kept_ways f (ws ++ a ∷ [])
append_kept f [] a = refl
append_kept f (b ∷ ws) a = ap (λ xs. way_at f b ∷ xs) (append_kept f ws a)

add_by : (f : ℕ → Copy) (l : ℕ) (ws : List ℕ) (here : Bool) → (here ≡ false → f l ≡ no_copy)
    → cond here (kept_ways f ws) (kept_ways f ws ++ record { line = l; copy = no_copy } ∷ []) ≡ kept_ways f (cond here ws (ws ++ l ∷ []))
add_by f l ws true none = refl
add_by f l ws false none = ap (λ c. kept_ways f ws ++ record { line = l; copy = c } ∷ []) (sym (none refl)) ∙ append_kept f ws l

pub add_kept : (f : ℕ → Copy) (l : ℕ) (ws : List ℕ) → (is_in l ws ≡ false → f l ≡ no_copy) → add_way l (kept_ways f ws) ≡ kept_ways f (with_way (Some l) ws)
add_kept f l ws none =
    ap (λ b. cond b (kept_ways f ws) (kept_ways f ws ++ record { line = l; copy = no_copy } ∷ [])) (has_kept f l ws) ∙ add_by f l ws (is_in l ws) none

copy_step : (f : ℕ → Copy) (a b : ℕ) (ws : List ℕ) (found : Option Way) (here : Bool) → (here ≡ true → a ≡ b) → option_map_or (λ (w : Way). w.copy) found no_copy ≡ cond (is_in a ws) (f a) no_copy
    → option_map_or (λ (w : Way). w.copy) (cond here (Some (way_at f b)) found) no_copy ≡ cond (here || is_in a ws) (f a) no_copy
copy_step f a b ws found true same is = ap f (sym (same refl))
copy_step f a b ws found false same is = is

-- the copy of a line with a way, and of one without
pub copy_kept : (f : ℕ → Copy) (a : ℕ) (ws : List ℕ) → copy_in (kept_ways f ws) a ≡ cond (is_in a ws) (f a) no_copy
copy_kept f a [] = refl
copy_kept f a (b ∷ ws) = copy_step f a b ws (find (λ (w : Way). a == w.line) (kept_ways f ws)) (a == b) (eqb-true a b) (copy_kept f a ws)

-- ways with the same copies
pub same_kept : (f g : ℕ → Copy) (ws : List ℕ) → ((a : ℕ) → is_in a ws ≡ true → f a ≡ g a) → kept_ways f ws ≡ kept_ways g ws
same_kept f g [] is = refl
same_kept f g (b ∷ ws) is = λ i. record { line = b; copy = is b (or_left (b == b) (is_in b ws) (eq-eqb b b refl)) i } ∷ same_kept f g ws (λ a there. is a (or_right (a == b) (is_in a ws) there)) i
