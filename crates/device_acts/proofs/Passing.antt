-- A search that passes the acts of one member after another has passed the acts of all.
use Rattle.std.proofs.Common.{◌≡◌, ℕ, zero, suc, ◌+◌, ◌-◌, ◌<◌, ◌≤◌, false, true, List, [], ◌∷◌, ◌++◌, Option, Some, None, length, get_or, take, refl, ap, sym, ◌∙◌, arith}
use Rattle.std.specs.Prelude.{flat_map, is_some, option_map, slice_get, ◌==◌}
use Rattle.std.specs.Option.{option_map_or}
use Rattle.std.proofs.lemmas.Bool.{cond-false, false≢true, ne_eqb}
use Rattle.std.proofs.lemmas.Option.{none-some}
use Rattle.std.proofs.lemmas.List.{flat_map_more, take_more}
use Rattle.cxl_message.specs.declared.events.Act.{Act}
use Rattle.cxl_message.specs.declared.identifiers.Tag.{Tag}
use Rattle.cxl_message.specs.declared.messages.Message.{Message}
use Rattle.cxl_message.specs.Lists.{below}
use Rattle.cxl_message.specs.Setup.{Configuration}
use Rattle.device_record.specs.Acts.{act_if, serve_acts, tag_named}
use Rattle.device_record.specs.Record.{DeviceRecord}
use Rattle.device_acts.proofs.Hosts.{below_one_more}
use Rattle.device_acts.specs.declared.searching.Search.{Search}
use Rattle.device_acts.specs.Searching.{found, searched, searched_act}

-- acts after acts
pub searched-append : (xs ys : List Act) (p : Search) → searched (xs ++ ys) p ≡ searched ys (searched xs p)
searched-append [] ys p = refl
searched-append (x ∷ xs) ys p = searched-append xs ys (searched_act x p)

-- acts passed after others
pub searched_after : (p q r : Search) (xs ys : List Act) → q ≡ searched xs p → r ≡ searched ys q → r ≡ searched (xs ++ ys) p
searched_after p q r xs ys a b = b ∙ ap (searched ys) a ∙ sym (searched-append xs ys p)

joined : {X : Type 0} (f : X → List Act) (xs : List X) (x : X) (p q r : Search) → q ≡ searched (flat_map f xs) p → r ≡ searched (f x) q → r ≡ searched (flat_map f (xs ++ x ∷ [])) p
joined f xs x p q r a b =
    b ∙ ap (searched (f x)) a ∙ sym (searched-append (flat_map f xs) (f x) p) ∙ ap (λ (l : List Act). searched l p) (flat_map_more f [] xs x)

-- one more member of a list
pub searched_more : {X : Type 0} (f : X → List Act) (xs : List X) (i : ℕ) (d : X) (p q r : Search) → i < length xs → q ≡ searched (flat_map f (take i xs)) p → r ≡ searched (f (get_or xs i d)) q → r ≡ searched (flat_map f (take (i + 1) xs)) p
searched_more f xs i d p q r h a b = joined f (take i xs) (get_or xs i d) p q r a b ∙ ap (λ l. searched (flat_map f l) p) (sym (take_more xs i d h))

-- one more number
pub searched_below : (f : ℕ → List Act) (n : ℕ) (p q r : Search) → q ≡ searched (flat_map f (below n)) p → r ≡ searched (f n) q → r ≡ searched (flat_map f (below (n + 1))) p
searched_below f n p q r a b = joined f (below n) n p q r a b ∙ ap (λ l. searched (flat_map f l) p) (sym (below_one_more n))

-- what is found stays found
pub found_stays : (act : Act) (xs : List Act) → searched xs (Search.Found act) ≡ Search.Found act
found_stays act [] = refl
found_stays act (x ∷ xs) = found_stays act xs

-- and a search that has found its act passes nothing more
pub stays : (xs : List Act) (s : Search) → is_some (found s) ≡ true → s ≡ searched xs s
stays xs (Search.Skip n) is = absurd (false≢true is)
stays xs (Search.Found act) is = sym (found_stays act xs)

less_one : (n : ℕ) → suc n - 1 ≡ n
less_one n = omega arith

not_none : (n : ℕ) → (suc n == 0) ≡ false
not_none n = ne_eqb (suc n) 0 (λ same. omega arith)

step : (x : Act) (n : ℕ) → searched_act x (Search.Skip (suc n)) ≡ Search.Skip n
step x n = cond-false (suc n == 0) (Search.Found x) (Search.Skip (suc n - 1)) (not_none n) ∙ ap (λ k. Search.Skip k) (less_one n)

-- the search finds the act of the number
pub finds : (xs : List Act) (n : ℕ) → slice_get xs n ≡ found (searched xs (Search.Skip n))
finds [] n = refl
finds (x ∷ xs) zero = ap found (sym (found_stays x xs))
finds (x ∷ xs) (suc n) = finds xs n ∙ ap (λ (s : Search). found (searched xs s)) (sym (step x n))

-- where there are no more acts than are to come before it, it passes them all
pub passes_all : (xs : List Act) (n : ℕ) → length xs ≤ n → searched xs (Search.Skip n) ≡ Search.Skip (n - length xs)
passes_all [] n few = let e : n ≡ n - 0 = omega arith in ap (λ k. Search.Skip k) e
passes_all (x ∷ xs) zero few = absurd (omega (arith, few))
passes_all (x ∷ xs) (suc n) few =
    let fewer : length xs ≤ n = omega (arith, few) in
    let e : n - length xs ≡ suc n - suc (length xs) = omega arith in
    ap (searched xs) (step x n) ∙ passes_all xs n fewer ∙ ap (λ k. Search.Skip k) e

-- a search that skips has one number to skip
pub same_skip : (a b : ℕ) → Search.Skip a ≡ Search.Skip b → a ≡ b
same_skip a b same = cc

-- a search that skips has found nothing
pub skips_or_found : (s : Search) (n : ℕ) (act : Act) → s ≡ Search.Skip n → s ≡ Search.Found act → ⊥
skips_or_found s n act skips found = cc

-- the serve of the message whose tag is read
pub serve_is : (setup : Configuration) (k : DeviceRecord) (h : ℕ) (tag : Tag) (o : Option Message) → Some tag ≡ option_map (λ (m : Message). tag_named m) o
    → act_if setup k (Act.Serve h tag) ≡ option_map_or (serve_acts setup k h) o []
serve_is setup k h tag None is = absurd (none-some tag (sym is))
serve_is setup k h tag (Some m) is = let same : tag ≡ tag_named m = cc in ap (λ (t : Tag). act_if setup k (Act.Serve h t)) same

-- no message, and no serve
pub no_serve : (setup : Configuration) (k : DeviceRecord) (h : ℕ) (o : Option Message) → None ≡ option_map (λ (m : Message). tag_named m) o → [] ≡ option_map_or (serve_acts setup k h) o []
no_serve setup k h None is = refl
no_serve setup k h (Some m) is = absurd (none-some (tag_named m) is)
