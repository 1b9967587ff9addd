-- Changes of the filter line by line: a block's change is that of each of its lines in turn.
use Rattle.std.proofs.Common.{◌≡◌, ℕ, zero, suc, Bool, true, false, List, [], ◌∷◌, ◌++◌, cond, map, refl, ap, ◌∙◌}
use Rattle.std.specs.Prelude.{replicate, slice_set, ◌==◌, ◌||◌}
use Rattle.std.specs.List.{list_any}
use Rattle.std.proofs.lemmas.Bool.{or_from, or_parts}
use Rattle.cxl_message.specs.declared.states.Listing.{Listing}
use Rattle.cxl_message.specs.Lists.{is_in}
use Rattle.snoop_filter.specs.Changes.{row_marked, row_set, rows_changed, rows_hold, rows_hold_all, rows_let_go, rows_set}
use Rattle.snoop_filter.specs.Rows.{FilterRow, has_row, is_some_listing, stands}
use Rattle.device_laws.specs.Laws.{BlocksAreDoneByLine}
use Rattle.device_laws.proofs.FilterSteps.{changed_again, let_go_lower}

same_changes : (f g : FilterRow → FilterRow) → ((r : FilterRow) → f r ≡ g r) → (rows : List FilterRow) → rows_changed f rows ≡ rows_changed g rows
same_changes f g same rows = ap (λ (h : FilterRow → FilterRow). rows_changed h rows) (λ i r. same r i)

marked_twice : (held : Bool) (r : FilterRow) (b c : Bool) → cond c (record (cond b (record r { held = held }) r) { held = held }) (cond b (record r { held = held }) r) ≡ cond (b || c) (record r { held = held }) r
marked_twice held r true true = refl
marked_twice held r true false = refl
marked_twice held r false true = refl
marked_twice held r false false = refl

line_kept : (held : Bool) (r : FilterRow) (b : Bool) → (cond b (record r { held = held }) r).line ≡ r.line
line_kept held r true = refl
line_kept held r false = refl

or_no : (b : Bool) → (b || false) ≡ b
or_no true = refl
or_no false = refl

one_or_none : (a b : ℕ) → is_in a (b ∷ []) ≡ (a == b)
one_or_none a b = or_no (a == b)

-- a mark on one line and then on others
marks_join : (held : Bool) (a : ℕ) (lines : List ℕ) (r : FilterRow) → row_marked lines held (row_marked (a ∷ []) held r) ≡ row_marked (a ∷ lines) held r
marks_join held a lines r =
    ap (λ x. cond (is_in x lines) (record (row_marked (a ∷ []) held r) { held = held }) (row_marked (a ∷ []) held r)) (line_kept held r (is_in r.line (a ∷ [])))
    ∙ marked_twice held r (is_in r.line (a ∷ [])) (is_in r.line lines) ∙ ap (λ b. cond (b || is_in r.line lines) (record r { held = held }) r) (one_or_none r.line a)

-- lines are let go one after the other
pub let_go_each : (a : ℕ) (lines : List ℕ) (rows : List FilterRow) → rows_let_go lines (rows_let_go (a ∷ []) rows) ≡ rows_let_go (a ∷ lines) rows
let_go_each a lines rows =
    changed_again (row_marked lines false) (row_marked (a ∷ []) false) (let_go_lower lines) rows
    ∙ same_changes (λ r. row_marked lines false (row_marked (a ∷ []) false r)) (row_marked (a ∷ lines) false) (marks_join false a lines) rows

-- ---- listings

still_none : (ls : List Listing) (h : ℕ) → list_any is_some_listing ls ≡ false → list_any is_some_listing (slice_set ls h Listing.I) ≡ false
still_none [] h none = none
still_none (l ∷ ls) zero none = or_from _ _ refl (or_parts _ _ none).1
still_none (l ∷ ls) (suc h) none = let parts = or_parts _ _ none in or_from _ _ parts.0 (still_none ls h parts.1)

unset_by : (h : ℕ) (r : FilterRow) (b : Bool) → stands r ≡ false → stands (cond b (record r { listings = slice_set r.listings h Listing.I }) r) ≡ false
unset_by h r true none = let parts = or_parts _ _ none in or_from _ _ (still_none r.listings h parts.0) parts.1
unset_by h r false none = none

set_again : (l : Listing) (ls : List Listing) (h : ℕ) → slice_set (slice_set ls h l) h l ≡ slice_set ls h l
set_again l [] h = refl
set_again l (x ∷ ls) zero = refl
set_again l (x ∷ ls) (suc h) = ap (λ r. x ∷ r) (set_again l ls h)

set_twice : (h : ℕ) (l : Listing) (r : FilterRow) (b c : Bool)
    → cond c (record (cond b (record r { listings = slice_set r.listings h l }) r) { listings = slice_set (cond b (record r { listings = slice_set r.listings h l }) r).listings h l }) (cond b (record r { listings = slice_set r.listings h l }) r)
    ≡ cond (b || c) (record r { listings = slice_set r.listings h l }) r
set_twice h l r true true = ap {B = FilterRow} (λ (ls : List Listing). record r { listings = ls }) (set_again l r.listings h)
set_twice h l r true false = refl
set_twice h l r false true = refl
set_twice h l r false false = refl

line_same : (h : ℕ) (l : Listing) (r : FilterRow) (b : Bool) → (cond b (record r { listings = slice_set r.listings h l }) r).line ≡ r.line
line_same h l r true = refl
line_same h l r false = refl

sets_join : (a : ℕ) (lines : List ℕ) (h : ℕ) (l : Listing) (r : FilterRow) → row_set lines h l (row_set (a ∷ []) h l r) ≡ row_set (a ∷ lines) h l r
sets_join a lines h l r =
    ap (λ x. cond (is_in x lines) (record (row_set (a ∷ []) h l r) { listings = slice_set (row_set (a ∷ []) h l r).listings h l }) (row_set (a ∷ []) h l r)) (line_same h l r (is_in r.line (a ∷ [])))
    ∙ set_twice h l r (is_in r.line (a ∷ [])) (is_in r.line lines) ∙ ap (λ b. cond (b || is_in r.line lines) (record r { listings = slice_set r.listings h l }) r) (one_or_none r.line a)

-- a host is unlisted on lines one after the other
pub unlist_each : (a : ℕ) (lines : List ℕ) (h : ℕ) (rows : List FilterRow) → rows_set lines h Listing.I (rows_set (a ∷ []) h Listing.I rows) ≡ rows_set (a ∷ lines) h Listing.I rows
unlist_each a lines h rows =
    changed_again (row_set lines h Listing.I) (row_set (a ∷ []) h Listing.I) (λ r none. unset_by h r (is_in r.line lines) none) rows
    ∙ same_changes (λ r. row_set lines h Listing.I (row_set (a ∷ []) h Listing.I r)) (row_set (a ∷ lines) h Listing.I) (sets_join a lines h Listing.I) rows

-- ---- holding

map_again : (f g : FilterRow → FilterRow) (rows : List FilterRow) → map f (map g rows) ≡ map (λ r. f (g r)) rows
map_again f g [] = refl
map_again f g (r ∷ rows) = ap (λ l. f (g r) ∷ l) (map_again f g rows)

-- lines that have a row are held one after the other
pub hold_each : (hosts a : ℕ) (lines : List ℕ) (rows : List FilterRow) → has_row a rows ≡ true → rows_hold_all lines (rows_hold hosts a rows) ≡ rows_hold_all (a ∷ lines) rows
hold_each hosts a lines rows there =
    ap (λ b. rows_hold_all lines (cond b (map (row_marked (a ∷ []) true) rows) (rows ++ record { line = a; listings = replicate hosts Listing.I; held = true } ∷ []))) there
    ∙ map_again (row_marked lines true) (row_marked (a ∷ []) true) rows ∙ ap (λ (f : FilterRow → FilterRow). map f rows) (λ i r. marks_join true a lines r i)

-- all three
pub block_by_line : BlocksAreDoneByLine
block_by_line = record { let_go = let_go_each; unlist = unlist_each; hold = hold_each }
