-- What is found of a line in rows that change for other lines.
use Rattle.std.proofs.Common.{◌≡◌, ℕ, zero, suc, ◌+◌, ◌<◌, ◌≤◌, Bool, true, false, List, [], ◌∷◌, ◌++◌, Option, Some, None, cond, map, refl, ap, sym, ◌∙◌, subst, arith}
use Rattle.std.specs.Prelude.{not, slice_set, ◌==◌, ◌||◌}
use Rattle.std.specs.List.{range_with_len}
use Rattle.std.specs.Option.{option_map_or}
use Rattle.std.proofs.lemmas.Bool.{eq-eqb, eqb-true, false≢true, ne_eqb, or_left, or_right}
use Rattle.cxl_message.specs.declared.states.Listing.{Listing}
use Rattle.cxl_message.specs.Lists.{is_in}
use Rattle.snoop_filter.specs.Changes.{row_held, row_marked, row_set, rows_changed, rows_hold, rows_hold_all, rows_let_go, rows_set}
use Rattle.snoop_filter.specs.Rows.{FilterRow, has_row, held_in, row_at, stands}
use Rattle.snoop_filter.specs.Filters.{FilterRecord}
use Rattle.snoop_filter.specs.Victims.{is_idle_in}
use Rattle.cxl_message.specs.declared.opcodes.Span.{Span}
use Rattle.cxl_message.specs.Codes.{span_len}
use Rattle.cxl_message.specs.Spans.{lines_of}
use Rattle.device_laws.proofs.Loops.{hold_each, let_go_each}
use Rattle.device_changes.specs.FilterLines.{AreHeld, AreIdle}

-- ---- what a look-up says

has_found : (a : ℕ) (rows : List FilterRow) (r : FilterRow) → row_at a rows ≡ Some r → has_row a rows ≡ true
has_found a [] r found = cc
has_found a (x ∷ rows) r found = has_by a x rows r (x.line == a) refl found (has_found a rows r)
  where
    has_by : (a : ℕ) (x : FilterRow) (rows : List FilterRow) (r : FilterRow) (b : Bool) → (x.line == a) ≡ b → cond b (Some x) (row_at a rows) ≡ Some r → (row_at a rows ≡ Some r → has_row a rows ≡ true)
        → ((a == x.line) || has_row a rows) ≡ true
    has_by a x rows r true is found more = or_left _ _ (eq-eqb a x.line (sym (eqb-true x.line a is)))
    has_by a x rows r false is found more = or_right _ _ (more found)

-- a line that is idle has a row that isn't held
pub record Idle (rows : List FilterRow) (a : ℕ) : Type 0 where
  pub row : has_row a rows ≡ true
  pub free : held_in a rows ≡ false

not_held : (b : Bool) → not b ≡ true → b ≡ false
not_held true is = cc
not_held false is = refl

idle_by : (rows : List FilterRow) (a : ℕ) (o : Option FilterRow) → row_at a rows ≡ o → option_map_or (λ (r : FilterRow). not r.held) o false ≡ true → Idle rows a
idle_by rows a None is idle = cc
idle_by rows a (Some r) is idle =
    record { row = has_found a rows r is; free = ap (λ o. option_map_or (λ (x : FilterRow). x.held) o false) is ∙ not_held r.held idle }

pub idle_is : (rows : List FilterRow) (a : ℕ) → is_idle_in rows a ≡ true → Idle rows a
idle_is rows a idle = idle_by rows a (row_at a rows) refl idle

held_by : (rows : List FilterRow) (a : ℕ) (o : Option FilterRow) → row_at a rows ≡ o → option_map_or (λ (r : FilterRow). r.held) o false ≡ true → has_row a rows ≡ true
held_by rows a None is held = cc
held_by rows a (Some r) is held = has_found a rows r is

-- a line that is held has a row
pub held_has_row : (rows : List FilterRow) (a : ℕ) → held_in a rows ≡ true → has_row a rows ≡ true
held_has_row rows a held = held_by rows a (row_at a rows) refl held

-- ---- other lines

unmarked : (a b : ℕ) → (b ≡ a → ⊥) → (held : Bool) (r : FilterRow) → r.line ≡ b → row_marked (a ∷ []) held r ≡ r
unmarked a b other held r at = ap (λ (c : Bool). cond (c || false) (record r { held = held }) r) (ap (λ n. n == a) at ∙ ne_eqb b a other)

marked_line : (lines : List ℕ) (held : Bool) (r : FilterRow) → (row_marked lines held r).line ≡ r.line
marked_line lines held r = by (is_in r.line lines)
  where
    by : (c : Bool) → (cond c (record r { held = held }) r).line ≡ r.line
    by true = refl
    by false = refl

other_by : (a b : ℕ) → (b ≡ a → ⊥) → (held : Bool) (r : FilterRow) (rest old : Option FilterRow) (c : Bool) → (r.line == b) ≡ c → rest ≡ old
    → cond ((row_marked (a ∷ []) held r).line == b) (Some (row_marked (a ∷ []) held r)) rest ≡ cond c (Some r) old
other_by a b other held r rest old true is more =
    ap (λ (x : FilterRow). cond (x.line == b) (Some x) rest) (unmarked a b other held r (eqb-true r.line b is)) ∙ ap (λ (c : Bool). cond c (Some r) rest) is
other_by a b other held r rest old false is more = ap (λ (c : Bool). cond c (Some (row_marked (a ∷ []) held r)) rest) (ap (λ n. n == b) (marked_line (a ∷ []) held r) ∙ is) ∙ more

-- a mark of one line leaves the rows of others
pub other_row : (a b : ℕ) → (b ≡ a → ⊥) → (held : Bool) (rows : List FilterRow) → row_at b (map (row_marked (a ∷ []) held) rows) ≡ row_at b rows
other_row a b other held [] = refl
other_row a b other held (r ∷ rows) = other_by a b other held r _ _ (r.line == b) refl (other_row a b other held rows)

-- where line a has a row and is held, another idle line stays idle
pub still_idle : (hosts a b : ℕ) → (b ≡ a → ⊥) → (rows : List FilterRow) → has_row a rows ≡ true → is_idle_in rows b ≡ true → is_idle_in (rows_hold hosts a rows) b ≡ true
still_idle hosts a b other rows there idle =
    ap (λ (c : Bool). is_idle_in (cond c (map (row_marked (a ∷ []) true) rows) (rows ++ row_held hosts a ∷ [])) b) there
    ∙ ap (λ o. option_map_or (λ (r : FilterRow). not r.held) o false) (other_row a b other true rows) ∙ idle

held_kept : (change : FilterRow → FilterRow) (b : ℕ) (r : FilterRow) (rest old : List FilterRow) (c d : Bool) → (r.line == b) ≡ c → stands (change r) ≡ d → (change r).line ≡ r.line → (r.line ≡ b → (change r).held ≡ r.held)
    → option_map_or (λ (x : FilterRow). x.held) (cond c (Some r) (row_at b old)) false ≡ true → (held_in b old ≡ true → held_in b rest ≡ true)
    → held_in b (cond d (change r ∷ rest) rest) ≡ true
held_kept change b r rest old true true is stand line same held more =
    ap (λ (c : Bool). option_map_or (λ (x : FilterRow). x.held) (cond c (Some (change r)) (row_at b rest)) false) (ap (λ n. n == b) line ∙ is) ∙ same (eqb-true r.line b is) ∙ held
held_kept change b r rest old true false is stand line same held more =
    absurd (false≢true (sym stand ∙ or_right _ _ (same (eqb-true r.line b is) ∙ held)))
held_kept change b r rest old false true is stand line same held more =
    ap (λ (c : Bool). option_map_or (λ (x : FilterRow). x.held) (cond c (Some (change r)) (row_at b rest)) false) (ap (λ n. n == b) line ∙ is) ∙ more held
held_kept change b r rest old false false is stand line same held more = more held

-- a held line stays held where its row stays so
pub still_held : (change : FilterRow → FilterRow) (b : ℕ) → ((r : FilterRow) → (change r).line ≡ r.line) → ((r : FilterRow) → r.line ≡ b → (change r).held ≡ r.held)
    → (rows : List FilterRow) → held_in b rows ≡ true → held_in b (rows_changed change rows) ≡ true
still_held change b line same [] held = held
still_held change b line same (r ∷ rows) held =
    held_kept change b r (rows_changed change rows) rows (r.line == b) (stands (change r)) refl refl (line r) (same r) held (still_held change b line same rows)

-- another line is let go
pub held_let_go : (a b : ℕ) → (b ≡ a → ⊥) → (rows : List FilterRow) → held_in b rows ≡ true → held_in b (rows_let_go (a ∷ []) rows) ≡ true
held_let_go a b other rows held =
    still_held (row_marked (a ∷ []) false) b (marked_line (a ∷ []) false) (λ r at. ap (λ (x : FilterRow). x.held) (unmarked a b other false r at)) rows held

set_line : (lines : List ℕ) (h : ℕ) (l : Listing) (r : FilterRow) → (row_set lines h l r).line ≡ r.line
set_line lines h l r = by (is_in r.line lines)
  where
    by : (c : Bool) → (cond c (record r { listings = slice_set r.listings h l }) r).line ≡ r.line
    by true = refl
    by false = refl

set_held : (lines : List ℕ) (h : ℕ) (l : Listing) (r : FilterRow) → (row_set lines h l r).held ≡ r.held
set_held lines h l r = by (is_in r.line lines)
  where
    by : (c : Bool) → (cond c (record r { listings = slice_set r.listings h l }) r).held ≡ r.held
    by true = refl
    by false = refl

-- a host is listed
pub held_set : (lines : List ℕ) (h : ℕ) (l : Listing) (b : ℕ) (rows : List FilterRow) → held_in b rows ≡ true → held_in b (rows_set lines h l rows) ≡ true
held_set lines h l b rows held = still_held (row_set lines h l) b (set_line lines h l) (λ r at. set_held lines h l r) rows held

-- ---- no line

same_rows : (f : FilterRow → FilterRow) → ((r : FilterRow) → f r ≡ r) → (rows : List FilterRow) → map f rows ≡ rows
same_rows f same [] = refl
same_rows f same (r ∷ rows) = λ i. same r i ∷ same_rows f same rows i

pub hold_none : (rows : List FilterRow) → rows_hold_all [] rows ≡ rows
hold_none rows = same_rows (row_marked [] true) (λ r. refl) rows

-- ---- lines that follow each other

-- the first of some idle lines
pub first_idle : (rows : List FilterRow) (line n : ℕ) → 1 ≤ n → AreIdle rows line n → Idle rows line
first_idle rows line n some idle = let here : line ≤ line = omega arith in let low : line < line + n = omega arith in idle_is rows line (idle line here low)

-- the others stay idle while the first is held
pub rest_idle : (old new : FilterRecord) (line n m : ℕ) → new ≡ record old { rows = rows_hold old.hosts line old.rows } → 1 ≤ n → m + 1 ≡ n → AreIdle old.rows line n → AreIdle new.rows (line + 1) m
rest_idle old new line n m is some less idle =
    subst (λ (f : FilterRecord). AreIdle f.rows (line + 1) m) (sym is)
    (λ a from to. (
    let high : line ≤ a = omega arith in
    let low : a < line + n = omega arith in
    still_idle old.hosts line a (λ same. (let at : a ≡ line = same in omega arith)) old.rows (first_idle old.rows line n some idle).row (idle a high low)
    ))

-- the first is held, and then the others
pub held_each : (old one all : FilterRecord) (line n m : ℕ) → one ≡ record old { rows = rows_hold old.hosts line old.rows } → all ≡ record one { rows = rows_hold_all (range_with_len (line + 1) m) one.rows }
    → m + 1 ≡ n → has_row line old.rows ≡ true → all ≡ record old { rows = rows_hold_all (range_with_len line n) old.rows }
held_each old one all line n m first rest less there =
    let e : suc m ≡ n = omega arith in
    rest ∙ ap {B = FilterRecord} (λ (f : FilterRecord). record f { rows = rows_hold_all (range_with_len (line + 1) m) f.rows }) first
    ∙ ap {B = FilterRecord} (λ (rs : List FilterRow). record old { rows = rs }) (hold_each old.hosts line (range_with_len (line + 1) m) old.rows there ∙ ap (λ k. rows_hold_all (range_with_len line k) old.rows) e)

-- one alone
pub held_one : (old one : FilterRecord) (line n : ℕ) → one ≡ record old { rows = rows_hold old.hosts line old.rows } → 1 ≡ n → has_row line old.rows ≡ true → one ≡ record old { rows = rows_hold_all (range_with_len line n) old.rows }
held_one old one line n first only there =
    first
    ∙ ap {B = FilterRecord} (λ (rs : List FilterRow). record old { rows = rs })
    (ap (λ (b : Bool). cond b (map (row_marked (line ∷ []) true) old.rows) (old.rows ++ row_held old.hosts line ∷ [])) there ∙ ap (λ k. rows_hold_all (range_with_len line k) old.rows) only)

-- the others stay held while the first is let go
pub rest_held : (old new : FilterRecord) (line n m : ℕ) → new ≡ record old { rows = rows_let_go (line ∷ []) old.rows } → m + 1 ≡ n → AreHeld old.rows line n → AreHeld new.rows (line + 1) m
rest_held old new line n m is less held =
    subst (λ (f : FilterRecord). AreHeld f.rows (line + 1) m) (sym is)
    (λ a from to. (
    let high : line ≤ a = omega arith in
    let low : a < line + n = omega arith in
    held_let_go line a (λ same. (let at : a ≡ line = same in omega arith)) old.rows (held a high low)
    ))

-- the first is let go, and then the others
pub gone_each : (old one all : FilterRecord) (line n m : ℕ) → one ≡ record old { rows = rows_let_go (line ∷ []) old.rows } → all ≡ record one { rows = rows_let_go (range_with_len (line + 1) m) one.rows }
    → m + 1 ≡ n → all ≡ record old { rows = rows_let_go (range_with_len line n) old.rows }
gone_each old one all line n m first rest less =
    let e : suc m ≡ n = omega arith in
    rest ∙ ap {B = FilterRecord} (λ (f : FilterRecord). record f { rows = rows_let_go (range_with_len (line + 1) m) f.rows }) first
    ∙ ap {B = FilterRecord} (λ (rs : List FilterRow). record old { rows = rs }) (let_go_each line (range_with_len (line + 1) m) old.rows ∙ ap (λ k. rows_let_go (range_with_len line k) old.rows) e)

lines_from : (first s n : ℕ) → map (λ k. first + k) (range_with_len s n) ≡ range_with_len (first + s) n
lines_from first s zero = refl
lines_from first s (suc n) = let e : first + (s + 1) ≡ (first + s) + 1 = omega arith in ap (λ l. (first + s) ∷ l) (lines_from first (s + 1) n ∙ ap (λ k. range_with_len k n) e)

-- the lines of a block follow each other
pub block_range : (first : ℕ) (span : Span) → lines_of first span ≡ range_with_len first (span_len span)
block_range first span = let e : first + 0 ≡ first = omega arith in lines_from first 0 (span_len span) ∙ ap (λ k. range_with_len k (span_len span)) e
