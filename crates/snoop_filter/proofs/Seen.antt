-- From the parts of a filter to what is seen of it.
use Rattle.std.proofs.Common.{◌^◌, ◌≡◌, ℕ, zero, suc, ◌+◌, ◌-◌, ◌<◌, ◌≤◌, ◌⊎◌, inl, inr, Bool, true, false, List, [], ◌∷◌, ◌++◌, Option, Some, None, cond, length, length-append, map, get_or, refl, ap, sym, ◌∙◌, subst, arith, vec_len, vec_capacity}
use Rattle.std.specs.Prelude.{IsTrue, find, is_some, not, option_map, replicate, slice_get, slice_set, take, unwrap_or, ◌==◌, ◌||◌}
use Rattle.std.specs.List.{list_any, range_with_len}
use Rattle.std.specs.Option.{option_map_or}
use Rattle.std.proofs.lemmas.Bool.{eq-eqb, false≢true, ne_eqb, or_left, or_right, cond-true, cond-false}
use Rattle.std.proofs.lemmas.List.{length-map, length-replicate}
use Rattle.std.proofs.lemmas.List.FromFn.{length-range_with_len}
use Rattle.std.proofs.lemmas.Option.{none-some, slice_get_read, slice_get_within, unwrap_or-slice_get}
use Rattle.cxl_message.specs.declared.states.Listing.{Listing}
use Rattle.cxl_message.specs.Lists.{is_in, without}
use Rattle.linked_order.specs.Orders.{Order}
use Rattle.snoop_filter.specs.declared.filters.Filter.TheInside.{Inside}
use Rattle.snoop_filter.specs.declared.places.Places.{Places}
use Rattle.snoop_filter.specs.declared.places.Row.{Row}
use Rattle.snoop_filter.specs.Changes.{row_held, row_marked, row_set, rows_changed, rows_hold}
use Rattle.snoop_filter.specs.Filters.{FilterRecord, free_in}
use Rattle.snoop_filter.specs.Kept.{IsKept, seen}
use Rattle.snoop_filter.specs.Moves.{IsAdded, IsPut, IsRemoved}
use Rattle.snoop_filter.specs.Places.{IsSound, blank_row, held_row, row_in, row_seen, rows_shown, shown}
use Rattle.snoop_filter.specs.Rows.{FilterRow, has_row, held_in, is_some_listing, listed_in, listing_of, row_at, stands}
use Rattle.snoop_filter.specs.Victims.{idle_block_around, is_idle_in, victim_in}
use Rattle.snoop_filter.proofs.Lists.{get_taken, length_in, set_length, set_taken}
use Rattle.snoop_filter.proofs.Rows.{find_none}
use Rattle.snoop_filter.proofs.Placing.{added_shown, added_sound, has_by, opened_sound, place_exists, put_shown, put_sound, put_standing, removed_shown, removed_sound, row_by, spare_place, untouched_shown}

-- as many rows are seen as there are places in the order
pub shown_length : (hosts : ℕ) (rows : List Row) (order : List ℕ) → length (rows_shown hosts rows order) ≡ length order
shown_length hosts rows order = length-map order (shown hosts rows)

-- ---- what is read

-- the table's cell of a line that exists
pub cell_is : (f : Inside) (v : FilterRecord) → seen f ≡ v → IsKept f → (a : ℕ) (e : Option ℕ) → a < v.lines → e ≡ get_or f.places.table.items a e → slice_get f.places.table.items a ≡ Some e
cell_is f v is kept a e low read =
    slice_get_read f.places.table.items (vec_len f.places.table) a e (omega (arith, f.places.table.ok.0)) (omega (arith, kept.lines, ap (λ (w : FilterRecord). w.lines) is, low)) read

-- a line's place
pub filed_at : (f : Inside) (v : FilterRecord) → seen f ≡ v → IsKept f → (a : ℕ) (e : Option ℕ) → a < v.lines → e ≡ get_or f.places.table.items a e → (o : Option ℕ) → e ≡ o → slice_get f.places.table.items a ≡ Some o
filed_at f v is kept a e low read o at = cell_is f v is kept a e low read ∙ ap Some at

-- a place that is filed exists
pub place_fits : (f : Inside) → IsKept f → (a p : ℕ) → slice_get f.places.table.items a ≡ Some (Some p) → p < vec_len f.places.rows
place_fits f kept a p filed =
    omega (arith, f.places.rows.ok.0, place_exists f.hosts f.places.table.items f.places.rows.items f.places.order.listed f.places.spare.items kept.sound p (kept.sound.placed a p filed).0)

-- the row that is read from a place
pub row_is : (f : Inside) (p : ℕ) (r : Row) → p < vec_len f.places.rows → r ≡ get_or f.places.rows.items p r → row_in f.places.rows.items p ≡ r
row_is f p r low read = ap (λ o. unwrap_or o blank_row) (slice_get_read f.places.rows.items (vec_len f.places.rows) p r (omega (arith, f.places.rows.ok.0)) low read)

-- how many lines there are at most
pub few_lines : (f : Inside) (v : FilterRecord) → seen f ≡ v → IsKept f → v.lines < 2 ^ 32
few_lines f v is kept = subst (λ (w : FilterRecord). w.lines < 2 ^ 32) is kept.few

pub has_seen : (f : Inside) (v : FilterRecord) → seen f ≡ v → IsKept f → (a : ℕ) (e : Option ℕ) → slice_get f.places.table.items a ≡ Some e → is_some e ≡ has_row a v.rows
has_seen f v is kept a e filed =
    sym (has_by f.hosts f.places.table.items f.places.rows.items f.places.order.listed f.places.spare.items kept.sound a e filed) ∙ ap (λ (w : FilterRecord). has_row a w.rows) is

row_seen_at : (f : Inside) (v : FilterRecord) → seen f ≡ v → IsKept f → (a : ℕ) (e : Option ℕ) → slice_get f.places.table.items a ≡ Some e → option_map (shown f.hosts f.places.rows.items) e ≡ row_at a v.rows
row_seen_at f v is kept a e filed =
    sym (row_by f.hosts f.places.table.items f.places.rows.items f.places.order.listed f.places.spare.items kept.sound a e filed) ∙ ap (λ (w : FilterRecord). row_at a w.rows) is

pub listed_seen : (f : Inside) (v : FilterRecord) → seen f ≡ v → IsKept f → (a p : ℕ) → slice_get f.places.table.items a ≡ Some (Some p) → (r : Row) → row_in f.places.rows.items p ≡ r → (h : ℕ) → h < v.hosts → get_or r.listed h Listing.I ≡ listed_in a h v.rows
listed_seen f v is kept a p filed r row h low =
    sym (unwrap_or-slice_get r.listed h Listing.I)
    ∙ ap (λ o. unwrap_or o Listing.I) (sym (get_taken r.listed f.hosts h (omega (arith, low, ap (λ (w : FilterRecord). w.hosts) is))))
    ∙ ap (λ (s : Row). unwrap_or (slice_get (take f.hosts s.listed) h) Listing.I) (sym row)
    ∙ ap (λ o. option_map_or (listing_of h) o Listing.I) (row_seen_at f v is kept a (Some p) filed)

pub listed_none : (f : Inside) (v : FilterRecord) → seen f ≡ v → IsKept f → (a : ℕ) → slice_get f.places.table.items a ≡ Some None → (h : ℕ) → Listing.I ≡ listed_in a h v.rows
listed_none f v is kept a filed h = ap (λ o. option_map_or (listing_of h) o Listing.I) (row_seen_at f v is kept a None filed)

pub held_seen : (f : Inside) (v : FilterRecord) → seen f ≡ v → IsKept f → (a p : ℕ) → slice_get f.places.table.items a ≡ Some (Some p) → (r : Row) → row_in f.places.rows.items p ≡ r → r.held ≡ held_in a v.rows
held_seen f v is kept a p filed r row =
    ap (λ (s : Row). s.held) (sym row) ∙ ap (λ o. option_map_or (λ (s : FilterRow). s.held) o false) (row_seen_at f v is kept a (Some p) filed)

pub held_none : (f : Inside) (v : FilterRecord) → seen f ≡ v → IsKept f → (a : ℕ) → slice_get f.places.table.items a ≡ Some None → false ≡ held_in a v.rows
held_none f v is kept a filed = ap (λ o. option_map_or (λ (s : FilterRow). s.held) o false) (row_seen_at f v is kept a None filed)

-- ---- victims

beyond : (f : Inside) (v : FilterRecord) → seen f ≡ v → IsKept f → (a : ℕ) → slice_get f.places.table.items a ≡ None → None ≡ row_at a v.rows
beyond f v is kept a none =
    sym (find_none (shown f.hosts f.places.rows.items) a f.places.order.listed (λ q in_q same. none-some (Some q) (sym none ∙ ap (slice_get f.places.table.items) (sym same) ∙ kept.sound.filed q in_q)))
    ∙ ap (λ (w : FilterRecord). row_at a w.rows) is

idle_cell : (f : Inside) (v : FilterRecord) → seen f ≡ v → IsKept f → (a : ℕ) (o : Option (Option ℕ)) → slice_get f.places.table.items a ≡ o → option_map (shown f.hosts f.places.rows.items) (unwrap_or o None) ≡ row_at a v.rows
idle_cell f v is kept a None cell = beyond f v is kept a cell
idle_cell f v is kept a (Some e) cell = row_seen_at f v is kept a e cell

by_option : (f : Inside) (e : Option ℕ) → option_map_or (λ (p : ℕ). not (row_in f.places.rows.items p).held) e false ≡ option_map_or (λ (r : FilterRow). not r.held) (option_map (shown f.hosts f.places.rows.items) e) false
by_option f None = refl
by_option f (Some p) = refl

-- whether a line has a row that isn't held, by what the table has for it
pub idle_seen : (f : Inside) (v : FilterRecord) → seen f ≡ v → IsKept f → (a : ℕ) (e : Option ℕ) → e ≡ unwrap_or (slice_get f.places.table.items a) None → option_map_or (λ (p : ℕ). not (row_in f.places.rows.items p).held) e false ≡ is_idle_in v.rows a
idle_seen f v is kept a e cell =
    ap (λ (o : Option ℕ). option_map_or (λ (p : ℕ). not (row_in f.places.rows.items p).held) o false) cell ∙ by_option f (unwrap_or (slice_get f.places.table.items a) None)
    ∙ ap (λ o. option_map_or (λ (r : FilterRow). not r.held) o false) (idle_cell f v is kept a (slice_get f.places.table.items a) refl)

oldest_by : (b : Bool) (f : ℕ → FilterRow) (x : ℕ) (xs : List ℕ) (rest : Option FilterRow) (o : Option ℕ) → rest ≡ option_map f o → cond b (Some (f x)) rest ≡ option_map f (cond b (Some x) o)
oldest_by true f x xs rest o is = refl
oldest_by false f x xs rest o is = is

oldest_found : (f : ℕ → FilterRow) (xs : List ℕ) → find (λ r. not r.held) (map f xs) ≡ option_map f (find (λ p. not (f p).held) xs)
oldest_found f [] = refl
oldest_found f (x ∷ xs) = oldest_by (not (f x).held) f x xs (find (λ r. not r.held) (map f xs)) (find (λ p. not (f p).held) xs) (oldest_found f xs)

around_by : (rows : List FilterRow) (f : ℕ → FilterRow) (o : Option ℕ) → option_map (λ p. idle_block_around rows (f p).line) o ≡ option_map (λ (r : FilterRow). idle_block_around rows r.line) (option_map f o)
around_by rows f None = refl
around_by rows f (Some p) = refl

-- the victim, by the oldest place whose row isn't held
pub victim_seen : (f : Inside) (v : FilterRecord) → seen f ≡ v → (o : Option ℕ) → o ≡ find (λ p. not (row_in f.places.rows.items p).held) f.places.order.listed
    → option_map (λ p. idle_block_around v.rows (row_in f.places.rows.items p).line) o ≡ victim_in v.rows
victim_seen f v is o found =
    around_by v.rows (shown f.hosts f.places.rows.items) o
    ∙ ap (λ (o : Option ℕ). option_map (λ (r : FilterRow). idle_block_around v.rows r.line) (option_map (shown f.hosts f.places.rows.items) o)) found
    ∙ ap (λ (o : Option FilterRow). option_map (λ (r : FilterRow). idle_block_around v.rows r.line) o) (sym (oldest_found (shown f.hosts f.places.rows.items) f.places.order.listed))
    ∙ ap (λ (w : FilterRecord). option_map (λ (r : FilterRow). idle_block_around v.rows r.line) (find (λ (r : FilterRow). not r.held) w.rows)) is

-- ---- moves

-- the parts belong together where they are the same lists
pub sound_moved : (hosts : ℕ) (table table2 : List (Option ℕ)) (rows rows2 : List Row) (order order2 spare spare2 : List ℕ) → table ≡ table2 → rows ≡ rows2 → order ≡ order2 → spare ≡ spare2 → IsSound hosts table rows order spare → IsSound hosts table2 rows2 order2 spare2
sound_moved hosts table table2 rows rows2 order order2 spare spare2 t r o s sound =
    subst (λ l. IsSound hosts table2 rows2 order2 l) s (subst (λ l. IsSound hosts table2 rows2 l spare) o (subst (λ l. IsSound hosts table2 l order spare) r (subst (λ l. IsSound hosts l rows order spare) t sound)))

-- what `put` needs for the place of a line
pub put_needs : (f : Inside) (v : FilterRecord) → seen f ≡ v → IsKept f → (a p : ℕ) → a < v.lines → slice_get f.places.table.items a ≡ Some (Some p) → (r : Row) → row_in f.places.rows.items p ≡ r
    → (r.line ≡ a) × (r.line < vec_len f.places.table) × (is_in p f.places.order.listed ≡ true) × (vec_len f.places.spare < vec_capacity f.places.spare)
put_needs f v is kept a p low filed r row =
    let at = kept.sound.placed a p filed in
    let line : r.line ≡ a = ap (λ (s : Row). s.line) (sym row) ∙ at.1 in (
      line,
      omega (arith, line, low, kept.lines, ap (λ (w : FilterRecord). w.lines) is),
      at.0,
      omega (arith, kept.sound.room, length_in p f.places.order.listed at.0, kept.room, f.places.rows.ok.0, f.places.spare.ok.0),
    )

without_by : (b : Bool) (x : ℕ) (xs ys : List ℕ) → length ys ≤ length xs → length (cond b (x ∷ ys) ys) ≤ length (x ∷ xs)
without_by true x xs ys few = omega (arith, few)
without_by false x xs ys few = omega (arith, few)

without_length : (p : ℕ) (xs : List ℕ) → length (without p xs) ≤ length xs
without_length p [] = omega arith
without_length p (x ∷ xs) = without_by (not (p == x)) x xs (without p xs) (without_length p xs)

-- the parts belong together after a row is put or taken out
pub moved_kept : (f : Inside) → IsKept f → (new : Places) (a p : ℕ) (r : Row) → slice_get f.places.table.items a ≡ Some (Some p) → r.line ≡ a → IsPut f.hosts f.places new p r ⊎ IsRemoved f.hosts f.places new p r → IsKept (record f { places = new })
moved_kept f kept new a p r filed line (inl put) =
    let at = kept.sound.placed a p filed in
    record {
      sound = sound_moved f.hosts f.places.table.items new.table.items (slice_set f.places.rows.items p r) new.rows.items f.places.order.listed new.order.listed f.places.spare.items new.spare.items
          (ap (λ t. t.items) (sym put.table)) (sym put.rows) (ap (λ o. o.listed) (sym put.order)) (ap (λ s. s.items) (sym put.spare))
          (put_sound f.hosts f.places.table.items f.places.rows.items f.places.order.listed f.places.spare.items kept.sound p r at.0 (line ∙ sym at.1) put.standing);
      lines = ap (λ t. vec_len t) put.table ∙ kept.lines;
      entries = omega (arith, new.rows.ok.0, f.places.rows.ok.0, ap length put.rows, set_length f.places.rows.items p r, kept.entries);
      order = ap (λ o. o.places) put.order ∙ kept.order;
      room = omega (arith, new.rows.ok.0, f.places.rows.ok.0, ap length put.rows, set_length f.places.rows.items p r, kept.room, ap (λ s. vec_capacity s) put.spare);
      free = omega (arith, ap (λ o. length o.listed) put.order, kept.free);
      hosts = kept.hosts;
      few = kept.few;
    }
moved_kept f kept new a p r filed line (inr gone) =
    let at = kept.sound.placed a p filed in
    let filed_r : slice_get f.places.table.items r.line ≡ Some (Some p) = ap (slice_get f.places.table.items) line ∙ filed in
    record {
      sound = sound_moved f.hosts (slice_set f.places.table.items r.line None) new.table.items f.places.rows.items new.rows.items (without p f.places.order.listed) new.order.listed (f.places.spare.items ++ p ∷ []) new.spare.items
          (sym gone.table) (ap (λ t. t.items) (sym gone.rows)) (ap (λ o. o.listed) (sym gone.order)) (sym gone.spare)
          (removed_sound f.hosts f.places.table.items f.places.rows.items f.places.order.listed f.places.spare.items kept.sound r.line p filed_r (slice_get_within f.places.table.items r.line (Some p) filed_r));
      lines = omega (arith, new.table.ok.0, f.places.table.ok.0, ap length gone.table, set_length f.places.table.items r.line None, kept.lines);
      entries = ap (λ t. vec_len t) gone.rows ∙ kept.entries;
      order = ap (λ o. o.places) gone.order ∙ kept.order;
      room = omega (arith, ap (λ t. vec_len t) gone.rows, kept.room, gone.room);
      free = omega (arith, ap (λ o. length o.listed) gone.order, without_length p f.places.order.listed, kept.free);
      hosts = kept.hosts;
      few = kept.few;
    }

-- what is seen then, by a change that is the row's and leaves rows of other lines
pub moved_seen : (f : Inside) → IsKept f → (new : Places) (a p : ℕ) (r : Row) → slice_get f.places.table.items a ≡ Some (Some p) → r.line ≡ a → (change : FilterRow → FilterRow)
    → row_seen f.hosts r ≡ change (shown f.hosts f.places.rows.items p) → ((s : FilterRow) → (s.line ≡ a → ⊥) → change s ≡ s) → IsPut f.hosts f.places new p r ⊎ IsRemoved f.hosts f.places new p r
    → rows_shown f.hosts new.rows.items new.order.listed ≡ rows_changed change (rows_shown f.hosts f.places.rows.items f.places.order.listed)
moved_seen f kept new a p r filed line change own others (inl put) =
    let at = kept.sound.placed a p filed in
    (λ i. rows_shown f.hosts (put.rows i) (put.order i).listed)
    ∙ put_standing f.hosts f.places.table.items f.places.rows.items f.places.order.listed f.places.spare.items kept.sound p r change at.0 (line ∙ sym at.1) put.standing own (λ s other. others s (λ same. other (same ∙ sym at.1)))
moved_seen f kept new a p r filed line change own others (inr gone) =
    let at = kept.sound.placed a p filed in
    (λ i. rows_shown f.hosts (gone.rows i).items (gone.order i).listed)
    ∙ removed_shown f.hosts f.places.table.items f.places.rows.items f.places.order.listed f.places.spare.items kept.sound p change at.0 (ap stands (sym own) ∙ gone.fallen) (λ s other. others s (λ same. other (same ∙ sym at.1)))

-- ---- changes of one row

one_of : (x a : ℕ) → x ≡ a → is_in x (a ∷ []) ≡ true
one_of x a same = or_left (x == a) false (eq-eqb x a same)

none_of : (x a : ℕ) → (x ≡ a → ⊥) → is_in x (a ∷ []) ≡ false
none_of x a other = ap (λ b. b || false) (ne_eqb x a other)

pub set_own : (hosts a h : ℕ) (to : Listing) (r s : Row) → r.line ≡ a → s ≡ r → row_seen hosts (record { line = r.line; listed = slice_set r.listed h to; held = r.held }) ≡ row_set (a ∷ []) h to (row_seen hosts s)
set_own hosts a h to r s line same =
    ap (λ (l : List Listing). record { line = r.line; listings = l; held = r.held }) (set_taken r.listed hosts h to)
    ∙ sym (cond-true (is_in r.line (a ∷ [])) (record (row_seen hosts r) { listings = slice_set (take hosts r.listed) h to }) (row_seen hosts r) (one_of r.line a line))
    ∙ ap (λ (k : Row). row_set (a ∷ []) h to (row_seen hosts k)) (sym same)

pub set_others : (a h : ℕ) (to : Listing) (s : FilterRow) → (s.line ≡ a → ⊥) → row_set (a ∷ []) h to s ≡ s
set_others a h to s other = cond-false (is_in s.line (a ∷ [])) (record s { listings = slice_set s.listings h to }) s (none_of s.line a other)

pub mark_own : (hosts a : ℕ) (held : Bool) (r s : Row) → r.line ≡ a → s ≡ r → row_seen hosts (record { line = r.line; listed = r.listed; held = held }) ≡ row_marked (a ∷ []) held (row_seen hosts s)
mark_own hosts a held r s line same =
    sym (cond-true (is_in r.line (a ∷ [])) (record (row_seen hosts r) { held = held }) (row_seen hosts r) (one_of r.line a line))
    ∙ ap (λ (k : Row). row_marked (a ∷ []) held (row_seen hosts k)) (sym same)

pub mark_others : (a : ℕ) (held : Bool) (s : FilterRow) → (s.line ≡ a → ⊥) → row_marked (a ∷ []) held s ≡ s
mark_others a held s other = cond-false (is_in s.line (a ∷ [])) (record s { held = held }) s (none_of s.line a other)

-- what is seen where rows were changed
pub with_rows : (f : Inside) (v : FilterRecord) (new : Inside) (change : List FilterRow → List FilterRow) → seen f ≡ v → new.reserved ≡ f.reserved → new.entries ≡ f.entries → new.hosts ≡ f.hosts → new.lines ≡ f.lines
    → rows_shown new.hosts new.places.rows.items new.places.order.listed ≡ change (rows_shown f.hosts f.places.rows.items f.places.order.listed) → seen new ≡ record v { rows = change v.rows }
with_rows f v new change is reserved entries hosts lines rows =
    (λ i. record { rows = rows i; reserved = reserved i; entries = entries i; hosts = hosts i; lines = lines i }) ∙ ap (λ (w : FilterRecord). record w { rows = change w.rows }) is

-- the number of hosts is that which is seen
pub same_hosts : (f : Inside) (v : FilterRecord) → seen f ≡ v → (a : ℕ) → record v { rows = rows_hold f.hosts a v.rows } ≡ record v { rows = rows_hold v.hosts a v.rows }
same_hosts f v is a = ap (λ (n : ℕ). record v { rows = rows_hold n a v.rows }) (ap (λ (w : FilterRecord). w.hosts) is)

-- a change of a row that a line hasn't leaves what is seen
pub unchanged : (f : Inside) (v : FilterRecord) → seen f ≡ v → IsKept f → (a : ℕ) → slice_get f.places.table.items a ≡ Some None → (change : FilterRow → FilterRow) → ((s : FilterRow) → (s.line ≡ a → ⊥) → change s ≡ s)
    → v ≡ record v { rows = rows_changed change v.rows }
unchanged f v is kept a none change others =
    subst (λ (w : FilterRecord). w ≡ record w { rows = rows_changed change w.rows }) is
    (ap (λ (rows : List FilterRow). record (seen f) { rows = rows }) (untouched_shown f.hosts f.places.table.items f.places.rows.items f.places.order.listed f.places.spare.items kept.sound a change none others))

-- ---- holding

-- what is seen after a line with a row is held
pub held_old : (f : Inside) (v : FilterRecord) → seen f ≡ v → IsKept f → (a p : ℕ) → slice_get f.places.table.items a ≡ Some (Some p) → (r : Row) → row_in f.places.rows.items p ≡ r
    → rows_shown f.hosts (slice_set f.places.rows.items p (record { line = r.line; listed = r.listed; held = true })) f.places.order.listed ≡ rows_hold f.hosts a (rows_shown f.hosts f.places.rows.items f.places.order.listed)
held_old f v is kept a p filed r row =
    let at = kept.sound.placed a p filed in
    let line : r.line ≡ a = ap (λ (s : Row). s.line) (sym row) ∙ at.1 in
    let rows : List FilterRow = rows_shown f.hosts f.places.rows.items f.places.order.listed in
    put_shown f.hosts f.places.table.items f.places.rows.items f.places.order.listed f.places.spare.items kept.sound p (record { line = r.line; listed = r.listed; held = true }) (row_marked (a ∷ []) true) at.0
    (mark_own f.hosts a true r (row_in f.places.rows.items p) line row) (λ s other. mark_others a true s (λ same. other (same ∙ sym at.1)))
    ∙ sym (cond-true (has_row a rows) (map (row_marked (a ∷ []) true) rows) (rows ++ row_held f.hosts a ∷ [])
    (has_by f.hosts f.places.table.items f.places.rows.items f.places.order.listed f.places.spare.items kept.sound a (Some p) filed))

-- a row that is held stands
pub held_stands : (hosts : ℕ) (r : Row) → stands (row_seen hosts (record { line = r.line; listed = r.listed; held = true })) ≡ true
held_stands hosts r = or_right (list_any is_some_listing (take hosts r.listed)) true refl

taken_same : {X : Type 0} (n k : ℕ) (x : X) → n ≤ k → take n (replicate k x) ≡ replicate n x
taken_same zero k x low = refl
taken_same (suc n) zero x low = absurd (omega arith)
taken_same (suc n) (suc k) x low = ap (λ l. x ∷ l) (taken_same n k x (omega arith))

-- what a new row shows
new_row : (hosts a : ℕ) → hosts ≤ 16 → row_seen hosts (held_row a) ≡ row_held hosts a
new_row hosts a low = ap (λ (l : List Listing). record { line = a; listings = l; held = true }) (taken_same hosts 16 Listing.I low)

true_is : (b : Bool) → IsTrue b → b ≡ true
true_is b is = is

-- a place is spare where an entry is free and a line has no row
pub spare_left : (f : Inside) (v : FilterRecord) → seen f ≡ v → IsKept f → (a : ℕ) → slice_get f.places.table.items a ≡ Some None → IsTrue (has_row a v.rows) ⊎ (1 ≤ free_in v) → 0 < vec_len f.places.spare
spare_left f v is kept a none (inl has) = absurd (false≢true (has_seen f v is kept a None none ∙ true_is (has_row a v.rows) has))
spare_left f v is kept a none (inr free) =
    let free_here : 1 ≤ free_in (seen f) = subst (λ (w : FilterRecord). 1 ≤ free_in w) (sym is) free in
    omega (arith, free_here, shown_length f.hosts f.places.rows.items f.places.order.listed, kept.sound.room, kept.entries, f.places.rows.ok.0, f.places.spare.ok.0)

-- what `add` needs of each place that may be taken
pub add_needs : (f : Inside) → IsKept f → (p : ℕ) (rest : List ℕ) → f.places.spare.items ≡ rest ++ p ∷ [] → (p < vec_len f.places.rows) × (p < f.places.order.places) × (is_in p f.places.order.listed ≡ false)
add_needs f kept p rest parts =
    let new = spare_place f.hosts f.places.table.items f.places.rows.items f.places.order.listed f.places.spare.items rest p kept.sound parts in
    (omega (arith, new.0, f.places.rows.ok.0), omega (arith, new.0, f.places.rows.ok.0, kept.entries, kept.order), new.1)

-- an entry is free for a line that has no row
pub entry_left : (f : Inside) (v : FilterRecord) → seen f ≡ v → IsKept f → (a : ℕ) → slice_get f.places.table.items a ≡ Some None → IsTrue (has_row a v.rows) ⊎ (1 ≤ free_in v) → length f.places.order.listed + f.reserved < f.entries
entry_left f v is kept a none (inl has) = absurd (false≢true (has_seen f v is kept a None none ∙ true_is (has_row a v.rows) has))
entry_left f v is kept a none (inr free) =
    let free_here : 1 ≤ free_in (seen f) = subst (λ (w : FilterRecord). 1 ≤ free_in w) (sym is) free in
    omega (arith, free_here, shown_length f.hosts f.places.rows.items f.places.order.listed)

pub added_kept : (f : Inside) → IsKept f → (new : Places) (a : ℕ) → slice_get f.places.table.items a ≡ Some None → length f.places.order.listed + f.reserved < f.entries → IsAdded f.places new a → IsKept (record f { places = new })
added_kept f kept new a none left added =
    record {
      sound = sound_moved f.hosts (slice_set f.places.table.items a (Some added.place)) new.table.items (slice_set f.places.rows.items added.place (held_row a)) new.rows.items (f.places.order.listed ++ added.place ∷ []) new.order.listed added.rest new.spare.items
          (sym added.table) (sym added.rows) (ap (λ o. o.listed) (sym added.order)) (sym added.left)
          (added_sound f.hosts f.places.table.items f.places.rows.items f.places.order.listed f.places.spare.items added.rest kept.sound added.place (held_row a) added.spare none (slice_get_within f.places.table.items a None none) (held_stands f.hosts (held_row a)));
      lines = omega (arith, new.table.ok.0, f.places.table.ok.0, ap length added.table, set_length f.places.table.items a (Some added.place), kept.lines);
      entries = omega (arith, new.rows.ok.0, f.places.rows.ok.0, ap length added.rows, set_length f.places.rows.items added.place (held_row a), kept.entries);
      order = ap (λ o. o.places) added.order ∙ kept.order;
      room = omega (arith, new.rows.ok.0, f.places.rows.ok.0, ap length added.rows, set_length f.places.rows.items added.place (held_row a), kept.room, added.room);
      free = omega (arith, ap (λ o. length o.listed) added.order, length-append f.places.order.listed (added.place ∷ []), left);
      hosts = kept.hosts;
      few = kept.few;
    }

pub added_seen : (f : Inside) → IsKept f → (new : Places) (a : ℕ) → slice_get f.places.table.items a ≡ Some None → IsAdded f.places new a
    → rows_shown f.hosts new.rows.items new.order.listed ≡ rows_hold f.hosts a (rows_shown f.hosts f.places.rows.items f.places.order.listed)
added_seen f kept new a none added =
    let rows : List FilterRow = rows_shown f.hosts f.places.rows.items f.places.order.listed in
    (λ i. rows_shown f.hosts (added.rows i) (added.order i).listed)
    ∙ added_shown f.hosts f.places.table.items f.places.rows.items f.places.order.listed f.places.spare.items added.rest kept.sound added.place (held_row a) added.spare
    ∙ ap (λ (r : FilterRow). rows ++ r ∷ []) (new_row f.hosts a kept.hosts)
    ∙ sym (cond-false (has_row a rows) (map (row_marked (a ∷ []) true) rows) (rows ++ row_held f.hosts a ∷ [])
    (has_by f.hosts f.places.table.items f.places.rows.items f.places.order.listed f.places.spare.items kept.sound a None none))

-- ---- reservations

pub reserved_kept : (f : Inside) (v : FilterRecord) → seen f ≡ v → IsKept f → 1 ≤ free_in v → IsKept (record f { reserved = f.reserved + 1 })
reserved_kept f v is kept free =
    let free_here : 1 ≤ free_in (seen f) = subst (λ (w : FilterRecord). 1 ≤ free_in w) (sym is) free in
    record {
      sound = kept.sound;
      lines = kept.lines;
      entries = kept.entries;
      order = kept.order;
      room = kept.room;
      free = omega (arith, free_here, shown_length f.hosts f.places.rows.items f.places.order.listed);
      hosts = kept.hosts;
      few = kept.few;
    }

pub released_kept : (f : Inside) → IsKept f → IsKept (record f { reserved = f.reserved - 1 })
released_kept f kept =
    record {
      sound = kept.sound;
      lines = kept.lines;
      entries = kept.entries;
      order = kept.order;
      room = kept.room;
      free = omega (arith, kept.free);
      hosts = kept.hosts;
      few = kept.few;
    }

-- ---- at first

-- an order of so many places in which none is
abbrev pub no_places : ℕ → Order
no_places n = record { places = n; listed = [] }

none_length : (lines : ℕ) → length (replicate {A = Option ℕ} lines None) ≡ lines
none_length lines = length-replicate lines None

pub opened_kept : (places : Places) (entries hosts lines : ℕ) → hosts ≤ 16 → lines < 2 ^ 32 → places.table.items ≡ replicate lines None → places.rows.items ≡ replicate entries blank_row → places.order ≡ record { places = entries; listed = [] } → places.spare.items ≡ range_with_len 0 entries
    → IsKept (record { places = places; reserved = 0; entries = entries; hosts = hosts; lines = lines })
opened_kept places entries hosts lines few fewer table rows order spare =
    record {
      sound = sound_moved hosts (replicate lines None) places.table.items (replicate entries blank_row) places.rows.items [] places.order.listed (range_with_len 0 entries) places.spare.items
          (sym table) (sym rows) (ap (λ o. o.listed) (sym order)) (sym spare) (opened_sound hosts lines entries);
      lines = omega (arith, places.table.ok.0, ap length table, none_length lines);
      entries = omega (arith, places.rows.ok.0, ap length rows, length-replicate entries blank_row);
      order = ap (λ o. o.places) order;
      room = omega (arith, places.rows.ok.0, ap length rows, length-replicate entries blank_row, places.spare.ok, ap length spare, length-range_with_len 0 entries);
      free = omega (arith, ap (λ o. length o.listed) order);
      hosts = few;
      few = fewer;
    }
