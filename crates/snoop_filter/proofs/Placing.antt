-- How the parts of a filter stay together, and what is seen of them.
use Rattle.std.proofs.Common.{◌≡◌, ℕ, zero, suc, ◌+◌, ◌<◌, ◌≤◌, ◌⊎◌, inl, inr, Bool, true, false, List, [], ◌∷◌, ◌++◌, Option, Some, None, cond, length, map, replicate, refl, ap, sym, ◌∙◌, subst, arith, length-append}
use Rattle.std.specs.Prelude.{is_some, nat_lt, option_map, slice_get, slice_set, unwrap_or, ◌==◌}
use Rattle.std.specs.List.{range_with_len}
use Rattle.std.proofs.lemmas.Bool.{cases_eq, cases_lt, eq-eqb, false≢true, le-ltb, ne_eqb, cond-true, cond-false}
use Rattle.std.proofs.lemmas.List.{length-replicate}
use Rattle.std.proofs.lemmas.List.FromFn.{length-range_with_len}
use Rattle.std.proofs.lemmas.Option.{none-some}
use Rattle.cxl_message.specs.Lists.{is_in, without}
use Rattle.snoop_filter.specs.declared.places.Row.{Row}
use Rattle.snoop_filter.specs.Changes.{rows_changed}
use Rattle.snoop_filter.specs.Places.{IsSound, blank_row, once_below, row_in, row_seen, rows_shown, shown, times}
use Rattle.snoop_filter.specs.Rows.{FilterRow, has_row, row_at, stands}
use Rattle.snoop_filter.proofs.Lists.{get_other, get_same, in_pushed, in_without, last_in, length_without, none_in, pushed_in, set_length, stays_without, times_below, times_gone, times_in, times_other, times_pushed, times_same, times_without}
use Rattle.snoop_filter.proofs.Rows.{find_none, find_shown, has_found, shown_changed, shown_dropped, shown_pushed, shown_standing, shown_untouched}

some_inner : {X : Type 0} (x y : X) → Some x ≡ Some y → x ≡ y
some_inner x y same = cc

is_some_mapped : {X Y : Type 0} (f : X → Y) (o : Option X) → is_some (option_map f o) ≡ is_some o
is_some_mapped f None = refl
is_some_mapped f (Some x) = refl

-- ---- places

once_by : (p n : ℕ) → (p < n) ⊎ (n ≤ p) → 1 ≤ once_below p n → p < n
once_by p n (inl below) some = below
once_by p n (inr above) some = let none : once_below p n ≡ 0 = ap (λ b. cond b 1 0) (le-ltb p n above) in absurd (omega (arith, some, none))

at_most_by : (b : Bool) → cond b 1 0 ≤ 1
at_most_by true = omega arith
at_most_by false = omega arith

at_most : (p n : ℕ) → once_below p n ≤ 1
at_most p n = at_most_by (nat_lt p n)

-- a place of the order exists
pub place_exists : (hosts : ℕ) (table : List (Option ℕ)) (rows : List Row) (order spare : List ℕ) → IsSound hosts table rows order spare → (p : ℕ) → is_in p order ≡ true → p < length rows
place_exists hosts table rows order spare sound p there = once_by p (length rows) (cases_lt p (length rows)) (omega (arith, sound.once p, times_in p order there))

-- a place of the order stands there once, and isn't spare
pub place_once : (hosts : ℕ) (table : List (Option ℕ)) (rows : List Row) (order spare : List ℕ) → IsSound hosts table rows order spare → (p : ℕ) → is_in p order ≡ true → (times p order ≡ 1) × (times p spare ≡ 0)
place_once hosts table rows order spare sound p there =
    let some = times_in p order there in
    let most = at_most p (length rows) in
    (omega (arith, sound.once p, some, most), omega (arith, sound.once p, some, most))

-- a place that is spare exists, and isn't in the order
pub spare_place : (hosts : ℕ) (table : List (Option ℕ)) (rows : List Row) (order spare rest : List ℕ) (p : ℕ) → IsSound hosts table rows order spare → spare ≡ rest ++ p ∷ [] → (p < length rows) × (is_in p order ≡ false)
spare_place hosts table rows order spare rest p sound parts =
    let counted : times p spare ≡ times p rest + 1 = ap (times p) parts ∙ times_pushed p p rest ∙ ap (λ n. times p rest + n) (times_same p) in
    let most = at_most p (length rows) in
    (once_by p (length rows) (cases_lt p (length rows)) (omega (arith, sound.once p, counted)), none_in p order (is_in p order) refl (omega (arith, sound.once p, counted, most)))

-- two places of the order with one line are the same
same_place : (hosts : ℕ) (table : List (Option ℕ)) (rows : List Row) (order spare : List ℕ) → IsSound hosts table rows order spare → (p q : ℕ) → is_in p order ≡ true → is_in q order ≡ true → (row_in rows q).line ≡ (row_in rows p).line → q ≡ p
same_place hosts table rows order spare sound p q in_p in_q same =
    let at_p = sound.filed p in_p in
    let at_q = sound.filed q in_q in
    some_inner q p (some_inner (Some q) (Some p) (sym at_q ∙ ap (slice_get table) same ∙ at_p))

-- ---- what is found for a line

-- a line whose place is in the table has the row there
pub row_found : (hosts : ℕ) (table : List (Option ℕ)) (rows : List Row) (order spare : List ℕ) → IsSound hosts table rows order spare → (a p : ℕ) → slice_get table a ≡ Some (Some p) → row_at a (rows_shown hosts rows order) ≡ Some (shown hosts rows p)
row_found hosts table rows order spare sound a p is =
    let at = sound.placed a p is in
    find_shown (shown hosts rows) a p order at.1 (λ q in_q same. same_place hosts table rows order spare sound p q at.0 in_q (same ∙ sym at.1)) at.0

-- a line without a place has no row
pub row_missing : (hosts : ℕ) (table : List (Option ℕ)) (rows : List Row) (order spare : List ℕ) → IsSound hosts table rows order spare → (a : ℕ) → slice_get table a ≡ Some None → row_at a (rows_shown hosts rows order) ≡ None
row_missing hosts table rows order spare sound a is =
    find_none (shown hosts rows) a order (λ q in_q same. none-some q (some_inner None (Some q) (sym is ∙ ap (slice_get table) (sym same) ∙ sound.filed q in_q)))

-- what is found for a line, by what the table has for it
pub row_by : (hosts : ℕ) (table : List (Option ℕ)) (rows : List Row) (order spare : List ℕ) → IsSound hosts table rows order spare → (a : ℕ) (e : Option ℕ) → slice_get table a ≡ Some e → row_at a (rows_shown hosts rows order) ≡ option_map (shown hosts rows) e
row_by hosts table rows order spare sound a None is = row_missing hosts table rows order spare sound a is
row_by hosts table rows order spare sound a (Some p) is = row_found hosts table rows order spare sound a p is

-- whether a line has a row
pub has_by : (hosts : ℕ) (table : List (Option ℕ)) (rows : List Row) (order spare : List ℕ) → IsSound hosts table rows order spare → (a : ℕ) (e : Option ℕ) → slice_get table a ≡ Some e → has_row a (rows_shown hosts rows order) ≡ is_some e
has_by hosts table rows order spare sound a e is =
    has_found a (rows_shown hosts rows order) ∙ ap is_some (row_by hosts table rows order spare sound a e is) ∙ is_some_mapped (shown hosts rows) e

-- ---- one row changed in its place

in_place_by : (rows : List Row) (p q : ℕ) (r : Row) → p < length rows → (q ≡ p) ⊎ (q ≡ p → ⊥) → row_in (slice_set rows p r) q ≡ cond (q == p) r (row_in rows q)
in_place_by rows p q r low (inl same) =
    ap (row_in (slice_set rows p r)) same ∙ ap (λ o. unwrap_or o blank_row) (get_same rows p r low) ∙ sym (cond-true (q == p) r (row_in rows q) (eq-eqb q p same))
in_place_by rows p q r low (inr other) =
    ap (λ o. unwrap_or o blank_row) (get_other rows p q r other) ∙ sym (cond-false (q == p) r (row_in rows q) (ne_eqb q p other))

in_place : (rows : List Row) (p q : ℕ) (r : Row) → p < length rows → row_in (slice_set rows p r) q ≡ cond (q == p) r (row_in rows q)
in_place rows p q r low = in_place_by rows p q r low (cases_eq q p)

-- a fact of the row that is put and of each other one
each_row : (P : Row → Type 0) (rows : List Row) (p q : ℕ) (r : Row) → p < length rows → P r → ((q ≡ p → ⊥) → P (row_in rows q)) → (q ≡ p) ⊎ (q ≡ p → ⊥) → P (row_in (slice_set rows p r) q)
each_row P rows p q r low new old (inl same) = subst P (sym (in_place rows p q r low ∙ cond-true (q == p) r (row_in rows q) (eq-eqb q p same))) new
each_row P rows p q r low new old (inr other) = subst P (sym (in_place rows p q r low ∙ cond-false (q == p) r (row_in rows q) (ne_eqb q p other))) (old other)

line_kept : (rows : List Row) (p q : ℕ) (r : Row) → p < length rows → r.line ≡ (row_in rows p).line → (q ≡ p) ⊎ (q ≡ p → ⊥) → (row_in (slice_set rows p r) q).line ≡ (row_in rows q).line
line_kept rows p q r low line (inl same) = ap (λ s. s.line) (in_place rows p q r low ∙ cond-true (q == p) r (row_in rows q) (eq-eqb q p same)) ∙ line ∙ ap (λ k. (row_in rows k).line) (sym same)
line_kept rows p q r low line (inr other) = ap (λ s. s.line) (in_place rows p q r low ∙ cond-false (q == p) r (row_in rows q) (ne_eqb q p other))

-- the parts fit where a row that stands is put for one of the same line
pub put_sound : (hosts : ℕ) (table : List (Option ℕ)) (rows : List Row) (order spare : List ℕ) → IsSound hosts table rows order spare → (p : ℕ) (r : Row) → is_in p order ≡ true → r.line ≡ (row_in rows p).line → stands (row_seen hosts r) ≡ true
    → IsSound hosts table (slice_set rows p r) order spare
put_sound hosts table rows order spare sound p r there line stand =
    let low = place_exists hosts table rows order spare sound p there in
    record {
      placed = λ a q is. let at = sound.placed a q is in (at.0, line_kept rows p q r low line (cases_eq q p) ∙ at.1);
      filed = λ q in_q. ap (slice_get table) (line_kept rows p q r low line (cases_eq q p)) ∙ sound.filed q in_q;
      standing = λ q in_q. each_row (λ s. stands (row_seen hosts s) ≡ true) rows p q r low stand (λ other. sound.standing q in_q) (cases_eq q p);
      once = λ q. sound.once q ∙ ap (once_below q) (sym (set_length rows p r));
      room = sound.room ∙ sym (set_length rows p r);
    }

put_each : (hosts : ℕ) (table : List (Option ℕ)) (rows : List Row) (order spare : List ℕ) → IsSound hosts table rows order spare → (p q : ℕ) (r : Row) (change : FilterRow → FilterRow) → is_in p order ≡ true → is_in q order ≡ true → p < length rows
    → row_seen hosts r ≡ change (shown hosts rows p) → ((s : FilterRow) → (s.line ≡ (row_in rows p).line → ⊥) → change s ≡ s) → (q ≡ p) ⊎ (q ≡ p → ⊥)
    → shown hosts (slice_set rows p r) q ≡ change (shown hosts rows q)
put_each hosts table rows order spare sound p q r change there in_q low new others (inl same) =
    ap (row_seen hosts) (in_place rows p q r low ∙ cond-true (q == p) r (row_in rows q) (eq-eqb q p same)) ∙ new ∙ ap (λ k. change (shown hosts rows k)) (sym same)
put_each hosts table rows order spare sound p q r change there in_q low new others (inr other) =
    ap (row_seen hosts) (in_place rows p q r low ∙ cond-false (q == p) r (row_in rows q) (ne_eqb q p other))
    ∙ sym (others (shown hosts rows q) (λ same. other (same_place hosts table rows order spare sound p q there in_q same)))

-- what is seen then, by a change that is the row's and leaves the rows of other lines
pub put_shown : (hosts : ℕ) (table : List (Option ℕ)) (rows : List Row) (order spare : List ℕ) → IsSound hosts table rows order spare → (p : ℕ) (r : Row) (change : FilterRow → FilterRow) → is_in p order ≡ true
    → row_seen hosts r ≡ change (shown hosts rows p) → ((s : FilterRow) → (s.line ≡ (row_in rows p).line → ⊥) → change s ≡ s)
    → rows_shown hosts (slice_set rows p r) order ≡ map change (rows_shown hosts rows order)
put_shown hosts table rows order spare sound p r change there new others =
    let low = place_exists hosts table rows order spare sound p there in
    shown_changed change (shown hosts rows) (shown hosts (slice_set rows p r)) order
    (λ q in_q. put_each hosts table rows order spare sound p q r change there in_q low new others (cases_eq q p))

-- the same, where the row stands
pub put_standing : (hosts : ℕ) (table : List (Option ℕ)) (rows : List Row) (order spare : List ℕ) → IsSound hosts table rows order spare → (p : ℕ) (r : Row) (change : FilterRow → FilterRow) → is_in p order ≡ true
    → r.line ≡ (row_in rows p).line → stands (row_seen hosts r) ≡ true → row_seen hosts r ≡ change (shown hosts rows p) → ((s : FilterRow) → (s.line ≡ (row_in rows p).line → ⊥) → change s ≡ s)
    → rows_shown hosts (slice_set rows p r) order ≡ rows_changed change (rows_shown hosts rows order)
put_standing hosts table rows order spare sound p r change there line stand new others =
    let low = place_exists hosts table rows order spare sound p there in
    shown_standing change (shown hosts rows) (shown hosts (slice_set rows p r)) order
    (λ q in_q. put_each hosts table rows order spare sound p q r change there in_q low new others (cases_eq q p))
    (put_sound hosts table rows order spare sound p r there line stand).standing

-- ---- one row taken out

removed_placed : (hosts : ℕ) (table : List (Option ℕ)) (rows : List Row) (order spare : List ℕ) → IsSound hosts table rows order spare → (a p b q : ℕ) → slice_get table a ≡ Some (Some p) → a < length table → slice_get (slice_set table a None) b ≡ Some (Some q) → (b ≡ a) ⊎ (b ≡ a → ⊥)
    → (is_in q (without p order) ≡ true) × ((row_in rows q).line ≡ b)
removed_placed hosts table rows order spare sound a p b q is low found (inl same) =
    absurd (none-some q (some_inner None (Some q) (sym (get_same table a None low) ∙ ap (slice_get (slice_set table a None)) (sym same) ∙ found)))
removed_placed hosts table rows order spare sound a p b q is low found (inr other) =
    let at = sound.placed b q (sym (get_other table a b None other) ∙ found) in
    (stays_without q p order (λ same. other (sym at.1 ∙ ap (λ k. (row_in rows k).line) same ∙ (sound.placed a p is).1)) at.0, at.1)

removed_once : (p q : ℕ) (order spare : List ℕ) → (times p order ≡ 1) × (times p spare ≡ 0) → (q ≡ p) ⊎ (q ≡ p → ⊥) → times q (without p order) + times q (spare ++ p ∷ []) ≡ times q order + times q spare
removed_once p q order spare once (inl same) =
    subst (λ k. times k (without p order) + times k (spare ++ p ∷ []) ≡ times k order + times k spare) (sym same)
    (omega (arith, times_gone p order, times_pushed p p spare, times_same p, once.0, once.1))
removed_once p q order spare once (inr other) =
    omega (arith, times_without q p order other, times_pushed q p spare, times_other q p (λ same. other (sym same)))

-- the parts fit where a row is taken out
pub removed_sound : (hosts : ℕ) (table : List (Option ℕ)) (rows : List Row) (order spare : List ℕ) → IsSound hosts table rows order spare → (a p : ℕ) → slice_get table a ≡ Some (Some p) → a < length table
    → IsSound hosts (slice_set table a None) rows (without p order) (spare ++ p ∷ [])
removed_sound hosts table rows order spare sound a p is low =
    let at = sound.placed a p is in
    let times_p = place_once hosts table rows order spare sound p at.0 in
    record {
      placed = λ b q found. removed_placed hosts table rows order spare sound a p b q is low found (cases_eq b a);
      filed = λ q in_q. let was = in_without q p order in_q in
          get_other table a (row_in rows q).line None (λ same. was.1 (some_inner q p (some_inner (Some q) (Some p) (sym (sound.filed q was.0) ∙ ap (slice_get table) same ∙ is)))) ∙ sound.filed q was.0;
      standing = λ q in_q. sound.standing q (in_without q p order in_q).0;
      once = λ q. removed_once p q order spare times_p (cases_eq q p) ∙ sound.once q;
      room = omega (arith, sound.room, length_without p order, times_p.0, length-append spare (p ∷ []));
    }

-- what is seen then, by a change after which the row doesn't stand
pub removed_shown : (hosts : ℕ) (table : List (Option ℕ)) (rows : List Row) (order spare : List ℕ) → IsSound hosts table rows order spare → (p : ℕ) (change : FilterRow → FilterRow) → is_in p order ≡ true
    → stands (change (shown hosts rows p)) ≡ false → ((s : FilterRow) → (s.line ≡ (row_in rows p).line → ⊥) → change s ≡ s)
    → rows_shown hosts rows (without p order) ≡ rows_changed change (rows_shown hosts rows order)
removed_shown hosts table rows order spare sound p change there gone others =
    shown_dropped change (shown hosts rows) p order gone
    (λ q in_q other. (others (shown hosts rows q) (λ same. other (same_place hosts table rows order spare sound p q there in_q same)), sound.standing q in_q))

-- what is seen of rows of other lines
pub untouched_shown : (hosts : ℕ) (table : List (Option ℕ)) (rows : List Row) (order spare : List ℕ) → IsSound hosts table rows order spare → (a : ℕ) (change : FilterRow → FilterRow) → slice_get table a ≡ Some None
    → ((s : FilterRow) → (s.line ≡ a → ⊥) → change s ≡ s) → rows_shown hosts rows order ≡ rows_changed change (rows_shown hosts rows order)
untouched_shown hosts table rows order spare sound a change none others =
    shown_untouched change (shown hosts rows) order
    (λ q in_q. (others (shown hosts rows q) (λ same. none-some q (some_inner None (Some q) (sym none ∙ ap (slice_get table) (sym same) ∙ sound.filed q in_q))), sound.standing q in_q))

-- ---- one row put last

added_placed : (hosts : ℕ) (table : List (Option ℕ)) (rows : List Row) (order spare : List ℕ) → IsSound hosts table rows order spare → (p : ℕ) (r : Row) (b q : ℕ) → p < length rows → is_in p order ≡ false → r.line < length table
    → slice_get (slice_set table r.line (Some p)) b ≡ Some (Some q) → (b ≡ r.line) ⊎ (b ≡ r.line → ⊥) → (is_in q (order ++ p ∷ []) ≡ true) × ((row_in (slice_set rows p r) q).line ≡ b)
added_placed hosts table rows order spare sound p r b q low new fits found (inl same) =
    let is : p ≡ q = some_inner p q (some_inner (Some p) (Some q) (sym (get_same table r.line (Some p) fits) ∙ ap (slice_get (slice_set table r.line (Some p))) (sym same) ∙ found)) in
    subst (λ k. (is_in k (order ++ p ∷ []) ≡ true) × ((row_in (slice_set rows p r) k).line ≡ b)) is
    (last_in p order, ap (λ s. s.line) (in_place rows p p r low ∙ cond-true (p == p) r (row_in rows p) (eq-eqb p p refl)) ∙ sym same)
added_placed hosts table rows order spare sound p r b q low new fits found (inr other) =
    let at = sound.placed b q (sym (get_other table r.line b (Some p) other) ∙ found) in
    let apart : q ≡ p → ⊥ = λ same. false≢true (sym new ∙ subst (λ k. is_in k order ≡ true) same at.0) in
    (pushed_in q p order at.0, ap (λ s. s.line) (in_place rows p q r low ∙ cond-false (q == p) r (row_in rows q) (ne_eqb q p apart)) ∙ at.1)

filed_new : (table : List (Option ℕ)) (rows : List Row) (p q : ℕ) (r : Row) → p < length rows → r.line < length table → q ≡ p → slice_get (slice_set table r.line (Some p)) (row_in (slice_set rows p r) q).line ≡ Some (Some q)
filed_new table rows p q r low fits same =
    ap (λ s. slice_get (slice_set table r.line (Some p)) s.line) (in_place rows p q r low ∙ cond-true (q == p) r (row_in rows q) (eq-eqb q p same)) ∙ get_same table r.line (Some p) fits ∙ ap (λ k. Some (Some k)) (sym same)

filed_old : (hosts : ℕ) (table : List (Option ℕ)) (rows : List Row) (order spare : List ℕ) → IsSound hosts table rows order spare → (p : ℕ) (r : Row) (q : ℕ) → p < length rows → slice_get table r.line ≡ Some None → is_in q order ≡ true → (q ≡ p → ⊥)
    → slice_get (slice_set table r.line (Some p)) (row_in (slice_set rows p r) q).line ≡ Some (Some q)
filed_old hosts table rows order spare sound p r q low none in_q other =
    ap (λ s. slice_get (slice_set table r.line (Some p)) s.line) (in_place rows p q r low ∙ cond-false (q == p) r (row_in rows q) (ne_eqb q p other))
    ∙ get_other table r.line (row_in rows q).line (Some p) (λ same. none-some q (some_inner None (Some q) (sym none ∙ ap (slice_get table) (sym same) ∙ sound.filed q in_q)))
    ∙ sound.filed q in_q

added_filed_by : (hosts : ℕ) (table : List (Option ℕ)) (rows : List Row) (order spare : List ℕ) → IsSound hosts table rows order spare → (p : ℕ) (r : Row) (q : ℕ) → p < length rows → slice_get table r.line ≡ Some None → r.line < length table → is_in q order ≡ true → (q ≡ p) ⊎ (q ≡ p → ⊥)
    → slice_get (slice_set table r.line (Some p)) (row_in (slice_set rows p r) q).line ≡ Some (Some q)
added_filed_by hosts table rows order spare sound p r q low none fits in_q (inl same) = filed_new table rows p q r low fits same
added_filed_by hosts table rows order spare sound p r q low none fits in_q (inr other) = filed_old hosts table rows order spare sound p r q low none in_q other

added_filed : (hosts : ℕ) (table : List (Option ℕ)) (rows : List Row) (order spare : List ℕ) → IsSound hosts table rows order spare → (p : ℕ) (r : Row) (q : ℕ) → p < length rows → slice_get table r.line ≡ Some None → r.line < length table → (is_in q order ≡ true) ⊎ (q ≡ p)
    → slice_get (slice_set table r.line (Some p)) (row_in (slice_set rows p r) q).line ≡ Some (Some q)
added_filed hosts table rows order spare sound p r q low none fits (inl in_q) = added_filed_by hosts table rows order spare sound p r q low none fits in_q (cases_eq q p)
added_filed hosts table rows order spare sound p r q low none fits (inr last) = filed_new table rows p q r low fits last

added_standing : (hosts : ℕ) (table : List (Option ℕ)) (rows : List Row) (order spare : List ℕ) → IsSound hosts table rows order spare → (p : ℕ) (r : Row) (q : ℕ) → p < length rows → is_in p order ≡ false → stands (row_seen hosts r) ≡ true → (is_in q order ≡ true) ⊎ (q ≡ p)
    → stands (shown hosts (slice_set rows p r) q) ≡ true
added_standing hosts table rows order spare sound p r q low new stand (inl in_q) =
    each_row (λ s. stands (row_seen hosts s) ≡ true) rows p q r low stand (λ other. sound.standing q in_q) (cases_eq q p)
added_standing hosts table rows order spare sound p r q low new stand (inr last) =
    each_row (λ s. stands (row_seen hosts s) ≡ true) rows p q r low stand (λ other. absurd (other last)) (cases_eq q p)

added_once : (p q : ℕ) (order spare rest : List ℕ) → spare ≡ rest ++ p ∷ [] → times q (order ++ p ∷ []) + times q rest ≡ times q order + times q spare
added_once p q order spare rest parts = omega (arith, times_pushed q p order, ap (times q) parts, times_pushed q p rest)

-- the parts fit where a spare place gets a row of a line that had none
pub added_sound : (hosts : ℕ) (table : List (Option ℕ)) (rows : List Row) (order spare rest : List ℕ) → IsSound hosts table rows order spare → (p : ℕ) (r : Row) → spare ≡ rest ++ p ∷ [] → slice_get table r.line ≡ Some None → r.line < length table → stands (row_seen hosts r) ≡ true
    → IsSound hosts (slice_set table r.line (Some p)) (slice_set rows p r) (order ++ p ∷ []) rest
added_sound hosts table rows order spare rest sound p r parts none low stand =
    let new = spare_place hosts table rows order spare rest p sound parts in
    record {
      placed = λ b q found. added_placed hosts table rows order spare sound p r b q new.0 new.1 low found (cases_eq b r.line);
      filed = λ q in_q. added_filed hosts table rows order spare sound p r q new.0 none low (in_pushed q p order in_q);
      standing = λ q in_q. added_standing hosts table rows order spare sound p r q new.0 new.1 stand (in_pushed q p order in_q);
      once = λ q. added_once p q order spare rest parts ∙ sound.once q ∙ ap (once_below q) (sym (set_length rows p r));
      room = omega (arith, sound.room, length-append order (p ∷ []), ap length parts, length-append rest (p ∷ []), set_length rows p r);
    }

-- what is seen then
pub added_shown : (hosts : ℕ) (table : List (Option ℕ)) (rows : List Row) (order spare rest : List ℕ) → IsSound hosts table rows order spare → (p : ℕ) (r : Row) → spare ≡ rest ++ p ∷ []
    → rows_shown hosts (slice_set rows p r) (order ++ p ∷ []) ≡ rows_shown hosts rows order ++ row_seen hosts r ∷ []
added_shown hosts table rows order spare rest sound p r parts =
    let new = spare_place hosts table rows order spare rest p sound parts in
    shown_pushed (shown hosts rows) (shown hosts (slice_set rows p r)) order p
    (λ q in_q. ap (row_seen hosts) (in_place rows p q r new.0 ∙ cond-false (q == p) r (row_in rows q) (ne_eqb q p (λ same. false≢true (sym new.1 ∙ subst (λ k. is_in k order ≡ true) same in_q)))))
    ∙ ap (λ s. rows_shown hosts rows order ++ row_seen hosts s ∷ []) (in_place rows p p r new.0 ∙ cond-true (p == p) r (row_in rows p) (eq-eqb p p refl))

-- ---- at first

none_filed : (lines a p : ℕ) → slice_get (replicate lines None) a ≡ Some (Some p) → ⊥
none_filed zero a p is = none-some (Some p) is
none_filed (suc lines) zero p is = none-some p (some_inner None (Some p) is)
none_filed (suc lines) (suc a) p is = none_filed lines a p is

pub opened_sound : (hosts lines entries : ℕ) → IsSound hosts (replicate lines None) (replicate entries blank_row) [] (range_with_len 0 entries)
opened_sound hosts lines entries =
    record {
      placed = λ a p is. absurd (none_filed lines a p is);
      filed = λ p there. absurd (false≢true there);
      standing = λ p there. absurd (false≢true there);
      once = λ p. let same : once_below p (length (replicate entries blank_row)) ≡ once_below p entries = ap (once_below p) (length-replicate entries blank_row) in let n : times p [] ≡ 0 = refl in omega (arith, n, times_below p entries (cases_lt p entries), same);
      room = omega (arith, length-range_with_len 0 entries, length-replicate entries blank_row);
    }
