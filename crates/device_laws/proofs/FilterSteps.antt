-- Rows as they are kept, after each kind of change of the directory.
use Rattle.std.proofs.Common.{◌≡◌, ℕ, zero, suc, ◌+◌, ◌-◌, ◌<◌, ◌≤◌, Bool, true, false, List, [], ◌∷◌, Option, Some, None, cond, map, refl, ap, sym, ◌∙◌, subst, inl, inr, arith}
use Rattle.std.specs.Prelude.{filter, not, slice_set, ◌&&◌, ◌==◌, ◌||◌}
use Rattle.std.specs.List.{list_any, range_with_len}
use Rattle.std.proofs.lemmas.Bool.{and_from, and_parts, cases_eq, cond-false, cond-true, eq-eqb, false≢true, ne_eqb, or_cases, or_from, or_left, or_parts, or_right}
use Rattle.cxl_message.specs.declared.opcodes.Span.{Span}
use Rattle.cxl_message.specs.declared.states.Listing.{Listing}
use Rattle.cxl_message.specs.Codes.{span_len}
use Rattle.cxl_message.specs.Lists.{below, is_in}
use Rattle.cxl_message.specs.Setup.{Configuration}
use Rattle.cxl_message.specs.Spans.{covers, lines_of}
use Rattle.coherence_model.specs.Directory.{Directory, has_entry, is_busy}
use Rattle.coherence_model.specs.DirectoryChanges.{with_listed, with_listing, with_task}
use Rattle.coherence_model.specs.Tasks.{Task}
use Rattle.entry_laws.proofs.Blocks.{covers_listed, covers_parts}
use Rattle.entry_laws.proofs.Tasks.{Covering, TasksKept, busy_from, busy_without, changed_task, covering, kept_task, own_task, other_task, same_task}
use Rattle.snoop_filter.specs.Changes.{row_marked, row_set, rows_changed, rows_set}
use Rattle.snoop_filter.specs.Rows.{FilterRow, is_some_listing, stands}
use Rattle.device_record.specs.Kept.{kept_row, kept_rows}
use Rattle.device_laws.proofs.FilterLookups.{stands_is}
use Rattle.device_laws.proofs.Tables.{same_table, set_table}

-- two tests that imply one another
pub same_tests : (x y : Bool) → (x ≡ true → y ≡ true) → (y ≡ true → x ≡ true) → x ≡ y
same_tests true y there back = sym (there refl)
same_tests false true there back = back refl
same_tests false false there back = refl

-- ---- rows that follow

kept_by : (setup : Configuration) (E : Directory) (change : FilterRow → FilterRow) (x : ℕ) (xs : List ℕ) (old : FilterRow) (rest : List FilterRow) (b : Bool)
    → kept_row setup.hosts E x ≡ change old → map (kept_row setup.hosts E) xs ≡ rest
    → map (kept_row setup.hosts E) (cond b (x ∷ xs) xs) ≡ cond b (change old ∷ rest) rest
kept_by setup E change x xs old rest true here more = λ i. here i ∷ more i
kept_by setup E change x xs old rest false here more = more

-- where each row changes so, those that stand are those that have an entry
pub rows_follow : (setup : Configuration) (D E : Directory) (change : FilterRow → FilterRow) (xs : List ℕ)
    → ((b : ℕ) → is_in b xs ≡ true → kept_row setup.hosts E b ≡ change (kept_row setup.hosts D b))
    → map (kept_row setup.hosts E) (filter (has_entry setup E) xs) ≡ rows_changed change (map (kept_row setup.hosts D) xs)
rows_follow setup D E change [] each = refl
rows_follow setup D E change (x ∷ xs) each =
    let here = each x (or_left _ _ (eq-eqb x x refl)) in
    kept_by setup E change x (filter (has_entry setup E) xs) (kept_row setup.hosts D x) (rows_changed change (map (kept_row setup.hosts D) xs)) (has_entry setup E x) here
    (rows_follow setup D E change xs (λ b there. each b (or_right _ _ there)))
    ∙ ap (λ c. cond c (change (kept_row setup.hosts D x) ∷ rows_changed change (map (kept_row setup.hosts D) xs)) (rows_changed change (map (kept_row setup.hosts D) xs)))
    (sym (stands_is setup E x) ∙ ap stands here)

-- where each row changes so and none goes
pub rows_same : (hosts : ℕ) (D E : Directory) (change : FilterRow → FilterRow) (xs : List ℕ) → ((b : ℕ) → is_in b xs ≡ true → kept_row hosts E b ≡ change (kept_row hosts D b))
    → map (kept_row hosts E) xs ≡ map change (map (kept_row hosts D) xs)
rows_same hosts D E change [] each = refl
rows_same hosts D E change (x ∷ xs) each =
    λ i. each x (or_left _ _ (eq-eqb x x refl)) i ∷ rows_same hosts D E change xs (λ b there. each b (or_right _ _ there)) i

again_by : (f g : FilterRow → FilterRow) (r : FilterRow) (rest : List FilterRow) (b : Bool) → stands (g r) ≡ b → (stands (g r) ≡ false → stands (f (g r)) ≡ false)
    → filter stands (map f (cond b (g r ∷ rest) rest)) ≡ cond (stands (f (g r))) (f (g r) ∷ filter stands (map f rest)) (filter stands (map f rest))
again_by f g r rest true is lower = refl
again_by f g r rest false is lower = ap (λ c. cond c (f (g r) ∷ filter stands (map f rest)) (filter stands (map f rest))) (sym (lower is))

-- two changes one after the other, where the second makes no row stand
pub changed_again : (f g : FilterRow → FilterRow) → ((r : FilterRow) → stands r ≡ false → stands (f r) ≡ false) → (rows : List FilterRow)
    → rows_changed f (rows_changed g rows) ≡ rows_changed (λ r. f (g r)) rows
changed_again f g lower [] = refl
changed_again f g lower (r ∷ rows) =
    again_by f g r (rows_changed g rows) (stands (g r)) refl (lower (g r))
    ∙ ap (λ rest. cond (stands (f (g r))) (f (g r) ∷ rest) rest) (changed_again f g lower rows)

marked_lower : (r : FilterRow) (b : Bool) → stands r ≡ false → stands (cond b (record r { held = false }) r) ≡ false
marked_lower r true none = or_from _ _ (or_parts (list_any is_some_listing r.listings) r.held none).0 refl
marked_lower r false none = none

-- letting go makes no row stand
pub let_go_lower : (lines : List ℕ) (r : FilterRow) → stands r ≡ false → stands (row_marked lines false r) ≡ false
let_go_lower lines r none = marked_lower r (is_in r.line lines) none

-- ---- listings

never : (c : Bool) (l x : Listing) → cond (c && false) l x ≡ x
never true l x = refl
never false l x = refl

set_by : (hosts h : ℕ) (l : Listing) (f : ℕ → Listing) (r : FilterRow) (b : Bool) → r.listings ≡ map f (below hosts)
    → record r { listings = map (λ g. cond ((g == h) && b) l (f g)) (below hosts) } ≡ cond b (record r { listings = slice_set r.listings h l }) r
set_by hosts h l f r true is =
    ap {B = FilterRow} (λ (ls : List Listing). record r { listings = ls })
    (sym (ap (λ ls. slice_set ls h l) is ∙ set_table f (λ g. cond ((g == h) && true) l (f g)) hosts h l (cond-true ((h == h) && true) l (f h) (and_from _ _ (eq-eqb h h refl) refl))
    (λ j other low. sym (cond-false ((j == h) && true) l (f j) (ap (λ c. c && true) (ne_eqb j h other))))))
set_by hosts h l f r false is =
    ap {B = FilterRow} (λ (ls : List Listing). record r { listings = ls })
    (same_table (λ g. cond ((g == h) && false) l (f g)) f hosts (λ j low. never (j == h) l (f j)) ∙ sym is)
    ∙ refl

-- a row whose line's listings are set
pub row_is_set : (hosts : ℕ) (D E : Directory) (lines : List ℕ) (h : ℕ) (l : Listing) (b : ℕ) → E.listed ≡ with_listing lines h l D.listed → is_busy E b ≡ is_busy D b
    → kept_row hosts E b ≡ row_set lines h l (kept_row hosts D b)
row_is_set hosts D E lines h l b listed busy =
    (λ i. record { line = b; listings = map (listed i b) (below hosts); held = busy i })
    ∙ set_by hosts h l (D.listed b) (kept_row hosts D b) (is_in b lines) refl

-- some lines are listed so
pub listed_rows : (setup : Configuration) (D : Directory) (lines : List ℕ) (h : ℕ) (l : Listing)
    → kept_rows setup.hosts (with_listed setup lines h l D) ≡ rows_set lines h l (kept_rows setup.hosts D)
listed_rows setup D lines h l =
    let E : Directory = record D { listed = with_listing lines h l D.listed } in
    rows_follow setup D E (row_set lines h l) D.entries (λ b there. row_is_set setup.hosts D E lines h l b refl refl)

-- ---- lines of a block

in_lines_from : (f : ℕ → ℕ) (a k n j : ℕ) → f j ≡ a → k ≤ j → j < k + n → is_in a (map f (range_with_len k n)) ≡ true
in_lines_from f a k zero j is low high = absurd (omega arith)
in_lines_from f a k (suc n) j is low high =
    elim (cases_eq k j) [
      | inl same ↦ or_left _ _ (eq-eqb a (f k) (sym is ∙ ap f (sym same)))
      | inr other ↦ (let later : k + 1 ≤ j = omega arith in let bound : j < (k + 1) + n = omega arith in or_right _ _ (in_lines_from f a (k + 1) n j is later bound))
    ]

-- a line is one of a block's exactly where the block covers it
pub in_lines : (first : ℕ) (span : Span) (a : ℕ) → is_in a (lines_of first span) ≡ covers first span a
in_lines first span a =
    same_tests (is_in a (lines_of first span)) (covers first span a) (covers_listed first span a)
    (λ covered. (
    let parts = covers_parts first span a covered in
    let back : first + (a - first) ≡ a = omega arith in
    let low : 0 ≤ a - first = omega arith in
    let high : a - first < 0 + span_len span = omega arith in
    in_lines_from (λ k. first + k) a 0 (span_len span) (a - first) back low high
    ))

-- ---- Busy lines

-- with one more task
pub busy_with : (lines : ℕ) (D E : Directory) (first : ℕ) (t : Task) → E.task ≡ with_task first (Some t) D.task → D.task first ≡ None → TasksKept lines D.task → TasksKept lines E.task
    → (a : ℕ) → is_busy E a ≡ (covers first t.span a || is_busy D a)
busy_with lines D E first t same free before after a =
    same_tests (is_busy E a) (covers first t.span a || is_busy D a)
    (λ busy. (
    let by = covering E a busy in
    elim (changed_task first (Some t) D.task by.first by.t (ap (λ (f : ℕ → Option Task). f by.first) (sym same) ∙ by.is)) [
      | inl own ↦ or_left _ _ (subst (λ x. covers x t.span a ≡ true) own.0 (subst (λ (u : Task). covers by.first u.span a ≡ true) (sym (same_task by.t t own.1)) by.covered))
      | inr old ↦ or_right _ _ (busy_from lines D before a by.first by.t old.1 by.covered)
    ]
    ))
    (λ either. elim (or_cases (covers first t.span a) (is_busy D a) either) [
      | inl covered ↦ busy_from lines E after a first t (ap (λ (f : ℕ → Option Task). f first) same ∙ own_task first (Some t) D.task) covered
      | inr busy ↦ (
          let by = covering D a busy in
          busy_from lines E after a by.first by.t (ap (λ (f : ℕ → Option Task). f by.first) same ∙ kept_task first (Some t) D.task by.first by.t free by.is) by.covered)
    ])

not_covered : (b : Bool) → (b ≡ true → ⊥) → not b ≡ true
not_covered true other = absurd (other refl)
not_covered false other = refl

is_not : (b : Bool) → not b ≡ true → b ≡ true → ⊥
is_not true none is = false≢true none
is_not false none is = false≢true is

other_covers : (D : Directory) (a first : ℕ) (t : Task) (by : Covering D.task a) → D.task first ≡ Some t → by.first ≡ first → covers first t.span a ≡ true
other_covers D a first t by is same =
    let tasks : Some by.t ≡ Some t = sym by.is ∙ (ap D.task same ∙ is) in
    subst (λ x. covers x t.span a ≡ true) same (subst (λ (u : Task). covers by.first u.span a ≡ true) (same_task t by.t tasks) by.covered)

-- with one task less
pub busy_less : (lines : ℕ) (D E : Directory) (first : ℕ) (t : Task) → E.task ≡ with_task first None D.task → D.task first ≡ Some t → TasksKept lines D.task → TasksKept lines E.task
    → (a : ℕ) → is_busy E a ≡ (not (covers first t.span a) && is_busy D a)
busy_less lines D E first t same is before after a =
    same_tests (is_busy E a) (not (covers first t.span a) && is_busy D a)
    (λ busy. (
    let by = busy_without lines D E first same before a busy in
    and_from _ _
    (not_covered (covers first t.span a) (λ covered. by.1 (before.apart by.0.first first a by.0.t t by.0.is is by.0.covered covered)))
    (busy_from lines D before a by.0.first by.0.t by.0.is by.0.covered)
    ))
    (λ both. (
    let parts = and_parts _ _ both in
    let by = covering D a parts.1 in
    busy_from lines E after a by.first by.t
    (ap (λ (f : ℕ → Option Task). f by.first) same
    ∙ other_task first None D.task by.first (λ at_first. is_not (covers first t.span a) parts.0 (other_covers D a first t by is at_first)) ∙ by.is) by.covered
    ))
