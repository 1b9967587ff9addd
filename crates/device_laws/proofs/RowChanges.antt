-- Rows as they are kept, after a line is held, a block is evicted or a task ends.
use Rattle.std.proofs.Common.{◌≡◌, ℕ, zero, suc, ◌+◌, ◌<◌, Bool, true, false, List, [], ◌∷◌, ◌++◌, Some, None, cond, map, refl, ap, sym, ◌∙◌, subst, arith}
use Rattle.std.specs.Prelude.{filter, not, replicate, ◌&&◌, ◌||◌}
use Rattle.std.specs.List.{list_any, range_with_len}
use Rattle.std.specs.Option.{option_map_or}
use Rattle.std.proofs.lemmas.Bool.{eq-eqb, false_from_ne_true, false≢true, ne_eqb, or_left, or_parts, or_right}
use Rattle.cxl_message.specs.declared.events.Out.{Out}
use Rattle.cxl_message.specs.declared.events.Sends.{Sends}
use Rattle.cxl_message.specs.declared.opcodes.Span.{Span}
use Rattle.cxl_message.specs.declared.states.Listing.{Listing}
use Rattle.cxl_message.specs.Lists.{below, is_in}
use Rattle.cxl_message.specs.Setup.{Configuration}
use Rattle.cxl_message.specs.Spans.{lines_of}
use Rattle.coherence_model.specs.Copies.{ndr_op_of}
use Rattle.coherence_model.specs.Directory.{Directory, has_entry, is_busy, is_listed}
use Rattle.coherence_model.specs.DirectoryChanges.{directory_after_finish, granted_listing, with_grant, with_task, with_task_begun}
use Rattle.coherence_model.specs.Tasks.{Task}
use Rattle.entry_laws.proofs.Blocks.{any_at}
use Rattle.entry_laws.proofs.Entries.{EntriesKept}
use Rattle.entry_laws.proofs.Tasks.{TasksKept}
use Rattle.device_record.specs.RowChanges.{rows_granted}
use Rattle.snoop_filter.specs.Changes.{row_held, row_marked, row_set, rows_changed, rows_hold, rows_hold_all, rows_let_go}
use Rattle.snoop_filter.specs.Rows.{FilterRow}
use Rattle.device_record.specs.Kept.{kept_row, kept_rows}
use Rattle.device_laws.proofs.FilterLookups.{entry_is, has_row_is, unlisted}
use Rattle.device_laws.proofs.FilterSteps.{busy_less, busy_with, changed_again, in_lines, let_go_lower, row_is_set, rows_follow, rows_same}
use Rattle.device_laws.proofs.Tables.{same_table}

-- ---- marks

marked_by : (r : FilterRow) (c held : Bool) → held ≡ (c || r.held) → record r { held = held } ≡ cond c (record r { held = true }) r
marked_by r true held is = ap {B = FilterRow} (λ (b : Bool). record r { held = b }) is
marked_by r false held is = ap {B = FilterRow} (λ (b : Bool). record r { held = b }) is

let_go_by : (r : FilterRow) (c held : Bool) → held ≡ (not c && r.held) → record r { held = held } ≡ cond c (record r { held = false }) r
let_go_by r true held is = ap {B = FilterRow} (λ (b : Bool). record r { held = b }) is
let_go_by r false held is = ap {B = FilterRow} (λ (b : Bool). record r { held = b }) is

-- a row whose line is held by a new task
row_is_held : (hosts lines : ℕ) (D E : Directory) (first : ℕ) (t : Task) → E.listed ≡ D.listed → E.task ≡ with_task first (Some t) D.task → D.task first ≡ None → TasksKept lines D.task → TasksKept lines E.task
    → (b : ℕ) → kept_row hosts E b ≡ row_marked (lines_of first t.span) true (kept_row hosts D b)
row_is_held hosts lines D E first t listed task free before after b =
    ap {B = FilterRow} (λ (f : ℕ → ℕ → Listing). record { line = b; listings = map (f b) (below hosts); held = is_busy E b }) listed
    ∙ marked_by (kept_row hosts D b) (is_in b (lines_of first t.span)) (is_busy E b)
    (busy_with lines D E first t task free before after b ∙ ap (λ c. c || is_busy D b) (sym (in_lines first t.span b)))

-- and one whose line a task lets go
row_is_let_go : (hosts lines : ℕ) (D E : Directory) (first : ℕ) (t : Task) → E.listed ≡ D.listed → E.task ≡ with_task first None D.task → D.task first ≡ Some t → TasksKept lines D.task → TasksKept lines E.task
    → (b : ℕ) → kept_row hosts E b ≡ row_marked (lines_of first t.span) false (kept_row hosts D b)
row_is_let_go hosts lines D E first t listed task is before after b =
    ap {B = FilterRow} (λ (f : ℕ → ℕ → Listing). record { line = b; listings = map (f b) (below hosts); held = is_busy E b }) listed
    ∙ let_go_by (kept_row hosts D b) (is_in b (lines_of first t.span)) (is_busy E b)
    (busy_less lines D E first t task is before after b ∙ ap (λ c. not c && is_busy D b) (sym (in_lines first t.span b)))

-- ---- Evict

-- the rows of a block are held
pub rows_are_held : (hosts lines : ℕ) (D E : Directory) (first : ℕ) (t : Task) → E.listed ≡ D.listed → E.entries ≡ D.entries → E.task ≡ with_task first (Some t) D.task → D.task first ≡ None
    → TasksKept lines D.task → TasksKept lines E.task → kept_rows hosts E ≡ rows_hold_all (lines_of first t.span) (kept_rows hosts D)
rows_are_held hosts lines D E first t listed entries task free before after =
    ap (map (kept_row hosts E)) entries
    ∙ rows_same hosts D E (row_marked (lines_of first t.span) true) D.entries (λ b there. row_is_held hosts lines D E first t listed task free before after b)

-- ---- Start

-- the lines of a block of one
one_line : (a : ℕ) → lines_of a Span.One ≡ a ∷ []
one_line a = let same : a + 0 ≡ a = omega arith in ap (λ x. x ∷ []) same

copies_from : {X : Type 0} (c : X) (s n : ℕ) → map (λ h. c) (range_with_len s n) ≡ replicate n c
copies_from c s zero = refl
copies_from c s (suc n) = ap (λ l. c ∷ l) (copies_from c (s + 1) n)

-- the new row of a line without an entry
new_row : (setup : Configuration) (D E : Directory) (a : ℕ) → E.listed ≡ D.listed → has_entry setup D a ≡ false → is_busy E a ≡ true → kept_row setup.hosts E a ≡ row_held setup.hosts a
new_row setup D E a listed none busy =
    let nobody = (or_parts (list_any (is_listed D a) (below setup.hosts)) (is_busy D a) none).0 in
    λ i. record {
      line = a;
      listings = (ap (λ (f : ℕ → ℕ → Listing). map (f a) (below setup.hosts)) listed
          ∙ same_table (D.listed a) (λ h. Listing.I) setup.hosts (λ h low. unlisted (D.listed a h) (false_from_ne_true _ (λ some. false≢true (sym nobody ∙ any_at (is_listed D a) setup.hosts h low some))))
          ∙ copies_from Listing.I 0 setup.hosts) i;
      held = busy i;
    }

rows_and_one : (hosts : ℕ) (E : Directory) (a : ℕ) (xs : List ℕ) → map (kept_row hosts E) (xs ++ a ∷ []) ≡ map (kept_row hosts E) xs ++ kept_row hosts E a ∷ []
rows_and_one hosts E a [] = refl
rows_and_one hosts E a (x ∷ xs) = ap (λ l. kept_row hosts E x ∷ l) (rows_and_one hosts E a xs)

unmarked : (lines : List ℕ) (r : FilterRow) → is_in r.line lines ≡ false → row_marked lines true r ≡ r
unmarked lines r none = ap (λ b. cond b (record r { held = true }) r) none

not_line : (a b : ℕ) (xs : List ℕ) → is_in a xs ≡ false → is_in b xs ≡ true → is_in b (a ∷ []) ≡ false
not_line a b xs none there = ap (λ c. c || false) (ne_eqb b a (λ same. false≢true (sym none ∙ subst (λ x. is_in x xs ≡ true) same there)))

same_rows : (hosts : ℕ) (D E : Directory) (xs : List ℕ) → ((b : ℕ) → is_in b xs ≡ true → kept_row hosts E b ≡ kept_row hosts D b) → map (kept_row hosts E) xs ≡ map (kept_row hosts D) xs
same_rows hosts D E [] each = refl
same_rows hosts D E (x ∷ xs) each = λ i. each x (or_left _ _ (eq-eqb x x refl)) i ∷ same_rows hosts D E xs (λ b there. each b (or_right _ _ there)) i

held_by : (setup : Configuration) (D E : Directory) (a : ℕ) (b : Bool) → is_in a D.entries ≡ b → E.listed ≡ D.listed → ((x : ℕ) → kept_row setup.hosts E x ≡ row_marked (a ∷ []) true (kept_row setup.hosts D x))
    → has_entry setup D a ≡ b → is_busy E a ≡ true
    → map (kept_row setup.hosts E) (cond b D.entries (D.entries ++ a ∷ []))
    ≡ cond b (map (row_marked (a ∷ []) true) (kept_rows setup.hosts D)) (kept_rows setup.hosts D ++ row_held setup.hosts a ∷ [])
held_by setup D E a true is listed each has busy = rows_same setup.hosts D E (row_marked (a ∷ []) true) D.entries (λ b there. each b)
held_by setup D E a false is listed each has busy =
    rows_and_one setup.hosts E a D.entries
    ∙ (λ i. same_rows setup.hosts D E D.entries (λ b there. each b ∙ unmarked (a ∷ []) (kept_row setup.hosts D b) (not_line a b D.entries is there)) i
    ++ new_row setup D E a listed has busy i ∷ [])

-- a task begins for a line: its row is held
pub rows_are_begun : (setup : Configuration) (D : Directory) (a : ℕ) (t : Task) → t.span ≡ Span.One → EntriesKept setup D → a < setup.lines → D.task a ≡ None
    → TasksKept setup.lines D.task → TasksKept setup.lines (with_task a (Some t) D.task) → is_busy (with_task_begun a t D) a ≡ true
    → kept_rows setup.hosts (with_task_begun a t D) ≡ rows_hold setup.hosts a (kept_rows setup.hosts D)
rows_are_begun setup D a t one kept low free before after busy =
    let E : Directory = with_task_begun a t D in
    let lines : lines_of a t.span ≡ a ∷ [] = ap (lines_of a) one ∙ one_line a in
    held_by setup D E a (is_in a D.entries) refl refl
    (λ x. row_is_held setup.hosts setup.lines D E a t refl refl free before after x ∙ ap (λ ls. row_marked ls true (kept_row setup.hosts D x)) lines)
    (sym (entry_is setup D kept a low)) busy
    ∙ sym (ap (λ b. cond b (map (row_marked (a ∷ []) true) (kept_rows setup.hosts D)) (kept_rows setup.hosts D ++ row_held setup.hosts a ∷ [])) (has_row_is setup.hosts D a D.entries))

-- ---- Finish

-- a grant's listing
abbrev pub grant_listing : Out → Listing
grant_listing o = option_map_or granted_listing (ndr_op_of o.message) Listing.A

granted_rows : (setup : Configuration) (D : Directory) (a : ℕ) (t : Task) (o : Out) → D.task a ≡ Some t → TasksKept setup.lines D.task → TasksKept setup.lines (with_task a None D.task)
    → map (kept_row setup.hosts (record { listed = with_grant a o D.listed; task = with_task a None D.task; entries = D.entries }))
    (filter (has_entry setup (record { listed = with_grant a o D.listed; task = with_task a None D.task; entries = D.entries })) D.entries)
    ≡ rows_let_go (lines_of a t.span) (rows_changed (row_set (a ∷ []) o.host (grant_listing o)) (kept_rows setup.hosts D))
granted_rows setup D a t o is before after =
    let E : Directory = record { listed = with_grant a o D.listed; task = with_task a None D.task; entries = D.entries } in
    let F : Directory = record D { listed = with_grant a o D.listed } in
    let set : FilterRow → FilterRow = row_set (a ∷ []) o.host (grant_listing o) in
    let go : FilterRow → FilterRow = row_marked (lines_of a t.span) false in
    rows_follow setup D E (λ r. go (set r)) D.entries
    (λ b there. row_is_let_go setup.hosts setup.lines F E a t refl refl is before after b ∙ ap go (row_is_set setup.hosts D F (a ∷ []) o.host (grant_listing o) b refl refl))
    ∙ sym (changed_again go set (let_go_lower (lines_of a t.span)) (kept_rows setup.hosts D))

-- a task ends: its lines are let go, and the requester is listed by the grant
pub rows_are_ended : (setup : Configuration) (D : Directory) (a : ℕ) (t : Task) (sends : Sends) → D.task a ≡ Some t → TasksKept setup.lines D.task → TasksKept setup.lines (with_task a None D.task)
    → kept_rows setup.hosts (directory_after_finish setup a sends D) ≡ rows_let_go (lines_of a t.span) (rows_granted a sends (kept_rows setup.hosts D))
rows_are_ended setup D a t Sends.Nothing is before after =
    let E : Directory = record { listed = D.listed; task = with_task a None D.task; entries = D.entries } in
    rows_follow setup D E (row_marked (lines_of a t.span) false) D.entries (λ b there. row_is_let_go setup.hosts setup.lines D E a t refl refl is before after b)
rows_are_ended setup D a t (Sends.One o) is before after = granted_rows setup D a t o is before after
rows_are_ended setup D a t (Sends.Two o p) is before after = granted_rows setup D a t o is before after
