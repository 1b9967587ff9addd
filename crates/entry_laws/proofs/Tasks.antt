-- Tasks: each begins at a multiple of its span, no two share a line, and a line is Busy exactly where a task covers it.
use Rattle.std.proofs.Common.{◌≡◌, ℕ, ◌+◌, ◌%◌, ◌≤◌, Bool, true, false, Option, Some, None, cond, refl, sym, ◌∙◌, ap, subst, inl, inr}
use Rattle.std.specs.Prelude.{◌==◌, ◌||◌, ◌⊎◌}
use Rattle.std.proofs.lemmas.Bool.{eqb-false, eqb-true, false≢true, or_cases, or_left, or_right}
use Rattle.std.proofs.lemmas.Option.{none-some}
use Rattle.cxl_message.specs.declared.opcodes.Span.{Span}
use Rattle.cxl_message.specs.Codes.{span_len}
use Rattle.cxl_message.specs.Spans.{aligned, covers}
use Rattle.coherence_model.specs.Directory.{Directory, is_busy}
use Rattle.coherence_model.specs.DirectoryChanges.{with_task}
use Rattle.coherence_model.specs.Tasks.{Task, task_covers}
use Rattle.entry_laws.proofs.Blocks.{begins_at_four, begins_at_two, covers_first, covers_one}

-- each task begins at a multiple of its span and ends within the lines, and no two have a line in common
pub record TasksKept (lines : ℕ) (task : ℕ → Option Task) : Type 0 where
  pub placed : (a : ℕ) (t : Task) → task a ≡ Some t → (a % span_len t.span ≡ 0) × (a + span_len t.span ≤ lines)
  pub apart : (a b c : ℕ) (s t : Task) → task a ≡ Some s → task b ≡ Some t → covers a s.span c ≡ true → covers b t.span c ≡ true → a ≡ b

-- a task that covers a line
pub record Covering (task : ℕ → Option Task) (a : ℕ) : Type 0 where
  pub first : ℕ
  pub t : Task
  pub is : task first ≡ Some t
  pub covered : covers first t.span a ≡ true

-- a task at a line that covers another one
pub covering_by : (task : ℕ → Option Task) (a first : ℕ) (found : Option Task) → task first ≡ found → task_covers a first found ≡ true → Covering task a
covering_by task a first None is h = absurd (false≢true h)
covering_by task a first (Some t) is h = record { first = first; t = t; is = is; covered = h }

-- a Busy line is covered by a task
pub covering : (D : Directory) (a : ℕ) → is_busy D a ≡ true → Covering D.task a
covering D a h =
    elim (or_cases (task_covers a a (D.task a) || task_covers a (aligned 2 a) (D.task (aligned 2 a))) (task_covers a (aligned 4 a) (D.task (aligned 4 a))) h) [
      | inl near ↦ (elim (or_cases (task_covers a a (D.task a)) (task_covers a (aligned 2 a) (D.task (aligned 2 a))) near) [
        | inl one ↦ covering_by D.task a a (D.task a) refl one
        | inr two ↦ covering_by D.task a (aligned 2 a) (D.task (aligned 2 a)) refl two
      ])
      | inr four ↦ covering_by D.task a (aligned 4 a) (D.task (aligned 4 a)) refl four
    ]

covers_at :
    (task : ℕ → Option Task) (a first at : ℕ) (t : Task) → first ≡ at → task first ≡ Some t → covers first t.span a ≡ true → task_covers a at (task at) ≡ true
covers_at task a first at t same is h = subst (λ x. task_covers a x (task x) ≡ true) same (ap (task_covers a first) is ∙ h)

-- the first line of a task is Busy
pub busy_at_task : (D : Directory) (a : ℕ) (t : Task) → D.task a ≡ Some t → is_busy D a ≡ true
busy_at_task D a t is = or_left _ _ (or_left _ _ (covers_at D.task a a a t refl is (covers_first a t.span)))

busy_by :
    (D : Directory) (a first : ℕ) (t : Task) (span : Span) → t.span ≡ span → D.task first ≡ Some t → first % span_len span ≡ 0 → covers first span a ≡ true
    → is_busy D a ≡ true
busy_by D a first t Span.One spans is start h =
    or_left _ _ (or_left _ _ (covers_at D.task a first a t (covers_one first a h) is (subst (λ s. covers first s a ≡ true) (sym spans) h)))
busy_by D a first t Span.Two spans is start h =
    or_left _ _
    (or_right _ _ (covers_at D.task a first (aligned 2 a) t (begins_at_two first a start h) is (subst (λ s. covers first s a ≡ true) (sym spans) h)))
busy_by D a first t Span.Four spans is start h =
    or_right _ _ (covers_at D.task a first (aligned 4 a) t (begins_at_four first a start h) is (subst (λ s. covers first s a ≡ true) (sym spans) h))

-- a line that a task covers is Busy
pub busy_from :
    (lines : ℕ) (D : Directory) → TasksKept lines D.task → (a first : ℕ) (t : Task) → D.task first ≡ Some t → covers first t.span a ≡ true → is_busy D a ≡ true
busy_from lines D kept a first t is h = busy_by D a first t t.span refl is (kept.placed first t is).0 h

no_task : (D : Directory) (a : ℕ) (found : Option Task) → D.task a ≡ found → is_busy D a ≡ false → D.task a ≡ None
no_task D a None is idle = is
no_task D a (Some t) is idle = absurd (false≢true (sym idle ∙ busy_at_task D a t is))

-- no task begins at a line that isn't Busy
pub idle_has_no_task : (D : Directory) (a : ℕ) → is_busy D a ≡ false → D.task a ≡ None
idle_has_no_task D a idle = no_task D a (D.task a) refl idle

-- ---- with a task set or taken away

set_cases :
    (first a : ℕ) (new old : Option Task) (s : Task) (b : Bool) → (a == first) ≡ b → cond b new old ≡ Some s
    → ((a ≡ first) × (new ≡ Some s)) ⊎ ((a ≡ first → ⊥) × (old ≡ Some s))
set_cases first a new old s true is h = inl (eqb-true a first is, h)
set_cases first a new old s false is h = inr (eqb-false a first is, h)

-- a task that stands after a change is the new one, or another that stood before
pub changed_task :
    (first : ℕ) (new : Option Task) (task : ℕ → Option Task) (a : ℕ) (s : Task) → with_task first new task a ≡ Some s
    → ((a ≡ first) × (new ≡ Some s)) ⊎ ((a ≡ first → ⊥) × (task a ≡ Some s))
changed_task first new task a s h = set_cases first a new (task a) s (a == first) refl h

set_other : (first a : ℕ) (new old : Option Task) (b : Bool) → (a == first) ≡ b → (a ≡ first → ⊥) → cond b new old ≡ old
set_other first a new old true is differ = absurd (differ (eqb-true a first is))
set_other first a new old false is differ = refl

set_same : (first a : ℕ) (new old : Option Task) (b : Bool) → (a == first) ≡ b → a ≡ first → cond b new old ≡ new
set_same first a new old true is same = refl
set_same first a new old false is same = absurd (eqb-false a first is same)

pub other_task : (first : ℕ) (new : Option Task) (task : ℕ → Option Task) (a : ℕ) → (a ≡ first → ⊥) → with_task first new task a ≡ task a
other_task first new task a differ = set_other first a new (task a) (a == first) refl differ

pub own_task : (first : ℕ) (new : Option Task) (task : ℕ → Option Task) → with_task first new task first ≡ new
own_task first new task = set_same first first new (task first) (first == first) refl refl

-- a task that stood where no task is set stands still
pub kept_task :
    (first : ℕ) (new : Option Task) (task : ℕ → Option Task) (a : ℕ) (s : Task) → task first ≡ None → task a ≡ Some s → with_task first new task a ≡ Some s
kept_task first new task a s free is = other_task first new task a (λ same. none-some s (sym free ∙ (ap task (sym same) ∙ is))) ∙ is

pub same_task : (s t : Task) → Some t ≡ Some s → t ≡ s
same_task s t h = cc

-- with a task taken away
pub tasks_without : (lines : ℕ) (task : ℕ → Option Task) (first : ℕ) → TasksKept lines task → TasksKept lines (with_task first None task)
tasks_without lines task first kept = record {
  placed = λ a s is. elim (changed_task first None task a s is) [
    | inl new ↦ absurd (none-some s new.1)
    | inr old ↦ kept.placed a s old.1
  ];
  apart = λ a b c s t is_s is_t. elim (changed_task first None task a s is_s) [
    | inl new ↦ absurd (none-some s new.1)
    | inr old ↦ (elim (changed_task first None task b t is_t) [
      | inl other ↦ absurd (none-some t other.1)
      | inr older ↦ kept.apart a b c s t old.1 older.1
    ])
  ];
}

-- whether no task covers a line of a block
abbrev pub IsFree : (ℕ → Option Task) → ℕ → Span → Type 0
IsFree task first span = (a b : ℕ) (s : Task) → task b ≡ Some s → covers b s.span a ≡ true → covers first span a ≡ true → ⊥

over : (first a c : ℕ) (new s : Task) → a ≡ first → new ≡ s → covers a s.span c ≡ true → covers first new.span c ≡ true
over first a c new s place same h = subst (λ x. covers x new.span c ≡ true) place (subst (λ t. covers a t.span c ≡ true) (sym same) h)

-- with a task over lines that no task covers
pub tasks_with :
    (lines : ℕ) (task : ℕ → Option Task) (first : ℕ) (new : Task) → TasksKept lines task
    → first % span_len new.span ≡ 0 → first + span_len new.span ≤ lines → IsFree task first new.span → TasksKept lines (with_task first (Some new) task)
tasks_with lines task first new kept start within free = record {
  placed = λ a s is. elim (changed_task first (Some new) task a s is) [
    | inl own ↦ (
        let same = same_task s new own.1 in
        subst (λ t. (a % span_len t.span ≡ 0) × (a + span_len t.span ≤ lines)) same
        (subst (λ x. (x % span_len new.span ≡ 0) × (x + span_len new.span ≤ lines)) (sym own.0) (start, within)))
    | inr old ↦ kept.placed a s old.1
  ];
  apart = λ a b c s t is_s is_t cover_s cover_t. elim (changed_task first (Some new) task a s is_s) [
    | inl own ↦ (elim (changed_task first (Some new) task b t is_t) [
      | inl other ↦ own.0 ∙ sym other.0
      | inr old ↦ absurd (free c b t old.1 cover_t (over first a c new s own.0 (same_task s new own.1) cover_s))
    ])
    | inr old ↦ (elim (changed_task first (Some new) task b t is_t) [
      | inl own ↦ absurd (free c a s old.1 cover_s (over first b c new t own.0 (same_task t new own.1) cover_t))
      | inr other ↦ kept.apart a b c s t old.1 other.1 cover_s cover_t
    ])
  ];
}

-- ---- Busy lines after a change

-- lines that were Busy stay Busy when a task is set where none began
pub busy_stays :
    (lines : ℕ) (D E : Directory) (first : ℕ) (new : Task) → E.task ≡ with_task first (Some new) D.task → TasksKept lines E.task → D.task first ≡ None
    → (a : ℕ) → is_busy D a ≡ true → is_busy E a ≡ true
busy_stays lines D E first new same kept free a h =
    let by = covering D a h in
    busy_from lines E kept a by.first by.t (ap (λ (f : ℕ → Option Task). f by.first) same ∙ kept_task first (Some new) D.task by.first by.t free by.is)
    by.covered

-- a line that is Busy after a task was set is one of its lines, or was Busy before
pub busy_before :
    (lines : ℕ) (D E : Directory) (first : ℕ) (new : Task) → E.task ≡ with_task first (Some new) D.task → TasksKept lines D.task
    → (a : ℕ) → is_busy E a ≡ true → (is_busy D a ≡ true) ⊎ (covers first new.span a ≡ true)
busy_before lines D E first new same kept a h =
    let by = covering E a h in
    elim (changed_task first (Some new) D.task by.first by.t (ap (λ (f : ℕ → Option Task). f by.first) (sym same) ∙ by.is)) [
      | inl own ↦ inr (over first by.first a new by.t own.0 (same_task by.t new own.1) by.covered)
      | inr old ↦ inl (busy_from lines D kept a by.first by.t old.1 by.covered)
    ]

-- a line that is Busy after a task was taken away was Busy before, by another task
pub busy_without :
    (lines : ℕ) (D E : Directory) (first : ℕ) → E.task ≡ with_task first None D.task → TasksKept lines D.task
    → (a : ℕ) → is_busy E a ≡ true → (by : Covering D.task a) × (by.first ≡ first → ⊥)
busy_without lines D E first same kept a h =
    let by = covering E a h in
    elim (changed_task first None D.task by.first by.t (ap (λ (f : ℕ → Option Task). f by.first) (sym same) ∙ by.is)) [
      | inl own ↦ absurd (none-some by.t own.1)
      | inr old ↦ (record { first = by.first; t = by.t; is = old.1; covered = by.covered }, old.0)
    ]
