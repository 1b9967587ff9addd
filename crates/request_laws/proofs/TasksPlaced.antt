-- Tasks that begin and end, as a tag sees them.
use Rattle.std.proofs.Common.{◌≡◌, ℕ, ◌+◌, Bool, true, false, Option, Some, None, cond, find, refl, sym, ◌∙◌, ap, subst, arith}
use Rattle.std.specs.Prelude.{not, ◌==◌, ◌||◌}
use Rattle.std.specs.Option.{option_map_or}
use Rattle.std.proofs.lemmas.Bool.{and_parts, eqb-true, false≢true, not-true, or_left}
use Rattle.std.proofs.lemmas.Bool.Decides.{nat_tests}
use Rattle.cxl_message.specs.declared.opcodes.Span.{Span}
use Rattle.cxl_message.specs.Lists.{is_in}
use Rattle.cxl_message.specs.Spans.{aligned, covers}
use Rattle.coherence_model.specs.Directory.{Directory, block_around, is_busy, may_evict, may_evict_block, victim_block}
use Rattle.coherence_model.specs.DirectoryChanges.{with_task}
use Rattle.coherence_model.specs.RequestFacts.{is_task_of}
use Rattle.coherence_model.specs.Tasks.{Task, task_covers}
use Rattle.coherence_lemmas.proofs.Options.{map_some}
use Rattle.request_laws.proofs.Options.{find_is_in}
use Rattle.request_laws.proofs.Places.{task_at}

-- a task that isn't the tag's
abbrev pub is_of : ℕ → ℕ → Option Task → Bool
is_of h tag t = option_map_or (is_task_of h tag) t false

-- one task is set where neither it nor the one before is the tag's
at_line : (h tag first : ℕ) (new : Option Task) (task : ℕ → Option Task) → is_of h tag new ≡ false → is_of h tag (task first) ≡ false → (l : ℕ) (here : Bool) → (l == first) ≡ here
    → is_of h tag (cond here new (task l)) ≡ is_of h tag (task l)
at_line h tag first new task other old l true is = other ∙ sym (ap (λ x. is_of h tag (task x)) (eqb-true l first is) ∙ old)
at_line h tag first new task other old l false is = refl

pub set_other : (h tag first : ℕ) (new : Option Task) (task : ℕ → Option Task) → is_of h tag new ≡ false → is_of h tag (task first) ≡ false → (a : Option ℕ)
    → task_at h tag (with_task first new task) a ≡ task_at h tag task a
set_other h tag first new task other old None = refl
set_other h tag first new task other old (Some l) = ap (λ b. cond b 1 0) (at_line h tag first new task other old l (l == first) refl)

there_by : (h tag first : ℕ) (new : Option Task) (task : ℕ → Option Task) → is_of h tag new ≡ false → (l : ℕ) (t : Task) (here : Bool) → cond here new (task l) ≡ Some t → is_task_of h tag t ≡ true → task l ≡ Some t
there_by h tag first new task other l t true there its = absurd (false≢true (sym other ∙ ap (is_of h tag) there ∙ its))
there_by h tag first new task other l t false there its = there

pub was_there : (h tag first : ℕ) (new : Option Task) (task : ℕ → Option Task) → is_of h tag new ≡ false → (l : ℕ) (t : Task) → with_task first new task l ≡ Some t → is_task_of h tag t ≡ true → task l ≡ Some t
was_there h tag first new task other l t there its = there_by h tag first new task other l t (l == first) there its

-- a task covers its first line, so a line that isn't Busy has none
covers_first : (a : ℕ) (span : Span) → covers a span a ≡ true
covers_first a Span.One = grind (arith, nat_tests)
covers_first a Span.Two = grind (arith, nat_tests)
covers_first a Span.Four = grind (arith, nat_tests)

no_task_by : (D : Directory) (a : ℕ) (t : Option Task) → D.task a ≡ t → is_busy D a ≡ false → t ≡ None
no_task_by D a None is free = refl
no_task_by D a (Some t) is free =
    let covered : task_covers a a (D.task a) ≡ true = ap (task_covers a a) is ∙ covers_first a t.span in
    absurd (false≢true (sym free ∙ or_left (task_covers a a (D.task a) || task_covers a (aligned 2 a) (D.task (aligned 2 a))) _ (or_left (task_covers a a (D.task a)) _ covered)))

pub no_task_there : (D : Directory) (a : ℕ) → is_busy D a ≡ false → D.task a ≡ None
no_task_there D a free = no_task_by D a (D.task a) refl free

-- a victim block has no task at its first line
first_of_block : (D : Directory) (a : ℕ) → may_evict D (a + 0) ≡ true → D.task a ≡ None
first_of_block D a may =
    let free = subst (λ x. is_busy D x ≡ false) (zero_added a) (not-true _ (and_parts (is_in (a + 0) D.entries) (not (is_busy D (a + 0))) may).1) in
    no_task_there D a free
  where
    zero_added : (n : ℕ) → n + 0 ≡ n
    zero_added n = omega arith

by_block : (D : Directory) (a : ℕ) (four two : Bool) → may_evict_block D (aligned 4 a) Span.Four ≡ four → may_evict_block D (aligned 2 a) Span.Two ≡ two → is_busy D a ≡ false
    → (block : ℕ × Span) → block ≡ cond four (aligned 4 a, Span.Four) (cond two (aligned 2 a, Span.Two) (a, Span.One)) → D.task block.0 ≡ None
by_block D a true two four is free block same = ap (λ b. D.task b.0) same ∙ first_of_block D (aligned 4 a) (and_parts _ _ four).0
by_block D a false true four is free block same = ap (λ b. D.task b.0) same ∙ first_of_block D (aligned 2 a) (and_parts _ _ is).0
by_block D a false false four is free block same = ap (λ b. D.task b.0) same ∙ no_task_there D a free

pub victim_has_no_task : (D : Directory) (block : ℕ × Span) → victim_block D ≡ Some block → D.task block.0 ≡ None
victim_has_no_task D block victim =
    let found = map_some (block_around D) (find (λ a. not (is_busy D a)) D.entries) block victim in
    let free = not-true _ (find_is_in (λ a. not (is_busy D a)) D.entries found.x found.found).1 in
    by_block D found.x (may_evict_block D (aligned 4 found.x) Span.Four) (may_evict_block D (aligned 2 found.x) Span.Two) refl refl free block found.same
