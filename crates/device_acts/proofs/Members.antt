-- Each task is the one that is found by its first line.
use Rattle.std.proofs.Common.{◌≡◌, ℕ, zero, suc, ◌≤◌, List, [], ◌∷◌, Some, get_or, refl, sym, subst, ◌∙◌, arith}
use Rattle.std.specs.Prelude.{All, slice_get, ◌==◌}
use Rattle.std.proofs.lemmas.Bool.{cond-false, cond-true, eq-eqb, ne_eqb}
use Rattle.std.proofs.lemmas.List.Elements.{All-from_get_or}
use Rattle.std.proofs.lemmas.Option.{none-some, slice_get-get_or}
use Rattle.cxl_message.specs.declared.opcodes.Span.{Span}
use Rattle.cxl_message.specs.Codes.{span_len}
use Rattle.cxl_message.specs.Setup.{Configuration}
use Rattle.coherence_model.specs.Tasks.{Purpose}
use Rattle.device_record.specs.Record.{DeviceRecord, TaskRecord, task_at}
use Rattle.device_record.specs.Steady.{AscendFrom, IsSteady}
use Rattle.device_acts.specs.Placed.{LiesWithin}
use Rattle.device_acts.specs.Sections.{Stands}

inner : (x y : TaskRecord) → Some x ≡ Some y → x ≡ y
inner x y same = cc

low_first : (n : ℕ) (ts : List TaskRecord) (i : ℕ) (t : TaskRecord) → AscendFrom n ts → slice_get ts i ≡ Some t → n ≤ t.first
low_first n [] i t up is = absurd (none-some t is)
low_first n (u ∷ us) zero t up is = subst (λ (x : TaskRecord). n ≤ x.first) (inner u t is) up.0
low_first n (u ∷ us) (suc i) t up is = let rest : suc u.first ≤ t.first = low_first (suc u.first) us i t up.1 is in omega (arith, rest, up.0)

-- a task among tasks by ascending first line is found by its own
pub member_found : (n : ℕ) (ts : List TaskRecord) (i : ℕ) (t : TaskRecord) → AscendFrom n ts → slice_get ts i ≡ Some t → task_at t.first ts ≡ Some t
member_found n [] i t up is = absurd (none-some t is)
member_found n (u ∷ us) zero t up is =
    subst (λ (x : TaskRecord). task_at x.first (u ∷ us) ≡ Some x) (inner u t is) (cond-true (u.first == u.first) (Some u) (task_at u.first us) (eq-eqb u.first u.first refl))
member_found n (u ∷ us) (suc i) t up is =
    let low : suc u.first ≤ t.first = low_first (suc u.first) us i t up.1 is in
    cond-false (u.first == t.first) (Some u) (task_at t.first us) (ne_eqb u.first t.first (λ same. omega (arith, low, same))) ∙ member_found (suc u.first) us i t up.1 is

no_task : TaskRecord
no_task = record { first = 0; purpose = Purpose.Eviction; host = 0; tag = 0; span = Span.One; left = [] }

-- each task lies within the lines of the setup
pub all_within : (setup : Configuration) (k : DeviceRecord) → IsSteady setup k → All (LiesWithin k.filter.lines) k.tasks
all_within setup k steady =
    subst (λ (n : ℕ). All (LiesWithin n) k.tasks) (sym steady.tables.filter_lines)
    (All-from_get_or (LiesWithin setup.lines) k.tasks no_task (λ i low. (
    let t = get_or k.tasks i no_task in
    (steady.tasks t.first t (member_found 0 k.tasks i t steady.ascend (slice_get-get_or k.tasks i no_task low))).within
    )))

-- each task stands
pub all_stand : (setup : Configuration) (k : DeviceRecord) → IsSteady setup k → All (Stands k) k.tasks
all_stand setup k steady = All-from_get_or (Stands k) k.tasks no_task (λ i low. member_found 0 k.tasks i (get_or k.tasks i no_task) steady.ascend (slice_get-get_or k.tasks i no_task low))

-- a block has four lines at most
pub few_lines : (s : Span) → span_len s ≤ 4
few_lines Span.One = omega arith
few_lines Span.Two = omega arith
few_lines Span.Four = omega arith
