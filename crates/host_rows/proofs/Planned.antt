-- The answer to an operation, by its plan.
use Rattle.std.proofs.Common.{Bool, None, Option, Some, ap, arith, false, refl, sym, true, ℕ, ◌+◌, ◌<◌, ◌^◌, ◌∙◌, ◌≡◌}
use Rattle.std.specs.Prelude.{Err, Ok, Result, nat_lt, not, ◌&&◌, ◌==◌}
use Rattle.std.proofs.lemmas.Bool.{and_parts, eqb-true, ltb-true}
use Rattle.cxl_message.specs.declared.channels.Channel.{Channel}
use Rattle.cxl_message.specs.declared.events.Cause.{Cause}
use Rattle.cxl_message.specs.declared.events.Op.{Op}
use Rattle.cxl_message.specs.Setup.{Configuration}
use Rattle.coherence_model.specs.Emission.{Emission}
use Rattle.coherence_model.specs.Refusals.{Answer, cause_passes, profile_then_order, unless_lacking}
use Rattle.coherence_model.specs.Rules.{most_operations}
use Rattle.host_record.specs.HostRecord.{HostRecord, stream_in, view_in}
use Rattle.host_record.specs.ViewAnswers.{in_order, lacking_by, operation_answer_by, operation_or}
use Rattle.host_record.specs.ViewRows.{is_dirty}
use Rattle.host_record.specs.Ways.{copy_in}
use Rattle.host_plans.specs.declared.plans.Plan.{Plan}
use Rattle.host_plans.specs.declared.plans.Unplanned.{Unplanned}
use Rattle.host_plans.specs.Answers.{answer_planned, planned_in}
use Rattle.host_plans.specs.Plans.{planned_emission}
use Rattle.host_plans.proofs.PlansAnswer.{plans_answer}
use Rattle.host_rows.specs.declared.answers.HostRefusal.{HostRefusal}
use Rattle.host_rows.specs.Answers.{as_result, refused_as}
use Rattle.host_rows.specs.Rows.{refusal_of_plan, short_of_plan}
use Rattle.host_rows.proofs.Deciding.{plan_short}
use Rattle.host_tables.specs.Operating.{GoesOn}

-- the answer of a plan that was made
with_plan : (setup : Configuration) (h s i : ℕ) (op : Op) (k : HostRecord) (plan : Plan) (r : Result Emission HostRefusal) → Ok plan ≡ planned_in setup k op
    → r ≡ as_result (operation_or setup h s i op (view_in k) (Some (planned_emission h s i k.ways op plan))) → r ≡ as_result (operation_answer_by setup h s i op (view_in k))
with_plan setup h s i op k plan r is go =
    go ∙ ap (λ p. as_result (answer_planned (λ plan. operation_or setup h s i op (view_in k) (Some (planned_emission h s i k.ways op plan))) p)) is ∙ ap as_result (sym (plans_answer setup h s i op k))

refused_is : (go : Plan → Answer) (u : Unplanned) → Err (refused_as u) ≡ as_result (answer_planned go (Err u))
refused_is go Unplanned.NoSuchLine = refl
refused_is go Unplanned.Again = refl
refused_is go Unplanned.NoTag = refl
refused_is go Unplanned.NoWay = refl

-- the answer where there is no plan
pub without_plan : (setup : Configuration) (h s i : ℕ) (op : Op) (k : HostRecord) (u : Unplanned) (r : HostRefusal) → planned_in setup k op ≡ Err u → r ≡ refused_as u
    → Err r ≡ as_result (operation_answer_by setup h s i op (view_in k))
without_plan setup h s i op k u r is same =
    let go : Plan → Answer = λ plan. operation_or setup h s i op (view_in k) (Some (planned_emission h s i k.ways op plan)) in
    ap Err same ∙ refused_is go u ∙ ap (λ p. as_result (answer_planned go p)) (sym is) ∙ ap as_result (sym (plans_answer setup h s i op k))

-- ---- the answer of a plan that was made, by why it is refused

abbrev pub refused_or : Emission → Option HostRefusal → Result Emission HostRefusal
refused_or w None = Ok w
refused_or w (Some refusal) = Err refusal

refusals_are : (c : Option Channel) (p o : Bool) (w : Emission) → refused_or w (refusal_of_plan c p o) ≡ as_result (unless_lacking c (profile_then_order p o w))
refusals_are (Some c) p o w = refl
refusals_are None false o w = refl
refusals_are None true false w = refl
refusals_are None true true w = refl

-- what may keep a plan back, by what is kept
abbrev pub kept_back : Configuration → ℕ → Cause → ℕ → ℕ → Plan → HostRecord → Option HostRefusal
kept_back setup h cause s i plan k = refusal_of_plan (short_of_plan (view_in k) (λ a. is_dirty (copy_in k.ways a)) plan) (cause_passes setup h cause) (in_order s i (view_in k))

plan_decides : (setup : Configuration) (h s i : ℕ) (op : Op) (k : HostRecord) (plan : Plan) (cause : Cause) (x : Option HostRefusal) → planned_in setup k op ≡ Ok plan → cause ≡ Cause.Op s i op
    → x ≡ kept_back setup h cause s i plan k → refused_or (planned_emission h s i k.ways op plan) x ≡ as_result (operation_answer_by setup h s i op (view_in k))
plan_decides setup h s i op k plan cause x is same refusal =
    let w = planned_emission h s i k.ways op plan in
    with_plan setup h s i op k plan (refused_or w x) (sym is)
    (ap (refused_or w) refusal
    ∙ (λ j. refused_or w (refusal_of_plan (sym (plan_short (view_in k) h s i k.ways op plan) j) (cause_passes setup h (same j)) (in_order s i (view_in k))))
    ∙ refusals_are (lacking_by (view_in k) w.sends) (cause_passes setup h (Cause.Op s i op)) (in_order s i (view_in k)) w)

pub plan_goes : (setup : Configuration) (h s i : ℕ) (op : Op) (k : HostRecord) (plan : Plan) (cause : Cause) → planned_in setup k op ≡ Ok plan → cause ≡ Cause.Op s i op
    → None ≡ kept_back setup h cause s i plan k → ◌≡◌ {A = Result Emission HostRefusal} (Ok (planned_emission h s i k.ways op plan)) (as_result (operation_answer_by setup h s i op (view_in k)))
plan_goes setup h s i op k plan cause is same refusal = plan_decides setup h s i op k plan cause None is same refusal

pub plan_stays : (setup : Configuration) (h s i : ℕ) (op : Op) (k : HostRecord) (plan : Plan) (cause : Cause) (refused : HostRefusal) → planned_in setup k op ≡ Ok plan → cause ≡ Cause.Op s i op
    → Some refused ≡ kept_back setup h cause s i plan k → ◌≡◌ {A = Result Emission HostRefusal} (Err refused) (as_result (operation_answer_by setup h s i op (view_in k)))
plan_stays setup h s i op k plan cause refused is same refusal = plan_decides setup h s i op k plan cause (Some refused) is same refusal

-- ---- what is known of an operation that goes

begun_more : (b : ℕ) (i : ℕ) (waits : Bool) → ((i == b) && nat_lt i most_operations && not waits) ≡ true → b + 1 < 2 ^ 32
begun_more b i waits next =
    let two = and_parts _ _ (and_parts _ _ next).0 in
    let same : i ≡ b = eqb-true i b two.0 in
    let less : i < most_operations = ltb-true i most_operations two.1 in
    omega (arith, same, less)

pub goes_so : (setup : Configuration) (h s i : ℕ) (op : Op) (k : HostRecord) (plan : Plan) (cause : Cause) → cause ≡ Cause.Op s i op → cause_passes setup h cause ≡ true → in_order s i (view_in k) ≡ true
    → GoesOn h s i k op plan (planned_emission h s i k.ways op plan)
goes_so setup h s i op k plan cause same passes next = record {
  emits = refl;
  place = (and_parts _ _ (and_parts _ _ (sym (ap (cause_passes setup h) same) ∙ passes)).0).1;
  begins = begun_more (stream_in k.streams s).begun i (stream_in k.streams s).waits next;
}

-- the same of what the event emits
pub goes_as : (h s i : ℕ) (k : HostRecord) (op : Op) (plan : Plan) (w x : Emission) → GoesOn h s i k op plan w → x ≡ w → GoesOn h s i k op plan x
goes_as h s i k op plan w x goes is = record { emits = is ∙ goes.emits; place = goes.place; begins = goes.begins }
