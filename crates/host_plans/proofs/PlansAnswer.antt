-- The answer to an operation is that of its plan.
use Rattle.std.proofs.Common.{Bool, List, None, Option, Some, [], ap, arith, cond, false, length, map, refl, suc, sym, true, ℕ, ◌+◌, ◌-◌, ◌∙◌, ◌∷◌, ◌≡◌, ◌≤◌}
use Rattle.std.specs.Prelude.{filter, find, if◌then◌else◌, is_none, is_some, nat_le, nat_lt, not, option_and_then, option_map, slice_get, ◌&&◌, ◌==◌, ◌||◌}
use Rattle.std.specs.List.{range_with_len}
use Rattle.std.specs.Option.{option_map_or}
use Rattle.std.proofs.lemmas.Bool.{cond-false, le-ltb}
use Rattle.cxl_message.specs.declared.events.Op.{Op}
use Rattle.cxl_message.specs.declared.identifiers.Tag.{Tag}
use Rattle.cxl_message.specs.Events.{line_of}
use Rattle.cxl_message.specs.Lists.{below, is_in}
use Rattle.cxl_message.specs.Setup.{Configuration}
use Rattle.coherence_model.specs.Emission.{Emission, one_commit}
use Rattle.cxl_message.specs.Stores.{line_after}
use Rattle.coherence_model.specs.HostOperations.{request_alone}
use Rattle.coherence_model.specs.Refusals.{Answer}
use Rattle.coherence_model.specs.Words.{when}
use Rattle.host_record.specs.HostRecord.{HostRecord, view_in}
use Rattle.host_record.specs.ViewAnswers.{operation_answer_by, operation_or}
use Rattle.host_record.specs.ViewRows.{hits_copy, may_write, spare_tags, two_requests, victim, lacks_room}
use Rattle.host_record.specs.Tables.{place_or}
use Rattle.host_record.specs.Ways.{Way, copy_in, has_way}
use Rattle.host_plans.specs.Answers.{PlansAnswer, answer_planned, planned_in}
use Rattle.host_plans.specs.Plans.{dropping, first_spare, is_spare, lacks_room_in, plan_with, planned_emission, replacing, second_spare, tag_named}
use Rattle.host_plans.proofs.Spares.{find_first, find_second}

-- the answer where a victim is needed and there is one
abbrev pub with_victim : ℕ → Op → HostRecord → ℕ → List ℕ → (Option Emission → Answer) → Bool → Answer
with_victim h op k b tags go writable =
    if not false && nat_lt (length tags) (if true && writable then 2 else 1) then Answer.NoTag
    else (if not false && true && is_none (Some b) then Answer.NoWay
    else go (if writable then two_requests h op b (view_in k) tags else request_alone h op tags))

-- the answer by what is found
abbrev pub answered : ℕ → ℕ → ℕ → Op → HostRecord → Bool → Bool → Bool → Bool → Option ℕ → (ℕ → Bool) → List ℕ → (Option Emission → Answer) → Answer
answered h s i op k exists busy hit lacks victim writable tags go =
    if not exists then Answer.NoSuchLine
    else (if not (not busy) then Answer.Again
    else (if not hit && nat_lt (length tags) (if lacks && option_map_or writable victim false then 2 else 1) then Answer.NoTag
    else (if not hit && lacks && is_none victim then Answer.NoWay
    else go
    (if hit then when (not busy) (one_commit s i op (line_after op (copy_in k.ways (line_of op)).bytes))
    else (if not busy
    then (if lacks then option_and_then (λ a. if writable a then two_requests h op a (view_in k) tags else request_alone h op tags) victim else request_alone h op tags)
    else None)))))

over_one : (n : ℕ) → nat_lt (suc n) 1 ≡ false
over_one n = le-ltb (suc n) 1 (omega arith)

over_two : (n : ℕ) → nat_lt (suc (suc n)) 2 ≡ false
over_two n = le-ltb (suc (suc n)) 2 (omega arith)

victim_is : (h s i : ℕ) (op : Op) (k : HostRecord) (b : ℕ) (tags : List ℕ) (go : Option Emission → Answer) (writable : Bool)
    → with_victim h op k b tags go writable
    ≡ answer_planned (λ plan. go (Some (planned_emission h s i k.ways op plan)))
    (if writable then replacing (record { 0 = b }) (option_map tag_named (slice_get tags 0)) (option_map tag_named (slice_get tags 1)) else dropping (record { 0 = b }) (option_map tag_named (slice_get tags 0)))
victim_is h s i op k b [] go true = refl
victim_is h s i op k b (t ∷ []) go true = refl
victim_is h s i op k b (t ∷ u ∷ ts) go true = cond-false (nat_lt (suc (suc (length ts))) 2) Answer.NoTag _ (over_two (length ts))
victim_is h s i op k b [] go false = refl
victim_is h s i op k b (t ∷ ts) go false = cond-false (nat_lt (suc (length ts)) 1) Answer.NoTag _ (over_one (length ts))

answered_is : (h s i : ℕ) (op : Op) (k : HostRecord) (exists busy hit lacks : Bool) (victim : Option ℕ) (writable : ℕ → Bool) (tags : List ℕ) (go : Option Emission → Answer)
    → answered h s i op k exists busy hit lacks victim writable tags go
    ≡ answer_planned (λ plan. go (Some (planned_emission h s i k.ways op plan))) (plan_with exists busy hit lacks victim writable (option_map tag_named (slice_get tags 0)) (option_map tag_named (slice_get tags 1)))
answered_is h s i op k false busy hit lacks victim writable tags go = refl
answered_is h s i op k true true hit lacks victim writable tags go = refl
answered_is h s i op k true false true lacks victim writable tags go = refl
answered_is h s i op k true false false false victim writable [] go = refl
answered_is h s i op k true false false false victim writable (t ∷ ts) go = cond-false (nat_lt (suc (length ts)) 1) Answer.NoTag _ (over_one (length ts))
answered_is h s i op k true false false true None writable [] go = refl
answered_is h s i op k true false false true None writable (t ∷ ts) go = cond-false (nat_lt (suc (length ts)) 1) Answer.NoTag _ (over_one (length ts))
answered_is h s i op k true false false true (Some b) writable tags go = victim_is h s i op k b tags go (writable b)

-- ---- what is found

has_line : (a : ℕ) (ways : List Way) → has_way a ways ≡ is_in a (map (λ w. w.line) ways)
has_line a [] = refl
has_line a (w ∷ ways) = ap (λ b. (a == w.line) || b) (has_line a ways)

as_many : (ways : List Way) → length ways ≡ length (map (λ w. w.line) ways)
as_many [] = refl
as_many (w ∷ ways) = ap suc (as_many ways)

and_swapped : (p q : Bool) → (p && q) ≡ (q && p)
and_swapped true true = refl
and_swapped true false = refl
and_swapped false true = refl
and_swapped false false = refl

lacks_is : (room a : ℕ) (ways : List Way) → (not (is_in a (map (λ w. w.line) ways)) && nat_le room (length (map (λ w. w.line) ways))) ≡ lacks_room_in room ways a
lacks_is room a ways = (λ i. not (sym (has_line a ways) i) && nat_le room (sym (as_many ways) i)) ∙ and_swapped (not (has_way a ways)) (nat_le room (length ways))

first_is : (p : ℕ → Bool) (n : ℕ) → slice_get (filter p (below n)) 0 ≡ find p (range_with_len 0 (n - 0))
first_is p n = sym (find_first p (below n)) ∙ ap (λ m. find p (range_with_len 0 m)) (omega arith)

second_is : (p : ℕ → Bool) (n : ℕ) → slice_get (filter p (below n)) 1 ≡ option_and_then (λ t. find p (range_with_len (t + 1) (n - (t + 1)))) (find p (range_with_len 0 (n - 0)))
second_is p n = sym (find_second p 0 n n (omega arith)) ∙ ap (λ m. option_and_then (λ t. find p (range_with_len (t + 1) (n - (t + 1)))) (find p (range_with_len 0 m))) (omega arith)

pub plans_answer : PlansAnswer
plans_answer setup h s i op k =
    let go : Option Emission → Answer = operation_or setup h s i op (view_in k) in
    let tags : List ℕ = spare_tags setup (view_in k) in
    answered_is h s i op k (nat_lt (line_of op) setup.lines) (place_or false k.busy (line_of op)) (hits_copy op (copy_in k.ways (line_of op))) (lacks_room setup (view_in k) (line_of op)) (victim (view_in k)) (λ b. may_write (copy_in k.ways b)) tags go
    ∙ (λ j. answer_planned (λ plan. go (Some (planned_emission h s i k.ways op plan)))
    (plan_with (nat_lt (line_of op) setup.lines) (place_or false k.busy (line_of op)) (hits_copy op (copy_in k.ways (line_of op))) (lacks_is setup.ways (line_of op) k.ways j) (victim (view_in k)) (λ b. may_write (copy_in k.ways b))
    (option_map tag_named (first_is (is_spare k.opened k.conflicts) setup.tags j)) (option_map tag_named (second_is (is_spare k.opened k.conflicts) setup.tags j))))
