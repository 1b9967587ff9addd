-- The acts by the record, counted and picked without a list of them.
use Rattle.std.proofs.Common.{Bool, List, None, Option, Some, [], ap, arith, cond, drop, false, length, map, nat_lt, refl, slice_index_or, subst, suc, sym, take, true, zero, ℕ, ◌+◌, ◌-◌, ◌<◌, ◌∙◌, ◌∷◌, ◌≡◌, ◌≤◌}
use Rattle.std.specs.Prelude.{count_by, filter, filter_map, flat_map, is_none, is_some, option_map, option_to_list, slice_get, sum_by, ◌&&◌, ◌++◌, ◌==◌}
use Rattle.std.specs.List.{cons_option}
use Rattle.std.specs.Option.{option_map_or}
use Rattle.std.proofs.lemmas.Bool.{cond-false, cond-true, eq-eqb, le-ltb, lt-ltb, ltb-false, ltb-true, ne_eqb}
use Rattle.std.proofs.lemmas.List.{append_assoc, length-append}
use Rattle.std.proofs.lemmas.List.Concat.{length-flat_map}
use Rattle.cxl_message.specs.declared.channels.Channel.{Channel}
use Rattle.cxl_message.specs.declared.events.Act.{Act}
use Rattle.cxl_message.specs.Setup.{Configuration}
use Rattle.coherence_model.specs.Emission.{Emission}
use Rattle.coherence_model.specs.Next.{host_return_channels}
use Rattle.coherence_model.specs.Snoops.{Snoop, is_whole_block}
use Rattle.host_record.specs.HostRecord.{view_in}
use Rattle.host_record.specs.View.{View}
use Rattle.host_record.specs.ViewAnswers.{act_if, act_list, block_acts_by, lacking_by, line_acts_by, or_acts, snoop_acts_by}
use Rattle.host_record.specs.ViewRows.{acts_by}
use Rattle.host_tables.specs.Agent.{AgentRecord}
use Rattle.host_acts.specs.Counting.{act_at_of, act_count_of, acts_of_agent, line_act_of, may_act, may_answer_whole, nth_of, nth_or, pick_of, return_act_of, return_at_of, snoop_act_at_of, snoop_act_count_of}

-- ---- each act

list_by : (agent : AgentRecord) (act : Act) (w : Option Emission)
    → act_if agent.setup agent.host (view_in agent.kept) act w ≡ cond (option_map_or (λ x. is_none (lacking_by (view_in agent.kept) x.sends)) w false) (act ∷ []) []
list_by agent act None = refl
list_by agent act (Some w) = refl

list_is : (agent : AgentRecord) (act : Act) → act_list agent.setup agent.host (view_in agent.kept) act ≡ cond (may_act agent act) (act ∷ []) []
list_is agent act = list_by agent act (acts_by agent.setup agent.host act (view_in agent.kept))

three : (b c d : Bool) (x y z : Act) → or_acts (cond b (x ∷ []) []) (or_acts (cond c (y ∷ []) []) (cond d (z ∷ []) [])) ≡ option_to_list (cond b (Some x) (cond c (Some y) (cond d (Some z) None)))
three true c d x y z = refl
three false true d x y z = refl
three false false true x y z = refl
three false false false x y z = refl

line_is : (agent : AgentRecord) (a : ℕ) → line_acts_by agent.setup agent.host (view_in agent.kept) a ≡ option_to_list (line_act_of agent a)
line_is agent a =
    ap (λ xs. or_acts xs (or_acts (act_list agent.setup agent.host (view_in agent.kept) (Act.WriteBack (record { 0 = a }))) (act_list agent.setup agent.host (view_in agent.kept) (Act.Answer (record { 0 = a }))))) (list_is agent (Act.Conflict (record { 0 = a })))
    ∙ ap (λ xs. or_acts (cond (may_act agent (Act.Conflict (record { 0 = a }))) (Act.Conflict (record { 0 = a }) ∷ []) []) (or_acts xs (act_list agent.setup agent.host (view_in agent.kept) (Act.Answer (record { 0 = a }))))) (list_is agent (Act.WriteBack (record { 0 = a })))
    ∙ ap (λ xs. or_acts (cond (may_act agent (Act.Conflict (record { 0 = a }))) (Act.Conflict (record { 0 = a }) ∷ []) []) (or_acts (cond (may_act agent (Act.WriteBack (record { 0 = a }))) (Act.WriteBack (record { 0 = a }) ∷ []) []) xs)) (list_is agent (Act.Answer (record { 0 = a })))
    ∙ three (may_act agent (Act.Conflict (record { 0 = a }))) (may_act agent (Act.WriteBack (record { 0 = a }))) (may_act agent (Act.Answer (record { 0 = a }))) (Act.Conflict (record { 0 = a })) (Act.WriteBack (record { 0 = a })) (Act.Answer (record { 0 = a }))

added : (o : Option Act) (xs ys : List Act) → xs ≡ ys → option_to_list o ++ xs ≡ cons_option o ys
added None xs ys same = same
added (Some x) xs ys same = ap (λ l. x ∷ l) same

-- the acts of lines one after another
lines_are : (agent : AgentRecord) (ls : List ℕ) → flat_map (line_acts_by agent.setup agent.host (view_in agent.kept)) ls ≡ filter_map (line_act_of agent) ls
lines_are agent [] = refl
lines_are agent (a ∷ ls) =
    ap (λ xs. xs ++ flat_map (line_acts_by agent.setup agent.host (view_in agent.kept)) ls) (line_is agent a)
    ∙ added (line_act_of agent a) (flat_map (line_acts_by agent.setup agent.host (view_in agent.kept)) ls) (filter_map (line_act_of agent) ls) (lines_are agent ls)

-- ---- each snoop

block_by : (w b : Bool) (x : Act) → cond w (cond b (x ∷ []) []) [] ≡ cond (w && b) (x ∷ []) []
block_by true b x = refl
block_by false b x = refl

block_is : (agent : AgentRecord) (s : Snoop) → block_acts_by agent.setup agent.host (view_in agent.kept) s ≡ cond (may_answer_whole agent s) (Act.AnswerBlock (record { 0 = s.first }) ∷ []) []
block_is agent s =
    ap (λ xs. cond (is_whole_block s.first s) xs []) (list_is agent (Act.AnswerBlock (record { 0 = s.first })))
    ∙ block_by (is_whole_block s.first s) (may_act agent (Act.AnswerBlock (record { 0 = s.first }))) (Act.AnswerBlock (record { 0 = s.first }))

either : (w : Bool) (x : Act) (ys : List Act) → or_acts (cond w (x ∷ []) []) ys ≡ cond w (x ∷ []) ys
either true x ys = refl
either false x ys = refl

snoop_is : (agent : AgentRecord) (s : Snoop)
    → snoop_acts_by agent.setup agent.host (view_in agent.kept) s ≡ cond (may_answer_whole agent s) (Act.AnswerBlock (record { 0 = s.first }) ∷ []) (filter_map (line_act_of agent) s.unanswered)
snoop_is agent s =
    ap (λ xs. or_acts xs (flat_map (line_acts_by agent.setup agent.host (view_in agent.kept)) s.unanswered)) (block_is agent s)
    ∙ ap (or_acts (cond (may_answer_whole agent s) (Act.AnswerBlock (record { 0 = s.first }) ∷ []) [])) (lines_are agent s.unanswered)
    ∙ either (may_answer_whole agent s) (Act.AnswerBlock (record { 0 = s.first })) (filter_map (line_act_of agent) s.unanswered)

counted_by : (w : Bool) (x : Act) (ys : List Act) → length (cond w (x ∷ []) ys) ≡ cond w 1 (length ys)
counted_by true x ys = refl
counted_by false x ys = refl

snoop_counted : (agent : AgentRecord) (s : Snoop) → length (snoop_acts_by agent.setup agent.host (view_in agent.kept) s) ≡ snoop_act_count_of agent s
snoop_counted agent s =
    ap (λ (xs : List Act). length xs) (snoop_is agent s)
    ∙ counted_by (may_answer_whole agent s) (Act.AnswerBlock (record { 0 = s.first })) (filter_map (line_act_of agent) s.unanswered)

picked_by : (w : Bool) (x : Act) (ys : List Act) (k : ℕ) → slice_get (cond w (x ∷ []) ys) k ≡ cond w (cond (k == 0) (Some x) None) (slice_get ys k)
picked_by true x ys zero = refl
picked_by true x ys (suc k) = sym (cond-false (suc k == 0) (Some x) None (ne_eqb (suc k) 0 (λ same. omega arith)))
picked_by false x ys k = refl

-- the acts that some have, by their numbers
nth_step : (o : Option Act) (xs : List Act) (rest : ℕ → Option Act) (k : ℕ) → ((j : ℕ) → slice_get xs j ≡ rest j) → slice_get (cons_option o xs) k ≡ nth_or o rest k
nth_step None xs rest k same = same k
nth_step (Some x) xs rest zero same = refl
nth_step (Some x) xs rest (suc k) same =
    let less : k ≡ suc k - 1 = omega arith in
    same k ∙ ap rest less ∙ sym (cond-false (suc k == 0) (Some x) (rest (suc k - 1)) (ne_eqb (suc k) 0 (λ e. omega arith)))

nth_is : {X : Type 0} (act : X → Option Act) (xs : List X) (k : ℕ) → slice_get (filter_map act xs) k ≡ nth_of act xs k
nth_is act [] k = refl
nth_is act (x ∷ xs) k = nth_step (act x) (filter_map act xs) (nth_of act xs) k (nth_is act xs)

snoop_picked : (agent : AgentRecord) (s : Snoop) (k : ℕ) → slice_get (snoop_acts_by agent.setup agent.host (view_in agent.kept) s) k ≡ snoop_act_at_of agent s k
snoop_picked agent s k =
    ap (λ xs. slice_get xs k) (snoop_is agent s)
    ∙ picked_by (may_answer_whole agent s) (Act.AnswerBlock (record { 0 = s.first })) (filter_map (line_act_of agent) s.unanswered) k
    ∙ ap (cond (may_answer_whole agent s) (cond (k == 0) (Some (Act.AnswerBlock (record { 0 = s.first }))) None)) (nth_is (line_act_of agent) s.unanswered k)

-- ---- the returns

returned : (b : Bool) (x : Act) (xs ys : List Act) → xs ≡ ys → cond b (x ∷ []) [] ++ xs ≡ cons_option (cond b (Some x) None) ys
returned true x xs ys same = ap (λ l. x ∷ l) same
returned false x xs ys same = same

returns_are : (agent : AgentRecord) (cs : List Channel) → flat_map (λ c. act_list agent.setup agent.host (view_in agent.kept) (Act.HostReturn c)) cs ≡ filter_map (return_act_of agent) cs
returns_are agent [] = refl
returns_are agent (c ∷ cs) =
    ap (λ xs. xs ++ flat_map (λ d. act_list agent.setup agent.host (view_in agent.kept) (Act.HostReturn d)) cs) (list_is agent (Act.HostReturn c))
    ∙ returned (may_act agent (Act.HostReturn c)) (Act.HostReturn c) (flat_map (λ d. act_list agent.setup agent.host (view_in agent.kept) (Act.HostReturn d)) cs) (filter_map (return_act_of agent) cs) (returns_are agent cs)

-- ---- all acts

pub acts_counted : (agent : AgentRecord) → length (acts_of_agent agent) ≡ act_count_of agent
acts_counted agent =
    let v = view_in agent.kept in
    length-append (flat_map (snoop_acts_by agent.setup agent.host v) agent.kept.snoops) (flat_map (λ c. act_list agent.setup agent.host v (Act.HostReturn c)) host_return_channels)
    ∙ ap (λ n. n + length (flat_map (λ c. act_list agent.setup agent.host v (Act.HostReturn c)) host_return_channels))
    (length-flat_map (snoop_acts_by agent.setup agent.host v) agent.kept.snoops ∙ ap (λ (f : Snoop → ℕ). sum_by f agent.kept.snoops) (λ i s. snoop_counted agent s i))
    ∙ ap (λ (xs : List Act). sum_by (snoop_act_count_of agent) agent.kept.snoops + length xs) (returns_are agent host_return_channels)

get_low : (xs ys : List Act) (k : ℕ) → k < length xs → slice_get (xs ++ ys) k ≡ slice_get xs k
get_low [] ys k low = absurd (omega arith)
get_low (x ∷ xs) ys zero low = refl
get_low (x ∷ xs) ys (suc k) low = get_low xs ys k (omega arith)

get_high : (xs ys : List Act) (k : ℕ) → length xs ≤ k → slice_get (xs ++ ys) k ≡ slice_get ys (k - length xs)
get_high [] ys k high = let same : k ≡ k - 0 = omega arith in ap (slice_get ys) same
get_high (x ∷ xs) ys zero high = absurd (omega arith)
get_high (x ∷ xs) ys (suc k) high = let same : k - length xs ≡ suc k - suc (length xs) = omega arith in get_high xs ys k (omega arith) ∙ ap (slice_get ys) same

get_by : (b : Bool) (xs ys : List Act) (k : ℕ) → nat_lt k (length xs) ≡ b → slice_get (xs ++ ys) k ≡ cond b (slice_get xs k) (slice_get ys (k - length xs))
get_by true xs ys k is = get_low xs ys k (ltb-true k (length xs) is)
get_by false xs ys k is = get_high xs ys k (ltb-false k (length xs) is)

pick_is : (agent : AgentRecord) (ss : List Snoop) (k : ℕ)
    → slice_get (flat_map (snoop_acts_by agent.setup agent.host (view_in agent.kept)) ss ++ flat_map (λ c. act_list agent.setup agent.host (view_in agent.kept) (Act.HostReturn c)) host_return_channels) k ≡ pick_of agent ss k
pick_is agent [] k = ap (λ xs. slice_get xs k) (returns_are agent host_return_channels) ∙ nth_is (return_act_of agent) host_return_channels k
pick_is agent (s ∷ ss) k =
    let v = view_in agent.kept in
    let f = snoop_acts_by agent.setup agent.host v in
    let rs = flat_map (λ c. act_list agent.setup agent.host v (Act.HostReturn c)) host_return_channels in
    ap (λ xs. slice_get xs k) (append_assoc (f s) (flat_map f ss) rs)
    ∙ get_by (nat_lt k (length (f s))) (f s) (flat_map f ss ++ rs) k refl
    ∙ ap (λ n. cond (nat_lt k n) (slice_get (f s) k) (slice_get (flat_map f ss ++ rs) (k - n))) (snoop_counted agent s)
    ∙ ap (λ o. cond (nat_lt k (snoop_act_count_of agent s)) o (slice_get (flat_map f ss ++ rs) (k - snoop_act_count_of agent s))) (snoop_picked agent s k)
    ∙ ap (cond (nat_lt k (snoop_act_count_of agent s)) (snoop_act_at_of agent s k)) (pick_is agent ss (k - snoop_act_count_of agent s))

pub acts_picked : (agent : AgentRecord) (k : ℕ) → slice_get (acts_of_agent agent) k ≡ act_at_of agent k
acts_picked agent k = pick_is agent agent.kept.snoops k

-- ---- along the snoops

-- the act is one of the snoop at hand
pub pick_here : (agent : AgentRecord) (ss : List Snoop) (i k : ℕ) (d : Snoop) → i < length ss → k < snoop_act_count_of agent (slice_index_or ss i d)
    → pick_of agent (drop i ss) k ≡ snoop_act_at_of agent (slice_index_or ss i d) k
pick_here agent [] i k d low few = absurd (omega arith)
pick_here agent (s ∷ ss) zero k d low few =
    cond-true (nat_lt k (snoop_act_count_of agent s)) (snoop_act_at_of agent s k) (pick_of agent ss (k - snoop_act_count_of agent s)) (lt-ltb k (snoop_act_count_of agent s) few)
pick_here agent (s ∷ ss) (suc i) k d low few = pick_here agent ss i k d (omega arith) few

-- it is one of a later snoop, or a return
pub pick_later : (agent : AgentRecord) (ss : List Snoop) (i k : ℕ) (d : Snoop) → i < length ss → snoop_act_count_of agent (slice_index_or ss i d) ≤ k
    → pick_of agent (drop i ss) k ≡ pick_of agent (drop (i + 1) ss) (k - snoop_act_count_of agent (slice_index_or ss i d))
pick_later agent [] i k d low more = absurd (omega arith)
pick_later agent (s ∷ ss) zero k d low more =
    cond-false (nat_lt k (snoop_act_count_of agent s)) (snoop_act_at_of agent s k) (pick_of agent ss (k - snoop_act_count_of agent s)) (le-ltb k (snoop_act_count_of agent s) more)
pick_later agent (s ∷ ss) (suc i) k d low more =
    let e : suc (i + 1) ≡ suc i + 1 = omega arith in
    pick_later agent ss i k d (omega arith) more ∙ ap (λ j. pick_of agent (drop j (s ∷ ss)) (k - snoop_act_count_of agent (slice_index_or ss i d))) e

-- past the snoops it is a return
pub pick_last : (agent : AgentRecord) (ss : List Snoop) (i k : ℕ) → length ss ≤ i → pick_of agent (drop i ss) k ≡ return_at_of agent k
pick_last agent [] zero k high = refl
pick_last agent [] (suc i) k high = refl
pick_last agent (s ∷ ss) zero k high = absurd (omega arith)
pick_last agent (s ∷ ss) (suc i) k high = pick_last agent ss i k (omega arith)

few_step : (o : Option Act) (xs : List Act) (n : ℕ) → length xs ≤ n → length (cons_option o xs) ≤ suc n
few_step None xs n few = omega arith
few_step (Some x) xs n few = omega arith

-- no more acts than lines
pub few_acts : (agent : AgentRecord) (ls : List ℕ) → length (filter_map (line_act_of agent) ls) ≤ length ls
few_acts agent [] = omega arith
few_acts agent (a ∷ ls) = few_step (line_act_of agent a) (filter_map (line_act_of agent) ls) (length ls) (few_acts agent ls)

-- ---- along what may have an act

pub nth_here : {X : Type 0} (act : X → Option Act) (xs : List X) (i k : ℕ) (d : X) (x : Act) → i < length xs → act (slice_index_or xs i d) ≡ Some x → k ≡ 0 → nth_of act (drop i xs) k ≡ Some x
nth_here act [] i k d x low is none = absurd (omega arith)
nth_here act (y ∷ ys) zero k d x low is none =
    ap (λ o. nth_or o (nth_of act ys) k) is ∙ cond-true (k == 0) (Some x) (nth_of act ys (k - 1)) (eq-eqb k 0 none)
nth_here act (y ∷ ys) (suc i) k d x low is none = nth_here act ys i k d x (omega arith) is none

pub nth_after : {X : Type 0} (act : X → Option Act) (xs : List X) (i k : ℕ) (d : X) (x : Act) → i < length xs → act (slice_index_or xs i d) ≡ Some x → 0 < k
    → nth_of act (drop i xs) k ≡ nth_of act (drop (i + 1) xs) (k - 1)
nth_after act [] i k d x low is some = absurd (omega arith)
nth_after act (y ∷ ys) zero k d x low is some =
    ap (λ o. nth_or o (nth_of act ys) k) is ∙ cond-false (k == 0) (Some x) (nth_of act ys (k - 1)) (ne_eqb k 0 (λ e. omega arith))
nth_after act (y ∷ ys) (suc i) k d x low is some =
    let e : suc (i + 1) ≡ suc i + 1 = omega arith in nth_after act ys i k d x (omega arith) is some ∙ ap (λ j. nth_of act (drop j (y ∷ ys)) (k - 1)) e

pub nth_passed : {X : Type 0} (act : X → Option Act) (xs : List X) (i k : ℕ) (d : X) → i < length xs → act (slice_index_or xs i d) ≡ None → nth_of act (drop i xs) k ≡ nth_of act (drop (i + 1) xs) k
nth_passed act [] i k d low is = absurd (omega arith)
nth_passed act (y ∷ ys) zero k d low is = ap (λ o. nth_or o (nth_of act ys) k) is
nth_passed act (y ∷ ys) (suc i) k d low is =
    let e : suc (i + 1) ≡ suc i + 1 = omega arith in nth_passed act ys i k d (omega arith) is ∙ ap (λ j. nth_of act (drop j (y ∷ ys)) k) e

pub nth_last : {X : Type 0} (act : X → Option Act) (xs : List X) (i k : ℕ) → length xs ≤ i → nth_of act (drop i xs) k ≡ None
nth_last act [] zero k high = refl
nth_last act [] (suc i) k high = refl
nth_last act (y ∷ ys) zero k high = absurd (omega arith)
nth_last act (y ∷ ys) (suc i) k high = nth_last act ys i k (omega arith)
