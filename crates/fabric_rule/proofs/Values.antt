-- The conditions and results of marks and meetings, in what clauses see of a board, a seat and a note.
use Rattle.atomic_table.specs.Seated.{TableId}
use Rattle.atomic_table.specs.Table.{Allows, Me}
use Rattle.coherence_model.specs.Runs.{is_allowed}
use Rattle.coherence_model.specs.Traces.{events_of, numbered_events_of}
use Rattle.cxl_message.specs.Setup.{Configuration}
use Rattle.cxl_message.specs.declared.events.Event.{Event}
use Rattle.cxl_message.specs.declared.identifiers.Bytes64.{Bytes64}
use Rattle.cxl_message.specs.declared.identifiers.Line.{Line}
use Rattle.fabric_rule.proofs.Fronts.{numbered_own, without_numbered}
use Rattle.fabric_rule.proofs.Marks.{marks}
use Rattle.fabric_rule.proofs.Meets.{learns}
use Rattle.fabric_rule.specs.Board.{KeepsOneRun, met}
use Rattle.fabric_rule.specs.Fronts.{EndsWith, GoesOnWithout}
use Rattle.fabric_rule.specs.Steps.{IsSeat, Learnt, Marked, agent_of}
use Rattle.fabric_rule.specs.Values.{BoardValue, SeatValue, mine}
use Rattle.fabric_rule.specs.declared.view.View.{View}
use Rattle.run_laws.proofs.OwnEvents.{others_leave_numbers}
use Rattle.std.proofs.Common.{Bool, IsTrue, List, [], ap, arith, cond, false, length, refl, subst, sym, true, ℕ, ◌%◌, ◌++◌, ◌+◌, ◌<◌, ◌^◌, ◌∙◌, ◌∷◌, ◌≡◌}
use Rattle.std.proofs.lemmas.List.Elements.{All-head}
use Rattle.std.specs.List.{All}
use Rattle.std.specs.Prelude.{◌==◌}

-- as many numbered events as events
count_step : (own : Bool) (n : ℕ) (e : Event) (xs : List (ℕ × Event)) (ys : List Event) → length xs ≡ length ys → length (cond own ((n, e) ∷ xs) xs) ≡ length (cond own (e ∷ ys) ys)
count_step true n e xs ys h = omega (arith, h)
count_step false n e xs ys h = h

pub numbered_length : (g : ℕ) (t : List Event) → length (numbered_events_of g t) ≡ length (events_of g t)
numbered_length g [] = refl
numbered_length g (e ∷ past) = count_step (e.agent == g) (length past) e (numbered_events_of g past) (events_of g past) (numbered_length g past)

-- the value of a board and of a seat, by what they hold
abbrev pub board_value : TableId → Configuration → List (Line × Bytes64) → ℕ → BoardValue
board_value id setup openings room = record { id = id; setup = setup; opening = openings; room = room }

abbrev pub seat_value : TableId → Me (Unit {0}) View → SeatValue
seat_value id me = record { board = id; agent = agent_of me.0.agents; seen = me.0.seen }

pub marks_value :
    (table : TableId) (setup js : Configuration) (openings jo : List (Line × Bytes64)) (room : ℕ) (b : BoardValue) → board_value table setup openings room ≡ b
    → (t : TableId) (me : Me (Unit {0}) View) (v : SeatValue) → seat_value t me ≡ v → IsSeat me
    → (je e : Event) (slots id : ℕ) → slots ≡ 0 → js ≡ b.setup → jo ≡ b.opening → je ≡ e
    → e.agent ≡ v.agent → length (mine v) < b.room → IsTrue (is_allowed b.setup b.opening v.seen e)
    → Allows (KeepsOneRun setup openings room) slots id me 0 (λ n. (n + 1) % 2 ^ 64) (Marked js jo je me)
marks_value table setup js openings jo room b bis t me v vis is je e slots id no_slot s1 o1 e1 agent less may =
    let js_is : js ≡ setup = s1 ∙ sym (ap (λ x. x.setup) bis) in
    let jo_is : jo ≡ openings = o1 ∙ sym (ap (λ x. x.opening) bis) in
    let less_b : length (mine v) < room = subst (λ x. length (mine v) < x.room) (sym bis) less in
    let less_v : length (numbered_events_of (agent_of me.0.agents) me.0.seen) < room = subst (λ x. length (mine x) < room) (sym vis) less_b in
    let less_e : length (events_of (agent_of me.0.agents) me.0.seen) < room = subst (λ n. n < room) (numbered_length (agent_of me.0.agents) me.0.seen) less_v in
    let may_b : IsTrue (is_allowed setup openings v.seen e) = subst (λ x. IsTrue (is_allowed x.setup x.opening v.seen e)) (sym bis) may in
    let may_v : IsTrue (is_allowed setup openings me.0.seen e) = subst (λ x. IsTrue (is_allowed setup openings x.seen e)) (sym vis) may_b in
    let same : e.agent ≡ agent_of me.0.agents = agent ∙ sym (ap (λ x. x.agent) vis) in
    subst (λ k. Allows (KeepsOneRun setup openings room) k id me 0 (λ n. (n + 1) % 2 ^ 64) (Marked js jo je me)) (sym no_slot)
    (subst (λ x. Allows (KeepsOneRun setup openings room) 0 id me 0 (λ n. (n + 1) % 2 ^ 64) (Marked x jo je me)) (sym js_is)
    (subst (λ x. Allows (KeepsOneRun setup openings room) 0 id me 0 (λ n. (n + 1) % 2 ^ 64) (Marked setup x je me)) (sym jo_is)
    (subst (λ x. Allows (KeepsOneRun setup openings room) 0 id me 0 (λ n. (n + 1) % 2 ^ 64) (Marked setup openings x me)) (sym e1)
    (marks setup openings room e id me is same less_e may_v))))

-- a mark adds the event to the seat's own
pub marked_mine :
    (old new : SeatValue) (e : Event) (n : ℕ) → e.agent ≡ old.agent → new.agent ≡ old.agent
    → EndsWith old.agent old.seen e new.seen → length new.seen ≡ n + 1 → mine new ≡ (n, e) ∷ mine old
marked_mine old new e n agent same ends number =
    let past = ends.between ++ old.seen in
    let count : length past ≡ n = let longer = ap length ends.seen in omega (arith, longer, number) in
    ap (λ g. numbered_events_of g new.seen) same
    ∙ ap (numbered_events_of old.agent) ends.seen
    ∙ numbered_own old.agent e past agent
    ∙ ap (λ k. (k, e) ∷ numbered_events_of old.agent past) count
    ∙ ap (λ xs. (n, e) ∷ xs) (others_leave_numbers old.agent ends.between old.seen ends.foreign)

pub learns_value :
    (setup js : Configuration) (openings jo : List (Line × Bytes64)) (room : ℕ) (old : Me (Unit {0}) View) (w : View) (me : Me (Unit {0}) View) → IsSeat old → me ≡ (met old.0 w, old.1)
    → (slots id : ℕ) → slots ≡ 0 → js ≡ setup → jo ≡ openings
    → Allows (KeepsOneRun setup openings room) slots id me 0 (λ n. n) (λ n. Learnt js jo me)
learns_value setup js openings jo room old w me is joined slots id no_slot js_is jo_is =
    subst (λ k. Allows (KeepsOneRun setup openings room) k id me 0 (λ n. n) (λ n. Learnt js jo me)) (sym no_slot)
    (subst (λ x. Allows (KeepsOneRun setup openings room) 0 id me 0 (λ n. n) (λ n. Learnt x jo me)) (sym js_is)
    (subst (λ x. Allows (KeepsOneRun setup openings room) 0 id me 0 (λ n. n) (λ n. Learnt setup x me)) (sym jo_is)
    (subst (λ m. Allows (KeepsOneRun setup openings room) 0 id m 0 (λ n. n) (λ n. Learnt setup openings m)) (sym joined)
    (learns setup openings room id old.0 w old.1 is))))

-- a meeting leaves the seat's own as they were
pub learnt_mine :
    (setup : Configuration) (openings : List (Line × Bytes64)) (old : Me (Unit {0}) View) (w : View) (before after : Me (Unit {0}) View) (t u : TableId) → IsSeat old
    → before ≡ (met old.0 w, old.1) → Learnt setup openings before after → mine (seat_value t after) ≡ mine (seat_value u old)
learnt_mine setup openings old w before after t u is joined learnt =
    let now : Learnt setup openings (met old.0 w, old.1) after = subst (λ m. Learnt setup openings m after) joined learnt in
    let P : ℕ × List Event → Type 0 = λ p. GoesOnWithout p.0 p.1 (met old.0 w).seen in
    let own = All-head P (agent_of old.0.agents, old.0.seen) [] (subst (All P) is.own now.own) in
    ap (λ m. mine (seat_value t m)) now.view ∙ without_numbered (agent_of old.0.agents) old.0.seen (met old.0 w).seen own
