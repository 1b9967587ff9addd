-- The seats of an opening and of a close, as clauses see them.
use Rattle.atomic_table.specs.Seated.{TableId}
use Rattle.atomic_table.specs.Table.{Me, Splits}
use Rattle.coherence_model.specs.Runs.{IsRun}
use Rattle.coherence_model.specs.Traces.{device}
use Rattle.cxl_message.specs.Lists.{below}
use Rattle.cxl_message.specs.Setup.{Configuration}
use Rattle.cxl_message.specs.declared.events.Event.{Event}
use Rattle.cxl_message.specs.declared.identifiers.Bytes64.{Bytes64}
use Rattle.cxl_message.specs.declared.identifiers.Line.{Line}
use Rattle.fabric_rule.proofs.Closes.{Closed}
use Rattle.fabric_rule.proofs.Opens.{opens_seat}
use Rattle.fabric_rule.proofs.Values.{board_value, seat_value}
use Rattle.fabric_rule.specs.Board.{KeepsOneRun, device_view, next_host, with_next_host}
use Rattle.fabric_rule.specs.Fronts.{HasAllOf}
use Rattle.fabric_rule.specs.Values.{BoardValue, HasOneOfEach, HaveOneRun, SeatValue, StandsIn, agent_and_seen, agents_of, new_seats}
use Rattle.fabric_rule.specs.declared.view.View.{View}
use Rattle.std.proofs.Common.{Bool, List, None, Some, [], ap, append_assoc, arith, cond, false, length, map, refl, subst, suc, sym, true, ℕ, ◌++◌, ◌+◌, ◌<◌, ◌∙◌, ◌∷◌, ◌≡◌}
use Rattle.std.proofs.lemmas.Bool.{false≢true, lt-ltb, ltb-true, or_right}
use Rattle.std.proofs.lemmas.List.{map-append}
use Rattle.std.proofs.lemmas.List.Elements.{All-cons, All-head, All-nil, All-tail}
use Rattle.std.proofs.lemmas.List.Folds.{list_any-append}
use Rattle.std.proofs.lemmas.List.FromFn.{map-range_with_len_more}
use Rattle.std.proofs.lemmas.List.Sorted.{All-permutation, IsPermutation-sym, IsPermutation-to_front, list_any-IsPermutation}
use Rattle.std.specs.List.{All, list_any, position_or_len}
use Rattle.std.specs.List.Sorted.{IsPermutation}
use Rattle.std.specs.Prelude.{nat_lt, not, position, ◌==◌, ◌||◌}

-- the next host's seat, while there is no event
pub opens_value : (setup : Configuration) (openings : List (Line × Bytes64)) (room id n : ℕ) (v : View) → v ≡ device_view n → n < 16 → Splits (KeepsOneRun setup openings room) id v (with_next_host v) (next_host v)
opens_value setup openings room id n v is less =
    subst (λ x. Splits (KeepsOneRun setup openings room) id x (with_next_host x) (next_host x)) (sym is) (opens_seat setup openings room id (device_view n) refl less)

pub next_host_value : (t id : TableId) (me : Me (Unit {0}) View) (n : ℕ) (v : View) → t ≡ id → me ≡ (next_host v, []) → v ≡ device_view n → seat_value t me ≡ record { board = id; agent = n; seen = [] }
next_host_value t id me n v same is device_is =
    ap (λ m. seat_value t m) is ∙ ap (λ x. seat_value t (next_host x, [])) device_is ∙ ap (λ x. seat_value x (next_host (device_view n), [])) same

-- one more host's seat
pub seats_more : (id : TableId) (n : ℕ) (xs : List SeatValue) (v : SeatValue) → xs ≡ new_seats id (below n) → v ≡ record { board = id; agent = n; seen = [] } → xs ++ v ∷ [] ≡ new_seats id (below (n + 1))
seats_more id n xs v is same =
    ap (λ ys. ys ++ v ∷ []) is ∙ ap (λ x. new_seats id (below n) ++ x ∷ []) same
    ∙ sym (map-range_with_len_more (λ g. record { board = id; agent = g; seen = [] }) 0 n n (omega arith))

-- a seat of the device is found where there is one of each agent
found_step : (here any : Bool) (rest n : ℕ) → (here || any) ≡ true → (any ≡ true → rest < n) → cond (not here) (1 + rest) 0 < suc n
found_step true any rest n some more = omega arith
found_step false any rest n some more = let less = more some in omega (arith, less)

found_among : (g : ℕ) (seats : List SeatValue) → list_any (λ x. x == g) (map (λ s. s.agent) seats) ≡ true → position_or_len (λ s. s.agent == g) seats < length seats
found_among g [] some = absurd (false≢true some)
found_among g (s ∷ seats) some =
    found_step (s.agent == g) (list_any (λ x. x == g) (map (λ u. u.agent) seats)) (position_or_len (λ u. u.agent == g) seats) (length seats) some (found_among g seats)

device_is_seated : (setup : Configuration) (seats : List SeatValue) → HasOneOfEach (agents_of setup) seats → list_any (λ x. x == device) (map (λ s. s.agent) seats) ≡ true
device_is_seated setup seats each =
    sym (list_any-IsPermutation (λ x. x == device) (agents_of setup) (map (λ s. s.agent) seats) each)
    ∙ list_any-append (λ x. x == device) (below setup.hosts) (device ∷ [])
    ∙ or_right (list_any (λ x. x == device) (below setup.hosts)) true refl

place_by : (found : Bool) (at n : ℕ) → found ≡ true → cond found (Some at) None ≡ Some n → at ≡ n
place_by true at n is e = cc
place_by false at n is e = absurd (false≢true is)

no_place_by : (found : Bool) (at : ℕ) → found ≡ true → cond found (Some at) None ≡ None → ⊥
no_place_by true at is e = cc
no_place_by false at is e = absurd (false≢true is)

seated_test : (setup : Configuration) (seats : List SeatValue) → HasOneOfEach (agents_of setup) seats → nat_lt (position_or_len (λ s. s.agent == device) seats) (length seats) ≡ true
seated_test setup seats each = lt-ltb (position_or_len (λ s. s.agent == device) seats) (length seats) (found_among device seats (device_is_seated setup seats each))

-- at a place in the list, never nowhere
pub device_place : (setup : Configuration) (seats : List SeatValue) (n : ℕ) → HasOneOfEach (agents_of setup) seats → position (λ s. s.agent == device) seats ≡ Some n → n < length seats
device_place setup seats n each is =
    let test = seated_test setup seats each in
    subst (λ k. k < length seats) (place_by (nat_lt (position_or_len (λ s. s.agent == device) seats) (length seats)) (position_or_len (λ s. s.agent == device) seats) n test is)
    (ltb-true (position_or_len (λ s. s.agent == device) seats) (length seats) test)

pub device_somewhere : (setup : Configuration) (seats : List SeatValue) → HasOneOfEach (agents_of setup) seats → position (λ s. s.agent == device) seats ≡ None → ⊥
device_somewhere setup seats each is =
    no_place_by (nat_lt (position_or_len (λ s. s.agent == device) seats) (length seats)) (position_or_len (λ s. s.agent == device) seats) (seated_test setup seats each) is

-- one more seat was taken over
pub taken_more :
    (xs ys : List SeatValue) (next : SeatValue) (agents theirs now all : List (ℕ × List Event)) → xs ≡ ys ++ next ∷ [] → map agent_and_seen xs ++ agents ≡ all → theirs ≡ agent_and_seen next ∷ [] → now ≡ theirs ++ agents
    → map agent_and_seen ys ++ now ≡ all
taken_more xs ys next agents theirs now all cut old own is =
    ap (λ ks. map agent_and_seen ys ++ ks) (is ∙ ap (λ ks. ks ++ agents) own)
    ∙ sym (append_assoc (map agent_and_seen ys) (agent_and_seen next ∷ []) agents)
    ∙ ap (λ ks. ks ++ agents) (sym (map-append agent_and_seen ys (next ∷ [])) ∙ ap (map agent_and_seen) (sym cut))
    ∙ old

-- where all agents have what the run has of them, all seats stand in the run
all_stand : (run : List Event) (seats : List SeatValue) → All (λ p. HasAllOf p.0 p.1 run) (map agent_and_seen seats) → All (StandsIn run) seats
all_stand run [] h = All-nil (StandsIn run)
all_stand run (s ∷ ss) h =
    let P : ℕ × List Event → Type 0 = λ p. HasAllOf p.0 p.1 run in
    All-cons (StandsIn run) s ss (All-head P (agent_and_seen s) (map agent_and_seen ss) h) (all_stand run ss (All-tail P (agent_and_seen s) (map agent_and_seen ss) h))

-- the seats that were joined are the seats of the call
pub one_run :
    (table : TableId) (setup : Configuration) (openings : List (Line × Bytes64)) (room : ℕ) (b : BoardValue) → board_value table setup openings room ≡ b
    → (n : ℕ) (agents : List (ℕ × List Event)) (seats others : List SeatValue) (last : SeatValue) → IsPermutation seats (last ∷ others) → agents ≡ map agent_and_seen others ++ agent_and_seen last ∷ []
    → Closed setup openings n agents → HaveOneRun b.setup b.opening n seats
one_run table setup openings room b is n agents seats others last moved same closed =
    let all = subst (All (λ p. HasAllOf p.0 p.1 closed.run)) (same ∙ sym (map-append agent_and_seen others (last ∷ []))) closed.all in
    let ends = all_stand closed.run (others ++ last ∷ []) all in
    let front = All-permutation (StandsIn closed.run) (others ++ last ∷ []) (last ∷ others) (IsPermutation-to_front others last) ends in
    record {
      run = closed.run;
      is_run = subst (λ x. IsRun x.setup x.opening closed.run) is closed.is_run;
      count_is = closed.count;
      stand = All-permutation (StandsIn closed.run) (last ∷ others) seats (IsPermutation-sym seats (last ∷ others) moved) front;
    }
