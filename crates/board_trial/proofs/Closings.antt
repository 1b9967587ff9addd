-- The numbers of the hosts' events in the run of a closed board.
use Rattle.std.proofs.Common.{◌≡◌, ◌<◌, ◌+◌, ℕ, List, [], ◌∷◌, ◌++◌, length, map, set, take, refl, subst, sym, ◌∙◌, ap}
use Rattle.std.specs.Prelude.{IfOk, Result, reverse}
use Rattle.std.proofs.lemmas.List.{reverse-append, take_more_set}
use Rattle.std.proofs.lemmas.List.Elements.{All-head, All-tail}
use Rattle.std.proofs.lemmas.Result.{IfOk-at_ok, IfOk-weaker}
use Rattle.cxl_message.specs.declared.events.Cause.{Cause}
use Rattle.cxl_message.specs.declared.events.Event.{Event}
use Rattle.coherence_model.specs.Traces.{device}
use Rattle.fabric_rule.specs.Values.{BoardValue, HaveOneRun, SeatValue, StandsIn}
use Rattle.board_trial.specs.declared.host.Host.{Host}
use Rattle.board_trial.specs.declared.marks.Refused.{Refused}
use Rattle.board_trial.specs.Trial.{ClosesWith, FrontValue, HasMade, HasMarked, IsClosed, IsStage, SitsBy, numbers_in}

-- a mark adds its number to the seat's
pub number_added : (b : BoardValue) (cause : Cause) (n : ℕ) (old new : SeatValue) → HasMarked b cause n old new → numbers_in new.agent new.seen ≡ n ∷ numbers_in old.agent old.seen
number_added b cause n old new marked = ap (λ (ps : List (ℕ × Event)). map (λ p. p.0) ps) marked.own

-- a seat has made the one operation that it has marked
pub made_one : (b : BoardValue) (cause : Cause) (n : ℕ) (old new : SeatValue) → new.board ≡ b.id → new.agent ≡ old.agent → HasMarked b cause n old new → HasMade b old (n ∷ []) new
made_one b cause n old new board agent marked = record { board = board; agent = agent; own = number_added b cause n old new marked }

-- one more number at the end of those so far
numbers_more : (xs : List ℕ) (place n : ℕ) (olds : List ℕ) → place < length xs → n ∷ (reverse (take place xs) ++ olds) ≡ reverse (take (place + 1) (set xs place n)) ++ olds
numbers_more xs place n olds less =
    let more : reverse (take (place + 1) (set xs place n)) ≡ n ∷ reverse (take place xs) = ap reverse (take_more_set xs place n less) ∙ reverse-append (take place xs) (n ∷ []) in
    ap (λ ns. ns ++ olds) (sym more)

pub made_more :
    (b : BoardValue) (first old new : SeatValue) (xs : List ℕ) (place n : ℕ) → place < length xs → HasMade b first (take place xs) old → HasMade b old (n ∷ []) new
    → HasMade b first (take (place + 1) (set xs place n)) new
made_more b first old new xs place n less so_far more =
    record {
      board = more.board;
      agent = more.agent ∙ so_far.agent;
      own = more.own ∙ ap (λ ns. n ∷ ns) so_far.own ∙ numbers_more xs place n (numbers_in first.agent first.seen) less;
    }

-- a seat that has made nothing since
pub made_none : (b : BoardValue) (s : SeatValue) → s.board ≡ b.id → HasMade b s [] s
made_none b s board = record { board = board; agent = refl; own = refl }

-- where a seat stands in the run, its agent has the numbers there that the seat has made beside those before
numbers_closed :
    (f : FrontValue) (g : ℕ) (old new : SeatValue) (ns : List ℕ) (run : List Event) → SitsBy f g old → HasMade f.board old ns new → StandsIn run new
    → numbers_in g run ≡ reverse ns ++ numbers_in g f.seen
numbers_closed f g old new ns run sits made stands =
    ap (λ a. numbers_in a run) (sym (made.agent ∙ sits.agent))
    ∙ ap (λ (ps : List (ℕ × Event)). map (λ p. p.0) ps) stands.mine
    ∙ made.own
    ∙ ap (λ a. reverse ns ++ numbers_in a old.seen) sits.agent
    ∙ ap (λ (ps : List (ℕ × Event)). reverse ns ++ map (λ p. p.0) ps) (sym sits.own.mine)

-- the board of a stage is closed
closed_stage :
    (f : FrontValue) (h k : Host) (d : SeatValue) → IsStage f h k d → (b : BoardValue) → b ≡ f.board → (s t : SeatValue) (ns ms : List ℕ) (n : ℕ)
    → HasMade b h.seat ns s → HasMade b k.seat ms t → HaveOneRun b.setup b.opening n (s ∷ t ∷ d ∷ []) → IsClosed f ns ms n
closed_stage f h k d stage b same s t ns ms n first second one =
    let here : HaveOneRun f.board.setup f.board.opening n (s ∷ t ∷ d ∷ []) = subst (λ x. HaveOneRun x.setup x.opening n (s ∷ t ∷ d ∷ [])) same one in
    let P = StandsIn here.run in
    let rest = All-tail P s (t ∷ d ∷ []) here.stand in
    let last = All-head P d [] (All-tail P t (d ∷ []) rest) in
    record {
      run = here.run;
      is_run = here.is_run;
      count_is = here.count_is;
      first = numbers_closed f 0 h.seat s ns here.run stage.first (subst (λ x. HasMade x h.seat ns s) same first) (All-head P s (t ∷ d ∷ []) here.stand);
      second = numbers_closed f 1 k.seat t ms here.run stage.second (subst (λ x. HasMade x k.seat ms t) same second) (All-head P t (d ∷ []) rest);
      third = numbers_closed f device d d [] here.run stage.third (made_none f.board d stage.third.board) last;
    }

-- where a host's seat has made its operations, it is still the host's
pub still_sits :
    (f : FrontValue) (g : ℕ) (old : SeatValue) → SitsBy f g old → (b : BoardValue) (one : Result (List ℕ × SeatValue) Refused)
    → IfOk one (λ r. HasMade b old r.0 r.1) → IfOk one (λ r. (r.1.board ≡ b.id) × (r.1.agent ≡ g))
still_sits f g old sits b one made =
    IfOk-weaker one (λ r. HasMade b old r.0 r.1) (λ r. (r.1.board ≡ b.id) × (r.1.agent ≡ g)) (λ r m. (m.board, m.agent ∙ sits.agent)) made

-- a stage is closed where both hosts have made their operations
pub closes :
    (f : FrontValue) (h k : Host) (d : SeatValue) → IsStage f h k d → (b : BoardValue) → b ≡ f.board → (one two : Result (List ℕ × SeatValue) Refused) (ns ms : List ℕ) (n : ℕ)
    → IfOk one (λ r. HasMade b h.seat r.0 r.1) → IfOk two (λ r. HasMade b k.seat r.0 r.1) → ClosesWith b one two d ns ms n → IsClosed f ns ms n
closes f h k d stage b same one two ns ms n first second closed =
    closed_stage f h k d stage b same closed.seat closed.other ns ms n
    (IfOk-at_ok (λ r. HasMade b h.seat r.0 r.1) closed.first first)
    (IfOk-at_ok (λ r. HasMade b k.seat r.0 r.1) closed.second second)
    closed.run
