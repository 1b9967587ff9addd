-- The front and the seats past an event.
use Rattle.std.proofs.Common.{◌≡◌, ◌≤◌, ◌+◌, ℕ, Bool, true, false, List, [], ◌∷◌, ◌++◌, cond, length, map, refl, sym, ◌∙◌, ap, subst, arith}
use Rattle.std.specs.Prelude.{◌==◌}
use Rattle.std.specs.List.Sorted.{IsPermutation}
use Rattle.std.proofs.lemmas.List.Sorted.{IsPermutation-refl}
use Rattle.cxl_message.specs.declared.events.Event.{Event}
use Rattle.cxl_message.specs.declared.identifiers.Bytes64.{Bytes64}
use Rattle.cxl_message.specs.declared.identifiers.Line.{Line}
use Rattle.cxl_message.specs.Lists.{below}
use Rattle.cxl_message.specs.Setup.{Configuration}
use Rattle.atomic_table.specs.Seated.{TableId}
use Rattle.coherence_model.specs.Traces.{device, events_of, numbered_events_of}
use Rattle.coherence_lemmas.proofs.OwnEvents.{events_of-own}
use Rattle.run_laws.proofs.Numbers.{numbered_are_own}
use Rattle.run_laws.proofs.OwnEvents.{is_other, others_leave_numbers}
use Rattle.std.proofs.lemmas.Bool.{and_from}
use Rattle.fabric_rule.specs.Fronts.{HasAllOf}
use Rattle.fabric_rule.specs.Values.{BoardValue, HasOneOfEach, NoteValue, SeatValue, agents_of, mine, new_seats}
use Rattle.host_home.specs.Contract.{StandsFor as HostStandsFor}
use Rattle.host_tables.specs.Agent.{AgentRecord}
use Rattle.machine.specs.Stands.{MachineRecord, StandsFor}
use Rattle.board_trial.specs.declared.host.Host.{Host}
use Rattle.board_trial.specs.Trial.{FrontValue, IsFront, IsStage, MayMark, ShowsOwn, SitsBy}

-- another agent's event leaves a seat all that the run has of it
pub sits_on : (f f' : FrontValue) (g : ℕ) (s : SeatValue) (e : Event) → (e.agent ≡ g → ⊥) → f'.board ≡ f.board → f'.seen ≡ e ∷ f.seen → SitsBy f g s → SitsBy f' g s
sits_on f f' g s e other board seen sits =
    record {
      board = sits.board ∙ ap (λ b. b.id) (sym board);
      agent = sits.agent;
      own = subst (HasAllOf g s.seen) (sym seen)
          record {
            front = (e ∷ sits.own.front.0, ap (λ t. e ∷ t) sits.own.front.1);
            mine = others_leave_numbers g (e ∷ []) f.seen (and_from _ _ (is_other g e other) refl) ∙ sits.own.mine;
          };
    }

-- an agent has no more events than there are
numbered_step : (own : Bool) (p : ℕ × Event) (xs : List (ℕ × Event)) (n : ℕ) → length xs ≤ n → length (cond own (p ∷ xs) xs) ≤ n + 1
numbered_step true p xs n le = omega (arith, le)
numbered_step false p xs n le = omega (arith, le)

pub numbered_at_most : (g : ℕ) (t : List Event) → length (numbered_events_of g t) ≤ length t
numbered_at_most g [] = omega arith
numbered_at_most g (e ∷ t) =
    let le = numbered_step (e.agent == g) (length t, e) (numbered_events_of g t) (length t) (numbered_at_most g t) in
    omega (arith, le)

-- a seat has made no more events than there are
pub mine_at_most : (f : FrontValue) (g : ℕ) (s : SeatValue) → SitsBy f g s → length (mine s) ≤ length f.seen
mine_at_most f g s sits =
    let same : mine s ≡ numbered_events_of g f.seen = ap (λ a. numbered_events_of a s.seen) sits.agent ∙ sym sits.own.mine in
    subst (λ xs. length xs ≤ length f.seen) (sym same) (numbered_at_most g f.seen)

-- the own events of a seat are those of the run
pub same_own : (f : FrontValue) (g : ℕ) (s : SeatValue) → SitsBy f g s → events_of s.agent f.seen ≡ events_of s.agent s.seen
same_own f g s sits =
    ap (λ a. events_of a f.seen) sits.agent
    ∙ sym (numbered_are_own g f.seen)
    ∙ ap (map (λ (p : ℕ × Event). p.1)) sits.own.mine
    ∙ numbered_are_own g s.seen
    ∙ ap (λ a. events_of a s.seen) (sym sits.agent)

-- the agent of the event's seat stands for the seat's own events past the event too
pub shows_past :
    (f f' : FrontValue) (s s' : SeatValue) (e : Event) (a : AgentRecord) → f'.board ≡ f.board → f'.seen ≡ e ∷ f.seen → SitsBy f e.agent s → SitsBy f' e.agent s'
    → HostStandsFor a f.board.setup s.agent (e ∷ events_of s.agent s.seen) → ShowsOwn f'.board a s'
shows_past f f' s s' e a board seen sits sits' stands =
    let agent : s'.agent ≡ s.agent = sits'.agent ∙ sym sits.agent in
    let own : events_of s.agent s'.seen ≡ e ∷ events_of s.agent s.seen =
    ap (λ n. events_of n s'.seen) (sym agent)
    ∙ sym (same_own f' e.agent s' sits')
    ∙ ap (events_of s'.agent) seen
    ∙ events_of-own s'.agent e f.seen (sym sits'.agent)
    ∙ ap (λ n. e ∷ events_of n f.seen) agent
    ∙ ap (λ es. e ∷ es) (same_own f e.agent s sits) in
    subst (λ b. ShowsOwn b a s') (sym board)
    (subst (λ n. HostStandsFor a f.board.setup n (events_of n s'.seen)) (sym agent) (subst (HostStandsFor a f.board.setup s.agent) (sym own) stands))

-- a seat that has seen nothing
abbrev new_seat : TableId → ℕ → SeatValue
new_seat id g = record { board = id; agent = g; seen = [] }

-- the seats of a board of two hosts
three_seats : (id : TableId) (setup : Configuration) → setup.hosts ≡ 2 → new_seats id (agents_of setup) ≡ new_seat id 0 ∷ new_seat id 1 ∷ new_seat id device ∷ []
three_seats id setup two = ap (λ n. new_seats id (below n ++ device ∷ [])) two

-- the front of a board with no event
pub new_front :
    (b : BoardValue) (room : ℕ) (m : MachineRecord) (n : NoteValue) (setup : Configuration) (opening : List (Line × Bytes64)) (s t d : SeatValue) → setup.hosts ≡ 2
    → b.setup ≡ setup → b.opening ≡ opening → b.room ≡ room → new_seats b.id (agents_of setup) ≡ s ∷ t ∷ d ∷ [] → n.board ≡ d.board → n.seen ≡ d.seen → StandsFor m setup opening []
    → IsFront b room m n 0
new_front b room m n setup opening s t d two setups openings rooms seats board seen stands =
    let three = sym seats ∙ three_seats b.id setup two in
    let last : d ≡ new_seat b.id device = cc three in
    let none : n.seen ≡ [] = seen ∙ ap (λ x. x.seen) last in
    record {
      room_is = rooms;
      note = board ∙ ap (λ x. x.board) last;
      count_is = ap length none;
      machine = subst (λ x. StandsFor m x b.opening n.seen) (sym setups)
          (subst (λ x. StandsFor m setup x n.seen) (sym openings) (subst (StandsFor m setup opening) (sym none) stands));
    }

-- a new seat has all that a run without events has of it
sits_new : (f : FrontValue) (g : ℕ) (s : SeatValue) → f.seen ≡ [] → s ≡ new_seat f.board.id g → SitsBy f g s
sits_new f g s none is =
    let same : f.seen ≡ s.seen = none ∙ sym (ap (λ x. x.seen) is) in
    record {
      board = ap (λ x. x.board) is;
      agent = ap (λ x. x.agent) is;
      own = record { front = ([], same); mine = ap (numbered_events_of g) same };
    }

-- an agent that stands for no event stands for a new seat's
shows_new :
    (f : FrontValue) (setup : Configuration) (g : ℕ) (s : SeatValue) (a : AgentRecord) → f.board.setup ≡ setup → s ≡ new_seat f.board.id g → HostStandsFor a setup g []
    → ShowsOwn f.board a s
shows_new f setup g s a same is stands = subst (ShowsOwn f.board a) (sym is) (subst (λ x. HostStandsFor a x g []) (sym same) stands)

-- the stage of a board that has no event yet
pub opened_stage :
    (f : FrontValue) (setup : Configuration) (h k : Host) (d : SeatValue) → setup.hosts ≡ 2 → f.board.setup ≡ setup → f.seen ≡ []
    → new_seats f.board.id (agents_of setup) ≡ h.seat ∷ k.seat ∷ d ∷ [] → HostStandsFor h.agent setup 0 [] → HostStandsFor k.agent setup 1 [] → IsStage f h k d
opened_stage f setup h k d two same none seats first_stands second_stands =
    let three = sym seats ∙ three_seats f.board.id setup two in
    let first : h.seat ≡ new_seat f.board.id 0 = cc three in
    let second : k.seat ≡ new_seat f.board.id 1 = cc three in
    let third : d ≡ new_seat f.board.id device = cc three in
    record {
      hosts = ap (λ x. x.hosts) same ∙ two;
      first = sits_new f 0 h.seat none first;
      second = sits_new f 1 k.seat none second;
      third = sits_new f device d none third;
      first_shows = shows_new f setup 0 h.seat h.agent same first first_stands;
      second_shows = shows_new f setup 1 k.seat k.agent same second second_stands;
    }

-- the stage after an event of each of its seats
pub first_advanced :
    (f f' : FrontValue) (h k : Host) (d : SeatValue) (e : Event) → e.agent ≡ 0 → IsStage f h k d → f'.board ≡ f.board → f'.seen ≡ e ∷ f.seen
    → (h' : Host) → SitsBy f' e.agent h'.seat → ShowsOwn f'.board h'.agent h'.seat → IsStage f' h' k d
first_advanced f f' h k d e g stage board seen h' sits shows =
    record {
      hosts = ap (λ b. b.setup.hosts) board ∙ stage.hosts;
      first = subst (λ n. SitsBy f' n h'.seat) g sits;
      second = sits_on f f' 1 k.seat e (λ is. absurd (omega (arith, g, is))) board seen stage.second;
      third = sits_on f f' device d e (λ is. absurd (omega (arith, g, is))) board seen stage.third;
      first_shows = shows;
      second_shows = subst (λ b. ShowsOwn b k.agent k.seat) (sym board) stage.second_shows;
    }

pub second_advanced :
    (f f' : FrontValue) (h k : Host) (d : SeatValue) (e : Event) → e.agent ≡ 1 → IsStage f h k d → f'.board ≡ f.board → f'.seen ≡ e ∷ f.seen
    → (k' : Host) → SitsBy f' e.agent k'.seat → ShowsOwn f'.board k'.agent k'.seat → IsStage f' h k' d
second_advanced f f' h k d e g stage board seen k' sits shows =
    record {
      hosts = ap (λ b. b.setup.hosts) board ∙ stage.hosts;
      first = sits_on f f' 0 h.seat e (λ is. absurd (omega (arith, g, is))) board seen stage.first;
      second = subst (λ n. SitsBy f' n k'.seat) g sits;
      third = sits_on f f' device d e (λ is. absurd (omega (arith, g, is))) board seen stage.third;
      first_shows = subst (λ b. ShowsOwn b h.agent h.seat) (sym board) stage.first_shows;
      second_shows = shows;
    }

pub third_advanced :
    (f f' : FrontValue) (h k : Host) (d : SeatValue) (e : Event) → e.agent ≡ device → IsStage f h k d → f'.board ≡ f.board → f'.seen ≡ e ∷ f.seen
    → (d' : SeatValue) → SitsBy f' e.agent d' → IsStage f' h k d'
third_advanced f f' h k d e g stage board seen d' sits =
    record {
      hosts = ap (λ b. b.setup.hosts) board ∙ stage.hosts;
      first = sits_on f f' 0 h.seat e (λ is. absurd (omega (arith, g, is))) board seen stage.first;
      second = sits_on f f' 1 k.seat e (λ is. absurd (omega (arith, g, is))) board seen stage.second;
      third = subst (λ n. SitsBy f' n d') g sits;
      first_shows = subst (λ b. ShowsOwn b h.agent h.seat) (sym board) stage.first_shows;
      second_shows = subst (λ b. ShowsOwn b k.agent k.seat) (sym board) stage.second_shows;
    }

-- three seats are one of each agent, where there are two hosts
pub one_of_each : (setup : Configuration) (s t d : SeatValue) → setup.hosts ≡ 2 → s.agent ≡ 0 → t.agent ≡ 1 → d.agent ≡ device → HasOneOfEach (agents_of setup) (s ∷ t ∷ d ∷ [])
one_of_each setup s t d two first second third =
    let agents : agents_of setup ≡ 0 ∷ 1 ∷ device ∷ [] = ap (λ n. below n ++ device ∷ []) two in
    let seats : map (λ u. u.agent) (s ∷ t ∷ d ∷ []) ≡ 0 ∷ 1 ∷ device ∷ [] = cc (first, second, third) in
    subst (λ xs. IsPermutation (agents_of setup) xs) (agents ∙ sym seats) (IsPermutation-refl (agents_of setup))

-- a seat by a front may mark so many operations where its host's agent shows them and there is room
pub may_mark :
    (f : FrontValue) (b : BoardValue) → b ≡ f.board → (g : ℕ) (a : AgentRecord) (s : SeatValue) → SitsBy f g s → ShowsOwn f.board a s
    → (more : ℕ) → length f.seen + more ≤ f.board.room → MayMark b a s more
may_mark f b same g a s sits shows more fits =
    let most = mine_at_most f g s sits in
    let enough : length (mine s) + more ≤ f.board.room = omega (arith, most, fits) in
    subst (λ x. MayMark x a s more) (sym same) (sits.board, shows, enough)
