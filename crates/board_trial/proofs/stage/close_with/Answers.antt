-- The three seats are of the board, one of each agent.
use Rattle.std.proofs.Common.{[], ◌∷◌, ◌≡◌, subst, sym}
use Rattle.std.specs.List.{All}
use Rattle.std.proofs.lemmas.List.Elements.{All-cons, All-nil}
use Rattle.fabric_rule.specs.Values.{HasOneOfEach, HaveOneRun, SeatValue, agents_of}
use Rattle.board_trial.proofs.Stages.{one_of_each}
use Rattle.board_trial.proofs.stage.close_with.Goals as goal

pub close-requires-clause-board : goal.close-requires-clause-board
close-requires-clause-board c =
    let P = λ (s : SeatValue). s.board ≡ c.args.board.id in
    subst (All P) (sym c.in_ok-seats.ensures)
    (All-cons P c.args.first (c.args.second ∷ c.args.device ∷ []) c.requires.first.0
    (All-cons P c.args.second (c.args.device ∷ []) c.requires.second.0 (All-cons P c.args.device [] c.requires.third.0 (All-nil P))))

pub close-requires-clause-agents : goal.close-requires-clause-agents
close-requires-clause-agents c =
    subst (HasOneOfEach (agents_of c.args.board.setup)) (sym c.in_ok-seats.ensures)
    (one_of_each c.args.board.setup c.args.first c.args.second c.args.device c.requires.hosts c.requires.first.1 c.requires.second.1 c.requires.third.1)

pub returns : goal.returns
returns c = subst (HaveOneRun c.args.board.setup c.args.board.opening c.close.result) c.in_ok-seats.ensures c.close.ensures.run
