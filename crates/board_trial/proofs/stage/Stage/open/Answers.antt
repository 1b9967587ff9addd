-- The seats have seen nothing, and the hosts' agents stand for no event.
use Rattle.board_trial.proofs.Stages.{opened_stage}
use Rattle.board_trial.proofs.stage.Stage.open.Goals as goal

pub invariant_of-result : goal.invariant_of-result
invariant_of-result c =
    let new = c.in_ok-front in
    let agents = c.in_ok-one in
    opened_stage new.front c.args.setup.now (record { agent = agents.one; seat = new.first }) (record { agent = agents.two; seat = new.second }) new.device c.requires
    new.ensures.setup new.ensures.seen new.ensures.seats agents.ensures.first agents.ensures.second
