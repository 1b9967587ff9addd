-- The event is the one that the step has made.
use Rattle.std.proofs.Common.{refl, ◌∙◌}
use Rattle.board_trial.proofs.Shown.{emission_is, event_stands}
use Rattle.board_trial.proofs.host.follow.Goals as goal

pub returns-then-same_commits : goal.returns-then-same_commits
returns-then-same_commits c = record {
  goes_on = λ setup h mine stands agent.
      let e = c.args.event.now in
      let sends = c.if-same_sends.ensures.decides.0 refl in
      let commit = c.if-same_commits.ensures.decides.0 refl in
      event_stands c.step.new.self setup h mine e e.cause _ agent refl (emission_is e _ sends commit ∙ c.emitted.view_is)
      (c.in_ok-emitted.ensures.goes_on setup h mine stands);
}
