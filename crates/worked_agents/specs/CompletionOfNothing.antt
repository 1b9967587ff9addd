-- 'Completion of nothing', at host 0: a Cmp with nothing open breaks H3. Lists of steps are oldest first.
use Rattle.std.specs.Prelude.{List, [], ◌∷◌, ◌≡◌}
use Rattle.cxl_message.specs.declared.states.RuleNo.{RuleNo}
use Rattle.cxl_message.specs.Setup.{Configuration}
use Rattle.coherence_model.specs.Refusals.{Answer, host_answer}
use Rattle.worked_agents.specs.Steps.{Step, answered, step}
use Rattle.worked_runs.specs.Vocabulary.{cmp, setup_of, take}

-- its setup
abbrev pub completion_of_nothing_setup : Configuration
completion_of_nothing_setup = setup_of 1 4 4 4 4 4 (0 ∷ 0 ∷ 0 ∷ 0 ∷ 0 ∷ 0 ∷ 0 ∷ 0 ∷ [])

-- its steps
abbrev pub completion_of_nothing_steps : List Step
completion_of_nothing_steps =
    step (take 0 (cmp 1)) (Answer.Broken RuleNo.H3)
    ∷ []

-- host 0 gives these answers
abbrev pub CompletionOfNothingIsAnswered : Type 0
CompletionOfNothingIsAnswered = answered 0 (host_answer completion_of_nothing_setup 0) [] completion_of_nothing_steps ≡ completion_of_nothing_steps
