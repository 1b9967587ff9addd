-- 'No tag', at host 0: two tags, and both are in use: NoTag. Lists of steps are oldest first.
use Rattle.std.specs.Prelude.{List, [], ◌∷◌, ◌≡◌}
use Rattle.cxl_message.specs.Setup.{Configuration}
use Rattle.coherence_model.specs.Refusals.{Answer, host_answer}
use Rattle.worked_agents.specs.Steps.{Step, answered, sends, step}
use Rattle.worked_runs.specs.Vocabulary.{begin, load, read_shared, setup_of}

-- its setup
abbrev pub no_tag_setup : Configuration
no_tag_setup = setup_of 1 4 4 4 2 4 (0 ∷ 0 ∷ 0 ∷ 0 ∷ 0 ∷ 0 ∷ 0 ∷ 0 ∷ [])

-- its steps
abbrev pub no_tag_steps : List Step
no_tag_steps =
    step (begin 0 0 (load 0)) (sends 0 (read_shared 0 0))
    ∷ step (begin 1 0 (load 1)) (sends 0 (read_shared 1 1))
    ∷ step (begin 2 0 (load 2)) Answer.NoTag
    ∷ []

-- host 0 gives these answers
abbrev pub NoTagIsAnswered : Type 0
NoTagIsAnswered = answered 0 (host_answer no_tag_setup 0) [] no_tag_steps ≡ no_tag_steps
