-- 'Again and no such line', at host 0: a line that is open: Again; a line that does not exist: NoSuchLine. Lists of steps are oldest first.
use Rattle.std.specs.Prelude.{List, [], ◌∷◌, ◌≡◌}
use Rattle.cxl_message.specs.Setup.{Configuration}
use Rattle.coherence_model.specs.Refusals.{Answer, host_answer}
use Rattle.worked_agents.specs.Steps.{Step, answered, sends, step}
use Rattle.worked_runs.specs.Vocabulary.{begin, load, read_shared, setup_of}

-- its setup
abbrev pub again_and_no_such_line_setup : Configuration
again_and_no_such_line_setup = setup_of 1 4 4 4 4 4 (0 ∷ 0 ∷ 0 ∷ 0 ∷ 0 ∷ 0 ∷ 0 ∷ 0 ∷ [])

-- its steps
abbrev pub again_and_no_such_line_steps : List Step
again_and_no_such_line_steps =
    step (begin 0 0 (load 0)) (sends 0 (read_shared 0 0))
    ∷ step (begin 1 0 (load 0)) Answer.Again
    ∷ step (begin 2 0 (load 4)) Answer.NoSuchLine
    ∷ []

-- host 0 gives these answers
abbrev pub AgainAndNoSuchLineIsAnswered : Type 0
AgainAndNoSuchLineIsAnswered = answered 0 (host_answer again_and_no_such_line_setup 0) [] again_and_no_such_line_steps ≡ again_and_no_such_line_steps
