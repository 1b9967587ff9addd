-- 'No credit', at host 0: two credits, and both are spent: NoCredit. Lists of steps are oldest first.
use Rattle.std.specs.Prelude.{List, [], ◌∷◌, ◌≡◌}
use Rattle.cxl_message.specs.declared.channels.Channel.{Channel}
use Rattle.cxl_message.specs.Setup.{Configuration}
use Rattle.coherence_model.specs.Refusals.{Answer, host_answer}
use Rattle.worked_agents.specs.Steps.{Step, answered, sends, step}
use Rattle.worked_runs.specs.Vocabulary.{begin, load, read_shared, setup_of}

-- its setup
abbrev pub no_credit_setup : Configuration
no_credit_setup = setup_of 1 4 4 4 4 2 (0 ∷ 0 ∷ 0 ∷ 0 ∷ 0 ∷ 0 ∷ 0 ∷ 0 ∷ [])

-- its steps
abbrev pub no_credit_steps : List Step
no_credit_steps =
    step (begin 0 0 (load 0)) (sends 0 (read_shared 0 0))
    ∷ step (begin 1 0 (load 1)) (sends 0 (read_shared 1 1))
    ∷ step (begin 2 0 (load 2)) (Answer.NoCredit Channel.Req)
    ∷ []

-- host 0 gives these answers
abbrev pub NoCreditIsAnswered : Type 0
NoCreditIsAnswered = answered 0 (host_answer no_credit_setup 0) [] no_credit_steps ≡ no_credit_steps
