-- 'Second grant', at host 0: a second grant and a second MemData of one request break H3. Lists of steps are oldest first.
use Rattle.std.specs.Prelude.{List, [], ◌∷◌, ◌≡◌}
use Rattle.cxl_message.specs.declared.states.RuleNo.{RuleNo}
use Rattle.cxl_message.specs.Setup.{Configuration}
use Rattle.coherence_model.specs.Refusals.{Answer, host_answer}
use Rattle.worked_agents.specs.Steps.{Step, answered, commits, quiet, sends, step}
use Rattle.worked_runs.specs.Vocabulary.{begin, cmp_e, load, mem_data, read_shared, setup_of, take, zeros}

-- its setup
abbrev pub second_grant_setup : Configuration
second_grant_setup = setup_of 1 4 4 4 2 4 (0 ∷ [])

-- its steps
abbrev pub second_grant_steps : List Step
second_grant_steps =
    step (begin 0 0 (load 0)) (sends 0 (read_shared 0 0))
    ∷ step (take 0 (cmp_e 0)) quiet
    ∷ step (take 0 (cmp_e 0)) (Answer.Broken RuleNo.H3)
    ∷ step (take 0 (mem_data 0 zeros)) (commits 0 0 (load 0) zeros)
    ∷ step (take 0 (mem_data 0 zeros)) (Answer.Broken RuleNo.H3)
    ∷ []

-- host 0 gives these answers
abbrev pub SecondGrantIsAnswered : Type 0
SecondGrantIsAnswered = answered 0 (host_answer second_grant_setup 0) [] second_grant_steps ≡ second_grant_steps
