-- 'No way', at host 0: one way, and its line is open: NoWay, until the line is filled and can be evicted. Lists of steps are oldest first.
use Rattle.std.specs.Prelude.{List, [], ◌∷◌, ◌≡◌}
use Rattle.cxl_message.specs.declared.channels.Channel.{Channel}
use Rattle.cxl_message.specs.Setup.{Configuration}
use Rattle.coherence_model.specs.Refusals.{Answer, host_answer}
use Rattle.worked_agents.specs.Steps.{Step, answered, commits, quiet, sends, sends_two, step}
use Rattle.worked_runs.specs.Vocabulary.{begin, clean_evict, cmp_e, credit, load, mem_data, read_shared, setup_of, take, zeros}

-- its setup
abbrev pub no_way_setup : Configuration
no_way_setup = setup_of 1 4 4 1 4 4 (0 ∷ 0 ∷ 0 ∷ 0 ∷ 0 ∷ 0 ∷ 0 ∷ 0 ∷ [])

-- its steps
abbrev pub no_way_steps : List Step
no_way_steps =
    step (begin 0 0 (load 0)) (sends 0 (read_shared 0 0))
    ∷ step (begin 1 0 (load 1)) Answer.NoWay
    ∷ step (take 0 (cmp_e 0)) quiet
    ∷ step (take 0 (mem_data 0 zeros)) (commits 0 0 (load 0) zeros)
    ∷ step (take 0 (credit Channel.Req)) quiet
    ∷ step (begin 1 0 (load 1)) (sends_two 0 (clean_evict 0 0) (read_shared 1 1))
    ∷ []

-- host 0 gives these answers
abbrev pub NoWayIsAnswered : Type 0
NoWayIsAnswered = answered 0 (host_answer no_way_setup 0) [] no_way_steps ≡ no_way_steps
