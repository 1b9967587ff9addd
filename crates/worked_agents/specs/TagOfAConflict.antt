-- 'Tag of a conflict', at host 0: a request is finished while its conflict is open: its tag is still in use, and the next request takes the other one. Lists of steps are oldest first.
use Rattle.std.specs.Prelude.{List, [], ◌∷◌, ◌≡◌}
use Rattle.cxl_message.specs.Setup.{Configuration}
use Rattle.coherence_model.specs.Refusals.{host_answer}
use Rattle.worked_agents.specs.Steps.{Step, answered, commits, quiet, sends, step}
use Rattle.worked_runs.specs.Vocabulary.{answer, begin, bi_conflict, cmp_e, conflict, conflict_ack, load, mem_data, read_shared, rsp_invalid, setup_of, snp_inv, take, zeros}

-- its setup
abbrev pub tag_of_a_conflict_setup : Configuration
tag_of_a_conflict_setup = setup_of 1 4 4 4 2 2 (0 ∷ 0 ∷ [])

-- its steps
abbrev pub tag_of_a_conflict_steps : List Step
tag_of_a_conflict_steps =
    step (begin 0 0 (load 0)) (sends 0 (read_shared 0 0))
    ∷ step (take 0 (snp_inv 0)) quiet
    ∷ step (conflict 0) (sends 0 (bi_conflict 0))
    ∷ step (take 0 (cmp_e 0)) quiet
    ∷ step (take 0 (mem_data 0 zeros)) (commits 0 0 (load 0) zeros)
    ∷ step (begin 1 0 (load 1)) (sends 0 (read_shared 1 1))
    ∷ step (take 0 (conflict_ack 0)) quiet
    ∷ step (answer 0) (sends 0 (rsp_invalid 0 0))
    ∷ []

-- host 0 gives these answers
abbrev pub TagOfAConflictIsAnswered : Type 0
TagOfAConflictIsAnswered = answered 0 (host_answer tag_of_a_conflict_setup 0) [] tag_of_a_conflict_steps ≡ tag_of_a_conflict_steps
