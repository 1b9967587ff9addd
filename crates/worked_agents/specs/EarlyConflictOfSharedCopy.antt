-- 'Early conflict of shared copy', at host 0: a shared copy is given up after an early conflict, though the snoop is BISnpData. Lists of steps are oldest first.
use Rattle.std.specs.Prelude.{List, [], ◌∷◌, ◌≡◌}
use Rattle.cxl_message.specs.declared.channels.Channel.{Channel}
use Rattle.cxl_message.specs.Setup.{Configuration}
use Rattle.coherence_model.specs.Refusals.{host_answer}
use Rattle.worked_agents.specs.Steps.{Step, answered, commits, quiet, sends, step}
use Rattle.worked_runs.specs.Vocabulary.{answer, begin, bi_conflict, cmp_s, conflict, conflict_ack, credit, give_back, load, mem_data, read_any, read_shared, rsp_invalid, setup_of, snp_data, take, word, zeros}

-- its setup
abbrev pub early_conflict_of_shared_copy_setup : Configuration
early_conflict_of_shared_copy_setup = setup_of 2 4 4 2 2 2 (0 ∷ [])

-- its steps
abbrev pub early_conflict_of_shared_copy_steps : List Step
early_conflict_of_shared_copy_steps =
    step (begin 0 0 (load 0)) (sends 0 (read_shared 0 0))
    ∷ step (take 0 (cmp_s 0)) quiet
    ∷ step (take 0 (mem_data 0 zeros)) (commits 0 0 (load 0) zeros)
    ∷ step (take 0 (credit Channel.Req)) quiet
    ∷ step (give_back Channel.Ndr) (sends 0 (credit Channel.Ndr))
    ∷ step (begin 0 1 (word 0 0 1)) (sends 0 (read_any 0 0))
    ∷ step (take 0 (snp_data 0)) quiet
    ∷ step (conflict 0) (sends 0 (bi_conflict 0))
    ∷ step (take 0 (conflict_ack 0)) quiet
    ∷ step (answer 0) (sends 0 (rsp_invalid 0 0))
    ∷ []

-- host 0 gives these answers
abbrev pub EarlyConflictOfSharedCopyIsAnswered : Type 0
EarlyConflictOfSharedCopyIsAnswered = answered 0 (host_answer early_conflict_of_shared_copy_setup 0) [] early_conflict_of_shared_copy_steps ≡ early_conflict_of_shared_copy_steps
