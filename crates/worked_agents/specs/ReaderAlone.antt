-- 'Reader alone', at the device: a host that is itself listed S reads alone: its grant is Cmp-E. Lists of steps are oldest first.
use Rattle.std.specs.Prelude.{List, [], ◌∷◌, ◌≡◌}
use Rattle.cxl_message.specs.Setup.{Configuration}
use Rattle.coherence_model.specs.Refusals.{device_answer}
use Rattle.coherence_model.specs.Traces.{device}
use Rattle.worked_agents.specs.Steps.{Step, answered, quiet, sends, sends_two, step}
use Rattle.worked_runs.specs.Vocabulary.{clean, clean_evict, cmp, cmp_e, cmp_s, finish, mem_data, read_shared, rsp_shared, setup_of, snoop, snp_data, start, take, zeros}

-- its setup
abbrev pub reader_alone_setup : Configuration
reader_alone_setup = setup_of 2 4 4 4 4 4 []

-- its steps
abbrev pub reader_alone_steps : List Step
reader_alone_steps =
    step (take 0 (read_shared 0 0)) quiet
    ∷ step (start 0 0) quiet
    ∷ step (finish 0) (sends_two 0 (cmp_e 0) (mem_data 0 zeros))
    ∷ step (take 1 (read_shared 0 0)) quiet
    ∷ step (start 1 0) quiet
    ∷ step (snoop 0 0) (sends 0 (snp_data 0))
    ∷ step (take 0 (rsp_shared 0 0)) quiet
    ∷ step (finish 0) (sends_two 1 (cmp_s 0) (mem_data 0 zeros))
    ∷ step (take 0 (clean_evict 1 0)) quiet
    ∷ step (clean 0 1) (sends 0 (cmp 1))
    ∷ step (take 1 (read_shared 1 0)) quiet
    ∷ step (start 1 1) quiet
    ∷ step (finish 0) (sends_two 1 (cmp_e 1) (mem_data 1 zeros))
    ∷ []

-- the device gives these answers
abbrev pub ReaderAloneIsAnswered : Type 0
ReaderAloneIsAnswered = answered device (device_answer reader_alone_setup []) [] reader_alone_steps ≡ reader_alone_steps
