-- 'Other order', at host 0: a host with one way is snooped for both lines while it evicts the one and loads the other: the first conflict ends late, the second early. Lists of steps are oldest first.
use Rattle.std.specs.Prelude.{List, [], ◌∷◌, ◌≡◌}
use Rattle.cxl_message.specs.declared.channels.Channel.{Channel}
use Rattle.cxl_message.specs.declared.opcodes.Span.{Span}
use Rattle.cxl_message.specs.Setup.{Configuration}
use Rattle.coherence_model.specs.Refusals.{Answer, host_answer}
use Rattle.worked_agents.specs.Steps.{Step, answered, commits, quiet, sends, sends_two, step}
use Rattle.worked_runs.specs.Vocabulary.{answer, begin, bi_conflict, clean_evict, cmp, cmp_e, conflict, conflict_ack, credit, give_back, load, mem_data, read_shared, rsp_invalid, setup_of, snp_inv_block, take, zeros}

-- its setup
abbrev pub other_order_setup : Configuration
other_order_setup = setup_of 2 2 2 1 2 2 (0 ∷ [])

-- its steps
abbrev pub other_order_steps : List Step
other_order_steps =
    step (begin 0 0 (load 0)) (sends 0 (read_shared 0 0))
    ∷ step (take 0 (cmp_e 0)) quiet
    ∷ step (take 0 (mem_data 0 zeros)) (commits 0 0 (load 0) zeros)
    ∷ step (take 0 (credit Channel.Req)) quiet
    ∷ step (begin 0 1 (load 1)) (sends_two 0 (clean_evict 0 0) (read_shared 1 1))
    ∷ step (take 0 (snp_inv_block 0 Span.Two)) quiet
    ∷ step (conflict 0) (sends 0 (bi_conflict 0))
    ∷ step (conflict 1) (sends 0 (bi_conflict 1))
    ∷ step (take 0 (cmp 0)) quiet
    ∷ step (give_back Channel.Ndr) (sends 0 (credit Channel.Ndr))
    ∷ step (give_back Channel.Ndr) (sends 0 (credit Channel.Ndr))
    ∷ step (take 0 (conflict_ack 0)) quiet
    ∷ step (answer 0) (sends 0 (rsp_invalid 0 0))
    ∷ step (take 0 (conflict_ack 1)) quiet
    ∷ step (answer 1) (sends 0 (rsp_invalid 0 1))
    ∷ step (begin 0 1 (load 1)) Answer.Again
    ∷ []

-- host 0 gives these answers
abbrev pub OtherOrderIsAnswered : Type 0
OtherOrderIsAnswered = answered 0 (host_answer other_order_setup 0) [] other_order_steps ≡ other_order_steps
