-- 'Block of mixed lines', at host 0: a host is snooped for a block of four lines: exclusive, modified, pending and exclusive. Lists of steps are oldest first.
use Rattle.std.specs.Prelude.{List, [], ◌∷◌, ◌≡◌}
use Rattle.cxl_message.specs.declared.channels.Channel.{Channel}
use Rattle.cxl_message.specs.declared.events.Event.{Event}
use Rattle.cxl_message.specs.declared.opcodes.Span.{Span}
use Rattle.cxl_message.specs.Setup.{Configuration}
use Rattle.coherence_model.specs.Next.{next_host_acts}
use Rattle.coherence_model.specs.Refusals.{host_answer}
use Rattle.worked_agents.specs.Steps.{Step, answered, commits, events_after, quiet, sends, step}
use Rattle.worked_runs.specs.Vocabulary.{answer, begin, bi_conflict, cmp_e, conflict, credit, give_back, host_sends, load, mem_data, one_word, read_any, read_shared, rsp_invalid, setup_of, snp_inv_block, take, word, write_back, write_invalid, zeros}

-- its setup
abbrev pub block_of_mixed_lines_setup : Configuration
block_of_mixed_lines_setup = setup_of 1 5 4 5 4 4 (0 ∷ [])

-- its steps
abbrev pub block_of_mixed_lines_steps : List Step
block_of_mixed_lines_steps =
    step (begin 0 0 (load 0)) (sends 0 (read_shared 0 0))
    ∷ step (take 0 (cmp_e 0)) quiet
    ∷ step (take 0 (mem_data 0 zeros)) (commits 0 0 (load 0) zeros)
    ∷ step (take 0 (credit Channel.Req)) quiet
    ∷ step (begin 0 1 (word 1 0 1)) (sends 0 (read_any 0 1))
    ∷ step (take 0 (cmp_e 0)) quiet
    ∷ step (take 0 (mem_data 0 zeros)) (commits 0 1 (word 1 0 1) (one_word 1))
    ∷ step (take 0 (credit Channel.Req)) quiet
    ∷ step (begin 0 2 (load 3)) (sends 0 (read_shared 0 3))
    ∷ step (take 0 (cmp_e 0)) quiet
    ∷ step (take 0 (mem_data 0 zeros)) (commits 0 2 (load 3) zeros)
    ∷ step (take 0 (credit Channel.Req)) quiet
    ∷ step (begin 0 3 (load 2)) (sends 0 (read_shared 0 2))
    ∷ step (take 0 (snp_inv_block 0 Span.Four)) quiet
    ∷ []

-- host 0 gives these answers
abbrev pub BlockOfMixedLinesIsAnswered : Type 0
BlockOfMixedLinesIsAnswered = answered 0 (host_answer block_of_mixed_lines_setup 0) [] block_of_mixed_lines_steps ≡ block_of_mixed_lines_steps

-- the acts that are allowed then, in order
abbrev pub mixed_acts : List Event
mixed_acts =
    host_sends 0 (answer 0) (rsp_invalid 0 0)
    ∷ host_sends 0 (write_back 1) (write_invalid 4 1 (one_word 1))
    ∷ host_sends 0 (conflict 2) (bi_conflict 0)
    ∷ host_sends 0 (answer 3) (rsp_invalid 0 3)
    ∷ host_sends 0 (give_back Channel.Ndr) (credit Channel.Ndr)
    ∷ host_sends 0 (give_back Channel.Drs) (credit Channel.Drs)
    ∷ []

-- these acts are the next ones of the host
abbrev pub MixedActsAreNext : Type 0
MixedActsAreNext = next_host_acts block_of_mixed_lines_setup [] (events_after 0 [] block_of_mixed_lines_steps) 0 ≡ mixed_acts
