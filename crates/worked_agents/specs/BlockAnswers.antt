-- 'Block answers', at the device: the lines of a block are answered one by one, and then neither the whole block nor a line again; a host is not asked twice. Lists of steps are oldest first.
use Rattle.std.specs.Prelude.{List, [], ◌∷◌, ◌≡◌}
use Rattle.cxl_message.specs.declared.opcodes.Span.{Span}
use Rattle.cxl_message.specs.declared.states.RuleNo.{RuleNo}
use Rattle.cxl_message.specs.Setup.{Configuration}
use Rattle.coherence_model.specs.Refusals.{Answer, device_answer}
use Rattle.coherence_model.specs.Traces.{device}
use Rattle.worked_agents.specs.Steps.{Step, answered, quiet, sends, sends_two, step}
use Rattle.worked_runs.specs.Vocabulary.{cmp_e, evict, finish, mem_data, read_shared, rsp_invalid, rsp_invalid_block, rsp_shared, setup_of, snoop, snp_inv_block, start, take, zeros}

-- its setup
abbrev pub block_answers_setup : Configuration
block_answers_setup = setup_of 1 3 2 3 4 4 []

-- its steps
abbrev pub block_answers_steps : List Step
block_answers_steps =
    step (take 0 (read_shared 0 0)) quiet
    ∷ step (start 0 0) quiet
    ∷ step (finish 0) (sends_two 0 (cmp_e 0) (mem_data 0 zeros))
    ∷ step (take 0 (read_shared 1 1)) quiet
    ∷ step (start 0 1) quiet
    ∷ step (finish 1) (sends_two 0 (cmp_e 1) (mem_data 1 zeros))
    ∷ step (take 0 (read_shared 2 2)) quiet
    ∷ step (evict 0 2) quiet
    ∷ step (snoop 0 0) (sends 0 (snp_inv_block 0 Span.Two))
    ∷ step (snoop 0 0) (Answer.Broken RuleNo.V7)
    ∷ step (take 0 (rsp_shared 0 0)) (Answer.Broken RuleNo.V2)
    ∷ step (take 0 (rsp_invalid 0 1)) quiet
    ∷ step (take 0 (rsp_invalid_block 0)) (Answer.Broken RuleNo.V2)
    ∷ step (take 0 (rsp_invalid 0 1)) (Answer.Broken RuleNo.V2)
    ∷ step (finish 0) (Answer.Broken RuleNo.V8)
    ∷ step (take 0 (rsp_invalid 0 0)) quiet
    ∷ step (finish 0) quiet
    ∷ step (start 0 2) quiet
    ∷ []

-- the device gives these answers
abbrev pub BlockAnswersIsAnswered : Type 0
BlockAnswersIsAnswered = answered device (device_answer block_answers_setup []) [] block_answers_steps ≡ block_answers_steps
