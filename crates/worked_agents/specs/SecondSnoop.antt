-- 'Second snoop', at host 0: a snoop of a line that is snooped breaks H4, until the line is answered. Lists of steps are oldest first.
use Rattle.std.specs.Prelude.{List, [], ◌∷◌, ◌≡◌}
use Rattle.cxl_message.specs.declared.opcodes.Span.{Span}
use Rattle.cxl_message.specs.declared.states.RuleNo.{RuleNo}
use Rattle.cxl_message.specs.Setup.{Configuration}
use Rattle.coherence_model.specs.Refusals.{Answer, host_answer}
use Rattle.worked_agents.specs.Steps.{Step, answered, quiet, sends, step}
use Rattle.worked_runs.specs.Vocabulary.{answer, rsp_invalid, setup_of, snp_inv, snp_inv_block, take}

-- its setup
abbrev pub second_snoop_setup : Configuration
second_snoop_setup = setup_of 1 4 4 4 2 4 (0 ∷ [])

-- its steps
abbrev pub second_snoop_steps : List Step
second_snoop_steps =
    step (take 0 (snp_inv 1)) quiet
    ∷ step (take 0 (snp_inv 1)) (Answer.Broken RuleNo.H4)
    ∷ step (take 0 (snp_inv_block 0 Span.Two)) (Answer.Broken RuleNo.H4)
    ∷ step (answer 1) (sends 0 (rsp_invalid 1 0))
    ∷ step (take 0 (snp_inv_block 0 Span.Two)) quiet
    ∷ []

-- host 0 gives these answers
abbrev pub SecondSnoopIsAnswered : Type 0
SecondSnoopIsAnswered = answered 0 (host_answer second_snoop_setup 0) [] second_snoop_steps ≡ second_snoop_steps
