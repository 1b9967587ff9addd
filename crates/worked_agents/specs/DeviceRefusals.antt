-- 'Device refusals', at the device: a third request while two Req credits are owed breaks V1; a grant without a credit for NDR is NoCredit. Lists of steps are oldest first.
use Rattle.std.specs.Prelude.{List, [], ◌∷◌, ◌≡◌}
use Rattle.cxl_message.specs.declared.channels.Channel.{Channel}
use Rattle.cxl_message.specs.declared.states.RuleNo.{RuleNo}
use Rattle.cxl_message.specs.Setup.{Configuration}
use Rattle.coherence_model.specs.Refusals.{Answer, device_answer}
use Rattle.coherence_model.specs.Traces.{device}
use Rattle.worked_agents.specs.Steps.{Step, answered, quiet, sends, sends_two, step}
use Rattle.worked_runs.specs.Vocabulary.{cmp_e, credit, finish, give_back_to, mem_data, read_shared, setup_of, start, take, zeros}

-- its setup
abbrev pub device_refusals_setup : Configuration
device_refusals_setup = setup_of 1 4 4 4 4 2 []

-- its steps
abbrev pub device_refusals_steps : List Step
device_refusals_steps =
    step (take 0 (read_shared 0 0)) quiet
    ∷ step (start 0 0) quiet
    ∷ step (finish 0) (sends_two 0 (cmp_e 0) (mem_data 0 zeros))
    ∷ step (take 0 (read_shared 1 1)) quiet
    ∷ step (start 0 1) quiet
    ∷ step (finish 1) (sends_two 0 (cmp_e 1) (mem_data 1 zeros))
    ∷ step (take 0 (read_shared 2 2)) (Answer.Broken RuleNo.V1)
    ∷ step (give_back_to 0 Channel.Req) (sends 0 (credit Channel.Req))
    ∷ step (take 0 (read_shared 2 2)) quiet
    ∷ step (start 0 2) quiet
    ∷ step (finish 2) (Answer.NoCredit Channel.Ndr)
    ∷ []

-- the device gives these answers
abbrev pub DeviceRefusalsIsAnswered : Type 0
DeviceRefusalsIsAnswered = answered device (device_answer device_refusals_setup []) [] device_refusals_steps ≡ device_refusals_steps
