-- 'Eviction needs two credits', at host 0: a MemClnEvct and a MemRd need two Req credits: with one left the answer is NoCredit. Lists of steps are oldest first.
use Rattle.std.specs.Prelude.{List, [], ◌∷◌, ◌≡◌}
use Rattle.cxl_message.specs.declared.channels.Channel.{Channel}
use Rattle.cxl_message.specs.Setup.{Configuration}
use Rattle.coherence_model.specs.Refusals.{Answer, host_answer}
use Rattle.worked_agents.specs.Steps.{Step, answered, commits, quiet, sends, sends_two, step}
use Rattle.worked_runs.specs.Vocabulary.{begin, clean_evict, cmp_e, credit, load, mem_data, read_shared, setup_of, take, zeros}

-- its setup
abbrev pub eviction_needs_two_credits_setup : Configuration
eviction_needs_two_credits_setup = setup_of 1 4 4 1 4 2 (0 ∷ 0 ∷ [])

-- its steps
abbrev pub eviction_needs_two_credits_steps : List Step
eviction_needs_two_credits_steps =
    step (begin 0 0 (load 0)) (sends 0 (read_shared 0 0))
    ∷ step (take 0 (cmp_e 0)) quiet
    ∷ step (take 0 (mem_data 0 zeros)) (commits 0 0 (load 0) zeros)
    ∷ step (begin 1 0 (load 1)) (Answer.NoCredit Channel.Req)
    ∷ step (take 0 (credit Channel.Req)) quiet
    ∷ step (begin 1 0 (load 1)) (sends_two 0 (clean_evict 0 0) (read_shared 1 1))
    ∷ []

-- host 0 gives these answers
abbrev pub EvictionNeedsTwoCreditsIsAnswered : Type 0
EvictionNeedsTwoCreditsIsAnswered = answered 0 (host_answer eviction_needs_two_credits_setup 0) [] eviction_needs_two_credits_steps ≡ eviction_needs_two_credits_steps
