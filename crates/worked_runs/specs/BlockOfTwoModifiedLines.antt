-- The worked trace 'Block of two modified lines': one host stores a word to two lines of a block under a filter of two entries, and then loads a third. Lists of events are oldest first.
use Rattle.std.specs.Prelude.{List, [], reverse, ◌++◌, ◌∷◌, ◌≡◌}
use Rattle.cxl_message.specs.declared.channels.Channel.{Channel}
use Rattle.cxl_message.specs.declared.events.Event.{Event}
use Rattle.cxl_message.specs.declared.opcodes.Span.{Span}
use Rattle.cxl_message.specs.Script.{ScriptValue}
use Rattle.cxl_message.specs.Setup.{Configuration}
use Rattle.coherence_model.specs.Driven.{driven_trace}
use Rattle.worked_runs.specs.Beginnings.{store_and_credits}
use Rattle.worked_runs.specs.Vocabulary.{answer, begin, cmp, cmp_e, credit, dev, dev_sends, dev_sends_two, evict, finish, give_back, give_back_to, host, host_commits, host_sends, load, mem_data, one_word, read_any, read_shared, rsp_invalid, script_of, serve, setup_of, snoop, snp_inv_block, start, take, word, write_back, write_invalid, zeros}

-- its setup
abbrev pub block_of_two_modified_lines_setup : Configuration
block_of_two_modified_lines_setup = setup_of 1 3 2 3 2 2 (0 ∷ [])

-- its script: one host stores a word to two lines of a block under a filter of two entries, and then loads a third
abbrev pub block_of_two_modified_lines_script : ScriptValue
block_of_two_modified_lines_script = script_of block_of_two_modified_lines_setup ((word 0 0 1 ∷ word 1 0 2 ∷ load 2 ∷ []) ∷ []) []

-- its events
abbrev pub block_of_two_modified_lines_events : List Event
block_of_two_modified_lines_events =
    store_and_credits
    ++ host_sends 0 (begin 0 1 (word 1 0 2)) (read_any 0 1)
    ∷ dev (take 0 (read_any 0 1))
    ∷ dev (start 0 0)
    ∷ dev_sends_two (finish 1) 0 (cmp_e 0) (mem_data 0 zeros)
    ∷ host 0 (take 0 (cmp_e 0))
    ∷ host_commits 0 (take 0 (mem_data 0 zeros)) 0 1 (word 1 0 2) (one_word 2)
    ∷ host_sends 0 (give_back Channel.Ndr) (credit Channel.Ndr)
    ∷ dev (take 0 (credit Channel.Ndr))
    ∷ host_sends 0 (give_back Channel.Drs) (credit Channel.Drs)
    ∷ dev (take 0 (credit Channel.Drs))
    ∷ dev_sends (give_back_to 0 Channel.Req) 0 (credit Channel.Req)
    ∷ host 0 (take 0 (credit Channel.Req))
    ∷ host_sends 0 (begin 0 2 (load 2)) (read_shared 0 2)
    ∷ dev (take 0 (read_shared 0 2))
    ∷ dev (evict 0 0)
    ∷ dev_sends (snoop 0 0) 0 (snp_inv_block 0 Span.Two)
    ∷ host 0 (take 0 (snp_inv_block 0 Span.Two))
    ∷ host_sends 0 (write_back 0) (write_invalid 2 0 (one_word 1))
    ∷ dev (take 0 (write_invalid 2 0 (one_word 1)))
    ∷ dev_sends (serve 0 2) 0 (cmp 2)
    ∷ host 0 (take 0 (cmp 2))
    ∷ host_sends 0 (answer 0) (rsp_invalid 0 0)
    ∷ dev (take 0 (rsp_invalid 0 0))
    ∷ host_sends 0 (write_back 1) (write_invalid 2 1 (one_word 2))
    ∷ dev (take 0 (write_invalid 2 1 (one_word 2)))
    ∷ host_sends 0 (give_back Channel.Ndr) (credit Channel.Ndr)
    ∷ dev (take 0 (credit Channel.Ndr))
    ∷ dev_sends (serve 0 2) 0 (cmp 2)
    ∷ host 0 (take 0 (cmp 2))
    ∷ host_sends 0 (answer 1) (rsp_invalid 0 1)
    ∷ dev (take 0 (rsp_invalid 0 1))
    ∷ host_sends 0 (give_back Channel.Ndr) (credit Channel.Ndr)
    ∷ dev (take 0 (credit Channel.Ndr))
    ∷ host_sends 0 (give_back Channel.BiSnp) (credit Channel.BiSnp)
    ∷ dev (take 0 (credit Channel.BiSnp))
    ∷ dev (finish 0)
    ∷ dev (start 0 0)
    ∷ dev_sends_two (finish 2) 0 (cmp_e 0) (mem_data 0 zeros)
    ∷ host 0 (take 0 (cmp_e 0))
    ∷ host_commits 0 (take 0 (mem_data 0 zeros)) 0 2 (load 2) zeros
    ∷ []

-- the driven trace of the script is this list of events
abbrev pub BlockOfTwoModifiedLinesIsDriven : Type 0
BlockOfTwoModifiedLinesIsDriven = reverse (driven_trace block_of_two_modified_lines_script) ≡ block_of_two_modified_lines_events
