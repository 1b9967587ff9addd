-- 'Write to unlisted line', at the device: a MemWr Shared of a line without an entry changes memory and lists nobody; Finish without a task breaks V8. Lists of steps are oldest first.
use Rattle.std.specs.Prelude.{List, [], ◌∷◌, ◌≡◌}
use Rattle.cxl_message.specs.declared.events.Event.{Event}
use Rattle.cxl_message.specs.declared.states.Listing.{Listing}
use Rattle.cxl_message.specs.declared.states.RuleNo.{RuleNo}
use Rattle.cxl_message.specs.Setup.{Configuration}
use Rattle.coherence_model.specs.DirectoryChanges.{directory}
use Rattle.coherence_model.specs.Memory.{memory}
use Rattle.coherence_model.specs.Refusals.{Answer, device_answer}
use Rattle.coherence_model.specs.Traces.{device}
use Rattle.worked_agents.specs.Steps.{Step, answered, quiet, sends, sends_two, step}
use Rattle.worked_runs.specs.Vocabulary.{cmp, cmp_e, dev, dev_sends, filled, finish, mem_data, read_shared, serve, setup_of, start, take, write_shared}

-- its setup
abbrev pub write_to_unlisted_line_setup : Configuration
write_to_unlisted_line_setup = setup_of 1 4 4 4 4 2 []

-- its steps
abbrev pub write_to_unlisted_line_steps : List Step
write_to_unlisted_line_steps =
    step (take 0 (write_shared 0 3 (filled 0x07))) quiet
    ∷ step (serve 0 0) (sends 0 (cmp 0))
    ∷ step (finish 3) (Answer.Broken RuleNo.V8)
    ∷ step (take 0 (read_shared 1 3)) quiet
    ∷ step (start 0 1) quiet
    ∷ step (finish 3) (sends_two 0 (cmp_e 1) (mem_data 1 (filled 0x07)))
    ∷ []

-- the device gives these answers
abbrev pub WriteToUnlistedLineIsAnswered : Type 0
WriteToUnlistedLineIsAnswered = answered device (device_answer write_to_unlisted_line_setup []) [] write_to_unlisted_line_steps ≡ write_to_unlisted_line_steps

-- the events of the device after the write was served
abbrev pub served_write : List Event
served_write = dev_sends (serve 0 0) 0 (cmp 0) ∷ dev (take 0 (write_shared 0 3 (filled 0x07))) ∷ []

-- memory has the bytes of the write
abbrev pub WriteIsInMemory : Type 0
WriteIsInMemory = memory [] 3 served_write ≡ filled 0x07

-- the host is not listed for the line
abbrev pub WriterIsNotListed : Type 0
WriterIsNotListed = (directory write_to_unlisted_line_setup served_write).listed 3 0 ≡ Listing.I
