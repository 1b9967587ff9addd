-- After every run each line of a snoop that has no answer taken is in exactly one place, and nothing else is Snooped or under way on the snoop channels.
use Rattle.std.specs.Prelude.{Bool, List, count_by, false, is_some, nat_le, ℕ, ◌&&◌, ◌+◌, ◌==◌}
use Rattle.std.specs.List.{list_all}
use Rattle.std.specs.Option.{option_map_or}
use Rattle.cxl_message.specs.declared.channels.Channel.{Channel}
use Rattle.cxl_message.specs.declared.events.Event.{Event}
use Rattle.cxl_message.specs.declared.messages.Message.{Message}
use Rattle.cxl_message.specs.declared.opcodes.RspOp.{RspOp}
use Rattle.cxl_message.specs.Lists.{below, is_in}
use Rattle.cxl_message.specs.Setup.{Configuration}
use Rattle.cxl_message.specs.Spans.{covers}
use Rattle.coherence_model.specs.DirectoryChanges.{answered_lines, directory}
use Rattle.coherence_model.specs.Flight.{in_flight}
use Rattle.coherence_model.specs.SentSnoops.{is_asked, unanswered_lines}
use Rattle.coherence_model.specs.Snoops.{is_snooped, snoop_of}
use Rattle.coherence_model.specs.Traces.{device, events_of}
use Rattle.coherence_model.specs.Words.{implies, one_if}

-- whether a message is a snoop of line a (CXL 3.1, ch. 3: the messages)
abbrev pub snoops_line : ℕ → Message → Bool
snoops_line a m = option_map_or (λ s. covers s.first s.span a) (snoop_of m) false

-- whether an answer of host h for line b, to the snoop with this first line, is one for line a: a block's answer is for all lines that are left (CXL 3.1, ch. 3: BIRspIBlk)
abbrev pub answers_line_by : RspOp → ℕ → ℕ → ℕ → ℕ → List Event → Bool
answers_line_by op h first b a mine = is_in a (answered_lines op h first b mine)

-- whether a message of host h is an answer for line a, by the device's own events (CXL 3.1, ch. 3: the messages)
abbrev pub answers_line : ℕ → ℕ → List Event → Message → Bool
answers_line h a mine (Message.Req _ _ _ _ _) = false
answers_line h a mine (Message.MemWr _ _ _ _ _) = false
answers_line h a mine (Message.BiConflict _) = false
answers_line h a mine (Message.BiRsp op bitag low) = answers_line_by op h bitag.0 (bitag.0 + low) a mine
answers_line h a mine (Message.Ndr _ _) = false
answers_line h a mine (Message.MemData _ _) = false
answers_line h a mine (Message.BiSnp _ _ _ _) = false
answers_line h a mine (Message.Credit _) = false

-- whether a message of host h answers a snoop by which it is Asked (own rule)
abbrev pub answers_snoop : ℕ → List Event → Message → Bool
answers_snoop h mine (Message.Req _ _ _ _ _) = false
answers_snoop h mine (Message.MemWr _ _ _ _ _) = false
answers_snoop h mine (Message.BiConflict _) = false
answers_snoop h mine (Message.BiRsp _ bitag _) = is_asked h bitag.0 mine
answers_snoop h mine (Message.Ndr _ _) = false
answers_snoop h mine (Message.MemData _ _) = false
answers_snoop h mine (Message.BiSnp _ _ _ _) = false
answers_snoop h mine (Message.Credit _) = false

-- how many snoops that were sent to host h have line a without an answer taken (own rule)
abbrev pub unanswered_count : Configuration → ℕ → ℕ → List Event → ℕ
unanswered_count setup h a mine = count_by (λ first. is_in a (unanswered_lines h first mine)) (below setup.lines)

-- where line a of host h is on its way through a snoop: in a BISnp in flight, Snooped, or in a BIRsp in flight (own rule)
abbrev pub snoop_place_count : ℕ → ℕ → List Event → ℕ
snoop_place_count h a t =
    count_by (snoops_line a) (in_flight h Channel.BiSnp t) + one_if (is_snooped a (events_of h t))
    + count_by (answers_line h a (events_of device t)) (in_flight h Channel.BiRsp t)

-- line a of host h has at most one snoop, and is in one place where it has one (own rule)
abbrev pub snoop_is_placed : Configuration → List Event → ℕ → ℕ → Bool
snoop_is_placed setup t h a =
    (unanswered_count setup h a (events_of device t) == snoop_place_count h a t) && nat_le (snoop_place_count h a t) 1

-- a snoop with first line a that host h hasn't answered is one of a standing task (own rule)
abbrev pub snoop_has_task : Configuration → List Event → ℕ → ℕ → Bool
snoop_has_task setup t h a = implies (is_asked h a (events_of device t)) (is_some ((directory setup (events_of device t)).task a))

-- each answer of host h that is in flight answers a snoop (own rule)
abbrev pub answers_have_snoops : List Event → ℕ → Bool
answers_have_snoops t h = list_all (answers_snoop h (events_of device t)) (in_flight h Channel.BiRsp t)

-- each line of a snoop is in exactly one place, each snoop has its task, and each answer its snoop (own rule)
abbrev pub snoops_are_placed : Configuration → List Event → Bool
snoops_are_placed setup t =
    list_all (λ h. list_all (λ a. snoop_is_placed setup t h a && snoop_has_task setup t h a) (below setup.lines) && answers_have_snoops t h) (below setup.hosts)
