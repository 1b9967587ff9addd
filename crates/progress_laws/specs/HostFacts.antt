-- Facts of every run on what a host has open, by which nothing that is pending waits for ever.
use Rattle.std.specs.Prelude.{IsTrue, List, None, Some, true, ℕ, ◌≡◌, ◌⊎◌}
use Rattle.std.specs.List.{list_any}
use Rattle.cxl_message.specs.declared.channels.Channel.{Channel}
use Rattle.cxl_message.specs.declared.events.Event.{Event}
use Rattle.cxl_message.specs.declared.messages.Message.{Message}
use Rattle.cxl_message.specs.declared.opcodes.NdrOp.{NdrOp}
use Rattle.cxl_message.specs.Messages.{message_eq}
use Rattle.coherence_model.specs.Flight.{in_flight}
use Rattle.coherence_model.specs.HostActs.{may_conflict}
use Rattle.coherence_model.specs.OwnRuns.{ForEachHostRun}
use Rattle.coherence_model.specs.Snoops.{is_snooped}
use Rattle.coherence_model.specs.Stages.{Stage, stage, was_completed}
use Rattle.coherence_model.specs.Tags.{is_conflict_open}
use Rattle.coherence_model.specs.Traces.{events_of}
use Rattle.coherence_model.specs.Transactions.{Kind, Transaction, is_read, open_at}
use Rattle.progress_laws.specs.Laws.{ForEachHost}

-- what is open with the tag of a Cmp-S in flight is a MemRd Shared
abbrev pub SharedGrantsMeetReads : Type 0
SharedGrantsMeetReads =
    ForEachHost (λ setup opening t h. (a : ℕ) (o : Transaction) → open_at a (events_of h t) ≡ Some o
    → IsTrue (list_any (message_eq (Message.Ndr NdrOp.CmpS (record { 0 = o.tag }))) (in_flight h Channel.Ndr t)) → o.kind ≡ Kind.ReadShared)

-- what is open with the tag of an open conflict is no MemWr
abbrev pub ConflictTagsOpenNoWrite : Type 0
ConflictTagsOpenNoWrite =
    ForEachHostRun (λ setup h mine. (a : ℕ) (o : Transaction) → open_at a mine ≡ Some o → is_conflict_open o.tag mine ≡ true → may_conflict o.kind ≡ true)

-- what is open wasn't granted, or is a read without its MemData
abbrev pub OpenLinesWait : Type 0
OpenLinesWait = (mine : List Event) (a : ℕ) (o : Transaction) → open_at a mine ≡ Some o → (o.grant ≡ None) ⊎ ((is_read o.kind ≡ true) × (o.bytes ≡ None))

-- a snooped line at stage Late has no request that wasn't granted
abbrev pub LateLinesWereCompleted : Type 0
LateLinesWereCompleted =
    ForEachHostRun (λ setup h mine. (a : ℕ) → is_snooped a mine ≡ true → stage setup a mine ≡ Stage.Late → was_completed (open_at a mine) ≡ true)
