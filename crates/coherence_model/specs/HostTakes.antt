-- The rows H3 to H6 of a host: what a taken message commits after the host's own events, newest first. None where the row's condition fails.
use Rattle.std.specs.Prelude.{Bool, List, None, Option, Some, false, if◌then◌else◌, is_none, not, true, ℕ, ◌&&◌, ◌==◌}
use Rattle.std.specs.List.{list_all}
use Rattle.cxl_message.specs.declared.channels.Channel.{Channel}
use Rattle.cxl_message.specs.declared.events.Event.{Event}
use Rattle.cxl_message.specs.declared.identifiers.Bytes64.{Bytes64}
use Rattle.cxl_message.specs.declared.messages.Message.{Message}
use Rattle.cxl_message.specs.declared.opcodes.NdrOp.{NdrOp}
use Rattle.cxl_message.specs.declared.opcodes.Span.{Span}
use Rattle.cxl_message.specs.Opening.{zero_bytes}
use Rattle.cxl_message.specs.Setup.{Configuration}
use Rattle.cxl_message.specs.Spans.{lines_of}
use Rattle.coherence_model.specs.Credits.{lacks_credit}
use Rattle.coherence_model.specs.Emission.{Emission, nothing, one_commit}
use Rattle.cxl_message.specs.Stores.{line_after}
use Rattle.coherence_model.specs.Snoops.{is_snooped}
use Rattle.coherence_model.specs.Tags.{is_conflict_open, open_with}
use Rattle.coherence_model.specs.Transactions.{Kind, Transaction, is_read, is_request}
use Rattle.coherence_model.specs.Words.{when}
use Rattle.coherence_model.specs.WriteBacks.{is_write_back_open}

-- a fill with a line's bytes performs the waiting operation (own rule)
abbrev pub fill_emission : Transaction → Bytes64 → Emission
fill_emission o bytes = one_commit o.stream o.index o.op (line_after o.op bytes)

-- H3, Cmp: it ends the eviction that is open with its tag, or the write-back (CXL 3.1, ch. 3: Cmp; own rule: the write-back tag)
abbrev pub h3_completion : Bool → Option Transaction → Option Emission
h3_completion written_back None = when written_back nothing
h3_completion written_back (Some o) = when (not (is_request o.kind)) nothing

-- whether a grant may answer what is open: Cmp-S a shared read alone, Cmp-E each request (CXL 3.1, ch. 3: Cmp-S and Cmp-E)
abbrev pub may_grant : NdrOp → Kind → Bool
may_grant NdrOp.Cmp kind = false
may_grant NdrOp.CmpS Kind.ReadShared = true
may_grant NdrOp.CmpS Kind.ReadAny = false
may_grant NdrOp.CmpS Kind.Invalidate = false
may_grant NdrOp.CmpS Kind.CleanEviction = false
may_grant NdrOp.CmpS Kind.DirtyEviction = false
may_grant NdrOp.CmpE kind = is_request kind
may_grant NdrOp.ConflictAck kind = false

-- what a grant performs: a read whose MemData was taken fills with it, a MemInv fills with its own bytes alone (own rule)
abbrev pub grant_emission : Transaction → Option Bytes64 → Emission
grant_emission o None = if is_read o.kind then nothing else fill_emission o zero_bytes
grant_emission o (Some bytes) = fill_emission o bytes

-- H3, Cmp-S and Cmp-E: a request with that tag is open and wasn't granted (CXL 3.1, ch. 3: Cmp-S and Cmp-E)
abbrev pub h3_grant : NdrOp → Option Transaction → Option Emission
h3_grant c None = None
h3_grant c (Some o) = when (may_grant c o.kind && is_none o.grant) (grant_emission o o.bytes)

-- what MemData performs: it fills where the grant was taken (own rule)
abbrev pub data_emission : Transaction → Bytes64 → Emission
data_emission o bytes = if is_none o.grant then nothing else fill_emission o bytes

-- H3, MemData: a MemRd with that tag is open and had none (CXL 3.1, ch. 3: MemData)
abbrev pub h3_data : Bytes64 → Option Transaction → Option Emission
h3_data bytes None = None
h3_data bytes (Some o) = when (is_read o.kind && is_none o.bytes) (data_emission o bytes)

-- H4: a snoop is taken where no line of its span is Snooped (own rule)
abbrev pub h4_snoop : ℕ → Span → List Event → Option Emission
h4_snoop first span mine = when (list_all (λ a. not (is_snooped a mine)) (lines_of first span)) nothing

-- H5: a BI-ConflictAck is taken where some line is Asked with its tag (CXL 3.1, ch. 3: the conflict handshake)
abbrev pub h5_conflict_ack : ℕ → List Event → Option Emission
h5_conflict_ack tag mine = when (is_conflict_open tag mine) nothing

-- H6: a Credit is taken where one is missing (own rule)
abbrev pub h6_credit : Configuration → ℕ → Channel → List Event → Option Emission
h6_credit setup h c mine = when (lacks_credit setup h c mine) nothing

-- whether a tag is the write-back tag, and in use (own rule)
abbrev pub is_write_back_tag : Configuration → ℕ → List Event → Bool
is_write_back_tag setup tag mine = (tag == setup.tags) && is_write_back_open setup mine

-- H3 and H5: what a taken NDR message brings (own rule)
abbrev pub host_takes_ndr : Configuration → NdrOp → ℕ → List Event → Option Emission
host_takes_ndr setup NdrOp.Cmp tag mine = h3_completion (is_write_back_tag setup tag mine) (open_with tag mine)
host_takes_ndr setup NdrOp.CmpS tag mine = h3_grant NdrOp.CmpS (open_with tag mine)
host_takes_ndr setup NdrOp.CmpE tag mine = h3_grant NdrOp.CmpE (open_with tag mine)
host_takes_ndr setup NdrOp.ConflictAck tag mine = h5_conflict_ack tag mine

-- H3 to H6: what a taken message brings; those that go to the device are taken by no host (own rule)
abbrev pub host_takes : Configuration → ℕ → Message → List Event → Option Emission
host_takes setup h (Message.Req _ _ _ _ _) mine = None
host_takes setup h (Message.MemWr _ _ _ _ _) mine = None
host_takes setup h (Message.BiConflict _) mine = None
host_takes setup h (Message.BiRsp _ _ _) mine = None
host_takes setup h (Message.Ndr op tag) mine = host_takes_ndr setup op tag.0 mine
host_takes setup h (Message.MemData tag bytes) mine = h3_data bytes (open_with tag.0 mine)
host_takes setup h (Message.BiSnp _ _ line span) mine = h4_snoop line.0 span mine
host_takes setup h (Message.Credit c) mine = h6_credit setup h c mine
