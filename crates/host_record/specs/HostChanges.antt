-- What an event of a host does to what is kept of it, by its cause and by what it sends and commits: nothing is decided anew but the line whose shared copy is dropped, which no message names. All of it is an own rule.
use Rattle.std.specs.Prelude.{Bool, List, None, Option, Some, [], false, filter, if◌then◌else◌, is_some, length, not, option_map, slice_set, true, unwrap_or, ℕ, ◌++◌, ◌+◌, ◌-◌, ◌==◌, ◌∷◌}
use Rattle.std.specs.Option.{option_map_or}
use Rattle.cxl_message.specs.declared.channels.Channel.{Channel}
use Rattle.cxl_message.specs.declared.events.Act.{Act}
use Rattle.cxl_message.specs.declared.events.Cause.{Cause}
use Rattle.cxl_message.specs.declared.events.Commit.{Commit}
use Rattle.cxl_message.specs.declared.events.Event.{Event}
use Rattle.cxl_message.specs.declared.events.Op.{Op}
use Rattle.cxl_message.specs.declared.events.Sends.{Sends}
use Rattle.cxl_message.specs.declared.messages.Message.{Message}
use Rattle.cxl_message.specs.declared.opcodes.NdrOp.{NdrOp}
use Rattle.cxl_message.specs.declared.states.CopyState.{CopyState}
use Rattle.cxl_message.specs.Events.{line_of}
use Rattle.cxl_message.specs.Lists.{is_in}
use Rattle.cxl_message.specs.Messages.{line_in}
use Rattle.cxl_message.specs.Setup.{Configuration}
use Rattle.cxl_message.specs.Spans.{lines_of}
use Rattle.coherence_model.specs.Copies.{Copy, granted_state, keeps_shared, modified, no_copy, shared}
use Rattle.coherence_model.specs.Snoops.{Snoop, is_whole_block, snoop_of, snoops_after_answer}
use Rattle.coherence_model.specs.Stages.{Stage, conflict_end}
use Rattle.coherence_model.specs.Transactions.{Kind, Transaction, is_request, opened, request_kind}
use Rattle.coherence_model.specs.Words.{with_last}
use Rattle.host_record.specs.HostRecord.{HostRecord, StreamPlace, open_in, stream_in, view_in}
use Rattle.host_record.specs.Tables.{lookup, set_all, set_at}
use Rattle.host_record.specs.ViewRows.{block_at, lacks_room, snoop_of_line, victim}
use Rattle.host_record.specs.Ways.{Way, add_way, copy_in, drop_way_of, give_up, put_way}

-- whether a request is open for a line
abbrev pub wants_way : HostRecord → ℕ → Bool
wants_way k a = option_map_or (λ o. is_request o.kind) (open_in k a) false

-- the ways after a write-back or an answer for line a: a shared copy stays where the message says so
abbrev pub respond : ℕ → Sends → HostRecord → List Way
respond a Sends.Nothing k = k.ways
respond a (Sends.One o) k = if keeps_shared o.message then put_way a (shared (copy_in k.ways a)) k.ways else give_up a (wants_way k a) k.ways
respond a (Sends.Two _ _) k = k.ways

-- streams

-- the streams after stream s began an operation
abbrev pub stream_begins : ℕ → Bool → List StreamPlace → List StreamPlace
stream_begins s waits streams = slice_set streams s (record { begun = (stream_in streams s).begun + 1; waits = waits })

-- the streams after stream s has its commit
abbrev pub stream_ends : ℕ → List StreamPlace → List StreamPlace
stream_ends s streams = slice_set streams s (record { begun = (stream_in streams s).begun; waits = false })

-- what is open

-- a request or an eviction that a message opens: its line, its tag and what stands open
pub record Opened : Type 0 where
  pub line : ℕ
  pub tag : ℕ
  pub what : Transaction

-- what a message of an operation opens
abbrev pub opened_by : ℕ → ℕ → Op → Message → Option Opened
opened_by s i op (Message.Req request meta _ tag line) = Some (record { line = line.0; tag = tag.0; what = opened s i op (request_kind request meta) tag.0 })
opened_by s i op (Message.MemWr _ _ tag line _) = Some (record { line = line.0; tag = tag.0; what = opened s i op Kind.DirtyEviction tag.0 })
opened_by s i op (Message.BiConflict _) = None
opened_by s i op (Message.BiRsp _ _ _) = None
opened_by s i op (Message.Ndr _ _) = None
opened_by s i op (Message.MemData _ _) = None
opened_by s i op (Message.BiSnp _ _ _ _) = None
opened_by s i op (Message.Credit _) = None

-- the record with a request or eviction opened
abbrev pub with_opened : Option Opened → HostRecord → HostRecord
with_opened None k = k
with_opened (Some x) k =
    record k {
      opened = slice_set k.opened x.tag (Some x.what);
      tag_lines = slice_set k.tag_lines x.tag (Some x.line);
      line_tags = slice_set k.line_tags x.line (Some x.tag);
      busy = slice_set k.busy x.line true;
    }

-- the record with what is open with a tag changed
abbrev pub with_marked : ℕ → (Transaction → Transaction) → HostRecord → HostRecord
with_marked tag mark k = record k { opened = slice_set k.opened tag (option_map mark (lookup k.opened tag)) }

-- the record with what is open with a tag finished: its line stays busy where it is Snooped
abbrev pub with_finished : ℕ → HostRecord → HostRecord
with_finished tag k =
    let line = lookup k.tag_lines tag in
    record k {
      opened = slice_set k.opened tag None;
      line_tags = set_at line None k.line_tags;
      busy = set_at line (option_map_or (λ a. is_some (snoop_of_line k.snoops a)) line false) k.busy;
    }

-- credits

-- the credits left after a message was sent
abbrev pub pay : Message → HostRecord → HostRecord
pay (Message.Req _ _ _ _ _) k = record k { req_left = k.req_left - 1 }
pay (Message.MemWr _ _ _ _ _) k = record k { rwd_left = k.rwd_left - 1 }
pay (Message.BiConflict _) k = record k { rwd_left = k.rwd_left - 1 }
pay (Message.BiRsp _ _ _) k = record k { bi_rsp_left = k.bi_rsp_left - 1 }
pay (Message.Ndr _ _) k = k
pay (Message.MemData _ _) k = k
pay (Message.BiSnp _ _ _ _) k = k
pay (Message.Credit _) k = k

-- the credits left after what was sent
abbrev pub pay_all : Sends → HostRecord → HostRecord
pay_all Sends.Nothing k = k
pay_all (Sends.One o) k = pay o.message k
pay_all (Sends.Two o p) k = pay p.message (pay o.message k)

-- the credits left after a Credit was taken
abbrev pub earn : Channel → HostRecord → HostRecord
earn Channel.Req k = record k { req_left = k.req_left + 1 }
earn Channel.Rwd k = record k { rwd_left = k.rwd_left + 1 }
earn Channel.BiRsp k = record k { bi_rsp_left = k.bi_rsp_left + 1 }
earn Channel.Ndr k = k
earn Channel.Drs k = k
earn Channel.BiSnp k = k
earn Channel.CreditUp k = k
earn Channel.CreditDown k = k

-- the credits owed after one was given back
abbrev pub repay : Channel → HostRecord → HostRecord
repay Channel.Req k = k
repay Channel.Rwd k = k
repay Channel.BiRsp k = k
repay Channel.Ndr k = record k { ndr_owed = k.ndr_owed - 1 }
repay Channel.Drs k = record k { drs_owed = k.drs_owed - 1 }
repay Channel.BiSnp k = record k { bi_snp_owed = k.bi_snp_owed - 1 }
repay Channel.CreditUp k = k
repay Channel.CreditDown k = k

-- operations

-- the ways after an operation that hit
abbrev pub ways_after_hit : Op → Option Commit → List Way → List Way
ways_after_hit (Op.Load _) commit ways = ways
ways_after_hit (Op.Word line _ _) commit ways = option_map_or (λ c. put_way line.0 (modified c.value) ways) commit ways
ways_after_hit (Op.Whole line _) commit ways = option_map_or (λ c. put_way line.0 (modified c.value) ways) commit ways

-- the line whose shared copy a lone request drops: the first idle way, where its own line has none and none is free
abbrev pub dropped_by : Configuration → ℕ → HostRecord → Option ℕ
dropped_by setup a k = if lacks_room setup (view_in k) a then victim (view_in k) else None

-- the record after an operation, by what it sends
abbrev pub operated : Configuration → ℕ → ℕ → Op → Sends → Option Commit → HostRecord → HostRecord
operated setup s i op Sends.Nothing commit k = record k { ways = ways_after_hit op commit k.ways; streams = stream_begins s false k.streams }
operated setup s i op (Sends.One o) commit k =
    pay o.message
    (with_opened (opened_by s i op o.message)
    (record k { ways = add_way (line_of op) (drop_way_of (dropped_by setup (line_of op) k) k.ways); streams = stream_begins s true k.streams }))
operated setup s i op (Sends.Two o p) commit k =
    pay p.message
    (pay o.message
    (with_opened (opened_by s i op p.message)
    (with_opened (opened_by s i op o.message)
    (record k { ways = add_way (line_of op) (drop_way_of (line_in o.message) k.ways); streams = stream_begins s true k.streams }))))

-- takes

-- the copy that a fill leaves: as it was granted for a Load, M for a store
abbrev pub filled_by : Option NdrOp → Commit → Op → Copy
filled_by grant c (Op.Load _) = record { state = option_map_or granted_state grant CopyState.E; bytes = c.value }
filled_by grant c (Op.Word _ _ _) = modified c.value
filled_by grant c (Op.Whole _ _) = modified c.value

-- the record after an answer with a tag: it fills, and what is open is finished, or it is marked
abbrev pub answered : ℕ → Option NdrOp → (Transaction → Transaction) → Option Commit → HostRecord → HostRecord
answered tag grant mark None k = with_marked tag mark k
answered tag grant mark (Some c) k =
    with_finished tag (record k { ways = put_way (line_of c.op) (filled_by grant c c.op) k.ways; streams = stream_ends c.stream k.streams })

-- one more NDR message is owed, one more DRS message
abbrev pub owing_ndr : HostRecord → HostRecord
owing_ndr k = record k { ndr_owed = k.ndr_owed + 1 }

abbrev pub owing_drs : HostRecord → HostRecord
owing_drs k = record k { drs_owed = k.drs_owed + 1 }

-- the record after the Cmp with a tag: of the write-back or of an eviction
abbrev pub completed : Configuration → ℕ → HostRecord → HostRecord
completed setup tag k =
    if tag == setup.tags then record k { stages = set_at k.writing Stage.Written k.stages; writing = None } else with_finished tag k

-- the record after the BI-ConflictAck with a tag: the conflict of its line ended early or late
abbrev pub acknowledged : ℕ → HostRecord → HostRecord
acknowledged tag k =
    let line = lookup k.tag_lines tag in
    record k {
      conflicts = slice_set k.conflicts tag false;
      stages = set_at line (option_map_or (λ a. conflict_end (open_in k a)) line Stage.New) k.stages;
    }

-- the record after an NDR message
abbrev pub took_ndr : Configuration → NdrOp → ℕ → Option Commit → HostRecord → HostRecord
took_ndr setup NdrOp.Cmp tag commit k = completed setup tag k
took_ndr setup NdrOp.CmpS tag commit k = answered tag (Some NdrOp.CmpS) (λ o. record o { grant = Some NdrOp.CmpS }) commit k
took_ndr setup NdrOp.CmpE tag commit k = answered tag (Some NdrOp.CmpE) (λ o. record o { grant = Some NdrOp.CmpE }) commit k
took_ndr setup NdrOp.ConflictAck tag commit k = acknowledged tag k

-- the grant that was taken for what is open with a tag
abbrev pub grant_in : ℕ → HostRecord → Option NdrOp
grant_in tag k = option_map_or (λ o. o.grant) (lookup k.opened tag) None

-- the record after a snoop was taken: its lines are Snooped, stage New
abbrev pub snooped : Option Snoop → List ℕ → HostRecord → HostRecord
snooped s lines k = record k { snoops = with_last s k.snoops; stages = set_all lines Stage.New k.stages; busy = set_all lines true k.busy }

-- the record after a message was taken
abbrev pub took : Configuration → Message → Option Commit → HostRecord → HostRecord
took setup (Message.Req _ _ _ _ _) commit k = k
took setup (Message.MemWr _ _ _ _ _) commit k = k
took setup (Message.BiConflict _) commit k = k
took setup (Message.BiRsp _ _ _) commit k = k
took setup (Message.Ndr op tag) commit k = owing_ndr (took_ndr setup op tag.0 commit k)
took setup (Message.MemData tag bytes) commit k = owing_drs (answered tag.0 (grant_in tag.0 k) (λ o. record o { bytes = Some bytes }) commit k)
took setup (Message.BiSnp op bitag line span) commit k = snooped (snoop_of (Message.BiSnp op bitag line span)) (lines_of line.0 span) k
took setup (Message.Credit c) commit k = earn c k

-- acts

-- the buffered snoops after an answer; the credit of a snoop without a line left is owed
abbrev pub answering : List Snoop → HostRecord → HostRecord
answering left k = record k { snoops = left; bi_snp_owed = k.bi_snp_owed + (length k.snoops - length left) }

-- the lines of a buffered block with this first line
abbrev pub block_lines : ℕ → HostRecord → List ℕ
block_lines a k = option_map_or (λ s. s.unanswered) (block_at k.snoops a) []

-- the record after Conflict of line a
abbrev pub conflicted : ℕ → HostRecord → HostRecord
conflicted a k =
    let tag = unwrap_or (lookup k.line_tags a) 0 in
    record k { stages = slice_set k.stages a (Stage.Asked tag); conflicts = slice_set k.conflicts tag true }

-- the record after WriteBack of line a
abbrev pub wrote_back : ℕ → Sends → HostRecord → HostRecord
wrote_back a sends k = record k { stages = slice_set k.stages a Stage.Writing; writing = Some a; ways = respond a sends k }

-- the record after the answer for line a: it is busy while it is Open
abbrev pub answered_line : ℕ → Sends → HostRecord → HostRecord
answered_line a sends k =
    answering (snoops_after_answer a k.snoops) (record k { ways = respond a sends k; busy = slice_set k.busy a (is_some (lookup k.line_tags a)) })

-- the record after the answer for a block
abbrev pub answered_block : ℕ → HostRecord → HostRecord
answered_block a k =
    answering (filter (λ s. not (is_whole_block a s)) k.snoops)
    (record k { ways = filter (λ w. not (is_in w.line (block_lines a k))) k.ways; busy = set_all (block_lines a k) false k.busy })

-- the record after an act
abbrev pub acted : Act → Sends → HostRecord → HostRecord
acted (Act.Conflict line) sends k = pay_all sends (conflicted line.0 k)
acted (Act.WriteBack line) sends k = pay_all sends (wrote_back line.0 sends k)
acted (Act.Answer line) sends k = pay_all sends (answered_line line.0 sends k)
acted (Act.AnswerBlock line) sends k = pay_all sends (answered_block line.0 k)
acted (Act.HostReturn c) sends k = repay c k
acted (Act.Serve _ _) sends k = k
acted (Act.Clean _ _) sends k = k
acted (Act.Start _ _) sends k = k
acted (Act.Evict _ _) sends k = k
acted (Act.Snoop _ _) sends k = k
acted (Act.Finish _) sends k = k
acted (Act.DeviceReturn _ _) sends k = k

-- the record after an event
abbrev pub after_parts : Configuration → Cause → Sends → Option Commit → HostRecord → HostRecord
after_parts setup (Cause.Op s i op) sends commit k = operated setup s i op sends commit k
after_parts setup (Cause.Take _ m) sends commit k = took setup m commit k
after_parts setup (Cause.Act act) sends commit k = acted act sends k

abbrev pub host_after : Configuration → Event → HostRecord → HostRecord
host_after setup e k = after_parts setup e.cause e.sends e.commit k
