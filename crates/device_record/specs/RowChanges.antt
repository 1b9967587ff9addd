-- What an event of the device does to the rows of its filter, by its cause and by what it sends.
use Rattle.std.specs.Prelude.{List, None, Option, Some, [], option_and_then, ℕ, ◌+◌, ◌∷◌}
use Rattle.std.specs.Option.{option_map_or}
use Rattle.cxl_message.specs.declared.events.Act.{Act}
use Rattle.cxl_message.specs.declared.events.Cause.{Cause}
use Rattle.cxl_message.specs.declared.events.Sends.{Sends}
use Rattle.cxl_message.specs.declared.messages.Message.{Message}
use Rattle.cxl_message.specs.declared.opcodes.RspOp.{RspOp}
use Rattle.cxl_message.specs.declared.states.Listing.{Listing}
use Rattle.cxl_message.specs.Messages.{line_in}
use Rattle.cxl_message.specs.Setup.{Configuration}
use Rattle.cxl_message.specs.Spans.{lines_of}
use Rattle.coherence_model.specs.Buffers.{message_with}
use Rattle.coherence_model.specs.Copies.{ndr_op_of}
use Rattle.coherence_model.specs.DirectoryChanges.{granted_listing, listing_after_response, listing_after_write}
use Rattle.snoop_filter.specs.Changes.{rows_hold, rows_hold_all, rows_let_go, rows_set}
use Rattle.snoop_filter.specs.Rows.{FilterRow, has_row}
use Rattle.snoop_filter.specs.Victims.{victim_in}
use Rattle.device_record.specs.Record.{DeviceRecord, TaskRecord, WaitingRequest, left_at, request_with, requests_at, task_at, writes_at}
use Rattle.snoop_filter.specs.declared.blocks.Block.{Block}
use Rattle.snoop_filter.specs.Victims.{block_lines}

-- the line of a buffered request (own rule)
abbrev pub line_asked : WaitingRequest → Option ℕ
line_asked r = line_in r.message

-- the lines that an answer of host h for line a is for: an answer for the whole block is for all that are left (own rule)
abbrev pub lines_answered : RspOp → ℕ → ℕ → Option TaskRecord → List ℕ
lines_answered RspOp.I h a t = a ∷ []
lines_answered RspOp.S h a t = a ∷ []
lines_answered RspOp.E h a t = a ∷ []
lines_answered RspOp.IBlk h a t = option_map_or (left_at h) t []
lines_answered RspOp.SBlk h a t = option_map_or (left_at h) t []
lines_answered RspOp.EBlk h a t = option_map_or (left_at h) t []

-- the rows after the take of a message: an answer lists its host anew for the lines that it is for (own rule)
abbrev pub rows_after_take : ℕ → Message → DeviceRecord → List FilterRow
rows_after_take h (Message.Req _ _ _ _ _) k = k.filter.rows
rows_after_take h (Message.MemWr _ _ _ _ _) k = k.filter.rows
rows_after_take h (Message.BiConflict _) k = k.filter.rows
rows_after_take h (Message.BiRsp op bitag low) k =
    rows_set (lines_answered op h (bitag.0 + low) (task_at bitag.0 k.tasks)) h (listing_after_response op) k.filter.rows
rows_after_take h (Message.Ndr _ _) k = k.filter.rows
rows_after_take h (Message.MemData _ _) k = k.filter.rows
rows_after_take h (Message.BiSnp _ _ _ _) k = k.filter.rows
rows_after_take h (Message.Credit _) k = k.filter.rows

-- the rows after a message was served: a MemWr lists its host anew (own rule)
abbrev pub rows_written : ℕ → Message → List FilterRow → List FilterRow
rows_written h (Message.Req _ _ _ _ _) rows = rows
rows_written h (Message.MemWr meta _ _ line _) rows = rows_set (line.0 ∷ []) h (listing_after_write meta (has_row line.0 rows)) rows
rows_written h (Message.BiConflict _) rows = rows
rows_written h (Message.BiRsp _ _ _) rows = rows
rows_written h (Message.Ndr _ _) rows = rows
rows_written h (Message.MemData _ _) rows = rows
rows_written h (Message.BiSnp _ _ _ _) rows = rows
rows_written h (Message.Credit _) rows = rows

-- the same, if there is such a message (own rule)
abbrev pub rows_served : ℕ → Option Message → List FilterRow → List FilterRow
rows_served h None rows = rows
rows_served h (Some m) rows = rows_written h m rows

-- the rows after Clean of a request for some line: its host isn't listed any more (own rule)
abbrev pub rows_cleaned : ℕ → Option ℕ → List FilterRow → List FilterRow
rows_cleaned h None rows = rows
rows_cleaned h (Some a) rows = rows_set (a ∷ []) h Listing.I rows

-- the rows after Start of a request for some line, which is held (own rule)
abbrev pub rows_started : ℕ → Option ℕ → List FilterRow → List FilterRow
rows_started hosts None rows = rows
rows_started hosts (Some a) rows = rows_hold hosts a rows

-- the rows after Evict of some block, which is held (own rule)
abbrev pub rows_evicting : Option Block → List FilterRow → List FilterRow
rows_evicting None rows = rows
rows_evicting (Some block) rows = rows_hold_all (block_lines block) rows

-- the rows with a requester listed for line a by the grant that is sent to it (own rule)
abbrev pub rows_granted : ℕ → Sends → List FilterRow → List FilterRow
rows_granted a Sends.Nothing rows = rows
rows_granted a (Sends.One o) rows = rows_set (a ∷ []) o.host (option_map_or granted_listing (ndr_op_of o.message) Listing.A) rows
rows_granted a (Sends.Two o _) rows = rows_set (a ∷ []) o.host (option_map_or granted_listing (ndr_op_of o.message) Listing.A) rows

-- the rows after Finish of the task of line a: its grant lists the requester, and its lines are let go (own rule)
abbrev pub rows_finished : ℕ → Sends → Option TaskRecord → List FilterRow → List FilterRow
rows_finished a sends None rows = rows
rows_finished a sends (Some t) rows = rows_let_go (lines_of a t.span) (rows_granted a sends rows)

-- the rows after an act (own rule)
abbrev pub rows_after_act : Configuration → Act → Sends → DeviceRecord → List FilterRow
rows_after_act setup (Act.Conflict _) sends k = k.filter.rows
rows_after_act setup (Act.WriteBack _) sends k = k.filter.rows
rows_after_act setup (Act.Answer _) sends k = k.filter.rows
rows_after_act setup (Act.AnswerBlock _) sends k = k.filter.rows
rows_after_act setup (Act.HostReturn _) sends k = k.filter.rows
rows_after_act setup (Act.Serve h tag) sends k = rows_served h (message_with tag.0 (writes_at h k.writes)) k.filter.rows
rows_after_act setup (Act.Clean h tag) sends k = rows_cleaned h (option_and_then line_asked (request_with tag.0 (requests_at h k.requests))) k.filter.rows
rows_after_act setup (Act.Start h tag) sends k = rows_started setup.hosts (option_and_then line_asked (request_with tag.0 (requests_at h k.requests))) k.filter.rows
rows_after_act setup (Act.Evict h tag) sends k = rows_evicting (victim_in k.filter.rows) k.filter.rows
rows_after_act setup (Act.Snoop _ _) sends k = k.filter.rows
rows_after_act setup (Act.Finish line) sends k = rows_finished line.0 sends (task_at line.0 k.tasks) k.filter.rows
rows_after_act setup (Act.DeviceReturn _ _) sends k = k.filter.rows

-- the rows after a cause (own rule)
abbrev pub rows_in : Configuration → Cause → Sends → DeviceRecord → List FilterRow
rows_in setup (Cause.Op _ _ _) sends k = k.filter.rows
rows_in setup (Cause.Take h m) sends k = rows_after_take h m k
rows_in setup (Cause.Act act) sends k = rows_after_act setup act sends k
