-- The device's directory by its own events, newest first: one look-back, since the victim block of an eviction depends on listings, tasks and entries.
use Rattle.std.specs.Prelude.{Bool, List, None, Option, Some, [], filter, if◌then◌else◌, option_and_then, ℕ, ◌&&◌, ◌++◌, ◌+◌, ◌==◌, ◌∷◌}
use Rattle.std.specs.Option.{option_map_or}
use Rattle.cxl_message.specs.declared.events.Act.{Act}
use Rattle.cxl_message.specs.declared.events.Cause.{Cause}
use Rattle.cxl_message.specs.declared.events.Event.{Event}
use Rattle.cxl_message.specs.declared.events.Out.{Out}
use Rattle.cxl_message.specs.declared.events.Sends.{Sends}
use Rattle.cxl_message.specs.declared.identifiers.Tag.{Tag}
use Rattle.cxl_message.specs.declared.messages.Message.{Message}
use Rattle.cxl_message.specs.declared.opcodes.Meta.{Meta}
use Rattle.cxl_message.specs.declared.opcodes.NdrOp.{NdrOp}
use Rattle.cxl_message.specs.declared.opcodes.RspOp.{RspOp}
use Rattle.cxl_message.specs.declared.opcodes.Span.{Span}
use Rattle.cxl_message.specs.declared.states.Listing.{Listing}
use Rattle.cxl_message.specs.Lists.{is_in}
use Rattle.cxl_message.specs.Messages.{line_in}
use Rattle.cxl_message.specs.Setup.{Configuration}
use Rattle.coherence_model.specs.Buffers.{buffered_requests, buffered_writes, message_with}
use Rattle.coherence_model.specs.Copies.{is_shared_meta, is_shared_response, ndr_op_of}
use Rattle.coherence_model.specs.Directory.{Directory, empty_directory, has_entry, victim_block}
use Rattle.coherence_model.specs.SentSnoops.{unanswered_lines}
use Rattle.coherence_model.specs.Tasks.{Task, eviction_task, request_task}

-- the listings with host h set on some lines (own rule)
abbrev pub with_listing : List ℕ → ℕ → Listing → (ℕ → ℕ → Listing) → ℕ → ℕ → Listing
with_listing lines h l listed a g = if (g == h) && is_in a lines then l else listed a g

-- the tasks with one set or taken away (own rule)
abbrev pub with_task : ℕ → Option Task → (ℕ → Option Task) → ℕ → Option Task
with_task first t task a = if a == first then t else task a

-- the entries with a line's: last, or in its place where it has one (own rule)
abbrev pub with_entry : ℕ → List ℕ → List ℕ
with_entry a entries = if is_in a entries then entries else entries ++ a ∷ []

-- the directory with the entries that are left: a line whose entry went leaves the list (own rule)
abbrev pub with_entries_kept : Configuration → Directory → Directory
with_entries_kept setup D = record D { entries = filter (has_entry setup D) D.entries }

-- the directory with host h listed so on some lines (own rule)
abbrev pub with_listed : Configuration → List ℕ → ℕ → Listing → Directory → Directory
with_listed setup lines h l D = with_entries_kept setup (record D { listed = with_listing lines h l D.listed })

-- the lines that an answer for line a names: a block's answer all that have no answer yet (own rule)
abbrev pub answered_lines : RspOp → ℕ → ℕ → ℕ → List Event → List ℕ
answered_lines RspOp.I h first a past = a ∷ []
answered_lines RspOp.S h first a past = a ∷ []
answered_lines RspOp.E h first a past = a ∷ []
answered_lines RspOp.IBlk h first a past = unanswered_lines h first past
answered_lines RspOp.SBlk h first a past = unanswered_lines h first past
answered_lines RspOp.EBlk h first a past = unanswered_lines h first past

-- the listing that an answer leaves: S after BIRspS, else I (CXL 3.1, ch. 3: BIRspI and BIRspS; own rule: what they do to the listing)
abbrev pub listing_after_response : RspOp → Listing
listing_after_response op = if is_shared_response op then Listing.S else Listing.I

-- the directory after a taken message: an answer to a snoop changes its host's listing (own rule)
abbrev pub directory_after_take : Configuration → ℕ → Message → List Event → Directory → Directory
directory_after_take setup h (Message.Req _ _ _ _ _) past D = D
directory_after_take setup h (Message.MemWr _ _ _ _ _) past D = D
directory_after_take setup h (Message.BiConflict _) past D = D
directory_after_take setup h (Message.BiRsp op bitag low) past D =
    with_listed setup (answered_lines op h bitag.0 (bitag.0 + low) past) h (listing_after_response op) D
directory_after_take setup h (Message.Ndr _ _) past D = D
directory_after_take setup h (Message.MemData _ _) past D = D
directory_after_take setup h (Message.BiSnp _ _ _ _) past D = D
directory_after_take setup h (Message.Credit _) past D = D

-- the listing after a served MemWr: S for Shared where the line has an entry, else I (own rule)
abbrev pub listing_after_write : Meta → Bool → Listing
listing_after_write meta has_entry = if is_shared_meta meta && has_entry then Listing.S else Listing.I

-- the directory after a served message: a MemWr changes its host's listing (own rule)
abbrev pub directory_after_write : Configuration → ℕ → Message → Directory → Directory
directory_after_write setup h (Message.Req _ _ _ _ _) D = D
directory_after_write setup h (Message.MemWr meta _ _ line _) D = with_listed setup (line.0 ∷ []) h (listing_after_write meta (has_entry setup D line.0)) D
directory_after_write setup h (Message.BiConflict _) D = D
directory_after_write setup h (Message.BiRsp _ _ _) D = D
directory_after_write setup h (Message.Ndr _ _) D = D
directory_after_write setup h (Message.MemData _ _) D = D
directory_after_write setup h (Message.BiSnp _ _ _ _) D = D
directory_after_write setup h (Message.Credit _) D = D

-- the directory after Serve (own rule)
abbrev pub directory_after_serve : Configuration → ℕ → Option Message → Directory → Directory
directory_after_serve setup h None D = D
directory_after_serve setup h (Some m) D = directory_after_write setup h m D

-- the directory after Clean of a message for some line: the host isn't listed any more (own rule)
abbrev pub directory_after_clean : Configuration → ℕ → Option ℕ → Directory → Directory
directory_after_clean setup h None D = D
directory_after_clean setup h (Some a) D = with_listed setup (a ∷ []) h Listing.I D

-- the directory with a task begun for line a, which has an entry then (own rule)
abbrev pub with_task_begun : ℕ → Task → Directory → Directory
with_task_begun a t D = record { listed = D.listed; task = with_task a (Some t) D.task; entries = with_entry a D.entries }

-- the directory after a started message: a request's task stands (own rule)
abbrev pub directory_after_request : ℕ → Message → Directory → Directory
directory_after_request h (Message.Req op meta _ tag line) D = with_task_begun line.0 (request_task h tag op meta) D
directory_after_request h (Message.MemWr _ _ _ _ _) D = D
directory_after_request h (Message.BiConflict _) D = D
directory_after_request h (Message.BiRsp _ _ _) D = D
directory_after_request h (Message.Ndr _ _) D = D
directory_after_request h (Message.MemData _ _) D = D
directory_after_request h (Message.BiSnp _ _ _ _) D = D
directory_after_request h (Message.Credit _) D = D

-- the directory after Start (own rule)
abbrev pub directory_after_start : ℕ → Option Message → Directory → Directory
directory_after_start h None D = D
directory_after_start h (Some m) D = directory_after_request h m D

-- the directory after Evict: an eviction task over the victim block stands for the request (own rule)
abbrev pub directory_after_evict : ℕ → Tag → Option (ℕ × Span) → Directory → Directory
directory_after_evict h tag None D = D
directory_after_evict h tag (Some block) D = record D { task = with_task block.0 (Some (eviction_task h tag block.1)) D.task }

-- the listing that a grant leaves: S after Cmp-S, A after Cmp-E (own rule)
abbrev pub granted_listing : NdrOp → Listing
granted_listing NdrOp.Cmp = Listing.A
granted_listing NdrOp.CmpS = Listing.S
granted_listing NdrOp.CmpE = Listing.A
granted_listing NdrOp.ConflictAck = Listing.A

-- the listings with a requester listed for line a by the grant that is sent to it (own rule)
abbrev pub with_grant : ℕ → Out → (ℕ → ℕ → Listing) → ℕ → ℕ → Listing
with_grant a o listed = with_listing (a ∷ []) o.host (option_map_or granted_listing (ndr_op_of o.message) Listing.A) listed

-- the listings after Finish of line a: its first message is the grant (own rule)
abbrev pub listings_after_finish : ℕ → Sends → (ℕ → ℕ → Listing) → ℕ → ℕ → Listing
listings_after_finish a Sends.Nothing listed = listed
listings_after_finish a (Sends.One o) listed = with_grant a o listed
listings_after_finish a (Sends.Two o _) listed = with_grant a o listed

-- the directory after Finish of line a: the task is gone (own rule)
abbrev pub directory_after_finish : Configuration → ℕ → Sends → Directory → Directory
directory_after_finish setup a sends D =
    with_entries_kept setup (record { listed = listings_after_finish a sends D.listed; task = with_task a None D.task; entries = D.entries })

-- the directory after an act of the device (own rule)
abbrev pub directory_after_act : Configuration → Act → Sends → List Event → Directory → Directory
directory_after_act setup (Act.Conflict _) sends past D = D
directory_after_act setup (Act.WriteBack _) sends past D = D
directory_after_act setup (Act.Answer _) sends past D = D
directory_after_act setup (Act.AnswerBlock _) sends past D = D
directory_after_act setup (Act.HostReturn _) sends past D = D
directory_after_act setup (Act.Serve h tag) sends past D = directory_after_serve setup h (message_with tag.0 (buffered_writes h past)) D
directory_after_act setup (Act.Clean h tag) sends past D =
    directory_after_clean setup h (option_and_then line_in (message_with tag.0 (buffered_requests h past))) D
directory_after_act setup (Act.Start h tag) sends past D = directory_after_start h (message_with tag.0 (buffered_requests h past)) D
directory_after_act setup (Act.Evict h tag) sends past D = directory_after_evict h tag (victim_block D) D
directory_after_act setup (Act.Snoop _ _) sends past D = D
directory_after_act setup (Act.Finish line) sends past D = directory_after_finish setup line.0 sends D
directory_after_act setup (Act.DeviceReturn _ _) sends past D = D

-- the directory after a cause (own rule)
abbrev pub directory_after : Configuration → Cause → Sends → List Event → Directory → Directory
directory_after setup (Cause.Op _ _ _) sends past D = D
directory_after setup (Cause.Take h m) sends past D = directory_after_take setup h m past D
directory_after setup (Cause.Act act) sends past D = directory_after_act setup act sends past D

-- the directory: grants list, answers, write-backs and cleans unlist, Start and Evict begin tasks and Finish ends them (own rule)
abbrev pub directory : Configuration → List Event → Directory
directory setup [] = empty_directory
directory setup (e ∷ past) = directory_after setup e.cause e.sends past (directory setup past)
