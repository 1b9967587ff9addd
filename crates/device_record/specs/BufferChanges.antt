-- What an event of the device does to its buffered messages, by its cause.
use Rattle.std.specs.Prelude.{List, None, Option, Some, [], if◌then◌else◌, map, ℕ, ◌++◌, ◌∷◌}
use Rattle.cxl_message.specs.declared.events.Act.{Act}
use Rattle.cxl_message.specs.declared.events.Cause.{Cause}
use Rattle.cxl_message.specs.declared.messages.Message.{Message}
use Rattle.cxl_message.specs.Messages.{has_tag}
use Rattle.coherence_model.specs.Buffers.{without_tag}
use Rattle.coherence_model.specs.Room.{Room}
use Rattle.coherence_model.specs.Tasks.{is_eviction}
use Rattle.device_record.specs.Record.{DeviceRecord, TaskRecord, WaitingRequest, task_at}
use Rattle.device_record.specs.Tables.{changed_at}

-- the requests without the first one with a tag (own rule)
abbrev pub without_request : ℕ → List WaitingRequest → List WaitingRequest
without_request tag [] = []
without_request tag (r ∷ rs) = if has_tag tag r.message then rs else r ∷ without_request tag rs

-- a request with its room set, if it has the tag (own rule)
abbrev pub request_roomed : ℕ → Room → WaitingRequest → WaitingRequest
request_roomed tag room r = if has_tag tag r.message then record r { room = room } else r

-- a request that is taken (own rule)
abbrev pub request_taken : Message → WaitingRequest
request_taken m = record { message = m; room = Room.NoEviction }

-- the buffered requests after the take of a message (own rule)
abbrev pub requests_after_take : ℕ → Message → DeviceRecord → List (List WaitingRequest)
requests_after_take h (Message.Req op meta snp tag line) k =
    changed_at h (λ rs. rs ++ request_taken (Message.Req op meta snp tag line) ∷ []) k.requests
requests_after_take h (Message.MemWr _ _ _ _ _) k = k.requests
requests_after_take h (Message.BiConflict _) k = k.requests
requests_after_take h (Message.BiRsp _ _ _) k = k.requests
requests_after_take h (Message.Ndr _ _) k = k.requests
requests_after_take h (Message.MemData _ _) k = k.requests
requests_after_take h (Message.BiSnp _ _ _ _) k = k.requests
requests_after_take h (Message.Credit _) k = k.requests

-- the end of an eviction gives its request a reservation (own rule)
abbrev pub requests_finished : Option TaskRecord → List (List WaitingRequest) → List (List WaitingRequest)
requests_finished None requests = requests
requests_finished (Some t) requests =
    if is_eviction t.purpose then changed_at t.host (map (request_roomed t.tag Room.Reservation)) requests else requests

-- the buffered requests after an act: Clean and Start use theirs (own rule)
abbrev pub requests_after_act : Act → DeviceRecord → List (List WaitingRequest)
requests_after_act (Act.Conflict _) k = k.requests
requests_after_act (Act.WriteBack _) k = k.requests
requests_after_act (Act.Answer _) k = k.requests
requests_after_act (Act.AnswerBlock _) k = k.requests
requests_after_act (Act.HostReturn _) k = k.requests
requests_after_act (Act.Serve _ _) k = k.requests
requests_after_act (Act.Clean h tag) k = changed_at h (without_request tag.0) k.requests
requests_after_act (Act.Start h tag) k = changed_at h (without_request tag.0) k.requests
requests_after_act (Act.Evict h tag) k = changed_at h (map (request_roomed tag.0 Room.EvictionInProgress)) k.requests
requests_after_act (Act.Snoop _ _) k = k.requests
requests_after_act (Act.Finish line) k = requests_finished (task_at line.0 k.tasks) k.requests
requests_after_act (Act.DeviceReturn _ _) k = k.requests

-- the buffered requests after a cause (own rule)
abbrev pub requests_in : Cause → DeviceRecord → List (List WaitingRequest)
requests_in (Cause.Op _ _ _) k = k.requests
requests_in (Cause.Take h m) k = requests_after_take h m k
requests_in (Cause.Act act) k = requests_after_act act k

-- the buffered RwD messages after the take of a message (own rule)
abbrev pub writes_after_take : ℕ → Message → List (List Message) → List (List Message)
writes_after_take h (Message.Req _ _ _ _ _) writes = writes
writes_after_take h (Message.MemWr meta snp tag line bytes) writes = changed_at h (λ ms. ms ++ Message.MemWr meta snp tag line bytes ∷ []) writes
writes_after_take h (Message.BiConflict tag) writes = changed_at h (λ ms. ms ++ Message.BiConflict tag ∷ []) writes
writes_after_take h (Message.BiRsp _ _ _) writes = writes
writes_after_take h (Message.Ndr _ _) writes = writes
writes_after_take h (Message.MemData _ _) writes = writes
writes_after_take h (Message.BiSnp _ _ _ _) writes = writes
writes_after_take h (Message.Credit _) writes = writes

-- the buffered RwD messages after an act: Serve uses one (own rule)
abbrev pub writes_after_act : Act → List (List Message) → List (List Message)
writes_after_act (Act.Conflict _) writes = writes
writes_after_act (Act.WriteBack _) writes = writes
writes_after_act (Act.Answer _) writes = writes
writes_after_act (Act.AnswerBlock _) writes = writes
writes_after_act (Act.HostReturn _) writes = writes
writes_after_act (Act.Serve h tag) writes = changed_at h (without_tag tag.0) writes
writes_after_act (Act.Clean _ _) writes = writes
writes_after_act (Act.Start _ _) writes = writes
writes_after_act (Act.Evict _ _) writes = writes
writes_after_act (Act.Snoop _ _) writes = writes
writes_after_act (Act.Finish _) writes = writes
writes_after_act (Act.DeviceReturn _ _) writes = writes

-- the buffered RwD messages after a cause (own rule)
abbrev pub writes_in : Cause → List (List Message) → List (List Message)
writes_in (Cause.Op _ _ _) writes = writes
writes_in (Cause.Take h m) writes = writes_after_take h m writes
writes_in (Cause.Act act) writes = writes_after_act act writes
