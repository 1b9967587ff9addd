-- The acts that are allowed, in their order, by what the device keeps.
use Rattle.std.specs.Prelude.{List, [], flat_map, if◌then◌else◌, is_some, map, ℕ, ◌++◌, ◌∷◌}
use Rattle.cxl_message.specs.declared.events.Act.{Act}
use Rattle.cxl_message.specs.declared.events.Cause.{Cause}
use Rattle.cxl_message.specs.declared.events.Event.{Event}
use Rattle.cxl_message.specs.declared.identifiers.Bytes64.{Bytes64}
use Rattle.cxl_message.specs.declared.identifiers.Line.{Line}
use Rattle.cxl_message.specs.declared.identifiers.Tag.{Tag}
use Rattle.cxl_message.specs.declared.messages.Message.{Message}
use Rattle.cxl_message.specs.Lists.{below}
use Rattle.cxl_message.specs.Setup.{Configuration}
use Rattle.coherence_model.specs.Next.{device_return_channels, next_device_acts, tag_or_zero}
use Rattle.device_record.specs.Answers.{emission_in}
use Rattle.device_record.specs.Record.{DeviceRecord, TaskRecord, WaitingRequest, requests_at, writes_at}

-- an act, if it is allowed (own rule)
abbrev pub act_if : Configuration → DeviceRecord → Act → List Act
act_if setup k act = if is_some (emission_in setup (Cause.Act act) k) then act ∷ [] else []

-- the first of two lists that isn't empty (own rule)
abbrev pub acts_or : List Act → List Act → List Act
acts_or [] ys = ys
acts_or (x ∷ xs) ys = x ∷ xs

-- the tag of a message (own rule)
abbrev pub tag_named : Message → Tag
tag_named m = record { 0 = tag_or_zero m }

-- Serve for a buffered RwD message (own rule)
abbrev pub serve_acts : Configuration → DeviceRecord → ℕ → Message → List Act
serve_acts setup k h m = act_if setup k (Act.Serve h (tag_named m))

-- the one of Clean, Start and Evict that is allowed for a buffered request (own rule)
abbrev pub waiting_acts : Configuration → DeviceRecord → ℕ → WaitingRequest → List Act
waiting_acts setup k h r =
    acts_or (act_if setup k (Act.Clean h (tag_named r.message)))
    (acts_or (act_if setup k (Act.Start h (tag_named r.message))) (act_if setup k (Act.Evict h (tag_named r.message))))

-- Snoop by host, then Finish, for a task (own rule)
abbrev pub acts_of_task : Configuration → DeviceRecord → TaskRecord → List Act
acts_of_task setup k t =
    flat_map (λ h. act_if setup k (Act.Snoop h (record { 0 = t.first }))) (below setup.hosts) ++ act_if setup k (Act.Finish (record { 0 = t.first }))

-- the returns for a host (own rule)
abbrev pub return_acts : Configuration → DeviceRecord → ℕ → List Act
return_acts setup k h = flat_map (λ c. act_if setup k (Act.DeviceReturn h c)) device_return_channels

-- the acts, in their order (own rule)
abbrev pub acts_in : Configuration → DeviceRecord → List Act
acts_in setup k =
    flat_map (λ h. flat_map (serve_acts setup k h) (writes_at h k.writes)) (below setup.hosts)
    ++ flat_map (λ h. flat_map (waiting_acts setup k h) (requests_at h k.requests)) (below setup.hosts)
    ++ flat_map (acts_of_task setup k) k.tasks ++ flat_map (return_acts setup k) (below setup.hosts)

-- the causes of the device's next acts after its own events, in the model's words (own rule)
abbrev pub next_causes : Configuration → List (Line × Bytes64) → List Event → List Cause
next_causes setup opening mine = map (λ e. e.cause) (next_device_acts setup opening mine)
