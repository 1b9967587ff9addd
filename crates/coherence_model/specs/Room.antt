-- The room for requests in the filter, by the device's own events, newest first.
use Rattle.std.specs.Prelude.{Bool, List, None, Option, Some, [], count_by, false, if◌then◌else◌, length, sum_by, true, ℕ, ◌&&◌, ◌-◌, ◌==◌, ◌∷◌}
use Rattle.cxl_message.specs.declared.events.Act.{Act}
use Rattle.cxl_message.specs.declared.events.Cause.{Cause}
use Rattle.cxl_message.specs.declared.events.Event.{Event}
use Rattle.cxl_message.specs.declared.identifiers.Tag.{Tag}
use Rattle.cxl_message.specs.Lists.{below}
use Rattle.cxl_message.specs.Setup.{Configuration}
use Rattle.coherence_model.specs.DirectoryChanges.{directory}
use Rattle.coherence_model.specs.Tasks.{Task, is_eviction}

-- what a buffered request has: no eviction, one in progress, or a reservation (own rule)
pub data Room : Type 0 where
  NoEviction : Room
  EvictionInProgress : Room
  Reservation : Room

-- whether an act is for the request of host h with a tag (own rule)
abbrev pub is_for : ℕ → ℕ → ℕ → Tag → Bool
is_for h tag host t = (host == h) && (t.0 == tag)

-- whether a task is an eviction for the request of host h with a tag (own rule)
abbrev pub evicts_for : ℕ → ℕ → Task → Bool
evicts_for h tag t = is_eviction t.purpose && (t.host == h) && (t.tag == tag)

-- the room of a request after a task finished: an eviction for it leaves a reservation (own rule)
abbrev pub room_after_finish : ℕ → ℕ → Option Task → Room → Room
room_after_finish h tag None old = old
room_after_finish h tag (Some t) old = if evicts_for h tag t then Room.Reservation else old

-- the room of a request after an act: Evict begins an eviction, Finish may end it, Start gives a reservation up (own rule)
abbrev pub room_after_act : Configuration → ℕ → ℕ → Act → List Event → Room → Room
room_after_act setup h tag (Act.Conflict _) past old = old
room_after_act setup h tag (Act.WriteBack _) past old = old
room_after_act setup h tag (Act.Answer _) past old = old
room_after_act setup h tag (Act.AnswerBlock _) past old = old
room_after_act setup h tag (Act.HostReturn _) past old = old
room_after_act setup h tag (Act.Serve _ _) past old = old
room_after_act setup h tag (Act.Clean _ _) past old = old
room_after_act setup h tag (Act.Start host t) past old = if is_for h tag host t then Room.NoEviction else old
room_after_act setup h tag (Act.Evict host t) past old = if is_for h tag host t then Room.EvictionInProgress else old
room_after_act setup h tag (Act.Snoop _ _) past old = old
room_after_act setup h tag (Act.Finish line) past old = room_after_finish h tag ((directory setup past).task line.0) old
room_after_act setup h tag (Act.DeviceReturn _ _) past old = old

-- the room of a request after a cause (own rule)
abbrev pub room_after : Configuration → ℕ → ℕ → Cause → List Event → Room → Room
room_after setup h tag (Cause.Op _ _ _) past old = old
room_after setup h tag (Cause.Take _ _) past old = old
room_after setup h tag (Cause.Act act) past old = room_after_act setup h tag act past old

-- the room of the request of host h with a tag (own rule)
abbrev pub request_room : Configuration → ℕ → ℕ → List Event → Room
request_room setup h tag [] = Room.NoEviction
request_room setup h tag (e ∷ past) = room_after setup h tag e.cause past (request_room setup h tag past)

-- whether it is a reservation (own rule)
abbrev pub is_reservation : Room → Bool
is_reservation Room.NoEviction = false
is_reservation Room.EvictionInProgress = false
is_reservation Room.Reservation = true

-- whether it is no eviction (own rule)
abbrev pub is_no_eviction : Room → Bool
is_no_eviction Room.NoEviction = true
is_no_eviction Room.EvictionInProgress = false
is_no_eviction Room.Reservation = false

-- how many reservations stand (own rule)
abbrev pub reservation_count : Configuration → List Event → ℕ
reservation_count setup mine = sum_by (λ h. count_by (λ tag. is_reservation (request_room setup h tag mine)) (below setup.tags)) (below setup.hosts)

-- `Free`: the filter's entries less the lines with an entry less the reservations (own rule)
abbrev pub free_entries : Configuration → List Event → ℕ
free_entries setup mine = (setup.entries - length (directory setup mine).entries) - reservation_count setup mine
