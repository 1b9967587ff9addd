-- How a buffered Req message is kept.
use Rattle.std.proofs.Common.{refl}
use Rattle.std.specs.Prelude.{◌≡◌}
use Rattle.cxl_message.specs.declared.identifiers.Line.{Line}
use Rattle.cxl_message.specs.declared.identifiers.Tag.{Tag}
use Rattle.cxl_message.specs.declared.messages.Message.{Message}
use Rattle.cxl_message.specs.declared.opcodes.Meta.{Meta}
use Rattle.cxl_message.specs.declared.opcodes.ReqOp.{ReqOp}
use Rattle.cxl_message.specs.declared.opcodes.SnpType.{SnpType}
use Rattle.coherence_model.specs.Room.{Room}
use Rattle.device_record.specs.Record.{WaitingRequest}
use Rattle.device_tables.specs.declared.waiting.Progress.{Progress}
use Rattle.device_tables.specs.declared.waiting.Waiting.TheInside.{Inside}

-- the room that a progress is (own rule)
abbrev pub room_seen : Progress → Room
room_seen Progress.NoEviction = Room.NoEviction
room_seen Progress.Evicting = Room.EvictionInProgress
room_seen Progress.Reserved = Room.Reservation

-- and back (own rule)
abbrev pub progress_of : Room → Progress
progress_of Room.NoEviction = Progress.NoEviction
progress_of Room.EvictionInProgress = Progress.Evicting
progress_of Room.Reservation = Progress.Reserved

-- what a buffered request is seen as (own rule)
abbrev pub waiting_seen : Inside → WaitingRequest
waiting_seen w = record { message = Message.Req w.op w.meta w.snp w.tag w.line; room = room_seen w.progress }

-- the request that a Req message and its room are kept as; no other message is kept (own rule)
abbrev pub kept_as : Message → Progress → Inside
kept_as (Message.Req op meta snp tag line) progress = record { op = op; meta = meta; snp = snp; tag = tag; line = line; progress = progress }
kept_as (Message.MemWr meta snp tag line bytes) progress = record { op = ReqOp.MemRd; meta = meta; snp = snp; tag = tag; line = line; progress = progress }
kept_as (Message.BiConflict tag) progress = record { op = ReqOp.MemRd; meta = Meta.Any; snp = SnpType.NoOp; tag = tag; line = record { 0 = 0 }; progress = progress }
kept_as (Message.BiRsp _ _ _) progress = record { op = ReqOp.MemRd; meta = Meta.Any; snp = SnpType.NoOp; tag = record { 0 = 0 }; line = record { 0 = 0 }; progress = progress }
kept_as (Message.Ndr _ tag) progress = record { op = ReqOp.MemRd; meta = Meta.Any; snp = SnpType.NoOp; tag = tag; line = record { 0 = 0 }; progress = progress }
kept_as (Message.MemData tag _) progress = record { op = ReqOp.MemRd; meta = Meta.Any; snp = SnpType.NoOp; tag = tag; line = record { 0 = 0 }; progress = progress }
kept_as (Message.BiSnp _ _ line _) progress = record { op = ReqOp.MemRd; meta = Meta.Any; snp = SnpType.NoOp; tag = record { 0 = 0 }; line = line; progress = progress }
kept_as (Message.Credit _) progress = record { op = ReqOp.MemRd; meta = Meta.Any; snp = SnpType.NoOp; tag = record { 0 = 0 }; line = record { 0 = 0 }; progress = progress }

abbrev pub waiting_restored : WaitingRequest → Inside
waiting_restored w = kept_as w.message (progress_of w.room)

progress_back : (p : Progress) → progress_of (room_seen p) ≡ p
progress_back Progress.NoEviction = refl
progress_back Progress.Evicting = refl
progress_back Progress.Reserved = refl

pub waiting_same : (w : Inside) → Unit {0} → waiting_restored (waiting_seen w) ≡ w
waiting_same w h = λ i. record { op = w.op; meta = w.meta; snp = w.snp; tag = w.tag; line = w.line; progress = progress_back w.progress i }
