-- What a host has open for a line, by the host's own events, newest first.
use Rattle.std.specs.Prelude.{Bool, List, None, Option, Some, [], false, if◌then◌else◌, is_none, is_some, option_and_then, true, ℕ, ◌&&◌, ◌==◌, ◌∷◌}
use Rattle.std.specs.Option.{option_map_or, option_or}
use Rattle.cxl_message.specs.declared.events.Cause.{Cause}
use Rattle.cxl_message.specs.declared.events.Event.{Event}
use Rattle.cxl_message.specs.declared.events.Op.{Op}
use Rattle.cxl_message.specs.declared.events.Sends.{Sends}
use Rattle.cxl_message.specs.declared.identifiers.Bytes64.{Bytes64}
use Rattle.cxl_message.specs.declared.messages.Message.{Message}
use Rattle.cxl_message.specs.declared.opcodes.Meta.{Meta}
use Rattle.cxl_message.specs.declared.opcodes.NdrOp.{NdrOp}
use Rattle.cxl_message.specs.declared.opcodes.ReqOp.{ReqOp}

-- what is open: a request (MemRd Shared, MemRd Any, MemInv) or an eviction (MemClnEvct, MemWr) (CXL 3.1, ch. 3: the opcodes; own rule: which operation sends which)
pub data Kind : Type 0 where
  ReadShared : Kind
  ReadAny : Kind
  Invalidate : Kind
  CleanEviction : Kind
  DirtyEviction : Kind

-- an open request or eviction: its Tag, the operation that sent it, and the Cmp-S or Cmp-E and the MemData taken for it (own rule)
pub record Transaction : Type 0 where
  pub kind : Kind
  pub tag : ℕ
  pub stream : ℕ
  pub index : ℕ
  pub op : Op
  pub grant : Option NdrOp
  pub bytes : Option Bytes64

-- whether it is a request (own rule)
abbrev pub is_request : Kind → Bool
is_request Kind.ReadShared = true
is_request Kind.ReadAny = true
is_request Kind.Invalidate = true
is_request Kind.CleanEviction = false
is_request Kind.DirtyEviction = false

-- whether it is answered by MemData too (CXL 3.1, ch. 3: MemRd)
abbrev pub is_read : Kind → Bool
is_read Kind.ReadShared = true
is_read Kind.ReadAny = true
is_read Kind.Invalidate = false
is_read Kind.CleanEviction = false
is_read Kind.DirtyEviction = false

-- the kind of a MemRd, by its Meta0-State (CXL 3.1, ch. 3: MemRd)
abbrev pub read_kind : Meta → Kind
read_kind Meta.Shared = Kind.ReadShared
read_kind Meta.Any = Kind.ReadAny
read_kind Meta.Invalid = Kind.ReadAny

-- the kind of a Req message (own rule)
abbrev pub request_kind : ReqOp → Meta → Kind
request_kind ReqOp.MemRd meta = read_kind meta
request_kind ReqOp.MemInv meta = Kind.Invalidate
request_kind ReqOp.MemClnEvct meta = Kind.CleanEviction

-- what stands open from the send on (own rule)
abbrev pub opened : ℕ → ℕ → Op → Kind → ℕ → Transaction
opened s i op kind tag = record { kind = kind; tag = tag; stream = s; index = i; op = op; grant = None; bytes = None }

-- what one message of an operation opens at line a (own rule)
abbrev pub opened_by_message : ℕ → ℕ → ℕ → Op → Message → Option Transaction
opened_by_message a s i op (Message.Req request meta _ tag line) = if line.0 == a then Some (opened s i op (request_kind request meta) tag.0) else None
opened_by_message a s i op (Message.MemWr _ _ tag line _) = if line.0 == a then Some (opened s i op Kind.DirtyEviction tag.0) else None
opened_by_message a s i op (Message.BiConflict _) = None
opened_by_message a s i op (Message.BiRsp _ _ _) = None
opened_by_message a s i op (Message.Ndr _ _) = None
opened_by_message a s i op (Message.MemData _ _) = None
opened_by_message a s i op (Message.BiSnp _ _ _ _) = None
opened_by_message a s i op (Message.Credit _) = None

-- what an operation opens at line a by its messages: its victim's eviction, or its own request (own rule)
abbrev pub opened_by_sends : ℕ → ℕ → ℕ → Op → Sends → Option Transaction
opened_by_sends a s i op Sends.Nothing = None
opened_by_sends a s i op (Sends.One o) = opened_by_message a s i op o.message
opened_by_sends a s i op (Sends.Two o p) = option_or (opened_by_message a s i op o.message) (opened_by_message a s i op p.message)

-- what stays open after a Cmp-S or Cmp-E: a read that waits for its MemData (own rule)
abbrev pub open_after_grant : NdrOp → Transaction → Option Transaction
open_after_grant c o = if is_read o.kind && is_none o.bytes then Some (record o { grant = Some c }) else None

-- what stays open after an NDR message: Cmp ends an eviction, Cmp-S and Cmp-E grant a request (CXL 3.1, ch. 3)
abbrev pub open_after_completion : NdrOp → Transaction → Option Transaction
open_after_completion NdrOp.Cmp o = if is_request o.kind then Some o else None
open_after_completion NdrOp.CmpS o = open_after_grant NdrOp.CmpS o
open_after_completion NdrOp.CmpE o = open_after_grant NdrOp.CmpE o
open_after_completion NdrOp.ConflictAck o = Some o

-- what stays open after MemData: a read that waits for its Cmp-S or Cmp-E (own rule)
abbrev pub open_after_data : Bytes64 → Transaction → Option Transaction
open_after_data bytes o = if is_none o.grant then Some (record o { bytes = Some bytes }) else None

-- what stays open after a message was taken: one with its Tag may end it (own rule)
abbrev pub open_after_take : Message → Transaction → Option Transaction
open_after_take (Message.Req _ _ _ _ _) o = Some o
open_after_take (Message.MemWr _ _ _ _ _) o = Some o
open_after_take (Message.BiConflict _) o = Some o
open_after_take (Message.BiRsp _ _ _) o = Some o
open_after_take (Message.Ndr c tag) o = if tag.0 == o.tag then open_after_completion c o else Some o
open_after_take (Message.MemData tag bytes) o = if tag.0 == o.tag then open_after_data bytes o else Some o
open_after_take (Message.BiSnp _ _ _ _) o = Some o
open_after_take (Message.Credit _) o = Some o

-- what is open for line a after a cause (own rule)
abbrev pub open_after : ℕ → Cause → Sends → Option Transaction → Option Transaction
open_after a (Cause.Op s i op) sends old = option_or (opened_by_sends a s i op sends) old
open_after a (Cause.Take _ m) sends old = option_and_then (open_after_take m) old
open_after a (Cause.Act _) sends old = old

-- what is open for line a: the last request or eviction of it that has no finishing take after it (own rule)
abbrev pub open_at : ℕ → List Event → Option Transaction
open_at a [] = None
open_at a (e ∷ past) = open_after a e.cause e.sends (open_at a past)

-- whether line a is Open (own rule)
abbrev pub is_open : ℕ → List Event → Bool
is_open a mine = is_some (open_at a mine)

-- whether a request of line a is open (own rule)
abbrev pub has_request : ℕ → List Event → Bool
has_request a mine = option_map_or (λ o. is_request o.kind) (open_at a mine) false
