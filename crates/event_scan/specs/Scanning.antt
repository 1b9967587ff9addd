-- What of an event record is still to come after some of its bytes. Every rule here is an own rule.
use Rattle.std.specs.Prelude.{◌≡◌, ℕ, zero, suc, ◌+◌, ◌-◌, ◌<◌, ◌≤◌, ◌==◌, ◌&&◌, ◌||◌, List, [], ◌∷◌, ◌++◌, drop, length, max, All, Option, Some, None, find, nat_le, nat_lt, option_map, if◌then◌else◌}
use Rattle.std.specs.Option.{option_map_or}
use Rattle.cxl_message.specs.declared.opcodes.SnpOp.{SnpOp}
use Rattle.cxl_codec.specs.declared.kinds.CauseKind.{CauseKind}
use Rattle.cxl_codec.specs.declared.kinds.OpKind.{OpKind}
use Rattle.cxl_codec.specs.declared.kinds.ActKind.{ActKind}
use Rattle.cxl_codec.specs.declared.kinds.MessageKind.{MessageKind}
use Rattle.event_scan.specs.declared.scans.Part.{Part}
use Rattle.cxl_codec.specs.Kinds.{cause_kind_code, cause_kinds, op_kind_code, op_kinds, act_kind_code, act_kinds, message_kind_code, message_kinds}
use Rattle.cxl_codec.specs.Events.{event_cells, EventFits}
use Rattle.cxl_codec.specs.Grammar.{IsCutShort}
use Rattle.cxl_message.specs.declared.limits.TheConstants.{DEVICE, MAX_HOSTS, MAX_SPAN, MAX_STREAMS, PLACES}
use Rattle.cxl_codec.specs.declared.openings.TheConstants.{OPENING_LENGTH}

-- the parts of an operation of this kind, after its kind byte
abbrev pub op_parts : OpKind → List Part
op_parts OpKind.Load = Part.Free 4 ∷ []
op_parts OpKind.Word = Part.Free 4 ∷ Part.Within 0 (PLACES - 1) ∷ Part.Free 8 ∷ []
op_parts OpKind.Whole = Part.Free 68 ∷ []

-- the parts of an act of this kind, after its kind byte
abbrev pub act_parts : ActKind → List Part
act_parts (ActKind.Line kind) = Part.Free 4 ∷ []
act_parts (ActKind.Tagged kind) = Part.Within 0 (MAX_HOSTS - 1) ∷ Part.Free 2 ∷ []
act_parts ActKind.HostReturn = Part.Within 1 6 ∷ []
act_parts ActKind.Snoop = Part.Within 0 (MAX_HOSTS - 1) ∷ Part.Free 4 ∷ []
act_parts ActKind.DeviceReturn = Part.Within 0 (MAX_HOSTS - 1) ∷ Part.Within 1 6 ∷ []

-- the span of a snoop
abbrev pub span_part : SnpOp → Part
span_part SnpOp.Cur = Part.Within 1 1
span_part SnpOp.Dat = Part.Within 1 1
span_part SnpOp.Inv = Part.Within 1 1
span_part SnpOp.CurBlk = Part.BlockSpan
span_part SnpOp.DatBlk = Part.BlockSpan
span_part SnpOp.InvBlk = Part.BlockSpan

-- the parts of a message of this kind, after its kind byte
abbrev pub message_parts : MessageKind → List Part
message_parts (MessageKind.Req op) = Part.Within 0 2 ∷ Part.Within 0 3 ∷ Part.Free 6 ∷ []
message_parts MessageKind.MemWr = Part.Within 0 2 ∷ Part.Within 0 3 ∷ Part.Free 70 ∷ []
message_parts MessageKind.BiConflict = Part.Free 2 ∷ Part.Zeros 64 ∷ []
message_parts (MessageKind.BiRsp op) = Part.Free 2 ∷ Part.Within 0 (MAX_SPAN - 1) ∷ []
message_parts (MessageKind.Ndr op) = Part.Free 2 ∷ []
message_parts MessageKind.MemData = Part.Free 66 ∷ []
message_parts (MessageKind.BiSnp op) = Part.Free 6 ∷ span_part op ∷ []
message_parts MessageKind.Credit = Part.Within 1 6 ∷ []

-- the parts of a cause of this kind, after its kind byte
abbrev pub cause_parts : CauseKind → List Part
cause_parts CauseKind.Op = Part.Within 0 (MAX_STREAMS - 1) ∷ Part.Free 4 ∷ Part.Op ∷ []
cause_parts CauseKind.Take = Part.Within 0 (MAX_HOSTS - 1) ∷ Part.Message ∷ []
cause_parts CauseKind.Act = Part.Act ∷ []

-- the parts of so many sent messages, two at most
abbrev pub sends_parts : ℕ → List Part
sends_parts zero = []
sends_parts (suc zero) = Part.Within 0 (MAX_HOSTS - 1) ∷ Part.Message ∷ []
sends_parts (suc (suc n)) = Part.Within 0 (MAX_HOSTS - 1) ∷ Part.Message ∷ Part.Within 0 (MAX_HOSTS - 1) ∷ Part.Message ∷ []

-- the parts after the flag of a commit
abbrev pub commit_parts : ℕ → List Part
commit_parts zero = []
commit_parts (suc n) = Part.Within 0 (MAX_STREAMS - 1) ∷ Part.Free 4 ∷ Part.Op ∷ Part.Free 64 ∷ []

-- what is to come in place of a part after one byte of it, if it can have this byte
abbrev pub after_byte : Part → ℕ → Option (List Part)
after_byte (Part.Within least most) byte = if nat_le least byte && nat_le byte most then Some [] else None
after_byte Part.BlockSpan byte = if byte == 2 || byte == 4 then Some [] else None
after_byte (Part.Free count) byte = if nat_lt 1 count then Some (Part.Free (count - 1) ∷ []) else Some []
after_byte (Part.Zeros count) byte = if byte == 0 then (if nat_lt 1 count then Some (Part.Zeros (count - 1) ∷ []) else Some []) else None
after_byte Part.Cause byte = option_map cause_parts (find (λ k. cause_kind_code k == byte) cause_kinds)
after_byte Part.Op byte = option_map op_parts (find (λ k. op_kind_code k == byte) op_kinds)
after_byte Part.Act byte = option_map act_parts (find (λ k. act_kind_code k == byte) act_kinds)
after_byte Part.Message byte = option_map message_parts (find (λ k. message_kind_code k == byte) message_kinds)
after_byte Part.Sends byte = if nat_le byte 2 then Some (sends_parts byte) else None
after_byte Part.Commit byte = if nat_le byte 1 then Some (commit_parts byte) else None

-- what is to come in place of the first part
abbrev pub turned : Option (List Part) → List Part → Option (List Part)
turned next parts = option_map (λ ps. ps ++ drop 1 parts) next

-- what is to come after one byte of these parts, if they can have it
abbrev pub after_first : List Part → ℕ → Option (List Part)
after_first [] byte = None
after_first (part ∷ parts) byte = turned (after_byte part byte) (part ∷ parts)

-- what is to come after some bytes of these parts, if they can have them
unfoldable pub scan : List Part → List ℕ → Option (List Part)
scan parts [] = Some parts
scan parts (byte ∷ bytes) = option_map_or (λ next. scan next bytes) (after_first parts byte) None

-- the parts of an event record
abbrev pub event_parts : List Part
event_parts = Part.Within 0 DEVICE ∷ Part.Cause ∷ Part.Sends ∷ Part.Commit ∷ []

-- no part is to come: a byte was refused, or no part is left
abbrev pub IsOver : Option (List Part) → Type 0
IsOver to_come = (part : Part) (others : List Part) → to_come ≡ Some (part ∷ others) → ⊥

-- how many parts at most stand in place of this one at once, while its bytes come
abbrev pub depth : Part → ℕ
depth (Part.Within least most) = 1
depth Part.BlockSpan = 1
depth (Part.Free count) = 1
depth (Part.Zeros count) = 1
depth Part.Cause = 3
depth Part.Op = 3
depth Part.Act = 2
depth Part.Message = 3
depth Part.Sends = 5
depth Part.Commit = 4

-- how many parts at most are to come at once, while the bytes of all of these come
unfoldable pub need : List Part → ℕ
need [] = 0
need (part ∷ parts) = max (depth part + length parts) (need parts)

-- the next part that is to come, and those after it
pub record ToCome : Type 0 where
  pub next : Part
  pub others : List Part

-- all of them
abbrev pub all_parts : ToCome → List Part
all_parts to_come = to_come.next ∷ to_come.others

-- no more parts are to come at once than in an event record
abbrev pub HasRoom : ToCome → Type 0
HasRoom to_come = need (all_parts to_come) ≤ 6

-- the first of some bytes, one at least, are of the old parts, and leave the new ones
pub record GoesOver (old new : List Part) (bytes rest : List ℕ) : Type 0 where
  pub front : List ℕ
  pub whole : bytes ≡ front ++ rest
  pub fewer : length rest < length bytes
  pub scanned : scan old front ≡ Some new

-- these parts are to come after some bytes of an event record, which are cut short
pub record IsBehind (bytes : List ℕ) (to_come : ToCome) : Type 0 where
  pub each : All (λ b. b < 256) bytes
  pub scanned : scan event_parts bytes ≡ Some (all_parts to_come)
  pub cut : IsCutShort EventFits event_cells bytes

-- how many further bytes settle at the earliest whether the record is whole: those of any value, and one more where another part is to come
abbrev pub patience_of : Part → List Part → ℕ
patience_of (Part.Within least most) others = 1
patience_of Part.BlockSpan others = 1
patience_of (Part.Free count) [] = max count 1
patience_of (Part.Free count) (part ∷ others) = max count 1 + 1
patience_of (Part.Zeros count) others = 1
patience_of Part.Cause others = 1
patience_of Part.Op others = 1
patience_of Part.Act others = 1
patience_of Part.Message others = 1
patience_of Part.Sends others = 1
patience_of Part.Commit others = 1

-- how many bytes a record has that begins so, if it is an opening
abbrev pub opening_length : List ℕ → ℕ
opening_length [] = 0
opening_length (byte ∷ bytes) = if byte == 0xf0 then OPENING_LENGTH else 0
