-- Messages that a host sends, and those that it may take. All of it is an own rule.
use Rattle.std.specs.Prelude.{ℕ, ◌-◌, ◌<◌}
use Rattle.cxl_message.specs.declared.identifiers.Line.{Line}
use Rattle.cxl_message.specs.declared.messages.Message.{Message}
use Rattle.cxl_message.specs.declared.opcodes.RspOp.{RspOp}
use Rattle.cxl_message.specs.declared.opcodes.SnpOp.{SnpOp}
use Rattle.cxl_message.specs.declared.opcodes.SnpType.{SnpType}
use Rattle.cxl_message.specs.Setup.{Configuration}
use Rattle.coherence_model.specs.Copies.{Copy}
use Rattle.coherence_model.specs.HostActs.{write_back_meta}

-- the message of a write-back, with the write-back tag
abbrev pub write_back_of : Configuration → SnpOp → Line → Copy → Message
write_back_of setup op line c = Message.MemWr (write_back_meta op) SnpType.NoOp (record { 0 = setup.tags }) line c.bytes

-- the answer for line a of a snoop with this first line
abbrev pub answer_of : RspOp → ℕ → ℕ → Message
answer_of op first a = Message.BiRsp op (record { 0 = first }) (a - first)

-- the lines that a message names can be counted on in 32 bits
abbrev pub IsLow : Message → Type 0
IsLow (Message.Req _ _ _ _ _) = Unit {0}
IsLow (Message.MemWr _ _ _ _ _) = Unit {0}
IsLow (Message.BiConflict _) = Unit {0}
IsLow (Message.BiRsp _ _ _) = Unit {0}
IsLow (Message.Ndr _ _) = Unit {0}
IsLow (Message.MemData _ _) = Unit {0}
IsLow (Message.BiSnp _ _ line _) = line.0 < 65536
IsLow (Message.Credit _) = Unit {0}
