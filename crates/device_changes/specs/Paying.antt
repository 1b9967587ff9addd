-- When what an event sends is paid for.
use Rattle.std.specs.Prelude.{List, length, ◌<◌}
use Rattle.cxl_message.specs.declared.events.Out.{Out}
use Rattle.cxl_message.specs.declared.channels.Channel.{Channel}
use Rattle.cxl_message.specs.declared.events.Sends.{Sends}
use Rattle.cxl_message.specs.declared.messages.Message.{Message}
use Rattle.device_record.specs.CreditChanges.{out_paid}
use Rattle.device_record.specs.Record.{CreditRecord, credits_at}
use Rattle.device_tables.specs.Crediting.{MayGiveBack, MaySpend}

-- a message may be sent: a credit of its channel is left, or a Credit may be given back; the device sends no other (own rule)
abbrev pub MaySend : Message → CreditRecord → Type 0
MaySend (Message.Req _ _ _ _ _) c = ⊥
MaySend (Message.MemWr _ _ _ _ _) c = ⊥
MaySend (Message.BiConflict _) c = ⊥
MaySend (Message.BiRsp _ _ _) c = ⊥
MaySend (Message.Ndr _ _) c = MaySpend Channel.Ndr c
MaySend (Message.MemData _ _) c = MaySpend Channel.Drs c
MaySend (Message.BiSnp _ _ _ _) c = MaySpend Channel.BiSnp c
MaySend (Message.Credit d) c = MayGiveBack d c

-- the host of a message exists, and the message may be sent to it (own rule)
pub record MayPayOne (o : Out) (credits : List CreditRecord) : Type 0 where
  pub host : o.host < length credits
  pub paid : MaySend o.message (credits_at o.host credits)

-- the messages of an event may be sent one after the other (own rule)
abbrev pub MayPay : Sends → List CreditRecord → Type 0
MayPay Sends.Nothing credits = Unit {0}
MayPay (Sends.One o) credits = MayPayOne o credits
MayPay (Sends.Two o p) credits = MayPayOne o credits × MayPayOne p (out_paid o credits)
