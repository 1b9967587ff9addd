-- What an event of the device does to the credits of its hosts, by the message that it takes and by those that it sends.
use Rattle.std.specs.Prelude.{List, ◌+◌, ◌-◌}
use Rattle.cxl_message.specs.declared.channels.Channel.{Channel}
use Rattle.cxl_message.specs.declared.events.Cause.{Cause}
use Rattle.cxl_message.specs.declared.events.Out.{Out}
use Rattle.cxl_message.specs.declared.events.Sends.{Sends}
use Rattle.cxl_message.specs.declared.messages.Message.{Message}
use Rattle.device_record.specs.Record.{CreditRecord}
use Rattle.device_record.specs.Tables.{changed_at}

-- one more message of a channel is held (own rule)
abbrev pub one_held : Channel → CreditRecord → CreditRecord
one_held Channel.Req c = record c { req_held = c.req_held + 1 }
one_held Channel.Rwd c = record c { rwd_held = c.rwd_held + 1 }
one_held Channel.BiRsp c = record c { rsp_held = c.rsp_held + 1 }
one_held Channel.Ndr c = c
one_held Channel.Drs c = c
one_held Channel.BiSnp c = c
one_held Channel.CreditUp c = c
one_held Channel.CreditDown c = c

-- a Credit for a channel is taken (own rule)
abbrev pub one_earned : Channel → CreditRecord → CreditRecord
one_earned Channel.Req c = c
one_earned Channel.Rwd c = c
one_earned Channel.BiRsp c = c
one_earned Channel.Ndr c = record c { ndr_left = c.ndr_left + 1 }
one_earned Channel.Drs c = record c { drs_left = c.drs_left + 1 }
one_earned Channel.BiSnp c = record c { snp_left = c.snp_left + 1 }
one_earned Channel.CreditUp c = c
one_earned Channel.CreditDown c = c

-- a message is sent on a channel (own rule)
abbrev pub one_spent : Channel → CreditRecord → CreditRecord
one_spent Channel.Req c = c
one_spent Channel.Rwd c = c
one_spent Channel.BiRsp c = c
one_spent Channel.Ndr c = record c { ndr_left = c.ndr_left - 1 }
one_spent Channel.Drs c = record c { drs_left = c.drs_left - 1 }
one_spent Channel.BiSnp c = record c { snp_left = c.snp_left - 1 }
one_spent Channel.CreditUp c = c
one_spent Channel.CreditDown c = c

-- a Credit for a channel is given back (own rule)
abbrev pub one_returned : Channel → CreditRecord → CreditRecord
one_returned Channel.Req c = record c { req_held = c.req_held - 1 }
one_returned Channel.Rwd c = record c { rwd_held = c.rwd_held - 1 }
one_returned Channel.BiRsp c = record c { rsp_held = c.rsp_held - 1 }
one_returned Channel.Ndr c = c
one_returned Channel.Drs c = c
one_returned Channel.BiSnp c = c
one_returned Channel.CreditUp c = c
one_returned Channel.CreditDown c = c

-- the credits of a host after a message of it was taken (own rule)
abbrev pub credit_took : Message → CreditRecord → CreditRecord
credit_took (Message.Req _ _ _ _ _) c = one_held Channel.Req c
credit_took (Message.MemWr _ _ _ _ _) c = one_held Channel.Rwd c
credit_took (Message.BiConflict _) c = one_held Channel.Rwd c
credit_took (Message.BiRsp _ _ _) c = one_held Channel.BiRsp c
credit_took (Message.Ndr _ _) c = c
credit_took (Message.MemData _ _) c = c
credit_took (Message.BiSnp _ _ _ _) c = c
credit_took (Message.Credit d) c = one_earned d c

-- the credits of a host after a message was sent to it (own rule)
abbrev pub credit_sent : Message → CreditRecord → CreditRecord
credit_sent (Message.Req _ _ _ _ _) c = c
credit_sent (Message.MemWr _ _ _ _ _) c = c
credit_sent (Message.BiConflict _) c = c
credit_sent (Message.BiRsp _ _ _) c = c
credit_sent (Message.Ndr _ _) c = one_spent Channel.Ndr c
credit_sent (Message.MemData _ _) c = one_spent Channel.Drs c
credit_sent (Message.BiSnp _ _ _ _) c = one_spent Channel.BiSnp c
credit_sent (Message.Credit d) c = one_returned d c

-- the credits after a cause, before what it sends (own rule)
abbrev pub credits_took : Cause → List CreditRecord → List CreditRecord
credits_took (Cause.Op _ _ _) credits = credits
credits_took (Cause.Take h m) credits = changed_at h (credit_took m) credits
credits_took (Cause.Act _) credits = credits

-- the credits after one message was sent (own rule)
abbrev pub out_paid : Out → List CreditRecord → List CreditRecord
out_paid o credits = changed_at o.host (credit_sent o.message) credits

-- the credits after what an event sends (own rule)
abbrev pub credits_paid : Sends → List CreditRecord → List CreditRecord
credits_paid Sends.Nothing credits = credits
credits_paid (Sends.One o) credits = out_paid o credits
credits_paid (Sends.Two o p) credits = out_paid p (out_paid o credits)

-- the credits after a cause and what is sent by it (own rule)
abbrev pub credits_in : Cause → Sends → List CreditRecord → List CreditRecord
credits_in cause sends credits = credits_paid sends (credits_took cause credits)
