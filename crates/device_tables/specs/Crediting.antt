-- Bounds of what the device counts of a host's channels.
use Rattle.std.specs.Prelude.{ℕ, ◌<◌, ◌≤◌}
use Rattle.cxl_message.specs.declared.channels.Channel.{Channel}
use Rattle.device_record.specs.Record.{CreditRecord}

-- no number of a host is more than so many (own rule)
pub record AreAtMost (n : ℕ) (c : CreditRecord) : Type 0 where
  pub req : c.req_held ≤ n
  pub rwd : c.rwd_held ≤ n
  pub rsp : c.rsp_held ≤ n
  pub ndr : c.ndr_left ≤ n
  pub drs : c.drs_left ≤ n
  pub snp : c.snp_left ≤ n

-- each number of a host may be one more: it is at most 64 (own rule)
abbrev pub HasMore : CreditRecord → Type 0
HasMore c = AreAtMost 64 c

-- a Credit for a channel may be given back: a message of it is held (own rule)
abbrev pub MayGiveBack : Channel → CreditRecord → Type 0
MayGiveBack Channel.Req c = 1 ≤ c.req_held
MayGiveBack Channel.Rwd c = 1 ≤ c.rwd_held
MayGiveBack Channel.BiRsp c = 1 ≤ c.rsp_held
MayGiveBack Channel.Ndr c = Unit {0}
MayGiveBack Channel.Drs c = Unit {0}
MayGiveBack Channel.BiSnp c = Unit {0}
MayGiveBack Channel.CreditUp c = Unit {0}
MayGiveBack Channel.CreditDown c = Unit {0}

-- a message may be sent on a channel: a credit of it is left; the device sends on no other (own rule)
abbrev pub MaySpend : Channel → CreditRecord → Type 0
MaySpend Channel.Req c = ⊥
MaySpend Channel.Rwd c = ⊥
MaySpend Channel.BiRsp c = ⊥
MaySpend Channel.Ndr c = 1 ≤ c.ndr_left
MaySpend Channel.Drs c = 1 ≤ c.drs_left
MaySpend Channel.BiSnp c = 1 ≤ c.snp_left
MaySpend Channel.CreditUp c = ⊥
MaySpend Channel.CreditDown c = ⊥
