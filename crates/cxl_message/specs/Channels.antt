-- Which channels have credits, and which way they go.
use Rattle.std.specs.Prelude.{Bool, true, false}
use Rattle.cxl_message.specs.declared.channels.Channel.{Channel}

-- whether a channel has credits: it is one of the first six (CXL 3.1, ch. 3: channels are flow-controlled by credits)
abbrev pub has_credits : Channel → Bool
has_credits Channel.Req = true
has_credits Channel.Rwd = true
has_credits Channel.BiRsp = true
has_credits Channel.Ndr = true
has_credits Channel.Drs = true
has_credits Channel.BiSnp = true
has_credits Channel.CreditUp = false
has_credits Channel.CreditDown = false

-- whether a channel goes from the host to the device (CXL 3.1, ch. 3: M2S Req, RwD and BIRsp; own rule: CreditUp)
abbrev pub goes_to_device : Channel → Bool
goes_to_device Channel.Req = true
goes_to_device Channel.Rwd = true
goes_to_device Channel.BiRsp = true
goes_to_device Channel.Ndr = false
goes_to_device Channel.Drs = false
goes_to_device Channel.BiSnp = false
goes_to_device Channel.CreditUp = true
goes_to_device Channel.CreditDown = false

-- the channel on which the Credits for a channel go: back to that channel's sender (own rule)
abbrev pub credit_channel : Channel → Channel
credit_channel Channel.Req = Channel.CreditDown
credit_channel Channel.Rwd = Channel.CreditDown
credit_channel Channel.BiRsp = Channel.CreditDown
credit_channel Channel.Ndr = Channel.CreditUp
credit_channel Channel.Drs = Channel.CreditUp
credit_channel Channel.BiSnp = Channel.CreditUp
credit_channel Channel.CreditUp = Channel.CreditUp
credit_channel Channel.CreditDown = Channel.CreditUp
