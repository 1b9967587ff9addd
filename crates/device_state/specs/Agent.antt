-- What a device agent is in its contract.
use Rattle.cxl_message.specs.Setup.{Configuration}
use Rattle.device_record.specs.Record.{DeviceRecord}

-- an agent: its setup, and what it keeps (own rule)
pub record AgentRecord : Type 0 where
  pub setup : Configuration
  pub kept : DeviceRecord
