-- What a step of the device asks of what it keeps.
use Rattle.std.specs.Prelude.{List, Some, true, ℕ, ◌<◌, ◌≡◌}
use Rattle.cxl_message.specs.declared.events.Cause.{Cause}
use Rattle.cxl_message.specs.declared.messages.Message.{Message}
use Rattle.cxl_message.specs.Codes.{span_len}
use Rattle.cxl_message.specs.Messages.{channel_of}
use Rattle.cxl_message.specs.Setup.{Configuration}
use Rattle.coherence_model.specs.Emission.{Emission, nothing}
use Rattle.coherence_model.specs.Refusals.{Answer}
use Rattle.snoop_filter.specs.declared.blocks.Block.{Block}
use Rattle.snoop_filter.specs.Rows.{FilterRow}
use Rattle.snoop_filter.specs.Victims.{victim_in}
use Rattle.device_record.specs.Answers.{answer_in, has_room_for, take_row}
use Rattle.device_record.specs.Changes.{device_after}
use Rattle.device_record.specs.Record.{DeviceRecord}
use Rattle.device_record.specs.Steady.{IsSteady}
use Rattle.device_changes.specs.FilterLines.{AreIdle}

-- each line of the victim has a row that isn't held (own rule)
abbrev pub VictimIsIdle : List FilterRow → Type 0
VictimIsIdle rows = (b : Block) → victim_in rows ≡ Some b → AreIdle rows b.first.0 (span_len b.span)

-- the device may step by a cause: it answers the cause by this emission, and what it keeps is steady before and after it (own rule)
pub record MayStep (setup : Configuration) (k : DeviceRecord) (cause : Cause) (w : Emission) : Type 0 where
  pub before : IsSteady setup k
  pub victim : VictimIsIdle k.filter.rows
  pub answer : answer_in setup cause k ≡ Answer.Emits w
  pub after : IsSteady setup (device_after setup cause w.sends k)

-- the device may take a message of a host: what it keeps is steady, the host exists, there is room, and the row holds (own rule)
pub record MayTake (setup : Configuration) (h : ℕ) (m : Message) (k : DeviceRecord) : Type 0 where
  pub steady : IsSteady setup k
  pub host : h < setup.hosts
  pub room : has_room_for setup.credits h (channel_of m) k ≡ true
  pub row : take_row setup h m k ≡ Some nothing
