-- What a decision of the device emits.
use Rattle.std.specs.Prelude.{List, [], length, ◌<◌}
use Rattle.cxl_message.specs.declared.events.Sends.{Sends}
use Rattle.cxl_message.specs.declared.identifiers.Bytes64.{Bytes64}
use Rattle.cxl_message.specs.declared.messages.Message.{Message}
use Rattle.coherence_model.specs.DeviceActs.{grant_with_data}
use Rattle.coherence_model.specs.Emission.{Emission, nothing, one_send}
use Rattle.device_record.specs.Record.{bytes_in}
use Rattle.device_state.specs.declared.decisions.Decision.{Decision}

-- what a decision emits, with the bytes of memory (own rule)
abbrev pub emission_by : List Bytes64 → Decision → Emission
emission_by memory Decision.Nothing = nothing
emission_by memory (Decision.Completion h op tag) = one_send h (Message.Ndr op tag)
emission_by memory (Decision.Grant h op tag line) = grant_with_data op h tag.0 (bytes_in memory line.0)
emission_by memory (Decision.Snoop h op bitag line span) = one_send h (Message.BiSnp op bitag line span)
emission_by memory (Decision.Credit h c) = one_send h (Message.Credit c)

-- what a decision sends, but for the bytes of memory (own rule)
abbrev pub heads_sent : Decision → Sends
heads_sent d = (emission_by [] d).sends

-- the line whose data a decision sends exists (own rule)
abbrev pub HasLine : List Bytes64 → Decision → Type 0
HasLine memory Decision.Nothing = Unit {0}
HasLine memory (Decision.Completion h op tag) = Unit {0}
HasLine memory (Decision.Grant h op tag line) = line.0 < length memory
HasLine memory (Decision.Snoop h op bitag line span) = Unit {0}
HasLine memory (Decision.Credit h c) = Unit {0}
