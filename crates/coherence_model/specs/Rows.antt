-- The row of an event: its agent's row for its cause, with the credits for what is sent.
use Rattle.std.specs.Prelude.{Bool, List, Option, false, if◌then◌else◌, is_none, option_and_then, ℕ, ◌&&◌}
use Rattle.std.specs.Option.{option_eq, option_map_or}
use Rattle.cxl_message.specs.declared.events.Cause.{Cause}
use Rattle.cxl_message.specs.declared.events.Event.{Event}
use Rattle.cxl_message.specs.declared.identifiers.Bytes64.{Bytes64}
use Rattle.cxl_message.specs.declared.identifiers.Line.{Line}
use Rattle.cxl_message.specs.declared.states.RuleNo.{RuleNo}
use Rattle.cxl_message.specs.Events.{commit_eq, sends_eq}
use Rattle.cxl_message.specs.Setup.{Configuration}
use Rattle.coherence_model.specs.Credits.{lacking_channel}
use Rattle.coherence_model.specs.DeviceRows.{device_emission, device_rule}
use Rattle.coherence_model.specs.Emission.{Emission}
use Rattle.coherence_model.specs.Fitting.{is_device}
use Rattle.coherence_model.specs.HostRows.{host_emission, host_rule}
use Rattle.coherence_model.specs.Words.{when}

-- an emission whose credits reach (CXL 3.1, ch. 3: flow control by credits)
abbrev pub if_paid : Configuration → List Event → Emission → Option Emission
if_paid setup mine w = when (is_none (lacking_channel setup w.sends mine)) w

-- what the agent's row sends and commits, credits aside (own rule)
abbrev pub row_emission : Configuration → List (Line × Bytes64) → ℕ → Cause → List Event → Option Emission
row_emission setup opening g cause mine = if is_device g then device_emission setup opening cause mine else host_emission setup g cause mine

-- what a cause sends and commits at an agent after its own events; None where its row doesn't hold (own rule)
abbrev pub emission : Configuration → List (Line × Bytes64) → ℕ → Cause → List Event → Option Emission
emission setup opening g cause mine = option_and_then (if_paid setup mine) (row_emission setup opening g cause mine)

-- whether an event sends and commits just that (own rule)
abbrev pub is_emitted : Event → Emission → Bool
is_emitted e w = sends_eq e.sends w.sends && option_eq commit_eq e.commit w.commit

-- the row: its condition holds, and the event's sends and commit are those of the row (own rule)
abbrev pub row_holds : Configuration → List (Line × Bytes64) → Event → List Event → Bool
row_holds setup opening e mine = option_map_or (is_emitted e) (emission setup opening e.agent e.cause mine) false

-- the number of the row for a cause at an agent (own rule)
abbrev pub rule_of : Configuration → ℕ → Cause → List Event → RuleNo
rule_of setup g cause mine = if is_device g then device_rule cause else host_rule setup cause mine
