-- What the last of the device's own events says: its row, after those before it.
use Rattle.std.proofs.Common.{◌≡◌, ℕ, true, List, ◌∷◌, Some, subst}
use Rattle.cxl_message.specs.declared.events.Cause.{Cause}
use Rattle.cxl_message.specs.declared.events.Event.{Event}
use Rattle.cxl_message.specs.declared.events.Sends.{Sends}
use Rattle.cxl_message.specs.declared.identifiers.Bytes64.{Bytes64}
use Rattle.cxl_message.specs.declared.identifiers.Line.{Line}
use Rattle.cxl_message.specs.Setup.{Configuration}
use Rattle.coherence_model.specs.Emission.{Emission}
use Rattle.coherence_model.specs.Fitting.{cause_fits}
use Rattle.coherence_model.specs.OwnRuns.{IsOwnRun}
use Rattle.coherence_model.specs.Rows.{row_emission}
use Rattle.coherence_model.specs.Traces.{device}
use Rattle.coherence_model.proofs.OwnRuns.{own_event}
use Rattle.coherence_lemmas.proofs.Allowed.{emitted, profiled}
use Rattle.entry_laws.proofs.DeviceRows.{DeviceRow, device_row}

-- an event of the device says what its row says
row_at_device :
    (setup : Configuration) (opening : List (Line × Bytes64)) (g : ℕ) (cause : Cause) (sends : Sends) (past : List Event) (w : Emission) → g ≡ device
    → cause_fits setup g cause ≡ true → row_emission setup opening g cause past ≡ Some w → sends ≡ w.sends → DeviceRow setup cause sends past
row_at_device setup opening g cause sends past w is fits row same =
    device_row setup opening cause sends past w
    (subst (λ x. cause_fits setup x cause ≡ true) is fits)
    (subst (λ x. row_emission setup opening x cause past ≡ Some w) is row) same

-- the device's own events before the last, and the row of that one
pub device_event :
    (setup : Configuration) (opening : List (Line × Bytes64)) (e : Event) (past : List Event) → IsOwnRun setup opening device (e ∷ past)
    → IsOwnRun setup opening device past × DeviceRow setup e.cause e.sends past
device_event setup opening e past run =
    let own = own_event setup opening device e past run in
    let by = emitted setup opening e past own.row in
    (own.before, row_at_device setup opening e.agent e.cause e.sends past by.w own.agent (profiled setup e own.profile).cause by.row by.sends)
