-- What an emission says: the agent's row emits it, and its credits reach.
use Rattle.std.proofs.Common.{◌≡◌, ℕ, true, false, List, Option, Some, None, refl, ◌∙◌, ap}
use Rattle.std.specs.Prelude.{is_none, option_and_then}
use Rattle.std.proofs.lemmas.Bool.{cond-false, cond-true}
use Rattle.cxl_message.specs.declared.channels.Channel.{Channel}
use Rattle.cxl_message.specs.declared.events.Cause.{Cause}
use Rattle.cxl_message.specs.declared.events.Event.{Event}
use Rattle.cxl_message.specs.declared.identifiers.Bytes64.{Bytes64}
use Rattle.cxl_message.specs.declared.identifiers.Line.{Line}
use Rattle.cxl_message.specs.declared.messages.Message.{Message}
use Rattle.cxl_message.specs.Setup.{Configuration}
use Rattle.coherence_model.specs.Credits.{has_room, lacking_channel}
use Rattle.coherence_model.specs.DeviceRows.{device_emission}
use Rattle.coherence_model.specs.DeviceTakes.{device_takes}
use Rattle.coherence_model.specs.Emission.{Emission}
use Rattle.coherence_model.specs.Fitting.{is_device}
use Rattle.coherence_model.specs.HostRows.{host_emission}
use Rattle.coherence_model.specs.HostTakes.{host_takes}
use Rattle.coherence_model.specs.Rows.{emission, if_paid, row_emission}
use Rattle.coherence_model.specs.Words.{when}
use Rattle.coherence_lemmas.proofs.Options.{Passed, and_then_some, if_some, none_is, when_some}

-- the row emits it, and no channel lacks a credit for it
pub record Paid (setup : Configuration) (opening : List (Line × Bytes64)) (g : ℕ) (cause : Cause) (mine : List Event) (w : Emission) : Type 0 where
  pub row : row_emission setup opening g cause mine ≡ Some w
  pub paid : lacking_channel setup w.sends mine ≡ None

pub emission-inv :
    (setup : Configuration) (opening : List (Line × Bytes64)) (g : ℕ) (cause : Cause) (mine : List Event) (w : Emission)
    → emission setup opening g cause mine ≡ Some w → Paid setup opening g cause mine w
emission-inv setup opening g cause mine w e =
    let chain = and_then_some (if_paid setup mine) (row_emission setup opening g cause mine) w e in
    let given = when_some (is_none (lacking_channel setup chain.x.sends mine)) chain.x w chain.same in
    let lacks = none_is (lacking_channel setup chain.x.sends mine) given.holds in
    record { row = chain.found ∙ cc (given.same); paid = ap (λ (x : Emission). lacking_channel setup x.sends mine) given.same ∙ lacks }

-- the other way round
paid_is : (setup : Configuration) (mine : List Event) (w : Emission) (lacking : Option Channel) → lacking ≡ None → when (is_none lacking) w ≡ Some w
paid_is setup mine w None e = refl
paid_is setup mine w (Some c) e = cc

emission_by :
    (setup : Configuration) (mine : List Event) (w : Emission) (row : Option Emission) → row ≡ Some w → lacking_channel setup w.sends mine ≡ None
    → option_and_then (if_paid setup mine) row ≡ Some w
emission_by setup mine w None is paid = cc
emission_by setup mine w (Some x) is paid =
    let same : x ≡ w = cc in
    ap (if_paid setup mine) same ∙ paid_is setup mine w (lacking_channel setup w.sends mine) paid

pub emission_from :
    (setup : Configuration) (opening : List (Line × Bytes64)) (g : ℕ) (cause : Cause) (mine : List Event) (w : Emission)
    → row_emission setup opening g cause mine ≡ Some w → lacking_channel setup w.sends mine ≡ None → emission setup opening g cause mine ≡ Some w
emission_from setup opening g cause mine w row paid = emission_by setup mine w (row_emission setup opening g cause mine) row paid

-- the row of the device, and of any other agent
pub device_row : (setup : Configuration) (opening : List (Line × Bytes64)) (g : ℕ) (cause : Cause) (mine : List Event) → is_device g ≡ true → row_emission setup opening g cause mine ≡ device_emission setup opening cause mine
device_row setup opening g cause mine is = cond-true (is_device g) (device_emission setup opening cause mine) (host_emission setup g cause mine) is

pub host_row : (setup : Configuration) (opening : List (Line × Bytes64)) (g : ℕ) (cause : Cause) (mine : List Event) → is_device g ≡ false → row_emission setup opening g cause mine ≡ host_emission setup g cause mine
host_row setup opening g cause mine is = cond-false (is_device g) (device_emission setup opening cause mine) (host_emission setup g cause mine) is

-- a take has room for its message
pub host_take-inv :
    (setup : Configuration) (g k : ℕ) (m : Message) (mine : List Event) (w : Emission)
    → host_emission setup g (Cause.Take k m) mine ≡ Some w → Passed (has_room setup g m mine) (host_takes setup g m mine) w
host_take-inv setup g k m mine w e = if_some (has_room setup g m mine) (host_takes setup g m mine) w e

pub device_take-inv :
    (setup : Configuration) (opening : List (Line × Bytes64)) (k : ℕ) (m : Message) (mine : List Event) (w : Emission)
    → device_emission setup opening (Cause.Take k m) mine ≡ Some w → Passed (has_room setup k m mine) (device_takes setup k m mine) w
device_take-inv setup opening k m mine w e = if_some (has_room setup k m mine) (device_takes setup k m mine) w e
