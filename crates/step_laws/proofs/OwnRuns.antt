-- What it says of an agent that its row holds after its own events.
use Rattle.std.proofs.Common.{◌≡◌, ℕ, Bool, true, false, List, Option, Some, None, cond, refl, subst, arith}
use Rattle.std.specs.Prelude.{nat_lt, is_some, option_and_then}
use Rattle.std.specs.Option.{option_map_or}
use Rattle.std.proofs.lemmas.Bool.{cond-true, cond-false, ne_eqb, ltb-true, false≢true}
use Rattle.cxl_message.specs.declared.events.Event.{Event}
use Rattle.cxl_message.specs.declared.identifiers.Bytes64.{Bytes64}
use Rattle.cxl_message.specs.declared.identifiers.Line.{Line}
use Rattle.cxl_message.specs.Setup.{Configuration, IsWithinLimits}
use Rattle.coherence_model.specs.DeviceRows.{device_emission}
use Rattle.coherence_model.specs.Emission.{Emission}
use Rattle.coherence_model.specs.Fitting.{is_device}
use Rattle.coherence_model.specs.HostRows.{host_emission}
use Rattle.coherence_model.specs.Rows.{if_paid, is_emitted, row_emission, row_holds}
use Rattle.coherence_model.specs.Traces.{device}
use Rattle.coherence_model.specs.Words.{when}

-- where a row holds, it gives an emission
emission-some :
    (o : Option Emission) (paid : Emission → Option Emission) (p : Emission → Bool) → option_map_or p (option_and_then paid o) false ≡ true → is_some o ≡ true
emission-some None paid p h = h
emission-some (Some w) paid p h = refl

pub row-some :
    (setup : Configuration) (opening : List (Line × Bytes64)) (e : Event) (mine : List Event) → row_holds setup opening e mine ≡ true
    → is_some (row_emission setup opening e.agent e.cause mine) ≡ true
row-some setup opening e mine h = emission-some (row_emission setup opening e.agent e.cause mine) (if_paid setup mine) (is_emitted e) h

-- a host isn't the device
pub host_is_no_device : (setup : Configuration) → IsWithinLimits setup → (h : ℕ) → nat_lt h setup.hosts ≡ true → is_device h ≡ false
host_is_no_device setup limits h is = ne_eqb h device (λ same. let few = limits.hosts.1 in let low = ltb-true h setup.hosts is in omega arith)

-- the row of a host, and of the device
pub host-some :
    (setup : Configuration) (opening : List (Line × Bytes64)) (e : Event) (mine : List Event) → is_device e.agent ≡ false
    → row_holds setup opening e mine ≡ true → is_some (host_emission setup e.agent e.cause mine) ≡ true
host-some setup opening e mine host h =
    subst (λ o. is_some o ≡ true) (cond-false (is_device e.agent) (device_emission setup opening e.cause mine) (host_emission setup e.agent e.cause mine) host)
    (row-some setup opening e mine h)

pub device-some :
    (setup : Configuration) (opening : List (Line × Bytes64)) (e : Event) (mine : List Event) → is_device e.agent ≡ true → row_holds setup opening e mine ≡ true
    → is_some (device_emission setup opening e.cause mine) ≡ true
device-some setup opening e mine at h =
    subst (λ o. is_some o ≡ true) (cond-true (is_device e.agent) (device_emission setup opening e.cause mine) (host_emission setup e.agent e.cause mine) at)
    (row-some setup opening e mine h)

-- what a guard says of what it gives
pub when-some : {A : Type 0} (b : Bool) (o : Option A) → is_some (cond b o None) ≡ true → (b ≡ true) × (is_some o ≡ true)
when-some true o h = (refl, h)
when-some false o h = absurd (false≢true h)

pub guard-some : {A : Type 0} (b : Bool) (x : A) → is_some (when b x) ≡ true → b ≡ true
guard-some true x h = refl
guard-some false x h = h
