-- Driving only adds events.
use Rattle.std.proofs.Common.{List, [], ap, length, reverse, sym, ℕ, ◌++◌, ◌-◌, ◌≡◌, ◌∙◌, ◌∷◌, true, false, refl, append_assoc}
use Rattle.std.proofs.lemmas.Bool.{cases_Bool}
use Rattle.std.proofs.lemmas.List.{reverse-append}
use Rattle.std.proofs.Common.{inl, inr}
use Rattle.std.specs.Prelude.{nat_lt}
use Rattle.cxl_message.specs.declared.events.Event.{Event}
use Rattle.cxl_message.specs.Script.{ScriptValue}
use Rattle.coherence_model.specs.Driven.{cut_at, driven_trace, event_bound, serial_trace, without_picks}
use Rattle.coherence_model.specs.Traces.{events_of}
use Rattle.driven_laws.specs.Reached.{IsOnTheWay}
use Rattle.serial_laws.proofs.Cut.{cut_step}
use Rattle.serial_laws.proofs.SerialWay.{cut_over, driven_goes_on}
use Rattle.serial_laws.specs.Cuts.{IsOnSerialWay}
use Rattle.step_driver.specs.Schedules.{IsOnWay, target}
use Rattle.step_driver.specs.declared.schedules.Schedule.{Schedule}

-- a trace goes on to a later one
pub record GoesTo (t whole : List Event) : Type 0 where
  pub later : List Event
  pub is : whole ≡ later ++ t

-- a trace on the way goes on to the driven one
to_driven : (script : ScriptValue) (picks : List ℕ) (t : List Event) → IsOnTheWay script picks t → GoesTo t (driven_trace script)
to_driven script picks t way = let rest = driven_goes_on script (event_bound script - length t) picks t in record { later = rest.0; is = sym way.comes ∙ rest.1 }

-- what is kept goes on with those of the later events that have room
kept_goes_on : (room : ℕ) (kept later : List Event) → GoesTo kept (cut_at room kept later)
kept_goes_on room kept [] = record { later = []; is = refl }
kept_goes_on room kept (e ∷ later) =
    elim (cases_Bool (nat_lt (length (events_of e.agent kept)) room)) [
      | inl has ↦
          let rest = kept_goes_on room (e ∷ kept) later in
          record { later = rest.later ++ e ∷ []; is = cut_step room kept e later true has ∙ rest.is ∙ sym (append_assoc rest.later (e ∷ []) kept) }
      | inr full ↦ record { later = []; is = cut_step room kept e later false full }
    ]

-- a trace on the way goes on to the serial one
to_serial : (script : ScriptValue) (t : List Event) → IsOnSerialWay script t → GoesTo t (serial_trace script)
to_serial script t on =
    let whole = to_driven (without_picks script) [] t on.way in
    let cut : serial_trace script ≡ cut_at script.room t (reverse whole.later) =
    ap (λ (u : List Event). cut_at script.room [] (reverse u)) whole.is ∙ ap (cut_at script.room []) (reverse-append whole.later t) ∙ cut_over script.room t (reverse whole.later) on.room in
    let rest = kept_goes_on script.room t (reverse whole.later) in
    record { later = rest.later; is = cut ∙ rest.is }

-- a trace on the way goes on to the one that is put
pub goes_to_target : (schedule : Schedule) (script : ScriptValue) (picks : List ℕ) (t : List Event) → IsOnWay schedule script picks t → GoesTo t (target schedule script)
goes_to_target Schedule.Picked script picks t way = to_driven script picks t way
goes_to_target Schedule.Serial script picks t way = to_serial script t way.1
