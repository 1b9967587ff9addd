-- Driving without picks while there is room comes to the serial trace.
use Rattle.std.proofs.Common.{◌≡◌, ℕ, zero, suc, ◌-◌, ◌<◌, ◌≤◌, Bool, true, false, cond, List, [], ◌∷◌, ◌++◌, length, reverse, Option, Some, None, refl, ap, sym, ◌∙◌, arith, append-nil, append_assoc, inl, inr}
use Rattle.std.specs.Prelude.{◌==◌}
use Rattle.std.proofs.lemmas.Bool.{cases_Bool, eq-eqb, false≢true, le-ltb, lt-ltb}
use Rattle.std.proofs.lemmas.List.{reverse-append}
use Rattle.cxl_message.specs.declared.events.Event.{Event}
use Rattle.cxl_message.specs.Script.{ScriptValue}
use Rattle.coherence_model.specs.Choices.{choices, is_done}
use Rattle.coherence_model.specs.Driven.{cut_at, driven_on, driven_trace, event_bound, go_on, pick_from, pick_now, picks_left, without_picks}
use Rattle.coherence_model.specs.Traces.{events_of}
use Rattle.driven_laws.proofs.OnTheWay.{way_begins, way_ends, way_goes_on}
use Rattle.driven_laws.proofs.Reached.{driving_goes_on, driving_stops}
use Rattle.serial_laws.specs.Cuts.{HasRoom}
use Rattle.serial_laws.specs.Laws.{SerialBegins, SerialEnds, SerialGoesOn, SerialStops}
use Rattle.serial_laws.proofs.Cut.{cut_step, fits_more, one_moved, zero_fits}
use Rattle.serial_laws.proofs.Serial.{can_without}

-- a trace that fits is kept whole
pub cut_over : (room : ℕ) (t rest : List Event) → HasRoom room t → cut_at room [] (reverse t ++ rest) ≡ cut_at room t rest
cut_over room [] rest fits = refl
cut_over room (e ∷ t) rest fits =
    ap (cut_at room []) (one_moved e t rest)
    ∙ cut_over room t (e ∷ rest) (λ g. fewer g (e.agent == g) (fits g))
    ∙ cut_step room t e rest true (lt-ltb (length (events_of e.agent t)) room (less (e.agent == e.agent) (eq-eqb e.agent e.agent refl) (fits e.agent)))
  where
    fewer : (g : ℕ) (own : Bool) → length (cond own (e ∷ events_of g t) (events_of g t)) ≤ room → length (events_of g t) ≤ room
    fewer g true le = omega (arith, le)
    fewer g false le = le

    less : (own : Bool) → own ≡ true → length (cond own (e ∷ events_of e.agent t) (events_of e.agent t)) ≤ room → length (events_of e.agent t) < room
    less true is le = omega (arith, le)
    less false is le = absurd (false≢true is)

-- what driving on comes to goes on from where it began
driven_by :
    (script : ScriptValue) (n : ℕ) (picks : List ℕ) (t : List Event) (o : Option Event) → ((u : List Event) → (later : List Event) × (driven_on n script picks u ≡ later ++ u))
    → (later : List Event) × (go_on o t (driven_on n script picks) ≡ later ++ t)
driven_by script n picks t None more = ([], refl)
driven_by script n picks t (Some e) more =
    let rest = more (e ∷ t) in
    (rest.0 ++ e ∷ [], rest.1 ∙ sym (append_assoc rest.0 (e ∷ []) t))

pub driven_goes_on : (script : ScriptValue) (n : ℕ) (picks : List ℕ) (t : List Event) → (later : List Event) × (driven_on n script picks t ≡ later ++ t)
driven_goes_on script zero picks t = ([], refl)
driven_goes_on script (suc n) picks t =
    elim (cases_Bool (is_done script t)) [
      | inl done ↦ ([], driving_stops script n picks t done)
      | inr more ↦
          let rest = driven_by script n (picks_left picks) t (pick_from (pick_now picks) (choices script t)) (driven_goes_on script n (picks_left picks)) in
          (rest.0, driving_goes_on script n picks t more ∙ rest.1)
    ]

pub serial_begins : SerialBegins
serial_begins script = record { way = way_begins (without_picks script); room = λ g. zero_fits script.room }

pub serial_goes_on : SerialGoesOn
serial_goes_on script can t e on more picked has = record {
  way = way_goes_on (without_picks script) (can_without script can) [] t e on.way more picked;
  room = fits_more script.room e t on.room has;
}

pub serial_ends : SerialEnds
serial_ends script t on done =
    let same = way_ends (without_picks script) [] t on.way done in
    sym (ap (λ (u : List Event). cut_at script.room [] (reverse u)) (sym same) ∙ ap (cut_at script.room []) (sym (append-nil (reverse t))) ∙ cut_over script.room t [] on.room)

pub serial_stops : SerialStops
serial_stops script can t e on more picked full =
    let bare = without_picks script in
    let next = way_goes_on bare (can_without script can) [] t e on.way more picked in
    let rest = driven_goes_on bare (event_bound bare - length (e ∷ t)) [] (e ∷ t) in
    let whole : driven_trace bare ≡ rest.0 ++ (e ∷ t) = sym next.comes ∙ rest.1 in
    sym (ap (λ (u : List Event). cut_at script.room [] (reverse u)) whole
    ∙ ap (cut_at script.room []) (reverse-append rest.0 (e ∷ t) ∙ one_moved e t (reverse rest.0))
    ∙ cut_over script.room t (e ∷ reverse rest.0) on.room
    ∙ cut_step script.room t e (reverse rest.0) false (le-ltb (length (events_of e.agent t)) script.room full))
