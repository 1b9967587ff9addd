-- The induction over a run as one host sees it: by its own events, the device's, and the messages in flight between them.
use Rattle.std.proofs.Common.{◌≡◌, ℕ, Bool, true, false, IsTrue, List, [], ◌∷◌, ◌++◌, Some, refl, sym, ◌∙◌, ap, subst}
use Rattle.std.specs.Prelude.{◌==◌}
use Rattle.std.proofs.lemmas.Bool.{and_parts, eqb-true}
use Rattle.cxl_message.specs.declared.channels.Channel.{Channel}
use Rattle.cxl_message.specs.declared.events.Event.{Event}
use Rattle.cxl_message.specs.declared.identifiers.Bytes64.{Bytes64}
use Rattle.cxl_message.specs.declared.identifiers.Line.{Line}
use Rattle.cxl_message.specs.declared.messages.Message.{Message}
use Rattle.cxl_message.specs.Setup.{Configuration}
use Rattle.coherence_model.specs.DeviceRows.{device_emission}
use Rattle.coherence_model.specs.Fitting.{cause_fits, is_device}
use Rattle.coherence_model.specs.Flight.{in_flight, sends_on, takes_on, without_taken}
use Rattle.coherence_model.specs.HostRows.{host_emission}
use Rattle.coherence_model.specs.Rows.{row_emission}
use Rattle.coherence_model.specs.Runs.{IsRun, is_allowed, is_run}
use Rattle.coherence_model.specs.Traces.{device, events_of}
use Rattle.coherence_lemmas.proofs.Allowed.{AllowedParts, allowed_parts}
use Rattle.coherence_lemmas.proofs.Rows.{device_row, host_row}
use Rattle.request_laws.proofs.AllPlaces.{neither, only_sent, only_taken, other_events, own_events}

-- a fact of a host's own events, the device's, and the messages in flight on Req, RwD, NDR and BIRsp
abbrev pub Seen : Type 1
Seen = (own dev : List Event) (fr fw ndr rs : List Message) → Type 0

-- a predicate of a host's view, at what a trace gives
abbrev pub seen_at : Seen → ℕ → List Event → Type 0
seen_at P h t = P (events_of h t) (events_of device t) (in_flight h Channel.Req t) (in_flight h Channel.Rwd t) (in_flight h Channel.Ndr t) (in_flight h Channel.BiRsp t)

-- equal views have it alike
seen_as : (P : Seen) (own own' dev dev' : List Event) (fr fr' fw fw' ndr ndr' rs rs' : List Message) → own ≡ own' → dev ≡ dev' → fr ≡ fr' → fw ≡ fw' → ndr ≡ ndr' → rs ≡ rs'
    → P own dev fr fw ndr rs → P own' dev' fr' fw' ndr' rs'
seen_as P own own' dev dev' fr fr' fw fw' ndr ndr' rs rs' eo ed er ew en es holds =
    subst (λ x. P own' dev' fr' fw' ndr' x) es (subst (λ x. P own' dev' fr' fw' x rs) en (subst (λ x. P own' dev' fr' x ndr rs) ew
    (subst (λ x. P own' dev' x fw ndr rs) er (subst (λ x. P own' x fr fw ndr rs) ed (subst (λ x. P x dev fr fw ndr rs) eo holds)))))

-- an event of the host after a run, by its row
pub record HostEvent (setup : Configuration) (opening : List (Line × Bytes64)) (h : ℕ) (e : Event) (past : List Event) : Type 0 where
  pub run : IsRun setup opening past
  pub next : IsRun setup opening (e ∷ past)
  pub parts : AllowedParts setup opening past e
  pub row : host_emission setup h e.cause (events_of h past) ≡ Some parts.row.w
  pub fits : IsTrue (cause_fits setup h e.cause)

-- an event of the device after a run, by its row
pub record DeviceEvent (setup : Configuration) (opening : List (Line × Bytes64)) (e : Event) (past : List Event) : Type 0 where
  pub run : IsRun setup opening past
  pub next : IsRun setup opening (e ∷ past)
  pub parts : AllowedParts setup opening past e
  pub row : device_emission setup opening e.cause (events_of device past) ≡ Some parts.row.w
  pub fits : IsTrue (cause_fits setup device e.cause)

-- what the host's event makes of what is seen, and what the device's does
abbrev pub after_host : Seen → ℕ → Event → List Event → Type 0
after_host P h e past =
    P (e ∷ events_of h past) (events_of device past) (in_flight h Channel.Req past ++ sends_on h Channel.Req e) (in_flight h Channel.Rwd past ++ sends_on h Channel.Rwd e)
    (without_taken (takes_on h Channel.Ndr e.cause) (in_flight h Channel.Ndr past)) (in_flight h Channel.BiRsp past ++ sends_on h Channel.BiRsp e)

-- the predicate at what the view is after the device's event
abbrev pub after_device : Seen → ℕ → Event → List Event → Type 0
after_device P h e past =
    P (events_of h past) (e ∷ events_of device past) (without_taken (takes_on h Channel.Req e.cause) (in_flight h Channel.Req past)) (without_taken (takes_on h Channel.Rwd e.cause) (in_flight h Channel.Rwd past))
    (in_flight h Channel.Ndr past ++ sends_on h Channel.Ndr e) (without_taken (takes_on h Channel.BiRsp e.cause) (in_flight h Channel.BiRsp past))

module _ (setup : Configuration) (opening : List (Line × Bytes64)) (h : ℕ) (no_device : is_device h ≡ false) (P : Seen)
    (by_host : (e : Event) (past : List Event) → HostEvent setup opening h e past → seen_at P h past → after_host P h e past)
    (by_device : (e : Event) (past : List Event) → DeviceEvent setup opening e past → seen_at P h past → after_device P h e past) where
  -- one event keeps it, by whose event it is
  step : (e : Event) (past : List Event) → IsRun setup opening past → IsRun setup opening (e ∷ past) → AllowedParts setup opening past e → seen_at P h past → (own dev : Bool) → (e.agent == h) ≡ own → (e.agent == device) ≡ dev → seen_at P h (e ∷ past)
  step e past run next parts old true dev is its =
      let same = eqb-true e.agent h is in
      let other : (e.agent == device) ≡ false = ap (λ g. g == device) same ∙ no_device in
      seen_as P _ _ _ _ _ _ _ _ _ _ _ _ (own_events h e past is) (other_events device e past other) (only_sent setup opening h e past parts Channel.Req other) (only_sent setup opening h e past parts Channel.Rwd other)
      (only_taken setup opening h e past parts Channel.Ndr other) (only_sent setup opening h e past parts Channel.BiRsp other)
      (by_host e past
      (record {
        run = run;
        next = next;
        parts = parts;
        row = sym (host_row setup opening h e.cause (events_of h past) no_device) ∙ subst (λ g. row_emission setup opening g e.cause (events_of g past) ≡ Some parts.row.w) same parts.row.row;
        fits = subst (λ g. IsTrue (cause_fits setup g e.cause)) same parts.profile.cause;
      }) old)
  step e past run next parts old false true is its =
      let same = eqb-true e.agent device its in
      seen_as P _ _ _ _ _ _ _ _ _ _ _ _ (other_events h e past is) (own_events device e past its) (only_taken setup opening h e past parts Channel.Req is) (only_taken setup opening h e past parts Channel.Rwd is)
      (only_sent setup opening h e past parts Channel.Ndr is) (only_taken setup opening h e past parts Channel.BiRsp is)
      (by_device e past
      (record {
        run = run;
        next = next;
        parts = parts;
        row = sym (device_row setup opening device e.cause (events_of device past) refl) ∙ subst (λ g. row_emission setup opening g e.cause (events_of g past) ≡ Some parts.row.w) same parts.row.row;
        fits = subst (λ g. IsTrue (cause_fits setup g e.cause)) same parts.profile.cause;
      }) old)
  step e past run next parts old false false is its =
      seen_as P _ _ _ _ _ _ _ _ _ _ _ _ (other_events h e past is) (other_events device e past its) (neither setup opening h e past parts Channel.Req its is) (neither setup opening h e past parts Channel.Rwd its is)
      (neither setup opening h e past parts Channel.Ndr is its) (neither setup opening h e past parts Channel.BiRsp its is) old

  -- what holds at the start and is kept by each event holds after every run
  pub always : P [] [] [] [] [] [] → (t : List Event) → IsRun setup opening t → seen_at P h t
  always start [] run = start
  always start (e ∷ past) run =
      let runs = and_parts (is_run setup opening past) (is_allowed setup opening past e) run in
      step e past runs.0 run (allowed_parts setup opening past e runs.1) (always start past runs.0) (e.agent == h) (e.agent == device) refl refl
