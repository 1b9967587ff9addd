-- After every run the places of each tag of each host are kept: by recursion over the run.
use Rattle.std.proofs.Common.{◌≡◌, ℕ, Bool, true, false, IsTrue, List, [], ◌∷◌, ◌++◌, Some, cond, refl, sym, ◌∙◌, ap, subst, append-nil}
use Rattle.std.specs.Prelude.{◌&&◌, ◌==◌}
use Rattle.std.proofs.lemmas.Bool.{and_parts, cond-false, cond-true, eqb-true, not_from_false}
use Rattle.cxl_message.specs.declared.channels.Channel.{Channel}
use Rattle.cxl_message.specs.declared.events.Event.{Event}
use Rattle.cxl_message.specs.declared.identifiers.Bytes64.{Bytes64}
use Rattle.cxl_message.specs.declared.identifiers.Line.{Line}
use Rattle.cxl_message.specs.declared.messages.Message.{Message}
use Rattle.cxl_message.specs.Setup.{Configuration}
use Rattle.coherence_model.specs.Buffers.{buffered_requests, buffered_writes}
use Rattle.coherence_model.specs.DirectoryChanges.{directory}
use Rattle.coherence_model.specs.Fitting.{cause_fits, is_device}
use Rattle.coherence_model.specs.Flight.{in_flight, sends_on, takes_on, without_taken}
use Rattle.coherence_model.specs.Next.{receiver, sender}
use Rattle.coherence_model.specs.Rows.{row_emission}
use Rattle.coherence_model.specs.Runs.{IsRun, is_allowed, is_run}
use Rattle.coherence_model.specs.Tags.{open_with, tagged_line}
use Rattle.coherence_model.specs.Traces.{device, events_of}
use Rattle.coherence_model.specs.WriteBacks.{is_write_back_open}
use Rattle.coherence_lemmas.proofs.Allowed.{AllowedParts, allowed_parts}
use Rattle.coherence_lemmas.proofs.Channels.{sends_nothing}
use Rattle.coherence_lemmas.proofs.Flight.{others_take_nothing, taken_is_there}
use Rattle.coherence_lemmas.proofs.Queues.{count-without_taken}
use Rattle.coherence_lemmas.proofs.Rows.{host_row}
use Rattle.request_laws.proofs.DeviceCauses.{WasThere, device_places}
use Rattle.request_laws.proofs.HostPlaces.{Taken, cause_places}
use Rattle.request_laws.proofs.OpenLines.{open_leads_back}
use Rattle.coherence_model.proofs.OwnRuns.{events_of_run}
use Rattle.request_laws.proofs.Places.{Here, write_back_at}

-- the places of a tag, by a host's own events, the device's, and the messages in flight
abbrev pub PlacedBy : Configuration → ℕ → ℕ → (own dev : List Event) → (fr fw ndr drs : List Message) → Type 0
PlacedBy setup h tag own dev fr fw ndr drs =
    Here h tag (open_with tag own) (tagged_line tag own) (write_back_at setup tag (is_write_back_open setup own)) fr (buffered_requests h dev) fw (buffered_writes h dev) ndr drs (directory setup dev).task

abbrev pub PlacedAfter : Configuration → ℕ → ℕ → List Event → Type 0
PlacedAfter setup h tag t =
    PlacedBy setup h tag (events_of h t) (events_of device t) (in_flight h Channel.Req t) (in_flight h Channel.Rwd t) (in_flight h Channel.Ndr t) (in_flight h Channel.Drs t)

placed_as : (setup : Configuration) (h tag : ℕ) (own own' dev dev' : List Event) (fr fr' fw fw' ndr ndr' drs drs' : List Message) → own ≡ own' → dev ≡ dev' → fr ≡ fr' → fw ≡ fw' → ndr ≡ ndr' → drs ≡ drs'
    → PlacedBy setup h tag own dev fr fw ndr drs → PlacedBy setup h tag own' dev' fr' fw' ndr' drs'
placed_as setup h tag own own' dev dev' fr fr' fw fw' ndr ndr' drs drs' eo ed er ew en es inv =
    subst (λ x. PlacedBy setup h tag own' dev' fr' fw' ndr' x) es (subst (λ x. PlacedBy setup h tag own' dev' fr' fw' x drs) en (subst (λ x. PlacedBy setup h tag own' dev' fr' x ndr drs) ew
    (subst (λ x. PlacedBy setup h tag own' dev' x fw ndr drs) er (subst (λ x. PlacedBy setup h tag own' x fr fw ndr drs) ed (subst (λ x. PlacedBy setup h tag x dev fr fw ndr drs) eo inv)))))

module _ (setup : Configuration) (opening : List (Line × Bytes64)) (h : ℕ) (e : Event) (past : List Event) (parts : AllowedParts setup opening past e) where
  -- what this event takes from a channel counts, and was there
  pub taken : (c : Channel) → Taken (takes_on h c e.cause) (in_flight h c past)
  taken c p = count-without_taken p (takes_on h c e.cause) (in_flight h c past) (λ m takes. taken_is_there h c e.cause past m parts.take takes)

  pub there : (c : Channel) → WasThere (takes_on h c e.cause) (in_flight h c past)
  there c m takes = taken_is_there h c e.cause past m parts.take takes

  -- another agent than the receiver takes nothing, and another than the sender sends nothing
  pub only_sent : (c : Channel) → (e.agent == receiver h c) ≡ false → in_flight h c past ++ sends_on h c e ≡ in_flight h c (e ∷ past)
  only_sent c other = ap (λ o. without_taken o (in_flight h c past) ++ sends_on h c e) (sym (others_take_nothing setup h c e parts.profile.cause (not_from_false _ other)))

  pub only_taken : (c : Channel) → (e.agent == sender h c) ≡ false → without_taken (takes_on h c e.cause) (in_flight h c past) ≡ in_flight h c (e ∷ past)
  only_taken c other =
      sym (append-nil (without_taken (takes_on h c e.cause) (in_flight h c past))) ∙ ap (λ ms. without_taken (takes_on h c e.cause) (in_flight h c past) ++ ms) (sym (sends_nothing setup h c e parts.profile.sends other))

  pub neither : (c : Channel) → (e.agent == receiver h c) ≡ false → (e.agent == sender h c) ≡ false → in_flight h c past ≡ in_flight h c (e ∷ past)
  neither c not_receiver not_sender =
      sym (append-nil (in_flight h c past)) ∙ ap (λ ms. in_flight h c past ++ ms) (sym (sends_nothing setup h c e parts.profile.sends not_sender)) ∙ only_sent c not_receiver

-- an agent's own event, and another's
pub own_events : (g : ℕ) (e : Event) (past : List Event) → (e.agent == g) ≡ true → e ∷ events_of g past ≡ events_of g (e ∷ past)
own_events g e past is = sym (cond-true (e.agent == g) (e ∷ events_of g past) (events_of g past) is)

pub other_events : (g : ℕ) (e : Event) (past : List Event) → (e.agent == g) ≡ false → events_of g past ≡ events_of g (e ∷ past)
other_events g e past is = sym (cond-false (e.agent == g) (e ∷ events_of g past) (events_of g past) is)

-- one more event
module _ (setup : Configuration) (opening : List (Line × Bytes64)) (h tag : ℕ) (no_device : is_device h ≡ false) (e : Event) (past : List Event) (run : IsRun setup opening past)
    (parts : AllowedParts setup opening past e) (inv : PlacedAfter setup h tag past) where
  by_own : (e.agent == h) ≡ true → PlacedAfter setup h tag (e ∷ past)
  by_own is =
      let same = eqb-true e.agent h is in
      let other : (e.agent == device) ≡ false = ap (λ g. g == device) same ∙ no_device in
      placed_as setup h tag (e ∷ events_of h past) _ (events_of device past) _ _ _ _ _ _ _ _ _ (own_events h e past is) (other_events device e past other)
      (only_sent setup opening h e past parts Channel.Req other) (only_sent setup opening h e past parts Channel.Rwd other)
      (only_taken setup opening h e past parts Channel.Ndr other) (only_taken setup opening h e past parts Channel.Drs other)
      (cause_places setup h tag e.cause e.sends (events_of h past) parts.row.w (in_flight h Channel.Req past) (buffered_requests h (events_of device past)) (in_flight h Channel.Rwd past) (buffered_writes h (events_of device past))
      (in_flight h Channel.Ndr past) (in_flight h Channel.Drs past) (directory setup (events_of device past)).task
      (sym (host_row setup opening h e.cause (events_of h past) no_device) ∙ subst (λ g. row_emission setup opening g e.cause (events_of g past) ≡ Some parts.row.w) same parts.row.row) parts.row.sends
      (subst (λ g. IsTrue (cause_fits setup g e.cause)) same parts.profile.cause) (open_leads_back setup opening h no_device (events_of h past) (events_of_run setup opening h past run))
      (taken setup opening h e past parts Channel.Ndr) (taken setup opening h e past parts Channel.Drs) inv)

  by_device : (e.agent == h) ≡ false → (e.agent == device) ≡ true → PlacedAfter setup h tag (e ∷ past)
  by_device other is =
      let same = eqb-true e.agent device is in
      placed_as setup h tag (events_of h past) _ (e ∷ events_of device past) _ _ _ _ _ _ _ _ _ (other_events h e past other) (own_events device e past is)
      (only_taken setup opening h e past parts Channel.Req other) (only_taken setup opening h e past parts Channel.Rwd other)
      (only_sent setup opening h e past parts Channel.Ndr other) (only_sent setup opening h e past parts Channel.Drs other)
      (device_places setup opening h tag (open_with tag (events_of h past)) (tagged_line tag (events_of h past)) (write_back_at setup tag (is_write_back_open setup (events_of h past))) (events_of device past)
      (in_flight h Channel.Req past) (in_flight h Channel.Rwd past) (in_flight h Channel.Ndr past) (in_flight h Channel.Drs past) inv e.cause e.sends parts.row.w
      (subst (λ g. row_emission setup opening g e.cause (events_of g past) ≡ Some parts.row.w) same parts.row.row) parts.row.sends
      (taken setup opening h e past parts Channel.Req) (taken setup opening h e past parts Channel.Rwd) (there setup opening h e past parts Channel.Req) (there setup opening h e past parts Channel.Rwd))

  by_other : (e.agent == h) ≡ false → (e.agent == device) ≡ false → PlacedAfter setup h tag (e ∷ past)
  by_other other another =
      placed_as setup h tag (events_of h past) _ (events_of device past) _ _ _ _ _ _ _ _ _ (other_events h e past other) (other_events device e past another)
      (neither setup opening h e past parts Channel.Req another other) (neither setup opening h e past parts Channel.Rwd another other)
      (neither setup opening h e past parts Channel.Ndr other another) (neither setup opening h e past parts Channel.Drs other another) inv

  by_agent : (own dev : Bool) → (e.agent == h) ≡ own → (e.agent == device) ≡ dev → PlacedAfter setup h tag (e ∷ past)
  by_agent true dev is its = by_own is
  by_agent false true is its = by_device is its
  by_agent false false is its = by_other is its

  pub goes_on : PlacedAfter setup h tag (e ∷ past)
  goes_on = by_agent (e.agent == h) (e.agent == device) refl refl

none_at : (setup : Configuration) (tag : ℕ) → write_back_at setup tag false ≡ 0
none_at setup tag = none_if (tag == setup.tags)
  where
    none_if : (b : Bool) → ◌≡◌ {A = ℕ} (cond (b && false) 1 0) 0
    none_if true = refl
    none_if false = refl

pub placed : (setup : Configuration) (opening : List (Line × Bytes64)) (h tag : ℕ) → is_device h ≡ false → (t : List Event) → IsRun setup opening t → PlacedAfter setup h tag t
placed setup opening h tag no_device [] run =
    record { balanced = (refl, sym (none_at setup tag), refl, refl, refl); flying_requests = tt; held_requests = tt; flying_writes = tt; held_writes = tt; tasks = λ l t' there its. cc }
placed setup opening h tag no_device (e ∷ past) run =
    let runs = and_parts (is_run setup opening past) (is_allowed setup opening past e) run in
    goes_on setup opening h tag no_device e past runs.0 (allowed_parts setup opening past e runs.1) (placed setup opening h tag no_device past runs.0)
