-- The laws of what the queues hold.
use Rattle.std.proofs.Common.{◌≡◌, ℕ, ◌*◌, ◌/◌, ◌≤◌, true, IsTrue, List, ◌∷◌, ◌++◌, length, refl, ap, sym, ◌∙◌, subst, arith}
use Rattle.cxl_message.specs.declared.channels.Channel.{Channel}
use Rattle.cxl_message.specs.declared.events.Event.{Event}
use Rattle.cxl_message.specs.declared.identifiers.Bytes64.{Bytes64}
use Rattle.cxl_message.specs.declared.identifiers.Line.{Line}
use Rattle.cxl_message.specs.Channels.{has_credits}
use Rattle.cxl_message.specs.Events.{outs}
use Rattle.cxl_message.specs.Setup.{Configuration}
use Rattle.coherence_model.specs.Flight.{in_flight}
use Rattle.coherence_model.specs.Runs.{IsRun, is_allowed, is_run}
use Rattle.std.proofs.lemmas.Bool.{and_parts}
use Rattle.bound_laws.proofs.Rooms.{in_flight_fits}
use Rattle.credit_laws.proofs.Laws.{credits_of_channels_add_up}
use Rattle.coherence_lemmas.proofs.Allowed.{allowed_parts}
use Rattle.link_queues.specs.Laws.{FlightGoesOn, SendsHaveRoom, TakesAreThere}
use Rattle.link_queues.specs.Links.{HasRoomFor, LinkRecord, TakesFromHost, after_cause, after_sends, channel_at, links_after, queue_place, room_of}
use Rattle.link_queues.proofs.Flights.{channel_there, host_there}
use Rattle.link_queues.proofs.Moves.{SendsWithin, TakesWithin, after_cause_is, after_sends_is, left_at, links_of, room_for_sends, sends_within, sent_to, takes_within}
use Rattle.cxl_message.specs.declared.events.Cause.{Cause}

-- the parts of the last event of a run
last_parts : (setup : Configuration) (opening : List (Line × Bytes64)) (e : Event) (t : List Event) → IsRun setup opening (e ∷ t)
    → TakesWithin setup e.cause × SendsWithin setup e.sends
last_parts setup opening e t run =
    let parts = and_parts (is_run setup opening t) (is_allowed setup opening t e) run in
    let profile = (allowed_parts setup opening t e parts.1).profile in
    (takes_within setup e.agent e.cause profile.cause, sends_within setup e.agent e.sends profile.sends)

-- a channel with credits has no more in flight than the credits
credited : (setup : Configuration) (opening : List (Line × Bytes64)) (t : List Event) → IsRun setup opening t → (h : ℕ) (c : Channel) → has_credits c ≡ true
    → length (in_flight h c t) ≤ setup.credits
credited setup opening t run h c has = let sum = credits_of_channels_add_up setup opening t run h c has in omega arith

-- what is in flight fits
fits : (setup : Configuration) (opening : List (Line × Bytes64)) (t : List Event) → IsRun setup opening t → (h : ℕ) (c : Channel) → length (in_flight h c t) ≤ room_of setup.credits c
fits setup opening t run h Channel.Req = credited setup opening t run h Channel.Req refl
fits setup opening t run h Channel.Rwd = credited setup opening t run h Channel.Rwd refl
fits setup opening t run h Channel.BiRsp = credited setup opening t run h Channel.BiRsp refl
fits setup opening t run h Channel.Ndr = credited setup opening t run h Channel.Ndr refl
fits setup opening t run h Channel.Drs = credited setup opening t run h Channel.Drs refl
fits setup opening t run h Channel.BiSnp = credited setup opening t run h Channel.BiSnp refl
fits setup opening t run h Channel.CreditUp = in_flight_fits setup opening t run h Channel.CreditUp
fits setup opening t run h Channel.CreditDown = in_flight_fits setup opening t run h Channel.CreditDown

-- also at its place among the queues
fits_there : (setup : Configuration) (opening : List (Line × Bytes64)) (e : Event) (t : List Event) → IsRun setup opening (e ∷ t) → (h : ℕ) (c : Channel)
    → length (left_at t e.cause (queue_place h c) ++ sent_to (queue_place h c) (outs e.sends)) ≤ room_of setup.credits c
fits_there setup opening e t run h c =
    let same : in_flight (queue_place h c / 8) (channel_at (queue_place h c)) (e ∷ t) ≡ in_flight h c (e ∷ t) = λ i. in_flight (host_there h c i) (channel_there h c i) (e ∷ t) in
    subst (λ ms. length ms ≤ room_of setup.credits c) (sym same) (fits setup opening (e ∷ t) run h c)

takes_there : (setup : Configuration) (t : List Event) (cause : Cause) → TakesWithin setup cause → TakesFromHost (links_after setup t) cause
takes_there setup t (Cause.Op s i op) within = tt
takes_there setup t (Cause.Take h m) within = within
takes_there setup t (Cause.Act act) within = tt

pub takes_are_there : TakesAreThere
takes_are_there links setup opening t e holds run =
    subst (λ l. TakesFromHost l e.cause) (sym holds) (takes_there setup t e.cause (last_parts setup opening e t run).0)

pub sends_have_room : SendsHaveRoom
sends_have_room links setup opening t e holds run =
    let parts = last_parts setup opening e t run in
    subst (λ l. HasRoomFor l e.sends) (sym (ap (after_cause e.cause) holds ∙ after_cause_is setup t e.cause parts.0))
    (room_for_sends setup (left_at t e.cause) e.sends parts.1 (fits_there setup opening e t run))

pub flight_goes_on : FlightGoesOn
flight_goes_on links setup opening t e holds run =
    let parts = last_parts setup opening e t run in
    ap (λ l. after_sends e.sends (after_cause e.cause l)) holds ∙ ap (after_sends e.sends) (after_cause_is setup t e.cause parts.0)
    ∙ after_sends_is setup (left_at t e.cause) e.sends parts.1
