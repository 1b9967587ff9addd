-- After every run the lines of each host's snoops are in their places.
use Rattle.std.proofs.Common.{◌≡◌, ℕ, Bool, true, false, IsTrue, List, [], ◌∷◌, ◌++◌, Option, None, Some, cond, refl, sym, ◌∙◌, ap, subst, arith}
use Rattle.std.specs.Prelude.{◌==◌}
use Rattle.std.specs.List.{list_any}
use Rattle.std.proofs.lemmas.Bool.{and_parts, eq-eqb, eqb-true, false≢true, ltb-true, ne_eqb, not_from_false}
use Rattle.std.proofs.lemmas.List.{append-nil}
use Rattle.cxl_message.specs.declared.channels.Channel.{Channel}
use Rattle.cxl_message.specs.declared.events.Event.{Event}
use Rattle.cxl_message.specs.declared.identifiers.Bytes64.{Bytes64}
use Rattle.cxl_message.specs.declared.identifiers.Line.{Line}
use Rattle.cxl_message.specs.declared.messages.Message.{Message}
use Rattle.cxl_message.specs.Messages.{message_eq}
use Rattle.cxl_message.specs.Setup.{Configuration, IsWithinLimits}
use Rattle.coherence_model.specs.Fitting.{cause_fits, is_device, is_host}
use Rattle.coherence_model.specs.Flight.{in_flight, sends_on, takes_on, without_taken}
use Rattle.coherence_model.specs.HostRows.{host_emission}
use Rattle.coherence_model.specs.DeviceRows.{device_emission}
use Rattle.coherence_model.specs.Next.{receiver, sender}
use Rattle.coherence_model.specs.Rows.{row_emission}
use Rattle.coherence_model.specs.Runs.{IsRun, is_allowed, is_run}
use Rattle.coherence_model.specs.SentSnoops.{SentSnoop, sent_snoop_at}
use Rattle.coherence_model.specs.Snoops.{Snoop, buffered_snoops}
use Rattle.coherence_model.specs.Traces.{device, events_of}
use Rattle.coherence_lemmas.proofs.Allowed.{AllowedParts, allowed_parts}
use Rattle.coherence_lemmas.proofs.Channels.{sends_nothing}
use Rattle.coherence_lemmas.proofs.Flight.{others_take_nothing, taken_is_there}
use Rattle.coherence_lemmas.proofs.Rows.{device_row, host_row}
use Rattle.coherence_model.proofs.OwnRuns.{events_of_run}
use Rattle.snoop_laws.proofs.DeviceEvents.{device_event}
use Rattle.snoop_laws.proofs.HostEvents.{host_event}
use Rattle.snoop_laws.proofs.Places.{AreSent, Placed}
use Rattle.snoop_laws.proofs.SentSnoops.{snoops_fit}

-- a host isn't the device
pub host_is_no_device : (setup : Configuration) → IsWithinLimits setup → (h : ℕ) → IsTrue (is_host setup h) → is_device h ≡ false
host_is_no_device setup limits h host =
    let less = ltb-true h setup.hosts host in
    let few = limits.hosts.1 in
    ne_eqb h device (λ same. omega arith)

-- the snoops that were sent have some of their lines left
pub are_sent : (setup : Configuration) (opening : List (Line × Bytes64)) (t : List Event) → IsRun setup opening t → (h : ℕ) → AreSent (λ f. sent_snoop_at h f (events_of device t))
are_sent setup opening t run h f q asked =
    let fits = snoops_fit setup opening (events_of device t) (events_of_run setup opening device t run) h f q asked in
    record { part = fits.part; some = fits.some }

-- the places of the lines of a host's snoops
abbrev pub PlacedAfter : ℕ → List Event → Type 0
PlacedAfter h t = Placed (λ f. sent_snoop_at h f (events_of device t)) (in_flight h Channel.BiSnp t) (buffered_snoops (events_of h t)) (in_flight h Channel.BiRsp t)

-- where nothing is sent on a channel
none_more : (ms more : List Message) → more ≡ [] → ms ++ more ≡ ms
none_more ms more none = ap (λ xs. ms ++ xs) none ∙ append-nil ms

module _ (setup : Configuration) (opening : List (Line × Bytes64)) (h : ℕ) (host : is_device h ≡ false) (e : Event) (past : List Event) (parts : AllowedParts setup opening past e)
    (sent : AreSent (λ f. sent_snoop_at h f (events_of device past))) (placed : PlacedAfter h past) where
  -- no other agent takes from a channel, or sends there
  not_taken : (c : Channel) (g : ℕ) → receiver h c ≡ g → (e.agent == g) ≡ false → takes_on h c e.cause ≡ None
  not_taken c g is other = others_take_nothing setup h c e parts.profile.cause (not_from_false _ (subst (λ x. (e.agent == x) ≡ false) (sym is) other))

  not_sent : (c : Channel) (g : ℕ) → sender h c ≡ g → (e.agent == g) ≡ false → sends_on h c e ≡ []
  not_sent c g is other = sends_nothing setup h c e parts.profile.sends (subst (λ x. (e.agent == x) ≡ false) (sym is) other)

  snoops_stay : (e.agent == h) ≡ false → in_flight h Channel.BiSnp (e ∷ past) ≡ in_flight h Channel.BiSnp past ++ sends_on h Channel.BiSnp e
  snoops_stay other = ap (λ o. without_taken o (in_flight h Channel.BiSnp past) ++ sends_on h Channel.BiSnp e) (not_taken Channel.BiSnp h refl other)

  snoops_taken : (e.agent == device) ≡ false → in_flight h Channel.BiSnp (e ∷ past) ≡ without_taken (takes_on h Channel.BiSnp e.cause) (in_flight h Channel.BiSnp past)
  snoops_taken other = none_more (without_taken (takes_on h Channel.BiSnp e.cause) (in_flight h Channel.BiSnp past)) (sends_on h Channel.BiSnp e) (not_sent Channel.BiSnp device refl other)

  answers_stay : (e.agent == device) ≡ false → in_flight h Channel.BiRsp (e ∷ past) ≡ in_flight h Channel.BiRsp past ++ sends_on h Channel.BiRsp e
  answers_stay other = ap (λ o. without_taken o (in_flight h Channel.BiRsp past) ++ sends_on h Channel.BiRsp e) (not_taken Channel.BiRsp device refl other)

  answers_taken : (e.agent == h) ≡ false → in_flight h Channel.BiRsp (e ∷ past) ≡ without_taken (takes_on h Channel.BiRsp e.cause) (in_flight h Channel.BiRsp past)
  answers_taken other = none_more (without_taken (takes_on h Channel.BiRsp e.cause) (in_flight h Channel.BiRsp past)) (sends_on h Channel.BiRsp e) (not_sent Channel.BiRsp h refl other)

  there : (c : Channel) (m : Message) → takes_on h c e.cause ≡ Some m → list_any (message_eq m) (in_flight h c past) ≡ true
  there c m takes = taken_is_there h c e.cause past m parts.take takes

  device_emits : (e.agent == device) ≡ true → device_emission setup opening e.cause (events_of device past) ≡ Some parts.row.w
  device_emits own =
      sym (device_row setup opening device e.cause (events_of device past) refl)
      ∙ subst (λ g. row_emission setup opening g e.cause (events_of g past) ≡ Some parts.row.w) (eqb-true e.agent device own) parts.row.row

  host_emits : (e.agent == h) ≡ true → host_emission setup h e.cause (events_of h past) ≡ Some parts.row.w
  host_emits own =
      sym (host_row setup opening h e.cause (events_of h past) host)
      ∙ subst (λ g. row_emission setup opening g e.cause (events_of g past) ≡ Some parts.row.w) (eqb-true e.agent h own) parts.row.row

  at_device : (e.agent == device) ≡ true → (e.agent == h) ≡ false
      → Placed (λ f. sent_snoop_at h f (e ∷ events_of device past)) (in_flight h Channel.BiSnp (e ∷ past)) (buffered_snoops (events_of h past)) (in_flight h Channel.BiRsp (e ∷ past))
  at_device own other =
      let asked : ℕ → Option SentSnoop = λ f. sent_snoop_at h f (e ∷ events_of device past) in
      let ss : List Snoop = buffered_snoops (events_of h past) in
      subst (λ bs. Placed asked bs ss (in_flight h Channel.BiRsp (e ∷ past))) (sym (snoops_stay other))
      (subst (λ rs. Placed asked (in_flight h Channel.BiSnp past ++ sends_on h Channel.BiSnp e) ss rs) (sym (answers_taken other))
      (device_event setup opening h (events_of device past) (in_flight h Channel.BiSnp past) ss (in_flight h Channel.BiRsp past) e.cause e.sends parts.row.w (device_emits own) parts.row.sends sent (there Channel.BiRsp) placed))

  at_host : (e.agent == h) ≡ true → (e.agent == device) ≡ false
      → Placed (λ f. sent_snoop_at h f (events_of device past)) (in_flight h Channel.BiSnp (e ∷ past)) (buffered_snoops (e ∷ events_of h past)) (in_flight h Channel.BiRsp (e ∷ past))
  at_host own other =
      let asked : ℕ → Option SentSnoop = λ f. sent_snoop_at h f (events_of device past) in
      let ss : List Snoop = buffered_snoops (e ∷ events_of h past) in
      subst (λ bs. Placed asked bs ss (in_flight h Channel.BiRsp (e ∷ past))) (sym (snoops_taken other))
      (subst (λ rs. Placed asked (without_taken (takes_on h Channel.BiSnp e.cause) (in_flight h Channel.BiSnp past)) ss rs) (sym (answers_stay other))
      (host_event setup h host (events_of h past) asked sent (in_flight h Channel.BiSnp past) (in_flight h Channel.BiRsp past) placed e.cause e.sends parts.row.w (host_emits own) parts.row.sends
      (subst (λ g. cause_fits setup g e.cause ≡ true) (eqb-true e.agent h own) parts.profile.cause) (there Channel.BiSnp)))

  at_other : (e.agent == device) ≡ false → (e.agent == h) ≡ false
      → Placed (λ f. sent_snoop_at h f (events_of device past)) (in_flight h Channel.BiSnp (e ∷ past)) (buffered_snoops (events_of h past)) (in_flight h Channel.BiRsp (e ∷ past))
  at_other no_device no_host =
      let asked : ℕ → Option SentSnoop = λ f. sent_snoop_at h f (events_of device past) in
      let ss : List Snoop = buffered_snoops (events_of h past) in
      let snoops = snoops_stay no_host ∙ none_more (in_flight h Channel.BiSnp past) (sends_on h Channel.BiSnp e) (not_sent Channel.BiSnp device refl no_device) in
      let responses = answers_stay no_device ∙ none_more (in_flight h Channel.BiRsp past) (sends_on h Channel.BiRsp e) (not_sent Channel.BiRsp h refl no_host) in
      subst (λ bs. Placed asked bs ss (in_flight h Channel.BiRsp (e ∷ past))) (sym snoops) (subst (λ rs. Placed asked (in_flight h Channel.BiSnp past) ss rs) (sym responses) placed)

  placed_by : (own_device own_host : Bool) → (e.agent == device) ≡ own_device → (e.agent == h) ≡ own_host
      → Placed (λ f. sent_snoop_at h f (cond own_device (e ∷ events_of device past) (events_of device past))) (in_flight h Channel.BiSnp (e ∷ past)) (buffered_snoops (cond own_host (e ∷ events_of h past) (events_of h past))) (in_flight h Channel.BiRsp (e ∷ past))
  placed_by true true is_own is_host_own =
      absurd (false≢true (sym host ∙ eq-eqb h device (sym (eqb-true e.agent h is_host_own) ∙ eqb-true e.agent device is_own)))
  placed_by true false is_own is_host_own = at_device is_own is_host_own
  placed_by false true is_own is_host_own = at_host is_host_own is_own
  placed_by false false is_own is_host_own = at_other is_own is_host_own

-- after every run the lines are in their places
pub placed_after : (setup : Configuration) (opening : List (Line × Bytes64)) (h : ℕ) → is_device h ≡ false → (t : List Event) → IsRun setup opening t → PlacedAfter h t
placed_after setup opening h host [] run = record {
  lines = λ f x. refl;
  brought = λ m there. absurd there;
  holding = λ s there. absurd there;
  answering = λ m there. absurd there;
}
placed_after setup opening h host (e ∷ past) run =
    let runs = and_parts (is_run setup opening past) (is_allowed setup opening past e) run in
    placed_by setup opening h host e past (allowed_parts setup opening past e runs.1) (are_sent setup opening past runs.0 h) (placed_after setup opening h host past runs.0) (e.agent == device) (e.agent == h) refl refl
