-- Lists of the device's own events that its rules allow: what each event says, and the totals of a channel.
use Rattle.std.proofs.Common.{◌≡◌, ℕ, ◌+◌, ◌≤◌, true, IsTrue, List, [], ◌∷◌, Some, refl, ap, sym, ◌∙◌, subst, ◌⊎◌, inl, inr, arith}
use Rattle.std.specs.Prelude.{◌&&◌, ◌==◌}
use Rattle.std.specs.Option.{option_len}
use Rattle.std.proofs.lemmas.Bool.{and_parts, cond-true, eqb-true}
use Rattle.cxl_message.specs.declared.channels.Channel.{Channel}
use Rattle.cxl_message.specs.declared.events.Event.{Event}
use Rattle.cxl_message.specs.declared.identifiers.Bytes64.{Bytes64}
use Rattle.cxl_message.specs.declared.identifiers.Line.{Line}
use Rattle.cxl_message.specs.Channels.{goes_to_device, has_credits}
use Rattle.cxl_message.specs.Events.{outs}
use Rattle.cxl_message.specs.Setup.{Configuration}
use Rattle.coherence_model.specs.Credits.{credits_left, earned_count, returned_count, sent_count, taken_count}
use Rattle.coherence_model.specs.Fitting.{cause_fits}
use Rattle.coherence_model.specs.Flight.{takes_on}
use Rattle.coherence_model.specs.Next.{receiver}
use Rattle.coherence_model.specs.Rows.{row_emission}
use Rattle.coherence_model.specs.Runs.{own_half}
use Rattle.coherence_model.specs.Traces.{device, events_of}
use Rattle.coherence_model.proofs.Allowed.{own_half_parts}
use Rattle.coherence_lemmas.proofs.Allowed.{Emitted, Profiled, emitted, profiled}
use Rattle.coherence_lemmas.proofs.CreditsReach.{count_on, credits_reach}
use Rattle.coherence_lemmas.proofs.OwnEvents.{events_of-own}
use Rattle.credit_laws.specs.Laws.{buffered_count}
use Rattle.credit_laws.proofs.Buffering.{buffered_step}
use Rattle.credit_laws.proofs.Counting.{sends_counted}
use Rattle.credit_laws.proofs.CreditMessages.{credits_of}
use Rattle.credit_laws.proofs.Returns.{returns_owed}
use Rattle.coherence_model.specs.OwnRuns.{IsOwnRun, is_own_run}
use Rattle.device_laws.proofs.DeviceRuns.{DeviceRun}

-- what an event of such a list says
pub record DeviceStep (setup : Configuration) (opening : List (Line × Bytes64)) (e : Event) (mine : List Event) : Type 0 where
  pub agent : e.agent ≡ device
  pub profile : Profiled setup e
  pub row : Emitted setup opening e mine

pub step_of_list : (setup : Configuration) (opening : List (Line × Bytes64)) (e : Event) (past : List Event) → IsOwnRun setup opening device (e ∷ past)
    → IsOwnRun setup opening device past × DeviceStep setup opening e past
step_of_list setup opening e past list =
    let parts = and_parts (is_own_run setup opening device past) ((e.agent == device) && own_half setup opening e past) list in
    let own = and_parts (e.agent == device) (own_half setup opening e past) parts.1 in
    let half = own_half_parts setup opening e past own.1 in
    (parts.0, record { agent = eqb-true e.agent device own.0; profile = profiled setup e half.0; row = emitted setup opening e past half.2 })

-- its cause fits the device
pub fits_device : (setup : Configuration) (opening : List (Line × Bytes64)) (e : Event) (mine : List Event) → DeviceStep setup opening e mine → cause_fits setup device e.cause ≡ true
fits_device setup opening e mine step = subst (λ g. cause_fits setup g e.cause ≡ true) step.agent step.profile.cause

-- its row is the device's
pub row_of_step : (setup : Configuration) (opening : List (Line × Bytes64)) (e : Event) (mine : List Event) (step : DeviceStep setup opening e mine)
    → row_emission setup opening device e.cause mine ≡ Some step.row.w
row_of_step setup opening e mine step = subst (λ g. row_emission setup opening g e.cause mine ≡ Some step.row.w) step.agent step.row.row

-- an own run, its opening aside
pub device_list : (setup : Configuration) (opening : List (Line × Bytes64)) (mine : List Event) → IsOwnRun setup opening device mine → DeviceRun setup mine
device_list setup opening mine list = record { opening = opening; run = list }

-- all of the events are the device's
pub all_own : (setup : Configuration) (opening : List (Line × Bytes64)) (mine : List Event) → IsOwnRun setup opening device mine → events_of device mine ≡ mine
all_own setup opening [] list = refl
all_own setup opening (e ∷ past) list =
    let parts = step_of_list setup opening e past list in
    events_of-own device e past parts.1.agent ∙ ap (λ l. e ∷ l) (all_own setup opening past parts.0)

-- ---- totals

-- no more is sent than credits allow
pub sent_within : (setup : Configuration) (opening : List (Line × Bytes64)) (h : ℕ) (c : Channel) → IsTrue (has_credits c) → (mine : List Event) → IsOwnRun setup opening device mine
    → sent_count h c mine ≤ setup.credits + earned_count h c mine
sent_within setup opening h c credited [] list = omega arith
sent_within setup opening h c credited (e ∷ past) list =
    let parts = step_of_list setup opening e past list in
    let old = sent_within setup opening h c credited past parts.0 in
    let reach = credits_reach setup h c parts.1.row.w.sends past credited parts.1.row.paid in
    let there = subst (λ sends. count_on h c (outs sends) ≤ credits_left setup h c past) (sym parts.1.row.sends) reach in
    omega (arith, there, sends_counted h c e, old)

none_buffered : (h : ℕ) (c : Channel) → goes_to_device c ≡ true → returned_count h c [] + buffered_count h c [] ≤ taken_count h c []
none_buffered h Channel.Req up = omega arith
none_buffered h Channel.Rwd up = omega arith
none_buffered h Channel.BiRsp up = omega arith
none_buffered h Channel.Ndr up = omega arith
none_buffered h Channel.Drs up = omega arith
none_buffered h Channel.BiSnp up = omega arith
none_buffered h Channel.CreditUp up = omega arith
none_buffered h Channel.CreditDown up = omega arith

-- no more is given back than was taken and used
pub returned_within : (setup : Configuration) (opening : List (Line × Bytes64)) (h : ℕ) (c : Channel) → goes_to_device c ≡ true → (mine : List Event) → IsOwnRun setup opening device mine
    → returned_count h c mine + buffered_count h c mine ≤ taken_count h c mine
returned_within setup opening h c up [] list = none_buffered h c up
returned_within setup opening h c up (e ∷ past) list =
    let parts = step_of_list setup opening e past list in
    let old = returned_within setup opening h c up past parts.0 in
    let receives : receiver h c ≡ device = cond-true (goes_to_device c) device h up in
    let own = all_own setup opening (e ∷ past) list in
    let mine = all_own setup opening past parts.0 in
    let grown = buffered_step setup h c e past parts.1.profile.cause in
    let more : buffered_count h c (e ∷ past) ≤ buffered_count h c past + option_len (takes_on h c e.cause) =
    subst (λ l. buffered_count h c (e ∷ past) ≤ buffered_count h c l + option_len (takes_on h c e.cause)) mine
    (subst (λ l. buffered_count h c l ≤ buffered_count h c (events_of device past) + option_len (takes_on h c e.cause)) own
    (subst (λ g. buffered_count h c (events_of g (e ∷ past)) ≤ buffered_count h c (events_of g past) + option_len (takes_on h c e.cause)) receives grown)) in
    let owes = returns_owed setup opening e.agent h c e.cause past parts.1.row.w parts.1.row.row in
    let back = subst (λ sends. (credits_of h c (outs sends) ≡ 0) ⊎ (returned_count h c past + credits_of h c (outs sends) + buffered_count h c past ≤ taken_count h c past)) (sym parts.1.row.sends) owes in
    elim back [
      | inl none ↦ omega (arith, none, more, old)
      | inr owed ↦ omega (arith, owed, more, old)
    ]
