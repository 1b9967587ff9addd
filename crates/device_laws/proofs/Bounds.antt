-- What is held and what is left of a host's channels is at most the credits: a message or a Credit is taken only where fewer are.
use Rattle.std.proofs.Common.{◌≡◌, ℕ, ◌+◌, ◌-◌, ◌<◌, ◌≤◌, Bool, true, false, IsTrue, List, [], ◌∷◌, Option, Some, None, cond, length, filter, refl, ap, sym, ◌∙◌, subst, ◌⊎◌, inl, inr, arith}
use Rattle.std.specs.Prelude.{nat_lt, not, ◌&&◌, ◌==◌, ◌||◌}
use Rattle.std.specs.Option.{option_len}
use Rattle.std.proofs.lemmas.Bool.{and_parts, eqb-true, ltb-true}
use Rattle.std.proofs.lemmas.Option.{none-some}
use Rattle.cxl_message.specs.declared.channels.Channel.{Channel}
use Rattle.cxl_message.specs.declared.events.Act.{Act}
use Rattle.cxl_message.specs.declared.events.Cause.{Cause}
use Rattle.cxl_message.specs.declared.events.Event.{Event}
use Rattle.cxl_message.specs.declared.identifiers.Bytes64.{Bytes64}
use Rattle.cxl_message.specs.declared.identifiers.Line.{Line}
use Rattle.cxl_message.specs.declared.messages.Message.{Message}
use Rattle.cxl_message.specs.Channels.{has_credits}
use Rattle.cxl_message.specs.Codes.{channel_eq}
use Rattle.cxl_message.specs.Messages.{channel_of, message_eq}
use Rattle.cxl_message.specs.Setup.{Configuration}
use Rattle.coherence_model.specs.Credits.{credits_left, has_room, held_count, takes_credit}
use Rattle.coherence_model.specs.DeviceRows.{device_emission}
use Rattle.coherence_model.specs.DeviceTakes.{device_takes}
use Rattle.coherence_model.specs.Emission.{Emission}
use Rattle.coherence_model.specs.Flight.{takes_on}
use Rattle.coherence_model.specs.OwnRuns.{IsOwnRun}
use Rattle.coherence_model.specs.Traces.{device}
use Rattle.cxl_message.proofs.SameNames.{channel_eq-same}
use Rattle.coherence_lemmas.proofs.DeviceTakes.{v1_credit-inv}
use Rattle.cxl_message.proofs.SameMessages.{message_eq-same}
use Rattle.coherence_lemmas.proofs.Options.{if_some}
use Rattle.device_laws.proofs.OwnFacts.{row_of_step, step_of_list}

-- ---- what is held

room_by : (credited : Bool) (held credits : ℕ) → credited ≡ true → (not credited || nat_lt held credits) ≡ true → held < credits
room_by true held credits is room = ltb-true held credits room
room_by false held credits is room = cc

taken_there :
    (setup : Configuration) (opening : List (Line × Bytes64)) (h : ℕ) (c : Channel) → has_credits c ≡ true → (past : List Event) (k : ℕ) (m : Message) (w : Emission)
    → device_emission setup opening (Cause.Take k m) past ≡ Some w → (b : Bool) → ((k == h) && channel_eq (channel_of m) c) ≡ b
    → (option_len (cond b (Some m) None) ≡ 0) ⊎ ((option_len (cond b (Some m) None) ≡ 1) × (held_count h c past < setup.credits))
taken_there setup opening h c credited past k m w row false is = inl refl
taken_there setup opening h c credited past k m w row true is =
    let parts = and_parts (k == h) (channel_eq (channel_of m) c) is in
    let host = eqb-true k h parts.0 in
    let channel = channel_eq-same (channel_of m) c parts.1 in
    let room = (if_some (has_room setup k m past) (device_takes setup k m past) w row).holds in
    let there : held_count k (channel_of m) past < setup.credits = room_by (has_credits (channel_of m)) (held_count k (channel_of m) past) setup.credits (ap has_credits channel ∙ credited) room in
    inr (refl, subst (λ d. held_count h d past < setup.credits) channel (subst (λ g. held_count g (channel_of m) past < setup.credits) host there))

taken_by_cause :
    (setup : Configuration) (opening : List (Line × Bytes64)) (h : ℕ) (c : Channel) → has_credits c ≡ true → (past : List Event) (cause : Cause) (w : Emission)
    → device_emission setup opening cause past ≡ Some w
    → (option_len (takes_on h c cause) ≡ 0) ⊎ ((option_len (takes_on h c cause) ≡ 1) × (held_count h c past < setup.credits))
taken_by_cause setup opening h c credited past (Cause.Op s i op) w row = inl refl
taken_by_cause setup opening h c credited past (Cause.Take k m) w row = taken_there setup opening h c credited past k m w row ((k == h) && channel_eq (channel_of m) c) refl
taken_by_cause setup opening h c credited past (Cause.Act act) w row = inl refl

-- no more is held than there are credits
pub held_within :
    (setup : Configuration) (opening : List (Line × Bytes64)) (h : ℕ) (c : Channel) → has_credits c ≡ true → (mine : List Event) → IsOwnRun setup opening device mine
    → held_count h c mine ≤ setup.credits
held_within setup opening h c credited [] run = omega arith
held_within setup opening h c credited (e ∷ past) run =
    let parts = step_of_list setup opening e past run in
    let old = held_within setup opening h c credited past parts.0 in
    elim (taken_by_cause setup opening h c credited past e.cause parts.1.row.w (row_of_step setup opening e past parts.1)) [
      | inl none ↦ omega (arith, none, old)
      | inr one ↦ omega (arith, one.0, one.1, old)
    ]

-- ---- what is left

earned_there :
    (setup : Configuration) (opening : List (Line × Bytes64)) (h : ℕ) (c : Channel) (past : List Event) (k : ℕ) (m : Message) (w : Emission)
    → device_emission setup opening (Cause.Take k m) past ≡ Some w → (b : Bool) → ((k == h) && message_eq m (Message.Credit c)) ≡ b
    → (◌≡◌ {A = ℕ} (cond b 1 0) 0) ⊎ ((◌≡◌ {A = ℕ} (cond b 1 0) 1) × (credits_left setup h c past < setup.credits))
earned_there setup opening h c past k m w row false is = inl refl
earned_there setup opening h c past k m w row true is =
    let parts = and_parts (k == h) (message_eq m (Message.Credit c)) is in
    let host = eqb-true k h parts.0 in
    let same = message_eq-same m (Message.Credit c) parts.1 in
    let takes = (if_some (has_room setup k m past) (device_takes setup k m past) w row).same in
    let lacks = (v1_credit-inv setup h c past w (subst (λ g. device_takes setup g (Message.Credit c) past ≡ Some w) host (subst (λ (n : Message). device_takes setup k n past ≡ Some w) same takes))).lacks in
    inr (refl, ltb-true (credits_left setup h c past) setup.credits lacks)

earned_by_cause :
    (setup : Configuration) (opening : List (Line × Bytes64)) (h : ℕ) (c : Channel) (past : List Event) (cause : Cause) (w : Emission)
    → device_emission setup opening cause past ≡ Some w
    → (◌≡◌ {A = ℕ} (cond (takes_credit h c cause) 1 0) 0) ⊎ ((◌≡◌ {A = ℕ} (cond (takes_credit h c cause) 1 0) 1) × (credits_left setup h c past < setup.credits))
earned_by_cause setup opening h c past (Cause.Op s i op) w row = inl refl
earned_by_cause setup opening h c past (Cause.Take k m) w row = earned_there setup opening h c past k m w row ((k == h) && message_eq m (Message.Credit c)) refl
earned_by_cause setup opening h c past (Cause.Act act) w row = inl refl

-- no more credits are left than there are
pub left_within :
    (setup : Configuration) (opening : List (Line × Bytes64)) (h : ℕ) (c : Channel) (mine : List Event) → IsOwnRun setup opening device mine → credits_left setup h c mine ≤ setup.credits
left_within setup opening h c [] run = omega arith
left_within setup opening h c (e ∷ past) run =
    let parts = step_of_list setup opening e past run in
    let old = left_within setup opening h c past parts.0 in
    elim (earned_by_cause setup opening h c past e.cause parts.1.row.w (row_of_step setup opening e past parts.1)) [
      | inl none ↦ omega (arith, none, old)
      | inr one ↦ omega (arith, one.0, one.1, old)
    ]
