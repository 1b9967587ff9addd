-- The ends of a channel: only its sender sends on it, only its receiver takes from it.
use Rattle.std.proofs.Common.{◌≡◌, ℕ, Bool, true, false, IsTrue, List, [], ◌∷◌, ◌++◌, None, cond, refl, sym, ◌∙◌, ap}
use Rattle.std.specs.Prelude.{filter, map, ◌==◌}
use Rattle.std.specs.List.{list_all}
use Rattle.std.proofs.lemmas.Bool.{and_parts, both_ways, eq-eqb, false_from_ne_true, not_from_false}
use Rattle.std.proofs.lemmas.List.{append-nil}
use Rattle.cxl_message.specs.declared.channels.Channel.{Channel}
use Rattle.cxl_message.specs.declared.events.Event.{Event}
use Rattle.cxl_message.specs.declared.events.Out.{Out}
use Rattle.cxl_message.specs.declared.identifiers.Bytes64.{Bytes64}
use Rattle.cxl_message.specs.declared.identifiers.Line.{Line}
use Rattle.cxl_message.specs.Events.{outs}
use Rattle.cxl_message.specs.Messages.{channel_of}
use Rattle.cxl_message.specs.Setup.{Configuration}
use Rattle.coherence_model.specs.Fitting.{out_fits}
use Rattle.coherence_model.specs.Flight.{is_on, sends_on, sent_on, taken_on, takes_on}
use Rattle.coherence_model.specs.Next.{receiver, sender}
use Rattle.coherence_model.specs.Runs.{IsRun, is_allowed, is_run}
use Rattle.coherence_model.specs.Traces.{events_of}
use Rattle.coherence_model.specs.Words.{with_last}
use Rattle.coherence_lemmas.proofs.Allowed.{allowed_parts}
use Rattle.coherence_lemmas.proofs.CreditsReach.{on_channel}
use Rattle.coherence_lemmas.proofs.Directions.{send_parts}
use Rattle.coherence_lemmas.proofs.Flight.{others_take_nothing}

-- what another agent sends isn't on the channel
pub off_channel : (setup : Configuration) (g h : ℕ) (c : Channel) (o : Out) → IsTrue (out_fits setup g o) → (g == sender h c) ≡ false → is_on h c o ≡ false
off_channel setup g h c o fits other = false_from_ne_true (is_on h c o) (λ on.
    let at = on_channel h c o on in
    both_ways (g == sender h c) other (eq-eqb g (sender h c) ((send_parts setup g o fits).sender ∙ ap (λ x. sender x (channel_of o.message)) at.host ∙ ap (sender h) at.channel)))

pub none_on : (setup : Configuration) (g h : ℕ) (c : Channel) (os : List Out) → IsTrue (list_all (out_fits setup g) os) → (g == sender h c) ≡ false → filter (is_on h c) os ≡ []
none_on setup g h c [] fits other = refl
none_on setup g h c (o ∷ os) fits other =
    let parts = and_parts _ _ fits in
    ap (λ b. cond b (o ∷ filter (is_on h c) os) (filter (is_on h c) os)) (off_channel setup g h c o parts.0 other) ∙ none_on setup g h c os parts.1 other

pub sends_nothing : (setup : Configuration) (h : ℕ) (c : Channel) (e : Event) → IsTrue (list_all (out_fits setup e.agent) (outs e.sends)) → (e.agent == sender h c) ≡ false → sends_on h c e ≡ []
sends_nothing setup h c e fits other = ap (map (λ (o : Out). o.message)) (none_on setup e.agent h c (outs e.sends) fits other)

-- what was sent with what is sent next
sent_by : (own : Bool) (h : ℕ) (c : Channel) (e : Event) (mine : List Event) → (own ≡ false → sends_on h c e ≡ []) → sent_on h c (cond own (e ∷ mine) mine) ≡ sent_on h c mine ++ sends_on h c e
sent_by true h c e mine none = refl
sent_by false h c e mine none = sym (ap (λ ms. sent_on h c mine ++ ms) (none refl) ∙ append-nil (sent_on h c mine))

taken_by : (own : Bool) (h : ℕ) (c : Channel) (e : Event) (mine : List Event) → (own ≡ false → takes_on h c e.cause ≡ None) → taken_on h c (cond own (e ∷ mine) mine) ≡ with_last (takes_on h c e.cause) (taken_on h c mine)
taken_by true h c e mine none = refl
taken_by false h c e mine none = sym (ap (λ o. with_last o (taken_on h c mine)) (none refl))

-- what was sent on a channel is what its sender sent there
pub sent_on-own : (setup : Configuration) (opening : List (Line × Bytes64)) (t : List Event) → IsRun setup opening t → (h : ℕ) (c : Channel) → sent_on h c (events_of (sender h c) t) ≡ sent_on h c t
sent_on-own setup opening [] run h c = refl
sent_on-own setup opening (e ∷ past) run h c =
    let runs = and_parts (is_run setup opening past) (is_allowed setup opening past e) run in
    let fits = (allowed_parts setup opening past e runs.1).profile.sends in
    sent_by (e.agent == sender h c) h c e (events_of (sender h c) past) (sends_nothing setup h c e fits)
    ∙ ap (λ ms. ms ++ sends_on h c e) (sent_on-own setup opening past runs.0 h c)

-- what was taken from a channel is what its receiver took there
pub taken_on-own : (setup : Configuration) (opening : List (Line × Bytes64)) (t : List Event) → IsRun setup opening t → (h : ℕ) (c : Channel) → taken_on h c (events_of (receiver h c) t) ≡ taken_on h c t
taken_on-own setup opening [] run h c = refl
taken_on-own setup opening (e ∷ past) run h c =
    let runs = and_parts (is_run setup opening past) (is_allowed setup opening past e) run in
    let fits = (allowed_parts setup opening past e runs.1).profile.cause in
    taken_by (e.agent == receiver h c) h c e (events_of (receiver h c) past) (λ other. others_take_nothing setup h c e fits (not_from_false _ other))
    ∙ ap (with_last (takes_on h c e.cause)) (taken_on-own setup opening past runs.0 h c)
