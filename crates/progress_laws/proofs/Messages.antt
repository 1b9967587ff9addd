-- A message in flight on a channel is one of that channel, and in the profile: by recursion over the run.
use Rattle.std.proofs.Common.{◌≡◌, ℕ, Bool, true, false, IsTrue, List, [], ◌∷◌, cond, refl, sym, ◌∙◌, ap, subst}
use Rattle.std.specs.Prelude.{filter, map, ◌||◌}
use Rattle.std.specs.List.{list_all, list_any}
use Rattle.std.proofs.lemmas.Bool.{and_from, and_parts, false≢true}
use Rattle.cxl_message.specs.declared.channels.Channel.{Channel}
use Rattle.cxl_message.specs.declared.events.Event.{Event}
use Rattle.cxl_message.specs.declared.events.Out.{Out}
use Rattle.cxl_message.specs.declared.identifiers.Bytes64.{Bytes64}
use Rattle.cxl_message.specs.declared.identifiers.Line.{Line}
use Rattle.cxl_message.specs.declared.messages.Message.{Message}
use Rattle.cxl_message.specs.Codes.{channel_eq}
use Rattle.cxl_message.specs.Events.{outs}
use Rattle.cxl_message.specs.Messages.{channel_of, message_eq}
use Rattle.cxl_message.specs.Profile.{in_profile}
use Rattle.cxl_message.specs.Setup.{Configuration}
use Rattle.coherence_model.specs.Fitting.{out_fits}
use Rattle.coherence_model.specs.Flight.{in_flight, is_on, sends_on, takes_on, without_taken}
use Rattle.coherence_model.specs.Runs.{IsRun, is_allowed, is_run}
use Rattle.coherence_lemmas.proofs.Allowed.{allowed_parts}
use Rattle.cxl_message.proofs.SameNames.{same-channel_eq}
use Rattle.coherence_lemmas.proofs.CreditsReach.{on_channel}
use Rattle.cxl_message.proofs.SameMessages.{message_eq-same}
use Rattle.request_laws.proofs.Each.{Each, each_append, each_without_taken}

-- a message of a channel, in the profile
pub record IsOf (c : Channel) (m : Message) : Type 0 where
  pub channel : channel_of m ≡ c
  pub profile : in_profile m ≡ true

sent_by :
    (setup : Configuration) (g h : ℕ) (c : Channel) (o : Out) (os : List Out) (on : Bool) → is_on h c o ≡ on → IsTrue (out_fits setup g o)
    → Each (IsOf c) (map (λ (x : Out). x.message) (filter (is_on h c) os)) → Each (IsOf c) (map (λ (x : Out). x.message) (cond on (o ∷ filter (is_on h c) os) (filter (is_on h c) os)))
sent_by setup g h c o os true is fits later =
    (record { channel = (on_channel h c o is).channel; profile = (and_parts _ _ (and_parts _ _ fits).0).1 }, later)
sent_by setup g h c o os false is fits later = later

sent_each :
    (setup : Configuration) (g h : ℕ) (c : Channel) (os : List Out) → IsTrue (list_all (out_fits setup g) os)
    → Each (IsOf c) (map (λ (x : Out). x.message) (filter (is_on h c) os))
sent_each setup g h c [] fits = tt
sent_each setup g h c (o ∷ os) fits =
    let parts = and_parts _ _ fits in sent_by setup g h c o os (is_on h c o) refl parts.0 (sent_each setup g h c os parts.1)

-- each message in flight on a channel is of it
pub flying_of : (setup : Configuration) (opening : List (Line × Bytes64)) (h : ℕ) (c : Channel) (t : List Event) → IsRun setup opening t → Each (IsOf c) (in_flight h c t)
flying_of setup opening h c [] run = tt
flying_of setup opening h c (e ∷ past) run =
    let runs = and_parts (is_run setup opening past) (is_allowed setup opening past e) run in
    let fits = (allowed_parts setup opening past e runs.1).profile.sends in
    each_append (IsOf c) (without_taken (takes_on h c e.cause) (in_flight h c past)) (sends_on h c e)
    (each_without_taken (IsOf c) (takes_on h c e.cause) (in_flight h c past) (flying_of setup opening h c past runs.0)) (sent_each setup e.agent h c (outs e.sends) fits)

-- what holds of each message holds of one that is there
there_by : (P : Message → Type 0) (m n : Message) (ns : List Message) (same : Bool) → message_eq m n ≡ same → (same || list_any (message_eq m) ns) ≡ true → P n → (list_any (message_eq m) ns ≡ true → P m) → P m
there_by P m n ns true is some head later = subst P (sym (message_eq-same m n is)) head
there_by P m n ns false is some head later = later some

pub each_there : (P : Message → Type 0) (m : Message) (ns : List Message) → Each P ns → list_any (message_eq m) ns ≡ true → P m
each_there P m [] each some = absurd (false≢true some)
each_there P m (n ∷ ns) each some = there_by P m n ns (message_eq m n) refl some each.0 (each_there P m ns each.1)

-- a message that is there counts
counted_by : (p : Message → Bool) (m n : Message) (ns : List Message) (same : Bool) → message_eq m n ≡ same → p m ≡ true → (same || list_any (message_eq m) ns) ≡ true → (list_any (message_eq m) ns ≡ true → list_any p ns ≡ true) → (p n || list_any p ns) ≡ true
counted_by p m n ns true is pass some later = ap (λ b. b || list_any p ns) (ap p (sym (message_eq-same m n is)) ∙ pass)
counted_by p m n ns false is pass some later = either (p n) (later some)
  where
    either : (b : Bool) {c : Bool} → c ≡ true → (b || c) ≡ true
    either true e = refl
    either false e = e

pub passes : (p : Message → Bool) (m : Message) (ns : List Message) → p m ≡ true → list_any (message_eq m) ns ≡ true → list_any p ns ≡ true
passes p m [] pass some = absurd (false≢true some)
passes p m (n ∷ ns) pass some = counted_by p m n ns (message_eq m n) refl pass some (passes p m ns pass)

-- each is on the channel
pub all_on : (c : Channel) (ms : List Message) → Each (IsOf c) ms → list_all (λ m. channel_eq (channel_of m) c) ms ≡ true
all_on c [] each = refl
all_on c (m ∷ ms) each = and_from _ _ (same-channel_eq (channel_of m) c each.0.channel) (all_on c ms each.1)
