-- What an event does to the weight of the messages in flight: what it takes is gone, and what it sends is there.
use Rattle.std.proofs.Common.{◌≡◌, ℕ, ◌+◌, ◌<◌, Bool, true, false, IsTrue, List, [], ◌∷◌, Option, Some, None, cond, filter, map, sum_by, refl, sym, ◌∙◌, ap, arith}
use Rattle.std.specs.Prelude.{nat_lt, ◌&&◌, ◌==◌, ◌||◌}
use Rattle.std.specs.List.{list_all, list_any}
use Rattle.std.specs.Option.{option_map_or}
use Rattle.std.proofs.lemmas.Bool.{and_parts, cond-true, eq-eqb, false≢true, lt-ltb, ltb-true, ne_eqb}
use Rattle.std.proofs.lemmas.List.Sums.{sum_by-append, sum_by-cons}
use Rattle.cxl_message.specs.declared.channels.Channel.{Channel}
use Rattle.cxl_message.specs.declared.events.Cause.{Cause}
use Rattle.cxl_message.specs.declared.events.Event.{Event}
use Rattle.cxl_message.specs.declared.events.Out.{Out}
use Rattle.cxl_message.specs.declared.identifiers.Bytes64.{Bytes64}
use Rattle.cxl_message.specs.declared.identifiers.Line.{Line}
use Rattle.cxl_message.specs.declared.messages.Message.{Message}
use Rattle.cxl_message.specs.Codes.{channel_eq}
use Rattle.cxl_message.specs.Events.{outs}
use Rattle.cxl_message.specs.Lists.{below}
use Rattle.cxl_message.specs.Messages.{channel_of, message_eq}
use Rattle.cxl_message.specs.Setup.{Configuration}
use Rattle.coherence_model.specs.Fitting.{cause_fits, out_fits}
use Rattle.coherence_model.specs.Flight.{in_flight, is_on, sends_on, takes_on, without_first, without_taken}
use Rattle.coherence_model.specs.Next.{channels}
use Rattle.coherence_model.specs.Weight.{channel_weight, flight_weight, message_weight}
use Rattle.coherence_lemmas.proofs.Allowed.{AllowedParts}
use Rattle.coherence_lemmas.proofs.Directions.{send_parts, take_parts}
use Rattle.coherence_lemmas.proofs.Flight.{taken_is_there}
use Rattle.cxl_message.proofs.SameMessages.{message_eq-same}
use Rattle.step_laws.proofs.Counts.{sum_by-below}
use Rattle.weight_laws.proofs.Sums.{sum_plus, sum_same}

-- ---- sums over all channels of all hosts

abbrev pub over : ℕ → (ℕ → Channel → ℕ) → ℕ
over hosts f = sum_by (λ h. sum_by (f h) channels) (below hosts)

over_plus : (hosts : ℕ) (f g : ℕ → Channel → ℕ) → over hosts (λ h c. f h c + g h c) ≡ over hosts f + over hosts g
over_plus hosts f g =
    sum_same (λ h. sum_by (λ c. f h c + g h c) channels) (λ h. sum_by (f h) channels + sum_by (g h) channels) (below hosts) (λ h. sum_plus (f h) (g h) channels)
    ∙ sum_plus (λ h. sum_by (f h) channels) (λ h. sum_by (g h) channels) (below hosts)

over_same : (hosts : ℕ) (f g : ℕ → Channel → ℕ) → ((h : ℕ) (c : Channel) → f h c ≡ g h c) → over hosts f ≡ over hosts g
over_same hosts f g same = sum_same (λ h. sum_by (f h) channels) (λ h. sum_by (g h) channels) (below hosts) (λ h. sum_same (f h) (g h) channels (same h))

-- each channel is one of the eight, once
one_channel : (d : Channel) (w : ℕ) → sum_by (λ c. cond (channel_eq d c) w 0) channels ≡ w
one_channel Channel.Req w = omega arith
one_channel Channel.Rwd w = omega arith
one_channel Channel.BiRsp w = omega arith
one_channel Channel.Ndr w = omega arith
one_channel Channel.Drs w = omega arith
one_channel Channel.BiSnp w = omega arith
one_channel Channel.CreditUp w = omega arith
one_channel Channel.CreditDown w = omega arith

one_host : (b : Bool) (d : Channel) (w : ℕ) → sum_by (λ c. cond (b && channel_eq d c) w 0) channels ≡ cond b w 0
one_host true d w = one_channel d w
one_host false d w = omega arith

host_sum : (k : ℕ) (d : Channel) (w hosts : ℕ) → (h : ℕ) → (h ≡ k → ⊥) → sum_by (λ c. cond ((k == h) && channel_eq d c) w 0) channels ≡ 0
host_sum k d w hosts h other = one_host (k == h) d w ∙ ap (λ b. cond b w 0) (ne_eqb k h (λ e. other (sym e)))

over_one : (hosts k : ℕ) (d : Channel) (w : ℕ) → k < hosts → over hosts (λ h c. cond ((k == h) && channel_eq d c) w 0) ≡ w
over_one hosts k d w less =
    sum_by-below (λ h. sum_by (λ c. cond ((k == h) && channel_eq d c) w 0) channels) k hosts (host_sum k d w hosts)
    ∙ cond-true (nat_lt k hosts) (sum_by (λ c. cond ((k == k) && channel_eq d c) w 0) channels) 0 (lt-ltb k hosts less) ∙ one_host (k == k) d w ∙ ap (λ b. cond b w 0) (eq-eqb k k refl)

over_zero : (hosts : ℕ) → over hosts (λ h c. 0) ≡ 0
over_zero hosts = sum_by-below (λ h. sum_by {X = Channel} (λ c. 0) channels) 0 hosts (λ k other. refl) ∙ none (nat_lt 0 hosts)
  where
    none : (b : Bool) → cond b (sum_by {X = Channel} (λ c. 0) channels) 0 ≡ 0
    none true = refl
    none false = refl

-- ---- what is taken

-- what a taken message weighed
abbrev pub took : ℕ → Cause → ℕ
took hosts (Cause.Op _ _ _) = 0
took hosts (Cause.Take _ m) = message_weight hosts m
took hosts (Cause.Act _) = 0

-- what messages weigh that are sent
abbrev pub sent_weight : ℕ → List Out → ℕ
sent_weight hosts os = sum_by (λ (o : Out). message_weight hosts o.message) os

first_by : (f : Message → ℕ) (m n : Message) (ns rest : List Message) (same : Bool) → message_eq m n ≡ same → (list_any (message_eq m) ns ≡ true → sum_by f ns ≡ f m + sum_by f rest) → (same || list_any (message_eq m) ns) ≡ true
    → sum_by f (n ∷ ns) ≡ f m + sum_by f (cond same ns (n ∷ rest))
first_by f m n ns rest true is later there = sum_by-cons f n ns ∙ ap (λ x. f x + sum_by f ns) (sym (message_eq-same m n is))
first_by f m n ns rest false is later there =
    let whole = sum_by-cons f n ns in
    let left = sum_by-cons f n rest in
    let tail = later there in
    omega arith

sum-without_first : (f : Message → ℕ) (m : Message) (ns : List Message) → list_any (message_eq m) ns ≡ true → sum_by f ns ≡ f m + sum_by f (without_first m ns)
sum-without_first f m [] there = absurd (false≢true there)
sum-without_first f m (n ∷ ns) there = first_by f m n ns (without_first m ns) (message_eq m n) refl (sum-without_first f m ns) there

pub sum-without_taken : (f : Message → ℕ) (o : Option Message) (ns : List Message) → ((m : Message) → o ≡ Some m → list_any (message_eq m) ns ≡ true) → sum_by f ns ≡ option_map_or f o 0 + sum_by f (without_taken o ns)
sum-without_taken f None ns there = omega arith
sum-without_taken f (Some m) ns there = sum-without_first f m ns (there m refl)

filter_by : (f : Message → ℕ) (o : Out) (os : List Out) (n : ℕ) (b : Bool) → sum_by f (map (λ (x : Out). x.message) os) ≡ n → sum_by f (map (λ (x : Out). x.message) (cond b (o ∷ os) os)) ≡ cond b (f o.message) 0 + n
filter_by f o os n true rest = sum_by-cons f o.message (map (λ (x : Out). x.message) os) ∙ ap (λ k. f o.message + k) rest
filter_by f o os n false rest = omega arith

sum-filter : (f : Message → ℕ) (h : ℕ) (c : Channel) (os : List Out) → sum_by f (map (λ (o : Out). o.message) (filter (is_on h c) os)) ≡ sum_by (λ (o : Out). cond (is_on h c o) (f o.message) 0) os
sum-filter f h c [] = refl
sum-filter f h c (o ∷ os) =
    filter_by f o (filter (is_on h c) os) (sum_by (λ (x : Out). cond (is_on h c x) (f x.message) 0) os) (is_on h c o) (sum-filter f h c os)
    ∙ sym (sum_by-cons (λ (x : Out). cond (is_on h c x) (f x.message) 0) o os)

module _ (setup : Configuration) (opening : List (Line × Bytes64)) (e : Event) (past : List Event) (parts : AllowedParts setup opening past e) where
  abbrev w : Message → ℕ
  w = message_weight setup.hosts

  -- one channel
  channel_changes : (h : ℕ) (c : Channel) → channel_weight setup (e ∷ past) h c + option_map_or w (takes_on h c e.cause) 0 ≡ channel_weight setup past h c + sum_by (λ (o : Out). cond (is_on h c o) (w o.message) 0) (outs e.sends)
  channel_changes h c =
      let left = sum-without_taken w (takes_on h c e.cause) (in_flight h c past) (λ m takes. taken_is_there h c e.cause past m parts.take takes) in
      let joined = sum_by-append w (without_taken (takes_on h c e.cause) (in_flight h c past)) (sends_on h c e) in
      let sent = sum-filter w h c (outs e.sends) in
      omega arith

  all_taken : (cause : Cause) → IsTrue (cause_fits setup e.agent cause) → over setup.hosts (λ h c. option_map_or w (takes_on h c cause) 0) ≡ took setup.hosts cause
  all_taken (Cause.Op s i op) fits = over_zero setup.hosts
  all_taken (Cause.Take k m) fits =
      over_same setup.hosts (λ h c. option_map_or w (takes_on h c (Cause.Take k m)) 0) (λ h c. cond ((k == h) && channel_eq (channel_of m) c) (w m) 0) (λ h c. by_test ((k == h) && channel_eq (channel_of m) c))
      ∙ over_one setup.hosts k (channel_of m) (w m) (ltb-true k setup.hosts (take_parts setup e.agent k m fits).host)
    where
      by_test : (b : Bool) → option_map_or w (cond b (Some m) None) 0 ≡ cond b (w m) 0
      by_test true = refl
      by_test false = refl
  all_taken (Cause.Act act) fits = over_zero setup.hosts

  all_sent : (os : List Out) → IsTrue (list_all (out_fits setup e.agent) os) → over setup.hosts (λ h c. sum_by (λ (o : Out). cond (is_on h c o) (w o.message) 0) os) ≡ sent_weight setup.hosts os
  all_sent [] fits = over_zero setup.hosts
  all_sent (o ∷ os) fits =
      let both = and_parts _ _ fits in
      over_same setup.hosts (λ h c. sum_by (λ (x : Out). cond (is_on h c x) (w x.message) 0) (o ∷ os)) (λ h c. cond ((o.host == h) && channel_eq (channel_of o.message) c) (w o.message) 0 + sum_by (λ (x : Out). cond (is_on h c x) (w x.message) 0) os)
      (λ h c. sum_by-cons (λ (x : Out). cond (is_on h c x) (w x.message) 0) o os)
      ∙ over_plus setup.hosts (λ h c. cond ((o.host == h) && channel_eq (channel_of o.message) c) (w o.message) 0) (λ h c. sum_by (λ (x : Out). cond (is_on h c x) (w x.message) 0) os)
      ∙ ap (λ n. n + over setup.hosts (λ h c. sum_by (λ (x : Out). cond (is_on h c x) (w x.message) 0) os)) (over_one setup.hosts o.host (channel_of o.message) (w o.message) (ltb-true o.host setup.hosts (send_parts setup e.agent o both.0).host))
      ∙ ap (λ n. w o.message + n) (all_sent os both.1) ∙ sym (sum_by-cons (λ (x : Out). w x.message) o os)

  -- what an event does to the weight of the messages in flight
  pub flight_changes : flight_weight setup (e ∷ past) + took setup.hosts e.cause ≡ flight_weight setup past + sent_weight setup.hosts (outs e.sends)
  flight_changes =
      let left = over_plus setup.hosts (channel_weight setup (e ∷ past)) (λ h c. option_map_or w (takes_on h c e.cause) 0) in
      let right = over_plus setup.hosts (channel_weight setup past) (λ h c. sum_by (λ (o : Out). cond (is_on h c o) (w o.message) 0) (outs e.sends)) in
      let middle = over_same setup.hosts (λ h c. channel_weight setup (e ∷ past) h c + option_map_or w (takes_on h c e.cause) 0)
      (λ h c. channel_weight setup past h c + sum_by (λ (o : Out). cond (is_on h c o) (w o.message) 0) (outs e.sends)) channel_changes in
      let taken = all_taken e.cause parts.profile.cause in
      let sent = all_sent (outs e.sends) parts.profile.sends in
      omega arith
