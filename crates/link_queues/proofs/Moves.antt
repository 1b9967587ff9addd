-- The queues after an event: a take, and then what is sent.
use Rattle.std.proofs.Common.{◌≡◌, ℕ, zero, suc, ◌*◌, ◌/◌, ◌%◌, ◌<◌, ◌≤◌, Bool, true, false, IsTrue, List, [], ◌∷◌, ◌++◌, length, map, Option, Some, None, cond, refl, ap, sym, ◌∙◌, subst, arith}
use Rattle.std.specs.Prelude.{filter, option_map, slice_get, ◌&&◌, ◌==◌}
use Rattle.std.specs.List.{list_all}
use Rattle.std.proofs.lemmas.Bool.{and_from, and_parts, eq-eqb, eqb-true, false_from_ne_true, ltb-true}
use Rattle.std.proofs.lemmas.List.{append-nil, append_assoc, length-append}
use Rattle.cxl_message.specs.declared.channels.Channel.{Channel}
use Rattle.cxl_message.specs.declared.events.Cause.{Cause}
use Rattle.cxl_message.specs.declared.events.Event.{Event}
use Rattle.cxl_message.specs.declared.events.Out.{Out}
use Rattle.cxl_message.specs.declared.events.Sends.{Sends}
use Rattle.cxl_message.specs.declared.identifiers.Bytes64.{Bytes64}
use Rattle.cxl_message.specs.declared.identifiers.Line.{Line}
use Rattle.cxl_message.specs.declared.messages.Message.{Message}
use Rattle.cxl_message.specs.Codes.{channel_eq}
use Rattle.cxl_message.specs.Events.{outs}
use Rattle.cxl_message.specs.Lists.{below}
use Rattle.cxl_message.specs.Messages.{channel_of}
use Rattle.cxl_message.specs.Setup.{Configuration}
use Rattle.coherence_model.specs.Fitting.{cause_fits, out_fits}
use Rattle.coherence_model.specs.Flight.{in_flight, is_on, takes_on, without_taken}
use Rattle.coherence_model.specs.Next.{channels}
use Rattle.cxl_message.proofs.SameNames.{channel_eq-same, same-channel_eq}
use Rattle.coherence_lemmas.proofs.Directions.{send_parts, take_parts}
use Rattle.link_queues.specs.Links.{HasRoom, HasRoomFor, LinkRecord, after_cause, after_sends, carries_payloads, channel_at, channel_number, links_after, queue_after, queue_of, queue_place, room_of, with_sent}
use Rattle.link_queues.specs.Queues.{QueueRecord, with_message, without_message}
use Rattle.link_queues.proofs.Flights.{channel_there, host_there, number_low, numbered_channel, place_low}
use Rattle.link_queues.proofs.Tables.{change_table, get_table, same_table}

-- the queues, by what is on each
abbrev pub links_of : Configuration → (ℕ → List Message) → LinkRecord
links_of setup on = record { hosts = setup.hosts; queues = map (λ k. queue_of setup.credits (channel_at k) (on k)) (below (8 * setup.hosts)) }

-- what of the messages sent goes on the queue at a place
abbrev pub sent_to : ℕ → List Out → List Message
sent_to k os = map (λ o. o.message) (filter (is_on (k / 8) (channel_at k)) os)

number_forth : (n : ℕ) → n < 8 → channel_number (numbered_channel n) ≡ n
number_forth zero h = refl
number_forth (suc zero) h = refl
number_forth (suc (suc zero)) h = refl
number_forth (suc (suc (suc zero))) h = refl
number_forth (suc (suc (suc (suc zero)))) h = refl
number_forth (suc (suc (suc (suc (suc zero))))) h = refl
number_forth (suc (suc (suc (suc (suc (suc zero)))))) h = refl
number_forth (suc (suc (suc (suc (suc (suc (suc zero))))))) h = refl
number_forth (suc (suc (suc (suc (suc (suc (suc (suc n)))))))) h = absurd (omega arith)

-- a place of a host and a channel is theirs
only_place : (k h : ℕ) (c : Channel) → h ≡ k / 8 → c ≡ channel_at k → k ≡ queue_place h c
only_place k h c host channel =
    let low : k % 8 < 8 = omega arith in
    let number : channel_number c ≡ k % 8 = ap channel_number channel ∙ number_forth (k % 8) low in
    omega arith

-- the test for a host and a channel holds at their place
named_there : (h : ℕ) (c : Channel) → ((h == (queue_place h c / 8)) && channel_eq c (channel_at (queue_place h c))) ≡ true
named_there h c = and_from _ _ (eq-eqb h _ (sym (host_there h c))) (same-channel_eq c _ (sym (channel_there h c)))

-- and nowhere else
not_elsewhere : (h : ℕ) (c : Channel) (k : ℕ) → (k ≡ queue_place h c → ⊥) → ((h == (k / 8)) && channel_eq c (channel_at k)) ≡ false
not_elsewhere h c k other =
    false_from_ne_true _ (λ both.
    let parts = and_parts (h == (k / 8)) (channel_eq c (channel_at k)) both in
    other (only_place k h c (eqb-true h (k / 8) parts.0) (channel_eq-same c (channel_at k) parts.1)))

-- what is left at a place after a cause
abbrev pub left_at : List Event → Cause → ℕ → List Message
left_at t cause k = without_taken (takes_on (k / 8) (channel_at k) cause) (in_flight (k / 8) (channel_at k) t)

-- the queues after a take
taken_there : (setup : Configuration) (t : List Event) (h : ℕ) (m : Message) → h < setup.hosts
    → after_cause (Cause.Take h m) (links_after setup t) ≡ links_of setup (left_at t (Cause.Take h m))
taken_there setup t h m low =
    let place : ℕ = queue_place h (channel_of m) in
    let moved = change_table (queue_after setup t) (λ k. queue_of setup.credits (channel_at k) (left_at t (Cause.Take h m) k)) (8 * setup.hosts) place (without_message m)
    (place_low h setup.hosts (channel_of m) low)
    (ap (λ b. queue_of setup.credits (channel_at place) (without_taken (cond b (Some m) None) (in_flight (place / 8) (channel_at place) t))) (named_there h (channel_of m)))
    (λ k other less. ap (λ b. queue_of setup.credits (channel_at k) (without_taken (cond b (Some m) None) (in_flight (k / 8) (channel_at k) t))) (sym (not_elsewhere h (channel_of m) k other))) in
    λ i. record { hosts = setup.hosts; queues = moved i }

-- the host of a take is one of the setup's
abbrev pub TakesWithin : Configuration → Cause → Type 0
TakesWithin setup (Cause.Op s i op) = Unit {0}
TakesWithin setup (Cause.Take h m) = h < setup.hosts
TakesWithin setup (Cause.Act act) = Unit {0}

-- the queues after a cause
pub after_cause_is : (setup : Configuration) (t : List Event) (cause : Cause) → TakesWithin setup cause → after_cause cause (links_after setup t) ≡ links_of setup (left_at t cause)
after_cause_is setup t (Cause.Op s i op) within = refl
after_cause_is setup t (Cause.Take h m) within = taken_there setup t h m within
after_cause_is setup t (Cause.Act act) within = refl

-- the queues after a message was sent
sent_there : (setup : Configuration) (on : ℕ → List Message) (o : Out) → o.host < setup.hosts
    → with_sent o.host o.message (links_of setup on) ≡ links_of setup (λ k. on k ++ sent_to k (o ∷ []))
sent_there setup on o low =
    let place : ℕ = queue_place o.host (channel_of o.message) in
    let moved = change_table (λ k. queue_of setup.credits (channel_at k) (on k)) (λ k. queue_of setup.credits (channel_at k) (on k ++ sent_to k (o ∷ []))) (8 * setup.hosts) place (with_message o.message)
    (place_low o.host setup.hosts (channel_of o.message) low)
    (ap (λ b. queue_of setup.credits (channel_at place) (on place ++ map (λ (p : Out). p.message) (cond b (o ∷ []) []))) (named_there o.host (channel_of o.message)))
    (λ k other less.
    sym (ap (λ b. queue_of setup.credits (channel_at k) (on k ++ map (λ (p : Out). p.message) (cond b (o ∷ []) []))) (not_elsewhere o.host (channel_of o.message) k other)
    ∙ ap (queue_of setup.credits (channel_at k)) (append-nil (on k)))) in
    λ i. record { hosts = setup.hosts; queues = moved i }

-- what passes of two is what passes of the one and of the other
split_by : (b c : Bool) (o p : Out) → map (λ (x : Out). x.message) (cond b (o ∷ cond c (p ∷ []) []) (cond c (p ∷ []) []))
    ≡ map (λ (x : Out). x.message) (cond b (o ∷ []) []) ++ map (λ (x : Out). x.message) (cond c (p ∷ []) [])
split_by true true o p = refl
split_by true false o p = refl
split_by false true o p = refl
split_by false false o p = refl

-- two messages sent are one and then the other
sent_in_turn : (k : ℕ) (o p : Out) → sent_to k (o ∷ p ∷ []) ≡ sent_to k (o ∷ []) ++ sent_to k (p ∷ [])
sent_in_turn k o p = split_by (is_on (k / 8) (channel_at k) o) (is_on (k / 8) (channel_at k) p) o p

-- what is sent stands at its place
on_its_place : (o : Out) → sent_to (queue_place o.host (channel_of o.message)) (o ∷ []) ≡ o.message ∷ []
on_its_place o = ap (λ b. map (λ (p : Out). p.message) (cond b (o ∷ []) [])) (named_there o.host (channel_of o.message))

-- the hosts of what is sent are the setup's
abbrev pub SendsWithin : Configuration → Sends → Type 0
SendsWithin setup Sends.Nothing = Unit {0}
SendsWithin setup (Sends.One o) = o.host < setup.hosts
SendsWithin setup (Sends.Two o p) = (o.host < setup.hosts) × (p.host < setup.hosts)

-- the queues after messages were sent
pub after_sends_is : (setup : Configuration) (on : ℕ → List Message) (sends : Sends) → SendsWithin setup sends
    → after_sends sends (links_of setup on) ≡ links_of setup (λ k. on k ++ sent_to k (outs sends))
after_sends_is setup on Sends.Nothing within = λ i. links_of setup (λ k. sym (append-nil (on k)) i)
after_sends_is setup on (Sends.One o) within = sent_there setup on o within
after_sends_is setup on (Sends.Two o p) within =
    ap (with_sent p.host p.message) (sent_there setup on o within.0)
    ∙ sent_there setup (λ k. on k ++ sent_to k (o ∷ [])) p within.1
    ∙ (λ i. links_of setup (λ k. (append_assoc (on k) (sent_to k (o ∷ [])) (sent_to k (p ∷ [])) ∙ ap (λ ms. on k ++ ms) (sym (sent_in_turn k o p))) i))

-- where one more fits there is room
room_for_one : (ms : List Message) (m : Message) (n : ℕ) → length (ms ++ m ∷ []) ≤ n → length ms < n
room_for_one ms m n h = let e = length-append ms (m ∷ []) in omega arith

-- where that and more fits there is room for it
room_for_first : (ms ns : List Message) (m : Message) (n : ℕ) → length (ms ++ ((m ∷ []) ++ ns)) ≤ n → length ms < n
room_for_first ms ns m n h = let e = length-append ms ((m ∷ []) ++ ns) in omega arith

-- room at the place of a message
room_there : (setup : Configuration) (on : ℕ → List Message) (o : Out) → o.host < setup.hosts
    → length (on (queue_place o.host (channel_of o.message))) < room_of setup.credits (channel_of o.message) → HasRoom (links_of setup on) o.host o.message
room_there setup on o low room =
    let place : ℕ = queue_place o.host (channel_of o.message) in
    record {
      host = low;
      queue = queue_of setup.credits (channel_of o.message) (on place);
      there = get_table (λ k. queue_of setup.credits (channel_at k) (on k)) (8 * setup.hosts) place (place_low o.host setup.hosts (channel_of o.message) low)
          ∙ ap (λ c. Some (queue_of setup.credits c (on place))) (channel_there o.host (channel_of o.message));
      carried = refl;
      room = room;
    }

-- there is room for messages where all of them fit
pub room_for_sends : (setup : Configuration) (on : ℕ → List Message) (sends : Sends) → SendsWithin setup sends
    → ((h : ℕ) (c : Channel) → length (on (queue_place h c) ++ sent_to (queue_place h c) (outs sends)) ≤ room_of setup.credits c)
    → HasRoomFor (links_of setup on) sends
room_for_sends setup on Sends.Nothing within fits = tt
room_for_sends setup on (Sends.One o) within fits =
    let place : ℕ = queue_place o.host (channel_of o.message) in
    let here : length (on place ++ o.message ∷ []) ≤ room_of setup.credits (channel_of o.message) =
    subst (λ ms. length (on place ++ ms) ≤ room_of setup.credits (channel_of o.message)) (on_its_place o) (fits o.host (channel_of o.message)) in
    room_there setup on o within (room_for_one (on place) o.message _ here)
room_for_sends setup on (Sends.Two o p) within fits =
    let first : ℕ = queue_place o.host (channel_of o.message) in
    let second : ℕ = queue_place p.host (channel_of p.message) in
    let next : ℕ → List Message = λ k. on k ++ sent_to k (o ∷ []) in
    let most : ℕ = room_of setup.credits (channel_of o.message) in
    let most_too : ℕ = room_of setup.credits (channel_of p.message) in
    let here : length (on first ++ ((o.message ∷ []) ++ sent_to first (p ∷ []))) ≤ most =
    subst (λ ms. length (on first ++ (ms ++ sent_to first (p ∷ []))) ≤ most) (on_its_place o)
    (subst (λ ms. length (on first ++ ms) ≤ most) (sent_in_turn first o p) (fits o.host (channel_of o.message))) in
    let turned : length (next second ++ sent_to second (p ∷ [])) ≤ most_too =
    subst (λ ms. length ms ≤ most_too) (sym (append_assoc (on second) (sent_to second (o ∷ [])) (sent_to second (p ∷ []))))
    (subst (λ ms. length (on second ++ ms) ≤ most_too) (sent_in_turn second o p) (fits p.host (channel_of p.message))) in
    let there : length (next second ++ p.message ∷ []) ≤ most_too = subst (λ ms. length (next second ++ ms) ≤ most_too) (on_its_place p) turned in (
      room_there setup on o within.0 (room_for_first (on first) (sent_to first (p ∷ [])) o.message most here),
      subst (λ l. HasRoom l p.host p.message) (sym (sent_there setup on o within.0)) (room_there setup next p within.1 (room_for_one (next second) p.message most_too there)),
    )

-- a cause that fits takes from a host of the setup
pub takes_within : (setup : Configuration) (g : ℕ) (cause : Cause) → IsTrue (cause_fits setup g cause) → TakesWithin setup cause
takes_within setup g (Cause.Op s i op) fits = tt
takes_within setup g (Cause.Take h m) fits = ltb-true h setup.hosts (take_parts setup g h m fits).host
takes_within setup g (Cause.Act act) fits = tt

-- what fits is sent to or from hosts of the setup
pub sends_within : (setup : Configuration) (g : ℕ) (sends : Sends) → IsTrue (list_all (out_fits setup g) (outs sends)) → SendsWithin setup sends
sends_within setup g Sends.Nothing fits = tt
sends_within setup g (Sends.One o) fits =
    let parts = and_parts (out_fits setup g o) _ fits in
    ltb-true o.host setup.hosts (send_parts setup g o parts.0).host
sends_within setup g (Sends.Two o p) fits =
    let parts = and_parts (out_fits setup g o) _ fits in
    let rest = and_parts (out_fits setup g p) _ parts.1 in
    (ltb-true o.host setup.hosts (send_parts setup g o parts.0).host, ltb-true p.host setup.hosts (send_parts setup g p rest.0).host)
