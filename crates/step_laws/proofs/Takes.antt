-- How often a take stands among the takes of the next steps.
use Rattle.std.proofs.Common.{◌≡◌, ℕ, Bool, true, false, List, Option, cond, refl, sym, ◌∙◌, ap, arith}
use Rattle.std.specs.Prelude.{◌==◌, ◌&&◌, sum_by, count_by, flat_map, filter, nat_lt}
use Rattle.std.proofs.lemmas.Bool.{eq-eqb, ne_eqb, false≢true, false_from_ne_true}
use Rattle.cxl_message.specs.declared.events.Cause.{Cause}
use Rattle.cxl_message.specs.declared.events.Commit.{Commit}
use Rattle.cxl_message.specs.declared.events.Event.{Event}
use Rattle.cxl_message.specs.declared.events.Sends.{Sends}
use Rattle.cxl_message.specs.declared.identifiers.Bytes64.{Bytes64}
use Rattle.cxl_message.specs.declared.identifiers.Line.{Line}
use Rattle.cxl_message.specs.declared.messages.Message.{Message}
use Rattle.cxl_message.specs.Lists.{below}
use Rattle.cxl_message.specs.Messages.{channel_of, message_eq}
use Rattle.cxl_message.specs.Setup.{Configuration}
use Rattle.coherence_model.specs.Flight.{in_flight, is_takeable}
use Rattle.coherence_model.specs.Next.{next_takes, receiver, step_of}
use Rattle.coherence_model.specs.Rows.{row_holds}
use Rattle.coherence_model.specs.Traces.{events_of}
use Rattle.step_laws.specs.Events.{cause_eq, event_eq}
use Rattle.step_laws.proofs.Counts.{each_filter, each_holds, each_weaker, counted, count_by-filter, count_by-flat_map, count_by-none, sum_by-below, sum_by-same, sum_by-zeros}
use Rattle.step_laws.proofs.Events.{count-step_of}
use Rattle.step_laws.proofs.Flight.{in_flight-channel}
use Rattle.cxl_message.proofs.SameNames.{same-channel_eq}
use Rattle.cxl_message.proofs.SameMessages.{message_eq-same}
use Rattle.cxl_message.specs.declared.channels.Channel.{Channel}
use Rattle.cxl_message.specs.Codes.{channel_eq}
use Rattle.coherence_model.specs.Next.{channels}

-- a sum over the channels, of which one alone counts
pub sum_by-channels : (f : Channel → ℕ) (c : Channel) → ((d : Channel) → channel_eq d c ≡ false → f d ≡ 0) → sum_by f channels ≡ f c
sum_by-channels f Channel.Req h =
    omega (arith, h Channel.Rwd refl, h Channel.BiRsp refl, h Channel.Ndr refl, h Channel.Drs refl, h Channel.BiSnp refl, h Channel.CreditUp refl, h Channel.CreditDown refl)
sum_by-channels f Channel.Rwd h =
    omega (arith, h Channel.Req refl, h Channel.BiRsp refl, h Channel.Ndr refl, h Channel.Drs refl, h Channel.BiSnp refl, h Channel.CreditUp refl, h Channel.CreditDown refl)
sum_by-channels f Channel.BiRsp h =
    omega (arith, h Channel.Req refl, h Channel.Rwd refl, h Channel.Ndr refl, h Channel.Drs refl, h Channel.BiSnp refl, h Channel.CreditUp refl, h Channel.CreditDown refl)
sum_by-channels f Channel.Ndr h =
    omega (arith, h Channel.Req refl, h Channel.Rwd refl, h Channel.BiRsp refl, h Channel.Drs refl, h Channel.BiSnp refl, h Channel.CreditUp refl, h Channel.CreditDown refl)
sum_by-channels f Channel.Drs h =
    omega (arith, h Channel.Req refl, h Channel.Rwd refl, h Channel.BiRsp refl, h Channel.Ndr refl, h Channel.BiSnp refl, h Channel.CreditUp refl, h Channel.CreditDown refl)
sum_by-channels f Channel.BiSnp h =
    omega (arith, h Channel.Req refl, h Channel.Rwd refl, h Channel.BiRsp refl, h Channel.Ndr refl, h Channel.Drs refl, h Channel.CreditUp refl, h Channel.CreditDown refl)
sum_by-channels f Channel.CreditUp h =
    omega (arith, h Channel.Req refl, h Channel.Rwd refl, h Channel.BiRsp refl, h Channel.Ndr refl, h Channel.Drs refl, h Channel.BiSnp refl, h Channel.CreditDown refl)
sum_by-channels f Channel.CreditDown h =
    omega (arith, h Channel.Req refl, h Channel.Rwd refl, h Channel.BiRsp refl, h Channel.Ndr refl, h Channel.Drs refl, h Channel.BiSnp refl, h Channel.CreditUp refl)

-- how often an event stands in a list
abbrev pub times : Event → List Event → ℕ
times e xs = count_by (event_eq e) xs

-- the takes of all channels of all hosts
abbrev pub all_takes : Configuration → List (Line × Bytes64) → List Event → List Event
all_takes setup opening t = flat_map (λ h. flat_map (next_takes setup opening t h) channels) (below setup.hosts)

-- an event with another cause is none of the takes
none-among :
    (setup : Configuration) (opening : List (Line × Bytes64)) (t : List Event) (e : Event) (g h : ℕ)
    → ((k : ℕ) (m : Message) → cause_eq e.cause (Cause.Take k m) ≡ false) → (ms : List Message)
    → times e (flat_map (λ m. step_of setup opening t g (Cause.Take h m)) ms) ≡ 0
none-among setup opening t e g h other ms =
    count_by-flat_map (event_eq e) (λ m. step_of setup opening t g (Cause.Take h m)) ms
    ∙ sum_by-zeros _ (λ m. count-step_of setup opening t e g (Cause.Take h m) ∙ ap
    (λ b. counted ((b && (e.agent == g)) && row_holds setup opening e (events_of e.agent t))) (other h m)) ms

pub takes-none :
    (setup : Configuration) (opening : List (Line × Bytes64)) (t : List Event) (e : Event) → ((h : ℕ) (m : Message) → cause_eq e.cause (Cause.Take h m) ≡ false)
    → times e (all_takes setup opening t) ≡ 0
takes-none setup opening t e other =
    count_by-flat_map (event_eq e) (λ h. flat_map (next_takes setup opening t h) channels) (below setup.hosts)
    ∙ sum_by-zeros _
    (λ h. count_by-flat_map (event_eq e) (next_takes setup opening t h) channels
    ∙ sum_by-zeros _ (λ c. none-among setup opening t e (receiver h c) h other (filter (λ m. is_takeable m (in_flight h c t)) (in_flight h c t))) channels)
    (below setup.hosts)

-- the take of message m from host h's channel, as an event
abbrev pub take_event : ℕ → ℕ → Message → Sends → Option Commit → Event
take_event g h m sends commit = record { agent = g; cause = Cause.Take h m; sends = sends; commit = commit }

pub sorted-step : (x q y z : Bool) → counted (((x && q) && y) && z) ≡ cond ((x && y) && z) (counted q) 0
sorted-step true true true true = refl
sorted-step true true true false = refl
sorted-step true true false z = refl
sorted-step true false true true = refl
sorted-step true false true false = refl
sorted-step true false false z = refl
sorted-step false q y z = refl

sum-if : (b : Bool) (f : Message → ℕ) (ms : List Message) → sum_by (λ m. cond b (f m) 0) ms ≡ cond b (sum_by f ms) 0
sum-if true f ms = refl
sum-if false f ms = sum_by-zeros _ (λ m. refl) ms

-- among the takes of these messages it stands as often as its message does, where host, agent and row are right
among : (setup : Configuration) (opening : List (Line × Bytes64)) (t : List Event) (g h : ℕ) (m : Message) (sends : Sends) (commit : Option Commit) (r k : ℕ) (ms : List Message)
    → times (take_event g h m sends commit) (flat_map (λ n. step_of setup opening t r (Cause.Take k n)) ms)
    ≡ cond (((h == k) && (g == r)) && row_holds setup opening (take_event g h m sends commit) (events_of g t)) (count_by (message_eq m) ms) 0
among setup opening t g h m sends commit r k ms =
    let e : Event = take_event g h m sends commit in
    let row : Bool = row_holds setup opening e (events_of g t) in
    count_by-flat_map (event_eq e) (λ n. step_of setup opening t r (Cause.Take k n)) ms
    ∙ (sum_by-same _ (λ n. cond (((h == k) && (g == r)) && row) (counted (message_eq m n)) 0) ms
    (each_holds _ (λ n. count-step_of setup opening t e r (Cause.Take k n) ∙ sorted-step (h == k) (message_eq m n) (g == r) row) ms)
    ∙ sum-if (((h == k) && (g == r)) && row) (λ n. counted (message_eq m n)) ms)

-- on another channel there is no such message
other-channel : (m : Message) (c : Channel) (n : Message) → channel_eq c (channel_of m) ≡ false → channel_of n ≡ c → message_eq m n ≡ false
other-channel m c n other on =
    false_from_ne_true (message_eq m n) (λ same. false≢true (sym other ∙ same-channel_eq c (channel_of m) (sym on ∙ ap channel_of (sym (message_eq-same m n same)))))

cond-zero : (b : Bool) (n : ℕ) → n ≡ 0 → cond b n 0 ≡ 0
cond-zero true n e = e
cond-zero false n e = refl

on-channel : (setup : Configuration) (opening : List (Line × Bytes64)) (t : List Event) (g h : ℕ) (m : Message) (sends : Sends) (commit : Option Commit) (k : ℕ) (c : Channel)
    → channel_eq c (channel_of m) ≡ false → times (take_event g h m sends commit) (next_takes setup opening t k c) ≡ 0
on-channel setup opening t g h m sends commit k c other =
    let waiting : List Message = in_flight k c t in
    let e : Event = take_event g h m sends commit in
    among setup opening t g h m sends commit (receiver k c) k (filter (λ n. is_takeable n waiting) waiting)
    ∙ cond-zero (((h == k) && (g == receiver k c)) && row_holds setup opening e (events_of g t)) _
    (count_by-none (message_eq m) _ (each_filter (λ n. message_eq m n ≡ false) (λ n. is_takeable n waiting) waiting
    (each_weaker _ _ (λ n on. other-channel m c n other on) waiting (in_flight-channel k c t))))

other-host : (h k : ℕ) (y z : Bool) (n : ℕ) → (k ≡ h → ⊥) → cond (((h == k) && y) && z) n 0 ≡ 0
other-host h k y z n other = rw (ne_eqb h k (λ e. other (sym e)))

own-host : (h : ℕ) (y z k : Bool) (n : ℕ) → cond (((h == h) && y) && z) (cond k n 0) 0 ≡ cond ((y && z) && k) n 0
own-host h true true k n = rw (eq-eqb h h refl)
own-host h true false k n = rw (eq-eqb h h refl)
own-host h false z k n = rw (eq-eqb h h refl)

-- how often a take stands among the takes
pub takes-counted : (setup : Configuration) (opening : List (Line × Bytes64)) (t : List Event) (g h : ℕ) (m : Message) (sends : Sends) (commit : Option Commit)
    → times (take_event g h m sends commit) (all_takes setup opening t)
    ≡ cond (nat_lt h setup.hosts)
    (cond (((g == receiver h (channel_of m)) && row_holds setup opening (take_event g h m sends commit) (events_of g t)) && is_takeable m
    (in_flight h (channel_of m) t)) (count_by (message_eq m) (in_flight h (channel_of m) t)) 0) 0
takes-counted setup opening t g h m sends commit =
    let e : Event = take_event g h m sends commit in
    let row : Bool = row_holds setup opening e (events_of g t) in
    let c : Channel = channel_of m in
    let waiting : List Message = in_flight h c t in
    let of_host : (k : ℕ) → times e (flat_map (next_takes setup opening t k) channels) ≡ times e (next_takes setup opening t k c) =
    λ k. count_by-flat_map (event_eq e) (next_takes setup opening t k) channels ∙ sum_by-channels (λ d. times e (next_takes setup opening t k d)) c
    (on-channel setup opening t g h m sends commit k) in
    let there : (k : ℕ) → times e (next_takes setup opening t k c) ≡ cond (((h == k) && (g == receiver k c)) && row) (count_by (message_eq m) (filter (λ n. is_takeable n (in_flight k c t)) (in_flight k c t))) 0 =
    λ k. among setup opening t g h m sends commit (receiver k c) k (filter (λ n. is_takeable n (in_flight k c t)) (in_flight k c t)) in
    count_by-flat_map (event_eq e) (λ k. flat_map (next_takes setup opening t k) channels) (below setup.hosts)
    ∙ (sum_by-below (λ k. times e (flat_map (next_takes setup opening t k) channels)) h setup.hosts
    (λ k other. of_host k ∙ there k ∙ other-host h k (g == receiver k c) row _ other)
    ∙ ap (λ n. cond (nat_lt h setup.hosts) n 0)
    (of_host h ∙ there h
    ∙ ap (λ n. cond (((h == h) && (g == receiver h c)) && row) n 0)
    (count_by-filter (message_eq m) (λ n. is_takeable n waiting) (is_takeable m waiting)
    (λ n same. ap (λ x. is_takeable x waiting) (sym (message_eq-same m n same))) waiting)
    ∙ own-host h (g == receiver h c) row (is_takeable m waiting) (count_by (message_eq m) waiting)))
