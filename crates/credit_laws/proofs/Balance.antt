-- What holds of the totals of a channel after every run.
use Rattle.std.proofs.Common.{◌≡◌, ◌≤◌, ◌+◌, ◌⊎◌, ℕ, Bool, true, false, IsTrue, List, [], ◌∷◌, Option, Some, None, cond, length, refl, sym, ◌∙◌, subst, inl, inr, arith}
use Rattle.std.specs.Prelude.{count_by, ◌==◌}
use Rattle.std.specs.Option.{option_len, option_map_or}
use Rattle.std.proofs.lemmas.Bool.{and_parts, eqb-true}
use Rattle.std.proofs.lemmas.List.{length-append}
use Rattle.std.proofs.lemmas.List.Sums.{count_by-le-length, sum_by-append}
use Rattle.cxl_message.specs.declared.channels.Channel.{Channel}
use Rattle.cxl_message.specs.declared.events.Event.{Event}
use Rattle.cxl_message.specs.declared.identifiers.Bytes64.{Bytes64}
use Rattle.cxl_message.specs.declared.identifiers.Line.{Line}
use Rattle.cxl_message.specs.declared.messages.Message.{Message}
use Rattle.cxl_message.specs.Channels.{credit_channel, has_credits}
use Rattle.cxl_message.specs.Events.{outs}
use Rattle.cxl_message.specs.Messages.{message_eq}
use Rattle.cxl_message.specs.Setup.{Configuration}
use Rattle.coherence_model.specs.CreditFacts.{credits_in_flight}
use Rattle.coherence_model.specs.Credits.{credits_left, earned_count, returned_count, sent_count, taken_count, takes_credit}
use Rattle.coherence_model.specs.Flight.{in_flight, sends_on, takes_on, without_taken}
use Rattle.coherence_model.specs.Next.{receiver, sender}
use Rattle.coherence_model.specs.Runs.{IsRun, is_allowed, is_run}
use Rattle.coherence_model.specs.Traces.{events_of}
use Rattle.coherence_lemmas.proofs.Allowed.{AllowedParts, allowed_parts}
use Rattle.coherence_lemmas.proofs.CreditsReach.{count_on, credits_reach}
use Rattle.coherence_lemmas.proofs.Flight.{taken_is_there}
use Rattle.credit_laws.specs.Laws.{buffered_count}
use Rattle.credit_laws.proofs.Buffering.{buffered_step}
use Rattle.credit_laws.proofs.Counting.{count_none, sends_counted, takes_none, total_step}
use Rattle.credit_laws.proofs.CreditMessages.{credit_taken_on, credits_counted_on, credits_go_back, credits_of}
use Rattle.coherence_lemmas.proofs.Queues.{count-without_taken, counts, length-without_taken}
use Rattle.credit_laws.proofs.Returns.{Returns, returns_owed}

-- the totals of a channel of a host after a trace, by its sender's and its receiver's own events
abbrev pub sent : ℕ → Channel → List Event → ℕ
sent h c t = sent_count h c (events_of (sender h c) t)

abbrev pub earned : ℕ → Channel → List Event → ℕ
earned h c t = earned_count h c (events_of (sender h c) t)

abbrev pub taken : ℕ → Channel → List Event → ℕ
taken h c t = taken_count h c (events_of (receiver h c) t)

abbrev pub returned : ℕ → Channel → List Event → ℕ
returned h c t = returned_count h c (events_of (receiver h c) t)

abbrev pub buffered : ℕ → Channel → List Event → ℕ
buffered h c t = buffered_count h c (events_of (receiver h c) t)

-- what an event adds to the totals
abbrev pub adds_sent : ℕ → Channel → Event → ℕ
adds_sent h c e = length (sends_on h c e)

abbrev pub adds_taken : ℕ → Channel → Event → ℕ
adds_taken h c e = option_len (takes_on h c e.cause)

abbrev pub adds_returned : ℕ → Channel → Event → ℕ
adds_returned h c e = credits_of h c (outs e.sends)

abbrev pub adds_earned : ℕ → Channel → Event → ℕ
adds_earned h c e = cond (takes_credit h c e.cause) 1 0

-- the totals in balance: messages sent and taken, Credits sent and taken, what the credits allow, and what is held
pub record Balance (setup : Configuration) (h : ℕ) (c : Channel) (t : List Event) : Type 0 where
  pub messages : sent h c t ≡ taken h c t + length (in_flight h c t)
  pub credits : returned h c t ≡ earned h c t + credits_in_flight h c t
  pub within : sent h c t ≤ setup.credits + earned h c t
  pub held : returned h c t + buffered h c t ≤ taken h c t

-- nothing is buffered at first
none_held : (h : ℕ) (c : Channel) → buffered h c [] ≤ 0
none_held h Channel.Req = omega arith
none_held h Channel.Rwd = omega arith
none_held h Channel.BiRsp = omega arith
none_held h Channel.Ndr = omega arith
none_held h Channel.Drs = omega arith
none_held h Channel.BiSnp = omega arith
none_held h Channel.CreditUp = omega arith
none_held h Channel.CreditDown = omega arith

-- of what was taken at most one is of a kind
one_by : (b : Bool) → cond b 1 0 ≤ 1
one_by true = omega arith
one_by false = omega arith

kind_within : (o : Option Message) (test : Message → Bool) → option_map_or (counts test) o 0 ≤ option_len o
kind_within None test = omega arith
kind_within (Some m) test = one_by (test m)

module _ (setup : Configuration) (opening : List (Line × Bytes64)) (h : ℕ) (c : Channel) (credited : IsTrue (has_credits c)) (e : Event) (past : List Event) (parts : AllowedParts setup opening past e) where
  -- the sender's messages
  sent_step : sent h c (e ∷ past) ≡ adds_sent h c e + sent h c past
  sent_step = total_step (sent_count h c) (sender h c) (adds_sent h c e) e past refl (λ other. sends_counted h c e ∙ count_none setup e.agent h c (outs e.sends) parts.profile.sends other)

  -- the receiver's takes
  taken_step : taken h c (e ∷ past) ≡ adds_taken h c e + taken h c past
  taken_step = total_step (taken_count h c) (receiver h c) (adds_taken h c e) e past refl (takes_none setup e h c parts.profile.cause)

  -- Credits are sent on the credit channel
  returned_on : count_by (message_eq (Message.Credit c)) (sends_on h (credit_channel c) e) ≡ adds_returned h c e
  returned_on = credits_counted_on h c (outs e.sends)

  -- no other agent sends them
  returned_none : (e.agent == receiver h c) ≡ false → adds_returned h c e ≡ 0
  returned_none other =
      let none = count_none setup e.agent h (credit_channel c) (outs e.sends) parts.profile.sends (subst (λ g. (e.agent == g) ≡ false) (sym (credits_go_back h c credited).0) other) in
      omega (arith, returned_on, none, sends_counted h (credit_channel c) e, count_by-le-length (message_eq (Message.Credit c)) (sends_on h (credit_channel c) e))

  -- the receiver's Credits
  returned_step : returned h c (e ∷ past) ≡ adds_returned h c e + returned h c past
  returned_step = total_step (returned_count h c) (receiver h c) (adds_returned h c e) e past refl returned_none

  -- the sender's Credits
  earned_step : earned h c (e ∷ past) ≡ adds_earned h c e + earned h c past
  earned_step = total_step (earned_count h c) (sender h c) (adds_earned h c e) e past refl (λ other.
      let none = takes_none setup e h (credit_channel c) parts.profile.cause (subst (λ g. (e.agent == g) ≡ false) (sym (credits_go_back h c credited).1) other) in
      omega (arith, none, credit_taken_on h c e.cause, kind_within (takes_on h (credit_channel c) e.cause) (message_eq (Message.Credit c))))

  -- the messages in flight
  flight_step : length (in_flight h c (e ∷ past)) + adds_taken h c e ≡ length (in_flight h c past) + adds_sent h c e
  flight_step =
      let left = length-without_taken (takes_on h c e.cause) (in_flight h c past) (λ m. taken_is_there h c e.cause past m parts.take) in
      let joined = length-append (without_taken (takes_on h c e.cause) (in_flight h c past)) (sends_on h c e) in
      omega (arith, left, joined)

  -- the Credits in flight
  credits_step : credits_in_flight h c (e ∷ past) + adds_earned h c e ≡ credits_in_flight h c past + adds_returned h c e
  credits_step =
      let test : Message → Bool = message_eq (Message.Credit c) in
      let d = credit_channel c in
      let left = count-without_taken test (takes_on h d e.cause) (in_flight h d past) (λ m. taken_is_there h d e.cause past m parts.take) in
      let joined = sum_by-append (counts test) (without_taken (takes_on h d e.cause) (in_flight h d past)) (sends_on h d e) in
      omega (arith, left, joined, returned_on, credit_taken_on h c e.cause)

  -- the credits left reach for what is sent
  spent_by : (own : Bool) → (e.agent == sender h c) ≡ own → adds_sent h c e ≤ credits_left setup h c (events_of (sender h c) past)
  spent_by true is =
      let reach = credits_reach setup h c parts.row.w.sends (events_of e.agent past) credited parts.row.paid in
      let here = subst (λ g. count_on h c (outs parts.row.w.sends) ≤ credits_left setup h c (events_of g past)) (eqb-true e.agent (sender h c) is) reach in
      let there = subst (λ sends. count_on h c (outs sends) ≤ credits_left setup h c (events_of (sender h c) past)) (sym parts.row.sends) here in
      omega (arith, there, sends_counted h c e)
  spent_by false is =
      let none = count_none setup e.agent h c (outs e.sends) parts.profile.sends is in
      omega (arith, none, sends_counted h c e)

  -- what is returned is owed
  owed_by : (own : Bool) → (e.agent == receiver h c) ≡ own → (adds_returned h c e ≡ 0) ⊎ (returned h c past + adds_returned h c e + buffered h c past ≤ taken h c past)
  owed_by true is =
      let owes = returns_owed setup opening e.agent h c e.cause (events_of e.agent past) parts.row.w parts.row.row in
      let here = subst (λ g. Returns h c (events_of g past) parts.row.w) (eqb-true e.agent (receiver h c) is) owes in
      subst (λ sends. (credits_of h c (outs sends) ≡ 0) ⊎ (returned h c past + credits_of h c (outs sends) + buffered h c past ≤ taken h c past)) (sym parts.row.sends) here
  owed_by false is = inl (returned_none is)

  -- the totals stay in balance
  balance_step : Balance setup h c past → Balance setup h c (e ∷ past)
  balance_step old =
      let spent = spent_by (e.agent == sender h c) refl in
      let grown = buffered_step setup h c e past parts.profile.cause in
      record {
        messages = omega (arith, sent_step, taken_step, flight_step, old.messages);
        credits = omega (arith, returned_step, earned_step, credits_step, old.credits);
        within = omega (arith, spent, sent_step, earned_step, old.within);
        held = elim (owed_by (e.agent == receiver h c) refl) [
          | inl none ↦ omega (arith, none, grown, returned_step, taken_step, old.held)
          | inr owed ↦ omega (arith, owed, grown, returned_step, taken_step, old.held)
        ];
      }

-- after every run the totals are in balance
pub balanced :
    (setup : Configuration) (opening : List (Line × Bytes64)) (h : ℕ) (c : Channel) → IsTrue (has_credits c)
    → (t : List Event) → IsRun setup opening t → Balance setup h c t
balanced setup opening h c credited [] run = record { messages = refl; credits = refl; within = omega arith; held = omega (arith, none_held h c) }
balanced setup opening h c credited (e ∷ past) run =
    let runs = and_parts (is_run setup opening past) (is_allowed setup opening past e) run in
    balance_step setup opening h c credited e past (allowed_parts setup opening past e runs.1) (balanced setup opening h c credited past runs.0)
