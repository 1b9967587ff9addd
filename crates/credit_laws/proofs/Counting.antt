-- Totals over an agent's own events, and whose events change them.
use Rattle.std.proofs.Common.{◌≡◌, ◌+◌, ℕ, Bool, true, false, IsTrue, List, ◌∷◌, cond, length, refl, ap, arith}
use Rattle.std.specs.Prelude.{filter, ◌==◌}
use Rattle.std.specs.List.{list_all}
use Rattle.std.specs.Option.{option_len}
use Rattle.std.proofs.lemmas.Bool.{not_from_false}
use Rattle.std.proofs.lemmas.List.{length-map}
use Rattle.cxl_message.specs.declared.channels.Channel.{Channel}
use Rattle.cxl_message.specs.declared.events.Event.{Event}
use Rattle.cxl_message.specs.declared.events.Out.{Out}
use Rattle.cxl_message.specs.Events.{outs}
use Rattle.cxl_message.specs.Setup.{Configuration}
use Rattle.coherence_model.specs.Fitting.{cause_fits, out_fits}
use Rattle.coherence_model.specs.Flight.{is_on, sends_on, takes_on}
use Rattle.coherence_model.specs.Next.{receiver, sender}
use Rattle.coherence_model.specs.Traces.{events_of}
use Rattle.coherence_lemmas.proofs.Channels.{none_on}
use Rattle.coherence_lemmas.proofs.CreditsReach.{count_on}
use Rattle.coherence_lemmas.proofs.Flight.{others_take_nothing}

-- a total that grows by d at an event, by whether the event is the agent's own
total_by : (total : List Event → ℕ) (d : ℕ) (e : Event) (mine : List Event) (own : Bool) → total (e ∷ mine) ≡ d + total mine → (own ≡ false → d ≡ 0) → total (cond own (e ∷ mine) mine) ≡ d + total mine
total_by total d e mine true own foreign = own
total_by total d e mine false own foreign = let none = foreign refl in omega arith

-- a total over an agent's own events grows by d, where d is 0 at another agent's event
pub total_step : (total : List Event → ℕ) (g d : ℕ) (e : Event) (past : List Event) → total (e ∷ events_of g past) ≡ d + total (events_of g past) → ((e.agent == g) ≡ false → d ≡ 0) → total (events_of g (e ∷ past)) ≡ d + total (events_of g past)
total_step total g d e past own foreign = total_by total d e (events_of g past) (e.agent == g) own foreign

-- another agent than the sender sends nothing there
pub count_none : (setup : Configuration) (g h : ℕ) (c : Channel) (os : List Out) → IsTrue (list_all (out_fits setup g) os) → (g == sender h c) ≡ false → count_on h c os ≡ 0
count_none setup g h c os fits other = ap length (none_on setup g h c os fits other)

-- the messages of an event on a channel are as many as those counted there
pub sends_counted : (h : ℕ) (c : Channel) (e : Event) → length (sends_on h c e) ≡ count_on h c (outs e.sends)
sends_counted h c e = length-map (filter (is_on h c) (outs e.sends)) (λ (o : Out). o.message)

-- another agent than the receiver takes nothing there
pub takes_none : (setup : Configuration) (e : Event) (h : ℕ) (c : Channel) → IsTrue (cause_fits setup e.agent e.cause) → (e.agent == receiver h c) ≡ false → option_len (takes_on h c e.cause) ≡ 0
takes_none setup e h c fits other = ap option_len (others_take_nothing setup h c e fits (not_from_false _ other))
