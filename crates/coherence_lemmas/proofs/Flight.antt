-- Messages in flight past other agents' events: what an agent may take stays takeable.
use Rattle.std.proofs.Common.{◌≡◌, ℕ, Bool, true, false, IsTrue, List, ◌∷◌, ◌++◌, Option, Some, None, cond, find, refl, sym, ◌∙◌, ap, subst, inl, inr}
use Rattle.std.specs.Prelude.{not, ◌&&◌, ◌==◌}
use Rattle.std.specs.List.{list_any}
use Rattle.std.specs.Option.{option_map_or, option_or}
use Rattle.std.proofs.lemmas.Bool.{and_from, and_parts, both_ways, eq-eqb, eqb-true, false≢true, not-true, or_cases, or_left, or_right}
use Rattle.std.proofs.lemmas.List.Folds.{find-append, list_any-append}
use Rattle.cxl_message.specs.declared.channels.Channel.{Channel}
use Rattle.cxl_message.specs.declared.events.Cause.{Cause}
use Rattle.cxl_message.specs.declared.events.Event.{Event}
use Rattle.cxl_message.specs.declared.messages.Message.{Message}
use Rattle.cxl_message.specs.Codes.{channel_eq}
use Rattle.cxl_message.specs.Messages.{channel_of, is_conflict_ack, message_eq}
use Rattle.cxl_message.specs.Setup.{Configuration}
use Rattle.coherence_model.specs.Fitting.{cause_fits}
use Rattle.coherence_model.specs.Flight.{in_flight, is_first_of_tag, is_takeable, sends_on, shares_tag, takes_on, without_taken}
use Rattle.coherence_model.specs.Next.{receiver}
use Rattle.coherence_model.specs.Rules.{k0_takeable}
use Rattle.cxl_message.proofs.SameNames.{channel_eq-same}
use Rattle.coherence_lemmas.proofs.Directions.{take_parts}
use Rattle.coherence_lemmas.proofs.OwnEvents.{is_foreign}

-- what is there under a test was let through by it
let_through : (test : Bool) (n m : Message) → cond test (Some n) None ≡ Some m → (test ≡ true) × (n ≡ m)
let_through true n m h = (refl, cc)
let_through false n m h = cc

-- what a cause takes from a channel of a host is a message of that host, on that channel
pub record TakenFrom (h : ℕ) (c : Channel) (k : ℕ) (n m : Message) : Type 0 where
  pub host : k ≡ h
  pub channel : channel_of n ≡ c
  pub message : n ≡ m

pub taken_from : (h : ℕ) (c : Channel) (host : ℕ) (n m : Message) → takes_on h c (Cause.Take host n) ≡ Some m → TakenFrom h c host n m
taken_from h c host n m takes =
    let through = let_through ((host == h) && channel_eq (channel_of n) c) n m takes in
    let parts = and_parts _ _ through.0 in
    record { host = eqb-true host h parts.0; channel = channel_eq-same (channel_of n) c parts.1; message = through.1 }

-- an agent that takes from a channel is its receiver
pub taker_is_receiver : (setup : Configuration) (h : ℕ) (c : Channel) (g : ℕ) (cause : Cause) (m : Message) → IsTrue (cause_fits setup g cause) → takes_on h c cause ≡ Some m → g ≡ receiver h c
taker_is_receiver setup h c g (Cause.Op s i op) m fits takes = cc
taker_is_receiver setup h c g (Cause.Take host n) m fits takes =
    let from = taken_from h c host n m takes in
    let is = (take_parts setup g host n fits).receiver in
    is ∙ ap (λ x. receiver x (channel_of n)) from.host ∙ ap (receiver h) from.channel
taker_is_receiver setup h c g (Cause.Act act) m fits takes = cc

-- an option is None unless it has something
none_unless : (o : Option Message) → ((m : Message) → o ≡ Some m → ⊥) → o ≡ None
none_unless None h = refl
none_unless (Some m) h = absurd (h m refl)

-- what an agent may take, another agent doesn't
pub others_take_nothing : (setup : Configuration) (h : ℕ) (c : Channel) (f : Event) → IsTrue (cause_fits setup f.agent f.cause) → IsTrue (is_foreign (receiver h c) f) → takes_on h c f.cause ≡ None
others_take_nothing setup h c f fits foreign =
    none_unless (takes_on h c f.cause) (λ m takes. both_ways (f.agent == receiver h c) (not-true _ foreign) (eq-eqb f.agent (receiver h c) (taker_is_receiver setup h c f.agent f.cause m fits takes)))

-- past another agent's event a channel has what it had, and that event's messages behind
pub in_flight-foreign :
    (setup : Configuration) (h : ℕ) (c : Channel) (f : Event) (past : List Event)
    → IsTrue (cause_fits setup f.agent f.cause) → IsTrue (is_foreign (receiver h c) f) → in_flight h c (f ∷ past) ≡ in_flight h c past ++ sends_on h c f
in_flight-foreign setup h c f past fits foreign = ap (λ taken. without_taken taken (in_flight h c past) ++ sends_on h c f) (others_take_nothing setup h c f fits foreign)

-- a test that the first of two options passes passes
first_kept : (test : Message → Bool) (x y : Option Message) → option_map_or test x false ≡ true → option_map_or test (option_or x y) false ≡ true
first_kept test None y h = absurd (false≢true h)
first_kept test (Some x) y h = h

-- what may be taken stays takeable when messages are sent behind it
pub takeable-appended : (m : Message) (waiting more : List Message) → IsTrue (is_takeable m waiting) → IsTrue (is_takeable m (waiting ++ more))
takeable-appended m waiting more h =
    let parts = and_parts _ _ h in
    and_from _ _ (list_any-append (message_eq m) waiting more ∙ or_left _ _ parts.0)
    (elim (or_cases (not (is_conflict_ack m)) (is_first_of_tag m waiting) parts.1) [
      | inl other ↦ or_left _ _ other
      | inr first ↦ or_right _ _
          (ap (λ found. option_map_or (message_eq m) found false) (find-append (shares_tag m) waiting more)
          ∙ first_kept (message_eq m) (find (shares_tag m) waiting) (find (shares_tag m) more) first)
    ])

-- what a cause takes stays takeable past another agent's event
pub take_kept :
    (setup : Configuration) (g : ℕ) (cause : Cause) (f : Event) (past : List Event)
    → IsTrue (cause_fits setup g cause) → IsTrue (cause_fits setup f.agent f.cause) → IsTrue (is_foreign g f)
    → IsTrue (k0_takeable cause past) → IsTrue (k0_takeable cause (f ∷ past))
take_kept setup g (Cause.Op s i op) f past fits others foreign h = refl
take_kept setup g (Cause.Take host m) f past fits others foreign h =
    let is = (take_parts setup g host m fits).receiver in
    let waiting = in_flight-foreign setup host (channel_of m) f past others (subst (λ x. IsTrue (is_foreign x f)) is foreign) in
    subst (λ ms. IsTrue (is_takeable m ms)) (sym waiting) (takeable-appended m (in_flight host (channel_of m) past) (sends_on host (channel_of m) f) h)
take_kept setup g (Cause.Act act) f past fits others foreign h = refl

-- what an allowed cause takes from a channel is in flight there
pub taken_is_there :
    (h : ℕ) (c : Channel) (cause : Cause) (past : List Event) (m : Message)
    → IsTrue (k0_takeable cause past) → takes_on h c cause ≡ Some m → IsTrue (list_any (message_eq m) (in_flight h c past))
taken_is_there h c (Cause.Op s i op) past m h0 takes = cc
taken_is_there h c (Cause.Take k n) past m h0 takes =
    let from = taken_from h c k n m takes in
    let there = (and_parts _ _ h0).0 in
    subst (λ x. IsTrue (list_any (message_eq x) (in_flight h c past))) from.message
    (subst (λ d. IsTrue (list_any (message_eq n) (in_flight h d past))) from.channel
    (subst (λ g. IsTrue (list_any (message_eq n) (in_flight g (channel_of n) past))) from.host there))
taken_is_there h c (Cause.Act act) past m h0 takes = cc
