-- What the profile says of an event, part by part.
use Rattle.std.proofs.Common.{◌≡◌, ℕ, true}
use Rattle.std.proofs.lemmas.Bool.{and_parts, and_from}
use Rattle.cxl_message.specs.declared.events.Event.{Event}
use Rattle.cxl_message.specs.declared.messages.Message.{Message}
use Rattle.cxl_message.specs.Profile.{in_profile}
use Rattle.cxl_message.specs.Setup.{Configuration}
use Rattle.coherence_model.specs.Fitting.{is_addressed, message_fits, take_fits}
use Rattle.coherence_model.specs.Rules.{p0_profile}
use Rattle.coherence_lemmas.proofs.Allowed.{Profiled}

-- an event with all parts of the profile is in it
pub profile_from : (setup : Configuration) (e : Event) → Profiled setup e → p0_profile setup e ≡ true
profile_from setup e h = and_from _ _ (and_from _ _ (and_from _ _ (and_from _ _ h.formed h.agent) h.cause) h.sends) h.commit

-- a message that an agent may take, or send, of host h
pub record MessageFits (setup : Configuration) (g h : ℕ) (m : Message) : Type 0 where
  pub addressed : is_addressed setup g h ≡ true
  pub profile : in_profile m ≡ true
  pub fits : message_fits setup m ≡ true

pub taken_message_fits : (setup : Configuration) (g h : ℕ) (m : Message) → take_fits setup g h m ≡ true → MessageFits setup g h m
taken_message_fits setup g h m is =
    let a = and_parts _ _ is in
    let b = and_parts _ _ a.0 in
    record { addressed = (and_parts _ _ b.0).0; profile = b.1; fits = a.1 }
