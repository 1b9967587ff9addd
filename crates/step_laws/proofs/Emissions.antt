-- When what an agent sends and commits is in the profile, and with it the whole event.
use Rattle.std.proofs.Common.{◌≡◌, ℕ, true, false, Option, refl, sym, subst, arith}
use Rattle.std.specs.Prelude.{◌==◌, ◌||◌, not, nat_lt, nat_le}
use Rattle.std.specs.Option.{option_map_or}
use Rattle.std.proofs.lemmas.Bool.{and_from, eq-eqb, le-leb, lt-ltb, ltb-true, or_right}
use Rattle.cxl_message.specs.declared.events.Cause.{Cause}
use Rattle.cxl_message.specs.declared.events.Commit.{Commit}
use Rattle.cxl_message.specs.declared.events.Event.{Event}
use Rattle.cxl_message.specs.declared.events.Out.{Out}
use Rattle.cxl_message.specs.declared.events.Sends.{Sends}
use Rattle.cxl_message.specs.declared.messages.Message.{Message}
use Rattle.cxl_message.specs.Channels.{goes_to_device}
use Rattle.cxl_message.specs.Events.{outs}
use Rattle.cxl_message.specs.Formed.{cause_formed, commit_formed, message_formed, out_formed}
use Rattle.cxl_message.specs.Messages.{channel_of}
use Rattle.cxl_message.specs.Profile.{in_profile}
use Rattle.cxl_message.specs.Setup.{Configuration, IsWithinLimits}
use Rattle.coherence_model.specs.Emission.{Emission, nothing, one_send, two_sends}
use Rattle.coherence_model.specs.Fitting.{cause_fits, commit_fits, goes_to, is_addressed, is_device, is_host, message_fits, out_fits}
use Rattle.coherence_model.specs.Rules.{p0_profile}
use Rattle.coherence_model.specs.Traces.{device}
use Rattle.step_laws.proofs.Counts.{Each, all_from_each, each_weaker}
use Rattle.step_laws.proofs.OwnRuns.{host_is_no_device}
use Rattle.step_laws.proofs.Profile.{profile_from}

-- a message that agent g may send
pub record OutGood (setup : Configuration) (g : ℕ) (o : Out) : Type 0 where
  pub formed : out_formed o ≡ true
  pub fits : out_fits setup g o ≡ true

-- what agent g may send and commit
pub record EmissionFits (setup : Configuration) (g : ℕ) (w : Emission) : Type 0 where
  pub sends : Each (OutGood setup g) (outs w.sends)
  pub commit_formed : option_map_or commit_formed w.commit true ≡ true
  pub commit_fits : option_map_or (commit_fits setup) w.commit true ≡ true

-- what a message needs besides its way
pub record MessageGood (setup : Configuration) (m : Message) : Type 0 where
  pub formed : message_formed m ≡ true
  pub profile : in_profile m ≡ true
  pub fits : message_fits setup m ≡ true

-- hosts are fewer than the device's number
pub host-low : (setup : Configuration) → IsWithinLimits setup → (h : ℕ) → is_host setup h ≡ true → nat_lt h 16 ≡ true
host-low setup limits h is = let few = limits.hosts.1 in let less = ltb-true h setup.hosts is in lt-ltb h 16 (omega arith)

-- a host sends a message of its own that goes to the device
pub host-sends :
    (setup : Configuration) → IsWithinLimits setup → (g : ℕ) (m : Message) → is_host setup g ≡ true → goes_to_device (channel_of m) ≡ true → MessageGood setup m
    → OutGood setup g (record { host = g; message = m })
host-sends setup limits g m host up good = record {
  formed = and_from _ _ (host-low setup limits g host) good.formed;
  fits =
      let no_device = host_is_no_device setup limits g host in
      let addressed : is_addressed setup g g ≡ true = and_from _ _ host (or_right (is_device g) (g == g) (eq-eqb g g refl)) in
      let away : not (goes_to g m) ≡ true = rw (no_device, up) refl in
      and_from _ _ (and_from _ _ (and_from _ _ addressed away) good.profile) good.fits;
}

-- the device sends a message to a host
pub device-sends :
    (setup : Configuration) → IsWithinLimits setup → (h : ℕ) (m : Message) → is_host setup h ≡ true → goes_to_device (channel_of m) ≡ false
    → MessageGood setup m → OutGood setup device (record { host = h; message = m })
device-sends setup limits h m host down good = record {
  formed = and_from _ _ (host-low setup limits h host) good.formed;
  fits =
      let addressed : is_addressed setup device h ≡ true = and_from _ _ host refl in
      let away : not (goes_to device m) ≡ true = rw down refl in
      and_from _ _ (and_from _ _ (and_from _ _ addressed away) good.profile) good.fits;
}

pub nothing-fits : (setup : Configuration) (g : ℕ) → EmissionFits setup g nothing
nothing-fits setup g = record { sends = tt; commit_formed = refl; commit_fits = refl }

pub one-fits : (setup : Configuration) (g h : ℕ) (m : Message) → OutGood setup g (record { host = h; message = m }) → EmissionFits setup g (one_send h m)
one-fits setup g h m good = record { sends = (good, tt); commit_formed = refl; commit_fits = refl }

pub two-fits :
    (setup : Configuration) (g h : ℕ) (m n : Message) → OutGood setup g (record { host = h; message = m }) → OutGood setup g (record { host = h; message = n })
    → EmissionFits setup g (two_sends h m n)
two-fits setup g h m n good next = record { sends = (good, (next, tt)); commit_formed = refl; commit_fits = refl }

-- the cause of an event, as the profile wants it
pub record CauseGood (setup : Configuration) (g : ℕ) (cause : Cause) : Type 0 where
  pub low : nat_le g 16 ≡ true
  pub agent : (is_device g || is_host setup g) ≡ true
  pub formed : cause_formed cause ≡ true
  pub fits : cause_fits setup g cause ≡ true

-- an event that sends and commits what an emission says
pub event-profiled :
    (setup : Configuration) (g : ℕ) (cause : Cause) (sends : Sends) (commit : Option Commit) (w : Emission) → sends ≡ w.sends → commit ≡ w.commit
    → CauseGood setup g cause → EmissionFits setup g w → p0_profile setup (record { agent = g; cause = cause; sends = sends; commit = commit }) ≡ true
event-profiled setup g cause sends commit w same_sends same_commit good fits =
    let e : Event = record { agent = g; cause = cause; sends = w.sends; commit = w.commit } in
    let formed = all_from_each out_formed (outs w.sends) (each_weaker _ _ (λ o out. out.formed) (outs w.sends) fits.sends) in
    let sent = all_from_each (out_fits setup g) (outs w.sends) (each_weaker _ _ (λ o out. out.fits) (outs w.sends) fits.sends) in
    let holds : p0_profile setup e ≡ true = profile_from setup e (record {
      formed = and_from _ _ (and_from _ _ (and_from _ _ good.low good.formed) formed) fits.commit_formed;
      agent = good.agent;
      cause = good.fits;
      sends = sent;
      commit = fits.commit_fits;
    }) in
    subst (λ (x : Sends). p0_profile setup (record { agent = g; cause = cause; sends = x; commit = commit }) ≡ true) (sym same_sends)
    (subst (λ (x : Option Commit). p0_profile setup (record { agent = g; cause = cause; sends = w.sends; commit = x }) ≡ true) (sym same_commit) holds)

-- a host as an agent, and the device
pub host-agent :
    (setup : Configuration) → IsWithinLimits setup → (g : ℕ) → is_host setup g ≡ true → (nat_le g 16 ≡ true) × ((is_device g || is_host setup g) ≡ true)
host-agent setup limits g host = let low = ltb-true g 16 (host-low setup limits g host) in (le-leb g 16 (omega arith), or_right (is_device g) (is_host setup g) host)
