-- What it says that an event is allowed, as facts: the profile, the stream order, the row's emission, its credits, and the take.
use Rattle.std.proofs.Common.{◌≡◌, true, false, IsTrue, List, Option, Some, None, refl}
use Rattle.std.specs.Prelude.{is_none, option_and_then, ◌||◌}
use Rattle.std.specs.List.{list_all}
use Rattle.std.specs.Option.{option_map_or}
use Rattle.std.proofs.lemmas.Bool.{and_parts, false≢true}
use Rattle.cxl_message.specs.declared.channels.Channel.{Channel}
use Rattle.cxl_message.specs.declared.events.Event.{Event}
use Rattle.cxl_message.specs.declared.identifiers.Bytes64.{Bytes64}
use Rattle.cxl_message.specs.declared.identifiers.Line.{Line}
use Rattle.cxl_message.specs.Events.{outs}
use Rattle.cxl_message.specs.Formed.{well_formed}
use Rattle.cxl_message.specs.Setup.{Configuration}
use Rattle.coherence_model.specs.Credits.{lacking_channel}
use Rattle.coherence_model.specs.Emission.{Emission}
use Rattle.coherence_model.specs.Fitting.{cause_fits, commit_fits, is_device, is_host, out_fits}
use Rattle.coherence_model.specs.Rows.{if_paid, is_emitted, row_emission, row_holds}
use Rattle.coherence_model.specs.Rules.{k0_takeable, p0_profile, s0_stream_order}
use Rattle.coherence_model.specs.Runs.{is_allowed}
use Rattle.coherence_model.specs.Traces.{events_of}
use Rattle.coherence_model.specs.Words.{when}
use Rattle.coherence_model.proofs.Allowed.{allowed_own, allowed_takeable, own_half_parts}
use Rattle.cxl_message.proofs.SameEvents.{commits_same, sends_eq-same}

-- what an event's profile says
pub record Profiled (setup : Configuration) (e : Event) : Type 0 where
  pub formed : IsTrue (well_formed e)
  pub agent : IsTrue (is_device e.agent || is_host setup e.agent)
  pub cause : IsTrue (cause_fits setup e.agent e.cause)
  pub sends : IsTrue (list_all (out_fits setup e.agent) (outs e.sends))
  pub commit : IsTrue (option_map_or (commit_fits setup) e.commit true)

pub profiled : (setup : Configuration) (e : Event) → IsTrue (p0_profile setup e) → Profiled setup e
profiled setup e h =
    let five = and_parts _ _ h in
    let four = and_parts _ _ five.0 in
    let three = and_parts _ _ four.0 in
    let two = and_parts _ _ three.0 in
    record { formed = two.0; agent = two.1; cause = three.1; sends = four.1; commit = five.1 }

-- what an event's row says: the row emits, its credits reach, and the event sends and commits just that
pub record Emitted (setup : Configuration) (opening : List (Line × Bytes64)) (e : Event) (mine : List Event) : Type 0 where
  pub w : Emission
  pub row : row_emission setup opening e.agent e.cause mine ≡ Some w
  pub paid : lacking_channel setup w.sends mine ≡ None
  pub sends : e.sends ≡ w.sends
  pub commit : e.commit ≡ w.commit

-- where an emission is what an event sends and commits, its credits reach
paid_emission : (e : Event) (w : Emission) (lacking : Option Channel) → option_map_or (is_emitted e) (when (is_none lacking) w) false ≡ true → (lacking ≡ None) × IsTrue (is_emitted e w)
paid_emission e w None h = (refl, h)
paid_emission e w (Some c) h = absurd (false≢true h)

emitted_by :
    (setup : Configuration) (opening : List (Line × Bytes64)) (e : Event) (mine : List Event) (row : Option Emission)
    → row_emission setup opening e.agent e.cause mine ≡ row
    → option_map_or (is_emitted e) (option_and_then (if_paid setup mine) row) false ≡ true → Emitted setup opening e mine
emitted_by setup opening e mine None is h = absurd (false≢true h)
emitted_by setup opening e mine (Some w) is h =
    let parts = paid_emission e w (lacking_channel setup w.sends mine) h in
    let same = and_parts _ _ parts.1 in
    record { w = w; row = is; paid = parts.0; sends = sends_eq-same e.sends w.sends same.0; commit = commits_same e.commit w.commit same.1 }

pub emitted :
    (setup : Configuration) (opening : List (Line × Bytes64)) (e : Event) (mine : List Event)
    → IsTrue (row_holds setup opening e mine) → Emitted setup opening e mine
emitted setup opening e mine h = emitted_by setup opening e mine (row_emission setup opening e.agent e.cause mine) refl h

-- all that is said by an event that is allowed
pub record AllowedParts (setup : Configuration) (opening : List (Line × Bytes64)) (past : List Event) (e : Event) : Type 0 where
  pub profile : Profiled setup e
  pub stream : IsTrue (s0_stream_order e.cause (events_of e.agent past))
  pub take : IsTrue (k0_takeable e.cause past)
  pub row : Emitted setup opening e (events_of e.agent past)

pub allowed_parts :
    (setup : Configuration) (opening : List (Line × Bytes64)) (past : List Event) (e : Event)
    → IsTrue (is_allowed setup opening past e) → AllowedParts setup opening past e
allowed_parts setup opening past e h =
    let own = own_half_parts setup opening e (events_of e.agent past) (allowed_own setup opening past e h) in
    record {
      profile = profiled setup e own.0;
      stream = own.1;
      take = allowed_takeable setup opening past e h;
      row = emitted setup opening e (events_of e.agent past) own.2;
    }
