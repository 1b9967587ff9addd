-- A front of a run is a run, and other agents' events keep an event allowed.
use Rattle.std.proofs.Common.{ℕ, IsTrue, List, [], ◌∷◌, ◌++◌, refl, sym, ap, subst}
use Rattle.std.specs.List.{list_all}
use Rattle.std.proofs.lemmas.Bool.{and_parts}
use Rattle.cxl_message.specs.declared.events.Cause.{Cause}
use Rattle.cxl_message.specs.declared.events.Event.{Event}
use Rattle.cxl_message.specs.declared.identifiers.Bytes64.{Bytes64}
use Rattle.cxl_message.specs.declared.identifiers.Line.{Line}
use Rattle.cxl_message.specs.Setup.{Configuration}
use Rattle.coherence_model.specs.Fitting.{cause_fits}
use Rattle.coherence_model.specs.Rules.{k0_takeable}
use Rattle.coherence_model.specs.Runs.{is_allowed, is_run, own_half}
use Rattle.coherence_model.proofs.Allowed.{allowed_by_halves, allowed_own, allowed_takeable}
use Rattle.coherence_lemmas.proofs.Allowed.{allowed_parts}
use Rattle.coherence_lemmas.proofs.Flight.{take_kept}
use Rattle.coherence_lemmas.proofs.OwnEvents.{events_of-foreign_all, is_foreign}
use Rattle.run_laws.specs.Laws.{AllowedInHalves, FrontIsRun, OthersKeepAllowed, OthersLeaveOwnHalf}

pub allowed_in_halves : AllowedInHalves
unfolding is_allowed
allowed_in_halves setup opening past e = refl

pub front_is_run : FrontIsRun
front_is_run setup opening [] past run = run
front_is_run setup opening (e ∷ later) past run = front_is_run setup opening later past (and_parts _ _ run).0

pub others_leave_own_half : OthersLeaveOwnHalf
others_leave_own_half setup opening e later past foreign = ap (own_half setup opening e) (events_of-foreign_all e.agent later past foreign)

-- what a cause takes stays takeable past other agents' events
others_keep_take :
    (setup : Configuration) (opening : List (Line × Bytes64)) (g : ℕ) (cause : Cause) (later past : List Event)
    → IsTrue (cause_fits setup g cause) → IsTrue (is_run setup opening (later ++ past)) → IsTrue (list_all (is_foreign g) later)
    → IsTrue (k0_takeable cause past) → IsTrue (k0_takeable cause (later ++ past))
others_keep_take setup opening g cause [] past fits run foreign h = h
others_keep_take setup opening g cause (f ∷ later) past fits run foreign h =
    let runs = and_parts (is_run setup opening (later ++ past)) (is_allowed setup opening (later ++ past) f) run in
    let others = and_parts _ _ foreign in
    let theirs = (allowed_parts setup opening (later ++ past) f runs.1).profile.cause in
    take_kept setup g cause f (later ++ past) fits theirs others.0 (others_keep_take setup opening g cause later past fits runs.0 others.1 h)

pub others_keep_allowed : OthersKeepAllowed
others_keep_allowed setup opening e later past run foreign h =
    let fits = (allowed_parts setup opening past e h).profile.cause in
    let own = subst (λ mine. IsTrue (own_half setup opening e mine)) (sym (events_of-foreign_all e.agent later past foreign)) (allowed_own setup opening past e h) in
    let take = others_keep_take setup opening e.agent e.cause later past fits run foreign (allowed_takeable setup opening past e h) in
    allowed_by_halves setup opening (later ++ past) e own take
