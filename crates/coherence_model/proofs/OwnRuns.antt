-- An agent's own events in a run are its own run, and what it says that one more event goes on such a list.
use Rattle.std.proofs.Common.{◌≡◌, ℕ, Bool, true, false, IsTrue, List, [], ◌∷◌, cond, refl, subst}
use Rattle.std.specs.Prelude.{◌==◌}
use Rattle.std.proofs.lemmas.Bool.{and_from, and_parts, eqb-true}
use Rattle.cxl_message.specs.declared.events.Event.{Event}
use Rattle.cxl_message.specs.declared.identifiers.Bytes64.{Bytes64}
use Rattle.cxl_message.specs.declared.identifiers.Line.{Line}
use Rattle.cxl_message.specs.Setup.{Configuration}
use Rattle.coherence_model.specs.Laws.{EventsOfRunAreOwnRun}
use Rattle.coherence_model.specs.OwnRuns.{IsOwnRun, is_own_run}
use Rattle.coherence_model.specs.Rows.{row_holds}
use Rattle.coherence_model.specs.Rules.{p0_profile, s0_stream_order}
use Rattle.coherence_model.specs.Runs.{is_allowed, is_run, own_half}
use Rattle.coherence_model.specs.Traces.{events_of}
use Rattle.coherence_model.proofs.Allowed.{allowed_own, own_half_parts}

-- what the last event of an own run says
pub record OwnEvent (setup : Configuration) (opening : List (Line × Bytes64)) (g : ℕ) (e : Event) (past : List Event) : Type 0 where
  pub before : IsOwnRun setup opening g past
  pub agent : e.agent ≡ g
  pub half : IsTrue (own_half setup opening e past)
  pub profile : IsTrue (p0_profile setup e)
  pub stream : IsTrue (s0_stream_order e.cause past)
  pub row : IsTrue (row_holds setup opening e past)

pub own_event :
    (setup : Configuration) (opening : List (Line × Bytes64)) (g : ℕ) (e : Event) (past : List Event) → IsOwnRun setup opening g (e ∷ past)
    → OwnEvent setup opening g e past
own_event setup opening g e past run =
    let parts = and_parts (is_own_run setup opening g past) _ run in
    let own = and_parts (e.agent == g) _ parts.1 in
    let halves = own_half_parts setup opening e past own.1 in
    record { before = parts.0; agent = eqb-true e.agent g own.0; half = own.1; profile = halves.0; stream = halves.1; row = halves.2 }

goes_on :
    (setup : Configuration) (opening : List (Line × Bytes64)) (g : ℕ) (e : Event) (past : List Event) (own : Bool) → (e.agent == g) ≡ own
    → IsTrue (own_half setup opening e (events_of e.agent past)) → IsOwnRun setup opening g (events_of g past)
    → IsOwnRun setup opening g (cond own (e ∷ events_of g past) (events_of g past))
goes_on setup opening g e past true is half before =
    and_from _ _ before (and_from _ _ is (subst (λ x. own_half setup opening e (events_of x past) ≡ true) (eqb-true e.agent g is) half))
goes_on setup opening g e past false is half before = before

pub events_of_run : EventsOfRunAreOwnRun
events_of_run setup opening g [] run = refl
events_of_run setup opening g (e ∷ past) run =
    let runs = and_parts (is_run setup opening past) (is_allowed setup opening past e) run in
    goes_on setup opening g e past (e.agent == g) refl (allowed_own setup opening past e runs.1) (events_of_run setup opening g past runs.0)
