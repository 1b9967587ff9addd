-- An agent's events at its own event, at another agent's, and past other agents' events.
use Rattle.std.proofs.Common.{◌≡◌, ℕ, Bool, IsTrue, List, [], ◌∷◌, ◌++◌, refl, ◌∙◌}
use Rattle.std.specs.Prelude.{not, ◌==◌}
use Rattle.std.specs.List.{list_all}
use Rattle.std.proofs.lemmas.Bool.{and_parts, cond-false, cond-true, eq-eqb, not-true}
use Rattle.cxl_message.specs.declared.events.Event.{Event}
use Rattle.coherence_model.specs.Traces.{events_of}

-- whether an event is another agent's
abbrev pub is_foreign : ℕ → Event → Bool
is_foreign g e = not (e.agent == g)

-- an agent's own event is its newest
pub events_of-own : (g : ℕ) (e : Event) (past : List Event) → e.agent ≡ g → events_of g (e ∷ past) ≡ e ∷ events_of g past
events_of-own g e past h = cond-true (e.agent == g) _ _ (eq-eqb e.agent g h)

-- another agent's event is none of its
pub events_of-foreign : (g : ℕ) (e : Event) (past : List Event) → IsTrue (is_foreign g e) → events_of g (e ∷ past) ≡ events_of g past
events_of-foreign g e past h = cond-false (e.agent == g) _ _ (not-true _ h)

-- nor are many
pub events_of-foreign_all : (g : ℕ) (later past : List Event) → IsTrue (list_all (is_foreign g) later) → events_of g (later ++ past) ≡ events_of g past
events_of-foreign_all g [] past h = refl
events_of-foreign_all g (f ∷ later) past h =
    let parts = and_parts _ _ h in events_of-foreign g f (later ++ past) parts.0 ∙ events_of-foreign_all g later past parts.1
