-- Traces that go on from one another, and an agent's numbered events past other agents' events.
use Rattle.std.proofs.Common.{◌≡◌, ◌≤◌, ℕ, IsTrue, List, [], ◌∷◌, ◌++◌, length, refl, sym, ◌∙◌, ap, subst, append_assoc, append-nil, length-append, arith}
use Rattle.std.specs.Prelude.{◌==◌}
use Rattle.std.specs.List.{list_all}
use Rattle.std.proofs.lemmas.Bool.{and_from, and_parts, cond-true, eq-eqb}
use Rattle.cxl_message.specs.declared.events.Event.{Event}
use Rattle.coherence_model.specs.Traces.{numbered_events_of}
use Rattle.coherence_lemmas.proofs.OwnEvents.{is_foreign}
use Rattle.run_laws.specs.Laws.{AreForeign}
use Rattle.run_laws.proofs.OwnEvents.{others_leave_numbers}
use Rattle.fabric_rule.specs.Fronts.{GoesOnFrom, GoesOnWithout}

-- an agent's own event is one more, with the number of events before it
pub numbered_own : (g : ℕ) (e : Event) (past : List Event) → e.agent ≡ g → numbered_events_of g (e ∷ past) ≡ (length past, e) ∷ numbered_events_of g past
numbered_own g e past h = cond-true (e.agent == g) _ _ (eq-eqb e.agent g h)

pub goes_on_here : (t : List Event) → GoesOnFrom t t
goes_on_here t = ([], refl)

pub goes_on_from_nothing : (t : List Event) → GoesOnFrom [] t
goes_on_from_nothing t = (t, sym (append-nil t))

pub goes_on_more : (e : Event) (past t : List Event) → GoesOnFrom past t → GoesOnFrom past (e ∷ t)
goes_on_more e past t h = (e ∷ h.0, ap (λ xs. e ∷ xs) h.1)

pub goes_on_trans : (s t u : List Event) → GoesOnFrom s t → GoesOnFrom t u → GoesOnFrom s u
goes_on_trans s t u h k = (k.0 ++ h.0, k.1 ∙ ap (λ xs. k.0 ++ xs) h.1 ∙ sym (append_assoc k.0 h.0 s))

pub without_here : (g : ℕ) (t : List Event) → GoesOnWithout g t t
without_here g t = ([], refl, refl)

pub without_more : (g : ℕ) (e : Event) (past t : List Event) → IsTrue (is_foreign g e) → GoesOnWithout g past t → GoesOnWithout g past (e ∷ t)
without_more g e past t other h = (e ∷ h.0, ap (λ xs. e ∷ xs) h.1, and_from _ _ other h.2)

pub without_is_from : (g : ℕ) (past t : List Event) → GoesOnWithout g past t → GoesOnFrom past t
without_is_from g past t h = (h.0, h.1)

-- the numbered events of the agent are as they were
pub without_numbered : (g : ℕ) (past t : List Event) → GoesOnWithout g past t → numbered_events_of g t ≡ numbered_events_of g past
without_numbered g past t h = ap (numbered_events_of g) h.1 ∙ others_leave_numbers g h.0 past h.2

-- of two fronts of one trace the longer goes on from the shorter
between_by : (a b s t : List Event) → a ++ s ≡ b ++ t → length s ≤ length t → GoesOnFrom s t
between_by a [] s t e le = (a, sym e)
between_by [] (y ∷ b) s t e le =
    let n : length s ≡ length ((y ∷ b) ++ t) = ap length e in
    absurd (omega (arith, n, length-append (y ∷ b) t))
between_by (x ∷ a) (y ∷ b) s t e le =
    let tail : a ++ s ≡ b ++ t = cc in
    between_by a b s t tail le

pub between : (s t u : List Event) → GoesOnFrom s u → GoesOnFrom t u → length s ≤ length t → GoesOnFrom s t
between s t u h k le = between_by h.0 k.0 s t (sym h.1 ∙ k.1) le

-- and where no event past the shorter is the agent's, none is on either side of the longer
pub record Middle (g : ℕ) (b s t : List Event) : Type 0 where
  pub before : GoesOnWithout g s t
  pub after : AreForeign g b

middle_by : (g : ℕ) (a b s t : List Event) → a ++ s ≡ b ++ t → length s ≤ length t → AreForeign g a → Middle g b s t
middle_by g a [] s t e le foreign = record { before = (a, sym e, foreign); after = refl }
middle_by g [] (y ∷ b) s t e le foreign =
    let n : length s ≡ length ((y ∷ b) ++ t) = ap length e in
    absurd (omega (arith, n, length-append (y ∷ b) t))
middle_by g (x ∷ a) (y ∷ b) s t e le foreign =
    let tail : a ++ s ≡ b ++ t = cc in
    let head : x ≡ y = cc in
    let parts = and_parts (is_foreign g x) (list_all (is_foreign g) a) foreign in
    let rest = middle_by g a b s t tail le parts.1 in
    record { before = rest.before; after = and_from _ _ (subst (λ f. IsTrue (is_foreign g f)) head parts.0) rest.after }

pub between_without : (g : ℕ) (s t u : List Event) → GoesOnWithout g s u → GoesOnFrom t u → length s ≤ length t → GoesOnWithout g s t × GoesOnWithout g t u
between_without g s t u h k le =
    let m = middle_by g h.0 k.0 s t (sym h.1 ∙ k.1) le h.2 in
    (m.before, (k.0, k.1, m.after))
