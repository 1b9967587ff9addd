-- The views of a board, when one of them changes or is new.
use Rattle.atomic_table.proofs.Lists.{at_set}
use Rattle.atomic_table.specs.Table.{Me}
use Rattle.cxl_message.specs.declared.events.Event.{Event}
use Rattle.fabric_rule.specs.Board.{HasSeat, IsOf, note_of}
use Rattle.fabric_rule.specs.Fronts.{GoesOnFrom}
use Rattle.fabric_rule.specs.Steps.{IsSeat, agent_of}
use Rattle.fabric_rule.specs.declared.view.View.{View}
use Rattle.std.proofs.Common.{List, [], ap, false, inl, inr, length, refl, set, subst, suc, sym, true, true≢false, zero, ℕ, ⊎_elim, ◌++◌, ◌∷◌, ◌≡◌, ◌≢◌, ◌⊎◌}
use Rattle.std.proofs.lemmas.Bool.{cond-false, cond-true, eq-eqb, ne_eqb}
use Rattle.std.proofs.lemmas.List.Elements.{All-head, All-nil}
use Rattle.std.specs.List.{All}
use Rattle.std.specs.Prelude.{if◌then◌else◌, ◌==◌}
use lib.ListN.{get_elem?}
use mathlib.Core.Option.{some, some-injective, some-ne-none}

pub off : false ≡ true → ⊥
off e = true≢false (sym e)

-- the views after one of them was set
pub fits_set :
    (run : List Event) (seats : ℕ → ℕ) (hosts : ℕ) (views : List View) (id : ℕ) (w : View)
    → ((j : ℕ) (u : View) → j ≢ id → get_elem? views j ≡ some u → IsOf run seats hosts j u) → IsOf run seats hosts id w
    → (j : ℕ) (u : View) → get_elem? (set views id w) j ≡ some u → IsOf run seats hosts j u
fits_set run seats hosts views id w others new j u at =
    ⊎_elim
    (λ (x : (j ≡ id) × (w ≡ u)). subst (λ (y : ℕ × View). IsOf run seats hosts y.0 y.1) (λ i. (sym x.0 i, x.1 i)) new)
    (λ (x : (j ≢ id) × (get_elem? views j ≡ some u)). others j u x.0 x.1)
    (at_set views id j w u at)

-- a view of which nothing is asked
pub note_fits : (run : List Event) (seats : ℕ → ℕ) (hosts by : ℕ) (seen : List Event) → GoesOnFrom seen run → IsOf run seats hosts by (note_of seen)
note_fits run seats hosts by seen from =
    record { seen = from; agents = All-nil (HasSeat seats hosts run by); joined = All-nil (λ t. GoesOnFrom t run); counts = λ c. absurd (off c) }

-- what a seat of one agent knows of the run
pub own_of : (run : List Event) (seats : ℕ → ℕ) (hosts id : ℕ) (me : Me (Unit {0}) View) → IsSeat me → IsOf run seats hosts id me.0 → HasSeat seats hosts run id (agent_of me.0.agents, me.0.seen)
own_of run seats hosts id me is f =
    All-head (HasSeat seats hosts run id) (agent_of me.0.agents, me.0.seen) [] (subst (All (HasSeat seats hosts run id)) is.own f.agents)

-- an element of a list with one more is one of the list, or the last
at_end : (l : List View) (a b : View) (j : ℕ) → get_elem? (l ++ a ∷ []) j ≡ some b → (get_elem? l j ≡ some b) ⊎ ((j ≡ length l) × (a ≡ b))
at_end [] a b zero e = inr (refl, some-injective a b e)
at_end [] a b (suc j) e = absurd (some-ne-none b (sym e))
at_end (x ∷ xs) a b zero e = inl e
at_end (x ∷ xs) a b (suc j) e = ⊎_elim (λ h. inl h) (λ h. inr (ap suc h.0, h.1)) (at_end xs a b j e)

pub fits_end :
    (run : List Event) (seats : ℕ → ℕ) (hosts : ℕ) (views : List View) (w : View)
    → ((j : ℕ) (u : View) → get_elem? views j ≡ some u → IsOf run seats hosts j u) → IsOf run seats hosts (length views) w
    → (j : ℕ) (u : View) → get_elem? (views ++ w ∷ []) j ≡ some u → IsOf run seats hosts j u
fits_end run seats hosts views w others new j u at =
    ⊎_elim
    (λ (x : get_elem? views j ≡ some u). others j u x)
    (λ (x : (j ≡ length views) × (w ≡ u)). subst (λ (y : ℕ × View). IsOf run seats hosts y.0 y.1) (λ i. (sym x.0 i, x.1 i)) new)
    (at_end views w u j at)

-- an agent moves to a seat
abbrev pub moved : (ℕ → ℕ) → ℕ → ℕ → ℕ → ℕ
moved seats g by x = if x == g then by else seats x

pub moved_here : (seats : ℕ → ℕ) (g by x : ℕ) → x ≡ g → moved seats g by x ≡ by
moved_here seats g by x same = cond-true (x == g) by (seats x) (eq-eqb x g same)

pub moved_else : (seats : ℕ → ℕ) (g by x : ℕ) → (x ≡ g → ⊥) → moved seats g by x ≡ seats x
moved_else seats g by x ne = cond-false (x == g) by (seats x) (ne_eqb x g ne)
