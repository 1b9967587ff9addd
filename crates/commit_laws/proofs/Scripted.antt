-- Causes and events whose operations are a script's.
use Rattle.std.proofs.Common.{◌≡◌, ℕ, Bool, true, false, cond, List, [], ◌∷◌, Some, refl, ap, sym, subst, ◌∙◌}
use Rattle.std.specs.Prelude.{slice_get, ◌==◌}
use Rattle.std.proofs.lemmas.Bool.{eqb-true}
use Rattle.std.proofs.lemmas.Option.{same_Some}
use Rattle.cxl_message.specs.declared.events.Cause.{Cause}
use Rattle.cxl_message.specs.declared.events.Event.{Event}
use Rattle.cxl_message.specs.declared.events.Op.{Op}
use Rattle.cxl_message.specs.Script.{ScriptValue}
use Rattle.coherence_model.specs.Traces.{events_of}
use Rattle.step_laws.proofs.Counts.{Each}

-- an operation is one of the script, with its stream's host and its index
pub record IsScripted (script : ScriptValue) (g s i : ℕ) (op : Op) : Type 0 where
  pub host : slice_get script.setup.streams s ≡ Some g
  pub list : List Op
  pub operations : slice_get script.operations s ≡ Some list
  pub is : slice_get list i ≡ Some op

-- a cause is no operation, or one of the script
abbrev pub IsOfScript : ScriptValue → ℕ → Cause → Type 0
IsOfScript script g (Cause.Op s i op) = IsScripted script g s i op
IsOfScript script g (Cause.Take _ _) = Unit {0}
IsOfScript script g (Cause.Act _) = Unit {0}

-- the operation of a scripted commit is the stream's
pub scripted_op : (script : ScriptValue) (g s i : ℕ) (op : Op) (ops : List Op) → slice_get script.operations s ≡ Some ops → IsScripted script g s i op → slice_get ops i ≡ Some op
scripted_op script g s i op ops list of = ap (λ (xs : List Op). slice_get xs i) (same_Some ops of.list (sym list ∙ of.operations)) ∙ of.is

-- all operations of a trace are the script's
abbrev pub AreScripted : ScriptValue → List Event → Type 0
AreScripted script t = Each (λ e. IsOfScript script e.agent e.cause) t

-- one more event, own or not
own_scripted_by :
    (script : ScriptValue) (g : ℕ) (e : Event) (mine : List Event) (own : Bool) → (e.agent == g) ≡ own → IsOfScript script e.agent e.cause → Each (λ e. IsOfScript script g e.cause) mine
    → Each (λ e. IsOfScript script g e.cause) (cond own (e ∷ mine) mine)
own_scripted_by script g e mine true is here before = (subst (λ (k : ℕ). IsOfScript script k e.cause) (eqb-true e.agent g is) here, before)
own_scripted_by script g e mine false is here before = before

-- so are those of one agent
pub own_scripted : (script : ScriptValue) (g : ℕ) (t : List Event) → AreScripted script t → Each (λ e. IsOfScript script g e.cause) (events_of g t)
own_scripted script g [] all = tt
own_scripted script g (e ∷ past) all = own_scripted_by script g e (events_of g past) (e.agent == g) refl all.0 (own_scripted script g past all.1)

-- all operations of one agent's events are the script's
abbrev pub OwnScripted : ScriptValue → ℕ → List Event → Type 0
OwnScripted script g mine = Each (λ e. IsOfScript script g e.cause) mine
