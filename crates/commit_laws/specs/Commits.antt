-- What it means that each operation of a script is committed once, and each stream's in its order.
use Rattle.std.specs.Prelude.{IsTrue, List, Some, [], filter, length, map, nat_lt, reverse, slice_get, ℕ, ◌+◌, ◌==◌, ◌∷◌, ◌≡◌}
use Rattle.std.specs.List.{list_all}
use Rattle.cxl_message.specs.declared.events.Commit.{Commit}
use Rattle.cxl_message.specs.declared.events.Event.{Event}
use Rattle.cxl_message.specs.declared.events.Op.{Op}
use Rattle.cxl_message.specs.Script.{ScriptValue}
use Rattle.coherence_model.specs.Traces.{history}

-- the index and the operation that a commit names (own rule)
abbrev pub named_by : Commit → ℕ × Op
named_by c = (c.index, c.op)

-- what the commits of stream s name, the oldest first (own rule)
abbrev pub committed : ℕ → List Commit → List (ℕ × Op)
committed s past = map named_by (filter (λ c. c.stream == s) (reverse past))

-- operations with their indices, which count up from n (own rule)
abbrev pub numbered : ℕ → List Op → List (ℕ × Op)
numbered n [] = []
numbered n (op ∷ ops) = (n, op) ∷ numbered (n + 1) ops

-- for each stream of a script the commits of a trace name its operations, each index once and in ascending order; no commit is another stream's
pub record CommitsEach (script : ScriptValue) (t : List Event) : Type 0 where
  pub streams : (s : ℕ) (ops : List Op) → slice_get script.operations s ≡ Some ops → committed s (history t) ≡ numbered 0 ops
  pub no_other : IsTrue (list_all (λ c. nat_lt c.stream (length script.operations)) (history t))
