-- What coherence means: the commits form a legal history, and a writable copy is the only copy.
use Rattle.std.specs.Prelude.{Bool, IsTrue, List, not, ℕ, ◌==◌, ◌||◌}
use Rattle.std.specs.List.{list_all}
use Rattle.cxl_message.specs.declared.events.Event.{Event}
use Rattle.cxl_message.specs.declared.identifiers.Bytes64.{Bytes64}
use Rattle.cxl_message.specs.declared.identifiers.Line.{Line}
use Rattle.cxl_message.specs.Lists.{below}
use Rattle.cxl_message.specs.Setup.{Configuration}
use Rattle.coherence_model.specs.Cache.{has_copy, is_writable}
use Rattle.coherence_model.specs.FlatMemory.{is_legal}
use Rattle.coherence_model.specs.Traces.{events_of, history}

-- whether the commits of a trace form a legal history (own rule)
abbrev pub has_legal_history : Configuration → List (Line × Bytes64) → List Event → Bool
has_legal_history setup opening t = is_legal setup.lines opening (history t)

-- the commits of a trace form a legal history, as a fact (own rule)
abbrev pub IsLegal : Configuration → List (Line × Bytes64) → List Event → Type 0
IsLegal setup opening t = IsTrue (has_legal_history setup opening t)

-- whether host h's copy of line a is the only one, if it is writable (own rule)
abbrev pub is_only_copy : Configuration → List Event → ℕ → ℕ → Bool
is_only_copy setup t a h = not (is_writable setup a (events_of h t)) || list_all (λ g. (g == h) || not (has_copy setup a (events_of g t))) (below setup.hosts)

-- whether each writable copy is the only copy of its line (own rule)
abbrev pub is_alone : Configuration → List Event → Bool
is_alone setup t = list_all (λ a. list_all (is_only_copy setup t a) (below setup.hosts)) (below setup.lines)

-- each writable copy is the only copy of its line, as a fact (own rule)
abbrev pub Alone : Configuration → List Event → Type 0
Alone setup t = IsTrue (is_alone setup t)
