-- When an event is allowed after a trace, and which traces are runs.
use Rattle.std.specs.Prelude.{Bool, IsTrue, List, None, Option, Some, [], false, true, ◌&&◌, ◌∷◌}
use Rattle.cxl_message.specs.declared.events.Event.{Event}
use Rattle.cxl_message.specs.declared.identifiers.Bytes64.{Bytes64}
use Rattle.cxl_message.specs.declared.identifiers.Line.{Line}
use Rattle.cxl_message.specs.declared.states.RuleNo.{RuleNo}
use Rattle.cxl_message.specs.Setup.{Configuration}
use Rattle.coherence_model.specs.Rows.{row_holds, rule_of}
use Rattle.coherence_model.specs.Rules.{k0_takeable, p0_profile, s0_stream_order}
use Rattle.coherence_model.specs.Traces.{events_of}

-- the half that looks at the agent's own events alone: profile, stream order and row (own rule)
unfoldable pub own_half : Configuration → List (Line × Bytes64) → Event → List Event → Bool
own_half setup opening e mine = p0_profile setup e && s0_stream_order e.cause mine && row_holds setup opening e mine

-- whether an event is allowed after a trace: its own half holds, and what it takes may be taken (own rule)
unfoldable pub is_allowed : Configuration → List (Line × Bytes64) → List Event → Event → Bool
is_allowed setup opening past e = own_half setup opening e (events_of e.agent past) && k0_takeable e.cause past

-- the first test that fails, in the order P0, K0, S0, the row (own rule)
abbrev pub first_failure : Bool → Bool → Bool → Bool → RuleNo → Option RuleNo
first_failure false k0 s0 row rule = Some RuleNo.P0
first_failure true false s0 row rule = Some RuleNo.K0
first_failure true true false row rule = Some RuleNo.S0
first_failure true true true false rule = Some rule
first_failure true true true true rule = None

-- the first rule that an event breaks after a trace, given its agent's own events there (own rule)
abbrev pub first_broken_by : Configuration → List (Line × Bytes64) → List Event → List Event → Event → Option RuleNo
first_broken_by setup opening past mine e =
    first_failure (p0_profile setup e) (k0_takeable e.cause past) (s0_stream_order e.cause mine) (row_holds setup opening e mine) (rule_of setup e.agent e.cause mine)

-- the first rule that an event breaks after a trace, if it breaks one (own rule)
unfoldable pub first_broken : Configuration → List (Line × Bytes64) → List Event → Event → Option RuleNo
first_broken setup opening past e = first_broken_by setup opening past (events_of e.agent past) e

-- whether a trace is a run: each event is allowed after those before it (own rule)
abbrev pub is_run : Configuration → List (Line × Bytes64) → List Event → Bool
is_run setup opening [] = true
is_run setup opening (e ∷ past) = is_run setup opening past && is_allowed setup opening past e

-- a trace is a run, as a fact (own rule)
abbrev pub IsRun : Configuration → List (Line × Bytes64) → List Event → Type 0
IsRun setup opening t = IsTrue (is_run setup opening t)
