-- An event is allowed in two halves, and exactly where it breaks no rule.
use Rattle.std.specs.Prelude.{◌≡◌, refl, Bool, true, false, List, ◌&&◌, IsTrue, is_none}
use Rattle.std.proofs.lemmas.Bool.{and_from, and_parts}
use Rattle.cxl_message.specs.declared.events.Event.{Event}
use Rattle.cxl_message.specs.declared.identifiers.Bytes64.{Bytes64}
use Rattle.cxl_message.specs.declared.identifiers.Line.{Line}
use Rattle.cxl_message.specs.declared.states.RuleNo.{RuleNo}
use Rattle.cxl_message.specs.Setup.{Configuration}
use Rattle.coherence_model.specs.Laws.{AllowedBreaksNoRule}
use Rattle.coherence_model.specs.Rows.{row_holds, rule_of}
use Rattle.coherence_model.specs.Rules.{k0_takeable, p0_profile, s0_stream_order}
use Rattle.coherence_model.specs.Runs.{first_broken, first_failure, is_allowed, own_half}
use Rattle.coherence_model.specs.Traces.{events_of}

-- no test fails exactly where the tests of the own half and the other one hold
pub nothing_fails : (p0 k0 s0 row : Bool) (rule : RuleNo) → (p0 && s0 && row) && k0 ≡ is_none (first_failure p0 k0 s0 row rule)
nothing_fails false k0 s0 row rule = refl
nothing_fails true false false row rule = refl
nothing_fails true false true false rule = refl
nothing_fails true false true true rule = refl
nothing_fails true true false row rule = refl
nothing_fails true true true false rule = refl
nothing_fails true true true true rule = refl

-- an event is allowed exactly where it breaks no rule
pub allowed_breaks_no_rule : AllowedBreaksNoRule
unfolding first_broken is_allowed own_half
allowed_breaks_no_rule setup opening past e =
    let mine = events_of e.agent past in
    nothing_fails (p0_profile setup e) (k0_takeable e.cause past) (s0_stream_order e.cause mine) (row_holds setup opening e mine) (rule_of setup e.agent e.cause mine)

-- the own half of an allowed event holds
pub allowed_own :
    (setup : Configuration) (opening : List (Line × Bytes64)) (past : List Event) (e : Event)
    → IsTrue (is_allowed setup opening past e) → IsTrue (own_half setup opening e (events_of e.agent past))
unfolding is_allowed
allowed_own setup opening past e h = (and_parts (own_half setup opening e (events_of e.agent past)) (k0_takeable e.cause past) h).0

-- what an allowed event takes may be taken
pub allowed_takeable :
    (setup : Configuration) (opening : List (Line × Bytes64)) (past : List Event) (e : Event)
    → IsTrue (is_allowed setup opening past e) → IsTrue (k0_takeable e.cause past)
unfolding is_allowed
allowed_takeable setup opening past e h = (and_parts (own_half setup opening e (events_of e.agent past)) (k0_takeable e.cause past) h).1

-- an event with both halves is allowed
pub allowed_by_halves :
    (setup : Configuration) (opening : List (Line × Bytes64)) (past : List Event) (e : Event)
    → IsTrue (own_half setup opening e (events_of e.agent past)) → IsTrue (k0_takeable e.cause past) → IsTrue (is_allowed setup opening past e)
unfolding is_allowed
allowed_by_halves setup opening past e h k = and_from (own_half setup opening e (events_of e.agent past)) (k0_takeable e.cause past) h k

-- what the own half says: the profile, the stream order and the row
pub own_half_parts :
    (setup : Configuration) (opening : List (Line × Bytes64)) (e : Event) (mine : List Event)
    → IsTrue (own_half setup opening e mine) → IsTrue (p0_profile setup e) × IsTrue (s0_stream_order e.cause mine) × IsTrue (row_holds setup opening e mine)
unfolding own_half
own_half_parts setup opening e mine h =
    let a = and_parts (p0_profile setup e && s0_stream_order e.cause mine) (row_holds setup opening e mine) h in
    let b = and_parts (p0_profile setup e) (s0_stream_order e.cause mine) a.0 in
    (b.0, b.1, a.1)

-- the own half by its parts
pub own_half_by_parts :
    (setup : Configuration) (opening : List (Line × Bytes64)) (e : Event) (mine : List Event)
    → IsTrue (p0_profile setup e) → IsTrue (s0_stream_order e.cause mine) → IsTrue (row_holds setup opening e mine) → IsTrue (own_half setup opening e mine)
unfolding own_half
own_half_by_parts setup opening e mine p s r =
    and_from (p0_profile setup e && s0_stream_order e.cause mine) (row_holds setup opening e mine) (and_from (p0_profile setup e) (s0_stream_order e.cause mine) p s) r
