-- One turn of driving: the event that is chosen is made, and the table follows.
use Rattle.std.proofs.Common.{Bool, List, Option, Some, None, [], inl, inr, ap, arith, cond, false, get_or, length, refl, set, sym, true, zero, suc, ℕ, ◌&&◌, ◌+◌, ◌<◌, ◌≡◌, ◌≤◌, ◌∙◌, ◌∷◌, IsTrue}
use Rattle.std.specs.Prelude.{Result, is_none, is_ok, not, slice_get, unwrap_or, ◌%◌, ◌==◌}
use Rattle.std.specs.Option.{option_map_or}
use Rattle.std.proofs.Math.Nat.{mod-lt}
use Rattle.std.proofs.lemmas.Bool.{and_parts, cases_Bool, eq-eqb, eqb-true, eqb-false, false≢true, ltb-true, ne_eqb}
use Rattle.std.proofs.lemmas.List.{get_or-set_other, get_or-set_same, length-set}
use Rattle.std.proofs.lemmas.Option.{none-some, slice_get-get_or, slice_get_within}
use Rattle.cxl_message.specs.declared.events.Cause.{Cause}
use Rattle.cxl_message.specs.declared.events.Event.{Event}
use Rattle.cxl_message.specs.declared.events.Op.{Op}
use Rattle.cxl_message.specs.declared.identifiers.Bytes64.{Bytes64}
use Rattle.cxl_message.specs.declared.identifiers.Line.{Line}
use Rattle.cxl_message.specs.declared.states.RuleNo.{RuleNo}
use Rattle.cxl_message.specs.Script.{ScriptValue}
use Rattle.cxl_message.specs.Setup.{Configuration}
use Rattle.answer_laws.specs.Answered.{answered_steps}
use Rattle.choice_laws.proofs.Choices.{any_pick_reaches}
use Rattle.choice_laws.specs.Answered.{next_answer}
use Rattle.coherence_model.proofs.Allowed.{allowed_breaks_no_rule, allowed_own, own_half_parts}
use Rattle.coherence_model.specs.Choices.{Stream, choices, is_done}
use Rattle.coherence_model.specs.Refusals.{host_answer}
use Rattle.coherence_model.specs.Rows.{row_holds}
use Rattle.coherence_model.specs.Rules.{p0_profile, s0_stream_order}
use Rattle.coherence_model.specs.Runs.{IsRun, first_broken, is_allowed, is_run}
use Rattle.coherence_model.specs.Streams.{begins_for, begun_count}
use Rattle.coherence_model.specs.Traces.{events_of}
use Rattle.commit_laws.proofs.OwnStreams.{in_order_parts}
use Rattle.commit_laws.proofs.Scripted.{IsOfScript}
use Rattle.driven_laws.proofs.Ending.{has_choice}
use Rattle.driven_laws.proofs.Reached.{reached_scripted}
use Rattle.driven_laws.specs.Reached.{IsReached}
use Rattle.driven_laws.specs.Scripts.{IsDrivable}
use Rattle.machine.specs.Stands.{MachineRecord, StandsFor, verdict}
use Rattle.step_driver.specs.declared.table.StreamTable.{StreamTable}
use Rattle.step_driver.specs.Driver.{IsCounted, IsKept, IsKnown, MayCount, counts_after, noted, one_counted}
use Rattle.step_driver.specs.Picks.{IsTurned, chosen}

-- ---- what a run breaks

-- the last event of a run is allowed
went_on : (setup : Configuration) (opening : List (Line × Bytes64)) (e : Event) (past : List Event) → IsRun setup opening (e ∷ past) → IsTrue (is_allowed setup opening past e)
went_on setup opening e past run = (and_parts (is_run setup opening past) (is_allowed setup opening past e) run).1

none_of : (o : Option RuleNo) → true ≡ is_none o → o ≡ None
none_of None is = refl
none_of (Some rule) is = absurd (false≢true (sym is))

-- so it broke nothing
pub nothing_broken : (setup : Configuration) (opening : List (Line × Bytes64)) (t : List Event) (e : Event) → IsRun setup opening (e ∷ t) → first_broken setup opening t e ≡ None
nothing_broken setup opening t e run = none_of (first_broken setup opening t e) (sym (went_on setup opening e t run) ∙ allowed_breaks_no_rule setup opening t e)

-- its own half holds
pub own_parts : (setup : Configuration) (opening : List (Line × Bytes64)) (t : List Event) (e : Event) → IsRun setup opening (e ∷ t)
    → IsTrue (p0_profile setup e) × IsTrue (s0_stream_order e.cause (events_of e.agent t)) × IsTrue (row_holds setup opening e (events_of e.agent t))
own_parts setup opening t e run = own_half_parts setup opening e (events_of e.agent t) (allowed_own setup opening t e (went_on setup opening e t run))

-- ---- the counts

-- what an event of another cause or of another stream leaves
left_counted : (s : ℕ) (e : Event) (mine : List Event) (own begins : Bool) → begins_for s e.cause ≡ begins → begins ≡ false → begun_count s (cond own (e ∷ mine) mine) ≡ begun_count s mine
left_counted s e mine true begins is other = let none : 0 + begun_count s mine ≡ begun_count s mine = omega arith in ap (λ (b : Bool). cond b 1 0 + begun_count s mine) (is ∙ other) ∙ none
left_counted s e mine false begins is other = refl

-- what an event that begins an operation of the stream adds
one_counted_more : (s : ℕ) (e : Event) (mine : List Event) (own : Bool) → own ≡ true → begins_for s e.cause ≡ true → begun_count s (cond own (e ∷ mine) mine) ≡ 1 + begun_count s mine
one_counted_more s e mine true own begins = ap (λ (b : Bool). cond b 1 0 + begun_count s mine) begins
one_counted_more s e mine false own begins = absurd (false≢true own)

-- the count after an operation
op_follows :
    (script : ScriptValue) (counts : List ℕ) (t : List Event) (e : Event) (k i : ℕ) (op : Op) → length script.setup.streams ≤ 64 → length counts ≡ 64 → e.cause ≡ Cause.Op k i op
    → IsCounted script counts t → IsOfScript script e.agent (Cause.Op k i op) → IsCounted script (one_counted k counts) (e ∷ t)
op_follows script counts t e k i op few sized cause counted named s h host =
    elim (cases_Bool (k == s)) [
      | inl is ↦
          let same = eqb-true k s is in
          let at : e.agent ≡ h = ap (λ (o : Option ℕ). unwrap_or o 0) (sym named.host ∙ ap (slice_get script.setup.streams) same ∙ host) in
          let there : k < length counts = let below = slice_get_within script.setup.streams k e.agent named.host in omega (arith, below, few, sized) in
          let v = get_or counts k 0 + 1 in
          let moved : get_or (set counts k v) s 0 ≡ get_or (set counts k v) k 0 = ap (λ (r : ℕ). get_or (set counts k v) r 0) (sym same) in
          let same_count : begun_count k (events_of e.agent t) + 1 ≡ begun_count s (events_of h t) + 1 = λ j. begun_count (same j) (events_of (at j) t) + 1 in
          let turned : begun_count s (events_of h t) + 1 ≡ 1 + begun_count s (events_of h t) = omega arith in
          moved ∙ get_or-set_same counts k v 0 there ∙ ap (λ n. n + 1) (counted k e.agent named.host) ∙ same_count ∙ turned
          ∙ sym (one_counted_more s e (events_of h t) (e.agent == h) (eq-eqb e.agent h at) (ap (begins_for s) cause ∙ is))
      | inr other ↦
          get_or-set_other counts k s (get_or counts k 0 + 1) 0 (λ same. eqb-false k s other (sym same)) ∙ counted s h host
          ∙ sym (left_counted s e (events_of h t) (e.agent == h) (k == s) (ap (begins_for s) cause) other)
    ]

-- the counts after any cause
cause_follows :
    (script : ScriptValue) (counts : List ℕ) (t : List Event) (e : Event) (cause : Cause) → length script.setup.streams ≤ 64 → length counts ≡ 64 → e.cause ≡ cause
    → IsCounted script counts t → IsOfScript script e.agent cause → IsCounted script (counts_after cause counts) (e ∷ t)
cause_follows script counts t e (Cause.Op k i op) few sized is counted named = op_follows script counts t e k i op few sized is counted named
cause_follows script counts t e (Cause.Take g m) few sized is counted named =
    λ s h host. counted s h host ∙ sym (left_counted s e (events_of h t) (e.agent == h) false (ap (begins_for s) is) refl)
cause_follows script counts t e (Cause.Act act) few sized is counted named =
    λ s h host. counted s h host ∙ sym (left_counted s e (events_of h t) (e.agent == h) false (ap (begins_for s) is) refl)

-- which has room
cause_counts :
    (script : ScriptValue) (counts : List ℕ) (t : List Event) (e : Event) (cause : Cause) → length script.setup.streams ≤ 64 → IsCounted script counts t → IsOfScript script e.agent cause
    → IsTrue (s0_stream_order cause (events_of e.agent t)) → MayCount cause counts
cause_counts script counts t e (Cause.Op k i op) few counted named order =
    let parts = in_order_parts k i op (events_of e.agent t) order in
    let index : i ≡ begun_count k (events_of e.agent t) = parts.index in
    let low : i < 4294967295 = ltb-true i 4294967295 (and_parts (i == begun_count k (events_of e.agent t)) _ (and_parts _ _ order).0).1 in
    let same = counted k e.agent named.host in
    let below = slice_get_within script.setup.streams k e.agent named.host in
    (omega (arith, below, few), omega (arith, same, index, low))
cause_counts script counts t e (Cause.Take g m) few counted named order = tt
cause_counts script counts t e (Cause.Act act) few counted named order = tt

sized_after : (cause : Cause) (counts : List ℕ) → length (counts_after cause counts) ≡ length counts
sized_after (Cause.Op k i op) counts = length-set counts k (get_or counts k 0 + 1)
sized_after (Cause.Take g m) counts = refl
sized_after (Cause.Act act) counts = refl

-- ---- what hosts offer

-- what a stream is offered, by its host's own events
abbrev offered_by : ScriptValue → Stream → List Event → List Event
offered_by script y mine =
    let begun = begun_count y.number mine in
    option_map_or (λ op. answered_steps y.host (Cause.Op y.number begun op) (host_answer script.setup y.host (Cause.Op y.number begun op) mine)) (slice_get y.operations begun) []

-- an event of another agent leaves it
others_leave : (script : ScriptValue) (t : List Event) (e : Event) (y : Stream) → (e.agent ≡ y.host → ⊥) → next_answer script (e ∷ t) y ≡ next_answer script t y
others_leave script t e y apart = ap (λ (b : Bool). offered_by script y (cond b (e ∷ events_of y.host t) (events_of y.host t))) (ne_eqb e.agent y.host apart)

unasked : (xs : List Bool) (g : ℕ) → get_or (set xs g false) g false ≡ false
unasked [] g = refl
unasked (x ∷ xs) zero = refl
unasked (x ∷ xs) (suc g) = unasked xs g

-- what is known after an event
known_after : (script : ScriptValue) (s : StreamTable) (t : List Event) (e : Event) → IsKnown script s t → IsKnown script (noted e s) (e ∷ t)
known_after script s t e known y of_script asked =
    let apart : e.agent ≡ y.host → ⊥ = λ same. false≢true (sym (unasked s.asked y.host) ∙ ap (λ g. get_or (set s.asked g false) y.host false) (sym same) ∙ asked) in
    let before = sym (get_or-set_other s.asked e.agent y.host false false (λ same. apart (sym same))) ∙ asked in
    ap length (others_leave script t e y apart) ∙ known y of_script before

-- ---- the turn

-- where there is a choice, a number modulo their count takes one
one_is_there : (cs : List Event) (p : ℕ) → 1 ≤ length cs → slice_get cs (p % length cs) ≡ None → ⊥
one_is_there [] p some none = omega (arith, some)
one_is_there (c ∷ cs) p some none =
    let low : p % length (c ∷ cs) < length (c ∷ cs) = mod-lt p some in
    none-some (get_or (c ∷ cs) (p % length (c ∷ cs)) c) (sym none ∙ slice_get-get_or (c ∷ cs) (p % length (c ∷ cs)) c low)

-- what isn't done has a choice
pub has_chosen : (script : ScriptValue) → IsDrivable script → (pick : ℕ) (t : List Event) → IsReached script t → is_done script t ≡ false → chosen script pick t ≡ None → ⊥
has_chosen script drivable pick t reached more none =
    one_is_there (choices script t) pick (has_choice script drivable t reached more) none

-- the event is one of the script's
pub may_count :
    (script : ScriptValue) → IsDrivable script → (machine next : MachineRecord) (s : StreamTable) (pick : ℕ) (t : List Event) (e : Event) → IsKept script machine s t → chosen script pick t ≡ Some e
    → StandsFor next script.setup script.opening (e ∷ t) → MayCount e.cause s.begun
may_count script drivable machine next s pick t e kept is stands =
    let reached = any_pick_reaches script pick t e kept.reached is in
    let named = (reached_scripted script drivable (e ∷ t) reached).0 in
    cause_counts script s.begun t e e.cause drivable.limits.streams kept.counted named (own_parts script.setup script.opening t e stands.run).1

pub turned :
    (script : ScriptValue) → IsDrivable script → (machine next : MachineRecord) (s : StreamTable) (pick : ℕ) (t : List Event) (e : Event) → IsKept script machine s t → is_done script t ≡ false → chosen script pick t ≡ Some e
    → StandsFor next script.setup script.opening (e ∷ t) → IsTurned script next (noted e s) pick t e
turned script drivable machine next s pick t e kept more is stands =
    let reached = any_pick_reaches script pick t e kept.reached is in
    let named = (reached_scripted script drivable (e ∷ t) reached).0 in
    record {
      more = more;
      is = is;
      kept = record {
        stands = stands;
        reached = reached;
        counted = cause_follows script s.begun t e e.cause drivable.limits.streams kept.sized refl kept.counted named;
        known = known_after script s t e kept.known;
        sized = sized_after e.cause s.begun ∙ kept.sized;
        offers_sized = kept.offers_sized;
      };
    }

-- ---- what is done

pub pending_open : (all pending : Bool) → pending ≡ true → false ≡ (all && not pending)
pending_open true true is = refl
pending_open false true is = refl
pending_open all false is = absurd (false≢true is)

pub pending_none : (result all pending : Bool) → pending ≡ false → result ≡ all → result ≡ (all && not pending)
pending_none result true false is same = same
pending_none result false false is same = same
pending_none result all true is same = absurd (false≢true (sym is))

-- a refusal breaks some rule
pub refusal_is_none : (result : Result (Unit {0}) RuleNo) (broken : Option RuleNo) → is_ok result ≡ false → result ≡ verdict broken → broken ≡ None → ⊥
refusal_is_none result broken refused is none = false≢true (sym refused ∙ ap (λ (r : Result (Unit {0}) RuleNo). is_ok r) (is ∙ ap verdict none))
