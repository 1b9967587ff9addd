-- Laws of the traces that driving a script comes to.
use Rattle.std.specs.Prelude.{IsTrue, List, Some, [], false, length, ℕ, ◌∷◌, ◌≡◌, ◌≤◌}
use Rattle.cxl_message.specs.declared.events.Event.{Event}
use Rattle.cxl_message.specs.Script.{ScriptValue}
use Rattle.coherence_model.specs.Choices.{choices, is_done}
use Rattle.coherence_model.specs.Driven.{driven_on, driven_trace, event_bound, pick_from, pick_now, picks_left}
use Rattle.coherence_model.specs.Runs.{IsRun}
use Rattle.commit_laws.specs.Begun.{Follows}
use Rattle.commit_laws.specs.Commits.{CommitsEach}
use Rattle.driven_laws.specs.Reached.{IsOnTheWay, IsReached}
use Rattle.driven_laws.specs.Scripts.{IsDrivable}

-- ---- every script that can be driven

-- driving on from a trace that it came to comes to such a trace
abbrev pub DrivingReaches : Type 0
DrivingReaches =
    (script : ScriptValue) (n : ℕ) (picks : List ℕ) (t : List Event) → IsReached script t → IsReached script (driven_on n script picks t)

-- each trace that driving comes to is a run
abbrev pub ReachedAreRuns : Type 0
ReachedAreRuns = (script : ScriptValue) → IsDrivable script → (t : List Event) → IsReached script t → IsRun script.setup script.opening t

-- and follows the script: the operations that each stream began are the first of the script's
abbrev pub ReachedIsFollowed : Type 0
ReachedIsFollowed = (script : ScriptValue) → IsDrivable script → (t : List Event) → IsReached script t → Follows script t

-- a reached trace has at most so many events
abbrev pub ReachedAreShort : Type 0
ReachedAreShort = (script : ScriptValue) → IsDrivable script → (t : List Event) → IsReached script t → length t ≤ event_bound script

-- what isn't done has a choice
abbrev pub ChoicesStand : Type 0
ChoicesStand = (script : ScriptValue) → IsDrivable script → (t : List Event) → IsReached script t → is_done script t ≡ false → 1 ≤ length (choices script t)

-- driving ends done: each stream has begun all of its operations, and nothing is pending
abbrev pub DrivingEnds : Type 0
DrivingEnds = (script : ScriptValue) → IsDrivable script → IsTrue (is_done script (driven_trace script))

-- a trace that driving came to and that is done has each operation of the script committed once, each stream's in their order, and nothing else
abbrev pub EachIsCommitted : Type 0
EachIsCommitted = (script : ScriptValue) → IsDrivable script → (t : List Event) → IsReached script t → IsTrue (is_done script t) → CommitsEach script t

-- so has the driven trace
abbrev pub DrivenIsCommitted : Type 0
DrivenIsCommitted = (script : ScriptValue) → IsDrivable script → CommitsEach script (driven_trace script)

-- ---- driving event by event

-- the empty trace is on the way to the driven one
abbrev pub WayBegins : Type 0
WayBegins = (script : ScriptValue) → IsOnTheWay script script.picks []

-- with the choice that the next pick takes a trace that isn't done stays on the way
abbrev pub WayGoesOn : Type 0
WayGoesOn =
    (script : ScriptValue) → IsDrivable script → (picks : List ℕ) (t : List Event) (e : Event) → IsOnTheWay script picks t → is_done script t ≡ false
    → pick_from (pick_now picks) (choices script t) ≡ Some e → IsOnTheWay script (picks_left picks) (e ∷ t)

-- where it is done it is the driven trace
abbrev pub WayEnds : Type 0
WayEnds = (script : ScriptValue) (picks : List ℕ) (t : List Event) → IsOnTheWay script picks t → IsTrue (is_done script t) → t ≡ driven_trace script
