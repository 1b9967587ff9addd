-- The serial trace is a front of the driven trace without picks.
use Rattle.std.proofs.Common.{◌≡◌, ℕ, suc, ◌≤◌, ◌⊎◌, Bool, true, false, cond, List, [], ◌∷◌, ◌++◌, length, ap, sym, subst, ◌∙◌, arith, inl, inr}
use Rattle.std.specs.Prelude.{◌==◌}
use Rattle.std.proofs.lemmas.List.{length-append}
use Rattle.cxl_message.specs.declared.events.Event.{Event}
use Rattle.cxl_message.specs.Script.{ScriptValue}
use Rattle.coherence_model.specs.Driven.{driven_trace, event_bound, serial_trace, without_picks}
use Rattle.coherence_model.specs.Traces.{events_of}
use Rattle.driven_laws.specs.Reached.{IsReached}
use Rattle.driven_laws.specs.Scripts.{IsDrivable}
use Rattle.commit_laws.specs.Commits.{CommitsEach}
use Rattle.driven_laws.proofs.Ending.{driven_is_committed, reached_is_short}
use Rattle.driven_laws.proofs.Reached.{driving_reaches, reached_is_followed, reached_is_run}
use Rattle.commit_laws.specs.Begun.{is_complete}
use Rattle.commit_laws.proofs.Followed.{followed_commits}
use Rattle.commit_laws.proofs.Tested.{complete_is_committed}
use Rattle.serial_laws.specs.Cuts.{CutOff, NoRoom, Nothing, SomeIsFull}
use Rattle.serial_laws.specs.Laws.{SerialCommits, SerialFollows, SerialIsCompleteOrFull, SerialIsReached, SerialIsRun, SerialIsWhole}
use Rattle.serial_laws.proofs.Cut.{serial_has_room, serial_is_cut}

-- a script that can be driven can be without its picks
pub can_without : (script : ScriptValue) → IsDrivable script → IsDrivable (without_picks script)
can_without script can = record { limits = can.limits; lists = can.lists; operations = can.operations; count = can.count }

-- a front of a reached trace is reached
front_reached : (script : ScriptValue) (later t : List Event) → IsReached script (later ++ t) → IsReached script t
front_reached script [] t reached = reached
front_reached script (e ∷ later) t reached = front_reached script later t reached.0

-- what is reached without picks is reached with them
picks_alike : (script : ScriptValue) (t : List Event) → IsReached (without_picks script) t → IsReached script t
picks_alike script [] reached = tt
picks_alike script (e ∷ t) reached = (picks_alike script t reached.0, reached.1)

pub serial_is_reached : SerialIsReached
serial_is_reached script =
    let cut = serial_is_cut script in
    let bare = without_picks script in
    picks_alike script (serial_trace script)
    (front_reached bare cut.later (serial_trace script) (subst (IsReached bare) cut.all (driving_reaches bare (event_bound bare) bare.picks [] tt)))

pub serial_is_run : SerialIsRun
serial_is_run script can = reached_is_run script can (serial_trace script) (serial_is_reached script)

pub serial_follows : SerialFollows
serial_follows script can = reached_is_followed script can (serial_trace script) (serial_is_reached script)

pub serial_commits : SerialCommits
serial_commits script can s h ops host list = followed_commits script can.limits can.lists (serial_trace script) (serial_is_run script can) (serial_follows script can) s h ops host list

-- one agent has at most all events
pub own_within : (g : ℕ) (t : List Event) → length (events_of g t) ≤ length t
own_within g [] = omega arith
own_within g (e ∷ t) = by (e.agent == g) (own_within g t)
  where
    by : (own : Bool) → length (events_of g t) ≤ length t → length (cond own (e ∷ events_of g t) (events_of g t)) ≤ suc (length t)
    by true le = omega (arith, le)
    by false le = omega (arith, le)

-- with room for the bound nothing is cut off
whole_by :
    (room bound : ℕ) (whole t later : List Event) → whole ≡ later ++ t → length whole ≤ bound → bound ≤ room → CutOff room t later → t ≡ whole
whole_by room bound whole t later all short wide (Nothing none) = sym (all ∙ ap (λ (xs : List Event). xs ++ t) none)
whole_by room bound whole t later all short wide (NoRoom e more cut full) =
    let long = ap length (all ∙ ap (λ (xs : List Event). xs ++ t) cut) in
    let one = length-append (more ++ e ∷ []) t in
    let two = length-append more (e ∷ []) in
    let few = own_within e.agent t in
    absurd (omega (arith, long, one, two, few, full, short, wide))

pub serial_is_whole : SerialIsWhole
serial_is_whole script can wide =
    let cut = serial_is_cut script in
    let bare = without_picks script in
    let short = reached_is_short bare (can_without script can) (driven_trace bare) (driving_reaches bare (event_bound bare) bare.picks [] tt) in
    whole_by script.room (event_bound script) (driven_trace bare) (serial_trace script) cut.later cut.all short wide cut.off

-- two numbers that are each at most the other are the same
same_number : (n m : ℕ) → n ≤ m → m ≤ n → n ≡ m
same_number n m le ge = omega (arith, le, ge)

-- what is cut off nothing has each operation committed, and else its next event has no room
complete_or_full :
    (script : ScriptValue) → IsDrivable script → (later : List Event) → driven_trace (without_picks script) ≡ later ++ serial_trace script → CutOff script.room (serial_trace script) later
    → (is_complete script (serial_trace script) ≡ true) ⊎ SomeIsFull script.room (serial_trace script)
complete_or_full script can later all (Nothing none) =
    let same : driven_trace (without_picks script) ≡ serial_trace script = all ∙ ap (λ (xs : List Event). xs ++ serial_trace script) none in
    let each = driven_is_committed (without_picks script) (can_without script can) in
    let whole : CommitsEach script (driven_trace (without_picks script)) = record { streams = each.streams; no_other = each.no_other } in
    inl ((complete_is_committed script can.limits can.lists (serial_trace script) (serial_is_run script can) (serial_follows script can)).1 (subst (CommitsEach script) same whole))
complete_or_full script can later all (NoRoom e more cut full) = inr (e.agent, same_number (length (events_of e.agent (serial_trace script))) script.room (serial_has_room script e.agent) full)

pub serial_complete_or_full : SerialIsCompleteOrFull
serial_complete_or_full script can = let cut = serial_is_cut script in complete_or_full script can cut.later cut.all cut.off
