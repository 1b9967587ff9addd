-- The way to the trace that is put, turn by turn.
use Rattle.std.proofs.Common.{IsTrue, List, Some, [], ap, arith, cond, false, get_or, inl, inr, length, refl, replicate, sym, subst, true, zero, suc, Bool, ℕ, ◌+◌, ◌<◌, ◌≡◌, ◌≤◌, ◌∙◌, ◌∷◌}
use Rattle.std.specs.Prelude.{nat_lt, slice_get, ◌%◌, ◌*◌, ◌-◌, ◌==◌, ◌||◌}
use Rattle.std.proofs.Math.Nat.{mul-le-mul_right}
use Rattle.std.proofs.lemmas.Bool.{and_parts, cases_Bool, eqb-false, eqb-true, false≢true, ltb-false, ltb-true, or_cases}
use Rattle.std.proofs.lemmas.List.{get_or-set_other, get_or-set_same, length-set}
use Rattle.std.proofs.lemmas.Option.{none-some, same_Some}
use Rattle.cxl_codec.specs.Versions.{event_fits}
use Rattle.cxl_message.specs.declared.events.Event.{Event}
use Rattle.cxl_message.specs.Formed.{well_formed}
use Rattle.cxl_message.specs.Script.{ScriptValue}
use Rattle.choice_laws.proofs.Choices.{way_goes_by_number}
use Rattle.coherence_model.specs.Choices.{choices, is_done}
use Rattle.coherence_model.specs.Driven.{operation_count, pick_from, pick_now, picks_left, without_picks}
use Rattle.coherence_model.specs.Fitting.{is_device}
use Rattle.coherence_model.specs.Traces.{events_of}
use Rattle.driven_laws.proofs.Ending.{reached_is_short}
use Rattle.driven_laws.proofs.OnTheWay.{way_begins, way_ends}
use Rattle.driven_laws.specs.Reached.{IsOnTheWay}
use Rattle.driven_laws.specs.Scripts.{IsDrivable}
use Rattle.machine.specs.Stands.{MachineRecord, StandsFor}
use Rattle.serial_laws.proofs.Serial.{can_without, own_within}
use Rattle.serial_laws.proofs.SerialWay.{serial_begins, serial_ends, serial_goes_on, serial_stops}
use Rattle.step_driver.specs.declared.schedules.Schedule.{Schedule}
use Rattle.step_driver.specs.declared.table.StreamTable.{StreamTable}
use Rattle.step_driver.specs.Driver.{IsKept, empty_table, one_counted}
use Rattle.step_driver.specs.Outputs.{version_of}
use Rattle.step_driver.specs.Picks.{IsTurned, chosen}
use Rattle.step_driver.specs.Schedules.{IsAt, IsJournaled, IsOnWay, no_events, picks_of, room_of, target}
use Rattle.step_driver.proofs.Rooms.{event_has_room}
use Rattle.step_driver.proofs.Turned.{own_parts}

-- ---- the way

-- a choice by its number is what the pick takes
chosen_is_picked : (p : ℕ) (cs : List Event) (e : Event) → slice_get cs (p % length cs) ≡ Some e → pick_from p cs ≡ Some e
chosen_is_picked p [] e is = absurd (none-some e is)
chosen_is_picked p (c ∷ cs) e is = is

-- no list has both none and one
not_empty : (p : ℕ) (ps : List ℕ) → p ∷ ps ≡ [] → ⊥
not_empty p ps is = let size = ap (λ (xs : List ℕ). length xs) is in omega (arith, size)

-- the choice of the next pick, where it has room, goes on the way
way_goes_on :
    (schedule : Schedule) (script : ScriptValue) → IsDrivable script → (picks : List ℕ) (t : List Event) (e : Event) → IsOnWay schedule script picks t → is_done script t ≡ false
    → chosen script (pick_now picks) t ≡ Some e → length (events_of e.agent t) < room_of schedule script → IsOnWay schedule script (picks_left picks) (e ∷ t)
way_goes_on Schedule.Picked script drivable picks t e way more is has =
    let goes = way_goes_by_number script drivable picks t way more in
    let same = same_Some goes.event e (sym goes.at ∙ is) in
    subst (λ x. IsOnTheWay script (picks_left picks) (x ∷ t)) same goes.way
way_goes_on Schedule.Serial script drivable [] t e way more is has =
    (refl, serial_goes_on script drivable t e way.1 more (chosen_is_picked 0 (choices script t) e is) has)
way_goes_on Schedule.Serial script drivable (p ∷ ps) t e way more is has = absurd (not_empty p ps way.0)

-- no trace on the way has more events than any driven trace may have
few_driven : (script : ScriptValue) → IsDrivable script → (picks : List ℕ) (t : List Event) → IsOnTheWay script picks t → length t ≤ 113049600
few_driven script drivable picks t way =
    let few = drivable.count in
    let hosts = drivable.limits.hosts.1 in
    let short = reached_is_short script drivable t way.reached in
    let rate : 108 * script.setup.hosts - 3 ≤ 1725 = omega (arith, hosts) in
    let most : (108 * script.setup.hosts - 3) * operation_count script ≤ 1725 * operation_count script = mul-le-mul_right (operation_count script) rate in
    omega (arith, most, short, few)

pub few_events : (schedule : Schedule) (script : ScriptValue) → IsDrivable script → (picks : List ℕ) (t : List Event) → IsOnWay schedule script picks t → length t ≤ 113049600
few_events Schedule.Picked script drivable picks t way = few_driven script drivable picks t way
few_events Schedule.Serial script drivable picks t way = few_driven (without_picks script) (can_without script drivable) [] t way.1.way

-- a choice that has no room ends the trace
way_stops :
    (schedule : Schedule) (script : ScriptValue) → IsDrivable script → (picks : List ℕ) (t : List Event) (e : Event) → IsOnWay schedule script picks t → is_done script t ≡ false
    → chosen script (pick_now picks) t ≡ Some e → room_of schedule script ≤ length (events_of e.agent t) → t ≡ target schedule script
way_stops Schedule.Picked script drivable picks t e way more is full =
    let few = few_driven script drivable picks t way in
    let own = own_within e.agent t in
    absurd (omega (arith, few, own, full))
way_stops Schedule.Serial script drivable [] t e way more is full = serial_stops script drivable t e way.1 more (chosen_is_picked 0 (choices script t) e is) full
way_stops Schedule.Serial script drivable (p ∷ ps) t e way more is full = absurd (not_empty p ps way.0)

-- what is done is the trace that is put
pub done_ends : (schedule : Schedule) (script : ScriptValue) (picks : List ℕ) (t : List Event) → IsOnWay schedule script picks t → is_done script t ≡ true → t ≡ target schedule script
done_ends Schedule.Picked script picks t way done = way_ends script picks t way done
done_ends Schedule.Serial script picks t way done = serial_ends script t way.1 done

begins_way : (schedule : Schedule) (script : ScriptValue) → IsOnWay schedule script (picks_of schedule script) []
begins_way Schedule.Picked script = way_begins script
begins_way Schedule.Serial script = (refl, serial_begins script)

-- ---- the journals

-- the agent of an event is a host or the device
agent_within : (g hosts : ℕ) → hosts ≤ 16 → (is_device g || nat_lt g hosts) ≡ true → g < 17
agent_within g hosts few fits =
    elim (or_cases (is_device g) (nat_lt g hosts) fits) [
      | inl device ↦ let same = eqb-true g 16 device in omega (arith, same)
      | inr host ↦ let low = ltb-true g hosts host in omega (arith, low, few)
    ]

pub has_journal : (script : ScriptValue) → IsDrivable script → (machine : MachineRecord) (s : StreamTable) (t : List Event) (e : Event) → IsKept script machine s (e ∷ t) → e.agent < 17
has_journal script drivable machine s t e kept =
    agent_within e.agent script.setup.hosts drivable.limits.hosts.1
    (and_parts _ _ (and_parts _ _ (and_parts _ _ (and_parts _ _ (own_parts script.setup script.opening t e kept.stands.run).0).0).0).0).1

own_more : (e : Event) (mine : List Event) (own : Bool) → own ≡ true → length (cond own (e ∷ mine) mine) ≡ length mine + 1
own_more e mine true is = omega arith
own_more e mine false is = absurd (false≢true is)

own_kept : (e : Event) (mine : List Event) (own : Bool) → own ≡ false → length (cond own (e ∷ mine) mine) ≡ length mine
own_kept e mine false is = refl
own_kept e mine true is = absurd (false≢true (sym is))

-- an event that was entered is counted
entered : (journals : List ℕ) (t : List Event) (e : Event) → IsJournaled journals t → e.agent < 17 → IsJournaled (one_counted e.agent journals) (e ∷ t)
entered journals t e is low =
    record {
      each = λ g within.
          elim (cases_Bool (e.agent == g)) [
            | inl own ↦
                let same = eqb-true e.agent g own in
                let there : e.agent < length journals = let size = is.sized in omega (arith, low, size) in
                let v = get_or journals e.agent 0 + 1 in
                let at : get_or (one_counted e.agent journals) g 0 ≡ v = ap (λ k. get_or (one_counted e.agent journals) k 0) (sym same) ∙ get_or-set_same journals e.agent v 0 there in
                at ∙ ap (λ k. get_or journals k 0 + 1) same ∙ ap (λ n. n + 1) (is.each g within) ∙ sym (own_more e (events_of g t) (e.agent == g) own)
            | inr other ↦
                get_or-set_other journals e.agent g (get_or journals e.agent 0 + 1) 0 (λ same. eqb-false e.agent g other (sym same)) ∙ is.each g within ∙ sym (own_kept e (events_of g t) (e.agent == g) other)
          ];
      sized = length-set journals e.agent (get_or journals e.agent 0 + 1) ∙ is.sized;
    }

zeros : (n s : ℕ) → ◌≡◌ {A = ℕ} (get_or (replicate n 0) s 0) 0
zeros zero s = refl
zeros (suc n) zero = refl
zeros (suc n) (suc s) = zeros n s

-- ---- the next event

-- a turn whose event has room goes on
pub goes_on :
    (schedule : Schedule) (script : ScriptValue) → IsDrivable script → (machine next : MachineRecord) (s after : StreamTable) (journals picks : List ℕ) (t : List Event) (e : Event) → IsAt schedule script machine s journals picks t
    → IsTurned script next after (pick_now picks) t e → nat_lt (get_or journals e.agent 0) (room_of schedule script) ≡ true → IsAt schedule script next after (one_counted e.agent journals) (picks_left picks) (e ∷ t)
goes_on schedule script drivable machine next s after journals picks t e at turned has =
    let low = has_journal script drivable next after t e turned.kept in
    let count = at.journaled.each e.agent (omega (arith, low)) in
    let less = ltb-true (get_or journals e.agent 0) (room_of schedule script) has in
    record {
      kept = turned.kept;
      way = way_goes_on schedule script drivable picks t e at.way turned.more turned.is (omega (arith, less, count));
      journaled = entered journals t e at.journaled low;
    }

-- and one whose event has none ends the trace
pub stops :
    (schedule : Schedule) (script : ScriptValue) → IsDrivable script → (machine next : MachineRecord) (s after : StreamTable) (journals picks : List ℕ) (t : List Event) (e : Event) → IsAt schedule script machine s journals picks t
    → IsTurned script next after (pick_now picks) t e → nat_lt (get_or journals e.agent 0) (room_of schedule script) ≡ false → t ≡ target schedule script
stops schedule script drivable machine next s after journals picks t e at turned full =
    let low = has_journal script drivable next after t e turned.kept in
    let count = at.journaled.each e.agent (omega (arith, low)) in
    let most = ltb-false (get_or journals e.agent 0) (room_of schedule script) full in
    way_stops schedule script drivable picks t e at.way turned.more turned.is (omega (arith, most, count))

-- its event is well formed
pub formed : (script : ScriptValue) (machine : MachineRecord) (s : StreamTable) (t : List Event) (e : Event) → IsKept script machine s (e ∷ t) → IsTrue (well_formed e)
formed script machine s t e kept =
    (and_parts (well_formed e) _ (and_parts _ _ (and_parts _ _ (and_parts _ _ (own_parts script.setup script.opening t e kept.stands.run).0).0).0).0).0

-- and the script's version has room for its tags
pub has_room : (script : ScriptValue) (machine : MachineRecord) (s : StreamTable) (t : List Event) (e : Event) → IsKept script machine s (e ∷ t) → IsTrue (event_fits (version_of script) e)
has_room script machine s t e kept = event_has_room script e (own_parts script.setup script.opening t e kept.stands.run).0

none_asked : (n h : ℕ) → get_or (replicate n false) h false ≡ false
none_asked zero h = refl
none_asked (suc n) zero = refl
none_asked (suc n) (suc h) = none_asked n h

-- before the first event nothing has begun
pub begins_at : (schedule : Schedule) (script : ScriptValue) (machine : MachineRecord) → StandsFor machine script.setup script.opening [] → IsAt schedule script machine empty_table no_events (picks_of schedule script) []
begins_at schedule script machine stands =
    record {
      kept = record { stands = stands; reached = tt; counted = λ s h host. zeros 64 s; known = λ y of_script asked. absurd (false≢true (sym (none_asked 16 y.host) ∙ asked)); sized = refl; offers_sized = refl };
      way = begins_way schedule script;
      journaled = record { each = λ g within. zeros 17 g; sized = refl };
    }
