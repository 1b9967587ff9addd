-- What is known with a plan.
use Rattle.std.proofs.Common.{Bool, List, None, Option, Some, [], ap, arith, cond, false, length, map, refl, subst, sym, true, ℕ, ◌+◌, ◌<◌, ◌∙◌, ◌∷◌, ◌≡◌, ◌≤◌}
use Rattle.std.specs.Prelude.{IfOk, filter, find, nat_le, nat_lt, not, option_map, ◌&&◌, ◌==◌, ◌||◌}
use Rattle.std.proofs.lemmas.Bool.{eq-eqb, false≢true, leb-false, leb-true, or_left, or_right}
use Rattle.cxl_message.specs.declared.events.Op.{Op}
use Rattle.cxl_message.specs.declared.identifiers.Line.{Line}
use Rattle.cxl_message.specs.declared.identifiers.Tag.{Tag}
use Rattle.cxl_message.specs.Events.{line_of}
use Rattle.host_cache.specs.Caches.{line_named}
use Rattle.host_record.specs.Ways.{Way, drop_way, has_way}
use Rattle.host_plans.specs.declared.plans.Plan.{Plan}
use Rattle.host_plans.specs.declared.plans.Unplanned.{Unplanned}
use Rattle.host_plans.specs.Plans.{HasRoomFor, KeepsWay, PlanHolds, TakesWay, dropping, idle_way, lacks_room_in, replacing, requesting}

room_by : (room a : ℕ) (ways : List Way) (full : Bool) → nat_le room (length ways) ≡ full → (full && not (has_way a ways)) ≡ false → has_way a ways ≡ false → length ways < room
room_by room a ways true is has none = absurd (false≢true (sym has ∙ ap not none))
room_by room a ways false is has none = leb-false room (length ways) is

keeps : (room lines a : ℕ) (ways : List Way) → a < lines → lacks_room_in room ways a ≡ false → KeepsWay room lines ways a
keeps room lines a ways low has = record { exists = low; has_room = has; fits = room_by room a ways (nat_le room (length ways)) refl has }

same_some : (m n : ℕ) → Some m ≡ Some n → n ≡ m
same_some m n same = cc

found_has : (p : ℕ → Bool) (ways : List Way) (v : ℕ) (x : ℕ) (rest : Option ℕ) (more : Bool) (b : Bool) → cond b (Some x) rest ≡ Some v → (rest ≡ Some v → more ≡ true) → ((v == x) || more) ≡ true
found_has p ways v x rest more true is later = or_left _ _ (eq-eqb v x (same_some x v is))
found_has p ways v x rest more false is later = or_right _ _ (later is)

-- a line that is found among those of the ways has a way
idle_has : (p : ℕ → Bool) (ways : List Way) (v : ℕ) → find p (map (λ w. w.line) ways) ≡ Some v → has_way v ways ≡ true
idle_has p [] v is = absurd (cc)
idle_has p (w ∷ ways) v is = found_has p ways v w.line (find p (map (λ w. w.line) ways)) (has_way v ways) (p w.line) is (λ later. idle_has p ways v later)

longer_by : (v : ℕ) (w : Way) (ways : List Way) (b : Bool) → length (drop_way v ways) ≤ length ways → length (cond (not b) (w ∷ drop_way v ways) (drop_way v ways)) ≤ length (w ∷ ways)
longer_by v w ways true rest = omega arith
longer_by v w ways false rest = omega arith

no_longer : (v : ℕ) (ways : List Way) → length (drop_way v ways) ≤ length ways
no_longer v [] = omega arith
no_longer v (w ∷ ways) = longer_by v w ways (v == w.line) (no_longer v ways)

shorter_by : (v : ℕ) (w : Way) (ways : List Way) (b : Bool) → (b || has_way v ways) ≡ true → (has_way v ways ≡ true → length (drop_way v ways) < length ways) → length (cond (not b) (w ∷ drop_way v ways) (drop_way v ways)) < length (w ∷ ways)
shorter_by v w ways true has rest = omega (arith, no_longer v ways)
shorter_by v w ways false has rest = omega (arith, rest has)

shorter : (v : ℕ) (ways : List Way) → has_way v ways ≡ true → length (drop_way v ways) < length ways
shorter v [] has = absurd (false≢true has)
shorter v (w ∷ ways) has = shorter_by v w ways (v == w.line) has (λ later. shorter v ways later)

full_lacks : (full has : Bool) → (full && has) ≡ true → full ≡ true
full_lacks true has is = refl
full_lacks false has is = is

takes : (room lines a v : ℕ) (ways : List Way) (busy : List Bool) → a < lines → length ways ≤ room → lacks_room_in room ways a ≡ true → idle_way busy ways ≡ Some v → TakesWay room lines ways busy a v
takes room lines a v ways busy low most lacks idle =
    let stands = idle_has _ ways v idle in
    let fewer = shorter v ways stands in
    record { exists = low; lacks_room = lacks; idle = idle; stands = stands; fits = λ none. omega (arith, fewer, most) }

pub requests_hold : (room lines : ℕ) (ways : List Way) (busy : List Bool) (op : Op) (first : Option Tag) → line_of op < lines → lacks_room_in room ways (line_of op) ≡ false → IfOk (requesting first) (λ plan. PlanHolds room lines ways busy op plan)
requests_hold room lines ways busy op None low has = tt
requests_hold room lines ways busy op (Some t) low has = keeps room lines (line_of op) ways low has

pub drops_hold : (room lines : ℕ) (ways : List Way) (busy : List Bool) (op : Op) (victim : Line) (first : Option Tag) → line_of op < lines → length ways ≤ room → lacks_room_in room ways (line_of op) ≡ true → idle_way busy ways ≡ Some victim.0
    → IfOk (dropping victim first) (λ plan. PlanHolds room lines ways busy op plan)
drops_hold room lines ways busy op victim None low most lacks idle = tt
drops_hold room lines ways busy op victim (Some t) low most lacks idle = takes room lines (line_of op) victim.0 ways busy low most lacks idle

pub replaces_hold : (room lines : ℕ) (ways : List Way) (busy : List Bool) (op : Op) (victim : Line) (first second : Option Tag) → line_of op < lines → length ways ≤ room → lacks_room_in room ways (line_of op) ≡ true → idle_way busy ways ≡ Some victim.0
    → IfOk (replacing victim first second) (λ plan. PlanHolds room lines ways busy op plan)
replaces_hold room lines ways busy op victim None second low most lacks idle = tt
replaces_hold room lines ways busy op victim (Some t) None low most lacks idle = tt
replaces_hold room lines ways busy op victim (Some t) (Some u) low most lacks idle = takes room lines (line_of op) victim.0 ways busy low most lacks idle

abbrev line_number : Option Line → ℕ → ℕ
line_number None n = n
line_number (Some l) n = l.0

-- the line that was found, as a number
pub found_line : (o : Option ℕ) (v : Line) → Some v ≡ option_map line_named o → o ≡ Some v.0
found_line None v is = absurd (cc)
found_line (Some n) v is = ap Some (sym (ap (λ (o : Option Line). line_number o n) is))
