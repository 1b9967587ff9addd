-- The numbered events of an agent are its events, and their numbers are their places.
use Rattle.std.proofs.Common.{◌≡◌, ℕ, zero, suc, Bool, true, false, List, [], ◌∷◌, ◌++◌, Some, cond, length, map, refl, sym, ap, subst}
use Rattle.std.specs.Prelude.{reverse, slice_get, ◌==◌}
use Rattle.std.specs.List.{All}
use Rattle.std.proofs.lemmas.List.{length-reverse, reverse-append}
use Rattle.std.proofs.lemmas.List.Elements.{All-cons, All-nil, All-weaker}
use Rattle.cxl_message.specs.declared.events.Event.{Event}
use Rattle.coherence_model.specs.Traces.{events_of, numbered_events_of}
use Rattle.run_laws.specs.Laws.{NumberedAreOwn, NumbersArePlaces}

-- one more numbered event, or none
numbered_step : (own : Bool) (n : ℕ) (e : Event) (xs : List (ℕ × Event)) (ys : List Event) → map (λ p. p.1) xs ≡ ys → map (λ p. p.1) (cond own ((n, e) ∷ xs) xs) ≡ cond own (e ∷ ys) ys
numbered_step true n e xs ys h = ap (λ zs. e ∷ zs) h
numbered_step false n e xs ys h = h

pub numbered_are_own : NumberedAreOwn
numbered_are_own g [] = refl
numbered_are_own g (e ∷ past) = numbered_step (e.agent == g) (length past) e (numbered_events_of g past) (events_of g past) (numbered_are_own g past)

-- an element of a list stays at its place when elements are put behind
slice_get_front : (xs ys : List Event) (k : ℕ) (x : Event) → slice_get xs k ≡ Some x → slice_get (xs ++ ys) k ≡ Some x
slice_get_front [] ys k x h = cc
slice_get_front (z ∷ xs) ys zero x h = h
slice_get_front (z ∷ xs) ys (suc k) x h = slice_get_front xs ys k x h

-- and the first of these stands at the list's length
slice_get_seam : (xs : List Event) (y : Event) → slice_get (xs ++ y ∷ []) (length xs) ≡ Some y
slice_get_seam [] y = refl
slice_get_seam (x ∷ xs) y = slice_get_seam xs y

-- the event of a number stands at that place, the oldest event first
abbrev is_at : List Event → ℕ × Event → Type 0
is_at t p = slice_get (reverse t) p.0 ≡ Some p.1

-- it stays there when the trace goes on
stays_there : (e : Event) (past : List Event) (p : ℕ × Event) → is_at past p → is_at (e ∷ past) p
stays_there e past p h = subst (λ t. slice_get t p.0 ≡ Some p.1) (sym (reverse-append (e ∷ []) past)) (slice_get_front (reverse past) (e ∷ []) p.0 p.1 h)

-- the newest event's number is how many there were
newest_is_at : (e : Event) (past : List Event) → is_at (e ∷ past) (length past, e)
newest_is_at e past =
    subst (λ t. slice_get t (length past) ≡ Some e) (sym (reverse-append (e ∷ []) past))
    (subst (λ n. slice_get (reverse past ++ e ∷ []) n ≡ Some e) (length-reverse past) (slice_get_seam (reverse past) e))

places_step : (own : Bool) (e : Event) (past : List Event) (xs : List (ℕ × Event)) → All (is_at past) xs → All (is_at (e ∷ past)) (cond own ((length past, e) ∷ xs) xs)
places_step true e past xs h = All-cons (is_at (e ∷ past)) (length past, e) xs (newest_is_at e past) (All-weaker (is_at past) (is_at (e ∷ past)) (stays_there e past) xs h)
places_step false e past xs h = All-weaker (is_at past) (is_at (e ∷ past)) (stays_there e past) xs h

pub numbers_are_places : NumbersArePlaces
numbers_are_places g [] = All-nil (is_at [])
numbers_are_places g (e ∷ past) = places_step (e.agent == g) e past (numbered_events_of g past) (numbers_are_places g past)
