-- What puts one after the other do.
use Rattle.std.proofs.Common.{◌≡◌, ℕ, List, [], ◌∷◌, ◌++◌, take, drop, Option, Result, Ok, Err, refl, sym, ap, ◌∙◌, append_assoc, append-nil, take-append-drop}
use Rattle.std.specs.Result.{OnErr}
use Rattle.std.specs.List.{AllByRecursion}
use Rattle.std.proofs.KnownBytes.{Appends-nil, Appends-trans}
use Rattle.std.specs.Io.KnownBytes.{Appends}
use Rattle.trace_stream.specs.Buffers.{Puts, PutsFront}

-- bytes that were only put behind those that wait
pub puts_waiting : (gone : Option (List ℕ)) (waited bytes : List ℕ) → Puts gone gone waited (waited ++ bytes) bytes
puts_waiting gone waited bytes = record { gone = []; went = Appends-nil gone; whole = refl }

-- nothing was put
pub puts_nothing : (gone : Option (List ℕ)) (waited : List ℕ) → Puts gone gone waited waited []
puts_nothing gone waited = record { gone = []; went = Appends-nil gone; whole = append-nil waited }

-- all that waited went
pub puts_all : (old new : Option (List ℕ)) (waited : List ℕ) → Appends old new waited → Puts old new waited [] []
puts_all old new waited went = record { gone = waited; went = went; whole = refl }

-- a front of what waited went
pub front_went : (old new : Option (List ℕ)) (waited : List ℕ) (n : ℕ) → Appends old new (take n waited) → PutsFront old new waited []
front_went old new waited n went = record {
  gone = take n waited;
  lost = drop n waited;
  went = went;
  whole = append-nil waited ∙ sym (take-append-drop n waited);
}

-- nothing went
pub front_nothing : (gone : Option (List ℕ)) (waited bytes : List ℕ) → PutsFront gone gone waited bytes
front_nothing gone waited bytes = record { gone = []; lost = waited ++ bytes; went = Appends-nil gone; whole = refl }

-- five lists that two moments split in turn
regrouped : (w s t g x h y : List ℕ) → w ++ s ≡ g ++ x → x ++ t ≡ h ++ y → w ++ (s ++ t) ≡ (g ++ h) ++ y
regrouped w s t g x h y first second =
    sym (append_assoc w s t) ∙ ap (λ (l : List ℕ). l ++ t) first ∙ append_assoc g x t ∙ ap (λ (l : List ℕ). g ++ l) second ∙ sym (append_assoc g h y)

-- one put after another
pub puts_twice : (a b c : Option (List ℕ)) (w x y s t : List ℕ) → Puts a b w x s → Puts b c x y t → Puts a c w y (s ++ t)
puts_twice a b c w x y s t p q = record {
  gone = p.gone ++ q.gone;
  went = Appends-trans a b c p.gone q.gone p.went q.went;
  whole = regrouped w s t p.gone x q.gone y p.whole q.whole;
}

-- a put, and then one that failed
pub puts_then_front : (a b c : Option (List ℕ)) (w x s t : List ℕ) → Puts a b w x s → PutsFront b c x t → PutsFront a c w (s ++ t)
puts_then_front a b c w x s t p q = record {
  gone = p.gone ++ q.gone;
  lost = q.lost;
  went = Appends-trans a b c p.gone q.gone p.went q.went;
  whole = regrouped w s t p.gone x q.gone q.lost p.whole q.whole;
}

-- the front of some bytes is a front of more
pub front_of_more : (a b : Option (List ℕ)) (w s t : List ℕ) → PutsFront a b w s → PutsFront a b w (s ++ t)
front_of_more a b w s t p = record {
  gone = p.gone;
  lost = p.lost ++ t;
  went = p.went;
  whole = sym (append_assoc w s t) ∙ ap (λ (l : List ℕ). l ++ t) p.whole ∙ append_assoc p.gone p.lost t;
}

-- what holds in any case holds of a refusal
pub on_refusal : {T E P : Type 0} (r : Result T E) → P → OnErr r P
on_refusal (Ok x) p = tt
on_refusal (Err e) p = p

-- facts of elements, and of one more
pub all_more : {A : Type 0} (P : A → Type 0) (xs : List A) (x : A) → AllByRecursion P xs → P x → AllByRecursion P (xs ++ x ∷ [])
all_more P [] x each one = (one, tt)
all_more P (y ∷ xs) x each one = (each.0, all_more P xs x each.1 one)
