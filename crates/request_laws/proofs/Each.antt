-- What holds of each message of a list, and counts of messages that are taken out.
use Rattle.std.proofs.Common.{◌≡◌, ℕ, ◌+◌, Bool, true, false, List, [], ◌∷◌, ◌++◌, Option, Some, None, cond, count_by, find, refl, sym, ◌∙◌, ap, subst, arith}
use Rattle.std.proofs.lemmas.Bool.{false≢true}
use Rattle.std.proofs.lemmas.Option.{none-some, same_Some}
use Rattle.cxl_message.specs.declared.messages.Message.{Message}
use Rattle.cxl_message.specs.Messages.{has_tag, message_eq}
use Rattle.coherence_model.specs.Buffers.{message_with, without_tag, without_used}
use Rattle.coherence_model.specs.Flight.{without_first, without_taken}
use Rattle.coherence_model.specs.Words.{with_last}
use Rattle.request_laws.proofs.Counts.{count_by-append, count_by-cons}

-- P of each message
abbrev pub Each : (Message → Type 0) → List Message → Type 0
Each P [] = Unit {0}
Each P (m ∷ ms) = P m × Each P ms

pub each_weaker : (P Q : Message → Type 0) → ((m : Message) → P m → Q m) → (ms : List Message) → Each P ms → Each Q ms
each_weaker P Q f [] h = tt
each_weaker P Q f (m ∷ ms) h = (f m h.0, each_weaker P Q f ms h.1)

pub each_append : (P : Message → Type 0) (ms ns : List Message) → Each P ms → Each P ns → Each P (ms ++ ns)
each_append P [] ns h k = k
each_append P (m ∷ ms) ns h k = (h.0, each_append P ms ns h.1 k)

each_kept : (P : Message → Type 0) (n : Message) (ns rest : List Message) (gone : Bool) → P n → Each P ns → Each P rest → Each P (cond gone ns (n ∷ rest))
each_kept P n ns rest true h k later = k
each_kept P n ns rest false h k later = (h, later)

each_first : (P : Message → Type 0) (m : Message) (ns : List Message) → Each P ns → Each P (without_first m ns)
each_first P m [] h = tt
each_first P m (n ∷ ns) h = each_kept P n ns (without_first m ns) (message_eq m n) h.0 h.1 (each_first P m ns h.1)

pub each_without_taken : (P : Message → Type 0) (o : Option Message) (ns : List Message) → Each P ns → Each P (without_taken o ns)
each_without_taken P None ns h = h
each_without_taken P (Some m) ns h = each_first P m ns h

pub each_without_tag : (P : Message → Type 0) (tag : ℕ) (ns : List Message) → Each P ns → Each P (without_tag tag ns)
each_without_tag P tag [] h = tt
each_without_tag P tag (n ∷ ns) h = each_kept P n ns (without_tag tag ns) (has_tag tag n) h.0 h.1 (each_without_tag P tag ns h.1)

pub each_without_used : (P : Message → Type 0) (o : Option ℕ) (ns : List Message) → Each P ns → Each P (without_used o ns)
each_without_used P None ns h = h
each_without_used P (Some tag) ns h = each_without_tag P tag ns h

pub each_with_last : (P : Message → Type 0) (o : Option Message) (ns : List Message) → ((m : Message) → o ≡ Some m → P m) → Each P ns → Each P (with_last o ns)
each_with_last P None ns f h = h
each_with_last P (Some m) ns f h = each_append P ns (m ∷ []) h (f m refl, tt)

-- what no message of the list passes
none_head : (b : Bool) (n : ℕ) → cond b 1 0 + n ≡ 0 → (b ≡ false) × (n ≡ 0)
none_head true n h = absurd (omega arith)
none_head false n h = (refl, omega arith)

pub each_of_none : (P : Message → Type 0) (p : Message → Bool) (ms : List Message) → count_by p ms ≡ 0 → Each (λ m. p m ≡ true → P m) ms
each_of_none P p [] h = tt
each_of_none P p (m ∷ ms) h =
    let parts = none_head (p m) (count_by p ms) (sym (count_by-cons p m ms) ∙ h) in
    (λ is. absurd (false≢true (sym parts.0 ∙ is)), each_of_none P p ms parts.1)

-- the message that a find gives: it has the tag, is one of the list, and is the one that is taken out
pub record FoundMessage (P : Message → Type 0) (tag : ℕ) (m : Message) (ms : List Message) : Type 0 where
  pub tagged : has_tag tag m ≡ true
  pub holds : P m
  pub less : (p : Message → Bool) → count_by p ms ≡ cond (p m) 1 0 + count_by p (without_tag tag ms)

found_by : (P : Message → Type 0) (tag : ℕ) (m n : Message) (ns : List Message) (here : Bool) → has_tag tag n ≡ here → P n → (find (has_tag tag) ns ≡ Some m → FoundMessage P tag m ns)
    → cond here (Some n) (find (has_tag tag) ns) ≡ Some m → (has_tag tag m ≡ true) × P m × ((p : Message → Bool) → count_by p (n ∷ ns) ≡ cond (p m) 1 0 + count_by p (cond here ns (n ∷ without_tag tag ns)))
found_by P tag m n ns true is head later found =
    let same = same_Some n m found in
    (subst (λ x. has_tag tag x ≡ true) same is, subst P same head, λ p. count_by-cons p n ns ∙ ap (λ x. cond (p x) 1 0 + count_by p ns) same)
found_by P tag m n ns false is head later found =
    let rest = later found in (
      rest.tagged,
      rest.holds,
      λ p.
          let whole = count_by-cons p n ns in
          let left = count_by-cons p n (without_tag tag ns) in
          let fewer = rest.less p in
          omega arith,
    )

pub found_message : (P : Message → Type 0) (tag : ℕ) (m : Message) (ms : List Message) → Each P ms → message_with tag ms ≡ Some m → FoundMessage P tag m ms
found_message P tag m [] h found = absurd (none-some m found)
found_message P tag m (n ∷ ns) h found =
    let parts = found_by P tag m n ns (has_tag tag n) refl h.0 (found_message P tag m ns h.1) found in
    record { tagged = parts.0; holds = parts.1; less = parts.2 }

-- one more at the end, if there is one more
pub count-with_last : (p : Message → Bool) (o : Option Message) (ms : List Message) → (n : ℕ) → (o ≡ None → n ≡ 0) → ((m : Message) → o ≡ Some m → n ≡ cond (p m) 1 0) → count_by p (with_last o ms) ≡ count_by p ms + n
count-with_last p None ms n none some = let zero = none refl in omega arith
count-with_last p (Some m) ms n none some =
    let one = some m refl in
    let joined = count_by-append p ms (m ∷ []) in
    let last = count_by-cons p m [] in
    omega arith
