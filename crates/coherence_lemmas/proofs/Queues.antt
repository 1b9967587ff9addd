-- The first of some messages is taken out: how many are left, and how many of a kind.
use Rattle.std.proofs.Common.{◌≡◌, ◌+◌, suc, ℕ, Bool, true, false, IsTrue, List, [], ◌∷◌, Option, Some, None, cond, length, refl, sym, ◌∙◌, ap, arith}
use Rattle.std.specs.Prelude.{count_by, ◌||◌}
use Rattle.std.specs.List.{list_any}
use Rattle.std.specs.Option.{option_len, option_map_or}
use Rattle.std.proofs.lemmas.Bool.{false≢true}
use Rattle.std.proofs.lemmas.List.Sums.{sum_by-cons}
use Rattle.cxl_message.specs.declared.messages.Message.{Message}
use Rattle.cxl_message.specs.Messages.{message_eq}
use Rattle.coherence_model.specs.Flight.{without_first, without_taken}
use Rattle.cxl_message.proofs.SameMessages.{message_eq-same}

-- one less is left
left_by :
    (m n : Message) (ns : List Message) (same : Bool) → (same || list_any (message_eq m) ns) ≡ true
    → (list_any (message_eq m) ns ≡ true → length ns ≡ suc (length (without_first m ns))) → suc (length ns) ≡ suc (length (cond same ns (n ∷ without_first m ns)))
left_by m n ns true there more = refl
left_by m n ns false there more = ap suc (more there)

length-without_first : (m : Message) (ns : List Message) → IsTrue (list_any (message_eq m) ns) → length ns ≡ suc (length (without_first m ns))
length-without_first m [] there = absurd (false≢true there)
length-without_first m (n ∷ ns) there = left_by m n ns (message_eq m n) there (length-without_first m ns)

-- 1 where the message passes
abbrev pub counts : (Message → Bool) → Message → ℕ
counts test m = cond (test m) 1 0

-- one less of a kind, where that one is of the kind
kinds_by :
    (test : Message → Bool) (m n : Message) (ns : List Message) (same : Bool) → message_eq m n ≡ same → (same || list_any (message_eq m) ns) ≡ true
    → (list_any (message_eq m) ns ≡ true → count_by test ns ≡ counts test m + count_by test (without_first m ns))
    → count_by test (n ∷ ns) ≡ counts test m + count_by test (cond same ns (n ∷ without_first m ns))
kinds_by test m n ns true is there more =
    sum_by-cons (counts test) n ns ∙ ap (λ x. counts test x + count_by test ns) (sym (message_eq-same m n is))
kinds_by test m n ns false is there more =
    let before = sum_by-cons (counts test) n ns in
    let after = sum_by-cons (counts test) n (without_first m ns) in
    let less = more there in
    omega (arith, before, after, less)

count-without_first : (test : Message → Bool) (m : Message) (ns : List Message) → IsTrue (list_any (message_eq m) ns) → count_by test ns ≡ counts test m + count_by test (without_first m ns)
count-without_first test m [] there = absurd (false≢true there)
count-without_first test m (n ∷ ns) there = kinds_by test m n ns (message_eq m n) refl there (count-without_first test m ns)

-- what was taken, if something was, and what is left are what there was
pub length-without_taken : (o : Option Message) (ns : List Message) → ((m : Message) → o ≡ Some m → IsTrue (list_any (message_eq m) ns)) → length ns ≡ option_len o + length (without_taken o ns)
length-without_taken None ns there = omega arith
length-without_taken (Some m) ns there = let less = length-without_first m ns (there m refl) in omega arith

-- so it is of a kind
pub count-without_taken : (test : Message → Bool) (o : Option Message) (ns : List Message) → ((m : Message) → o ≡ Some m → IsTrue (list_any (message_eq m) ns)) → count_by test ns ≡ option_map_or (counts test) o 0 + count_by test (without_taken o ns)
count-without_taken test None ns there = omega arith
count-without_taken test (Some m) ns there = count-without_first test m ns (there m refl)
