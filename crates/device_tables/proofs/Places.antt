-- Lists that change at a place: the first member that passes a test is taken out, one is put in its order, each is changed in turn.
use Rattle.std.proofs.Common.{◌≡◌, ℕ, zero, suc, ◌+◌, Bool, true, false, cond, List, [], ◌∷◌, length, map, Some, None, refl, ap, sym, ◌∙◌, subst, arith, nat_lt, ◌<◌, ◌≤◌}
use Rattle.std.specs.Prelude.{insert, position, remove, not, slice_index_or, slice_set}
use Rattle.std.specs.List.{position_or_len}
use Rattle.std.proofs.lemmas.Bool.Decides.{nat_tests}
use Rattle.std.proofs.lemmas.Bool.{false≢true}
use Rattle.cxl_message.specs.declared.messages.Message.{Message}
use Rattle.cxl_message.specs.Messages.{has_tag}
use Rattle.coherence_model.specs.Buffers.{without_tag}
use Rattle.device_record.specs.BufferChanges.{without_request}
use Rattle.device_record.specs.Record.{TaskRecord, WaitingRequest}
use Rattle.device_record.specs.Sparse.{put_in_order}
use Rattle.device_tables.specs.Changing.{front_changed, place_in_order}

-- the list without the first member that passes
abbrev pub without_by : {X : Type 0} → (X → Bool) → List X → List X
without_by p [] = []
without_by p (x ∷ xs) = cond (p x) xs (x ∷ without_by p xs)

removed_step : {X : Type 0} (b : Bool) (x : X) (xs r : List X) (n : ℕ) → (n < length xs → remove xs n ≡ r) → cond (not b) (1 + n) 0 < length (x ∷ xs) → remove (x ∷ xs) (cond (not b) (1 + n) 0) ≡ cond b xs (x ∷ r)
removed_step true x xs r n ih h = refl
removed_step {X} false x xs r n ih h =
    let e : 1 + n ≡ suc n = omega arith in
    let low : n < length xs = omega arith in
    let P : ℕ → Type 0 = λ k. remove (x ∷ xs) k ≡ x ∷ r in
    subst P (sym e) (ap {B = List X} (λ l. x ∷ l) (ih low))

-- what is taken out at the first place that passes is the first member that passes
removed_there : {X : Type 0} (p : X → Bool) (xs : List X) → position_or_len p xs < length xs → remove xs (position_or_len p xs) ≡ without_by p xs
removed_there p [] h = absurd (omega arith)
removed_there p (x ∷ xs) h = removed_step (p x) x xs (without_by p xs) (position_or_len p xs) (removed_there p xs) h

stays_step : {X : Type 0} (b : Bool) (x : X) (xs r : List X) (n : ℕ) → (length xs ≤ n → r ≡ xs) → length (x ∷ xs) ≤ cond (not b) (1 + n) 0 → cond b xs (x ∷ r) ≡ x ∷ xs
stays_step true x xs r n ih h = absurd (omega arith)
stays_step {X} false x xs r n ih h = let low : length xs ≤ n = omega arith in ap {B = List X} (λ l. x ∷ l) (ih low)

-- where no member passes nothing is taken out
stays_there : {X : Type 0} (p : X → Bool) (xs : List X) → length xs ≤ position_or_len p xs → without_by p xs ≡ xs
stays_there p [] h = refl
stays_there p (x ∷ xs) h = stays_step (p x) x xs (without_by p xs) (position_or_len p xs) (stays_there p xs) h

at_place : (b : Bool) (k i : ℕ) → cond b (Some k) None ≡ Some i → (b ≡ true) × (k ≡ i)
at_place true k i e = (refl, cc)
at_place false k i e = absurd cc

no_place : (b : Bool) (k : ℕ) → cond b (Some k) None ≡ None → b ≡ false
no_place true k e = absurd cc
no_place false k e = refl

-- the place that was found taken out leaves the list without the first member that passes
pub taken_out : {X : Type 0} (p : X → Bool) (xs : List X) (i : ℕ) → position p xs ≡ Some i → remove xs i ≡ without_by p xs
taken_out p xs i e =
    let f = at_place (nat_lt (position_or_len p xs) (length xs)) (position_or_len p xs) i e in
    let t : nat_lt (position_or_len p xs) (length xs) ≡ true = f.0 in
    let low : position_or_len p xs < length xs = grind (arith, nat_tests) in
    ap (λ k. remove xs k) (sym f.1) ∙ removed_there p xs low

-- where no place was found the list stays
pub all_stays : {X : Type 0} (p : X → Bool) (xs : List X) → position p xs ≡ None → without_by p xs ≡ xs
all_stays p xs e =
    let t : nat_lt (position_or_len p xs) (length xs) ≡ false = no_place _ _ e in
    let low : length xs ≤ position_or_len p xs = grind (arith, nat_tests) in
    stays_there p xs low

same_requests : (tag : ℕ) (xs : List WaitingRequest) → without_request tag xs ≡ without_by (λ r. has_tag tag r.message) xs
same_requests tag [] = refl
same_requests tag (x ∷ xs) = ap (λ l. cond (has_tag tag x.message) xs (x ∷ l)) (same_requests tag xs)

same_tagged : (tag : ℕ) (xs : List Message) → without_tag tag xs ≡ without_by (has_tag tag) xs
same_tagged tag [] = refl
same_tagged tag (x ∷ xs) = ap (λ l. cond (has_tag tag x) xs (x ∷ l)) (same_tagged tag xs)

-- the place of the first request with a tag taken out, and where there is none
pub request_taken_out : (tag : ℕ) (xs : List WaitingRequest) (i : ℕ) → position (λ r. has_tag tag r.message) xs ≡ Some i → remove xs i ≡ without_request tag xs
request_taken_out tag xs i e = taken_out (λ r. has_tag tag r.message) xs i e ∙ sym (same_requests tag xs)

pub no_request_taken_out : (tag : ℕ) (xs : List WaitingRequest) → position (λ r. has_tag tag r.message) xs ≡ None → xs ≡ without_request tag xs
no_request_taken_out tag xs e = sym (same_requests tag xs ∙ all_stays (λ r. has_tag tag r.message) xs e)

-- the place of the first message with a tag taken out, and where there is none
pub tagged_taken_out : (tag : ℕ) (xs : List Message) (i : ℕ) → position (has_tag tag) xs ≡ Some i → remove xs i ≡ without_tag tag xs
tagged_taken_out tag xs i e = taken_out (has_tag tag) xs i e ∙ sym (same_tagged tag xs)

pub none_tagged_taken_out : (tag : ℕ) (xs : List Message) → position (has_tag tag) xs ≡ None → xs ≡ without_tag tag xs
none_tagged_taken_out tag xs e = sym (same_tagged tag xs ∙ all_stays (has_tag tag) xs e)

within_step : (b : Bool) (n k : ℕ) → n ≤ k → cond (not b) (1 + n) 0 ≤ suc k
within_step true n k h = omega arith
within_step false n k h = omega arith

-- a place is within the list
pub place_within : {X : Type 0} (p : X → Bool) (xs : List X) → position_or_len p xs ≤ length xs
place_within p [] = omega arith
place_within p (x ∷ xs) = within_step (p x) (position_or_len p xs) (length xs) (place_within p xs)

-- where a place was found it is the first, and else all places are passed
pub found_place : {X : Type 0} (p : X → Bool) (xs : List X) (i : ℕ) → position p xs ≡ Some i → i ≡ position_or_len p xs
found_place p xs i e = sym (at_place (nat_lt (position_or_len p xs) (length xs)) (position_or_len p xs) i e).1

pub passed_places : {X : Type 0} (p : X → Bool) (xs : List X) → position p xs ≡ None → length xs ≡ position_or_len p xs
passed_places p xs e =
    let t : nat_lt (position_or_len p xs) (length xs) ≡ false = no_place _ _ e in
    let low : length xs ≤ position_or_len p xs = grind (arith, nat_tests) in
    let high = place_within p xs in
    omega arith

-- ---- in order

put_step : (b : Bool) (t u : TaskRecord) (us r : List TaskRecord) (n : ℕ) → insert us n t ≡ r → insert (u ∷ us) (cond (not (not b)) (1 + n) 0) t ≡ cond b (u ∷ r) (t ∷ u ∷ us)
put_step false t u us r n ih = refl
put_step true t u us r n ih =
    let e : 1 + n ≡ suc n = omega arith in
    let P : ℕ → Type 0 = λ k. insert (u ∷ us) k t ≡ u ∷ r in
    subst P (sym e) (ap {B = List TaskRecord} (λ l. u ∷ l) ih)

-- a task put in at its place
pub put_at_place : (t : TaskRecord) (us : List TaskRecord) → insert us (place_in_order t.first us) t ≡ put_in_order (λ u. u.first) t us
put_at_place t [] = refl
put_at_place t (u ∷ us) = put_step (nat_lt u.first t.first) t u us (put_in_order (λ v. v.first) t us) (place_in_order t.first us) (put_at_place t us)

-- ---- each in turn

pub front_all : {X : Type 0} (f : X → X) (xs : List X) (n : ℕ) → length xs ≤ n → front_changed f n xs ≡ map f xs
front_all f [] zero high = refl
front_all f [] (suc n) high = refl
front_all f (x ∷ xs) zero high = absurd (omega arith)
front_all {X} f (x ∷ xs) (suc n) high = let more : length xs ≤ n = omega arith in ap {B = List X} (λ l. f x ∷ l) (front_all f xs n more)

front_len : {X : Type 0} (f : X → X) (xs : List X) (n : ℕ) → length (front_changed f n xs) ≡ length xs
front_len f xs zero = refl
front_len f [] (suc n) = refl
front_len f (x ∷ xs) (suc n) = ap suc (front_len f xs n)

front_more : {X : Type 0} (f : X → X) (xs : List X) (n : ℕ) (d : X) → n < length xs → slice_set (front_changed f n xs) n (f (slice_index_or (front_changed f n xs) n d)) ≡ front_changed f (suc n) xs
front_more f [] n d low = absurd (omega arith)
front_more f (y ∷ xs) zero d low = refl
front_more {X} f (y ∷ xs) (suc n) d low = let less : n < length xs = omega arith in ap {B = List X} (λ l. f y ∷ l) (front_more f xs n d less)

-- one more is changed
pub front_next : {X : Type 0} (f : X → X) (xs items : List X) (n : ℕ) (r w : X) → n < length xs → items ≡ front_changed f n xs → r ≡ slice_index_or items n r → w ≡ f r → slice_set items n w ≡ front_changed f (n + 1) xs
front_next {X} f xs items n r w low front at new =
    let e : suc n ≡ n + 1 = omega arith in
    let P : List X → Type 0 = λ l. slice_set l n (f (slice_index_or l n r)) ≡ front_changed f (n + 1) xs in
    ap (slice_set items n) (new ∙ ap f at) ∙ subst P (sym front) (front_more f xs n r low ∙ ap (λ k. front_changed f k xs) e)

-- what a test that holds chooses
pub chosen : {X : Type 0} (b : Bool) → b ≡ true → (x y : X) → cond b x y ≡ x
chosen true h x y = refl
chosen false h x y = absurd (false≢true h)
