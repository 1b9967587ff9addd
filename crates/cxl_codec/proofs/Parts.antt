-- The parts of records: bytes that a table turns into values, numbers, payloads and runs.
use Rattle.std.proofs.Common.{◌≡◌, ℕ, zero, suc, ◌-◌, ◌^◌, ◌<◌, ◌≤◌, Bool, true, false, cond, ltb, leb, List, [], ◌∷◌, ◌++◌, length, get_or, take, drop, Option, Some, None, Ok, Err, refl, sym, ap, subst, arith, rules, tests, inl, inr}
use Rattle.std.specs.Prelude.{map, ◌&&◌, ◌==◌, find, replicate}
use Rattle.std.specs.List.{AllByRecursion}
use Rattle.std.specs.Int.{Width, w16, w32, w64, byte_len, from_be_bytes, to_be_bytes}
use Rattle.std.proofs.lemmas.Bool.{eqb-true, leb-true}
use Rattle.std.proofs.lemmas.Bool.{cases_lt, ltb-true, ltb-false, le-ltb}
use Rattle.std.proofs.lemmas.List.{get_or_past, length-append, length-take, length-replicate, take-append-drop, take_at, drop_at}
use Rattle.std.proofs.lemmas.List.Elements.{All-from_recursion, All-append, All-replicate, All-take, All-cons, All-head}
use Rattle.std.proofs.lemmas.Nat.{be_bytes_2, be_bytes_4, be_bytes_8, from_be_bytes-to_be_bytes_2, from_be_bytes-to_be_bytes_4, from_be_bytes-to_be_bytes_8}
use Rattle.cxl_codec.specs.declared.faults.Fault.{Fault}
use Rattle.cxl_codec.specs.declared.fields.FieldName.{FieldName}
use Rattle.cxl_codec.specs.Cells.{Label, kind_byte, named, unnamed, Cell, kind, field, free, number, payload}
use Rattle.cxl_codec.specs.Openings.{IsPayload}
use Rattle.cxl_codec.specs.Reading.{Read, ◌>>=◌, one, kind_of, field_of, within, block_at, number_at, free_at, payload_at, bytes_at, run_at}
use Rattle.cxl_codec.proofs.CellBytes.{bytes_of_free}
use Rattle.cxl_codec.proofs.Outcomes.{IsBytes, Found, Cut, Wrong, Outcome, Sound, After, Refused, IsRead, Spells, Meets, then_sound, done_sound, ends_sound, then_read, done_read, ends_read, nil_no_place}

-- ---- one byte

-- a list of one cell has one place
one_place : (c : Cell) (front : List Cell) (here : Cell) (after : List Cell) → c ∷ [] ≡ front ++ here ∷ after → (front ≡ []) × (here ≡ c)
one_place c [] here after e = (refl, cc)
one_place c (d ∷ front) here after e = let rest : ◌≡◌ {A = List Cell} [] (front ++ here ∷ after) = cc in absurd (nil_no_place front here after rest)

-- a table gives exactly the values that fit, and knows nothing past the bytes
pub record IsTable {A : Type 0} (Fits : A → Type 0) (code : A → ℕ) (table : ℕ → Option A) : Type 0 where
  pub found : (b : ℕ) (a : A) → table b ≡ Some a → Fits a × (code a ≡ b)
  pub again : (a : A) → Fits a → table (code a) ≡ Some a
  pub outside : table 256 ≡ None
  pub some : (a : A) × Fits a

module _ {A : Type 0} (Fits : A → Type 0) (code : A → ℕ) (table : ℕ → Option A) (is : IsTable Fits code table) (label : Label) (fault : ℕ → Fault) where
  -- the one cell of a value
  cell_of : A → List Cell
  cell_of a = record { byte = code a; label = label } ∷ []

  -- a wrong byte with this label is what the fault means
  abbrev Tells : Type 0
  Tells = (bytes : List ℕ) (left : ℕ) → Wrong (Spells Fits (λ a. record { byte = code a; label = label } ∷ [])) (one fault table) bytes left label
      → Outcome (Spells Fits (λ a. record { byte = code a; label = label } ∷ [])) (one fault table) bytes (Err (fault left))

  -- a byte that the table doesn't have is wrong
  one_wrong : (b : ℕ) (rest : List ℕ) → table b ≡ None → Wrong (Spells Fits (λ a. record { byte = code a; label = label } ∷ [])) (one fault table) (b ∷ rest) (suc (length rest)) label
  one_wrong b rest e = record {
    value = is.some.0;
    front = [];
    here = record { byte = code is.some.0; label = label };
    after = [];
    spelled = (is.some.1, refl);
    there = refl;
    byte = b;
    rest = rest;
    parts = refl;
    count = refl;
    refuses = λ more. rw e refl;
  }

  -- the outcome at one byte, by what the table has
  one_at : Tells → (b : ℕ) (rest : List ℕ) (found : Option A) → table b ≡ found
      → Outcome (Spells Fits (λ a. record { byte = code a; label = label } ∷ [])) (one fault table) (b ∷ rest) (one fault (λ _. found) (b ∷ rest))
  one_at tells b rest (Some a) e = record {
    cells = record { byte = code a; label = label } ∷ [];
    spelled = ((is.found b a e).0, refl);
    parts = ap (λ (c : ℕ). c ∷ rest) (sym (is.found b a e).1);
  }
  one_at tells b rest None e = tells (b ∷ rest) (suc (length rest)) (one_wrong b rest e)

  -- a byte that is read by a table is spelled so
  one_sound : Tells → Sound (Spells Fits (λ a. record { byte = code a; label = label } ∷ [])) (one fault table)
  one_sound tells [] each = record {
    value = is.some.0;
    cells = record { byte = code is.some.0; label = label } ∷ [];
    spelled = (is.some.1, refl);
    next = code is.some.0;
    more = [];
    goes_on = refl;
  }
  one_sound tells (b ∷ rest) each = one_at tells b rest (table b) refl

  -- a value of a table is read again by its byte
  one_read : ((read : Read A) (left : ℕ) → read ≡ Err (fault left) → Refused read label left) → (a : A) → Fits a → IsRead (one fault table) a (record { byte = code a; label = label } ∷ [])
  one_read refused a fits = record {
    again = λ rest. rw (is.again a fits) refl;
    labels = λ front here after rest e.
        let p = one_place _ front here after e in
        let failed : one fault table (256 ∷ rest) ≡ Err (fault (suc (length rest))) = rw is.outside refl in
        rw (p.0, p.1) (refused (one fault table (256 ∷ rest)) (suc (length rest)) failed);
  }

-- the reader of a kind byte meets the grammar
pub kind_meets : {A : Type 0} (Fits : A → Type 0) (code : A → ℕ) (table : ℕ → Option A) → IsTable Fits code table → Meets Fits (λ a. kind (code a) ∷ []) (kind_of table)
kind_meets Fits code table is = record {
  sound = one_sound Fits code table is kind_byte Fault.Kind (λ bytes left o. o);
  complete = one_read Fits code table is kind_byte Fault.Kind (λ read left e. e);
}

-- the reader of a field of one byte meets the grammar
pub field_meets : {A : Type 0} (which : FieldName) (Fits : A → Type 0) (code : A → ℕ) (table : ℕ → Option A) → IsTable Fits code table → Meets Fits (λ a. field which (code a) ∷ []) (field_of which table)
field_meets which Fits code table is = record {
  sound = one_sound Fits code table is (named which) (λ left. Fault.Field left which) (λ bytes left o. o);
  complete = one_read Fits code table is (named which) (λ left. Fault.Field left which) (λ read left e. e);
}

-- ---- tables that look a number up

-- what is found is the first, or found later
found_at : {A : Type 0} (Holds : A → Type 0) (x a : A) (t : Bool) (later : Option A) → (t ≡ true → Holds x) → (later ≡ Some a → Holds a) → cond t (Some x) later ≡ Some a → Holds a
found_at Holds x a true later h r e = let same : x ≡ a = cc in subst Holds same (h refl)
found_at Holds x a false later h r e = r e

-- what is found holds, and passes the test
find_holds : {A : Type 0} (Holds : A → Type 0) (p : A → Bool) (xs : List A) (a : A) → AllByRecursion Holds xs → find p xs ≡ Some a → Holds a × (p a ≡ true)
find_holds Holds p [] a all e = absurd cc
find_holds Holds p (x ∷ xs) a all e =
    found_at (λ y. Holds y × (p y ≡ true)) x a (p x) (find p xs) (λ t. (all.0, t)) (find_holds Holds p xs a all.1) e

-- a list of values, looked up by their numbers, is a table
pub table_by : {A : Type 0} (Fits : A → Type 0) (code : A → ℕ) (xs : List A) → AllByRecursion Fits xs → ((a : A) → Fits a → find (λ x. code x == code a) xs ≡ Some a)
    → find (λ x. code x == 256) xs ≡ None → (a : A) × Fits a → IsTable Fits code (λ b. find (λ x. code x == b) xs)
table_by Fits code xs all again outside some = record {
  found = λ b a e. let h = find_holds Fits (λ x. code x == b) xs a all e in (h.0, eqb-true _ _ h.1);
  again = again;
  outside = outside;
  some = some;
}

-- ---- numbers within limits

-- a number is within limits
abbrev pub Within : ℕ → ℕ → ℕ → Type 0
Within least most n = (least ≤ n) × (n ≤ most)

-- by the two tests
within_at : (least most b n : ℕ) (s t : Bool) → leb least b ≡ s → leb b most ≡ t → cond (s && t) (Some b) None ≡ Some n → Within least most n × (n ≡ b)
within_at least most b n true true p q e = let same : b ≡ n = cc in subst (λ (m : ℕ). Within least most m × (m ≡ b)) same ((leb-true _ _ p, leb-true _ _ q), refl)
within_at least most b n true false p q e = absurd cc
within_at least most b n false t p q e = absurd cc

-- a number that is taken is within the limits
pub within_found : (least most b n : ℕ) → within least most b ≡ Some n → Within least most n × (n ≡ b)
within_found least most b n e = within_at least most b n (leb least b) (leb b most) refl refl e

-- the reader of a field that is a number within limits meets the grammar
pub within_meets : (which : FieldName) (least most : ℕ) → least ≤ most → most < 256 → Meets (Within least most) (λ n. field which n ∷ []) (field_of which (within least most))
within_meets which least most le lt = field_meets which (Within least most) (λ n. n) (within least most) (record {
  found = within_found least most;
  again = λ n fits. search (tests, rules);
  outside = search (tests, rules);
  some = (least, (omega arith, le));
})

-- ---- bytes of any value

-- free cells have no name
free_labels : (bs : List ℕ) (front : List Cell) (here : Cell) (after : List Cell) → map free bs ≡ front ++ here ∷ after → here.label ≡ unnamed
free_labels [] front here after e = absurd (nil_no_place front here after e)
free_labels (b ∷ bs) [] here after e = let same : free b ≡ here = cc in ap (λ (c : Cell). c.label) (sym same)
free_labels (b ∷ bs) (c ∷ front) here after e = let rest : map free bs ≡ front ++ here ∷ after = cc in free_labels bs front here after rest

-- a place with no name refuses nothing
refused_free : {X : Type 0} (read : Read X) (label : Label) (left : ℕ) → label ≡ unnamed → Refused read label left
refused_free read label left e = subst (λ (l : Label). Refused read l left) (sym e) tt

-- cells of any value are read
pub free_read : {X : Type 0} (reads : List ℕ → Read X) (x : X) (bs : List ℕ) → ((rest : List ℕ) → reads (bs ++ rest) ≡ Ok (x, rest)) → IsRead reads x (map free bs)
free_read reads x bs again = record {
  again = λ rest. rw (bytes_of_free bs) (again rest);
  labels = λ front here after rest e. refused_free _ here.label _ (free_labels bs front here after e);
}

-- a number is a byte
abbrev pub IsByte : ℕ → Type 0
IsByte b = b < 256

-- a free byte that is read is spelled so
free_sound : Sound (Spells IsByte (λ b. free b ∷ [])) free_at
free_sound [] each = record { value = 0; cells = free 0 ∷ []; spelled = (omega arith, refl); next = 0; more = []; goes_on = refl }
free_sound (b ∷ rest) each = record { cells = free b ∷ []; spelled = (All-head (λ b. b < 256) b rest each, refl); parts = refl }

-- the reader of a free byte meets the grammar
pub free_meets : Meets IsByte (λ b. free b ∷ []) free_at
free_meets = record {
  sound = free_sound;
  complete = λ b fits. free_read free_at b (b ∷ []) (λ rest. refl);
}

-- ---- blocks of bytes of any value

-- there are so many bytes
abbrev pub IsBlock : ℕ → List ℕ → Type 0
IsBlock n bs = (length bs ≡ n) × IsBytes bs

-- bytes and bytes are bytes
IsBytes-append : (xs ys : List ℕ) → IsBytes xs → IsBytes ys → IsBytes (xs ++ ys)
IsBytes-append xs ys h k = All-append (λ b. b < 256) xs ys h k

-- so many zeros
zeros : ℕ → List ℕ
zeros n = replicate n 0

-- zeros are bytes
zero_bytes : (n : ℕ) → IsBytes (replicate n 0)
zero_bytes n = All-replicate (λ b. b < 256) n 0 (omega arith)

module _ (n : ℕ) where
  -- a block that is there
  block_found : (bytes : List ℕ) → IsBytes bytes → n ≤ length bytes → Found (Spells (IsBlock n) (λ bs. map free bs)) bytes (take n bytes) (drop n bytes)
  block_found bytes each le = record {
    cells = map free (take n bytes);
    spelled = ((omega (arith, length-take n bytes), All-take (λ b. b < 256) n bytes each), refl);
    parts = rw (bytes_of_free (take n bytes)) (sym (take-append-drop n bytes));
  }

  -- a block that is cut short
  block_cut : (bytes : List ℕ) → IsBytes bytes → length bytes < n → Cut (Spells (IsBlock n) (λ bs. map free bs)) bytes
  block_cut bytes each lt =
      let more : List ℕ = replicate (n - length bytes - 1) 0 in
      let whole : List ℕ = bytes ++ 0 ∷ more in
      record {
        value = whole;
        cells = map free whole;
        spelled = ((omega (arith, length-append bytes (0 ∷ more), length-replicate {A = ℕ} (n - length bytes - 1) 0), IsBytes-append bytes (0 ∷ more) each (All-cons (λ b. b < 256) 0 more (omega arith) (zero_bytes (n - length bytes - 1)))), refl);
        next = 0;
        more = more;
        goes_on = bytes_of_free whole;
      }

  -- the outcome of a block, by its length
  block_sound_at : (bytes : List ℕ) → IsBytes bytes → (t : Bool) → ltb (length bytes) n ≡ t
      → Outcome (Spells (IsBlock n) (λ bs. map free bs)) (block_at n) bytes (cond t (Err Fault.Short) (Ok (take n bytes, drop n bytes)))
  block_sound_at bytes each true e = block_cut bytes each (ltb-true _ _ e)
  block_sound_at bytes each false e = block_found bytes each (ltb-false _ _ e)

  -- a block that is spelled is read again
  pub block_again : (bs : List ℕ) → length bs ≡ n → (rest : List ℕ) → block_at n (bs ++ rest) ≡ Ok (bs, rest)
  block_again bs count rest =
      let long : ltb (length (bs ++ rest)) n ≡ false = le-ltb _ _ (omega (arith, length-append bs rest, count)) in
      rw (long, take_at bs rest n count, drop_at bs rest n count) refl

  -- the reader of a block meets the grammar
  pub block_meets : Meets (IsBlock n) (λ bs. map free bs) (block_at n)
  block_meets = record {
    sound = λ bytes each. block_sound_at bytes each (ltb (length bytes) n) refl;
    complete = λ bs fits. free_read (block_at n) bs bs (block_again bs fits.0);
  }

-- ---- numbers and payloads

-- each place of bytes has a byte
each_byte : (bs : List ℕ) → IsBytes bs → (i : ℕ) → get_or bs i 0 < 256
each_byte bs each i =
    elim (cases_lt i (length bs)) [
      | inl lt ↦ each i 0 lt
      | inr le ↦ rw (get_or_past bs i 0 le) (omega arith)
    ]

-- a width whose numbers, below this limit, are its blocks
pub record IsWide (w : Width) (limit : ℕ) : Type 0 where
  pub block : (n : ℕ) → IsBlock (byte_len w) (to_be_bytes w n)
  pub back : (bs : List ℕ) → IsBlock (byte_len w) bs → to_be_bytes w (from_be_bytes w bs) ≡ bs
  pub again : (n : ℕ) → n < limit → from_be_bytes w (to_be_bytes w n) ≡ n
  pub below : (bs : List ℕ) → IsBlock (byte_len w) bs → from_be_bytes w bs < limit

-- bytes, one by one
all_bytes : (bs : List ℕ) → AllByRecursion (λ b. b < 256) bs → IsBytes bs
all_bytes bs h = All-from_recursion (λ b. b < 256) bs h

-- numbers of 16 bits
pub wide16 : IsWide w16 (2 ^ 16)
wide16 = record {
  block = λ n. (refl, all_bytes (to_be_bytes w16 n) (omega arith, (omega arith, tt)));
  back = λ bs fits. be_bytes_2 bs _ fits.0 (each_byte bs fits.1) refl;
  again = λ n lt. from_be_bytes-to_be_bytes_2 n lt;
  below = λ bs fits. omega (arith, each_byte bs fits.1 0, each_byte bs fits.1 1);
}

-- numbers of 32 bits
pub wide32 : IsWide w32 (2 ^ 32)
wide32 = record {
  block = λ n. (refl, all_bytes (to_be_bytes w32 n) (omega arith, (omega arith, (omega arith, (omega arith, tt)))));
  back = λ bs fits. be_bytes_4 bs _ fits.0 (each_byte bs fits.1) refl;
  again = λ n lt. from_be_bytes-to_be_bytes_4 n lt;
  below = λ bs fits. omega (arith, each_byte bs fits.1 0, each_byte bs fits.1 1, each_byte bs fits.1 2, each_byte bs fits.1 3);
}

-- numbers of 64 bits
pub wide64 : IsWide w64 (2 ^ 64)
wide64 = record {
  block = λ n. (refl, all_bytes (to_be_bytes w64 n) (omega arith, (omega arith, (omega arith, (omega arith, (omega arith, (omega arith, (omega arith, (omega arith, tt)))))))));
  back = λ bs fits. be_bytes_8 bs _ fits.0 (each_byte bs fits.1) refl;
  again = λ n lt. from_be_bytes-to_be_bytes_8 n lt;
  below = λ bs fits. omega (arith, each_byte bs fits.1 0, each_byte bs fits.1 1, each_byte bs fits.1 2, each_byte bs fits.1 3, each_byte bs fits.1 4, each_byte bs fits.1 5, each_byte bs fits.1 6, each_byte bs fits.1 7);
}

module _ (w : Width) (limit : ℕ) (wide : IsWide w limit) where
  -- a number that is read is spelled so
  number_sound : Sound (Spells (λ n. n < limit) (number w)) (number_at w)
  number_sound =
      ends_sound (IsBlock (byte_len w)) (λ bs. map free bs) (block_at (byte_len w)) (block_meets (byte_len w)) (Spells (λ n. n < limit) (number w)) (from_be_bytes w)
      (λ bs fits. (wide.below bs fits, ap (λ (all : List ℕ). map free all) (sym (wide.back bs fits))))

  -- a number that is spelled is read again
  number_read : (n : ℕ) → n < limit → IsRead (number_at w) n (number w n)
  number_read n lt =
      subst (λ (m : ℕ). IsRead (number_at w) m (number w n)) (wide.again n lt)
      (ends_read (block_at (byte_len w)) (to_be_bytes w n) (number w n) ((block_meets (byte_len w)).complete (to_be_bytes w n) (wide.block n)) (from_be_bytes w))

  -- the reader of a number meets the grammar
  pub number_meets : Meets (λ n. n < limit) (number w) (number_at w)
  number_meets = record { sound = number_sound; complete = number_read }

-- the reader of 64 bytes meets the grammar
pub payload_meets : Meets IsPayload payload payload_at
payload_meets = record {
  sound = ends_sound (IsBlock 64) (λ bs. map free bs) (block_at 64) (block_meets 64) (Spells IsPayload payload) (λ bs. record { 0 = bs }) (λ bs fits. (record { count = fits.0; each = fits.1 }, refl));
  complete = λ value fits. ends_read (block_at 64) value.0 (map free value.0) ((block_meets 64).complete value.0 (fits.count, fits.each)) (λ bs. record { 0 = bs });
}

-- ---- runs of bytes of one field

-- so many bytes, each of which fits
abbrev pub AreBytes : (ℕ → Type 0) → ℕ → List ℕ → Type 0
AreBytes Fits n bs = (length bs ≡ n) × AllByRecursion Fits bs

-- so many bytes, none above the limit
abbrev pub IsRun : ℕ → ℕ → List ℕ → Type 0
IsRun most n bs = AreBytes (λ b. b ≤ most) n bs

module _ (which : FieldName) (Fits : ℕ → Type 0) (table : ℕ → Option ℕ) (is : IsTable Fits (λ b. b) table) where
  -- the first of such bytes
  first_meets : Meets Fits (λ b. field which b ∷ []) (field_of which table)
  first_meets = field_meets which Fits (λ b. b) table is

  -- such bytes that are spelled are read again
  bytes_read : (n : ℕ) (bs : List ℕ) → AreBytes Fits n bs → IsRead (bytes_at which table n) bs (map (field which) bs)
  unfolding bytes_at
  bytes_read zero [] fits = done_read []
  bytes_read zero (b ∷ bs) fits = absurd (omega (arith, fits.0))
  bytes_read (suc n) [] fits = absurd (omega (arith, fits.0))
  bytes_read (suc n) (b ∷ bs) fits =
      then_read (field_of which table) b (field which b ∷ []) (first_meets.complete b fits.1.0)
      (λ first. bytes_at which table n first.1 >>= λ others. Ok (first.0 ∷ others.0, others.1)) (b ∷ bs) (map (field which) bs)
      (ends_read (bytes_at which table n) bs (map (field which) bs) (bytes_read n bs (omega (arith, fits.0), fits.1.1)) (λ bs. b ∷ bs))

  -- such bytes that are read are spelled so
  bytes_sound : (n : ℕ) → Sound (Spells (AreBytes Fits n) (λ bs. map (field which) bs)) (bytes_at which table n)
  unfolding bytes_at
  bytes_sound zero = done_sound (Spells (AreBytes Fits 0) (λ bs. map (field which) bs)) [] ((refl, tt), refl)
  bytes_sound (suc n) =
      let S : List ℕ → List Cell → Type 0 = Spells (AreBytes Fits (suc n)) (λ bs. map (field which) bs) in
      then_sound Fits (λ b. field which b ∷ []) (field_of which table) first_meets S
      (λ first. bytes_at which table n first.1 >>= λ others. Ok (first.0 ∷ others.0, others.1))
      (λ b fits. ends_sound (AreBytes Fits n) (λ bs. map (field which) bs) (bytes_at which table n) (record { sound = bytes_sound n; complete = bytes_read n }) (After S (field which b ∷ [])) (λ bs. b ∷ bs)
      (λ bs fit. ((ap suc fit.0, (fits, fit.1)), ap (λ (cs : List Cell). field which b ∷ cs) refl)))

  -- the reader of such bytes meets the grammar
  pub bytes_meets : (n : ℕ) → Meets (AreBytes Fits n) (λ bs. map (field which) bs) (bytes_at which table n)
  bytes_meets n = record { sound = bytes_sound n; complete = bytes_read n }

-- the reader of a run meets the grammar
pub run_meets : (which : FieldName) (most : ℕ) → most < 256 → (n : ℕ) → Meets (IsRun most n) (λ bs. map (field which) bs) (run_at which most n)
run_meets which most lt n = bytes_meets which (λ b. b ≤ most) (within 0 most) (record {
  found = λ b a e. let h = within_found 0 most b a e in (h.0.1, h.1);
  again = λ b fits. let one : within 0 most b ≡ Some b = search (tests, rules) in one;
  outside = search (tests, rules);
  some = (0, omega arith);
}) n
