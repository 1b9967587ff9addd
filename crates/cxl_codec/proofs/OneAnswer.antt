-- Laws of every kind of record that a reader meets: one spelling, one answer.
use Rattle.std.proofs.Common.{◌≡◌, ℕ, zero, suc, ◌+◌, ◌<◌, ◌≤◌, List, [], ◌∷◌, ◌++◌, length, take, drop, Some, Ok, Err, refl, sym, ap, subst, ◌∙◌, append_assoc, arith, inl, inr}
use Rattle.std.specs.Prelude.{slice_get, option_map}
use Rattle.std.proofs.lemmas.Bool.{cases_lt}
use Rattle.std.proofs.lemmas.List.{append-nil, length-append, take_at, take-take, take-append-drop, take-append-le}
use Rattle.cxl_codec.specs.declared.faults.Fault.{Fault}
use Rattle.cxl_codec.specs.declared.fields.FieldName.{FieldName}
use Rattle.cxl_codec.specs.declared.refusals.DecodeRefusal.{DecodeRefusal}
use Rattle.cxl_codec.specs.Cells.{Label, kind_byte, named, Cell, bytes_of}
use Rattle.cxl_codec.specs.Grammar.{BeginsWith, IsCutShort, Expects, IsFirstWrong, Refuses, HasOneSpelling, HasOneAnswer, IsReadAgain}
use Rattle.cxl_codec.specs.Reading.{Read}
use Rattle.cxl_codec.proofs.Outcomes.{Refused, Meets, bytes_of-append}
use Rattle.cxl_codec.proofs.Meanings.{read_again, length-bytes_of}

-- a list up to a place that it has
record Place (cells : List Cell) (at : ℕ) (label : Label) : Type 0 where
  front : List Cell
  here : Cell
  after : List Cell
  parts : cells ≡ front ++ here ∷ after
  there : here.label ≡ label
  count : length front ≡ at

-- a place that has a label is a place of the list
place_of : (cells : List Cell) (at : ℕ) (label : Label) → option_map (λ c. c.label) (slice_get cells at) ≡ Some label → Place cells at label
place_of [] at label e = absurd cc
place_of (c ∷ cells) zero label e = record { front = []; here = c; after = cells; parts = refl; there = cc; count = refl }
place_of (c ∷ cells) (suc at) label e =
    let p = place_of cells at label e in
    record { front = c ∷ p.front; here = p.here; after = p.after; parts = ap (λ (cs : List Cell). c ∷ cs) p.parts; there = p.there; count = ap suc p.count }

-- bytes that agree up to a place agree up to each place before it
agree_before : (m n : ℕ) (xs ys : List ℕ) → m ≤ n → take n xs ≡ take n ys → take m xs ≡ take m ys
agree_before m n xs ys le e = sym (take-take m n xs le) ∙ ap (λ (zs : List ℕ). take m zs) e ∙ take-take m n ys le

-- a read that fails by two labels fails in one way
same_kind_named : {X : Type 0} (read : Read X) (left : ℕ) (which : FieldName) → Refused read kind_byte left → Refused read (named which) left → ⊥
same_kind_named {X = X} read left which p q = let e : ◌≡◌ {A = Read X} (Err (Fault.Kind left)) (Err (Fault.Field left which)) = sym p ∙ q in absurd cc

-- and by two fields in one way
same_named : {X : Type 0} (read : Read X) (left : ℕ) (a b : FieldName) → Refused read (named a) left → Refused read (named b) left → a ≡ b
same_named {X = X} read left a b p q = let e : ◌≡◌ {A = Read X} (Err (Fault.Field left a)) (Err (Fault.Field left b)) = sym p ∙ q in cc

-- the bytes of the cells before a place
front_bytes : (cells front after : List Cell) (at : ℕ) → cells ≡ front ++ after → length front ≡ at → take at (bytes_of cells) ≡ bytes_of front
front_bytes cells front after at parts count =
    ap (λ (cs : List Cell). take at (bytes_of cs)) parts ∙ ap (λ (bs : List ℕ). take at bs) (bytes_of-append front after) ∙ take_at (bytes_of front) (bytes_of after) at (length-bytes_of front ∙ count)

-- a pair, by its parts
pair_is : {V : Type 0} (x y : V × ℕ) → x.0 ≡ y.0 → x.1 ≡ y.1 → x ≡ y
pair_is {V = V} x y e f = ap (λ (v : V). (v, x.1)) e ∙ ap (λ (n : ℕ). (y.0, n)) f

-- two answers that are the same hold the same
ok_is : {A : Type 0} (x y : A × List ℕ) → ◌≡◌ {A = Read A} (Ok x) (Ok y) → x ≡ y
ok_is x y e = cc

module _ {V : Type 0} (Fits : V → Type 0) (cells_of : V → List Cell) (reads : List ℕ → Read V) (meets : Meets Fits cells_of reads) where
  -- the bytes of a record
  spelling : V → List ℕ
  spelling v = bytes_of (cells_of v)

  -- two records at the front of the same bytes are one
  pub one_spelling : HasOneSpelling Fits cells_of
  one_spelling v w x y fv fw e =
      let same : ◌≡◌ {A = Read V} (Ok (v, x)) (Ok (w, y)) = sym (read_again Fits cells_of reads meets v fv x) ∙ ap reads e ∙ read_again Fits cells_of reads meets w fw y in
      let parts = ok_is (v, x) (w, y) same in
      (ap (λ (p : V × List ℕ). p.0) parts, ap (λ (p : V × List ℕ). p.1) parts)

  -- a record answers its value, whatever follows
  pub again : IsReadAgain Fits cells_of
  again v rest fits = record {
    fits = fits;
    spelled = take_at (bytes_of (cells_of v)) rest (length (cells_of v)) (length-bytes_of (cells_of v));
    whole = refl;
  }

  -- bytes that begin with a record go on after it
  goes_on : (bytes : List ℕ) (v : V) (n : ℕ) → BeginsWith Fits cells_of bytes v n → bytes ≡ bytes_of (cells_of v) ++ drop n bytes
  goes_on bytes v n o = sym (take-append-drop n bytes) ∙ ap (λ (front : List ℕ). front ++ drop n bytes) o.spelled

  -- bytes begin with at most one record
  two_found : (bytes : List ℕ) (v w : V) (n m : ℕ) → BeginsWith Fits cells_of bytes v n → BeginsWith Fits cells_of bytes w m → (v ≡ w) × (n ≡ m)
  two_found bytes v w n m p q =
      let same = one_spelling v w (drop n bytes) (drop m bytes) p.fits q.fits (sym (goes_on bytes v n p) ∙ goes_on bytes w m q) in
      (same.0, p.whole ∙ ap (λ (x : V). length (cells_of x)) same.0 ∙ sym q.whole)

  -- bytes that begin with a record aren't cut short
  found_cut : (bytes : List ℕ) (v : V) (n : ℕ) → BeginsWith Fits cells_of bytes v n → IsCutShort Fits cells_of bytes → ⊥
  found_cut bytes v n p q =
      let e : bytes_of (cells_of q.value) ++ [] ≡ bytes_of (cells_of v) ++ (drop n bytes ++ q.next ∷ q.more) =
      append-nil (bytes_of (cells_of q.value)) ∙ q.spelled ∙ ap (λ (bs : List ℕ). bs ++ q.next ∷ q.more) (goes_on bytes v n p) ∙ append_assoc (bytes_of (cells_of v)) (drop n bytes) (q.next ∷ q.more) in
      let same = one_spelling q.value v [] (drop n bytes ++ q.next ∷ q.more) q.fits p.fits e in
      omega (arith, ap (length {A = ℕ}) same.1, length-append (drop n bytes) (q.next ∷ q.more))

  -- where a label stands there is a byte
  expected_long : (bytes : List ℕ) (at : ℕ) (label : Label) (o : Expects Fits cells_of bytes at label) → at < length (cells_of o.value)
  expected_long bytes at label o =
      let p = place_of (cells_of o.value) at label o.there in
      omega (arith, p.count, ap (length {A = Cell}) p.parts, length-append p.front (p.here ∷ p.after))

  -- a record that reaches past the place agrees through it
  found_through : (bytes : List ℕ) (v : V) (n at : ℕ) → BeginsWith Fits cells_of bytes v n → at < n → take (at + 1) (bytes_of (cells_of v)) ≡ take (at + 1) bytes
  found_through bytes v n at p lt = ap (λ (bs : List ℕ). take (at + 1) bs) (sym p.spelled) ∙ take-take (at + 1) n bytes (omega arith)

  -- a record that ends before the place begins the expected one
  found_behind : (bytes : List ℕ) (v : V) (n at : ℕ) (label : Label) → BeginsWith Fits cells_of bytes v n → IsFirstWrong Fits cells_of bytes at label → n ≤ at → ⊥
  found_behind bytes v n at label p q le =
      let w = q.expected.value in
      let front : take n (bytes_of (cells_of w)) ≡ bytes_of (cells_of v) = agree_before n at (bytes_of (cells_of w)) bytes le q.expected.before ∙ p.spelled in
      let e : bytes_of (cells_of w) ++ [] ≡ bytes_of (cells_of v) ++ drop n (bytes_of (cells_of w)) =
      append-nil (bytes_of (cells_of w)) ∙ sym (take-append-drop n (bytes_of (cells_of w))) ∙ ap (λ (bs : List ℕ). bs ++ drop n (bytes_of (cells_of w))) front in
      let same = one_spelling w v [] (drop n (bytes_of (cells_of w))) q.expected.fits p.fits e in
      omega (arith, p.whole, ap (λ (x : V). length (cells_of x)) same.0, expected_long bytes at label q.expected)

  -- bytes that begin with a record have no first wrong byte
  found_wrong : (bytes : List ℕ) (v : V) (n at : ℕ) (label : Label) → BeginsWith Fits cells_of bytes v n → IsFirstWrong Fits cells_of bytes at label → ⊥
  found_wrong bytes v n at label p q = elim (cases_lt at n) [
    | inl lt ↦ q.wrong v p.fits (found_through bytes v n at p lt)
    | inr le ↦ found_behind bytes v n at label p q le
  ]

  -- bytes that are cut short have no first wrong byte
  cut_wrong : (bytes : List ℕ) (at : ℕ) (label : Label) → IsCutShort Fits cells_of bytes → IsFirstWrong Fits cells_of bytes at label → ⊥
  cut_wrong bytes at label p q = q.wrong p.value p.fits (ap (λ (bs : List ℕ). take (at + 1) bs) p.spelled ∙ take-append-le (at + 1) bytes (p.next ∷ p.more) (omega (arith, q.within)))

  -- the first wrong byte is at one place
  wrong_before : (bytes : List ℕ) (at later : ℕ) (a b : Label) → IsFirstWrong Fits cells_of bytes at a → IsFirstWrong Fits cells_of bytes later b → at < later → ⊥
  wrong_before bytes at later a b p q lt =
      p.wrong q.expected.value q.expected.fits (agree_before (at + 1) later (bytes_of (cells_of q.expected.value)) bytes (omega arith) q.expected.before)

  -- two first wrong bytes stand at one place
  same_place : (bytes : List ℕ) (at later : ℕ) (a b : Label) → IsFirstWrong Fits cells_of bytes at a → IsFirstWrong Fits cells_of bytes later b → at ≡ later
  same_place bytes at later a b p q = elim (cases_lt at later) [
    | inl lt ↦ absurd (wrong_before bytes at later a b p q lt)
    | inr le ↦ elim (cases_lt later at) [
      | inl lt ↦ absurd (wrong_before bytes later at b a q p lt)
      | inr ge ↦ omega arith
    ]
  ]

  -- what is read where 256, which is no byte, stands at the place
  refused_there : (bytes : List ℕ) (at : ℕ) (label : Label) → Expects Fits cells_of bytes at label → Refused (reads (take at bytes ++ 256 ∷ [])) label 1
  refused_there bytes at label o =
      let p = place_of (cells_of o.value) at label o.there in
      let front : bytes_of p.front ≡ take at bytes = sym (front_bytes (cells_of o.value) p.front (p.here ∷ p.after) at p.parts p.count) ∙ o.before in
      let read = (meets.complete o.value o.fits).labels p.front p.here p.after [] p.parts in
      subst (λ (l : Label). Refused (reads (take at bytes ++ 256 ∷ [])) l 1) p.there (subst (λ (bs : List ℕ). Refused (reads (bs ++ 256 ∷ [])) p.here.label 1) front read)

  -- two refusals are one
  kind_field : (bytes : List ℕ) (at later : ℕ) (which : FieldName) → IsFirstWrong Fits cells_of bytes at kind_byte → IsFirstWrong Fits cells_of bytes later (named which) → ⊥
  kind_field bytes at later which p q =
      let place : at ≡ later = same_place bytes at later kind_byte (named which) p q in
      let moved : Refused (reads (take later bytes ++ 256 ∷ [])) kind_byte 1 = subst (λ (k : ℕ). Refused (reads (take k bytes ++ 256 ∷ [])) kind_byte 1) place (refused_there bytes at kind_byte p.expected) in
      same_kind_named (reads (take later bytes ++ 256 ∷ [])) 1 which moved (refused_there bytes later (named which) q.expected)

  -- two fields that are refused are one, at one place
  field_field : (bytes : List ℕ) (at later : ℕ) (a b : FieldName) → IsFirstWrong Fits cells_of bytes at (named a) → IsFirstWrong Fits cells_of bytes later (named b) → (at ≡ later) × (a ≡ b)
  field_field bytes at later a b p q =
      let place : at ≡ later = same_place bytes at later (named a) (named b) p q in
      let moved : Refused (reads (take later bytes ++ 256 ∷ [])) (named a) 1 = subst (λ (k : ℕ). Refused (reads (take k bytes ++ 256 ∷ [])) (named a) 1) place (refused_there bytes at (named a) p.expected) in
      (place, same_named (reads (take later bytes ++ 256 ∷ [])) 1 a b moved (refused_there bytes later (named b) q.expected))

  -- no bytes are both a record's and refused
  found_refused : (bytes : List ℕ) (v : V) (n : ℕ) (r : DecodeRefusal) → BeginsWith Fits cells_of bytes v n → Refuses Fits cells_of bytes r → ⊥
  found_refused bytes v n DecodeRefusal.Short p q = found_cut bytes v n p q
  found_refused bytes v n (DecodeRefusal.Kind at) p q = found_wrong bytes v n at kind_byte p q
  found_refused bytes v n (DecodeRefusal.Field at which) p q = found_wrong bytes v n at (named which) p q

  -- bytes have at most one refusal
  two_refused : (bytes : List ℕ) (r s : DecodeRefusal) → Refuses Fits cells_of bytes r → Refuses Fits cells_of bytes s → r ≡ s
  two_refused bytes DecodeRefusal.Short DecodeRefusal.Short p q = refl
  two_refused bytes DecodeRefusal.Short (DecodeRefusal.Kind at) p q = absurd (cut_wrong bytes at kind_byte p q)
  two_refused bytes DecodeRefusal.Short (DecodeRefusal.Field at which) p q = absurd (cut_wrong bytes at (named which) p q)
  two_refused bytes (DecodeRefusal.Kind at) DecodeRefusal.Short p q = absurd (cut_wrong bytes at kind_byte q p)
  two_refused bytes (DecodeRefusal.Kind at) (DecodeRefusal.Kind later) p q = ap (λ (k : ℕ). DecodeRefusal.Kind k) (same_place bytes at later kind_byte kind_byte p q)
  two_refused bytes (DecodeRefusal.Kind at) (DecodeRefusal.Field later which) p q = absurd (kind_field bytes at later which p q)
  two_refused bytes (DecodeRefusal.Field at which) DecodeRefusal.Short p q = absurd (cut_wrong bytes at (named which) q p)
  two_refused bytes (DecodeRefusal.Field at which) (DecodeRefusal.Kind later) p q = absurd (kind_field bytes later at which q p)
  two_refused bytes (DecodeRefusal.Field at a) (DecodeRefusal.Field later b) p q = let same = field_field bytes at later a b p q in rw (same.0, same.1) refl

  -- bytes have at most one answer
  pub one_answer : HasOneAnswer Fits cells_of
  one_answer bytes (Ok x) (Ok y) p q = let same = two_found bytes x.0 y.0 x.1 y.1 p q in ap (λ (f : V × ℕ). Ok f) (pair_is x y same.0 same.1)
  one_answer bytes (Ok x) (Err s) p q = absurd (found_refused bytes x.0 x.1 s p q)
  one_answer bytes (Err r) (Ok y) p q = absurd (found_refused bytes y.0 y.1 r q p)
  one_answer bytes (Err r) (Err s) p q = ap (λ (f : DecodeRefusal). Err f) (two_refused bytes r s p q)
