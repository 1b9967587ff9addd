-- What a reader of one part of a record has to meet, and that a reader of two parts, one after the other, then meets it.
use Rattle.std.proofs.Common.{◌≡◌, ℕ, suc, ◌+◌, ◌<◌, List, [], ◌∷◌, ◌++◌, length, Ok, Err, refl, sym, ap, subst, ◌∙◌, append_assoc, arith, inl, inr, ◌⊎◌}
use Rattle.std.specs.Prelude.{IsErr, All}
use Rattle.std.proofs.lemmas.List.{append-nil, map-append, length-append, get_or-append-add}
use Rattle.cxl_codec.specs.declared.faults.Fault.{Fault}
use Rattle.cxl_codec.specs.Cells.{Label, kind_byte, named, unnamed, Cell, bytes_of}
use Rattle.cxl_codec.specs.Reading.{Read, ◌>>=◌}

-- each number is a byte
abbrev pub IsBytes : List ℕ → Type 0
IsBytes bytes = All (λ b. b < 256) bytes

-- what is left of bytes are bytes
pub IsBytes-rest : (front rest : List ℕ) → IsBytes (front ++ rest) → IsBytes rest
IsBytes-rest front rest h k d lt =
    subst (λ (b : ℕ). b < 256) (get_or-append-add front rest k d) (h (length front + k) d (omega (arith, length-append front rest)))

-- ---- what an answer has to mean. S value cells: these cells spell the value.

-- a value was found, and bytes are left
pub record Found {X : Type 0} (S : X → List Cell → Type 0) (bytes : List ℕ) (value : X) (rest : List ℕ) : Type 0 where
  pub cells : List Cell
  pub spelled : S value cells
  pub parts : bytes ≡ bytes_of cells ++ rest

-- the bytes end within the cells of some value
pub record Cut {X : Type 0} (S : X → List Cell → Type 0) (bytes : List ℕ) : Type 0 where
  pub value : X
  pub cells : List Cell
  pub spelled : S value cells
  pub next : ℕ
  pub more : List ℕ
  pub goes_on : bytes_of cells ≡ bytes ++ next ∷ more

-- a byte is refused, before so many others, where some value has this label; the reader refuses it whatever follows
pub record Wrong {X : Type 0} (S : X → List Cell → Type 0) (reads : List ℕ → Read X) (bytes : List ℕ) (left : ℕ) (label : Label) : Type 0 where
  pub value : X
  pub front : List Cell
  pub here : Cell
  pub after : List Cell
  pub spelled : S value (front ++ here ∷ after)
  pub there : here.label ≡ label
  pub byte : ℕ
  pub rest : List ℕ
  pub parts : bytes ≡ bytes_of front ++ byte ∷ rest
  pub count : left ≡ suc (length rest)
  pub refuses : (more : List ℕ) → IsErr (reads (bytes_of front ++ byte ∷ more))

-- what each answer has to mean
abbrev pub Outcome : {X : Type 0} → (X → List Cell → Type 0) → (List ℕ → Read X) → List ℕ → Read X → Type 0
Outcome S reads bytes (Ok x) = Found S bytes x.0 x.1
Outcome S reads bytes (Err Fault.Short) = Cut S bytes
Outcome S reads bytes (Err (Fault.Kind left)) = Wrong S reads bytes left kind_byte
Outcome S reads bytes (Err (Fault.Field left which)) = Wrong S reads bytes left (named which)

-- each answer of the reader means what it has to
abbrev pub Sound : {X : Type 0} → (X → List Cell → Type 0) → (List ℕ → Read X) → Type 0
Sound S reads = (bytes : List ℕ) → IsBytes bytes → Outcome S reads bytes (reads bytes)

-- what spells a value after these cells
abbrev pub After : {X : Type 0} → (X → List Cell → Type 0) → List Cell → X → List Cell → Type 0
After S cells value more = S value (cells ++ more)

-- ---- what is spelled is read, and at each place the label decides the fault

-- a read that fails as the label says
abbrev pub Refused : {X : Type 0} → Read X → Label → ℕ → Type 0
Refused read kind_byte left = read ≡ Err (Fault.Kind left)
Refused read (named which) left = read ≡ Err (Fault.Field left which)
Refused read unnamed left = Unit {0}

-- the cells of the value are read as the value; 256, which is no byte, is refused in place of each of them
pub record IsRead {X : Type 0} (reads : List ℕ → Read X) (value : X) (cells : List Cell) : Type 0 where
  pub again : (rest : List ℕ) → reads (bytes_of cells ++ rest) ≡ Ok (value, rest)
  pub labels : (front : List Cell) (here : Cell) (after : List Cell) (rest : List ℕ) → cells ≡ front ++ here ∷ after
      → Refused (reads (bytes_of front ++ 256 ∷ rest)) here.label (suc (length rest))

-- the value fits, and these are its cells
abbrev pub Spells : {X : Type 0} → (X → Type 0) → (X → List Cell) → X → List Cell → Type 0
Spells Fits cells_of value cells = Fits value × (cells ≡ cells_of value)

-- a reader that meets the grammar: what it reads is spelled so, and what is spelled it reads
pub record Meets {X : Type 0} (Fits : X → Type 0) (cells_of : X → List Cell) (reads : List ℕ → Read X) : Type 0 where
  pub sound : Sound (Spells Fits cells_of) reads
  pub complete : (value : X) → Fits value → IsRead reads value (cells_of value)

-- ---- one part after another

-- the bytes of two parts
pub bytes_of-append : (cs ds : List Cell) → bytes_of (cs ++ ds) ≡ bytes_of cs ++ bytes_of ds
bytes_of-append cs ds = map-append (λ (c : Cell). c.byte) cs ds

-- the bytes of two parts, with what follows
bytes_of-both : (cs ds : List Cell) (rest : List ℕ) → bytes_of (cs ++ ds) ++ rest ≡ bytes_of cs ++ (bytes_of ds ++ rest)
bytes_of-both cs ds rest = ap (λ (front : List ℕ). front ++ rest) (bytes_of-append cs ds) ∙ append_assoc (bytes_of cs) (bytes_of ds) rest

-- after a fault nothing is read
err_then : {A X : Type 0} (read : Read A) (k : A × List ℕ → Read X) → IsErr read → IsErr (read >>= k)
err_then (Ok x) k h = absurd cc
err_then (Err e) k h = h

-- a fault of the first part is one of the whole
refused_then : {A X : Type 0} (read : Read A) (k : A × List ℕ → Read X) (label : Label) (left : ℕ) → Refused read label left → Refused (read >>= k) label left
refused_then read k kind_byte left h = rw h refl
refused_then read k (named which) left h = rw h refl
refused_then read k unnamed left h = tt

-- whatever a reader answers, some value is spelled
inhabited : {X : Type 0} (S : X → List Cell → Type 0) (reads : List ℕ → Read X) (bytes : List ℕ) (read : Read X) → Outcome S reads bytes read → (x : X) × (cells : List Cell) × S x cells
inhabited S reads bytes (Ok x) o = (x.0, o.cells, o.spelled)
inhabited S reads bytes (Err Fault.Short) o = (o.value, o.cells, o.spelled)
inhabited S reads bytes (Err (Fault.Kind left)) o = (o.value, o.front ++ o.here ∷ o.after, o.spelled)
inhabited S reads bytes (Err (Fault.Field left which)) o = (o.value, o.front ++ o.here ∷ o.after, o.spelled)

module _ {A X : Type 0} (S : X → List Cell → Type 0) (reads : List ℕ → Read A) (k : A × List ℕ → Read X) where
  -- an answer behind a part that was read
  lifts_wrong : (a : A) (cells : List Cell) (rest : List ℕ) (left : ℕ) (label : Label) → ((more : List ℕ) → reads (bytes_of cells ++ more) ≡ Ok (a, more))
      → Wrong (After S cells) (λ bytes. k (a, bytes)) rest left label → Wrong S (λ bytes. reads bytes >>= k) (bytes_of cells ++ rest) left label
  lifts_wrong a cells rest left label again o = record {
    value = o.value;
    front = cells ++ o.front;
    here = o.here;
    after = o.after;
    spelled = subst (λ (cs : List Cell). S o.value cs) (sym (append_assoc cells o.front (o.here ∷ o.after))) o.spelled;
    there = o.there;
    byte = o.byte;
    rest = o.rest;
    parts = ap (λ (bs : List ℕ). bytes_of cells ++ bs) o.parts ∙ sym (bytes_of-both cells o.front (o.byte ∷ o.rest));
    count = o.count;
    refuses = λ more. rw (bytes_of-both cells o.front (o.byte ∷ more), again (bytes_of o.front ++ o.byte ∷ more)) (o.refuses more);
  }

  -- an outcome behind a part that was read
  lifts : (a : A) (cells : List Cell) (rest : List ℕ) (read : Read X) → ((more : List ℕ) → reads (bytes_of cells ++ more) ≡ Ok (a, more))
      → Outcome (After S cells) (λ bytes. k (a, bytes)) rest read → Outcome S (λ bytes. reads bytes >>= k) (bytes_of cells ++ rest) read
  lifts a cells rest (Ok x) again o = record {
    cells = cells ++ o.cells;
    spelled = o.spelled;
    parts = ap (λ (bs : List ℕ). bytes_of cells ++ bs) o.parts ∙ sym (bytes_of-both cells o.cells x.1);
  }
  lifts a cells rest (Err Fault.Short) again o = record {
    value = o.value;
    cells = cells ++ o.cells;
    spelled = o.spelled;
    next = o.next;
    more = o.more;
    goes_on = bytes_of-append cells o.cells ∙ ap (λ (bs : List ℕ). bytes_of cells ++ bs) o.goes_on ∙ sym (append_assoc (bytes_of cells) rest (o.next ∷ o.more));
  }
  lifts a cells rest (Err (Fault.Kind left)) again o = lifts_wrong a cells rest left kind_byte again o
  lifts a cells rest (Err (Fault.Field left which)) again o = lifts_wrong a cells rest left (named which) again o

module _ {A X : Type 0} (Fits : A → Type 0) (cells_of : A → List Cell) (reads : List ℕ → Read A) (meets : Meets Fits cells_of reads)
    (S : X → List Cell → Type 0) (k : A × List ℕ → Read X) (then : (a : A) → Fits a → Sound (After S (cells_of a)) (λ bytes. k (a, bytes))) where
  -- after a value that fits, some value is spelled
  follows : (a : A) → Fits a → (x : X) × (cells : List Cell) × S x (cells_of a ++ cells)
  follows a fits = inhabited (After S (cells_of a)) (λ bytes. k (a, bytes)) [] (k (a, [])) (then a fits [] (λ i d lt. absurd (omega arith)))

  -- a byte that the first part refuses is refused by the whole
  wrong_first : (bytes : List ℕ) (left : ℕ) (label : Label) → Wrong (Spells Fits cells_of) reads bytes left label → Wrong S (λ bytes. reads bytes >>= k) bytes left label
  wrong_first bytes left label o =
      let x = follows o.value o.spelled.0 in
      let cells-are : cells_of o.value ++ x.1 ≡ o.front ++ o.here ∷ (o.after ++ x.1) =
      ap (λ (cs : List Cell). cs ++ x.1) (sym o.spelled.1) ∙ append_assoc o.front (o.here ∷ o.after) x.1 in
      record {
        value = x.0;
        front = o.front;
        here = o.here;
        after = o.after ++ x.1;
        spelled = subst (λ (cs : List Cell). S x.0 cs) cells-are x.2;
        there = o.there;
        byte = o.byte;
        rest = o.rest;
        parts = o.parts;
        count = o.count;
        refuses = λ more. err_then (reads (bytes_of o.front ++ o.byte ∷ more)) k (o.refuses more);
      }

  -- the outcome of two parts, by that of the first
  then_at : (bytes : List ℕ) → IsBytes bytes → (read : Read A) → Outcome (Spells Fits cells_of) reads bytes read → Outcome S (λ bytes. reads bytes >>= k) bytes (read >>= k)
  then_at bytes each (Ok x) o =
      let parts : bytes ≡ bytes_of (cells_of x.0) ++ x.1 = o.parts ∙ ap (λ (cs : List Cell). bytes_of cs ++ x.1) o.spelled.1 in
      let rest-each : IsBytes x.1 = IsBytes-rest (bytes_of (cells_of x.0)) x.1 (subst IsBytes parts each) in
      subst (λ (bs : List ℕ). Outcome S (λ bytes. reads bytes >>= k) bs (k x)) (sym parts)
      (lifts S reads k x.0 (cells_of x.0) x.1 (k x) (meets.complete x.0 o.spelled.0).again (then x.0 o.spelled.0 x.1 rest-each))
  then_at bytes each (Err Fault.Short) o =
      let x = follows o.value o.spelled.0 in
      record {
        value = x.0;
        cells = cells_of o.value ++ x.1;
        spelled = x.2;
        next = o.next;
        more = o.more ++ bytes_of x.1;
        goes_on = bytes_of-append (cells_of o.value) x.1 ∙ ap (λ (cs : List Cell). bytes_of cs ++ bytes_of x.1) (sym o.spelled.1)
            ∙ ap (λ (bs : List ℕ). bs ++ bytes_of x.1) o.goes_on ∙ append_assoc bytes (o.next ∷ o.more) (bytes_of x.1);
      }
  then_at bytes each (Err (Fault.Kind left)) o = wrong_first bytes left kind_byte o
  then_at bytes each (Err (Fault.Field left which)) o = wrong_first bytes left (named which) o

  -- two sound readers, one after the other, are sound
  pub then_sound : Sound S (λ bytes. reads bytes >>= k)
  then_sound bytes each = then_at bytes each (reads bytes) (meets.sound bytes each)

-- a reader that reads nothing more
pub done_sound : {X : Type 0} (S : X → List Cell → Type 0) (x : X) → S x [] → Sound S (λ bytes. Ok (x, bytes))
done_sound S x spelled bytes each = record { cells = []; spelled = spelled; parts = refl }

-- the last part, and what it makes
pub ends_sound : {A X : Type 0} (Fits : A → Type 0) (cells_of : A → List Cell) (reads : List ℕ → Read A) (meets : Meets Fits cells_of reads) (S : X → List Cell → Type 0) (f : A → X)
    → ((a : A) → Fits a → S (f a) (cells_of a)) → Sound S (λ bytes. reads bytes >>= λ a. Ok (f a.0, a.1))
ends_sound Fits cells_of reads meets S f spelled =
    then_sound Fits cells_of reads meets S (λ a. Ok (f a.0, a.1)) (λ a fits. done_sound (After S (cells_of a)) (f a) (subst (λ (cs : List Cell). S (f a) cs) (sym (append-nil (cells_of a))) (spelled a fits)))

-- ---- the same for what is spelled

-- where a cell stands in two lists of cells
Splits : (cs ds front : List Cell) (here : Cell) (after : List Cell) → Type 0
Splits cs ds front here after = ((m : List Cell) × (cs ≡ front ++ here ∷ m)) ⊎ ((f : List Cell) × (front ≡ cs ++ f) × (ds ≡ f ++ here ∷ after))

-- a cell of two lists stands in one of them
splits : (cs ds front : List Cell) (here : Cell) (after : List Cell) → cs ++ ds ≡ front ++ here ∷ after → Splits cs ds front here after
unfolding Splits
splits [] ds front here after e = inr (front, refl, e)
splits (c ∷ cs) ds [] here after e = inl (cs, cc)
splits (c ∷ cs) ds (g ∷ front) here after e =
    let head : c ≡ g = cc in
    let tail : cs ++ ds ≡ front ++ here ∷ after = cc in
    elim (splits cs ds front here after tail) [
      | inl p ↦ inl (p.0, rw (head, p.1) refl)
      | inr p ↦ inr (p.0, rw (head, p.1) refl, p.2)
    ]

module _ {A X : Type 0} (reads : List ℕ → Read A) (a : A) (cs : List Cell) (first : IsRead reads a cs)
    (k : A × List ℕ → Read X) (x : X) (ds : List Cell) (second : IsRead (λ bytes. k (a, bytes)) x ds) where
  -- two parts that are spelled are read again
  again_both : (rest : List ℕ) → (reads (bytes_of (cs ++ ds) ++ rest) >>= k) ≡ Ok (x, rest)
  again_both rest = rw (bytes_of-both cs ds rest, first.again (bytes_of ds ++ rest)) (second.again rest)

  -- at each place of two parts the label decides the fault
  labels_both : (front : List Cell) (here : Cell) (after : List Cell) (rest : List ℕ) → cs ++ ds ≡ front ++ here ∷ after
      → Refused (reads (bytes_of front ++ 256 ∷ rest) >>= k) here.label (suc (length rest))
  unfolding Splits
  labels_both front here after rest e = elim (splits cs ds front here after e) [
    | inl p ↦ refused_then (reads (bytes_of front ++ 256 ∷ rest)) k here.label (suc (length rest)) (first.labels front here p.0 rest p.1)
    | inr p ↦
        let same : (reads (bytes_of front ++ 256 ∷ rest) >>= k) ≡ k (a, bytes_of p.0 ++ 256 ∷ rest) =
        rw (p.1, bytes_of-both cs p.0 (256 ∷ rest), first.again (bytes_of p.0 ++ 256 ∷ rest)) refl in
        subst (λ (read : Read X). Refused read here.label (suc (length rest))) (sym same) (second.labels p.0 here after rest p.2)
  ]

  -- two parts that are read, one after the other, are read
  pub then_read : IsRead (λ bytes. reads bytes >>= k) x (cs ++ ds)
  then_read = record { again = again_both; labels = labels_both }

-- an empty list has no place
pub nil_no_place : (front : List Cell) (here : Cell) (after : List Cell) → ◌≡◌ {A = List Cell} [] (front ++ here ∷ after) → ⊥
nil_no_place [] here after e = cc
nil_no_place (c ∷ front) here after e = cc

-- nothing is spelled, and nothing is read
pub done_read : {X : Type 0} (x : X) → IsRead (λ bytes. Ok (x, bytes)) x []
done_read x = record { again = λ rest. refl; labels = λ front here after rest e. absurd (nil_no_place front here after e) }

-- the last part, and what it makes
pub ends_read : {A X : Type 0} (reads : List ℕ → Read A) (a : A) (cs : List Cell) → IsRead reads a cs → (f : A → X) → IsRead (λ bytes. reads bytes >>= λ a. Ok (f a.0, a.1)) (f a) cs
ends_read reads a cs first f =
    subst (λ (all : List Cell). IsRead (λ bytes. reads bytes >>= λ a. Ok (f a.0, a.1)) (f a) all) (append-nil cs) (then_read reads a cs first (λ a. Ok (f a.0, a.1)) (f a) [] (done_read (f a)))
