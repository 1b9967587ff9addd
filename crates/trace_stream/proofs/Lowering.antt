-- From the answer on the kinds of record that may come back to the answer on the one kind that the first byte leaves.
use Rattle.std.proofs.Common.{◌≡◌, ℕ, zero, suc, ◌+◌, ◌<◌, List, [], ◌∷◌, length, take, Option, Result, Ok, Err, refl, sym, ap, ◌∙◌, arith}
use Rattle.std.specs.Prelude.{slice_get, option_map}
use Rattle.std.proofs.lemmas.List.{take-take, take-append-le, length-take, length-map}
use Rattle.cxl_codec.specs.declared.refusals.DecodeRefusal.{DecodeRefusal}
use Rattle.cxl_codec.specs.Cells.{Label, kind_byte, named, Cell, bytes_of}
use Rattle.cxl_codec.specs.Grammar.{BeginsWith, IsCutShort, Expects, IsFirstWrong, Refuses, Answers, HasOneAnswer}
use Rattle.trace_stream.proofs.Lifting.{Comes, into_answer}

-- what stands at the first byte
abbrev pub first_label : List Cell → Option Label
first_label cells = option_map (λ c. c.label) (slice_get cells 0)

-- a value of the one kind whose first label is this
pub record Begins {V : Type 0} (Fits : V → Type 0) (cells_of : V → List Cell) (label : Option Label) : Type 0 where
  pub value : V
  pub fits : Fits value
  pub first : first_label (cells_of value) ≡ label

-- an answer of the one kind that this one comes from
pub record Lowered {V W : Type 0} (Fits : V → Type 0) (cells_of : V → List Cell) (into : V → W) (bytes : List ℕ) (answer : Result (W × ℕ) DecodeRefusal) : Type 0 where
  pub lower : Result (V × ℕ) DecodeRefusal
  pub answered : Answers Fits cells_of bytes lower
  pub is : into_answer into lower ≡ answer

-- lists that agree up to a place behind the first agree in the first
agree_first : (at : ℕ) (xs ys : List ℕ) → 0 < at → take at xs ≡ take at ys → take (0 + 1) xs ≡ take (0 + 1) ys
agree_first at xs ys some e = sym (take-take 1 at xs (omega arith)) ∙ ap (λ (l : List ℕ). take 1 l) e ∙ take-take 1 at ys (omega arith)

module _ {V W : Type 0} (FitsV : V → Type 0) (cells_v : V → List Cell) (FitsW : W → Type 0) (cells_w : W → List Cell) (into : V → W)
    (same : (v : V) → cells_w (into v) ≡ cells_v v) (fits : (v : V) → FitsV v → FitsW (into v)) (bytes : List ℕ) (some : 0 < length bytes)
    (back : (w : W) (at : ℕ) → at < length bytes → FitsW w → take (at + 1) (bytes_of (cells_w w)) ≡ take (at + 1) bytes → Comes FitsV into w)
    (long : (w : W) → FitsW w → 0 < length (cells_w w)) (begins : (w : W) → FitsW w → Begins FitsV cells_v (first_label (cells_w w))) where
  cells_same : (w : W) (v : Comes FitsV into w) → cells_v v.value ≡ cells_w w
  cells_same w v = sym (same v.value) ∙ ap cells_w v.is

  lower_found : (w : W) (n : ℕ) → BeginsWith FitsW cells_w bytes w n → Lowered FitsV cells_v into bytes (Ok (w, n))
  lower_found w n o =
      let one : take (0 + 1) (bytes_of (cells_w w)) ≡ take (0 + 1) bytes =
      ap (λ (l : List ℕ). take 1 l) (sym o.spelled) ∙ take-take 1 n bytes (omega (arith, o.whole, long w o.fits)) in
      let v = back w 0 some o.fits one in
      record {
        lower = Ok (v.value, n);
        answered = record { fits = v.fits; spelled = o.spelled ∙ ap bytes_of (sym (cells_same w v)); whole = o.whole ∙ ap (length {A = Cell}) (sym (cells_same w v)) };
        is = ap (λ (x : W). Ok (x, n)) v.is;
      }

  lower_cut : IsCutShort FitsW cells_w bytes → IsCutShort FitsV cells_v bytes
  lower_cut o =
      let one : take (0 + 1) (bytes_of (cells_w o.value)) ≡ take (0 + 1) bytes =
      ap (λ (l : List ℕ). take 1 l) o.spelled ∙ take-append-le 1 bytes (o.next ∷ o.more) (omega arith) in
      let v = back o.value 0 some o.fits one in
      record { value = v.value; fits = v.fits; next = o.next; more = o.more; spelled = ap bytes_of (cells_same o.value v) ∙ o.spelled }

  lower_expected : (at : ℕ) (label : Label) → at < length bytes → Expects FitsW cells_w bytes at label → Expects FitsV cells_v bytes at label
  lower_expected zero label within o =
      let v = begins o.value o.fits in
      record { value = v.value; fits = v.fits; before = refl; there = v.first ∙ o.there }
  lower_expected (suc at) label within o =
      let v = back o.value 0 some o.fits (agree_first (suc at) (bytes_of (cells_w o.value)) bytes (omega arith) o.before) in
      record {
        value = v.value;
        fits = v.fits;
        before = ap (λ (cs : List Cell). take (suc at) (bytes_of cs)) (cells_same o.value v) ∙ o.before;
        there = ap (λ (cs : List Cell). option_map (λ (c : Cell). c.label) (slice_get cs (suc at))) (cells_same o.value v) ∙ o.there;
      }

  lower_wrong : (at : ℕ) (label : Label) → IsFirstWrong FitsW cells_w bytes at label → IsFirstWrong FitsV cells_v bytes at label
  lower_wrong at label o = record {
    within = o.within;
    expected = lower_expected at label o.within o.expected;
    wrong = λ v fv e. o.wrong (into v) (fits v fv) (ap (λ (cs : List Cell). take (at + 1) (bytes_of cs)) (same v) ∙ e);
  }

  lower_refused : (r : DecodeRefusal) → Refuses FitsW cells_w bytes r → Refuses FitsV cells_v bytes r
  lower_refused DecodeRefusal.Short o = lower_cut o
  lower_refused (DecodeRefusal.Kind at) o = lower_wrong at kind_byte o
  lower_refused (DecodeRefusal.Field at which) o = lower_wrong at (named which) o

  pub lower_answer : (a : Result (W × ℕ) DecodeRefusal) → Answers FitsW cells_w bytes a → Lowered FitsV cells_v into bytes a
  lower_answer (Ok found) o = lower_found found.0 found.1 o
  lower_answer (Err refusal) o = record { lower = Err refusal; answered = lower_refused refusal o; is = refl }

  -- so these bytes have one answer
  pub one_lowered : HasOneAnswer FitsV cells_v → (a b : Result (W × ℕ) DecodeRefusal) → Answers FitsW cells_w bytes a → Answers FitsW cells_w bytes b → a ≡ b
  one_lowered one a b p q =
      let x = lower_answer a p in
      let y = lower_answer b q in
      sym x.is ∙ ap (into_answer into) (one bytes x.lower y.lower x.answered y.answered) ∙ y.is

-- no bytes are only short
nothing_answered : {W : Type 0} (FitsW : W → Type 0) (cells_w : W → List Cell) → ((w : W) → FitsW w → 0 < length (cells_w w))
    → (a : Result (W × ℕ) DecodeRefusal) → Answers FitsW cells_w [] a → a ≡ Err DecodeRefusal.Short
nothing_answered FitsW cells_w long (Ok found) o =
    let empty : List ℕ = [] in
    let none : length (take found.1 empty) ≡ length (cells_w found.0) = ap (length {A = ℕ}) o.spelled ∙ length-map (cells_w found.0) (λ (c : Cell). c.byte) in
    absurd (omega (arith, none, long found.0 o.fits, length-take found.1 empty))
nothing_answered FitsW cells_w long (Err DecodeRefusal.Short) o = refl
nothing_answered FitsW cells_w long (Err (DecodeRefusal.Kind at)) o = absurd (omega (arith, o.within))
nothing_answered FitsW cells_w long (Err (DecodeRefusal.Field at which)) o = absurd (omega (arith, o.within))

pub one_of_nothing : {W : Type 0} (FitsW : W → Type 0) (cells_w : W → List Cell) → ((w : W) → FitsW w → 0 < length (cells_w w))
    → (a b : Result (W × ℕ) DecodeRefusal) → Answers FitsW cells_w [] a → Answers FitsW cells_w [] b → a ≡ b
one_of_nothing FitsW cells_w long a b p q = nothing_answered FitsW cells_w long a p ∙ sym (nothing_answered FitsW cells_w long b q)
