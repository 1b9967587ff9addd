-- From the answer on one kind of record to the answer on the kinds that may come, where the first byte leaves only that kind.
use Rattle.std.proofs.Common.{◌≡◌, ℕ, ◌+◌, ◌<◌, List, length, take, Result, Ok, Err, sym, ap, ◌∙◌}
use Rattle.std.specs.Prelude.{slice_get, option_map}
use Rattle.cxl_codec.specs.declared.refusals.DecodeRefusal.{DecodeRefusal}
use Rattle.cxl_codec.specs.Cells.{Label, kind_byte, named, Cell, bytes_of}
use Rattle.cxl_codec.specs.Grammar.{BeginsWith, IsCutShort, Expects, IsFirstWrong, Refuses, Answers}

-- a value of the one kind is this value of the several
pub record Comes {V W : Type 0} (Fits : V → Type 0) (into : V → W) (w : W) : Type 0 where
  pub value : V
  pub fits : Fits value
  pub is : into value ≡ w

-- the answer with the value among the several
abbrev pub into_answer : {V W : Type 0} → (V → W) → Result (V × ℕ) DecodeRefusal → Result (W × ℕ) DecodeRefusal
into_answer into (Ok found) = Ok (into found.0, found.1)
into_answer into (Err refusal) = Err refusal

module _ {V W : Type 0} (FitsV : V → Type 0) (cells_v : V → List Cell) (FitsW : W → Type 0) (cells_w : W → List Cell) (into : V → W)
    (same : (v : V) → cells_w (into v) ≡ cells_v v) (fits : (v : V) → FitsV v → FitsW (into v)) (bytes : List ℕ)
    (back : (w : W) (at : ℕ) → at < length bytes → FitsW w → take (at + 1) (bytes_of (cells_w w)) ≡ take (at + 1) bytes → Comes FitsV into w) where
  pub lift_found : (v : V) (n : ℕ) → BeginsWith FitsV cells_v bytes v n → BeginsWith FitsW cells_w bytes (into v) n
  lift_found v n o = record {
    fits = fits v o.fits;
    spelled = o.spelled ∙ ap bytes_of (sym (same v));
    whole = o.whole ∙ ap (length {A = Cell}) (sym (same v));
  }

  lift_cut : IsCutShort FitsV cells_v bytes → IsCutShort FitsW cells_w bytes
  lift_cut o = record { value = into o.value; fits = fits o.value o.fits; next = o.next; more = o.more; spelled = ap bytes_of (same o.value) ∙ o.spelled }

  lift_expected : (at : ℕ) (label : Label) → Expects FitsV cells_v bytes at label → Expects FitsW cells_w bytes at label
  lift_expected at label o = record {
    value = into o.value;
    fits = fits o.value o.fits;
    before = ap (λ (cs : List Cell). take at (bytes_of cs)) (same o.value) ∙ o.before;
    there = ap (λ (cs : List Cell). option_map (λ (c : Cell). c.label) (slice_get cs at)) (same o.value) ∙ o.there;
  }

  lift_wrong : (at : ℕ) (label : Label) → IsFirstWrong FitsV cells_v bytes at label → IsFirstWrong FitsW cells_w bytes at label
  lift_wrong at label o = record {
    within = o.within;
    expected = lift_expected at label o.expected;
    wrong = λ w fw e.
        let v = back w at o.within fw e in
        let cells : cells_v v.value ≡ cells_w w = sym (same v.value) ∙ ap cells_w v.is in
        o.wrong v.value v.fits (ap (λ (cs : List Cell). take (at + 1) (bytes_of cs)) cells ∙ e);
  }

  pub lift_refused : (r : DecodeRefusal) → Refuses FitsV cells_v bytes r → Refuses FitsW cells_w bytes r
  lift_refused DecodeRefusal.Short o = lift_cut o
  lift_refused (DecodeRefusal.Kind at) o = lift_wrong at kind_byte o
  lift_refused (DecodeRefusal.Field at which) o = lift_wrong at (named which) o

  pub lift_answer : (a : Result (V × ℕ) DecodeRefusal) → Answers FitsV cells_v bytes a → Answers FitsW cells_w bytes (into_answer into a)
  lift_answer (Ok found) o = lift_found found.0 found.1 o
  lift_answer (Err refusal) o = lift_refused refusal o
