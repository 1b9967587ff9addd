-- What bytes say stays so when more bytes follow.
use Rattle.std.proofs.Common.{◌≡◌, ℕ, ◌+◌, ◌≤◌, List, [], ◌∷◌, ◌++◌, length, take, Option, Some, None, Result, Ok, Err, refl, sym, ap, subst, ◌∙◌, arith, length-append}
use Rattle.std.specs.Option.{option_map_or}
use Rattle.std.proofs.lemmas.List.{take-append-le, length-take, length-map}
use Rattle.cxl_codec.specs.declared.refusals.DecodeRefusal.{DecodeRefusal}
use Rattle.cxl_codec.specs.Cells.{Label, kind_byte, named, Cell}
use Rattle.cxl_codec.specs.Grammar.{BeginsWith, IsFirstWrong, Answers}
use Rattle.trace_stream.specs.declared.items.Item.{Item}
use Rattle.trace_stream.specs.declared.items.Reason.{Reason}
use Rattle.trace_stream.specs.declared.items.TraceFault.{TraceFault}
use Rattle.trace_stream.specs.declared.stages.Stage.{Stage}
use Rattle.trace_stream.specs.Items.{Allows, cells_at, item_length, fault_at, outcome_of, record_fault, ReadsAs, Says}

module _ {V : Type 0} (Fits : V → Type 0) (cells_of : V → List Cell) (bytes more : List ℕ) where
  -- a record is no longer than the bytes that begin with it
  pub record_within : (v : V) (n : ℕ) → BeginsWith Fits cells_of bytes v n → n ≤ length bytes
  record_within v n o =
      let size : length (take n bytes) ≡ n = ap (length {A = ℕ}) o.spelled ∙ length-map (cells_of v) (λ (c : Cell). c.byte) ∙ sym o.whole in
      omega (arith, size, length-take n bytes)

  begins_more : (v : V) (n : ℕ) → BeginsWith Fits cells_of bytes v n → BeginsWith Fits cells_of (bytes ++ more) v n
  begins_more v n o = record { fits = o.fits; spelled = take-append-le n bytes more (record_within v n o) ∙ o.spelled; whole = o.whole }

  wrong_more : (at : ℕ) (label : Label) → IsFirstWrong Fits cells_of bytes at label → IsFirstWrong Fits cells_of (bytes ++ more) at label
  wrong_more at label o =
      let behind : take at (bytes ++ more) ≡ take at bytes = take-append-le at bytes more (omega (arith, o.within)) in
      let through : take (at + 1) (bytes ++ more) ≡ take (at + 1) bytes = take-append-le (at + 1) bytes more (omega (arith, o.within)) in
      record {
        within = omega (arith, o.within, length-append bytes more);
        expected = record { value = o.expected.value; fits = o.expected.fits; before = o.expected.before ∙ sym behind; there = o.expected.there };
        wrong = λ v fits e. o.wrong v fits (e ∙ through);
      }

-- a fault that was read is read again
reads_more : (stage : Stage) (place : ℕ) (bytes more : List ℕ) (fault : TraceFault) (answer : Result (Item × ℕ) DecodeRefusal) → Answers (Allows stage) (cells_at stage) bytes answer
    → ◌≡◌ {A = Result Item TraceFault} (Err fault) (outcome_of stage place answer) → ReadsAs stage place (bytes ++ more) (Err fault)
reads_more stage place bytes more fault (Ok found) o e =
    record { answer = Ok found; answered = begins_more (Allows stage) (cells_at stage) bytes more found.0 found.1 o; comes_to = e }
reads_more stage place bytes more fault (Err DecodeRefusal.Short) o e = absurd cc
reads_more stage place bytes more fault (Err (DecodeRefusal.Kind at)) o e =
    record { answer = Err (DecodeRefusal.Kind at); answered = wrong_more (Allows stage) (cells_at stage) bytes more at kind_byte o; comes_to = e }
reads_more stage place bytes more fault (Err (DecodeRefusal.Field at which)) o e =
    record { answer = Err (DecodeRefusal.Field at which); answered = wrong_more (Allows stage) (cells_at stage) bytes more at (named which) o; comes_to = e }

trailing_more : (place : ℕ) (bytes more : List ℕ) (fault : TraceFault) (count : ℕ) → Says (Stage.Ended count) place bytes (Err fault) → Says (Stage.Ended count) place (bytes ++ more) (Err fault)
trailing_more place [] more fault count e = absurd cc
trailing_more place (b ∷ bytes) more fault count e = e

-- a fault stays, whatever follows
pub says_more : (stage : Stage) (place : ℕ) (bytes more : List ℕ) (fault : TraceFault) → Says stage place bytes (Err fault) → Says stage place (bytes ++ more) (Err fault)
says_more Stage.Start place bytes more fault o = reads_more Stage.Start place bytes more fault o.answer o.answered o.comes_to
says_more (Stage.Names streams lines next) place bytes more fault o = reads_more (Stage.Names streams lines next) place bytes more fault o.answer o.answered o.comes_to
says_more (Stage.Openings version lines next) place bytes more fault o = reads_more (Stage.Openings version lines next) place bytes more fault o.answer o.answered o.comes_to
says_more (Stage.Events version count) place bytes more fault o = reads_more (Stage.Events version count) place bytes more fault o.answer o.answered o.comes_to
says_more (Stage.Ended count) place bytes more fault o = trailing_more place bytes more fault count o

-- an item stands at the front of some bytes, allowed and right
pub record StandsAt (stage : Stage) (bytes : List ℕ) (item : Item) : Type 0 where
  pub begins : BeginsWith (Allows stage) (cells_at stage) bytes item (item_length stage item)
  pub right : record_fault stage item ≡ None

-- what a whole record comes to
chosen : (place : ℕ) (fault : Option Reason) (item found : Item) → ◌≡◌ {A = Result Item TraceFault} (Ok item) (option_map_or (λ reason. Err (fault_at place reason)) fault (Ok found)) → (fault ≡ None) × (found ≡ item)
chosen place None item found e = (refl, cc)
chosen place (Some reason) item found e = absurd cc

-- an item that bytes are read as stands there, or is no item
stands : (stage : Stage) (place : ℕ) (bytes : List ℕ) (item : Item) (answer : Result (Item × ℕ) DecodeRefusal) → Answers (Allows stage) (cells_at stage) bytes answer
    → ◌≡◌ {A = Result Item TraceFault} (Ok item) (outcome_of stage place answer) → (item ≡ Item.More → ⊥) → StandsAt stage bytes item
stands stage place bytes item (Ok found) o e some =
    let is : (record_fault stage found.0 ≡ None) × (found.0 ≡ item) = chosen place (record_fault stage found.0) item found.0 e in
    let begins : BeginsWith (Allows stage) (cells_at stage) bytes found.0 (item_length stage found.0) = subst (λ (n : ℕ). BeginsWith (Allows stage) (cells_at stage) bytes found.0 n) o.whole o in
    subst (λ (i : Item). StandsAt stage bytes i) is.1 (record { begins = begins; right = is.0 })
stands stage place bytes item (Err DecodeRefusal.Short) o e some = absurd (some cc)
stands stage place bytes item (Err (DecodeRefusal.Kind at)) o e some = absurd cc
stands stage place bytes item (Err (DecodeRefusal.Field at which)) o e some = absurd cc

no_item_behind : (place : ℕ) (bytes : List ℕ) (item : Item) (count : ℕ) → Says (Stage.Ended count) place bytes (Ok item) → (item ≡ Item.More → ⊥) → ⊥
no_item_behind place [] item count e some = some cc
no_item_behind place (b ∷ bytes) item count e some = absurd cc

-- an item that bytes say stands there
pub item_stands : (stage : Stage) (place : ℕ) (bytes : List ℕ) (item : Item) → Says stage place bytes (Ok item) → (item ≡ Item.More → ⊥) → StandsAt stage bytes item
item_stands Stage.Start place bytes item o some = stands Stage.Start place bytes item o.answer o.answered o.comes_to some
item_stands (Stage.Names streams lines next) place bytes item o some = stands (Stage.Names streams lines next) place bytes item o.answer o.answered o.comes_to some
item_stands (Stage.Openings version lines next) place bytes item o some = stands (Stage.Openings version lines next) place bytes item o.answer o.answered o.comes_to some
item_stands (Stage.Events version count) place bytes item o some = stands (Stage.Events version count) place bytes item o.answer o.answered o.comes_to some
item_stands (Stage.Ended count) place bytes item o some = absurd (no_item_behind place bytes item count o some)
