-- What a trace opens is an opening of its setup.
use Rattle.std.proofs.Common.{◌≡◌, ℕ, suc, ◌+◌, ◌-◌, Bool, true, false, cond, List, [], ◌∷◌, ◌++◌, length, Some, None, IsTrue, refl, sym, ap, subst, ◌∙◌, arith, nat_lt, nat_le}
use Rattle.std.specs.Prelude.{◌&&◌, not, slice_get}
use Rattle.std.specs.List.{list_all}
use Rattle.std.specs.Option.{option_map_or}
use Rattle.std.proofs.lemmas.Bool.{and_parts, and_from, leb-true, lt-ltb}
use Rattle.std.proofs.lemmas.List.Folds.{list_all-append}
use Rattle.cxl_message.specs.Codes.{bytes_eq}
use Rattle.cxl_message.specs.Opening.{ascends_from, is_after_last, opening_fits, opening_refusal, zero_bytes}
use Rattle.cxl_message.specs.Setup.{Configuration}
use Rattle.cxl_message.specs.declared.identifiers.Bytes64.{Bytes64}
use Rattle.cxl_message.specs.declared.identifiers.Line.{Line}
use Rattle.cxl_message.specs.declared.openings.OpeningRefusal.{OpeningRefusal}
use Rattle.cxl_codec.specs.declared.versions.Version.{Version}
use Rattle.trace_stream.specs.declared.items.Item.{Item}
use Rattle.trace_stream.specs.declared.items.Reason.{Reason}
use Rattle.trace_stream.specs.declared.stages.Stage.{Stage}
use Rattle.trace_stream.specs.Items.{opens_well}
use Rattle.trace_stream.specs.Runs.{Follow}
use Rattle.trace_check.specs.Items.{openings_in, setups_in}
use Rattle.trace_check.proofs.Parts.{no_opening, nothing_opened}

-- lines that ascend from one on, are of so many lines, and aren't zero
pub record IsGood (lines next : ℕ) (opening : List (Line × Bytes64)) : Type 0 where
  pub ascending : IsTrue (ascends_from next opening)
  pub not_zero : IsTrue (list_all (λ p. not (bytes_eq p.1 zero_bytes)) opening)
  pub below : IsTrue (opening_fits lines opening)

none_is_good : (lines next : ℕ) (opening : List (Line × Bytes64)) → opening ≡ [] → IsGood lines next opening
none_is_good lines next opening none = subst (IsGood lines next) (sym none) (record { ascending = refl; not_zero = refl; below = refl })

-- a test that found nothing wrong
passed : (b : Bool) (reason : Reason) → cond b None (Some reason) ≡ None → b ≡ true
passed true reason e = refl
passed false reason e = absurd cc

-- one line before others
one_before : (lines next : ℕ) (line : Line) (bytes : Bytes64) (opening : List (Line × Bytes64)) → opens_well lines next line.0 bytes ≡ true → IsGood lines (line.0 + 1) opening → IsGood lines next ((line, bytes) ∷ opening)
one_before lines next line bytes opening well rest =
    let tests = and_parts (nat_le next line.0 && nat_lt line.0 lines) (not (bytes_eq bytes zero_bytes)) well in
    let places = and_parts (nat_le next line.0) (nat_lt line.0 lines) tests.0 in
    record {
      ascending = and_from (nat_le next line.0) (ascends_from (line.0 + 1) opening) places.0 rest.ascending;
      not_zero = and_from (not (bytes_eq bytes zero_bytes)) (list_all (λ p. not (bytes_eq p.1 zero_bytes)) opening) tests.1 rest.not_zero;
      below = and_from (nat_lt line.0 lines) (opening_fits lines opening) places.1 rest.below;
    }

from_openings : (version : Version) (items : List Item) (lines next : ℕ) → Follow (Stage.Openings version lines next) items → IsGood lines next (openings_in items)
from_openings version [] lines next follow = none_is_good lines next [] refl
from_openings version (Item.Header own setup ∷ items) lines next follow = absurd follow.0
from_openings version (Item.Name stream name ∷ items) lines next follow = absurd follow.0
from_openings version (Item.Opened line bytes ∷ items) lines next follow =
    one_before lines next line bytes (openings_in items) (passed (opens_well lines next line.0 bytes) Reason.Opening follow.1) (from_openings version items lines (line.0 + 1) follow.2)
from_openings version (Item.Event e ∷ items) lines next follow = none_is_good lines next (openings_in items) (no_opening version 1 items follow.2)
from_openings version (Item.End n ∷ items) lines next follow = none_is_good lines next (openings_in items) (nothing_opened n items follow.2)
from_openings version (Item.More ∷ items) lines next follow = absurd follow.0

from_names : (items : List Item) (streams lines next : ℕ) → Follow (Stage.Names streams lines next) items → IsGood lines 0 (openings_in items)
from_names [] streams lines next follow = none_is_good lines 0 [] refl
from_names (Item.Header own setup ∷ items) streams lines next follow = absurd follow.0
from_names (Item.Name stream name ∷ items) streams lines next follow = from_names items streams lines (stream + 1) follow.2
from_names (Item.Opened line bytes ∷ items) streams lines next follow =
    one_before lines 0 line bytes (openings_in items) (passed (opens_well lines 0 line.0 bytes) Reason.Opening follow.1) (from_openings Version.Two items lines (line.0 + 1) follow.2)
from_names (Item.Event e ∷ items) streams lines next follow = none_is_good lines 0 (openings_in items) (no_opening Version.Two 1 items follow.2)
from_names (Item.End n ∷ items) streams lines next follow = none_is_good lines 0 (openings_in items) (nothing_opened n items follow.2)
from_names (Item.More ∷ items) streams lines next follow = absurd follow.0

-- the first of equal lists
same_first : (a b : Configuration) (xs ys : List Configuration) → a ∷ xs ≡ b ∷ ys → a ≡ b
same_first a b xs ys e = cc

-- what items open is an opening of the setup that they have
pub opened_well : (items : List Item) (setup : Configuration) → Follow Stage.Start items → setups_in items ≡ setup ∷ [] → IsGood setup.lines 0 (openings_in items)
opened_well [] setup follow header = absurd cc
opened_well (Item.Header Version.One own ∷ items) setup follow header =
    subst (λ (c : Configuration). IsGood c.lines 0 (openings_in items)) (same_first own setup (setups_in items) [] header) (from_openings Version.One items own.lines 0 follow.2)
opened_well (Item.Header Version.Two own ∷ items) setup follow header =
    subst (λ (c : Configuration). IsGood c.lines 0 (openings_in items)) (same_first own setup (setups_in items) [] header) (from_names items (length own.streams) own.lines 0 follow.2)
opened_well (Item.Name stream name ∷ items) setup follow header = absurd follow.0
opened_well (Item.Opened line bytes ∷ items) setup follow header = absurd follow.0
opened_well (Item.Event e ∷ items) setup follow header = absurd follow.0
opened_well (Item.End count ∷ items) setup follow header = absurd follow.0
opened_well (Item.More ∷ items) setup follow header = absurd follow.0

-- ---- the last one may be added

-- where lines ascend the last one is greater than the one before it
after_last : (least : ℕ) (before : List (Line × Bytes64)) (p : Line × Bytes64) → IsTrue (ascends_from least (before ++ p ∷ [])) → is_after_last before p.0.0 ≡ true
after_last least [] p h = refl
after_last least (q ∷ []) p h = lt-ltb q.0.0 p.0.0 (let next = leb-true (q.0.0 + 1) p.0.0 (and_parts _ _ (and_parts _ _ h).1).0 in omega arith)
after_last least (q ∷ r ∷ rs) p h =
    let last : length (q ∷ r ∷ rs) - 1 ≡ suc (length (r ∷ rs) - 1) = omega arith in
    ap (λ i. option_map_or (λ x. nat_lt x.0.0 p.0.0) (slice_get (q ∷ r ∷ rs) i) true) last ∙ after_last (q.0.0 + 1) (r ∷ rs) p (and_parts _ _ h).1

-- what holds of all holds of the last
all_last : {X : Type 0} (p : X → Bool) (before : List X) (x : X) → list_all p (before ++ x ∷ []) ≡ true → p x ≡ true
all_last p before x h = (and_parts _ _ (and_parts _ _ (sym (list_all-append p before (x ∷ [])) ∙ h)).1).0

not_true : (b : Bool) → not b ≡ true → b ≡ false
not_true true e = absurd cc
not_true false e = refl

unrefused : (after empty : Bool) → after ≡ true → empty ≡ false → cond (not after) (Some OpeningRefusal.Order) (cond empty (Some OpeningRefusal.Zero) None) ≡ None
unrefused true false a z = refl
unrefused true true a z = absurd cc
unrefused false empty a z = absurd cc

pub may_add : (lines : ℕ) (opening : List (Line × Bytes64)) (line : Line) (bytes : Bytes64) → IsGood lines 0 (opening ++ (line, bytes) ∷ []) → opening_refusal opening line.0 bytes ≡ None
may_add lines opening line bytes good =
    unrefused (is_after_last opening line.0) (bytes_eq bytes zero_bytes) (after_last 0 opening (line, bytes) good.ascending)
    (not_true (bytes_eq bytes zero_bytes) (all_last (λ p. not (bytes_eq p.1 zero_bytes)) opening (line, bytes) good.not_zero))
