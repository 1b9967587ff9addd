-- What comes before the first event: names and openings that ascend, and a head that takes them.
use Rattle.std.proofs.Common.{◌≡◌, ℕ, suc, ◌+◌, ◌-◌, ◌<◌, Bool, true, false, cond, List, [], ◌∷◌, ◌++◌, length, Some, None, IsTrue, refl, sym, ap, subst, ◌∙◌, append-nil, arith, nat_lt, nat_le}
use Rattle.std.specs.Prelude.{◌&&◌, not, slice_get}
use Rattle.std.specs.List.{list_all}
use Rattle.std.specs.Option.{option_map_or}
use Rattle.std.proofs.lemmas.Bool.{and_parts, and_from, leb-true, lt-ltb}
use Rattle.std.proofs.lemmas.List.Folds.{list_all-append}
use Rattle.arrayvec.specs.ArrayVec.{ArrayVec}
use Rattle.cxl_message.specs.Codes.{bytes_eq}
use Rattle.cxl_message.specs.Names.{is_after_last_named, is_name, name_refusal, names_ascend_from}
use Rattle.cxl_message.specs.Opening.{ascends_from, is_after_last, opening_refusal, zero_bytes}
use Rattle.cxl_message.specs.Setup.{Configuration}
use Rattle.cxl_message.specs.declared.identifiers.Bytes64.{Bytes64}
use Rattle.cxl_message.specs.declared.identifiers.Line.{Line}
use Rattle.cxl_message.specs.declared.names.NameRefusal.{NameRefusal}
use Rattle.cxl_message.specs.declared.openings.OpeningRefusal.{OpeningRefusal}
use Rattle.cxl_codec.specs.declared.versions.Version.{Version}
use Rattle.trace_stream.specs.declared.items.Item.{Item}
use Rattle.trace_stream.specs.declared.items.Reason.{Reason}
use Rattle.trace_stream.specs.declared.stages.Stage.{Stage}
use Rattle.trace_stream.specs.Items.{may_name, opens_well}
use Rattle.trace_stream.specs.Runs.{Follow}
use Rattle.trace_migration.specs.declared.heads.Head.{Head}
use Rattle.trace_migration.specs.Heads.{GoesOnBy, IsHead}
use Rattle.trace_migration.specs.Items.{name_part, names_in, opening_part, openings_in, setup_part, setups_in}
use Rattle.trace_migration.proofs.Parts.{names_more, openings_more, setups_more}

-- a test that found nothing wrong
passed : (b : Bool) (reason : Reason) → cond b None (Some reason) ≡ None → b ≡ true
passed true reason e = refl
passed false reason e = absurd cc

-- a number at least so great is greater than the one before
below : (a b : ℕ) → nat_le (a + 1) b ≡ true → a < b
below a b h = let next = leb-true (a + 1) b h in omega (arith, next)

-- what holds of all holds of the last
all_last : {X : Type 0} (p : X → Bool) (before : List X) (x : X) → list_all p (before ++ x ∷ []) ≡ true → p x ≡ true
all_last p before x h = (and_parts _ _ (and_parts _ _ (sym (list_all-append p before (x ∷ [])) ∙ h)).1).0

not_true : (b : Bool) → not b ≡ true → b ≡ false
not_true true e = absurd cc
not_true false e = refl

-- ---- where neither streams nor lines come any more

nothing_opened : (count : ℕ) (items : List Item) → Follow (Stage.Ended count) items → openings_in items ≡ []
nothing_opened count [] follow = refl
nothing_opened count (item ∷ items) follow = absurd follow.0

nothing_named : (count : ℕ) (items : List Item) → Follow (Stage.Ended count) items → names_in items ≡ []
nothing_named count [] follow = refl
nothing_named count (item ∷ items) follow = absurd follow.0

no_opening : (version : Version) (count : ℕ) (items : List Item) → Follow (Stage.Events version count) items → openings_in items ≡ []
no_opening version count [] follow = refl
no_opening version count (Item.Header own setup ∷ items) follow = absurd follow.0
no_opening version count (Item.Name stream name ∷ items) follow = absurd follow.0
no_opening version count (Item.Opened line bytes ∷ items) follow = absurd follow.0
no_opening version count (Item.Event e ∷ items) follow = no_opening version (count + 1) items follow.2
no_opening version count (Item.End n ∷ items) follow = nothing_opened n items follow.2
no_opening version count (Item.More ∷ items) follow = absurd follow.0

no_name_behind : (version : Version) (count : ℕ) (items : List Item) → Follow (Stage.Events version count) items → names_in items ≡ []
no_name_behind version count [] follow = refl
no_name_behind version count (Item.Header own setup ∷ items) follow = absurd follow.0
no_name_behind version count (Item.Name stream name ∷ items) follow = absurd follow.0
no_name_behind version count (Item.Opened line bytes ∷ items) follow = absurd follow.0
no_name_behind version count (Item.Event e ∷ items) follow = no_name_behind version (count + 1) items follow.2
no_name_behind version count (Item.End n ∷ items) follow = nothing_named n items follow.2
no_name_behind version count (Item.More ∷ items) follow = absurd follow.0

-- behind an opening, and in version 1 behind the header, no stream is named
no_name : (version : Version) (lines next : ℕ) (items : List Item) → Follow (Stage.Openings version lines next) items → names_in items ≡ []
no_name version lines next [] follow = refl
no_name version lines next (Item.Header own setup ∷ items) follow = absurd follow.0
no_name version lines next (Item.Name stream name ∷ items) follow = absurd follow.0
no_name version lines next (Item.Opened line bytes ∷ items) follow = no_name version lines (line.0 + 1) items follow.2
no_name version lines next (Item.Event e ∷ items) follow = no_name_behind version 1 items follow.2
no_name version lines next (Item.End n ∷ items) follow = nothing_named n items follow.2
no_name version lines next (Item.More ∷ items) follow = absurd follow.0

-- ---- names

-- streams that ascend from one on, with names that are spelled as names
record AreNamesFrom (next : ℕ) (names : List (ℕ × List ℕ)) : Type 0 where
  pub ascending : IsTrue (names_ascend_from next names)
  pub spelled : IsTrue (list_all (λ p. is_name p.1) names)

none_named : (next : ℕ) (names : List (ℕ × List ℕ)) → names ≡ [] → AreNamesFrom next names
none_named next names none = subst (AreNamesFrom next) (sym none) (record { ascending = refl; spelled = refl })

one_name_before : (streams next stream : ℕ) (name : List ℕ) (names : List (ℕ × List ℕ)) → (nat_le next stream && nat_lt stream streams) ≡ true → IsTrue (is_name name) → AreNamesFrom (stream + 1) names
    → AreNamesFrom next ((stream, name) ∷ names)
one_name_before streams next stream name names well spelled rest =
    let tests = and_parts (nat_le next stream) (nat_lt stream streams) well in
    record {
      ascending = and_from (nat_le next stream) (names_ascend_from (stream + 1) names) tests.0 rest.ascending;
      spelled = and_from (is_name name) (list_all (λ p. is_name p.1) names) spelled rest.spelled;
    }

names_from : (items : List Item) (streams lines next : ℕ) → Follow (Stage.Names streams lines next) items → AreNamesFrom next (names_in items)
names_from [] streams lines next follow = none_named next [] refl
names_from (Item.Header own setup ∷ items) streams lines next follow = absurd follow.0
names_from (Item.Name stream name ∷ items) streams lines next follow =
    one_name_before streams next stream name.items (names_in items) (passed (may_name (Stage.Names streams lines next) stream) Reason.Name follow.1) follow.0.spelled (names_from items streams lines (stream + 1) follow.2)
names_from (Item.Opened line bytes ∷ items) streams lines next follow = none_named next (names_in items) (no_name Version.Two lines (line.0 + 1) items follow.2)
names_from (Item.Event e ∷ items) streams lines next follow = none_named next (names_in items) (no_name_behind Version.Two 1 items follow.2)
names_from (Item.End n ∷ items) streams lines next follow = none_named next (names_in items) (nothing_named n items follow.2)
names_from (Item.More ∷ items) streams lines next follow = absurd follow.0

-- what items name are names
named_well : (items : List Item) → Follow Stage.Start items → AreNamesFrom 0 (names_in items)
named_well [] follow = none_named 0 [] refl
named_well (Item.Header Version.One own ∷ items) follow = none_named 0 (names_in items) (no_name Version.One own.lines 0 items follow.2)
named_well (Item.Header Version.Two own ∷ items) follow = names_from items (length own.streams) own.lines 0 follow.2
named_well (Item.Name stream name ∷ items) follow = absurd follow.0
named_well (Item.Opened line bytes ∷ items) follow = absurd follow.0
named_well (Item.Event e ∷ items) follow = absurd follow.0
named_well (Item.End count ∷ items) follow = absurd follow.0
named_well (Item.More ∷ items) follow = absurd follow.0

-- where streams ascend the last one is greater than the one before it
after_last_named : (least : ℕ) (before : List (ℕ × List ℕ)) (p : ℕ × List ℕ) → IsTrue (names_ascend_from least (before ++ p ∷ [])) → is_after_last_named before p.0 ≡ true
after_last_named least [] p h = refl
after_last_named least (q ∷ []) p h = lt-ltb q.0 p.0 (below q.0 p.0 (and_parts _ _ (and_parts _ _ h).1).0)
after_last_named least (q ∷ r ∷ rs) p h =
    let last : length (q ∷ r ∷ rs) - 1 ≡ suc (length (r ∷ rs) - 1) = omega arith in
    ap (λ i. option_map_or (λ x. nat_lt x.0 p.0) (slice_get (q ∷ r ∷ rs) i) true) last ∙ after_last_named (q.0 + 1) (r ∷ rs) p (and_parts _ _ h).1

unrefused_name : (after spelled : Bool) → after ≡ true → spelled ≡ true → cond (not after) (Some NameRefusal.Order) (cond spelled None (Some NameRefusal.Spelling)) ≡ None
unrefused_name true true a z = refl
unrefused_name true false a z = absurd cc
unrefused_name false spelled a z = absurd cc

may_add_name : (names : List (ℕ × List ℕ)) (stream : ℕ) (name : List ℕ) → AreNamesFrom 0 (names ++ (stream, name) ∷ []) → name_refusal names stream name ≡ None
may_add_name names stream name good =
    unrefused_name (is_after_last_named names stream) (is_name name) (after_last_named 0 names (stream, name) good.ascending) (all_last (λ p. is_name p.1) names (stream, name) good.spelled)

-- ---- openings

-- lines that ascend from one on and aren't zero
record IsOpeningFrom (next : ℕ) (opening : List (Line × Bytes64)) : Type 0 where
  pub ascending : IsTrue (ascends_from next opening)
  pub not_zero : IsTrue (list_all (λ p. not (bytes_eq p.1 zero_bytes)) opening)

none_opened : (next : ℕ) (opening : List (Line × Bytes64)) → opening ≡ [] → IsOpeningFrom next opening
none_opened next opening none = subst (IsOpeningFrom next) (sym none) (record { ascending = refl; not_zero = refl })

one_line_before : (lines next : ℕ) (line : Line) (bytes : Bytes64) (opening : List (Line × Bytes64)) → opens_well lines next line.0 bytes ≡ true → IsOpeningFrom (line.0 + 1) opening → IsOpeningFrom next ((line, bytes) ∷ opening)
one_line_before lines next line bytes opening well rest =
    let tests = and_parts (nat_le next line.0 && nat_lt line.0 lines) (not (bytes_eq bytes zero_bytes)) well in
    let places = and_parts (nat_le next line.0) (nat_lt line.0 lines) tests.0 in
    record {
      ascending = and_from (nat_le next line.0) (ascends_from (line.0 + 1) opening) places.0 rest.ascending;
      not_zero = and_from (not (bytes_eq bytes zero_bytes)) (list_all (λ p. not (bytes_eq p.1 zero_bytes)) opening) tests.1 rest.not_zero;
    }

from_openings : (version : Version) (items : List Item) (lines next : ℕ) → Follow (Stage.Openings version lines next) items → IsOpeningFrom next (openings_in items)
from_openings version [] lines next follow = none_opened next [] refl
from_openings version (Item.Header own setup ∷ items) lines next follow = absurd follow.0
from_openings version (Item.Name stream name ∷ items) lines next follow = absurd follow.0
from_openings version (Item.Opened line bytes ∷ items) lines next follow =
    one_line_before lines next line bytes (openings_in items) (passed (opens_well lines next line.0 bytes) Reason.Opening follow.1) (from_openings version items lines (line.0 + 1) follow.2)
from_openings version (Item.Event e ∷ items) lines next follow = none_opened next (openings_in items) (no_opening version 1 items follow.2)
from_openings version (Item.End n ∷ items) lines next follow = none_opened next (openings_in items) (nothing_opened n items follow.2)
from_openings version (Item.More ∷ items) lines next follow = absurd follow.0

from_names : (items : List Item) (streams lines next : ℕ) → Follow (Stage.Names streams lines next) items → IsOpeningFrom 0 (openings_in items)
from_names [] streams lines next follow = none_opened 0 [] refl
from_names (Item.Header own setup ∷ items) streams lines next follow = absurd follow.0
from_names (Item.Name stream name ∷ items) streams lines next follow = from_names items streams lines (stream + 1) follow.2
from_names (Item.Opened line bytes ∷ items) streams lines next follow =
    one_line_before lines 0 line bytes (openings_in items) (passed (opens_well lines 0 line.0 bytes) Reason.Opening follow.1) (from_openings Version.Two items lines (line.0 + 1) follow.2)
from_names (Item.Event e ∷ items) streams lines next follow = none_opened 0 (openings_in items) (no_opening Version.Two 1 items follow.2)
from_names (Item.End n ∷ items) streams lines next follow = none_opened 0 (openings_in items) (nothing_opened n items follow.2)
from_names (Item.More ∷ items) streams lines next follow = absurd follow.0

-- what items open is an opening
opened_well : (items : List Item) → Follow Stage.Start items → IsOpeningFrom 0 (openings_in items)
opened_well [] follow = none_opened 0 [] refl
opened_well (Item.Header Version.One own ∷ items) follow = from_openings Version.One items own.lines 0 follow.2
opened_well (Item.Header Version.Two own ∷ items) follow = from_names items (length own.streams) own.lines 0 follow.2
opened_well (Item.Name stream name ∷ items) follow = absurd follow.0
opened_well (Item.Opened line bytes ∷ items) follow = absurd follow.0
opened_well (Item.Event e ∷ items) follow = absurd follow.0
opened_well (Item.End count ∷ items) follow = absurd follow.0
opened_well (Item.More ∷ items) follow = absurd follow.0

-- where lines ascend the last one is greater than the one before it
after_last_line : (least : ℕ) (before : List (Line × Bytes64)) (p : Line × Bytes64) → IsTrue (ascends_from least (before ++ p ∷ [])) → is_after_last before p.0.0 ≡ true
after_last_line least [] p h = refl
after_last_line least (q ∷ []) p h = lt-ltb q.0.0 p.0.0 (below q.0.0 p.0.0 (and_parts _ _ (and_parts _ _ h).1).0)
after_last_line least (q ∷ r ∷ rs) p h =
    let last : length (q ∷ r ∷ rs) - 1 ≡ suc (length (r ∷ rs) - 1) = omega arith in
    ap (λ i. option_map_or (λ x. nat_lt x.0.0 p.0.0) (slice_get (q ∷ r ∷ rs) i) true) last ∙ after_last_line (q.0.0 + 1) (r ∷ rs) p (and_parts _ _ h).1

unrefused_line : (after empty : Bool) → after ≡ true → empty ≡ false → cond (not after) (Some OpeningRefusal.Order) (cond empty (Some OpeningRefusal.Zero) None) ≡ None
unrefused_line true false a z = refl
unrefused_line true true a z = absurd cc
unrefused_line false empty a z = absurd cc

may_add_line : (opening : List (Line × Bytes64)) (line : Line) (bytes : Bytes64) → IsOpeningFrom 0 (opening ++ (line, bytes) ∷ []) → opening_refusal opening line.0 bytes ≡ None
may_add_line opening line bytes good =
    unrefused_line (is_after_last opening line.0) (bytes_eq bytes zero_bytes) (after_last_line 0 opening (line, bytes) good.ascending)
    (not_true (bytes_eq bytes zero_bytes) (all_last (λ p. not (bytes_eq p.1 zero_bytes)) opening (line, bytes) good.not_zero))

-- ---- the head

-- the only one of a list, behind others
only_last : (xs : List Configuration) (a b : Configuration) → xs ++ a ∷ [] ≡ b ∷ [] → a ≡ b
only_last [] a b e = cc
only_last (x ∷ []) a b e = absurd cc
only_last (x ∷ y ∷ xs) a b e = absurd cc

-- a head with the setup of a header
pub header_taken : (items : List Item) (version : Version) (setup : Configuration) (head : Head) → IsHead items head → IsHead (items ++ Item.Header version setup ∷ []) (record head { setup = setup })
header_taken items version setup head is =
    let item = Item.Header version setup in
    record {
      header = λ other one. only_last (setups_in items) setup other (sym (setups_more items item) ∙ one);
      named = names_more items item ∙ append-nil (names_in items) ∙ is.named;
      opened = openings_more items item ∙ append-nil (openings_in items) ∙ is.opened;
    }

-- a stream that comes may be named
pub name_allowed : (items : List Item) (stream : ℕ) (name : ArrayVec ℕ) (head : Head) → GoesOnBy items (Item.Name stream name) head → name_refusal head.names stream name.items ≡ None
name_allowed items stream name head on =
    let item = Item.Name stream name in
    let named : names_in (items ++ item ∷ []) ≡ head.names ++ (stream, name.items) ∷ [] = names_more items item ∙ ap (λ (l : List (ℕ × List ℕ)). l ++ (stream, name.items) ∷ []) on.taken.named in
    may_add_name head.names stream name.items (subst (AreNamesFrom 0) named (named_well (items ++ item ∷ []) on.follow))

-- so it isn't refused
pub allowed_name : (items : List Item) (stream : ℕ) (name : ArrayVec ℕ) (spelled : List ℕ) (head : Head) (refusal : NameRefusal) → GoesOnBy items (Item.Name stream name) head → spelled ≡ name.items
    → name_refusal head.names stream spelled ≡ Some refusal → ⊥
allowed_name items stream name spelled head refusal on same refused =
    let e : None ≡ Some refusal = sym (name_allowed items stream name head on) ∙ sym (ap (name_refusal head.names stream) same) ∙ refused in absurd cc

-- a head with one name more
pub name_taken : (items : List Item) (stream : ℕ) (name : ArrayVec ℕ) (head : Head) (names : List (ℕ × List ℕ)) → names ≡ head.names ++ (stream, name.items) ∷ [] → IsHead items head
    → IsHead (items ++ Item.Name stream name ∷ []) (record head { names = names })
name_taken items stream name head names added is =
    let item = Item.Name stream name in
    record {
      header = λ setup one. is.header setup (sym (setups_more items item ∙ append-nil (setups_in items)) ∙ one);
      named = names_more items item ∙ ap (λ (l : List (ℕ × List ℕ)). l ++ (stream, name.items) ∷ []) is.named ∙ sym added;
      opened = openings_more items item ∙ append-nil (openings_in items) ∙ is.opened;
    }

-- a line that comes may be opened
pub line_allowed : (items : List Item) (line : Line) (bytes : Bytes64) (head : Head) → GoesOnBy items (Item.Opened line bytes) head → opening_refusal head.opening line.0 bytes ≡ None
line_allowed items line bytes head on =
    let item = Item.Opened line bytes in
    let opened : openings_in (items ++ item ∷ []) ≡ head.opening ++ (line, bytes) ∷ [] = openings_more items item ∙ ap (λ (l : List (Line × Bytes64)). l ++ (line, bytes) ∷ []) on.taken.opened in
    may_add_line head.opening line bytes (subst (IsOpeningFrom 0) opened (opened_well (items ++ item ∷ []) on.follow))

-- so it isn't refused
pub allowed_line : (items : List Item) (line : Line) (bytes : Bytes64) (head : Head) (refusal : OpeningRefusal) → GoesOnBy items (Item.Opened line bytes) head → opening_refusal head.opening line.0 bytes ≡ Some refusal → ⊥
allowed_line items line bytes head refusal on refused = let e : None ≡ Some refusal = sym (line_allowed items line bytes head on) ∙ refused in absurd cc

-- a head with one line more
pub line_taken : (items : List Item) (line : Line) (bytes : Bytes64) (head : Head) (opening : List (Line × Bytes64)) → opening ≡ head.opening ++ (line, bytes) ∷ [] → IsHead items head
    → IsHead (items ++ Item.Opened line bytes ∷ []) (record head { opening = opening })
line_taken items line bytes head opening added is =
    let item = Item.Opened line bytes in
    record {
      header = λ setup one. is.header setup (sym (setups_more items item ∙ append-nil (setups_in items)) ∙ one);
      named = names_more items item ∙ append-nil (names_in items) ∙ is.named;
      opened = openings_more items item ∙ ap (λ (l : List (Line × Bytes64)). l ++ (line, bytes) ∷ []) is.opened ∙ sym added;
    }

-- a head takes nothing of another item
pub nothing_taken : (items : List Item) (item : Item) (head : Head) → setup_part item ≡ [] → name_part item ≡ [] → opening_part item ≡ [] → IsHead items head → IsHead (items ++ item ∷ []) head
nothing_taken items item head no_setup no_name no_line is =
    record {
      header = λ setup one. is.header setup (sym (setups_more items item ∙ ap (λ (l : List Configuration). setups_in items ++ l) no_setup ∙ append-nil (setups_in items)) ∙ one);
      named = names_more items item ∙ ap (λ (l : List (ℕ × List ℕ)). names_in items ++ l) no_name ∙ append-nil (names_in items) ∙ is.named;
      opened = openings_more items item ∙ ap (λ (l : List (Line × Bytes64)). openings_in items ++ l) no_line ∙ append-nil (openings_in items) ∙ is.opened;
    }
