-- Name records: what is read is spelled so, and what is spelled is read again.
use Rattle.std.proofs.Common.{◌≡◌, ℕ, ◌<◌, ◌≤◌, List, [], ◌∷◌, length, Some, None, refl, sym, ap, subst, ◌∙◌, arith, true, false, cond}
use Rattle.std.specs.Prelude.{IsTrue, map, Bool}
use Rattle.std.specs.List.{list_all, AllByRecursion}
use Rattle.std.proofs.lemmas.Bool.{and_parts, and_from, le-leb, leb-true}
use Rattle.cxl_message.specs.Names.{is_name, is_name_byte}
use Rattle.cxl_codec.specs.declared.fields.FieldName.{FieldName}
use Rattle.cxl_codec.specs.Cells.{Cell, field}
use Rattle.cxl_codec.specs.NameRecord.{name_cells, NameFits}
use Rattle.cxl_codec.specs.Reading.{bytes_at, field_of, letter, within}
use Rattle.cxl_codec.specs.ReadingFiles.{name_at}
use Rattle.cxl_codec.proofs.Outcomes.{Sound, IsRead, Spells, Meets, then_sound, ends_sound, then_read, ends_read}
use Rattle.cxl_codec.proofs.Parts.{AreBytes, IsTable, Within, bytes_meets, within_meets}
use Rattle.cxl_codec.proofs.ActReads.{stream_meets}
use Rattle.cxl_codec.proofs.FileReads.{exact_meets}

-- a byte may stand in a name
abbrev IsLetter : ℕ → Type 0
IsLetter b = IsTrue (is_name_byte b)

-- a test that was passed
letter_by : (b a : ℕ) (t : Bool) → is_name_byte b ≡ t → cond t (Some b) None ≡ Some a → IsLetter a × (a ≡ b)
letter_by b a true p e = let same : b ≡ a = cc in (subst IsLetter same p, sym same)
letter_by b a false p e = absurd cc

-- the bytes of names are a table
letters : IsTable IsLetter (λ b. b) letter
letters = record {
  found = λ b a e. letter_by b a (is_name_byte b) refl e;
  again = λ b fits. rw fits refl;
  outside = refl;
  some = (97, refl);
}

-- the bytes of a name
letters_meet : (n : ℕ) → Meets (AreBytes IsLetter n) (λ bs. map (field FieldName.NameByte) bs) (bytes_at FieldName.NameByte letter n)
letters_meet n = bytes_meets FieldName.NameByte IsLetter letter letters n

-- each byte of a name, as a test
each_letter : (bs : List ℕ) → AllByRecursion IsLetter bs → IsTrue (list_all is_name_byte bs)
each_letter [] each = refl
each_letter (b ∷ bs) each = and_from _ _ each.0 (each_letter bs each.1)

-- and back
letters_from : (bs : List ℕ) → IsTrue (list_all is_name_byte bs) → AllByRecursion IsLetter bs
letters_from [] each = tt
letters_from (b ∷ bs) each = let parts = and_parts (is_name_byte b) (list_all is_name_byte bs) each in (parts.0, letters_from bs parts.1)

-- the length of a name
length_meets : Meets (Within 1 32) (λ n. field FieldName.NameLength n ∷ []) (field_of FieldName.NameLength (within 1 32))
length_meets = within_meets FieldName.NameLength 1 32 (omega arith) (omega arith)

-- a name record that is read is spelled so
name_sound : Sound (Spells NameFits name_cells) name_at
unfolding name_at
name_sound =
    then_sound _ _ _ (exact_meets FieldName.Agent 0xf1 (omega arith)) _ _ (λ _ _.
    then_sound _ _ _ stream_meets _ _ (λ stream s.
    then_sound _ _ _ length_meets _ _ (λ count n.
    ends_sound _ _ _ (letters_meet count) _ (λ name. (stream, name)) (λ name l. (
      record {
        stream = omega (arith, s.1);
        spelled = and_from _ _ (and_from _ _ (le-leb 1 (length name) (omega (arith, l.0, n.0))) (le-leb (length name) 32 (omega (arith, l.0, n.1)))) (each_letter name l.1);
      },
      ap (λ (k : ℕ). field FieldName.Agent 0xf1 ∷ field FieldName.Stream stream ∷ field FieldName.NameLength k ∷ map (field FieldName.NameByte) name) (sym l.0),
    )))))

-- a name record that is spelled is read again
name_read : (named : ℕ × List ℕ) → NameFits named → IsRead name_at named (name_cells named)
unfolding name_at
name_read named fits =
    let parts = and_parts _ (list_all is_name_byte named.1) fits.spelled in
    let limits = and_parts _ _ parts.0 in
    then_read _ _ _ ((exact_meets FieldName.Agent 0xf1 (omega arith)).complete 0xf1 refl) _ _ _
    (then_read _ _ _ (stream_meets.complete named.0 (omega arith, omega (arith, fits.stream))) _ _ _
    (then_read _ _ _ (length_meets.complete (length named.1) (leb-true _ _ limits.0, leb-true _ _ limits.1)) _ _ _
    (ends_read _ _ _ ((letters_meet (length named.1)).complete named.1 (refl, letters_from named.1 parts.1)) (λ name. (named.0, name)))))

-- the reader of name records meets the grammar
pub name_meets : Meets NameFits name_cells name_at
name_meets = record { sound = name_sound; complete = name_read }

-- a name has at most 32 bytes
pub name_short : (named : ℕ × List ℕ) → NameFits named → length named.1 ≤ 32
name_short named fits =
    let parts = and_parts _ (list_all is_name_byte named.1) fits.spelled in
    let limits = and_parts _ _ parts.0 in
    leb-true _ _ limits.1
