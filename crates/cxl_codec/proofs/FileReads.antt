-- Openings and end records: what is read is spelled so, and what is spelled is read again.
use Rattle.std.proofs.Common.{◌≡◌, ℕ, ◌+◌, ◌-◌, ◌*◌, ◌^◌, ◌<◌, ◌≤◌, List, [], ◌∷◌, ◌++◌, length, Some, Ok, refl, sym, ap, subst, ◌∙◌, arith, rules, tests}
use Rattle.std.specs.Prelude.{IsTrue, nat_lt, map}
use Rattle.std.specs.List.{list_all, AllByRecursion}
use Rattle.std.specs.Int.{w16, w64, byte_at}
use Rattle.std.proofs.lemmas.Bool.{lt-ltb, ltb-true, and_parts, and_from, le-leb, leb-true}
use Rattle.cxl_message.specs.declared.identifiers.Line.{Line}
use Rattle.cxl_message.specs.declared.identifiers.Bytes64.{Bytes64}
use Rattle.cxl_codec.specs.declared.fields.FieldName.{FieldName}
use Rattle.cxl_codec.specs.Cells.{field, free, number}
use Rattle.cxl_codec.specs.Openings.{opening_cells, OpeningFits}
use Rattle.cxl_codec.specs.EndRecord.{end_cells, EndFits}
use Rattle.cxl_codec.specs.Reading.{field_of, within}
use Rattle.cxl_codec.specs.ReadingFiles.{opening_at, end_at}
use Rattle.cxl_codec.proofs.Meanings.{found}
use Rattle.cxl_codec.proofs.Outcomes.{IsBytes, Sound, IsRead, Spells, Meets, then_sound, ends_sound, then_read, ends_read}
use Rattle.cxl_codec.proofs.Parts.{Within, within_meets, field_meets, within_found, wide64, number_meets, payload_meets, free_meets, run_meets}
use Rattle.cxl_codec.proofs.MessageReads.{short_meets}

-- a byte that is fixed
pub exact_meets : (which : FieldName) (v : ℕ) → v < 256 → Meets (λ n. n ≡ v) (λ n. field which v ∷ []) (field_of which (within v v))
exact_meets which v lt = field_meets which (λ n. n ≡ v) (λ n. v) (within v v) (record {
  found = λ b n e. let h = within_found v v b n e in (omega (arith, h.0.0, h.0.1), omega (arith, h.0.0, h.0.1, h.1));
  again = λ n fits. let one : within v v v ≡ Some v = search (tests, rules) in one ∙ ap (λ (m : ℕ). Some m) (sym fits);
  outside = search (tests, rules);
  some = (v, refl);
})

-- ---- openings and ends

-- an opening that is read is spelled so
opening_sound : Sound (Spells OpeningFits opening_cells) opening_at
unfolding opening_at
opening_sound =
    then_sound _ _ _ (exact_meets FieldName.Agent 0xf0 (omega arith)) _ _ (λ _ _.
    then_sound _ _ _ short_meets _ _ (λ line l.
    ends_sound _ _ _ payload_meets _ (λ value. (record { 0 = line }, value)) (λ value v. (record { line = l; bytes = v }, refl))))

-- an opening that is spelled is read again
opening_read : (o : Line × Bytes64) → OpeningFits o → IsRead opening_at o (opening_cells o)
unfolding opening_at
opening_read o fits =
    then_read _ _ _ ((exact_meets FieldName.Agent 0xf0 (omega arith)).complete 0xf0 refl) _ _ _
    (then_read _ _ _ (short_meets.complete o.0.0 fits.line) _ _ _
    (ends_read _ _ _ (payload_meets.complete o.1 fits.bytes) (λ value. (record { 0 = o.0.0 }, value))))

-- the reader of openings meets the grammar
pub opening_meets : Meets OpeningFits opening_cells opening_at
opening_meets = record { sound = opening_sound; complete = opening_read }

-- an end record that is read is spelled so
end_sound : Sound (Spells EndFits end_cells) end_at
unfolding end_at
end_sound =
    then_sound _ _ _ (exact_meets FieldName.Agent 0xff (omega arith)) _ _ (λ _ _.
    ends_sound _ _ _ (number_meets w64 (2 ^ 64) wide64) _ (λ count. count) (λ count c. (c, refl)))

-- an end record that is spelled is read again
end_read : (count : ℕ) → EndFits count → IsRead end_at count (end_cells count)
unfolding end_at
end_read count fits =
    then_read _ _ _ ((exact_meets FieldName.Agent 0xff (omega arith)).complete 0xff refl) _ _ _
    (ends_read _ _ _ ((number_meets w64 (2 ^ 64) wide64).complete count fits) (λ count. count))

-- the reader of end records meets the grammar
pub end_meets : Meets EndFits end_cells end_at
end_meets = record { sound = end_sound; complete = end_read }
