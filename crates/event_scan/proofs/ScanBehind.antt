-- What is to come behind the bytes of an event record that were seen.
use Rattle.std.proofs.Common.{◌≡◌, ℕ, ◌-◌, ◌<◌, ◌≤◌, List, [], ◌∷◌, ◌++◌, take, drop, get_or, Some, None, sym, ap, subst, ◌∙◌, append_assoc, arith, inl, inr}
use Rattle.std.specs.Prelude.{length, max}
use Rattle.std.proofs.lemmas.Bool.{cases_lt}
use Rattle.std.proofs.lemmas.List.{append-nil}
use Rattle.std.proofs.lemmas.List.Elements.{All-append}
use Rattle.cxl_codec.specs.declared.versions.Version.{Version}
use Rattle.cxl_codec.specs.declared.faults.Fault.{Fault}
use Rattle.event_scan.specs.declared.scans.Part.{Part}
use Rattle.cxl_codec.specs.Cells.{bytes_of}
use Rattle.cxl_codec.specs.Events.{event_cells, EventFits}
use Rattle.cxl_codec.specs.Grammar.{IsCutShort}
use Rattle.cxl_codec.specs.ReadingEvents.{event_at}
use Rattle.event_scan.specs.Scanning.{GoesOver, IsBehind, IsOver, ToCome, after_first, all_parts, event_parts, scan}
use Rattle.cxl_codec.proofs.Outcomes.{IsBytes}
use Rattle.cxl_codec.proofs.Meanings.{read_again, refused}
use Rattle.cxl_codec.proofs.EventReads.{event_meets}
use Rattle.event_scan.proofs.Scanning.{scan_nil, scan_append, scan_none, scan_front, known, no_more, part_of, free_waits, from_place, over_some, over_all, over_one}
use Rattle.event_scan.proofs.ScanReads.{event_follows}

-- as long as a part is to come the record is cut short
cut_by_parts : (bytes : List ℕ) (p : Part) (ps : List Part) → scan event_parts bytes ≡ Some (p ∷ ps) → IsBytes bytes → IsCutShort EventFits event_cells bytes
cut_by_parts bytes p ps e each = (refused EventFits event_cells (event_at Version.One) (event_meets Version.One) bytes each Fault.Short (event_follows.short bytes p ps e)).0

-- bytes that are cut short are of a record that the parts take whole, so parts are to come
parts_by_cut : (bytes : List ℕ) → IsCutShort EventFits event_cells bytes → (p : Part) × (ps : List Part) × (scan event_parts bytes ≡ Some (p ∷ ps))
parts_by_cut bytes cut =
    let record_bytes : List ℕ = bytes_of (event_cells cut.value) in
    let takes = event_follows.taken (record_bytes ++ []) cut.value [] (read_again EventFits event_cells (event_at Version.One) (event_meets Version.One) cut.value cut.fits []) in
    let is : bytes ++ cut.next ∷ cut.more ≡ takes.front = sym cut.spelled ∙ sym (append-nil record_bytes) ∙ takes.whole ∙ append-nil takes.front in
    let all : scan event_parts (bytes ++ cut.next ∷ cut.more) ≡ Some [] = ap (λ (bs : List ℕ). scan event_parts bs) is ∙ takes.scanned in
    elim (known (scan event_parts bytes)) [
      | inl some ↦
          let left : scan some.0 (cut.next ∷ cut.more) ≡ Some [] = sym (scan_append event_parts some.0 bytes (cut.next ∷ cut.more) some.1) ∙ all in
          let q = part_of some.0 (λ none. no_more cut.next cut.more [] (ap (λ (ps : List Part). scan ps (cut.next ∷ cut.more)) (sym none) ∙ left)) in
          (q.0, q.1, some.1 ∙ ap (λ (ps : List Part). Some ps) q.2)
      | inr none ↦
          let never : None ≡ Some [] = sym (scan_none event_parts bytes (cut.next ∷ cut.more) none) ∙ all in
          absurd cc
    ]

-- where no part is to come behind further bytes the record isn't cut short
pub not_cut : (front bytes : List ℕ) (to_come : ToCome) → IsBehind front to_come → IsOver (scan (all_parts to_come) bytes) → IsCutShort EventFits event_cells (front ++ bytes) → ⊥
not_cut front bytes to_come behind over cut =
    let more = parts_by_cut (front ++ bytes) cut in
    over more.0 more.1 (sym (scan_append event_parts (all_parts to_come) front bytes behind.scanned) ∙ more.2)

-- no byte was seen
pub starts_behind : (to_come : ToCome) → all_parts to_come ≡ event_parts → IsBehind [] to_come
starts_behind to_come e =
    let each : IsBytes [] = λ i d lt. absurd (omega arith) in
    record {
      each = each;
      scanned = scan_nil event_parts ∙ ap (λ (ps : List Part). Some ps) (sym e);
      cut = cut_by_parts [] (Part.Within 0 16) (Part.Cause ∷ Part.Sends ∷ Part.Commit ∷ []) (scan_nil event_parts) each;
    }

-- further bytes were seen
pub is_behind : (front bytes : List ℕ) (old new : ToCome) → IsBehind front old → IsBytes bytes → scan (all_parts old) bytes ≡ Some (all_parts new) → IsBehind (front ++ bytes) new
is_behind front bytes old new behind more e =
    let all : scan event_parts (front ++ bytes) ≡ Some (all_parts new) = scan_append event_parts (all_parts old) front bytes behind.scanned ∙ e in
    let each : IsBytes (front ++ bytes) = All-append (λ b. b < 256) front bytes behind.each more in
    record { each = each; scanned = all; cut = cut_by_parts (front ++ bytes) new.next new.others all each }

-- the bytes that are left, after a step
pub over_further : (initial old new : ToCome) (bytes rest left front : List ℕ) → bytes ≡ front ++ rest → scan (all_parts initial) front ≡ Some (all_parts old) → GoesOver (all_parts old) (all_parts new) rest left
    → (further : List ℕ) × (bytes ≡ further ++ left) × (scan (all_parts initial) further ≡ Some (all_parts new))
over_further initial old new bytes rest left front parts seen over = (
  front ++ over.front,
  parts ∙ ap (λ (bs : List ℕ). front ++ bs) over.whole ∙ sym (append_assoc front over.front left),
  scan_append (all_parts initial) (all_parts old) front over.front seen ∙ over.scanned,
)

-- what is to come behind further bytes, where some are free
after_more : (to_come : ToCome) (n : ℕ) (front more : List ℕ) → IsBehind front to_come → to_come.next ≡ Part.Free n → scan event_parts (front ++ more) ≡ scan (Part.Free n ∷ to_come.others) more
after_more to_come n front more behind free =
    scan_append event_parts (all_parts to_come) front more behind.scanned ∙ ap (λ (p : Part). scan (p ∷ to_come.others) more) free

-- with fewer bytes than are free the record is cut short
pub cut_by_patience : (to_come : ToCome) (n : ℕ) (front more : List ℕ) → IsBehind front to_come → to_come.next ≡ Part.Free n → IsBytes more → length more < max n 1 → IsCutShort EventFits event_cells (front ++ more)
cut_by_patience to_come n front more behind free each lt =
    let w = free_waits n to_come.others more lt in
    cut_by_parts (front ++ more) (Part.Free w.0) to_come.others (after_more to_come n front more behind free ∙ w.1) (All-append (λ b. b < 256) front more behind.each each)

-- with as many bytes as are free it is, where another part is to come
pub cut_by_block : (to_come : ToCome) (n : ℕ) (front more : List ℕ) → IsBehind front to_come → to_come.next ≡ Part.Free n → IsBytes more → 0 < length to_come.others → length more ≡ max n 1 → IsCutShort EventFits event_cells (front ++ more)
cut_by_block to_come n front more behind free each some count =
    let q = part_of to_come.others (λ none. absurd (omega (arith, some, ap (length {A = Part}) none))) in
    cut_by_parts (front ++ more) q.0 q.1 (after_more to_come n front more behind free ∙ scan_front n to_come.others more count ∙ ap (λ (ps : List Part). Some ps) q.2) (All-append (λ b. b < 256) front more behind.each each)

-- with at most as many bytes as are free
pub cut_within : (to_come : ToCome) (n : ℕ) (front more : List ℕ) → IsBehind front to_come → to_come.next ≡ Part.Free n → IsBytes more → 0 < length to_come.others → length more ≤ max n 1 → IsCutShort EventFits event_cells (front ++ more)
cut_within to_come n front more behind free each some le = elim (cases_lt (length more) (max n 1)) [
  | inl lt ↦ cut_by_patience to_come n front more behind free each lt
  | inr ge ↦ cut_by_block to_come n front more behind free each some (omega (arith, le, ge))
]

-- with no further byte it is cut short as before
pub cut_as_before : (to_come : ToCome) (front more : List ℕ) → IsBehind front to_come → length more < 1 → IsCutShort EventFits event_cells (front ++ more)
cut_as_before to_come front [] behind lt = subst (λ (bs : List ℕ). IsCutShort EventFits event_cells bs) (sym (append-nil front)) behind.cut
cut_as_before to_come front (b ∷ more) behind lt = absurd (omega arith)

-- no byte is left
pub ends_behind : (front bytes seen rest : List ℕ) (old new : ToCome) → IsBehind front old → IsBytes bytes → bytes ≡ seen ++ rest → length rest ≡ 0 → scan (all_parts old) seen ≡ Some (all_parts new) → IsBehind (front ++ bytes) new
ends_behind front bytes seen [] old new behind each parts none e =
    let all : bytes ≡ seen = parts ∙ append-nil seen in
    is_behind front bytes old new behind each (ap (λ (bs : List ℕ). scan (all_parts old) bs) all ∙ e)
ends_behind front bytes seen (b ∷ rest) old new behind each parts none e = absurd (omega (arith, none))

-- a step over some of the free bytes
pub goes_over_some : (old new : ToCome) (n : ℕ) (bytes : List ℕ) → old.next ≡ Part.Free n → new ≡ record { next = Part.Free (n - length bytes); others = old.others } → 0 < length bytes → length bytes < n
    → GoesOver (all_parts old) (all_parts new) bytes (take (length bytes - length bytes) (drop (length bytes) bytes))
goes_over_some old new n bytes free is some fewer =
    rw (is, free, from_place (length bytes) bytes) (over_some n old.others bytes some fewer)

-- a step over all of the free bytes
pub goes_over_all : (old new : ToCome) (n k : ℕ) (bytes : List ℕ) → old.next ≡ Part.Free n → all_parts new ≡ old.others → k ≡ max n 1 → 0 < length bytes → n ≤ length bytes
    → GoesOver (all_parts old) (all_parts new) bytes (take (length bytes - k) (drop k bytes))
goes_over_all old new n k bytes free is place some enough =
    rw (free, from_place k bytes, place) (subst (λ (ps : List Part). GoesOver (Part.Free n ∷ old.others) ps bytes (drop (max n 1) bytes)) (sym is) (over_all n old.others bytes some enough))

-- a step over one byte of another part
pub goes_over_one : (old new : ToCome) (bytes : List ℕ) → 0 < length bytes → after_first (all_parts old) (get_or bytes 0 0) ≡ Some (all_parts new)
    → GoesOver (all_parts old) (all_parts new) bytes (take (length bytes - 1) (drop 1 bytes))
goes_over_one old new bytes some e = rw (from_place 1 bytes) (over_one (all_parts old) (all_parts new) bytes some e)
