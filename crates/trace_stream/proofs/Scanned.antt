-- An event record that is cut short, where an event may come next.
use Rattle.std.proofs.Common.{◌≡◌, ℕ, ◌+◌, ◌-◌, ◌<◌, ◌≤◌, arith, ap, append_assoc, get_or, [], ◌∙◌, drop, List, Option, Some, None, true, false, Ok, Err, refl, sym, subst, ◌++◌, length, take}
use Rattle.std.specs.Prelude.{All}
use Rattle.std.proofs.lemmas.List.Elements.{All-append, All-take, All-from_get_or}
use Rattle.std.proofs.lemmas.List.{append-nil, take-append-le, take-append-drop, take_all, drop-drop, length-drop}
use Rattle.std.specs.Option.{is_some}
use Rattle.cxl_codec.specs.declared.refusals.DecodeRefusal.{DecodeRefusal}
use Rattle.cxl_codec.specs.declared.versions.Version.{Version}
use Rattle.cxl_codec.specs.Openings.{opening_cells, OpeningFits}
use Rattle.cxl_codec.specs.Events.{event_cells, EventFits}
use Rattle.cxl_codec.specs.Grammar.{IsCutShort}
use Rattle.event_scan.specs.Scanning.{ToCome, IsBehind}
use Rattle.trace_stream.specs.declared.items.Item.{Item}
use Rattle.trace_stream.specs.declared.items.TraceFault.{TraceFault}
use Rattle.trace_stream.specs.Readings.{Reading, Repeats, Answered, IsQuiet}
use Rattle.trace_stream.specs.declared.stages.Stage.{Stage}
use Rattle.trace_stream.specs.Items.{Says, takes_events, takes_openings}

-- more is to come of the record
pub cut_says : (stage : Stage) (place : ℕ) (bytes : List ℕ) → takes_events stage ≡ true → IsCutShort EventFits event_cells bytes → Says stage place bytes (Ok Item.More)
cut_says Stage.Start place bytes takes cut = absurd cc
cut_says (Stage.Names streams lines next) place bytes takes cut = absurd cc
cut_says (Stage.Openings Version.One lines next) place bytes takes cut = record {
  answer = Err DecodeRefusal.Short;
  answered = record { value = Item.Event cut.value; fits = cut.fits; next = cut.next; more = cut.more; spelled = cut.spelled };
  comes_to = refl;
}
cut_says (Stage.Openings Version.Two lines next) place bytes takes cut = absurd cc
cut_says (Stage.Events Version.One count) place bytes takes cut = record {
  answer = Err DecodeRefusal.Short;
  answered = record { value = Item.Event cut.value; fits = cut.fits; next = cut.next; more = cut.more; spelled = cut.spelled };
  comes_to = refl;
}
cut_says (Stage.Events Version.Two count) place bytes takes cut = absurd cc
cut_says (Stage.Ended count) place bytes takes cut = absurd cc

-- what was scanned stays in front
pub stays_behind : (scanned : ℕ) (waiting more : List ℕ) (to_come : ToCome) → scanned ≤ length waiting → IsBehind (take scanned waiting) to_come → IsBehind (take scanned (waiting ++ more)) to_come
stays_behind scanned waiting more to_come le behind = subst (λ (bs : List ℕ). IsBehind bs to_come) (sym (take-append-le scanned waiting more le)) behind

-- all that waits was scanned, with what came since
pub behind_all : (items seen : List ℕ) (start scanned from most count : ℕ) (to_come : ToCome) → seen ≡ items → from ≡ start + scanned → length items - from ≤ most → start ≤ length items → count ≡ length items - start
    → IsBehind (take scanned (drop start items) ++ take most (drop from seen)) to_come → IsBehind (take count (drop start items)) to_come
behind_all items seen start scanned from most count to_come same place enough within all behind =
    let rest : take most (drop from seen) ≡ drop scanned (drop start items) =
    rw (same, place) (take_all most (drop (start + scanned) items) (omega (arith, length-drop (start + scanned) items, place, enough)) ∙ sym (drop-drop scanned start items)) in
    let whole : take scanned (drop start items) ++ take most (drop from seen) ≡ drop start items = ap (λ (bs : List ℕ). take scanned (drop start items) ++ bs) rest ∙ take-append-drop scanned (drop start items) in
    subst (λ (bs : List ℕ). IsBehind bs to_come) (whole ∙ sym (take_all count (drop start items) (omega (arith, length-drop start items, all)))) behind

-- where no fault was met, more is to come
repeats_more : (fault : Option TraceFault) (says : Type 0) → is_some fault ≡ false → says → Repeats fault says (Ok Item.More)
repeats_more None says none holds = holds
repeats_more (Some f) says none holds = absurd cc

-- an event record that is cut short waits
pub cut_answered : (reading : Reading) → is_some reading.fault ≡ false → takes_events reading.stage ≡ true → IsCutShort EventFits event_cells reading.waiting → Answered reading (Ok Item.More)
cut_answered reading none takes cut = repeats_more reading.fault (Says reading.stage reading.place reading.waiting (Ok Item.More)) none (cut_says reading.stage reading.place reading.waiting takes cut)

-- an event record waits that is cut short, whatever comes up to a number of bytes
pub quiet_from : (reading : Reading) (below : ℕ) → is_some reading.fault ≡ false → takes_events reading.stage ≡ true
    → ((more : List ℕ) → All (λ b. b < 256) more → length (reading.waiting ++ more) < below → IsCutShort EventFits event_cells (reading.waiting ++ more)) → IsQuiet reading below
quiet_from reading below none takes cut more each fewer = cut_answered (record reading { waiting = reading.waiting ++ more }) none takes (cut more each fewer)

-- more bytes were fed
pub quiet_still : (reading : Reading) (below : ℕ) (fed : List ℕ) → All (λ b. b < 256) fed → IsQuiet reading below → IsQuiet (record reading { waiting = reading.waiting ++ fed }) below
quiet_still reading below fed each quiet more others fewer =
    let both : List ℕ = fed ++ more in
    let all : Answered (record reading { waiting = reading.waiting ++ (fed ++ more) }) (Ok Item.More) =
    quiet (fed ++ more) (All-append (λ b. b < 256) fed more each others) (omega (arith, ap (length {A = ℕ}) (append_assoc reading.waiting fed more), fewer)) in
    subst (λ (bs : List ℕ). Answered (record reading { waiting = bs }) (Ok Item.More)) (sym (append_assoc reading.waiting fed more)) all

-- nothing more has to come for that
pub quiet_now : (reading : Reading) (below : ℕ) → IsQuiet reading below → length reading.waiting < below → Answered reading (Ok Item.More)
quiet_now reading below quiet fewer =
    subst (λ (bs : List ℕ). Answered (record reading { waiting = bs }) (Ok Item.More)) (append-nil reading.waiting)
    (quiet [] (λ i d lt. absurd (omega arith)) (omega (arith, ap (length {A = ℕ}) (append-nil reading.waiting), fewer)))

-- bytes of a slice
pub piece_bytes : (n : ℕ) (piece : List ℕ) → ((i : ℕ) → get_or piece i 0 < 256) → All (λ b. b < 256) (take n piece)
piece_bytes n piece each = All-take (λ b. b < 256) n piece (All-from_get_or (λ b. b < 256) piece 0 (λ i lt. each i))

-- an opening record that is cut short, where an opening may come next
opening_says : (stage : Stage) (place : ℕ) (bytes : List ℕ) → takes_openings stage ≡ true → IsCutShort OpeningFits opening_cells bytes → Says stage place bytes (Ok Item.More)
opening_says Stage.Start place bytes takes cut = absurd cc
opening_says (Stage.Names streams lines next) place bytes takes cut = record {
  answer = Err DecodeRefusal.Short;
  answered = record { value = Item.Opened cut.value.0 cut.value.1; fits = cut.fits; next = cut.next; more = cut.more; spelled = cut.spelled };
  comes_to = refl;
}
opening_says (Stage.Openings version lines next) place bytes takes cut = record {
  answer = Err DecodeRefusal.Short;
  answered = record { value = Item.Opened cut.value.0 cut.value.1; fits = cut.fits; next = cut.next; more = cut.more; spelled = cut.spelled };
  comes_to = refl;
}
opening_says (Stage.Events version count) place bytes takes cut = absurd cc
opening_says (Stage.Ended count) place bytes takes cut = absurd cc

-- an opening record waits that is cut short, whatever comes up to a number of bytes
pub quiet_opening : (reading : Reading) (below : ℕ) → is_some reading.fault ≡ false → takes_openings reading.stage ≡ true
    → ((more : List ℕ) → All (λ b. b < 256) more → length (reading.waiting ++ more) < below → IsCutShort OpeningFits opening_cells (reading.waiting ++ more)) → IsQuiet reading below
quiet_opening reading below none takes cut more each fewer =
    repeats_more reading.fault (Says reading.stage reading.place (reading.waiting ++ more) (Ok Item.More)) none (opening_says reading.stage reading.place (reading.waiting ++ more) takes (cut more each fewer))
