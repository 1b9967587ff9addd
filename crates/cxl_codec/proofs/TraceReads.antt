-- Whole traces: their bytes determine them.
use Rattle.std.proofs.Common.{◌≡◌, ◌≢◌, ℕ, ◌≤◌, List, [], ◌∷◌, ◌++◌, length, refl, sym, ap, subst, ◌∙◌, append_assoc, arith}
use Rattle.std.specs.List.{flat_map, AllByRecursion}
use Rattle.std.proofs.lemmas.Bool.{and_parts, leb-true}
use Rattle.cxl_message.specs.Setup.{Configuration}
use Rattle.cxl_codec.specs.declared.versions.Version.{Version}
use Rattle.cxl_message.specs.declared.identifiers.Line.{Line}
use Rattle.cxl_message.specs.declared.identifiers.Bytes64.{Bytes64}
use Rattle.cxl_message.specs.declared.events.Event.{Event}
use Rattle.cxl_codec.specs.Cells.{Cell, bytes_of}
use Rattle.cxl_codec.specs.Grammar.{HasOneSpelling}
use Rattle.cxl_codec.specs.Header.{VersionedFits, versioned_cells}
use Rattle.cxl_codec.specs.Openings.{opening_cells, OpeningFits}
use Rattle.cxl_codec.specs.NameRecord.{name_cells, NameFits}
use Rattle.cxl_codec.specs.Events.{event_cells_in, EventFitsIn}
use Rattle.cxl_codec.specs.Traces.{header_bytes_in, name_bytes, opening_bytes, event_bytes_in, end_bytes, trace_bytes_in, TraceFitsIn, TraceIsDetermined}
use Rattle.cxl_codec.specs.ReadingEvents.{event_at}
use Rattle.cxl_codec.specs.ReadingFiles.{name_at, opening_at, versioned_at}
use Rattle.cxl_codec.proofs.EventReads.{event_meets}
use Rattle.cxl_codec.proofs.FileReads.{opening_meets}
use Rattle.cxl_codec.proofs.HeaderReads.{versioned_meets}
use Rattle.cxl_codec.proofs.NameReads.{name_meets}
use Rattle.cxl_codec.proofs.OneAnswer.{one_spelling}

-- two lists with the same head and the same rest
both_cons : {A : Type 0} (x y : A) (xs ys : List A) → x ≡ y → xs ≡ ys → x ∷ xs ≡ y ∷ ys
both_cons x y xs ys e f = ap (λ z. z ∷ xs) e ∙ ap (λ zs. y ∷ zs) f

-- bytes that don't begin with this byte
record StartsOtherThan (byte : ℕ) (xs : List ℕ) : Type 0 where
  first : ℕ
  rest : List ℕ
  parts : xs ≡ first ∷ rest
  other : first ≢ byte

module _ {V : Type 0} (Fits : V → Type 0) (cells_of : V → List Cell) (byte : ℕ) (begins : (v : V) → List ℕ) (first : (v : V) → bytes_of (cells_of v) ≡ byte ∷ begins v) (one : HasOneSpelling Fits cells_of) where
  -- the bytes of some records that all begin with a byte
  spelled : List V → List ℕ
  spelled vs = flat_map (λ v. bytes_of (cells_of v)) vs

  -- records before anything that begins otherwise are determined by their bytes
  records_same : (vs ws : List V) (xs ys : List ℕ) → AllByRecursion Fits vs → AllByRecursion Fits ws → StartsOtherThan byte xs → StartsOtherThan byte ys
      → flat_map (λ v. bytes_of (cells_of v)) vs ++ xs ≡ flat_map (λ v. bytes_of (cells_of v)) ws ++ ys → (vs ≡ ws) × (xs ≡ ys)
  records_same [] [] xs ys fv fw sx sy e = (refl, e)
  records_same [] (w ∷ ws) xs ys fv fw sx sy e =
      let grouped : sx.first ∷ sx.rest ≡ bytes_of (cells_of w) ++ (flat_map (λ v. bytes_of (cells_of v)) ws ++ ys) = sym sx.parts ∙ e ∙ append_assoc (bytes_of (cells_of w)) (flat_map (λ v. bytes_of (cells_of v)) ws) ys in
      let heads : sx.first ∷ sx.rest ≡ (byte ∷ begins w) ++ (flat_map (λ v. bytes_of (cells_of v)) ws ++ ys) = grouped ∙ ap (λ front. front ++ (flat_map (λ v. bytes_of (cells_of v)) ws ++ ys)) (first w) in
      absurd (sx.other cc)
  records_same (v ∷ vs) [] xs ys fv fw sx sy e =
      let grouped : sy.first ∷ sy.rest ≡ bytes_of (cells_of v) ++ (flat_map (λ v. bytes_of (cells_of v)) vs ++ xs) = sym sy.parts ∙ sym e ∙ append_assoc (bytes_of (cells_of v)) (flat_map (λ v. bytes_of (cells_of v)) vs) xs in
      let heads : sy.first ∷ sy.rest ≡ (byte ∷ begins v) ++ (flat_map (λ v. bytes_of (cells_of v)) vs ++ xs) = grouped ∙ ap (λ front. front ++ (flat_map (λ v. bytes_of (cells_of v)) vs ++ xs)) (first v) in
      absurd (sy.other cc)
  records_same (v ∷ vs) (w ∷ ws) xs ys fv fw sx sy e =
      let grouped : bytes_of (cells_of v) ++ (flat_map (λ v. bytes_of (cells_of v)) vs ++ xs) ≡ bytes_of (cells_of w) ++ (flat_map (λ v. bytes_of (cells_of v)) ws ++ ys) =
      sym (append_assoc (bytes_of (cells_of v)) (flat_map (λ v. bytes_of (cells_of v)) vs) xs) ∙ e ∙ append_assoc (bytes_of (cells_of w)) (flat_map (λ v. bytes_of (cells_of v)) ws) ys in
      let head = one v w (flat_map (λ v. bytes_of (cells_of v)) vs ++ xs) (flat_map (λ v. bytes_of (cells_of v)) ws ++ ys) fv.0 fw.0 grouped in
      let rest = records_same vs ws xs ys fv.1 fw.1 sx sy head.1 in
      (both_cons v w vs ws head.0 rest.0, rest.1)

-- openings before anything else are determined by their bytes
openings_same : (os ps : List (Line × Bytes64)) (xs ys : List ℕ) → AllByRecursion OpeningFits os → AllByRecursion OpeningFits ps → StartsOtherThan 0xf0 xs → StartsOtherThan 0xf0 ys
    → flat_map opening_bytes os ++ xs ≡ flat_map opening_bytes ps ++ ys → (os ≡ ps) × (xs ≡ ys)
openings_same = records_same OpeningFits opening_cells 0xf0 _ (λ o. refl) (one_spelling OpeningFits opening_cells opening_at opening_meets)

-- and so are names
names_same : (ns ms : List (ℕ × List ℕ)) (xs ys : List ℕ) → AllByRecursion NameFits ns → AllByRecursion NameFits ms → StartsOtherThan 0xf1 xs → StartsOtherThan 0xf1 ys
    → flat_map name_bytes ns ++ xs ≡ flat_map name_bytes ms ++ ys → (ns ≡ ms) × (xs ≡ ys)
names_same = records_same NameFits name_cells 0xf1 _ (λ n. refl) (one_spelling NameFits name_cells name_at name_meets)

module _ (version : Version) where
  -- an event's record begins with its agent, which is at most 16
  agent_small : (e : Event) → EventFitsIn version e → e.agent ≤ 16
  agent_small e fits =
      let last = and_parts _ _ fits.formed in
      let third = and_parts _ _ last.0 in
      let second = and_parts _ _ third.0 in
      leb-true _ _ second.0

  -- events and the end record behind them
  abbrev ended : List Event → ℕ → List ℕ
  ended es n = flat_map (event_bytes_in version) es ++ end_bytes n

  -- the bytes of events with their end record determine the events
  events_same : (es fs : List Event) (n m : ℕ) → AllByRecursion (EventFitsIn version) es → AllByRecursion (EventFitsIn version) fs → ended es n ≡ ended fs m → es ≡ fs
  events_same [] [] n m fe ff e = refl
  events_same [] (f ∷ fs) n m fe ff e =
      let head : 255 ≡ f.agent = cc in
      absurd (omega (arith, agent_small f ff.0))
  events_same (e ∷ es) [] n m fe ff same =
      let head : e.agent ≡ 255 = cc in
      absurd (omega (arith, agent_small e fe.0))
  events_same (e ∷ es) (f ∷ fs) n m fe ff same =
      let grouped : event_bytes_in version e ++ ended es n ≡ event_bytes_in version f ++ ended fs m =
      sym (append_assoc (event_bytes_in version e) (flat_map (event_bytes_in version) es) (end_bytes n)) ∙ same ∙ append_assoc (event_bytes_in version f) (flat_map (event_bytes_in version) fs) (end_bytes m) in
      let first = one_spelling (EventFitsIn version) (event_cells_in version) (event_at version) (event_meets version) e f (ended es n) (ended fs m) fe.0 ff.0 grouped in
      both_cons e f es fs first.0 (events_same es fs n m fe.1 ff.1 first.1)

  -- events with their end record begin with no opening record and no name record
  starts : (byte : ℕ) (es : List Event) (n : ℕ) → 16 ≤ byte → byte ≢ 16 → byte ≢ 255 → AllByRecursion (EventFitsIn version) es → StartsOtherThan byte (ended es n)
  starts byte [] n above other end fits = record { first = 255; rest = _; parts = refl; other = λ e. end (sym e) }
  starts byte (f ∷ fs) n above other end fits = record { first = f.agent; rest = _; parts = refl; other = λ e. other (omega (arith, e, above, agent_small f fits.0)) }

  -- nor do openings before them begin with a name record
  starts_unnamed : (os : List (Line × Bytes64)) (es : List Event) (n : ℕ) → AllByRecursion (EventFitsIn version) es → StartsOtherThan 0xf1 (flat_map opening_bytes os ++ ended es n)
  starts_unnamed [] es n fits = starts 0xf1 es n (omega arith) (λ e. omega (arith, e)) (λ e. omega (arith, e)) fits
  starts_unnamed (o ∷ os) es n fits = record { first = 0xf0; rest = _; parts = refl; other = λ e. omega (arith, e) }

  -- a trace, part by part
  regrouped : (s : Configuration) (ns : List (ℕ × List ℕ)) (os : List (Line × Bytes64)) (es : List Event) → trace_bytes_in version s ns os es ≡ header_bytes_in version s ++ (flat_map name_bytes ns ++ (flat_map opening_bytes os ++ ended es (length es)))
  regrouped s ns os es =
      append_assoc (header_bytes_in version s ++ (flat_map name_bytes ns ++ flat_map opening_bytes os)) (flat_map (event_bytes_in version) es) (end_bytes (length es))
      ∙ append_assoc (header_bytes_in version s) (flat_map name_bytes ns ++ flat_map opening_bytes os) (ended es (length es))
      ∙ ap (λ rest. header_bytes_in version s ++ rest) (append_assoc (flat_map name_bytes ns) (flat_map opening_bytes os) (ended es (length es)))

  -- what stands behind the header
  abbrev behind : List (ℕ × List ℕ) → List (Line × Bytes64) → List Event → List ℕ
  behind ns os es = flat_map name_bytes ns ++ (flat_map opening_bytes os ++ ended es (length es))

  -- what stands behind the header determines names, openings and events
  behind_same : (s t : Configuration) (ns ms : List (ℕ × List ℕ)) (os ps : List (Line × Bytes64)) (es fs : List Event) → TraceFitsIn version s ns os es → TraceFitsIn version t ms ps fs
      → behind ns os es ≡ behind ms ps fs → (ns ≡ ms) × (os ≡ ps) × (es ≡ fs)
  behind_same s t ns ms os ps es fs fit gift e =
      let names = names_same ns ms _ _ fit.each_name gift.each_name (starts_unnamed os es (length es) fit.each_event) (starts_unnamed ps fs (length fs) gift.each_event) e in
      let opened = openings_same os ps _ _ fit.each_opening gift.each_opening (starts 0xf0 es (length es) (omega arith) (λ e. omega (arith, e)) (λ e. omega (arith, e)) fit.each_event) (starts 0xf0 fs (length fs) (omega arith) (λ e. omega (arith, e)) (λ e. omega (arith, e)) gift.each_event) names.1 in
      (names.0, opened.0, events_same es fs (length es) (length fs) fit.each_event gift.each_event opened.1)

-- the bytes of a trace determine it
pub determined : TraceIsDetermined
determined v w s t ns ms os ps es fs fit gift e =
    let whole : header_bytes_in v s ++ behind v ns os es ≡ header_bytes_in w t ++ behind w ms ps fs = sym (regrouped v s ns os es) ∙ e ∙ regrouped w t ms ps fs in
    let head = one_spelling VersionedFits versioned_cells versioned_at versioned_meets (v, s) (w, t) (behind v ns os es) (behind w ms ps fs) fit.limits gift.limits whole in
    let versions : v ≡ w = ap (λ (h : Version × Configuration). h.0) head.0 in
    let gifts : TraceFitsIn v t ms ps fs = subst (λ (u : Version). TraceFitsIn u t ms ps fs) (sym versions) gift in
    let rest : behind v ns os es ≡ behind v ms ps fs = subst (λ (u : Version). behind v ns os es ≡ behind u ms ps fs) (sym versions) head.1 in
    let parts = behind_same v s t ns ms os ps es fs fit gifts rest in
    (versions, ap (λ (h : Version × Configuration). h.1) head.0, parts.0, parts.1, parts.2)
