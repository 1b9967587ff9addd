-- A device that stands for a list of its own events may step by each cause that it answers by an emission.
use Rattle.std.proofs.Common.{◌≡◌, ℕ, Bool, true, false, List, [], ◌∷◌, Option, Some, None, cond, find, map, refl, ap, sym, ◌∙◌, subst, arith}
use Rattle.std.specs.Prelude.{not, ◌==◌, ◌||◌}
use Rattle.std.specs.List.{list_all, range_with_len}
use Rattle.std.proofs.lemmas.Bool.{and_from, and_parts, eq-eqb, eqb-true, or_left, or_right}
use Rattle.cxl_message.specs.declared.events.Cause.{Cause}
use Rattle.cxl_message.specs.declared.events.Event.{Event}
use Rattle.cxl_message.specs.declared.identifiers.Bytes64.{Bytes64}
use Rattle.cxl_message.specs.declared.identifiers.Line.{Line}
use Rattle.cxl_message.specs.declared.opcodes.Span.{Span}
use Rattle.cxl_message.specs.Codes.{span_len}
use Rattle.cxl_message.specs.Lists.{is_in}
use Rattle.cxl_message.specs.Setup.{Configuration}
use Rattle.cxl_message.specs.Spans.{aligned}
use Rattle.coherence_lemmas.proofs.Options.{map_some}
use Rattle.coherence_model.specs.Directory.{Directory, is_busy}
use Rattle.coherence_model.specs.DirectoryChanges.{directory}
use Rattle.coherence_model.specs.Emission.{Emission}
use Rattle.coherence_model.specs.Next.{event_with}
use Rattle.coherence_model.specs.Refusals.{Answer}
use Rattle.coherence_model.specs.Traces.{device}
use Rattle.snoop_filter.specs.declared.blocks.Block.{Block}
use Rattle.snoop_filter.specs.Rows.{FilterRow}
use Rattle.snoop_filter.specs.Victims.{block_from, idle_block_around, is_idle_block, is_idle_in}
use Rattle.device_record.specs.Answers.{answer_in}
use Rattle.device_record.specs.Kept.{kept_row, kept_rows}
use Rattle.device_record.specs.Record.{DeviceRecord}
use Rattle.device_record.specs.Stands.{StandsForList}
use Rattle.device_record.specs.Steady.{IsSteady}
use Rattle.device_laws.proofs.Answers.{answer_is}
use Rattle.device_laws.proofs.FilterLookups.{idle_is}
use Rattle.device_laws.proofs.GoesOn.{stands_on}
use Rattle.device_laws.proofs.Steady.{steady_is}
use Rattle.device_changes.specs.FilterLines.{AreIdle}
use Rattle.device_changes.specs.Passing.{MayStep, VictimIsIdle}
use Rattle.device_changes.proofs.FilterLines.{block_range}
use Rattle.device_changes.proofs.Unlisted.{in_range}

-- ---- a block

all_by : (p : ℕ → Bool) (b x : ℕ) (xs : List ℕ) (c : Bool) → (b == x) ≡ c → p x ≡ true → (is_in b xs ≡ true → p b ≡ true) → c || is_in b xs ≡ true → p b ≡ true
all_by p b x xs true is here more there = ap p (eqb-true b x is) ∙ here
all_by p b x xs false is here more there = more there

all_pass : (p : ℕ → Bool) (b : ℕ) (xs : List ℕ) → list_all p xs ≡ true → is_in b xs ≡ true → p b ≡ true
all_pass p b [] all there = cc
all_pass p b (x ∷ xs) all there = let parts = and_parts (p x) (list_all p xs) all in all_by p b x xs (b == x) refl parts.0 (all_pass p b xs parts.1) there

-- each line of an idle block is idle
idle_block : (rows : List FilterRow) (first : ℕ) (span : Span) → is_idle_block rows first span ≡ true → AreIdle rows first (span_len span)
idle_block rows first span all b from low =
    all_pass (is_idle_in rows) b (range_with_len first (span_len span)) (ap (list_all (is_idle_in rows)) (sym (block_range first span)) ∙ all) (in_range first (span_len span) b from low)

one_line : (rows : List FilterRow) (a : ℕ) → is_idle_in rows a ≡ true → AreIdle rows a 1
one_line rows a idle b from low = let same : a ≡ b = omega (arith, from, low) in ap (is_idle_in rows) (sym same) ∙ idle

around_by : (rows : List FilterRow) (a : ℕ) (four two : Bool) → is_idle_block rows (aligned 4 a) Span.Four ≡ four → is_idle_block rows (aligned 2 a) Span.Two ≡ two → is_idle_in rows a ≡ true → (b : Block)
    → cond four (block_from (aligned 4 a) Span.Four) (cond two (block_from (aligned 2 a) Span.Two) (block_from a Span.One)) ≡ b → AreIdle rows b.first.0 (span_len b.span)
around_by rows a true two first second idle b is = subst (λ (x : Block). AreIdle rows x.first.0 (span_len x.span)) is (idle_block rows (aligned 4 a) Span.Four first)
around_by rows a false true first second idle b is = subst (λ (x : Block). AreIdle rows x.first.0 (span_len x.span)) is (idle_block rows (aligned 2 a) Span.Two second)
around_by rows a false false first second idle b is = subst (λ (x : Block). AreIdle rows x.first.0 (span_len x.span)) is (one_line rows a idle)

-- ---- the oldest row that isn't held

-- a row that was found is that of its line, which is an entry and isn't Busy
record Oldest (D : Directory) (xs : List ℕ) (r : FilterRow) : Type 0 where
  pub there : is_in r.line xs ≡ true
  pub free : not (is_busy D r.line) ≡ true

oldest_by : (hosts : ℕ) (D : Directory) (r : FilterRow) (x : ℕ) (xs : List ℕ) (b : Bool) → not (is_busy D x) ≡ b → (find (λ (s : FilterRow). not s.held) (map (kept_row hosts D) xs) ≡ Some r → Oldest D xs r)
    → cond b (Some (kept_row hosts D x)) (find (λ (s : FilterRow). not s.held) (map (kept_row hosts D) xs)) ≡ Some r → Oldest D (x ∷ xs) r
oldest_by hosts D r x xs true free more found =
    let same : x ≡ r.line = ap (λ (o : Option FilterRow). option_line o) found in
    record { there = or_left (r.line == x) (is_in r.line xs) (eq-eqb r.line x (sym same)); free = ap (λ n. not (is_busy D n)) (sym same) ∙ free }
  where
    option_line : Option FilterRow → ℕ
    option_line None = 0
    option_line (Some s) = s.line
oldest_by hosts D r x xs false free more found = let rest = more found in record { there = or_right (r.line == x) (is_in r.line xs) rest.there; free = rest.free }

oldest_of : (hosts : ℕ) (D : Directory) (r : FilterRow) (xs : List ℕ) → find (λ (s : FilterRow). not s.held) (map (kept_row hosts D) xs) ≡ Some r → Oldest D xs r
oldest_of hosts D r [] found = cc
oldest_of hosts D r (x ∷ xs) found = oldest_by hosts D r x xs (not (is_busy D x)) refl (oldest_of hosts D r xs) found

-- the lines of the victim are idle
victim_idle : (hosts : ℕ) (D : Directory) → VictimIsIdle (kept_rows hosts D)
victim_idle hosts D b is =
    let rows = kept_rows hosts D in
    let oldest = map_some (λ (r : FilterRow). idle_block_around rows r.line) (find (λ (r : FilterRow). not r.held) rows) b is in
    let r = oldest.x in
    let entry = oldest_of hosts D r D.entries oldest.found in
    around_by rows r.line (is_idle_block rows (aligned 4 r.line) Span.Four) (is_idle_block rows (aligned 2 r.line) Span.Two) refl refl
    (idle_is hosts D r.line ∙ and_from (is_in r.line D.entries) (not (is_busy D r.line)) entry.there entry.free) b (sym oldest.same)

-- ---- steps

-- it may step by what it answers
pub may_step : (k : DeviceRecord) (setup : Configuration) (opening : List (Line × Bytes64)) (mine : List Event) → StandsForList k setup opening mine → (cause : Cause) (w : Emission)
    → answer_in setup cause k ≡ Answer.Emits w → MayStep setup k cause w
may_step k setup opening mine stands cause w is =
    let later = stands_on k setup opening mine stands cause w (sym (answer_is setup opening mine stands.list cause) ∙ ap (answer_in setup cause) (sym stands.same) ∙ is) in
    record {
      before = subst (IsSteady setup) (sym stands.same) (steady_is setup opening mine stands.list stands.within);
      victim = subst (λ (x : DeviceRecord). VictimIsIdle x.filter.rows) (sym stands.same) (victim_idle setup.hosts (directory setup mine));
      answer = is;
      after = subst (IsSteady setup) (sym later.same) (steady_is setup opening (event_with device cause w ∷ mine) later.list later.within);
    }
