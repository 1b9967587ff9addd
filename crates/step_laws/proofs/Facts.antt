-- Facts of a host's own events by which each act stands once among the next steps.
use Rattle.std.proofs.Common.{◌≡◌, ℕ, ◌+◌, ◌≤◌, Bool, true, false, List, Some, refl, sym, ◌∙◌, subst, arith}
use Rattle.std.specs.Prelude.{◌==◌, is_some}
use Rattle.std.proofs.lemmas.Bool.{and_from, le-leb, leb-true}
use Rattle.std.proofs.lemmas.Option.{same_Some}
use Rattle.cxl_message.specs.declared.events.Act.{Act}
use Rattle.cxl_message.specs.declared.events.Event.{Event}
use Rattle.cxl_message.specs.Lists.{is_in}
use Rattle.cxl_message.specs.Spans.{covers}
use Rattle.coherence_model.specs.Cache.{is_modified}
use Rattle.coherence_model.specs.DeviceActs.{buffered_request, device_acts}
use Rattle.coherence_model.specs.DirectoryChanges.{directory}
use Rattle.coherence_model.specs.HostActs.{host_acts, is_answered_alone}
use Rattle.coherence_model.specs.Snoops.{Snoop, buffered_snoops, is_whole_block, snoop_at}
use Rattle.coherence_model.specs.Transactions.{is_open}
use Rattle.coherence_model.specs.Words.{one_if}
use Rattle.step_laws.specs.Facts.{BlocksComeFirst, HeldSnoopsAreDisjoint, HeldSnoopsFit, LinesHaveOneAct, RequestsHaveOneAct, held_snoop_fits}
use Rattle.step_laws.proofs.Counts.{all_from_each, each_find, each_weaker, list_any-count}
use Rattle.step_laws.proofs.DeviceRows.{clean_or_evict, clean_or_start, start_or_evict}
use Rattle.step_laws.proofs.HeldSnoops.{SnoopFits, held_snoops_fit}
use Rattle.step_laws.proofs.HostCounts.{alone-no-block}
use Rattle.step_laws.proofs.HostRows.{answer-holds, answer_block-holds, block-line, both_ways, conflict-open, ready_no_conflict, ready_no_write_back, write_back-holds}
use Rattle.step_laws.proofs.LoneSnoops.{held_once, snoop_at-alone}
use Rattle.step_laws.proofs.OwnRuns.{host_is_no_device}

pub held_snoops_are_disjoint : HeldSnoopsAreDisjoint
held_snoops_are_disjoint setup opening limits h host mine run a = held_once setup opening h mine (host_is_no_device setup limits h host) run a

pub held_snoops_all_fit : HeldSnoopsFit
held_snoops_all_fit setup opening limits h host mine run =
    all_from_each (held_snoop_fits setup) (buffered_snoops mine)
    (each_weaker _ _ (λ s fits. and_from _ _ (and_from _ _ fits.kind (le-leb _ _ fits.within)) (all_from_each (covers s.first s.span) s.unanswered fits.covered))
    (buffered_snoops mine) (held_snoops_fit setup opening h mine run))

-- of three tests, no two of which hold together, one holds at most
one-of_three : (x y z : Bool) → (x ≡ true → y ≡ true → ⊥) → (x ≡ true → z ≡ true → ⊥) → (y ≡ true → z ≡ true → ⊥) → one_if x + one_if y + one_if z ≤ 1
one-of_three true true z xy xz yz = absurd (xy refl refl)
one-of_three true false true xy xz yz = absurd (xz refl refl)
one-of_three true false false xy xz yz = omega arith
one-of_three false true true xy xz yz = absurd (yz refl refl)
one-of_three false true false xy xz yz = omega arith
one-of_three false false true xy xz yz = omega arith
one-of_three false false false xy xz yz = omega arith

pub lines_have_one_act : LinesHaveOneAct
lines_have_one_act setup h mine a =
    one-of_three (is_some (host_acts setup h (Act.Conflict (record { 0 = a })) mine)) (is_some (host_acts setup h (Act.WriteBack (record { 0 = a })) mine))
    (is_some (host_acts setup h (Act.Answer (record { 0 = a })) mine))
    (λ conflict written. both_ways (is_open a mine) (conflict-open setup h a mine conflict).2 (write_back-holds setup h a mine (snoop_at a mine) written).2.closed)
    (λ conflict answer. let c = conflict-open setup h a mine conflict in ready_no_conflict setup a mine
    (answer-holds setup h a mine (snoop_at a mine) answer).2 c.1 c.2)
    (λ written answer. ready_no_write_back setup a mine (answer-holds setup h a mine (snoop_at a mine) answer).2
    (write_back-holds setup h a mine (snoop_at a mine) written).2)

pub requests_have_one_act : RequestsHaveOneAct
requests_have_one_act setup opening mine h tag =
    one-of_three (is_some (device_acts setup opening (Act.Clean h tag) mine)) (is_some (device_acts setup opening (Act.Start h tag) mine))
    (is_some (device_acts setup opening (Act.Evict h tag) mine))
    (clean_or_start setup h (buffered_request h tag mine) (directory setup mine) mine)
    (clean_or_evict setup h (buffered_request h tag mine) (directory setup mine) mine)
    (start_or_evict setup h (buffered_request h tag mine) (directory setup mine) mine)

-- of three tests none of which holds, none counts
none-of_three : (x y z : Bool) → (x ≡ true → ⊥) → (y ≡ true → ⊥) → (z ≡ true → ⊥) → one_if x + one_if y + one_if z ≡ 0
none-of_three true y z nx ny nz = absurd (nx refl)
none-of_three false true z nx ny nz = absurd (ny refl)
none-of_three false false true nx ny nz = absurd (nz refl)
none-of_three false false false nx ny nz = refl

one-holds : (b : Bool) → one_if b ≡ 1 → b ≡ true
one-holds true h = refl
one-holds false h = absurd (omega arith)

pub blocks_come_first : BlocksComeFirst
blocks_come_first setup opening limits h host mine own s found block a inside =
    let other = host_is_no_device setup limits h host in
    let fits = each_find (SnoopFits setup) (is_whole_block s.first) (buffered_snoops mine) (held_snoops_fit setup opening h mine own) s found in
    let alone = each_find (λ (r : Snoop). (b : ℕ) → is_in b r.unanswered ≡ true → snoop_at b mine ≡ Some r) (is_whole_block s.first) (buffered_snoops mine)
    (snoop_at-alone setup opening h mine other own) s found in
    let may = answer_block-holds setup h s.first mine (one-holds (is_some (host_acts setup h (Act.AnswerBlock (record { 0 = s.first })) mine)) block) in
    let quiet = block-line setup a mine s found may (leb-true 1 _ (sym (list_any-count (λ b. a == b) s.unanswered) ∙ inside)) in
    none-of_three (is_some (host_acts setup h (Act.Conflict (record { 0 = a })) mine)) (is_some (host_acts setup h (Act.WriteBack (record { 0 = a })) mine))
    (is_some (host_acts setup h (Act.Answer (record { 0 = a })) mine))
    (λ conflict. both_ways (is_open a mine) (conflict-open setup h a mine conflict).2 quiet.0)
    (λ written. both_ways (is_modified setup a mine) (write_back-holds setup h a mine (snoop_at a mine) written).2.modified quiet.1)
    (λ answer.
    let says = answer-holds setup h a mine (snoop_at a mine) answer in
    let same : says.0 ≡ s = same_Some _ _ (sym says.1 ∙ alone.0 a inside) in
    alone-no-block setup s mine fits.0 (subst (λ r. is_answered_alone setup r mine ≡ true) same says.3) fits.1 may)
