-- Stages, busy lines, conflicts and the write-back after each event: what the record's words make of the tables before.
use Rattle.coherence_model.specs.OwnerFacts.{is_writing}
use Rattle.std.proofs.Common.{Bool, List, None, Option, Some, [], ap, cond, false, find, map, refl, sym, true, ℕ, ◌<◌, ◌∙◌, ◌∷◌, ◌≡◌, ◌≤◌}
use Rattle.std.proofs.lemmas.Bool.{both_ways, cond-false, cond-true, eq-eqb, eqb-false, eqb-true, false≢true, le-leb, ne_eqb, not-true}
use Rattle.std.proofs.lemmas.Option.{same_Some}
use Rattle.std.specs.List.{list_all}
use Rattle.std.specs.Option.{option_flatten, option_map_or}
use Rattle.std.specs.Prelude.{is_some, nat_le, not, option_map, slice_set, unwrap_or, ◌&&◌, ◌==◌, ◌||◌}
use Rattle.cxl_message.specs.declared.events.Act.{Act}
use Rattle.cxl_message.specs.declared.events.Event.{Event}
use Rattle.cxl_message.specs.declared.identifiers.BiTag.{BiTag}
use Rattle.cxl_message.specs.declared.identifiers.Line.{Line}
use Rattle.cxl_message.specs.declared.messages.Message.{Message}
use Rattle.cxl_message.specs.declared.opcodes.NdrOp.{NdrOp}
use Rattle.cxl_message.specs.declared.opcodes.SnpOp.{SnpOp}
use Rattle.cxl_message.specs.declared.opcodes.Span.{Span}
use Rattle.cxl_message.specs.Lists.{below, is_in}
use Rattle.cxl_message.specs.Setup.{Configuration}
use Rattle.cxl_message.specs.Spans.{covers, lines_of}
use Rattle.coherence_model.specs.Snoops.{Snoop, buffered_snoops, is_quiet, is_snooped}
use Rattle.coherence_model.specs.Stages.{Stage, conflict_end, is_new, stage, stage_after_ack, stage_after_completion, was_completed}
use Rattle.coherence_model.specs.Tags.{is_conflict_open, tagged_line}
use Rattle.coherence_model.specs.Transactions.{Transaction, is_open, open_at}
use Rattle.coherence_model.specs.WriteBacks.{is_write_back_open}
use Rattle.coherence_model.specs.HostActs.{may_answer_block, may_answer_in_block}
use Rattle.request_laws.proofs.Counts.{all_holds, any_counts}
use Rattle.coherence_model.specs.Snoops.{whole_block_at}
use Rattle.request_laws.proofs.BufferedSnoops.{snooped-total, total}
use Rattle.request_laws.proofs.Conflicts.{ConflictsAre}
use Rattle.request_laws.proofs.WriteBacks.{WritesAre}
use Rattle.host_laws.proofs.Events.{act_event, take_event}
use Rattle.host_laws.proofs.HostEvents.{ndr}
use Rattle.host_laws.proofs.Keeps.{Keeps}
use Rattle.host_laws.proofs.Lookups.{line_tag_is, open_is}
use Rattle.host_laws.proofs.Opens.{snoop_open}
use Rattle.host_laws.proofs.SnoopLists.{answer_has, block_has, covers_is_in, has_appended, has_line}
use Rattle.host_laws.proofs.TableLemmas.{found_alone, found_none, get_table, set_all_where, set_where}
use Rattle.host_laws.proofs.WaySteps.{block_closed, in_block}
use Rattle.host_record.specs.HostChanges.{block_lines}
use Rattle.host_record.specs.HostRecord.{open_in}
use Rattle.host_record.specs.Stands.{kept_host}
use Rattle.host_record.specs.Tables.{lookup, set_all, set_at}

-- the tables
abbrev pub stages_of : Configuration → List Event → List Stage
stages_of setup mine = map (λ a. stage setup a mine) (below setup.lines)

abbrev pub busy_of : Configuration → List Event → List Bool
busy_of setup mine = map (λ a. not (is_quiet a mine)) (below setup.lines)

abbrev pub conflicts_of : Configuration → List Event → List Bool
conflicts_of setup mine = map (λ t. is_conflict_open t mine) (below setup.tags)

abbrev pub writing_of : Configuration → List Event → Option ℕ
writing_of setup mine = find (λ a. is_writing (stage setup a mine)) (below setup.lines)

-- the line of the write-back where the same stages are Writing
pub same_writing : (setup : Configuration) (mine : List Event) (f : ℕ → Stage) → ((a : ℕ) → is_writing (f a) ≡ is_writing (stage setup a mine)) → find (λ a. is_writing (f a)) (below setup.lines) ≡ writing_of setup mine
same_writing setup mine f same = ap (λ (p : ℕ → Bool). find p (below setup.lines)) (λ j a. same a j)

-- busy lines by what is open and what is snooped
pub busy_by : (setup : Configuration) (e : Event) (mine : List Event) (open_now snooped : ℕ → Bool) → ((a : ℕ) → is_open a (e ∷ mine) ≡ open_now a) → ((a : ℕ) → is_snooped a (e ∷ mine) ≡ snooped a)
    → (a : ℕ) → not (is_quiet a (e ∷ mine)) ≡ not (not (open_now a) && not (snooped a))
busy_by setup e mine open_now snooped opens snoops a = ap (λ b. not (not b && not (is_snooped a (e ∷ mine)))) (opens a) ∙ ap (λ b. not (not (open_now a) && not b)) (snoops a)

snooped_not_writing : (setup : Configuration) (a : ℕ) (mine : List Event) → WritesAre setup mine → is_snooped a mine ≡ false → (st : Stage) → stage setup a mine ≡ st → is_writing st ≡ false
snooped_not_writing setup a mine k out Stage.New is = refl
snooped_not_writing setup a mine k out (Stage.Asked t) is = refl
snooped_not_writing setup a mine k out Stage.Early is = refl
snooped_not_writing setup a mine k out Stage.Late is = refl
snooped_not_writing setup a mine k out Stage.Writing is =
    let some = (k.written a is).snooped in
    absurd (both_ways (is_snooped a mine) out (snooped-total a (buffered_snoops mine) ∙ one_or_more (total a (buffered_snoops mine)) some))
  where
    one_or_more : (n : ℕ) → 1 ≤ n → nat_le 1 n ≡ true
    one_or_more n h = le-leb 1 n h
snooped_not_writing setup a mine k out Stage.Written is = refl

-- H4: a snoop is taken

pub snoop_stages : (setup : Configuration) (h : ℕ) (op : SnpOp) (bitag : BiTag) (line : Line) (span : Span) (mine : List Event)
    → stages_of setup (take_event h (Message.BiSnp op bitag line span) None ∷ mine) ≡ set_all (lines_of line.0 span) Stage.New (stages_of setup mine)
snoop_stages setup h op bitag line span mine =
    set_all_where (lines_of line.0 span) (λ a. stage setup a mine) (λ a. stage setup a (take_event h (Message.BiSnp op bitag line span) None ∷ mine)) setup.lines Stage.New
    (λ a. ap (λ b. cond b Stage.New (stage setup a mine)) (covers_is_in line.0 a span))

all_out : (mine : List Event) (a : ℕ) (xs : List ℕ) → list_all (λ b. not (is_snooped b mine)) xs ≡ true → is_in a xs ≡ true → is_snooped a mine ≡ false
all_out mine a xs out there = not-true _ (all_holds (λ b. not (is_snooped b mine)) a xs out (any_counts (λ y. a == y) xs there))

pub snoop_busy : (setup : Configuration) (h : ℕ) (op : SnpOp) (bitag : BiTag) (line : Line) (span : Span) (mine : List Event)
    → busy_of setup (take_event h (Message.BiSnp op bitag line span) None ∷ mine) ≡ set_all (lines_of line.0 span) true (busy_of setup mine)
snoop_busy setup h op bitag line span mine =
    let e = take_event h (Message.BiSnp op bitag line span) None in
    let s : Snoop = record { op = op; first = line.0; span = span; unanswered = lines_of line.0 span } in
    set_all_where (lines_of line.0 span) (λ a. not (is_quiet a mine)) (λ a. not (is_quiet a (e ∷ mine))) setup.lines true
    (λ a. busy_by setup e mine (λ b. is_open b mine) (λ b. is_snooped b mine || is_in b (lines_of line.0 span)) (λ b. ap is_some (snoop_open h op bitag line span None mine b)) (λ b. has_appended b (buffered_snoops mine) s) a
    ∙ by (is_open a mine) (is_snooped a mine) (is_in a (lines_of line.0 span)))
  where
    by : (o s c : Bool) → not (not o && not (s || c)) ≡ cond c true (not (not o && not s))
    by true s true = refl
    by true s false = refl
    by false true true = refl
    by false true false = refl
    by false false true = refl
    by false false false = refl

pub snoop_writing : (setup : Configuration) (h : ℕ) (op : SnpOp) (bitag : BiTag) (line : Line) (span : Span) (mine : List Event) → WritesAre setup mine
    → list_all (λ a. not (is_snooped a mine)) (lines_of line.0 span) ≡ true → writing_of setup (take_event h (Message.BiSnp op bitag line span) None ∷ mine) ≡ writing_of setup mine
snoop_writing setup h op bitag line span mine k out =
    same_writing setup mine (λ a. stage setup a (take_event h (Message.BiSnp op bitag line span) None ∷ mine)) (λ a. by a (covers line.0 span a) refl)
  where
    by : (a : ℕ) (b : Bool) → covers line.0 span a ≡ b → is_writing (cond b Stage.New (stage setup a mine)) ≡ is_writing (stage setup a mine)
    by a true is = sym (snooped_not_writing setup a mine k (all_out mine a (lines_of line.0 span) out (sym (covers_is_in line.0 a span) ∙ is)) (stage setup a mine) refl)
    by a false is = refl

-- H5: a conflict ends

abbrev pub ack_event : ℕ → ℕ → Event
ack_event h tag = take_event h (ndr NdrOp.ConflictAck tag) None

pub ack_conflicts : (setup : Configuration) (h tag : ℕ) (mine : List Event) → conflicts_of setup (ack_event h tag ∷ mine) ≡ slice_set (conflicts_of setup mine) tag false
ack_conflicts setup h tag mine =
    set_where (λ t. is_conflict_open t mine) (λ t. is_conflict_open t (ack_event h tag ∷ mine)) setup.tags tag false (λ t. by (tag == t) (is_conflict_open t mine))
  where
    by : (b c : Bool) → (not b && c) ≡ cond b false c
    by true c = refl
    by false c = refl

-- the line whose conflict is open with a tag
pub record Asked (setup : Configuration) (tag l : ℕ) (mine : List Event) : Type 0 where
  pub is : stage setup l mine ≡ Stage.Asked tag
  pub named : tagged_line tag mine ≡ Some l
  pub low : tag < setup.tags
  pub line : l < setup.lines

pub asked_line : (setup : Configuration) (tag : ℕ) (mine : List Event) → ConflictsAre setup mine → is_conflict_open tag mine ≡ true → (l : ℕ) × Asked setup tag l mine
asked_line setup tag mine k is =
    let found = k.found tag is in
    let asks = k.asked found.0 tag found.1 in
    (found.0, record { is = found.1; named = asks.named; low = asks.tag; line = asks.line })

ack_stage_by : (setup : Configuration) (tag l a : ℕ) (mine : List Event) (here : Bool) (st : Stage) → ConflictsAre setup mine → Asked setup tag l mine → (l == a) ≡ here → stage setup a mine ≡ st
    → stage_after_ack tag a mine st ≡ cond here (conflict_end (open_at l mine)) st
ack_stage_by setup tag l a mine true st k asks same is =
    let e = eqb-true l a same in
    let was : st ≡ Stage.Asked tag = sym is ∙ ap (λ x. stage setup x mine) (sym e) ∙ asks.is in
    ap (stage_after_ack tag a mine) was ∙ cond-true (tag == tag) (conflict_end (open_at a mine)) (Stage.Asked tag) (eq-eqb tag tag refl) ∙ ap (λ x. conflict_end (open_at x mine)) (sym e)
ack_stage_by setup tag l a mine false Stage.New k asks other is = refl
ack_stage_by setup tag l a mine false (Stage.Asked t) k asks other is =
    cond-false (t == tag) (conflict_end (open_at a mine)) (Stage.Asked t)
    (ne_eqb t tag (λ same. eqb-false l a other (same_Some l a (sym asks.named ∙ ap (λ x. tagged_line x mine) (sym same) ∙ (k.asked a t is).named))))
ack_stage_by setup tag l a mine false Stage.Early k asks other is = refl
ack_stage_by setup tag l a mine false Stage.Late k asks other is = refl
ack_stage_by setup tag l a mine false Stage.Writing k asks other is = refl
ack_stage_by setup tag l a mine false Stage.Written k asks other is = refl

-- the line that a tag took last, by the record
pub tag_line_is : (setup : Configuration) (h tag l : ℕ) (mine : List Event) → tag < setup.tags → tagged_line tag mine ≡ Some l → lookup (kept_host setup h mine).tag_lines tag ≡ Some l
tag_line_is setup h tag l mine low named = ap option_flatten (get_table (λ t. tagged_line t mine) setup.tags tag low) ∙ named

pub ack_stages : (setup : Configuration) (h tag : ℕ) (mine : List Event) → Keeps setup mine → is_conflict_open tag mine ≡ true
    → stages_of setup (ack_event h tag ∷ mine)
    ≡ set_at (lookup (kept_host setup h mine).tag_lines tag) (option_map_or (λ a. conflict_end (open_in (kept_host setup h mine) a)) (lookup (kept_host setup h mine).tag_lines tag) Stage.New) (stages_of setup mine)
ack_stages setup h tag mine k is =
    let asks = asked_line setup tag mine k.conflicts is in
    set_where (λ a. stage setup a mine) (λ a. stage setup a (ack_event h tag ∷ mine)) setup.lines asks.0 (conflict_end (open_at asks.0 mine))
    (λ a. ack_stage_by setup tag asks.0 a mine (asks.0 == a) (stage setup a mine) k.conflicts asks.1 refl refl)
    ∙ ap (λ x. slice_set (stages_of setup mine) asks.0 (conflict_end x)) (sym (open_is setup h mine k.back asks.0))
    ∙ ap (λ x. set_at x (option_map_or (λ a. conflict_end (open_in (kept_host setup h mine) a)) x Stage.New) (stages_of setup mine)) (sym (tag_line_is setup h tag asks.0 mine asks.1.low asks.1.named))

ends_not_writing : (x : Option Transaction) → is_writing (conflict_end x) ≡ false
ends_not_writing x = by (was_completed x)
  where
    by : (b : Bool) → is_writing (cond b Stage.Late Stage.Early) ≡ false
    by true = refl
    by false = refl

ack_writing_by : (tag a : ℕ) (mine : List Event) (st : Stage) → is_writing (stage_after_ack tag a mine st) ≡ is_writing st
ack_writing_by tag a mine Stage.New = refl
ack_writing_by tag a mine (Stage.Asked t) = by (t == tag)
  where
    by : (b : Bool) → is_writing (cond b (conflict_end (open_at a mine)) (Stage.Asked t)) ≡ false
    by true = ends_not_writing (open_at a mine)
    by false = refl
ack_writing_by tag a mine Stage.Early = refl
ack_writing_by tag a mine Stage.Late = refl
ack_writing_by tag a mine Stage.Writing = refl
ack_writing_by tag a mine Stage.Written = refl

pub ack_writing : (setup : Configuration) (h tag : ℕ) (mine : List Event) → writing_of setup (ack_event h tag ∷ mine) ≡ writing_of setup mine
ack_writing setup h tag mine = same_writing setup mine (λ a. stage setup a (ack_event h tag ∷ mine)) (λ a. ack_writing_by tag a mine (stage setup a mine))

-- busy lines stay where what is open and what is snooped stays
pub busy_stays : (setup : Configuration) (e : Event) (mine : List Event) → ((a : ℕ) → open_at a (e ∷ mine) ≡ open_at a mine) → buffered_snoops (e ∷ mine) ≡ buffered_snoops mine → busy_of setup (e ∷ mine) ≡ busy_of setup mine
busy_stays setup e mine opens snoops =
    ap (λ (f : ℕ → Bool). map f (below setup.lines)) (λ j a. not (not (is_some (opens a j)) && not (has_line a (snoops j))))

-- H7: a conflict is declared

abbrev pub conflict_event : ℕ → ℕ → ℕ → Event
conflict_event h l tag = act_event h (Act.Conflict (record { 0 = l })) (Message.BiConflict (record { 0 = tag }))

pub declared_stages : (setup : Configuration) (h l : ℕ) (o : Transaction) (mine : List Event) → Keeps setup mine → open_at l mine ≡ Some o
    → stages_of setup (conflict_event h l o.tag ∷ mine) ≡ slice_set (stages_of setup mine) l (Stage.Asked (unwrap_or (lookup (kept_host setup h mine).line_tags l) 0))
declared_stages setup h l o mine k there =
    set_where (λ a. stage setup a mine) (λ a. stage setup a (conflict_event h l o.tag ∷ mine)) setup.lines l (Stage.Asked o.tag) (λ a. by a (l == a) refl)
    ∙ ap (λ x. slice_set (stages_of setup mine) l (Stage.Asked (unwrap_or x 0))) (sym (line_tag_is setup h mine k.back l ∙ ap (option_map (λ (x : Transaction). x.tag)) there))
  where
    by : (a : ℕ) (b : Bool) → (l == a) ≡ b → cond b (Stage.Asked (option_map_or (λ (x : Transaction). x.tag) (open_at a mine) 0)) (stage setup a mine) ≡ cond b (Stage.Asked o.tag) (stage setup a mine)
    by a true is = ap (λ x. Stage.Asked (option_map_or (λ (y : Transaction). y.tag) x 0)) (ap (λ y. open_at y mine) (sym (eqb-true l a is)) ∙ there)
    by a false is = refl

pub declared_conflicts : (setup : Configuration) (h l : ℕ) (o : Transaction) (mine : List Event) → Keeps setup mine → open_at l mine ≡ Some o
    → conflicts_of setup (conflict_event h l o.tag ∷ mine) ≡ slice_set (conflicts_of setup mine) (unwrap_or (lookup (kept_host setup h mine).line_tags l) 0) true
declared_conflicts setup h l o mine k there =
    set_where (λ t. is_conflict_open t mine) (λ t. is_conflict_open t (conflict_event h l o.tag ∷ mine)) setup.tags o.tag true (λ t. by (o.tag == t) (is_conflict_open t mine))
    ∙ ap (λ x. slice_set (conflicts_of setup mine) (unwrap_or x 0) true) (sym (line_tag_is setup h mine k.back l ∙ ap (option_map (λ (x : Transaction). x.tag)) there))
  where
    by : (b c : Bool) → ((b || false) || c) ≡ cond b true c
    by true c = refl
    by false c = refl

new_not_writing : (st : Stage) → is_new st ≡ true → is_writing st ≡ false
new_not_writing Stage.New h = refl
new_not_writing (Stage.Asked t) h = refl
new_not_writing Stage.Early h = refl
new_not_writing Stage.Late h = refl
new_not_writing Stage.Writing h = absurd (false≢true h)
new_not_writing Stage.Written h = refl

pub declared_writing : (setup : Configuration) (h l tag : ℕ) (mine : List Event) → is_new (stage setup l mine) ≡ true → writing_of setup (conflict_event h l tag ∷ mine) ≡ writing_of setup mine
declared_writing setup h l tag mine new = same_writing setup mine (λ a. stage setup a (conflict_event h l tag ∷ mine)) (λ a. by a (l == a) refl)
  where
    by : (a : ℕ) (b : Bool) → (l == a) ≡ b → is_writing (cond b (Stage.Asked (option_map_or (λ (x : Transaction). x.tag) (open_at a mine) 0)) (stage setup a mine)) ≡ is_writing (stage setup a mine)
    by a true is = sym (new_not_writing (stage setup a mine) (ap (λ x. is_new (stage setup x mine)) (sym (eqb-true l a is)) ∙ new))
    by a false is = refl

-- H8: a write-back begins

abbrev pub write_event : ℕ → ℕ → Message → Event
write_event h l m = act_event h (Act.WriteBack (record { 0 = l })) m

pub written_stages : (setup : Configuration) (h l : ℕ) (m : Message) (mine : List Event) → stages_of setup (write_event h l m ∷ mine) ≡ slice_set (stages_of setup mine) l Stage.Writing
written_stages setup h l m mine = set_where (λ a. stage setup a mine) (λ a. stage setup a (write_event h l m ∷ mine)) setup.lines l Stage.Writing (λ a. refl)

writing_from : (st : Stage) → is_writing st ≡ true → st ≡ Stage.Writing
writing_from Stage.New h = absurd (false≢true h)
writing_from (Stage.Asked t) h = absurd (false≢true h)
writing_from Stage.Early h = absurd (false≢true h)
writing_from Stage.Late h = absurd (false≢true h)
writing_from Stage.Writing h = refl
writing_from Stage.Written h = absurd (false≢true h)

pub written_writing : (setup : Configuration) (h l : ℕ) (m : Message) (mine : List Event) → WritesAre setup mine → is_write_back_open setup mine ≡ false → l < setup.lines → writing_of setup (write_event h l m ∷ mine) ≡ Some l
written_writing setup h l m mine k free low =
    found_alone (λ a. is_writing (stage setup a (write_event h l m ∷ mine))) setup.lines l low (ap (λ b. is_writing (cond b Stage.Writing (stage setup l mine))) (eq-eqb l l refl)) (λ a. by a (l == a) refl)
  where
    by : (a : ℕ) (b : Bool) → (l == a) ≡ b → is_writing (cond b Stage.Writing (stage setup a mine)) ≡ true → a ≡ l
    by a true is writes = sym (eqb-true l a is)
    by a false is writes = absurd (both_ways (is_write_back_open setup mine) free (k.written a (writing_from (stage setup a mine) writes)).still)

-- H3: the write-back's Cmp

abbrev pub write_end : Configuration → ℕ → Event
write_end setup h = take_event h (ndr NdrOp.Cmp setup.tags) None

ended_by : (setup : Configuration) (mine : List Event) (l a : ℕ) (here : Bool) (st : Stage) → WritesAre setup mine → stage setup l mine ≡ Stage.Writing → (l == a) ≡ here → stage setup a mine ≡ st
    → stage_after_completion setup setup.tags st ≡ cond here Stage.Written st
ended_by setup mine l a true st k at same is =
    let was : st ≡ Stage.Writing = sym is ∙ ap (λ x. stage setup x mine) (sym (eqb-true l a same)) ∙ at in
    ap (stage_after_completion setup setup.tags) was ∙ cond-true (setup.tags == setup.tags) Stage.Written Stage.Writing (eq-eqb setup.tags setup.tags refl)
ended_by setup mine l a false Stage.New k at other is = refl
ended_by setup mine l a false (Stage.Asked t) k at other is = refl
ended_by setup mine l a false Stage.Early k at other is = refl
ended_by setup mine l a false Stage.Late k at other is = refl
ended_by setup mine l a false Stage.Writing k at other is = absurd (eqb-false l a other (k.alone l a at is))
ended_by setup mine l a false Stage.Written k at other is = refl

pub ended_stages : (setup : Configuration) (h : ℕ) (mine : List Event) → WritesAre setup mine → is_write_back_open setup mine ≡ true → stages_of setup (write_end setup h ∷ mine) ≡ set_at (writing_of setup mine) Stage.Written (stages_of setup mine)
ended_stages setup h mine k writing =
    let found = k.found writing in
    set_where (λ a. stage setup a mine) (λ a. stage setup a (write_end setup h ∷ mine)) setup.lines found.0 Stage.Written (λ a. ended_by setup mine found.0 a (found.0 == a) (stage setup a mine) k found.1 refl refl)
    ∙ ap (λ x. set_at x Stage.Written (stages_of setup mine))
    (sym (found_alone (λ a. is_writing (stage setup a mine)) setup.lines found.0 (k.written found.0 found.1).line (ap is_writing found.1) (λ a is. k.alone a found.0 (writing_from (stage setup a mine) is) found.1)))

none_writes : (setup : Configuration) (st : Stage) → is_writing (stage_after_completion setup setup.tags st) ≡ false
none_writes setup Stage.New = refl
none_writes setup (Stage.Asked t) = refl
none_writes setup Stage.Early = refl
none_writes setup Stage.Late = refl
none_writes setup Stage.Writing = ap (λ b. is_writing (cond b Stage.Written Stage.Writing)) (eq-eqb setup.tags setup.tags refl)
none_writes setup Stage.Written = refl

pub ended_writing : (setup : Configuration) (h : ℕ) (mine : List Event) → writing_of setup (write_end setup h ∷ mine) ≡ None
ended_writing setup h mine = found_none (λ a. is_writing (stage setup a (write_end setup h ∷ mine))) (below setup.lines) (λ a. none_writes setup (stage setup a mine))

-- H9: a line is answered

abbrev pub answer_event : ℕ → ℕ → Message → Event
answer_event h l m = act_event h (Act.Answer (record { 0 = l })) m

pub answered_busy : (setup : Configuration) (h l : ℕ) (m : Message) (mine : List Event) → Keeps setup mine
    → busy_of setup (answer_event h l m ∷ mine) ≡ slice_set (busy_of setup mine) l (is_some (lookup (kept_host setup h mine).line_tags l))
answered_busy setup h l m mine k =
    set_where (λ a. not (is_quiet a mine)) (λ a. not (is_quiet a (answer_event h l m ∷ mine))) setup.lines l (is_open l mine)
    (λ a. ap (λ b. not (not (is_open a mine) && not b)) (answer_has l a (buffered_snoops mine) (k.snoops.apart l)) ∙ by a (l == a) refl)
    ∙ ap (slice_set (busy_of setup mine) l) (some_is (open_at l mine) ∙ ap is_some (sym (line_tag_is setup h mine k.back l)))
  where
    kept : (o s : Bool) → not (not o && not false) ≡ o
    kept true s = refl
    kept false s = refl

    by : (a : ℕ) (b : Bool) → (l == a) ≡ b → not (not (is_open a mine) && not (cond b false (is_snooped a mine))) ≡ cond b (is_open l mine) (not (is_quiet a mine))
    by a true is = kept (is_open a mine) true ∙ ap (λ x. is_open x mine) (sym (eqb-true l a is))
    by a false is = refl

    some_is : (x : Option Transaction) → is_some x ≡ is_some (option_map (λ (o : Transaction). o.tag) x)
    some_is None = refl
    some_is (Some o) = refl

-- H9: a block is answered

abbrev pub block_event : ℕ → ℕ → Message → Event
block_event h l m = act_event h (Act.AnswerBlock (record { 0 = l })) m

block_there : (setup : Configuration) (l : ℕ) (mine : List Event) → may_answer_block setup l mine ≡ true → (s : Snoop) × (whole_block_at l mine ≡ Some s)
block_there setup l mine may = by (whole_block_at l mine) refl
  where
    by : (x : Option Snoop) → whole_block_at l mine ≡ x → (s : Snoop) × (x ≡ Some s)
    by None is = absurd (false≢true (sym (ap (λ x. option_map_or (λ s. list_all (may_answer_in_block setup mine) s.unanswered) x false) is) ∙ may))
    by (Some s) is = (s, refl)

pub block_busy : (setup : Configuration) (h l : ℕ) (m : Message) (mine : List Event) → Keeps setup mine → may_answer_block setup l mine ≡ true
    → busy_of setup (block_event h l m ∷ mine) ≡ set_all (block_lines l (kept_host setup h mine)) false (busy_of setup mine)
block_busy setup h l m mine k may =
    let there = block_there setup l mine may in
    let lines : block_lines l (kept_host setup h mine) ≡ there.0.unanswered = ap (λ (x : Option Snoop). option_map_or (λ (s : Snoop). s.unanswered) x []) there.1 in
    set_all_where (block_lines l (kept_host setup h mine)) (λ a. not (is_quiet a mine)) (λ a. not (is_quiet a (block_event h l m ∷ mine))) setup.lines false
    (λ a. ap (λ b. not (not (is_open a mine) && not b))
    (block_has a l there.0 (buffered_snoops mine) k.snoops.sound (k.snoops.apart l) (k.snoops.apart a) there.1 ∙ ap (λ xs. cond (is_in a xs) false (is_snooped a mine)) (sym lines))
    ∙ by a (is_in a (block_lines l (kept_host setup h mine))) refl)
  where
    by : (a : ℕ) (b : Bool) → is_in a (block_lines l (kept_host setup h mine)) ≡ b → not (not (is_open a mine) && not (cond b false (is_snooped a mine))) ≡ cond b false (not (is_quiet a mine))
    by a true is = ap (λ o. not (not o && true)) (block_closed setup l a mine may (sym (in_block setup h l a mine) ∙ is))
    by a false is = refl
