-- The tasks that are kept follow each event, with the lines that are left of their snoops.
use Rattle.std.proofs.Common.{◌≡◌, ℕ, ◌+◌, ◌<◌, Bool, true, false, List, [], ◌∷◌, Option, Some, None, cond, map, refl, ap, sym, ◌∙◌, subst, arith}
use Rattle.std.specs.Prelude.{option_and_then, option_map, ◌&&◌, ◌==◌}
use Rattle.std.specs.Option.{option_map_or}
use Rattle.std.proofs.lemmas.Bool.{and_from, and_parts, eq-eqb, eqb-true, eqb-false, ltb-true, not-true}
use Rattle.std.proofs.lemmas.Option.{none-some}
use Rattle.cxl_message.specs.declared.events.Act.{Act}
use Rattle.cxl_message.specs.declared.events.Cause.{Cause}
use Rattle.cxl_message.specs.declared.events.Event.{Event}
use Rattle.cxl_message.specs.declared.events.Sends.{Sends}
use Rattle.cxl_message.specs.declared.identifiers.Bytes64.{Bytes64}
use Rattle.cxl_message.specs.declared.identifiers.Line.{Line}
use Rattle.cxl_message.specs.declared.identifiers.Tag.{Tag}
use Rattle.cxl_message.specs.declared.messages.Message.{Message}
use Rattle.cxl_message.specs.declared.opcodes.RspOp.{RspOp}
use Rattle.cxl_message.specs.declared.opcodes.Span.{Span}
use Rattle.cxl_message.specs.Lists.{below, without}
use Rattle.cxl_message.specs.Setup.{Configuration}
use Rattle.cxl_message.specs.Spans.{lines_of}
use Rattle.coherence_model.specs.Buffers.{buffered_requests, message_with}
use Rattle.coherence_model.specs.Directory.{Directory, victim_block}
use Rattle.coherence_model.specs.DirectoryChanges.{directory, directory_after_evict, directory_after_start, directory_after, with_task}
use Rattle.coherence_model.specs.Fitting.{cause_fits}
use Rattle.coherence_model.specs.SentSnoops.{SentSnoop, sent_snoop_after, sent_snoop_at, snoop_after_response, snoop_by_sends, still_asking}
use Rattle.coherence_model.specs.Tasks.{Task, eviction_task, request_task}
use Rattle.coherence_model.specs.Traces.{device}
use Rattle.entry_laws.proofs.Blocks.{covers_first, some_lines}
use Rattle.entry_laws.proofs.Buffered.{request_line_exists}
use Rattle.entry_laws.proofs.DeviceRows.{DeviceRow, SnoopRow, StartRow}
use Rattle.entry_laws.proofs.DirectorySteps.{DirectoryKept}
use Rattle.entry_laws.proofs.Entries.{victim_evictable, victim_within}
use Rattle.entry_laws.proofs.RoomSteps.{clean_leaves_tasks, serve_leaves_tasks}
use Rattle.entry_laws.proofs.Tasks.{idle_has_no_task}
use Rattle.device_record.specs.Tables.{changed_at}
use Rattle.device_record.specs.TaskChanges.{lines_still_left, task_begun, task_evicting, task_left, task_started, tasks_in, tasks_with, tasks_without}
use Rattle.device_record.specs.Kept.{kept_device, kept_request, kept_task, kept_tasks, lines_left, task_of}
use Rattle.device_record.specs.Record.{TaskRecord, WaitingRequest, task_at}
use Rattle.device_record.specs.Sparse.{sparse}
use Rattle.device_laws.proofs.Buffers.{act_host, take_host}
use Rattle.device_laws.proofs.FilterLookups.{block_of, victim_is}
use Rattle.device_laws.proofs.Lookups.{request_is, task_is, tasks_keyed}
use Rattle.device_laws.proofs.Sparse.{map_sparse, placed, same_sparse, sparse_put, sparse_without}
use Rattle.device_laws.proofs.Tables.{change_table, same_table}
use Rattle.device_laws.proofs.DeviceRuns.{DeviceRun, directory_is_kept, requests_are_taken}

-- the tasks, with the lines left by line and host
abbrev pub tasks_of : ℕ → ℕ → (ℕ → Option Task) → (ℕ → ℕ → List ℕ) → List TaskRecord
tasks_of hosts lines task left = sparse (task_of hosts task left) (below lines)

-- ---- lines left

-- where the lines left of each task are the same, so are the tasks
same_task_record : (hosts : ℕ) (a : ℕ) (left later : ℕ → List ℕ) (o : Option Task) → ((t : Task) → o ≡ Some t → (h : ℕ) → h < hosts → left h ≡ later h)
    → option_map (kept_task hosts left a) o ≡ option_map (kept_task hosts later a) o
same_task_record hosts a left later None same = refl
same_task_record hosts a left later (Some t) same =
    ap (λ (l : List (List ℕ)). Some (record { first = a; purpose = t.purpose; host = t.host; tag = t.tag; span = t.span; left = l })) (same_table left later hosts (same t refl))

same_left : (hosts lines : ℕ) (task : ℕ → Option Task) (left later : ℕ → ℕ → List ℕ) → ((a : ℕ) (t : Task) → task a ≡ Some t → (h : ℕ) → h < hosts → left a h ≡ later a h)
    → tasks_of hosts lines task left ≡ tasks_of hosts lines task later
same_left hosts lines task left later same =
    same_sparse (task_of hosts task left) (task_of hosts task later) lines (λ a low. same_task_record hosts a (left a) (later a) (task a) (same a))

left_changed : (hosts a b k : ℕ) (change : List ℕ → List ℕ) (left later : ℕ → List ℕ) (t : Task) (c : Bool) → (b == a) ≡ c → k < hosts
    → (b ≡ a → later k ≡ change (left k)) → ((h : ℕ) → (b ≡ a → h ≡ k → ⊥) → later h ≡ left h)
    → kept_task hosts later b t ≡ cond c (record (kept_task hosts left b t) { left = changed_at k change (map left (below hosts)) }) (kept_task hosts left b t)
left_changed hosts a b k change left later t true is low own others =
    let same = eqb-true b a is in
    ap {B = TaskRecord} (λ (l : List (List ℕ)). record { first = b; purpose = t.purpose; host = t.host; tag = t.tag; span = t.span; left = l })
    (sym (change_table left later hosts k change low (own same) (λ j other less. sym (others j (λ here at_k. other at_k)))))
left_changed hosts a b k change left later t false is low own others =
    let differ = eqb-false b a is in
    ap {B = TaskRecord} (λ (l : List (List ℕ)). record { first = b; purpose = t.purpose; host = t.host; tag = t.tag; span = t.span; left = l })
    (same_table later left hosts (λ j less. others j (λ here at_k. differ here)))

left_by : (hosts a b k : ℕ) (change : List ℕ → List ℕ) (left later : ℕ → List ℕ) (o : Option Task) → k < hosts → (b ≡ a → later k ≡ change (left k)) → ((h : ℕ) → (b ≡ a → h ≡ k → ⊥) → later h ≡ left h)
    → option_map (task_left a k change) (option_map (kept_task hosts left b) o) ≡ option_map (kept_task hosts later b) o
left_by hosts a b k change left later None low own others = refl
left_by hosts a b k change left later (Some t) low own others = ap (λ (u : TaskRecord). Some u) (sym (left_changed hosts a b k change left later t (b == a) refl low own others))

-- where the lines left of one host at one task change, that task changes
changed_left : (hosts lines : ℕ) (task : ℕ → Option Task) (a k : ℕ) (change : List ℕ → List ℕ) (left later : ℕ → ℕ → List ℕ) → k < hosts
    → later a k ≡ change (left a k) → ((b h : ℕ) → (b ≡ a → h ≡ k → ⊥) → later b h ≡ left b h)
    → tasks_of hosts lines task later ≡ map (task_left a k change) (tasks_of hosts lines task left)
changed_left hosts lines task a k change left later low own others =
    sym (map_sparse (task_left a k change) (task_of hosts task left) (below lines)
    ∙ same_sparse (λ b. option_map (task_left a k change) (task_of hosts task left b)) (task_of hosts task later) lines
    (λ b less. left_by hosts a b k change (left b) (later b) (task b) low (λ same. subst (λ x. later x k ≡ change (left x k)) (sym same) own) (others b)))

-- ---- one task more or less

begun_by : (hosts first a : ℕ) (t : Task) (left : ℕ → List ℕ) (o : Option Task) (b : Bool) → (a == first) ≡ b → ((h : ℕ) → h < hosts → a ≡ first → left h ≡ [])
    → option_map (kept_task hosts left a) (cond b (Some t) o) ≡ cond b (Some (task_begun hosts first t)) (option_map (kept_task hosts left a) o)
begun_by hosts first a t left o true is none =
    let same = eqb-true a first is in
    ap (λ (l : List (List ℕ)). Some (record { first = a; purpose = t.purpose; host = t.host; tag = t.tag; span = t.span; left = l })) (same_table left (λ h. []) hosts (λ h low. none h low same))
    ∙ ap (λ (x : ℕ). Some (task_begun hosts x t)) same
begun_by hosts first a t left o false is none = refl

-- a task begins where none stood and nobody is Asked
task_begins : (hosts lines first : ℕ) (t : Task) (task : ℕ → Option Task) (left : ℕ → ℕ → List ℕ) → task first ≡ None → first < lines → ((h : ℕ) → h < hosts → left first h ≡ [])
    → tasks_of hosts lines (with_task first (Some t) task) left ≡ tasks_with (Some (task_begun hosts first t)) (tasks_of hosts lines task left)
task_begins hosts lines first t task left free low none =
    same_sparse (task_of hosts (with_task first (Some t) task) left) (placed first (Some (task_begun hosts first t)) (task_of hosts task left)) lines
    (λ a less. begun_by hosts first a t (left a) (task a) (a == first) refl (λ h host same. subst (λ x. left x h ≡ []) (sym same) (none h host)))
    ∙ sym (sparse_put (λ (u : TaskRecord). u.first) (task_begun hosts first t) (task_of hosts task left) first lines (tasks_keyed hosts task left) refl
    (ap (option_map (kept_task hosts (left first) first)) free) low)

ended_by : (hosts a : ℕ) (left : ℕ → List ℕ) (o : Option Task) (b : Bool) → option_map (kept_task hosts left a) (cond b None o) ≡ cond b None (option_map (kept_task hosts left a) o)
ended_by hosts a left o true = refl
ended_by hosts a left o false = refl

-- a task ends
task_ends : (hosts lines first : ℕ) (task : ℕ → Option Task) (left : ℕ → ℕ → List ℕ)
    → tasks_of hosts lines (with_task first None task) left ≡ tasks_without first (tasks_of hosts lines task left)
task_ends hosts lines first task left =
    same_sparse (task_of hosts (with_task first None task) left) (placed first None (task_of hosts task left)) lines (λ a less. ended_by hosts a (left a) (task a) (a == first))
    ∙ sym (sparse_without (λ (u : TaskRecord). u.first) (task_of hosts task left) first (below lines) (tasks_keyed hosts task left))

-- ---- snoops

-- the lines left by what was asked
abbrev pub left_of : Option SentSnoop → List ℕ
left_of o = option_map_or (λ (q : SentSnoop). q.unanswered) o []

still_left : (q : SentSnoop) (left : List ℕ) → left_of (still_asking q left) ≡ left
still_left q [] = refl
still_left q (b ∷ bs) = refl

answered_left : (op : RspOp) (a : ℕ) (o : Option SentSnoop) → left_of (option_and_then (snoop_after_response op a) o) ≡ lines_still_left op a (left_of o)
answered_left RspOp.I a None = refl
answered_left RspOp.I a (Some q) = still_left q (without a q.unanswered)
answered_left RspOp.S a None = refl
answered_left RspOp.S a (Some q) = still_left q (without a q.unanswered)
answered_left RspOp.E a None = refl
answered_left RspOp.E a (Some q) = still_left q (without a q.unanswered)
answered_left RspOp.IBlk a None = refl
answered_left RspOp.IBlk a (Some q) = refl
answered_left RspOp.SBlk a None = refl
answered_left RspOp.SBlk a (Some q) = refl
answered_left RspOp.EBlk a None = refl
answered_left RspOp.EBlk a (Some q) = refl

-- after an answer
response_own : (op : RspOp) (k first low : ℕ) (o : Option SentSnoop)
    → left_of (cond (k == k) (cond (first == first) (option_and_then (snoop_after_response op (first + low)) o) o) o) ≡ lines_still_left op (first + low) (left_of o)
response_own op k first low o =
    ap (λ b. left_of (cond b (cond (first == first) (option_and_then (snoop_after_response op (first + low)) o) o) o)) (eq-eqb k k refl)
    ∙ ap (λ b. left_of (cond b (option_and_then (snoop_after_response op (first + low)) o) o)) (eq-eqb first first refl)
    ∙ answered_left op (first + low) o

unless_both : {X : Type 0} (p q : Bool) (x o : X) → (p ≡ true → q ≡ true → ⊥) → cond p (cond q x o) o ≡ o
unless_both true true x o other = absurd (other refl refl)
unless_both true false x o other = refl
unless_both false q x o other = refl

unless_and : {X : Type 0} (p q : Bool) (x o : X) → (p ≡ true → q ≡ true → ⊥) → cond (p && q) x o ≡ o
unless_and true true x o other = absurd (other refl refl)
unless_and true false x o other = refl
unless_and false q x o other = refl

response_other : (op : RspOp) (k first low b h : ℕ) (o : Option SentSnoop) → (b ≡ first → h ≡ k → ⊥)
    → left_of (cond (k == h) (cond (first == b) (option_and_then (snoop_after_response op (b + low)) o) o) o) ≡ left_of o
response_other op k first low b h o other =
    ap left_of (unless_both (k == h) (first == b) (option_and_then (snoop_after_response op (b + low)) o) o (λ host line. other (sym (eqb-true first b line)) (sym (eqb-true k h host))))

same_either : {X : Type 0} (b : Bool) (o : X) → cond b o o ≡ o
same_either true o = refl
same_either false o = refl

-- V2: an answer is taken
response_follows : (hosts lines : ℕ) (task : ℕ → Option Task) (past : List Event) (op : RspOp) (k first low : ℕ) → k < hosts
    → tasks_of hosts lines task (λ a h. left_of (cond (k == h) (cond (first == a) (option_and_then (snoop_after_response op (a + low)) (sent_snoop_at h a past)) (sent_snoop_at h a past)) (sent_snoop_at h a past)))
    ≡ map (task_left first k (lines_still_left op (first + low))) (tasks_of hosts lines task (lines_left past))
response_follows hosts lines task past op k first low host =
    changed_left hosts lines task first k (lines_still_left op (first + low)) (lines_left past) _ host
    (response_own op k first low (sent_snoop_at k first past)) (λ b h other. response_other op k first low b h (sent_snoop_at h b past) other)

-- another message leaves them
message_follows : (hosts lines : ℕ) (task : ℕ → Option Task) (past : List Event) (k : ℕ)
    → tasks_of hosts lines task (λ a h. left_of (cond (k == h) (sent_snoop_at h a past) (sent_snoop_at h a past))) ≡ tasks_of hosts lines task (lines_left past)
message_follows hosts lines task past k = same_left hosts lines task _ (lines_left past) (λ a t is h low. ap left_of (same_either (k == h) (sent_snoop_at h a past)))

-- V7: a snoop is sent
snoop_sent : (setup : Configuration) (past : List Event) (run : DeviceRun setup past) (k first : ℕ) (sends : Sends) (row : SnoopRow setup k first sends past)
    → tasks_of setup.hosts setup.lines (directory setup past).task (λ a h. left_of (cond ((k == h) && (first == a)) (snoop_by_sends sends) (sent_snoop_at h a past)))
    ≡ map (task_left first k (λ old. option_map_or (λ (t : TaskRecord). lines_of t.first t.span) (task_at first (kept_tasks setup past)) [])) (kept_tasks setup past)
snoop_sent setup past run k first sends row =
    let found = task_is setup.hosts setup.lines (directory setup past).task (lines_left past) (directory_is_kept setup past run).tasks first
    ∙ ap (option_map (kept_task setup.hosts (lines_left past first) first)) row.task in
    changed_left setup.hosts setup.lines (directory setup past).task first k
    (λ old. option_map_or (λ (t : TaskRecord). lines_of t.first t.span) (task_at first (kept_tasks setup past)) []) (lines_left past) _ (ltb-true k setup.hosts row.host)
    (ap (λ b. left_of (cond b (snoop_by_sends sends) (sent_snoop_at k first past))) (and_from (k == k) (first == first) (eq-eqb k k refl) (eq-eqb first first refl))
    ∙ ap (λ s. left_of (snoop_by_sends s)) row.sent
    ∙ sym (ap (λ o. option_map_or (λ (t : TaskRecord). lines_of t.first t.span) o []) found))
    (λ b h other. ap left_of (unless_and (k == h) (first == b) (snoop_by_sends sends) (sent_snoop_at h b past) (λ host line. other (sym (eqb-true first b line)) (sym (eqb-true k h host)))))

-- ---- Start and Evict

none_asked : (setup : Configuration) (D : Directory) (asked : ℕ → ℕ → Option SentSnoop) → DirectoryKept setup D asked → (a h : ℕ) → D.task a ≡ None → (o : Option SentSnoop) → asked h a ≡ o → left_of o ≡ []
none_asked setup D asked kept a h free None is = refl
none_asked setup D asked kept a h free (Some q) is = absurd (none-some _ (sym free ∙ (kept.snoops h a q is).is))

-- nobody is Asked where no task stands
pub unasked_left : (setup : Configuration) (past : List Event) → DeviceRun setup past → (a h : ℕ) → (directory setup past).task a ≡ None → lines_left past a h ≡ []
unasked_left setup past run a h free = none_asked setup (directory setup past) (λ g b. sent_snoop_at g b past) (directory_is_kept setup past run) a h free (sent_snoop_at h a past) refl

start_follows : (setup : Configuration) (past : List Event) (run : DeviceRun setup past) (k : ℕ) (tag : Tag) (row : StartRow setup k tag.0 past) (found : Option Message)
    → message_with tag.0 (buffered_requests k past) ≡ found
    → tasks_of setup.hosts setup.lines (directory_after_start k found (directory setup past)).task (lines_left past)
    ≡ tasks_with (option_and_then (λ (r : WaitingRequest). task_started setup.hosts k r.message) (option_map (kept_request setup k past) found)) (kept_tasks setup past)
start_follows setup past run k tag row found is =
    let m : Message = Message.Req row.r.op row.r.meta row.r.snp row.r.own_tag row.r.line in
    let same : Some m ≡ found = sym row.r.found ∙ is in
    let free = idle_has_no_task (directory setup past) row.r.line.0 row.idle in
    subst (λ o. tasks_of setup.hosts setup.lines (directory_after_start k o (directory setup past)).task (lines_left past)
    ≡ tasks_with (option_and_then (λ (r : WaitingRequest). task_started setup.hosts k r.message) (option_map (kept_request setup k past) o)) (kept_tasks setup past)) same
    (task_begins setup.hosts setup.lines row.r.line.0 (request_task k row.r.own_tag row.r.op row.r.meta) (directory setup past).task (lines_left past) free
    (request_line_exists setup k tag.0 (buffered_requests k past) row.r (requests_are_taken setup past run k))
    (λ h low. unasked_left setup past run row.r.line.0 h free))

evict_follows : (setup : Configuration) (past : List Event) (run : DeviceRun setup past) (k : ℕ) (tag : Tag) (found : Option (ℕ × Span)) → victim_block (directory setup past) ≡ found
    → tasks_of setup.hosts setup.lines (directory_after_evict k tag found (directory setup past)).task (lines_left past)
    ≡ tasks_with (option_map (task_evicting setup.hosts k tag) (option_map block_of found)) (kept_tasks setup past)
evict_follows setup past run k tag None is = refl
evict_follows setup past run k tag (Some block) is =
    let kept = directory_is_kept setup past run in
    let may = victim_evictable (directory setup past) block is in
    let first = and_parts _ _ (may.lines block.0 (covers_first block.0 block.1)) in
    let free = idle_has_no_task (directory setup past) block.0 (not-true _ first.1) in
    let within = victim_within setup (directory setup past) kept.entries block may in
    let some = some_lines block.1 in
    let low : block.0 < setup.lines = omega arith in
    task_begins setup.hosts setup.lines block.0 (eviction_task k tag block.1) (directory setup past).task (lines_left past) free low (λ h host. unasked_left setup past run block.0 h free)

-- ---- each cause

tasks_by : (setup : Configuration) (opening : List (Line × Bytes64)) (past : List Event) → DeviceRun setup past → (cause : Cause) (sends : Sends) → cause_fits setup device cause ≡ true
    → DeviceRow setup cause sends past
    → tasks_of setup.hosts setup.lines (directory_after setup cause sends past (directory setup past)).task (λ a h. left_of (sent_snoop_after h a cause sends (sent_snoop_at h a past)))
    ≡ tasks_in setup cause (kept_device setup opening past)
tasks_by setup opening past run (Cause.Op s i op) sends fits row = refl
tasks_by setup opening past run (Cause.Take k (Message.Req op meta snp tag line)) sends fits row = message_follows setup.hosts setup.lines (directory setup past).task past k
tasks_by setup opening past run (Cause.Take k (Message.MemWr meta snp tag line bytes)) sends fits row = message_follows setup.hosts setup.lines (directory setup past).task past k
tasks_by setup opening past run (Cause.Take k (Message.BiConflict tag)) sends fits row = message_follows setup.hosts setup.lines (directory setup past).task past k
tasks_by setup opening past run (Cause.Take k (Message.BiRsp op bitag low)) sends fits row =
    response_follows setup.hosts setup.lines (directory setup past).task past op k bitag.0 low (take_host setup k (Message.BiRsp op bitag low) fits)
tasks_by setup opening past run (Cause.Take k (Message.Ndr op tag)) sends fits row = message_follows setup.hosts setup.lines (directory setup past).task past k
tasks_by setup opening past run (Cause.Take k (Message.MemData tag bytes)) sends fits row = message_follows setup.hosts setup.lines (directory setup past).task past k
tasks_by setup opening past run (Cause.Take k (Message.BiSnp op bitag line span)) sends fits row = message_follows setup.hosts setup.lines (directory setup past).task past k
tasks_by setup opening past run (Cause.Take k (Message.Credit c)) sends fits row = message_follows setup.hosts setup.lines (directory setup past).task past k
tasks_by setup opening past run (Cause.Act (Act.Conflict line)) sends fits row = refl
tasks_by setup opening past run (Cause.Act (Act.WriteBack line)) sends fits row = refl
tasks_by setup opening past run (Cause.Act (Act.Answer line)) sends fits row = refl
tasks_by setup opening past run (Cause.Act (Act.AnswerBlock line)) sends fits row = refl
tasks_by setup opening past run (Cause.Act (Act.HostReturn c)) sends fits row = refl
tasks_by setup opening past run (Cause.Act (Act.Serve k tag)) sends fits row =
    ap (λ (task : ℕ → Option Task). tasks_of setup.hosts setup.lines task (lines_left past)) (serve_leaves_tasks setup k _ (directory setup past))
tasks_by setup opening past run (Cause.Act (Act.Clean k tag)) sends fits row =
    ap (λ (task : ℕ → Option Task). tasks_of setup.hosts setup.lines task (lines_left past)) (clean_leaves_tasks setup k _ (directory setup past))
tasks_by setup opening past run (Cause.Act (Act.Start k tag)) sends fits row =
    start_follows setup past run k tag row (message_with tag.0 (buffered_requests k past)) refl
    ∙ sym (ap (λ o. tasks_with (option_and_then (λ (r : WaitingRequest). task_started setup.hosts k r.message) o) (kept_tasks setup past)) (request_is setup past k tag.0 (act_host setup k _ fits)))
tasks_by setup opening past run (Cause.Act (Act.Evict k tag)) sends fits row =
    evict_follows setup past run k tag (victim_block (directory setup past)) refl
    ∙ sym (ap (λ o. tasks_with (option_map (task_evicting setup.hosts k tag) o) (kept_tasks setup past)) (victim_is setup.hosts (directory setup past)))
tasks_by setup opening past run (Cause.Act (Act.Snoop k line)) sends fits row = snoop_sent setup past run k line.0 sends row
tasks_by setup opening past run (Cause.Act (Act.Finish line)) sends fits row = task_ends setup.hosts setup.lines line.0 (directory setup past).task (lines_left past)
tasks_by setup opening past run (Cause.Act (Act.DeviceReturn k c)) sends fits row = refl

-- the tasks follow
pub tasks_follow : (setup : Configuration) (opening : List (Line × Bytes64)) (e : Event) (past : List Event) → DeviceRun setup past → cause_fits setup device e.cause ≡ true → DeviceRow setup e.cause e.sends past
    → kept_tasks setup (e ∷ past) ≡ tasks_in setup e.cause (kept_device setup opening past)
tasks_follow setup opening e past run fits row = tasks_by setup opening past run e.cause e.sends fits row
