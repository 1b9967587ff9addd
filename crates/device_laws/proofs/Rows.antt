-- The filter's rows that are kept follow each event.
use Rattle.std.proofs.Common.{◌≡◌, ℕ, ◌+◌, ◌<◌, true, List, [], ◌∷◌, Option, Some, None, refl, ap, sym, ◌∙◌, subst}
use Rattle.std.specs.Prelude.{option_and_then, option_map, unwrap_or, ◌&&◌}
use Rattle.std.specs.Option.{option_map_or}
use Rattle.std.proofs.lemmas.Bool.{and_parts, ltb-true, not-true}
use Rattle.cxl_message.specs.declared.channels.Channel.{Channel}
use Rattle.cxl_message.specs.declared.events.Act.{Act}
use Rattle.cxl_message.specs.declared.events.Cause.{Cause}
use Rattle.cxl_message.specs.declared.events.Event.{Event}
use Rattle.cxl_message.specs.declared.events.Sends.{Sends}
use Rattle.cxl_message.specs.declared.identifiers.Bytes64.{Bytes64}
use Rattle.cxl_message.specs.declared.identifiers.Line.{Line}
use Rattle.cxl_message.specs.declared.identifiers.Tag.{Tag}
use Rattle.cxl_message.specs.declared.messages.Message.{Message}
use Rattle.cxl_message.specs.declared.opcodes.Meta.{Meta}
use Rattle.cxl_message.specs.declared.opcodes.RspOp.{RspOp}
use Rattle.cxl_message.specs.declared.opcodes.SnpType.{SnpType}
use Rattle.cxl_message.specs.declared.opcodes.Span.{Span}
use Rattle.cxl_message.specs.declared.states.Listing.{Listing}
use Rattle.cxl_message.specs.Codes.{channel_eq}
use Rattle.cxl_message.specs.Messages.{channel_of, has_tag, line_in}
use Rattle.cxl_message.specs.Profile.{in_profile}
use Rattle.cxl_message.specs.Setup.{Configuration}
use Rattle.coherence_model.specs.Buffers.{buffered_requests, buffered_writes, message_with}
use Rattle.coherence_model.specs.Directory.{Directory, victim_block}
use Rattle.coherence_model.specs.DirectoryChanges.{answered_lines, directory, directory_after, directory_after_clean, directory_after_evict, directory_after_serve, directory_after_start, listing_after_response, listing_after_write, with_listed, with_task}
use Rattle.coherence_model.specs.Fitting.{cause_fits, goes_to, is_addressed, message_fits, take_fits}
use Rattle.coherence_model.specs.SentSnoops.{unanswered_lines}
use Rattle.coherence_model.specs.Tasks.{Task, eviction_task, request_task}
use Rattle.coherence_model.specs.Traces.{device}
use Rattle.entry_laws.proofs.Blocks.{covers_first}
use Rattle.entry_laws.proofs.Buffered.{all_found, is_taken_on, request_line_exists}
use Rattle.entry_laws.proofs.DeviceRows.{DeviceRow, FinishRow, StartRow}
use Rattle.entry_laws.proofs.Entries.{EntriesKept, victim_evictable}
use Rattle.entry_laws.proofs.Tasks.{TasksKept, busy_at_task, idle_has_no_task, own_task}
use Rattle.device_record.specs.RowChanges.{line_asked, lines_answered, rows_cleaned, rows_evicting, rows_finished, rows_in, rows_served, rows_started}
use Rattle.snoop_filter.specs.Changes.{rows_set}
use Rattle.snoop_filter.specs.Rows.{has_row}
use Rattle.device_record.specs.Kept.{kept_device, kept_request, kept_rows, kept_task, kept_tasks, lines_left}
use Rattle.device_record.specs.Record.{left_at, task_at}
use Rattle.device_laws.proofs.Buffers.{act_host, take_host}
use Rattle.device_laws.proofs.FilterLookups.{block_of, has_row_entry, victim_is}
use Rattle.device_laws.proofs.FilterSteps.{listed_rows}
use Rattle.device_laws.proofs.Lookups.{request_is, task_is, writes_are}
use Rattle.device_laws.proofs.RowChanges.{rows_are_begun, rows_are_ended, rows_are_held}
use Rattle.device_laws.proofs.Tables.{get_table}
use Rattle.device_laws.proofs.Tasks.{unasked_left}
use Rattle.device_laws.proofs.DeviceRuns.{DeviceRun, directory_is_kept, requests_are_taken, writes_are_taken}

-- ---- answers

left_by : (setup : Configuration) (past : List Event) → DeviceRun setup past → (h first : ℕ) → h < setup.hosts → (found : Option Task) → (directory setup past).task first ≡ found
    → option_map_or (left_at h) (option_map (kept_task setup.hosts (lines_left past first) first) found) [] ≡ unanswered_lines h first past
left_by setup past run h first low None is = sym (unasked_left setup past run first h is)
left_by setup past run h first low (Some t) is = ap (λ o. unwrap_or o []) (get_table (lines_left past first) setup.hosts h low)

-- the lines left of a host's snoop, by the task
pub lines_left_are : (setup : Configuration) (past : List Event) → DeviceRun setup past → (h first : ℕ) → h < setup.hosts
    → option_map_or (left_at h) (task_at first (kept_tasks setup past)) [] ≡ unanswered_lines h first past
lines_left_are setup past run h first low =
    ap (λ o. option_map_or (left_at h) o []) (task_is setup.hosts setup.lines (directory setup past).task (lines_left past) (directory_is_kept setup past run).tasks first)
    ∙ left_by setup past run h first low ((directory setup past).task first) refl

answered_are : (setup : Configuration) (past : List Event) → DeviceRun setup past → (op : RspOp) (h first a : ℕ) → h < setup.hosts
    → answered_lines op h first a past ≡ lines_answered op h a (task_at first (kept_tasks setup past))
answered_are setup past run RspOp.I h first a low = refl
answered_are setup past run RspOp.S h first a low = refl
answered_are setup past run RspOp.E h first a low = refl
answered_are setup past run RspOp.IBlk h first a low = sym (lines_left_are setup past run h first low)
answered_are setup past run RspOp.SBlk h first a low = sym (lines_left_are setup past run h first low)
answered_are setup past run RspOp.EBlk h first a low = sym (lines_left_are setup past run h first low)

-- ---- Serve

write_exists : (setup : Configuration) (h : ℕ) (meta : Meta) (snp : SnpType) (tag : Tag) (line : Line) (bytes : Bytes64) → is_taken_on setup h Channel.Rwd (Message.MemWr meta snp tag line bytes) ≡ true → line.0 < setup.lines
write_exists setup h meta snp tag line bytes taken =
    let m : Message = Message.MemWr meta snp tag line bytes in
    let both = and_parts (take_fits setup device h m) (channel_eq (channel_of m) Channel.Rwd) taken in
    let named = and_parts (is_addressed setup device h && goes_to device m && in_profile m) (message_fits setup m) both.0 in
    ltb-true _ _ (and_parts _ _ named.1).1

-- the rows after a served message, whose line exists
served_by : (setup : Configuration) (D : Directory) → EntriesKept setup D → (h : ℕ) (found : Option Message) → ((m : Message) → found ≡ Some m → is_taken_on setup h Channel.Rwd m ≡ true)
    → kept_rows setup.hosts (directory_after_serve setup h found D) ≡ rows_served h found (kept_rows setup.hosts D)
served_by setup D kept h None taken = refl
served_by setup D kept h (Some (Message.Req op meta snp tag line)) taken = refl
served_by setup D kept h (Some (Message.MemWr meta snp tag line bytes)) taken =
    ap (λ b. kept_rows setup.hosts (with_listed setup (line.0 ∷ []) h (listing_after_write meta b) D))
    (sym (has_row_entry setup D kept line.0 (write_exists setup h meta snp tag line bytes (taken (Message.MemWr meta snp tag line bytes) refl))))
    ∙ listed_rows setup D (line.0 ∷ []) h (listing_after_write meta (has_row line.0 (kept_rows setup.hosts D)))
served_by setup D kept h (Some (Message.BiConflict tag)) taken = refl
served_by setup D kept h (Some (Message.BiRsp op bitag low)) taken = refl
served_by setup D kept h (Some (Message.Ndr op tag)) taken = refl
served_by setup D kept h (Some (Message.MemData tag bytes)) taken = refl
served_by setup D kept h (Some (Message.BiSnp op bitag line span)) taken = refl
served_by setup D kept h (Some (Message.Credit c)) taken = refl

-- ---- Clean

line_cleaned : (setup : Configuration) (D : Directory) (h : ℕ) (o : Option ℕ) → kept_rows setup.hosts (directory_after_clean setup h o D) ≡ rows_cleaned h o (kept_rows setup.hosts D)
line_cleaned setup D h None = refl
line_cleaned setup D h (Some a) = listed_rows setup D (a ∷ []) h Listing.I

cleaned_by : (setup : Configuration) (D : Directory) (past : List Event) (h : ℕ) (found : Option Message)
    → kept_rows setup.hosts (directory_after_clean setup h (option_and_then line_in found) D)
    ≡ rows_cleaned h (option_and_then line_asked (option_map (kept_request setup h past) found)) (kept_rows setup.hosts D)
cleaned_by setup D past h None = refl
cleaned_by setup D past h (Some m) = line_cleaned setup D h (line_in m)

-- ---- Start

started_by : (setup : Configuration) (past : List Event) (run : DeviceRun setup past) (k : ℕ) (tag : Tag) (row : StartRow setup k tag.0 past) → TasksKept setup.lines (directory_after_start k (message_with tag.0 (buffered_requests k past)) (directory setup past)).task
    → (found : Option Message) → message_with tag.0 (buffered_requests k past) ≡ found
    → kept_rows setup.hosts (directory_after_start k found (directory setup past))
    ≡ rows_started setup.hosts (option_and_then line_asked (option_map (kept_request setup k past) found)) (kept_rows setup.hosts (directory setup past))
started_by setup past run k tag row after found is =
    let m : Message = Message.Req row.r.op row.r.meta row.r.snp row.r.own_tag row.r.line in
    let same : Some m ≡ found = sym row.r.found ∙ is in
    let D = directory setup past in
    let kept = directory_is_kept setup past run in
    let t : Task = request_task k row.r.own_tag row.r.op row.r.meta in
    let after_m : TasksKept setup.lines (with_task row.r.line.0 (Some t) D.task) = subst (λ o. TasksKept setup.lines (directory_after_start k o D).task) row.r.found after in
    subst (λ o. kept_rows setup.hosts (directory_after_start k o D) ≡ rows_started setup.hosts (option_and_then line_asked (option_map (kept_request setup k past) o)) (kept_rows setup.hosts D)) same
    (rows_are_begun setup D row.r.line.0 t refl kept.entries (request_line_exists setup k tag.0 (buffered_requests k past) row.r (requests_are_taken setup past run k))
    (idle_has_no_task D row.r.line.0 row.idle) kept.tasks after_m
    (busy_at_task (directory_after_start k (Some m) D) row.r.line.0 t (own_task row.r.line.0 (Some t) D.task)))

-- ---- Evict

evicting_by : (setup : Configuration) (past : List Event) (run : DeviceRun setup past) (k : ℕ) (tag : Tag) (found : Option (ℕ × Span)) → victim_block (directory setup past) ≡ found
    → TasksKept setup.lines (directory_after_evict k tag found (directory setup past)).task
    → kept_rows setup.hosts (directory_after_evict k tag found (directory setup past)) ≡ rows_evicting (option_map block_of found) (kept_rows setup.hosts (directory setup past))
evicting_by setup past run k tag None is after = refl
evicting_by setup past run k tag (Some block) is after =
    let D = directory setup past in
    let may = victim_evictable D block is in
    let first = and_parts _ _ (may.lines block.0 (covers_first block.0 block.1)) in
    rows_are_held setup.hosts setup.lines D (directory_after_evict k tag (Some block) D) block.0 (eviction_task k tag block.1) refl refl refl
    (idle_has_no_task D block.0 (not-true _ first.1)) (directory_is_kept setup past run).tasks after

-- ---- Finish

finished_by : (setup : Configuration) (past : List Event) (run : DeviceRun setup past) (a : ℕ) (sends : Sends) (row : FinishRow setup a sends past) → TasksKept setup.lines (with_task a None (directory setup past).task)
    → kept_rows setup.hosts (directory_after setup (Cause.Act (Act.Finish (record { 0 = a }))) sends past (directory setup past))
    ≡ rows_finished a sends (task_at a (kept_tasks setup past)) (kept_rows setup.hosts (directory setup past))
finished_by setup past run a sends row after =
    let D = directory setup past in
    let kept = directory_is_kept setup past run in
    rows_are_ended setup D a row.t sends row.task kept.tasks after
    ∙ sym (ap (λ o. rows_finished a sends o (kept_rows setup.hosts D))
    (task_is setup.hosts setup.lines D.task (lines_left past) kept.tasks a ∙ ap (option_map (kept_task setup.hosts (lines_left past a) a)) row.task))

-- ---- each cause

rows_by : (setup : Configuration) (opening : List (Line × Bytes64)) (past : List Event) → DeviceRun setup past → (cause : Cause) (sends : Sends) → cause_fits setup device cause ≡ true
    → DeviceRow setup cause sends past → TasksKept setup.lines (directory_after setup cause sends past (directory setup past)).task
    → kept_rows setup.hosts (directory_after setup cause sends past (directory setup past)) ≡ rows_in setup cause sends (kept_device setup opening past)
rows_by setup opening past run (Cause.Op s i op) sends fits row after = refl
rows_by setup opening past run (Cause.Take k (Message.Req op meta snp tag line)) sends fits row after = refl
rows_by setup opening past run (Cause.Take k (Message.MemWr meta snp tag line bytes)) sends fits row after = refl
rows_by setup opening past run (Cause.Take k (Message.BiConflict tag)) sends fits row after = refl
rows_by setup opening past run (Cause.Take k (Message.BiRsp op bitag low)) sends fits row after =
    listed_rows setup (directory setup past) (answered_lines op k bitag.0 (bitag.0 + low) past) k (listing_after_response op)
    ∙ ap (λ ls. rows_set ls k (listing_after_response op) (kept_rows setup.hosts (directory setup past)))
    (answered_are setup past run op k bitag.0 (bitag.0 + low) (take_host setup k (Message.BiRsp op bitag low) fits))
rows_by setup opening past run (Cause.Take k (Message.Ndr op tag)) sends fits row after = refl
rows_by setup opening past run (Cause.Take k (Message.MemData tag bytes)) sends fits row after = refl
rows_by setup opening past run (Cause.Take k (Message.BiSnp op bitag line span)) sends fits row after = refl
rows_by setup opening past run (Cause.Take k (Message.Credit c)) sends fits row after = refl
rows_by setup opening past run (Cause.Act (Act.Conflict line)) sends fits row after = refl
rows_by setup opening past run (Cause.Act (Act.WriteBack line)) sends fits row after = refl
rows_by setup opening past run (Cause.Act (Act.Answer line)) sends fits row after = refl
rows_by setup opening past run (Cause.Act (Act.AnswerBlock line)) sends fits row after = refl
rows_by setup opening past run (Cause.Act (Act.HostReturn c)) sends fits row after = refl
rows_by setup opening past run (Cause.Act (Act.Serve k tag)) sends fits row after =
    served_by setup (directory setup past) (directory_is_kept setup past run).entries k (message_with tag.0 (buffered_writes k past))
    (λ m is. all_found (has_tag tag.0) (is_taken_on setup k Channel.Rwd) (buffered_writes k past) m (writes_are_taken setup past run k) is)
    ∙ sym (ap (λ ms. rows_served k (message_with tag.0 ms) (kept_rows setup.hosts (directory setup past))) (writes_are setup.hosts past k (act_host setup k _ fits)))
rows_by setup opening past run (Cause.Act (Act.Clean k tag)) sends fits row after =
    cleaned_by setup (directory setup past) past k (message_with tag.0 (buffered_requests k past))
    ∙ sym (ap (λ o. rows_cleaned k (option_and_then line_asked o) (kept_rows setup.hosts (directory setup past))) (request_is setup past k tag.0 (act_host setup k _ fits)))
rows_by setup opening past run (Cause.Act (Act.Start k tag)) sends fits row after =
    started_by setup past run k tag row after (message_with tag.0 (buffered_requests k past)) refl
    ∙ sym (ap (λ o. rows_started setup.hosts (option_and_then line_asked o) (kept_rows setup.hosts (directory setup past))) (request_is setup past k tag.0 (act_host setup k _ fits)))
rows_by setup opening past run (Cause.Act (Act.Evict k tag)) sends fits row after =
    evicting_by setup past run k tag (victim_block (directory setup past)) refl after
    ∙ sym (ap (λ o. rows_evicting o (kept_rows setup.hosts (directory setup past))) (victim_is setup.hosts (directory setup past)))
rows_by setup opening past run (Cause.Act (Act.Snoop k line)) sends fits row after = refl
rows_by setup opening past run (Cause.Act (Act.Finish line)) sends fits row after =
    finished_by setup past run line.0 sends row after
rows_by setup opening past run (Cause.Act (Act.DeviceReturn k c)) sends fits row after = refl

-- the rows follow
pub rows_follow_events : (setup : Configuration) (opening : List (Line × Bytes64)) (e : Event) (past : List Event) → DeviceRun setup (e ∷ past) → DeviceRun setup past → cause_fits setup device e.cause ≡ true → DeviceRow setup e.cause e.sends past
    → kept_rows setup.hosts (directory setup (e ∷ past)) ≡ rows_in setup e.cause e.sends (kept_device setup opening past)
rows_follow_events setup opening e past after run fits row = rows_by setup opening past run e.cause e.sends fits row (directory_is_kept setup (e ∷ past) after).tasks
