-- Each snoop that the device sent, and of which a line has no answer, is one of its task: the task stands, and the snoop has its opcode and span.
use Rattle.std.proofs.Common.{◌≡◌, ℕ, ◌+◌, ◌≤◌, ◌<◌, Bool, true, false, List, [], ◌∷◌, Option, None, Some, cond, length, refl, sym, ◌∙◌, ap, subst, arith}
use Rattle.std.specs.Prelude.{is_some, not, option_and_then, ◌&&◌, ◌==◌}
use Rattle.std.proofs.lemmas.Bool.{and_parts, eqb-true, false≢true, ltb-true, not-true}
use Rattle.std.proofs.lemmas.Option.{none-some, same_Some}
use Rattle.cxl_message.specs.declared.events.Act.{Act}
use Rattle.cxl_message.specs.declared.events.Cause.{Cause}
use Rattle.cxl_message.specs.declared.events.Event.{Event}
use Rattle.cxl_message.specs.declared.events.Sends.{Sends}
use Rattle.cxl_message.specs.declared.identifiers.Tag.{Tag}
use Rattle.cxl_message.specs.declared.messages.Message.{Message}
use Rattle.cxl_message.specs.declared.opcodes.RspOp.{RspOp}
use Rattle.cxl_message.specs.declared.opcodes.Span.{Span}
use Rattle.cxl_message.specs.Lists.{without}
use Rattle.cxl_message.specs.Messages.{line_in}
use Rattle.cxl_message.specs.Setup.{Configuration}
use Rattle.cxl_message.specs.Spans.{lines_of}
use Rattle.coherence_model.specs.Buffers.{buffered_requests, buffered_writes, message_with}
use Rattle.coherence_model.specs.DeviceActs.{snoop_message, snoop_op}
use Rattle.coherence_model.specs.Directory.{Directory, is_to_ask, victim_block}
use Rattle.coherence_model.specs.DirectoryChanges.{directory, directory_after, directory_after_clean, directory_after_evict, directory_after_serve, directory_after_start, with_task}
use Rattle.coherence_model.specs.SentSnoops.{SentSnoop, is_asked, sent_snoop_after, sent_snoop_at, snoop_after_response, snoop_by_sends, still_asking}
use Rattle.coherence_model.specs.Tasks.{Task}
use Rattle.coherence_model.specs.Traces.{device, events_of}
use Rattle.coherence_model.specs.OwnRuns.{IsOwnRun}
use Rattle.cxl_message.specs.declared.identifiers.Bytes64.{Bytes64}
use Rattle.cxl_message.specs.declared.identifiers.Line.{Line}
use Rattle.entry_laws.proofs.Blocks.{all_below, covers_first}
use Rattle.entry_laws.proofs.DeviceRows.{DeviceRow, FinishRow, StartRow}
use Rattle.entry_laws.proofs.DirectorySteps.{DirectoryKept}
use Rattle.entry_laws.proofs.Entries.{victim_evictable}
use Rattle.entry_laws.proofs.Kept.{directory_is_kept}
use Rattle.coherence_model.proofs.OwnRuns.{events_of_run}
use Rattle.entry_laws.proofs.OwnRuns.{device_event}
use Rattle.entry_laws.proofs.Tasks.{idle_has_no_task, kept_task, other_task}
use Rattle.snoop_laws.proofs.Parts.{Part, part_without, whole}
use Rattle.snoop_laws.specs.Laws.{SentSnoopsHaveTasks}

-- a snoop of the task with a first line: it has its opcode and span, and some of its lines are left
pub record SnoopFits (task : ℕ → Option Task) (first : ℕ) (q : SentSnoop) : Type 0 where
  pub t : Task
  pub stands : task first ≡ Some t
  pub op : q.op ≡ snoop_op t.purpose t.span
  pub span : q.span ≡ t.span
  pub part : Part q.unanswered (lines_of first q.span)
  pub some : 1 ≤ length q.unanswered

-- ---- the task stands as long as a host is Asked by it

finish_stays : (setup : Configuration) (h line first : ℕ) (sends : Sends) (mine : List Event) (q : SentSnoop) (t : Task) → FinishRow setup line sends mine → h < setup.hosts
    → sent_snoop_at h first mine ≡ Some q → (directory setup mine).task first ≡ Some t → with_task line None (directory setup mine).task first ≡ Some t
finish_stays setup h line first sends mine q t row host asked stands =
    other_task line None (directory setup mine).task first (λ same.
    let passes = all_below (λ g. not (is_asked g line mine) && not (is_to_ask row.t.purpose (directory setup mine) line row.t g)) setup.hosts row.settled h host in
    let none = not-true (is_asked h line mine) (and_parts _ _ passes).0 in
    false≢true (sym none ∙ ap (λ a. is_asked h a mine) (sym same) ∙ ap is_some asked))
    ∙ stands

start_stays : (setup : Configuration) (h tag first : ℕ) (mine : List Event) (t : Task) → StartRow setup h tag mine
    → (directory setup mine).task first ≡ Some t → (directory_after_start h (message_with tag (buffered_requests h mine)) (directory setup mine)).task first ≡ Some t
start_stays setup h tag first mine t row stands =
    subst (λ found. (directory_after_start h found (directory setup mine)).task first ≡ Some t) (sym row.r.found)
    (kept_task row.r.line.0 _ (directory setup mine).task first t (idle_has_no_task (directory setup mine) row.r.line.0 row.idle) stands)

evict_by : (D : Directory) (h first : ℕ) (tag : Tag) (t : Task) (found : Option (ℕ × Span)) → victim_block D ≡ found → D.task first ≡ Some t → (directory_after_evict h tag found D).task first ≡ Some t
evict_by D h first tag t None is stands = stands
evict_by D h first tag t (Some block) is stands =
    let may = victim_evictable D block is in
    let idle = not-true _ (and_parts _ _ (may.lines block.0 (covers_first block.0 block.1))).1 in
    kept_task block.0 _ D.task first t (idle_has_no_task D block.0 idle) stands

serve_same : (setup : Configuration) (h : ℕ) (m : Option Message) (D : Directory) → (directory_after_serve setup h m D).task ≡ D.task
serve_same setup h None D = refl
serve_same setup h (Some (Message.Req _ _ _ _ _)) D = refl
serve_same setup h (Some (Message.MemWr _ _ _ _ _)) D = refl
serve_same setup h (Some (Message.BiConflict _)) D = refl
serve_same setup h (Some (Message.BiRsp _ _ _)) D = refl
serve_same setup h (Some (Message.Ndr _ _)) D = refl
serve_same setup h (Some (Message.MemData _ _)) D = refl
serve_same setup h (Some (Message.BiSnp _ _ _ _)) D = refl
serve_same setup h (Some (Message.Credit _)) D = refl

clean_same : (setup : Configuration) (h : ℕ) (a : Option ℕ) (D : Directory) → (directory_after_clean setup h a D).task ≡ D.task
clean_same setup h None D = refl
clean_same setup h (Some a) D = refl

task_stays : (setup : Configuration) (h first : ℕ) (cause : Cause) (sends : Sends) (mine : List Event) (q : SentSnoop) (t : Task) → DeviceRow setup cause sends mine → h < setup.hosts
    → sent_snoop_at h first mine ≡ Some q → (directory setup mine).task first ≡ Some t → (directory_after setup cause sends mine (directory setup mine)).task first ≡ Some t
task_stays setup h first (Cause.Op s i op) sends mine q t row host asked stands = stands
task_stays setup h first (Cause.Take k (Message.Req _ _ _ _ _)) sends mine q t row host asked stands = stands
task_stays setup h first (Cause.Take k (Message.MemWr _ _ _ _ _)) sends mine q t row host asked stands = stands
task_stays setup h first (Cause.Take k (Message.BiConflict _)) sends mine q t row host asked stands = stands
task_stays setup h first (Cause.Take k (Message.BiRsp _ _ _)) sends mine q t row host asked stands = stands
task_stays setup h first (Cause.Take k (Message.Ndr _ _)) sends mine q t row host asked stands = stands
task_stays setup h first (Cause.Take k (Message.MemData _ _)) sends mine q t row host asked stands = stands
task_stays setup h first (Cause.Take k (Message.BiSnp _ _ _ _)) sends mine q t row host asked stands = stands
task_stays setup h first (Cause.Take k (Message.Credit _)) sends mine q t row host asked stands = stands
task_stays setup h first (Cause.Act (Act.Conflict _)) sends mine q t row host asked stands = stands
task_stays setup h first (Cause.Act (Act.WriteBack _)) sends mine q t row host asked stands = stands
task_stays setup h first (Cause.Act (Act.Answer _)) sends mine q t row host asked stands = stands
task_stays setup h first (Cause.Act (Act.AnswerBlock _)) sends mine q t row host asked stands = stands
task_stays setup h first (Cause.Act (Act.HostReturn _)) sends mine q t row host asked stands = stands
task_stays setup h first (Cause.Act (Act.Serve k tag)) sends mine q t row host asked stands =
    ap (λ (f : ℕ → Option Task). f first) (serve_same setup k (message_with tag.0 (buffered_writes k mine)) (directory setup mine)) ∙ stands
task_stays setup h first (Cause.Act (Act.Clean k tag)) sends mine q t row host asked stands =
    ap (λ (f : ℕ → Option Task). f first) (clean_same setup k (option_and_then line_in (message_with tag.0 (buffered_requests k mine))) (directory setup mine)) ∙ stands
task_stays setup h first (Cause.Act (Act.Start k tag)) sends mine q t row host asked stands = start_stays setup k tag.0 first mine t row stands
task_stays setup h first (Cause.Act (Act.Evict k tag)) sends mine q t row host asked stands = evict_by (directory setup mine) k first tag t (victim_block (directory setup mine)) refl stands
task_stays setup h first (Cause.Act (Act.Snoop _ _)) sends mine q t row host asked stands = stands
task_stays setup h first (Cause.Act (Act.Finish line)) sends mine q t row host asked stands = finish_stays setup h line.0 first sends mine q t row host asked stands
task_stays setup h first (Cause.Act (Act.DeviceReturn _ _)) sends mine q t row host asked stands = stands

-- ---- the snoop after an event is what is left of the one before, or the one that the event sends

fits_left : (task : ℕ → Option Task) (first : ℕ) (p q : SentSnoop) (a : ℕ) (left : List ℕ) → without a p.unanswered ≡ left → still_asking p left ≡ Some q → SnoopFits task first p → SnoopFits task first q
fits_left task first p q a [] is h fits = absurd (none-some q h)
fits_left task first p q a (b ∷ bs) is h fits =
    subst (SnoopFits task first) (same_Some (record p { unanswered = b ∷ bs }) q h)
    (record {
      t = fits.t;
      stands = fits.stands;
      op = fits.op;
      span = fits.span;
      part = subst (λ xs. Part xs (lines_of first p.span)) is (part_without a p.unanswered (lines_of first p.span) fits.part);
      some = omega arith;
    })

fits_answered : (task : ℕ → Option Task) (first a : ℕ) (op : RspOp) (p q : SentSnoop) → snoop_after_response op a p ≡ Some q → SnoopFits task first p → SnoopFits task first q
fits_answered task first a RspOp.I p q h fits = fits_left task first p q a (without a p.unanswered) refl h fits
fits_answered task first a RspOp.S p q h fits = fits_left task first p q a (without a p.unanswered) refl h fits
fits_answered task first a RspOp.E p q h fits = fits_left task first p q a (without a p.unanswered) refl h fits
fits_answered task first a RspOp.IBlk p q h fits = absurd (none-some q h)
fits_answered task first a RspOp.SBlk p q h fits = absurd (none-some q h)
fits_answered task first a RspOp.EBlk p q h fits = absurd (none-some q h)

fits_old : (task : ℕ → Option Task) (first : ℕ) (old : Option SentSnoop) (q : SentSnoop) (f : SentSnoop → Option SentSnoop) → ((p : SentSnoop) → f p ≡ Some q → SnoopFits task first p → SnoopFits task first q)
    → ((p : SentSnoop) → old ≡ Some p → SnoopFits task first p) → option_and_then f old ≡ Some q → SnoopFits task first q
fits_old task first None q f left fits h = absurd (none-some q h)
fits_old task first (Some p) q f left fits h = left p h (fits p refl)

fits_taken : (task : ℕ → Option Task) (first a : ℕ) (op : RspOp) (old : Option SentSnoop) (q : SentSnoop) (own here : Bool) → ((p : SentSnoop) → old ≡ Some p → SnoopFits task first p)
    → cond own (cond here (option_and_then (snoop_after_response op a) old) old) old ≡ Some q → SnoopFits task first q
fits_taken task first a op old q true true fits h = fits_old task first old q (snoop_after_response op a) (λ p. fits_answered task first a op p q) fits h
fits_taken task first a op old q true false fits h = fits q h
fits_taken task first a op old q false here fits h = fits q h

same_old : (own : Bool) (old : Option SentSnoop) (q : SentSnoop) → cond own old old ≡ Some q → old ≡ Some q
same_old true old q h = h
same_old false old q h = h

pub span_some : (span : Span) (first : ℕ) → 1 ≤ length (lines_of first span)
span_some Span.One first = omega arith
span_some Span.Two first = omega arith
span_some Span.Four first = omega arith

-- the snoop that a task sends
abbrev pub sent_by : ℕ → Task → SentSnoop
sent_by first t = record { op = snoop_op t.purpose t.span; span = t.span; unanswered = lines_of first t.span }

fits_sent : (task : ℕ → Option Task) (h k first line : ℕ) (t : Task) (sends : Sends) (old : Option SentSnoop) (q : SentSnoop) (own here : Bool) → (line == first) ≡ here
    → task line ≡ Some t → sends ≡ Sends.One (record { host = k; message = snoop_message line t })
    → (old ≡ Some q → SnoopFits task first q) → cond (own && here) (snoop_by_sends sends) old ≡ Some q → SnoopFits task first q
fits_sent task h k first line t sends old q true true is stands sent fits h' =
    let same : sent_by line t ≡ q = same_Some (sent_by line t) q (sym (ap snoop_by_sends sent) ∙ h') in
    subst (λ a. SnoopFits task a q) (eqb-true line first is)
    (subst (SnoopFits task line) same (record { t = t; stands = stands; op = refl; span = refl; part = whole (lines_of line t.span); some = span_some t.span line }))
fits_sent task h k first line t sends old q true false is stands sent fits h' = fits h'
fits_sent task h k first line t sends old q false here is stands sent fits h' = fits h'

-- the tasks after an event
abbrev tasks_after : Configuration → Cause → Sends → List Event → ℕ → Option Task
tasks_after setup cause sends mine = (directory_after setup cause sends mine (directory setup mine)).task

fits_after : (setup : Configuration) (h first : ℕ) (cause : Cause) (sends : Sends) (mine : List Event) (old : Option SentSnoop) (q : SentSnoop) → DeviceRow setup cause sends mine
    → ((p : SentSnoop) → old ≡ Some p → SnoopFits (tasks_after setup cause sends mine) first p) → sent_snoop_after h first cause sends old ≡ Some q
    → SnoopFits (tasks_after setup cause sends mine) first q
fits_after setup h first (Cause.Op s i op) sends mine old q row fits e = fits q e
fits_after setup h first (Cause.Take k (Message.Req _ _ _ _ _)) sends mine old q row fits e = fits q (same_old (k == h) old q e)
fits_after setup h first (Cause.Take k (Message.MemWr _ _ _ _ _)) sends mine old q row fits e = fits q (same_old (k == h) old q e)
fits_after setup h first (Cause.Take k (Message.BiConflict _)) sends mine old q row fits e = fits q (same_old (k == h) old q e)
fits_after setup h first (Cause.Take k (Message.BiRsp op bitag low)) sends mine old q row fits e = fits_taken (directory_after setup (Cause.Take k (Message.BiRsp op bitag low)) sends mine (directory setup mine)).task first (first + low) op old q (k == h) (bitag.0 == first) fits e
fits_after setup h first (Cause.Take k (Message.Ndr _ _)) sends mine old q row fits e = fits q (same_old (k == h) old q e)
fits_after setup h first (Cause.Take k (Message.MemData _ _)) sends mine old q row fits e = fits q (same_old (k == h) old q e)
fits_after setup h first (Cause.Take k (Message.BiSnp _ _ _ _)) sends mine old q row fits e = fits q (same_old (k == h) old q e)
fits_after setup h first (Cause.Take k (Message.Credit _)) sends mine old q row fits e = fits q (same_old (k == h) old q e)
fits_after setup h first (Cause.Act (Act.Conflict _)) sends mine old q row fits e = fits q e
fits_after setup h first (Cause.Act (Act.WriteBack _)) sends mine old q row fits e = fits q e
fits_after setup h first (Cause.Act (Act.Answer _)) sends mine old q row fits e = fits q e
fits_after setup h first (Cause.Act (Act.AnswerBlock _)) sends mine old q row fits e = fits q e
fits_after setup h first (Cause.Act (Act.HostReturn _)) sends mine old q row fits e = fits q e
fits_after setup h first (Cause.Act (Act.Serve _ _)) sends mine old q row fits e = fits q e
fits_after setup h first (Cause.Act (Act.Clean _ _)) sends mine old q row fits e = fits q e
fits_after setup h first (Cause.Act (Act.Start _ _)) sends mine old q row fits e = fits q e
fits_after setup h first (Cause.Act (Act.Evict _ _)) sends mine old q row fits e = fits q e
fits_after setup h first (Cause.Act (Act.Snoop k line)) sends mine old q row fits e =
    fits_sent (directory setup mine).task h k first line.0 row.t sends old q (k == h) (line.0 == first) refl row.task row.sent (λ is. fits q is) e
fits_after setup h first (Cause.Act (Act.Finish _)) sends mine old q row fits e = fits q e
fits_after setup h first (Cause.Act (Act.DeviceReturn _ _)) sends mine old q row fits e = fits q e

moved : (setup : Configuration) (h first : ℕ) (cause : Cause) (sends : Sends) (mine : List Event) (p : SentSnoop) → DeviceRow setup cause sends mine → h < setup.hosts → sent_snoop_at h first mine ≡ Some p
    → SnoopFits (directory setup mine).task first p → SnoopFits (tasks_after setup cause sends mine) first p
moved setup h first cause sends mine p row host asked fits =
    record { t = fits.t; stands = task_stays setup h first cause sends mine p fits.t row host asked fits.stands; op = fits.op; span = fits.span; part = fits.part; some = fits.some }

-- after the device's own events of a run each snoop is one of its task
pub snoops_fit : (setup : Configuration) (opening : List (Line × Bytes64)) (mine : List Event) → IsOwnRun setup opening device mine → (h first : ℕ) (q : SentSnoop) → sent_snoop_at h first mine ≡ Some q → SnoopFits (directory setup mine).task first q
snoops_fit setup opening [] run h first q asked = absurd (none-some q asked)
snoops_fit setup opening (e ∷ past) run h first q asked =
    let own = device_event setup opening e past run in
    let kept : DirectoryKept setup (directory setup past) (λ g a. sent_snoop_at g a past) = directory_is_kept setup opening past own.0 in
    fits_after setup h first e.cause e.sends past (sent_snoop_at h first past) q own.1
    (λ p was. moved setup h first e.cause e.sends past p own.1 (ltb-true h setup.hosts (kept.snoops h first p was).host) was (snoops_fit setup opening past own.0 h first p was)) asked

pub sent_snoops_have_tasks : SentSnoopsHaveTasks
sent_snoops_have_tasks setup opening t run h first q asked =
    let fits = snoops_fit setup opening (events_of device t) (events_of_run setup opening device t run) h first q asked in
    record { task = fits.t; stands = fits.stands; op = fits.op; span = fits.span }
