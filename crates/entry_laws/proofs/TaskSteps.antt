-- What Start, Evict, Snoop and Finish keep of the directory.
use Rattle.std.proofs.Common.{◌≡◌, ℕ, ◌+◌, ◌%◌, ◌<◌, ◌≤◌, Bool, true, false, List, [], ◌∷◌, ◌++◌, Option, Some, None, cond, refl, sym, ◌∙◌, ap, subst, arith, inl, inr}
use Rattle.std.specs.Prelude.{count_by, is_some, not, ◌&&◌, ◌==◌, ◌⊎◌}
use Rattle.std.specs.List.{list_any}
use Rattle.std.proofs.lemmas.Option.{same_Some}
use Rattle.std.proofs.lemmas.Bool.{and_parts, eq-eqb, eqb-true, false≢true, ltb-true, not-true, or_cases, or_left, or_right}
use Rattle.std.proofs.lemmas.List.Folds.{list_any-append}
use Rattle.std.proofs.lemmas.List.Sums.{sum_by_push}
use Rattle.cxl_message.specs.declared.events.Event.{Event}
use Rattle.cxl_message.specs.declared.events.Out.{Out}
use Rattle.cxl_message.specs.declared.events.Sends.{Sends}
use Rattle.cxl_message.specs.declared.identifiers.Tag.{Tag}
use Rattle.cxl_message.specs.declared.opcodes.Span.{Span}
use Rattle.cxl_message.specs.Codes.{span_len}
use Rattle.cxl_message.specs.Lists.{below, is_in}
use Rattle.cxl_message.specs.Setup.{Configuration}
use Rattle.cxl_message.specs.Spans.{covers, lines_of}
use Rattle.coherence_model.specs.Buffers.{buffered_requests, message_with}
use Rattle.coherence_model.specs.DeviceActs.{is_settled, snoop_message, snoop_op}
use Rattle.coherence_model.specs.Directory.{Directory, has_entry, is_busy, is_listed, is_to_ask, victim_block}
use Rattle.coherence_model.specs.DirectoryChanges.{directory, directory_after_evict, directory_after_finish, directory_after_start, listings_after_finish, with_entry, with_grant, with_task, with_task_begun}
use Rattle.coherence_model.specs.Fitting.{is_host}
use Rattle.coherence_model.specs.SentSnoops.{SentSnoop, is_asked, sent_snoop_at, snoop_by_sends}
use Rattle.coherence_model.specs.Tasks.{Task, eviction_task, request_task, Purpose, is_eviction}
use Rattle.entry_laws.proofs.Blocks.{aligned_one, all_below, covers_first, covers_listed, covers_one}
use Rattle.entry_laws.proofs.Buffered.{one_more}
use Rattle.entry_laws.proofs.Counts.{lines_once}
use Rattle.entry_laws.proofs.DeviceRows.{FinishRow, SnoopRow, StartRow}
use Rattle.entry_laws.proofs.DirectorySteps.{DirectoryKept, SnoopKept, only_in, snoops_kept_by}
use Rattle.entry_laws.proofs.Entries.{Evictable, count_absent, entry_before, keep_entries, victim_evictable, victim_free, victim_within}
use Rattle.entry_laws.proofs.Tasks.{IsFree, TasksKept, busy_at_task, busy_before, busy_from, busy_stays, busy_without, idle_has_no_task, kept_task, other_task, own_task, tasks_with, tasks_without}

-- the directory with a task set and other entries
abbrev pub with_task_set : ℕ → Task → List ℕ → Directory → Directory
with_task_set first t entries D = record { listed = D.listed; task = with_task first (Some t) D.task; entries = entries }

-- a task over lines that no task covers, with entries that are the old ones and lines of the task
tasked :
    (setup : Configuration) (D : Directory) (asked : ℕ → ℕ → Option SentSnoop) (first : ℕ) (t : Task) (entries : List ℕ) → DirectoryKept setup D asked
    → first % span_len t.span ≡ 0 → first + span_len t.span ≤ setup.lines → IsFree D.task first t.span → D.task first ≡ None
    → ((a : ℕ) → count_by (λ b. a == b) entries ≤ 1)
    → ((a : ℕ) → is_in a entries ≡ true → (is_in a D.entries ≡ true) ⊎ (covers first t.span a ≡ true))
    → ((a : ℕ) → is_in a D.entries ≡ true → is_in a entries ≡ true)
    → ((a : ℕ) → covers first t.span a ≡ true → (a < setup.lines) × (is_in a entries ≡ true))
    → DirectoryKept setup (with_task_set first t entries D) asked
tasked setup D asked first t entries kept start within free none once either old own =
    let E : Directory = with_task_set first t entries D in
    let tasks : TasksKept setup.lines (with_task first (Some t) D.task) = tasks_with setup.lines D.task first t kept.tasks start within free in
    record {
      tasks = tasks;
      entries = record {
        once = once;
        there = λ a is. elim (either a is) [
          | inl before ↦ (
              let had = kept.entries.there a before in (
                had.0,
                elim (or_cases (list_any (is_listed D a) (below setup.hosts)) (is_busy D a) had.1) [
                  | inl listed ↦ or_left _ _ listed
                  | inr busy ↦ or_right _ _ (busy_stays setup.lines D E first t refl tasks none a busy)
                ],
              )
              )
          | inr covered ↦ ((own a covered).0, or_right _ _ (busy_from setup.lines E tasks a first t (own_task first (Some t) D.task) covered))
        ];
        all = λ a exists has. elim (or_cases (list_any (is_listed D a) (below setup.hosts)) (is_busy E a) has) [
          | inl listed ↦ old a (kept.entries.all a exists (or_left _ _ listed))
          | inr busy ↦ (elim (busy_before setup.lines D E first t refl kept.tasks a busy) [
            | inl before ↦ old a (kept.entries.all a exists (or_right _ _ before))
            | inr covered ↦ (own a covered).1
          ])
        ];
      };
      snoops = snoops_kept_by setup D.task (with_task first (Some t) D.task) asked (λ h a q is s task. kept_task first (Some t) D.task a s none task)
          kept.snoops;
    }

-- ---- Start

one_end : (a lines : ℕ) → a < lines → a + 1 ≤ lines
one_end a lines h = omega arith

entered_once :
    (a line : ℕ) (entries : List ℕ) (b : Bool) → is_in line entries ≡ b → count_by (λ c. a == c) entries ≤ 1
    → count_by (λ c. a == c) (cond b entries (entries ++ line ∷ [])) ≤ 1
entered_once a line entries true is few = few
entered_once a line entries false is few =
    subst (λ n. n ≤ 1) (sym (sum_by_push (λ c. cond (a == c) 1 0) entries line))
    (one_more (a == line) (count_by (λ c. a == c) entries) few
    (λ same. count_absent (λ c. a == c) entries (subst (λ x. is_in x entries ≡ false) (sym (eqb-true a line same)) is)))

entered_cases :
    (a line : ℕ) (entries : List ℕ) (b : Bool) → is_in a (cond b entries (entries ++ line ∷ [])) ≡ true
    → (is_in a entries ≡ true) ⊎ (covers line Span.One a ≡ true)
entered_cases a line entries true h = inl h
entered_cases a line entries false h =
    elim (or_cases (is_in a entries) (is_in a (line ∷ [])) (sym (list_any-append (λ c. a == c) entries (line ∷ [])) ∙ h)) [
      | inl old ↦ inl old
      | inr new ↦ inr (subst (λ x. covers line Span.One x ≡ true) (only_in a line new) (covers_first line Span.One))
    ]

entered_old : (a line : ℕ) (entries : List ℕ) (b : Bool) → is_in a entries ≡ true → is_in a (cond b entries (entries ++ line ∷ [])) ≡ true
entered_old a line entries true h = h
entered_old a line entries false h = list_any-append (λ c. a == c) entries (line ∷ []) ∙ or_left _ _ h

entered_own : (line : ℕ) (entries : List ℕ) (b : Bool) → is_in line entries ≡ b → is_in line (cond b entries (entries ++ line ∷ [])) ≡ true
entered_own line entries true is = is
entered_own line entries false is = list_any-append (λ c. line == c) entries (line ∷ []) ∙ or_right _ _ (or_left _ _ (eq-eqb line line refl))

idle_is_free : (lines : ℕ) (D : Directory) (line : ℕ) → TasksKept lines D.task → is_busy D line ≡ false → IsFree D.task line Span.One
idle_is_free lines D line kept idle a b s is covered inside =
    let busy = busy_from lines D kept a b s is covered in
    false≢true (sym idle ∙ subst (λ x. is_busy D x ≡ true) (sym (covers_one line a inside)) busy)

begin_step :
    (setup : Configuration) (D : Directory) (asked : ℕ → ℕ → Option SentSnoop) (line : ℕ) (t : Task) → t.span ≡ Span.One → DirectoryKept setup D asked
    → is_busy D line ≡ false → line < setup.lines → DirectoryKept setup (with_task_begun line t D) asked
begin_step setup D asked line t one kept idle exists =
    tasked setup D asked line t (with_entry line D.entries) kept
    (subst (λ s. line % span_len s ≡ 0) (sym one) (aligned_one line)) (subst (λ s. line + span_len s ≤ setup.lines) (sym one) (one_end line setup.lines exists))
    (subst (λ s. IsFree D.task line s) (sym one) (idle_is_free setup.lines D line kept.tasks idle)) (idle_has_no_task D line idle)
    (λ a. entered_once a line D.entries (is_in line D.entries) refl (kept.entries.once a))
    (λ a is. subst (λ s. (is_in a D.entries ≡ true) ⊎ (covers line s a ≡ true)) (sym one) (entered_cases a line D.entries (is_in line D.entries) is))
    (λ a is. entered_old a line D.entries (is_in line D.entries) is)
    (λ a covered. subst (λ x. (x < setup.lines) × (is_in x (with_entry line D.entries) ≡ true)) (covers_one line a (subst (λ s. covers line s a ≡ true) one covered))
    (exists, entered_own line D.entries (is_in line D.entries) refl))

pub start_step :
    (setup : Configuration) (h tag : ℕ) (mine : List Event) (asked : ℕ → ℕ → Option SentSnoop) (row : StartRow setup h tag mine) → row.r.line.0 < setup.lines
    → DirectoryKept setup (directory setup mine) asked → DirectoryKept setup
    (directory_after_start h (message_with tag (buffered_requests h mine)) (directory setup mine)) asked
start_step setup h tag mine asked row exists kept =
    subst (λ found. DirectoryKept setup (directory_after_start h found (directory setup mine)) asked) (sym row.r.found)
    (begin_step setup (directory setup mine) asked row.r.line.0 (request_task h row.r.own_tag row.r.op row.r.meta) refl kept row.idle exists)

-- ---- Evict

evict_block :
    (setup : Configuration) (D : Directory) (asked : ℕ → ℕ → Option SentSnoop) (block : ℕ × Span) (t : Task) → t.span ≡ block.1 → DirectoryKept setup D asked
    → Evictable D block → DirectoryKept setup (with_task_set block.0 t D.entries D) asked
evict_block setup D asked block t same kept may =
    let first = and_parts _ _ (may.lines block.0 (covers_first block.0 block.1)) in
    tasked setup D asked block.0 t D.entries kept
    (subst (λ s. block.0 % span_len s ≡ 0) (sym same) may.start)
    (subst (λ s. block.0 + span_len s ≤ setup.lines) (sym same) (victim_within setup D kept.entries block may))
    (subst (λ s. IsFree D.task block.0 s) (sym same) (victim_free setup.lines D kept.tasks block may)) (idle_has_no_task D block.0 (not-true _ first.1))
    kept.entries.once (λ a is. inl is) (λ a is. is)
    (λ a covered. (
    let line = and_parts _ _ (may.lines a (subst (λ s. covers block.0 s a ≡ true) same covered)) in
    ((kept.entries.there a line.0).0, line.0)
    ))

evict_found :
    (setup : Configuration) (D : Directory) (asked : ℕ → ℕ → Option SentSnoop) (h : ℕ) (tag : Tag) (found : Option (ℕ × Span)) → victim_block D ≡ found →
    DirectoryKept setup D asked
    → DirectoryKept setup (directory_after_evict h tag found D) asked
evict_found setup D asked h tag None is kept = kept
evict_found setup D asked h tag (Some block) is kept = evict_block setup D asked block (eviction_task h tag block.1) refl kept (victim_evictable D block is)

pub evict_step :
    (setup : Configuration) (D : Directory) (asked : ℕ → ℕ → Option SentSnoop) (h : ℕ) (tag : Tag) → DirectoryKept setup D asked
    → DirectoryKept setup (directory_after_evict h tag (victim_block D) D) asked
evict_step setup D asked h tag kept = evict_found setup D asked h tag (victim_block D) refl kept

-- ---- Snoop

-- the snoop that is sent
abbrev sent_for : ℕ → Task → SentSnoop
sent_for a t = record { op = snoop_op t.purpose t.span; span = t.span; unanswered = lines_of a t.span }

sent_by :
    (a h : ℕ) (t : Task) (sends : Sends) → sends ≡ Sends.One (record { host = h; message = snoop_message a t }) → snoop_by_sends sends ≡ Some (sent_for a t)
sent_by a h t sends same = ap snoop_by_sends same

not_both_hosts : (same asks : Bool) → (not same && asks) ≡ true → same ≡ true → ⊥
not_both_hosts true asks ask is = false≢true ask
not_both_hosts false asks ask is = false≢true is

-- the task of a request asks others than its requester
asks_others : (purpose : Purpose) (D : Directory) (a : ℕ) (t : Task) (h : ℕ) → is_to_ask purpose D a t h ≡ true → is_eviction purpose ≡ false → t.host ≡ h → ⊥
asks_others Purpose.SharedRead D a t h ask none same = not_both_hosts (t.host == h) _ ask (eq-eqb t.host h same)
asks_others Purpose.OwningRead D a t h ask none same = not_both_hosts (t.host == h) _ ask (eq-eqb t.host h same)
asks_others Purpose.Invalidation D a t h ask none same = not_both_hosts (t.host == h) _ ask (eq-eqb t.host h same)
asks_others Purpose.Eviction D a t h ask none same = false≢true (sym none)

sent_kept :
    (setup : Configuration) (D : Directory) (h a : ℕ) (t : Task) → is_host setup h ≡ true → D.task a ≡ Some t → is_to_ask t.purpose D a t h ≡ true
    → (q : SentSnoop) → sent_for a t ≡ q → SnoopKept setup D.task h a q
sent_kept setup D h a t host is ask q same =
    subst (SnoopKept setup D.task h a) same
    (record {
      host = host;
      t = t;
      is = is;
      op = refl;
      span = refl;
      other = asks_others t.purpose D a t h ask;
      within = λ b there. covers_listed a t.span b there;
      once = λ b. lines_once b a t.span;
    })

snooped_cases :
    (setup : Configuration) (D : Directory) (host h line a : ℕ) (t : Task) (sent old : Option SentSnoop) (q : SentSnoop) (same here : Bool) → (host == h) ≡ same
    → (line == a) ≡ here
    → is_host setup host ≡ true → D.task line ≡ Some t → is_to_ask t.purpose D line t host ≡ true → sent ≡ Some (sent_for line t) → cond (same && here) sent old
    ≡ Some q
    → (old ≡ Some q → SnoopKept setup D.task h a q) → SnoopKept setup D.task h a q
snooped_cases setup D host h line a t sent old q true true is_host_same is_line exists stands ask is stood kept_old =
    subst (λ x. SnoopKept setup D.task x a q) (eqb-true host h is_host_same)
    (subst (λ x. SnoopKept setup D.task host x q) (eqb-true line a is_line) (sent_kept setup D host line t exists stands ask q (same_Some _ _ (sym is ∙ stood))))
snooped_cases setup D host h line a t sent old q true false is_host_same is_line exists stands ask is stood kept_old = kept_old stood
snooped_cases setup D host h line a t sent old q false here is_host_same is_line exists stands ask is stood kept_old = kept_old stood

pub snoop_step :
    (setup : Configuration) (host line : ℕ) (sends : Sends) (mine : List Event) → SnoopRow setup host line sends mine → DirectoryKept setup
    (directory setup mine) (λ h a. sent_snoop_at h a mine)
    → DirectoryKept setup (directory setup mine) (λ h a. cond ((host == h) && (line == a)) (snoop_by_sends sends) (sent_snoop_at h a mine))
snoop_step setup host line sends mine row kept = record {
  tasks = kept.tasks;
  entries = kept.entries;
  snoops = λ h a q is.
      snooped_cases setup (directory setup mine) host h line a row.t (snoop_by_sends sends) (sent_snoop_at h a mine) q (host == h) (line == a) refl refl
      row.host row.task row.asks
      (sent_by line host row.t sends row.sent) is (kept.snoops h a q);
}

-- ---- Finish

no_longer :
    (setup : Configuration) (D : Directory) (a : ℕ) (t : Task) (mine : List Event) → is_settled setup a t D mine ≡ true → (h : ℕ) → is_host setup h ≡ true
    → (q : SentSnoop) → sent_snoop_at h a mine ≡ Some q → ⊥
no_longer setup D a t mine settled h host q asked =
    let none = and_parts _ _ (all_below (λ g. not (is_asked g a mine) && not (is_to_ask t.purpose D a t g)) setup.hosts settled h (ltb-true _ _ host)) in
    false≢true (sym (not-true _ none.0) ∙ ap is_some asked)

granted_entries :
    (setup : Configuration) (D : Directory) (a : ℕ) (t : Task) (o : Out) → TasksKept setup.lines D.task → D.task a ≡ Some t → (b : ℕ)
    → has_entry setup (record { listed = with_grant a o D.listed; task = with_task a None D.task; entries = D.entries }) b ≡ true → has_entry setup D b ≡ true
granted_entries setup D a t o tasks is b has =
    let E : Directory = record { listed = with_grant a o D.listed; task = with_task a None D.task; entries = D.entries } in
    let busy_then : is_busy E b ≡ true → is_busy D b ≡ true =
    λ busy. (let by = busy_without setup.lines D E a refl tasks b busy in busy_from setup.lines D tasks b by.0.first by.0.t by.0.is by.0.covered) in
    elim (entry_before setup D E (a ∷ []) o.host _ refl b busy_then has) [
      | inl old ↦ old
      | inr new ↦ subst (λ x. has_entry setup D x ≡ true) (only_in b a new.0) (or_right _ _ (busy_at_task D a t is))
    ]

finished_entries :
    (setup : Configuration) (D : Directory) (a : ℕ) (t : Task) (sends : Sends) → TasksKept setup.lines D.task → D.task a ≡ Some t → (b : ℕ)
    → has_entry setup (record { listed = listings_after_finish a sends D.listed; task = with_task a None D.task; entries = D.entries }) b ≡ true → has_entry
    setup D b ≡ true
finished_entries setup D a t Sends.Nothing tasks is b has =
    let E : Directory = record { listed = D.listed; task = with_task a None D.task; entries = D.entries } in
    elim (or_cases (list_any (is_listed D b) (below setup.hosts)) (is_busy E b) has) [
      | inl listed ↦ or_left _ _ listed
      | inr busy ↦
          (let by = busy_without setup.lines D E a refl tasks b busy in or_right _ _ (busy_from setup.lines D tasks b by.0.first by.0.t by.0.is by.0.covered))
    ]
finished_entries setup D a t (Sends.One o) tasks is b has = granted_entries setup D a t o tasks is b has
finished_entries setup D a t (Sends.Two o p) tasks is b has = granted_entries setup D a t o tasks is b has

finish_directory :
    (setup : Configuration) (D : Directory) (asked : ℕ → ℕ → Option SentSnoop) (a : ℕ) (t : Task) (sends : Sends) → DirectoryKept setup D asked → D.task a ≡
    Some t
    → ((h : ℕ) (q : SentSnoop) → asked h a ≡ Some q → is_host setup h ≡ true → ⊥) → DirectoryKept setup (directory_after_finish setup a sends D) asked
finish_directory setup D asked a t sends kept is none = record {
  tasks = tasks_without setup.lines D.task a kept.tasks;
  entries = keep_entries setup D (record { listed = listings_after_finish a sends D.listed; task = with_task a None D.task; entries = D.entries }) kept.entries
      refl
      (λ b exists has. finished_entries setup D a t sends kept.tasks is b has);
  snoops = snoops_kept_by setup D.task (with_task a None D.task) asked
      (λ h b q sent s task. other_task a None D.task b (λ same. none h q (subst (λ x. asked h x ≡ Some q) same sent) (kept.snoops h b q sent).host)
      ∙ task) kept.snoops;
}

pub finish_step :
    (setup : Configuration) (a : ℕ) (sends : Sends) (mine : List Event) → FinishRow setup a sends mine → DirectoryKept setup (directory setup mine)
    (λ h b. sent_snoop_at h b mine)
    → DirectoryKept setup (directory_after_finish setup a sends (directory setup mine)) (λ h b. sent_snoop_at h b mine)
finish_step setup a sends mine row kept =
    finish_directory setup (directory setup mine) (λ h b. sent_snoop_at h b mine) a row.t sends kept row.task
    (λ h q asked host. no_longer setup (directory setup mine) a row.t mine row.settled h host q asked)
