-- The device's tasks and entries: their lines, hosts and tags exist, and a task's first line is a multiple of its span.
use Rattle.std.proofs.Common.{◌≡◌, ℕ, ◌+◌, ◌%◌, ◌≤◌, ◌<◌, Bool, true, false, List, [], ◌∷◌, ◌++◌, Option, Some, None, cond, refl, sym, ◌∙◌, subst, arith}
use Rattle.std.specs.Prelude.{◌==◌, not, nat_lt, option_and_then, find}
use Rattle.std.proofs.lemmas.Bool.{and_parts, eqb-true, false≢true, leb-true, ltb-true}
use Rattle.std.proofs.lemmas.Option.{none-some, same_Some}
use Rattle.cxl_message.specs.declared.channels.Channel.{Channel}
use Rattle.cxl_message.specs.declared.events.Act.{Act}
use Rattle.cxl_message.specs.declared.events.Cause.{Cause}
use Rattle.cxl_message.specs.declared.events.Event.{Event}
use Rattle.cxl_message.specs.declared.events.Sends.{Sends}
use Rattle.cxl_message.specs.declared.identifiers.Bytes64.{Bytes64}
use Rattle.cxl_message.specs.declared.identifiers.Line.{Line}
use Rattle.cxl_message.specs.declared.identifiers.Tag.{Tag}
use Rattle.cxl_message.specs.declared.messages.Message.{Message}
use Rattle.cxl_message.specs.declared.opcodes.Meta.{Meta}
use Rattle.cxl_message.specs.declared.opcodes.ReqOp.{ReqOp}
use Rattle.cxl_message.specs.declared.opcodes.Span.{Span}
use Rattle.cxl_message.specs.declared.states.Listing.{Listing}
use Rattle.cxl_message.specs.Codes.{span_len}
use Rattle.cxl_message.specs.Lists.{is_in}
use Rattle.cxl_message.specs.Messages.{has_tag, line_in}
use Rattle.cxl_message.specs.Setup.{Configuration}
use Rattle.cxl_message.specs.Spans.{aligned, lines_of}
use Rattle.coherence_model.specs.Buffers.{buffered_requests, buffered_writes, message_with}
use Rattle.coherence_model.specs.Directory.{Directory, block_around, has_entry, is_busy, may_evict, may_evict_block, victim_block}
use Rattle.coherence_model.specs.DirectoryChanges.{answered_lines, directory, directory_after, directory_after_act, directory_after_clean, directory_after_evict, directory_after_finish, directory_after_request, directory_after_serve, directory_after_start, directory_after_take, listing_after_response, listing_after_write, listings_after_finish, with_entries_kept, with_listed, with_listing, with_task, with_task_begun}
use Rattle.coherence_model.specs.Fitting.{act_fits, cause_fits}
use Rattle.coherence_model.specs.Tasks.{Task, eviction_task, is_eviction, purpose_of, request_task}
use Rattle.coherence_model.specs.Traces.{device}
use Rattle.coherence_lemmas.proofs.Allowed.{profiled}
use Rattle.coherence_lemmas.proofs.Options.{map_some}
use Rattle.step_laws.proofs.Buffered.{IsBuffered, requests_fit}
use Rattle.step_laws.proofs.Counts.{Each, each_append, each_filter, each_find, each_from_all, list_any-count}
use Rattle.step_laws.proofs.LoneSnoops.{each_at}
use Rattle.coherence_model.specs.OwnRuns.{IsOwnRun}
use Rattle.coherence_model.proofs.OwnRuns.{own_event}

-- a task with first line a
pub record TaskFits (setup : Configuration) (a : ℕ) (t : Task) : Type 0 where
  pub host : nat_lt t.host setup.hosts ≡ true
  pub tag : nat_lt t.tag setup.tags ≡ true
  pub within : a + span_len t.span ≤ setup.lines
  pub aligned : a % span_len t.span ≡ 0
  pub single : is_eviction t.purpose ≡ false → t.span ≡ Span.One

-- a directory whose tasks fit and whose entries are lines
pub record DirectoryFits (setup : Configuration) (D : Directory) : Type 0 where
  pub entries : Each (λ a. a < setup.lines) D.entries
  pub tasks : (a : ℕ) (t : Task) → D.task a ≡ Some t → TaskFits setup a t

kept-fits : (setup : Configuration) (D : Directory) → DirectoryFits setup D → DirectoryFits setup (with_entries_kept setup D)
kept-fits setup D fits = record { entries = each_filter _ (has_entry setup D) D.entries fits.entries; tasks = fits.tasks }

listed-fits :
    (setup : Configuration) (lines : List ℕ) (h : ℕ) (l : Listing) (D : Directory) → DirectoryFits setup D → DirectoryFits setup (with_listed setup lines h l D)
listed-fits setup lines h l D fits = kept-fits setup (record D { listed = with_listing lines h l D.listed }) (record { entries = fits.entries; tasks = fits.tasks })

-- the tasks with one set
set-task :
    (setup : Configuration) (first a : ℕ) (new : Option Task) (task : ℕ → Option Task) (t : Task) (b : Bool) → (a == first) ≡ b → cond b new (task a) ≡ Some t
    → ((u : Task) → new ≡ Some u → TaskFits setup first u) → (task a ≡ Some t → TaskFits setup a t) → TaskFits setup a t
set-task setup first a new task t true is found fits old = subst (λ x. TaskFits setup x t) (sym (eqb-true a first is)) (fits t found)
set-task setup first a new task t false is found fits old = old found

entry-fits :
    (setup : Configuration) (a : ℕ) (entries : List ℕ) → a < setup.lines → Each (λ b. b < setup.lines) entries → (b : Bool)
    → Each (λ b. b < setup.lines) (cond b entries (entries ++ a ∷ []))
entry-fits setup a entries less fit true = fit
entry-fits setup a entries less fit false = each_append _ entries (a ∷ []) fit (less, tt)

-- the purpose of a request is no eviction
request-purpose : (op : ReqOp) (meta : Meta) → is_eviction (purpose_of op meta) ≡ false
request-purpose ReqOp.MemRd Meta.Invalid = refl
request-purpose ReqOp.MemRd Meta.Any = refl
request-purpose ReqOp.MemRd Meta.Shared = refl
request-purpose ReqOp.MemInv meta = refl
request-purpose ReqOp.MemClnEvct meta = refl

begun-fits :
    (setup : Configuration) (h : ℕ) (tag : Tag) (op : ReqOp) (meta : Meta) (line : Line) (D : Directory) → nat_lt h setup.hosts ≡ true
    → nat_lt tag.0 setup.tags ≡ true → nat_lt line.0 setup.lines ≡ true → DirectoryFits setup D
    → DirectoryFits setup (with_task_begun line.0 (request_task h tag op meta) D)
begun-fits setup h tag op meta line D host low exists fits =
    let less = ltb-true line.0 setup.lines exists in
    record {
      entries = entry-fits setup line.0 D.entries less fits.entries (is_in line.0 D.entries);
      tasks = λ a t found. set-task setup line.0 a (Some (request_task h tag op meta)) D.task t (a == line.0) refl found
          (λ u is. subst (TaskFits setup line.0) (same_Some (request_task h tag op meta) u is)
          (record { host = host; tag = low; within = omega arith; aligned = omega arith; single = λ e. refl })) (fits.tasks a t);
    }

started-fits :
    (setup : Configuration) (h : ℕ) (m : Message) (D : Directory) → nat_lt h setup.hosts ≡ true → IsBuffered setup Channel.Req m → DirectoryFits setup D
    → DirectoryFits setup (directory_after_request h m D)
started-fits setup h (Message.Req op meta snp tag line) D host buffered fits = let parts = and_parts _ _ buffered.fits in begun-fits setup h tag op meta line D host parts.0 parts.1 fits
started-fits setup h (Message.MemWr meta snp tag line bytes) D host buffered fits = fits
started-fits setup h (Message.BiConflict tag) D host buffered fits = fits
started-fits setup h (Message.BiRsp op bitag low) D host buffered fits = fits
started-fits setup h (Message.Ndr op tag) D host buffered fits = fits
started-fits setup h (Message.MemData tag bytes) D host buffered fits = fits
started-fits setup h (Message.BiSnp op bitag line span) D host buffered fits = fits
started-fits setup h (Message.Credit c) D host buffered fits = fits

start-fits :
    (setup : Configuration) (h : ℕ) (found : Option Message) (D : Directory) → nat_lt h setup.hosts ≡ true
    → ((m : Message) → found ≡ Some m → IsBuffered setup Channel.Req m) → DirectoryFits setup D → DirectoryFits setup (directory_after_start h found D)
start-fits setup h None D host buffered fits = fits
start-fits setup h (Some m) D host buffered fits = started-fits setup h m D host (buffered m refl) fits

-- a block that may be evicted is one of lines
evictable-line : (setup : Configuration) (D : Directory) → DirectoryFits setup D → (a : ℕ) → may_evict D a ≡ true → a < setup.lines
evictable-line setup D fits a may =
    let has = (and_parts _ _ may).0 in
    each_at (λ b. b < setup.lines) a D.entries fits.entries (leb-true 1 _ (sym (list_any-count (λ b. a == b) D.entries) ∙ has))

record BlockFits (setup : Configuration) (block : ℕ × Span) : Type 0 where
  within : block.0 + span_len block.1 ≤ setup.lines
  aligned : block.0 % span_len block.1 ≡ 0

four-fits :
    (setup : Configuration) (D : Directory) → DirectoryFits setup D → (a : ℕ) → may_evict_block D (aligned 4 a) Span.Four ≡ true
    → BlockFits setup (aligned 4 a, Span.Four)
four-fits setup D fits a may =
    let each = each_from_all (may_evict D) (lines_of (aligned 4 a) Span.Four) may in
    let last = evictable-line setup D fits (aligned 4 a + 3) each.1.1.1.0 in
    record { within = omega arith; aligned = omega arith }

two-fits :
    (setup : Configuration) (D : Directory) → DirectoryFits setup D → (a : ℕ) → may_evict_block D (aligned 2 a) Span.Two ≡ true
    → BlockFits setup (aligned 2 a, Span.Two)
two-fits setup D fits a may =
    let each = each_from_all (may_evict D) (lines_of (aligned 2 a) Span.Two) may in
    let last = evictable-line setup D fits (aligned 2 a + 1) each.1.0 in
    record { within = omega arith; aligned = omega arith }

around-fits :
    (setup : Configuration) (D : Directory) → DirectoryFits setup D → (a : ℕ) → a < setup.lines → (b c : Bool) → may_evict_block D (aligned 4 a) Span.Four ≡ b
    → may_evict_block D (aligned 2 a) Span.Two ≡ c → BlockFits setup (cond b (aligned 4 a, Span.Four) (cond c (aligned 2 a, Span.Two) (a, Span.One)))
around-fits setup D fits a less true c is is' = four-fits setup D fits a is
around-fits setup D fits a less false true is is' = two-fits setup D fits a is'
around-fits setup D fits a less false false is is' = record { within = omega arith; aligned = omega arith }

victim-fits : (setup : Configuration) (D : Directory) → DirectoryFits setup D → (block : ℕ × Span) → victim_block D ≡ Some block → BlockFits setup block
victim-fits setup D fits block is =
    let found = map_some (block_around D) (find (λ a. not (is_busy D a)) D.entries) block is in
    let less = (each_find (λ a. a < setup.lines) (λ a. not (is_busy D a)) D.entries fits.entries found.x found.found).0 in
    subst (BlockFits setup) (sym found.same) (around-fits setup D fits found.x less (may_evict_block D (aligned 4 found.x) Span.Four)
    (may_evict_block D (aligned 2 found.x) Span.Two) refl refl)

evict-fits :
    (setup : Configuration) (h : ℕ) (tag : Tag) (found : Option (ℕ × Span)) (D : Directory) → nat_lt h setup.hosts ≡ true → nat_lt tag.0 setup.tags ≡ true
    → ((block : ℕ × Span) → found ≡ Some block → BlockFits setup block) → DirectoryFits setup D → DirectoryFits setup (directory_after_evict h tag found D)
evict-fits setup h tag None D host low block fits = fits
evict-fits setup h tag (Some victim) D host low block fits =
    let block_fits = block victim refl in
    record {
      entries = fits.entries;
      tasks = λ a t found. set-task setup victim.0 a (Some (eviction_task h tag victim.1)) D.task t (a == victim.0) refl found
          (λ u is. subst (TaskFits setup victim.0) (same_Some (eviction_task h tag victim.1) u is)
          (record { host = host; tag = low; within = block_fits.within; aligned = block_fits.aligned; single = λ e. absurd (false≢true (sym e)) }))
          (fits.tasks a t);
    }

finish-fits :
    (setup : Configuration) (a : ℕ) (sends : Sends) (D : Directory) → DirectoryFits setup D → DirectoryFits setup (directory_after_finish setup a sends D)
finish-fits setup a sends D fits =
    kept-fits setup (record { listed = listings_after_finish a sends D.listed; task = with_task a None D.task; entries = D.entries })
    (record { entries = fits.entries; tasks = λ b t found. set-task setup a b None D.task t (b == a) refl found (λ u is. absurd (none-some u is)) (fits.tasks b t) })

serve-fits :
    (setup : Configuration) (h : ℕ) (m : Option Message) (D : Directory) → DirectoryFits setup D → DirectoryFits setup (directory_after_serve setup h m D)
serve-fits setup h None D fits = fits
serve-fits setup h (Some (Message.Req op meta snp tag line)) D fits = fits
serve-fits setup h (Some (Message.MemWr meta snp tag line bytes)) D fits = listed-fits setup (line.0 ∷ []) h
    (listing_after_write meta (has_entry setup D line.0)) D fits
serve-fits setup h (Some (Message.BiConflict tag)) D fits = fits
serve-fits setup h (Some (Message.BiRsp op bitag low)) D fits = fits
serve-fits setup h (Some (Message.Ndr op tag)) D fits = fits
serve-fits setup h (Some (Message.MemData tag bytes)) D fits = fits
serve-fits setup h (Some (Message.BiSnp op bitag line span)) D fits = fits
serve-fits setup h (Some (Message.Credit c)) D fits = fits

clean-fits : (setup : Configuration) (h : ℕ) (a : Option ℕ) (D : Directory) → DirectoryFits setup D → DirectoryFits setup (directory_after_clean setup h a D)
clean-fits setup h None D fits = fits
clean-fits setup h (Some a) D fits = listed-fits setup (a ∷ []) h Listing.I D fits

take-fits :
    (setup : Configuration) (h : ℕ) (m : Message) (past : List Event) (D : Directory) → DirectoryFits setup D
    → DirectoryFits setup (directory_after_take setup h m past D)
take-fits setup h (Message.Req op meta snp tag line) past D fits = fits
take-fits setup h (Message.MemWr meta snp tag line bytes) past D fits = fits
take-fits setup h (Message.BiConflict tag) past D fits = fits
take-fits setup h (Message.BiRsp op bitag low) past D fits = listed-fits setup (answered_lines op h bitag.0 (bitag.0 + low) past) h
    (listing_after_response op) D fits
take-fits setup h (Message.Ndr op tag) past D fits = fits
take-fits setup h (Message.MemData tag bytes) past D fits = fits
take-fits setup h (Message.BiSnp op bitag line span) past D fits = fits
take-fits setup h (Message.Credit c) past D fits = fits

act-after-fits :
    (setup : Configuration) (opening : List (Line × Bytes64)) (g : ℕ) (act : Act) (sends : Sends) (past : List Event) → IsOwnRun setup opening device past
    → act_fits setup g act ≡ true → DirectoryFits setup (directory setup past)
    → DirectoryFits setup (directory_after_act setup act sends past (directory setup past))
act-after-fits setup opening g (Act.Conflict line) sends past run named fits = fits
act-after-fits setup opening g (Act.WriteBack line) sends past run named fits = fits
act-after-fits setup opening g (Act.Answer line) sends past run named fits = fits
act-after-fits setup opening g (Act.AnswerBlock line) sends past run named fits = fits
act-after-fits setup opening g (Act.HostReturn c) sends past run named fits = fits
act-after-fits setup opening g (Act.Serve h tag) sends past run named fits = serve-fits setup h (message_with tag.0 (buffered_writes h past))
    (directory setup past) fits
act-after-fits setup opening g (Act.Clean h tag) sends past run named fits = clean-fits setup h
    (option_and_then line_in (message_with tag.0 (buffered_requests h past))) (directory setup past) fits
act-after-fits setup opening g (Act.Start h tag) sends past run named fits =
    start-fits setup h (message_with tag.0 (buffered_requests h past)) (directory setup past) (and_parts _ _ (and_parts _ _ named).0).1
    (λ m is. (each_find (IsBuffered setup Channel.Req) (has_tag tag.0) (buffered_requests h past) (requests_fit setup opening device h past run) m is).0) fits
act-after-fits setup opening g (Act.Evict h tag) sends past run named fits =
    let parts = and_parts _ _ named in
    evict-fits setup h tag (victim_block (directory setup past)) (directory setup past) (and_parts _ _ parts.0).1 parts.1
    (victim-fits setup (directory setup past) fits) fits
act-after-fits setup opening g (Act.Snoop h line) sends past run named fits = fits
act-after-fits setup opening g (Act.Finish line) sends past run named fits = finish-fits setup line.0 sends (directory setup past) fits
act-after-fits setup opening g (Act.DeviceReturn h c) sends past run named fits = fits

after-fits :
    (setup : Configuration) (opening : List (Line × Bytes64)) (g : ℕ) (cause : Cause) (sends : Sends) (past : List Event) → IsOwnRun setup opening device past
    → cause_fits setup g cause ≡ true → DirectoryFits setup (directory setup past)
    → DirectoryFits setup (directory_after setup cause sends past (directory setup past))
after-fits setup opening g (Cause.Op s i op) sends past run named fits = fits
after-fits setup opening g (Cause.Take h m) sends past run named fits = take-fits setup h m past (directory setup past) fits
after-fits setup opening g (Cause.Act act) sends past run named fits = act-after-fits setup opening g act sends past run named fits

-- the directory of the device in a run fits
pub directory_fits :
    (setup : Configuration) (opening : List (Line × Bytes64)) (mine : List Event) → IsOwnRun setup opening device mine
    → DirectoryFits setup (directory setup mine)
directory_fits setup opening [] run = record { entries = tt; tasks = λ a t is. absurd (none-some t is) }
directory_fits setup opening (e ∷ mine) run =
    let own = own_event setup opening device e mine run in
    after-fits setup opening e.agent e.cause e.sends mine own.before (profiled setup e own.profile).cause (directory_fits setup opening mine own.before)
