-- What is kept of the directory holds after every event of the device.
use Rattle.std.proofs.Common.{◌≡◌, ℕ, Bool, true, false, List, [], ◌∷◌, Option, Some, None, cond, refl, sym, ◌∙◌, arith}
use Rattle.std.specs.Prelude.{option_and_then, ◌==◌}
use Rattle.std.specs.List.{list_any}
use Rattle.std.proofs.lemmas.Bool.{false≢true, or_from}
use Rattle.std.proofs.lemmas.Option.{none-some}
use Rattle.cxl_message.specs.declared.channels.Channel.{Channel}
use Rattle.cxl_message.specs.declared.events.Act.{Act}
use Rattle.cxl_message.specs.declared.events.Cause.{Cause}
use Rattle.cxl_message.specs.declared.events.Event.{Event}
use Rattle.cxl_message.specs.declared.events.Sends.{Sends}
use Rattle.cxl_message.specs.declared.messages.Message.{Message}
use Rattle.cxl_message.specs.Lists.{below}
use Rattle.cxl_message.specs.Messages.{line_in}
use Rattle.cxl_message.specs.Setup.{Configuration}
use Rattle.coherence_model.specs.Buffers.{buffered_requests, buffered_writes, message_with}
use Rattle.coherence_model.specs.Directory.{empty_directory, has_entry, is_listed}
use Rattle.coherence_model.specs.DirectoryChanges.{directory, directory_after}
use Rattle.coherence_model.specs.SentSnoops.{SentSnoop, sent_snoop_after, sent_snoop_at}
use Rattle.coherence_model.specs.OwnRuns.{IsOwnRun}
use Rattle.cxl_message.specs.declared.identifiers.Bytes64.{Bytes64}
use Rattle.cxl_message.specs.declared.identifiers.Line.{Line}
use Rattle.coherence_model.specs.Traces.{device}
use Rattle.entry_laws.proofs.Buffered.{AreTakenOn, request_line_exists, requests_are_taken}
use Rattle.entry_laws.proofs.DeviceRows.{DeviceRow}
use Rattle.entry_laws.proofs.DirectorySteps.{DirectoryKept, answer_step, clean_step, serve_step}
use Rattle.entry_laws.proofs.OwnRuns.{device_event}
use Rattle.entry_laws.proofs.TaskSteps.{evict_step, finish_step, snoop_step, start_step}

-- a message that is no answer changes no snoop
same_snoop : (b : Bool) (old : Option SentSnoop) (q : SentSnoop) → cond b old old ≡ Some q → old ≡ Some q
same_snoop true old q h = h
same_snoop false old q h = h

unasked :
    (setup : Configuration) (h : ℕ) (mine : List Event) → DirectoryKept setup (directory setup mine) (λ g a. sent_snoop_at g a mine)
    → DirectoryKept setup (directory setup mine) (λ g a. cond (h == g) (sent_snoop_at g a mine) (sent_snoop_at g a mine))
unasked setup h mine kept = record {
  tasks = kept.tasks;
  entries = kept.entries;
  snoops = λ g a q is. kept.snoops g a q (same_snoop (h == g) (sent_snoop_at g a mine) q is);
}

-- nothing has an entry at the start
none_listed : {X : Type 0} (p : X → Bool) → ((x : X) → p x ≡ false) → (xs : List X) → list_any p xs ≡ false
none_listed p h [] = refl
none_listed p h (x ∷ xs) = or_from _ _ (h x) (none_listed p h xs)

no_entry : (setup : Configuration) (a : ℕ) → has_entry setup empty_directory a ≡ true → ⊥
no_entry setup a h = false≢true (sym (or_from _ _ (none_listed (is_listed empty_directory a) (λ g. refl) (below setup.hosts)) refl) ∙ h)

kept_at_start : (setup : Configuration) → DirectoryKept setup empty_directory (λ h a. None)
kept_at_start setup = record {
  tasks = record { placed = λ a t is. absurd (none-some t is); apart = λ a b c s t is other. absurd (none-some s is) };
  entries = record { once = λ a. omega arith; there = λ a is. absurd (false≢true is); all = λ a exists has. absurd (no_entry setup a has) };
  snoops = λ h a q is. absurd (none-some q is);
}

take_step :
    (setup : Configuration) (h : ℕ) (m : Message) (sends : Sends) (mine : List Event) → DirectoryKept setup (directory setup mine)
    (λ g a. sent_snoop_at g a mine)
    → DeviceRow setup (Cause.Take h m) sends mine
    → DirectoryKept setup (directory_after setup (Cause.Take h m) sends mine (directory setup mine))
    (λ g a. sent_snoop_after g a (Cause.Take h m) sends (sent_snoop_at g a mine))
take_step setup h (Message.Req op meta snp tag line) sends mine kept row = unasked setup h mine kept
take_step setup h (Message.MemWr meta snp tag line bytes) sends mine kept row = unasked setup h mine kept
take_step setup h (Message.BiConflict tag) sends mine kept row = unasked setup h mine kept
take_step setup h (Message.BiRsp op bitag low) sends mine kept row = answer_step setup (directory setup mine) mine op h bitag.0 low kept row
take_step setup h (Message.Ndr op tag) sends mine kept row = unasked setup h mine kept
take_step setup h (Message.MemData tag bytes) sends mine kept row = unasked setup h mine kept
take_step setup h (Message.BiSnp op bitag line span) sends mine kept row = unasked setup h mine kept
take_step setup h (Message.Credit c) sends mine kept row = unasked setup h mine kept

directory_step :
    (setup : Configuration) (cause : Cause) (sends : Sends) (mine : List Event) → ((h : ℕ) → AreTakenOn setup h Channel.Req (buffered_requests h mine))
    → DirectoryKept setup (directory setup mine) (λ g a. sent_snoop_at g a mine) → DeviceRow setup cause sends mine
    → DirectoryKept setup (directory_after setup cause sends mine (directory setup mine)) (λ g a. sent_snoop_after g a cause sends (sent_snoop_at g a mine))
directory_step setup (Cause.Op s i op) sends mine named kept row = kept
directory_step setup (Cause.Take h m) sends mine named kept row = take_step setup h m sends mine kept row
directory_step setup (Cause.Act (Act.Conflict line)) sends mine named kept row = kept
directory_step setup (Cause.Act (Act.WriteBack line)) sends mine named kept row = kept
directory_step setup (Cause.Act (Act.Answer line)) sends mine named kept row = kept
directory_step setup (Cause.Act (Act.AnswerBlock line)) sends mine named kept row = kept
directory_step setup (Cause.Act (Act.HostReturn c)) sends mine named kept row = kept
directory_step setup (Cause.Act (Act.Serve h tag)) sends mine named kept row =
    serve_step setup (directory setup mine) (λ g a. sent_snoop_at g a mine) h (message_with tag.0 (buffered_writes h mine)) kept
directory_step setup (Cause.Act (Act.Clean h tag)) sends mine named kept row =
    clean_step setup (directory setup mine) (λ g a. sent_snoop_at g a mine) h (option_and_then line_in (message_with tag.0 (buffered_requests h mine))) kept
directory_step setup (Cause.Act (Act.Start h tag)) sends mine named kept row =
    start_step setup h tag.0 mine (λ g a. sent_snoop_at g a mine) row (request_line_exists setup h tag.0 (buffered_requests h mine) row.r (named h)) kept
directory_step setup (Cause.Act (Act.Evict h tag)) sends mine named kept row =
    evict_step setup (directory setup mine) (λ g a. sent_snoop_at g a mine) h tag kept
directory_step setup (Cause.Act (Act.Snoop h line)) sends mine named kept row = snoop_step setup h line.0 sends mine row kept
directory_step setup (Cause.Act (Act.Finish line)) sends mine named kept row = finish_step setup line.0 sends mine row kept
directory_step setup (Cause.Act (Act.DeviceReturn h c)) sends mine named kept row = kept

-- what is kept holds after every list of the device's own events
pub directory_is_kept :
    (setup : Configuration) (opening : List (Line × Bytes64)) (mine : List Event) → IsOwnRun setup opening device mine → DirectoryKept setup (directory setup mine) (λ g a. sent_snoop_at g a mine)
directory_is_kept setup opening [] run = kept_at_start setup
directory_is_kept setup opening (e ∷ past) run =
    let own = device_event setup opening e past run in
    directory_step setup e.cause e.sends past (requests_are_taken setup opening past own.0) (directory_is_kept setup opening past own.0) own.1
