-- What a task names exists, and a request's task is over one line.
use Rattle.std.proofs.Common.{◌≡◌, ℕ, true, false, List, [], ◌∷◌, Option, Some, None, refl, sym, ◌∙◌, ap, subst, inl, inr}
use Rattle.std.specs.Prelude.{nat_lt, option_and_then}
use Rattle.std.proofs.lemmas.Bool.{false≢true}
use Rattle.std.proofs.lemmas.Option.{none-some}
use Rattle.cxl_message.specs.declared.events.Act.{Act}
use Rattle.cxl_message.specs.declared.events.Cause.{Cause}
use Rattle.cxl_message.specs.declared.events.Event.{Event}
use Rattle.cxl_message.specs.declared.events.Sends.{Sends}
use Rattle.cxl_message.specs.declared.identifiers.Tag.{Tag}
use Rattle.cxl_message.specs.declared.opcodes.Span.{Span}
use Rattle.cxl_message.specs.Messages.{line_in}
use Rattle.cxl_message.specs.Setup.{Configuration}
use Rattle.coherence_model.specs.Buffers.{buffered_requests, buffered_writes, message_with}
use Rattle.coherence_model.specs.Directory.{Directory, victim_block}
use Rattle.coherence_model.specs.DirectoryChanges.{directory, directory_after, directory_after_evict, directory_after_start, with_task}
use Rattle.coherence_model.specs.Fitting.{is_host}
use Rattle.coherence_model.specs.Tasks.{Task, eviction_task, is_eviction, request_task}
use Rattle.coherence_model.specs.OwnRuns.{IsOwnRun}
use Rattle.cxl_message.specs.declared.identifiers.Bytes64.{Bytes64}
use Rattle.cxl_message.specs.declared.identifiers.Line.{Line}
use Rattle.coherence_model.specs.Traces.{device}
use Rattle.entry_laws.proofs.DeviceRows.{DeviceRow, StartRow}
use Rattle.entry_laws.proofs.OwnRuns.{device_event}
use Rattle.entry_laws.proofs.RoomSteps.{clean_leaves_tasks, serve_leaves_tasks, take_leaves_tasks}
use Rattle.entry_laws.proofs.Tasks.{changed_task, same_task}

-- the host and the tag of a task exist, and the task of a request is over one line
pub record IsShaped (setup : Configuration) (t : Task) : Type 0 where
  pub host : is_host setup t.host ≡ true
  pub tag : nat_lt t.tag setup.tags ≡ true
  pub span : is_eviction t.purpose ≡ false → t.span ≡ Span.One

-- so are all tasks
abbrev pub AreShaped : Configuration → (ℕ → Option Task) → Type 0
AreShaped setup task = (a : ℕ) (t : Task) → task a ≡ Some t → IsShaped setup t

shaped_with :
    (setup : Configuration) (task : ℕ → Option Task) (first : ℕ) (new : Task) → IsShaped setup new → AreShaped setup task
    → AreShaped setup (with_task first (Some new) task)
shaped_with setup task first new here old a t is =
    elim (changed_task first (Some new) task a t is) [
      | inl own ↦ subst (IsShaped setup) (same_task t new own.1) here
      | inr before ↦ old a t before.1
    ]

shaped_without : (setup : Configuration) (task : ℕ → Option Task) (first : ℕ) → AreShaped setup task → AreShaped setup (with_task first None task)
shaped_without setup task first old a t is = elim (changed_task first None task a t is) [ inl own ↦ absurd (none-some t own.1) | inr before ↦ old a t before.1 ]

start_shaped :
    (setup : Configuration) (host k : ℕ) (mine : List Event) (row : StartRow setup host k mine) → AreShaped setup (directory setup mine).task
    → AreShaped setup (directory_after_start host (message_with k (buffered_requests host mine)) (directory setup mine)).task
start_shaped setup host k mine row old =
    subst (λ found. AreShaped setup (directory_after_start host found (directory setup mine)).task) (sym row.r.found)
    (shaped_with setup (directory setup mine).task row.r.line.0 (request_task host row.r.own_tag row.r.op row.r.meta)
    (record { host = row.host; tag = ap (λ tag. nat_lt tag setup.tags) row.r.same ∙ row.named; span = λ none. refl }) old)

evict_shaped :
    (setup : Configuration) (host : ℕ) (k : Tag) (D : Directory) (found : Option (ℕ × Span)) → is_host setup host ≡ true → nat_lt k.0 setup.tags ≡ true
    → AreShaped setup D.task → AreShaped setup (directory_after_evict host k found D).task
evict_shaped setup host k D None exists named old = old
evict_shaped setup host k D (Some block) exists named old =
    shaped_with setup D.task block.0 (eviction_task host k block.1) (record { host = exists; tag = named; span = λ none. absurd (false≢true (sym none)) }) old

shaped_step :
    (setup : Configuration) (cause : Cause) (sends : Sends) (mine : List Event) → AreShaped setup (directory setup mine).task → DeviceRow setup cause sends mine
    → AreShaped setup (directory_after setup cause sends mine (directory setup mine)).task
shaped_step setup (Cause.Op s i op) sends mine old row = old
shaped_step setup (Cause.Take host m) sends mine old row = subst (AreShaped setup) (sym (take_leaves_tasks setup host m mine (directory setup mine))) old
shaped_step setup (Cause.Act (Act.Conflict line)) sends mine old row = old
shaped_step setup (Cause.Act (Act.WriteBack line)) sends mine old row = old
shaped_step setup (Cause.Act (Act.Answer line)) sends mine old row = old
shaped_step setup (Cause.Act (Act.AnswerBlock line)) sends mine old row = old
shaped_step setup (Cause.Act (Act.HostReturn c)) sends mine old row = old
shaped_step setup (Cause.Act (Act.Serve host tag)) sends mine old row =
    subst (AreShaped setup) (sym (serve_leaves_tasks setup host (message_with tag.0 (buffered_writes host mine)) (directory setup mine))) old
shaped_step setup (Cause.Act (Act.Clean host k)) sends mine old row =
    subst (AreShaped setup)
    (sym (clean_leaves_tasks setup host (option_and_then line_in (message_with k.0 (buffered_requests host mine))) (directory setup mine))) old
shaped_step setup (Cause.Act (Act.Start host k)) sends mine old row = start_shaped setup host k.0 mine row old
shaped_step setup (Cause.Act (Act.Evict host k)) sends mine old row =
    evict_shaped setup host k (directory setup mine) (victim_block (directory setup mine)) row.host row.named old
shaped_step setup (Cause.Act (Act.Snoop host line)) sends mine old row = old
shaped_step setup (Cause.Act (Act.Finish line)) sends mine old row = shaped_without setup (directory setup mine).task line.0 old
shaped_step setup (Cause.Act (Act.DeviceReturn host c)) sends mine old row = old

-- all tasks are, after every list of the device's own events
pub tasks_are_shaped : (setup : Configuration) (opening : List (Line × Bytes64)) (mine : List Event) → IsOwnRun setup opening device mine → AreShaped setup (directory setup mine).task
tasks_are_shaped setup opening [] run = λ a t is. absurd (none-some t is)
tasks_are_shaped setup opening (e ∷ past) run =
    let own = device_event setup opening e past run in
    shaped_step setup e.cause e.sends past (tasks_are_shaped setup opening past own.0) own.1
