-- After every run all is in its place and has its owner: host by host, and task by task.
use Rattle.std.proofs.Common.{◌≡◌, ℕ, ◌<◌, Bool, true, false, IsTrue, List, Option, Some, None, refl, ap}
use Rattle.std.specs.Prelude.{not, ◌&&◌, ◌==◌}
use Rattle.std.specs.Option.{option_map_or}
use Rattle.std.proofs.lemmas.Bool.{and_from, eq-eqb, lt-ltb, or_left, or_right}
use Rattle.cxl_message.specs.declared.events.Event.{Event}
use Rattle.cxl_message.specs.declared.identifiers.Bytes64.{Bytes64}
use Rattle.cxl_message.specs.declared.identifiers.Line.{Line}
use Rattle.cxl_message.specs.Setup.{Configuration, IsWithinLimits}
use Rattle.coherence_model.specs.DirectoryChanges.{directory}
use Rattle.coherence_model.specs.Fitting.{is_host}
use Rattle.coherence_model.specs.OwnerFacts.{is_open_so, messages_have_owners, purpose_fits, task_has_request, tasks_have_requests}
use Rattle.coherence_model.specs.RequestFacts.{is_task_of, lines_are_placed}
use Rattle.coherence_model.specs.Runs.{IsRun}
use Rattle.coherence_model.specs.Tasks.{Task, is_eviction}
use Rattle.coherence_model.specs.Traces.{device, events_of}
use Rattle.coherence_model.specs.Transactions.{open_at}
use Rattle.entry_laws.proofs.Laws.{tasks_are_named}
use Rattle.request_laws.proofs.Below.{all_below}
use Rattle.request_laws.proofs.Owners.{tasks_have_requests as tasks_by_tag}
use Rattle.owner_laws.proofs.Lines.{lines_placed}
use Rattle.owner_laws.proofs.Owners.{messages_owned}
use Rattle.owner_laws.specs.Owned.{RequestsArePlaced}
use Rattle.coherence_model.proofs.OwnRuns.{events_of_run}

-- a task that is no eviction is that of its host's tag
task_of_itself : (task : Task) → is_eviction task.purpose ≡ false → is_task_of task.host task.tag task ≡ true
task_of_itself task is =
    and_from (not (is_eviction task.purpose) && (task.host == task.host)) (task.tag == task.tag)
    (and_from (not (is_eviction task.purpose)) (task.host == task.host) (ap not is) (eq-eqb task.host task.host refl)) (eq-eqb task.tag task.tag refl)

module _ (setup : Configuration) (opening : List (Line × Bytes64)) (limits : IsWithinLimits setup) (t : List Event) (run : IsRun setup opening t) where
  -- a task is an eviction, or its request is open
  task_owned : (a : ℕ) (task : Task) → (directory setup (events_of device t)).task a ≡ Some task → (b : Bool) → is_eviction task.purpose ≡ b → task_has_request t a task ≡ true
  task_owned a task there true is = or_left (is_eviction task.purpose) (is_open_so (purpose_fits task.purpose) task.tag (open_at a (events_of task.host t))) is
  task_owned a task there false is =
      or_right (is_eviction task.purpose) (is_open_so (purpose_fits task.purpose) task.tag (open_at a (events_of task.host t)))
      (tasks_by_tag setup opening limits task.host (tasks_are_named setup opening (events_of device t) (events_of_run setup opening device t run) a task there).0 t run task.tag a task there (task_of_itself task is))

  -- so is the task at a line, if one stands there
  owned_if : (a : ℕ) (o : Option Task) → (directory setup (events_of device t)).task a ≡ o → option_map_or (task_has_request t a) o true ≡ true
  owned_if a None is = refl
  owned_if a (Some task) is = task_owned a task is (is_eviction task.purpose) refl

  -- each request task has its request
  tasks_owned : tasks_have_requests setup t ≡ true
  tasks_owned = all_below (λ a. option_map_or (task_has_request t a) ((directory setup (events_of device t)).task a) true) setup.lines (λ a less. owned_if a ((directory setup (events_of device t)).task a) refl)

  -- each host's lines and messages are in place
  host_placed : (h : ℕ) → h < setup.hosts → (lines_are_placed setup t h && messages_have_owners setup t h) ≡ true
  host_placed h less =
      let host : IsTrue (is_host setup h) = lt-ltb h setup.hosts less in
      and_from (lines_are_placed setup t h) (messages_have_owners setup t h) (lines_placed setup opening limits h host t run) (messages_owned setup opening limits h host t run)

-- after every run all is placed and owned
pub requests_placed : RequestsArePlaced
requests_placed setup opening limits t run =
    and_from _ _ (all_below (λ h. lines_are_placed setup t h && messages_have_owners setup t h) setup.hosts (host_placed setup opening limits t run)) (tasks_owned setup opening limits t run)
