-- Look-ups in what is kept: buffered messages by host and tag, and tasks by first line.
use Rattle.std.proofs.Common.{◌≡◌, ℕ, ◌<◌, ◌≤◌, Bool, true, false, List, [], ◌∷◌, Option, Some, None, cond, map, refl, ap, sym, ◌∙◌, arith}
use Rattle.std.specs.Prelude.{nat_lt, option_map, unwrap_or}
use Rattle.std.proofs.lemmas.Bool.{ltb-false, ltb-true}
use Rattle.cxl_message.specs.declared.events.Event.{Event}
use Rattle.cxl_message.specs.declared.messages.Message.{Message}
use Rattle.cxl_message.specs.Lists.{below}
use Rattle.cxl_message.specs.Messages.{has_tag}
use Rattle.cxl_message.specs.Setup.{Configuration}
use Rattle.coherence_model.specs.Buffers.{buffered_writes, buffered_requests, message_with}
use Rattle.coherence_model.specs.Tasks.{Task}
use Rattle.entry_laws.proofs.Blocks.{some_lines}
use Rattle.entry_laws.proofs.Tasks.{TasksKept}
use Rattle.device_record.specs.Kept.{kept_request, kept_requests, kept_task, task_of}
use Rattle.device_record.specs.Record.{TaskRecord, request_with, requests_at, task_at, writes_at}
use Rattle.device_record.specs.Sparse.{sparse}
use Rattle.device_laws.proofs.Sparse.{IsKeyed, sparse_found, sparse_past}
use Rattle.device_laws.proofs.Tables.{get_table}

-- the buffered messages of a host
pub requests_are : (setup : Configuration) (mine : List Event) (h : ℕ) → h < setup.hosts → requests_at h (map (kept_requests setup mine) (below setup.hosts)) ≡ kept_requests setup mine h
requests_are setup mine h low = ap (λ o. unwrap_or o []) (get_table (kept_requests setup mine) setup.hosts h low)

pub writes_are : (hosts : ℕ) (mine : List Event) (h : ℕ) → h < hosts → writes_at h (map (λ k. buffered_writes k mine) (below hosts)) ≡ buffered_writes h mine
writes_are hosts mine h low = ap (λ o. unwrap_or o []) (get_table (λ k. buffered_writes k mine) hosts h low)

found_by : (setup : Configuration) (h tag : ℕ) (mine : List Event) (m : Message) (ms : List Message) (b : Bool)
    → request_with tag (map (kept_request setup h mine) ms) ≡ option_map (kept_request setup h mine) (message_with tag ms)
    → cond b (Some (kept_request setup h mine m)) (request_with tag (map (kept_request setup h mine) ms)) ≡ option_map (kept_request setup h mine) (cond b (Some m) (message_with tag ms))
found_by setup h tag mine m ms true more = refl
found_by setup h tag mine m ms false more = more

-- the request with a tag
pub request_found : (setup : Configuration) (h tag : ℕ) (mine : List Event) (ms : List Message) → request_with tag (map (kept_request setup h mine) ms) ≡ option_map (kept_request setup h mine) (message_with tag ms)
request_found setup h tag mine [] = refl
request_found setup h tag mine (m ∷ ms) = found_by setup h tag mine m ms (has_tag tag m) (request_found setup h tag mine ms)

-- the request of a host with a tag
pub request_is : (setup : Configuration) (mine : List Event) (h tag : ℕ) → h < setup.hosts
    → request_with tag (requests_at h (map (kept_requests setup mine) (below setup.hosts))) ≡ option_map (kept_request setup h mine) (message_with tag (buffered_requests h mine))
request_is setup mine h tag low = ap (request_with tag) (requests_are setup mine h low) ∙ request_found setup h tag mine (buffered_requests h mine)

-- ---- tasks

keyed_by : (hosts : ℕ) (left : ℕ → ℕ → List ℕ) (a : ℕ) (x : TaskRecord) (o : Option Task) → option_map (kept_task hosts (left a) a) o ≡ Some x → x.first ≡ a
keyed_by hosts left a x None is = cc
keyed_by hosts left a x (Some t) is = let same : kept_task hosts (left a) a t ≡ x = cc in sym (ap (λ (u : TaskRecord). u.first) same)

-- a task's place is its first line
pub tasks_keyed : (hosts : ℕ) (task : ℕ → Option Task) (left : ℕ → ℕ → List ℕ) → IsKeyed (λ t. t.first) (task_of hosts task left)
tasks_keyed hosts task left a x is = keyed_by hosts left a x (task a) is

no_task : (lines : ℕ) (task : ℕ → Option Task) → TasksKept lines task → (a : ℕ) → lines ≤ a → (found : Option Task) → task a ≡ found → found ≡ None
no_task lines task kept a high None is = refl
no_task lines task kept a high (Some t) is = let placed = (kept.placed a t is).1 in let some = some_lines t.span in absurd (omega arith)

task_by : (hosts lines : ℕ) (task : ℕ → Option Task) (left : ℕ → ℕ → List ℕ) → TasksKept lines task → (a : ℕ) → (b : Bool) → nat_lt a lines ≡ b
    → task_at a (sparse (task_of hosts task left) (below lines)) ≡ task_of hosts task left a
task_by hosts lines task left kept a true is = sparse_found (λ (t : TaskRecord). t.first) (task_of hosts task left) a lines (tasks_keyed hosts task left) (ltb-true a lines is)
task_by hosts lines task left kept a false is =
    let high : lines ≤ a = ltb-false a lines is in
    sparse_past (λ (t : TaskRecord). t.first) (task_of hosts task left) a lines (tasks_keyed hosts task left) high
    ∙ sym (ap (option_map (kept_task hosts (left a) a)) (no_task lines task kept a high (task a) refl))

-- the task with first line a is that of the directory
pub task_is : (hosts lines : ℕ) (task : ℕ → Option Task) (left : ℕ → ℕ → List ℕ) → TasksKept lines task → (a : ℕ) → task_at a (sparse (task_of hosts task left) (below lines)) ≡ task_of hosts task left a
task_is hosts lines task left kept a = task_by hosts lines task left kept a (nat_lt a lines) refl
