-- What the acts of the device ask, where they may be done.
use Rattle.std.proofs.Common.{◌≡◌, ℕ, ◌+◌, ◌<◌, ◌≤◌, Bool, true, false, List, [], ◌∷◌, Option, Some, None, cond, length, refl, ap, sym, ◌∙◌, subst, arith}
use Rattle.std.specs.Prelude.{IfSome, is_some, nat_lt, not, option_and_then, option_map, ◌&&◌, ◌==◌}
use Rattle.std.proofs.lemmas.Bool.{and_parts, eq-eqb, eqb-true, ltb-true}
use Rattle.cxl_message.specs.declared.events.Act.{Act}
use Rattle.cxl_message.specs.declared.events.Cause.{Cause}
use Rattle.cxl_message.specs.declared.identifiers.Bytes64.{Bytes64}
use Rattle.cxl_message.specs.declared.identifiers.Line.{Line}
use Rattle.cxl_message.specs.declared.identifiers.Tag.{Tag}
use Rattle.cxl_message.specs.declared.messages.Message.{Message}
use Rattle.cxl_message.specs.declared.opcodes.NdrOp.{NdrOp}
use Rattle.cxl_message.specs.Codes.{span_len}
use Rattle.cxl_message.specs.Lists.{below}
use Rattle.cxl_message.specs.Setup.{Configuration}
use Rattle.coherence_lemmas.proofs.Options.{and_then_some, some_is, when_some}
use Rattle.coherence_model.specs.Copies.{asks_for_grant}
use Rattle.coherence_model.specs.DeviceActs.{Request, finish_emission, request_in}
use Rattle.coherence_model.specs.Emission.{Emission, nothing}
use Rattle.coherence_model.specs.Room.{Room}
use Rattle.coherence_model.specs.Tasks.{Purpose}
use Rattle.snoop_filter.specs.declared.blocks.Block.{Block}
use Rattle.snoop_filter.specs.Rows.{held_in}
use Rattle.snoop_filter.specs.Victims.{victim_in}
use Rattle.device_record.specs.Answers.{clean_of, evict_of, finish_row, grant_in, has_room_in, is_finished, start_of, wants_eviction_in}
use Rattle.device_record.specs.Changes.{device_after}
use Rattle.device_record.specs.Record.{DeviceRecord, TaskRecord, WaitingRequest, bytes_in, request_with, requests_at, task_at}
use Rattle.device_record.specs.RowChanges.{line_asked}
use Rattle.device_record.specs.Sparse.{put_in_order}
use Rattle.device_record.specs.Steady.{IsSteady}
use Rattle.device_record.specs.TaskChanges.{task_evicting, task_started, tasks_with}
use Rattle.device_lines.specs.Lines.{write_of}
use Rattle.device_state.specs.Agent.{AgentRecord}
use Rattle.device_changes.specs.Acting.{GrantsTo, HasVictim, IsWaiting, MayFinish, MayStart, StandsAt, started_filter}
use Rattle.device_changes.specs.Passing.{MayStep}
use Rattle.device_changes.proofs.Asked.{found_first}
use Rattle.device_changes.proofs.Passing.{Asked, asked_of, passed}

-- what the parts of the tables are seen as may step as the tables may
pub act_inside : (d e : AgentRecord) (act a : Act) (v w : Emission) → d ≡ e → act ≡ a → v ≡ w → MayStep e.setup e.kept (Cause.Act act) w → MayStep d.setup d.kept (Cause.Act a) v
act_inside d e act a v w seen is same may =
    subst (λ (x : AgentRecord). MayStep x.setup x.kept (Cause.Act a) v) (sym seen) (subst (λ (x : Act). MayStep e.setup e.kept (Cause.Act x) v) is (subst (λ (x : Emission). MayStep e.setup e.kept (Cause.Act act) x) (sym same) may))

-- ---- V3

if_some_from : {X : Type 0} (o : Option X) (P : X → Type 0) → ((x : X) → o ≡ Some x → P x) → IfSome o P
if_some_from None P each = tt
if_some_from (Some x) P each = each x refl

-- the line of a buffered write exists
pub write_fits : (setup : Configuration) (k : DeviceRecord) (h tag : ℕ) → IsSteady setup k → IfSome (write_of h tag k.writes) (λ w. w.0 < length k.memory)
write_fits setup k h tag steady =
    if_some_from (write_of h tag k.writes) (λ w. w.0 < length k.memory) (λ w is. subst (λ n. w.0 < n) (sym steady.tables.memory) (steady.written h tag w is))

-- ---- V4, V5 and V6

waiting_in : (h tag : ℕ) (requests : List (List WaitingRequest)) (n m : ℕ) → n ≡ m → IsWaiting h tag requests n → IsWaiting h tag requests m
waiting_in h tag requests n m same = subst (IsWaiting h tag requests) same

pub clean_asks : (setup : Configuration) (k : DeviceRecord) (h : ℕ) (tag : Tag) (w : Emission) → MayStep setup k (Cause.Act (Act.Clean h tag)) w → Asked setup h tag.0 k (λ r. clean_of h k.filter.rows) w
clean_asks setup k h tag w may = asked_of setup k may.before h tag.0 (λ r. clean_of h k.filter.rows) w (passed setup (Cause.Act (Act.Clean h tag)) k w may.answer).row

-- the request that is cleaned is there
pub clean_waits : (setup : Configuration) (k : DeviceRecord) (h : ℕ) (tag : Tag) (w : Emission) → MayStep setup k (Cause.Act (Act.Clean h tag)) w → IsWaiting h tag.0 k.requests k.filter.lines
clean_waits setup k h tag w may =
    waiting_in h tag.0 k.requests setup.lines k.filter.lines (sym may.before.tables.filter_lines)
    (clean_asks setup k h tag w may).waiting

pub start_asks : (setup : Configuration) (k : DeviceRecord) (h : ℕ) (tag : Tag) (w : Emission) → MayStep setup k (Cause.Act (Act.Start h tag)) w → Asked setup h tag.0 k (λ r. start_of k r.room) w
start_asks setup k h tag w may = asked_of setup k may.before h tag.0 (λ r. start_of k r.room) w (passed setup (Cause.Act (Act.Start h tag)) k w may.answer).row

-- the request that starts is there
pub start_waits : (setup : Configuration) (k : DeviceRecord) (h : ℕ) (tag : Tag) (w : Emission) → MayStep setup k (Cause.Act (Act.Start h tag)) w → IsWaiting h tag.0 k.requests k.filter.lines
start_waits setup k h tag w may = waiting_in h tag.0 k.requests setup.lines k.filter.lines (sym may.before.tables.filter_lines) (start_asks setup k h tag w may).waiting

not_true : (b : Bool) → not b ≡ true → b ≡ false
not_true true is = cc
not_true false is = refl

free_of : (k : DeviceRecord) (room : Room) (r : Request) (w : Emission) → start_of k room r ≡ Some w → held_in r.line k.filter.rows ≡ false
free_of k room r w is =
    let all = (when_some (asks_for_grant r.op && not (held_in r.line k.filter.rows) && has_room_in room r.line k) nothing w is).holds in
    not_true (held_in r.line k.filter.rows) (and_parts (asks_for_grant r.op) (not (held_in r.line k.filter.rows)) (and_parts (asks_for_grant r.op && not (held_in r.line k.filter.rows)) (has_room_in room r.line k) all).0).1

same_line : (r s : WaitingRequest) (a b : ℕ) (o : Option WaitingRequest) → o ≡ Some r → line_asked r ≡ Some a → o ≡ Some s → line_asked s ≡ Some b → a ≡ b
same_line r s a b o one at two bt = cc

-- it may start
pub start_may : (setup : Configuration) (k : DeviceRecord) (h : ℕ) (tag : Tag) (w : Emission) → MayStep setup k (Cause.Act (Act.Start h tag)) w → MayStart h tag.0 k.requests k.filter
start_may setup k h tag w may =
    let asks = start_asks setup k h tag w may in
    record {
      free = λ r a found at. (
          let same : asks.request.line ≡ a = asks.line ∙ same_line asks.waiting.request r asks.waiting.line a (request_with tag.0 (requests_at h k.requests)) asks.waiting.found asks.waiting.asked found at in
          subst (λ n. held_in n k.filter.rows ≡ false) same (free_of k asks.waiting.request.room asks.request w asks.row)
          );
      reserved = λ r found room. may.before.reservations h tag.0 r found room;
      room = subst (λ n. length (started_filter (request_with tag.0 (requests_at h k.requests)) (record k.filter { hosts = n })).rows + (started_filter (request_with tag.0 (requests_at h k.requests)) k.filter).reserved ≤ k.filter.entries) (sym may.before.tables.filter_hosts)
          (subst (λ n. length (device_after setup (Cause.Act (Act.Start h tag)) w.sends k).filter.rows + (device_after setup (Cause.Act (Act.Start h tag)) w.sends k).filter.reserved ≤ n) (sym may.before.tables.filter_entries) may.after.entries);
    }

put_by : (t u : TaskRecord) (us : List TaskRecord) (b : Bool) → length (put_in_order (λ (v : TaskRecord). v.first) t us) ≡ length us + 1 → length (cond b (u ∷ put_in_order (λ (v : TaskRecord). v.first) t us) (t ∷ u ∷ us)) ≡ length (u ∷ us) + 1
put_by t u us true more = omega arith
put_by t u us false more = omega arith

one_more_task : (t : TaskRecord) (us : List TaskRecord) → length (put_in_order (λ (v : TaskRecord). v.first) t us) ≡ length us + 1
one_more_task t [] = refl
one_more_task t (u ∷ us) = put_by t u us (nat_lt u.first t.first) (one_more_task t us)

started_by : (hosts h : ℕ) (m : Message) (q : Request) → request_in m ≡ Some q → (tasks : List TaskRecord) → length (tasks_with (task_started hosts h m) tasks) ≡ length tasks + 1
started_by hosts h (Message.Req op meta snp tag line) q is tasks = one_more_task _ tasks
started_by hosts h (Message.MemWr meta snp tag line bytes) q is tasks = cc
started_by hosts h (Message.BiConflict tag) q is tasks = cc
started_by hosts h (Message.BiRsp op bitag low) q is tasks = cc
started_by hosts h (Message.Ndr op tag) q is tasks = cc
started_by hosts h (Message.MemData tag bytes) q is tasks = cc
started_by hosts h (Message.BiSnp op bitag line span) q is tasks = cc
started_by hosts h (Message.Credit c) q is tasks = cc

-- a task more is at most as many as there are lines
pub start_room : (setup : Configuration) (k : DeviceRecord) (h : ℕ) (tag : Tag) (w : Emission) → MayStep setup k (Cause.Act (Act.Start h tag)) w → length k.tasks < setup.lines
start_room setup k h tag w may =
    let asks = start_asks setup k h tag w may in
    let more = started_by setup.hosts h asks.waiting.request.message asks.request asks.seen k.tasks in
    let listed : length (tasks_with (task_started setup.hosts h asks.waiting.request.message) k.tasks) ≤ setup.lines =
    subst (λ (o : Option WaitingRequest). length (tasks_with (option_and_then (λ r. task_started setup.hosts h r.message) o) k.tasks) ≤ setup.lines) asks.waiting.found may.after.listed in
    omega (arith, more, listed)

pub evict_asks : (setup : Configuration) (k : DeviceRecord) (h : ℕ) (tag : Tag) (w : Emission) → MayStep setup k (Cause.Act (Act.Evict h tag)) w → Asked setup h tag.0 k (λ r. evict_of k r.room) w
evict_asks setup k h tag w may = asked_of setup k may.before h tag.0 (λ r. evict_of k r.room) w (passed setup (Cause.Act (Act.Evict h tag)) k w may.answer).row

victim_of : (k : DeviceRecord) (room : Room) (r : Request) (w : Emission) → evict_of k room r ≡ Some w → is_some (victim_in k.filter.rows) ≡ true
victim_of k room r w is =
    let wants = asks_for_grant r.op && not (held_in r.line k.filter.rows) && wants_eviction_in room r.line k in
    (and_parts wants (is_some (victim_in k.filter.rows)) (when_some (wants && is_some (victim_in k.filter.rows)) nothing w is).holds).1

found_put_by : (t u : TaskRecord) (us : List TaskRecord) (b c : Bool) → nat_lt u.first t.first ≡ b → (u.first == t.first) ≡ c → task_at t.first (put_in_order (λ (v : TaskRecord). v.first) t us) ≡ Some t
    → task_at t.first (cond b (u ∷ put_in_order (λ (v : TaskRecord). v.first) t us) (t ∷ u ∷ us)) ≡ Some t
found_put_by t u us true true below same more = let low = ltb-true u.first t.first below in let at = eqb-true u.first t.first same in absurd (omega (arith, low, at))
found_put_by t u us true false below same more = ap (λ c. cond c (Some u) (task_at t.first (put_in_order (λ (v : TaskRecord). v.first) t us))) same ∙ more
found_put_by t u us false c below same more = ap (λ c. cond c (Some t) (task_at t.first (u ∷ us))) (eq-eqb t.first t.first refl)

-- the task that was put is found
found_put : (t : TaskRecord) (us : List TaskRecord) → task_at t.first (put_in_order (λ (v : TaskRecord). v.first) t us) ≡ Some t
found_put t [] = ap (λ c. cond c (Some t) None) (eq-eqb t.first t.first refl)
found_put t (u ∷ us) = found_put_by t u us (nat_lt u.first t.first) (u.first == t.first) refl refl (found_put t us)

evicting : (setup : Configuration) (k : DeviceRecord) (h : ℕ) (tag : Tag) (w : Emission) (b : Block) → victim_in k.filter.rows ≡ Some b → MayStep setup k (Cause.Act (Act.Evict h tag)) w
    → (device_after setup (Cause.Act (Act.Evict h tag)) w.sends k).tasks ≡ put_in_order (λ (v : TaskRecord). v.first) (task_evicting setup.hosts h tag b) k.tasks
evicting setup k h tag w b is may = ap (λ (o : Option Block). tasks_with (option_map (task_evicting setup.hosts h tag) o) k.tasks) is

-- there is a victim, and its lines are idle
pub evict_may : (setup : Configuration) (k : DeviceRecord) (h : ℕ) (tag : Tag) (w : Emission) → MayStep setup k (Cause.Act (Act.Evict h tag)) w → HasVictim k.filter
evict_may setup k h tag w may =
    let asks = evict_asks setup k h tag w may in
    let there = some_is (victim_in k.filter.rows) (victim_of k asks.waiting.request.room asks.request w asks.row) in
    let b = there.x in
    let t = task_evicting setup.hosts h tag b in
    let found : task_at b.first.0 (device_after setup (Cause.Act (Act.Evict h tag)) w.sends k).tasks ≡ Some t = ap (task_at b.first.0) (evicting setup k h tag w b there.found may) ∙ found_put t k.tasks in
    record {
      block = b;
      victim = there.found;
      lines = subst (λ n. b.first.0 + span_len b.span ≤ n) (sym may.before.tables.filter_lines) (may.after.tasks b.first.0 t found).within;
      idle = may.victim b there.found;
    }

pub evict_room : (setup : Configuration) (k : DeviceRecord) (h : ℕ) (tag : Tag) (w : Emission) → MayStep setup k (Cause.Act (Act.Evict h tag)) w → length k.tasks < setup.lines
evict_room setup k h tag w may =
    let asks = evict_asks setup k h tag w may in
    let there = some_is (victim_in k.filter.rows) (victim_of k asks.waiting.request.room asks.request w asks.row) in
    let more = one_more_task (task_evicting setup.hosts h tag there.x) k.tasks in
    let listed : length (put_in_order (λ (v : TaskRecord). v.first) (task_evicting setup.hosts h tag there.x) k.tasks) ≤ setup.lines =
    subst (λ us. length us ≤ setup.lines) (evicting setup k h tag w there.x there.found may) may.after.listed in
    omega (arith, more, listed)

-- ---- V8

-- a task that is found stands
abbrev pub stands_of : (setup : Configuration) (k : DeviceRecord) → IsSteady setup k → (a : ℕ) (t : TaskRecord) → task_at a k.tasks ≡ Some t → StandsAt a k.tasks k.filter
stands_of setup k steady a t found =
    let placed = steady.tasks a t found in
    let first = found_first a t k.tasks found in
    record {
      task = t;
      found = found;
      lines = subst (λ n. n + span_len t.span ≤ k.filter.lines) first (subst (λ n. t.first + span_len t.span ≤ n) (sym steady.tables.filter_lines) placed.within);
      held = λ b from low. placed.held b (subst (λ n. n ≤ b) (sym first) from) (subst (λ n. b < n + span_len t.span) (sym first) low);
    }

grants_by : (purpose : Purpose) (op : NdrOp) (h tag : ℕ) (bytes : Bytes64) (hosts : ℕ) → h < hosts → GrantsTo hosts (finish_emission purpose op h tag bytes).sends
grants_by Purpose.SharedRead op h tag bytes hosts low = record { host = low; completion = refl }
grants_by Purpose.OwningRead op h tag bytes hosts low = record { host = low; completion = refl }
grants_by Purpose.Invalidation op h tag bytes hosts low = record { host = low; completion = refl }
grants_by Purpose.Eviction op h tag bytes hosts low = tt

-- it may finish
pub finish_may : (setup : Configuration) (k : DeviceRecord) (line : Line) (w : Emission) → MayStep setup k (Cause.Act (Act.Finish line)) w → MayFinish line.0 w.sends k.tasks k.filter (length k.requests)
finish_may setup k line w may =
    let found = and_then_some (finish_row setup k) (task_at line.0 k.tasks) w (passed setup (Cause.Act (Act.Finish line)) k w may.answer).row in
    let t = found.x in
    let emits = (when_some (is_finished setup.hosts k.filter.rows t) (finish_emission t.purpose (grant_in setup.hosts k.filter.rows t) t.host t.tag (bytes_in k.memory t.first)) w found.same).same in
    let host = (may.before.tasks line.0 t found.found).host in
    record {
      stands = stands_of setup k may.before line.0 t found.found;
      host = subst (λ n. t.host < n) (sym may.before.tables.requests) host;
      grant = subst (λ n. GrantsTo n w.sends) (sym may.before.tables.filter_hosts)
          (subst (λ (x : Emission). GrantsTo setup.hosts x.sends) (sym emits) (grants_by t.purpose (grant_in setup.hosts k.filter.rows t) t.host t.tag (bytes_in k.memory t.first) setup.hosts host));
      room = subst (λ n. length (device_after setup (Cause.Act (Act.Finish line)) w.sends k).filter.rows + (device_after setup (Cause.Act (Act.Finish line)) w.sends k).filter.reserved ≤ n) (sym may.before.tables.filter_entries) may.after.entries;
    }
