-- How often the acts of tasks and the returns stand among the acts of the device.
use Rattle.std.proofs.Common.{◌≡◌, ℕ, ◌+◌, Bool, true, false, List, Option, cond, refl, sym, ◌∙◌, ap, arith}
use Rattle.std.specs.Prelude.{◌==◌, ◌&&◌, is_some, nat_lt, count_by, sum_by, flat_map}
use Rattle.std.proofs.lemmas.Bool.{and_parts, eq-eqb, eqb-true, ne_eqb, false≢true}
use Rattle.cxl_message.specs.declared.channels.Channel.{Channel}
use Rattle.cxl_message.specs.declared.events.Act.{Act}
use Rattle.cxl_message.specs.declared.events.Commit.{Commit}
use Rattle.cxl_message.specs.declared.events.Event.{Event}
use Rattle.cxl_message.specs.declared.events.Sends.{Sends}
use Rattle.cxl_message.specs.declared.identifiers.Bytes64.{Bytes64}
use Rattle.cxl_message.specs.declared.identifiers.Line.{Line}
use Rattle.cxl_message.specs.Codes.{channel_eq}
use Rattle.cxl_message.specs.Lists.{below}
use Rattle.cxl_message.specs.Setup.{Configuration}
use Rattle.coherence_model.specs.DeviceActs.{device_returns}
use Rattle.coherence_model.specs.DirectoryChanges.{directory}
use Rattle.coherence_model.specs.Next.{act_step, device_return_acts, device_return_channels, task_acts, task_lines}
use Rattle.coherence_model.specs.Rows.{row_holds}
use Rattle.coherence_model.specs.Traces.{device, events_of}
use Rattle.step_laws.specs.Events.{event_eq}
use Rattle.step_laws.proofs.Counts.{each_holds, counted, count_by-filter, count_by-flat_map, sum_by-below, sum_by-same, sum_by-zeros}
use Rattle.step_laws.proofs.DeviceCounts.{host-step, other-host}
use Rattle.step_laws.proofs.DeviceParts.{all_returns, all_tasks, device-act-some, task_acts-sum}
use Rattle.step_laws.proofs.DeviceRows.{device_return-holds, finish-holds, snoop-holds}
use Rattle.step_laws.proofs.LineActs.{sum-under, under-counted}
use Rattle.step_laws.proofs.Steps.{act_event, times-act}
use Rattle.step_laws.proofs.Takes.{times}

-- a line stands once among the lines that exist
line-once : (a n : ℕ) → count_by (λ b. a == b) (below n) ≡ counted (nat_lt a n)
line-once a n =
    sum_by-below (λ b. counted (a == b)) a n (λ k other. none-counted (a == k) (ne_eqb a k (λ e. other (sym e))))
    ∙ ap (λ b. cond (nat_lt a n) (counted b) 0) (eq-eqb a a refl)
  where
    none-counted : (b : Bool) → b ≡ false → counted b ≡ 0
    none-counted b e = rw e

has-task-step :
    (setup : Configuration) (mine : List Event) (a b : ℕ) → (a == b) ≡ true → is_some ((directory setup mine).task b) ≡ is_some ((directory setup mine).task a)
has-task-step setup mine a b same = ap (λ x. is_some ((directory setup mine).task x)) (sym (eqb-true a b same))

-- what stands once for a line with a task stands once among the lines of tasks
tasks-counted :
    (setup : Configuration) (mine : List Event) (a : ℕ) (row : Bool) → (row ≡ true → is_some ((directory setup mine).task a) ≡ true)
    → sum_by (λ b. counted ((a == b) && row)) (task_lines setup mine) ≡ counted (nat_lt a setup.lines && row)
tasks-counted setup mine a row some =
    sum_by-same (λ b. counted ((a == b) && row)) (λ b. cond row (counted (a == b)) 0) (task_lines setup mine)
    (each_holds (λ b. counted ((a == b) && row) ≡ cond row (counted (a == b)) 0) (λ b. under-counted (a == b) row) (task_lines setup mine))
    ∙ (sum-under row (λ b. counted (a == b)) (task_lines setup mine)
    ∙ (ap (λ n. cond row n 0) (count_by-filter (λ b. a == b) (λ b. is_some ((directory setup mine).task b)) (is_some ((directory setup mine).task a))
    (λ b same. has-task-step setup mine a b same) (below setup.lines)
    ∙ ap (λ n. cond (is_some ((directory setup mine).task a)) n 0) (line-once a setup.lines))
    ∙ task-step row (is_some ((directory setup mine).task a)) (nat_lt a setup.lines) some))
  where
    task-step : (x y z : Bool) → (x ≡ true → y ≡ true) → cond x (cond y (counted z) 0) 0 ≡ counted (z && x)
    task-step true true true h = refl
    task-step true true false h = refl
    task-step true false z h = absurd (false≢true (h refl))
    task-step false y true h = refl
    task-step false y false h = refl

sides : (x q y z : Bool) → counted (((x && q) && y) && z) ≡ cond ((x && y) && (q && z)) 1 0
sides true true true true = refl
sides true true true false = refl
sides true true false z = refl
sides true false true z = refl
sides true false false z = refl
sides false q y z = refl

host-line-step : (b at q row : Bool) (h : ℕ) → cond b (cond (((h == h) && at) && (q && row)) 1 0) 0 ≡ counted (q && (b && (at && row)))
host-line-step true true true row h = rw (eq-eqb h h refl)
host-line-step true true false row h = rw (eq-eqb h h refl)
host-line-step true false true row h = rw (eq-eqb h h refl)
host-line-step true false false row h = rw (eq-eqb h h refl)
host-line-step false at true row h = refl
host-line-step false at false row h = refl

-- Snoop stands once where its host and line exist and its row holds
pub snoop-counted : (setup : Configuration) (opening : List (Line × Bytes64)) (t : List Event) (g h : ℕ) (line : Line) (sends : Sends) (commit : Option Commit)
    → times (act_event g (Act.Snoop h line) sends commit) (all_tasks setup opening t) ≡ counted
    (nat_lt line.0 setup.lines && (nat_lt h setup.hosts &&
    ((g == device) && row_holds setup opening (act_event g (Act.Snoop h line) sends commit) (events_of g t))))
snoop-counted setup opening t g h line sends commit =
    let mine : List Event = events_of device t in
    let e : Event = act_event g (Act.Snoop h line) sends commit in
    let row : Bool = row_holds setup opening e (events_of g t) in
    let at : Bool = g == device in
    let to_hosts : (b : ℕ) → times e (flat_map (λ k. act_step setup opening t device (Act.Snoop k (record { 0 = b }))) (below setup.hosts)) ≡ counted ((line.0 == b) && (nat_lt h setup.hosts && (at && row))) =
    λ b.
    let stands : (k : ℕ) → times e (act_step setup opening t device (Act.Snoop k (record { 0 = b }))) ≡ cond (((h == k) && at) && ((line.0 == b) && row)) 1 0 =
    λ k. times-act setup opening t e device (Act.Snoop k (record { 0 = b })) ∙ sides (h == k) (line.0 == b) at row in
    count_by-flat_map (event_eq e) (λ k. act_step setup opening t device (Act.Snoop k (record { 0 = b }))) (below setup.hosts)
    ∙ (sum_by-below (λ k. times e (act_step setup opening t device (Act.Snoop k (record { 0 = b })))) h setup.hosts
    (λ k other. stands k ∙ other-host h k at ((line.0 == b) && row) 1 other)
    ∙ (ap (λ n. cond (nat_lt h setup.hosts) n 0) (stands h) ∙ host-line-step (nat_lt h setup.hosts) at (line.0 == b) row h)) in
    let of_task : (b : ℕ) → times e (task_acts setup opening t b) ≡ counted ((line.0 == b) && (nat_lt h setup.hosts && (at && row))) =
    λ b. task_acts-sum setup opening t e b _ 0 (to_hosts b) (times-act setup opening t e device (Act.Finish (record { 0 = b }))) ∙ omega arith in
    let some : (nat_lt h setup.hosts && (at && row)) ≡ true → is_some ((directory setup mine).task line.0) ≡ true =
    λ is. let p = and_parts (nat_lt h setup.hosts) (at && row) is in let q = and_parts at row p.1 in
    snoop-holds h line.0 ((directory setup mine).task line.0) (directory setup mine) mine
    (device-act-some setup opening t g (Act.Snoop h line) sends commit q.0 q.1) in
    count_by-flat_map (event_eq e) (task_acts setup opening t) (task_lines setup mine)
    ∙ (sum_by-same (λ b. times e (task_acts setup opening t b)) (λ b. counted ((line.0 == b) && (nat_lt h setup.hosts && (at && row)))) (task_lines setup mine)
    (each_holds (λ b. times e (task_acts setup opening t b) ≡ counted ((line.0 == b) && (nat_lt h setup.hosts && (at && row)))) of_task (task_lines setup mine))
    ∙ tasks-counted setup mine line.0 (nat_lt h setup.hosts && (at && row)) some)

-- Finish stands once where its line exists and its row holds
pub finish-counted : (setup : Configuration) (opening : List (Line × Bytes64)) (t : List Event) (g : ℕ) (line : Line) (sends : Sends) (commit : Option Commit)
    → times (act_event g (Act.Finish line) sends commit) (all_tasks setup opening t) ≡ counted
    (nat_lt line.0 setup.lines && ((g == device) && row_holds setup opening (act_event g (Act.Finish line) sends commit) (events_of g t)))
finish-counted setup opening t g line sends commit =
    let mine : List Event = events_of device t in
    let e : Event = act_event g (Act.Finish line) sends commit in
    let row : Bool = row_holds setup opening e (events_of g t) in
    let at : Bool = g == device in
    let snoops : (b : ℕ) → times e (flat_map (λ k. act_step setup opening t device (Act.Snoop k (record { 0 = b }))) (below setup.hosts)) ≡ 0 =
    λ b. count_by-flat_map (event_eq e) (λ k. act_step setup opening t device (Act.Snoop k (record { 0 = b }))) (below setup.hosts)
    ∙ sum_by-zeros _ (λ k. times-act setup opening t e device (Act.Snoop k (record { 0 = b }))) (below setup.hosts) in
    let of_task : (b : ℕ) → times e (task_acts setup opening t b) ≡ counted ((line.0 == b) && (at && row)) =
    λ b. task_acts-sum setup opening t e b 0 _ (snoops b) (times-act setup opening t e device (Act.Finish (record { 0 = b }))) ∙ regroup (line.0 == b) at row in
    let some : (at && row) ≡ true → is_some ((directory setup mine).task line.0) ≡ true =
    λ is. let q = and_parts at row is in
    finish-holds setup opening line.0 ((directory setup mine).task line.0) (directory setup mine) mine
    (device-act-some setup opening t g (Act.Finish line) sends commit q.0 q.1) in
    count_by-flat_map (event_eq e) (task_acts setup opening t) (task_lines setup mine)
    ∙ (sum_by-same (λ b. times e (task_acts setup opening t b)) (λ b. counted ((line.0 == b) && (at && row))) (task_lines setup mine)
    (each_holds (λ b. times e (task_acts setup opening t b) ≡ counted ((line.0 == b) && (at && row))) of_task (task_lines setup mine))
    ∙ tasks-counted setup mine line.0 (at && row) some)
  where
    regroup : (x y z : Bool) → 0 + counted ((x && y) && z) ≡ counted (x && (y && z))
    regroup true y z = omega arith
    regroup false y z = refl

-- a channel whose credits the device gives back stands once among those channels
return-sum :
    (c : Channel) (row : Bool) → (row ≡ true → device_returns c ≡ true) → sum_by (λ d. counted (channel_eq c d && row)) device_return_channels ≡ counted row
return-sum c false h = sum_by-zeros _ (λ d. nothing-counted (channel_eq c d)) device_return_channels
  where
    nothing-counted : (b : Bool) → counted (b && false) ≡ 0
    nothing-counted true = refl
    nothing-counted false = refl
return-sum Channel.Req true h = refl
return-sum Channel.Rwd true h = refl
return-sum Channel.BiRsp true h = refl
return-sum Channel.Ndr true h = absurd (false≢true (h refl))
return-sum Channel.Drs true h = absurd (false≢true (h refl))
return-sum Channel.BiSnp true h = absurd (false≢true (h refl))
return-sum Channel.CreditUp true h = absurd (false≢true (h refl))
return-sum Channel.CreditDown true h = absurd (false≢true (h refl))

-- DeviceReturn stands once where its host exists and its row holds
pub device_return-counted : (setup : Configuration) (opening : List (Line × Bytes64)) (t : List Event) (g h : ℕ) (c : Channel) (sends : Sends) (commit : Option Commit)
    → times (act_event g (Act.DeviceReturn h c) sends commit) (all_returns setup opening t) ≡ counted
    (nat_lt h setup.hosts && ((g == device) && row_holds setup opening (act_event g (Act.DeviceReturn h c) sends commit) (events_of g t)))
device_return-counted setup opening t g h c sends commit =
    let e : Event = act_event g (Act.DeviceReturn h c) sends commit in
    let row : Bool = row_holds setup opening e (events_of g t) in
    let at : Bool = g == device in
    let of_host : (k : ℕ) → times e (device_return_acts setup opening t k) ≡ sum_by (λ d. counted (channel_eq c d && (((h == k) && at) && row))) device_return_channels =
    λ k. count_by-flat_map (event_eq e) (λ d. act_step setup opening t device (Act.DeviceReturn k d)) device_return_channels
    ∙ sum_by-same (λ d. times e (act_step setup opening t device (Act.DeviceReturn k d)))
    (λ d. counted (channel_eq c d && (((h == k) && at) && row))) device_return_channels
    (each_holds (λ d. times e (act_step setup opening t device (Act.DeviceReturn k d)) ≡ counted (channel_eq c d && (((h == k) && at) && row)))
    (λ d. times-act setup opening t e device (Act.DeviceReturn k d) ∙ regroup (h == k) (channel_eq c d) at row) device_return_channels) in
    let returns : (k : ℕ) → times e (device_return_acts setup opening t k) ≡ cond (((h == k) && at) && row) 1 0 =
    λ k. of_host k
    ∙ return-sum c (((h == k) && at) && row)
    (λ is. let p = and_parts ((h == k) && at) row is in let q = and_parts (h == k) at p.0 in
    device_return-holds h c (events_of device t) (device-act-some setup opening t g (Act.DeviceReturn h c) sends commit q.1 p.1)) in
    count_by-flat_map (event_eq e) (device_return_acts setup opening t) (below setup.hosts)
    ∙ (sum_by-below (λ k. times e (device_return_acts setup opening t k)) h setup.hosts (λ k other. returns k ∙ other-host h k at row 1 other)
    ∙ (ap (λ n. cond (nat_lt h setup.hosts) n 0) (returns h) ∙ host-step (nat_lt h setup.hosts) at row h 1 (λ is holds. refl)))
  where
    regroup : (x q y z : Bool) → counted (((x && q) && y) && z) ≡ counted (q && ((x && y) && z))
    regroup true true y z = refl
    regroup true false y z = refl
    regroup false true y z = refl
    regroup false false y z = refl
