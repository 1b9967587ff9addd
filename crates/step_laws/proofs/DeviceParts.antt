-- An event that is none of a kind of acts of the device stands not among them, and what is known of the device of a run.
use Rattle.std.proofs.Common.{◌≡◌, ℕ, ◌+◌, true, false, List, ◌++◌, Option, ◌∙◌, subst}
use Rattle.std.specs.Prelude.{◌==◌, is_some, flat_map}
use Rattle.std.proofs.lemmas.Bool.{eqb-true}
use Rattle.cxl_message.specs.declared.channels.Channel.{Channel}
use Rattle.cxl_message.specs.declared.events.Act.{Act}
use Rattle.cxl_message.specs.declared.events.Cause.{Cause}
use Rattle.cxl_message.specs.declared.events.Commit.{Commit}
use Rattle.cxl_message.specs.declared.events.Event.{Event}
use Rattle.cxl_message.specs.declared.events.Sends.{Sends}
use Rattle.cxl_message.specs.declared.identifiers.Bytes64.{Bytes64}
use Rattle.cxl_message.specs.declared.identifiers.Line.{Line}
use Rattle.cxl_message.specs.declared.identifiers.Tag.{Tag}
use Rattle.cxl_message.specs.Lists.{below}
use Rattle.cxl_message.specs.Setup.{Configuration}
use Rattle.coherence_model.specs.Buffers.{buffered_requests, buffered_writes}
use Rattle.coherence_model.specs.DeviceActs.{device_acts}
use Rattle.coherence_model.specs.Next.{act_step, device_return_acts, device_return_channels, next_device_acts, request_acts, tag_or_zero, task_acts, task_lines, write_acts}
use Rattle.coherence_model.specs.Rows.{row_holds}
use Rattle.coherence_model.specs.Traces.{device, events_of}
use Rattle.step_laws.specs.Events.{event_eq}
use Rattle.step_laws.proofs.Counts.{count_by-append, count_by-flat_map, sum_by-zeros}
use Rattle.step_laws.proofs.Events.{is_step}
use Rattle.step_laws.proofs.OwnRuns.{device-some}
use Rattle.step_laws.proofs.Steps.{act_event, three-none, times-act-none}
use Rattle.step_laws.proofs.Takes.{times}

-- a cause that an event at the device doesn't have
abbrev pub IsNot : Event → Act → Type 0
IsNot e act = is_step e device (Cause.Act act) ≡ false

-- the four parts of the device's acts
abbrev pub all_serves : Configuration → List (Line × Bytes64) → List Event → List Event
all_serves setup opening t = flat_map (λ h. flat_map (write_acts setup opening t h) (buffered_writes h (events_of device t))) (below setup.hosts)

abbrev pub all_requests : Configuration → List (Line × Bytes64) → List Event → List Event
all_requests setup opening t = flat_map (λ h. flat_map (request_acts setup opening t h) (buffered_requests h (events_of device t))) (below setup.hosts)

abbrev pub all_tasks : Configuration → List (Line × Bytes64) → List Event → List Event
all_tasks setup opening t = flat_map (task_acts setup opening t) (task_lines setup (events_of device t))

abbrev pub all_returns : Configuration → List (Line × Bytes64) → List Event → List Event
all_returns setup opening t = flat_map (device_return_acts setup opening t) (below setup.hosts)

pub serves-none :
    (setup : Configuration) (opening : List (Line × Bytes64)) (t : List Event) (e : Event) → ((h : ℕ) (tag : Tag) → IsNot e (Act.Serve h tag))
    → times e (all_serves setup opening t) ≡ 0
serves-none setup opening t e other =
    count_by-flat_map (event_eq e) (λ h. flat_map (write_acts setup opening t h) (buffered_writes h (events_of device t))) (below setup.hosts)
    ∙ sum_by-zeros _
    (λ h. count_by-flat_map (event_eq e) (write_acts setup opening t h) (buffered_writes h (events_of device t))
    ∙ sum_by-zeros _ (λ m. times-act-none setup opening t e device (Act.Serve h (record { 0 = tag_or_zero m })) (other h (record { 0 = tag_or_zero m })))
    (buffered_writes h (events_of device t)))
    (below setup.hosts)

-- the list of an act for a host's message with this tag
abbrev pub on_tag : Configuration → List (Line × Bytes64) → List Event → (ℕ → Tag → Act) → ℕ → ℕ → List Event
on_tag setup opening t act h tag = act_step setup opening t device (act h (record { 0 = tag }))

pub request_acts-none :
    (setup : Configuration) (opening : List (Line × Bytes64)) (t : List Event) (e : Event)
    → ((h : ℕ) (tag : Tag) → IsNot e (Act.Clean h tag) × IsNot e (Act.Start h tag) × IsNot e (Act.Evict h tag)) → times e (all_requests setup opening t) ≡ 0
request_acts-none setup opening t e other =
    count_by-flat_map (event_eq e) (λ h. flat_map (request_acts setup opening t h) (buffered_requests h (events_of device t))) (below setup.hosts)
    ∙ sum_by-zeros _
    (λ h. count_by-flat_map (event_eq e) (request_acts setup opening t h) (buffered_requests h (events_of device t))
    ∙ sum_by-zeros _
    (λ m. let tag : Tag = record { 0 = tag_or_zero m } in
    three-none e (on_tag setup opening t Act.Clean h (tag_or_zero m)) (on_tag setup opening t Act.Start h (tag_or_zero m))
    (on_tag setup opening t Act.Evict h (tag_or_zero m))
    (times-act-none setup opening t e device (Act.Clean h tag) (other h tag).0) (times-act-none setup opening t e device (Act.Start h tag) (other h tag).1)
    (times-act-none setup opening t e device (Act.Evict h tag) (other h tag).2))
    (buffered_requests h (events_of device t)))
    (below setup.hosts)

-- both parts of a task's acts
pub task_acts-sum : (setup : Configuration) (opening : List (Line × Bytes64)) (t : List Event) (e : Event) (a n m : ℕ)
    → times e (flat_map (λ h. act_step setup opening t device (Act.Snoop h (record { 0 = a }))) (below setup.hosts)) ≡ n → times e
    (act_step setup opening t device (Act.Finish (record { 0 = a }))) ≡ m → times e (task_acts setup opening t a) ≡ n + m
task_acts-sum setup opening t e a n m h l =
    count_by-append (event_eq e) (flat_map (λ h. act_step setup opening t device (Act.Snoop h (record { 0 = a }))) (below setup.hosts))
    (act_step setup opening t device (Act.Finish (record { 0 = a }))) ∙ rw (h, l)

pub snoops-none :
    (setup : Configuration) (opening : List (Line × Bytes64)) (t : List Event) (e : Event) (a : ℕ) → ((h : ℕ) (line : Line) → IsNot e (Act.Snoop h line))
    → times e (flat_map (λ h. act_step setup opening t device (Act.Snoop h (record { 0 = a }))) (below setup.hosts)) ≡ 0
snoops-none setup opening t e a other =
    count_by-flat_map (event_eq e) (λ h. act_step setup opening t device (Act.Snoop h (record { 0 = a }))) (below setup.hosts)
    ∙ sum_by-zeros _ (λ h. times-act-none setup opening t e device (Act.Snoop h (record { 0 = a })) (other h (record { 0 = a }))) (below setup.hosts)

pub tasks-none :
    (setup : Configuration) (opening : List (Line × Bytes64)) (t : List Event) (e : Event) → ((h : ℕ) (line : Line) → IsNot e (Act.Snoop h line))
    → ((line : Line) → IsNot e (Act.Finish line)) → times e (all_tasks setup opening t) ≡ 0
tasks-none setup opening t e other end =
    count_by-flat_map (event_eq e) (task_acts setup opening t) (task_lines setup (events_of device t))
    ∙ sum_by-zeros _ (λ a. task_acts-sum setup opening t e a 0 0 (snoops-none setup opening t e a other)
    (times-act-none setup opening t e device (Act.Finish (record { 0 = a })) (end (record { 0 = a })))) (task_lines setup (events_of device t))

pub device_returns-none :
    (setup : Configuration) (opening : List (Line × Bytes64)) (t : List Event) (e : Event) → ((h : ℕ) (c : Channel) → IsNot e (Act.DeviceReturn h c))
    → times e (all_returns setup opening t) ≡ 0
device_returns-none setup opening t e other =
    count_by-flat_map (event_eq e) (device_return_acts setup opening t) (below setup.hosts)
    ∙ sum_by-zeros _
    (λ h. count_by-flat_map (event_eq e) (λ c. act_step setup opening t device (Act.DeviceReturn h c)) device_return_channels
    ∙ sum_by-zeros _ (λ c. times-act-none setup opening t e device (Act.DeviceReturn h c) (other h c)) device_return_channels)
    (below setup.hosts)

-- all four parts of the device's acts
pub device_acts-sum :
    (setup : Configuration) (opening : List (Line × Bytes64)) (t : List Event) (e : Event) (i j k l : ℕ) → times e (all_serves setup opening t) ≡ i
    → times e (all_requests setup opening t) ≡ j → times e (all_tasks setup opening t) ≡ k → times e (all_returns setup opening t) ≡ l
    → times e (next_device_acts setup opening t) ≡ ((i + j) + k) + l
device_acts-sum setup opening t e i j k l a b c d =
    count_by-append (event_eq e) ((all_serves setup opening t ++ all_requests setup opening t) ++ all_tasks setup opening t) (all_returns setup opening t)
    ∙ rw (
      count_by-append (event_eq e) (all_serves setup opening t ++ all_requests setup opening t) (all_tasks setup opening t),
      count_by-append (event_eq e)
          (all_serves setup opening t) (all_requests setup opening t),
      a,
      b,
      c,
      d,
    )

-- where the row of an act holds at the device, it gives an emission after the device's events
pub device-act-some :
    (setup : Configuration) (opening : List (Line × Bytes64)) (t : List Event) (g : ℕ) (act : Act) (sends : Sends) (commit : Option Commit)
    → (g == device) ≡ true → row_holds setup opening (act_event g act sends commit) (events_of g t) ≡ true
    → is_some (device_acts setup opening act (events_of device t)) ≡ true
device-act-some setup opening t g act sends commit at row =
    subst (λ k. is_some (device_acts setup opening act (events_of k t)) ≡ true) (eqb-true g device at)
    (device-some setup opening (act_event g act sends commit) (events_of g t) at row)
