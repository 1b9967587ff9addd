-- Each act of a host stands once among the next steps where it is allowed.
use Rattle.std.proofs.Common.{◌≡◌, ℕ, ◌+◌, Bool, true, false, List, Option, cond, refl, sym, ◌∙◌, ap, arith}
use Rattle.std.specs.Prelude.{◌&&◌, nat_lt}
use Rattle.std.proofs.lemmas.Bool.{and_parts, false≢true}
use Rattle.cxl_message.specs.declared.channels.Channel.{Channel}
use Rattle.cxl_message.specs.declared.events.Act.{Act}
use Rattle.cxl_message.specs.declared.events.Commit.{Commit}
use Rattle.cxl_message.specs.declared.events.Event.{Event}
use Rattle.cxl_message.specs.declared.events.Sends.{Sends}
use Rattle.cxl_message.specs.declared.identifiers.Bytes64.{Bytes64}
use Rattle.cxl_message.specs.declared.identifiers.Line.{Line}
use Rattle.cxl_message.specs.declared.identifiers.Tag.{Tag}
use Rattle.cxl_message.specs.Setup.{Configuration, IsWithinLimits}
use Rattle.coherence_model.specs.Fitting.{act_fits, is_host}
use Rattle.coherence_model.specs.Next.{next_device_acts, next_host_acts, next_steps}
use Rattle.coherence_model.specs.Rows.{row_holds}
use Rattle.coherence_model.specs.Runs.{IsRun}
use Rattle.coherence_model.specs.Snoops.{buffered_snoops}
use Rattle.coherence_model.specs.Traces.{events_of}
use Rattle.step_laws.specs.Laws.{expected_count}
use Rattle.step_laws.proofs.Counting.{host-act-allowed, parts-sum}
use Rattle.step_laws.proofs.Counts.{counted}
use Rattle.step_laws.proofs.DeviceParts.{IsNot, device_acts-sum, device_returns-none, request_acts-none, serves-none, tasks-none}
use Rattle.step_laws.proofs.HostCounts.{AtHost, NoSnoopAct, answer-counted, conflict-counted, returns-none, snoop_acts-none, write_back-counted}
use Rattle.step_laws.proofs.HostParts.{all_host_acts, all_host_acts-counted, answer_block-counted, host_acts-sum, host_return-counted}
use Rattle.coherence_model.proofs.OwnRuns.{events_of_run}
use Rattle.step_laws.proofs.OwnRuns.{host_is_no_device}
use Rattle.step_laws.proofs.Steps.{act_event}
use Rattle.step_laws.proofs.Takes.{takes-none, times}

under-step : (b row : Bool) (n : ℕ) → (b ≡ true → n ≡ counted row) → cond b n 0 ≡ counted (b && row)
under-step true row n h = h refl
under-step false row n h = refl

middle-step : (n : ℕ) → (0 + n) + 0 ≡ n
middle-step n = omega arith

right-zero : (n : ℕ) → n + 0 ≡ n
right-zero n = omega arith

left-zero : (n : ℕ) → 0 + n ≡ n
left-zero n = omega arith

-- whether an act is one of a host
abbrev pub is_of_host : Act → Bool
is_of_host (Act.Conflict line) = true
is_of_host (Act.WriteBack line) = true
is_of_host (Act.Answer line) = true
is_of_host (Act.AnswerBlock line) = true
is_of_host (Act.HostReturn c) = true
is_of_host (Act.Serve h tag) = false
is_of_host (Act.Clean h tag) = false
is_of_host (Act.Start h tag) = false
is_of_host (Act.Evict h tag) = false
is_of_host (Act.Snoop h line) = false
is_of_host (Act.Finish line) = false
is_of_host (Act.DeviceReturn h c) = false

-- an event that is none of the device's acts
record NoDeviceAct (e : Event) : Type 0 where
  serve : (h : ℕ) (tag : Tag) → IsNot e (Act.Serve h tag)
  request : (h : ℕ) (tag : Tag) → IsNot e (Act.Clean h tag) × IsNot e (Act.Start h tag) × IsNot e (Act.Evict h tag)
  snoop : (h : ℕ) (line : Line) → IsNot e (Act.Snoop h line)
  finish : (line : Line) → IsNot e (Act.Finish line)
  return : (h : ℕ) (c : Channel) → IsNot e (Act.DeviceReturn h c)

-- an act of a host is none of them
no_device_act : (g : ℕ) (act : Act) (sends : Sends) (commit : Option Commit) → is_of_host act ≡ true → NoDeviceAct (act_event g act sends commit)
no_device_act g (Act.Conflict line) sends commit of_host =
    record { serve = λ h tag. refl; request = λ h tag. (refl, refl, refl); snoop = λ h a. refl; finish = λ a. refl; return = λ h c. refl }
no_device_act g (Act.WriteBack line) sends commit of_host =
    record { serve = λ h tag. refl; request = λ h tag. (refl, refl, refl); snoop = λ h a. refl; finish = λ a. refl; return = λ h c. refl }
no_device_act g (Act.Answer line) sends commit of_host =
    record { serve = λ h tag. refl; request = λ h tag. (refl, refl, refl); snoop = λ h a. refl; finish = λ a. refl; return = λ h c. refl }
no_device_act g (Act.AnswerBlock line) sends commit of_host =
    record { serve = λ h tag. refl; request = λ h tag. (refl, refl, refl); snoop = λ h a. refl; finish = λ a. refl; return = λ h c. refl }
no_device_act g (Act.HostReturn d) sends commit of_host =
    record { serve = λ h tag. refl; request = λ h tag. (refl, refl, refl); snoop = λ h a. refl; finish = λ a. refl; return = λ h c. refl }
no_device_act g (Act.Serve h tag) sends commit of_host = absurd (false≢true of_host)
no_device_act g (Act.Clean h tag) sends commit of_host = absurd (false≢true of_host)
no_device_act g (Act.Start h tag) sends commit of_host = absurd (false≢true of_host)
no_device_act g (Act.Evict h tag) sends commit of_host = absurd (false≢true of_host)
no_device_act g (Act.Snoop h line) sends commit of_host = absurd (false≢true of_host)
no_device_act g (Act.Finish line) sends commit of_host = absurd (false≢true of_host)
no_device_act g (Act.DeviceReturn h c) sends commit of_host = absurd (false≢true of_host)

device_acts-none :
    (setup : Configuration) (opening : List (Line × Bytes64)) (t : List Event) (e : Event) → NoDeviceAct e → times e (next_device_acts setup opening t) ≡ 0
device_acts-none setup opening t e none =
    device_acts-sum setup opening t e 0 0 0 0 (serves-none setup opening t e none.serve) (request_acts-none setup opening t e none.request)
    (tasks-none setup opening t e none.snoop none.finish) (device_returns-none setup opening t e none.return)

-- where an act of a host fits, its agent is a host
agent-host : (setup : Configuration) (g : ℕ) (act : Act) → is_of_host act ≡ true → act_fits setup g act ≡ true → is_host setup g ≡ true
agent-host setup g (Act.Conflict line) of_host fits = (and_parts _ _ fits).0
agent-host setup g (Act.WriteBack line) of_host fits = (and_parts _ _ fits).0
agent-host setup g (Act.Answer line) of_host fits = (and_parts _ _ fits).0
agent-host setup g (Act.AnswerBlock line) of_host fits = (and_parts _ _ fits).0
agent-host setup g (Act.HostReturn c) of_host fits = fits
agent-host setup g (Act.Serve h tag) of_host fits = absurd (false≢true of_host)
agent-host setup g (Act.Clean h tag) of_host fits = absurd (false≢true of_host)
agent-host setup g (Act.Start h tag) of_host fits = absurd (false≢true of_host)
agent-host setup g (Act.Evict h tag) of_host fits = absurd (false≢true of_host)
agent-host setup g (Act.Snoop h line) of_host fits = absurd (false≢true of_host)
agent-host setup g (Act.Finish line) of_host fits = absurd (false≢true of_host)
agent-host setup g (Act.DeviceReturn h c) of_host fits = absurd (false≢true of_host)

-- an act that stands once among those of its host, and nowhere else
host-act-next :
    (setup : Configuration) → IsWithinLimits setup → (opening : List (Line × Bytes64)) (t : List Event) → IsRun setup opening t
    → (g : ℕ) (act : Act) (sends : Sends) (commit : Option Commit) → is_of_host act ≡ true
    → (AtHost setup opening t g
    → times (act_event g act sends commit) (next_host_acts setup opening t g) ≡ counted (row_holds setup opening (act_event g act sends commit) (events_of g t)))
    → times (act_event g act sends commit) (next_steps setup opening t) ≡ expected_count setup opening t (act_event g act sends commit)
host-act-next setup limits opening t run g act sends commit of_host once =
    let e : Event = act_event g act sends commit in
    let row : Bool = row_holds setup opening e (events_of g t) in
    let own : times e (all_host_acts setup opening t) ≡ counted (nat_lt g setup.hosts && row) =
    all_host_acts-counted setup opening t e
    ∙ under-step (nat_lt g setup.hosts) row (times e (next_host_acts setup opening t g))
    (λ host. once (record { host = host_is_no_device setup limits g host; run = events_of_run setup opening g t run })) in
    parts-sum setup opening t e 0 (counted (nat_lt g setup.hosts && row)) 0 (takes-none setup opening t e (λ h m. refl)) own
    (device_acts-none setup opening t e (no_device_act g act sends commit of_host))
    ∙ (middle-step (counted (nat_lt g setup.hosts && row))
    ∙ ap counted (sym (host-act-allowed setup limits opening t run g act sends commit (agent-host setup g act of_host))))

-- Conflict
pub conflict-next :
    (setup : Configuration) → IsWithinLimits setup → (opening : List (Line × Bytes64)) (t : List Event) → IsRun setup opening t
    → (g : ℕ) (line : Line) (sends : Sends) (commit : Option Commit)
    → times (act_event g (Act.Conflict line) sends commit) (next_steps setup opening t) ≡ expected_count setup opening t
    (act_event g (Act.Conflict line) sends commit)
conflict-next setup limits opening t run g line sends commit =
    let e : Event = act_event g (Act.Conflict line) sends commit in
    host-act-next setup limits opening t run g (Act.Conflict line) sends commit refl
    (λ at. host_acts-sum setup opening t g e _ 0 (conflict-counted setup opening t g at line sends commit) (returns-none setup opening t g e (λ c. refl))
    ∙ right-zero _)

-- WriteBack
pub write_back-next :
    (setup : Configuration) → IsWithinLimits setup → (opening : List (Line × Bytes64)) (t : List Event) → IsRun setup opening t
    → (g : ℕ) (line : Line) (sends : Sends) (commit : Option Commit)
    → times (act_event g (Act.WriteBack line) sends commit) (next_steps setup opening t) ≡ expected_count setup opening t
    (act_event g (Act.WriteBack line) sends commit)
write_back-next setup limits opening t run g line sends commit =
    let e : Event = act_event g (Act.WriteBack line) sends commit in
    host-act-next setup limits opening t run g (Act.WriteBack line) sends commit refl
    (λ at. host_acts-sum setup opening t g e _ 0 (write_back-counted setup opening t g at line sends commit) (returns-none setup opening t g e (λ c. refl))
    ∙ right-zero _)

-- Answer
pub answer-next :
    (setup : Configuration) → IsWithinLimits setup → (opening : List (Line × Bytes64)) (t : List Event) → IsRun setup opening t
    → (g : ℕ) (line : Line) (sends : Sends) (commit : Option Commit)
    → times (act_event g (Act.Answer line) sends commit) (next_steps setup opening t) ≡ expected_count setup opening t (act_event g (Act.Answer line) sends commit)
answer-next setup limits opening t run g line sends commit =
    let e : Event = act_event g (Act.Answer line) sends commit in
    host-act-next setup limits opening t run g (Act.Answer line) sends commit refl
    (λ at. host_acts-sum setup opening t g e _ 0 (answer-counted setup opening t g at line sends commit) (returns-none setup opening t g e (λ c. refl))
    ∙ right-zero _)

-- AnswerBlock
pub answer_block-next :
    (setup : Configuration) → IsWithinLimits setup → (opening : List (Line × Bytes64)) (t : List Event) → IsRun setup opening t
    → (g : ℕ) (line : Line) (sends : Sends) (commit : Option Commit)
    → times (act_event g (Act.AnswerBlock line) sends commit) (next_steps setup opening t) ≡ expected_count setup opening t
    (act_event g (Act.AnswerBlock line) sends commit)
answer_block-next setup limits opening t run g line sends commit =
    let e : Event = act_event g (Act.AnswerBlock line) sends commit in
    host-act-next setup limits opening t run g (Act.AnswerBlock line) sends commit refl
    (λ at. host_acts-sum setup opening t g e _ 0 (answer_block-counted setup opening t g at line sends commit) (returns-none setup opening t g e (λ c. refl))
    ∙ right-zero _)

-- HostReturn
pub host_return-next :
    (setup : Configuration) → IsWithinLimits setup → (opening : List (Line × Bytes64)) (t : List Event) → IsRun setup opening t
    → (g : ℕ) (c : Channel) (sends : Sends) (commit : Option Commit)
    → times (act_event g (Act.HostReturn c) sends commit) (next_steps setup opening t) ≡ expected_count setup opening t (act_event g (Act.HostReturn c) sends commit)
host_return-next setup limits opening t run g c sends commit =
    let e : Event = act_event g (Act.HostReturn c) sends commit in
    let none : NoSnoopAct e g = record { conflict = λ a. refl; write_back = λ a. refl; answer = λ a. refl; block = λ a. refl } in
    host-act-next setup limits opening t run g (Act.HostReturn c) sends commit refl
    (λ at. host_acts-sum setup opening t g e 0 _ (snoop_acts-none setup opening t g e none (buffered_snoops (events_of g t)))
    (host_return-counted setup opening t g at c sends commit) ∙ left-zero _)
