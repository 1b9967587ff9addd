-- Each act of the device stands once among the next steps where it is allowed.
use Rattle.std.proofs.Common.{◌≡◌, ℕ, ◌+◌, Bool, true, false, List, Option, refl, sym, ◌∙◌, ap, arith}
use Rattle.std.specs.Prelude.{◌==◌, ◌&&◌, nat_lt}
use Rattle.std.proofs.lemmas.Bool.{and_from, and_parts, false≢true, true≢false}
use Rattle.cxl_message.specs.declared.channels.Channel.{Channel}
use Rattle.cxl_message.specs.declared.events.Act.{Act}
use Rattle.cxl_message.specs.declared.events.Cause.{Cause}
use Rattle.cxl_message.specs.declared.events.Commit.{Commit}
use Rattle.cxl_message.specs.declared.events.Event.{Event}
use Rattle.cxl_message.specs.declared.events.Sends.{Sends}
use Rattle.cxl_message.specs.declared.identifiers.Bytes64.{Bytes64}
use Rattle.cxl_message.specs.declared.identifiers.Line.{Line}
use Rattle.cxl_message.specs.declared.identifiers.Tag.{Tag}
use Rattle.cxl_message.specs.Setup.{Configuration, IsWithinLimits}
use Rattle.coherence_model.specs.Fitting.{act_fits}
use Rattle.coherence_model.specs.Next.{next_device_acts, next_steps}
use Rattle.coherence_model.specs.Rows.{row_holds}
use Rattle.coherence_model.specs.Runs.{IsRun}
use Rattle.coherence_model.specs.Traces.{device, events_of}
use Rattle.step_laws.specs.Laws.{expected_count}
use Rattle.step_laws.proofs.Counting.{device-act-allowed, parts-sum}
use Rattle.step_laws.proofs.Counts.{counted}
use Rattle.step_laws.proofs.DeviceCounts.{clean-counted, evict-counted, serve-counted, start-counted}
use Rattle.step_laws.proofs.DeviceParts.{device_acts-sum, device_returns-none, request_acts-none, serves-none, tasks-none}
use Rattle.step_laws.proofs.DeviceSound.{is_named}
use Rattle.step_laws.proofs.Events.{is_step}
use Rattle.step_laws.proofs.HostNext.{is_of_host}
use Rattle.step_laws.proofs.HostCounts.{NoSnoopAct}
use Rattle.step_laws.proofs.HostParts.{all_host_acts-none}
use Rattle.coherence_model.proofs.OwnRuns.{events_of_run}
use Rattle.step_laws.proofs.Steps.{act_event}
use Rattle.step_laws.proofs.TaskCounts.{device_return-counted, finish-counted, snoop-counted}
use Rattle.step_laws.proofs.Takes.{takes-none, times}

end-step : (n : ℕ) → (0 + 0) + n ≡ n
end-step n = omega arith

-- an event that is none of a host's acts
record NoHostAct (e : Event) : Type 0 where
  snoops : (k : ℕ) → NoSnoopAct e k
  return : (k : ℕ) (c : Channel) → is_step e k (Cause.Act (Act.HostReturn c)) ≡ false

-- an act of the device is none of them
no_host_act : (g : ℕ) (act : Act) (sends : Sends) (commit : Option Commit) → is_of_host act ≡ false → NoHostAct (act_event g act sends commit)
no_host_act g (Act.Conflict line) sends commit of_device = absurd (true≢false of_device)
no_host_act g (Act.WriteBack line) sends commit of_device = absurd (true≢false of_device)
no_host_act g (Act.Answer line) sends commit of_device = absurd (true≢false of_device)
no_host_act g (Act.AnswerBlock line) sends commit of_device = absurd (true≢false of_device)
no_host_act g (Act.HostReturn c) sends commit of_device = absurd (true≢false of_device)
no_host_act g (Act.Serve h tag) sends commit of_device =
    record { snoops = λ k. record { conflict = λ a. refl; write_back = λ a. refl; answer = λ a. refl; block = λ a. refl }; return = λ k d. refl }
no_host_act g (Act.Clean h tag) sends commit of_device =
    record { snoops = λ k. record { conflict = λ a. refl; write_back = λ a. refl; answer = λ a. refl; block = λ a. refl }; return = λ k d. refl }
no_host_act g (Act.Start h tag) sends commit of_device =
    record { snoops = λ k. record { conflict = λ a. refl; write_back = λ a. refl; answer = λ a. refl; block = λ a. refl }; return = λ k d. refl }
no_host_act g (Act.Evict h tag) sends commit of_device =
    record { snoops = λ k. record { conflict = λ a. refl; write_back = λ a. refl; answer = λ a. refl; block = λ a. refl }; return = λ k d. refl }
no_host_act g (Act.Snoop h line) sends commit of_device =
    record { snoops = λ k. record { conflict = λ a. refl; write_back = λ a. refl; answer = λ a. refl; block = λ a. refl }; return = λ k d. refl }
no_host_act g (Act.Finish line) sends commit of_device =
    record { snoops = λ k. record { conflict = λ a. refl; write_back = λ a. refl; answer = λ a. refl; block = λ a. refl }; return = λ k d. refl }
no_host_act g (Act.DeviceReturn h c) sends commit of_device =
    record { snoops = λ k. record { conflict = λ a. refl; write_back = λ a. refl; answer = λ a. refl; block = λ a. refl }; return = λ k d. refl }

-- an act that stands once among those of the device, and nowhere else
device-act-next :
    (setup : Configuration) → IsWithinLimits setup → (opening : List (Line × Bytes64)) (t : List Event) → IsRun setup opening t
    → (g : ℕ) (act : Act) (sends : Sends) (commit : Option Commit) → is_of_host act ≡ false → (act_fits setup g act ≡ true → (is_named setup act && (g == device)) ≡ true)
    → times (act_event g act sends commit) (next_device_acts setup opening t)
    ≡ counted ((is_named setup act && (g == device)) && row_holds setup opening (act_event g act sends commit) (events_of g t))
    → times (act_event g act sends commit) (next_steps setup opening t) ≡ expected_count setup opening t (act_event g act sends commit)
device-act-next setup limits opening t run g act sends commit of_device names once =
    let e : Event = act_event g act sends commit in
    let none = no_host_act g act sends commit of_device in
    parts-sum setup opening t e 0 0 _ (takes-none setup opening t e (λ h m. refl)) (all_host_acts-none setup opening t e none.snoops none.return) once
    ∙ (end-step _ ∙ ap counted (sym (device-act-allowed setup limits opening t run g act sends commit names)))

pub swap-step : (a b : Bool) → (a && b) ≡ true → (b && a) ≡ true
swap-step true true h = refl
swap-step true false h = h
swap-step false b h = absurd (false≢true h)

-- the tests in the order of the profile
regroup : (a b c : Bool) → counted (a && (b && c)) ≡ counted ((a && b) && c)
regroup true b c = refl
regroup false b c = refl

regroup-four : (a b c d : Bool) → counted (a && (b && (c && d))) ≡ counted (((a && b) && c) && d)
regroup-four true b c d = regroup b c d
regroup-four false b c d = refl

first-part : (n : ℕ) → ((n + 0) + 0) + 0 ≡ n
first-part n = omega arith

second-part : (n : ℕ) → ((0 + n) + 0) + 0 ≡ n
second-part n = omega arith

third-part : (n : ℕ) → ((0 + 0) + n) + 0 ≡ n
third-part n = omega arith

fourth-part : (n : ℕ) → ((0 + 0) + 0) + n ≡ n
fourth-part n = omega arith

pub named-with_tag : (g h : ℕ) (hosts : ℕ) (tag : Bool) → (((g == device) && nat_lt h hosts) && tag) ≡ true → (nat_lt h hosts && (g == device)) ≡ true
named-with_tag g h hosts tag fits = swap-step (g == device) (nat_lt h hosts) (and_parts _ tag fits).0

pub serve-next :
    (setup : Configuration) → IsWithinLimits setup → (opening : List (Line × Bytes64)) (t : List Event) → IsRun setup opening t
    → (g h : ℕ) (tag : Tag) (sends : Sends) (commit : Option Commit)
    → times (act_event g (Act.Serve h tag) sends commit) (next_steps setup opening t) ≡ expected_count setup opening t (act_event g (Act.Serve h tag) sends commit)
serve-next setup limits opening t run g h tag sends commit =
    let e : Event = act_event g (Act.Serve h tag) sends commit in
    device-act-next setup limits opening t run g (Act.Serve h tag) sends commit refl (named-with_tag g h setup.hosts _)
    (device_acts-sum setup opening t e _ 0 0 0 (serve-counted setup opening t (events_of_run setup opening device t run) g h tag sends commit)
    (request_acts-none setup opening t e (λ k s. (refl, refl, refl))) (tasks-none setup opening t e (λ k a. refl) (λ a. refl))
    (device_returns-none setup opening t e (λ k c. refl))
    ∙ (first-part _ ∙ regroup (nat_lt h setup.hosts) (g == device) _))

pub clean-next :
    (setup : Configuration) → IsWithinLimits setup → (opening : List (Line × Bytes64)) (t : List Event) → IsRun setup opening t
    → (g h : ℕ) (tag : Tag) (sends : Sends) (commit : Option Commit)
    → times (act_event g (Act.Clean h tag) sends commit) (next_steps setup opening t) ≡ expected_count setup opening t (act_event g (Act.Clean h tag) sends commit)
clean-next setup limits opening t run g h tag sends commit =
    let e : Event = act_event g (Act.Clean h tag) sends commit in
    device-act-next setup limits opening t run g (Act.Clean h tag) sends commit refl (named-with_tag g h setup.hosts _)
    (device_acts-sum setup opening t e 0 _ 0 0 (serves-none setup opening t e (λ k s. refl))
    (clean-counted setup opening t (events_of_run setup opening device t run) g h tag sends commit) (tasks-none setup opening t e (λ k a. refl) (λ a. refl))
    (device_returns-none setup opening t e (λ k c. refl))
    ∙ (second-part _ ∙ regroup (nat_lt h setup.hosts) (g == device) _))

pub start-next :
    (setup : Configuration) → IsWithinLimits setup → (opening : List (Line × Bytes64)) (t : List Event) → IsRun setup opening t
    → (g h : ℕ) (tag : Tag) (sends : Sends) (commit : Option Commit)
    → times (act_event g (Act.Start h tag) sends commit) (next_steps setup opening t) ≡ expected_count setup opening t (act_event g (Act.Start h tag) sends commit)
start-next setup limits opening t run g h tag sends commit =
    let e : Event = act_event g (Act.Start h tag) sends commit in
    device-act-next setup limits opening t run g (Act.Start h tag) sends commit refl (named-with_tag g h setup.hosts _)
    (device_acts-sum setup opening t e 0 _ 0 0 (serves-none setup opening t e (λ k s. refl))
    (start-counted setup opening t (events_of_run setup opening device t run) g h tag sends commit) (tasks-none setup opening t e (λ k a. refl) (λ a. refl))
    (device_returns-none setup opening t e (λ k c. refl))
    ∙ (second-part _ ∙ regroup (nat_lt h setup.hosts) (g == device) _))

pub evict-next :
    (setup : Configuration) → IsWithinLimits setup → (opening : List (Line × Bytes64)) (t : List Event) → IsRun setup opening t
    → (g h : ℕ) (tag : Tag) (sends : Sends) (commit : Option Commit)
    → times (act_event g (Act.Evict h tag) sends commit) (next_steps setup opening t) ≡ expected_count setup opening t (act_event g (Act.Evict h tag) sends commit)
evict-next setup limits opening t run g h tag sends commit =
    let e : Event = act_event g (Act.Evict h tag) sends commit in
    device-act-next setup limits opening t run g (Act.Evict h tag) sends commit refl (named-with_tag g h setup.hosts _)
    (device_acts-sum setup opening t e 0 _ 0 0 (serves-none setup opening t e (λ k s. refl))
    (evict-counted setup opening t (events_of_run setup opening device t run) g h tag sends commit) (tasks-none setup opening t e (λ k a. refl) (λ a. refl))
    (device_returns-none setup opening t e (λ k c. refl))
    ∙ (second-part _ ∙ regroup (nat_lt h setup.hosts) (g == device) _))

pub named-snoop : (at host line : Bool) → ((at && host) && line) ≡ true → ((line && host) && at) ≡ true
named-snoop at host line fits =
    let a = and_parts (at && host) line fits in
    let b = and_parts at host a.0 in
    and_from (line && host) at (and_from line host a.1 b.1) b.0

pub snoop-next :
    (setup : Configuration) → IsWithinLimits setup → (opening : List (Line × Bytes64)) (t : List Event) → IsRun setup opening t
    → (g h : ℕ) (line : Line) (sends : Sends) (commit : Option Commit)
    → times (act_event g (Act.Snoop h line) sends commit) (next_steps setup opening t) ≡ expected_count setup opening t (act_event g (Act.Snoop h line) sends commit)
snoop-next setup limits opening t run g h line sends commit =
    let e : Event = act_event g (Act.Snoop h line) sends commit in
    device-act-next setup limits opening t run g (Act.Snoop h line) sends commit refl (named-snoop (g == device) (nat_lt h setup.hosts) (nat_lt line.0 setup.lines))
    (device_acts-sum setup opening t e 0 0 _ 0 (serves-none setup opening t e (λ k s. refl)) (request_acts-none setup opening t e (λ k s. (refl, refl, refl)))
    (snoop-counted setup opening t g h line sends commit) (device_returns-none setup opening t e (λ k c. refl))
    ∙ (third-part _ ∙ regroup-four (nat_lt line.0 setup.lines) (nat_lt h setup.hosts) (g == device) _))

pub finish-next :
    (setup : Configuration) → IsWithinLimits setup → (opening : List (Line × Bytes64)) (t : List Event) → IsRun setup opening t
    → (g : ℕ) (line : Line) (sends : Sends) (commit : Option Commit)
    → times (act_event g (Act.Finish line) sends commit) (next_steps setup opening t) ≡ expected_count setup opening t (act_event g (Act.Finish line) sends commit)
finish-next setup limits opening t run g line sends commit =
    let e : Event = act_event g (Act.Finish line) sends commit in
    device-act-next setup limits opening t run g (Act.Finish line) sends commit refl (swap-step (g == device) (nat_lt line.0 setup.lines))
    (device_acts-sum setup opening t e 0 0 _ 0 (serves-none setup opening t e (λ k s. refl)) (request_acts-none setup opening t e (λ k s. (refl, refl, refl)))
    (finish-counted setup opening t g line sends commit) (device_returns-none setup opening t e (λ k c. refl))
    ∙ (third-part _ ∙ regroup (nat_lt line.0 setup.lines) (g == device) _))

pub device_return-next :
    (setup : Configuration) → IsWithinLimits setup → (opening : List (Line × Bytes64)) (t : List Event) → IsRun setup opening t
    → (g h : ℕ) (c : Channel) (sends : Sends) (commit : Option Commit)
    → times (act_event g (Act.DeviceReturn h c) sends commit) (next_steps setup opening t) ≡ expected_count setup opening t
    (act_event g (Act.DeviceReturn h c) sends commit)
device_return-next setup limits opening t run g h c sends commit =
    let e : Event = act_event g (Act.DeviceReturn h c) sends commit in
    device-act-next setup limits opening t run g (Act.DeviceReturn h c) sends commit refl (swap-step (g == device) (nat_lt h setup.hosts))
    (device_acts-sum setup opening t e 0 0 0 _ (serves-none setup opening t e (λ k s. refl)) (request_acts-none setup opening t e (λ k s. (refl, refl, refl)))
    (tasks-none setup opening t e (λ k a. refl) (λ a. refl)) (device_return-counted setup opening t g h c sends commit)
    ∙ (fourth-part _ ∙ regroup (nat_lt h setup.hosts) (g == device) _))
