-- How often each event stands among the next steps, by its cause.
use Rattle.std.proofs.Common.{◌≡◌, ℕ, ◌+◌, Bool, true, false, List, ◌++◌, Option, cond, refl, sym, ◌∙◌, ap, subst, arith}
use Rattle.std.specs.Prelude.{◌==◌, ◌&&◌, nat_lt, count_by}
use Rattle.std.proofs.lemmas.Bool.{and_from, and_parts, eq-eqb, eqb-true}
use Rattle.cxl_message.specs.declared.events.Act.{Act}
use Rattle.cxl_message.specs.declared.events.Cause.{Cause}
use Rattle.cxl_message.specs.declared.events.Commit.{Commit}
use Rattle.cxl_message.specs.declared.events.Event.{Event}
use Rattle.cxl_message.specs.declared.events.Op.{Op}
use Rattle.cxl_message.specs.declared.events.Sends.{Sends}
use Rattle.cxl_message.specs.declared.identifiers.Bytes64.{Bytes64}
use Rattle.cxl_message.specs.declared.identifiers.Line.{Line}
use Rattle.cxl_message.specs.declared.messages.Message.{Message}
use Rattle.cxl_message.specs.Messages.{channel_of, message_eq}
use Rattle.cxl_message.specs.Setup.{Configuration, IsWithinLimits}
use Rattle.coherence_model.proofs.Allowed.{allowed_by_halves, allowed_own, allowed_takeable, own_half_by_parts, own_half_parts}
use Rattle.coherence_model.specs.Fitting.{act_fits, is_host}
use Rattle.coherence_model.specs.Flight.{in_flight, is_takeable}
use Rattle.coherence_model.specs.Next.{next_device_acts, next_steps, receiver}
use Rattle.coherence_model.specs.Rows.{row_holds}
use Rattle.coherence_model.specs.Rules.{p0_profile}
use Rattle.coherence_model.specs.Runs.{IsRun, is_allowed}
use Rattle.coherence_model.specs.Traces.{device, events_of}
use Rattle.coherence_lemmas.proofs.Allowed.{profiled}
use Rattle.coherence_lemmas.proofs.Directions.{take_parts}
use Rattle.step_laws.specs.Events.{event_eq}
use Rattle.step_laws.specs.Laws.{expected_count}
use Rattle.step_laws.proofs.Counts.{count_by-append}
use Rattle.step_laws.proofs.DeviceParts.{device_acts-sum, device_returns-none, request_acts-none, serves-none, tasks-none}
use Rattle.step_laws.proofs.DeviceSound.{device_act_profiled, is_named}
use Rattle.step_laws.proofs.HostParts.{all_host_acts, all_host_acts-none}
use Rattle.step_laws.proofs.HostSound.{host_act_profiled}
use Rattle.coherence_model.proofs.OwnRuns.{events_of_run}
use Rattle.step_laws.proofs.Steps.{act_event}
use Rattle.step_laws.proofs.Takes.{all_takes, take_event, takes-counted, takes-none, times}
use Rattle.step_laws.proofs.TakeSound.{take_profiled}

-- the three parts of the next steps
pub parts-sum :
    (setup : Configuration) (opening : List (Line × Bytes64)) (t : List Event) (e : Event) (i j k : ℕ) → times e (all_takes setup opening t) ≡ i
    → times e (all_host_acts setup opening t) ≡ j → times e (next_device_acts setup opening t) ≡ k → times e (next_steps setup opening t) ≡ (i + j) + k
parts-sum setup opening t e i j k a b c =
    count_by-append (event_eq e) (all_takes setup opening t ++ all_host_acts setup opening t) (next_device_acts setup opening t) ∙ rw
    (count_by-append (event_eq e) (all_takes setup opening t) (all_host_acts setup opening t), a, b, c)

-- tests that imply one another are the same
pub same_test : (a b : Bool) → (a ≡ true → b ≡ true) → (b ≡ true → a ≡ true) → a ≡ b
same_test true b h k = sym (h refl)
same_test false true h k = k refl
same_test false false h k = refl

-- an operation is none of the next steps
pub operation-next : (setup : Configuration) (opening : List (Line × Bytes64)) (t : List Event) (g s i : ℕ) (op : Op) (sends : Sends) (commit : Option Commit)
    → times (record { agent = g; cause = Cause.Op s i op; sends = sends; commit = commit }) (next_steps setup opening t) ≡ 0
operation-next setup opening t g s i op sends commit =
    let e : Event = record { agent = g; cause = Cause.Op s i op; sends = sends; commit = commit } in
    parts-sum setup opening t e 0 0 0 (takes-none setup opening t e (λ h m. refl))
    (all_host_acts-none setup opening t e (λ k. record { conflict = λ a. refl; write_back = λ a. refl; answer = λ a. refl; block = λ a. refl }) (λ k c. refl))
    (device_acts-sum setup opening t e 0 0 0 0 (serves-none setup opening t e (λ h tag. refl)) (request_acts-none setup opening t e (λ h tag. (refl, refl, refl)))
    (tasks-none setup opening t e (λ h line. refl) (λ line. refl)) (device_returns-none setup opening t e (λ h c. refl)))

-- a take is allowed exactly where its host exists, its agent is the receiver, its row holds and its message may be taken
pub take-allowed :
    (setup : Configuration) → IsWithinLimits setup → (opening : List (Line × Bytes64)) (t : List Event) → IsRun setup opening t
    → (g h : ℕ) (m : Message) (sends : Sends) (commit : Option Commit)
    → is_allowed setup opening t (take_event g h m sends commit) ≡
    (nat_lt h setup.hosts && (((g == receiver h (channel_of m)) && row_holds setup opening (take_event g h m sends commit) (events_of g t)) && is_takeable m
    (in_flight h (channel_of m) t)))
take-allowed setup limits opening t run g h m sends commit =
    let e : Event = take_event g h m sends commit in
    same_test (is_allowed setup opening t e) _
    (λ allowed.
    let own = own_half_parts setup opening e (events_of g t) (allowed_own setup opening t e allowed) in
    let way = take_parts setup g h m (profiled setup e own.0).cause in
    and_from _ _ way.host (and_from _ _ (and_from _ _ (eq-eqb g (receiver h (channel_of m)) way.receiver) own.2) (allowed_takeable setup opening t e allowed)))
    (λ holds.
    let a = and_parts (nat_lt h setup.hosts) _ holds in
    let b = and_parts ((g == receiver h (channel_of m)) && row_holds setup opening e (events_of g t)) _ a.1 in
    let c = and_parts (g == receiver h (channel_of m)) _ b.0 in
    let at : g ≡ receiver h (channel_of m) = eqb-true g (receiver h (channel_of m)) c.0 in
    let row = subst (λ x. row_holds setup opening (take_event x h m sends commit) (events_of x t) ≡ true) at c.1 in
    let profile = subst (λ x. p0_profile setup (take_event x h m sends commit) ≡ true) (sym at)
    (take_profiled setup limits opening t run h m sends commit a.0 b.1 row) in
    allowed_by_halves setup opening t e (own_half_by_parts setup opening e (events_of g t) profile refl c.1) b.1)

nested-step : (b c : Bool) (n : ℕ) → cond b (cond c n 0) 0 ≡ cond (b && c) n 0
nested-step true c n = refl
nested-step false c n = refl

sum-step : (n : ℕ) → (n + 0) + (((0 + 0) + 0) + 0) ≡ n
sum-step n = omega arith

-- a take stands as often as its message is in flight, where it is allowed
pub take-next :
    (setup : Configuration) → IsWithinLimits setup → (opening : List (Line × Bytes64)) (t : List Event) → IsRun setup opening t
    → (g h : ℕ) (m : Message) (sends : Sends) (commit : Option Commit)
    → times (take_event g h m sends commit) (next_steps setup opening t) ≡ expected_count setup opening t (take_event g h m sends commit)
take-next setup limits opening t run g h m sends commit =
    let e : Event = take_event g h m sends commit in
    let n : ℕ = count_by (message_eq m) (in_flight h (channel_of m) t) in
    parts-sum setup opening t e _ 0 _ (takes-counted setup opening t g h m sends commit)
    (all_host_acts-none setup opening t e (λ k. record { conflict = λ a. refl; write_back = λ a. refl; answer = λ a. refl; block = λ a. refl }) (λ k c. refl))
    (device_acts-sum setup opening t e 0 0 0 0 (serves-none setup opening t e (λ k tag. refl)) (request_acts-none setup opening t e (λ k tag. (refl, refl, refl)))
    (tasks-none setup opening t e (λ k line. refl) (λ line. refl)) (device_returns-none setup opening t e (λ k c. refl)))
    ∙ (sum-step _ ∙ (nested-step (nat_lt h setup.hosts) _ n ∙ ap (λ b. cond b n 0) (sym (take-allowed setup limits opening t run g h m sends commit))))

-- an act is allowed exactly where its row holds and what it names exists
act-allowed : (setup : Configuration) (opening : List (Line × Bytes64)) (t : List Event) (g : ℕ) (act : Act) (sends : Sends) (commit : Option Commit) (named : Bool)
    → (act_fits setup g act ≡ true → named ≡ true) → (named ≡ true → row_holds setup opening (act_event g act sends commit) (events_of g t) ≡ true → p0_profile setup
    (act_event g act sends commit) ≡ true)
    → is_allowed setup opening t (act_event g act sends commit) ≡ (named && row_holds setup opening (act_event g act sends commit) (events_of g t))
act-allowed setup opening t g act sends commit named names profile =
    let e : Event = act_event g act sends commit in
    same_test (is_allowed setup opening t e) (named && row_holds setup opening e (events_of g t))
    (λ allowed.
    let own = own_half_parts setup opening e (events_of g t) (allowed_own setup opening t e allowed) in
    and_from _ _ (names (profiled setup e own.0).cause) own.2)
    (λ holds.
    let a = and_parts named _ holds in
    allowed_by_halves setup opening t e (own_half_by_parts setup opening e (events_of g t) (profile a.0 a.1) refl a.1) refl)

-- an act of a host
pub host-act-allowed :
    (setup : Configuration) → IsWithinLimits setup → (opening : List (Line × Bytes64)) (t : List Event) → IsRun setup opening t
    → (g : ℕ) (act : Act) (sends : Sends) (commit : Option Commit) → (act_fits setup g act ≡ true → is_host setup g ≡ true)
    → is_allowed setup opening t (act_event g act sends commit) ≡ (is_host setup g && row_holds setup opening (act_event g act sends commit) (events_of g t))
host-act-allowed setup limits opening t run g act sends commit names =
    act-allowed setup opening t g act sends commit (is_host setup g) names
    (λ host row. host_act_profiled setup limits opening g (events_of g t) (events_of_run setup opening g t run) host act sends commit row)

-- an act of the device
pub device-act-allowed :
    (setup : Configuration) → IsWithinLimits setup → (opening : List (Line × Bytes64)) (t : List Event) → IsRun setup opening t
    → (g : ℕ) (act : Act) (sends : Sends) (commit : Option Commit) → (act_fits setup g act ≡ true → (is_named setup act && (g == device)) ≡ true)
    → is_allowed setup opening t (act_event g act sends commit) ≡
    ((is_named setup act && (g == device)) && row_holds setup opening (act_event g act sends commit) (events_of g t))
device-act-allowed setup limits opening t run g act sends commit names =
    act-allowed setup opening t g act sends commit (is_named setup act && (g == device)) names
    (λ named row.
    let a = and_parts (is_named setup act) (g == device) named in
    let at : g ≡ device = eqb-true g device a.1 in
    let there = subst (λ x. row_holds setup opening (act_event x act sends commit) (events_of x t) ≡ true) at row in
    subst (λ x. p0_profile setup (act_event x act sends commit) ≡ true) (sym at)
    (device_act_profiled setup limits opening (events_of device t) (events_of_run setup opening device t run) act sends commit a.0 there))
