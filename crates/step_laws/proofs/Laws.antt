-- The laws of the next steps.
use Rattle.std.proofs.Common.{◌≡◌, ℕ, ◌+◌, ◌≤◌, Bool, true, false, List, [], ◌∷◌, Option, cond, refl, sym, ◌∙◌, ap, subst, arith}
use Rattle.std.specs.Prelude.{◌==◌, ◌&&◌, IsTrue, not}
use Rattle.std.specs.List.{list_all}
use Rattle.std.specs.Option.{option_eq}
use Rattle.std.proofs.lemmas.Bool.{and_from, and_parts, eqb-true, false≢true, le-leb, leb-true}
use Rattle.cxl_message.specs.declared.events.Act.{Act}
use Rattle.cxl_message.specs.declared.events.Cause.{Cause}
use Rattle.cxl_message.specs.declared.events.Commit.{Commit}
use Rattle.cxl_message.specs.declared.events.Event.{Event}
use Rattle.cxl_message.specs.declared.events.Sends.{Sends}
use Rattle.cxl_message.specs.declared.identifiers.Bytes64.{Bytes64}
use Rattle.cxl_message.specs.declared.identifiers.Line.{Line}
use Rattle.cxl_message.specs.Events.{commit_eq, sends_eq}
use Rattle.cxl_message.specs.Messages.{channel_of, message_eq}
use Rattle.cxl_message.specs.Setup.{Configuration, IsWithinLimits}
use Rattle.coherence_model.proofs.Allowed.{allowed_takeable}
use Rattle.coherence_model.specs.Flight.{in_flight}
use Rattle.coherence_model.specs.Next.{next_steps}
use Rattle.coherence_model.specs.Runs.{IsRun, is_allowed}
use Rattle.coherence_model.specs.Weight.{is_operation}
use Rattle.cxl_message.proofs.SameEvents.{commits_same, sends_eq-same}
use Rattle.step_laws.specs.Events.{cause_eq, event_eq}
use Rattle.step_laws.specs.Laws.{AllowedStepsAreNext, EventsDecide, NextStepsAreAllowed, NextStepsAreCounted, expected_count, step_count}
use Rattle.step_laws.proofs.Counting.{operation-next, take-next}
use Rattle.step_laws.proofs.Counts.{counted, count_by-cons, list_any-count}
use Rattle.step_laws.proofs.DeviceNext.{clean-next, device_return-next, evict-next, finish-next, serve-next, snoop-next, start-next}
use Rattle.step_laws.proofs.Events.{cause_eq-same, event_eq_self}
use Rattle.step_laws.proofs.HostNext.{answer-next, answer_block-next, conflict-next, host_return-next, write_back-next}
use Rattle.step_laws.proofs.Steps.{act_event}
use Rattle.step_laws.proofs.Takes.{times}

event_same :
    (g : ℕ) (cause : Cause) (sends : Sends) (commit : Option Commit) (f : Event) → cause ≡ f.cause → g ≡ f.agent → sends ≡ f.sends → commit ≡ f.commit
    → record { agent = g; cause = cause; sends = sends; commit = commit } ≡ f
event_same g cause sends commit f a b c d = λ i. record { agent = b i; cause = a i; sends = c i; commit = d i }

-- events are counted as the same exactly where they are
pub events_decide : EventsDecide
events_decide e f = (
  λ h.
      let a = and_parts ((cause_eq e.cause f.cause && (e.agent == f.agent)) && sends_eq e.sends f.sends) (option_eq commit_eq e.commit f.commit) h in
      let b = and_parts (cause_eq e.cause f.cause && (e.agent == f.agent)) (sends_eq e.sends f.sends) a.0 in
      let c = and_parts (cause_eq e.cause f.cause) (e.agent == f.agent) b.0 in
      event_same e.agent e.cause e.sends e.commit f (cause_eq-same e.cause f.cause c.0) (eqb-true e.agent f.agent c.1) (sends_eq-same e.sends f.sends b.1)
      (commits_same e.commit f.commit a.1),
  λ same. subst (λ x. IsTrue (event_eq e x)) same (event_eq_self e),
)

-- an act stands once where it is allowed
act-next :
    (setup : Configuration) → IsWithinLimits setup → (opening : List (Line × Bytes64)) (t : List Event) → IsRun setup opening t
    → (g : ℕ) (act : Act) (sends : Sends) (commit : Option Commit)
    → times (act_event g act sends commit) (next_steps setup opening t) ≡ expected_count setup opening t (act_event g act sends commit)
act-next setup limits opening t run g (Act.Conflict line) sends commit = conflict-next setup limits opening t run g line sends commit
act-next setup limits opening t run g (Act.WriteBack line) sends commit = write_back-next setup limits opening t run g line sends commit
act-next setup limits opening t run g (Act.Answer line) sends commit = answer-next setup limits opening t run g line sends commit
act-next setup limits opening t run g (Act.AnswerBlock line) sends commit = answer_block-next setup limits opening t run g line sends commit
act-next setup limits opening t run g (Act.HostReturn c) sends commit = host_return-next setup limits opening t run g c sends commit
act-next setup limits opening t run g (Act.Serve h tag) sends commit = serve-next setup limits opening t run g h tag sends commit
act-next setup limits opening t run g (Act.Clean h tag) sends commit = clean-next setup limits opening t run g h tag sends commit
act-next setup limits opening t run g (Act.Start h tag) sends commit = start-next setup limits opening t run g h tag sends commit
act-next setup limits opening t run g (Act.Evict h tag) sends commit = evict-next setup limits opening t run g h tag sends commit
act-next setup limits opening t run g (Act.Snoop h line) sends commit = snoop-next setup limits opening t run g h line sends commit
act-next setup limits opening t run g (Act.Finish line) sends commit = finish-next setup limits opening t run g line sends commit
act-next setup limits opening t run g (Act.DeviceReturn h c) sends commit = device_return-next setup limits opening t run g h c sends commit

same-zero : (b : Bool) → 0 ≡ cond {A = ℕ} b 0 0
same-zero true = refl
same-zero false = refl

cause-next :
    (setup : Configuration) → IsWithinLimits setup → (opening : List (Line × Bytes64)) (t : List Event) → IsRun setup opening t
    → (g : ℕ) (cause : Cause) (sends : Sends) (commit : Option Commit)
    → times (record { agent = g; cause = cause; sends = sends; commit = commit }) (next_steps setup opening t) ≡ expected_count setup opening t
    (record { agent = g; cause = cause; sends = sends; commit = commit })
cause-next setup limits opening t run g (Cause.Op s i op) sends commit = operation-next setup opening t g s i op sends commit ∙ same-zero
    (is_allowed setup opening t (record { agent = g; cause = Cause.Op s i op; sends = sends; commit = commit }))
cause-next setup limits opening t run g (Cause.Take h m) sends commit = take-next setup limits opening t run g h m sends commit
cause-next setup limits opening t run g (Cause.Act act) sends commit = act-next setup limits opening t run g act sends commit

-- each event stands among the next steps as often as it should
pub next_steps_are_counted : NextStepsAreCounted
next_steps_are_counted setup opening limits t run e = cause-next setup limits opening t run e.agent e.cause e.sends e.commit

-- what has some count in a list passes: then each element passes
more-step : (b : Bool) (n : ℕ) → 1 ≤ n → 1 ≤ counted b + n
more-step true n h = omega arith
more-step false n h = omega arith

self-step : (b : Bool) (n : ℕ) → b ≡ true → 1 ≤ counted b + n
self-step true n h = omega arith
self-step false n h = absurd (false≢true h)

all-counted : (p : Event → Bool) (xs : List Event) → ((e : Event) → 1 ≤ times e xs → p e ≡ true) → list_all p xs ≡ true
all-counted p [] h = refl
all-counted p (x ∷ xs) h =
    and_from (p x) (list_all p xs) (h x (subst (λ n. 1 ≤ n) (sym (count_by-cons (event_eq x) x xs)) (self-step (event_eq x x) (times x xs) (event_eq_self x))))
    (all-counted p xs (λ e one. h e (subst (λ n. 1 ≤ n) (sym (count_by-cons (event_eq e) x xs)) (more-step (event_eq e x) (times e xs) one))))

counted-allowed : (b : Bool) (cause : Cause) (t : List Event) → 1 ≤ cond b (step_count cause t) 0 → (b && not (is_operation cause)) ≡ true
counted-allowed true (Cause.Op s i op) t one = absurd (omega arith)
counted-allowed true (Cause.Take h m) t one = refl
counted-allowed true (Cause.Act act) t one = refl
counted-allowed false cause t one = absurd (omega arith)

-- each of the next steps is allowed and isn't an operation
pub next_steps_are_allowed : NextStepsAreAllowed
next_steps_are_allowed setup opening limits t run =
    all-counted (λ e. is_allowed setup opening t e && not (is_operation e.cause)) (next_steps setup opening t)
    (λ e one. counted-allowed (is_allowed setup opening t e) e.cause t (subst (λ n. 1 ≤ n) (next_steps_are_counted setup opening limits t run e) one))

-- an allowed event that isn't an operation is counted
allowed-counted : (setup : Configuration) (opening : List (Line × Bytes64)) (t : List Event) (g : ℕ) (cause : Cause) (sends : Sends) (commit : Option Commit)
    → is_allowed setup opening t (record { agent = g; cause = cause; sends = sends; commit = commit }) ≡ true → not
    (is_operation cause) ≡ true → 1 ≤ step_count cause t
allowed-counted setup opening t g (Cause.Op s i op) sends commit allowed other = absurd (false≢true other)
allowed-counted setup opening t g (Cause.Take h m) sends commit allowed other =
    let takeable = allowed_takeable setup opening t (record { agent = g; cause = Cause.Take h m; sends = sends; commit = commit }) allowed in
    leb-true 1 _ (sym (list_any-count (message_eq m) (in_flight h (channel_of m) t)) ∙ (and_parts _ _ takeable).0)
allowed-counted setup opening t g (Cause.Act act) sends commit allowed other = omega arith

-- each event that is allowed and isn't an operation is one of the next steps
pub allowed_steps_are_next : AllowedStepsAreNext
allowed_steps_are_next setup opening limits t run e allowed other =
    let some = allowed-counted setup opening t e.agent e.cause e.sends e.commit allowed other in
    let count = next_steps_are_counted setup opening limits t run e ∙ ap (λ b. cond b (step_count e.cause t) 0) allowed in
    list_any-count (event_eq e) (next_steps setup opening t) ∙ le-leb 1 _ (subst (λ n. 1 ≤ n) (sym count) some)
