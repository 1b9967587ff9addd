-- What holds where no step is next.
use Rattle.std.proofs.Common.{◌≡◌, ℕ, zero, suc, ◌<◌, Bool, true, false, IsTrue, List, [], ◌∷◌, length, Option, Some, None, refl, ap, sym, ◌∙◌, lt-ltb, ltb-true, arith}
use Rattle.std.specs.Prelude.{nat_lt, not, slice_get, ◌&&◌, ◌==◌}
use Rattle.std.specs.List.{list_all}
use Rattle.std.specs.Option.{option_map_or}
use Rattle.std.proofs.lemmas.Bool.{and_from, and_parts, cond-false, cond-true, eq-eqb, eqb-true}
use Rattle.std.proofs.lemmas.List.{nil_from_length}
use Rattle.std.proofs.lemmas.Option.{same_Some, slice_get_within}
use Rattle.cxl_message.specs.declared.events.Cause.{Cause}
use Rattle.cxl_message.specs.declared.events.Event.{Event}
use Rattle.cxl_message.specs.declared.events.Op.{Op}
use Rattle.cxl_message.specs.declared.identifiers.Bytes64.{Bytes64}
use Rattle.cxl_message.specs.declared.identifiers.Line.{Line}
use Rattle.cxl_message.specs.Events.{line_of}
use Rattle.cxl_message.specs.Formed.{place_exists}
use Rattle.cxl_message.specs.Setup.{Configuration, IsWithinLimits, stream_host}
use Rattle.coherence_model.specs.Emission.{Emission}
use Rattle.coherence_model.specs.Fitting.{is_device, is_host}
use Rattle.coherence_model.specs.Next.{event_with, next_steps}
use Rattle.coherence_model.specs.Pending.{is_pending}
use Rattle.coherence_model.specs.Refusals.{Answer, cause_passes, device_answer, host_answer}
use Rattle.coherence_model.specs.Rows.{emission}
use Rattle.coherence_model.specs.Rules.{most_operations, s0_stream_order}
use Rattle.coherence_model.specs.Runs.{IsRun, is_allowed}
use Rattle.coherence_model.specs.Streams.{begun_count, stream_waits}
use Rattle.coherence_model.specs.Traces.{events_of}
use Rattle.answer_laws.specs.Answered.{emitted_of}
use Rattle.answer_laws.proofs.Answers.{answer_is_row}
use Rattle.host_rows.specs.Answers.{as_result}
use Rattle.machine_agents.specs.Going.{as_event}
use Rattle.machine.specs.Offers.{offered_at}
use Rattle.machine.specs.Stands.{MachineRecord, WhereStands}
use Rattle.progress_laws.proofs.SnoopTakes.{snoops_known}
use Rattle.progress_laws.proofs.StuckOpen.{nothing_pending}
use Rattle.progress_laws.proofs.StuckOperations.{operation_begins}
use Rattle.request_laws.proofs.OwnRuns.{host_is_no_device}
use Rattle.coherence_laws.specs.Laws.{IsOffered, ReadyStreamsAreOffered}

no_member : {X : Type 0} (xs : List X) → (length xs == 0) ≡ true → xs ≡ []
no_member xs none = nil_from_length xs (eqb-true (length xs) 0 none)

-- no step is next where none is counted
pub none_is_next : (m : MachineRecord) (n : ℕ) → WhereStands m (λ setup opening t. n ≡ length (next_steps setup opening t))
    → WhereStands m (λ setup opening t. (n == 0) ≡ (length (next_steps setup opening t) == 0))
none_is_next m n is setup opening t stands = ap (λ k. k == 0) (is setup opening t stands)

-- then nothing is pending
pub nothing_pends : (m : MachineRecord) (n : ℕ) → WhereStands m (λ setup opening t. n ≡ length (next_steps setup opening t))
    → WhereStands m (λ setup opening t. IsTrue (n == 0) → is_pending setup t ≡ false)
nothing_pends m n is setup opening t stands none =
    nothing_pending setup opening stands.within t stands.run (snoops_known setup opening stands.within t stands.run) (no_member (next_steps setup opening t) (sym (none_is_next m n is setup opening t stands) ∙ none))

-- ---- operations

at_host : (p : ℕ → Bool) (xs : List ℕ) (k x : ℕ) → IsTrue (list_all p xs) → slice_get xs k ≡ Some x → p x ≡ true
at_host p [] k x all there = absurd cc
at_host p (y ∷ xs) zero x all there = ap p (sym (same_Some y x there)) ∙ (and_parts (p y) (list_all p xs) all).0
at_host p (y ∷ xs) (suc k) x all there = at_host p xs k x (and_parts (p y) (list_all p xs) all).1 there

-- the answer that emits what is emitted
emits_it : (a : Answer) (w : Emission) → emitted_of a ≡ Some w → a ≡ Answer.Emits w
emits_it (Answer.Emits v) w is = ap Answer.Emits (same_Some v w is)
emits_it Answer.NoSuchLine w is = absurd cc
emits_it Answer.Again w is = absurd cc
emits_it Answer.NoTag w is = absurd cc
emits_it Answer.NoWay w is = absurd cc
emits_it (Answer.NoCredit c) w is = absurd cc
emits_it (Answer.Broken rule) w is = absurd cc

-- what may begin is emitted
record Emitted (o : Option Emission) : Type 0 where
  emission : Emission
  is : o ≡ Some emission

begun_is_emitted : (p : Emission → Bool) (o : Option Emission) → option_map_or p o false ≡ true → Emitted o
begun_is_emitted p None may = absurd cc
begun_is_emitted p (Some w) may = record { emission = w; is = refl }

-- an answer that emits is an offer
offer_is : (setup : Configuration) (t : List Event) (s h : ℕ) (op : Op) (w : Emission) → stream_host setup s ≡ Some h
    → host_answer setup h (Cause.Op s (begun_count s (events_of h t)) op) (events_of h t) ≡ Answer.Emits w → IsOffered setup t s op
offer_is setup t s h op w of answer =
    let cause : Cause = Cause.Op s (begun_count s (events_of h t)) op in
    record { event = event_with h cause w; is = ap (offered_at setup t s op) of ∙ ap (λ a. as_event h cause (as_result a)) answer }

host_answers : (setup : Configuration) (opening : List (Line × Bytes64)) (h : ℕ) (cause : Cause) (mine : List Event) (w : Emission) → IsWithinLimits setup → IsTrue (is_host setup h)
    → IsTrue (cause_passes setup h cause) → IsTrue (s0_stream_order cause mine) → emission setup opening h cause mine ≡ Some w → host_answer setup h cause mine ≡ Answer.Emits w
host_answers setup opening h cause mine w limits host passes order emits =
    emits_it (host_answer setup h cause mine) w
    (ap emitted_of (sym (cond-false (is_device h) (device_answer setup opening cause mine) (host_answer setup h cause mine) (host_is_no_device setup limits h host)))
    ∙ answer_is_row setup opening h cause mine ∙ cond-true (cause_passes setup h cause && s0_stream_order cause mine) (emission setup opening h cause mine) None (and_from (cause_passes setup h cause) (s0_stream_order cause mine) passes order) ∙ emits)

-- where no step is next, each stream that may go on is offered each operation whose line and place exist
ready_is_offered :
    (setup : Configuration) (opening : List (Line × Bytes64)) → IsWithinLimits setup → (t : List Event) → IsRun setup opening t → next_steps setup opening t ≡ []
    → ReadyStreamsAreOffered setup t
ready_is_offered setup opening limits t run stuck s h op ready line place =
    let mine : List Event = events_of h t in
    let i : ℕ = begun_count s mine in
    let cause : Cause = Cause.Op s i op in
    let host : IsTrue (is_host setup h) = at_host (λ g. nat_lt g setup.hosts) setup.streams s h limits.stream_hosts ready.host in
    let stream : s < 64 = let there = slice_get_within setup.streams s h ready.host in let few = limits.streams in omega (arith, there, few) in
    let formed = and_from (nat_lt s 64) (place_exists op) (lt-ltb s 64 stream) place in
    let own = ap (λ o. option_map_or (λ g. g == h) o false) ready.host ∙ eq-eqb h h refl in
    let fits = and_from _ (nat_lt (line_of op) setup.lines) (and_from (is_host setup h) _ host own) (lt-ltb (line_of op) setup.lines line) in
    let passes : IsTrue (cause_passes setup h cause) = and_from _ _ formed fits in
    let order : IsTrue (s0_stream_order cause mine) =
    and_from _ (not (stream_waits s mine)) (and_from (i == begun_count s mine) (nat_lt i most_operations) (eq-eqb i i refl) (lt-ltb i most_operations ready.left)) (ap not ready.committed) in
    let begun = begun_is_emitted (λ w. is_allowed setup opening t (event_with h cause w)) (emission setup opening h cause mine)
    (operation_begins setup opening limits t run (snoops_known setup opening limits t run) stuck h host (ltb-true h setup.hosts host) s i op passes order) in
    offer_is setup t s h op begun.emission ready.host (host_answers setup opening h cause mine begun.emission limits host passes order begun.is)

pub streams_are_offered : (m : MachineRecord) (n : ℕ) → WhereStands m (λ setup opening t. n ≡ length (next_steps setup opening t))
    → WhereStands m (λ setup opening t. IsTrue (n == 0) → ReadyStreamsAreOffered setup t)
streams_are_offered m n is setup opening t stands none =
    ready_is_offered setup opening stands.within t stands.run (no_member (next_steps setup opening t) (sym (none_is_next m n is setup opening t stands) ∙ none))
