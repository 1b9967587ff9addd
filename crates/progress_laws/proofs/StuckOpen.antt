-- Where no step is next, no line is Open and nothing is pending.
use Rattle.std.proofs.Common.{◌≡◌, ℕ, ◌+◌, ◌≤◌, ◌<◌, Bool, true, false, List, [], ◌∷◌, ◌++◌, Option, Some, None, length, refl, sym, ◌∙◌, ap, arith}
use Rattle.std.specs.Prelude.{count_by, is_some, nat_le, not, ◌&&◌, ◌==◌, ◌||◌}
use Rattle.std.specs.Option.{option_map_or}
use Rattle.std.proofs.lemmas.Bool.{and_parts, eqb-true, false≢true}
use Rattle.cxl_message.specs.declared.channels.Channel.{Channel}
use Rattle.cxl_message.specs.declared.events.Event.{Event}
use Rattle.cxl_message.specs.declared.identifiers.Bytes64.{Bytes64}
use Rattle.cxl_message.specs.declared.identifiers.Line.{Line}
use Rattle.cxl_message.specs.Setup.{Configuration, IsWithinLimits}
use Rattle.coherence_model.specs.Buffers.{buffered_requests, buffered_writes}
use Rattle.coherence_model.specs.Directory.{is_busy}
use Rattle.coherence_model.specs.DirectoryChanges.{directory}
use Rattle.coherence_model.specs.Next.{next_steps}
use Rattle.coherence_model.specs.Pending.{IsPending, holds_message_of, host_pending, is_pending}
use Rattle.coherence_model.specs.RequestFacts.{grant_count, grants, is_request_with, is_task_of, is_write_with, kind_is_placed, ndr_count, requests_under_way, task_count, writes_under_way}
use Rattle.coherence_model.specs.Runs.{IsRun}
use Rattle.coherence_model.specs.Snoops.{is_quiet, is_snooped}
use Rattle.coherence_model.specs.Traces.{device, events_of}
use Rattle.coherence_model.specs.Transactions.{Kind, Transaction, is_open, open_at}
use Rattle.coherence_model.specs.Words.{one_if}
use Rattle.coherence_model.specs.WriteBacks.{completes}
use Rattle.progress_laws.proofs.Stuck.{SnoopsKnown, no_flight, no_writes}
use Rattle.progress_laws.proofs.StuckDevice.{no_requests, no_task, none_below, not_busy}
use Rattle.progress_laws.proofs.StuckSnoops.{not_granted, nothing_completed, nothing_written, placed_open, unsnooped}

some_of_one : {A : Type 0} (o : Option A) → one_if (is_some o) ≡ 1 → is_some o ≡ true
some_of_one None e = absurd (omega arith)
some_of_one (Some x) e = refl

module _ (setup : Configuration) (opening : List (Line × Bytes64)) (limits : IsWithinLimits setup) (t : List Event) (run : IsRun setup opening t) (stuck : next_steps setup opening t ≡ []) (known : SnoopsKnown setup opening t)
    (h : ℕ) (less : h < setup.hosts) where
  abbrev dev : List Event
  dev = events_of device t

  abbrev mine : List Event
  mine = events_of h t

  nothing_requested : requests_under_way h t ≡ []
  nothing_requested = ap (λ ms. ms ++ buffered_requests h dev) (no_flight setup opening limits t run stuck known h Channel.Req less) ∙ no_requests setup opening limits t run stuck known h less

  request_placed : (a : ℕ) (o : Transaction) → open_at a mine ≡ Some o → (count_by (is_request_with o.kind a o.tag) (requests_under_way h t) + task_count setup h a o.tag t + grant_count h t o == 1) ≡ true → ⊥
  request_placed a o is placed =
      let one = eqb-true (count_by (is_request_with o.kind a o.tag) (requests_under_way h t) + task_count setup h a o.tag t + grant_count h t o) 1 placed in
      let requests : count_by (is_request_with o.kind a o.tag) (requests_under_way h t) ≡ 0 = ap (count_by (is_request_with o.kind a o.tag)) nothing_requested in
      let tasks : task_count setup h a o.tag t ≡ 0 = ap (λ x. one_if (option_map_or (is_task_of h o.tag) x false)) (no_task setup opening limits t run stuck known a) in
      let sent = nothing_completed setup opening limits t run stuck known h less grants o.tag in
      not_granted setup opening limits t run stuck known h less a o is (some_of_one o.grant (omega arith))

  open_placed : (a : ℕ) (o : Transaction) (k : Kind) → open_at a mine ≡ Some o → kind_is_placed k setup h a t o ≡ true → ⊥
  open_placed a o Kind.ReadShared is placed = request_placed a o is (and_parts (count_by (is_request_with o.kind a o.tag) (requests_under_way h t) + task_count setup h a o.tag t + grant_count h t o == 1) _ placed).0
  open_placed a o Kind.ReadAny is placed = request_placed a o is (and_parts (count_by (is_request_with o.kind a o.tag) (requests_under_way h t) + task_count setup h a o.tag t + grant_count h t o == 1) _ placed).0
  open_placed a o Kind.Invalidate is placed = request_placed a o is (and_parts (count_by (is_request_with o.kind a o.tag) (requests_under_way h t) + task_count setup h a o.tag t + grant_count h t o == 1) _ placed).0
  open_placed a o Kind.CleanEviction is placed =
      let one = eqb-true (count_by (is_request_with Kind.CleanEviction a o.tag) (requests_under_way h t) + ndr_count completes h o.tag t) 1 placed in
      let requests : count_by (is_request_with Kind.CleanEviction a o.tag) (requests_under_way h t) ≡ 0 = ap (count_by (is_request_with Kind.CleanEviction a o.tag)) nothing_requested in
      let done = nothing_completed setup opening limits t run stuck known h less completes o.tag in
      omega arith
  open_placed a o Kind.DirtyEviction is placed =
      let one = eqb-true (count_by (is_write_with a o.tag) (writes_under_way h t) + ndr_count completes h o.tag t) 1 placed in
      let writes : count_by (is_write_with a o.tag) (writes_under_way h t) ≡ 0 = ap (count_by (is_write_with a o.tag)) (nothing_written setup opening limits t run stuck known h less) in
      let done = nothing_completed setup opening limits t run stuck known h less completes o.tag in
      omega arith

  closed_by : (a : ℕ) (found : Option Transaction) → open_at a mine ≡ found → found ≡ None
  closed_by a None is = refl
  closed_by a (Some o) is = absurd (open_placed a o o.kind is (placed_open setup opening limits t run stuck known h less a o is))

  -- no line is Open
  pub closed : (a : ℕ) → open_at a mine ≡ None
  closed a = closed_by a (open_at a mine) refl

  pub quiet : (a : ℕ) → is_quiet a mine ≡ true
  quiet a = quiet_if (is_open a mine) (is_snooped a mine) (ap is_some (closed a)) (unsnooped setup opening limits t run stuck known h less a)
    where
      quiet_if : (x y : Bool) → x ≡ false → y ≡ false → (not x && not y) ≡ true
      quiet_if true y e f = absurd (false≢true (sym e))
      quiet_if false true e f = absurd (false≢true (sym f))
      quiet_if false false e f = refl

  pub at_rest : host_pending setup mine ≡ false
  at_rest = none_below (λ a. is_open a mine || is_snooped a mine) setup.lines (λ a line. neither (is_open a mine) (is_snooped a mine) (ap is_some (closed a)) (unsnooped setup opening limits t run stuck known h less a))
    where
      neither : (x y : Bool) → x ≡ false → y ≡ false → (x || y) ≡ false
      neither x y e f = ap (λ b. b || y) e ∙ f

  pub none_buffered : holds_message_of dev h ≡ false
  none_buffered =
      ap (λ ms. nat_le 1 (length ms) || nat_le 1 (length (buffered_writes h dev))) (no_requests setup opening limits t run stuck known h less)
      ∙ ap (λ ms. nat_le 1 (length ms)) (no_writes setup opening limits t run stuck known h less)

neither : (x y : Bool) → x ≡ false → y ≡ false → (x || y) ≡ false
neither x y e f = ap (λ b. b || y) e ∙ f

-- where no step is next, nothing is pending
pub nothing_pending :
    (setup : Configuration) (opening : List (Line × Bytes64)) → IsWithinLimits setup → (t : List Event) → IsRun setup opening t → SnoopsKnown setup opening t → next_steps setup opening t ≡ [] → is_pending setup t ≡ false
nothing_pending setup opening limits t run known stuck =
    neither _ _ (none_below (λ h. host_pending setup (events_of h t)) setup.hosts (λ h less. at_rest setup opening limits t run stuck known h less))
    (neither _ _ (none_below (is_busy (directory setup (events_of device t))) setup.lines (λ a line. not_busy setup opening limits t run stuck known a))
    (none_below (holds_message_of (events_of device t)) setup.hosts (λ h less. none_buffered setup opening limits t run stuck known h less)))

some_next : (steps : List Event) → (steps ≡ [] → ⊥) → 1 ≤ length steps
some_next [] never = absurd (never refl)
some_next (e ∷ steps) never = omega arith

-- where something is pending, some step is next
pub pending_goes_on :
    (setup : Configuration) (opening : List (Line × Bytes64)) → IsWithinLimits setup → (t : List Event) → IsRun setup opening t → SnoopsKnown setup opening t → IsPending setup t → 1 ≤ length (next_steps setup opening t)
pending_goes_on setup opening limits t run known pending = some_next (next_steps setup opening t) (λ stuck. false≢true (sym (nothing_pending setup opening limits t run known stuck) ∙ pending))
