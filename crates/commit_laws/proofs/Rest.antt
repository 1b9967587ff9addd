-- Where nothing is pending no stream waits, so all that was begun is committed.
use Rattle.std.proofs.Common.{◌≡◌, ℕ, ◌-◌, Bool, true, false, cond, List, length, take, Option, Some, None, refl, ap, sym, ◌∙◌, arith}
use Rattle.std.specs.Prelude.{is_some, ◌||◌}
use Rattle.std.specs.List.{list_any}
use Rattle.std.proofs.lemmas.Bool.{false_from_ne_true, false≢true, ltb-true, or_left}
use Rattle.std.proofs.lemmas.List.{take_all}
use Rattle.std.proofs.lemmas.Option.{none-some}
use Rattle.cxl_message.specs.declared.events.Event.{Event}
use Rattle.cxl_message.specs.declared.identifiers.Bytes64.{Bytes64}
use Rattle.cxl_message.specs.declared.identifiers.Line.{Line}
use Rattle.cxl_message.specs.Lists.{below}
use Rattle.cxl_message.specs.Setup.{Configuration, IsWithinLimits, stream_host}
use Rattle.coherence_model.specs.Pending.{device_pending, host_pending, is_pending}
use Rattle.coherence_model.specs.Runs.{IsRun}
use Rattle.coherence_model.specs.Snoops.{is_snooped}
use Rattle.coherence_model.specs.Streams.{begun_count, stream_waits}
use Rattle.coherence_model.specs.Traces.{device, events_of}
use Rattle.coherence_model.specs.Transactions.{Transaction, is_open, open_at}
use Rattle.entry_laws.proofs.Blocks.{any_at}
use Rattle.request_laws.proofs.OpenLines.{open_leads_back}
use Rattle.coherence_model.proofs.OwnRuns.{events_of_run}
use Rattle.commit_laws.specs.Begun.{operations_of}
use Rattle.commit_laws.specs.Commits.{numbered}
use Rattle.commit_laws.specs.Laws.{AtRestAllIsCommitted, AtRestNoStreamWaits}
use Rattle.commit_laws.proofs.Begun.{begun_are_counted}
use Rattle.commit_laws.proofs.OwnScript.{commits_are_first}
use Rattle.commit_laws.proofs.OwnWaits.{own_waits_for_request}
use Rattle.commit_laws.proofs.Streams.{host_there, not_the_device}

-- a line with something open is pending
open_some : (o : Option Transaction) (x : Transaction) (snooped : Bool) → o ≡ Some x → is_some o || snooped ≡ true
open_some None x snooped is = absurd (none-some x is)
open_some (Some y) x snooped is = refl

-- where a stream waits something is pending
waits_pending :
    (setup : Configuration) (opening : List (Line × Bytes64)) → IsWithinLimits setup → (t : List Event) → IsRun setup opening t → (s h : ℕ) → stream_host setup s ≡ Some h → stream_waits s (events_of h t) ≡ true
    → is_pending setup t ≡ true
waits_pending setup opening limits t run s h host waits =
    let mine = events_of h t in
    let there = host_there setup limits s h host in
    let own = events_of_run setup opening h t run in
    let awaited = own_waits_for_request setup opening limits h there mine own s waits in
    let line = (open_leads_back setup opening h (not_the_device setup limits s h host) mine own awaited.line awaited.request awaited.open_there).line in
    or_left (list_any (λ g. host_pending setup (events_of g t)) (below setup.hosts)) (device_pending setup (events_of device t))
    (any_at (λ g. host_pending setup (events_of g t)) setup.hosts h (ltb-true h setup.hosts there)
    (any_at (λ a. is_open a mine || is_snooped a mine) setup.lines awaited.line line (open_some (open_at awaited.line mine) awaited.request (is_snooped awaited.line mine) awaited.open_there)))

pub at_rest_no_stream_waits : AtRestNoStreamWaits
at_rest_no_stream_waits setup opening limits t run idle s h host =
    false_from_ne_true (stream_waits s (events_of h t)) (λ waits. false≢true (sym idle ∙ waits_pending setup opening limits t run s h host waits))

-- where no stream waits as many are done as begun
pub all_done : (n m : ℕ) (w : Bool) → w ≡ false → n ≡ m → n - cond w 1 0 ≡ m
all_done n m true idle same = absurd (false≢true (sym idle))
all_done n m false idle same = omega arith

pub at_rest_all_is_committed : AtRestAllIsCommitted
at_rest_all_is_committed setup opening limits t run idle s h host =
    let long = begun_are_counted setup opening t run s h host in
    commits_are_first setup opening limits t run s h host
    ∙ ap (λ (n : ℕ). numbered 0 (take n (operations_of s t)))
    (all_done (begun_count s (events_of h t)) (length (operations_of s t)) (stream_waits s (events_of h t)) (at_rest_no_stream_waits setup opening limits t run idle s h host) (sym long))
    ∙ ap (numbered 0) (take_all (length (operations_of s t)) (operations_of s t) (omega arith))
