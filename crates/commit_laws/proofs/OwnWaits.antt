-- A host's own events follow the script of the operations that they began, so its streams are as that script's.
use Rattle.std.proofs.Common.{IsTrue, ◌≡◌, ℕ, ◌+◌, List, Some, ap, ◌∙◌, arith}
use Rattle.std.specs.Prelude.{slice_get}
use Rattle.cxl_message.specs.declared.events.Event.{Event}
use Rattle.cxl_message.specs.declared.events.Op.{Op}
use Rattle.cxl_message.specs.declared.identifiers.Bytes64.{Bytes64}
use Rattle.cxl_message.specs.declared.identifiers.Line.{Line}
use Rattle.cxl_message.specs.Setup.{Configuration, IsWithinLimits}
use Rattle.coherence_model.specs.Fitting.{is_host}
use Rattle.coherence_model.specs.OwnRuns.{IsOwnRun}
use Rattle.step_laws.proofs.OwnRuns.{host_is_no_device}
use Rattle.commit_laws.specs.Begun.{operations_of}
use Rattle.commit_laws.specs.OwnLaws.{OwnCommitsAreFirst, OwnRequestsAreAlone, OwnRequestsAreAwaited, OwnWaitsForRequest}
use Rattle.commit_laws.proofs.Fronts.{own_are_scripted}
use Rattle.commit_laws.proofs.Named.{own_names}
use Rattle.commit_laws.proofs.OwnScript.{list_at, list_is, lists_long, run_follows, script_of}
use Rattle.commit_laws.proofs.OwnStreams.{OwnKept, own_streams}
use Rattle.commit_laws.proofs.Scripted.{IsScripted, OwnScripted}

-- a host's own events are those of the script of what they began
own_script_named :
    (setup : Configuration) (opening : List (Line × Bytes64)) (g : ℕ) (mine : List Event) → IsOwnRun setup opening g mine → OwnScripted (script_of setup opening mine) g mine
own_script_named setup opening g mine run = own_are_scripted (script_of setup opening mine) (lists_long 0 setup.streams mine) g mine run (run_follows setup opening mine)

pub own_commits_are_first : OwnCommitsAreFirst
own_commits_are_first setup opening limits h host mine run s is =
    let whole : s + 0 ≡ s = omega arith in
    own_names (script_of setup opening mine) h (host_is_no_device setup limits h host) s (operations_of s mine)
    (list_at 0 setup.streams mine s h is ∙ ap (λ (k : ℕ). Some (operations_of k mine)) whole) mine run (own_script_named setup opening h mine run)

-- what is kept of its streams
kept :
    (setup : Configuration) (opening : List (Line × Bytes64)) → IsWithinLimits setup → (h : ℕ) → IsTrue (is_host setup h) → (mine : List Event) → IsOwnRun setup opening h mine
    → OwnKept (IsScripted (script_of setup opening mine) h) mine
kept setup opening limits h host mine run = own_streams (script_of setup opening mine) h (host_is_no_device setup limits h host) mine run (own_script_named setup opening h mine run)

pub own_waits_for_request : OwnWaitsForRequest
own_waits_for_request setup opening limits h host mine run s waits =
    let w = (kept setup opening limits h host mine run).awaited s waits in
    record { line = w.line; request = w.o; open_there = w.there; is_one = w.request; of_stream = w.stream }

pub own_requests_are_awaited : OwnRequestsAreAwaited
own_requests_are_awaited setup opening limits h host mine run a o there request =
    let e = (kept setup opening limits h host mine run).expected a o there request in
    let whole : o.stream ≡ o.stream + 0 = omega arith in
    record {
      waiting = e.waiting;
      last = e.index;
      operation = ap (λ (k : ℕ). slice_get (operations_of k mine) o.index) whole
          ∙ ap (λ (ops : List Op). slice_get ops o.index) (list_is 0 setup.streams mine o.stream e.named.list e.named.operations) ∙ e.named.is;
    }

pub own_requests_are_alone : OwnRequestsAreAlone
own_requests_are_alone setup opening limits h host mine run = (kept setup opening limits h host mine run).alone
