-- By what listing_laws keeps of a host's lines along its own events.
use Rattle.std.proofs.Common.{IsTrue, ◌≡◌, ℕ, ◌+◌, ◌≤◌, Bool, true, false, List, Some, None, refl, ap, ◌∙◌, arith}
use Rattle.std.specs.Prelude.{◌==◌}
use Rattle.std.proofs.lemmas.Bool.{cond-true, eq-eqb}
use Rattle.cxl_message.specs.declared.events.Event.{Event}
use Rattle.cxl_message.specs.declared.events.Op.{Op}
use Rattle.cxl_message.specs.declared.identifiers.Bytes64.{Bytes64}
use Rattle.cxl_message.specs.declared.identifiers.Line.{Line}
use Rattle.cxl_message.specs.Setup.{Configuration, IsWithinLimits}
use Rattle.coherence_model.specs.Fitting.{is_host}
use Rattle.coherence_model.specs.OwnRuns.{IsOwnRun}
use Rattle.cxl_message.specs.Events.{line_of}
use Rattle.coherence_model.specs.HostOperations.{request_message}
use Rattle.coherence_model.specs.Transactions.{Kind, opened, opened_by_message, is_open}
use Rattle.coherence_model.specs.Words.{one_if}
use Rattle.coherence_model.specs.Cache.{is_writable}
use Rattle.coherence_model.specs.Snoops.{is_snooped}
use Rattle.coherence_model.specs.Stages.{stage}
use Rattle.step_laws.proofs.OwnRuns.{host_is_no_device}
use Rattle.request_laws.proofs.HostOperations.{kind_of}
use Rattle.listing_laws.proofs.AskedTags.{asked_fit}
use Rattle.listing_laws.proofs.Fits.{open_lines_fit}
use Rattle.listing_laws.proofs.HostLines.{host_lines_kept, is_write_stage}
use Rattle.host_line_laws.specs.Laws.{AskedRequestsFit, IsGivenUp, OpenGrantsFit, OpenLinesAreUnwritable, OpenRequestsFit, WritingLinesAreGivenUp, WrittenLinesAreGivenUp}

-- the request message of an operation opens it for its line
message_opens : (a s i t : ℕ) (op : Op) → (line_of op == a) ≡ true → opened_by_message a s i op (request_message op t) ≡ Some (opened s i op (kind_of op) t)
message_opens a s i t (Op.Load line) is = cond-true (line.0 == a) _ None is
message_opens a s i t (Op.Word line place value) is = cond-true (line.0 == a) _ None is
message_opens a s i t (Op.Whole line bytes) is = cond-true (line.0 == a) _ None is

pub open_requests_fit : OpenRequestsFit
open_requests_fit setup opening limits h host mine run a o there request =
    let fits = (open_lines_fit setup opening h (host_is_no_device setup limits h host) mine run a o there).asked request in
    record {
      line = fits.1;
      opens = message_opens a o.stream o.index o.tag o.op (eq-eqb (line_of o.op) a fits.1) ∙ ap (λ (k : Kind). Some (opened o.stream o.index o.op k o.tag)) fits.0;
    }

pub open_grants_fit : OpenGrantsFit
open_grants_fit setup opening limits h host mine run a o c there granted =
    (open_lines_fit setup opening h (host_is_no_device setup limits h host) mine run a o there).granted c granted

pub asked_requests_fit : AskedRequestsFit
asked_requests_fit setup opening limits h host mine run a t o asked there =
    let fits = asked_fit setup opening h (host_is_no_device setup limits h host) mine run a t asked o there in
    record { tag = fits.tag; may = fits.may }

-- of two tests that are at most one together, where one holds the other fails
other_fails : (o x : Bool) → one_if o + one_if x ≤ 1 → o ≡ true → x ≡ false
other_fails true true few is = absurd (omega (arith, few))
other_fails true false few is = refl
other_fails false x few is = absurd cc

pub open_lines_are_unwritable : OpenLinesAreUnwritable
open_lines_are_unwritable setup opening limits h host mine run a is =
    other_fails (is_open a mine) (is_writable setup a mine) (host_lines_kept setup opening h (host_is_no_device setup limits h host) mine run a).0 is

-- of three tests that are at most two together, where two hold the third fails
third_fails : (n z o : Bool) → one_if n + one_if z + one_if o ≤ 2 → n ≡ true → z ≡ true → o ≡ false
third_fails true true true few sn sz = absurd (omega (arith, few))
third_fails true true false few sn sz = refl
third_fails true false o few sn sz = absurd cc
third_fails false z o few sn sz = absurd cc

-- a snooped line that was written back has been given up
given_up :
    (setup : Configuration) (opening : List (Line × Bytes64)) → IsWithinLimits setup → (h : ℕ) → IsTrue (is_host setup h) → (mine : List Event) → IsOwnRun setup opening h mine
    → (a : ℕ) → is_snooped a mine ≡ true → is_write_stage (stage setup a mine) ≡ true → IsGivenUp setup mine a
given_up setup opening limits h host mine run a snooped written =
    let kept = host_lines_kept setup opening h (host_is_no_device setup limits h host) mine run a in
    record {
      closed = third_fails (is_snooped a mine) (is_write_stage (stage setup a mine)) (is_open a mine) kept.1 snooped written;
      unwritable = third_fails (is_snooped a mine) (is_write_stage (stage setup a mine)) (is_writable setup a mine) kept.2 snooped written;
    }

pub writing_lines_are_given_up : WritingLinesAreGivenUp
writing_lines_are_given_up setup opening limits h host mine run a snooped at = given_up setup opening limits h host mine run a snooped (ap is_write_stage at)

pub written_lines_are_given_up : WrittenLinesAreGivenUp
written_lines_are_given_up setup opening limits h host mine run a snooped at = given_up setup opening limits h host mine run a snooped (ap is_write_stage at)
