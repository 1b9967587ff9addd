-- Laws of the verdict on bytes. Every rule here is an own rule.
use Rattle.std.specs.Prelude.{List, reverse, ℕ, ◌↔◌, ◌≡◌}
use Rattle.cxl_message.specs.Setup.{Configuration}
use Rattle.cxl_message.specs.declared.events.Event.{Event}
use Rattle.cxl_message.specs.declared.identifiers.Bytes64.{Bytes64}
use Rattle.cxl_message.specs.declared.identifiers.Line.{Line}
use Rattle.cxl_message.specs.declared.states.RuleNo.{RuleNo}
use Rattle.cxl_codec.specs.declared.versions.Version.{Version}
use Rattle.coherence_model.specs.Verdicts.{verdict_on}
use Rattle.coherent_runs.specs.Coherent.{IsCoherent}
use Rattle.trace_stream.specs.declared.items.Reason.{Reason}
use Rattle.trace_stream.specs.Runs.{IsTraceIn}
use Rattle.verdict_laws.specs.Laws.{BreaksAt, RunsWith}
use Rattle.trace_check.specs.declared.verdicts.Verdict.{Verdict}
use Rattle.trace_check.specs.Verdicts.{IsVerdict, as_verdict}

-- bytes have at most one verdict
abbrev pub OneVerdict : Type 0
OneVerdict = (bytes : List ℕ) (a b : Verdict) → IsVerdict bytes a → IsVerdict bytes b → a ≡ b

-- a fact of each trace, whatever its version and its names
abbrev pub OfTraces : (List ℕ → Configuration → List (Line × Bytes64) → List Event → Type 0) → Type 0
OfTraces Says =
    (bytes : List ℕ) (version : Version) (setup : Configuration) (names : List (ℕ × List ℕ)) (opening : List (Line × Bytes64)) (events : List Event)
    → IsTraceIn bytes version setup names opening events → Says bytes setup opening events

-- the verdict on a trace is the one on its events
abbrev pub TracesAreJudged : Type 0
TracesAreJudged = OfTraces (λ bytes setup opening events. IsVerdict bytes (as_verdict (verdict_on setup opening events)))

-- and it is never that they aren't one
abbrev pub TracesHaveGoodBytes : Type 0
TracesHaveGoodBytes = OfTraces (λ bytes setup opening events. (at : ℕ) (reason : Reason) → IsVerdict bytes (Verdict.BadBytes at reason) → ⊥)

-- it is Run exactly where the events are a run, with their number and that of their commits
abbrev pub RunSaysSo : Type 0
RunSaysSo = OfTraces (λ bytes setup opening events. (n k : ℕ) → IsVerdict bytes (Verdict.Run n k) ↔ RunsWith setup opening events n k)

-- it is Broken exactly where so many events are a run and the next one breaks that rule first
abbrev pub BrokenSaysSo : Type 0
BrokenSaysSo = OfTraces (λ bytes setup opening events. (n : ℕ) (rule : RuleNo) → IsVerdict bytes (Verdict.Broken n rule) ↔ BreaksAt setup opening events n rule)

-- the events of a trace whose verdict is Run are a coherent run
abbrev pub RunsAreCoherent : Type 0
RunsAreCoherent = OfTraces (λ bytes setup opening events. (n k : ℕ) → IsVerdict bytes (Verdict.Run n k) → IsCoherent setup opening (reverse events))
