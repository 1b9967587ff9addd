-- An opening has at most 65,536 lines, at most 64 streams have names, and what a refusal leaves is a front of the trace.
use Rattle.std.proofs.Common.{IsTrue, List, ap, arith, length, subst, sym, ℕ, ◌*◌, ◌+◌, ◌∙◌, ◌≡◌, ◌≤◌}
use Rattle.std.proofs.lemmas.Result.{on_err_weaker, on_ok_weaker}
use Rattle.cxl_codec.specs.Traces.{trace_bytes_in}
use Rattle.cxl_codec.specs.Versions.{setup_fits}
use Rattle.cxl_message.specs.declared.identifiers.Bytes64.{Bytes64}
use Rattle.cxl_message.specs.declared.identifiers.Line.{Line}
use Rattle.trace_stream.specs.Buffers.{reach}
use Rattle.trace_stream.specs.Runs.{NamesFit}
use Rattle.trace_stream.specs.Writing.{WritesFront, begin_cost_in}
use Rattle.step_driver.specs.Outputs.{version_of}
use Rattle.step_driver.proofs.Loops.{of_script}
use Rattle.step_driver.proofs.Openings.{begin_cost_of}
use Rattle.step_driver.proofs.Rooms.{names_have_room, setup_has_room}
use Rattle.step_driver.proofs.putting.begin_trace.Goals as goal

pub begin-requires-clause-version : goal.begin-requires-clause-version
begin-requires-clause-version g c =
    let script = c.args.script.now in
    subst (λ version. IsTrue (setup_fits version c.setup.result.now)) (sym c.requires.new.version)
    (subst (λ setup. IsTrue (setup_fits (version_of script) setup)) (sym c.setup.ensures.setup) (setup_has_room script))

pub begin-requires-clause-named : goal.begin-requires-clause-named
begin-requires-clause-named g c =
    let script = c.args.script.now in
    let writer = c.args.writer.now in
    subst (λ version. NamesFit version (length c.setup.result.now.streams) writer.names) (sym c.requires.new.version)
    (subst (λ names. NamesFit (version_of script) (length c.setup.result.now.streams) names) (sym c.requires.new.names)
    (subst (λ setup. NamesFit (version_of script) (length setup.streams) script.names) (sym c.setup.ensures.setup) (names_have_room script c.setup.ensures.script)))

pub begin-requires-clause-counts : goal.begin-requires-clause-counts
begin-requires-clause-counts g c =
    let script = c.args.script.now in
    let cost = begin_cost_of script c.setup.ensures.script in
    let same : begin_cost_in c.args.writer.now.names c.opening.result.now ≡ begin_cost_in script.names script.opening =
    ap (λ names. begin_cost_in names c.opening.result.now) c.requires.new.names ∙ ap (begin_cost_in script.names) c.opening.ensures.opening in
    let empty : length c.args.writer.now.out.waiting ≡ 0 = ap (λ (bytes : List ℕ). length bytes) c.requires.new.unused.empty in
    omega (arith, cost, same, empty, c.requires.sink_counts)

pub returns-clause-cut_short : goal.returns-clause-cut_short
returns-clause-cut_short g c events =
    let script = c.args.script.now in
    let writer = c.args.writer.now in
    let old = writer.out.gone in
    let new = c.begin.new.self.out.gone in
    on_err_weaker c.begin.result
    (λ front.
    of_script script (λ version setup names opening. WritesFront old new (trace_bytes_in version setup names opening events)) writer.version c.setup.result.now writer.names c.opening.result.now c.requires.new.version c.setup.ensures.setup
    c.requires.new.names c.opening.ensures.opening (front events))
    c.begin.ensures.front

pub returns-clause-counts : goal.returns-clause-counts
returns-clause-counts g c =
    let script = c.args.script.now in
    let writer = c.args.writer.now in
    let cost = begin_cost_of script c.setup.ensures.script in
    let same : begin_cost_in writer.names c.opening.result.now ≡ begin_cost_in script.names script.opening =
    ap (λ names. begin_cost_in names c.opening.result.now) c.requires.new.names ∙ ap (begin_cost_in script.names) c.opening.ensures.opening in
    let low = c.requires.sink_counts in
    let empty : length writer.out.waiting ≡ 0 = ap (λ (bytes : List ℕ). length bytes) c.requires.new.unused.empty in
    on_ok_weaker c.begin.result
    (λ bound.
    let b : reach c.begin.new.self.out ≤ reach writer.out + begin_cost_in writer.names c.opening.result.now = bound in
    omega (arith, cost, same, low, empty, b))
    c.begin.ensures.kept.reached
