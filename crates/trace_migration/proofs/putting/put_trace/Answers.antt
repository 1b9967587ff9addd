-- What comes before the first event, the events and the end record are put one after the other.
use Rattle.std.proofs.Common.{List, [], ap, arith, length, ℕ, ◌+◌, ◌≡◌, ◌≤◌}
use Rattle.std.proofs.lemmas.Result.{on_err_weaker, on_ok_weaker}
use Rattle.cxl_codec.specs.declared.versions.Version.{Version}
use Rattle.trace_stream.specs.Buffers.{reach}
use Rattle.trace_stream.specs.Writing.{begin_cost_in}
use Rattle.trace_migration.proofs.Events.{on_refusal}
use Rattle.trace_migration.proofs.Migrations.{begin_cut, begun_with, front_went}
use Rattle.trace_migration.proofs.Parts.{few_in_trace}
use Rattle.trace_migration.proofs.putting.put_trace.Goals as goal

pub begin-requires-clause-counts : goal.begin-requires-clause-counts
begin-requires-clause-counts g c =
    let head = c.args.head.now in
    let t = c.requires.surveyed in
    let few = few_in_trace c.args.bytes.now t.version head.setup head.names head.opening t.events t.trace in
    let named = few.named in
    let opened = few.opened in
    let size : length c.args.writer.now.names ≡ length head.names = ap (length {A = ℕ × List ℕ}) c.requires.names in
    let empty : length c.args.writer.now.out.waiting ≡ 0 = ap (length {A = ℕ}) c.requires.unused.empty in
    let short = c.requires.short in
    let low = c.requires.sink_counts in
    omega (arith, named, opened, size, empty, short, low)

pub returns-in_err-begin-clause-cut_short : goal.returns-in_err-begin-clause-cut_short
returns-in_err-begin-clause-cut_short g c =
    let w = c.args.writer.now in
    on_refusal c.from_residual.result (begin_cut w.out.gone c.begin.new.self.out.gone c.args.bytes.now w.version w.names c.args.head.now c.requires.version c.requires.names c.requires.surveyed c.in_err-begin.ensures.front)

pub put_events-requires-clause-counts : goal.put_events-requires-clause-counts
put_events-requires-clause-counts g c =
    let head = c.args.head.now in
    let t = c.requires.surveyed in
    let few = few_in_trace c.args.bytes.now t.version head.setup head.names head.opening t.events t.trace in
    let named = few.named in
    let opened = few.opened in
    let size : length c.args.writer.now.names ≡ length head.names = ap (length {A = ℕ × List ℕ}) c.requires.names in
    let empty : length c.args.writer.now.out.waiting ≡ 0 = ap (length {A = ℕ}) c.requires.unused.empty in
    let short = c.requires.short in
    let low = c.requires.sink_counts in
    let rises : reach c.begin.new.self.out ≤ reach c.args.writer.now.out + begin_cost_in c.args.writer.now.names head.opening = c.in_ok-begin.ensures.kept.reached in
    omega (arith, named, opened, size, empty, short, low, rises)

pub returns-in_err-put_events-clause-cut_short : goal.returns-in_err-put_events-clause-cut_short
returns-in_err-put_events-clause-cut_short g c =
    let w = c.args.writer.now in
    let head = c.args.head.now in
    let t = c.requires.surveyed in
    let begun = begun_with w.out.gone c.begin.new.self w.version w.names head c.requires.version c.requires.names c.in_ok-begin.ensures.begun in
    on_refusal c.from_residual-in_err-put_events.result
    (front_went w.out.gone c.put_events.new.writer.out.gone c.args.bytes.now t.version head.setup head.names head.opening t.events t.trace
    (c.in_err-put_events.ensures.cut_short t.version head.setup head.names head.opening t.events t.trace w.out.gone begun))

pub returns-clause-migrated : goal.returns-clause-migrated
returns-clause-migrated g c =
    let w = c.args.writer.now in
    let head = c.args.head.now in
    let t = c.requires.surveyed in
    let start = w.out.gone in
    let begun = begun_with start c.begin.new.self w.version w.names head c.requires.version c.requires.names c.in_ok-begin.ensures.begun in
    let all = c.in_ok-put_events.ensures.put t.version head.setup head.names head.opening t.events t.trace start Version.Two head.setup head.names head.opening [] begun in
    on_ok_weaker c.end.result
    (λ ends.
    record {
      version = t.version;
      setup = head.setup;
      names = head.names;
      opening = head.opening;
      events = t.events;
      trace = t.trace;
      written = ends start Version.Two head.setup head.names head.opening t.events all;
    })
    c.end.ensures.trace

pub returns-clause-cut_short : goal.returns-clause-cut_short
returns-clause-cut_short g c =
    let w = c.args.writer.now in
    let head = c.args.head.now in
    let t = c.requires.surveyed in
    let start = w.out.gone in
    let begun = begun_with start c.begin.new.self w.version w.names head c.requires.version c.requires.names c.in_ok-begin.ensures.begun in
    let all = c.in_ok-put_events.ensures.put t.version head.setup head.names head.opening t.events t.trace start Version.Two head.setup head.names head.opening [] begun in
    on_err_weaker c.end.result
    (λ short.
    front_went start c.end.new.self.out.gone c.args.bytes.now t.version head.setup head.names head.opening t.events t.trace (short start Version.Two head.setup head.names head.opening t.events all))
    c.end.ensures.front
