-- One stream after another has begun all of its operations.
use Rattle.std.proofs.Common.{ap, arith, length, List, ◌∙◌, ◌≡◌, ℕ}
use Rattle.std.specs.List.{list_all}
use Rattle.coherence_model.specs.Choices.{is_all_begun, streams_of}
use Rattle.step_driver.proofs.Scans.{all_passed, begun_more, begun_stops, stream_there, streams_end}
use Rattle.step_driver.proofs.table.StreamTable.all_begun.Goals as goal

pub returns-then-self-stream : goal.returns-then-self-stream
returns-then-self-stream c t counted =
    let size : length c.streams-stream-end.result.now ≡ length c.args.script.now.setup.streams = ap (λ (hs : List ℕ). length hs) (c.streams-stream-end.ensures.streams ∙ ap (λ s. s.streams) c.setup.ensures.setup) in
    begun_stops c.args.script.now c.args.self.now.begun t c.loop-stream.stream c.ops.result.now counted
    (stream_there c.args.script.now c.loop-stream.stream c.ops.result.now (omega (arith, size, c.loop-stream-test.true)) c.ops.ensures.ops) c.if-self-stream.true (c.loop-stream.invariant t counted)

pub loop-stream-preserved : goal.loop-stream-preserved
loop-stream-preserved c t counted =
    let size : length c.streams-stream-end.result.now ≡ length c.args.script.now.setup.streams = ap (λ (hs : List ℕ). length hs) (c.streams-stream-end.ensures.streams ∙ ap (λ s. s.streams) c.setup.ensures.setup) in
    begun_more c.args.script.now c.args.self.now.begun t c.loop-stream.stream c.ops.result.now counted
    (stream_there c.args.script.now c.loop-stream.stream c.ops.result.now (omega (arith, size, c.loop-stream-test.true)) c.ops.ensures.ops) c.if-self-stream.false (c.loop-stream.invariant t counted)

pub returns : goal.returns
returns c t counted =
    let size : length c.streams-stream-end.result.now ≡ length c.args.script.now.setup.streams = ap (λ (hs : List ℕ). length hs) (c.streams-stream-end.ensures.streams ∙ ap (λ s. s.streams) c.setup.ensures.setup) in
    all_passed (is_all_begun t) (streams_of c.args.script.now) c.loop-stream.stream (list_all (is_all_begun t) (streams_of c.args.script.now))
    (streams_end c.args.script.now c.loop-stream.stream (omega (arith, size, c.loop-stream-test.false))) (c.loop-stream.invariant t counted)
