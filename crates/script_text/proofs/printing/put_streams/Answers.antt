use Rattle.std.proofs.Common.{ℕ, ◌≡◌, ◌++◌, ◌∙◌, List, Option, ap, arith, get_or, length, refl, sym}
use Rattle.std.specs.Prelude.{option_map}
use Rattle.std.specs.List.{flat_map}
use Rattle.cxl_message.specs.Names.{name_of}
use Rattle.script_text.specs.Spelling.{line_bytes, stream_line, stream_lines}
use Rattle.script_text.proofs.Appending.{stream_more, streams_all}
use Rattle.script_text.proofs.printing.put_streams.Goals as goal

pub loop-stream-init : goal.loop-stream-init
loop-stream-init c = refl

pub loop-stream-preserved : goal.loop-stream-preserved
loop-stream-preserved c =
    let hosts = c.streams-hosts.result.now in
    let same : length hosts ≡ length c.args.script.now.operations = ap (λ (hs : List ℕ). length hs) (c.streams-hosts.ensures.streams ∙ ap (λ s. s.streams) c.setup.ensures.setup) ∙ sym c.setup.ensures.script.streams in
    let named : option_map (λ name. name.now) c.name.result ≡ name_of c.args.script.now.names c.loop-stream.stream = c.name.ensures ∙ ap (λ (names : List (ℕ × List ℕ)). name_of names c.loop-stream.stream) c.names-names.ensures.names in
    stream_more c.args.script.now.names hosts c.args.script.now.operations c.loop-stream.stream 0 c.ops.result.now _ _ _ _ c.loop-stream-test.true (omega (arith, same, c.loop-stream-test.true)) c.ops.ensures.ops
    (c.in_ok-put_stream.ensures ∙ ap (λ (o : Option (List ℕ)). c.loop-stream.out.items ++ line_bytes (stream_line (get_or hosts c.loop-stream.stream 0) o)) named) c.in_ok-put_operations.ensures c.loop-stream.invariant

pub returns : goal.returns
returns c =
    streams_all c.args.script.now.names c.streams-hosts.result.now c.args.script.now.operations c.loop-stream.stream _ _ c.loop-stream-test.false c.loop-stream.invariant
    ∙ ap (λ (hosts : List ℕ). c.args.out.now.items ++ flat_map line_bytes (stream_lines c.args.script.now.names 0 hosts c.args.script.now.operations)) (c.streams-hosts.ensures.streams ∙ ap (λ s. s.streams) c.setup.ensures.setup)
