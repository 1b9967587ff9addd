use Rattle.std.proofs.Common.{ℕ, suc, ◌≡◌, ◌+◌, ◌%◌, ◌<◌, ◌∙◌, ap, arith, length, map}
use Rattle.std.proofs.lemmas.List.{length-set}
use Rattle.cxl_message.specs.declared.events.Op.{Op}
use Rattle.script_text.specs.Generator.{drawn_operation, drawn_operations, with_operation}
use Rattle.script_text.proofs.Generated.{one_more_drawn}
use Rattle.script_text.proofs.generating.draw_operations.Goals as goal

pub loop-n-preserved : goal.loop-n-preserved
loop-n-preserved c =
    let vecs = c.loop-n.streams.items in
    let so_far = drawn_operations c.args.draws.now.0 c.loop-n.n in
    let stream = c.loop-n.n % 64 in
    let there : c.loop-n.n % 64 < length vecs = omega (arith, c.loop-n.invariant.streams) in
    let drawn = c.operation-operation.ensures ∙ ap drawn_operation c.loop-n.invariant.number in
    let pushed = one_more_drawn vecs c.index_mut.result.now c.push.new.self c.operation-operation.result stream there c.index_mut.ensures.value c.in_ok-push.ensures.items in
    let next : c.loop-n.n + 1 ≡ suc c.loop-n.n = omega arith in
    rw next (record {
      streams = length-set vecs stream c.push.new.self ∙ c.loop-n.invariant.streams;
      operations = pushed ∙ ap (λ (p : Op × ℕ). with_operation stream p.0 (map (λ ops. ops.items) vecs)) drawn ∙ ap (with_operation stream (drawn_operation so_far.1).0) c.loop-n.invariant.operations;
      number = ap (λ (p : Op × ℕ). p.1) drawn;
    })
