use Rattle.std.proofs.Common.{◌≡◌, suc, ◌-◌, length, List, ap, arith}
use Rattle.std.proofs.lemmas.List.{length-map}
use Rattle.cxl_message.specs.declared.events.Op.{Op}
use Rattle.cxl_message.specs.Script.{ScriptValue}
use Rattle.script_text.specs.Drafts.{script_of}
use Rattle.script_text.specs.Script.{operation_count}
use Rattle.script_text.proofs.Streams.{last_pushed, count-with_op}
use Rattle.script_text.proofs.drafts.Draft.add_operation.Goals as goal

pub returns-clause-added : goal.returns-clause-added
returns-clause-added c =
    let vec = c.args.self.now.operations in
    let place : suc (c.len-last.result - 1) ≡ length vec.items = omega (arith, vec.ok.0) in
    let pushed = last_pushed vec.items c.index_mut.result.now c.push.new.self c.args.op (c.len-last.result - 1) place c.index_mut.ensures.value c.in_ok-push.ensures.items in
    let with_operations : List (List Op) → ScriptValue = λ operations. record (script_of c.args.self.now) { operations = operations } in
    ap with_operations pushed

pub returns-clause-counted : goal.returns-clause-counted
returns-clause-counted c =
    let vec = c.args.self.now.operations in
    let place : suc (c.len-last.result - 1) ≡ length vec.items = omega (arith, vec.ok.0) in
    let pushed = last_pushed vec.items c.index_mut.result.now c.push.new.self c.args.op (c.len-last.result - 1) place c.index_mut.ensures.value c.in_ok-push.ensures.items in
    let streams = (script_of c.args.self.now).operations in
    let one = count-with_op streams c.args.op (omega (arith, length-map vec.items (λ ops. ops.items))) in
    omega (arith, one, ap operation_count pushed)
