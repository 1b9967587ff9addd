use Rattle.std.proofs.Common.{map, refl}
use Rattle.std.specs.List.{flat_map}
use Rattle.script_text.specs.Spelling.{line_bytes, op_line}
use Rattle.script_text.proofs.Appending.{appended_all, appended_more}
use Rattle.script_text.proofs.printing.put_operations.Goals as goal

pub loop-op-init : goal.loop-op-init
loop-op-init c = refl

pub loop-op-preserved : goal.loop-op-preserved
loop-op-preserved c = appended_more (λ ops. flat_map line_bytes (map op_line ops)) _ c.args.ops.now c.loop-op.op-index _ _ _ _ c.loop-op-test.true refl c.in_ok-put_operation.ensures c.loop-op.invariant

pub returns : goal.returns
returns c = appended_all (λ ops. flat_map line_bytes (map op_line ops)) c.args.ops.now c.loop-op.op-index _ _ refl c.loop-op-test.false c.loop-op.invariant
