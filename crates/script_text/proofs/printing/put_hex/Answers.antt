use Rattle.std.proofs.Common.{refl}
use Rattle.script_text.specs.Spelling.{hex}
use Rattle.script_text.proofs.Appending.{appended_all, appended_more}
use Rattle.script_text.proofs.printing.put_hex.Goals as goal

pub loop-byte-init : goal.loop-byte-init
loop-byte-init c = refl

pub loop-byte-preserved : goal.loop-byte-preserved
loop-byte-preserved c = appended_more hex _ c.args.bytes.now c.loop-byte.byte-index 0 _ _ _ c.loop-byte-test.true refl c.in_ok-put_hex_byte.ensures c.loop-byte.invariant

pub returns : goal.returns
returns c = appended_all hex c.args.bytes.now c.loop-byte.byte-index _ _ refl c.loop-byte-test.false c.loop-byte.invariant
