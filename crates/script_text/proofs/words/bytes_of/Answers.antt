use Rattle.std.proofs.Common.{◌+◌, ◌*◌, ◌<◌, length, take, arith, sym, ◌∙◌}
use Rattle.std.proofs.lemmas.List.{length-set, take_more_set}
use Rattle.script_text.proofs.Digits.{bytes_more}
use Rattle.script_text.proofs.words.bytes_of.Goals as goal

pub loop-i-preserved : goal.loop-i-preserved
loop-i-preserved g c =
    let within : c.loop-i.i < length c.loop-i.bytes = omega (arith, c.loop-i.invariant.whole) in
    let below : 2 * c.loop-i.i + 1 < length c.args.word.now = omega arith in
    record {
      whole = length-set c.loop-i.bytes c.loop-i.i c.in_ok-bytes.field-0 ∙ c.loop-i.invariant.whole;
      so_far = rw (take_more_set c.loop-i.bytes c.loop-i.i c.in_ok-bytes.field-0 within) (bytes_more c.args.word.now (take c.loop-i.i c.loop-i.bytes) c.loop-i.i c.in_ok-bytes.field-0 below (sym c.in_ok-bytes.ensures) c.loop-i.invariant.so_far);
    }
