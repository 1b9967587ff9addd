use Rattle.script_text.proofs.Appending.{word_parts}
use Rattle.script_text.proofs.printing.put_word.Goals as goal

pub returns : goal.returns
returns c =
    word_parts c.args.out.now.items _ _ _ _ _ c.args.line.0 c.args.place c.from.result c.args.value c.in_ok-put_named.ensures c.in_ok-push.ensures.items c.in_ok-put_number.ensures c.in_ok-put_last.ensures c.from.ensures
    c.to_be_bytes.ensures
